use Rattle.std.proofs.Common.{◌∙◌, ◌∷◌, ◌≤◌, [], ap, sym, subst, refl, false}
use Rattle.lb_base.specs.declared.fault.Kind.TheVariants.{Runaway}
use Rattle.lb_model_engine.specs.Definitions.{parameter_text}
use Rattle.lb_model_grammar.specs.Scans.Meant.{Ended}
use Rattle.lb_args.proofs.ReadingLemmas.{fed, owed-is, owed-token, reads-done, reads-end, reads-fault, reads-wrong}
use Rattle.lb_engine.proofs.ParameterLemmas.{text-end}
use Rattle.lb_engine.specs.Parameters.{counted, turned}
use Rattle.lb_engine.proofs.parameters.read_parameters.Goals as goal
use Rattle.lb_engine.proofs.parameters.read_parameters.Goals.{in-Marks+in-Word-1, in-Marks+in-Char-1, in-Adds+in_ok-push-in-Adds, in-Counts+in_ok-push-in-Counts+in-Word-1, in-Counts+in_ok-push-in-Counts+in-Char-1}

pub returns-in-Err : goal.returns-in-Err
returns-in-Err g c =
    let l = c.tokens in
    record {
      reads = reads-fault g.F.Feed (parameter_text l.marked l.parameters l.tokens) _ _ c.in-Err.stop c.in_file.new.self l.feed c.args.feed.now l.invariant.owed refl c.in-Err.ensures.narrows c.in-Err.ensures.fault
          c.in-Err.ensures.notes_on_fault c.in-Err.ensures.stands c.in-Err.ensures.origin;
    }

pub returns-in-Ok-None : goal.returns-in-Ok-None
returns-in-Ok-None g c =
    let F = g.F.Feed in
    let l = c.tokens in
    let s = c.in-Ok-None in
    record {
      reads = reads-end F (parameter_text l.marked l.parameters l.tokens) Runaway c.in_file.new.self l.feed c.args.feed.now l.invariant.owed refl
          (fed F _ _ c.in_file.new.self l.feed s.field-0-is s.ensures.narrows s.ensures.ok s.ensures.notes s.ensures.stands s.ensures.origin) (text-end l.marked l.parameters l.tokens);
    }

pub returns-in-Fails : goal.returns-in-Fails
returns-in-Fails g c =
    let F = g.F.Feed in
    let l = c.tokens in
    let s = c.in-Ok-Some in
    let r = turned c.turn_of.result l.parameters l.tokens s.tok in
    let now =
    owed-token F (parameter_text l.marked l.parameters l.tokens) r s.tok c.in_file.new.self l.feed c.args.feed.now l.invariant.owed refl
    (fed F _ _ c.in_file.new.self l.feed s.field-0-is s.ensures.narrows s.ensures.ok s.ensures.notes s.ensures.stands s.ensures.origin)
    (λ given. c.turn_of.ensures.turn l.tokens given (sym c.len.ensures))
    in
    record { reads = reads-wrong F r c.in-Fails.kind c.in_file.new.self c.args.feed.now now (ap (λ t. turned t l.parameters l.tokens s.tok []) c.in-Fails.is) }

pub returns-in-Ends : goal.returns-in-Ends
returns-in-Ends g c =
    let F = g.F.Feed in
    let l = c.tokens in
    let s = c.in-Ok-Some in
    let r = turned c.turn_of.result l.parameters l.tokens s.tok in
    let now =
    owed-token F (parameter_text l.marked l.parameters l.tokens) r s.tok c.in_file.new.self l.feed c.args.feed.now l.invariant.owed refl
    (fed F _ _ c.in_file.new.self l.feed s.field-0-is s.ensures.narrows s.ensures.ok s.ensures.notes s.ensures.stands s.ensures.origin)
    (λ given. c.turn_of.ensures.turn l.tokens given (sym c.len.ensures))
    in
    record { reads = reads-done F r _ c.in_file.new.self c.args.feed.now now (ap (λ t. turned t l.parameters l.tokens s.tok []) c.in-Ends.is) }

pub returns-in-EndsMarked : goal.returns-in-EndsMarked
returns-in-EndsMarked g c =
    let F = g.F.Feed in
    let l = c.tokens in
    let s = c.in-Ok-Some in
    let r = turned c.turn_of.result l.parameters l.tokens s.tok in
    let now =
    owed-token F (parameter_text l.marked l.parameters l.tokens) r s.tok c.in_file.new.self l.feed c.args.feed.now l.invariant.owed refl
    (fed F _ _ c.in_file.new.self l.feed s.field-0-is s.ensures.narrows s.ensures.ok s.ensures.notes s.ensures.stands s.ensures.origin)
    (λ given. c.turn_of.ensures.turn l.tokens given (sym c.len.ensures))
    in
    record {
      reads = reads-done F r _ c.in_file.new.self c.args.feed.now now
          (
          ap (λ t. turned t l.parameters l.tokens s.tok []) c.in-EndsMarked.is
          ∙ (λ i. Ended (record { tokens = sym c.in_ok-push-in-EndsMarked.ensures.ok i; brace = sym c.in_ok-brace-in-EndsMarked.ensures i ∷ [] }) [])
          );
    }

pub tokens-preserved : goal.tokens-preserved
tokens-preserved g c =
    let F = g.F.Feed in
    let l = c.tokens in
    let s = c.in-Ok-Some in
    let n = l.parameters in
    let toks = l.tokens in
    let r = turned c.turn_of.result n toks s.tok in
    let m = parameter_text c.match-turn_of.marked c.match-turn_of.parameters c.match-turn_of.tokens in
    let now =
    owed-token F (parameter_text l.marked l.parameters l.tokens) r s.tok c.in_file.new.self l.feed c.args.feed.now l.invariant.owed refl
    (fed F _ _ c.in_file.new.self l.feed s.field-0-is s.ensures.narrows s.ensures.ok s.ensures.notes s.ensures.stands s.ensures.origin)
    (λ given. c.turn_of.ensures.turn l.tokens given (sym c.len.ensures))
    in
    elim c.match-turn_of.branch [
      | in-Marks+in-Word-1 w ↦ record {
        owed = owed-is F r m c.in_file.new.self c.args.feed.now
            (ap (λ t given. turned t n toks s.tok given) w.in-Marks.is ∙ (λ i given. parameter_text (sym w.marked-is i) (sym w.parameters-is i) (sym w.tokens-is i) given)) now;
        few = subst (λ k. k ≤ 9) (sym w.parameters-is) l.invariant.few;
      }
      | in-Marks+in-Char-1 w ↦ record {
        owed = owed-is F r m c.in_file.new.self c.args.feed.now
            (ap (λ t given. turned t n toks s.tok given) w.in-Marks.is ∙ (λ i given. parameter_text (sym w.marked-is i) (sym w.parameters-is i) (sym w.tokens-is i) given)) now;
        few = subst (λ k. k ≤ 9) (sym w.parameters-is) l.invariant.few;
      }
      | in-Adds+in_ok-push-in-Adds w ↦ record {
        owed = owed-is F r m c.in_file.new.self c.args.feed.now
            (
            ap (λ t given. turned t n toks s.tok given) w.in-Adds.is ∙ (λ i given. parameter_text false n (sym w.in_ok-push-in-Adds.ensures.ok i) given)
            ∙ (λ i given. parameter_text (sym w.marked-is i) (sym w.parameters-is i) (sym w.tokens-is i) given)
            ) now;
        few = subst (λ k. k ≤ 9) (sym w.parameters-is) l.invariant.few;
      }
      | in-Counts+in_ok-push-in-Counts+in-Word-1 w ↦ record {
        owed = owed-is F r m c.in_file.new.self c.args.feed.now
            (
            ap (λ t given. turned t n toks s.tok given) w.in-Counts.is ∙ (λ i given. parameter_text false w.in-Counts.next (sym w.in_ok-push-in-Counts.ensures.ok i) given)
            ∙ (λ i given. parameter_text (sym w.marked-is i) (sym w.parameters-is i) (sym w.tokens-is i) given)
            ) now;
        few = subst (λ k. k ≤ 9) (sym w.parameters-is) (subst (λ t. counted t ≤ 9) w.in-Counts.is c.turn_of.ensures.few);
      }
      | in-Counts+in_ok-push-in-Counts+in-Char-1 w ↦ record {
        owed = owed-is F r m c.in_file.new.self c.args.feed.now
            (
            ap (λ t given. turned t n toks s.tok given) w.in-Counts.is ∙ (λ i given. parameter_text false w.in-Counts.next (sym w.in_ok-push-in-Counts.ensures.ok i) given)
            ∙ (λ i given. parameter_text (sym w.marked-is i) (sym w.parameters-is i) (sym w.tokens-is i) given)
            ) now;
        few = subst (λ k. k ≤ 9) (sym w.parameters-is) (subst (λ t. counted t ≤ 9) w.in-Counts.is c.turn_of.ensures.few);
      }
    ]
