use Rattle.std.proofs.Common.{◌≡◌, ◌∙◌, ◌≤◌, ◌+◌, [], List, true, ap, sym, refl, arith}
use Rattle.lb_base.specs.declared.fault.Kind.TheVariants.{IfOpen}
use Rattle.lb_base.specs.declared.token.Tok.{Tok}
use Rattle.lb_model.specs.Conditionals.{looks_skipped, skipped}
use Rattle.lb_model.specs.Configs.{Config, asked, meaning_now}
use Rattle.lb_model.specs.Expandables.{mark_of}
use Rattle.lb_model.specs.Meanings.{meaning_in}
use Rattle.lb_model.specs.Readings.{looks_with_meaning, noting, whole}
use Rattle.lb_model.specs.Settings.{Setting}
use Rattle.lb_model.specs.declared.place.Got.TheVariants.{End as GotEnd}
use Rattle.lb_model.proofs.FedLemmas.{fault-marked}
use Rattle.lb_model.proofs.TakenLemmas.{meaning-none, meaning-token, reading, reading-done, reading-end, reading-token}
use Rattle.lb_model_grammar.specs.Conditionals.{stop, stop_as}
use Rattle.lb_model_grammar.specs.declared.given.Given.{Given}
use Rattle.lb_model_grammar.specs.declared.given.Want.TheVariants.{Plain}
use Rattle.lb_cond.specs.Stops.{level_of, stopped_by}
use Rattle.lb_cond.proofs.skipping.skip_to.Goals as goal

pub returns-in-Err : goal.returns-in-Err
returns-in-Err g c =
    let F = g.F.Feed in
    let l = c.tokens in
    let begun = c.args.feed.now in
    let marks = λ (p : Setting) (tok : Tok). mark_of (meaning_now (F.configuration begun p) tok) in
    record {
      reads = record {
        narrows = λ p h. l.invariant.narrows p (c.in-Err.ensures.narrows p h);
        ok = tt;
        fault =
            fault-marked F (λ p. stop (marks p) l.level l.sought) Plain (λ p. noting (skipped c.args.inside c.args.target) (looks_skipped c.args.inside c.args.target) (F.configuration begun p) (F.notes begun))
            c.in-Err.stop c.plain.new.self l.feed (λ p h. sym (l.invariant.rest p (c.in-Err.ensures.narrows p h))) (λ p. refl) c.in-Err.ensures.fault c.in-Err.ensures.notes_on_fault;
        stands = λ p h s. c.in-Err.ensures.stands p h (l.invariant.stands p (c.in-Err.ensures.narrows p h) s);
        origin = c.in-Err.ensures.origin ∙ l.invariant.origin;
      };
    }

pub returns-in-Ok-None : goal.returns-in-Ok-None
returns-in-Ok-None g c =
    let F = g.F.Feed in
    let l = c.tokens in
    let begun = c.args.feed.now in
    let marks = λ (p : Setting) (tok : Tok). mark_of (meaning_now (F.configuration begun p) tok) in
    record {
      reads = record {
        narrows = λ p h. l.invariant.narrows p (c.in-Ok-None.ensures.narrows p h);
        ok = tt;
        fault =
            λ p h.
            let d = F.configuration c.plain.new.self p in
            let taking = c.in-Ok-None.ensures.ok p h ∙ ap (λ o. record { got = asked o; next = d }) c.in-Ok-None.field-0-is in
            sym (l.invariant.rest p (c.in-Ok-None.ensures.narrows p h))
            ∙ reading-end true looks_with_meaning (stop (marks p) l.level l.sought) Plain (F.configuration l.feed p) d IfOpen (F.notes l.feed) (F.notes c.plain.new.self) refl taking refl
            (meaning-none (F.configuration l.feed p) (record { got = GotEnd; next = d }) (F.notes l.feed) (F.notes c.plain.new.self) taking refl (c.in-Ok-None.ensures.notes p h));
        stands = λ p h s. c.in-Ok-None.ensures.stands p h (l.invariant.stands p (c.in-Ok-None.ensures.narrows p h) s);
        origin = c.in-Ok-None.ensures.origin ∙ l.invariant.origin;
      };
    }

pub returns-in-Stops : goal.returns-in-Stops
returns-in-Stops g c =
    let F = g.F.Feed in
    let l = c.tokens in
    let tok = c.in-Ok-Some.tok in
    let begun = c.args.feed.now in
    let marks = λ (p : Setting) (t : Tok). mark_of (meaning_now (F.configuration begun p) t) in
    record {
      reads = record {
        narrows = λ p h. l.invariant.narrows p (c.in-Ok-Some.ensures.narrows p (c.in-Ok.ensures.narrows p h));
        ok =
            λ p h.
            let before = c.in-Ok.ensures.narrows p h in
            let first = c.in-Ok-Some.ensures.narrows p before in
            let d = F.configuration c.plain.new.self p in
            let taking = c.in-Ok-Some.ensures.ok p before ∙ ap (λ o. record { got = asked o; next = d }) c.in-Ok-Some.field-0-is in
            let world = ap (λ t. t.next.world) (sym taking) ∙ l.invariant.world p first in
            let cells = ap (λ t. t.next.cells) (sym taking) ∙ l.invariant.cells p first in
            let mark : marks p tok ≡ c.mark_of-mark.result =
            (λ i. mark_of (meaning_in (sym world i) (sym cells i).now tok)) ∙ ap mark_of (c.in-Ok.ensures.value p h) ∙ sym c.mark_of-mark.ensures
            in
            let notes = meaning-token (F.configuration l.feed p) d tok (F.notes l.feed) (F.notes c.plain.new.self) (F.notes c.meaning.new.self) taking (c.in-Ok-Some.ensures.notes p before) c.in-Ok.ensures.notes in
            let r = λ (given : List Given). stopped_by (c.turn_of-turn.result) (marks p) given in
            sym (l.invariant.rest p first)
            ∙ reading-token true looks_with_meaning (stop (marks p) l.level l.sought) r Plain (F.configuration l.feed p) d tok (F.notes l.feed) (F.notes c.meaning.new.self) refl taking notes
            (λ given. ap (λ m. stop_as m l.level l.sought (λ n s. stop (marks p) n s given) given) mark ∙ c.turn_of-turn.ensures.turn (marks p) given)
            ∙ reading-done true looks_with_meaning r c.in-Stops.stopper d (F.notes c.meaning.new.self) (ap (λ t. stopped_by t (marks p) []) c.in-Stops.is)
            ∙ ap (λ f. record { took = whole c.in-Stops.stopper f; notes = F.notes c.meaning.new.self }) (sym (c.in-Ok.ensures.stays p h));
        fault = tt;
        stands =
            λ p h s.
            let before = c.in-Ok.ensures.narrows p h in
            c.in-Ok.ensures.stands p h (c.in-Ok-Some.ensures.stands p before (l.invariant.stands p (c.in-Ok-Some.ensures.narrows p before) s));
        origin = c.in-Ok.ensures.origin ∙ c.in-Ok-Some.ensures.origin ∙ l.invariant.origin;
      };
    }

pub tokens-preserved : goal.tokens-preserved
tokens-preserved g c =
    let F = g.F.Feed in
    let l = c.tokens in
    let tok = c.in-Ok-Some.tok in
    let begun = c.args.feed.now in
    let marks = λ (p : Setting) (t : Tok). mark_of (meaning_now (F.configuration begun p) t) in
    record {
      narrows = λ p h. l.invariant.narrows p (c.in-Ok-Some.ensures.narrows p (c.in-Ok.ensures.narrows p h));
      world =
          λ p h.
          let before = c.in-Ok.ensures.narrows p h in
          ap (λ (f : Config). f.world) (c.in-Ok.ensures.stays p h)
          ∙ ap (λ t. t.next.world) (sym (c.in-Ok-Some.ensures.ok p before))
          ∙ l.invariant.world p (c.in-Ok-Some.ensures.narrows p before);
      cells =
          λ p h.
          let before = c.in-Ok.ensures.narrows p h in
          ap (λ (f : Config). f.cells) (c.in-Ok.ensures.stays p h)
          ∙ ap (λ t. t.next.cells) (sym (c.in-Ok-Some.ensures.ok p before))
          ∙ l.invariant.cells p (c.in-Ok-Some.ensures.narrows p before);
      rest =
          λ p h.
          let before = c.in-Ok.ensures.narrows p h in
          let first = c.in-Ok-Some.ensures.narrows p before in
          let d = F.configuration c.plain.new.self p in
          let taking = c.in-Ok-Some.ensures.ok p before ∙ ap (λ o. record { got = asked o; next = d }) c.in-Ok-Some.field-0-is in
          let world = ap (λ t. t.next.world) (sym taking) ∙ l.invariant.world p first in
          let cells = ap (λ t. t.next.cells) (sym taking) ∙ l.invariant.cells p first in
          let mark : marks p tok ≡ c.mark_of-mark.result =
          (λ i. mark_of (meaning_in (sym world i) (sym cells i).now tok)) ∙ ap mark_of (c.in-Ok.ensures.value p h) ∙ sym c.mark_of-mark.ensures
          in
          let notes = meaning-token (F.configuration l.feed p) d tok (F.notes l.feed) (F.notes c.plain.new.self) (F.notes c.meaning.new.self) taking (c.in-Ok-Some.ensures.notes p before) c.in-Ok.ensures.notes in
          let r = stop (marks p) c.in-Goes.next c.in-Goes.further in
          ap (λ f. reading true looks_with_meaning r f (F.notes c.meaning.new.self)) (c.in-Ok.ensures.stays p h)
          ∙ sym
          (
          reading-token true looks_with_meaning (stop (marks p) l.level l.sought) r Plain (F.configuration l.feed p) d tok (F.notes l.feed) (F.notes c.meaning.new.self) refl taking notes
          (
          λ given.
          ap (λ m. stop_as m l.level l.sought (λ n s. stop (marks p) n s given) given) mark ∙ c.turn_of-turn.ensures.turn (marks p) given ∙ ap (λ t. stopped_by t (marks p) given) c.in-Goes.is
          )
          )
          ∙ l.invariant.rest p first;
      small =
          let small = l.invariant.small in
          let level : c.in-Goes.next ≤ l.level + 1 = rw (ap level_of (sym c.in-Goes.is)) c.turn_of-turn.ensures.small in
          omega (arith, small, level);
      stands =
          λ p h s.
          let before = c.in-Ok.ensures.narrows p h in
          c.in-Ok.ensures.stands p h (c.in-Ok-Some.ensures.stands p before (l.invariant.stands p (c.in-Ok-Some.ensures.narrows p before) s));
      origin = c.in-Ok.ensures.origin ∙ c.in-Ok-Some.ensures.origin ∙ l.invariant.origin;
    }
