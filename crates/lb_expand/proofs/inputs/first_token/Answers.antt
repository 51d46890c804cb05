use Rattle.std.proofs.Common.{◌∙◌, List, ap, sym, refl}
use Rattle.std.specs.Prelude.{if◌then◌else◌}
use Rattle.lb_base.specs.declared.fault.Kind.TheVariants.{Runaway}
use Rattle.lb_model_grammar.specs.Scans.Meant.{Ended}
use Rattle.lb_model_grammar.specs.declared.given.Given.{Given}
use Rattle.lb_model_expansion.specs.Expansion.{first_token}
use Rattle.lb_expand.proofs.PlainLemmas.{fed, owed-token, reads-done, reads-end, reads-fault}
use Rattle.lb_expand.proofs.inputs.first_token.Goals as goal

pub returns-in-Err : goal.returns-in-Err
returns-in-Err g c =
    let l = c.tokens in
    record {
      reads = reads-fault g.F.Feed c.args.passes first_token _ _ c.in-Err.stop c.take_from.new.feed l.feed c.args.feed.now l.invariant.owed refl c.in-Err.ensures.narrows c.in-Err.ensures.fault
          c.in-Err.ensures.notes_on_fault c.in-Err.ensures.stands c.in-Err.ensures.origin;
    }

pub returns-in-Ok-None : goal.returns-in-Ok-None
returns-in-Ok-None g c =
    let F = g.F.Feed in
    let l = c.tokens in
    let s = c.in-Ok-None in
    record {
      reads = reads-end F c.args.passes first_token Runaway c.take_from.new.feed l.feed c.args.feed.now l.invariant.owed refl
          (fed F c.args.passes _ _ c.take_from.new.feed l.feed s.field-0-is s.ensures.narrows s.ensures.ok s.ensures.notes s.ensures.stands s.ensures.origin) refl;
    }

pub returns-in-Ok-Some : goal.returns-in-Ok-Some
returns-in-Ok-Some g c =
    let F = g.F.Feed in
    let l = c.tokens in
    let s = c.in-Ok-Some in
    let other = sym c.is_space.ensures ∙ c.if-is_space.false in
    let r = λ (given : List Given). Ended s.tok given in
    let now =
    owed-token F c.args.passes first_token r s.tok c.take_from.new.feed l.feed c.args.feed.now l.invariant.owed refl
    (fed F c.args.passes _ _ c.take_from.new.feed l.feed s.field-0-is s.ensures.narrows s.ensures.ok s.ensures.notes s.ensures.stands s.ensures.origin) (λ given. ap (λ b. if b then first_token given else Ended s.tok given) other)
    in
    record { reads = reads-done F c.args.passes r s.tok c.take_from.new.feed c.args.feed.now now refl }

pub tokens-preserved : goal.tokens-preserved
tokens-preserved g c =
    let F = g.F.Feed in
    let l = c.tokens in
    let s = c.in-Ok-Some in
    let space = sym c.is_space.ensures ∙ c.if-is_space.true in
    record {
      owed = owed-token F c.args.passes first_token first_token s.tok c.take_from.new.feed l.feed c.args.feed.now l.invariant.owed refl
          (fed F c.args.passes _ _ c.take_from.new.feed l.feed s.field-0-is s.ensures.narrows s.ensures.ok s.ensures.notes s.ensures.stands s.ensures.origin) (λ given. ap (λ b. if b then first_token given else Ended s.tok given) space);
    }
