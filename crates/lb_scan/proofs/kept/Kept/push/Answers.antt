use Rattle.std.proofs.Common.{◌∙◌, ◌++◌, ◌∷◌, [], ap, sym}
use Rattle.lb_model_grammar.specs.Scans.{tokens_in}
use Rattle.lb_scan.specs.declared.kept.Kept.TheInside.{Inside}
use Rattle.lb_scan.proofs.StageLemmas.{no-token, tokens-in-none, tokens-in-one}
use Rattle.lb_scan.proofs.kept.Kept.push.Goals as goal
use Rattle.lb_scan.proofs.kept.Kept.push.Goals.{in-Tok+in_ok-push, in_default}

pub invariant_of-self-2 : goal.invariant_of-self-2
invariant_of-self-2 c =
    let items = c.self.inside.past.items in
    elim c.match-given.branch [
      | in-Tok+in_ok-push w ↦
          ap (λ (i : Inside). i.toks) w.self-inside-is
          ∙ w.in_ok-push.ensures.ok
          ∙ ap (λ l. l ++ w.in-Tok.tok ∷ []) c.self.invariant
          ∙ sym (ap tokens_in c.and-past.ensures ∙ ap (λ g. tokens_in (items ++ g ∷ [])) w.in-Tok.is ∙ tokens-in-one items w.in-Tok.tok)
      | in_default w ↦
          ap (λ (i : Inside). i.toks) w.self-inside-is
          ∙ c.self.invariant
          ∙ sym (ap tokens_in c.and-past.ensures ∙ tokens-in-none items c.args.given (no-token c.args.given w.in_default.not-Tok))
    ]
