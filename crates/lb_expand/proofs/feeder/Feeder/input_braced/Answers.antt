use Rattle.std.proofs.Common.{[], List, ap, sym, subst, true}
use Rattle.std.specs.Prelude.{Ok}
use Rattle.lb_base.specs.declared.token.Tok.{Tok}
use Rattle.lb_model.specs.declared.open.Purpose.TheVariants.{Input}
use Rattle.lb_model.specs.Configs.{Config, in_file, looks_in_file}
use Rattle.lb_model.specs.Readings.{looks_taken, taken}
use Rattle.lb_model_grammar.specs.Arguments.{group}
use Rattle.lb_model_expansion.specs.Expansion.{word_behind}
use Rattle.lb_model_expansion.specs.Steps.{Performed, with_outcome}
use Rattle.lb_model_expansion.specs.declared.expansion.Went.TheVariants.{Stopped}
use Rattle.std.specs.declared.alloc.AllocError.{AllocError}
use Rattle.lb_expand.specs.Performs.{Performs}
use Rattle.lb_expand.proofs.PassLemmas.{at-fault, read-performs, read-stops}
use Rattle.lb_expand.proofs.feeder.Feeder.input_braced.Goals as goal

-- what is done with the tokens
next : List Tok → Config → Performed
next toks d = word_behind toks Input d

pub returns-in-Ok-clause-performs : goal.returns-in-Ok-clause-performs
unfolding next
returns-in-Ok-clause-performs g c =
    let r = c.in-Ok.ensures.reads in
    read-performs g.C.Cells (taken in_file (group true 0 [])) (looks_taken in_file looks_in_file (group true 0 [])) next c.in-Ok.toks c.put_text.result
    (record { narrows = r.narrows; reads = r.ok; stands = r.stands; groups = ap (λ o. o.groups) r.origin; made = ap (λ o. o.made) r.origin; loan = ap (λ o. o.inner) r.origin }) c.put_text.ensures.performs

pub returns-in-Err-Fault-clause-performs : goal.returns-in-Err-Fault-clause-performs
unfolding next
returns-in-Err-Fault-clause-performs g c =
    let r = c.in-Err-Fault.ensures.reads in
    subst (λ k. Performs {E = AllocError} g.C.Cells (λ d. with_outcome (taken in_file (group true 0 []) d) (looks_taken in_file looks_in_file (group true 0 []) d) next) (Ok (Stopped k)) c.read_group.new.feed.cells.now c.read_group.new.feed.desk.now c.args.self.now.cells.now c.args.self.now.desk.now) (sym c.in-Err-Fault.kind-is)
    (
    read-stops g.C.Cells (taken in_file (group true 0 [])) (looks_taken in_file looks_in_file (group true 0 [])) next c.in-Err-Fault.kind
    (record { narrows = r.narrows; reads = at-fault _ _ c.in-Err-Fault.kind c.in-Err-Fault.field-0-is r.fault; stands = r.stands; groups = ap (λ o. o.groups) r.origin; made = ap (λ o. o.made) r.origin; loan = ap (λ o. o.inner) r.origin })
    )
