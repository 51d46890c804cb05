use Rattle.std.specs.declared.alloc.AllocError.{AllocError}
use Rattle.std.proofs.Common.{List, Ok, true, ap, subst, sym}
use Rattle.lb_base.specs.declared.token.Tok.{Tok}
use Rattle.lb_model.specs.declared.open.Purpose.{Purpose}
use Rattle.lb_model.specs.Configs.{Config, in_file, looks_in_file}
use Rattle.lb_model.specs.Readings.{looks_taken, taken}
use Rattle.lb_model_grammar.specs.Arguments.{undelimited}
use Rattle.lb_model_expansion.specs.Expansion.{word_behind, word_taken}
use Rattle.lb_model_expansion.specs.declared.expansion.Went.TheVariants.{Stopped}
use Rattle.lb_expand.specs.Performs.{Performs}
use Rattle.lb_model_expansion.specs.Steps.{Performed}
use Rattle.lb_expand.proofs.PassLemmas.{at-fault, read-performs, read-stops}
use Rattle.lb_expand.proofs.feeder.Feeder.take_word.Goals as goal

-- what is done with the tokens
next : Purpose → List Tok → Config → Performed
next purpose toks d = word_behind toks purpose d

pub returns-in-Ok-clause-performs : goal.returns-in-Ok-clause-performs
unfolding next
returns-in-Ok-clause-performs g c =
    let r = c.in-Ok.ensures.reads in
    read-performs g.C.Cells (taken in_file (undelimited true)) (looks_taken in_file looks_in_file (undelimited true)) (next c.args.purpose) c.in-Ok.toks c.put_text.result
    (record { narrows = r.narrows; reads = r.ok; stands = r.stands; groups = ap (λ o. o.groups) r.origin; made = ap (λ o. o.made) r.origin; loan = ap (λ o. o.inner) r.origin }) c.put_text.ensures.performs

pub returns-in-Err-Fault-clause-performs : goal.returns-in-Err-Fault-clause-performs
unfolding next
returns-in-Err-Fault-clause-performs g c =
    let r = c.in-Err-Fault.ensures.reads in
    subst (λ k. Performs {E = AllocError} g.C.Cells (word_taken c.args.purpose) (Ok (Stopped k)) c.read_undelimited.new.feed.cells.now c.read_undelimited.new.feed.desk.now c.args.self.now.cells.now c.args.self.now.desk.now) (sym c.in-Err-Fault.kind-is)
    (
    read-stops g.C.Cells (taken in_file (undelimited true)) (looks_taken in_file looks_in_file (undelimited true)) (next c.args.purpose) c.in-Err-Fault.kind
    (record { narrows = r.narrows; reads = at-fault _ _ c.in-Err-Fault.kind c.in-Err-Fault.field-0-is r.fault; stands = r.stands; groups = ap (λ o. o.groups) r.origin; made = ap (λ o. o.made) r.origin; loan = ap (λ o. o.inner) r.origin })
    )
