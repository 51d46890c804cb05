use Rattle.std.specs.Prelude.{Ok}
use Rattle.lb_model_expansion.specs.Expansion.{handed_to}
use Rattle.lb_expand.specs.Opens.{reading_of}
use Rattle.lb_expand.specs.declared.closing.Closed.TheVariants.{Went}
use Rattle.lb_expand.proofs.CloseLemmas.{closes-as, closes_went}
use Rattle.lb_expand.proofs.feeder.Feeder.give.Goals as goal

pub returns-in-Scan-clause-closes : goal.returns-in-Scan-clause-closes
returns-in-Scan-clause-closes g c =
    closes-as (λ o. handed_to c.args.meaning.now c.args.tok (reading_of o).kind (reading_of o).given) c.give_scan.result c.in-Scan.is c.give_scan.ensures.closes

pub returns-in-Word-clause-closes : goal.returns-in-Word-clause-closes
returns-in-Word-clause-closes g c =
    closes-as (λ o. handed_to c.args.meaning.now c.args.tok (reading_of o).kind (reading_of o).given) c.give_word.result c.in-Word.is c.give_word.ensures.closes

pub returns-in_ok-went-in-Name-clause-closes : goal.returns-in_ok-went-in-Name-clause-closes
returns-in_ok-went-in-Name-clause-closes g c =
    closes-as (λ o. handed_to c.args.meaning.now c.args.tok (reading_of o).kind (reading_of o).given) (Ok (Went c.in_ok-went-in-Name.went)) c.in-Name.is
    (closes_went g.C.Cells _ c.in_ok-went-in-Name.went c.in_ok-went-in-Name.ensures.performs)

pub returns-in-The-clause-closes : goal.returns-in-The-clause-closes
returns-in-The-clause-closes g c =
    closes-as (λ o. handed_to c.args.meaning.now c.args.tok (reading_of o).kind (reading_of o).given) c.ask_of.result c.in-The.is c.ask_of.ensures.closes
