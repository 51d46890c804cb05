use Rattle.lb_base.specs.declared.token.Tok.{Tok}
use Rattle.lb_engine.proofs.RowLemmas.{read-ends, read-fails, read-then}
use Rattle.lb_engine.proofs.latex_spaces.vspace_behind_star.Goals as goal
use Rattle.lb_engine.specs.Reads.{behind_reading}
use Rattle.lb_model_engine.specs.Items.{vspace_of}
use Rattle.lb_model_nest.specs.Wholes.{Executed, Whole, executed}
use Rattle.lb_model_nest.specs.declared.turn.Went.TheVariants.{On}
use Rattle.std.proofs.Common.{refl}
use Rattle.std.specs.Prelude.{Bool, List}

-- what is done with it
abbrev to : Bool → List Tok → Whole → Executed
to starred toks v = vspace_of starred toks v

pub vspace_of-requires : goal.vspace_of-requires
vspace_of-requires g c = record { holds = (c.in_ok-toks.ensures.leads (λ x. executed On)).keeps }

pub returns-in-Of : goal.returns-in-Of
returns-in-Of g c = record { goes = read-then (behind_reading (to c.args.starred)) c.vspace_of.result c.in-Of.is (c.in_ok-toks.ensures.leads (to c.args.starred)) c.vspace_of.ensures.goes }

pub returns-in-Stops : goal.returns-in-Stops
returns-in-Stops g c = record { goes = read-ends (behind_reading (to c.args.starred)) executed c.in-Stops.went c.in-Stops.is refl (c.in_ok-toks.ensures.leads (to c.args.starred)) }

pub returns-in_err-toks : goal.returns-in_err-toks
returns-in_err-toks g c = record { goes = read-fails c.from_residual.result c.from_residual.ensures.0 (c.in_err-toks.ensures.leads (to c.args.starred)) }
