use Rattle.std.proofs.Common.{◌∷◌, [], ap, sym}
use Rattle.lb_base.specs.declared.token.Tok.TheVariants as token
use Rattle.lb_model_engine.specs.Environments.{end_begun}
use Rattle.lb_model_engine.specs.NewNames.{end_name}
use Rattle.lb_model_nest.specs.Wholes.{put}
use Rattle.lb_engine.specs.Views.{whole}
use Rattle.lb_engine.specs.declared.engine.Engine.{Engine}
use Rattle.lb_engine.proofs.EndLemmas.{engine-then}
use Rattle.lb_engine.proofs.environment_ends.begin_end.Goals as goal

pub returns : goal.returns
returns g c =
    let name = c.args.name.now in
    let is = c.in_ok-bound.ensures in
    record {
      goes =
          engine-then g.C.Cells (end_begun name) (put (token.Word (end_name name) ∷ [])) c.put_end.result (ap (λ (e : Engine). e.desk.groups) is)
          (λ p. ap (λ (e : Engine). put (token.Word (end_name name) ∷ []) (whole p (g.C.Cells.meaning c.args.cells.now p) e)) (sym is)) c.put_end.ensures.goes;
    }
