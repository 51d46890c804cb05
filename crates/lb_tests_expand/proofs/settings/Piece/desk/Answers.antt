use Rattle.std.proofs.Common.{ap}
use Rattle.lb_model.specs.Configs.{Config}
use Rattle.lb_tests_expand.proofs.settings.Piece.desk.Goals as goal

pub returns : goal.returns
returns c = record { groups = λ w kept. ap (λ (d : Config). d.groups) (c.in_ok-desk.ensures w kept) }
