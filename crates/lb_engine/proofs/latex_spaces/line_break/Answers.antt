use Rattle.lb_engine.proofs.ModeLemmas.{mode-lacks, mode-wanted}
use Rattle.lb_engine.proofs.latex_spaces.line_break.Goals as goal
use Rattle.lb_model_engine.specs.Items.{line_break, skip_to}
use Rattle.lb_model_engine.specs.Reads.{bracket, reading, star}
use Rattle.lb_model_nest.specs.Items.{line_ended}
use Rattle.lb_model_nest.specs.Wholes.{is_paragraph, mode_of}
use Rattle.std.proofs.Common.{false, rules, true, ◌≡◌}

pub returns-then-is_paragraph : goal.returns-then-is_paragraph
unfolding line_break
returns-then-is_paragraph g c =
    let is : is_paragraph (mode_of c.args.engine.now.nest.level.kind) ≡ true = search rules in
    record { goes = mode-wanted is_paragraph (λ w. reading star (λ starred v. reading bracket (λ toks u. skip_to toks (line_ended starred) u) v) w) c.read_line_break.result is c.read_line_break.ensures.goes }

pub returns : goal.returns
unfolding line_break
returns g c =
    let is : is_paragraph (mode_of c.args.engine.now.nest.level.kind) ≡ false = search rules in
    record { goes = mode-lacks g.C.Cells is_paragraph (λ w. reading star (λ starred v. reading bracket (λ toks u. skip_to toks (line_ended starred) u) v) w) is c.requires.holds }
