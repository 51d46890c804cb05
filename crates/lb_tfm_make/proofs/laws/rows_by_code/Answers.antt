use Rattle.lb_tfm_make.proofs.RowsByCode.{row-at}
use Rattle.lb_tfm_make.proofs.laws.rows_by_code.Goals as goal

pub returns : goal.returns
returns c = λ font k row valid low. row-at 0 font.widths k row valid.rising low
