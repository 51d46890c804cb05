use Rattle.std.proofs.Common.{sym, ap}
use Rattle.lb_base.specs.declared.page.PageCode.{PageCode}
use Rattle.lb_marks.proofs.Pages.{code_drawable, IsCode-from}
use Rattle.lb_marks.proofs.laws.page_codes.Goals as goal

pub returns-clause-marks : goal.returns-clause-marks
returns-clause-marks c = λ number box code made. sym (ap (λ (p : PageCode). p.marks) (IsCode-from number box code made).is)

pub returns-clause-number : goal.returns-clause-number
returns-clause-number c = λ number box code made. sym (ap (λ (p : PageCode). p.number) (IsCode-from number box code made).is)

pub returns-clause-height : goal.returns-clause-height
returns-clause-height c = λ number box code made. sym (ap (λ (p : PageCode). p.height) (IsCode-from number box code made).is)

pub returns-clause-width : goal.returns-clause-width
returns-clause-width c = λ number box code made. sym (ap (λ (p : PageCode). p.width) (IsCode-from number box code made).is)

pub returns-clause-drawable : goal.returns-clause-drawable
returns-clause-drawable c = code_drawable
