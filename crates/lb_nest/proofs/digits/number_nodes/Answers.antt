use Rattle.lb_nest.specs.Pages.{digits_with}
use Rattle.lb_nest.proofs.LeadsLemmas.{leads-as}
use Rattle.lb_nest.proofs.digits.number_nodes.Goals as goal

pub returns-in-Foot-clause-leads : goal.returns-in-Foot-clause-leads
returns-in-Foot-clause-leads g c = λ row. leads-as (λ s. digits_with s c.args.text.now row) c.digits_of.result c.in-Foot.is (c.digits_of.ensures.leads row)

pub returns-in-Head-clause-leads : goal.returns-in-Head-clause-leads
returns-in-Head-clause-leads g c = λ row. leads-as (λ s. digits_with s c.args.text.now row) c.digits_of-in-Head.result c.in-Head.is (c.digits_of-in-Head.ensures.leads row)
