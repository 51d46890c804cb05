use Rattle.lb_base.specs.declared.node.Node.{Boxed as BoxNode}
use Rattle.lb_nest.proofs.ParagraphLemmas.{indent-made}
use Rattle.std.proofs.Common.{rules, ◌∙◌, ap}
use Rattle.lb_nest.proofs.paragraphs.indent_box.Goals as goal

pub returns : goal.returns
returns c = ap BoxNode (c.in_ok-new.ensures ∙ search rules ∙ indent-made c.args.width)
