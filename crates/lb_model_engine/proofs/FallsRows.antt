-- No command leaves more steps than there were.
use Rattle.std.proofs.Common.{ℕ, zero, suc, Bool, true, false, pos, arith}
use Rattle.std.specs.Prelude.{Option, Some, None}
use Rattle.lb_base.specs.declared.fault.Kind.TheVariants.{Runaway}
use Rattle.lb_base.specs.declared.node.Axis.TheVariants.{Horizontal, Vertical}
use Rattle.lb_rows.specs.declared.command.Command.{Command}
use Rattle.lb_rows.specs.declared.command.Command.TheVariants as command
use Rattle.lb_values.specs.declared.cell.Cell.TheVariants as cell
use Rattle.lb_values.specs.declared.cell.RegisterKind.TheVariants as register
use Rattle.lb_values.specs.declared.meaning.Meaning.{Meaning}
use Rattle.lb_values.specs.declared.meaning.Meaning.TheVariants as meaning
use Rattle.lb_values.specs.declared.reach.Reach.{Reach}
use Rattle.lb_values.specs.declared.reach.Reach.TheVariants.{Global, Local}
use Rattle.lb_values.specs.Registers.{register_cell}
use Rattle.lb_model_engine.specs.declared.definition.NewKind.TheVariants.{New, Renew, Provide}
use Rattle.lb_model_nest.specs.declared.nest.BoxContext.TheVariants.{Shifted}
use Rattle.lb_model_nest.specs.Items.{fil, fill, ss}
use Rattle.lb_model_nest.specs.Wholes.{Executed, Whole, stop}
use Rattle.lb_model_engine.specs.Prefixes.{assignment, assignment_or, command_assignment, global_row, long_row, prefixed_by, prefixed_in}
use Rattle.lb_model_engine.specs.Turns.{box_row, command_row, counter_row, document_row, material_row, naming_row, paragraph_row, turns}
use Rattle.lb_model_engine.proofs.FallsBoxes.{aftergroup-falls, box_begun-falls, box_copied-falls, box_size-falls, box_taken-falls, discretionary-falls, footnote-falls, hrule-falls, hskip-falls, hspace-falls, kern-falls, line_break-falls, lower-falls, markboth-falls, markright-falls, penalty-falls, raise-falls, setbox-falls, vadjust-falls, vrule-falls, vskip-falls, vspace-falls}
use Rattle.lb_model_engine.proofs.FallsCounters.{addcontentsline-falls, addtocounter-falls, changecase-falls, include-falls, label-falls, matter-falls, newcounter-falls, pagenumbering-falls, pageref-falls, pagestyle-falls, ref-falls, refstepcounter-falls, setcounter-falls, size-falls, stepcounter-falls, style-falls, typeout-falls}
use Rattle.lb_model_engine.proofs.FallsHeadings.{begin-falls, contentsline-falls, documentclass-falls, end-falls, endlist-falls, head-falls, includeonly-falls, item-falls, list-falls, toc-falls}
use Rattle.lb_model_engine.proofs.FallsNames.{arithmetic-falls, def-falls, futurelet-falls, let-falls, new_register-falls, newcommand-falls, newenvironment-falls, newif-falls, picked-falls, shorthand-falls, variable-falls}
use Rattle.lb_model_engine.proofs.FallsNest.{begingroup-falls, control_space-falls, discretionary_hyphen-falls, endgroup-falls, horizontal_glue-falls, ignorespaces-falls, indent-falls, italic_correction-falls, leavevmode-falls, noindent-falls, par-falls, plainnext-falls, unskip-falls, vertical_glue-falls}
use Rattle.lb_model_engine.specs.StepsLeft.{NeverRise as Falls}
use Rattle.lb_model_engine.proofs.FallsReads.{past_spaces_or-falls}

-- ---- Assignments and prefixes

-- a row, where there is one
abbrev pub FallsIfAny : Option (Whole → Executed) → Type 0
FallsIfAny None = Unit {0}
FallsIfAny (Some row) = Falls row

pub command_assignment-falls : (c : Command) (long : Bool) (reach : Reach) → FallsIfAny (command_assignment c long reach)
command_assignment-falls command.Def long reach = def-falls _ _ _
command_assignment-falls command.GDef long reach = def-falls _ _ _
command_assignment-falls command.EDef long reach = def-falls _ _ _
command_assignment-falls command.XDef long reach = def-falls _ _ _
command_assignment-falls command.Let long reach = let-falls _
command_assignment-falls command.FutureLet long reach = futurelet-falls _
command_assignment-falls command.CharDef long reach = shorthand-falls _ _
command_assignment-falls command.CountDef long reach = shorthand-falls _ _
command_assignment-falls command.DimenDef long reach = shorthand-falls _ _
command_assignment-falls command.SkipDef long reach = shorthand-falls _ _
command_assignment-falls command.ToksDef long reach = shorthand-falls _ _
command_assignment-falls command.Count long reach = picked-falls _ _
command_assignment-falls command.Dimen long reach = picked-falls _ _
command_assignment-falls command.Skip long reach = picked-falls _ _
command_assignment-falls command.Toks long reach = picked-falls _ _
command_assignment-falls command.CatCode long reach = picked-falls _ _
command_assignment-falls command.LcCode long reach = picked-falls _ _
command_assignment-falls command.UcCode long reach = picked-falls _ _
command_assignment-falls command.SfCode long reach = picked-falls _ _
command_assignment-falls command.Advance long reach = arithmetic-falls _ _
command_assignment-falls command.Multiply long reach = arithmetic-falls _ _
command_assignment-falls command.Divide long reach = arithmetic-falls _ _
command_assignment-falls command.SetBox long reach = setbox-falls _
command_assignment-falls command.Wd long reach = box_size-falls _ _
command_assignment-falls command.Ht long reach = box_size-falls _ _
command_assignment-falls command.Dp long reach = box_size-falls _ _
command_assignment-falls other long reach = tt

assignment-falls : (m : Option Meaning) (long : Bool) (reach : Reach) → FallsIfAny (assignment m long reach)
assignment-falls (Some (meaning.Row c)) long reach = command_assignment-falls c long reach
assignment-falls (Some (meaning.Register r)) long reach = variable-falls (register_cell r) reach
assignment-falls m long reach = tt

assignment_or-falls : (row : Option (Whole → Executed)) → FallsIfAny row → Falls (assignment_or row)
assignment_or-falls None f w = omega arith
assignment_or-falls (Some row) f w = f w

prefixed_by-falls : (m : Option Meaning) (more : Bool → Reach → Whole → Executed) (long : Bool) (reach : Reach)
    → ((long : Bool) (reach : Reach) → Falls (more long reach)) → Falls (prefixed_by m more long reach)
prefixed_by-falls (Some (meaning.Row command.Long)) more long reach f = f true reach
prefixed_by-falls (Some (meaning.Row command.Global)) more long reach f = f long Global
prefixed_by-falls m more long reach f = assignment_or-falls (assignment m long reach) (assignment-falls m long reach)

prefixed_in-falls : (turns : ℕ) (long : Bool) (reach : Reach) → Falls (prefixed_in turns long reach)
prefixed_in-falls zero long reach w = omega arith
prefixed_in-falls (suc turns) long reach w =
    past_spaces_or-falls (stop Runaway) _ (λ v. omega arith) (λ tok m. prefixed_by-falls m _ long reach (λ l r. prefixed_in-falls turns l r)) w

long-falls : Falls long_row
unfolding long_row
long-falls w = prefixed_in-falls (suc w.feed.left) true Local w

global-falls : Falls global_row
unfolding global_row
global-falls w = prefixed_in-falls (suc w.feed.left) false Global w

-- ---- Commands

document_row-falls : (c : Command) → Falls (document_row c)
document_row-falls command.BeginList w = list-falls w
document_row-falls command.EndList w = endlist-falls w
document_row-falls command.Item w = item-falls w
document_row-falls command.Head w = head-falls w
document_row-falls command.ContentsLine w = contentsline-falls w
document_row-falls command.DocumentClass w = documentclass-falls w
document_row-falls command.IncludeOnly w = includeonly-falls w
document_row-falls command.Toc w = toc-falls w
document_row-falls command.Begin w = begin-falls w
document_row-falls command.End w = end-falls w
document_row-falls c w = omega arith

counter_row-falls : (c : Command) → Falls (counter_row c)
counter_row-falls command.NewCounter w = newcounter-falls w
counter_row-falls command.SetCounter w = setcounter-falls w
counter_row-falls command.AddToCounter w = addtocounter-falls w
counter_row-falls command.StepCounter w = stepcounter-falls w
counter_row-falls command.RefStepCounter w = refstepcounter-falls w
counter_row-falls command.Label w = label-falls w
counter_row-falls command.Ref w = ref-falls w
counter_row-falls command.PageRef w = pageref-falls w
counter_row-falls command.AddContentsLine w = addcontentsline-falls w
counter_row-falls command.TypeOut w = typeout-falls w
counter_row-falls command.PageStyle w = pagestyle-falls cell.PageStyle w
counter_row-falls command.ThisPageStyle w = pagestyle-falls cell.ThisStyle w
counter_row-falls command.PageNumbering w = pagenumbering-falls w
counter_row-falls command.Style w = style-falls w
counter_row-falls command.Size w = size-falls w
counter_row-falls command.Matter w = matter-falls w
counter_row-falls command.Include w = include-falls w
counter_row-falls c w = document_row-falls c w

material_row-falls : (c : Command) → Falls (material_row c)
material_row-falls command.IgnoreSpaces w = ignorespaces-falls w
material_row-falls command.ControlSpace w = control_space-falls w
material_row-falls command.ItalicCorrection w = italic_correction-falls w
material_row-falls command.DiscretionaryHyphen w = discretionary_hyphen-falls w
material_row-falls command.Discretionary w = discretionary-falls w
material_row-falls command.VAdjust w = vadjust-falls w
material_row-falls command.Insert w = footnote-falls w
material_row-falls command.LineBreak w = line_break-falls w
material_row-falls command.HSpace w = hspace-falls w
material_row-falls command.VSpace w = vspace-falls w
material_row-falls command.MarkBoth w = markboth-falls w
material_row-falls command.MarkRight w = markright-falls w
material_row-falls c w = counter_row-falls c w

paragraph_row-falls : (c : Command) → Falls (paragraph_row c)
paragraph_row-falls command.Par w = par-falls w
paragraph_row-falls command.Indent w = indent-falls w
paragraph_row-falls command.NoIndent w = noindent-falls w
paragraph_row-falls command.LeaveVMode w = leavevmode-falls w
paragraph_row-falls command.PlainNext w = plainnext-falls w
paragraph_row-falls command.HSkip w = hskip-falls w
paragraph_row-falls command.HFil w = horizontal_glue-falls fil w
paragraph_row-falls command.HFill w = horizontal_glue-falls fill w
paragraph_row-falls command.Hss w = horizontal_glue-falls ss w
paragraph_row-falls command.VSkip w = vskip-falls w
paragraph_row-falls command.VFil w = vertical_glue-falls fil w
paragraph_row-falls command.VFill w = vertical_glue-falls fill w
paragraph_row-falls command.Vss w = vertical_glue-falls ss w
paragraph_row-falls command.Kern w = kern-falls w
paragraph_row-falls command.Penalty w = penalty-falls w
paragraph_row-falls command.UnSkip w = unskip-falls w
paragraph_row-falls c w = material_row-falls c w

box_row-falls : (c : Command) → Falls (box_row c)
box_row-falls command.Uppercase w = changecase-falls cell.Uc w
box_row-falls command.Lowercase w = changecase-falls cell.Lc w
box_row-falls command.HBox w = box_begun-falls Horizontal (Shifted (pos 0)) w
box_row-falls command.VBox w = box_begun-falls Vertical (Shifted (pos 0)) w
box_row-falls command.Box w = box_taken-falls (Shifted (pos 0)) w
box_row-falls command.Copy w = box_copied-falls (Shifted (pos 0)) w
box_row-falls command.Raise w = raise-falls w
box_row-falls command.Lower w = lower-falls w
box_row-falls command.HRule w = hrule-falls w
box_row-falls command.VRule w = vrule-falls w
box_row-falls c w = paragraph_row-falls c w

naming_row-falls : (c : Command) → Falls (naming_row c)
naming_row-falls command.NewIf w = newif-falls w
naming_row-falls command.NewCommand w = newcommand-falls New w
naming_row-falls command.RenewCommand w = newcommand-falls Renew w
naming_row-falls command.ProvideCommand w = newcommand-falls Provide w
naming_row-falls command.NewEnvironment w = newenvironment-falls New w
naming_row-falls command.RenewEnvironment w = newenvironment-falls Renew w
naming_row-falls command.NewCount w = new_register-falls register.Count w
naming_row-falls command.NewDimen w = new_register-falls register.Dimen w
naming_row-falls command.NewSkip w = new_register-falls register.Skip w
naming_row-falls command.NewLength w = new_register-falls register.Skip w
naming_row-falls command.NewToks w = new_register-falls register.Toks w
naming_row-falls command.NewSaveBox w = new_register-falls register.Boxed w
naming_row-falls c w = box_row-falls c w

pub command_row-falls : (c : Command) → Falls (command_row c)
command_row-falls command.Relax w = omega arith
command_row-falls command.EndCsName w = omega arith
command_row-falls command.Value w = omega arith
command_row-falls command.Long w = long-falls w
command_row-falls command.Global w = global-falls w
command_row-falls command.BeginGroup w = begingroup-falls w
command_row-falls command.EndGroup w = endgroup-falls w
command_row-falls command.AfterGroup w = aftergroup-falls w
command_row-falls c w = naming_row-falls c w
