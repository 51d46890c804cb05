use Rattle.std.proofs.Common.{List, ℕ, [], ◌∷◌, ◌++◌, sym, ◌∙◌, subst}
use Rattle.std.proofs.Math.ListN.{set}
use Rattle.lb_model.specs.Journal.{Begun}
use Rattle.lb_files.specs.Texts.{Keeps}
use Rattle.lb_files.proofs.Texts.{begin_new, begin_again, kept_if_ok}
use Rattle.lb_files.proofs.memory.outlet.begin_text.Goals as goal

pub returns-in-Some-clause-keeps : goal.returns-in-Some-clause-keeps
returns-in-Some-clause-keeps c = λ journal keeps.
    let P : List ℕ → Type 0 = λ text. Keeps (journal ++ Begun c.args.file.now ∷ []) c.args.names.now (set c.args.texts.now.items c.in-Some.at text) in
    subst P (sym c.new.ensures) (begin_again journal c.args.names.now c.args.texts.now.items c.args.file.now c.in-Some.at (sym c.place_of.ensures ∙ c.in-Some.is) keeps)

pub returns-in-None-clause-keeps : goal.returns-in-None-clause-keeps
returns-in-None-clause-keeps c =
    kept_if_ok c.add_file.result (λ journal. journal ++ Begun c.args.file.now ∷ []) c.args.names.now c.args.texts.now.items (c.args.names.now ++ c.args.file.now ∷ []) (c.args.texts.now.items ++ [] ∷ []) c.add_file.new.names c.add_file.new.texts.items c.add_file.ensures.names c.add_file.ensures.texts
    (λ journal keeps. begin_new journal c.args.names.now c.args.texts.now.items c.args.file.now (sym c.place_of.ensures ∙ c.in-None.is) keeps)
