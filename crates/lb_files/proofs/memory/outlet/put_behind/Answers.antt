use Rattle.std.proofs.Common.{◌≡◌, ◌++◌, sym, ◌∙◌, ap, refl, get_or}
use Rattle.std.proofs.Math.ListN.{set}
use Rattle.std.proofs.lemmas.Result.{on_ok_weaker}
use Rattle.lb_model.specs.Journal.{appended}
use Rattle.lb_files.proofs.Texts.{put_behind_text, put_nowhere, kept_if_ok}
use Rattle.lb_files.proofs.memory.outlet.put_behind.Goals as goal

pub returns-in-Some-clause-keeps : goal.returns-in-Some-clause-keeps
returns-in-Some-clause-keeps c =
    let names = c.args.names.now in
    let texts = c.args.texts.now.items in
    let at = c.in-Some.at in
    let text = get_or texts at c.index_mut.result.now in
    let Extended : Type 0 = c.extend_from_slice.new.self ≡ c.index_mut.result.now ++ c.args.bytes.now in
    kept_if_ok c.extend_from_slice.result (λ journal. journal ++ appended c.args.file.now c.args.bytes.now) names texts names (set texts at (text ++ c.args.bytes.now)) names (set texts at c.extend_from_slice.new.self)
    (on_ok_weaker {P = Extended} c.extend_from_slice.result (λ is. refl) c.extend_from_slice.ensures.ok)
    (on_ok_weaker {P = Extended} c.extend_from_slice.result (λ is. ap (set texts at) (is ∙ ap (λ t. t ++ c.args.bytes.now) c.index_mut.ensures.value)) c.extend_from_slice.ensures.ok)
    (λ journal keeps. put_behind_text journal names texts c.args.file.now c.args.bytes.now c.index_mut.result.now at (sym c.place_of.ensures ∙ c.in-Some.is) keeps)

pub returns-in-None-clause-keeps : goal.returns-in-None-clause-keeps
returns-in-None-clause-keeps c = λ journal keeps. put_nowhere journal c.args.names.now c.args.texts.now.items c.args.file.now c.args.bytes.now (sym c.place_of.ensures ∙ c.in-None.is) keeps
