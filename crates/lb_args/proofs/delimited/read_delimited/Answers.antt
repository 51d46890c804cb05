use Rattle.std.proofs.Common.{◌∙◌, [], ap, sym, take, subst}
use Rattle.lb_base.specs.declared.fault.Kind.TheVariants.{Runaway}
use Rattle.lb_model.specs.Configs.{in_file, looks_in_file}
use Rattle.lb_model.specs.Readings.{looks_taken, taken}
use Rattle.lb_model_grammar.specs.Arguments.{delimited, without_braces}
use Rattle.lb_model_grammar.specs.Scans.Meant.{Ended}
use Rattle.lb_args.specs.Fits.{GoesOn, decided, settles}
use Rattle.lb_args.proofs.ReadingLemmas.{fed, owed-is, reads-done, reads-end, reads-fault, reads-wrong}
use Rattle.lb_args.proofs.TurnLemmas.{delimited-token}
use Rattle.lb_args.proofs.delimited.read_delimited.Goals as goal

pub returns-in-Err : goal.returns-in-Err
returns-in-Err g c =
    let l = c.tokens in
    record {
      reads = reads-fault g.F.Feed (decided c.args.long c.args.delimiter.now l.toks l.level l.count) _ _ c.in-Err.stop c.in_file.new.self l.feed c.args.feed.now l.invariant.owed l.invariant.goes.window.more
          c.in-Err.ensures.narrows c.in-Err.ensures.fault c.in-Err.ensures.notes_on_fault c.in-Err.ensures.stands c.in-Err.ensures.origin;
    }

pub returns-in-Ok-None : goal.returns-in-Ok-None
returns-in-Ok-None g c =
    let F = g.F.Feed in
    let l = c.tokens in
    let s = c.in-Ok-None in
    record {
      reads = reads-end F (decided c.args.long c.args.delimiter.now l.toks l.level l.count) Runaway c.in_file.new.self l.feed c.args.feed.now l.invariant.owed l.invariant.goes.window.more
          (fed F _ _ c.in_file.new.self l.feed s.field-0-is s.ensures.narrows s.ensures.ok s.ensures.notes s.ensures.stands s.ensures.origin) l.invariant.goes.window.cut;
    }

pub returns-in-Whole : goal.returns-in-Whole
returns-in-Whole g c =
    let F = g.F.Feed in
    let l = c.tokens in
    let s = c.in-Ok-Some in
    let long = c.args.long in
    let delimiter = c.args.delimiter.now in
    let pushed = c.as_slice.result.now in
    let settled = c.settle-settled.result in
    let took = taken in_file (delimited long delimiter 0 []) in
    let looks = looks_taken in_file looks_in_file (delimited long delimiter 0 []) in
    let now =
    delimited-token F long delimiter l.toks pushed l.level l.count s.tok settled {start = took} {start_looks = looks} c.in_file.new.self l.feed c.args.feed.now l.invariant.owed l.invariant.goes
    (fed F _ _ c.in_file.new.self l.feed s.field-0-is s.ensures.narrows s.ensures.ok s.ensures.notes s.ensures.stands s.ensures.origin) (c.as_slice.ensures ∙ c.in_ok-push-in-Ok-Some.ensures.ok) c.settle-settled.ensures.settles
    in
    record {
      reads = reads-done F (settles settled long delimiter pushed) {start = took} {start_looks = looks} c.without_braces.result c.in_file.new.self c.args.feed.now now
          (
          ap (λ s. settles s long delimiter pushed []) c.in-Whole.is
          ∙ ap (λ l. Ended (without_braces (take c.in-Whole.last l)) []) c.as_slice.ensures
          ∙ ap (λ b. Ended b []) (sym c.without_braces.ensures)
          );
    }

pub returns-in-Fails : goal.returns-in-Fails
returns-in-Fails g c =
    let F = g.F.Feed in
    let l = c.tokens in
    let s = c.in-Ok-Some in
    let long = c.args.long in
    let delimiter = c.args.delimiter.now in
    let pushed = c.as_slice.result.now in
    let settled = c.settle-settled.result in
    let took = taken in_file (delimited long delimiter 0 []) in
    let looks = looks_taken in_file looks_in_file (delimited long delimiter 0 []) in
    let now =
    delimited-token F long delimiter l.toks pushed l.level l.count s.tok settled {start = took} {start_looks = looks} c.in_file.new.self l.feed c.args.feed.now l.invariant.owed l.invariant.goes
    (fed F _ _ c.in_file.new.self l.feed s.field-0-is s.ensures.narrows s.ensures.ok s.ensures.notes s.ensures.stands s.ensures.origin) (c.as_slice.ensures ∙ c.in_ok-push-in-Ok-Some.ensures.ok) c.settle-settled.ensures.settles
    in
    record { reads = reads-wrong F (settles settled long delimiter pushed) {start = took} {start_looks = looks} c.in-Fails.kind c.in_file.new.self c.args.feed.now now (ap (λ s. settles s long delimiter pushed []) c.in-Fails.is) }

pub tokens-preserved : goal.tokens-preserved
tokens-preserved g c =
    let F = g.F.Feed in
    let l = c.tokens in
    let s = c.in-Ok-Some in
    let long = c.args.long in
    let delimiter = c.args.delimiter.now in
    let pushed = c.as_slice.result.now in
    let settled = c.settle-settled.result in
    let took = taken in_file (delimited long delimiter 0 []) in
    let looks = looks_taken in_file looks_in_file (delimited long delimiter 0 []) in
    let now =
    delimited-token F long delimiter l.toks pushed l.level l.count s.tok settled {start = took} {start_looks = looks} c.in_file.new.self l.feed c.args.feed.now l.invariant.owed l.invariant.goes
    (fed F _ _ c.in_file.new.self l.feed s.field-0-is s.ensures.narrows s.ensures.ok s.ensures.notes s.ensures.stands s.ensures.origin) (c.as_slice.ensures ∙ c.in_ok-push-in-Ok-Some.ensures.ok) c.settle-settled.ensures.settles
    in
    record {
      owed = owed-is F (settles settled long delimiter pushed) (decided long delimiter c.push.new.self c.in-Open.depth c.in-Open.further) {start = took} {start_looks = looks} c.in_file.new.self c.args.feed.now
          (ap (λ s. settles s long delimiter pushed) c.in-Open.is ∙ ap (λ l. decided long delimiter l c.in-Open.depth c.in-Open.further) c.as_slice.ensures) now;
      goes = subst (λ l. GoesOn long delimiter l c.in-Open.further c.in-Open.depth) c.as_slice.ensures c.in-Open.ensures.goes;
    }
