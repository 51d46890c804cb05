use Rattle.std.proofs.Common.{rules, ◌∙◌, ◌∷◌, ◌++◌, ap, sym}
use Rattle.lb_expand.specs.declared.desk.Desk.{Desk}
use Rattle.lb_engine.specs.declared.engine.Engine.{Engine}
use Rattle.lb_engine.proofs.JournalLemmas.{written_one}
use Rattle.lb_engine.proofs.journal.write_entries.Goals as goal

pub entries-preserved : goal.entries-preserved
entries-preserved c =
    let l = c.entries in
    let i = l.invariant in
    let desk : Desk = record l.engine.desk { appends = c.push.new.self } in
    record {
      appends =
          written_one c.in_ok-append.append l.engine.desk.appends.items l.engine.nest.entries c.pop.new.self c.push.new.self.items
          (c.in-Some.ensures ∙ ap (λ a. a ∷ c.pop.new.self) (sym c.in_ok-append.ensures)) (search rules)
          ∙ i.appends;
      desk = ap (λ (d : Desk). record d { appends = c.push.new.self }) i.desk;
      engine = ap (λ (e : Engine). record e { desk = desk; nest = record e.nest { entries = c.pop.new.self } }) i.engine;
    }

pub returns-in_default : goal.returns-in_default
returns-in_default c =
    let l = c.entries in
    let i = l.invariant in
    record {
      writes = record {
        appends = ap (λ n. l.engine.desk.appends.items ++ n) (c.in_default.ensures.1 ∙ sym c.in_default.ensures.0) ∙ i.appends;
        desk = i.desk;
        engine = ap (λ (e : Engine). record e { desk = l.engine.desk; nest = record e.nest { entries = c.pop.new.self } }) i.engine;
      };
      none = c.in_default.ensures.1;
    }
