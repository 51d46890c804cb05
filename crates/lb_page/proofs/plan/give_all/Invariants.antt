use Rattle.std.proofs.Common.{◌≡◌, ◌≤◌, ◌+◌, ◌++◌, length, map, vec_len, vec_capacity}
use Rattle.lb_model_paper.specs.Pages.{parts_by}
use Rattle.lb_page.specs.Plans.{ArePlanned, place_of}
use Rattle.lb_page.proofs.plan.give_all.Given as goal

abbrev pub invariant-pages : goal.invariant-pages
invariant-pages l = record {
  planned : ArePlanned l.rules l.nodes.items l.plan.items;
  parts : l.parts.items ++ parts_by l.rules l.nodes.items (map place_of l.plan.items) ≡ parts_by l.rules l.initial.nodes.items (map place_of l.initial.plan.items);
  room : vec_len l.parts + length l.plan.items ≤ vec_capacity l.parts;
}

abbrev pub decreases-pages : goal.decreases-pages
decreases-pages l = length l.plan.items
