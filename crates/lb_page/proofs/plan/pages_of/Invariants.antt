use Rattle.std.proofs.Common.{◌≡◌, ◌≤◌, ◌-◌, drop, length, map}
use Rattle.lb_model_paper.specs.Pages.{ends_from, page_end}
use Rattle.lb_page.specs.Plans.{ArePlanned, left_after, place_of, with_pages}
use Rattle.lb_page.proofs.plan.pages_of.Given as goal

abbrev pub invariant-pages : goal.invariant-pages
invariant-pages l = record {
  within : l.start ≤ length l.nodes.items;
  left : drop l.start l.nodes.items ≡ left_after l.plan.items l.nodes.items;
  planned : ArePlanned l.rules l.nodes.items l.plan.items;
  count : length l.plan.items ≤ l.start;
  ends : with_pages (map place_of l.plan.items) (ends_from (page_end l.rules) (length l.nodes.items - length l.plan.items) (left_after l.plan.items l.nodes.items)) ≡ ends_from (page_end l.rules) (length l.nodes.items) l.nodes.items;
}

abbrev pub decreases-pages : goal.decreases-pages
decreases-pages l = length l.nodes.items - l.start
