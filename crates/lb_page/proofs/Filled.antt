-- A page while its nodes are moved to it, one node more.
use Rattle.std.proofs.Common.{◌≡◌, ◌∙◌, ap, sym, refl, Bool, true, false, not, ◌||◌, List, [], ◌∷◌, ◌++◌, Option, None, Some, ℤ, if◌then◌else◌, filter}
use Rattle.std.proofs.lemmas.List.Elements.{filter-append}
use Rattle.std.specs.Option.{is_some}
use Rattle.lb_base.specs.declared.node.Node.{Node}
use Rattle.lb_model_paper.specs.declared.pages.PageRules.{PageRules}
use Rattle.lb_model_paper.specs.Pages.{is_begun, is_block, is_discardable, is_foot, is_some_left, on_page, top_glue, with_top_glue, without_top}
use Rattle.lb_page.specs.declared.filling.Filling.{Filling}
use Rattle.lb_page.specs.Fillings.{IsFilling, stays}
use Rattle.lb_page.specs.SoFar.{first_width, opened, opened_by}
use Rattle.lb_page.proofs.Adding.{begun_no, discardable_yes, on_page-opened, some_left, stays_yes}
use Rattle.lb_page.proofs.Opening.{none_from, opened-first, opened-other, opened-there, width-there}
use Rattle.lb_page.proofs.Standing.{first_width-push_first, first_width-push_more, on_page-top, pushed-more, pushed-top, without_top-push}
use Rattle.lb_page.proofs.Totalling.{glue_no_foot}

-- ---- the glue before the first box or rule

filter_at : (p : Node → Bool) (page other : List Node) (items : List Node) → items ≡ filter p page → page ≡ other → items ≡ filter p other
filter_at p page other items is same = is ∙ ap (filter p) same

pub items-there : (rules : PageRules) (nodes : List Node) (node : Node) (topped : Bool) (items : List Node) → topped ≡ true → topped ≡ is_some (first_width rules nodes) → items ≡ filter stays (with_top_glue rules nodes) → (items ≡ filter stays (opened rules nodes node)) × (topped ≡ is_some (first_width rules (nodes ++ node ∷ [])))
items-there rules nodes node topped items already is same =
    let some : is_some (first_width rules nodes) ≡ true = sym is ∙ already in (
      filter_at stays _ _ items same (sym (opened-there rules nodes node (first_width rules nodes) some)),
      is ∙ ap is_some (sym (width-there rules nodes node (first_width rules nodes) some refl)),
    )

pub items-other : (rules : PageRules) (nodes : List Node) (node : Node) (topped : Bool) (items : List Node) → is_block node ≡ false → topped ≡ is_some (first_width rules nodes) → items ≡ filter stays (with_top_glue rules nodes) → (items ≡ filter stays (opened rules nodes node)) × (topped ≡ is_some (first_width rules (nodes ++ node ∷ [])))
items-other rules nodes node topped items other is same = (
  filter_at stays _ _ items same (sym (opened-other rules nodes node (first_width rules nodes) other)),
  is ∙ ap is_some (sym (first_width-push_more rules nodes node other)),
)

kept_alone : (node : Node) → is_foot node ≡ false → filter stays (node ∷ []) ≡ node ∷ []
kept_alone node foot = ap (λ (b : Bool). if not b then node ∷ [] else []) foot

no_foot_alone : (node : Node) → is_foot node ≡ false → filter is_foot (node ∷ []) ≡ []
no_foot_alone node foot = ap (λ (b : Bool). if b then node ∷ [] else []) foot

pub items-first : (rules : PageRules) (nodes : List Node) (node : Node) (topped : Bool) (items : List Node) (more : List Node) → topped ≡ false → is_block node ≡ true → topped ≡ is_some (first_width rules nodes) → items ≡ filter stays (with_top_glue rules nodes) → more ≡ items ++ top_glue rules node ∷ [] → (more ≡ filter stays (opened rules nodes node)) × (true ≡ is_some (first_width rules (nodes ++ node ∷ [])))
items-first rules nodes node topped items more none block is same added =
    let some : is_some (first_width rules nodes) ≡ false = sym is ∙ none in
    let glue = top_glue rules node in (
      added ∙ ap (λ (ns : List Node). ns ++ glue ∷ []) same ∙ ap (λ (ns : List Node). filter stays (with_top_glue rules nodes) ++ ns) (sym (kept_alone glue (glue_no_foot _)))
          ∙ sym (filter-append stays (with_top_glue rules nodes) (glue ∷ [])) ∙ ap (filter stays) (sym (opened-first rules nodes node (first_width rules nodes) some block)),
      ap is_some (sym (first_width-push_first rules nodes node (none_from (first_width rules nodes) some) block)),
    )

-- the glue is no footnote
append_none : (xs : List Node) → xs ++ [] ≡ xs
append_none [] = refl
append_none (x ∷ xs) = ap (λ (ns : List Node). x ∷ ns) (append_none xs)

feet_first : (rules : PageRules) (nodes : List Node) (node : Node) (b : Bool) → is_block node ≡ b → filter is_foot (if b then with_top_glue rules nodes ++ top_glue rules node ∷ [] else with_top_glue rules nodes) ≡ filter is_foot (with_top_glue rules nodes)
feet_first rules nodes node true is = filter-append is_foot (with_top_glue rules nodes) (top_glue rules node ∷ []) ∙ ap (λ (ns : List Node). filter is_foot (with_top_glue rules nodes) ++ ns) (no_foot_alone (top_glue rules node) (glue_no_foot _)) ∙ append_none (filter is_foot (with_top_glue rules nodes))
feet_first rules nodes node false is = refl

feet_by : (rules : PageRules) (nodes : List Node) (node : Node) (o : Option ℤ) → filter is_foot (opened_by rules nodes node o) ≡ filter is_foot (with_top_glue rules nodes)
feet_by rules nodes node (Some width) = refl
feet_by rules nodes node None = feet_first rules nodes node (is_block node) refl

-- ---- a node more

pub filling_at : (rules : PageRules) (front : List Node) (filling : Filling) → IsFilling rules front filling → (filling.items.items ≡ filter stays (with_top_glue rules (without_top front))) × (filling.feet.items ≡ filter is_foot (with_top_glue rules (without_top front)))
unfolding on_page
filling_at rules front filling is = (is.items, is.feet)

pub IsFilling-top : (rules : PageRules) (front : List Node) (node : Node) (filling : Filling) (d : Bool) → not (filling.begun || not d) ≡ true → d ≡ is_discardable node → IsFilling rules front filling → IsFilling rules (front ++ node ∷ []) filling
IsFilling-top rules front node filling d goes is filled =
    let none : is_begun front ≡ false = sym filled.begun ∙ begun_no filling.begun d goes in
    let discardable : is_discardable node ≡ true = sym is ∙ discardable_yes filling.begun d goes in
    let left : without_top (front ++ node ∷ []) ≡ without_top front = without_top-push front node ∙ pushed-top (without_top front) node none discardable in
    let page = sym (on_page-top rules front node none discardable) in
    record {
      items = filled.items ∙ ap (filter stays) page;
      feet = filled.feet ∙ ap (filter is_foot) page;
      begun = filled.begun ∙ ap is_some_left (sym left);
      topped = filled.topped ∙ ap (λ (ns : List Node). is_some (first_width rules ns)) (sym left);
    }

pub IsFilling-more : (rules : PageRules) (front : List Node) (node : Node) (old between new : Filling) (d : Bool) → not (old.begun || not d) ≡ false → d ≡ is_discardable node → IsFilling rules front old → (between.items.items ≡ filter stays (opened rules (without_top front) node)) × (between.topped ≡ is_some (first_width rules (without_top front ++ node ∷ []))) → between.feet.items ≡ old.feet.items → new.items.items ≡ between.items.items ++ filter stays (node ∷ []) → new.feet.items ≡ between.feet.items ++ filter is_foot (node ∷ []) → new.begun ≡ true → new.topped ≡ between.topped → IsFilling rules (front ++ node ∷ []) new
IsFilling-more rules front node old between new d remains is filled ready feet items more_feet begun topped =
    let left : without_top (front ++ node ∷ []) ≡ without_top front ++ node ∷ [] = without_top-push front node ∙ pushed-more (without_top front) node (ap (λ (b : Bool). b || not (is_discardable node)) (sym filled.begun) ∙ ap (λ (b : Bool). old.begun || not b) (sym is) ∙ stays_yes old.begun d remains) in
    let page = on_page-opened rules front node left in
    let opens = opened rules (without_top front) node in
    let at = filling_at rules front old filled in
    record {
      items = items ∙ ap (λ (ns : List Node). ns ++ filter stays (node ∷ [])) ready.0 ∙ sym (filter-append stays opens (node ∷ [])) ∙ ap (filter stays) (sym page);
      feet = more_feet ∙ ap (λ (ns : List Node). ns ++ filter is_foot (node ∷ [])) (feet ∙ at.1 ∙ sym (feet_by rules (without_top front) node (first_width rules (without_top front)))) ∙ sym (filter-append is_foot opens (node ∷ [])) ∙ ap (filter is_foot) (sym page);
      begun = begun ∙ sym (some_left (without_top front) node) ∙ ap is_some_left (sym left);
      topped = topped ∙ ready.1 ∙ ap (λ (ns : List Node). is_some (first_width rules ns)) (sym left);
    }
