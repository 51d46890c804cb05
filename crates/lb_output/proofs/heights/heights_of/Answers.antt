use Rattle.std.proofs.Common.{◌≡◌, ◌∙◌, ap, sym, ℤ, pos, ◌+ℤ◌, to_z, of_z, w64, arith}
use Rattle.std.proofs.lemmas.Int.{ints}
use Rattle.std.specs.Option.{is_some}
use Rattle.lb_model_paper.specs.Dvi.{is_small}
use Rattle.lb_model_paper.specs.PageBoxes.{are_small_behind, feet_lengths, page_height}
use Rattle.lb_output.specs.Heights.{above, feet_room, lengths_above}
use Rattle.lb_output.proofs.Behind.{fails_1, fails_2, fails_3, fails_4, heights-small, last_is, small-at}
use Rattle.lb_output.proofs.heights.heights_of.Goals as goal

pub returns-in_default-clause-small : goal.returns-in_default-clause-small
returns-in_default-clause-small c =
    let held : ℤ → ℤ = λ z. to_z w64 (of_z w64 z) in
    let l = c.args.lengths.now in
    let feet = c.args.feet.now in
    let body = above l +ℤ c.args.goal in
    let t_a = are_small_behind (pos 0) (lengths_above l) in
    let t_b = is_small body in
    let t_c = are_small_behind body (feet_lengths feet) in
    let t_d = is_small ((body +ℤ feet_room feet) +ℤ l.footskip) in
    let t_e = is_small (page_height l) in
    fails_1 t_a t_b t_c t_d t_e (sym c.above_body.ensures.small ∙ ap is_some c.in_default.is) ∙ sym (heights-small l c.args.goal feet)

pub returns-in_default-add-clause-small : goal.returns-in_default-add-clause-small
returns-in_default-add-clause-small c =
    let held : ℤ → ℤ = λ z. to_z w64 (of_z w64 z) in
    let l = c.args.lengths.now in
    let feet = c.args.feet.now in
    let body = above l +ℤ c.args.goal in
    let t_a = are_small_behind (pos 0) (lengths_above l) in
    let t_b = is_small body in
    let t_c = are_small_behind body (feet_lengths feet) in
    let t_d = is_small ((body +ℤ feet_room feet) +ℤ l.footskip) in
    let t_e = is_small (page_height l) in
    let a = sym c.above_body.ensures.small ∙ ap is_some c.in-Some.is in
    let e_above : held c.in-Some.above ≡ above l = omega (arith, ints, c.in-Some.ensures.sum.is) in
    let e_goal : held c.args.goal ≡ c.args.goal = omega (arith, ints) in
    let b_is = small-at c.add.result (held c.in-Some.above) (held c.args.goal) (above l) c.args.goal c.add.ensures.small e_above e_goal in
    fails_2 t_a t_b t_c t_d t_e a (sym b_is ∙ ap is_some c.in_default-add.is) ∙ sym (heights-small l c.args.goal feet)

pub returns-in_default-end_of_feet-clause-small : goal.returns-in_default-end_of_feet-clause-small
returns-in_default-end_of_feet-clause-small c =
    let held : ℤ → ℤ = λ z. to_z w64 (of_z w64 z) in
    let l = c.args.lengths.now in
    let feet = c.args.feet.now in
    let body = above l +ℤ c.args.goal in
    let t_a = are_small_behind (pos 0) (lengths_above l) in
    let t_b = is_small body in
    let t_c = are_small_behind body (feet_lengths feet) in
    let t_d = is_small ((body +ℤ feet_room feet) +ℤ l.footskip) in
    let t_e = is_small (page_height l) in
    let a = sym c.above_body.ensures.small ∙ ap is_some c.in-Some.is in
    let e_above : held c.in-Some.above ≡ above l = omega (arith, ints, c.in-Some.ensures.sum.is) in
    let e_goal : held c.args.goal ≡ c.args.goal = omega (arith, ints) in
    let b_is = small-at c.add.result (held c.in-Some.above) (held c.args.goal) (above l) c.args.goal c.add.ensures.small e_above e_goal in
    let b = sym b_is ∙ ap is_some c.in-Some-add.is in
    let e_body : held c.in-Some-add.body ≡ body = omega (arith, ints, c.in-Some.ensures.sum.is, c.in-Some-add.ensures.sum.is) in
    let c_is = c.end_of_feet.ensures.small ∙ ap (λ (z : ℤ). are_small_behind z (feet_lengths feet)) e_body in
    fails_3 t_a t_b t_c t_d t_e a b (sym c_is ∙ ap is_some c.in_default-end_of_feet.is) ∙ sym (heights-small l c.args.goal feet)

pub returns-in_default-add-2-clause-small : goal.returns-in_default-add-2-clause-small
returns-in_default-add-2-clause-small c =
    let held : ℤ → ℤ = λ z. to_z w64 (of_z w64 z) in
    let l = c.args.lengths.now in
    let feet = c.args.feet.now in
    let body = above l +ℤ c.args.goal in
    let t_a = are_small_behind (pos 0) (lengths_above l) in
    let t_b = is_small body in
    let t_c = are_small_behind body (feet_lengths feet) in
    let t_d = is_small ((body +ℤ feet_room feet) +ℤ l.footskip) in
    let t_e = is_small (page_height l) in
    let a = sym c.above_body.ensures.small ∙ ap is_some c.in-Some.is in
    let e_above : held c.in-Some.above ≡ above l = omega (arith, ints, c.in-Some.ensures.sum.is) in
    let e_goal : held c.args.goal ≡ c.args.goal = omega (arith, ints) in
    let b_is = small-at c.add.result (held c.in-Some.above) (held c.args.goal) (above l) c.args.goal c.add.ensures.small e_above e_goal in
    let b = sym b_is ∙ ap is_some c.in-Some-add.is in
    let e_body : held c.in-Some-add.body ≡ body = omega (arith, ints, c.in-Some.ensures.sum.is, c.in-Some-add.ensures.sum.is) in
    let c_is = c.end_of_feet.ensures.small ∙ ap (λ (z : ℤ). are_small_behind z (feet_lengths feet)) e_body in
    let d = sym c_is ∙ ap is_some c.in-Some-end_of_feet.is in
    let e_end : held c.in-Some-end_of_feet.end ≡ body +ℤ feet_room feet = omega (arith, ints, c.in-Some.ensures.sum.is, c.in-Some-add.ensures.sum.is, c.in-Some-end_of_feet.ensures.sum.is) in
    let e_skip : held c.from.result ≡ l.footskip = omega (arith, ints) in
    let d_is = small-at c.add-2.result (held c.in-Some-end_of_feet.end) (held c.from.result) (body +ℤ feet_room feet) l.footskip c.add-2.ensures.small e_end e_skip in
    fails_4 t_a t_b t_c t_d t_e a b d (sym d_is ∙ ap is_some c.in_default-add-2.is) ∙ sym (heights-small l c.args.goal feet)

pub returns-in_default-add-3-clause-small : goal.returns-in_default-add-3-clause-small
returns-in_default-add-3-clause-small c =
    let held : ℤ → ℤ = λ z. to_z w64 (of_z w64 z) in
    let l = c.args.lengths.now in
    let feet = c.args.feet.now in
    let body = above l +ℤ c.args.goal in
    let t_a = are_small_behind (pos 0) (lengths_above l) in
    let t_b = is_small body in
    let t_c = are_small_behind body (feet_lengths feet) in
    let t_d = is_small ((body +ℤ feet_room feet) +ℤ l.footskip) in
    let t_e = is_small (page_height l) in
    let a = sym c.above_body.ensures.small ∙ ap is_some c.in-Some.is in
    let e_above : held c.in-Some.above ≡ above l = omega (arith, ints, c.in-Some.ensures.sum.is) in
    let e_goal : held c.args.goal ≡ c.args.goal = omega (arith, ints) in
    let b_is = small-at c.add.result (held c.in-Some.above) (held c.args.goal) (above l) c.args.goal c.add.ensures.small e_above e_goal in
    let b = sym b_is ∙ ap is_some c.in-Some-add.is in
    let e_body : held c.in-Some-add.body ≡ body = omega (arith, ints, c.in-Some.ensures.sum.is, c.in-Some-add.ensures.sum.is) in
    let c_is = c.end_of_feet.ensures.small ∙ ap (λ (z : ℤ). are_small_behind z (feet_lengths feet)) e_body in
    let d = sym c_is ∙ ap is_some c.in-Some-end_of_feet.is in
    let e_end : held c.in-Some-end_of_feet.end ≡ body +ℤ feet_room feet = omega (arith, ints, c.in-Some.ensures.sum.is, c.in-Some-add.ensures.sum.is, c.in-Some-end_of_feet.ensures.sum.is) in
    let e_skip : held c.from.result ≡ l.footskip = omega (arith, ints) in
    let d_is = small-at c.add-2.result (held c.in-Some-end_of_feet.end) (held c.from.result) (body +ℤ feet_room feet) l.footskip c.add-2.ensures.small e_end e_skip in
    let f = sym d_is ∙ ap is_some c.in-Some-add-2.is in
    let e_page : pos 0 +ℤ held c.page_height.result ≡ page_height l = omega (arith, ints, c.page_height.ensures) in
    let e_is = c.add-3.ensures.small ∙ ap (λ (z : ℤ). is_small z) e_page in
    last_is t_a t_b t_c t_d t_e _ a b d f (sym (ap is_some c.in_default-add-3.is) ∙ e_is) ∙ sym (heights-small l c.args.goal feet)

pub returns-clause-small : goal.returns-clause-small
returns-clause-small c =
    let held : ℤ → ℤ = λ z. to_z w64 (of_z w64 z) in
    let l = c.args.lengths.now in
    let feet = c.args.feet.now in
    let body = above l +ℤ c.args.goal in
    let t_a = are_small_behind (pos 0) (lengths_above l) in
    let t_b = is_small body in
    let t_c = are_small_behind body (feet_lengths feet) in
    let t_d = is_small ((body +ℤ feet_room feet) +ℤ l.footskip) in
    let t_e = is_small (page_height l) in
    let a = sym c.above_body.ensures.small ∙ ap is_some c.in-Some.is in
    let e_above : held c.in-Some.above ≡ above l = omega (arith, ints, c.in-Some.ensures.sum.is) in
    let e_goal : held c.args.goal ≡ c.args.goal = omega (arith, ints) in
    let b_is = small-at c.add.result (held c.in-Some.above) (held c.args.goal) (above l) c.args.goal c.add.ensures.small e_above e_goal in
    let b = sym b_is ∙ ap is_some c.in-Some-add.is in
    let e_body : held c.in-Some-add.body ≡ body = omega (arith, ints, c.in-Some.ensures.sum.is, c.in-Some-add.ensures.sum.is) in
    let c_is = c.end_of_feet.ensures.small ∙ ap (λ (z : ℤ). are_small_behind z (feet_lengths feet)) e_body in
    let d = sym c_is ∙ ap is_some c.in-Some-end_of_feet.is in
    let e_end : held c.in-Some-end_of_feet.end ≡ body +ℤ feet_room feet = omega (arith, ints, c.in-Some.ensures.sum.is, c.in-Some-add.ensures.sum.is, c.in-Some-end_of_feet.ensures.sum.is) in
    let e_skip : held c.from.result ≡ l.footskip = omega (arith, ints) in
    let d_is = small-at c.add-2.result (held c.in-Some-end_of_feet.end) (held c.from.result) (body +ℤ feet_room feet) l.footskip c.add-2.ensures.small e_end e_skip in
    let f = sym d_is ∙ ap is_some c.in-Some-add-2.is in
    let e_page : pos 0 +ℤ held c.page_height.result ≡ page_height l = omega (arith, ints, c.page_height.ensures) in
    let e_is = c.add-3.ensures.small ∙ ap (λ (z : ℤ). is_small z) e_page in
    last_is t_a t_b t_c t_d t_e _ a b d f (sym (ap is_some c.in-Some-add-3.is) ∙ e_is) ∙ sym (heights-small l c.args.goal feet)

pub overflow_cast-result : goal.overflow_cast-result
overflow_cast-result c = omega (arith, ints, c.in-Some.ensures.sum, c.in-Some-add.ensures.sum)

pub overflow_sub-result : goal.overflow_sub-result
overflow_sub-result c = omega (arith, ints, c.in-Some.ensures.sum.small, c.in-Some-end_of_feet.ensures.sum.small)

pub overflow_cast-result-2 : goal.overflow_cast-result-2
overflow_cast-result-2 c = omega (arith, ints, c.in-Some.ensures.sum.small, c.in-Some-end_of_feet.ensures.sum.small)

pub returns-clause-heights : goal.returns-clause-heights
returns-clause-heights c =
    let held : ℤ → ℤ = λ z. to_z w64 (of_z w64 z) in
    let l = c.args.lengths.now in
    let feet = c.args.feet.now in
    let body = above l +ℤ c.args.goal in
    let t_a = are_small_behind (pos 0) (lengths_above l) in
    let t_b = is_small body in
    let t_c = are_small_behind body (feet_lengths feet) in
    let t_d = is_small ((body +ℤ feet_room feet) +ℤ l.footskip) in
    let t_e = is_small (page_height l) in
    record {
      body = omega (arith, ints, c.in-Some.ensures.sum, c.in-Some-add.ensures.sum);
      used = omega (arith, ints, c.in-Some.ensures.sum, c.in-Some-add.ensures.sum, c.in-Some-end_of_feet.ensures.sum);
      least = omega (arith, ints, c.in-Some.ensures.sum.small, c.in-Some-end_of_feet.ensures.sum.small);
      page = omega (arith, ints, c.page_height.ensures, c.in-Some-add-3.ensures.sum);
    }
