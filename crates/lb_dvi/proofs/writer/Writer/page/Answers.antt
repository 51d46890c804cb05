use Rattle.std.proofs.Common.{◌≡◌, ◌<◌, ◌≤◌, ◌+◌, length, arith, rules, w32, ap, ◌∙◌}
use Rattle.std.proofs.lemmas.Int.{to_z-of_z, to_z_pos}
use Rattle.std.specs.Int.{int_max}
use mir.Val.{SFits}
use Rattle.lb_model_paper.specs.Dvi.{Progress, fonts_through, page_bytes}
use Rattle.lb_dvi.proofs.Progresses.{progress-same, passes-none}
use Rattle.lb_dvi.proofs.writer.Writer.page.Goals as goal

pub returns-clause-after : goal.returns-clause-after
returns-clause-after c =
    let last : SFits w32 c.self.inside.last = search rules in
    let bytes : c.in_ok-out.out.items ≡ page_bytes c.self.inside.last c.self.inside.fonts.items c.args.code.now =
    rw (to_z-of_z w32 c.self.inside.last last) at c.in_ok-out.ensures.bytes in
    let long : length c.in_ok-out.out.items ≡ length (page_bytes c.self.inside.last c.self.inside.fonts.items c.args.code.now) = ap length bytes in
    let place : c.self.inside.place + c.len.result ≡ c.self.inside.place + length (page_bytes c.self.inside.last c.self.inside.fonts.items c.args.code.now) = omega arith in
    let below : c.self.inside.place < 2147483648 = omega arith in
    let old_height : SFits w32 c.self.inside.height = search rules in
    let old_width : SFits w32 c.self.inside.width = search rules in
    let page_height : SFits w32 c.args.code.now.height = search rules in
    let page_width : SFits w32 c.args.code.now.width = search rules in
    let height_fits : SFits w32 c.max-self-inside.result = search rules in
    let width_fits : SFits w32 c.max-self-inside-2.result = search rules in
    let height : c.max-self-inside.result ≡ int_max c.self.inside.height c.args.code.now.height =
    rw (to_z-of_z w32 c.self.inside.height old_height, to_z-of_z w32 c.args.code.now.height page_height) at c.max-self-inside.ensures.value in
    let width : c.max-self-inside-2.result ≡ int_max c.self.inside.width c.args.code.now.width =
    rw (to_z-of_z w32 c.self.inside.width old_width, to_z-of_z w32 c.args.code.now.width page_width) at c.max-self-inside-2.ensures.value in
    rw (← c.self.view_is)
    (progress-same _ _ _ _ _ _ _ _ _ _ _ place (to_z_pos w32 c.self.inside.place below) c.in_ok-out.ensures.fonts
    (to_z-of_z w32 c.max-self-inside.result height_fits ∙ height) (to_z-of_z w32 c.max-self-inside-2.result width_fits ∙ width))

pub returns-clause-limit : goal.returns-clause-limit
returns-clause-limit c =
    let last : SFits w32 c.self.inside.last = search rules in
    let bytes : c.in_ok-out.out.items ≡ page_bytes c.self.inside.last c.self.inside.fonts.items c.args.code.now =
    rw (to_z-of_z w32 c.self.inside.last last) at c.in_ok-out.ensures.bytes in
    let long : length c.in_ok-out.out.items ≡ length (page_bytes c.self.inside.last c.self.inside.fonts.items c.args.code.now) = ap length bytes in
    let pages : c.self.inside.pages < 65535 = omega arith in
    let fonts : length (fonts_through c.self.inside.fonts.items c.args.code.now.marks) ≤ 60 = rw c.in_ok-out.ensures.fonts at c.in_ok-out.ensures.usable.few in
    let place : c.self.inside.place + length (page_bytes c.self.inside.last c.self.inside.fonts.items c.args.code.now) ≤ 1073741824 = omega (arith, c.in_ok-out.ensures.short) in
    let before : Progress = record { pages = c.self.inside.pages; place = c.self.inside.place; last = c.self.inside.last; fonts = c.self.inside.fonts.items; height = c.self.inside.height; width = c.self.inside.width } in
    rw (← c.self.view_is) (passes-none before c.args.code.now pages fonts place)
