use Rattle.std.proofs.Common.{slice_get, List, [], ℕ, ◌<◌, length, Bor, arith, ap, sym, ◌∙◌}
use Rattle.lb_rows.proofs.Named.{slice_get-keys}
use Rattle.lb_rows.proofs.rows.Rows.name.Goals as goal

pub returns : goal.returns
returns g c =
    let key = λ (row : Bor (List ℕ)). row.now in
    let refs = c.self.inside.names.now in
    let within : c.args.place < length refs = omega (arith, c.self.invariant) in
    let past : Bor (List ℕ) = record { ref_ptr = (0, 0); now = [] } in
    ap (λ rows. slice_get rows c.args.place) (sym c.self.view_is) ∙ slice_get-keys key refs c.args.place past within
