-- No label above 15 stands anywhere, and no group has a member above 8.
use Rattle.std.proofs.Common.{◌≡◌, ℕ, ◌/◌, ◌%◌, ◌^◌, ◌<◌, ◌≤◌, false, nat_le, sym, ap, arith, lit≤}
use native.Mathlib.Nat.{div-eq_of_lt, pow-le-pow_right}
use Rattle.std.proofs.lemmas.Bool.{ne_eqb, lt-leb}
use Rattle.game.specs.Structure.{Structure, Limits}
use Rattle.atl.specs.Rounds.{labelled}

pub no_such_label : (m : Structure) → Limits m → (l q : ℕ) → 16 ≤ l → false ≡ labelled m l q
no_such_label m L l q h =
    let p : 2 ^ 16 ≤ 2 ^ l = pow-le-pow_right {n = 2} (lit≤ tt) h in
    let small : m.labels q < 2 ^ l = omega (arith, L.sixteen q) in
    let z : m.labels q / 2 ^ l ≡ 0 = div-eq_of_lt small in
    sym (ne_eqb (m.labels q / 2 ^ l % 2) 1 (λ e. omega (arith, e, ap (λ x. x % 2) z)))

pub no_such_member : (A p : ℕ) → A < 2 ^ 8 → 8 ≤ p → false ≡ nat_le (2 ^ p) A
no_such_member A p small h =
    let q : 2 ^ 8 ≤ 2 ^ p = pow-le-pow_right {n = 2} (lit≤ tt) h in
    sym (lt-leb (2 ^ p) A (omega arith))
