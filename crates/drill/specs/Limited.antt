-- The drill keeps to the limits of a game.
use Rattle.std.specs.Prelude.{ℕ, ◌+◌, ◌*◌, ◌^◌, ◌<◌, ◌≤◌, ◌==◌, nat_le, nat_lt}
use Rattle.std.proofs.Common.{arith, lit≤}
use Rattle.std.proofs.lemmas.Nat.{mul-le}
use Rattle.std.proofs.lemmas.Bool.{cond_both, ltb-true}
use Rattle.game.specs.Structure.{Limits, product, move_of}
use Rattle.game.proofs.Making.{made_limits}
use Rattle.drill.specs.Meaning.{counts, labels, lost, try, lead, drill, answered, given_up, gateway, line, hold, carry}

one_or_two : (T a s : ℕ) → (1 ≤ counts T a s) × (counts T a s ≤ 2)
one_or_two T a s = cond_both (nat_le s T) 2 1 (λ x. (1 ≤ x) × (x ≤ 2)) (λ e. (lit≤ tt, lit≤ tt)) (λ e. (lit≤ tt, lit≤ tt))

four : (T s : ℕ) → product (λ a. counts T a s) 2 ≤ 4096
four T s = omega (arith, mul-le (counts T 2 s) (counts T 1 s * 1) 2 2 (one_or_two T 2 s).1 (omega (arith, (one_or_two T 1 s).1)))

few_labels : (T s : ℕ) → labels T s < 2 ^ 16
few_labels T s = cond_both (s == answered T) 0x100 _ (λ x. x < 2 ^ 16) (λ e. omega arith) (λ e. cond_both (s == given_up T) 1 0 (λ x. x < 2 ^ 16) (λ k. omega arith) (λ k. omega arith))

lost_inside : (T s : ℕ) → lost T s < T + 3
lost_inside T s = cond_both (nat_lt s T) (s + 1) (given_up T) (λ x. x < T + 3) (λ e. omega (arith, ltb-true s T e)) (λ e. omega arith)

inside : (T s v : ℕ) → s < T + 3 → lead T s v < T + 3
inside T s v l =
    cond_both (nat_le s T) (try T s v) s (λ x. x < T + 3)
    (λ e. cond_both (move_of gateway v == hold) s _ (λ x. x < T + 3) (λ k. l)
    (λ k. cond_both (move_of line v == carry) (answered T) (lost T s) (λ x. x < T + 3) (λ i. omega arith) (λ i. lost_inside T s)))
    (λ e. l)

pub drill_limits : (T : ℕ) → T ≤ 253 → Limits (drill T)
drill_limits T top = made_limits 2 (T + 3) 0 (counts T) (labels T) (lead T) (record {
  some_player = lit≤ tt;
  six = lit≤ tt;
  some_state = omega arith;
  many = omega arith;
  started = omega arith;
  count = λ a s. let h = one_or_two T a s in (h.0, omega arith);
  few_vectors = four T;
  sixteen = few_labels T;
  leads = inside T;
})
