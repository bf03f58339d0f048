-- What the tests of a vector and of a choice decide.
use Rattle.std.proofs.Common.{◌≡◌, ℕ, ◌-◌, ◌/◌, ◌%◌, ◌^◌, ◌<◌, ◌≤◌, Bool, ◌&&◌, ltb, leb, Decides, ap, ◌∙◌, ⊎_elim, arith, lit≤}
use native.Mathlib.Nat.{zero-div, div-eq_of_lt, pow-le-pow_right}
use Rattle.std.proofs.lemmas.Bool.{cases_lt}
use Rattle.std.proofs.lemmas.Bool.Decides.{Decides-at, Decides-like, Decides-and, Decides-ltb, nat_tests}
use Rattle.game.specs.Structure.{Structure, Limits, Vector, Choice, Reply, Member}
use Rattle.game.specs.Lists.{member, own, other, highest, under}
use Rattle.game.proofs.Walk.{Digits}
use Rattle.game.proofs.Members.{Box}
use Rattle.game.proofs.Under.{decides_under}
use Rattle.game.proofs.Division.{own_digits, other_digits, choice_box, box_choice, reply_box, box_reply}

-- nobody has no member
pub nobody : (a : ℕ) → Member a 0 → ⊥
nobody a h = omega (arith, ap (λ x. x % 2) (zero-div (2 ^ (a - 1))), h)

module _ (m : Structure) (L : Limits m) (q : ℕ) where
  -- a state that is not there has no vector
  pub no_vector : (v : ℕ) → m.states ≤ q → Vector m q v → ⊥
  no_vector v l h =
      let e = L.no_move 1 q (λ k. omega arith) in
      let p = h.each 1 (lit≤ tt, L.some_player) in
      omega arith

  vector_reply : (v : ℕ) → Vector m q v → Reply m 0 q v
  vector_reply v h = record { members = λ a p i. absurd (nobody a i); others = λ a p i. h.each a p; rest = h.rest }

  reply_vector : (v : ℕ) → Reply m 0 q v → Vector m q v
  reply_vector v h = record { each = λ a p. h.others a p (nobody a); rest = h.rest }

  -- the state is there, and the number under the limits d of one of its sides
  decides_there : (d : ℕ → ℕ) → Digits d → (h v : ℕ) (b : Bool) (P : Type 0) → h ≡ highest d 0 m.players → b ≡ (ltb q m.states && under m.players h v)
      → (q < m.states → Box d 0 m.players v → P) → (P → (q < m.states) × Box d 0 m.players v) → Decides b P
  decides_there d digits h v b P f s to from =
      Decides-at b _ (s ∙ ap (λ x. ltb q m.states && under m.players x v) f)
      (Decides-like _ (λ k. to k.0 k.1) from (Decides-and _ _ (Decides-ltb q m.states) (decides_under d digits 0 m.players v)))

  pub tests_vector : (h v : ℕ) (b : Bool) → h ≡ highest (other m 0 q) 0 m.players → b ≡ (ltb q m.states && under m.players h v) → Decides b (Vector m q v)
  tests_vector h v b f s =
      decides_there (other m 0 q) (other_digits m 0 q L) h v b (Vector m q v) f s
      (λ l k. reply_vector v (box_reply m 0 q L l v k))
      (λ k. (⊎_elim (λ (l : q < m.states). l) (λ (l : m.states ≤ q). absurd (no_vector v l k)) (cases_lt q m.states), reply_box m 0 q v (vector_reply v k)))

  pub tests_choice : (A h v : ℕ) (b : Bool) → h ≡ highest (own m A q) 0 m.players → b ≡ (ltb q m.states && under m.players h v) → Decides b ((q < m.states) × Choice m A q v)
  tests_choice A h v b f s =
      decides_there (own m A q) (own_digits m A q L) h v b ((q < m.states) × Choice m A q v) f s
      (λ l k. (l, box_choice m A q L l v k))
      (λ k. (k.0, choice_box m A q v k.1))

-- a group has eight bits
pub no_ninth : (A a : ℕ) → A < 2 ^ 8 → 8 < a → leb a 8 ≡ member a A
no_ninth A a l h =
    let e : A / 2 ^ (a - 1) ≡ 0 = div-eq_of_lt (omega (arith, pow-le-pow_right {n = 2} (lit≤ tt) {i = 8} {j = a - 1} (omega arith))) in
    rw e (grind (arith, nat_tests))
