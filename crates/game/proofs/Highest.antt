-- One player more in the highest numbers of a state's two sides.
use Rattle.std.proofs.Common.{◌≡◌, ℕ, ◌+◌, ◌-◌, ◌*◌, ◌^◌, ◌<◌, ◌≤◌, true, false, sym, refl, ap, ◌∙◌, arith, lit≤}
use native.Mathlib.Nat.{pow-le-pow_right}
use Rattle.std.proofs.lemmas.Bool.{cond-true, cond-false}
use Rattle.game.specs.Structure.{Structure, Limits}
use Rattle.game.specs.Lists.{highest, own, other, member}
use Rattle.game.proofs.Walk.{Digits, highest_below, highest_more}
use Rattle.game.proofs.Division.{moves_digit, own_digits, other_digits}

pub below_most : (n k v : ℕ) → n ≤ k → v < 16 ^ n → v < 16 ^ k
below_most n k v l h = omega (arith, pow-le-pow_right {n = 16} (lit≤ tt) l)

-- the limits of the players from the last down
pub highest_none : (d : ℕ → ℕ) (a n : ℕ) → n ≡ 0 → 0 ≡ highest d a n
unfolding highest
highest_none d a n e = rw e refl

pub highest_small : (d : ℕ → ℕ) (a p x : ℕ) → Digits d → 0 < a → a ≤ p → p ≤ 6 → x ≡ highest d a (p - a) → x < 2 ^ 20
highest_small d a p x h l k s e = below_most (p - a) 5 x (omega arith) (omega (arith, highest_below d a (p - a) h))

pub highest_turn : (d : ℕ → ℕ) (a p x k : ℕ) → 0 < a → a ≤ p → x ≡ highest d a (p - a) → k ≡ d a → x * 16 + k ≡ highest d (a - 1) (p - (a - 1))
highest_turn d a p x k l b e f = omega (arith, highest_more d a p l b)

-- the sides of a state, with the players after a: a is a player, and n its moves
pub record Passed (m : Structure) (A q a p x y : ℕ) : Type 0 where
  pub choice : x ≡ highest (own m A q) a (p - a)
  pub reply : y ≡ highest (other m A q) a (p - a)

module _ {m : Structure} (L : Limits m) {A q a p x y n : ℕ} (e : p ≡ m.players) (l : 1 ≤ a) (b : a ≤ p) (f : n ≡ m.moves a q) (h : Passed m A q a p x y) where
  pub rooms : (x < 2 ^ 20) × (y < 2 ^ 20) × (n ≤ 15)
  rooms = (
    highest_small (own m A q) a p x (own_digits m A q L) (omega arith) b (omega (arith, L.six)) h.choice,
    highest_small (other m A q) a p y (other_digits m A q L) (omega arith) b (omega (arith, L.six)) h.reply,
    omega (arith, moves_digit m L q a),
  )

  pub own_turn : member a A ≡ true → Passed m A q (a - 1) p (x * 16 + n) (y * 16)
  own_turn i = record {
    choice = highest_turn (own m A q) a p x n (omega arith) b h.choice (f ∙ sym (cond-true (member a A) (m.moves a q) 0 i));
    reply = omega (arith, highest_turn (other m A q) a p y 0 (omega arith) b h.reply (sym (cond-true (member a A) 0 (m.moves a q) i)));
  }

  pub other_turn : member a A ≡ false → Passed m A q (a - 1) p (x * 16) (y * 16 + n)
  other_turn i = record {
    choice = omega (arith, highest_turn (own m A q) a p x 0 (omega arith) b h.choice (sym (cond-false (member a A) (m.moves a q) 0 i)));
    reply = highest_turn (other m A q) a p y n (omega arith) b h.reply (f ∙ sym (cond-false (member a A) 0 (m.moves a q) i));
  }

-- the sides of all players
pub all_passed : {m : Structure} {A q a p x y : ℕ} → p ≡ m.players → a ≡ 0 → Passed m A q a p x y → (x ≡ highest (own m A q) 0 m.players) × (y ≡ highest (other m A q) 0 m.players)
all_passed {m} {A} {q} {a} {p} e z h = (h.choice ∙ whole (own m A q), h.reply ∙ whole (other m A q))
  where
    whole : (d : ℕ → ℕ) → highest d a (p - a) ≡ highest d 0 m.players
    whole d = let s : p - a ≡ m.players = omega arith in ap (λ k. highest d k (p - a)) z ∙ ap (highest d 0) s
