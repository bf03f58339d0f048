-- Rounds that mark something are at most as many as the states.
use Rattle.std.proofs.Common.{◌≡◌, ℕ, zero, suc, ◌+◌, ◌<◌, ◌≤◌, Bool, true, false, cond, not, ◌&&◌, ◌||◌, refl, ap, ◌∙◌, zero-le, arith}
use Rattle.std.proofs.lemmas.Bool.{both_ways, eqb-false, true≢false}
use Rattle.game.specs.Structure.{Structure}
use Rattle.atl.specs.declared.Kind.{Kind}
use Rattle.atl.specs.declared.Kind.TheVariants.{Label, Not, Or, Strategic}
use Rattle.atl.specs.declared.Temporal.TheVariants.{Next, Until, Unless}
use Rattle.atl.specs.declared.Mark.{Mark}
use Rattle.atl.specs.Rounds.{is_open, labelled, once, until_marks, unless_marks, marks, tally, newly, settles, Power, holds}

-- a state that has a mark keeps it
abbrev pub Lasting : (ℕ → ℕ → Mark) → Type 0
Lasting M = (k q : ℕ) → is_open (M k q) ≡ false → M (suc k) q ≡ M k q

kept : (x y : Mark) (b : Bool) → is_open x ≡ false → cond (is_open x && b) y x ≡ x
kept x y b e = rw e

once_lasting : (b : ℕ → Bool) → Lasting (λ k q. once (b q) k)
once_lasting b zero q e = absurd (true≢false e)
once_lasting b (suc k) q e = refl

until_lasting : (hold : Power) (R S : ℕ → Bool) → Lasting (until_marks hold R S)
until_lasting hold R S zero q e = absurd (true≢false e)
until_lasting hold R S (suc k) q e = kept (until_marks hold R S (suc k) q) _ _ e

unless_lasting : (hold : Power) (R S : ℕ → Bool) → Lasting (unless_marks hold R S)
unless_lasting hold R S zero q e = absurd (true≢false e)
unless_lasting hold R S (suc k) q e = kept (unless_marks hold R S (suc k) q) _ _ e

pub lasting : (m : Structure) (f : Kind) (A l : ℕ) (R S : ℕ → Bool) → Lasting (marks m f A l R S)
lasting m Label A l R S = once_lasting (labelled m l)
lasting m Not A l R S = once_lasting (λ q. not (R q))
lasting m Or A l R S = once_lasting (λ q. R q || S q)
lasting m (Strategic w Next) A l R S = once_lasting (λ q. holds m w A q R)
lasting m (Strategic w Until) A l R S = until_lasting (holds m w A) R S
lasting m (Strategic w Unless) A l R S = unless_lasting (holds m w A) R S

abbrev marked : (ℕ → ℕ → Mark) → ℕ → ℕ → Bool
marked M k q = not (is_open (M k q))

tally_le : (p : ℕ → Bool) (n : ℕ) → tally p n ≤ n
tally_le p zero = zero-le
tally_le p (suc n) = go (p n) (tally_le p n)
  where
    go : (b : Bool) → tally p n ≤ n → cond b 1 0 + tally p n ≤ suc n
    go true h = omega arith
    go false h = omega arith

module _ (M : ℕ → ℕ → Mark) (lasts : Lasting M) where
  tally_newly : (k n : ℕ) → tally (marked M (suc k)) n ≡ tally (newly M k) n + tally (marked M k) n
  tally_newly k zero = refl
  tally_newly k (suc n) = go (is_open (M k n)) (is_open (M (suc k) n)) (λ e. ap is_open (lasts k n e) ∙ e) (tally_newly k n)
    where
      go : (b c : Bool) → (b ≡ false → c ≡ false) → tally (marked M (suc k)) n ≡ tally (newly M k) n + tally (marked M k) n
          → cond (not c) 1 0 + tally (marked M (suc k)) n ≡ (cond (b && not c) 1 0 + tally (newly M k) n) + (cond (not b) 1 0 + tally (marked M k) n)
      go true true h e = omega arith
      go true false h e = omega arith
      go false true h e = absurd (true≢false (h refl))
      go false false h e = omega arith

  -- each busy round marks one more
  rises : (n k : ℕ) → ((j : ℕ) → j < k → tally (newly M j) n ≡ 0 → ⊥) → k ≤ tally (marked M k) n
  rises n zero busy = zero-le
  rises n (suc k) busy = omega (arith, rises n k (λ j l. busy j (omega arith)), busy k (omega arith), tally_newly k n)

  pub few : (n k : ℕ) → ((j : ℕ) → j < k → tally (newly M j) n ≡ 0 → ⊥) → k ≤ n
  few n k busy = omega (arith, rises n k busy, tally_le (marked M k) n)

at_once : (s : ℕ → Bool) (n k : ℕ) → ((j : ℕ) → s (suc j) ≡ true) → ((j : ℕ) → 1 ≤ j → j ≤ k → s j ≡ false) → k ≤ n
at_once s n zero h busy = zero-le
at_once s n (suc k) h busy = absurd (both_ways (s 1) (busy 1 (omega arith) (omega arith)) (h 0))

-- if no round from the first to the k-th settles the rule, k is at most n
module _ (m : Structure) (A l : ℕ) (R S : ℕ → Bool) (n k : ℕ) where
  pub quiet_comes : (f : Kind) → ((j : ℕ) → 1 ≤ j → j ≤ k → settles n f (marks m f A l R S) j ≡ false) → k ≤ n
  quiet_comes Label busy = at_once (settles n Label (marks m Label A l R S)) n k (λ j. refl) busy
  quiet_comes Not busy = at_once (settles n Not (marks m Not A l R S)) n k (λ j. refl) busy
  quiet_comes Or busy = at_once (settles n Or (marks m Or A l R S)) n k (λ j. refl) busy
  quiet_comes (Strategic w Next) busy = at_once (settles n (Strategic w Next) (marks m (Strategic w Next) A l R S)) n k (λ j. refl) busy
  quiet_comes (Strategic w Until) busy = few (until_marks (holds m w A) R S) (lasting m (Strategic w Until) A l R S) n k (λ j b. eqb-false _ 0 (busy (suc j) (omega arith) (omega arith)))
  quiet_comes (Strategic w Unless) busy = few (unless_marks (holds m w A) R S) (lasting m (Strategic w Unless) A l R S) n k (λ j b. eqb-false _ 0 (busy (suc j) (omega arith) (omega arith)))
