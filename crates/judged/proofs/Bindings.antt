-- The entries of the playbook are choices, so a binding takes them.
use Rattle.std.proofs.Common.{◌≡◌, ℕ, zero, suc, ◌<◌, ◌≤◌, List, set, replicate, Ok, Err, Result, sym, refl, subst, inl, inr, ⊎_elim, arith, lit<, lit≤}
use Rattle.std.proofs.lemmas.Bool.{cases_lt}
use Rattle.refusal.specs.declared.Refusal.{Refusal}
use Rattle.game.specs.Structure.{Structure, Player, Member, Plays, Choice, move_of}
use Rattle.drill.specs.Meaning.{drill}
use Rattle.binding.specs.Entries.{Judged, Sets, entry_at}
use Rattle.judged.specs.Drilled.{FollowsBook}

-- what the call that sets an entry leaves
pub taken : (m : Structure) (A q c : ℕ) (xs ys : List ℕ) (r : Result Unit Refusal) → q < m.states → Choice m A q c → Judged m A q c r → Sets q c xs ys r → ys ≡ set xs q c
taken m A q c xs ys (Ok _) l h j s = s
taken m A q c xs ys (Err e) l h (inl k) s = absurd (omega (arith, k.0))
taken m A q c xs ys (Err e) l h (inr k) s = absurd (k.1 h)

-- what holds of both players holds of each
of_two : (P : ℕ → Type 0) → P 1 → P 2 → (a : ℕ) → Player (drill 1) a → P a
of_two P one two a h =
    ⊎_elim
    (λ (l : 1 < a). let e : 2 ≡ a = omega (arith, h) in subst P e two)
    (λ (l : a ≤ 1). let e : 1 ≡ a = omega (arith, h) in subst P e one)
    (cases_lt 1 a)

-- a move of each player is a choice of both
both_play : (q c : ℕ) → Plays (drill 1) q c 1 → Plays (drill 1) q c 2 → c < 256 → Choice (drill 1) 3 q c
both_play q c one two small = record {
  members = λ a p _. of_two (Plays (drill 1) q c) one two a p;
  others = of_two (λ a. (Member a 3 → ⊥) → move_of a c ≡ 0) (λ h. absurd (h refl)) (λ h. absurd (h refl));
  rest = small;
}

pub sends_0 : Choice (drill 1) 3 0 34
sends_0 = both_play 0 34 (lit≤ tt, lit≤ tt) (lit≤ tt, lit≤ tt) (lit< tt)

pub sends_1 : Choice (drill 1) 3 1 34
sends_1 = both_play 1 34 (lit≤ tt, lit≤ tt) (lit≤ tt, lit≤ tt) (lit< tt)

pub rests_2 : Choice (drill 1) 3 2 17
rests_2 = both_play 2 17 (lit≤ tt, lit≤ tt) (lit≤ tt, lit≤ tt) (lit< tt)

pub rests_3 : Choice (drill 1) 3 3 17
rests_3 = both_play 3 17 (lit≤ tt, lit≤ tt) (lit≤ tt, lit≤ tt) (lit< tt)

-- a table in which they are set
pub follows : (k : ℕ) (xs : List ℕ) → xs ≡ set (set (set (set (replicate 256 k) 0 34) 1 34) 2 17) 3 17 → FollowsBook (entry_at xs)
follows k xs e = subst (λ ys. FollowsBook (entry_at ys)) (sym e) each
  where
    each : FollowsBook (entry_at (set (set (set (set (replicate 256 k) 0 34) 1 34) 2 17) 3 17))
    each zero h = refl
    each (suc zero) h = refl
    each (suc (suc zero)) h = refl
    each (suc (suc (suc zero))) h = refl
    each (suc (suc (suc (suc q)))) h = absurd (omega (arith, h))
