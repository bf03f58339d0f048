-- The rounds of a rule come to an end.
use Rattle.std.specs.Prelude.{◌≡◌, ℕ, suc, ◌<◌, ◌≤◌, Bool, false}
use Rattle.game.specs.Structure.{Structure, Limits}
use Rattle.atl.specs.declared.Kind.{Kind}
use Rattle.atl.specs.Rounds.{is_open, marks, settles}
use Rattle.atl.specs.Verdict.{Settled}

pub record Settling (m : Structure) (f : Kind) (A l : ℕ) (R S : ℕ → Bool) : Type 0 where
  -- a state that a round has marked keeps its mark
  pub kept : (j k q : ℕ) → j ≤ k → is_open (marks m f A l R S j q) ≡ false → marks m f A l R S k q ≡ marks m f A l R S j q
  -- rounds in a row from the first on that do not settle the rule are at most as many as the states
  pub few : (k : ℕ) → ((j : ℕ) → 1 ≤ j → j ≤ k → settles m.states f (marks m f A l R S) j ≡ false) → k ≤ m.states
  -- so one of the first states + 1 rounds settles it
  pub comes : (k : ℕ) × (k ≤ suc m.states) × Settled m f A l R S k
  -- and from then on it is settled, with the same marks
  pub lasts : (j k : ℕ) → Settled m f A l R S j → j ≤ k → Settled m f A l R S k × ((q : ℕ) → q < m.states → marks m f A l R S k q ≡ marks m f A l R S j q)

abbrev pub EveryRuleSettles : Type 0
EveryRuleSettles = (m : Structure) → Limits m → (f : Kind) (A l : ℕ) (R S : ℕ → Bool) → Settling m f A l R S

-- in every game of n states k rounds settle every rule
abbrev pub Enough : (n k : ℕ) → Type 0
Enough n k = (m : Structure) → Limits m → m.states ≡ n → (f : Kind) (A l : ℕ) (R S : ℕ → Bool) → Settled m f A l R S k
