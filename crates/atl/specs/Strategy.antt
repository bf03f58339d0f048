-- The strategies of a group, the runs that they allow, and what a run meets.
use Rattle.std.specs.Prelude.{◌≡◌, ℕ, zero, suc, ◌+◌, ◌<◌, ◌≤◌, ◌⊎◌, List, [], ◌∷◌, Some}
use Rattle.game.specs.Structure.{Structure, Limits, Choice, Reply}

-- an endless run: its states, one after the other
abbrev pub Run : Type 0
Run = ℕ → ℕ

-- under the choice c of the group A, some reply leads from q to t
abbrev pub Step : Structure → (A q c t : ℕ) → Type 0
Step m A q c t = (r : ℕ) × Reply m A q r × (m.next q (c + r) ≡ Some t)

-- a choice of the group for each state
abbrev pub Strategy : Structure → (A : ℕ) → (ℕ → ℕ) → Type 0
Strategy m A f = (q : ℕ) → q < m.states → Choice m A q (f q)

-- a run from q each of whose steps the strategy allows
pub record Outcome (m : Structure) (A : ℕ) (f : ℕ → ℕ) (q : ℕ) (ρ : Run) : Type 0 where
  pub from : ρ 0 ≡ q
  pub steps : (i : ℕ) → Step m A (ρ i) (f (ρ i)) (ρ (suc i))

-- the states of a run up to place i, the newest first
abbrev pub so_far : Run → ℕ → List ℕ
so_far ρ zero = ρ zero ∷ []
so_far ρ (suc i) = ρ (suc i) ∷ so_far ρ i

-- a choice of the group for each finite run, by the states so far
abbrev pub Remembering : Structure → (A : ℕ) → (List ℕ → ℕ) → Type 0
Remembering m A F = (q : ℕ) (before : List ℕ) → q < m.states → Choice m A q (F (q ∷ before))

pub record Remembered (m : Structure) (A : ℕ) (F : List ℕ → ℕ) (q : ℕ) (ρ : Run) : Type 0 where
  pub from : ρ 0 ≡ q
  pub steps : (i : ℕ) → Step m A (ρ i) (F (so_far ρ i)) (ρ (suc i))

-- a property of states, and one of runs
abbrev pub Set : Type 1
Set = ℕ → Type 0

abbrev pub Goal : Type 1
Goal = Run → Type 0

-- the second state satisfies R
abbrev pub MeetsNext : Set → Goal
MeetsNext R ρ = R (ρ 1)

-- some state satisfies S, and all before it R
abbrev pub MeetsUntil : Set → Set → Goal
MeetsUntil R S ρ = (i : ℕ) × S (ρ i) × ((j : ℕ) → j < i → R (ρ j))

-- the same, and at most k steps lead to that state
abbrev pub MeetsUntilWithin : ℕ → Set → Set → Goal
MeetsUntilWithin k R S ρ = (i : ℕ) × (i ≤ k) × S (ρ i) × ((j : ℕ) → j < i → R (ρ j))

-- each state satisfies R or S, or comes after one that satisfies S
abbrev pub MeetsUnless : Set → Set → Goal
MeetsUnless R S ρ = (i : ℕ) → R (ρ i) ⊎ (S (ρ i) ⊎ ((j : ℕ) × (j < i) × S (ρ j)))

abbrev pub Misses : Goal → Goal
Misses G ρ = G ρ → ⊥

-- some strategy of the group has only outcomes from q that meet the goal
abbrev pub SomeStrategyForces : Structure → (A : ℕ) → Goal → Set
SomeStrategyForces m A G q = (f : ℕ → ℕ) × Strategy m A f × ((ρ : Run) → Outcome m A f q ρ → G ρ)

abbrev pub SomeRememberingForces : Structure → (A : ℕ) → Goal → Set
SomeRememberingForces m A G q = (F : List ℕ → ℕ) × Remembering m A F × ((ρ : Run) → Remembered m A F q ρ → G ρ)

-- each strategy of the group has an outcome from q that meets the goal
abbrev pub EachStrategyAllows : Structure → (A : ℕ) → Goal → Set
EachStrategyAllows m A G q = (f : ℕ → ℕ) → Strategy m A f → (ρ : Run) × Outcome m A f q ρ × G ρ

abbrev pub EachRememberingAllows : Structure → (A : ℕ) → Goal → Set
EachRememberingAllows m A G q = (F : List ℕ → ℕ) → Remembering m A F → (ρ : Run) × Remembered m A F q ρ × G ρ

-- no strategy comes to a halt: from each state it has an outcome
abbrev pub EveryStrategyRuns : Type 0
EveryStrategyRuns = (m : Structure) → Limits m → (A q : ℕ) → q < m.states → (F : List ℕ → ℕ) → Remembering m A F → (ρ : Run) × Remembered m A F q ρ
