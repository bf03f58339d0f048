-- Tests in an order, each with the fault that it gives where it fails.
use Rattle.std.specs.Prelude.{◌≡◌, ℕ, zero, suc, ◌⊎◌, List, [], ◌∷◌, ◌++◌, Result, MatchResult}
use Rattle.book.specs.declared.fault.Fault.{Fault}

abbrev pub Tests : Type 1
Tests = List (Type 0 × Fault)

-- every test is passed
abbrev pub Passes : Tests → Type 0
Passes [] = Unit {0}
Passes (t ∷ ts) = t.0 × Passes ts

-- f is the fault of the first test that is not passed
abbrev pub Fails : Tests → Fault → Type 0
Fails [] f = ⊥
Fails (t ∷ ts) f = ((t.0 → ⊥) × (f ≡ t.1)) ⊎ (t.0 × Fails ts f)

-- the tests of 0, then those of 1, and so on below n
abbrev pub each : ℕ → (ℕ → Tests) → Tests
each zero f = []
each (suc n) f = each n f ++ f n

-- the tests of what is there only if C
abbrev pub If : Type 0 → Tests → Tests
If C [] = []
If C (t ∷ ts) = (C → t.0, t.1) ∷ If C ts

-- r is Ok, of an x with P, where all tests are passed, and else the first fault
abbrev pub Judged : {X : Type 0} → Tests → Result X Fault → (X → Type 0) → Type 0
Judged ts r P = MatchResult r (λ x. Passes ts × P x) (λ f. Fails ts f)

-- the tests give one verdict: where there is a first fault, not all are passed, and it is the only first fault
pub record OneVerdict (ts : Tests) : Type 0 where
  pub refused : (f : Fault) → Fails ts f → Passes ts → ⊥
  pub same : (f g : Fault) → Fails ts f → Fails ts g → f ≡ g

-- nothing is said of it
abbrev pub Anything : {X : Type 0} → X → Type 0
Anything x = Unit {0}
