-- What the rounds of a rule mark: the fixed points, as they are computed.
use Rattle.std.specs.Prelude.{ℕ, zero, suc, ◌+◌, ◌/◌, ◌%◌, ◌^◌, Bool, true, false, cond, not, ◌&&◌, ◌||◌, is_some, ◌==◌}
use Rattle.game.specs.Structure.{Structure}
use Rattle.game.specs.Serving.{first_serving, all_answered}
use Rattle.atl.specs.declared.Kind.{Kind}
use Rattle.atl.specs.declared.Kind.TheVariants.{Label, Not, Or, Strategic}
use Rattle.atl.specs.declared.Modality.{Modality}
use Rattle.atl.specs.declared.Modality.TheVariants.{Can, Despite}
use Rattle.atl.specs.declared.Temporal.TheVariants.{Next, Until, Unless}
use Rattle.atl.specs.declared.Mark.{Mark}
use Rattle.atl.specs.declared.Mark.TheVariants.{Open, Yes, No}
use Rattle.atl.specs.declared.Verdict.TheVariants as verdict
use Rattle.atl.specs.declared.Shown.{Shown}

-- Whether a state holds for a set of states.
abbrev pub Power : Type 0
Power = ℕ → (ℕ → Bool) → Bool

-- can: some choice of the group has all its replies leading into the set; despite: each choice has some reply leading into it
abbrev pub holds : Structure → Modality → ℕ → Power
holds m Can A q I = is_some (first_serving m A q I)
holds m Despite A q I = all_answered m A q I

abbrev pub labelled : Structure → ℕ → ℕ → Bool
labelled m l q = m.labels q / 2 ^ l % 2 == 1

abbrev pub is_open : Mark → Bool
is_open Open = true
is_open (Yes n) = false
is_open (No n) = false

abbrev pub is_yes : Mark → Bool
is_yes Open = false
is_yes (Yes n) = true
is_yes (No n) = false

-- The mark of a state after so many rounds. R and S are the yes states of the parts.

-- the kinds that one round decides
abbrev pub once : Bool → ℕ → Mark
once b zero = Open
once b (suc k) = cond b (Yes 0) (No 0)

module _ (hold : Power) (R S : ℕ → Bool) where
  abbrev pub until_marks : ℕ → ℕ → Mark
  until_marks zero q = Open
  until_marks (suc zero) q = cond (S q) (Yes 0) Open
  until_marks (suc (suc k)) q =
      cond (is_open (until_marks (suc k) q) && (R q && hold q (λ t. is_yes (until_marks (suc k) t)))) (Yes (suc k)) (until_marks (suc k) q)

  abbrev pub unless_marks : ℕ → ℕ → Mark
  unless_marks zero q = Open
  unless_marks (suc zero) q = cond (not (R q) && not (S q)) (No 0) Open
  unless_marks (suc (suc k)) q =
      cond (is_open (unless_marks (suc k) q) && (not (S q) && not (hold q (λ t. is_open (unless_marks (suc k) t))))) (No (suc k)) (unless_marks (suc k) q)

-- a rule of the kind with the group A; l is its label if it is of kind label
abbrev pub marks : Structure → Kind → (A l : ℕ) → (R S : ℕ → Bool) → ℕ → ℕ → Mark
marks m Label A l R S k q = once (labelled m l q) k
marks m Not A l R S k q = once (not (R q)) k
marks m Or A l R S k q = once (R q || S q) k
marks m (Strategic w Next) A l R S k q = once (holds m w A q R) k
marks m (Strategic w Until) A l R S k q = until_marks (holds m w A) R S k q
marks m (Strategic w Unless) A l R S k q = unless_marks (holds m w A) R S k q

-- how many of the first n numbers pass
abbrev pub tally : (ℕ → Bool) → ℕ → ℕ
tally p zero = 0
tally p (suc n) = cond (p n) 1 0 + tally p n

-- round k + 1 marks the state
abbrev pub newly : (ℕ → ℕ → Mark) → ℕ → ℕ → Bool
newly M k q = is_open (M k q) && not (is_open (M (suc k) q))

abbrev pub one_round : Kind → Bool
one_round Label = true
one_round Not = true
one_round Or = true
one_round (Strategic w Next) = true
one_round (Strategic w Until) = false
one_round (Strategic w Unless) = false

-- whether round k settles a rule of the kind over n states: one round is all it takes, or the round marked nothing
abbrev pub settles : ℕ → Kind → (ℕ → ℕ → Mark) → ℕ → Bool
settles n f M zero = false
settles n f M (suc k) = one_round f || tally (newly M k) n == 0

-- what a state that is still open becomes when the rule settles
abbrev pub closing : Kind → Mark
closing Label = No 256
closing Not = No 256
closing Or = No 256
closing (Strategic w Next) = No 256
closing (Strategic w Until) = No 256
closing (Strategic w Unless) = Yes 256

abbrev pub closed : Kind → Bool → Mark → Mark
closed f settled Open = cond settled (closing f) Open
closed f settled (Yes k) = Yes k
closed f settled (No k) = No k

-- a mark as it is answered
abbrev pub shown : Mark → Shown
shown Open = record { verdict = verdict.Open; number = 256 }
shown (Yes k) = record { verdict = verdict.Yes; number = k }
shown (No k) = record { verdict = verdict.No; number = k }
