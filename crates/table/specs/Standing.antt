-- What stands on a board, and what it has marked: read from the game, what was written and the rounds since.
use Rattle.std.specs.Prelude.{ℕ, suc, Bool, false, cond, List, [], ◌∷◌, length, Some, None, Option, ◌==◌}
use Rattle.game.specs.Structure.{Structure}
use Rattle.atl.specs.declared.Kind.{Kind}
use Rattle.atl.specs.declared.Mark.{Mark}
use Rattle.atl.specs.Rounds.{marks, settles, closed, is_yes}

-- a rule that stands: what write took, and the rounds since
pub record Standing : Type 0 where
  pub kind : Kind
  pub group : ℕ
  pub r : ℕ
  pub s : ℕ
  pub rounds : ℕ

-- The rules that stand, the newest first. The number of a rule is how many stand below it.
abbrev pub Stack : Type 0
Stack = List Standing

-- rule n, with what stands below it
abbrev pub found : Stack → ℕ → Option (Standing × Stack)
found [] n = None
found (x ∷ below) n = cond (n == length below) (Some (x, below)) (found below n)

module _ (m : Structure) where
  -- of one rule, by the yes states of the rules below it: the marks after so many rounds, whether its rounds have settled it, its marks now
  abbrev pub marks_of : Standing → (ℕ → ℕ → Bool) → ℕ → ℕ → Mark
  marks_of x Y = marks m x.kind x.group x.r (Y x.r) (Y x.s)

  abbrev pub settled_of : Standing → (ℕ → ℕ → Bool) → Bool
  settled_of x Y = settles m.states x.kind (marks_of x Y) x.rounds

  abbrev pub mark_of : Standing → (ℕ → ℕ → Bool) → ℕ → Mark
  mark_of x Y q = closed x.kind (settled_of x Y) (marks_of x Y x.rounds q)

  -- the yes states of rule n
  abbrev pub yes_states : Stack → ℕ → ℕ → Bool
  yes_states [] n q = false
  yes_states (x ∷ below) n q = cond (n == length below) (is_yes (mark_of x (yes_states below) q)) (yes_states below n q)

  -- whether rule n stands and is settled
  abbrev pub settled : Stack → ℕ → Bool
  settled [] n = false
  settled (x ∷ below) n = cond (n == length below) (settled_of x (yes_states below)) (settled below n)

abbrev pub one_more : Standing → Standing
one_more x = record { kind = x.kind; group = x.group; r = x.r; s = x.s; rounds = suc x.rounds }

-- rule n with one round more
abbrev pub advanced : ℕ → Stack → Stack
advanced n [] = []
advanced n (x ∷ below) = cond (n == length below) (one_more x ∷ below) (x ∷ advanced n below)
