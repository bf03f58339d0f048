-- The strategy that a settled can-rule gives its group.
use Rattle.std.specs.Prelude.{◌≡◌, ℕ, ◌<◌, Bool, false, cond, Some, None, Option, ◌==◌, nat_lt}
use Rattle.game.specs.Structure.{Structure, Limits, Player, Member, move_of}
use Rattle.game.specs.Lists.{own, highest, lowest}
use Rattle.game.specs.Serving.{first_serving}
use Rattle.atl.specs.declared.Temporal.{Temporal}
use Rattle.atl.specs.declared.Temporal.TheVariants.{Next, Until, Unless}
use Rattle.atl.specs.declared.Mark.{Mark}
use Rattle.atl.specs.declared.Mark.TheVariants.{Open, Yes, No}
use Rattle.atl.specs.Rounds.{is_yes}
use Rattle.atl.specs.Strategy.{Strategy}

-- the lowest choice, in which each member plays move 1
abbrev pub all_first : Structure → (A q : ℕ) → ℕ
all_first m A q = lowest m.players (highest (own m A q) 0 m.players)

pub record FirstMoves (m : Structure) (A : ℕ) : Type 0 where
  pub is_strategy : Strategy m A (all_first m A)
  pub one : (q a : ℕ) → q < m.states → Player m a → Member a A → move_of a (all_first m A q) ≡ 1

abbrev pub EveryFirstMove : Type 0
EveryFirstMove = (m : Structure) → Limits m → (A : ℕ) → FirstMoves m A

abbrev pub or_else : ℕ → Option ℕ → ℕ
or_else d None = d
or_else d (Some c) = c

-- the smallest choice all of whose replies lead into I
abbrev pub keep_to : Structure → (A q : ℕ) → (I : ℕ → Bool) → ℕ
keep_to m A q I = or_else (all_first m A q) (first_serving m A q I)

-- a yes with a number below n
abbrev pub yes_below : ℕ → Mark → Bool
yes_below n Open = false
yes_below n (Yes k) = nat_lt k n
yes_below n (No k) = false

-- the yes states by the marks M, and those with a number below n
abbrev pub yes_states : (M : ℕ → Mark) → ℕ → Bool
yes_states M t = is_yes (M t)

abbrev pub yes_states_below : (M : ℕ → Mark) → (n : ℕ) → ℕ → Bool
yes_states_below M n t = yes_below n (M t)

-- Of a settled rule, its marks M, with the yes states R and S of its parts.
module _ (m : Structure) (A : ℕ) (M : ℕ → Mark) (R S : ℕ → Bool) where
  -- at the yes state q of number n
  abbrev pub play : Temporal → (q n : ℕ) → ℕ
  play Next q n = keep_to m A q R
  play Until q n = cond (n == 0) (all_first m A q) (keep_to m A q (yes_states_below M n))
  play Unless q n = cond (S q) (all_first m A q) (keep_to m A q (yes_states M))

  -- at the state q with the given mark
  abbrev pub play_at : Temporal → (q : ℕ) → Mark → ℕ
  play_at o q Open = all_first m A q
  play_at o q (Yes n) = play o q n
  play_at o q (No n) = all_first m A q

  abbrev pub playbook : Temporal → ℕ → ℕ
  playbook o q = play_at o q (M q)
