-- Which states hold for a set: what a group can bring about in one step, and what it cannot prevent.
use Rattle.std.specs.Prelude.{ℕ, ◌+◌, Bool, false, List, Some, None, Option, slice_index_or}
use Rattle.std.specs.List.{list_all, list_any, find}
use Rattle.game.specs.Structure.{Structure}
use Rattle.game.specs.Lists.{choices, replies}

-- some state, and one of the set
abbrev pub within : (ℕ → Bool) → Option ℕ → Bool
within I None = false
within I (Some t) = I t

-- a set of states as the list of its tests
unfoldable pub set_of : List Bool → ℕ → Bool
set_of xs t = slice_index_or xs t false

-- the reply r to c leads into I
unfoldable pub leads : Structure → ℕ → (ℕ → Bool) → ℕ → ℕ → Bool
leads m q I c r = within I (m.next q (c + r))

-- every reply to c leads into I
unfoldable pub serves : Structure → ℕ → ℕ → (ℕ → Bool) → ℕ → Bool
serves m A q I c = list_all (leads m q I c) (replies m A q)

-- some reply to c leads into I
unfoldable pub answers : Structure → ℕ → ℕ → (ℕ → Bool) → ℕ → Bool
answers m A q I c = list_any (leads m q I c) (replies m A q)

-- the smallest choice that serves
unfoldable pub first_serving : Structure → ℕ → ℕ → (ℕ → Bool) → Option ℕ
first_serving m A q I = find (serves m A q I) (choices m A q)

-- every choice is answered
unfoldable pub all_answered : Structure → ℕ → ℕ → (ℕ → Bool) → Bool
all_answered m A q I = list_all (answers m A q I) (choices m A q)
