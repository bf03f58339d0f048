-- The game that a content describes.
use Rattle.std.specs.Prelude.{ℕ, suc, cond, List, [], ◌∷◌, length, ◌==◌, slice_index, slice_index_or}
use Rattle.game.specs.Lists.{numbers}
use Rattle.game.specs.Made.{made}
use Rattle.game.specs.Structure.{Structure}
use Rattle.book.specs.Content.{Content, State, count}

abbrev pub no_state : State
no_state = record { labels = 0; counts = []; nexts = [] }

abbrev pub state : Content → ℕ → State
state c q = slice_index_or c.states q no_state

-- the vectors of state q, the smallest first
abbrev pub vectors_at : Content → ℕ → List ℕ
vectors_at c q = numbers (count (state c q)) 0 c.players

-- how many stand before v in the list
abbrev pub index : ℕ → List ℕ → ℕ
index v [] = 0
index v (x ∷ xs) = cond (v == x) 0 (suc (index v xs))

-- the tables of the game
abbrev pub moves_in : Content → ℕ → ℕ → ℕ
moves_in c a q = count (state c q) a

abbrev pub labels_of : Content → ℕ → ℕ
labels_of c q = (state c q).labels

-- a vector leads to the next state that stands in the vector's place
abbrev pub leads_in : Content → ℕ → ℕ → ℕ
leads_in c q v = slice_index (state c q).nexts (index v (vectors_at c q))

abbrev pub described : Content → Structure
described c = made c.players (length c.states) c.start (moves_in c) (labels_of c) (leads_in c)
