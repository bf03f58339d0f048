-- The game that bytes and three numbers stand for: whatever they are, it keeps to the limits of a game.
use Rattle.std.specs.Prelude.{ℕ, zero, suc, ◌+◌, ◌-◌, ◌*◌, ◌/◌, ◌%◌, min, max, cond, ◌&&◌, List, nat_le, nat_lt, slice_index}
use Rattle.game.specs.Lists.{highest}
use Rattle.game.specs.Made.{made}
use Rattle.game.specs.Structure.{Structure, product}
use Rattle.book.specs.Fields.{after, spot}

-- players and states as a game may have them
abbrev pub players_kept : ℕ → ℕ
players_kept n = max 1 (min n 6)

abbrev pub states_kept : ℕ → ℕ
states_kept n = max 1 (min n 256)

-- t if it is a state of a game of N states, else 0
abbrev pub inside : ℕ → ℕ → ℕ
inside N t = cond (nat_lt t N) t 0

-- n if it is a count of moves, else 1
abbrev pub count_kept : ℕ → ℕ
count_kept n = cond (nat_le 1 n && nat_le n 15) n 1

-- where the field of state q stands
abbrev pub state_spot : List ℕ → ℕ → ℕ
state_spot bs q = spot bs (after bs 0) q

-- player a's count in the state field at p
abbrev pub count_at : List ℕ → ℕ → ℕ → ℕ
count_at bs p a = count_kept (slice_index bs (p + 4 + a))

-- the same, or 1 where the product of all P counts is too large
abbrev pub moves_at : List ℕ → ℕ → ℕ → ℕ → ℕ
moves_at bs P p a = cond (nat_le (product (count_at bs p) P) 4096) (count_at bs p a) 1

abbrev pub labels_at : List ℕ → ℕ → ℕ
labels_at bs p = (slice_index bs (p + 3) * 256 + slice_index bs (p + 4)) % 65536

-- the place of the vector v of n digits among those under the highest, h, the first at 0
unfoldable pub place : ℕ → ℕ → ℕ → ℕ
place zero h v = 0
place (suc n) h v = v % 16 - 1 + h % 16 * place n (h / 16) (v / 16)

-- where the vector v of the state field at p leads
abbrev pub next_at : List ℕ → ℕ → ℕ → ℕ → ℕ → ℕ
next_at bs P N p v = inside N (slice_index bs (p + 5 + P + place P (highest (moves_at bs P p) 0 P) v))

-- the tables of the game
abbrev pub table_moves : List ℕ → ℕ → ℕ → ℕ → ℕ
table_moves bs P a q = moves_at bs P (state_spot bs q) a

abbrev pub table_labels : List ℕ → ℕ → ℕ
table_labels bs q = labels_at bs (state_spot bs q)

abbrev pub table_next : List ℕ → ℕ → ℕ → ℕ → ℕ → ℕ
table_next bs P N q v = next_at bs P N (state_spot bs q) v

abbrev pub game_of : List ℕ → ℕ → ℕ → ℕ → Structure
game_of bs P N s = made P N (inside N s) (table_moves bs P) (table_labels bs) (table_next bs P N)

abbrev pub filed : List ℕ → ℕ → ℕ → ℕ → Structure
filed bs P N s = game_of bs (players_kept P) (states_kept N) s
