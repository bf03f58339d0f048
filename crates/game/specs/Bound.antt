-- A game in which the members of a group have bound themselves to what a table says.
use Rattle.std.specs.Prelude.{ℕ, zero, suc, ◌+◌, ◌*◌, ◌/◌, ◌%◌, min, cond, ◌&&◌, None, ◌==◌, nat_le, nat_lt}
use Rattle.game.specs.Structure.{Structure, Limits}
use Rattle.game.specs.Lists.{member, own, highest, under}

-- how many moves are left to a player: one to a member
abbrev pub left : Structure → (A q a : ℕ) → ℕ
left m A q a = cond (member a A) (min 1 (m.moves a q)) (m.moves a q)

-- the move e of one who has d moves; a move that is not there counts as 1
abbrev pub legal : (d e : ℕ) → ℕ
legal d e = cond (nat_le 1 e && nat_le e d) e 1

-- v with the digits of the entry e in the places where h has a limit, each made legal; n digits in all
unfoldable pub placed : (n h e v : ℕ) → ℕ
placed zero h e v = 0
placed (suc n) h e v = placed n (h / 16) (e / 16) (v / 16) * 16 + cond (h % 16 == 0) (v % 16) (legal (h % 16) (e % 16))

-- m in which each member of A has one move, which stands for the one that the entry f q gives it
abbrev pub bound : Structure → (A : ℕ) → (f : ℕ → ℕ) → Structure
bound m A f = record {
  players = m.players;
  states = m.states;
  start = m.start;
  moves = λ a q. left m A q a;
  labels = m.labels;
  next = λ q v. cond (nat_lt q m.states && under m.players (highest (left m A q) 0 m.players) v) (m.next q (placed m.players (highest (own m A q) 0 m.players) (f q) v)) None;
}

-- it is a game, whatever the entries are
abbrev pub BoundKeepsLimits : Type 0
BoundKeepsLimits = (m : Structure) (A : ℕ) (f : ℕ → ℕ) → Limits m → Limits (bound m A f)
