-- What a game means: a concurrent game structure, and who can do what at one of its states.
use Rattle.std.specs.Prelude.{◌≡◌, ℕ, zero, suc, ◌-◌, ◌*◌, ◌/◌, ◌%◌, ◌^◌, ◌<◌, ◌≤◌, Some, None, Option}

-- The whole meaning of a game. Players are 1 to `players`, states 0 to `states` - 1.
pub record Structure : Type 0 where
  pub players : ℕ
  pub states : ℕ
  pub start : ℕ
  pub moves : ℕ → ℕ → ℕ  -- by player, then state: how many moves, numbered from 1
  pub labels : ℕ → ℕ  -- by state: bit l is set where label l stands
  pub next : ℕ → ℕ → Option ℕ  -- by state, then vector: where it leads

-- A number with four bits for each player: the move of player a, 4 × (a - 1) bits up.
abbrev pub move_of : ℕ → ℕ → ℕ
move_of a v = v / 16 ^ (a - 1) % 16

-- A group is a number whose bit a - 1 stands for player a; 0 is nobody.
abbrev pub Member : ℕ → ℕ → Type 0
Member a A = A / 2 ^ (a - 1) % 2 ≡ 1

abbrev pub Player : Structure → ℕ → Type 0
Player m a = (1 ≤ a) × (a ≤ m.players)

-- v gives player a a move that it has at q
abbrev pub Plays : Structure → ℕ → ℕ → ℕ → Type 0
Plays m q v a = (1 ≤ move_of a v) × (move_of a v ≤ m.moves a q)

-- A vector of q: a move of each player, and no bit above the last player's.
pub record Vector (m : Structure) (q v : ℕ) : Type 0 where
  pub each : (a : ℕ) → Player m a → Plays m q v a
  pub rest : v < 16 ^ m.players

-- A choice of the group A at q: the members' part of a vector, with 0 for everyone else.
pub record Choice (m : Structure) (A q c : ℕ) : Type 0 where
  pub members : (a : ℕ) → Player m a → Member a A → Plays m q c a
  pub others : (a : ℕ) → Player m a → (Member a A → ⊥) → move_of a c ≡ 0
  pub rest : c < 16 ^ m.players

-- A reply to the group A at q: the others' part of a vector.
pub record Reply (m : Structure) (A q r : ℕ) : Type 0 where
  pub members : (a : ℕ) → Player m a → Member a A → move_of a r ≡ 0
  pub others : (a : ℕ) → Player m a → (Member a A → ⊥) → Plays m q r a
  pub rest : r < 16 ^ m.players

-- the product of the counts d of the first p players
abbrev pub product : (ℕ → ℕ) → ℕ → ℕ
product d zero = 1
product d (suc p) = d (suc p) * product d p

-- What every game keeps to.
pub record Limits (m : Structure) : Type 0 where
  pub some_player : 1 ≤ m.players
  pub six : m.players ≤ 6
  pub some_state : 1 ≤ m.states
  pub many : m.states ≤ 256
  pub started : m.start < m.states
  pub a_move : (a q : ℕ) → Player m a → q < m.states → (1 ≤ m.moves a q) × (m.moves a q ≤ 15)
  pub no_move : (a q : ℕ) → (Player m a × (q < m.states) → ⊥) → m.moves a q ≡ 0
  pub few_vectors : (q : ℕ) → q < m.states → product (λ a. m.moves a q) m.players ≤ 4096
  pub sixteen : (q : ℕ) → m.labels q < 2 ^ 16
  pub no_label : (q : ℕ) → m.states ≤ q → m.labels q ≡ 0
  pub leads : (q v : ℕ) → q < m.states → Vector m q v → (t : ℕ) × (m.next q v ≡ Some t) × (t < m.states)
  pub nowhere : (q v : ℕ) → (((q < m.states) × Vector m q v) → ⊥) → m.next q v ≡ None
