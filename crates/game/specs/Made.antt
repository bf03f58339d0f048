-- A game made of plain tables, cut to its players, its states and its vectors.
use Rattle.std.specs.Prelude.{ℕ, ◌^◌, ◌<◌, ◌≤◌, cond, ◌&&◌, Some, None, nat_le, nat_lt}
use Rattle.game.specs.Structure.{Structure, product}
use Rattle.game.specs.Lists.{highest, under}

-- the tables: counts d by player and state, labels, and where each vector leads
abbrev pub made : (players states start : ℕ) (d : ℕ → ℕ → ℕ) (labels : ℕ → ℕ) (lead : ℕ → ℕ → ℕ) → Structure
made players states start d labels lead = record {
  players = players;
  states = states;
  start = start;
  moves = λ a q. cond ((nat_le 1 a && nat_le a players) && nat_lt q states) (d a q) 0;
  labels = λ q. cond (nat_lt q states) (labels q) 0;
  next = λ q v. cond (nat_lt q states && under players (highest (λ a. d a q) 0 players) v) (Some (lead q v)) None;
}

-- the tables keep to the limits of a game
pub record InRange (players states start : ℕ) (d : ℕ → ℕ → ℕ) (labels : ℕ → ℕ) (lead : ℕ → ℕ → ℕ) : Type 0 where
  pub some_player : 1 ≤ players
  pub six : players ≤ 6
  pub some_state : 1 ≤ states
  pub many : states ≤ 256
  pub started : start < states
  pub count : (a q : ℕ) → (1 ≤ d a q) × (d a q ≤ 15)
  pub few_vectors : (q : ℕ) → product (λ a. d a q) players ≤ 4096
  pub sixteen : (q : ℕ) → labels q < 2 ^ 16
  pub leads : (q v : ℕ) → q < states → lead q v < states
