-- The table of a binding: what it holds at first, and how an entry is set.
use Rattle.std.specs.Prelude.{◌≡◌, ℕ, zero, suc, ◌+◌, ◌*◌, ◌/◌, ◌%◌, ◌^◌, ◌<◌, ◌≤◌, ◌⊎◌, List, Ok, Err, Result, slice_index, slice_set}
use Rattle.refusal.specs.declared.Refusal.{Refusal}
use Rattle.refusal.specs.declared.Refusal.TheVariants.{NoState, NoChoice}
use Rattle.game.specs.Structure.{Structure, Player, Member, Vector, Choice, Reply, move_of}
use Rattle.game.specs.Bound.{bound}

-- the entry of the state q
abbrev pub entry_at : List ℕ → (q : ℕ) → ℕ
entry_at xs q = slice_index xs q

-- the group A without the players above n
abbrev pub present : (n A : ℕ) → ℕ
present n A = A % 2 ^ n

-- move 1 for each member of A among n players, and 0 for everyone else
unfoldable pub first_moves : (n A : ℕ) → ℕ
first_moves zero A = 0
first_moves (suc n) A = first_moves n (A / 2) * 16 + A % 2

-- each entry of the table f is a choice of the group A at its state
abbrev pub Lawful : Structure → (A : ℕ) → (f : ℕ → ℕ) → Type 0
Lawful m A f = (q : ℕ) → q < m.states → Choice m A q (f q)

-- The binding of A to the entries f leads from q exactly where the entry and the replies to it lead in the game m.
pub record Follows (m : Structure) (A : ℕ) (f : ℕ → ℕ) (q : ℕ) : Type 0 where
  pub there : (v : ℕ) → Vector (bound m A f) q v → (r : ℕ) × Reply m A q r × ((bound m A f).next q v ≡ m.next q (f q + r))
  pub back : (r : ℕ) → Reply m A q r → (v : ℕ) × Vector (bound m A f) q v × ((bound m A f).next q v ≡ m.next q (f q + r))

-- it does so under every table of choices
abbrev pub FollowsLawful : Structure → (A : ℕ) → Type 0
FollowsLawful m A = (f : ℕ → ℕ) → Lawful m A f → (q : ℕ) → q < m.states → Follows m A f q

-- What a binding over the game m for the group A is at first: its group is B and its entries are f.
pub record AtFirst (m : Structure) (A B : ℕ) (f : ℕ → ℕ) : Type 0 where
  -- the bits of missing players make no difference, whatever the entries become
  pub same : (e : ℕ → ℕ) → bound m B e ≡ bound m A e
  pub lawful : Lawful m B f
  pub first : (q a : ℕ) → q < m.states → Player m a → Member a A → move_of a (f q) ≡ 1

-- where each entry of the table xs is a choice of the group A, so is each of ys
abbrev pub KeepsLawful : Structure → (A : ℕ) → (xs ys : List ℕ) → Type 0
KeepsLawful m A xs ys = Lawful m A (entry_at xs) → Lawful m A (entry_at ys)

-- why c is refused as the entry of q for the group A
abbrev pub Refused : Structure → (A q c : ℕ) → Refusal → Type 0
Refused m A q c e = ((m.states ≤ q) × (e ≡ NoState)) ⊎ ((q < m.states) × (Choice m A q c → ⊥) × (e ≡ NoChoice))

-- the answer to c as the entry of q for the group A
abbrev pub Judged : Structure → (A q c : ℕ) → Result Unit Refusal → Type 0
Judged m A q c (Ok _) = (q < m.states) × Choice m A q c
Judged m A q c (Err e) = Refused m A q c e

-- the table xs becomes ys: the one entry is set, or the call is refused and nothing altered
abbrev pub Sets : (q c : ℕ) → (xs ys : List ℕ) → Result Unit Refusal → Type 0
Sets q c xs ys (Ok _) = ys ≡ slice_set xs q c
Sets q c xs ys (Err e) = ys ≡ xs
