-- What the answers of a search say of the game.
use Rattle.std.specs.Prelude.{◌≡◌, ℕ, ◌+◌, ◌<◌, Bool, true, false, Some, None, Option}
use Rattle.game.specs.Structure.{Structure, Choice, Reply}

-- under the choice c the reply r leads to a state that is in I (b is true) or out of it (b is false)
abbrev pub Leads : Structure → ℕ → (ℕ → Bool) → ℕ → Bool → ℕ → Type 0
Leads m q I c b r = (t : ℕ) × (m.next q (c + r) ≡ Some t) × (I t ≡ b)

abbrev pub EveryReply : Structure → ℕ → ℕ → (ℕ → Bool) → Bool → ℕ → Type 0
EveryReply m A q I b c = (r : ℕ) → Reply m A q r → Leads m q I c b r

abbrev pub SomeReply : Structure → ℕ → ℕ → (ℕ → Bool) → Bool → ℕ → Type 0
SomeReply m A q I b c = (r : ℕ) × Reply m A q r × Leads m q I c b r

-- the smallest choice all of whose replies lead into I, or None where every choice has a reply that leads out
abbrev pub Serving : Structure → ℕ → ℕ → (ℕ → Bool) → Option ℕ → Type 0
Serving m A q I None = (c : ℕ) → Choice m A q c → SomeReply m A q I false c
Serving m A q I (Some c) = Choice m A q c × EveryReply m A q I true c × ((d : ℕ) → Choice m A q d → d < c → SomeReply m A q I false d)

-- whether every choice has a reply that leads into I
abbrev pub Answering : Structure → ℕ → ℕ → (ℕ → Bool) → Bool → Type 0
Answering m A q I true = (c : ℕ) → Choice m A q c → SomeReply m A q I true c
Answering m A q I false = (c : ℕ) × Choice m A q c × EveryReply m A q I false c
