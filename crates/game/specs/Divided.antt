-- A state's vectors divide into the choices of a group and the replies to it.
use Rattle.std.specs.Prelude.{◌≡◌, ℕ, ◌+◌, ◌<◌, Some, bit_or}
use Rattle.game.specs.Structure.{Structure, Vector, Choice, Reply}
use Rattle.game.specs.Lists.{choices, replies, Elem, Ascending}

pub record Divided (m : Structure) (A q : ℕ) : Type 0 where
  pub choice_in : (c : ℕ) → Choice m A q c → Elem c (choices m A q)
  pub in_choice : (c : ℕ) → Elem c (choices m A q) → Choice m A q c
  pub reply_in : (r : ℕ) → Reply m A q r → Elem r (replies m A q)
  pub in_reply : (r : ℕ) → Elem r (replies m A q) → Reply m A q r
  pub choices_ascend : Ascending (choices m A q)
  pub replies_ascend : Ascending (replies m A q)
  pub some_choice : (c : ℕ) × Choice m A q c
  pub some_reply : (r : ℕ) × Reply m A q r
  pub joins : (c r : ℕ) → Choice m A q c → Reply m A q r → Vector m q (c + r)
  pub joins_bits : (c r : ℕ) → Choice m A q c → Reply m A q r → bit_or c r ≡ c + r
  pub leads : (c r : ℕ) → Choice m A q c → Reply m A q r → (t : ℕ) × (m.next q (c + r) ≡ Some t) × (t < m.states)
  pub splits : (v : ℕ) → Vector m q v → (c : ℕ) × (r : ℕ) × Choice m A q c × Reply m A q r × (v ≡ c + r)
  pub once : (c r c' r' : ℕ) → Choice m A q c → Reply m A q r → Choice m A q c' → Reply m A q r' → c + r ≡ c' + r' → (c ≡ c') × (r ≡ r')
