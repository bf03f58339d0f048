-- The choices and the replies at a state as lists of numbers, the smallest first.
--
-- A side of a state is given by a limit for each player: the count of its moves, or 0 where it is not on that side. A number
-- is under the limits d if its digit in base 16 for each player is 0 where the limit is 0, and from 1 to the limit elsewhere.
use Rattle.std.specs.Prelude.{◌≡◌, ℕ, zero, suc, ◌+◌, ◌-◌, ◌*◌, ◌/◌, ◌%◌, ◌^◌, ◌<◌, min, Bool, cond, ◌&&◌, ◌⊎◌, List, [], ◌∷◌, ◌++◌, Some, None, Option, ◌==◌, nat_le, nat_lt}
use Rattle.game.specs.Structure.{Structure}

-- the n numbers above v
unfoldable pub above : ℕ → ℕ → List ℕ
above v zero = []
above v (suc n) = suc v ∷ above (suc v) n

-- w with one more digit below it, the least that the limit d allows
unfoldable pub least : ℕ → ℕ → ℕ
least d w = w * 16 + min 1 d

-- each number with one more digit below it, every one that the limit d allows
unfoldable pub spread : ℕ → List ℕ → List ℕ
spread d [] = []
spread d (w ∷ ws) = (least d w ∷ above (least d w) (d - 1)) ++ spread d ws

-- the numbers under the limits d of the n players after a
unfoldable pub numbers : (ℕ → ℕ) → ℕ → ℕ → List ℕ
numbers d a zero = 0 ∷ []
numbers d a (suc n) = spread (d (suc a)) (numbers d (suc a) n)

abbrev pub member : ℕ → ℕ → Bool
member a A = A / 2 ^ (a - 1) % 2 == 1

-- the limits of a choice, and of a reply
abbrev pub own : Structure → ℕ → ℕ → ℕ → ℕ
own m A q a = cond (member a A) (m.moves a q) 0

abbrev pub other : Structure → ℕ → ℕ → ℕ → ℕ
other m A q a = cond (member a A) 0 (m.moves a q)

abbrev pub choices : Structure → ℕ → ℕ → List ℕ
choices m A q = numbers (own m A q) 0 m.players

abbrev pub replies : Structure → ℕ → ℕ → List ℕ
replies m A q = numbers (other m A q) 0 m.players

abbrev pub Elem : ℕ → List ℕ → Type 0
Elem v [] = ⊥
Elem v (x ∷ xs) = (v ≡ x) ⊎ Elem v xs

-- each number of the list is above the one before it, and the first above b
abbrev pub Climbs : ℕ → List ℕ → Type 0
Climbs b [] = Unit {0}
Climbs b (x ∷ xs) = (b < x) × Climbs x xs

abbrev pub Ascending : List ℕ → Type 0
Ascending [] = Unit {0}
Ascending (x ∷ xs) = Climbs x xs

-- Going from one number to the next, as a program does it.

-- the highest number under the limits d of the n players after a: its digits are the limits
unfoldable pub highest : (ℕ → ℕ) → ℕ → ℕ → ℕ
highest d a zero = 0
highest d a (suc n) = highest d (suc a) n * 16 + d (suc a)

-- the lowest number of n digits under the highest, h
unfoldable pub lowest : ℕ → ℕ → ℕ
lowest zero h = 0
lowest (suc n) h = least (h % 16) (lowest n (h / 16))

unfoldable pub lift : ℕ → Option ℕ → Option ℕ
lift d None = None
lift d (Some w) = Some (least d w)

-- the one after v
unfoldable pub following : ℕ → ℕ → ℕ → Option ℕ
following zero h v = None
following (suc n) h v = cond (nat_lt (v % 16) (h % 16)) (Some (v + 1)) (lift (h % 16) (following n (h / 16) (v / 16)))

-- the numbers of n digits under the highest, h, that come after v
unfoldable pub rest : ℕ → ℕ → ℕ → List ℕ
rest zero h v = []
rest (suc n) h v = above v (h % 16 - v % 16) ++ spread (h % 16) (rest n (h / 16) (v / 16))

-- those from v on, and none from None
unfoldable pub from : ℕ → ℕ → Option ℕ → List ℕ
from n h None = []
from n h (Some v) = v ∷ rest n h v

-- v is one of the numbers of n digits under the highest, h
unfoldable pub under : ℕ → ℕ → ℕ → Bool
under zero h v = v == 0
under (suc n) h v = (nat_le (min 1 (h % 16)) (v % 16) && nat_le (v % 16) (h % 16)) && under n (h / 16) (v / 16)
