-- The three records, by tag and value, each with its tests in their order; p is the byte of the field's tag.
use Rattle.std.specs.Prelude.{◌≡◌, ℕ, ◌+◌, ◌*◌, ◌<◌, ◌≤◌, List, [], ◌∷◌, ◌++◌, length, slice_index}
use Rattle.game.specs.Structure.{product}
use Rattle.book.specs.declared.fault.Cause.TheVariants.{OtherTag, WrongLength, OutOfRange}
use Rattle.book.specs.Faults.{fault}
use Rattle.book.specs.Tests.{Tests, each}

abbrev pub Within : ℕ → ℕ → ℕ → Type 0
Within low high n = (low ≤ n) × (n ≤ high)

-- the tag t is the one that is due, and the value v has n bytes
abbrev pub tag_test : ℕ → ℕ → ℕ → Tests
tag_test due t p = (t ≡ due, fault OtherTag p) ∷ []

abbrev pub length_test : ℕ → List ℕ → ℕ → Tests
length_test n v p = (length v ≡ n, fault WrongLength p) ∷ []

-- a heading's value v: the players, the states less one, the start
abbrev pub heading_tests : ℕ → List ℕ → ℕ → Tests
heading_tests t v p =
    (t ≡ 1, fault OtherTag p)
    ∷ (length v ≡ 3, fault WrongLength p)
    ∷ (Within 1 6 (slice_index v 0), fault OutOfRange (p + 3))
    ∷ (slice_index v 2 < slice_index v 1 + 1, fault OutOfRange (p + 5))
    ∷ []

-- a state's value v, among P players: two bytes of labels, P counts, and a next state for each vector
abbrev pub labels_in : List ℕ → ℕ
labels_in v = slice_index v 0 * 256 + slice_index v 1

-- player a's count, from 1
abbrev pub count_in : List ℕ → ℕ → ℕ
count_in v a = slice_index v (1 + a)

abbrev pub product_in : ℕ → List ℕ → ℕ
product_in P v = product (count_in v) P

-- n is that product
abbrev pub Multiplied : ℕ → List ℕ → ℕ → Type 0
Multiplied P v n = n ≡ product_in P v

abbrev pub next_in : ℕ → List ℕ → ℕ → ℕ
next_in P v j = slice_index v (2 + P + j)

abbrev pub count_tests : List ℕ → ℕ → ℕ → Tests
count_tests v p i = (Within 1 15 (count_in v (i + 1)), fault OutOfRange (p + 5 + i)) ∷ []

abbrev pub next_tests : ℕ → ℕ → List ℕ → ℕ → ℕ → Tests
next_tests P N v p j = (next_in P v j < N, fault OutOfRange (p + 5 + P + j)) ∷ []

-- what is tested once the counts are in range: their product, the exact length, and each next state
abbrev pub vectors_tests : ℕ → ℕ → List ℕ → ℕ → Tests
vectors_tests P N v p =
    (product_in P v ≤ 4096, fault OutOfRange (p + 5))
    ∷ (length v ≡ 2 + P + product_in P v, fault WrongLength p)
    ∷ each (product_in P v) (next_tests P N v p)

abbrev pub state_tests : ℕ → ℕ → ℕ → List ℕ → ℕ → Tests
state_tests P N t v p = (t ≡ 2, fault OtherTag p) ∷ (2 + P ≤ length v, fault WrongLength p) ∷ (each P (count_tests v p) ++ vectors_tests P N v p)

-- a rule's value: kind, group, r, s
abbrev pub rule_tests : ℕ → List ℕ → ℕ → Tests
rule_tests t v p = (t ≡ 3, fault OtherTag p) ∷ (length v ≡ 4, fault WrongLength p) ∷ []
