-- The tests of a whole book, in their order.
use Rattle.std.specs.Prelude.{ℕ, ◌+◌, ◌<◌, ◌≤◌, List, [], ◌∷◌, ◌++◌, length, slice_index}
use Rattle.book.specs.declared.fault.Cause.TheVariants.{TooLong}
use Rattle.book.specs.Faults.{fault}
use Rattle.book.specs.Tests.{Tests, each, If}
use Rattle.book.specs.Fields.{value, after, field_tests, due_tests, spot}
use Rattle.book.specs.Records.{heading_tests, state_tests, rule_tests}

-- the heading, a state and a rule, in the field at p
abbrev pub heading_at : List ℕ → ℕ → Tests
heading_at bs p = due_tests bs p ++ heading_tests (slice_index bs p) (value bs p) p

abbrev pub state_at : ℕ → ℕ → List ℕ → ℕ → Tests
state_at P N bs p = due_tests bs p ++ state_tests P N (slice_index bs p) (value bs p) p

abbrev pub rule_at : List ℕ → ℕ → Tests
rule_at bs p = field_tests bs p ++ rule_tests (slice_index bs p) (value bs p) p

-- what the heading says
abbrev pub players_in : List ℕ → ℕ
players_in bs = slice_index (value bs 0) 0

abbrev pub states_in : List ℕ → ℕ
states_in bs = slice_index (value bs 0) 1 + 1

abbrev pub start_in : List ℕ → ℕ
start_in bs = slice_index (value bs 0) 2

-- state k, from 0, of those that begin at p
abbrev pub states_tests : ℕ → ℕ → List ℕ → ℕ → ℕ → Tests
states_tests P N bs p k = state_at P N bs (spot bs p k)

-- rule k, from 0, of those that begin at p: it is there only if the bytes go on
abbrev pub rules_tests : List ℕ → ℕ → ℕ → Tests
rules_tests bs p k = If (spot bs p k < length bs) (rule_at bs (spot bs p k))

-- where the states begin, and the rules
abbrev pub states_from : List ℕ → ℕ
states_from bs = after bs 0

abbrev pub rules_from : List ℕ → ℕ
rules_from bs = spot bs (states_from bs) (states_in bs)

-- all the states, and all the rules from p to the end; there are fewer rules than bytes
abbrev pub all_states : List ℕ → Tests
all_states bs = each (states_in bs) (states_tests (players_in bs) (states_in bs) bs (states_from bs))

abbrev pub all_rules : List ℕ → ℕ → Tests
all_rules bs p = each (length bs) (rules_tests bs p)

-- the heading, the states, the rules
abbrev pub parts_tests : List ℕ → Tests
parts_tests bs = heading_at bs 0 ++ (all_states bs ++ all_rules bs (rules_from bs))

-- few enough bytes
abbrev pub length_tests : List ℕ → Tests
length_tests bs = (length bs ≤ 65535, fault TooLong 0) ∷ []

-- the tests of a book, and of rules alone
abbrev pub book_tests : List ℕ → Tests
book_tests bs = length_tests bs ++ parts_tests bs

abbrev pub list_tests : List ℕ → Tests
list_tests bs = length_tests bs ++ all_rules bs 0
