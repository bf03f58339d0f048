-- The judged rules of the drill of limit 1: states 0 and 1 are the tries, 2 is answered, 3 is given up.
use Rattle.std.specs.Prelude.{◌≡◌, ℕ, ◌<◌, List, [], ◌∷◌, ◌++◌, map, slice_index}
use Rattle.game.specs.Structure.{Structure}
use Rattle.game.specs.Bound.{bound}
use Rattle.drill.specs.Meaning.{drill}
use Rattle.atl.specs.declared.Shown.{Shown}
use Rattle.calls.specs.declared.types.Call.{Call}
use Rattle.calls.specs.declared.types.Answer.{Answer}
use Rattle.calls.specs.declared.types.Answer.TheVariants.{Choice}
use Rattle.judged.specs.Lines.{Line, line, label, neg, or, can_until, can_unless, despite_until, yes, no, yes-, no-, calls_of, answers_of, plays_of}

-- rules 0 to 5: answered, not answered, everywhere, given up, not given up, nowhere
abbrev pub parts : List Line
parts =
    line (label 8) (no 0 ∷ no 0 ∷ yes 0 ∷ no 0 ∷ []) 1
    ∷ line (neg 0) (yes 0 ∷ yes 0 ∷ no 0 ∷ yes 0 ∷ []) 1
    ∷ line (or 0 1) (yes 0 ∷ yes 0 ∷ yes 0 ∷ yes 0 ∷ []) 1
    ∷ line (label 0) (no 0 ∷ no 0 ∷ no 0 ∷ yes 0 ∷ []) 1
    ∷ line (neg 3) (yes 0 ∷ yes 0 ∷ yes 0 ∷ no 0 ∷ []) 1
    ∷ line (neg 2) (no 0 ∷ no 0 ∷ no 0 ∷ no 0 ∷ []) 1
    ∷ []

-- the marks of rule 6: from each try both players together can bring the answer about, in one step
abbrev pub together : List Shown
together = yes 1 ∷ yes 1 ∷ yes 0 ∷ no- ∷ []

-- rules 0 to 12
abbrev pub drill_lines : List Line
drill_lines =
    parts
    ++ (line (can_until 3 2 0) together 3
    ∷ line (can_until 1 2 0) (no- ∷ no- ∷ yes 0 ∷ no- ∷ []) 2
    ∷ line (can_until 0 2 0) (no- ∷ no- ∷ yes 0 ∷ no- ∷ []) 2
    ∷ line (despite_until 0 2 0) (yes 1 ∷ yes 1 ∷ yes 0 ∷ no- ∷ []) 3
    ∷ line (despite_until 1 2 0) (no- ∷ no- ∷ yes 0 ∷ no- ∷ []) 2
    ∷ line (can_unless 1 4 5) (yes- ∷ yes- ∷ yes- ∷ no 0 ∷ []) 2
    ∷ line (can_unless 0 4 5) (no 2 ∷ no 1 ∷ yes- ∷ no 0 ∷ []) 4
    ∷ [])

-- the playbook of rule 6 at the states 0 to 3: 34 is send and carry, 17 is move 1 of both
abbrev pub drill_book : List ℕ
drill_book = 34 ∷ 34 ∷ 17 ∷ 17 ∷ []

-- all the calls, and what they answer: the table, then the playbook
unfoldable pub drill_calls : List Call
drill_calls = calls_of 4 drill_lines ++ plays_of 6 4

unfoldable pub drill_answers : List Answer
drill_answers = answers_of drill_lines ++ map Choice drill_book

-- the entries f are the playbook at each state, and the drill with both players bound to them
abbrev pub FollowsBook : (ℕ → ℕ) → Type 0
FollowsBook f = (q : ℕ) → q < 4 → f q ≡ slice_index drill_book q

abbrev pub bound_drill : (ℕ → ℕ) → Structure
bound_drill f = bound (drill 1) 3 f

-- there nobody's group has the marks that both players have in the drill
abbrev pub bound_lines : List Line
bound_lines = parts ++ (line (can_until 0 2 0) together 3 ∷ [])

unfoldable pub bound_calls : List Call
bound_calls = calls_of 4 bound_lines

unfoldable pub bound_answers : List Answer
bound_answers = answers_of bound_lines
