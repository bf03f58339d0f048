-- The meeting: two players who each have two moves at state 0. Equal moves lead to state 1, others to state 2, and there nothing more happens.
use Rattle.std.specs.Prelude.{ℕ, List, [], ◌∷◌}
use Rattle.book.specs.Content.{State, Content}
use Rattle.calls.specs.declared.types.Call.{Call}
use Rattle.calls.specs.declared.types.Answer.{Answer}
use Rattle.judged.specs.Lines.{Line, line, label, can_next, despite_next, yes, no, calls_of, answers_of}

-- the book of 54 bytes
abbrev pub meeting_bytes : List ℕ
meeting_bytes =
    0x01 ∷ 0x00 ∷ 0x03 ∷ 0x02 ∷ 0x02 ∷ 0x00
    ∷ 0x02 ∷ 0x00 ∷ 0x08 ∷ 0x00 ∷ 0x00 ∷ 0x02 ∷ 0x02 ∷ 0x01 ∷ 0x02 ∷ 0x02 ∷ 0x01
    ∷ 0x02 ∷ 0x00 ∷ 0x05 ∷ 0x00 ∷ 0x01 ∷ 0x01 ∷ 0x01 ∷ 0x01
    ∷ 0x02 ∷ 0x00 ∷ 0x05 ∷ 0x00 ∷ 0x00 ∷ 0x01 ∷ 0x01 ∷ 0x02
    ∷ 0x03 ∷ 0x00 ∷ 0x04 ∷ 0x00 ∷ 0x00 ∷ 0x00 ∷ 0x00
    ∷ 0x03 ∷ 0x00 ∷ 0x04 ∷ 0x03 ∷ 0x01 ∷ 0x00 ∷ 0x00
    ∷ 0x03 ∷ 0x00 ∷ 0x04 ∷ 0x06 ∷ 0x01 ∷ 0x00 ∷ 0x00
    ∷ []

-- a state: its labels, the moves of the players, and where the vectors lead, the smallest first
abbrev pub state : ℕ → (counts nexts : List ℕ) → State
state labels counts nexts = record { labels = labels; counts = counts; nexts = nexts }

-- what the book says; label 0 stands at state 1
abbrev pub meeting : Content
meeting = record {
  players = 2;
  start = 0;
  states = state 0 (2 ∷ 2 ∷ []) (1 ∷ 2 ∷ 2 ∷ 1 ∷ []) ∷ state 1 (1 ∷ 1 ∷ []) (1 ∷ []) ∷ state 0 (1 ∷ 1 ∷ []) (2 ∷ []) ∷ [];
  rules = label 0 ∷ can_next 1 0 ∷ despite_next 1 0 ∷ [];
}

-- the rules: player 1 can neither force the meeting nor prevent it
abbrev pub meeting_lines : List Line
meeting_lines =
    line (label 0) (no 0 ∷ yes 0 ∷ no 0 ∷ []) 1
    ∷ line (can_next 1 0) (no 0 ∷ yes 0 ∷ no 0 ∷ []) 1
    ∷ line (despite_next 1 0) (yes 0 ∷ yes 0 ∷ no 0 ∷ []) 1
    ∷ []

unfoldable pub meeting_calls : List Call
meeting_calls = calls_of 3 meeting_lines

unfoldable pub meeting_answers : List Answer
meeting_answers = answers_of meeting_lines
