-- The judged examples, from the definitions alone. What a list of calls has to answer on a new board is `answers m [] 0 calls`, as `perform` promises.
use Rattle.std.specs.Prelude.{◌≡◌, ℕ, List, []}
use Rattle.drill.specs.Meaning.{drill}
use Rattle.book.specs.Content.{Holds}
use Rattle.book.specs.Described.{described}
use Rattle.calls.specs.Histories.{answers}
use Rattle.calls.specs.declared.types.Answer.{Answer}
use Rattle.judged.specs.declared.examples.Example.{Example}
use Rattle.judged.specs.declared.examples.Example.TheVariants.{Drill, BoundDrill, Meeting}
use Rattle.judged.specs.Drilled.{drill_calls, drill_answers, FollowsBook, bound_drill, bound_calls, bound_answers}
use Rattle.judged.specs.Meeting.{meeting_bytes, meeting, meeting_calls, meeting_answers}

pub record JudgedExamples : Type 0 where
  -- the drill of limit 1: its table, and the playbook of rule 6
  pub drilled : answers (drill 1) [] 0 drill_calls ≡ drill_answers
  -- the drill with both players bound to that playbook
  pub bound : (f : ℕ → ℕ) → FollowsBook f → answers (bound_drill f) [] 0 bound_calls ≡ bound_answers
  -- the meeting: what its bytes say, and its table in the game that they describe
  pub held : Holds meeting_bytes meeting
  pub met : answers (described meeting) [] 0 meeting_calls ≡ meeting_answers

-- what the calls of an example have to answer
abbrev pub expected : Example → List Answer
expected Drill = drill_answers
expected BoundDrill = bound_answers
expected Meeting = meeting_answers
