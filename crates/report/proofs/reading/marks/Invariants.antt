use Rattle.std.proofs.Common.{◌≡◌, take, vec_items}
use Rattle.report.specs.Steps.{all_shown}
use Rattle.report.proofs.reading.marks.Given as goal

abbrev pub invariant-loop-answer : goal.invariant-loop-answer
invariant-loop-answer l = vec_items l.marks ≡ all_shown (take l.answer-index l.answers)
