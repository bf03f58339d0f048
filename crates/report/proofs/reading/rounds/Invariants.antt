use Rattle.std.proofs.Common.{◌≡◌, take}
use Rattle.report.specs.Steps.{last_told}
use Rattle.report.proofs.reading.rounds.Given as goal

abbrev pub invariant-loop-answer : goal.invariant-loop-answer
invariant-loop-answer l = l.rounds ≡ last_told 0 (take l.answer-index l.answers)
