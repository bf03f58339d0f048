use Rattle.book.specs.Tests.{Passes, each}
use Rattle.book.specs.Records.{next_tests}
use Rattle.book.proofs.record.nexts.Given as goal

abbrev pub invariant-loop-j : goal.invariant-loop-j
invariant-loop-j l = Passes (each l.j (next_tests l.heading.players l.heading.states l.field.value.now l.field.at))
