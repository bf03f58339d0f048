use Rattle.book.specs.Tests.{Passes, each}
use Rattle.book.specs.Fields.{spot}
use Rattle.book.specs.Layout.{states_tests}
use Rattle.book.specs.Readers.{Stands}
use Rattle.book.proofs.book.BookReader.states.Given as goal

-- the reader has passed so many states, and they passed their tests
abbrev pub invariant-loop-k : goal.invariant-loop-k
invariant-loop-k l =
    Stands l.initial.self.records.fields.bytes.now (spot l.initial.self.records.fields.bytes.now l.initial.self.records.fields.at l._k) l.self.records.fields
    × Passes (each l._k (states_tests l.heading.players l.heading.states l.initial.self.records.fields.bytes.now l.initial.self.records.fields.at))
