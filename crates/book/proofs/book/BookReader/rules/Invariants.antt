use Rattle.std.proofs.Common.{ℕ, ◌-◌, length}
use Rattle.book.specs.Tests.{Passes, each}
use Rattle.book.specs.Fields.{spot}
use Rattle.book.specs.Layout.{rules_tests}
use Rattle.book.specs.Readers.{Stands}
use Rattle.book.proofs.book.BookReader.rules.Given as goal

-- the reader has passed some number of rules, and they passed their tests
abbrev pub invariant-loop-self : goal.invariant-loop-self
invariant-loop-self l =
    (k : ℕ)
    × Stands l.initial.self.records.fields.bytes.now (spot l.initial.self.records.fields.bytes.now l.initial.self.records.fields.at k) l.self.records.fields
    × Passes (each k (rules_tests l.initial.self.records.fields.bytes.now l.initial.self.records.fields.at))

abbrev pub decreases-loop-self : goal.decreases-loop-self
decreases-loop-self l = length l.initial.self.records.fields.bytes.now - l.self.records.fields.at
