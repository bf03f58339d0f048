use Rattle.std.proofs.Common.{◌≡◌, ◌^◌, ◌≤◌}
use Rattle.book.specs.Tests.{Passes, each}
use Rattle.book.specs.Records.{count_tests, product_in}
use Rattle.book.proofs.record.counts.Given as goal

abbrev pub invariant-loop-i : goal.invariant-loop-i
invariant-loop-i l = Passes (each l.i (count_tests l.field.value.now l.field.at)) × (l.product ≡ product_in l.i l.field.value.now) × (l.product ≤ 15 ^ l.i)
