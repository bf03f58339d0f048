use Rattle.std.proofs.Common.{◌≡◌, ◌+◌, ◌*◌, ◌≤◌}
use Rattle.book.specs.Filed.{state_spot}
use Rattle.book.proofs.filed.FiledBook.spot.Given as goal

abbrev pub invariant-loop-k : goal.invariant-loop-k
invariant-loop-k l = (l.at ≡ state_spot l.self.bytes.now l._k) × (l.at ≤ 65538 * (l._k + 1))
