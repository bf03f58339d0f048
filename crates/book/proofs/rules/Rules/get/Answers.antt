use Rattle.std.proofs.Common.{arith}
use Rattle.book.specs.Readers.{left}
use Rattle.book.proofs.Telling.{told_first}
use Rattle.book.proofs.rules.Rules.get.Goals as goal

pub returns : goal.returns
returns c = told_first c.args.self.now.bytes.now c.args.k (omega arith) c.next.result (left c.next.new.self) c.next.ensures.steps
