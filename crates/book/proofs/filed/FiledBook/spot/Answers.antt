use Rattle.std.proofs.Common.{arith}
use Rattle.book.specs.Fields.{after}
use Rattle.book.proofs.Walks.{spot_more}
use Rattle.book.proofs.filed.FiledBook.spot.Goals as goal

pub loop-k-preserved : goal.loop-k-preserved
loop-k-preserved c =
    let bs = c.args.self.now.bytes.now in
    (spot_more bs (after bs 0) c.loop-k._k c.loop-k.at c.after-at-in-loop-k.result c.loop-k.invariant.0 c.after-at-in-loop-k.ensures.is, omega arith)
