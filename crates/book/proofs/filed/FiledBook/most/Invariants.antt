use Rattle.book.specs.Filed.{players_kept, count_at}
use Rattle.book.proofs.Packed.{Packs}
use Rattle.book.proofs.filed.FiledBook.most.Given as goal

abbrev pub invariant-loop-k : goal.invariant-loop-k
invariant-loop-k l = Packs (count_at l.self.bytes.now l.at) (players_kept l.self.players) l.k l.most l.ones l.product
