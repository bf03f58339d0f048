use Rattle.book.proofs.Packed.{Placed}
use Rattle.book.proofs.filed.place.Given as goal

abbrev pub invariant-loop-k : goal.invariant-loop-k
invariant-loop-k l = Placed l.players l.most l.vector l.k l.place
