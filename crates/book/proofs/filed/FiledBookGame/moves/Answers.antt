use Rattle.std.proofs.Common.{◌&&◌, ltb, leb, sym, ap, ◌∙◌, arith}
use Rattle.std.proofs.lemmas.Bool.{and_from, le-leb, cond-true}
use Rattle.book.specs.Filed.{players_kept, states_kept, moves_at, table_moves}
use Rattle.book.specs.Limited.{moves_range}
use Rattle.book.proofs.Packed.{player_digit}
use Rattle.book.proofs.filed.FiledBookGame.moves.Goals as goal

pub returns-then-is_state : goal.returns-then-is_state
returns-then-is_state c =
    let bs = c.args.self.now.bytes.now in
    let P = players_kept c.args.self.now.players in
    let N = states_kept c.args.self.now.states in
    let a = c.args.player in
    let q = c.args.state in
    c.digit.ensures
    ∙ player_digit (moves_at bs P c.spot.result) (λ b. (moves_range bs P c.spot.result b).1) P a c.most.result c.most.ensures (omega arith) (omega arith)
    ∙ (ap (λ p. moves_at bs P p a) c.spot.ensures.is
    ∙ sym (cond-true ((leb 1 a && leb a P) && ltb q N) (table_moves bs P a q) 0 (and_from _ _ (and_from _ _ (le-leb 1 a (omega arith)) (le-leb a P (omega arith))) (sym c.if-is_state.ensures))))
