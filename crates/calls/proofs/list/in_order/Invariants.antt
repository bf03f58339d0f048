use Rattle.std.proofs.Common.{◌≡◌, ◌≤◌, length, take, vec_items, vec_len, vec_capacity}
use Rattle.calls.specs.Performing.{Performs}
use Rattle.calls.proofs.list.in_order.Given as goal

abbrev pub invariant-loop-each : goal.invariant-loop-each
invariant-loop-each g l =
    (l.board.game ≡ l.initial.board.game)
    × (vec_len l.answers ≡ l.each-index)
    × (length l.calls ≤ vec_capacity l.answers)
    × Performs (g.G.Game.meaning l.initial.board.game) (take l.each-index l.calls) l.initial.board.table l.board.table l.initial.buffer l.buffer (vec_items l.answers)
