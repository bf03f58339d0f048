use Rattle.std.proofs.Common.{◌≡◌, ◌++◌, length, vec_items, vec_len}
use Rattle.book.specs.Readers.{told, left}
use Rattle.report.specs.Steps.{RowsSoFar}
use Rattle.report.proofs.judging.Judging.rules.Given as goal

abbrev pub invariant-loop-rule : goal.invariant-loop-rule
invariant-loop-rule g l =
    (l.self.board.game ≡ l.initial.self.board.game)
    × RowsSoFar (g.G.Game.meaning l.initial.self.board.game) (told l.fn.rules) (vec_items l.rows) (vec_len l.rows) l.self.board.table
    × (vec_len l.rows ≡ l.rule)
    × (length l.yielded ≡ l.rule)
    × (l.yielded ++ left l.field-iterator ≡ left l.initial.field-iterator)
