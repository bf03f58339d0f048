use Rattle.std.proofs.Common.{◌≡◌, ◌*◌, take}
use Rattle.table.specs.Answers.{book_bytes}
use Rattle.table.specs.Books.{choice_of}
use Rattle.table.proofs.types.Rule.write_choices.Given as goal

abbrev pub invariant-loop-state : goal.invariant-loop-state
invariant-loop-state g l = take (4 * l.state) l.bytes ≡ book_bytes (choice_of (g.G.Game.meaning l.game) l.self l.parts l.temporal) l.state
