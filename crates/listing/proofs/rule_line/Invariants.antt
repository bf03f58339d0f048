use Rattle.std.proofs.Common.{◌≡◌, ◌++◌, take, string_bytes}
use Rattle.listing.specs.Text.{marks_text}
use Rattle.listing.proofs.rule_line.Given as goal

abbrev pub invariant-loop-shown : goal.invariant-loop-shown
invariant-loop-shown l = string_bytes l.line ≡ string_bytes l.initial.line ++ marks_text (take l.shown-index l.marks)
