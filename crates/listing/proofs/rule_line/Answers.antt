use Rattle.std.proofs.Common.{ℕ, List, ◌++◌, string_bytes, codes, ap, ◌∙◌}
use Rattle.atl.specs.declared.Verdict.TheVariants.{Open}
use Rattle.listing.specs.Text.{marks_text}
use Rattle.listing.proofs.Lines.{line_more, line_all}
use Rattle.listing.proofs.rule_line.Goals as goal

pub loop-shown-preserved : goal.loop-shown-preserved
loop-shown-preserved c =
    line_more c.args.marks.now c.loop-shown.shown-index (record { verdict = Open; number = 0 }) (string_bytes c.in_ok-line.line) (string_bytes c.loop-shown.line) (string_bytes c.write.new.self) c.loop-shown-test.true c.loop-shown.invariant c.in_ok-write.ensures.bytes

pub returns : goal.returns
returns c =
    line_all c.args.marks.now c.loop-shown.shown-index (string_bytes c.in_ok-line.line) (string_bytes c.loop-shown.line) (string_bytes c.push_str.new.self) c.loop-shown-test.false c.loop-shown.invariant c.in_ok-push_str.ensures.bytes
    ∙ ap (λ (bs : List ℕ). bs ++ (marks_text c.args.marks.now ++ codes "\n")) c.in_ok-line.ensures.ok
