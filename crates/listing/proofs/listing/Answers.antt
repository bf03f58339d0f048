use Rattle.std.proofs.Common.{string_bytes, ◌∙◌}
use Rattle.listing.specs.Text.{game_text}
use Rattle.listing.proofs.Lines.{rows_more, rows_all}
use Rattle.listing.proofs.listing.Goals as goal

pub loop-rule-preserved : goal.loop-rule-preserved
loop-rule-preserved c =
    rows_more c.args.rows.now c.loop-rule.rule c.index-rows-rule.result c.as_slice.result.now (string_bytes c.in_ok-text.text) (string_bytes c.loop-rule.text) (string_bytes c.push_str.new.self) c.as_str.result.now
    c.loop-rule-test.true c.index-rows-rule.is c.as_slice.ensures.value c.loop-rule.invariant c.in_ok-push_str.ensures.bytes (c.as_str.ensures.value ∙ c.in_ok-line.ensures)

pub returns : goal.returns
returns c =
    rows_all c.args.rows.now c.loop-rule.rule (string_bytes c.in_ok-text.text) (game_text c.args.heading.players c.args.heading.states c.args.heading.start) (string_bytes c.loop-rule.text) c.loop-rule-test.false c.in_ok-text.ensures c.loop-rule.invariant
