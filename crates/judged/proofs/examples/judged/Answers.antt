use Rattle.std.proofs.Common.{◌≡◌, IfOk, vec_items, sym, subst}
use Rattle.judged.specs.Judged.{expected}
use Rattle.judged.proofs.Computed.{judged_examples}
use Rattle.judged.proofs.examples.judged.Goals as goal

pub returns-in-Drill : goal.returns-in-Drill
returns-in-Drill c = record {
  answers = subst (λ x. IfOk c.judge_drill.result (λ v. vec_items v ≡ expected x)) (sym c.in-Drill.is) c.judge_drill.ensures;
  examples = judged_examples;
}

pub returns-in-BoundDrill : goal.returns-in-BoundDrill
returns-in-BoundDrill c = record {
  answers = subst (λ x. IfOk c.judge_bound_drill.result (λ v. vec_items v ≡ expected x)) (sym c.in-BoundDrill.is) c.judge_bound_drill.ensures;
  examples = judged_examples;
}

pub returns-in-Meeting : goal.returns-in-Meeting
returns-in-Meeting c = record {
  answers = subst (λ x. IfOk c.judge_meeting.result (λ v. vec_items v ≡ expected x)) (sym c.in-Meeting.is) c.judge_meeting.ensures;
  examples = judged_examples;
}
