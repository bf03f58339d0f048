use Rattle.std.proofs.Common.{◌≡◌, ◌≤◌, [], length, IfOk, vec_items, sym, ◌∙◌, subst, ap₂, lit≤}
use Rattle.calls.specs.Histories.{answers}
use Rattle.judged.specs.Lines.{judging_from}
use Rattle.judged.specs.Meeting.{meeting_calls}
use Rattle.judged.proofs.Computed.{met}
use Rattle.judged.proofs.examples.judge_meeting.Goals as goal

pub judge-requires : goal.judge-requires
judge-requires c = subst (λ rows. length rows ≤ 32) (sym c.meeting_rows.ensures) (lit≤ tt)

pub returns : goal.returns
unfolding meeting_calls
returns c =
    subst (λ l. IfOk c.judge.result (λ v. vec_items v ≡ l))
    (ap₂ (λ m rows. answers m [] 0 (judging_from 0 3 rows)) c.meeting.ensures c.meeting_rows.ensures ∙ met)
    c.judge.ensures
