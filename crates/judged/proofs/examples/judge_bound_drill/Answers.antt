use Rattle.std.proofs.Common.{◌≡◌, ◌≤◌, [], length, IfOk, vec_items, sym, ap, ◌∙◌, subst, ap₂, lit≤}
use Rattle.game.specs.Bound.{bound}
use Rattle.drill.specs.Meaning.{drill}
use Rattle.binding.specs.Entries.{entry_at}
use Rattle.calls.specs.Histories.{answers}
use Rattle.judged.specs.Lines.{judging_from}
use Rattle.judged.specs.Drilled.{bound_calls}
use Rattle.judged.proofs.Computed.{bound_to_book}
use Rattle.judged.proofs.examples.judge_bound_drill.Goals as goal

pub judge-requires : goal.judge-requires
judge-requires c = subst (λ rows. length rows ≤ 32) (sym c.bound_rows.ensures) (lit≤ tt)

pub returns : goal.returns
unfolding bound_calls
returns c =
    let f = entry_at c.bound_drill.result.entries.choices in
    let game = ap₂ (λ T A. bound (drill T) A f) c.bound_drill.ensures.limit c.bound_drill.ensures.group in
    subst (λ l. IfOk c.judge.result (λ v. vec_items v ≡ l))
    (ap₂ (λ m rows. answers m [] 0 (judging_from 0 4 rows)) game c.bound_rows.ensures ∙ bound_to_book f c.bound_drill.ensures.entries)
    c.judge.ensures
