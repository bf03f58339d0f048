use Rattle.std.proofs.Common.{◌≡◌, [], IfOk, vec_items, ◌∙◌, subst, ap₂}
use Rattle.drill.specs.Meaning.{drill}
use Rattle.calls.specs.Histories.{answers}
use Rattle.judged.proofs.Computed.{drilled}
use Rattle.judged.proofs.examples.judge_drill.Goals as goal

pub returns : goal.returns
returns c =
    subst (λ l. IfOk c.answered.result (λ v. vec_items v ≡ l))
    (ap₂ (λ T cs. answers (drill T) [] 0 cs) c.drill.ensures (c.as_slice.ensures.value ∙ c.in_ok-calls.ensures) ∙ drilled)
    c.answered.ensures
