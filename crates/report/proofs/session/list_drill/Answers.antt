use Rattle.std.proofs.Common.{ℕ, subst}
use Rattle.std.proofs.lemmas.Result.{IfOk-weaker}
use Rattle.drill.specs.Meaning.{drill}
use Rattle.book.specs.Readers.{told}
use Rattle.report.specs.Judging.{judgement}
use Rattle.report.specs.Printed.{Prints, listed}
use Rattle.report.specs.Whole.{faulty, OfDrill}
use Rattle.report.proofs.Whole.{of_sound_rules, of_faulty_rules}
use Rattle.report.proofs.session.list_drill.Goals as goal

pub returns-in-Ok-read_rules : goal.returns-in-Ok-read_rules
returns-in-Ok-read_rules c =
    let bs = c.args.bytes.now in
    let T = c.args.limit in
    let made = c.in-Ok.ensures in
    let r = c.in-Ok-read_rules.rules in
    let read = c.in-Ok-read_rules.ensures in
    IfOk-weaker c.list.result (Prints (listed (drill c.in-Ok.drill.limit) (judgement (drill c.in-Ok.drill.limit) (told r)))) (OfDrill T bs)
    (λ report p. of_sound_rules T made.0 bs report read.one_verdict r read.verdict.0 read.content read.one_list
    (subst (λ (n : ℕ). Prints (listed (drill n) (judgement (drill n) (told r))) report) made.1 p))
    c.list.ensures.listed

pub returns-in-Err-read_rules : goal.returns-in-Err-read_rules
returns-in-Err-read_rules c =
    let bs = c.args.bytes.now in
    let read = c.in-Err-read_rules.ensures in
    IfOk-weaker c.faulted.result (Prints (faulty c.in-Err-read_rules.fault)) (OfDrill c.args.limit bs)
    (λ report p. of_faulty_rules c.args.limit c.in-Ok.ensures.0 bs report read.one_verdict c.in-Err-read_rules.fault read.verdict read.content p)
    c.faulted.ensures
