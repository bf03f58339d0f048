use Rattle.std.proofs.lemmas.Result.{IfOk-weaker}
use Rattle.book.specs.Readers.{game_in, told}
use Rattle.report.specs.Judging.{judgement}
use Rattle.report.specs.Printed.{Prints, listed}
use Rattle.report.specs.Whole.{faulty, OfBook}
use Rattle.report.proofs.Whole.{of_sound_book, of_faulty_book}
use Rattle.report.proofs.session.list_book.Goals as goal

pub returns-in-Ok : goal.returns-in-Ok
returns-in-Ok c =
    let bs = c.args.bytes.now in
    let b = c.in-Ok.filed in
    let t = told c.rules-rules.result in
    let read = c.in-Ok.ensures in
    IfOk-weaker c.list.result (Prints (listed (game_in b) (judgement (game_in b) t))) (OfBook bs listed)
    (λ report p. of_sound_book bs listed report read.one_verdict b t read.verdict.0 read.content read.one_content c.rules-rules.ensures p)
    c.list.ensures.listed

pub returns-in-Err : goal.returns-in-Err
returns-in-Err c =
    let bs = c.args.bytes.now in
    let read = c.in-Err.ensures in
    IfOk-weaker c.faulted.result (Prints (faulty c.in-Err.fault)) (OfBook bs listed)
    (λ report p. of_faulty_book bs listed report read.one_verdict c.in-Err.fault read.verdict read.content p)
    c.faulted.ensures
