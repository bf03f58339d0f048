use Rattle.std.proofs.Common.{subst}
use Rattle.std.proofs.lemmas.Result.{err_from_is_err_and}
use Rattle.book.specs.Tests.{Judged}
use Rattle.book.specs.Layout.{length_tests, parts_tests, book_tests}
use Rattle.book.specs.Readers.{FiledFrom}
use Rattle.book.proofs.Decoded.{small_all}
use Rattle.book.proofs.Judging.{fails_left}
use Rattle.book.proofs.Unique.{one_content}
use Rattle.book.proofs.Verdict.{one_verdict, then_judged, book_read}
use Rattle.book.proofs.book.UnreadBook.read.Goals as goal

pub returns-in_err-reader : goal.returns-in_err-reader
returns-in_err-reader c =
    let bs = c.args.self.now.bytes.now in
    let p = err_from_is_err_and c.from_residual.result c.from_residual.ensures.1 in
    let j : Judged (book_tests bs) c.from_residual.result (FiledFrom bs) = rw (p.1, p.2) (fails_left (length_tests bs) (parts_tests bs) _ c.in_err-reader.ensures.verdict) in
    record {
      verdict = j;
      one_verdict = one_verdict (book_tests bs);
      content = book_read bs (small_all bs c.open.ensures.small) c.from_residual.result j;
      one_content = one_content bs;
    }

pub returns : goal.returns
returns c =
    let bs = c.args.self.now.bytes.now in
    let k = subst (λ x. Judged (parts_tests x) c.book.result (FiledFrom x)) c.in_ok-reader.ensures.verdict.1.over c.book.ensures in
    let j = then_judged (length_tests bs) (parts_tests bs) (FiledFrom bs) c.in_ok-reader.ensures.verdict.0 c.book.result k in
    record {
      verdict = j;
      one_verdict = one_verdict (book_tests bs);
      content = book_read bs (small_all bs c.open.ensures.small) c.book.result j;
      one_content = one_content bs;
    }
