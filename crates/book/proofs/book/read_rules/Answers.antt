use Rattle.std.proofs.Common.{drop}
use Rattle.std.proofs.lemmas.Result.{err_from_is_err_and}
use Rattle.book.specs.Tests.{Judged}
use Rattle.book.specs.Layout.{length_tests, all_rules, list_tests}
use Rattle.book.specs.Readers.{Over}
use Rattle.book.proofs.Decoded.{small_all}
use Rattle.book.proofs.Judging.{fails_left}
use Rattle.book.proofs.Unique.{one_list}
use Rattle.book.proofs.Verdict.{one_verdict, then_judged, list_read}
use Rattle.book.proofs.Walks.{here}
use Rattle.book.proofs.book.read_rules.Goals as goal

pub returns-in_err-reader : goal.returns-in_err-reader
returns-in_err-reader c =
    let bs = c.args.bytes.now in
    let p = err_from_is_err_and c.from_residual.result c.from_residual.ensures.1 in
    let j : Judged (list_tests bs) c.from_residual.result (Over bs) = rw (p.1, p.2) (fails_left (length_tests bs) (all_rules bs 0) _ c.in_err-reader.ensures.verdict) in
    record {
      verdict = j;
      one_verdict = one_verdict (list_tests bs);
      content = list_read bs (small_all bs c.open.ensures.small) c.from_residual.result j;
      one_list = one_list bs;
    }

pub returns : goal.returns
returns c =
    let bs = c.args.bytes.now in
    let k = here bs 0 c.in_ok-reader.reader.records.fields c.in_ok-reader.ensures.verdict.1 (λ x n. Judged (all_rules x n) c.rules.result (Over (drop n x))) c.rules.ensures in
    let j = then_judged (length_tests bs) (all_rules bs 0) (Over bs) c.in_ok-reader.ensures.verdict.0 c.rules.result k in
    record {
      verdict = j;
      one_verdict = one_verdict (list_tests bs);
      content = list_read bs (small_all bs c.open.ensures.small) c.rules.result j;
      one_list = one_list bs;
    }
