-- What the reading answers, from the tests.
use Rattle.std.proofs.Common.{◌≡◌, ℕ, List, ◌++◌, Ok, Err, Result, sym, ap, ◌∙◌, subst}
use Rattle.book.specs.declared.fault.Fault.{Fault}
use Rattle.book.specs.declared.filed.FiledBook.{FiledBook}
use Rattle.book.specs.declared.rules.Rules.{Rules}
use Rattle.book.specs.Tests.{Tests, Passes, Judged, OneVerdict}
use Rattle.book.specs.Layout.{book_tests, list_tests}
use Rattle.book.specs.Filed.{filed}
use Rattle.book.specs.Content.{Content, Holds, encode}
use Rattle.book.specs.Described.{described}
use Rattle.book.specs.Readers.{told, told_in, Over, FiledFrom}
use Rattle.book.specs.Reading.{Files, Read, ReadRules}
use Rattle.book.proofs.Judging.{passes-++, fails_right, not_both, one_fault}
use Rattle.book.proofs.Accepted.{rules_cut, book_accepted, list_accepted}
use Rattle.book.proofs.Decoded.{Small, book_decoded, list_decoded}
use Rattle.book.proofs.Meaning.{filed_described}
use Rattle.book.proofs.Telling.{tells_rules}

pub one_verdict : (ts : Tests) → OneVerdict ts
one_verdict ts = record { refused = λ f h p. not_both ts f p h; same = one_fault ts }

-- a verdict on tests, after others were passed
pub then_judged : {X : Type 0} (ss ts : Tests) (Q : X → Type 0) → Passes ss → (r : Result X Fault) → Judged ts r Q → Judged (ss ++ ts) r Q
then_judged ss ts Q p (Ok x) j = (passes-++ ss ts p j.0, j.1)
then_judged ss ts Q p (Err f) j = fails_right ss ts f p j

-- a book that is made of the bytes of c is filed as c
files : (bs : List ℕ) (c : Content) → Holds bs c → (b : FiledBook) → FiledFrom bs b → Files bs b
files bs c h b f =
    let moved : FiledFrom (encode c) b = subst (λ x. FiledFrom x b) (sym h.bytes) f in
    let m : filed (encode c) b.players b.states b.start ≡ described c = filed_described c h.fits b.players b.states b.start moved.players moved.states moved.start in
    (c, (h, (ap (λ x. filed x b.players b.states b.start) moved.bytes ∙ m, tells_rules (told_in b) c.rules (moved.rules ∙ rules_cut c h.fits))))

pub book_read : (bs : List ℕ) → Small bs → (r : Result FiledBook Fault) → Judged (book_tests bs) r (FiledFrom bs) → Read bs r
book_read bs small (Ok b) j = let d = book_decoded bs small j.0 in files bs d.0 d.1 b j.1
book_read bs small (Err f) j = λ c h. not_both (book_tests bs) f (subst (λ b. Passes (book_tests b)) h.bytes (book_accepted c h.fits)) j

pub list_read : (bs : List ℕ) → Small bs → (r : Result Rules Fault) → Judged (list_tests bs) r (Over bs) → ReadRules bs r
list_read bs small (Ok s) j = let d = list_decoded bs small j.0 in (d.0, (d.1, tells_rules (told s) d.0 (j.1 ∙ sym d.1.bytes)))
list_read bs small (Err f) j = λ rs h. not_both (list_tests bs) f (subst (λ b. Passes (list_tests b)) h.bytes (list_accepted rs h.fits)) j
