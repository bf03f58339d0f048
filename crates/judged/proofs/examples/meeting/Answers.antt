use Rattle.std.proofs.Common.{◌≡◌, ℕ, List, Ok, Err, IsOk, Result, refl, sym, ap, ◌∙◌, subst}
use Rattle.book.specs.Content.{Holds}
use Rattle.book.specs.Described.{described}
use Rattle.book.specs.Reading.{Read}
use Rattle.book.specs.declared.fault.Fault.{Fault}
use Rattle.book.specs.declared.filed.FiledBook.{FiledBook}
use Rattle.judged.specs.Meeting.{meeting, meeting_bytes}
use Rattle.judged.proofs.Computed.{held}
use Rattle.judged.proofs.examples.meeting.Goals as goal

-- the bytes that are read
as_held : {bytes : List ℕ} → bytes ≡ meeting_bytes → Holds bytes meeting
as_held e = subst (λ bs. Holds bs meeting) (sym e) held

is_read : {bytes : List ℕ} (r : Result FiledBook Fault) → Read bytes r → Holds bytes meeting → IsOk r
is_read (Ok b) read h = refl
is_read (Err e) read h = absurd (read meeting h)

pub unwrap-requires : goal.unwrap-requires
unwrap-requires c = is_read c.read.result c.read.ensures.content (as_held c.meeting_book.ensures)

pub returns : goal.returns
returns c =
    let files = subst (Read c.meeting_book.result.now) c.unwrap.ensures c.read.ensures.content in
    files.1.1.0 ∙ ap described (c.read.ensures.one_content files.0 meeting files.1.0 (as_held c.meeting_book.ensures))
