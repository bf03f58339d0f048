-- What a reader stands over, and what it yields.
use Rattle.std.specs.Prelude.{◌≡◌, ℕ, ◌+◌, List, drop, slice_index}
use Rattle.game.specs.Structure.{Structure, Limits}
use Rattle.book.specs.declared.book.UnreadBook.{UnreadBook}
use Rattle.book.specs.declared.field.Field.{Field}
use Rattle.book.specs.declared.field.FieldReader.{FieldReader}
use Rattle.book.specs.declared.filed.FiledBook.{FiledBook}
use Rattle.book.specs.declared.heading.Heading.{Heading}
use Rattle.book.specs.declared.rules.RuleField.{RuleField}
use Rattle.book.specs.declared.rules.RuleFields.{RuleFields}
use Rattle.book.specs.declared.rules.Rules.{Rules}
use Rattle.book.specs.Fields.{after, value, spot}
use Rattle.book.specs.Layout.{players_in, states_in, start_in, rules_from}
use Rattle.book.specs.Told.{rules_told}
use Rattle.book.specs.Filed.{filed}
use Rattle.book.specs.Limited.{filed_limits}

abbrev pub bytes_of : FieldReader → List ℕ
bytes_of r = r.bytes.now

-- the reader stands at p of bs
pub record Stands (bs : List ℕ) (p : ℕ) (r : FieldReader) : Type 0 where
  pub over : bytes_of r ≡ bs
  pub place : r.at ≡ p

-- from r to s the reader went over the field at r
abbrev pub Passed : FieldReader → FieldReader → Type 0
Passed r s = Stands (bytes_of r) (after (bytes_of r) r.at) s

-- and f is that field
pub record Yields (r s : FieldReader) (f : Field) : Type 0 where
  pub at : f.at ≡ r.at
  pub tag : f.tag ≡ slice_index (bytes_of r) r.at
  pub part : f.value.now ≡ value (bytes_of r) r.at
  pub passed : Passed r s

-- h is what the value v of a heading says
pub record Heads (v : List ℕ) (h : Heading) : Type 0 where
  pub players : h.players ≡ slice_index v 0
  pub states : h.states ≡ slice_index v 1 + 1
  pub start : h.start ≡ slice_index v 2

-- the field at r is a heading that says h
pub record Headed (r s : FieldReader) (h : Heading) : Type 0 where
  pub heads : Heads (value (bytes_of r) r.at) h
  pub passed : Passed r s

-- the reader went on, and nothing is told of the record x
abbrev pub Went : {X : Type 0} → FieldReader → FieldReader → X → Type 0
Went r s x = Passed r s

-- the reader went over n fields
abbrev pub WentOver : {X : Type 0} → ℕ → FieldReader → FieldReader → X → Type 0
WentOver n r s x = Stands (bytes_of r) (spot (bytes_of r) r.at n) s

abbrev pub unread : UnreadBook → List ℕ
unread b = b.bytes.now

-- the fields of the rules
abbrev pub told : Rules → List ℕ
told r = r.bytes.now

-- the rules that are left
abbrev pub left : RuleFields → List RuleField
left r = rules_told r.bytes.now

-- the rules are those over the bytes bs
abbrev pub Over : List ℕ → Rules → Type 0
Over bs s = told s ≡ bs

-- what a filed book means as a game, which keeps to the limits, and the fields of its rules
abbrev pub game_in : FiledBook → Structure
game_in b = filed b.bytes.now b.players b.states b.start

pub limits_in : (b : FiledBook) → Limits (game_in b)
limits_in b = filed_limits b.bytes.now b.players b.states b.start

abbrev pub told_in : FiledBook → List ℕ
told_in b = told b.rules

-- b is made of the bytes bs, of what their heading says, and of the part of them after the states
pub record FiledFrom (bs : List ℕ) (b : FiledBook) : Type 0 where
  pub bytes : b.bytes.now ≡ bs
  pub players : b.players ≡ players_in bs
  pub states : b.states ≡ states_in bs
  pub start : b.start ≡ start_in bs
  pub rules : Over (drop (rules_from bs) bs) b.rules
