-- What the code of the playbook does, by the fields of the table.
use Rattle.std.specs.Prelude.{◌≡◌, ℕ, ◌<◌, Bool, cond, List, Ok, Err, Result, slice_index_or}
use Rattle.game.specs.Structure.{Structure}
use Rattle.game.specs.Serving.{set_of}
use Rattle.refusal.specs.declared.Refusal.{Refusal}
use Rattle.refusal.specs.declared.Refusal.TheVariants.{NotSettled, NoPlaybook}
use Rattle.atl.specs.declared.Kind.{Kind}
use Rattle.atl.specs.declared.Kind.TheVariants.{Label, Not, Or, Strategic}
use Rattle.atl.specs.declared.Modality.TheVariants.{Can, Despite}
use Rattle.atl.specs.declared.Temporal.{Temporal}
use Rattle.atl.specs.declared.Mark.{Mark}
use Rattle.atl.specs.declared.Mark.TheVariants.{Open}
use Rattle.atl.specs.Playbook.{yes_below, playbook}
use Rattle.table.specs.declared.types.Parts.{Parts}
use Rattle.table.specs.declared.types.Rule.{Rule}
use Rattle.table.specs.declared.types.Table.{Table}
use Rattle.table.specs.Steps.{is_settled}
use Rattle.table.specs.Answers.{buffer_after}
use Rattle.table.specs.Standing.{Stack}
use Rattle.table.specs.Shows.{Shows}

abbrev pub marks_in : Rule → ℕ → Mark
marks_in y q = slice_index_or y.marks q Open

abbrev pub Below : Rule → ℕ → List Bool → Type 0
Below y n xs = (q : ℕ) → q < 256 → set_of xs q ≡ yes_below n (marks_in y q)

-- the playbook's choice by the marks of a record and the yes states of its parts
abbrev pub choice_of : Structure → Rule → Parts → Temporal → ℕ → ℕ
choice_of m y parts o q = playbook m y.group (marks_in y) (set_of parts.r) (set_of parts.s) o q

abbrev pub temporal_of : Kind → Result Temporal Refusal
temporal_of Label = Err NoPlaybook
temporal_of Not = Err NoPlaybook
temporal_of Or = Err NoPlaybook
temporal_of (Strategic Can o) = Ok o
temporal_of (Strategic Despite o) = Err NoPlaybook

abbrev pub book_in : Rule → Result Temporal Refusal
book_in y = cond (is_settled y.condition) (temporal_of y.kind) (Err NotSettled)

-- the buffer after a copy, whatever stands
abbrev pub Buffered : Structure → Table → (n place : ℕ) → (before after : List ℕ) → Type 0
Buffered m t n place before after = (st : Stack) → Shows m st t → after ≡ buffer_after m n place st before

abbrev pub KeptIfRefused : {A : Type 0} → Result A Refusal → (before after : List ℕ) → Type 0
KeptIfRefused (Ok a) before after = Unit {0}
KeptIfRefused (Err e) before after = after ≡ before
