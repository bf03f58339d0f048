-- From bytes to what is printed: of a session book, and of a drill with the bytes of its rules.
use Rattle.std.specs.Prelude.{ℕ, ◌⊎◌, List, length, slice_index_or}
use Rattle.game.specs.Structure.{Structure}
use Rattle.refusal.specs.Numbers.{number_of}
use Rattle.refusal.specs.declared.Refusal.TheVariants.{NoLimit}
use Rattle.drill.specs.Meaning.{drill, Limit}
use Rattle.book.specs.declared.fault.Fault.{Fault}
use Rattle.book.specs.declared.rules.RuleField.{RuleField}
use Rattle.book.specs.Faults.{number_of as cause_number, word_of}
use Rattle.book.specs.Tests.{Tests, Fails}
use Rattle.book.specs.Layout.{book_tests, list_tests}
use Rattle.book.specs.Content.{Content, Holds, HoldsRules}
use Rattle.book.specs.Described.{described}
use Rattle.book.specs.Told.{no_rule}
use Rattle.listing.specs.Text.{fault_text, no_game_text}
use Rattle.report.specs.declared.types.Report.{Report}
use Rattle.report.specs.Judging.{Judgement, judged}
use Rattle.report.specs.Printed.{Printed, Prints, listed, played}
use Rattle.report.specs.Printed.Printed.{declined}
use Rattle.report.specs.Right.{JudgedRight}

-- rule k of a list, and what judging a list of rules comes to
abbrev pub rule_of : List RuleField → ℕ → RuleField
rule_of rs k = slice_index_or rs k no_rule

abbrev pub judged_by : Structure → List RuleField → Judgement
judged_by m rs = judged m (rule_of rs) (length rs)

abbrev pub RightBy : Structure → List RuleField → Type 0
RightBy m rs = JudgedRight m (rule_of rs) (length rs) (judged_by m rs)

-- what is printed of a judgement over a game
abbrev pub Show : Type 0
Show = Structure → Judgement → Printed

abbrev pub playbook_of : ℕ → Show
playbook_of n m j = played m n j

-- the line of a fault
abbrev pub faulty : Fault → Printed
faulty f = declined (fault_text (cause_number f.cause) f.byte (word_of f.layer))

-- The bytes hold what C says, or have a first fault by the tests ts: never neither.
abbrev pub SoundOrFaulty : {C : Type 0} → (C → Type 0) → Tests → Type 0
SoundOrFaulty {C} H ts = ((c : C) × H c) ⊎ ((f : Fault) × Fails ts f)

-- a session book
pub record OfBook (bs : List ℕ) (show : Show) (report : Report) : Type 0 where
  pub either : SoundOrFaulty (Holds bs) (book_tests bs)
  -- of the content that the bytes hold, the game that it describes is judged by its rules, and rightly
  pub sound : (c : Content) → Holds bs c → Prints (show (described c) (judged_by (described c) c.rules)) report
  pub right : (c : Content) → Holds bs c → RightBy (described c) c.rules
  pub fault : (f : Fault) → Fails (book_tests bs) f → Prints (faulty f) report

-- the drill of limit T, judged by the rules that the bytes hold
pub record OfDrill (T : ℕ) (bs : List ℕ) (report : Report) : Type 0 where
  pub refused : (Limit T → ⊥) → Prints (declined (no_game_text (number_of NoLimit))) report
  pub either : Limit T → SoundOrFaulty (HoldsRules bs) (list_tests bs)
  pub sound : Limit T → (rs : List RuleField) → HoldsRules bs rs → Prints (listed (drill T) (judged_by (drill T) rs)) report
  pub right : Limit T → (rs : List RuleField) → HoldsRules bs rs → RightBy (drill T) rs
  pub fault : Limit T → (f : Fault) → Fails (list_tests bs) f → Prints (faulty f) report
