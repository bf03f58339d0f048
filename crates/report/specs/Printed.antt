-- What is printed of the rules that were judged.
use Rattle.std.specs.Prelude.{◌≡◌, ℕ, zero, suc, ◌*◌, List, [], ◌∷◌, ◌++◌, length, Ok, Err, vec_items, string_bytes, Result}
use Rattle.game.specs.Structure.{Structure}
use Rattle.refusal.specs.declared.Refusal.{Refusal}
use Rattle.refusal.specs.Numbers.{number_of}
use Rattle.atl.specs.declared.Shown.{Shown}
use Rattle.atl.specs.Rounds.{shown}
use Rattle.table.specs.Standing.{Standing, Stack, mark_of, yes_states}
use Rattle.table.specs.Answers.{play_answer, copy_answer, four_bytes}
use Rattle.listing.specs.Text.{rule_text, game_text, refused_text}
use Rattle.report.specs.declared.types.Report.{Report}
use Rattle.report.specs.declared.types.Report.TheVariants.{Listing, Playbook, Declined}
use Rattle.report.specs.Judging.{Judgement}

-- what was asked for, or one line that says why not: the bytes of each
pub data Printed : Type 0 where
  listing playbook declined : List ℕ → Printed

abbrev pub printed : Report → Printed
printed (Listing text) = listing (string_bytes text)
printed (Playbook bytes) = playbook (vec_items bytes)
printed (Declined line) = declined (string_bytes line)

abbrev pub Prints : Printed → Report → Type 0
Prints p report = printed report ≡ p

-- the line of a rule that was refused
abbrev pub declines : ℕ × Refusal → Printed
declines p = declined (refused_text p.0 (number_of p.1))

-- a choice of a playbook, in four bytes
abbrev pub choice_bytes : Result ℕ Refusal → List ℕ
choice_bytes (Ok c) = four_bytes c
choice_bytes (Err e) = []

module _ (m : Structure) where
  -- the marks of the rule x on the rules below it, at the first n states
  abbrev pub marks_shown : Standing → Stack → ℕ → List Shown
  marks_shown x below zero = []
  marks_shown x below (suc n) = marks_shown x below n ++ (shown (mark_of m x (yes_states m below) n) ∷ [])

  -- a line for each rule that stands, from rule 0 on: its number, its rounds and its marks at all states
  abbrev pub lines : Stack → List ℕ
  lines [] = []
  lines (x ∷ below) = lines below ++ rule_text (length below) x.rounds (marks_shown x below m.states)

  abbrev pub listed : Judgement → Printed
  listed (Ok st) = listing (game_text m.players m.states m.start ++ lines st)
  listed (Err p) = declines p

  -- what play answers for rule n at the first k states
  abbrev pub play_bytes : Stack → (n k : ℕ) → List ℕ
  play_bytes st n zero = []
  play_bytes st n (suc k) = play_bytes st n k ++ choice_bytes (play_answer m n k st)

  -- rule n's playbook, by what copy answers into as many bytes as it has
  abbrev pub booked : Stack → ℕ → Result ℕ Refusal → Printed
  booked st n (Ok c) = playbook (play_bytes st n m.states)
  booked st n (Err e) = declines (n, e)

  abbrev pub played : ℕ → Judgement → Printed
  played n (Ok st) = booked st n (copy_answer m n 0 (4 * m.states) st)
  played n (Err p) = declines p
