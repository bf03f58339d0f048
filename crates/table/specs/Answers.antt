-- What each call answers, refusals with it, and what stands after it.
use Rattle.std.specs.Prelude.{ℕ, zero, suc, ◌+◌, ◌*◌, ◌/◌, ◌%◌, ◌^◌, Bool, cond, List, [], ◌∷◌, ◌++◌, length, take, drop, Some, None, Ok, Err, Option, Result, ◌==◌, nat_le, nat_lt}
use Rattle.game.specs.Structure.{Structure}
use Rattle.refusal.specs.declared.Refusal.{Refusal}
use Rattle.refusal.specs.declared.Refusal.TheVariants.{Full, NoKind, NoGroup, NoPart, NoRule, NoState, PartUnsettled, AlreadySettled, NotSettled, NoPlaybook, NoRoom}
use Rattle.atl.specs.declared.Kind.{Kind}
use Rattle.atl.specs.declared.Kind.TheVariants.{Label, Not, Or, Strategic}
use Rattle.atl.specs.declared.Modality.TheVariants.{Can, Despite}
use Rattle.atl.specs.declared.Mark.{Mark}
use Rattle.atl.specs.declared.Shown.{Shown}
use Rattle.atl.specs.Kinds.{kind_of}
use Rattle.atl.specs.Playbook.{playbook}
use Rattle.atl.specs.Rounds.{newly, tally, shown}
use Rattle.table.specs.Parts.{bad_group, bad_part, waits}
use Rattle.table.specs.Standing.{Standing, Stack, found, marks_of, settled_of, mark_of, yes_states, settled, advanced}

-- no rule stands
abbrev pub nothing : Stack
nothing = []

-- Write. With so many rules standing, the kind of the rule that is written, or the first cause to refuse it.
abbrev pub below : ℕ → ℕ → Bool
below height n = nat_lt n height

abbrev pub taken_as : (players height : ℕ) → Option Kind → (A r s : ℕ) → Result Kind Refusal
taken_as players height None A r s = Err NoKind
taken_as players height (Some f) A r s =
    cond (bad_group players f A) (Err NoGroup) (
    cond (bad_part (below height) f r s) (Err NoPart) (
    Ok f))

abbrev pub taken : (players height : ℕ) → (kind A r s : ℕ) → Result Kind Refusal
taken players height kind A r s = cond (height == 32) (Err Full) (taken_as players height (kind_of kind) A r s)

abbrev pub number_if : ℕ → Result Kind Refusal → Result ℕ Refusal
number_if height (Ok f) = Ok height
number_if height (Err e) = Err e

abbrev pub fresh : Kind → ℕ → ℕ → ℕ → Standing
fresh f A r s = record { kind = f; group = A; r = r; s = s; rounds = 0 }

abbrev pub pushed_if : Result Kind Refusal → (A r s : ℕ) → Stack → Stack
pushed_if (Ok f) A r s st = fresh f A r s ∷ st
pushed_if (Err e) A r s st = st

module _ (m : Structure) where
  abbrev pub write_answer : (kind A r s : ℕ) → Stack → Result ℕ Refusal
  write_answer kind A r s st = number_if (length st) (taken m.players (length st) kind A r s)

  abbrev pub write_after : (kind A r s : ℕ) → Stack → Stack
  write_after kind A r s st = pushed_if (taken m.players (length st) kind A r s) A r s st

-- Erase takes away the highest rule.
abbrev pub erase_answer : Stack → Result ℕ Refusal
erase_answer [] = Err NoRule
erase_answer (x ∷ below) = Ok (length below)

abbrev pub erase_after : Stack → Stack
erase_after [] = []
erase_after (x ∷ below) = below

module _ (m : Structure) where
  -- Round: how many states it marks, those of number 256 not counted.
  abbrev pub round_of : Option (Standing × Stack) → Result ℕ Refusal
  round_of None = Err NoRule
  round_of (Some p) =
      cond (waits (settled m p.1) p.0.kind p.0.r p.0.s) (Err PartUnsettled) (
      cond (settled_of m p.0 (yes_states m p.1)) (Err AlreadySettled) (
      Ok (tally (newly (marks_of m p.0 (yes_states m p.1)) p.0.rounds) m.states)))

  abbrev pub round_answer : ℕ → Stack → Result ℕ Refusal
  round_answer n st = round_of (found st n)

  abbrev pub advanced_if : Result ℕ Refusal → ℕ → Stack → Stack
  advanced_if (Ok c) n st = advanced n st
  advanced_if (Err e) n st = st

  abbrev pub round_after : ℕ → Stack → Stack
  round_after n st = advanced_if (round_answer n st) n st

  -- Ask: verdict and number.
  abbrev pub ask_of : Option (Standing × Stack) → ℕ → Result Shown Refusal
  ask_of None q = Err NoRule
  ask_of (Some p) q = cond (nat_lt q m.states) (Ok (shown (mark_of m p.0 (yes_states m p.1) q))) (Err NoState)

  abbrev pub ask_answer : (n q : ℕ) → Stack → Result Shown Refusal
  ask_answer n q st = ask_of (found st n) q

  -- Tell: the rounds done, and whether the rule is settled.
  abbrev pub tell_of : Option (Standing × Stack) → Result (ℕ × Bool) Refusal
  tell_of None = Err NoRule
  tell_of (Some p) = Ok (p.0.rounds, settled_of m p.0 (yes_states m p.1))

  abbrev pub tell_answer : ℕ → Stack → Result (ℕ × Bool) Refusal
  tell_answer n st = tell_of (found st n)

  -- The playbook of a settled can-rule.
  abbrev pub book_as : Kind → (A : ℕ) → (M : ℕ → Mark) → (R S : ℕ → Bool) → Result (ℕ → ℕ) Refusal
  book_as Label A M R S = Err NoPlaybook
  book_as Not A M R S = Err NoPlaybook
  book_as Or A M R S = Err NoPlaybook
  book_as (Strategic Can o) A M R S = Ok (playbook m A M R S o)
  book_as (Strategic Despite o) A M R S = Err NoPlaybook

  abbrev pub book_of : Standing × Stack → Result (ℕ → ℕ) Refusal
  book_of p =
      cond (settled_of m p.0 (yes_states m p.1))
      (book_as p.0.kind p.0.group (mark_of m p.0 (yes_states m p.1)) (yes_states m p.1 p.0.r) (yes_states m p.1 p.0.s))
      (Err NotSettled)

  -- Play: the playbook's choice at a state.
  abbrev pub choice_in : ℕ → Result (ℕ → ℕ) Refusal → Result ℕ Refusal
  choice_in q (Ok book) = Ok (book q)
  choice_in q (Err e) = Err e

  abbrev pub play_of : Option (Standing × Stack) → ℕ → Result ℕ Refusal
  play_of None q = Err NoRule
  play_of (Some p) q = cond (nat_lt q m.states) (choice_in q (book_of p)) (Err NoState)

  abbrev pub play_answer : (n q : ℕ) → Stack → Result ℕ Refusal
  play_answer n q st = play_of (found st n) q

  -- Copy: how many bytes it writes into a buffer of so many bytes, from the place on.
  abbrev pub size_in : (place size : ℕ) → Result (ℕ → ℕ) Refusal → Result ℕ Refusal
  size_in place size (Ok book) = cond (nat_le (place + 4 * m.states) size) (Ok (4 * m.states)) (Err NoRoom)
  size_in place size (Err e) = Err e

  abbrev pub copy_of : Option (Standing × Stack) → (place size : ℕ) → Result ℕ Refusal
  copy_of None place size = Err NoRule
  copy_of (Some p) place size = size_in place size (book_of p)

  abbrev pub copy_answer : (n place size : ℕ) → Stack → Result ℕ Refusal
  copy_answer n place size st = copy_of (found st n) place size

-- a choice as four bytes, the highest first
abbrev pub four_bytes : ℕ → List ℕ
four_bytes c = (c / 2 ^ 24 % 256) ∷ ((c / 2 ^ 16 % 256) ∷ ((c / 2 ^ 8 % 256) ∷ ((c % 256) ∷ [])))

-- the choices at the first n states
abbrev pub book_bytes : (ℕ → ℕ) → ℕ → List ℕ
book_bytes book zero = []
book_bytes book (suc n) = book_bytes book n ++ four_bytes (book n)

module _ (m : Structure) where
  -- the buffer after it: the choices in order from the place on, all other bytes kept
  abbrev pub written_in : (place : ℕ) → List ℕ → Result (ℕ → ℕ) Refusal → List ℕ
  written_in place buffer (Ok book) = cond (nat_le (place + 4 * m.states) (length buffer)) (take place buffer ++ (book_bytes book m.states ++ drop (place + 4 * m.states) buffer)) buffer
  written_in place buffer (Err e) = buffer

  abbrev pub buffer_of : Option (Standing × Stack) → (place : ℕ) → List ℕ → List ℕ
  buffer_of None place buffer = buffer
  buffer_of (Some p) place buffer = written_in place buffer (book_of m p)

  abbrev pub buffer_after : (n place : ℕ) → Stack → List ℕ → List ℕ
  buffer_after n place st buffer = buffer_of (found st n) place buffer
