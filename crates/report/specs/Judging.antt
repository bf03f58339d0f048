-- Rules judged one after another on a new board of a game: each is written, and given rounds until one settles it.
use Rattle.std.specs.Prelude.{ℕ, zero, suc, ◌+◌, ◌*◌, Bool, cond, List, [], ◌∷◌, Ok, Err, Result}
use Rattle.game.specs.Structure.{Structure}
use Rattle.refusal.specs.declared.Refusal.{Refusal}
use Rattle.book.specs.declared.rules.RuleField.{RuleField}
use Rattle.book.specs.Told.{rule_count, rule_in}
use Rattle.atl.specs.Rounds.{settles}
use Rattle.table.specs.Standing.{Standing, Stack, marks_of, yes_states}
use Rattle.table.specs.Answers.{nothing, write_answer, write_after}

-- the first number from k on that passes; k + tries where none before it does
abbrev pub first_from : (ℕ → Bool) → (tries k : ℕ) → ℕ
first_from p zero k = k
first_from p (suc tries) k = cond (p k) k (first_from p tries (suc k))

abbrev pub with_rounds : Standing → ℕ → Standing
with_rounds x k = record { kind = x.kind; group = x.group; r = x.r; s = x.s; rounds = k }

module _ (m : Structure) where
  -- round k settles the rule x on the rules below it
  abbrev pub settled_at : Standing → Stack → ℕ → Bool
  settled_at x below = settles m.states x.kind (marks_of m x (yes_states m below))

  -- the highest rule with the rounds until the first that settles it; one round more than there are states is enough
  abbrev pub settled_top : Stack → Stack
  settled_top [] = []
  settled_top (x ∷ below) = with_rounds x (first_from (settled_at x below) (m.states + 1) 0) ∷ below

  -- a rule judged on the rules that stand: those that stand then, or the refusal of the rule
  abbrev pub judged_if : Result ℕ Refusal → Stack → Result Stack Refusal
  judged_if (Ok n) st = Ok (settled_top st)
  judged_if (Err e) st = Err e

  abbrev pub judged_on : RuleField → Stack → Result Stack Refusal
  judged_on x st = judged_if (write_answer m x.kind x.group x.r x.s st) (write_after m x.kind x.group x.r x.s st)

-- What judging comes to: the rules that stand then, each settled; or the number of the first rule that was refused, with its refusal.
abbrev pub Judgement : Type 0
Judgement = Result Stack (ℕ × Refusal)

abbrev pub at_rule : ℕ → Result Stack Refusal → Judgement
at_rule n (Ok st) = Ok st
at_rule n (Err e) = Err (n, e)

abbrev pub then_judged : Structure → ℕ → RuleField → Judgement → Judgement
then_judged m n x (Ok st) = at_rule n (judged_on m x st)
then_judged m n x (Err p) = Err p

-- the first n rules, each on those before it
abbrev pub judged : Structure → (ℕ → RuleField) → ℕ → Judgement
judged m rule zero = Ok nothing
judged m rule (suc n) = then_judged m n (rule n) (judged m rule n)

-- the rules that the bytes of rule fields tell
abbrev pub rule_number : List ℕ → ℕ → RuleField
rule_number bs k = rule_in bs (7 * k)

abbrev pub judgement : Structure → List ℕ → Judgement
judgement m bs = judged m (rule_number bs) (rule_count bs)
