-- A table of judged rules, one line to a rule: the calls that judge them on a new board, and what the board has to answer.
use Rattle.std.specs.Prelude.{ℕ, zero, suc, ◌+◌, true, false, cond, List, [], ◌∷◌, ◌++◌, map, ◌==◌}
use Rattle.std.specs.List.{range_with_len}
use Rattle.book.specs.declared.rules.RuleField.{RuleField}
use Rattle.atl.specs.declared.Shown.{Shown}
use Rattle.atl.specs.declared.Verdict.TheVariants as verdict
use Rattle.calls.specs.declared.types.Call.{Call}
use Rattle.calls.specs.declared.types.Call.TheVariants.{Write, Round, Ask, Tell, Play}
use Rattle.calls.specs.declared.types.Answer.{Answer}
use Rattle.calls.specs.declared.types.Answer.TheVariants.{Number, Marked, Says, Told}

-- The rules, by their names; neg is not.
abbrev pub rule : (kind group r s : ℕ) → RuleField
rule kind group r s = record { kind = kind; group = group; r = r; s = s }

abbrev pub label : ℕ → RuleField
label l = rule 0 0 l 0

abbrev pub neg : ℕ → RuleField
neg r = rule 1 0 r 0

abbrev pub or : ℕ → ℕ → RuleField
or r s = rule 2 0 r s

abbrev pub can_next : (group r : ℕ) → RuleField
can_next group r = rule 3 group r 0

abbrev pub can_until : (group r s : ℕ) → RuleField
can_until group r s = rule 4 group r s

abbrev pub can_unless : (group r s : ℕ) → RuleField
can_unless group r s = rule 5 group r s

abbrev pub despite_next : (group r : ℕ) → RuleField
despite_next group r = rule 6 group r 0

abbrev pub despite_until : (group r s : ℕ) → RuleField
despite_until group r s = rule 7 group r s

-- The marks: yes or no with a number, and with the number 256, which stands for none.
abbrev pub yes : ℕ → Shown
yes k = record { verdict = verdict.Yes; number = k }

abbrev pub no : ℕ → Shown
no k = record { verdict = verdict.No; number = k }

abbrev pub yes- : Shown
yes- = yes 256

abbrev pub no- : Shown
no- = no 256

-- a rule, its marks at the states 0, 1, 2 and so on once it is settled, and the rounds that settle it
pub record Line : Type 0 where
  pub rule : RuleField
  pub marks : List Shown
  pub rounds : ℕ

abbrev pub line : RuleField → List Shown → ℕ → Line
line rule marks rounds = record { rule = rule; marks = marks; rounds = rounds }

-- The calls for rule n, which the call w writes: the write; a tell before each round; a tell after the last; an ask for each state.
abbrev pub rounds_of : (n k : ℕ) → List Call
rounds_of n zero = []
rounds_of n (suc k) = rounds_of n k ++ (Tell n ∷ Round n ∷ [])

abbrev pub asks_of : (n k : ℕ) → List Call
asks_of n k = map (λ q. Ask n q) (range_with_len 0 k)

abbrev pub judging : (n states : ℕ) → (w : Call) → (rounds : ℕ) → List Call
judging n states w rounds = w ∷ (rounds_of n rounds ++ (Tell n ∷ asks_of n states))

-- The calls for a table: of each line they take the write and the rounds. Its first line is rule 0.
abbrev pub row_of : Line → Call × ℕ
row_of x = (Write x.rule.kind x.rule.group x.rule.r x.rule.s, x.rounds)

abbrev pub judging_from : (n states : ℕ) → List (Call × ℕ) → List Call
judging_from n states [] = []
judging_from n states (x ∷ xs) = judging n states x.0 x.1 ++ judging_from (suc n) states xs

abbrev pub calls_of : (states : ℕ) → List Line → List Call
calls_of states lines = judging_from 0 states (map row_of lines)

-- The answers for rule n: n; before round k + 1, that k rounds have not settled the rule; of this round, how many states have the number k;
-- that all the rounds have settled it; the mark of each state.
abbrev pub of_number : ℕ → List Shown → ℕ
of_number k [] = 0
of_number k (x ∷ xs) = cond (x.number == k) 1 0 + of_number k xs

abbrev pub round_answers : List Shown → ℕ → List Answer
round_answers marks zero = []
round_answers marks (suc k) = round_answers marks k ++ (Told k false ∷ Marked (of_number k marks) ∷ [])

abbrev pub answers_for : ℕ → Line → List Answer
answers_for n x = Number n ∷ (round_answers x.marks x.rounds ++ (Told x.rounds true ∷ map Says x.marks))

abbrev pub answers_from : ℕ → List Line → List Answer
answers_from n [] = []
answers_from n (x ∷ xs) = answers_for n x ++ answers_from (suc n) xs

abbrev pub answers_of : List Line → List Answer
answers_of lines = answers_from 0 lines

-- play rule n at the first k states
abbrev pub plays_of : (n k : ℕ) → List Call
plays_of n k = map (λ q. Play n q) (range_with_len 0 k)
