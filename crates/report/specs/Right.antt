-- What judging comes to, in the subject's words: read from the game, the rules of the book and what stands.
use Rattle.std.specs.Prelude.{◌≡◌, ℕ, ◌<◌, true, false, List, length, Some, Ok, Err}
use Rattle.game.specs.Structure.{Structure}
use Rattle.refusal.specs.declared.Refusal.{Refusal}
use Rattle.book.specs.declared.rules.RuleField.{RuleField}
use Rattle.book.specs.Told.{rule_count}
use Rattle.atl.specs.Kinds.{kind_of}
use Rattle.atl.specs.Rounds.{shown}
use Rattle.table.specs.Standing.{Standing, Stack, found, mark_of, yes_states, settled}
use Rattle.table.specs.Answers.{write_answer, ask_answer, tell_answer}
use Rattle.board.specs.Truth.{SettledRight}
use Rattle.report.specs.Judging.{settled_at, Judgement, rule_number, judgement}

-- the rule f of a book stands as x
pub record StandsAs (f : RuleField) (x : Standing) : Type 0 where
  pub kind : kind_of f.kind ≡ Some x.kind
  pub group : x.group ≡ f.group
  pub r : x.r ≡ f.r
  pub s : x.s ≡ f.s

-- rule n of what stands: f of the book, and x on the rules below it
pub record RuleRight (m : Structure) (f : RuleField) (st : Stack) (n : ℕ) (x : Standing) (below : Stack) : Type 0 where
  pub told : StandsAs f x
  -- its last round settled it, and none before did
  pub is_settled : settled m st n ≡ true
  pub not_before : (k : ℕ) → k < x.rounds → settled_at m x below k ≡ false
  -- the rounds and the marks that are listed are those that the board tells
  pub rounds : tell_answer m n st ≡ Ok (x.rounds, true)
  pub marks : (q : ℕ) → q < m.states → ask_answer m n q st ≡ Ok (shown (mark_of m x (yes_states m below) q))
  -- and its verdicts and its playbook are right
  pub right : SettledRight m st n x below

-- the first n rules of the book stand, and nothing else
pub record AllStand (m : Structure) (rule : ℕ → RuleField) (n : ℕ) (st : Stack) : Type 0 where
  pub many : length st ≡ n
  pub each : (k : ℕ) (x : Standing) (below : Stack) → found st k ≡ Some (x, below) → RuleRight m (rule k) st k x below

-- of the first n rules of the book, rule k is refused with e where all before it stand
pub record FirstRefused (m : Structure) (rule : ℕ → RuleField) (n k : ℕ) (e : Refusal) : Type 0 where
  pub within : k < n
  pub before : Stack
  pub stand : AllStand m rule k before
  pub refused : write_answer m (rule k).kind (rule k).group (rule k).r (rule k).s before ≡ Err e

abbrev pub JudgedRight : Structure → (ℕ → RuleField) → ℕ → Judgement → Type 0
JudgedRight m rule n (Ok st) = AllStand m rule n st
JudgedRight m rule n (Err p) = FirstRefused m rule n p.0 p.1

-- the judgement of a game by the rules that bytes tell is right
abbrev pub RightOf : Structure → List ℕ → Type 0
RightOf m bs = JudgedRight m (rule_number bs) (rule_count bs) (judgement m bs)
