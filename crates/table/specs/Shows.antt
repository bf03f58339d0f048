-- The table of a board shows what stands: of each rule it holds what write took, its marks, its rounds and whether it is settled.
use Rattle.std.specs.Prelude.{◌≡◌, ℕ, zero, suc, ◌+◌, ◌<◌, ◌≤◌, Bool, true, false, cond, ◌⊎◌, List, [], ◌∷◌, length, Ok, Err, Result, slice_index_or}
use Rattle.game.specs.Structure.{Structure}
use Rattle.refusal.specs.declared.Refusal.{Refusal}
use Rattle.atl.specs.declared.Kind.TheVariants.{Label}
use Rattle.atl.specs.declared.Mark.TheVariants.{Open}
use Rattle.atl.specs.Rounds.{settles}
use Rattle.table.specs.declared.types.Condition.{Condition}
use Rattle.table.specs.declared.types.Condition.TheVariants.{Fresh, Working, Settled}
use Rattle.table.specs.declared.types.Rule.{Rule}
use Rattle.table.specs.declared.types.Table.{Table}
use Rattle.table.specs.Parts.{uses_r, uses_s, waits}
use Rattle.table.specs.Standing.{Standing, Stack, marks_of, settled_of, mark_of, yes_states, settled}

-- a rule's condition: fresh before its first round, settled once a round settles it, working between
abbrev pub condition_of : ℕ → Bool → Condition
condition_of zero b = Fresh
condition_of (suc k) b = cond b (Settled (suc k)) (Working (suc k))

-- what a read past the end of the table would give
abbrev pub blank : Rule
blank = record { kind = Label; group = 0; r = 0; s = 0; marks = []; condition = Fresh }

abbrev pub rule_at : List Rule → ℕ → Rule
rule_at rules n = slice_index_or rules n blank

module _ (m : Structure) (below : Stack) (x : Standing) where
  -- the record y of the table is that of the rule x above the rules below
  pub record Right (y : Rule) : Type 0 where
    pub kind : y.kind ≡ x.kind
    pub group : y.group ≡ x.group
    pub r : y.r ≡ x.r
    pub s : y.s ≡ x.s
    pub condition : y.condition ≡ condition_of x.rounds (settled_of m x (yes_states m below))
    pub long : length y.marks ≡ 256
    pub marks : (q : ℕ) → q < m.states → slice_index_or y.marks q Open ≡ mark_of m x (yes_states m below) q

  -- its parts stand below it, it has had rounds only once they were settled, and none before its last settled it
  pub record Orderly : Type 0 where
    pub part_r : uses_r x.kind ≡ true → x.r < length below
    pub part_s : uses_s x.kind ≡ true → x.s < length below
    pub ready : (x.rounds ≡ 0) ⊎ (waits (settled m below) x.kind x.r x.s ≡ false)
    pub going : (j : ℕ) → j < x.rounds → settles m.states x.kind (marks_of m x (yes_states m below)) j ≡ false

-- every rule of the stack is in the table under its number
abbrev pub AllRight : Structure → List Rule → Stack → Type 0
AllRight m rules [] = Unit {0}
AllRight m rules (x ∷ below) = Orderly m below x × Right m below x (rule_at rules (length below)) × AllRight m rules below

pub record Shows (m : Structure) (st : Stack) (t : Table) : Type 0 where
  pub long : length t.rules ≡ 32
  pub most : length st ≤ 32
  pub count : t.count ≡ length st
  pub rules : AllRight m t.rules st

-- What a call promises, whatever stands: it answers so, the table shows what stands after it, and a refusal leaves the table as it was.
pub record Does {A : Type 0} (m : Structure) (answer : Stack → Result A Refusal) (after : Stack → Stack) (t t' : Table) (a : Result A Refusal) : Type 0 where
  pub answers : (st : Stack) → Shows m st t → a ≡ answer st
  pub shows : (st : Stack) → Shows m st t → Shows m (after st) t'
  pub refused : (e : Refusal) → a ≡ Err e → t' ≡ t

-- the same of a call that changes nothing
abbrev pub Answers : {A : Type 0} → Structure → (Stack → Result A Refusal) → Table → Result A Refusal → Type 0
Answers m answer t a = (st : Stack) → Shows m st t → a ≡ answer st

-- a rule has at most N + 1 rounds
abbrev pub Few : ℕ → Result (ℕ × Bool) Refusal → Type 0
Few n (Ok p) = p.0 ≤ n + 1
Few n (Err e) = Unit {0}

abbrev pub FewRounds : Structure → Table → Result (ℕ × Bool) Refusal → Type 0
FewRounds m t a = (st : Stack) → Shows m st t → Few m.states a
