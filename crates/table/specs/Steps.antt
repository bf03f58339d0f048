-- What each inner function does, by the fields of the table.
use Rattle.std.specs.Prelude.{◌≡◌, ℕ, suc, ◌+◌, ◌-◌, ◌<◌, ◌≤◌, Bool, true, false, cond, not, ◌&&◌, ◌||◌, List, length, replicate, Ok, Err, Result, ◌==◌, nat_lt, slice_index_or, slice_set}
use Rattle.game.specs.Structure.{Structure}
use Rattle.game.specs.Serving.{set_of}
use Rattle.refusal.specs.declared.Refusal.{Refusal}
use Rattle.refusal.specs.declared.Refusal.TheVariants.{NoRule, NoState, PartUnsettled, AlreadySettled}
use Rattle.atl.specs.declared.Kind.{Kind}
use Rattle.atl.specs.declared.Kind.TheVariants.{Label, Not, Or, Strategic}
use Rattle.atl.specs.declared.Temporal.TheVariants.{Next, Until, Unless}
use Rattle.atl.specs.declared.Mark.{Mark}
use Rattle.atl.specs.declared.Mark.TheVariants.{Open, Yes, No}
use Rattle.atl.specs.declared.Shown.{Shown}
use Rattle.atl.specs.Rounds.{holds, labelled, is_open, is_yes, once, one_round, closed, tally, shown}
use Rattle.table.specs.declared.types.Condition.{Condition}
use Rattle.table.specs.declared.types.Condition.TheVariants.{Fresh, Working, Settled}
use Rattle.table.specs.declared.types.Rule.{Rule}
use Rattle.table.specs.declared.types.Table.{Table}
use Rattle.table.specs.declared.types.Parts.{Parts}
use Rattle.table.specs.declared.types.Sets.{Sets}
use Rattle.table.specs.Parts.{waits}
use Rattle.table.specs.Shows.{rule_at, condition_of}

abbrev pub rounds_in : Condition → ℕ
rounds_in Fresh = 0
rounds_in (Working k) = k
rounds_in (Settled k) = k

abbrev pub is_settled : Condition → Bool
is_settled Fresh = false
is_settled (Working k) = false
is_settled (Settled k) = true

-- Calls that change nothing.
abbrev pub ask_table : ℕ → Table → ℕ → ℕ → Result Shown Refusal
ask_table states t n q = cond (nat_lt n t.count) (cond (nat_lt q states) (Ok (shown (slice_index_or (rule_at t.rules n).marks q Open))) (Err NoState)) (Err NoRule)

abbrev pub tell_table : Table → ℕ → Result (ℕ × Bool) Refusal
tell_table t n = cond (nat_lt n t.count) (Ok (rounds_in (rule_at t.rules n).condition, is_settled (rule_at t.rules n).condition)) (Err NoRule)

-- Writing and erasing.
abbrev pub fresh_rule : Kind → ℕ → ℕ → ℕ → Rule
fresh_rule f A r s = record { kind = f; group = A; r = r; s = s; marks = replicate 256 Open; condition = Fresh }

-- the rule that a write takes, fresh
abbrev pub admitted : Result Kind Refusal → (A r s : ℕ) → Result Rule Refusal
admitted (Ok f) A r s = Ok (fresh_rule f A r s)
admitted (Err e) A r s = Err e

abbrev pub Wrote : Table → Table → (A r s : ℕ) → Result Kind Refusal → Type 0
Wrote t t' A r s (Ok f) = (t'.count ≡ t.count + 1) × (t'.rules ≡ slice_set t.rules t.count (fresh_rule f A r s))
Wrote t t' A r s (Err e) = t' ≡ t

abbrev pub erase_table : ℕ → Result ℕ Refusal
erase_table count = cond (count == 0) (Err NoRule) (Ok (count - 1))

abbrev pub Erased : Table → Table → Result ℕ Refusal → Type 0
Erased t t' (Ok n) = (t.count ≡ n + 1) × (t'.count ≡ n) × (t'.rules ≡ t.rules)
Erased t t' (Err e) = (t.count ≡ 0) × (t' ≡ t)

-- Rounds.
abbrev pub settled_in : Table → ℕ → Bool
settled_in t n = nat_lt n t.count && is_settled (rule_at t.rules n).condition

abbrev pub due_rule : (ℕ → Bool) → Rule → Result (Unit {0}) Refusal
due_rule done y = cond (waits done y.kind y.r y.s) (Err PartUnsettled) (cond (is_settled y.condition) (Err AlreadySettled) (Ok tt))

-- why a round of the rule is not due, if it is not
abbrev pub due_table : Table → ℕ → Result (Unit {0}) Refusal
due_table t n = cond (nat_lt n t.count) (due_rule (settled_in t) (rule_at t.rules n)) (Err NoRule)

-- the yes states of a record, and of a rule that stands
abbrev pub YesMarks : Rule → List Bool → Type 0
YesMarks y ys = (q : ℕ) → q < 256 → set_of ys q ≡ is_yes (slice_index_or y.marks q Open)

abbrev pub YesArray : Table → ℕ → List Bool → Type 0
YesArray t n ys = n < t.count → YesMarks (rule_at t.rules n) ys

-- the yes states of the parts of a rule
pub record PartsOf (t : Table) (y : Rule) (parts : Parts) : Type 0 where
  pub r : YesArray t y.r parts.r
  pub s : YesArray t y.s parts.s

-- whether the mark puts a state into the set that the next round aims at
abbrev pub aimed : Kind → Mark → Bool
aimed Label x = is_yes x
aimed Not x = is_yes x
aimed Or x = is_yes x
aimed (Strategic w Next) x = is_yes x
aimed (Strategic w Until) x = is_yes x
aimed (Strategic w Unless) x = is_open x

abbrev pub Aim : Rule → List Bool → Type 0
Aim y xs = (q : ℕ) → q < 256 → set_of xs q ≡ aimed y.kind (slice_index_or y.marks q Open)

-- what the next round marks an open state with, by the rule's condition and kind: R and S are the yes states of its parts, X what it aims at
abbrev pub proposed : Structure → Condition → Kind → (A l : ℕ) → (R S X : ℕ → Bool) → ℕ → Mark
proposed m c Label A l R S X q = once (labelled m l q) 1
proposed m c Not A l R S X q = once (not (R q)) 1
proposed m c Or A l R S X q = once (R q || S q) 1
proposed m c (Strategic w Next) A l R S X q = once (holds m w A q R) 1
proposed m Fresh (Strategic w Until) A l R S X q = cond (S q) (Yes 0) Open
proposed m Fresh (Strategic w Unless) A l R S X q = cond (not (R q) && not (S q)) (No 0) Open
proposed m (Working k) (Strategic w Until) A l R S X q = cond (R q && holds m w A q X) (Yes k) Open
proposed m (Working k) (Strategic w Unless) A l R S X q = cond (not (S q) && not (holds m w A q X)) (No k) Open
proposed m (Settled k) (Strategic w Until) A l R S X q = Open
proposed m (Settled k) (Strategic w Unless) A l R S X q = Open

-- y' is still what write took with y
pub record Kept (y y' : Rule) : Type 0 where
  pub kind : y'.kind ≡ y.kind
  pub group : y'.group ≡ y.group
  pub r : y'.r ≡ y.r
  pub s : y'.s ≡ y.s
  pub long : length y'.marks ≡ length y.marks

module _ (m : Structure) (y : Rule) (sets : Sets) where
  abbrev pub proposal : ℕ → Mark
  proposal q = proposed m y.condition y.kind y.group y.r (set_of sets.parts.r) (set_of sets.parts.s) (set_of sets.aim) q

  -- a mark stays
  abbrev pub new_mark : ℕ → Mark → Mark
  new_mark q old = cond (is_open old) (proposal q) old

  abbrev pub gets_marked : ℕ → Bool
  gets_marked q = is_open (slice_index_or y.marks q Open) && not (is_open (new_mark q (slice_index_or y.marks q Open)))

  -- y' is y after a pass over the first n states, which marked c of them
  pub record Passed (n : ℕ) (y' : Rule) (c : ℕ) : Type 0 where
    pub kept : Kept y y'
    pub condition : y'.condition ≡ y.condition
    pub passed : (q : ℕ) → q < n → slice_index_or y'.marks q Open ≡ new_mark q (slice_index_or y.marks q Open)
    pub rest : (q : ℕ) → n ≤ q → slice_index_or y'.marks q Open ≡ slice_index_or y.marks q Open
    pub counts : c ≡ tally gets_marked n

  -- y' is y after one more round, which marked c states
  pub record Rounded (y' : Rule) (c : ℕ) : Type 0 where
    pub kept : Kept y y'
    pub condition : y'.condition ≡ condition_of (suc (rounds_in y.condition)) (one_round y.kind || c == 0)
    pub marks : (q : ℕ) → q < m.states → slice_index_or y'.marks q Open ≡ closed y.kind (one_round y.kind || c == 0) (new_mark q (slice_index_or y.marks q Open))
    pub counts : c ≡ tally gets_marked m.states

-- y' is y with the first n states closed
pub record Closed (n : ℕ) (y y' : Rule) : Type 0 where
  pub kept : Kept y y'
  pub condition : y'.condition ≡ y.condition
  pub marks : (q : ℕ) → q < n → slice_index_or y'.marks q Open ≡ closed y.kind true (slice_index_or y.marks q Open)
  pub rest : (q : ℕ) → n ≤ q → slice_index_or y'.marks q Open ≡ slice_index_or y.marks q Open

-- y' is y after one more round over the yes states of its parts
pub record Worked (m : Structure) (y : Rule) (parts : Parts) (y' : Rule) (c : ℕ) : Type 0 where
  pub aim : List Bool
  pub aims : Aim y aim
  pub rounded : Rounded m y (record { parts = parts; aim = aim }) y' c

-- a round of rule n that is due
pub record Stepped (m : Structure) (t t' : Table) (n c : ℕ) : Type 0 where
  pub count : t'.count ≡ t.count
  pub rules : t'.rules ≡ slice_set t.rules n (rule_at t'.rules n)
  pub parts : Parts
  pub parts_are : PartsOf t (rule_at t.rules n) parts
  pub worked : rounds_in (rule_at t.rules n).condition < 65535 → Worked m (rule_at t.rules n) parts (rule_at t'.rules n) c
