-- What a book says, and its bytes.
use Rattle.std.specs.Prelude.{◌≡◌, ℕ, ◌-◌, ◌/◌, ◌%◌, ◌<◌, ◌≤◌, List, [], ◌∷◌, ◌++◌, length, slice_index}
use Rattle.std.specs.List.{flat_map, AllByRecursion}
use Rattle.game.specs.Structure.{product}
use Rattle.book.specs.declared.rules.RuleField.{RuleField}
use Rattle.book.specs.Records.{Within}

-- a state: its labels, the counts of moves of players 1 to P, and the next state of each vector, the vectors ascending
pub record State : Type 0 where
  pub labels : ℕ
  pub counts : List ℕ
  pub nexts : List ℕ

pub record Content : Type 0 where
  pub players : ℕ
  pub start : ℕ
  pub states : List State
  pub rules : List RuleField

-- player a's count, and how many vectors there are
abbrev pub count : State → ℕ → ℕ
count q a = slice_index q.counts (a - 1)

abbrev pub vectors_of : State → ℕ
vectors_of q = product (count q) (length q.counts)

-- A field: its tag, its value's length in two bytes, the highest first, and its value.
abbrev pub field : ℕ → List ℕ → List ℕ
field t v = t ∷ length v / 256 ∷ length v % 256 ∷ v

abbrev pub heading_value : Content → List ℕ
heading_value c = c.players ∷ (length c.states - 1) ∷ c.start ∷ []

abbrev pub state_value : State → List ℕ
state_value q = q.labels / 256 ∷ q.labels % 256 ∷ (q.counts ++ q.nexts)

abbrev pub rule_value : RuleField → List ℕ
rule_value r = r.kind ∷ r.group ∷ r.r ∷ r.s ∷ []

abbrev pub state_field : State → List ℕ
state_field q = field 2 (state_value q)

abbrev pub rule_field : RuleField → List ℕ
rule_field r = field 3 (rule_value r)

-- the bytes of rules alone, and of a whole book
abbrev pub encode_rules : List RuleField → List ℕ
encode_rules rs = flat_map rule_field rs

abbrev pub encode : Content → List ℕ
encode c = field 1 (heading_value c) ++ (flat_map state_field c.states ++ encode_rules c.rules)

abbrev pub Byte : ℕ → Type 0
Byte b = b < 256

abbrev pub Below : ℕ → ℕ → Type 0
Below N t = t < N

-- a state is in range, in a game of P players and N states
pub record StateFits (P N : ℕ) (q : State) : Type 0 where
  pub labelled : q.labels < 65536
  pub counted : length q.counts ≡ P
  pub counts_fit : AllByRecursion (Within 1 15) q.counts
  pub few : vectors_of q ≤ 4096
  pub led : length q.nexts ≡ vectors_of q
  pub nexts_fit : AllByRecursion (Below N) q.nexts

-- each part of a rule is a byte; nothing else is asked of it
abbrev pub RuleFits : RuleField → Type 0
RuleFits r = AllByRecursion Byte (rule_value r)

-- a content is in range
pub record Fits (c : Content) : Type 0 where
  pub players_fit : Within 1 6 c.players
  pub states_fit : Within 1 256 (length c.states)
  pub started : c.start < length c.states
  pub each_state : AllByRecursion (StateFits c.players (length c.states)) c.states
  pub each_rule : AllByRecursion RuleFits c.rules
  pub short : length (encode c) ≤ 65535

-- rules alone are in range
pub record RulesFit (rs : List RuleField) : Type 0 where
  pub each_rule : AllByRecursion RuleFits rs
  pub short : length (encode_rules rs) ≤ 65535

-- bs are the bytes of c, which is in range
pub record Holds (bs : List ℕ) (c : Content) : Type 0 where
  pub fits : Fits c
  pub bytes : encode c ≡ bs

pub record HoldsRules (bs : List ℕ) (rs : List RuleField) : Type 0 where
  pub fits : RulesFit rs
  pub bytes : encode_rules rs ≡ bs
