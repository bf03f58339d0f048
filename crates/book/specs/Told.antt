-- The rules that the bytes of rule fields tell, seven bytes to a rule.
use Rattle.std.specs.Prelude.{◌≡◌, ℕ, ◌+◌, ◌*◌, ◌/◌, ◌<◌, cond, List, [], ◌∷◌, length, Some, None, Option, nat_lt, slice_index, slice_index_or}
use Rattle.book.specs.declared.rules.RuleField.{RuleField}

-- how many whole ones there are
abbrev pub rule_count : List ℕ → ℕ
rule_count bs = length bs / 7

-- the value of the field at p
abbrev pub rule_in : List ℕ → ℕ → RuleField
rule_in bs p = record { kind = slice_index bs (p + 3); group = slice_index bs (p + 4); r = slice_index bs (p + 5); s = slice_index bs (p + 6) }

-- rule k, from 0
abbrev pub rule_told : List ℕ → ℕ → Option RuleField
rule_told bs k = cond (nat_lt k (rule_count bs)) (Some (rule_in bs (7 * k))) None

abbrev pub no_rule : RuleField
no_rule = record { kind = 0; group = 0; r = 0; s = 0 }

-- all of them, in order
abbrev pub rules_told : List ℕ → List RuleField
rules_told (_ ∷ _ ∷ _ ∷ k ∷ g ∷ r ∷ s ∷ bs) = record { kind = k; group = g; r = r; s = s } ∷ rules_told bs
rules_told _ = []

-- the bytes tell these rules, in order
pub record Tells (bs : List ℕ) (rs : List RuleField) : Type 0 where
  pub many : rule_count bs ≡ length rs
  pub each : (k : ℕ) → k < length rs → rule_told bs k ≡ Some (slice_index_or rs k no_rule)
