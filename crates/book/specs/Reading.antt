-- What reading answers.
use Rattle.std.specs.Prelude.{◌≡◌, ℕ, List, Result, MatchResult}
use Rattle.book.specs.declared.fault.Fault.{Fault}
use Rattle.book.specs.declared.filed.FiledBook.{FiledBook}
use Rattle.book.specs.declared.rules.RuleField.{RuleField}
use Rattle.book.specs.declared.rules.Rules.{Rules}
use Rattle.book.specs.Content.{Content, Holds, HoldsRules}
use Rattle.book.specs.Described.{described}
use Rattle.book.specs.Readers.{game_in, told, told_in}
use Rattle.book.specs.Told.{Tells}

-- b is the book of a content whose bytes are bs: it means the game that the content describes, and tells its rules
abbrev pub Files : List ℕ → FiledBook → Type 0
Files bs b = (c : Content) × (Holds bs c × ((game_in b ≡ described c) × Tells (told_in b) c.rules))

-- a book is filed where a content has these bytes, and refused where none has
abbrev pub Read : List ℕ → Result FiledBook Fault → Type 0
Read bs r = MatchResult r (Files bs) (λ _. (c : Content) → Holds bs c → ⊥)

-- no two contents have these bytes
abbrev pub OneContent : List ℕ → Type 0
OneContent bs = (c d : Content) → Holds bs c → Holds bs d → c ≡ d

-- the same for rules alone
abbrev pub ListsRules : List ℕ → Rules → Type 0
ListsRules bs r = (rs : List RuleField) × (HoldsRules bs rs × Tells (told r) rs)

abbrev pub ReadRules : List ℕ → Result Rules Fault → Type 0
ReadRules bs r = MatchResult r (ListsRules bs) (λ _. (rs : List RuleField) → HoldsRules bs rs → ⊥)

abbrev pub OneList : List ℕ → Type 0
OneList bs = (rs ss : List RuleField) → HoldsRules bs rs → HoldsRules bs ss → rs ≡ ss
