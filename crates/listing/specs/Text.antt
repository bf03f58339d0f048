-- The listing, byte for byte.
use Rattle.std.specs.Prelude.{ℕ, suc, cond, List, [], ◌∷◌, ◌++◌, vec_items, codes, decimal, ◌==◌}
use Rattle.listing.specs.declared.Row.{Row}
use Rattle.atl.specs.declared.Verdict.{Verdict}
use Rattle.atl.specs.declared.Verdict.TheVariants.{Open, Yes, No}
use Rattle.atl.specs.declared.Shown.{Shown}

abbrev pub letter : Verdict → List ℕ
letter Open = codes "o"
letter Yes = codes "y"
letter No = codes "n"

-- 256 stands for no number
abbrev pub number_text : ℕ → List ℕ
number_text n = cond (n == 256) (codes "-") (decimal n)

abbrev pub mark_text : Shown → List ℕ
mark_text x = letter x.verdict ++ number_text x.number

-- each mark after a space
abbrev pub marks_text : List Shown → List ℕ
marks_text [] = []
marks_text (x ∷ xs) = (codes " " ++ mark_text x) ++ marks_text xs

-- a rule's number, its rounds and its marks
abbrev pub rule_text : (rule rounds : ℕ) → List Shown → List ℕ
rule_text rule rounds xs = (decimal rule ++ (codes " " ++ decimal rounds)) ++ (marks_text xs ++ codes "\n")

-- players, states and start
abbrev pub game_text : (players states start : ℕ) → List ℕ
game_text players states start = codes "game " ++ (decimal players ++ (codes " " ++ (decimal states ++ (codes " " ++ (decimal start ++ codes "\n")))))

-- the lines of the rules from number n on
abbrev pub rows_text : ℕ → List Row → List ℕ
rows_text n [] = []
rows_text n (x ∷ xs) = rule_text n x.rounds (vec_items x.marks) ++ rows_text (suc n) xs

abbrev pub listing_text : (players states start : ℕ) → List Row → List ℕ
listing_text players states start rows = game_text players states start ++ rows_text 0 rows

-- the first rule that was refused, and the refusal's number
abbrev pub refused_text : (rule number : ℕ) → List ℕ
refused_text rule number = codes "refused " ++ (decimal rule ++ (codes " " ++ (decimal number ++ codes "\n")))

-- a game that was refused, by the refusal's number
abbrev pub no_game_text : (number : ℕ) → List ℕ
no_game_text number = codes "refused " ++ (decimal number ++ codes "\n")

-- a faulty book: the cause's number, the byte and the layer's word
abbrev pub fault_text : (cause byte : ℕ) → (layer : List ℕ) → List ℕ
fault_text cause byte layer = codes "fault " ++ (decimal cause ++ (codes " " ++ (decimal byte ++ (codes " " ++ (layer ++ codes "\n")))))
