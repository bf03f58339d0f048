-- The loops, one turn further.
use Rattle.std.proofs.Common.{◌≡◌, ℕ, ◌+◌, ◌<◌, List, [], ◌∷◌, ◌++◌, length, get_or, take, replicate, Option, sym, refl, ap, ◌∙◌, ap₂, append_assoc, append-nil, add-one}
use Rattle.std.proofs.lemmas.List.{take_more, replicate_more}
use Rattle.std.specs.Option.{option_to_list}
use Rattle.atl.specs.declared.Shown.{Shown}
use Rattle.calls.specs.declared.types.Call.{Call}
use Rattle.calls.specs.declared.types.Call.TheVariants.{Round, Ask}
use Rattle.calls.specs.declared.types.Answer.{Answer}
use Rattle.report.specs.Steps.{asks, shown_in, rounds_in, all_shown, last_told}

-- the calls a, after them those of f up to i, and then one more
more : (f : ℕ → List Call) (x : Call) (i : ℕ) → f i ++ x ∷ [] ≡ f (i + 1) → (a b c : List Call) → b ≡ a ++ f i → c ≡ b ++ x ∷ [] → c ≡ a ++ f (i + 1)
more f x i e a b c p q = q ∙ ap (λ (l : List Call). l ++ x ∷ []) p ∙ append_assoc a (f i) (x ∷ []) ∙ ap (λ (l : List Call). a ++ l) e

pub rounds_more : (n i : ℕ) (a b c : List Call) → b ≡ a ++ replicate i (Round n) → c ≡ b ++ Round n ∷ [] → c ≡ a ++ replicate (i + 1) (Round n)
rounds_more n i = more (λ k. replicate k (Round n)) (Round n) i (replicate_more i (Round n))

pub asks_more : (n i : ℕ) (a b c : List Call) → b ≡ a ++ asks n i → c ≡ b ++ Ask n i ∷ [] → c ≡ a ++ asks n (i + 1)
asks_more n i = more (asks n) (Ask n i) i (ap (asks n) (sym (add-one i)))

-- what one list of answers after another says
pub shown_join : (xs ys : List Answer) → all_shown (xs ++ ys) ≡ all_shown xs ++ all_shown ys
shown_join [] ys = refl
shown_join (x ∷ xs) ys = ap (λ (l : List Shown). option_to_list (shown_in x) ++ l) (shown_join xs ys) ∙ sym (append_assoc (option_to_list (shown_in x)) (all_shown xs) (all_shown ys))

pub told_join : (k : ℕ) (xs ys : List Answer) → last_told k (xs ++ ys) ≡ last_told (last_told k xs) ys
told_join k [] ys = refl
told_join k (x ∷ xs) ys = told_join (rounds_in k x) xs ys

pub shown_push : (xs : List Answer) (a : Answer) → all_shown (xs ++ a ∷ []) ≡ all_shown xs ++ option_to_list (shown_in a)
shown_push xs a = shown_join xs (a ∷ []) ∙ ap (λ (l : List Shown). all_shown xs ++ l) (append-nil (option_to_list (shown_in a)))

pub told_push : (k : ℕ) (xs : List Answer) (a : Answer) → last_told k (xs ++ a ∷ []) ≡ rounds_in (last_told k xs) a
told_push k xs a = told_join k xs (a ∷ [])

module _ (xs : List Answer) (i : ℕ) (d : Answer) (l : i < length xs) where
  pub shown_more : (o : Option Shown) (a b : List Shown) → o ≡ shown_in (get_or xs i d) → a ≡ all_shown (take i xs) → b ≡ a ++ option_to_list o → b ≡ all_shown (take (i + 1) xs)
  shown_more o a b e p q = q ∙ ap₂ (λ (u : List Shown) (v : Option Shown). u ++ option_to_list v) p e ∙ sym (ap all_shown (take_more xs i d l) ∙ shown_push (take i xs) (get_or xs i d))

  pub told_more : (a b : ℕ) → a ≡ last_told 0 (take i xs) → b ≡ rounds_in a (get_or xs i d) → b ≡ last_told 0 (take (i + 1) xs)
  told_more a b p q = q ∙ ap (λ k. rounds_in k (get_or xs i d)) p ∙ sym (ap (last_told 0) (take_more xs i d l) ∙ told_push 0 (take i xs) (get_or xs i d))
