-- The bytes of rules tell those rules.
use Rattle.std.proofs.Common.{◌≡◌, ℕ, zero, suc, ◌+◌, ◌-◌, ◌*◌, ◌<◌, ◌≤◌, ltb, List, [], ◌∷◌, length, get_or, take, drop, Some, None, Option, MatchOption, sym, refl, ap, ◌∙◌, subst, arith, length-drop}
use Rattle.std.proofs.lemmas.List.{get_or_append_left, get_or-append-add, get_or-drop, take_rest}
use Rattle.std.proofs.lemmas.Bool.{cond-true, lt-ltb}
use Rattle.book.specs.declared.rules.RuleField.{RuleField}
use Rattle.book.specs.Content.{rule_field, encode_rules}
use Rattle.book.specs.Told.{rule_count, rule_in, rule_told, rules_told, no_rule, Tells}

rules_length : (rs : List RuleField) → length (encode_rules rs) ≡ 7 * length rs
rules_length [] = refl
rules_length (r ∷ rs) = omega (arith, rules_length rs)

rules_byte : (rs : List RuleField) (k i : ℕ) → k < length rs → i < 7 → get_or (encode_rules rs) (7 * k + i) 0 ≡ get_or (rule_field (get_or rs k no_rule)) i 0
rules_byte [] k i l u = absurd (omega arith)
rules_byte (r ∷ rs) zero i l u = let e : 7 * 0 + i ≡ i = omega arith in rw e (get_or_append_left (rule_field r) (encode_rules rs) 0 i u)
rules_byte (r ∷ rs) (suc k) i l u =
    let e : 7 * suc k + i ≡ 7 + (7 * k + i) = omega arith in
    rw e (get_or-append-add (rule_field r) (encode_rules rs) (7 * k + i) 0 ∙ rules_byte rs k i (omega arith) u)

pub tells_rules : (bs : List ℕ) (rs : List RuleField) → bs ≡ encode_rules rs → Tells bs rs
tells_rules bs rs e = subst (λ b. Tells b rs) (sym e) (record { many = many; each = each })
  where
    many : rule_count (encode_rules rs) ≡ length rs
    many = omega (arith, rules_length rs)

    each : (k : ℕ) → k < length rs → rule_told (encode_rules rs) k ≡ Some (get_or rs k no_rule)
    each k l =
        let byte = rules_byte rs k in
        let a = byte 3 l (omega arith) in
        let b = byte 4 l (omega arith) in
        let c = byte 5 l (omega arith) in
        let d = byte 6 l (omega arith) in
        cond-true (ltb k (rule_count (encode_rules rs))) (Some (rule_in (encode_rules rs) (7 * k))) None (lt-ltb _ _ (omega (arith, many)))
        ∙ (λ i. Some (record { kind = a i; group = b i; r = c i; s = d i }))

-- the bytes tell the rules that are read from them
rules_first : (bs : List ℕ) → 7 ≤ length bs → rules_told bs ≡ rule_in bs 0 ∷ rules_told (drop 7 bs)
rules_first [] l = absurd (omega arith)
rules_first (a ∷ []) l = absurd (omega arith)
rules_first (a ∷ b ∷ []) l = absurd (omega arith)
rules_first (a ∷ b ∷ c ∷ []) l = absurd (omega arith)
rules_first (a ∷ b ∷ c ∷ d ∷ []) l = absurd (omega arith)
rules_first (a ∷ b ∷ c ∷ d ∷ e ∷ []) l = absurd (omega arith)
rules_first (a ∷ b ∷ c ∷ d ∷ e ∷ f ∷ []) l = absurd (omega arith)
rules_first (a ∷ b ∷ c ∷ d ∷ e ∷ f ∷ g ∷ bs) l = refl

pub rules_next : (bs : List ℕ) → 7 ≤ length bs → rules_told bs ≡ rule_in bs 0 ∷ rules_told (take (length bs - 7) (drop 7 bs))
rules_next bs l = rules_first bs l ∙ ap (λ x. rule_in bs 0 ∷ rules_told x) (sym (take_rest bs 7))

pub rules_fewer : (bs : List ℕ) → 7 ≤ length bs → length (rules_told (take (length bs - 7) (drop 7 bs))) < length (rules_told bs)
rules_fewer bs l = omega (arith, ap length (rules_next bs l))

many_told : (bs : List ℕ) → rule_count bs ≡ length (rules_told bs)
many_told [] = refl
many_told (a ∷ []) = refl
many_told (a ∷ b ∷ []) = refl
many_told (a ∷ b ∷ c ∷ []) = refl
many_told (a ∷ b ∷ c ∷ d ∷ []) = refl
many_told (a ∷ b ∷ c ∷ d ∷ e ∷ []) = refl
many_told (a ∷ b ∷ c ∷ d ∷ e ∷ f ∷ []) = refl
many_told (a ∷ b ∷ c ∷ d ∷ e ∷ f ∷ g ∷ bs) = omega (arith, many_told bs)

byte_later : (a b c d e f g : ℕ) (bs : List ℕ) (k i : ℕ) → get_or (a ∷ b ∷ c ∷ d ∷ e ∷ f ∷ g ∷ bs) (7 * suc k + i) 0 ≡ get_or bs (7 * k + i) 0
byte_later a b c d e f g bs k i =
    let s : 7 * suc k + i ≡ 7 + (7 * k + i) = omega arith in
    rw s (get_or-append-add (a ∷ b ∷ c ∷ d ∷ e ∷ f ∷ g ∷ []) bs (7 * k + i) 0)

told_here : (bs : List ℕ) (k : ℕ) → k < rule_count bs → rule_told bs k ≡ Some (rule_in bs (7 * k))
told_here bs k l = cond-true (ltb k (rule_count bs)) (Some (rule_in bs (7 * k))) None (lt-ltb _ _ l)

each_told : (bs : List ℕ) (k : ℕ) → k < length (rules_told bs) → rule_told bs k ≡ Some (get_or (rules_told bs) k no_rule)
each_told [] k l = absurd (omega arith)
each_told (a ∷ []) k l = absurd (omega arith)
each_told (a ∷ b ∷ []) k l = absurd (omega arith)
each_told (a ∷ b ∷ c ∷ []) k l = absurd (omega arith)
each_told (a ∷ b ∷ c ∷ d ∷ []) k l = absurd (omega arith)
each_told (a ∷ b ∷ c ∷ d ∷ e ∷ []) k l = absurd (omega arith)
each_told (a ∷ b ∷ c ∷ d ∷ e ∷ f ∷ []) k l = absurd (omega arith)
each_told (a ∷ b ∷ c ∷ d ∷ e ∷ f ∷ g ∷ bs) zero l = told_here (a ∷ b ∷ c ∷ d ∷ e ∷ f ∷ g ∷ bs) 0 (omega (arith, many_told bs))
each_told (a ∷ b ∷ c ∷ d ∷ e ∷ f ∷ g ∷ bs) (suc k) l =
    let n : k < rule_count bs = omega (arith, many_told bs) in
    let byte = byte_later a b c d e f g bs k in
    let w = byte 3 in
    let x = byte 4 in
    let y = byte 5 in
    let z = byte 6 in
    told_here (a ∷ b ∷ c ∷ d ∷ e ∷ f ∷ g ∷ bs) (suc k) (omega arith)
    ∙ (λ i. Some (record { kind = w i; group = x i; r = y i; s = z i }))
    ∙ (sym (told_here bs k n) ∙ each_told bs k (omega (arith, many_told bs)))

pub tells_told : (bs : List ℕ) → Tells bs (rules_told bs)
tells_told bs = record { many = many_told bs; each = each_told bs }

-- the first of the rules from the k-th on
module _ (bs : List ℕ) (k : ℕ) (l : k < rule_count bs) where
  abbrev part : List ℕ
  part = take (length bs - 7 * k) (drop (7 * k) bs)

  whole : part ≡ drop (7 * k) bs
  whole = take_rest bs (7 * k)

  first_here : rules_told part ≡ rule_in bs (7 * k) ∷ rules_told (take (length part - 7) (drop 7 part))
  first_here =
      let byte : (i : ℕ) → get_or part i 0 ≡ get_or bs (7 * k + i) 0 = λ i. ap (λ xs. get_or xs i 0) whole ∙ get_or-drop (7 * k) bs i 0 in
      let w = byte 3 in
      let x = byte 4 in
      let y = byte 5 in
      let z = byte 6 in
      rules_next part (omega (arith, ap length whole, length-drop (7 * k) bs))
      ∙ (λ i. record { kind = w i; group = x i; r = y i; s = z i } ∷ rules_told (take (length part - 7) (drop 7 part)))

  pub told_first : (r : Option RuleField) (rest : List RuleField) → MatchOption r ((rules_told part ≡ []) × (rest ≡ [])) (λ x. rules_told part ≡ x ∷ rest) → r ≡ rule_told bs k
  told_first None rest h = let e = h.0 in let f = first_here in cc
  told_first (Some x) rest h = let f = first_here in let e : x ≡ rule_in bs (7 * k) = cc in ap Some e ∙ sym (told_here bs k l)
