-- Bytes that pass the tests are those of a content in range.
use Rattle.std.proofs.Common.{◌≡◌, ℕ, zero, suc, ◌+◌, ◌-◌, ◌/◌, ◌%◌, ◌<◌, ◌≤◌, ◌⊎◌, List, [], ◌∷◌, ◌++◌, length, get_or, take, drop, sym, refl, ap, ◌∙◌, subst, inl, inr, append_assoc, arith, lit<, length-drop, length-take}
use lib.Arith.{digits_div, digits_mod}
use Rattle.std.specs.List.{flat_map, AllByRecursion}
use Rattle.std.proofs.ByRecursion.{All-push, All-from_get_or}
use Rattle.std.proofs.lemmas.List.{append-nil, get_or-take, get_or-drop, get_or_past, length_push, flat_map_more, drop_more, drop-drop, drop_all, take-append-drop, length-take-le}
use Rattle.std.proofs.lemmas.Bool.{cases_lt}
use Rattle.book.specs.declared.rules.RuleField.{RuleField}
use Rattle.book.specs.Tests.{Passes, each}
use Rattle.book.specs.Fields.{size, after, value, spot, due_tests}
use Rattle.book.specs.Records.{Within, heading_tests, state_tests, count_tests, next_tests, count_in, product_in, labels_in}
use Rattle.book.specs.Layout.{heading_at, state_at, rule_at, states_tests, rules_tests, all_states, all_rules, players_in, states_in, start_in, states_from, rules_from, book_tests, list_tests}
use Rattle.book.specs.Content.{State, Content, Below, vectors_of, field, heading_value, state_value, state_field, rule_value, encode, encode_rules, StateFits, RuleFits, Holds, HoldsRules}
use Rattle.book.proofs.Judging.{passes_left, passes_right, passes_if, each_at}
use Rattle.book.proofs.States.{count_is}
use Rattle.book.proofs.Walks.{spot_later, spot_grows}
use Rattle.book.proofs.Accepted.{product_there}

abbrev pub Small : List ℕ → Type 0
Small bs = (i : ℕ) → get_or bs i 0 < 256

pub small_all : (bs : List ℕ) → ((i : ℕ) → i < length bs → get_or bs i 0 < 256) → Small bs
small_all bs h i = go (cases_lt i (length bs))
  where
    go : (i < length bs) ⊎ (length bs ≤ i) → get_or bs i 0 < 256
    go (inl l) = h i l
    go (inr g) = rw (get_or_past bs i 0 g) (lit< tt)

small_value : (bs : List ℕ) (p : ℕ) → Small bs → Small (value bs p)
small_value bs p h = small_all (value bs p) (λ i l.
    rw (get_or-take (size bs p) (drop (p + 3) bs) i 0 (omega (arith, length-take (size bs p) (drop (p + 3) bs))), get_or-drop (p + 3) bs i 0) (h (p + 3 + i)))

-- from p on the bytes begin with the field of tag t and value v
abbrev Begins : List ℕ → ℕ → ℕ → List ℕ → Type 0
Begins bs p t v = drop p bs ≡ field t v ++ drop (after bs p) bs

-- a field that is whole, as bytes
module _ (bs : List ℕ) (h : Small bs) (p : ℕ) (w : after bs p ≤ length bs) where
  value_length : length (value bs p) ≡ size bs p
  value_length = length-take-le (size bs p) (drop (p + 3) bs) (simp length-drop (omega arith))

  field_bytes : Begins bs p (get_or bs p 0) (value bs p)
  field_bytes =
      let next : (k : ℕ) → k < length bs → (n : ℕ) → k + 1 ≡ n → drop k bs ≡ get_or bs k 0 ∷ drop n bs = λ k l n e. drop_more bs k 0 l ∙ ap (λ m. get_or bs k 0 ∷ drop m bs) e in
      let hi : get_or bs (p + 1) 0 ≡ length (value bs p) / 256 = sym (ap (λ n. n / 256) value_length ∙ digits_div (get_or bs (p + 1) 0) (h (p + 2))) in
      let lo : get_or bs (p + 2) 0 ≡ length (value bs p) % 256 = sym (ap (λ n. n % 256) value_length ∙ digits_mod (get_or bs (p + 1) 0) (h (p + 2))) in
      let d1 = next p (omega arith) (p + 1) refl in
      let d2 = next (p + 1) (omega arith) (p + 2) (omega arith) in
      let d3 = next (p + 2) (omega arith) (p + 3) (omega arith) in
      let d4 : drop (p + 3) bs ≡ value bs p ++ drop (after bs p) bs = sym (take-append-drop (size bs p) (drop (p + 3) bs)) ∙ ap (λ z. value bs p ++ z) (drop-drop (size bs p) (p + 3) bs) in
      cc

  field_begins : (t : ℕ) (v : List ℕ) → get_or bs p 0 ≡ t → value bs p ≡ v → Begins bs p t v
  field_begins t v e f = field_bytes ∙ (ap (λ x. field x (value bs p) ++ drop (after bs p) bs) e ∙ ap (λ x. field t x ++ drop (after bs p) bs) f)

-- fields one after another
module _ {X : Type 0} (t : ℕ) (f : X → List ℕ) (Good : X → Type 0) (bs : List ℕ) (p : ℕ) where
  -- the first n of them
  abbrev Gathered : ℕ → Type 0
  Gathered n = (xs : List X) × (length xs ≡ n) × AllByRecursion Good xs × (drop p bs ≡ flat_map (λ x. field t (f x)) xs ++ drop (spot bs p n) bs)

  gather : (n : ℕ) → ((k : ℕ) → k < n → (x : X) × Good x × Begins bs (spot bs p k) t (f x)) → Gathered n
  gather zero h = ([], refl, tt, refl)
  gather (suc n) h = go (gather n (λ k l. h k (omega arith))) (h n (omega arith))
    where
      go : Gathered n → (x : X) × Good x × Begins bs (spot bs p n) t (f x) → Gathered (suc n)
      go r s =
          let xs : List X = r.0 in
          let x : X = s.0 in (
            xs ++ x ∷ [],
            length_push xs x ∙ omega (arith, r.1),
            All-push Good xs x r.2 s.1,
            r.3 ∙ (ap (λ z. flat_map (λ x. field t (f x)) xs ++ z) s.2
                ∙ (sym (append_assoc (flat_map (λ x. field t (f x)) xs) (field t (f x)) (drop (after bs (spot bs p n)) bs))
                ∙ ap (λ z. z ++ drop (after bs (spot bs p n)) bs) (flat_map_more (λ x. field t (f x)) [] xs x))),
          )

-- values, by their parts
two : (v : List ℕ) → 2 ≤ length v → v ≡ get_or v 0 0 ∷ get_or v 1 0 ∷ drop 2 v
two [] h = absurd (omega arith)
two (x ∷ []) h = absurd (omega arith)
two (x ∷ y ∷ v) h = refl

empty : (v : List ℕ) → length v ≡ 0 → v ≡ []
empty [] h = refl
empty (x ∷ v) h = absurd (omega arith)

three : (v : List ℕ) → length v ≡ 3 → v ≡ get_or v 0 0 ∷ get_or v 1 0 ∷ get_or v 2 0 ∷ []
three [] h = absurd (omega arith)
three (x ∷ v) h = ap (λ z. x ∷ z) (two v (omega arith) ∙ ap (λ z. get_or v 0 0 ∷ get_or v 1 0 ∷ z) (empty (drop 2 v) (length-drop 2 v ∙ omega arith)))

four : (v : List ℕ) → length v ≡ 4 → v ≡ get_or v 0 0 ∷ get_or v 1 0 ∷ get_or v 2 0 ∷ get_or v 3 0 ∷ []
four [] h = absurd (omega arith)
four (x ∷ v) h = ap (λ z. x ∷ z) (three v (omega arith))

-- the state that a value says
abbrev state_of : ℕ → List ℕ → State
state_of P v = record { labels = labels_in v; counts = take P (drop 2 v); nexts = drop (2 + P) v }

module _ (P N t : ℕ) (v : List ℕ) (p : ℕ) (small : Small v) (h : Passes (state_tests P N t v p)) where
  counted : length (take P (drop 2 v)) ≡ P
  counted = length-take-le P (drop 2 v) (simp length-drop (omega (arith, h.1.0)))

  state_value_is : v ≡ state_value (state_of P v)
  state_value_is =
      let hi : labels_in v / 256 ≡ get_or v 0 0 = digits_div (get_or v 0 0) (small 1) in
      let lo : labels_in v % 256 ≡ get_or v 1 0 = digits_mod (get_or v 0 0) (small 1) in
      let e : take P (drop 2 v) ++ drop (2 + P) v ≡ drop 2 v = ap (λ z. take P (drop 2 v) ++ z) (sym (drop-drop P 2 v)) ∙ take-append-drop P (drop 2 v) in
      let d : v ≡ get_or v 0 0 ∷ get_or v 1 0 ∷ drop 2 v = two v (omega (arith, h.1.0)) in
      cc

  product_is : product_in P v ≡ vectors_of (state_of P v)
  product_is = ap (product_in P) state_value_is ∙ product_there (state_of P v) P counted

  state_fits : StateFits P N (state_of P v)
  state_fits =
      let counts = passes_left (each P (count_tests v p)) _ h.1.1 in
      let rest : (product_in P v ≤ 4096) × ((length v ≡ 2 + P + product_in P v) × Passes (each (product_in P v) (next_tests P N v p))) = passes_right (each P (count_tests v p)) _ h.1.1 in
      record {
        labelled = omega (arith, small 0, small 1);
        counted = counted;
        counts_fit = All-from_get_or (Within 1 15) (take P (drop 2 v)) 0 (λ i l.
            let l' : i < P = omega (arith, counted) in
            let e : count_in v (i + 1) ≡ get_or (take P (drop 2 v)) i 0 = count_is v i ∙ sym (get_or-take P (drop 2 v) i 0 l' ∙ get_or-drop 2 v i 0) in
            subst (Within 1 15) e (each_at P i (count_tests v p) l' counts).0);
        few = omega (arith, rest.0, product_is);
        led = length-drop (2 + P) v ∙ omega (arith, rest.1.0, product_is);
        nexts_fit = All-from_get_or (Below N) (drop (2 + P) v) 0 (λ j l.
            let l' : j < product_in P v = omega (arith, rest.1.0, length-drop (2 + P) v) in
            subst (Below N) (sym (get_or-drop (2 + P) v j 0)) (each_at (product_in P v) j (next_tests P N v p) l' rest.1.1).0);
      }

-- the rule that a value says
abbrev rule_of : List ℕ → RuleField
rule_of v = record { kind = get_or v 0 0; group = get_or v 1 0; r = get_or v 2 0; s = get_or v 3 0 }

module _ (bs : List ℕ) (small : Small bs) (p : ℕ) where
  state_step : (P N : ℕ) → Passes (state_at P N bs p) → (q : State) × StateFits P N q × Begins bs p 2 (state_value q)
  state_step P N h =
      let v : List ℕ = value bs p in
      let s : Small v = small_value bs p small in
      let g : Passes (state_tests P N (get_or bs p 0) v p) = passes_right (due_tests bs p) (state_tests P N (get_or bs p 0) v p) h in
      (state_of P v, state_fits P N (get_or bs p 0) v p s g, field_begins bs small p h.1.0 2 (state_value (state_of P v)) g.0 (state_value_is P N (get_or bs p 0) v p s g))

  rule_step : Passes (rule_at bs p) → (r : RuleField) × RuleFits r × Begins bs p 3 (rule_value r)
  rule_step h =
      let v : List ℕ = value bs p in
      let s : Small v = small_value bs p small in
      (rule_of v, (s 0, (s 1, (s 2, (s 3, tt)))), field_begins bs small p h.0 3 (rule_value (rule_of v)) h.1.0 (four v h.1.1.0))

-- the rules from p to the end
module _ (bs : List ℕ) (p : ℕ) (l : p ≤ length bs) (h : Passes (all_rules bs p)) where
  rule_there : (k : ℕ) → spot bs p k < length bs → Passes (rule_at bs (spot bs p k))
  rule_there k s =
      passes_if (spot bs p k < length bs) (rule_at bs (spot bs p k)) s (each_at (length bs) k (rules_tests bs p) (omega (arith, spot_grows bs p k)) h)

  -- after n rules the bytes go on, or they have ended at some rule
  progress : (n : ℕ) → (spot bs p n < length bs) ⊎ ((k : ℕ) × (spot bs p k ≡ length bs))
  progress zero = go (cases_lt p (length bs))
    where
      go : (p < length bs) ⊎ (length bs ≤ p) → (p < length bs) ⊎ ((k : ℕ) × (spot bs p k ≡ length bs))
      go (inl s) = inl s
      go (inr s) = inr (0, omega arith)
  progress (suc n) = go (progress n)
    where
      more : spot bs p n < length bs → (spot bs p (suc n) < length bs) ⊎ (length bs ≤ spot bs p (suc n)) → (spot bs p (suc n) < length bs) ⊎ ((k : ℕ) × (spot bs p k ≡ length bs))
      more s (inl t) = inl t
      more s (inr t) = let w : spot bs p (suc n) ≤ length bs = (rule_there n s).0 in inr (suc n, omega arith)

      go : (spot bs p n < length bs) ⊎ ((k : ℕ) × (spot bs p k ≡ length bs)) → (spot bs p (suc n) < length bs) ⊎ ((k : ℕ) × (spot bs p k ≡ length bs))
      go (inl s) = more s (cases_lt (spot bs p (suc n)) (length bs))
      go (inr r) = inr r

  rules_many : (k : ℕ) × (spot bs p k ≡ length bs)
  rules_many = go (progress (length bs))
    where
      go : (spot bs p (length bs) < length bs) ⊎ ((k : ℕ) × (spot bs p k ≡ length bs)) → (k : ℕ) × (spot bs p k ≡ length bs)
      go (inl s) = absurd (omega (arith, spot_grows bs p (length bs)))
      go (inr r) = r

  the_rules : Small bs → (rs : List RuleField) × AllByRecursion RuleFits rs × (drop p bs ≡ encode_rules rs)
  the_rules small =
      let m = rules_many in
      let g = gather 3 rule_value RuleFits bs p m.0 (λ k u. rule_step bs small (spot bs p k) (rule_there k (omega (arith, m.1, spot_later bs p (suc k) m.0 u)))) in
      let z : drop (spot bs p m.0) bs ≡ [] = drop_all (spot bs p m.0) bs (omega (arith, m.1)) in
      (g.0, g.2, g.3 ∙ (ap (λ x. encode_rules g.0 ++ x) z ∙ append-nil (encode_rules g.0)))

pub list_decoded : (bs : List ℕ) → Small bs → Passes (list_tests bs) → (rs : List RuleField) × HoldsRules bs rs
list_decoded bs small h =
    let r = the_rules bs 0 (omega arith) h.1 small in
    let e : encode_rules r.0 ≡ bs = sym r.2 in
    (r.0, record { fits = record { each_rule = r.1; short = subst (λ x. length x ≤ 65535) (sym e) h.0 }; bytes = e })

module _ (bs : List ℕ) (small : Small bs) (h : Passes (book_tests bs)) where
  head_pass : Passes (heading_at bs 0)
  head_pass = passes_left (heading_at bs 0) _ h.1

  states_pass : Passes (all_states bs)
  states_pass = passes_left (all_states bs) _ (passes_right (heading_at bs 0) _ h.1)

  rules_pass : Passes (all_rules bs (rules_from bs))
  rules_pass = passes_right (all_states bs) _ (passes_right (heading_at bs 0) _ h.1)

  state_pass : (k : ℕ) → k < states_in bs → Passes (state_at (players_in bs) (states_in bs) bs (spot bs (states_from bs) k))
  state_pass k l = each_at (states_in bs) k (states_tests (players_in bs) (states_in bs) bs (states_from bs)) l states_pass

  states_whole : (n : ℕ) → n ≤ states_in bs → spot bs (states_from bs) n ≤ length bs
  states_whole zero u = head_pass.1.0
  states_whole (suc n) u = (state_pass n u).1.0

  pub book_decoded : (c : Content) × Holds bs c
  book_decoded =
      let P : ℕ = players_in bs in
      let N : ℕ = states_in bs in
      let v : List ℕ = value bs 0 in
      let q = gather 2 state_value (StateFits P N) bs (states_from bs) N (λ k l. state_step bs small (spot bs (states_from bs) k) P N (state_pass k l)) in
      let r = the_rules bs (rules_from bs) (states_whole N (omega arith)) rules_pass small in
      let c : Content = record { players = P; start = start_in bs; states = q.0; rules = r.0 } in
      let g : Passes (heading_tests (get_or bs 0 0) v 0) = passes_right (due_tests bs 0) (heading_tests (get_or bs 0 0) v 0) head_pass in
      let n : length q.0 - 1 ≡ get_or v 1 0 = omega (arith, q.1) in
      let e : v ≡ heading_value c = three v g.1.0 ∙ ap (λ x. get_or v 0 0 ∷ x ∷ get_or v 2 0 ∷ []) (sym n) in
      let whole : encode c ≡ bs =
      sym (field_begins bs small 0 head_pass.1.0 1 (heading_value c) g.0 e
      ∙ (ap (λ x. field 1 (heading_value c) ++ x) q.3 ∙ ap (λ x. field 1 (heading_value c) ++ (flat_map state_field q.0 ++ x)) r.2)) in (
        c,
        record {
          fits = record {
            players_fit = g.1.1.0;
            states_fit = (omega (arith, q.1), omega (arith, q.1, small_value bs 0 small 1));
            started = omega (arith, q.1, g.1.1.1.0);
            each_state = subst (λ x. AllByRecursion (StateFits P x) q.0) (sym q.1) q.2;
            each_rule = r.1;
            short = subst (λ x. length x ≤ 65535) (sym whole) h.0;
          };
          bytes = whole;
        },
      )
