-- The bytes of a content in range pass the tests of a book.
use Rattle.std.proofs.Common.{◌≡◌, ℕ, suc, ◌+◌, ◌-◌, ◌/◌, ◌%◌, ◌<◌, ◌≤◌, ◌⊎◌, List, [], ◌∷◌, ◌++◌, length, get_or, drop, sym, refl, ap, ◌∙◌, subst, inl, inr, append_assoc, arith, length-append}
use Rattle.std.specs.List.{flat_map}
use Rattle.std.proofs.ByRecursion.{All-get_or}
use Rattle.std.proofs.lemmas.List.{append-nil, get_or_append_left, get_or-append_right, drop_at}
use Rattle.std.proofs.lemmas.Bool.{cases_lt}
use Rattle.game.specs.Structure.{product}
use Rattle.book.specs.declared.rules.RuleField.{RuleField}
use Rattle.book.specs.Tests.{Tests, Passes, each}
use Rattle.book.specs.Fields.{value, spot, due_tests, field_tests}
use Rattle.book.specs.Records.{Within, heading_tests, state_tests, rule_tests, count_tests, next_tests, count_in, product_in, next_in}
use Rattle.book.specs.Layout.{heading_at, state_at, rule_at, states_tests, rules_tests, all_states, all_rules, players_in, states_in, start_in, states_from, rules_from, book_tests, list_tests}
use Rattle.book.specs.Content.{State, Content, Below, count, vectors_of, field, heading_value, state_value, state_field, rule_value, encode, encode_rules, StateFits, Fits, RulesFit}
use Rattle.book.specs.Limited.{product_same}
use Rattle.book.specs.Described.{no_state}
use Rattle.book.specs.Told.{no_rule}
use Rattle.book.proofs.Judging.{passes-++, each_all, if_passes}
use Rattle.book.proofs.States.{count_is}
use Rattle.book.proofs.Walks.{spot_later}
use Rattle.book.proofs.Encoded.{FieldAt, field_here, fields_at, fields_end}

get_or_two : (x y : ℕ) (zs : List ℕ) (i : ℕ) → get_or (x ∷ y ∷ zs) (2 + i) 0 ≡ get_or zs i 0
get_or_two x y zs i = let e : 2 + i ≡ suc (suc i) = omega arith in ap (λ k. get_or (x ∷ y ∷ zs) k 0) e

-- a state's value
module _ (q : State) where
  pub count_there : (i : ℕ) → i < length q.counts → get_or (state_value q) (2 + i) 0 ≡ get_or q.counts i 0
  count_there i l = get_or_two (q.labels / 256) (q.labels % 256) (q.counts ++ q.nexts) i ∙ get_or_append_left q.counts q.nexts 0 i l

  pub next_there : (P j : ℕ) → length q.counts ≡ P → next_in P (state_value q) j ≡ get_or q.nexts j 0
  next_there P j e =
      let s : 2 + P + j ≡ 2 + (P + j) = omega arith in
      let m : P + j - P ≡ j = omega arith in
      ap (λ k. get_or (state_value q) k 0) s
      ∙ (get_or_two (q.labels / 256) (q.labels % 256) (q.counts ++ q.nexts) (P + j)
      ∙ (get_or-append_right q.counts q.nexts P (P + j) 0 e (omega arith)
      ∙ ap (λ k. get_or q.nexts k 0) m))

  pub product_there : (P : ℕ) → length q.counts ≡ P → product_in P (state_value q) ≡ vectors_of q
  product_there P e =
      product_same (count_in (state_value q)) (count q) P
      (λ a l u. let s : 1 + a ≡ 2 + (a - 1) = omega arith in ap (λ k. get_or (state_value q) k 0) s ∙ count_there (a - 1) (omega arith))
      ∙ ap (product (count q)) (sym e)

  state_passes : (P N p : ℕ) → StateFits P N q → Passes (state_tests P N 2 (state_value q) p)
  state_passes P N p h =
      let v : List ℕ = state_value q in
      let m : product_in P v ≡ vectors_of q = product_there P h.counted in
      let n : length v ≡ 2 + P + product_in P v = omega (arith, length-append q.counts q.nexts, h.counted, h.led) in
      let counts = each_all P (count_tests v p) (λ i l.
      let l' : i < length q.counts = omega (arith, h.counted) in
      (subst (Within 1 15) (sym (count_is v i ∙ count_there i l')) (All-get_or (Within 1 15) q.counts i 0 l' h.counts_fit), tt)) in
      let nexts = each_all (product_in P v) (next_tests P N v p) (λ j l.
      (subst (Below N) (sym (next_there P j h.counted)) (All-get_or (Below N) q.nexts j 0 (omega (arith, h.led)) h.nexts_fit), tt)) in
      (refl, (omega arith, passes-++ (each P (count_tests v p)) _ counts (omega (arith, h.few), (n, nexts))))

-- a field's tests, from those of its tag and value
module _ (R : ℕ → List ℕ → Tests) (bs : List ℕ) (p t : ℕ) (v : List ℕ) (f : FieldAt bs p t v) (h : Passes (R t v)) where
  there : Passes (R (get_or bs p 0) (value bs p))
  there = subst (λ x. Passes (R (get_or bs p 0) x)) (sym f.value_is) (subst (λ x. Passes (R x v)) (sym f.tag) h)

  due_there : Passes (due_tests bs p ++ R (get_or bs p 0) (value bs p))
  due_there = (omega (arith, f.whole), (f.whole, there))

  field_there : Passes (field_tests bs p ++ R (get_or bs p 0) (value bs p))
  field_there = (f.whole, there)

-- rules to the end, behind other bytes
module _ (pre : List ℕ) (rs : List RuleField) (bs : List ℕ) (e : bs ≡ pre ++ (encode_rules rs ++ [])) where
  rules_stop : spot bs (length pre) (length rs) ≡ length bs
  rules_stop = fields_end 3 rule_value bs [] pre rs e ∙ ap length (ap (λ z. pre ++ z) (sym (append-nil (encode_rules rs))) ∙ sym e)

  pub rules_accepted : Passes (all_rules bs (length pre))
  rules_accepted = each_all (length bs) (rules_tests bs (length pre)) (λ k _. go k (cases_lt k (length rs)))
    where
      go : (k : ℕ) → (k < length rs) ⊎ (length rs ≤ k) → Passes (rules_tests bs (length pre) k)
      go k (inl l) =
          let p : ℕ = spot bs (length pre) k in
          if_passes (p < length bs) (rule_at bs p) (λ _.
          field_there (λ t v. rule_tests t v p) bs p 3 (rule_value (get_or rs k no_rule)) (fields_at 3 rule_value bs [] pre rs k no_rule e l) (refl, (refl, tt)))
      go k (inr l) =
          if_passes (spot bs (length pre) k < length bs) (rule_at bs (spot bs (length pre) k)) (λ s.
          absurd (omega (arith, spot_later bs (length pre) (length rs) k l, rules_stop)))

pub list_accepted : (rs : List RuleField) → RulesFit rs → Passes (list_tests (encode_rules rs))
list_accepted rs h = (h.short, rules_accepted [] rs (encode_rules rs) (sym (append-nil (encode_rules rs))))

-- a whole book
module _ (c : Content) (h : Fits c) where
  head_field : FieldAt (encode c) 0 1 (heading_value c)
  head_field = field_here [] 1 (heading_value c) (flat_map state_field c.states ++ encode_rules c.rules)

  pub players_read : players_in (encode c) ≡ c.players
  players_read = ap (λ v. get_or v 0 0) head_field.value_is

  pub states_read : states_in (encode c) ≡ length c.states
  states_read = ap (λ v. get_or v 1 0 + 1) head_field.value_is ∙ omega (arith, h.states_fit.0)

  pub start_read : start_in (encode c) ≡ c.start
  start_read = ap (λ v. get_or v 2 0) head_field.value_is

  pub state_there : (k : ℕ) → k < length c.states → FieldAt (encode c) (spot (encode c) (states_from (encode c)) k) 2 (state_value (get_or c.states k no_state))
  state_there k l =
      subst (λ p. FieldAt (encode c) (spot (encode c) p k) 2 (state_value (get_or c.states k no_state))) (sym head_field.ends)
      (fields_at 2 state_value (encode c) (encode_rules c.rules) (field 1 (heading_value c)) c.states k no_state refl l)

  rules_start : rules_from (encode c) ≡ length (field 1 (heading_value c) ++ flat_map state_field c.states)
  rules_start =
      ap (λ p. spot (encode c) p (states_in (encode c))) head_field.ends
      ∙ (ap (spot (encode c) 6) states_read ∙ fields_end 2 state_value (encode c) (encode_rules c.rules) (field 1 (heading_value c)) c.states refl)

  split : encode c ≡ (field 1 (heading_value c) ++ flat_map state_field c.states) ++ encode_rules c.rules
  split = sym (append_assoc (field 1 (heading_value c)) (flat_map state_field c.states) (encode_rules c.rules))

  pub rules_cut : drop (rules_from (encode c)) (encode c) ≡ encode_rules c.rules
  rules_cut =
      ap (drop (rules_from (encode c))) split
      ∙ drop_at (field 1 (heading_value c) ++ flat_map state_field c.states) (encode_rules c.rules) (rules_from (encode c)) (sym rules_start)

  each_passes : (k : ℕ) → k < states_in (encode c) → Passes (states_tests (players_in (encode c)) (states_in (encode c)) (encode c) (states_from (encode c)) k)
  each_passes k l =
      let P : ℕ = c.players in
      let N : ℕ = length c.states in
      let q : State = get_or c.states k no_state in
      let l' : k < N = omega (arith, states_read) in
      let p : ℕ = spot (encode c) (states_from (encode c)) k in
      let g = state_passes q P N p (All-get_or (StateFits P N) c.states k no_state l' h.each_state) in
      subst (λ x. Passes (state_at x (states_in (encode c)) (encode c) p)) (sym players_read)
      (subst (λ x. Passes (state_at P x (encode c) p)) (sym states_read)
      (due_there (λ t v. state_tests P N t v p) (encode c) p 2 (state_value q) (state_there k l') g))

  pub book_accepted : Passes (book_tests (encode c))
  book_accepted = (
    h.short,
    passes-++ (heading_at (encode c) 0) _
        (due_there (λ t v. heading_tests t v 0) (encode c) 0 1 (heading_value c) head_field (refl, (refl, (h.players_fit, (omega (arith, h.started), tt)))))
        (passes-++ (all_states (encode c)) _
        (each_all (states_in (encode c)) (states_tests (players_in (encode c)) (states_in (encode c)) (encode c) (states_from (encode c))) each_passes)
        (subst (λ p. Passes (all_rules (encode c) p)) (sym rules_start)
        (rules_accepted (field 1 (heading_value c) ++ flat_map state_field c.states) c.rules (encode c) (split ∙ ap (λ z. (field 1 (heading_value c) ++ flat_map state_field c.states) ++ z) (sym (append-nil (encode_rules c.rules))))))),
  )
