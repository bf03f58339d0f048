-- No two contents in range have the same bytes.
use Rattle.std.proofs.Common.{◌≡◌, ℕ, ◌-◌, ◌/◌, ◌%◌, List, [], ◌∷◌, ◌++◌, length, take, drop, sym, refl, ap, ◌∙◌, subst, append_assoc, div-add-mod', arith}
use Rattle.std.specs.List.{flat_map, AllByRecursion}
use Rattle.std.proofs.lemmas.List.{take_at, drop_at}
use Rattle.book.specs.declared.rules.RuleField.{RuleField}
use Rattle.book.specs.Content.{State, field, heading_value, state_value, state_field, rule_value, encode, encode_rules, StateFits}
use Rattle.book.specs.Reading.{OneContent, OneList}

-- two lists that begin equally long
front_same : (a b c d : List ℕ) → length a ≡ length c → a ++ b ≡ c ++ d → a ≡ c
front_same a b c d l e = sym (take_at a b (length a) refl) ∙ (ap (take (length a)) e ∙ take_at c d (length a) (sym l))

back_same : (a b c d : List ℕ) → length a ≡ length c → a ++ b ≡ c ++ d → b ≡ d
back_same a b c d l e = sym (drop_at a b (length a) refl) ∙ (ap (drop (length a)) e ∙ drop_at c d (length a) (sym l))

-- a number by its two bytes
bytes_same : (m n : ℕ) → m / 256 ≡ n / 256 → m % 256 ≡ n % 256 → m ≡ n
bytes_same m n a b = omega (arith, div-add-mod' m 256, div-add-mod' n 256)

-- two fields at the front
module _ (t : ℕ) (v w r s : List ℕ) (e : field t v ++ r ≡ field t w ++ s) where
  tails : v ++ r ≡ w ++ s
  tails = cc e

  lengths : length v ≡ length w
  lengths = bytes_same (length v) (length w) (cc e) (cc e)

  field_same : v ≡ w
  field_same = front_same v r w s lengths tails

  rest_same : r ≡ s
  rest_same = back_same v r w s lengths tails

state_same : (P N : ℕ) (q o : State) → StateFits P N q → StateFits P N o → state_value q ≡ state_value o → q ≡ o
state_same P N q o a b e =
    let l : q.labels ≡ o.labels = bytes_same q.labels o.labels (cc e) (cc e) in
    let z : q.counts ++ q.nexts ≡ o.counts ++ o.nexts = cc e in
    let n : length q.counts ≡ length o.counts = a.counted ∙ sym b.counted in
    let c = front_same q.counts q.nexts o.counts o.nexts n z in
    let x = back_same q.counts q.nexts o.counts o.nexts n z in
    λ i. record { labels = l i; counts = c i; nexts = x i }

states_same : (P N : ℕ) (qs os : List State) (r s : List ℕ) → length qs ≡ length os → AllByRecursion (StateFits P N) qs → AllByRecursion (StateFits P N) os → flat_map state_field qs ++ r ≡ flat_map state_field os ++ s → (qs ≡ os) × (r ≡ s)
states_same P N [] [] r s l h k e = (refl, e)
states_same P N [] (o ∷ os) r s l h k e = absurd (omega arith)
states_same P N (q ∷ qs) [] r s l h k e = absurd (omega arith)
states_same P N (q ∷ qs) (o ∷ os) r s l h k e =
    let e' : state_field q ++ (flat_map state_field qs ++ r) ≡ state_field o ++ (flat_map state_field os ++ s)
    = sym (append_assoc (state_field q) (flat_map state_field qs) r) ∙ (e ∙ append_assoc (state_field o) (flat_map state_field os) s) in
    let first : q ≡ o = state_same P N q o h.0 k.0 (field_same 2 (state_value q) (state_value o) _ _ e') in
    let others = states_same P N qs os r s (omega arith) h.1 k.1 (rest_same 2 (state_value q) (state_value o) _ _ e') in
    (cc (first, others.0), others.1)

rule_same : (r s : RuleField) → rule_value r ≡ rule_value s → r ≡ s
rule_same r s e =
    let a : r.kind ≡ s.kind = cc e in
    let b : r.group ≡ s.group = cc e in
    let c : r.r ≡ s.r = cc e in
    let d : r.s ≡ s.s = cc e in
    λ i. record { kind = a i; group = b i; r = c i; s = d i }

rules_same : (rs ss : List RuleField) → encode_rules rs ≡ encode_rules ss → rs ≡ ss
rules_same [] [] e = refl
rules_same [] (s ∷ ss) e = let z : ◌≡◌ {A = ℕ} 0 1 = cc e in absurd (omega arith)
rules_same (r ∷ rs) [] e = let z : ◌≡◌ {A = ℕ} 0 1 = cc e in absurd (omega arith)
rules_same (r ∷ rs) (s ∷ ss) e =
    let first : r ≡ s = rule_same r s (field_same 3 (rule_value r) (rule_value s) (encode_rules rs) (encode_rules ss) e) in
    let others = rules_same rs ss (rest_same 3 (rule_value r) (rule_value s) (encode_rules rs) (encode_rules ss) e) in
    cc (first, others)

pub one_content : (bs : List ℕ) → OneContent bs
one_content bs c d h k =
    let e : encode c ≡ encode d = h.bytes ∙ sym k.bytes in
    let f : heading_value c ≡ heading_value d = field_same 1 (heading_value c) (heading_value d) _ _ e in
    let p : c.players ≡ d.players = cc f in
    let n : length c.states - 1 ≡ length d.states - 1 = cc f in
    let s : c.start ≡ d.start = cc f in
    let l : length c.states ≡ length d.states = omega (arith, h.fits.states_fit, k.fits.states_fit) in
    let same : AllByRecursion (StateFits c.players (length c.states)) d.states = subst (λ x. AllByRecursion (StateFits x (length c.states)) d.states) (sym p) (subst (λ x. AllByRecursion (StateFits d.players x) d.states) (sym l) k.fits.each_state) in
    let g = states_same c.players (length c.states) c.states d.states _ _ l h.fits.each_state same (rest_same 1 (heading_value c) (heading_value d) _ _ e) in
    let r = rules_same c.rules d.rules g.1 in
    let q = g.0 in
    λ i. record { players = p i; start = s i; states = q i; rules = r i }

pub one_list : (bs : List ℕ) → OneList bs
one_list bs rs ss h k = rules_same rs ss (h.bytes ∙ sym k.bytes)
