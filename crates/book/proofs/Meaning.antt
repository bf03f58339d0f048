-- The game of the bytes of a content is the game that the content describes.
use Rattle.std.proofs.Common.{◌≡◌, ℕ, ◌+◌, ◌-◌, ◌*◌, ◌/◌, ◌%◌, ◌<◌, ◌≤◌, Bool, true, false, cond, ◌&&◌, ltb, leb, List, length, get_or, Some, None, Option, refl, ap, ◌∙◌, mod-eq_of_lt, arith, length-append}
use mathlib.Core.Path.{fun_ext}
use Rattle.std.proofs.ByRecursion.{All-get_or}
use Rattle.std.proofs.lemmas.Bool.{cond-true, and_from, and_parts, le-leb, lt-ltb, leb-true, ltb-true}
use Rattle.game.specs.Lists.{highest, numbers, under}
use Rattle.game.specs.Made.{made}
use Rattle.game.specs.Structure.{product}
use Rattle.game.proofs.Under.{under_box}
use Rattle.book.specs.Records.{Within}
use Rattle.book.specs.Layout.{players_in, states_in, start_in}
use Rattle.book.specs.Filed.{inside, count_kept, players_kept, states_kept, state_spot, count_at, moves_at, labels_at, place, next_at, table_moves, table_labels, table_next, game_of, filed}
use Rattle.book.specs.Limited.{moves_range, product_same}
use Rattle.book.specs.Content.{State, Content, Below, count, vectors_of, state_value, encode, StateFits, Fits}
use Rattle.book.specs.Described.{no_state, state, index, moves_in, labels_of, leads_in, described}
use Rattle.book.proofs.Places.{index_place, vectors_same}
use Rattle.book.proofs.Packed.{highest_same}
use Rattle.book.proofs.Encoded.{FieldAt, value_byte}
use Rattle.book.proofs.Accepted.{count_there, next_there, state_there, players_read, states_read, start_read}

-- one state
module _ (bs : List ℕ) (P N p : ℕ) (q : State) (f : FieldAt bs p 2 (state_value q)) (h : StateFits P N q) where
  long : length (state_value q) ≡ 2 + P + vectors_of q
  long = omega (arith, length-append q.counts q.nexts, h.counted, h.led)

  byte : (i n : ℕ) → i < 2 + P + vectors_of q → n ≡ p + 3 + i → get_or bs n 0 ≡ get_or (state_value q) i 0
  byte i n l e = value_byte bs p 2 (state_value q) f i n (omega (arith, long)) e

  count_same : (a : ℕ) → 1 ≤ a → a ≤ P → count_at bs p a ≡ count q a
  count_same a l u =
      let i : a - 1 < length q.counts = omega (arith, h.counted) in
      let e : get_or bs (p + 4 + a) 0 ≡ count q a = byte (2 + (a - 1)) (p + 4 + a) (omega arith) (omega arith) ∙ count_there q (a - 1) i in
      let w = All-get_or (Within 1 15) q.counts (a - 1) 0 i h.counts_fit in
      ap count_kept e ∙ cond-true (leb 1 (count q a) && leb (count q a) 15) (count q a) 1 (and_from _ _ (le-leb 1 (count q a) w.0) (le-leb (count q a) 15 w.1))

  few_vectors : product (count_at bs p) P ≤ 4096
  few_vectors = omega (arith, product_same (count_at bs p) (count q) P count_same, ap (product (count q)) h.counted, h.few)

  pub moves_same : (a : ℕ) → 1 ≤ a → a ≤ P → moves_at bs P p a ≡ count q a
  moves_same a l u = cond-true (leb (product (count_at bs p) P) 4096) (count_at bs p a) 1 (le-leb _ 4096 few_vectors) ∙ count_same a l u

  pub labels_same : labels_at bs p ≡ q.labels
  labels_same =
      let a : get_or bs (p + 3) 0 ≡ q.labels / 256 = byte 0 (p + 3) (omega arith) (omega arith) in
      let b : get_or bs (p + 4) 0 ≡ q.labels % 256 = byte 1 (p + 4) (omega arith) (omega arith) in
      let e : get_or bs (p + 3) 0 * 256 + get_or bs (p + 4) 0 ≡ q.labels = omega arith in
      ap (λ n. n % 65536) e ∙ mod-eq_of_lt h.labelled

  list_same : numbers (moves_at bs P p) 0 P ≡ numbers (count q) 0 P
  list_same = vectors_same (moves_at bs P p) (count q) P moves_same

  pub next_same : (v : ℕ) → under P (highest (moves_at bs P p) 0 P) v ≡ true → next_at bs P N p v ≡ get_or q.nexts (index v (numbers (count q) 0 P)) 0
  next_same v u =
      let i = index_place (moves_at bs P p) (λ a. (moves_range bs P p a).0) (λ a. (moves_range bs P p a).1) P v (under_box (moves_at bs P p) (λ a. (moves_range bs P p a).1) 0 P v u) in
      let j : ℕ = index v (numbers (count q) 0 P) in
      let at : place P (highest (moves_at bs P p) 0 P) v ≡ j = i.1 ∙ ap (index v) list_same in
      let k : j < vectors_of q = omega (arith, i.0, i.1, at, product_same (moves_at bs P p) (count q) P moves_same, ap (product (count q)) h.counted) in
      let g : get_or bs (p + 5 + P + j) 0 ≡ get_or q.nexts j 0 = byte (2 + P + j) (p + 5 + P + j) (omega arith) (omega arith) ∙ next_there q P j h.counted in
      ap (λ x. inside N (get_or bs (p + 5 + P + x) 0)) at
      ∙ (ap (inside N) g ∙ cond-true (ltb (get_or q.nexts j 0) N) (get_or q.nexts j 0) 0 (lt-ltb _ N (All-get_or (Below N) q.nexts j 0 (omega (arith, h.led)) h.nexts_fit)))

-- games made of tables that agree where they are asked
cond_same : {A : Type 0} (b : Bool) (x y z : A) → (b ≡ true → x ≡ y) → cond b x z ≡ cond b y z
cond_same true x y z h = h refl
cond_same false x y z h = refl

test_same : {A : Type 0} (b s t : Bool) (x y z : A) → (b ≡ true → s ≡ t) → (b ≡ true → s ≡ true → x ≡ y) → cond (b && s) x z ≡ cond (b && t) y z
test_same true s t x y z e h = cond_same s x y z (h refl) ∙ ap (λ u. cond u y z) (e refl)
test_same false s t x y z e h = refl

module _ (P N s : ℕ) (d d' : ℕ → ℕ → ℕ) (l l' : ℕ → ℕ) (t t' : ℕ → ℕ → ℕ) where
  made_same : ((a q : ℕ) → 1 ≤ a → a ≤ P → q < N → d a q ≡ d' a q) → ((q : ℕ) → q < N → l q ≡ l' q) → ((q v : ℕ) → q < N → under P (highest (λ a. d a q) 0 P) v ≡ true → t q v ≡ t' q v) → made P N s d l t ≡ made P N s d' l' t'
  made_same hd hl ht =
      let moves : ◌≡◌ {A = ℕ → ℕ → ℕ} (made P N s d l t).moves (made P N s d' l' t').moves = fun_ext (λ a. fun_ext (λ q.
      cond_same ((leb 1 a && leb a P) && ltb q N) (d a q) (d' a q) 0 (λ e. let p = and_parts _ _ e in let r = and_parts _ _ p.0 in hd a q (leb-true 1 a r.0) (leb-true a P r.1) (ltb-true q N p.1)))) in
      let labels : ◌≡◌ {A = ℕ → ℕ} (made P N s d l t).labels (made P N s d' l' t').labels = fun_ext (λ q. cond_same (ltb q N) (l q) (l' q) 0 (λ e. hl q (ltb-true q N e))) in
      let next : ◌≡◌ {A = ℕ → ℕ → Option ℕ} (made P N s d l t).next (made P N s d' l' t').next = fun_ext (λ q. fun_ext (λ v.
      test_same (ltb q N) (under P (highest (λ a. d a q) 0 P) v) (under P (highest (λ a. d' a q) 0 P) v) (Some (t q v)) (Some (t' q v)) None
      (λ e. ap (λ h. under P h v) (highest_same (λ a. d a q) (λ a. d' a q) 0 P (λ b x y. hd b q x (omega arith) (ltb-true q N e))))
      (λ e u. ap Some (ht q v (ltb-true q N e) u)))) in
      λ i. record { players = P; states = N; start = s; moves = moves i; labels = labels i; next = next i }

-- the whole game
module _ (c : Content) (h : Fits c) where
  there : (q : ℕ) → q < length c.states → FieldAt (encode c) (state_spot (encode c) q) 2 (state_value (state c q)) × StateFits c.players (length c.states) (state c q)
  there q l = (state_there c h q l, All-get_or (StateFits c.players (length c.states)) c.states q no_state l h.each_state)

  game_described : game_of (encode c) c.players (length c.states) c.start ≡ described c
  game_described =
      let bs : List ℕ = encode c in
      let P : ℕ = c.players in
      let N : ℕ = length c.states in
      ap (λ s. made P N s (table_moves bs P) (table_labels bs) (table_next bs P N)) (cond-true (ltb c.start N) c.start 0 (lt-ltb c.start N h.started))
      ∙ made_same P N c.start (table_moves bs P) (moves_in c) (table_labels bs) (labels_of c) (table_next bs P N) (leads_in c)
      (λ a q x y l. moves_same bs P N (state_spot bs q) (state c q) (there q l).0 (there q l).1 a x y)
      (λ q l. labels_same bs P N (state_spot bs q) (state c q) (there q l).0 (there q l).1)
      (λ q v l u. next_same bs P N (state_spot bs q) (state c q) (there q l).0 (there q l).1 v u)

  pub filed_described : (P N s : ℕ) → P ≡ players_in (encode c) → N ≡ states_in (encode c) → s ≡ start_in (encode c) → filed (encode c) P N s ≡ described c
  filed_described P N s p n z =
      let p' : players_kept P ≡ c.players = omega (arith, players_read c h, h.players_fit) in
      let n' : states_kept N ≡ length c.states = omega (arith, states_read c h, h.states_fit) in
      ap (λ x. game_of (encode c) x (states_kept N) s) p' ∙ (ap (λ x. game_of (encode c) c.players x s) n' ∙ (ap (game_of (encode c) c.players (length c.states)) (z ∙ start_read c h) ∙ game_described))
