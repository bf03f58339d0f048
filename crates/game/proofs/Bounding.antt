-- The bound game is a game, and its steps are those that the entries allow.
use Rattle.std.proofs.Common.{◌≡◌, ℕ, zero, suc, ◌+◌, ◌*◌, ◌/◌, ◌%◌, ◌<◌, ◌≤◌, min, Bool, true, false, cond, ◌&&◌, eqb, ltb, ◌⊎◌, Some, None, refl, ap, ◌∙◌, subst, inl, inr, ⊎_elim, arith}
use Rattle.std.proofs.lemmas.Bool.{cases_Bool, and_parts, and_from, lt-ltb, ltb-true, cond-true, cond-false, cond_both, eq-eqb, ne_eqb}
use Rattle.std.proofs.lemmas.Bool.Decides.{nat_tests}
use Rattle.game.specs.Structure.{Structure, Limits, Vector, Choice, Reply, Player, Member, move_of}
use Rattle.game.specs.Lists.{least, member, own, other, highest, lowest, under}
use Rattle.game.specs.Bound.{left, legal, placed, bound, BoundKeepsLimits}
use Rattle.game.proofs.Walk.{Digits, highest_mod, highest_div}
use Rattle.game.proofs.Members.{Digit, Box}
use Rattle.game.proofs.Joins.{Parts, box_joins, pick, picked}
use Rattle.game.proofs.Tested.{nobody}
use Rattle.game.proofs.Under.{under_box, box_under}
use Rattle.game.proofs.Division.{divided, moves_digit, vector_box, box_vector, vector_from_box, box_players, own_digits, choice_box, reply_box, box_reply, product_mono}

-- a number with one digit more
box_more : (d : ℕ → ℕ) (a n x y : ℕ) → d (suc a) ≤ 15 → Digit (d (suc a)) x → Box d (suc a) n y → Box d a (suc n) (y * 16 + x)
box_more d a n x y l h k =
    let e : x ≡ (y * 16 + x) % 16 = omega (arith, h.high) in
    let f : y ≡ (y * 16 + x) / 16 = omega (arith, h.high) in
    (subst (Digit (d (suc a))) e h, subst (Box d (suc a) n) f k)

-- the lowest number has the digit 1 at each limit
box_firsts : (d : ℕ → ℕ) (a n : ℕ) → Digits d → Box (λ b. min 1 (d b)) a n (lowest n (highest d a n))
unfolding lowest least
box_firsts d a zero h = refl
box_firsts d a (suc n) h =
    rw (highest_mod d a n h, highest_div d a n h)
    (box_more (λ b. min 1 (d b)) a n (min 1 (d (suc a))) (lowest n (highest d (suc a) n)) (omega arith) (record { low = omega arith; high = omega arith }) (box_firsts d (suc a) n h))

-- At each player: the limit d, its limit o as a member and r as another, and what is left to it, l. An entry replaces the members' digits.
pub record Place (d o r l : ℕ) : Type 0 where
  pub one : 1 ≤ d
  pub most : d ≤ 15
  pub side : ((o ≡ 0) × (r ≡ d) × (l ≡ d)) ⊎ ((o ≡ d) × (r ≡ 0) × (l ≡ 1))

placed_digit : (d o r l e v : ℕ) → Place d o r l → Digit l v → Digit d (cond (eqb o 0) v (legal o e))
placed_digit d o r l e v p k = go p.side
  where
    go : ((o ≡ 0) × (r ≡ d) × (l ≡ d)) ⊎ ((o ≡ d) × (r ≡ 0) × (l ≡ 1)) → Digit d (cond (eqb o 0) v (legal o e))
    go (inl s) = record { low = grind (arith, nat_tests, s.0, p.one); high = grind (arith, nat_tests, s.0, s.2) }
    go (inr s) = record { low = grind (arith, nat_tests, s.0, p.one); high = grind (arith, nat_tests, s.0, p.one) }

joined_digit : (d o r l c x y : ℕ) → Place d o r l → Digit o c → Digit (min 1 o) x → Digit r y → cond (eqb o 0) (x + y) (legal o c) ≡ c + y
joined_digit d o r l c x y p h i j = go p.side
  where
    go : ((o ≡ 0) × (r ≡ d) × (l ≡ d)) ⊎ ((o ≡ d) × (r ≡ 0) × (l ≡ 1)) → cond (eqb o 0) (x + y) (legal o c) ≡ c + y
    go (inl s) = grind (arith, nat_tests, s.0, p.one)
    go (inr s) = grind (arith, nat_tests, s.0, s.1, p.one)

room : (d o r l x y : ℕ) → Place d o r l → Digit (min 1 o) x → Digit r y → x + y ≤ 15
room d o r l x y p i j = omega arith

module _ (d o r l : ℕ → ℕ) (digits : Digits o) where
  -- the n players after a
  abbrev pub Places : ℕ → ℕ → Type 0
  Places a n = (b : ℕ) → a < b → b ≤ a + n → Place (d b) (o b) (r b) (l b)

  less : (a n : ℕ) → Places a (suc n) → Places (suc a) n
  less a n h b i j = h b (omega arith) (omega arith)

  placed_box : (a n e v : ℕ) → Places a n → Box l a n v → Box d a n (placed n (highest o a n) e v)
  unfolding placed
  placed_box a zero e v p h = refl
  placed_box a (suc n) e v p h =
      let here = p (suc a) (omega arith) (omega arith) in
      rw (highest_mod o a n digits, highest_div o a n digits)
      (box_more d a n _ _ here.most (placed_digit (d (suc a)) (o (suc a)) (r (suc a)) (l (suc a)) (e % 16) (v % 16) here h.0) (placed_box (suc a) n (e / 16) (v / 16) (less a n p) h.1))

  placed_joins : (a n c x y : ℕ) → Places a n → Box o a n c → Box (λ b. min 1 (o b)) a n x → Box r a n y → placed n (highest o a n) c (x + y) ≡ c + y
  unfolding placed
  placed_joins a zero c x y p h i j = omega arith
  placed_joins a (suc n) c x y p h i j =
      let here = p (suc a) (omega arith) (omega arith) in
      let k = room (d (suc a)) (o (suc a)) (r (suc a)) (l (suc a)) (x % 16) (y % 16) here i.0 j.0 in
      let e : (x + y) % 16 ≡ x % 16 + y % 16 = omega arith in
      let f : (x + y) / 16 ≡ x / 16 + y / 16 = omega arith in
      rw (highest_mod o a n digits, highest_div o a n digits, e, f, placed_joins (suc a) n (c / 16) (x / 16) (y / 16) (less a n p) h.1 i.1 j.1, joined_digit (d (suc a)) (o (suc a)) (r (suc a)) (l (suc a)) (c % 16) (x % 16) (y % 16) here h.0 i.0 j.0)
      (omega arith)

module _ (m : Structure) (L : Limits m) (A q : ℕ) where
  -- what is left: the members' first moves, and the others' moves
  abbrev firsts : ℕ → ℕ
  firsts a = min 1 (own m A q a)

  left_parts : Parts (left m A q) firsts (other m A q)
  left_parts a = go (member a A)
    where
      go : (b : Bool) → ((min 1 (cond b (m.moves a q) 0) ≡ 0) × (cond b 0 (m.moves a q) ≡ cond b (min 1 (m.moves a q)) (m.moves a q)))
          ⊎ ((cond b 0 (m.moves a q) ≡ 0) × (min 1 (cond b (m.moves a q) 0) ≡ cond b (min 1 (m.moves a q)) (m.moves a q)))
      go true = inr (refl, refl)
      go false = inl (omega arith, refl)

  left_le : (a : ℕ) → left m A q a ≤ m.moves a q
  left_le a = cond_both (member a A) (min 1 (m.moves a q)) (m.moves a q) (λ x. x ≤ m.moves a q) (λ e. omega arith) (λ e. omega arith)

  left_digits : Digits (left m A q)
  left_digits a = omega (arith, left_le a, moves_digit m L q a)

  module _ (in_m : q < m.states) where
    places : Places (λ a. m.moves a q) (own m A q) (other m A q) (left m A q) (own_digits m A q L) 0 m.players
    places a i j = go (member a A)
      where
        moves : (1 ≤ m.moves a q) × (m.moves a q ≤ 15)
        moves = L.a_move a q (i, omega arith) in_m

        go : (b : Bool) → Place (m.moves a q) (cond b (m.moves a q) 0) (cond b 0 (m.moves a q)) (cond b (min 1 (m.moves a q)) (m.moves a q))
        go true = record { one = moves.0; most = moves.1; side = inr (refl, refl, omega (arith, moves.0)) }
        go false = record { one = moves.0; most = moves.1; side = inl (refl, refl, refl) }

    -- in the lowest choice each member plays move 1
    pub first_move : (a : ℕ) → Player m a → Member a A → move_of a (lowest m.players (highest (own m A q) 0 m.players)) ≡ 1
    first_move a p i =
        let d = box_players m firsts _ (box_firsts (own m A q) 0 m.players (own_digits m A q L)) a p in
        omega (arith, d.low, d.high, cond-true (member a A) (m.moves a q) 0 (eq-eqb _ 1 i), (L.a_move a q p in_m).0)

    module _ (f : ℕ → ℕ) where
      abbrev whole : ℕ → ℕ
      whole v = placed m.players (highest (own m A q) 0 m.players) (f q) v

      bound_box : (v : ℕ) → Vector (bound m A f) q v → Box (left m A q) 0 m.players v
      bound_box v h = vector_box (bound m A f) A q v h

      bound_vector : (v : ℕ) → Box (left m A q) 0 m.players v → Vector (bound m A f) q v
      bound_vector v h = vector_from_box (bound m A f) q (λ a p. cond_both (member a A) (min 1 (m.moves a q)) (m.moves a q) (λ x. 1 ≤ x) (λ e. omega (arith, (L.a_move a q p in_m).0)) (λ e. (L.a_move a q p in_m).0)) v h

      bound_next : (v : ℕ) → Vector (bound m A f) q v → (bound m A f).next q v ≡ m.next q (whole v)
      bound_next v h = cond-true _ (m.next q (whole v)) None (and_from _ _ (lt-ltb q m.states in_m) (box_under (left m A q) left_digits 0 m.players v (bound_box v h)))

      bound_leads : (v : ℕ) → Vector (bound m A f) q v → (t : ℕ) × ((bound m A f).next q v ≡ Some t) × (t < m.states)
      bound_leads v h =
          let b = placed_box (λ a. m.moves a q) (own m A q) (other m A q) (left m A q) (own_digits m A q L) 0 m.players (f q) v places (bound_box v h) in
          let t = L.leads q (whole v) in_m (box_vector m A q L in_m (whole v) b) in
          (t.0, bound_next v h ∙ t.1, t.2)

      -- where the entry is a choice of the group, the vectors of the bound game are the replies to it
      module _ (c : Choice m A q (f q)) where
        joined : (x y : ℕ) → Box firsts 0 m.players x → Reply m A q y → whole (x + y) ≡ f q + y
        joined x y i j = placed_joins (λ a. m.moves a q) (own m A q) (other m A q) (left m A q) (own_digits m A q L) 0 m.players (f q) x y places (choice_box m A q (f q) c) i (reply_box m A q y j)

        pub bound_there : (v : ℕ) → Vector (bound m A f) q v → (y : ℕ) × Reply m A q y × ((bound m A f).next q v ≡ m.next q (f q + y))
        bound_there v h =
            let k = picked (left m A q) firsts (other m A q) left_digits left_parts 0 m.players v (bound_box v h) in
            let y = pick (other m A q) 0 m.players v in
            let j = box_reply m A q L in_m y k.1 in
            (y, j, bound_next v h ∙ ap (m.next q) (ap whole k.2 ∙ joined _ y k.0 j))

        pub bound_back : (y : ℕ) → Reply m A q y → (v : ℕ) × Vector (bound m A f) q v × ((bound m A f).next q v ≡ m.next q (f q + y))
        bound_back y j =
            let x = lowest m.players (highest (own m A q) 0 m.players) in
            let i = box_firsts (own m A q) 0 m.players (own_digits m A q L) in
            let h = bound_vector (x + y) (box_joins (left m A q) firsts (other m A q) left_digits left_parts 0 m.players x y i (reply_box m A q y j)) in
            (x + y, h, bound_next (x + y) h ∙ ap (m.next q) (joined x y i j))

pub bound_limits : BoundKeepsLimits
bound_limits m A f L = record {
  some_player = L.some_player;
  six = L.six;
  some_state = L.some_state;
  many = L.many;
  started = L.started;
  a_move = λ a q p l. let k = L.a_move a q p l in cond_both (member a A) (min 1 (m.moves a q)) (m.moves a q) (λ x. (1 ≤ x) × (x ≤ 15)) (λ e. (omega (arith, k.0), omega arith)) (λ e. k);
  no_move = λ a q h. let k = L.no_move a q h in cond_both (member a A) (min 1 (m.moves a q)) (m.moves a q) (λ x. x ≡ 0) (λ e. omega arith) (λ e. k);
  few_vectors = λ q l. omega (arith, L.few_vectors q l, product_mono (left m A q) (λ a. m.moves a q) (left_le m L A q) m.players);
  sixteen = L.sixteen;
  no_label = L.no_label;
  leads = λ q v l h. bound_leads m L A q l f v h;
  nowhere = λ q v h. ⊎_elim
      (λ (e : (ltb q m.states && under m.players (highest (left m A q) 0 m.players) v) ≡ true).
      let p = and_parts _ _ e in
      let l = ltb-true q m.states p.0 in
      absurd (h (l, bound_vector m L A q l f v (under_box (left m A q) (left_digits m L A q) 0 m.players v p.1))))
      (λ (e : (ltb q m.states && under m.players (highest (left m A q) 0 m.players) v) ≡ false). cond-false _ (m.next q _) None e)
      (cases_Bool (ltb q m.states && under m.players (highest (left m A q) 0 m.players) v));
}

-- nobody has one choice, 0
box_none : (d : ℕ → ℕ) → ((a : ℕ) → d a ≡ 0) → (a n v : ℕ) → Box d a n v → v ≡ 0
box_none d h a zero v b = b
box_none d h a (suc n) v b = omega (arith, h (suc a), b.0.high, box_none d h (suc a) n (v / 16) b.1)

pub nobody_chooses : (m : Structure) (q c : ℕ) → Choice m 0 q c → c ≡ 0
nobody_chooses m q c h = box_none (own m 0 q) (λ a. cond-false (member a 0) (m.moves a q) 0 (ne_eqb _ 1 (nobody a))) 0 m.players c (choice_box m 0 q c h)

-- Where the entry is a choice of the group, the steps of the bound game, in which nobody chooses, are the steps under the entry.
module _ (m : Structure) (L : Limits m) (A : ℕ) (f : ℕ → ℕ) (q : ℕ) (in_m : q < m.states) (entry : Choice m A q (f q)) (c : ℕ) (none : Choice (bound m A f) 0 q c) where
  pub step_there : (x : ℕ) → Reply (bound m A f) 0 q x → (y : ℕ) × Reply m A q y × ((bound m A f).next q (c + x) ≡ m.next q (f q + y))
  step_there x h = bound_there m L A q in_m f entry (c + x) ((divided (bound m A f) 0 q (bound_limits m A f L) in_m).joins c x none h)

  pub step_back : (y : ℕ) → Reply m A q y → (x : ℕ) × Reply (bound m A f) 0 q x × ((bound m A f).next q (c + x) ≡ m.next q (f q + y))
  step_back y h =
      let v = bound_back m L A q in_m f entry y h in
      let s = (divided (bound m A f) 0 q (bound_limits m A f L) in_m).splits v.0 v.1 in
      let e : c + s.1 ≡ v.0 = omega (arith, s.4, nobody_chooses (bound m A f) q c none, nobody_chooses (bound m A f) q s.0 s.2) in
      (s.1, s.3, ap ((bound m A f).next q) e ∙ v.2)
