-- The sides of choices and replies are those of the game.
use Rattle.std.proofs.Common.{◌≡◌, ℕ, zero, suc, ◌+◌, ◌-◌, ◌/◌, ◌%◌, ◌^◌, ◌<◌, ◌≤◌, ◌⊎◌, sym, subst, inl, inr, ⊎_elim, arith, lit≤}
use Rattle.std.proofs.lemmas.Nat.{mul-le}
use Rattle.std.proofs.lemmas.Bool.{cases_eq, cases_lt, eq-eqb, ne_eqb, cond-true, cond-false, cond_both}
use Rattle.game.specs.Structure.{Structure, Limits, Vector, Choice, Reply, Player, Member, move_of, product}
use Rattle.game.specs.Lists.{lowest, highest, member, own, other}
use Rattle.game.specs.Divided.{Divided}
use Rattle.game.proofs.Walk.{Digits}
use Rattle.game.proofs.Members.{Digit, Box, elem_numbers, numbers_elem, numbers_ascending, box_each, each_box, box_below}
use Rattle.game.proofs.Joins.{Parts, box_joins, box_or, box_once, pick, picked, box_lowest}

pub moves_digit : (m : Structure) → Limits m → (q a : ℕ) → m.moves a q ≤ 15
moves_digit m L q a =
    ⊎_elim
    (λ p. ⊎_elim (λ r. ⊎_elim (λ s. (L.a_move a q (p, r) s).1) (λ s. none (λ k. omega arith)) (cases_lt q m.states)) (λ r. none (λ k. omega arith)) (cases_le a m.players))
    (λ p. none (λ k. omega arith))
    (cases_le 1 a)
  where
    cases_le : (x y : ℕ) → (x ≤ y) ⊎ (y < x)
    cases_le x y = ⊎_elim inr inl (cases_lt y x)

    none : (Player m a × (q < m.states) → ⊥) → m.moves a q ≤ 15
    none h = omega (arith, L.no_move a q h)

-- the digits of a number, player by player
abbrev pub Players : Structure → (ℕ → ℕ) → ℕ → Type 0
Players m d v = (b : ℕ) → Player m b → Digit (d b) (move_of b v)

pub players_box : (m : Structure) (d : ℕ → ℕ) (v : ℕ) → v < 16 ^ m.players → Players m d v → Box d 0 m.players v
players_box m d v l h = each_box d 0 m.players v l (λ b p k. h b (p, omega arith))

pub box_players : (m : Structure) (d : ℕ → ℕ) (v : ℕ) → Box d 0 m.players v → Players m d v
box_players m d v h b p = box_each d 0 m.players v h b p.0 (omega arith)

pub plays_digit : (n x : ℕ) → (1 ≤ x) × (x ≤ n) → Digit n x
plays_digit n x h = record { low = omega arith; high = omega arith }

pub digit_plays : (n x : ℕ) → 1 ≤ n → Digit n x → (1 ≤ x) × (x ≤ n)
digit_plays n x l h = (omega arith, omega arith)

none_digit : (x : ℕ) → x ≡ 0 → Digit 0 x
none_digit x e = record { low = omega arith; high = omega arith }

digit_none : (x : ℕ) → Digit 0 x → x ≡ 0
digit_none x h = omega arith

pub vector_from_box : (m : Structure) (q : ℕ) → ((b : ℕ) → Player m b → 1 ≤ m.moves b q) → (v : ℕ) → Box (λ a. m.moves a q) 0 m.players v → Vector m q v
vector_from_box m q one v h = record {
  each = λ b p. digit_plays (m.moves b q) (move_of b v) (one b p) (box_players m (λ a. m.moves a q) v h b p);
  rest = box_below (λ a. m.moves a q) 0 m.players v h;
}

module _ (m : Structure) (A q : ℕ) where
  own_in : (a : ℕ) → Member a A → own m A q a ≡ m.moves a q
  own_in a h = cond-true (member a A) (m.moves a q) 0 (eq-eqb (A / 2 ^ (a - 1) % 2) 1 h)

  own_out : (a : ℕ) → (Member a A → ⊥) → own m A q a ≡ 0
  own_out a h = cond-false (member a A) (m.moves a q) 0 (ne_eqb (A / 2 ^ (a - 1) % 2) 1 h)

  other_in : (a : ℕ) → Member a A → other m A q a ≡ 0
  other_in a h = cond-true (member a A) 0 (m.moves a q) (eq-eqb (A / 2 ^ (a - 1) % 2) 1 h)

  other_out : (a : ℕ) → (Member a A → ⊥) → other m A q a ≡ m.moves a q
  other_out a h = cond-false (member a A) 0 (m.moves a q) (ne_eqb (A / 2 ^ (a - 1) % 2) 1 h)

  member_cases : (a : ℕ) → Member a A ⊎ (Member a A → ⊥)
  member_cases a = cases_eq (A / 2 ^ (a - 1) % 2) 1

  pub parts : Parts (λ a. m.moves a q) (own m A q) (other m A q)
  parts a = ⊎_elim (λ h. inr (other_in a h, own_in a h)) (λ h. inl (own_out a h, other_out a h)) (member_cases a)

  pub choice_box : (c : ℕ) → Choice m A q c → Box (own m A q) 0 m.players c
  choice_box c h = players_box m (own m A q) c h.rest (λ b p. ⊎_elim
      (λ i. subst (λ x. Digit x (move_of b c)) (sym (own_in b i)) (plays_digit (m.moves b q) (move_of b c) (h.members b p i)))
      (λ i. subst (λ x. Digit x (move_of b c)) (sym (own_out b i)) (none_digit (move_of b c) (h.others b p i)))
      (member_cases b))

  pub reply_box : (r : ℕ) → Reply m A q r → Box (other m A q) 0 m.players r
  reply_box r h = players_box m (other m A q) r h.rest (λ b p. ⊎_elim
      (λ i. subst (λ x. Digit x (move_of b r)) (sym (other_in b i)) (none_digit (move_of b r) (h.members b p i)))
      (λ i. subst (λ x. Digit x (move_of b r)) (sym (other_out b i)) (plays_digit (m.moves b q) (move_of b r) (h.others b p i)))
      (member_cases b))

  pub vector_box : (v : ℕ) → Vector m q v → Box (λ a. m.moves a q) 0 m.players v
  vector_box v h = players_box m (λ a. m.moves a q) v h.rest (λ b p. plays_digit (m.moves b q) (move_of b v) (h.each b p))

  module _ (L : Limits m) where
    pub own_digits : Digits (own m A q)
    own_digits a = cond_both (member a A) (m.moves a q) 0 (λ x. x ≤ 15) (λ e. moves_digit m L q a) (λ e. omega arith)

    pub other_digits : Digits (other m A q)
    other_digits a = cond_both (member a A) 0 (m.moves a q) (λ x. x ≤ 15) (λ e. omega arith) (λ e. moves_digit m L q a)

    module _ (in_m : q < m.states) where
      pub box_choice : (c : ℕ) → Box (own m A q) 0 m.players c → Choice m A q c
      box_choice c h = record {
        members = λ b p i. digit_plays (m.moves b q) (move_of b c) (L.a_move b q p in_m).0 (subst (λ x. Digit x (move_of b c)) (own_in b i) (box_players m (own m A q) c h b p));
        others = λ b p i. digit_none (move_of b c) (subst (λ x. Digit x (move_of b c)) (own_out b i) (box_players m (own m A q) c h b p));
        rest = box_below (own m A q) 0 m.players c h;
      }

      pub box_reply : (r : ℕ) → Box (other m A q) 0 m.players r → Reply m A q r
      box_reply r h = record {
        members = λ b p i. digit_none (move_of b r) (subst (λ x. Digit x (move_of b r)) (other_in b i) (box_players m (other m A q) r h b p));
        others = λ b p i. digit_plays (m.moves b q) (move_of b r) (L.a_move b q p in_m).0 (subst (λ x. Digit x (move_of b r)) (other_out b i) (box_players m (other m A q) r h b p));
        rest = box_below (other m A q) 0 m.players r h;
      }

      pub box_vector : (v : ℕ) → Box (λ a. m.moves a q) 0 m.players v → Vector m q v
      box_vector v h = vector_from_box m q (λ b p. (L.a_move b q p in_m).0) v h

      joins : (c r : ℕ) → Choice m A q c → Reply m A q r → Vector m q (c + r)
      joins c r h k = box_vector (c + r) (box_joins (λ a. m.moves a q) (own m A q) (other m A q) (moves_digit m L q) parts 0 m.players c r (choice_box c h) (reply_box r k))

      once : (c r c' r' : ℕ) → Choice m A q c → Reply m A q r → Choice m A q c' → Reply m A q r' → c + r ≡ c' + r' → (c ≡ c') × (r ≡ r')
      once c r c' r' h k i j s =
          let e : c ≡ c' = box_once (λ a. m.moves a q) (own m A q) (other m A q) (moves_digit m L q) parts 0 m.players c r c' r' (choice_box c h) (reply_box r k) (choice_box c' i) (reply_box r' j) s in
          (e, omega arith)

      splits : (v : ℕ) → Vector m q v → (c : ℕ) × (r : ℕ) × Choice m A q c × Reply m A q r × (v ≡ c + r)
      splits v h =
          let k = picked (λ a. m.moves a q) (own m A q) (other m A q) (moves_digit m L q) parts 0 m.players v (vector_box v h) in
          (pick (own m A q) 0 m.players v, pick (other m A q) 0 m.players v, box_choice _ k.0, box_reply _ k.1, k.2)

      pub divided : Divided m A q
      divided = record {
        choice_in = λ c h. numbers_elem (own m A q) 0 m.players c (choice_box c h);
        in_choice = λ c e. box_choice c (elem_numbers (own m A q) 0 m.players c own_digits e);
        reply_in = λ r h. numbers_elem (other m A q) 0 m.players r (reply_box r h);
        in_reply = λ r e. box_reply r (elem_numbers (other m A q) 0 m.players r other_digits e);
        choices_ascend = numbers_ascending (own m A q) 0 m.players own_digits;
        replies_ascend = numbers_ascending (other m A q) 0 m.players other_digits;
        some_choice = (lowest m.players (highest (own m A q) 0 m.players), box_choice _ (box_lowest (own m A q) 0 m.players own_digits));
        some_reply = (lowest m.players (highest (other m A q) 0 m.players), box_reply _ (box_lowest (other m A q) 0 m.players other_digits));
        joins = joins;
        joins_bits = λ c r h k. box_or (λ a. m.moves a q) (own m A q) (other m A q) (moves_digit m L q) parts 0 m.players c r (choice_box c h) (reply_box r k);
        leads = λ c r h k. L.leads q (c + r) in_m (joins c r h k);
        splits = splits;
        once = once;
      }

-- fewer moves, fewer product
pub product_mono : (d e : ℕ → ℕ) → ((a : ℕ) → d a ≤ e a) → (p : ℕ) → product d p ≤ product e p
product_mono d e h zero = lit≤ tt
product_mono d e h (suc p) = mul-le (d (suc p)) (product d p) (e (suc p)) (product e p) (h (suc p)) (product_mono d e h p)
