-- What a binding is at first, and where it leads.
use Rattle.std.proofs.Common.{◌≡◌, ℕ, zero, suc, ◌+◌, ◌-◌, ◌*◌, ◌/◌, ◌%◌, ◌^◌, ◌<◌, ◌≤◌, min, Bool, true, false, cond, ◌&&◌, eqb, ltb, List, get_or, replicate, None, sym, refl, ap, ◌∙◌, subst, ap₂, ⊎_elim, arith, lit<, lit≤}
use mathlib.Core.Path.{fun_ext}
use native.Mathlib.Nat.{pow-succ', div-div-eq-div-mul, one-le-pow, pow-le-pow_right}
use lib.ListN.{get_or-replicate}
use Rattle.std.proofs.lemmas.Nat.{field_of, mod-pow-add}
use Rattle.std.proofs.lemmas.Bool.{cases_lt}
use Rattle.game.specs.Structure.{Structure, Limits, Choice, Player, move_of}
use Rattle.game.specs.Lists.{member, highest, under}
use Rattle.game.specs.Bound.{placed, bound}
use Rattle.game.proofs.Bounding.{bound_there, bound_back}
use Rattle.binding.specs.Entries.{entry_at, present, first_moves, FollowsLawful, AtFirst}
use Rattle.binding.proofs.Digits.{digit_more}

pub first_none : (n A : ℕ) → n ≡ 0 → 0 ≡ first_moves n A
unfolding first_moves
first_none n A z = rw z refl

pub first_more : (n A : ℕ) → (n ≡ 0 → ⊥) → first_moves (n - 1) (A / 2) * 16 + A % 2 ≡ first_moves n A
unfolding first_moves
first_more zero A z = absurd (z refl)
first_more (suc n) A z = let k : suc n - 1 ≡ n = omega arith in rw k refl

first_below : (n A : ℕ) → first_moves n A < 16 ^ n
unfolding first_moves
first_below zero A = omega arith
first_below (suc n) A = digit_more n _ _ (first_below n (A / 2)) (omega arith)

first_fits : (k n A : ℕ) → A < 2 ^ k → first_moves n A < 16 ^ k
unfolding first_moves
first_fits k zero A l = one-le-pow k 16 (lit< tt)
first_fits zero (suc n) A l = omega (arith, first_fits zero n (A / 2) (omega arith))
first_fits (suc k) (suc n) A l = digit_more k _ _ (first_fits k n (A / 2) (omega (arith, pow-succ' 2 k))) (omega arith)

pub first_room : (n A x : ℕ) → A < 2 ^ 8 → x ≡ first_moves (n - 1) (A / 2) → x < 2 ^ 28
first_room n A x l f = omega (arith, f, first_fits 7 (n - 1) (A / 2) (omega arith))

shift : (b v k : ℕ) → v / b / b ^ k ≡ v / b ^ suc k
shift b v k = div-div-eq-div-mul v b (b ^ k) ∙ ap (λ x. v / x) (sym (pow-succ' b k))

-- the digit of each player is its bit
first_digit : (n k A : ℕ) → k < n → first_moves n A / 16 ^ k % 16 ≡ A / 2 ^ k % 2
unfolding first_moves
first_digit zero k A l = absurd (omega arith)
first_digit (suc n) zero A l = omega arith
first_digit (suc n) (suc k) A l =
    let e : (first_moves n (A / 2) * 16 + A % 2) / 16 ≡ first_moves n (A / 2) = omega arith in
    ap (λ x. x % 16) (sym (shift 16 (first_moves n (A / 2) * 16 + A % 2) k) ∙ ap (λ x. x / 16 ^ k) e)
    ∙ first_digit n k (A / 2) (omega arith)
    ∙ ap (λ x. x % 2) (shift 2 A k)

-- the bits of players that are there are kept
present_bit : (n k A : ℕ) → k < n → present n A / 2 ^ k % 2 ≡ A / 2 ^ k % 2
present_bit n k A l =
    let e : n ≡ n - suc k + 1 + k = omega arith in
    ap (λ x. A % 2 ^ x / 2 ^ k % 2) e ∙ ap (λ x. x % 2) (field_of A (n - suc k + 1) k ∙ mod-pow-add (A / 2 ^ k) (n - suc k) 1) ∙ omega arith

-- as the program keeps them
pub kept : (n A : ℕ) → n ≤ 6 → A % (1 * 2 ^ n % 2 ^ 8) ≡ present n A
kept n A l = let e : 1 * 2 ^ n % 2 ^ 8 ≡ 2 ^ n = omega (arith, pow-le-pow_right {n = 2} (lit≤ tt) l) in ap (λ x. A % x) e

-- a group counts only through its members' moves
built : (m : Structure) (l o : ℕ → ℕ → ℕ) (f : ℕ → ℕ) → Structure
built m l o f = record {
  players = m.players;
  states = m.states;
  start = m.start;
  moves = λ a q. l q a;
  labels = m.labels;
  next = λ q v. cond (ltb q m.states && under m.players (highest (l q) 0 m.players) v) (m.next q (placed m.players (highest (o q) 0 m.players) (f q) v)) None;
}

-- a player with a move is one of the players
some_move : (m : Structure) → Limits m → (a q : ℕ) → 1 ≤ m.moves a q → (0 < a) × (a ≤ 6)
some_move m L a q h =
    ⊎_elim
    (λ (l : 0 < a). ⊎_elim (λ (k : m.players < a). absurd (none (λ p. omega arith))) (λ (k : a ≤ m.players). (l, omega (arith, L.six))) (cases_lt m.players a))
    (λ (l : a ≤ 0). absurd (none (λ p. omega arith)))
    (cases_lt 0 a)
  where
    none : (Player m a × (q < m.states) → ⊥) → ⊥
    none e = omega (arith, L.no_move a q e)

cond_none : (b : Bool) → cond {A = ℕ} b 0 0 ≡ 0
cond_none true = refl
cond_none false = refl

module _ (m : Structure) (L : Limits m) (A : ℕ) where
  -- what depends on the group only where there are moves does not see the bits of missing players
  by_moves : (F : Bool → ℕ → ℕ) → ((b : Bool) → F b 0 ≡ 0) → (q a : ℕ) → F (member a (present m.players A)) (m.moves a q) ≡ F (member a A) (m.moves a q)
  by_moves F h q a =
      ⊎_elim
      (λ (l : 0 < a). ⊎_elim (λ (k : m.players < a). missing (λ p. omega arith)) (λ (k : a ≤ m.players). ap (λ x. F (eqb x 1) (m.moves a q)) (present_bit m.players (a - 1) A (omega arith))) (cases_lt m.players a))
      (λ (l : a ≤ 0). missing (λ p. omega arith))
      (cases_lt 0 a)
    where
      missing : (Player m a × (q < m.states) → ⊥) → F (member a (present m.players A)) (m.moves a q) ≡ F (member a A) (m.moves a q)
      missing k = rw (L.no_move a q k) (h _ ∙ sym (h _))

  same : (f : ℕ → ℕ) → bound m (present m.players A) f ≡ bound m A f
  unfolding built
  same f = ap₂ (λ l o. built m l o f)
      (fun_ext (λ q. fun_ext (λ a. by_moves (λ b k. cond b (min 1 k) k) cond_none q a)))
      (fun_ext (λ q. fun_ext (λ a. by_moves (λ b k. cond b k 0) cond_none q a)))

  module _ (a : ℕ) (p : Player m a) where
    first_bit : move_of a (first_moves m.players A) ≡ A / 2 ^ (a - 1) % 2
    first_bit = first_digit m.players (a - 1) A (omega arith)

    first_present : move_of a (first_moves m.players A) ≡ present m.players A / 2 ^ (a - 1) % 2
    first_present = first_bit ∙ sym (present_bit m.players (a - 1) A (omega arith))

  first_choice : (q : ℕ) → q < m.states → Choice m (present m.players A) q (first_moves m.players A)
  first_choice q l = record {
    members = λ a p i. (omega (arith, first_present a p, i), omega (arith, first_present a p, i, (L.a_move a q p l).0));
    others = λ a p i. none _ _ (first_present a p) i;
    rest = first_below m.players A;
  }
    where
      none : (x y : ℕ) → x ≡ y % 2 → (y % 2 ≡ 1 → ⊥) → x ≡ 0
      none x y e h = omega arith

  at_first : (B : ℕ) (xs : List ℕ) → B ≡ present m.players A → xs ≡ replicate 256 (first_moves m.players A) → AtFirst m A B (entry_at xs)
  at_first B xs b e = subst (λ x. AtFirst m A x (entry_at xs)) (sym b) (record {
    same = same;
    lawful = λ q l. subst (Choice m (present m.players A) q) (sym (entry q l)) (first_choice q l);
    first = λ q a l p i. ap (move_of a) (entry q l) ∙ first_bit a p ∙ i;
  })
    where
      entry : (q : ℕ) → q < m.states → entry_at xs q ≡ first_moves m.players A
      entry q l = ap (λ x. get_or x q 0) e ∙ get_or-replicate 256 q (first_moves m.players A) 0 (omega (arith, L.many))

  -- as the program makes it, with n for the players and c for the entry
  pub begun : (n B c : ℕ) (xs : List ℕ) → n ≡ m.players → B ≡ present n A → c ≡ first_moves n A → xs ≡ replicate 256 c → (B ≡ present m.players A) × (xs ≡ replicate 256 (first_moves m.players A)) × AtFirst m A B (entry_at xs)
  begun n B c xs p b k e =
      let there : B ≡ present m.players A = b ∙ ap (λ x. present x A) p in
      let all : xs ≡ replicate 256 (first_moves m.players A) = e ∙ ap (replicate 256) (k ∙ ap (λ x. first_moves x A) p) in
      (there, all, at_first B xs there all)

pub follows_lawful : (m : Structure) → Limits m → (A : ℕ) → FollowsLawful m A
follows_lawful m L A f h q l = record { there = bound_there m L A q l f (h q l); back = bound_back m L A q l f (h q l) }
