-- The game that bytes and three numbers stand for keeps to the limits of a game.
use Rattle.std.specs.Prelude.{◌≡◌, ℕ, zero, suc, ◌+◌, ◌*◌, ◌<◌, ◌≤◌, true, false, ◌&&◌, ◌⊎◌, List, nat_le, nat_lt, slice_index, refl}
use Rattle.std.proofs.Common.{inl, inr, sym, ◌∙◌, ap, subst, mod-lt, arith, lit<, lit≤}
use Rattle.std.proofs.lemmas.Bool.{leb-true, ltb-true, cases_Bool, cond-true, cond-false, cond_both, and_parts}
use Rattle.game.specs.Made.{InRange}
use Rattle.game.specs.Structure.{Limits, product}
use Rattle.game.proofs.Making.{made_limits}
use Rattle.book.specs.Filed.{players_kept, states_kept, inside, count_kept, state_spot, count_at, moves_at, table_moves, table_labels, table_next, filed}

inside_below : (N t : ℕ) → 1 ≤ N → inside N t < N
inside_below N t l = cond_both (nat_lt t N) t 0 (λ x. x < N) (ltb-true t N) (λ _. l)

abbrev Count : ℕ → Type 0
Count n = (1 ≤ n) × (n ≤ 15)

pub count_range : (n : ℕ) → (1 ≤ count_kept n) × (count_kept n ≤ 15)
count_range n =
    cond_both (nat_le 1 n && nat_le n 15) n 1 Count
    (λ t. let h = and_parts (nat_le 1 n) (nat_le n 15) t in (leb-true 1 n h.0, leb-true n 15 h.1))
    (λ _. (lit≤ tt, lit≤ tt))

pub moves_range : (bs : List ℕ) (P p a : ℕ) → (1 ≤ moves_at bs P p a) × (moves_at bs P p a ≤ 15)
moves_range bs P p a =
    cond_both (nat_le (product (count_at bs p) P) 4096) (count_at bs p a) 1 Count (λ _. count_range (slice_index bs (p + 4 + a))) (λ _. (lit≤ tt, lit≤ tt))

pub product_same : (d e : ℕ → ℕ) (P : ℕ) → ((a : ℕ) → 1 ≤ a → a ≤ P → d a ≡ e a) → product d P ≡ product e P
product_same d e zero h = refl
product_same d e (suc P) h =
    ap (λ x. x * product d P) (h (suc P) (omega arith) (omega arith))
    ∙ ap (λ x. e (suc P) * x) (product_same d e P (λ a l u. h a l (omega arith)))

product_ones : (P : ℕ) → product (λ _. 1) P ≡ 1
product_ones zero = refl
product_ones (suc P) = ap (λ x. 1 * x) (product_ones P)

moves_few : (bs : List ℕ) (P p : ℕ) → product (moves_at bs P p) P ≤ 4096
moves_few bs P p = go (cases_Bool (nat_le (product (count_at bs p) P) 4096))
  where
    go : (nat_le (product (count_at bs p) P) 4096 ≡ true) ⊎ (nat_le (product (count_at bs p) P) 4096 ≡ false) → product (moves_at bs P p) P ≤ 4096
    go (inl t) =
        subst (λ x. x ≤ 4096) (sym (product_same (moves_at bs P p) (count_at bs p) P (λ a _ _. cond-true (nat_le (product (count_at bs p) P) 4096) (count_at bs p a) 1 t))) (leb-true (product (count_at bs p) P) 4096 t)
    go (inr f) =
        subst (λ x. x ≤ 4096) (sym (product_same (moves_at bs P p) (λ _. 1) P (λ a _ _. cond-false (nat_le (product (count_at bs p) P) 4096) (count_at bs p a) 1 f) ∙ product_ones P)) (lit≤ tt)

in_range : (bs : List ℕ) (P N s : ℕ) → 1 ≤ P → P ≤ 6 → 1 ≤ N → N ≤ 256 → InRange P N (inside N s) (table_moves bs P) (table_labels bs) (table_next bs P N)
in_range bs P N s lowP highP lowN highN = record {
  some_player = lowP;
  six = highP;
  some_state = lowN;
  many = highN;
  started = inside_below N s lowN;
  count = λ a q. moves_range bs P (state_spot bs q) a;
  few_vectors = λ q. moves_few bs P (state_spot bs q);
  sixteen = λ q. mod-lt (slice_index bs (state_spot bs q + 3) * 256 + slice_index bs (state_spot bs q + 4)) (lit< tt);
  leads = λ q v l. inside_below N _ lowN;
}

pub filed_limits : (bs : List ℕ) (P N s : ℕ) → Limits (filed bs P N s)
filed_limits bs P N s =
    made_limits (players_kept P) (states_kept N) (inside (states_kept N) s) (table_moves bs (players_kept P)) (table_labels bs) (table_next bs (players_kept P) (states_kept N))
    (in_range bs (players_kept P) (states_kept N) s (omega arith) (omega arith) (omega arith) (omega arith))
