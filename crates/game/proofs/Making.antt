-- A game made of tables in range keeps to the limits.
use Rattle.std.proofs.Common.{◌≡◌, ℕ, ◌^◌, ◌<◌, ◌≤◌, Bool, true, false, ◌&&◌, ltb, leb, Some, None, sym, refl, subst, ⊎_elim, arith}
use Rattle.std.proofs.lemmas.Bool.{and_from, and_parts, le-leb, lt-ltb, ltb-true, leb-true, cond-true, cond-false, cond_both, cases_Bool}
use Rattle.game.specs.Structure.{Structure, Limits, Vector, Player, move_of}
use Rattle.game.specs.Lists.{highest, under}
use Rattle.game.specs.Made.{made, InRange}
use Rattle.game.proofs.Walk.{Digits}
use Rattle.game.proofs.Members.{Box, box_below}
use Rattle.game.proofs.Division.{players_box, box_players, plays_digit, digit_plays, product_mono}
use Rattle.game.proofs.Under.{under_box, box_under}

module _ (players states start : ℕ) (d : ℕ → ℕ → ℕ) (labels : ℕ → ℕ) (lead : ℕ → ℕ → ℕ) (ok : InRange players states start d labels lead) where
  abbrev m : Structure
  m = made players states start d labels lead

  abbrev there : ℕ → ℕ → Bool
  there a q = (leb 1 a && leb a players) && ltb q states

  there_true : (a q : ℕ) → (1 ≤ a) × (a ≤ players) → q < states → there a q ≡ true
  there_true a q p l = and_from _ _ (and_from _ _ (le-leb 1 a p.0) (le-leb a players p.1)) (lt-ltb q states l)

  there_false : (a q : ℕ) → (((1 ≤ a) × (a ≤ players)) × (q < states) → ⊥) → there a q ≡ false
  there_false a q h = ⊎_elim
      (λ (e : there a q ≡ true). absurd (let p = and_parts _ _ e in let r = and_parts _ _ p.0 in h ((leb-true 1 a r.0, leb-true a players r.1), ltb-true q states p.1)))
      (λ (e : there a q ≡ false). e)
      (cases_Bool (there a q))

  counts : (a q : ℕ) → Player m a → q < states → m.moves a q ≡ d a q
  counts a q p l = cond-true _ (d a q) 0 (there_true a q p l)

  digits : (q : ℕ) → Digits (λ a. d a q)
  digits q a = (ok.count a q).1

  vector_box : (q v : ℕ) → q < states → Vector m q v → Box (λ a. d a q) 0 players v
  vector_box q v l h = players_box m (λ a. d a q) v h.rest (λ b p. plays_digit (d b q) (move_of b v) (subst (λ x. (1 ≤ move_of b v) × (move_of b v ≤ x)) (counts b q p l) (h.each b p)))

  box_vector : (q v : ℕ) → q < states → Box (λ a. d a q) 0 players v → Vector m q v
  box_vector q v l h = record {
    each = λ b p. subst (λ x. (1 ≤ move_of b v) × (move_of b v ≤ x)) (sym (counts b q p l)) (digit_plays (d b q) (move_of b v) (ok.count b q).0 (box_players m (λ a. d a q) v h b p));
    rest = box_below (λ a. d a q) 0 players v h;
  }

  less : (a q : ℕ) → m.moves a q ≤ d a q
  less a q = cond_both _ (d a q) 0 (λ x. x ≤ d a q) (λ e. omega arith) (λ e. omega arith)

  nowhere : (q v : ℕ) → ((q < states) × Vector m q v → ⊥) → m.next q v ≡ None
  nowhere q v h = ⊎_elim
      (λ (e : (ltb q states && under players (highest (λ a. d a q) 0 players) v) ≡ true). absurd (let p = and_parts _ _ e in let l = ltb-true q states p.0 in h (l, box_vector q v l (under_box (λ a. d a q) (digits q) 0 players v p.1))))
      (λ (e : (ltb q states && under players (highest (λ a. d a q) 0 players) v) ≡ false). cond-false _ (Some (lead q v)) None e)
      (cases_Bool (ltb q states && under players (highest (λ a. d a q) 0 players) v))

  pub made_limits : Limits (made players states start d labels lead)
  made_limits = record {
    some_player = ok.some_player;
    six = ok.six;
    some_state = ok.some_state;
    many = ok.many;
    started = ok.started;
    a_move = λ a q p l. subst (λ x. (1 ≤ x) × (x ≤ 15)) (sym (counts a q p l)) (ok.count a q);
    no_move = λ a q h. cond-false _ (d a q) 0 (there_false a q h);
    few_vectors = λ q l. omega (arith, ok.few_vectors q, product_mono (λ a. m.moves a q) (λ a. d a q) (λ a. less a q) players);
    sixteen = λ q. cond_both (ltb q states) (labels q) 0 (λ x. x < 2 ^ 16) (λ e. ok.sixteen q) (λ e. omega arith);
    no_label = λ q l. cond_both (ltb q states) (labels q) 0 (λ x. x ≡ 0) (λ e. absurd (omega (arith, ltb-true q states e))) (λ e. refl);
    leads = λ q v l h. (lead q v, cond-true _ (Some (lead q v)) None (and_from _ _ (lt-ltb q states l) (box_under (λ a. d a q) (digits q) 0 players v (vector_box q v l h))), ok.leads q v l);
    nowhere = nowhere;
  }
