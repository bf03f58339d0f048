-- What stands after a history is what some table can show: its rules are in order.
use Rattle.std.proofs.Common.{◌≡◌, ℕ, ◌<◌, ◌≤◌, Bool, true, false, cond, List, [], ◌∷◌, map, length, set, replicate, Some, None, Ok, Err, Option, Result, sym, refl, ap, ◌∙◌, subst, inl, inr, ⊎_elim, arith, length-set, get_or-set_same}
use lib.ListN.{length-replicate}
use Rattle.std.specs.List.{range_with_len}
use Rattle.std.proofs.lemmas.List.FromFn.{length-map-range_with_len, get_or-map-range_with_len}
use Rattle.std.proofs.lemmas.Bool.{cases_lt}
use Rattle.game.specs.Structure.{Structure, Limits}
use Rattle.refusal.specs.declared.Refusal.{Refusal}
use Rattle.refusal.specs.declared.Refusal.TheVariants.{Full, NoGroup, NoPart, PartUnsettled, AlreadySettled}
use Rattle.atl.specs.declared.Kind.{Kind}
use Rattle.atl.specs.declared.Mark.TheVariants.{Open}
use Rattle.atl.specs.Kinds.{kind_of}
use Rattle.atl.specs.Rounds.{settles}
use Rattle.table.specs.declared.types.Rule.{Rule}
use Rattle.table.specs.Parts.{waits, bad_group, bad_part}
use Rattle.table.specs.Standing.{Standing, Stack, found, marks_of, settled_of, mark_of, yes_states, settled, one_more, advanced}
use Rattle.table.specs.Answers.{below, taken_as, taken, number_if, fresh, pushed_if, write_after, erase_after, round_of, round_answer, advanced_if, round_after, erase_answer}
use Rattle.table.specs.Shows.{blank, rule_at, condition_of, Right, Orderly, AllRight}
use Rattle.table.proofs.Taking.{taken_tells, past, err_ok}
use Rattle.table.proofs.Stacks.{length_advanced}
use Rattle.table.proofs.Advancing.{untouched, advance}
use Rattle.calls.specs.declared.types.Call.{Call}
use Rattle.calls.specs.declared.types.Call.TheVariants.{Write, Round, Erase, Ask, Tell, Play, Copy}
use Rattle.calls.specs.declared.types.Answer.{Answer}
use Rattle.calls.specs.declared.types.Answer.TheVariants.{Number, Marked}
use Rattle.calls.specs.Histories.{given, answer, put, after, History, stack, Answered}
use Rattle.board.proofs.Knowing.{here}

-- Each call leaves what the board says.
abbrev pub next : Structure → Call → Stack → Stack
next m (Write kind A r s) st = write_after m kind A r s st
next m (Round n) st = round_after m n st
next m Erase st = erase_after st
next m (Ask n q) st = st
next m (Tell n) st = st
next m (Play n q) st = st
next m (Copy n place) st = st

taken_kind : (players height : ℕ) (o : Option Kind) (A r s : ℕ) (f : Kind) → taken_as players height o A r s ≡ Ok f → o ≡ Some f
taken_kind players height None A r s f e = err_ok e
taken_kind players height (Some g) A r s f e = let i = (past (bad_part (below height) g r s) NoPart (Ok g) f (past (bad_group players g A) NoGroup _ f e).1).1 in cc

pub kind_taken : (players height kind A r s : ℕ) (f : Kind) → taken players height kind A r s ≡ Ok f → kind_of kind ≡ Some f
kind_taken players height kind A r s f e = taken_kind players height (kind_of kind) A r s f (past _ Full _ f e).1

either_same : (b : Bool) (st : Stack) → cond b st st ≡ st
either_same true st = refl
either_same false st = refl

module _ (m : Structure) (st : Stack) (size : ℕ) where
  write_next : (kind A r s : ℕ) (x : Result Kind Refusal) → taken m.players (length st) kind A r s ≡ x → after (Write kind A r s) (given Number (number_if (length st) x)) st ≡ pushed_if x A r s st
  write_next kind A r s (Ok f) e = ap (λ (o : Option Kind). put o A r s st) (kind_taken m.players (length st) kind A r s f e)
  write_next kind A r s (Err x) e = refl

  round_next : (n : ℕ) (x : Result ℕ Refusal) → after (Round n) (given Marked x) st ≡ advanced_if m x n st
  round_next n (Ok c) = refl
  round_next n (Err e) = refl

  erase_next : (low : Stack) → after Erase (given Number (erase_answer low)) low ≡ erase_after low
  erase_next [] = refl
  erase_next (x ∷ low) = refl

  pub after_next : (c : Call) → after c (answer m st size c) st ≡ next m c st
  after_next (Write kind A r s) = write_next kind A r s _ refl
  after_next (Round n) = round_next n _
  after_next Erase = erase_next st
  after_next (Ask n q) = either_same _ st
  after_next (Tell n) = either_same _ st
  after_next (Play n q) = either_same _ st
  after_next (Copy n place) = either_same _ st

pub record Possible (m : Structure) (st : Stack) : Type 0 where
  pub rules : List Rule
  pub long : length rules ≡ 32
  pub most : length st ≤ 32
  pub right : AllRight m rules st

pub possible_nothing : (m : Structure) → Possible m []
possible_nothing m = record { rules = replicate 32 blank; long = length-replicate 32 blank; most = omega arith; right = tt }

-- what a table holds of the rule x
ideal : (m : Structure) → Limits m → (low : Stack) (x : Standing) (wide : ℕ) → wide ≡ 256 → (y : Rule) × Right m low x y
ideal m L low x wide e = (
  record { kind = x.kind; group = x.group; r = x.r; s = x.s; marks = map (mark_of m x (yes_states m low)) (range_with_len 0 wide); condition = condition_of x.rounds (settled_of m x (yes_states m low)) },
  record {
    kind = refl;
    group = refl;
    r = refl;
    s = refl;
    condition = refl;
    long = length-map-range_with_len (mark_of m x (yes_states m low)) 0 wide ∙ e;
    marks = λ q l. get_or-map-range_with_len (mark_of m x (yes_states m low)) 0 wide q q Open (omega (arith, L.many)) (omega arith);
  },
)

same_rule : (rules : List Rule) (n : ℕ) (y : Rule) → n < length rules → rule_at (set rules n y) n ≡ y
same_rule rules n y l = rw get_or-set_same

-- a round that is accepted
record Due (m : Structure) (x : Standing) (low : Stack) : Type 0 where
  ready : waits (settled m low) x.kind x.r x.s ≡ false
  unsettled : settled_of m x (yes_states m low) ≡ false

due : (m : Structure) (x : Standing) (low : Stack) (c : ℕ) → round_of m (Some (x, low)) ≡ Ok c → Due m x low
due m x low c e =
    let p = past (waits (settled m low) x.kind x.r x.s) PartUnsettled _ c e in
    record { ready = p.0; unsettled = (past (settled_of m x (yes_states m low)) AlreadySettled _ c p.1).0 }

orderly_next : (m : Structure) (low : Stack) (x : Standing) → Orderly m low x → Due m x low → Orderly m low (one_more x)
orderly_next m low x o d = record {
  part_r = o.part_r;
  part_s = o.part_s;
  ready = inr d.ready;
  going = λ j l. ⊎_elim
      (λ (b : j < x.rounds). o.going j b)
      (λ (b : x.rounds ≤ j). let e : x.rounds ≡ j = omega arith in subst (λ i. settles m.states x.kind (marks_of m x (yes_states m low)) i ≡ false) e d.unsettled)
      (cases_lt j x.rounds);
}

module _ (m : Structure) (L : Limits m) where
  pushed_possible : (st : Stack) → Possible m st → (kind A r s : ℕ) (x : Result Kind Refusal) → taken m.players (length st) kind A r s ≡ x → Possible m (pushed_if x A r s st)
  pushed_possible st p kind A r s (Err e) h = p
  pushed_possible st p kind A r s (Ok f) h =
      let d = taken_tells m.players (length st) kind A r s f h in
      let y = ideal m L st (fresh f A r s) 256 refl in
      let room : length st < 32 = omega (arith, d.room, p.most) in
      record {
        rules = set p.rules (length st) y.0;
        long = rw length-set p.long;
        most = omega arith;
        right = (
          record { part_r = d.part_r; part_s = d.part_s; ready = inl refl; going = λ j b. absurd (omega arith) },
          subst (Right m st (fresh f A r s)) (sym (same_rule p.rules (length st) y.0 (omega (arith, p.long)))) y.1,
          untouched m p.rules (length st) y.0 st (omega arith) p.right,
        );
      }

  popped_possible : (st : Stack) → Possible m st → Possible m (erase_after st)
  popped_possible [] p = p
  popped_possible (x ∷ low) p = record { rules = p.rules; long = p.long; most = omega (arith, p.most); right = p.right.2 }

  advanced_possible : (st : Stack) → Possible m st → (n c : ℕ) (o : Option (Standing × Stack)) → found st n ≡ o → round_of m o ≡ Ok c → Possible m (advanced n st)
  advanced_possible st p n c None i e = err_ok e
  advanced_possible st p n c (Some (x, low)) i e =
      let d = due m x low c e in
      let b = here m L p.rules st p.right n x low i in
      let y = ideal m L low (one_more x) 256 refl in
      record {
        rules = set p.rules n y.0;
        long = rw length-set p.long;
        most = omega (arith, length_advanced n st, p.most);
        right = advance m p.rules n y.0 (omega (arith, p.long, p.most, b.up)) st p.right (b.settled_is ∙ d.unsettled)
            (λ z s j. subst (λ (w : Standing × Stack). Orderly m w.1 (one_more w.0) × Right m w.1 (one_more w.0) y.0) (some_some (sym i ∙ j)) (orderly_next m low x b.orderly d, y.1));
      }
    where
      some_some : {a b : Standing × Stack} → ◌≡◌ {A = Option (Standing × Stack)} (Some a) (Some b) → a ≡ b
      some_some h = cc

  rounded_possible : (st : Stack) → Possible m st → (n : ℕ) (x : Result ℕ Refusal) → round_answer m n st ≡ x → Possible m (advanced_if m x n st)
  rounded_possible st p n (Ok c) e = advanced_possible st p n c (found st n) refl e
  rounded_possible st p n (Err x) e = p

  next_possible : (st : Stack) → Possible m st → (c : Call) → Possible m (next m c st)
  next_possible st p (Write kind A r s) = pushed_possible st p kind A r s _ refl
  next_possible st p (Round n) = rounded_possible st p n _ refl
  next_possible st p Erase = popped_possible st p
  next_possible st p (Ask n q) = p
  next_possible st p (Tell n) = p
  next_possible st p (Play n q) = p
  next_possible st p (Copy n place) = p

  pub possible : (h : History) → Answered m h → Possible m (stack h)
  possible [] a = possible_nothing m
  possible (e ∷ h) a = subst (Possible m) (sym (ap (λ (b : Answer). after e.call b (stack h)) a.0 ∙ after_next m (stack h) e.size e.call)) (next_possible (stack h) (possible h a.1) e.call)
