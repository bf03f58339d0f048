-- The rules judged one after another.
use Rattle.std.proofs.Common.{IsErrAnd, slice_index_or, ◌≡◌, ℕ, zero, suc, ◌+◌, ◌<◌, ◌≤◌, true, false, ltb, List, [], ◌∷◌, ◌++◌, length, Some, None, Ok, Err, vec_items, Option, Result, Vec, sym, refl, ap, ◌∙◌, subst, ap₂, ⊎_elim, arith, length-append}
use Rattle.std.proofs.lemmas.Bool.{ltb-true, ltb-false, cases_Bool, cond-true, cond-false, cases_lt}
use Rattle.std.specs.declared.alloc.Global.{Global}
use Rattle.game.specs.Structure.{Structure}
use Rattle.refusal.specs.declared.Refusal.{Refusal}
use Rattle.book.specs.declared.rules.RuleField.{RuleField}
use Rattle.book.specs.Told.{rule_count, rule_told, no_rule, Tells}
use Rattle.atl.specs.declared.Shown.{Shown}
use Rattle.table.specs.declared.types.Table.{Table}
use Rattle.table.specs.Answers.{nothing}
use Rattle.table.specs.Shows.{Shows}
use Rattle.listing.specs.declared.Row.{Row}
use Rattle.listing.specs.Text.{rule_text, game_text, rows_text, listing_text}
use Rattle.listing.proofs.Lines.{rows_push}
use Rattle.report.specs.Judging.{judged_on, at_rule, then_judged, judged, rule_number, judgement}
use Rattle.report.specs.declared.types.Stopped.{Stopped}
use Rattle.report.specs.declared.types.Stopped.TheVariants.{RefusedAt, NoMemory}
use Rattle.report.specs.declared.types.Report.{Report}
use Rattle.report.specs.Printed.{Prints, listing, listed, played}
use Rattle.report.specs.Stopping.{IsNoMemory}
use Rattle.report.specs.Steps.{Led, JudgesRule, RowsSoFar, RowsRight, AllJudged, DeclinesStopped}

-- a rule judged over what the loop began with
pub carried : {G : Type 0} (meaning : G → Structure) (x y : G) (f : RuleField) (n k : ℕ) (t t' : Table) (r s : Result Row Stopped) → x ≡ y → n ≡ k → r ≡ s → JudgesRule (meaning x) f n t t' r → JudgesRule (meaning y) f k t t' s
carried {G = G} meaning x y f n k t t' r s ex en er j =
    subst (λ (z : G). JudgesRule (meaning z) f k t t' s) ex (subst (λ i. JudgesRule (meaning x) f i t t' s) en (subst (λ (z : Result Row Stopped). JudgesRule (meaning x) f n t t' z) er j))

-- want of memory says nothing of the rules
pub no_memory_rule : (m : Structure) (f : RuleField) (n : ℕ) (t t' : Table) (why : Stopped) → IsNoMemory why → JudgesRule m f n t t' (Err why)
no_memory_rule m f n t t' (NoMemory e) i = λ st R height. tt
no_memory_rule m f n t t' (RefusedAt k e) i = absurd i

pub no_memory_all : (m : Structure) (bs : List ℕ) (t : Table) (why : Stopped) → IsNoMemory why → AllJudged m bs t (Err why)
no_memory_all m bs t (NoMemory e) i = tt
no_memory_all m bs t (RefusedAt k e) i = absurd i

-- an error that `?` hands on
pub same_stop : (m : Structure) (bs : List ℕ) (t : Table) (r : Result (Vec Row Global) Stopped) (why : Stopped) → IsErrAnd r (λ e. e ≡ why) → AllJudged m bs t (Err why) → AllJudged m bs t r
same_stop m bs t (Ok rows) why i j = absurd i
same_stop m bs t (Err e) why i j = subst (λ (x : Stopped). AllJudged m bs t (Err x)) (sym i) j

-- The rule of a number, where there is one.
pub told_some : (bs : List ℕ) (k : ℕ) (f : RuleField) → rule_told bs k ≡ Some f → (k < rule_count bs) × (f ≡ rule_number bs k)
told_some bs k f e = ⊎_elim
    (λ (b : ltb k (rule_count bs) ≡ true). let i = sym (cond-true _ (Some (rule_number bs k)) None b) ∙ e in (ltb-true k (rule_count bs) b, same i))
    (λ (b : ltb k (rule_count bs) ≡ false). let i = sym (cond-false _ (Some (rule_number bs k)) None b) ∙ e in absurd (let z : ◌≡◌ {A = ℕ} 0 1 = cc in omega arith))
    (cases_Bool (ltb k (rule_count bs)))
  where
    same : {a b : RuleField} → ◌≡◌ {A = Option RuleField} (Some a) (Some b) → b ≡ a
    same i = cc

pub told_none : (bs : List ℕ) (k : ℕ) → rule_told bs k ≡ None → rule_count bs ≤ k
told_none bs k e = ⊎_elim
    (λ (b : ltb k (rule_count bs) ≡ true). let i = sym (cond-true _ (Some (rule_number bs k)) None b) ∙ e in absurd (let z : ◌≡◌ {A = ℕ} 0 1 = cc in omega arith))
    (λ (b : ltb k (rule_count bs) ≡ false). ltb-false k (rule_count bs) b)
    (cases_Bool (ltb k (rule_count bs)))

-- The rules that an iterator yields, ys so far.
at_end : (ys rest : List RuleField) (f d : RuleField) → slice_index_or (ys ++ f ∷ rest) (length ys) d ≡ f
at_end [] rest f d = refl
at_end (y ∷ ys) rest f d = at_end ys rest f d

module _ (bs : List ℕ) (rs : List RuleField) (tells : Tells bs rs) (ys : List RuleField) (n : ℕ) (many : length ys ≡ n) where
  pub told_next : (f : RuleField) (rest : List RuleField) → ys ++ f ∷ rest ≡ rs → rule_told bs n ≡ Some f
  told_next f rest e =
      let long : length ys + suc (length rest) ≡ length rs = sym (length-append ys (f ∷ rest)) ∙ ap length e in
      tells.each n (omega (arith, long, many))
      ∙ ap Some (ap₂ (λ (l : List RuleField) k. slice_index_or l k no_rule) (sym e) (sym many) ∙ at_end ys rest f no_rule)

  pub told_all : (rest : List RuleField) → ys ++ rest ≡ rs → rest ≡ [] → rule_count bs ≤ n
  told_all rest e none =
      let long : length ys + length rest ≡ length rs = sym (length-append ys rest) ∙ ap length e in
      let z : length rest ≡ 0 = ap length none in
      omega (arith, tells.many, long, many, z)

-- what was refused stays so
pub judged_stays : (m : Structure) (rule : ℕ → RuleField) (k j : ℕ) (p : ℕ × Refusal) → k ≤ j → judged m rule k ≡ Err p → judged m rule j ≡ Err p
judged_stays m rule k zero p l e = let z : k ≡ 0 = omega arith in subst (λ i. judged m rule i ≡ Err p) z e
judged_stays m rule k (suc j) p l e = ⊎_elim
    (λ (b : j < k). let z : k ≡ suc j = omega arith in subst (λ i. judged m rule i ≡ Err p) z e)
    (λ (b : k ≤ j). ap (then_judged m j (rule j)) (judged_stays m rule k j p b e))
    (cases_lt j k)

pub led_nothing : (m : Structure) → Led m nothing
led_nothing m = record { calls = []; answered = tt; is = refl; all_settled = λ n l. absurd (omega arith) }

module _ (m : Structure) (bs : List ℕ) where
  pub so_far_none : (t : Table) (rows : List Row) (n : ℕ) → Shows m nothing t → rows ≡ [] → n ≡ 0 → RowsSoFar m bs rows n t
  so_far_none t rows n s e z = subst (λ k. RowsSoFar m bs rows k t) (sym z) (subst (λ (l : List Row). RowsSoFar m bs l 0 t) (sym e) (record {
    within = omega arith;
    stands = nothing;
    judged_is = refl;
    height = refl;
    reached = record { led = led_nothing m; shows = s };
    many = refl;
    text = refl;
  }))

  module _ (t t' : Table) (rows : List Row) (n : ℕ) (so_far : RowsSoFar m bs rows n t) (f : RuleField) (told : rule_told bs n ≡ Some f) where
    next : judged m (rule_number bs) (suc n) ≡ at_rule n (judged_on m f so_far.stands)
    next = ap (then_judged m n (rule_number bs n)) so_far.judged_is ∙ ap (λ (x : RuleField). at_rule n (judged_on m x so_far.stands)) (sym (told_some bs n f told).1)

    pub so_far_stopped : (why : Stopped) → JudgesRule m f n t t' (Err why) → AllJudged m bs t' (Err why)
    so_far_stopped (NoMemory e) j = tt
    so_far_stopped (RefusedAt k e) j =
        let w = j so_far.stands so_far.reached so_far.height in
        judged_stays m (rule_number bs) (suc n) (rule_count bs) (n, e) (omega (arith, (told_some bs n f told).0)) (next ∙ ap (at_rule n) w.1)
        ∙ ap (λ (i : ℕ). Err (i, e)) (sym so_far.height ∙ sym w.0)

    pub so_far_more : (row : Row) (rows' : List Row) (n' : ℕ) → JudgesRule m f n t t' (Ok row) → rows' ≡ rows ++ row ∷ [] → n' ≡ n + 1 → RowsSoFar m bs rows' n' t'
    so_far_more row rows' n' j er en =
        let w = j so_far.stands so_far.reached so_far.height in
        let st = so_far.stands in
        let up : length st ≡ 0 + length rows = omega (arith, so_far.height, so_far.many) in
        let is : suc n ≡ n' = omega arith in
        record {
          within = omega (arith, (told_some bs n f told).0);
          stands = w.0 ∷ st;
          judged_is = subst (λ k. judged m (rule_number bs) k ≡ Ok (w.0 ∷ st)) is (next ∙ ap (at_rule n) w.1);
          height = omega (arith, so_far.height);
          reached = w.2;
          many = ap length er ∙ length-append rows (row ∷ []) ∙ omega (arith, so_far.many);
          text = ap (rows_text 0) er ∙ rows_push 0 (length st) rows row up ∙ ap₂ (λ (u v : List ℕ). u ++ v) so_far.text (ap₂ (λ (k : ℕ) (l : List Shown). rule_text (length st) k l) w.3.rounds w.3.marks);
        }

  pub so_far_all : (t : Table) (rows : List Row) (n : ℕ) → RowsSoFar m bs rows n t → rule_count bs ≤ n → RowsRight m bs t rows
  so_far_all t rows n so_far e =
      let z : n ≡ rule_count bs = omega (arith, so_far.within, e) in
      record { stands = so_far.stands; judged_is = subst (λ k. judged m (rule_number bs) k ≡ Ok so_far.stands) z so_far.judged_is; reached = so_far.reached; text = so_far.text }

  pub so_far_small : (t : Table) (rows : List Row) (n : ℕ) → RowsSoFar m bs rows n t → n < 256
  so_far_small t rows n so_far = omega (arith, so_far.height, so_far.reached.shows.most)

-- The rows of all rules, as they are printed.
game_same : (a b c x y z : ℕ) → a ≡ x → b ≡ y → c ≡ z → game_text a b c ≡ game_text x y z
game_same a b c x y z e f g = ap (λ i. game_text i b c) e ∙ ap (λ i. game_text x i c) f ∙ ap (λ i. game_text x y i) g

pub prints_rows : {G : Type 0} (meaning : G → Structure) (x y : G) (bs : List ℕ) (t : Table) (rows : Vec Row Global) (shown : List Row) (text : List ℕ) (players states start : ℕ)
    → x ≡ y → AllJudged (meaning x) bs t (Ok rows) → shown ≡ vec_items rows → text ≡ listing_text players states start shown
    → players ≡ (meaning y).players → states ≡ (meaning y).states → start ≡ (meaning y).start
    → listing text ≡ listed (meaning y) (judgement (meaning y) bs)
prints_rows {G = G} meaning x y bs t rows shown text players states start e a r w p n s =
    let d = subst (λ (z : G). AllJudged (meaning z) bs t (Ok rows)) e a in
    ap listing (w ∙ ap₂ (λ (u v : List ℕ). u ++ v) (game_same players states start (meaning y).players (meaning y).states (meaning y).start p n s) (ap (rows_text 0) r ∙ d.text)) ∙ ap (listed (meaning y)) (sym d.judged_is)

-- What is printed where judging stopped.
module _ (m : Structure) (bs : List ℕ) (t : Table) where
  pub stopped_lists : (why : Stopped) → AllJudged m bs t (Err why) → (report : Report) → DeclinesStopped why report → Prints (listed m (judgement m bs)) report
  stopped_lists (RefusedAt n e) j report d = d ∙ ap (listed m) (sym j)
  stopped_lists (NoMemory e) j report d = absurd d

  pub stopped_plays : (rule : ℕ) (why : Stopped) → AllJudged m bs t (Err why) → (report : Report) → DeclinesStopped why report → Prints (played m rule (judgement m bs)) report
  stopped_plays rule (RefusedAt n e) j report d = d ∙ ap (played m rule) (sym j)
  stopped_plays rule (NoMemory e) j report d = absurd d
