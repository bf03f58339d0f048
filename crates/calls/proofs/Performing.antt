-- One call after another.
use Rattle.std.proofs.Common.{MatchResult, IsOkAnd, ◌≡◌, ℕ, ◌+◌, ◌<◌, ◌≤◌, Bool, List, [], ◌∷◌, ◌++◌, length, get_or, take, Ok, Err, Result, sym, refl, ap, ◌∙◌, subst, ap₂, arith}
use Rattle.std.proofs.lemmas.List.{take_all, take_more}
use Rattle.game.specs.Structure.{Structure, Limits}
use Rattle.refusal.specs.declared.Refusal.{Refusal}
use Rattle.atl.specs.declared.Shown.{Shown}
use Rattle.table.specs.declared.types.Table.{Table}
use Rattle.table.specs.Standing.{Stack}
use Rattle.table.specs.Answers.{write_answer, write_after, erase_answer, erase_after, round_answer, round_after, ask_answer, tell_answer, play_answer, copy_answer}
use Rattle.table.specs.Shows.{Shows, Does, Answers}
use Rattle.table.specs.Books.{Buffered, KeptIfRefused}
use Rattle.calls.specs.declared.types.Call.{Call}
use Rattle.calls.specs.declared.types.Call.TheVariants.{Write, Round, Erase, Ask, Tell, Play, Copy}
use Rattle.calls.specs.declared.types.Answer.{Answer}
use Rattle.calls.specs.declared.types.Answer.TheVariants.{Refused, Number, Marked, Says, Choice, Copied}
use Rattle.calls.specs.Histories.{given, answered, told, answer, left_in, after, History, stack, Answered, then, history, answers, left_after}
use Rattle.calls.specs.Law.{Law}
use Rattle.calls.specs.Performing.{DoesCall, Performs}
use Rattle.calls.proofs.Possible.{next, after_next}
use Rattle.calls.proofs.Lawful.{law}

-- what a method gives becomes the answer by f
abbrev Becomes : {A : Type 0} → (A → Answer) → Result A Refusal → Result Answer Refusal → Type 0
Becomes f x r = MatchResult x (λ v. IsOkAnd r (λ a. a ≡ f v)) (λ e. r ≡ Err e)

given_by : {A : Type 0} (f : A → Answer) (r : Result Answer Refusal) (x : Result A Refusal) → Becomes f x r → answered r ≡ given f x
given_by f (Ok a) (Ok v) h = h
given_by f (Err e) (Ok v) h = absurd h
given_by f r (Err e) h = ap answered h

-- An answer that is no refusal.
abbrev Gives : {A : Type 0} → (A → Answer) → Type 0
Gives {A = A} f = (v : A) (e : Refusal) → f v ≡ Refused e → ⊥

refused_by : {A : Type 0} (f : A → Answer) → Gives f → (x : Result A Refusal) (e : Refusal) → given f x ≡ Refused e → x ≡ Err e
refused_by f n (Ok v) e i = absurd (n v e i)
refused_by f n (Err x) e i = let z : x ≡ e = cc in ap Err z

-- a call that a method of the board does
module _ (m : Structure) (t t' : Table) (b b' : List ℕ) (a : Answer) where
  by_method : {A : Type 0} (f : A → Answer) → Gives f → (ans : Stack → Result A Refusal) (aft : Stack → Stack) (x : Result A Refusal) → Does m ans aft t t' x → a ≡ given f x
      → (c : Call) → ((st : Stack) → given f (ans st) ≡ answer m st (length b) c) → ((st : Stack) → next m c st ≡ aft st)
      → ((st : Stack) → Shows m st t → b' ≡ left_in m st c b) → ((e : Refusal) → x ≡ Err e → b' ≡ b)
      → DoesCall m c t t' b b' a
  by_method f g ans aft x d e c is goes buffer kept = record {
    answers = answers_so;
    shows = λ st s. subst (λ (z : Stack). Shows m z t') (sym (ap (λ (y : Answer). after c y st) (answers_so st s) ∙ after_next m st (length b) c ∙ goes st)) (d.shows st s);
    buffer = buffer;
    refused = λ r i. let k = refused_by f g x r (sym e ∙ i) in (d.refused r k, kept r k);
  }
    where
      answers_so : (st : Stack) → Shows m st t → a ≡ answer m st (length b) c
      answers_so st s = e ∙ ap (given f) (d.answers st s) ∙ is st

-- a call that changes nothing
unchanging : {A : Type 0} (m : Structure) (ans : Stack → Result A Refusal) (t : Table) (x : Result A Refusal) → Answers m ans t x → Does m ans (λ st. st) t t x
unchanging m ans t x h = record { answers = h; shows = λ st s. s; refused = λ e i. refl }

gives_number : Gives Number
gives_number v e i = let z : ◌≡◌ {A = ℕ} 0 1 = cc in omega arith

gives_marked : Gives Marked
gives_marked v e i = let z : ◌≡◌ {A = ℕ} 0 1 = cc in omega arith

gives_says : Gives Says
gives_says v e i = let z : ◌≡◌ {A = ℕ} 0 1 = cc in omega arith

gives_told : Gives told
gives_told v e i = let z : ◌≡◌ {A = ℕ} 0 1 = cc in omega arith

gives_choice : Gives Choice
gives_choice v e i = let z : ◌≡◌ {A = ℕ} 0 1 = cc in omega arith

gives_copied : Gives Copied
gives_copied v e i = let z : ◌≡◌ {A = ℕ} 0 1 = cc in omega arith

kept_by : {A : Type 0} (x : Result A Refusal) (e : Refusal) (b b' : List ℕ) → KeptIfRefused x b b' → x ≡ Err e → b' ≡ b
kept_by x e b b' k i = subst (λ (y : Result _ Refusal). KeptIfRefused y b b') i k

module _ (m : Structure) (t t' : Table) (b : List ℕ) (g : Result Answer Refusal) (c : Call) where
  pub writes : (kind A r s : ℕ) → c ≡ Write kind A r s → (x : Result ℕ Refusal) → Does m (write_answer m kind A r s) (write_after m kind A r s) t t' x → Becomes Number x g → DoesCall m c t t' b b (answered g)
  writes kind A r s i x d e = subst (λ (y : Call). DoesCall m y t t' b b (answered g)) (sym i) (by_method m t t' b b (answered g) Number gives_number _ _ x d (given_by Number g x e) (Write kind A r s) (λ st. refl) (λ st. refl) (λ st s. refl) (λ r j. refl))

  pub erases : c ≡ Erase → (x : Result ℕ Refusal) → Does m erase_answer erase_after t t' x → Becomes Number x g → DoesCall m c t t' b b (answered g)
  erases i x d e = subst (λ (y : Call). DoesCall m y t t' b b (answered g)) (sym i) (by_method m t t' b b (answered g) Number gives_number _ _ x d (given_by Number g x e) Erase (λ st. refl) (λ st. refl) (λ st s. refl) (λ r j. refl))

  pub rounds : (n : ℕ) → c ≡ Round n → (x : Result ℕ Refusal) → Does m (round_answer m n) (round_after m n) t t' x → Becomes Marked x g → DoesCall m c t t' b b (answered g)
  rounds n i x d e = subst (λ (y : Call). DoesCall m y t t' b b (answered g)) (sym i) (by_method m t t' b b (answered g) Marked gives_marked _ _ x d (given_by Marked g x e) (Round n) (λ st. refl) (λ st. refl) (λ st s. refl) (λ r j. refl))

module _ (m : Structure) (t : Table) (b : List ℕ) (g : Result Answer Refusal) (c : Call) where
  pub asks : (n q : ℕ) → c ≡ Ask n q → (x : Result Shown Refusal) → Answers m (ask_answer m n q) t x → Becomes Says x g → DoesCall m c t t b b (answered g)
  asks n q i x d e = subst (λ (y : Call). DoesCall m y t t b b (answered g)) (sym i) (by_method m t t b b (answered g) Says gives_says _ _ x (unchanging m (ask_answer m n q) t x d) (given_by Says g x e) (Ask n q) (λ st. refl) (λ st. refl) (λ st s. refl) (λ r j. refl))

  pub tells : (n : ℕ) → c ≡ Tell n → (x : Result (ℕ × Bool) Refusal) → Answers m (tell_answer m n) t x → Becomes told x g → DoesCall m c t t b b (answered g)
  tells n i x d e = subst (λ (y : Call). DoesCall m y t t b b (answered g)) (sym i) (by_method m t t b b (answered g) told gives_told _ _ x (unchanging m (tell_answer m n) t x d) (given_by told g x e) (Tell n) (λ st. refl) (λ st. refl) (λ st s. refl) (λ r j. refl))

  pub plays : (n q : ℕ) → c ≡ Play n q → (x : Result ℕ Refusal) → Answers m (play_answer m n q) t x → Becomes Choice x g → DoesCall m c t t b b (answered g)
  plays n q i x d e = subst (λ (y : Call). DoesCall m y t t b b (answered g)) (sym i) (by_method m t t b b (answered g) Choice gives_choice _ _ x (unchanging m (play_answer m n q) t x d) (given_by Choice g x e) (Play n q) (λ st. refl) (λ st. refl) (λ st s. refl) (λ r j. refl))

  pub copies : (n place : ℕ) → c ≡ Copy n place → (b' : List ℕ) (x : Result ℕ Refusal) → Answers m (copy_answer m n place (length b)) t x → Buffered m t n place b b' → KeptIfRefused x b b' → Becomes Copied x g → DoesCall m c t t b b' (answered g)
  copies n place i b' x d w k e = subst (λ (y : Call). DoesCall m y t t b b' (answered g)) (sym i) (by_method m t t b b' (answered g) Copied gives_copied _ _ x (unchanging m (copy_answer m n place (length b)) t x d) (given_by Copied g x e) (Copy n place) (λ st. refl) (λ st. refl) w (λ r j. kept_by x r b b' k j))

-- One call more at the end of a list.
module _ (m : Structure) (size : ℕ) (c : Call) where
  history_more : (h : History) (xs : List Call) → history m h size (xs ++ c ∷ []) ≡ then m (history m h size xs) size c
  history_more h [] = refl
  history_more h (x ∷ xs) = history_more (then m h size x) xs

  answers_more : (h : History) (xs : List Call) → answers m h size (xs ++ c ∷ []) ≡ answers m h size xs ++ answer m (stack (history m h size xs)) size c ∷ []
  answers_more h [] = refl
  answers_more h (x ∷ xs) = ap (λ (l : List Answer). answer m (stack h) size x ∷ l) (answers_more (then m h size x) xs)

  left_more : (h : History) (xs : List Call) (b : List ℕ) → left_after m h size (xs ++ c ∷ []) b ≡ left_in m (stack (history m h size xs)) c (left_after m h size xs b)
  left_more h [] b = refl
  left_more h (x ∷ xs) b = left_more (then m h size x) xs (left_in m (stack h) x b)

pub answered_all : (m : Structure) (size : ℕ) (h : History) (xs : List Call) → Answered m h → Answered m (history m h size xs)
answered_all m size h [] a = a
answered_all m size h (x ∷ xs) a = answered_all m size (then m h size x) xs (refl, a)

module _ (m : Structure) (L : Limits m) where
  law_on : (h : History) → Answered m h → (b : List ℕ) (calls : List Call) (k : ℕ) → Law m (history m h (length b) (take k calls))
  law_on h a b calls k = law m L (history m h (length b) (take k calls)) (answered_all m (length b) h (take k calls) a)

  pub performs_none : (t : Table) (b : List ℕ) (all : List Answer) → all ≡ [] → Performs m [] t t b b all
  performs_none t b all e h a s = record { answers = e; shows = s; buffer = refl; answered = a; law = law_on h a b [] }

  performs_push : (xs : List Call) (c : Call) (t₀ t t' : Table) (b₀ b b' : List ℕ) (all : List Answer) (x : Answer)
      → Performs m xs t₀ t b₀ b all → DoesCall m c t t' b b' x → length b ≡ length b₀ → Performs m (xs ++ c ∷ []) t₀ t' b₀ b' (all ++ x ∷ [])
  performs_push xs c t₀ t t' b₀ b b' all x p d len h a s =
      let so_far = p h a s in
      let H : History = history m h (length b₀) xs in
      let is : x ≡ answer m (stack H) (length b₀) c = d.answers (stack H) so_far.shows ∙ ap (λ (n : ℕ). answer m (stack H) n c) len in
      record {
        answers = ap₂ (λ (l : List Answer) (y : Answer). l ++ y ∷ []) so_far.answers is ∙ sym (answers_more m (length b₀) c h xs);
        shows = subst (λ (g : History). Shows m (stack g) t') (sym (history_more m (length b₀) c h xs)) (subst (λ (y : Answer). Shows m (after c y (stack H)) t') is (d.shows (stack H) so_far.shows));
        buffer = d.buffer (stack H) so_far.shows ∙ ap (left_in m (stack H) c) so_far.buffer ∙ sym (left_more m (length b₀) c h xs b₀);
        answered = answered_all m (length b₀) h (xs ++ c ∷ []) a;
        law = law_on h a b₀ (xs ++ c ∷ []);
      }

  pub performs_more : (calls : List Call) (i : ℕ) (first : Call) (t₀ t t' : Table) (b₀ b b' : List ℕ) (all all' : List Answer) (x : Answer)
      → i < length calls → Performs m (take i calls) t₀ t b₀ b all → DoesCall m (get_or calls i first) t t' b b' x → length b ≡ length b₀ → all' ≡ all ++ x ∷ []
      → Performs m (take (i + 1) calls) t₀ t' b₀ b' all'
  performs_more calls i first t₀ t t' b₀ b b' all all' x l p d len e =
      subst (λ (xs : List Call). Performs m xs t₀ t' b₀ b' all') (sym (take_more calls i first l))
      (subst (λ (g : List Answer). Performs m (take i calls ++ get_or calls i first ∷ []) t₀ t' b₀ b' g) (sym e) (performs_push (take i calls) (get_or calls i first) t₀ t t' b₀ b b' all x p d len))

pub performs_all : (m : Structure) (calls : List Call) (i : ℕ) (t₀ t : Table) (b₀ b : List ℕ) (all : List Answer) → length calls ≤ i → Performs m (take i calls) t₀ t b₀ b all → Performs m calls t₀ t b₀ b all
performs_all m calls i t₀ t b₀ b all l p = subst (λ (xs : List Call). Performs m xs t₀ t b₀ b all) (take_all i calls l) p
