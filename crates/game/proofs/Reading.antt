-- The definitions of the search, read in the game's own words.
use Rattle.std.proofs.Common.{◌≡◌, ℕ, ◌<◌, Bool, true, false, cond, ◌&&◌, ◌||◌, List, [], ◌∷◌, Some, None, Option, sym, refl, ap, ◌∙◌, subst, inl, inr, ⊎_elim, arith}
use Rattle.game.specs.Structure.{Structure, Limits, Choice, Reply}
use Rattle.game.specs.Lists.{choices, replies, Elem, Climbs, Ascending}
use Rattle.game.proofs.Division.{divided}
use Rattle.std.specs.List.{list_all, list_any, find}
use Rattle.game.specs.Serving.{within, leads, serves, answers, first_serving, all_answered}
use Rattle.game.specs.Reading.{Leads, EveryReply, SomeReply, Serving, Answering}

-- each element has the answer b, or some element has
abbrev EachIs : (ℕ → Bool) → Bool → List ℕ → Type 0
EachIs f b xs = (x : ℕ) → Elem x xs → f x ≡ b

abbrev SomeIs : (ℕ → Bool) → Bool → List ℕ → Type 0
SomeIs f b xs = (x : ℕ) × Elem x xs × (f x ≡ b)

each_cons : (f : ℕ → Bool) (b : Bool) (y : ℕ) (ys : List ℕ) → f y ≡ b → EachIs f b ys → EachIs f b (y ∷ ys)
each_cons f b y ys e h x (inl i) = ap f i ∙ e
each_cons f b y ys e h x (inr i) = h x i

-- `list_all`
abbrev Every : (ℕ → Bool) → List ℕ → Bool → Type 0
Every f xs true = EachIs f true xs
Every f xs false = SomeIs f false xs

every_reads : (f : ℕ → Bool) (xs : List ℕ) → Every f xs (list_all f xs)
every_reads f [] = λ x e. absurd e
every_reads f (y ∷ ys) = go (f y) refl (list_all f ys) (every_reads f ys)
  where
    go : (b : Bool) → f y ≡ b → (c : Bool) → Every f ys c → Every f (y ∷ ys) (b && c)
    go true e true h = each_cons f true y ys e h
    go true e false h = (h.0, inr h.1, h.2)
    go false e c h = (y, inl refl, e)

-- `list_any`
abbrev Any : (ℕ → Bool) → List ℕ → Bool → Type 0
Any f xs true = SomeIs f true xs
Any f xs false = EachIs f false xs

some_reads : (f : ℕ → Bool) (xs : List ℕ) → Any f xs (list_any f xs)
some_reads f [] = λ x e. absurd e
some_reads f (y ∷ ys) = go (f y) refl (list_any f ys) (some_reads f ys)
  where
    go : (b : Bool) → f y ≡ b → (c : Bool) → Any f ys c → Any f (y ∷ ys) (b || c)
    go true e c h = (y, inl refl, e)
    go false e true h = (h.0, inr h.1, h.2)
    go false e false h = each_cons f false y ys e h

-- `find`
abbrev Found : (ℕ → Bool) → List ℕ → Option ℕ → Type 0
Found f xs None = EachIs f false xs
Found f xs (Some c) = Elem c xs × (f c ≡ true) × ((x : ℕ) → Elem x xs → x < c → f x ≡ false)

climbs_elem : (b x : ℕ) (xs : List ℕ) → Climbs b xs → Elem x xs → b < x
climbs_elem b x [] h e = absurd e
climbs_elem b x (y ∷ ys) h (inl e) = omega arith
climbs_elem b x (y ∷ ys) h (inr e) = omega (arith, climbs_elem y x ys h.1 e)

ascending_tail : (y : ℕ) (ys : List ℕ) → Climbs y ys → Ascending ys
ascending_tail y [] h = tt
ascending_tail y (z ∷ zs) h = h.1

find_reads : (f : ℕ → Bool) (xs : List ℕ) → Ascending xs → Found f xs (find f xs)
find_reads f [] h = λ x e. absurd e
find_reads f (y ∷ ys) h = go (f y) refl (find f ys) (find_reads f ys (ascending_tail y ys h))
  where
    go : (b : Bool) → f y ≡ b → (o : Option ℕ) → Found f ys o → Found f (y ∷ ys) (cond b (Some y) o)
    go true e o k = (inl refl, e, λ x i l. absurd (⊎_elim (λ (z : x ≡ y). omega arith) (λ (z : Elem x ys). omega (arith, climbs_elem y x ys h z)) i))
    go false e None k = each_cons f false y ys e k
    go false e (Some c) k = (inr k.0, k.1, λ x i l. ⊎_elim (λ z. ap f z ∙ e) (λ z. k.2 x z l) i)

module _ (m : Structure) (A q : ℕ) (I : ℕ → Bool) (L : Limits m) (in_m : q < m.states) where
  leads_reads : (c r : ℕ) (b : Bool) → Choice m A q c → Reply m A q r → leads m q I c r ≡ b → Leads m q I c b r
  unfolding leads
  leads_reads c r b h k e =
      let l = (divided m A q L in_m).leads c r h k in
      (l.0, l.1, sym (ap (within I) l.1) ∙ e)

  -- from the list of replies to the replies
  each_reply : (c : ℕ) (b : Bool) → Choice m A q c → EachIs (leads m q I c) b (replies m A q) → EveryReply m A q I b c
  each_reply c b h k r i = leads_reads c r b h i (k r ((divided m A q L in_m).reply_in r i))

  some_reply : (c : ℕ) (b : Bool) → Choice m A q c → SomeIs (leads m q I c) b (replies m A q) → SomeReply m A q I b c
  some_reply c b h k = let i = (divided m A q L in_m).in_reply k.0 k.1 in (k.0, i, leads_reads c k.0 b h i k.2)

  serves_true : (c : ℕ) → Choice m A q c → serves m A q I c ≡ true → EveryReply m A q I true c
  unfolding serves
  serves_true c h e = each_reply c true h (subst (Every (leads m q I c) (replies m A q)) e (every_reads (leads m q I c) (replies m A q)))

  serves_false : (c : ℕ) → Choice m A q c → serves m A q I c ≡ false → SomeReply m A q I false c
  unfolding serves
  serves_false c h e = some_reply c false h (subst (Every (leads m q I c) (replies m A q)) e (every_reads (leads m q I c) (replies m A q)))

  answers_true : (c : ℕ) → Choice m A q c → answers m A q I c ≡ true → SomeReply m A q I true c
  unfolding answers
  answers_true c h e = some_reply c true h (subst (Any (leads m q I c) (replies m A q)) e (some_reads (leads m q I c) (replies m A q)))

  answers_false : (c : ℕ) → Choice m A q c → answers m A q I c ≡ false → EveryReply m A q I false c
  unfolding answers
  answers_false c h e = each_reply c false h (subst (Any (leads m q I c) (replies m A q)) e (some_reads (leads m q I c) (replies m A q)))

  found_serving : (o : Option ℕ) → Found (serves m A q I) (choices m A q) o → Serving m A q I o
  found_serving None h = λ c i. serves_false c i (h c ((divided m A q L in_m).choice_in c i))
  found_serving (Some c) h =
      let i = (divided m A q L in_m).in_choice c h.0 in
      (i, serves_true c i h.1, λ d j l. serves_false d j (h.2 d ((divided m A q L in_m).choice_in d j) l))

  every_answering : (b : Bool) → Every (answers m A q I) (choices m A q) b → Answering m A q I b
  every_answering true h = λ c i. answers_true c i (h c ((divided m A q L in_m).choice_in c i))
  every_answering false h = let i = (divided m A q L in_m).in_choice h.0 h.1 in (h.0, i, answers_false h.0 i h.2)

  -- what the two searches answer
  pub reads_serving : Serving m A q I (first_serving m A q I)
  unfolding first_serving
  reads_serving = found_serving (first_serving m A q I) (find_reads (serves m A q I) (choices m A q) (divided m A q L in_m).choices_ascend)

  pub reads_answering : Answering m A q I (all_answered m A q I)
  unfolding all_answered
  reads_answering = every_answering (all_answered m A q I) (every_reads (answers m A q I) (choices m A q))
