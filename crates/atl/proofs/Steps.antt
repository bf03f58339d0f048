-- What the power of a group says of one step.
use Rattle.std.proofs.Common.{◌≡◌, ℕ, ◌<◌, Bool, true, false, is_some, Some, None, Option, sym, refl, ap, ◌∙◌, subst, ⊎_elim}
use Rattle.std.proofs.lemmas.Bool.{both_ways, cases_order}
use Rattle.game.specs.Structure.{Structure, Limits, Choice}
use Rattle.game.specs.Serving.{first_serving, all_answered}
use Rattle.game.specs.Reading.{EveryReply, SomeReply, Serving, Answering}
use Rattle.game.proofs.Division.{divided}
use Rattle.game.proofs.Reading.{reads_serving, reads_answering}
use Rattle.atl.specs.declared.Modality.{Modality}
use Rattle.atl.specs.declared.Modality.TheVariants.{Can, Despite}
use Rattle.atl.specs.Rounds.{Power, holds}
use Rattle.atl.specs.Strategy.{Step}

-- a power that looks at the first n states alone
abbrev pub Local : ℕ → Power → Type 0
Local n hold = (q : ℕ) → q < n → (X Y : ℕ → Bool) → ((t : ℕ) → t < n → X t ≡ Y t) → hold q X ≡ hold q Y

-- and has all for every state, nothing for none
abbrev pub Fair : ℕ → Power → Type 0
Fair n hold = (q : ℕ) → q < n → (b : Bool) → hold q (λ t. b) ≡ b

-- the group has a choice all of whose replies lead where I is a
abbrev pub GroupBrings : Structure → (A q : ℕ) → (ℕ → Bool) → Bool → Type 0
GroupBrings m A q I a = (c : ℕ) × Choice m A q c × EveryReply m A q I a c

-- the others have a reply to each choice that leads where I is a
abbrev pub OthersBring : Structure → (A q : ℕ) → (ℕ → Bool) → Bool → Type 0
OthersBring m A q I a = (c : ℕ) → Choice m A q c → SomeReply m A q I a c

-- who brings about the answer a of a power
abbrev pub Brought : Structure → Modality → (A q : ℕ) → (ℕ → Bool) → Bool → Type 0
Brought m Can A q I true = GroupBrings m A q I true
Brought m Can A q I false = OthersBring m A q I false
Brought m Despite A q I true = OthersBring m A q I true
Brought m Despite A q I false = GroupBrings m A q I false

module _ (m : Structure) (L : Limits m) (A q : ℕ) (in_m : q < m.states) where
  pub brought : (w : Modality) (I : ℕ → Bool) → Brought m w A q I (holds m w A q I)
  brought Can I = go (first_serving m A q I) (reads_serving m A q I L in_m)
    where
      go : (o : Option ℕ) → Serving m A q I o → Brought m Can A q I (is_some o)
      go None h = h
      go (Some c) h = (c, h.0, h.1)
  brought Despite I = go (all_answered m A q I) (reads_answering m A q I L in_m)
    where
      go : (b : Bool) → Answering m A q I b → Brought m Despite A q I b
      go true h = h
      go false h = h

  -- a step of a choice stays among the states
  pub stays : (c t : ℕ) → Choice m A q c → Step m A q c t → t < m.states
  stays c t h s =
      let l = (divided m A q L in_m).leads c s.0 h s.1 in
      let e : l.0 ≡ t = cc (l.1, s.2) in
      subst (λ n. n < m.states) e l.2

  -- where every reply leads, each step goes
  pub step_into : (I : ℕ → Bool) (a : Bool) (c t : ℕ) → EveryReply m A q I a c → Step m A q c t → I t ≡ a
  step_into I a c t h s =
      let l = h s.0 s.1 in
      let e : l.0 ≡ t = cc (l.1, s.2) in
      subst (λ n. I n ≡ a) e l.2

  -- some step of a choice, and one to where some reply leads
  pub some_step : (c : ℕ) → Choice m A q c → (t : ℕ) × Step m A q c t
  some_step c h =
      let r = (divided m A q L in_m).some_reply in
      let l = (divided m A q L in_m).leads c r.0 h r.1 in
      (l.0, (r.0, r.1, l.1))

  pub reply_step : (I : ℕ → Bool) (a : Bool) (c : ℕ) → SomeReply m A q I a c → (t : ℕ) × Step m A q c t × (I t ≡ a)
  reply_step I a c h = (h.2.0, (h.0, h.1, h.2.1), h.2.2)

  -- both sides at once
  meet : (I J : ℕ → Bool) (a b : Bool) → GroupBrings m A q I a → OthersBring m A q J b → (t : ℕ) × (t < m.states) × (I t ≡ a) × (J t ≡ b)
  meet I J a b g o =
      let r = reply_step J b g.0 (o g.0 g.1) in
      (r.0, stays g.0 r.0 g.1 r.1, step_into I a g.0 r.0 g.2 r.1, r.2)

  somewhere : (w : Modality) (I : ℕ → Bool) (a : Bool) → Brought m w A q I a → (t : ℕ) × (I t ≡ a)
  somewhere Can I true h = let s = some_step h.0 h.1 in (s.0, step_into I true h.0 s.0 h.2 s.1)
  somewhere Can I false h = let c = (divided m A q L in_m).some_choice in let s = reply_step I false c.0 (h c.0 c.1) in (s.0, s.2)
  somewhere Despite I true h = let c = (divided m A q L in_m).some_choice in let s = reply_step I true c.0 (h c.0 c.1) in (s.0, s.2)
  somewhere Despite I false h = let s = some_step h.0 h.1 in (s.0, step_into I false h.0 s.0 h.2 s.1)

  -- two answers of one power agree somewhere
  agree_at : (w : Modality) (X Y : ℕ → Bool) (a b : Bool) → Brought m w A q X a → Brought m w A q Y b → ((t : ℕ) → t < m.states → X t ≡ Y t) → a ≡ b
  agree_at Can X Y true true h k e = refl
  agree_at Can X Y true false h k e = let t = meet X Y true false h k in sym t.2 ∙ e t.0 t.1 ∙ t.3
  agree_at Can X Y false true h k e = let t = meet Y X true false k h in sym t.3 ∙ e t.0 t.1 ∙ t.2
  agree_at Can X Y false false h k e = refl
  agree_at Despite X Y true true h k e = refl
  agree_at Despite X Y true false h k e = let t = meet Y X false true k h in sym t.3 ∙ e t.0 t.1 ∙ t.2
  agree_at Despite X Y false true h k e = let t = meet X Y false true h k in sym t.2 ∙ e t.0 t.1 ∙ t.3
  agree_at Despite X Y false false h k e = refl

  -- a choice all of whose replies lead into X has none that leads out of Y, where the two agree on the states
  clash : (X Y : ℕ → Bool) (c : ℕ) → ((t : ℕ) → t < m.states → X t ≡ Y t) → Choice m A q c → EveryReply m A q X true c → SomeReply m A q Y false c → ⊥
  clash X Y c e h k o = let r = reply_step Y false c o in both_ways (Y r.0) r.2 (sym (e r.0 (stays c r.0 h r.1)) ∙ step_into X true c r.0 k r.1)

  -- so the smallest choice that serves is the same for both
  pub serving_local : (X Y : ℕ → Bool) → ((t : ℕ) → t < m.states → X t ≡ Y t) → first_serving m A q X ≡ first_serving m A q Y
  serving_local X Y e = go (first_serving m A q X) (first_serving m A q Y) (reads_serving m A q X L in_m) (reads_serving m A q Y L in_m)
    where
      back : (t : ℕ) → t < m.states → Y t ≡ X t
      back t l = sym (e t l)

      go : (o p : Option ℕ) → Serving m A q X o → Serving m A q Y p → o ≡ p
      go None None h k = refl
      go None (Some d) h k = absurd (clash Y X d back k.0 k.1 (h d k.0))
      go (Some c) None h k = absurd (clash X Y c e h.0 h.1 (k c h.0))
      go (Some c) (Some d) h k = ⊎_elim
          (λ i. ap Some i)
          (⊎_elim (λ i. absurd (clash X Y c e h.0 h.1 (k.2 c h.0 i))) (λ i. absurd (clash Y X d back k.0 k.1 (h.2 d k.0 i))))
          (cases_order c d)

module _ (m : Structure) (L : Limits m) (w : Modality) (A : ℕ) where
  pub local : Local m.states (holds m w A)
  local q l X Y e = agree_at m L A q l w X Y (holds m w A q X) (holds m w A q Y) (brought m L A q l w X) (brought m L A q l w Y) e

  pub fair : Fair m.states (holds m w A)
  fair q l b = sym (somewhere m L A q l w (λ t. b) (holds m w A q (λ t. b)) (brought m L A q l w (λ t. b))).1
