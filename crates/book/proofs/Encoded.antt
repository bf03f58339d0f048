-- Where the fields stand in bytes that are made of fields.
use Rattle.std.proofs.Common.{◌≡◌, ℕ, zero, suc, ◌+◌, ◌/◌, ◌%◌, ◌<◌, ◌≤◌, List, [], ◌∷◌, ◌++◌, length, get_or, drop, sym, refl, ap, ◌∙◌, subst, append_assoc, div-add-mod', arith, length-append}
use Rattle.std.specs.List.{flat_map}
use Rattle.std.proofs.lemmas.List.{get_or_at, get_or-append-add, get_or-take, get_or-drop, drop-drop, drop_at, take_at}
use Rattle.book.specs.Fields.{size, after, value, spot}
use Rattle.book.specs.Content.{field}

-- at p there stands the field of tag t and value v
pub record FieldAt (bs : List ℕ) (p t : ℕ) (v : List ℕ) : Type 0 where
  pub tag : get_or bs p 0 ≡ t
  pub value_is : value bs p ≡ v
  pub ends : after bs p ≡ p + 3 + length v
  pub whole : after bs p ≤ length bs

-- a byte of its value
pub value_byte : (bs : List ℕ) (p t : ℕ) (v : List ℕ) → FieldAt bs p t v → (i n : ℕ) → i < length v → n ≡ p + 3 + i → get_or bs n 0 ≡ get_or v i 0
value_byte bs p t v f i n l e =
    let s : i < size bs p = omega (arith, f.ends) in
    ap (λ k. get_or bs k 0) e ∙ (sym (get_or-take (size bs p) (drop (p + 3) bs) i 0 s ∙ get_or-drop (p + 3) bs i 0) ∙ ap (λ x. get_or x i 0) f.value_is)

module _ (pre : List ℕ) (t : ℕ) (v post : List ℕ) where
  size_is : size (pre ++ (field t v ++ post)) (length pre) ≡ length v
  size_is = rw (get_or-append-add pre (field t v ++ post) 1 0, get_or-append-add pre (field t v ++ post) 2 0) (div-add-mod' (length v) 256)

  rest_is : drop (length pre + 3) (pre ++ (field t v ++ post)) ≡ v ++ post
  rest_is = sym (drop-drop 3 (length pre) (pre ++ (field t v ++ post))) ∙ ap (drop 3) (drop_at pre (field t v ++ post) (length pre) refl)

  pub field_here : FieldAt (pre ++ (field t v ++ post)) (length pre) t v
  field_here = record {
    tag = get_or_at pre t (length v / 256 ∷ length v % 256 ∷ (v ++ post)) 0 (length pre) refl;
    value_is = rw (size_is, rest_is) (take_at v post (length v) refl);
    ends = ap (λ n. length pre + 3 + n) size_is;
    whole = rw size_is (simp (length-append, length-append) (omega arith));
  }

pub spot_shift : (bs : List ℕ) (p k : ℕ) → spot bs p (suc k) ≡ spot bs (after bs p) k
spot_shift bs p zero = refl
spot_shift bs p (suc k) = ap (after bs) (spot_shift bs p k)

-- fields of one tag, one after another, behind others
module _ {X : Type 0} (t : ℕ) (f : X → List ℕ) (bs post : List ℕ) where
  module _ (pre : List ℕ) (x : X) (xs : List X) (e : bs ≡ pre ++ (flat_map (λ x. field t (f x)) (x ∷ xs) ++ post)) where
    first : bs ≡ pre ++ (field t (f x) ++ (flat_map (λ x. field t (f x)) xs ++ post))
    first = e ∙ ap (λ z. pre ++ z) (append_assoc (field t (f x)) (flat_map (λ x. field t (f x)) xs) post)

    others : bs ≡ (pre ++ field t (f x)) ++ (flat_map (λ x. field t (f x)) xs ++ post)
    others = first ∙ sym (append_assoc pre (field t (f x)) (flat_map (λ x. field t (f x)) xs ++ post))

    here : FieldAt bs (length pre) t (f x)
    here = subst (λ b. FieldAt b (length pre) t (f x)) (sym first) (field_here pre t (f x) (flat_map (λ x. field t (f x)) xs ++ post))

    later : (k : ℕ) → spot bs (length pre) (suc k) ≡ spot bs (length (pre ++ field t (f x))) k
    later k =
        let at : after bs (length pre) ≡ length (pre ++ field t (f x)) = here.ends ∙ simp length-append (omega arith) in
        spot_shift bs (length pre) k ∙ ap (λ p. spot bs p k) at

  pub fields_at : (pre : List ℕ) (xs : List X) (k : ℕ) (d : X) → bs ≡ pre ++ (flat_map (λ x. field t (f x)) xs ++ post) → k < length xs → FieldAt bs (spot bs (length pre) k) t (f (get_or xs k d))
  fields_at pre [] k d e h = absurd (omega arith)
  fields_at pre (x ∷ xs) zero d e h = here pre x xs e
  fields_at pre (x ∷ xs) (suc k) d e h =
      subst (λ p. FieldAt bs p t (f (get_or xs k d))) (sym (later pre x xs e k)) (fields_at (pre ++ field t (f x)) xs k d (others pre x xs e) (omega arith))

  pub fields_end : (pre : List ℕ) (xs : List X) → bs ≡ pre ++ (flat_map (λ x. field t (f x)) xs ++ post) → spot bs (length pre) (length xs) ≡ length (pre ++ flat_map (λ x. field t (f x)) xs)
  fields_end pre [] e = simp length-append (omega arith)
  fields_end pre (x ∷ xs) e =
      later pre x xs e (length xs) ∙ (fields_end (pre ++ field t (f x)) xs (others pre x xs e) ∙ ap length (append_assoc pre (field t (f x)) (flat_map (λ x. field t (f x)) xs)))
