-- The calls for a table that grows by one rule at its end.
use Rattle.std.proofs.Common.{◌≡◌, ℕ, suc, ◌+◌, ◌<◌, List, [], ◌∷◌, ◌++◌, length, get_or, take, sym, ap, ◌∙◌, append_assoc, append-nil, add-zero, add-suc, suc-add, arith}
use Rattle.std.proofs.lemmas.List.{take_more, length-take}
use Rattle.calls.specs.declared.types.Call.{Call}
use Rattle.judged.specs.Lines.{judging, judging_from}

judging_push : (n states : ℕ) (xs : List (Call × ℕ)) (x : Call × ℕ) → judging_from n states (xs ++ (x ∷ [])) ≡ judging_from n states xs ++ judging (n + length xs) states x.0 x.1
judging_push n states [] x = append-nil _ ∙ ap (λ k. judging k states x.0 x.1) (sym (add-zero n))
judging_push n states (y ∷ xs) x =
    let at : suc n + length xs ≡ n + suc (length xs) = suc-add n (length xs) ∙ sym (add-suc n (length xs)) in
    ap (λ l. judging n states y.0 y.1 ++ l) (judging_push (suc n) states xs x ∙ ap (λ k. judging_from (suc n) states xs ++ judging k states x.0 x.1) at)
    ∙ sym (append_assoc (judging n states y.0 y.1) (judging_from (suc n) states xs) (judging (n + suc (length xs)) states x.0 x.1))

-- the calls for the rules before i, and then those for rule i
pub judging_more : (states : ℕ) (rows : List (Call × ℕ)) (i : ℕ) (d : Call × ℕ) {was now : List Call} → i < length rows → was ≡ judging_from 0 states (take i rows)
    → now ≡ was ++ judging i states (get_or rows i d).0 (get_or rows i d).1 → now ≡ judging_from 0 states (take (i + 1) rows)
judging_more states rows i d h before here =
    let many : i ≡ 0 + length (take i rows) = simp length-take (omega arith) in
    let row = get_or rows i d in
    here
    ∙ ap (λ l. l ++ judging i states row.0 row.1) before
    ∙ ap (λ k. judging_from 0 states (take i rows) ++ judging k states row.0 row.1) many
    ∙ sym (judging_push 0 states (take i rows) row)
    ∙ ap (judging_from 0 states) (sym (take_more rows i d h))
