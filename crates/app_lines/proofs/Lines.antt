-- What is written behind what stands already.
use Rattle.std.proofs.Common.{◌≡◌, ◌∙◌, ℕ, zero, suc, ◌+◌, ◌<◌, List, [], ◌∷◌, ◌++◌, length, take, get_or, sym, ap, arith, append_assoc, append-nil, add-one}
use Rattle.std.proofs.lemmas.Grind.{flat_map-append}
use Rattle.std.proofs.lemmas.List.{take_more}
use Rattle.std.specs.List.{flat_map, range_with_len}

-- the lines of so many numbers, and those of one more
lines_more : (text : ℕ → List ℕ) (n a : ℕ) → flat_map text (range_with_len a (suc n)) ≡ flat_map text (range_with_len a n) ++ text (a + n)
lines_more text zero a = append-nil (text a) ∙ ap text (here a)
  where
    here : (a : ℕ) → a ≡ a + 0
    here a = omega arith
lines_more text (suc n) a =
    ap (λ rest. text a ++ rest) (lines_more text n (a + 1))
    ∙ sym (append_assoc (text a) (flat_map text (range_with_len (a + 1) n)) (text (a + 1 + n)))
    ∙ ap (λ k. (text a ++ flat_map text (range_with_len (a + 1) n)) ++ text k) (next a n)
  where
    next : (a n : ℕ) → a + 1 + n ≡ a + suc n
    next a n = omega arith

-- one more line is written
pub lines_next : (text : ℕ → List ℕ) (n : ℕ) (old new front : List ℕ) → new ≡ old ++ text n → old ≡ front ++ flat_map text (range_with_len 0 n) → new ≡ front ++ flat_map text (range_with_len 0 (n + 1))
lines_next text n old new front step kept =
    step
    ∙ ap (λ out. out ++ text n) kept
    ∙ append_assoc front (flat_map text (range_with_len 0 n)) (text n)
    ∙ ap (λ k. front ++ (flat_map text (range_with_len 0 n) ++ text k)) (sym (start n))
    ∙ ap (λ lines. front ++ lines) (sym (lines_more text n 0))
    ∙ ap (λ k. front ++ flat_map text (range_with_len 0 k)) (sym (add-one n))
  where
    start : (n : ℕ) → 0 + n ≡ n
    start n = omega arith

-- the text of one element more
pub text_next : {A : Type 0} (f : A → List ℕ) (old new : List ℕ) (xs : List A) (i : ℕ) (d : A) → i < length xs → old ≡ flat_map f (take i xs) → new ≡ old ++ f (get_or xs i d) → new ≡ flat_map f (take (i + 1) xs)
text_next f old new xs i d within kept step =
    let x = get_or xs i d in
    step
    ∙ ap (λ out. out ++ f x) kept
    ∙ ap (λ line. flat_map f (take i xs) ++ line) (sym (append-nil (f x)))
    ∙ sym (ap (flat_map f) (take_more xs i d within) ∙ flat_map-append f (take i xs) (x ∷ []))
