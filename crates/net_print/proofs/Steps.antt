-- One step of a loop that writes.
use Rattle.std.proofs.Common.{◌≡◌, ◌∙◌, ℕ, zero, suc, ◌+◌, ◌<◌, ◌≤◌, List, [], ◌∷◌, ◌++◌, length, drop, get_or, sym, ap, refl, arith, append_assoc, append-nil, add-one}
use Rattle.std.specs.List.{flat_map, range_with_len}
use Rattle.std.proofs.lemmas.List.{drop_more, drop_all}
use Rattle.net_print.specs.Printed.{parted}
use Rattle.net_print.specs.Parts.{gap, parted_behind}

-- the lines of the numbers so far, and one more
pub lines_more : {A : Type 0} (text : ℕ → List A) (n a : ℕ) → flat_map text (range_with_len a (suc n)) ≡ flat_map text (range_with_len a n) ++ text (a + n)
lines_more text zero a = append-nil (text a) ∙ ap text (here a)
  where
    here : (a : ℕ) → a ≡ a + 0
    here a = omega arith
lines_more text (suc n) a =
    ap (λ rest. text a ++ rest) (lines_more text n (a + 1))
    ∙ sym (append_assoc (text a) (flat_map text (range_with_len (a + 1) n)) (text (a + 1 + n)))
    ∙ ap (λ k. (text a ++ flat_map text (range_with_len (a + 1) n)) ++ text k) (next a n)
  where
    next : (a n : ℕ) → a + 1 + n ≡ a + suc n
    next a n = omega arith

-- behind another piece, each stands after one space
pub parted_after : {A : Type 0} (text : A → List ℕ) (before : ℕ) (xs : List A) → parted_behind text (before + 1) xs ≡ flat_map (λ x. 32 ∷ text x) xs
parted_after text before [] = refl
parted_after text before (x ∷ xs) = ap (λ n. gap n ++ text x ++ parted_behind text (before + 1 + 1) xs) (add-one before) ∙ ap (λ rest. 32 ∷ text x ++ rest) (parted_after text (before + 1) xs)

-- pieces behind none are parted by one space
pub parted_first : {A : Type 0} (text : A → List ℕ) (xs : List A) → parted_behind text 0 xs ≡ parted text xs
parted_first text [] = refl
parted_first text (x ∷ xs) = ap (λ rest. text x ++ rest) (parted_after text 0 xs)

-- pieces behind pieces
pub parted-append : {A : Type 0} (text : A → List ℕ) (before : ℕ) (xs ys : List A) → parted_behind text before (xs ++ ys) ≡ parted_behind text before xs ++ parted_behind text (before + length xs) ys
parted-append text before [] ys = ap (λ n. parted_behind text n ys) (here before)
  where
    here : (a : ℕ) → a ≡ a + 0
    here a = omega arith
parted-append text before (x ∷ xs) ys =
    ap (λ rest. gap before ++ text x ++ rest) (parted-append text (before + 1) xs ys)
    ∙ ap (λ n. gap before ++ text x ++ (parted_behind text (before + 1) xs ++ parted_behind text n ys)) (next before (length xs))
    ∙ sym (append_assoc (gap before ++ text x) (parted_behind text (before + 1) xs) (parted_behind text (before + suc (length xs)) ys))
  where
    next : (a n : ℕ) → a + 1 + n ≡ a + suc n
    next a n = omega arith

-- One more piece is written, and those so far and those to come stay all.
pub parted_more : {A : Type 0} (text : A → List ℕ) (n : ℕ) (xs : List A) (i : ℕ) (d : A) → i < length xs → (old new all : List ℕ) → new ≡ (old ++ gap n) ++ text (get_or xs i d) → old ++ parted_behind text n (drop i xs) ≡ all → new ++ parted_behind text (n + 1) (drop (i + 1) xs) ≡ all
parted_more text n xs i d l old new all step kept =
    let rest = parted_behind text (n + 1) (drop (i + 1) xs) in
    ap (λ out. out ++ rest) step
    ∙ append_assoc (old ++ gap n) (text (get_or xs i d)) rest
    ∙ append_assoc old (gap n) (text (get_or xs i d) ++ rest)
    ∙ ap (λ more. old ++ more) (sym (append_assoc (gap n) (text (get_or xs i d)) rest))
    ∙ ap (λ more. old ++ parted_behind text n more) (sym (drop_more xs i d l))
    ∙ kept

-- Behind the last piece nothing is to come.
pub parted_all : {A : Type 0} (text : A → List ℕ) (n : ℕ) (xs : List A) (i : ℕ) → length xs ≤ i → (old all : List ℕ) → old ++ parted_behind text n (drop i xs) ≡ all → old ≡ all
parted_all text n xs i l old all kept = sym (append-nil old) ∙ ap (λ rest. old ++ parted_behind text n rest) (sym (drop_all i xs l)) ∙ kept

-- one more line is written
pub lines_next : (text : ℕ → List ℕ) (n : ℕ) (old new front : List ℕ) → new ≡ old ++ text n → old ≡ front ++ flat_map text (range_with_len 0 n) → new ≡ front ++ flat_map text (range_with_len 0 (n + 1))
lines_next text n old new front step kept =
    step
    ∙ ap (λ out. out ++ text n) kept
    ∙ append_assoc front (flat_map text (range_with_len 0 n)) (text n)
    ∙ ap (λ k. front ++ (flat_map text (range_with_len 0 n) ++ text k)) (sym (start n))
    ∙ ap (λ lines. front ++ lines) (sym (lines_more text n 0))
    ∙ ap (λ k. front ++ flat_map text (range_with_len 0 k)) (sym (add-one n))
  where
    start : (n : ℕ) → 0 + n ≡ n
    start n = omega arith
