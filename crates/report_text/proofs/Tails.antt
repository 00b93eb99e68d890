-- What stands behind a known front, and the number before the first space.
use Rattle.std.proofs.Common.{◌≡◌, ℕ, ◌+◌, ◌<◌, ◌^◌, List, [], ◌∷◌, ◌++◌, refl, sym, ◌∙◌, ap, arith}
use Rattle.std.specs.Prelude.{decimal}
use Rattle.report_text.specs.Slots.{IsFront}
use Rattle.report_text.proofs.OneCut.{cut_is}
use Rattle.report_text.proofs.Digits.{decimal_one, decimal_lacks}

pub same_rest : (xs ys zs : List ℕ) → xs ++ ys ≡ xs ++ zs → ys ≡ zs
same_rest [] ys zs e = e
same_rest (x ∷ xs) ys zs e =
    let tail : xs ++ ys ≡ xs ++ zs = cc in
    same_rest xs ys zs tail

-- the line has that front, and behind it what it was made of
pub behind_is : (line front known rest wanted : List ℕ) → line ≡ front ++ rest → front ≡ known → line ≡ known ++ wanted → rest ≡ wanted
behind_is line front known rest wanted is same e = same_rest known rest wanted (ap (λ x. x ++ rest) (sym same) ∙ sym is ∙ e)

-- the digits before the first space
pub state_digits : (bytes digits others : List ℕ) (choice states : ℕ) (rest : List ℕ) → IsFront 32 bytes digits others → choice < states → states < 2 ^ 64 → bytes ≡ decimal (choice + 1) ++ 32 ∷ rest → digits ≡ decimal (choice + 1)
state_digits bytes digits others choice states rest is h fits e =
    (cut_is 32 bytes digits others (decimal (choice + 1)) (32 ∷ rest) is (decimal_lacks 32 (choice + 1) (omega arith) (omega arith)) refl e).front

pub state_number : (bytes digits others : List ℕ) (choice states number : ℕ) (rest : List ℕ) → IsFront 32 bytes digits others → digits ≡ decimal number → number < 2 ^ 128 → choice < states → states < 2 ^ 64 → bytes ≡ decimal (choice + 1) ++ 32 ∷ rest → number ≡ choice + 1
state_number bytes digits others choice states number rest is read small h fits e =
    decimal_one number (choice + 1) (omega arith) (omega arith) (sym read ∙ state_digits bytes digits others choice states rest is h fits e)

-- lines with the same end
pub same_front : (xs ys : List ℕ) → xs ++ 10 ∷ [] ≡ ys ++ 10 ∷ [] → xs ≡ ys
same_front [] [] e = refl
same_front [] (y ∷ []) e = absurd cc
same_front [] (y ∷ z ∷ ys) e = absurd cc
same_front (x ∷ []) [] e = absurd cc
same_front (x ∷ z ∷ xs) [] e = absurd cc
same_front (x ∷ xs) (y ∷ ys) e =
    let head : x ≡ y = cc in
    let tail : xs ++ 10 ∷ [] ≡ ys ++ 10 ∷ [] = cc in
    let rest = same_front xs ys tail in
    λ i. head i ∷ rest i
