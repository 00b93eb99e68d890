-- Where bytes are cut: one front has no such byte, and the others begin with it.
use Rattle.std.proofs.Common.{◌≡◌, ◌≢◌, ℕ, ◌+◌, List, [], ◌∷◌, ◌++◌, take, drop, Bool, true, false, not, cond, eqb, refl, sym, ◌∙◌, one-add, arith, tests}
use Rattle.std.specs.List.{prefix_len}
use Rattle.std.proofs.lemmas.Bool.{and_parts}
use Rattle.std.proofs.lemmas.List.{take-append-drop}
use Rattle.report_text.specs.Slots.{lacks, IsEndOr, IsFront}

-- a test of numbers, and what it tells
pub same_byte : (b byte : ℕ) → not (eqb b byte) ≡ false → b ≡ byte
same_byte b byte e = grind (arith, tests)

pub other_byte : (b byte : ℕ) → not (eqb b byte) ≡ true → b ≢ byte
other_byte b byte e = grind (arith, tests)

pub lacks_from : (b byte : ℕ) → b ≢ byte → not (eqb b byte) ≡ true
lacks_from b byte h = grind (arith, tests)

module _ (byte : ℕ) where
  test : ℕ → Bool
  test b = not (eqb b byte)

  front_lacks : (bytes : List ℕ) → lacks byte (take (prefix_len (λ b. not (eqb b byte)) bytes) bytes) ≡ true
  front_lacks [] = refl
  front_lacks (x ∷ xs) = by_test (not (eqb x byte)) refl (front_lacks xs) where
    by_test : (b : Bool) → not (eqb x byte) ≡ b → lacks byte (take (prefix_len (λ b. not (eqb b byte)) xs) xs) ≡ true → lacks byte (take (cond b (1 + prefix_len (λ b. not (eqb b byte)) xs) 0) (x ∷ xs)) ≡ true
    by_test true e rest = rw (one-add, e) rest
    by_test false e rest = refl

  rest_begins : (bytes : List ℕ) → IsEndOr byte (drop (prefix_len (λ b. not (eqb b byte)) bytes) bytes)
  rest_begins [] = tt
  rest_begins (x ∷ xs) = by_test (not (eqb x byte)) refl (rest_begins xs) where
    by_test : (b : Bool) → not (eqb x byte) ≡ b → IsEndOr byte (drop (prefix_len (λ b. not (eqb b byte)) xs) xs) → IsEndOr byte (drop (cond b (1 + prefix_len (λ b. not (eqb b byte)) xs) 0) (x ∷ xs))
    by_test true e rest = rw one-add rest
    by_test false e rest = same_byte x byte e

  pub cut_front : (bytes : List ℕ) → IsFront byte bytes (take (prefix_len (λ b. not (eqb b byte)) bytes) bytes) (drop (prefix_len (λ b. not (eqb b byte)) bytes) bytes)
  cut_front bytes = record { whole = sym (take-append-drop (prefix_len (λ b. not (eqb b byte)) bytes) bytes); lacks = front_lacks bytes; next = rest_begins bytes }

-- two ways to cut the same bytes are one
pub record SameCut (xs ys xs' ys' : List ℕ) : Type 0 where
  pub front : xs ≡ xs'
  pub rest : ys ≡ ys'

pub one_cut : (byte : ℕ) (front rest front' rest' : List ℕ) → lacks byte front ≡ true → IsEndOr byte rest → lacks byte front' ≡ true → IsEndOr byte rest' → front ++ rest ≡ front' ++ rest' → SameCut front rest front' rest'
one_cut byte [] rest [] rest' l n l' n' e = record { front = refl; rest = e }
one_cut byte [] [] (y ∷ front') rest' l n l' n' e = absurd cc
one_cut byte [] (x ∷ rest) (y ∷ front') rest' l n l' n' e =
    let same : x ≡ y = cc in
    absurd (other_byte y byte (and_parts (not (eqb y byte)) _ l').0 (sym same ∙ n))
one_cut byte (x ∷ front) rest [] [] l n l' n' e = absurd cc
one_cut byte (x ∷ front) rest [] (y ∷ rest') l n l' n' e =
    let same : x ≡ y = cc in
    absurd (other_byte x byte (and_parts (not (eqb x byte)) _ l).0 (same ∙ n'))
one_cut byte (x ∷ front) rest (y ∷ front') rest' l n l' n' e =
    let head : x ≡ y = cc in
    let tail : front ++ rest ≡ front' ++ rest' = cc in
    let same = one_cut byte front rest front' rest' (and_parts (not (eqb x byte)) _ l).1 n (and_parts (not (eqb y byte)) _ l').1 n' tail in
    record { front = λ i. head i ∷ same.front i; rest = same.rest }

-- the front that was cut is the one that was put there
pub cut_is : (byte : ℕ) (bytes front rest front' rest' : List ℕ) → IsFront byte bytes front rest → lacks byte front' ≡ true → IsEndOr byte rest' → bytes ≡ front' ++ rest' → SameCut front rest front' rest'
cut_is byte bytes front rest front' rest' is l' n' e = one_cut byte front rest front' rest' is.lacks is.next l' n' (sym is.whole ∙ e)

-- joined lists lack what both lack
pub lacks_append : (byte : ℕ) (xs ys : List ℕ) → lacks byte xs ≡ true → lacks byte ys ≡ true → lacks byte (xs ++ ys) ≡ true
lacks_append byte [] ys l m = m
lacks_append byte (x ∷ xs) ys l m =
    let parts = and_parts (not (eqb x byte)) _ l in
    rw (parts.0, lacks_append byte xs ys parts.1 m) refl
