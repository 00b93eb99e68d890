-- A fraction's text falls into a numerator without a slash and what is written behind it, so it is
-- the text of one fraction.
use Rattle.std.proofs.Common.{◌≡◌, ℕ, ◌-◌, ◌<◌, ◌≤◌, ◌^◌, List, [], ◌∷◌, length, take, drop, Bool, true, false, Option, None, Some, cond, eqb, refl, sym, ◌∙◌, ap, subst, arith, tests}
use Rattle.std.specs.Prelude.{decimal, IfNone, IsTrue, unsigned_abs}
use Rattle.std.specs.Fmt.{signed_decimal}
use Rattle.std.specs.Int.{IsGcd}
use Rattle.std.proofs.lemmas.List.{take_all}
use Rattle.std.proofs.lemmas.Nat.Gcd.{same_from_IsGcd}
use Rattle.maid_model.specs.declared.answers.Ratio.{Ratio}
use Rattle.maid_model.specs.Answers.{IsReduced}
use Rattle.maid_model.specs.Reports.{ratio_text}
use Rattle.report_text.specs.Reading.{FitsRatio}
use Rattle.report_text.specs.Slots.{den_text, lacks, IsEndOr, IsFront}
use Rattle.report_text.proofs.OneCut.{SameCut, cut_is, one_cut}
use Rattle.report_text.proofs.Digits.{decimal_one, signed_one, signed_lacks, signed_within}

pub none_of : {A P : Type 0} (o : Option A) → o ≡ None → IfNone o P → P
none_of None e p = p
none_of (Some x) e p = absurd cc

-- a denominator of one isn't written
pub one_unwritten : (bytes : List ℕ) (den one : ℕ) → 1 ≤ length bytes → one ≡ 1 → take (length bytes - 1) (drop 1 bytes) ≡ decimal one → den < 2 ^ 128 → bytes ≡ den_text den → ⊥
one_unwritten [] den one some is digits h e = absurd (omega arith)
one_unwritten (b ∷ bytes) den one some is digits h e = by_test (eqb den 1) refl e
  where
    rest : take (length (b ∷ bytes) - 1) bytes ≡ bytes
    rest = take_all (length (b ∷ bytes) - 1) bytes (omega arith)

    by_test : (t : Bool) → eqb den 1 ≡ t → b ∷ bytes ≡ cond t [] (47 ∷ decimal den) → ⊥
    by_test true is' e' = absurd cc
    by_test false is' e' =
        let tail : bytes ≡ decimal den = cc in
        let same : den ≡ 1 = decimal_one den 1 (omega arith) (omega arith) (sym tail ∙ sym rest ∙ digits ∙ ap decimal is) in
        grind (arith, tests)

pub den_begins : (den : ℕ) → IsEndOr 47 (den_text den)
den_begins den = by_test (eqb den 1)
  where
    by_test : (t : Bool) → IsEndOr 47 (cond t [] (47 ∷ decimal den))
    by_test true = tt
    by_test false = refl

pub den_one : (m n : ℕ) → m < 2 ^ 128 → n < 2 ^ 128 → den_text m ≡ den_text n → m ≡ n
den_one m n p q e = by_tests (eqb m 1) (eqb n 1) refl refl e
  where
    by_tests : (s t : Bool) → eqb m 1 ≡ s → eqb n 1 ≡ t → cond s [] (47 ∷ decimal m) ≡ cond t [] (47 ∷ decimal n) → m ≡ n
    by_tests true true s t e = grind (arith, tests)
    by_tests true false s t e = absurd cc
    by_tests false true s t e = absurd cc
    by_tests false false s t e =
        let tail : decimal m ≡ decimal n = cc in
        decimal_one m n (omega arith) (omega arith) tail

num_lacks : (r : Ratio) → FitsRatio r → lacks 47 (signed_decimal r.num) ≡ true
num_lacks r stands = signed_lacks 47 r.num (omega arith) (λ e. omega arith) (signed_within r.num stands.num)

-- the front of a fraction's text is its numerator
pub ratio_parts : (bytes num rest : List ℕ) (r : Ratio) → IsFront 47 bytes num rest → FitsRatio r → bytes ≡ ratio_text r → SameCut num rest (signed_decimal r.num) (den_text r.den)
ratio_parts bytes num rest r is stands e =
    cut_is 47 bytes num rest (signed_decimal r.num) (den_text r.den) is (num_lacks r stands) (den_begins r.den) e

pub same_ratio : (r q : Ratio) → r.num ≡ q.num → r.den ≡ q.den → r ≡ q
same_ratio r q n d = λ i. record { num = n i; den = d i }

pub ratio_one : (r q : Ratio) → FitsRatio r → FitsRatio q → ratio_text r ≡ ratio_text q → r ≡ q
ratio_one r q p s e =
    let cut = one_cut 47 (signed_decimal r.num) (den_text r.den) (signed_decimal q.num) (den_text q.den) (num_lacks r p) (den_begins r.den) (num_lacks q s) (den_begins q.den) e in
    same_ratio r q (signed_one r.num q.num (signed_within r.num p.num) (signed_within q.num s.num) cut.front) (den_one r.den q.den p.den s.den cut.rest)

pub gcd_reduces : (r : Ratio) (g : ℕ) → 0 < r.den → IsGcd (unsigned_abs r.num) r.den g → g ≡ 1 → IsReduced r
gcd_reduces r g some is e = record { positive = some; coprime = subst (λ k. IsGcd (unsigned_abs r.num) r.den k) e is }

pub reduced_gcd : (r : Ratio) (g : ℕ) → IsGcd (unsigned_abs r.num) r.den g → IsReduced r → g ≡ 1
reduced_gcd r g is red = same_from_IsGcd (unsigned_abs r.num) r.den g 1 is red.coprime

-- a test of one
pub is_one : (n : ℕ) → IsTrue (eqb n 1) → n ≡ 1
is_one n h = grind (arith, tests)

pub one_is : (n : ℕ) → n ≡ 1 → IsTrue (eqb n 1)
one_is n h = grind (arith, tests)

pub not_true : (b : Bool) → b ≡ false → IsTrue b → ⊥
not_true b e h = grind (arith, tests)
