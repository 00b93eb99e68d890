-- Which decimal a number times or over powers of ten is.
use Rattle.std.proofs.Common.{◌≡◌, ◌≤◌, ◌<◌, ◌+◌, ◌-◌, ◌*◌, ◌%◌, ◌^◌, ℕ, suc, unsigned_abs, Bool, arith, refl, sym, ap, ◌∙◌, ⊎_elim, Option, None, Some, IfSome, IfNone}
use Rattle.std.proofs.Math.Nat.{pow-suc, pow-le-pow_right, eq_of_mul-eq-mul_right, mul-le-mul_left, mul-le-mul_right}
use Rattle.std.proofs.lemmas.Nat.{pow-add}
use Rattle.std.proofs.lemmas.Bool.{cases_lt}
use Rattle.weight_scale.specs.declared.decimal.Decimal.{Decimal}
use Rattle.weight_scale.specs.Numeral.{signed, IsDecimalOf, IsLeastDecimalOf}
use Rattle.weight_scale.proofs.Signs.{sizes_from_fraction, same_fraction}

pub tens_positive : (n : ℕ) → 0 < 10 ^ n
tens_positive n = pow-le-pow_right {n = 10} (omega arith) {i = 0} {j = n} (omega arith)

-- a size that doesn't end in nought takes as many decimals as there are more tens below than above
pub by_tens : (m size above below k : ℕ) → 0 < size % 10 → m * 10 ^ below ≡ (size * 10 ^ above) * 10 ^ k → (below ≤ above + k) × (m ≡ size * 10 ^ (above + k - below))
by_tens m size above below k last e = ⊎_elim (λ less. absurd (more_below less)) (λ le. (le, no_more_below le)) (cases_lt (above + k) below) where
  tens : 10 ^ (above + k) ≡ 10 ^ above * 10 ^ k
  tens = pow-add 10 above k

  more_below : above + k < below → ⊥
  more_below less =
      let rest = below - (above + k) - 1 in
      let cut : 10 ^ below ≡ 10 ^ (above + k) * (10 ^ rest * 10) = ap (λ n. 10 ^ n) (omega arith) ∙ pow-add 10 (above + k) (suc rest) ∙ ap (λ x. 10 ^ (above + k) * x) (pow-suc 10 rest) in
      let across : (m * (10 ^ rest * 10)) * 10 ^ (above + k) ≡ size * 10 ^ (above + k) = omega (arith, e, ap (λ x. m * x) cut, ap (λ x. size * x) tens) in
      let whole = eq_of_mul-eq-mul_right (10 ^ (above + k)) (tens_positive (above + k)) _ _ across in
      omega (arith, whole)

  no_more_below : below ≤ above + k → m ≡ size * 10 ^ (above + k - below)
  no_more_below le =
      let over = above + k - below in
      let cut : 10 ^ (above + k) ≡ 10 ^ over * 10 ^ below = ap (λ n. 10 ^ n) (omega arith) ∙ pow-add 10 over below in
      let across : m * 10 ^ below ≡ (size * 10 ^ over) * 10 ^ below = omega (arith, e, ap (λ x. size * x) tens, ap (λ x. size * x) cut) in
      eq_of_mul-eq-mul_right (10 ^ below) (tens_positive below) _ _ across

pub tens_fit : (t : ℕ) → t ≤ 38 → 10 ^ t < 2 ^ 128
tens_fit t le = omega (arith, pow-le-pow_right {n = 10} (omega arith) {i = t} {j = 38} le)

pub tens_wide : (size t : ℕ) → 0 < size → 38 < t → 2 ^ 126 ≤ size * 10 ^ t
tens_wide size t some more = omega (arith, pow-le-pow_right {n = 10} (omega arith) {i = 39} {j = t} more, mul-le-mul_right {m = 1} {n = size} (10 ^ t) some)

-- no decimal is as great as that
pub not_wide : (minus : Bool) (num : ℕ) (d : Decimal) → 2 ^ 126 ≤ num → IsDecimalOf (signed minus num) 1 d → ⊥
not_wide minus num d wide is =
    let size = (sizes_from_fraction minus d.m (10 ^ d.k) num 1 (omega arith) is).1 in
    omega (arith, size, d.small, mul-le-mul_left {m = 1} {n = 10 ^ d.k} num (tens_positive d.k))

-- a size that doesn't end in nought takes all decimals
pub all_decimals : (minus : Bool) (size decimals : ℕ) (d : Decimal) → 0 < size % 10 → IsDecimalOf (signed minus size) (10 ^ decimals) d → decimals ≤ d.k
all_decimals minus size decimals d last is =
    let sizes = (sizes_from_fraction minus d.m (10 ^ d.k) size (10 ^ decimals) (tens_positive decimals) is).1 in
    omega (arith, (by_tens (unsigned_abs d.m) size 0 decimals d.k last (omega (arith, sizes))).0)

-- what is a fraction with fewest decimals is each equal fraction with fewest decimals, and what is
-- none is none of the equal ones
module _ (minus : Bool) (num den num' den' : ℕ) (positive : 0 < den) (positive' : 0 < den') (same : num * den' ≡ num' * den) where
  least_of_same : (d : Decimal) → IsLeastDecimalOf (signed minus num) den d → IsLeastDecimalOf (signed minus num') den' d
  least_of_same d is = record {
    value = same_fraction minus d.m (10 ^ d.k) num den num' den' positive same is.value;
    least = λ other value. is.least other (same_fraction minus other.m (10 ^ other.k) num' den' num den positive' (sym same) value);
  }

  pub some_of_same : (r : Option Decimal) → IfSome r (λ d. IsLeastDecimalOf (signed minus num) den d) → IfSome r (λ d. IsLeastDecimalOf (signed minus num') den' d)
  some_of_same None is = tt
  some_of_same (Some d) is = least_of_same d is

  pub none_of_same : (r : Option Decimal) → IfNone r ((d : Decimal) → IsDecimalOf (signed minus num) den d → ⊥) → IfNone r ((d : Decimal) → IsDecimalOf (signed minus num') den' d → ⊥)
  none_of_same None never = λ d value. never d (same_fraction minus d.m (10 ^ d.k) num' den' num den positive' (sym same) value)
  none_of_same (Some d) never = tt

-- tens above and below that cancel
pub cancel_below : (size above below : ℕ) → below ≤ above → (size * 10 ^ (above - below)) * 10 ^ below ≡ (size * 10 ^ above) * 1
cancel_below size above below le = let cut : 10 ^ above ≡ 10 ^ (above - below) * 10 ^ below = ap (λ n. 10 ^ n) (omega arith) ∙ pow-add 10 (above - below) below in omega (arith, ap (λ x. size * x) cut)

pub cancel_above : (size above below : ℕ) → above ≤ below → size * 10 ^ below ≡ (size * 10 ^ above) * 10 ^ (below - above)
cancel_above size above below le = let cut : 10 ^ below ≡ 10 ^ above * 10 ^ (below - above) = ap (λ n. 10 ^ n) (omega arith) ∙ pow-add 10 above (below - above) in omega (arith, ap (λ x. size * x) cut)

pub size_kept : (minus : Bool) (size decimals : ℕ) (d : Decimal) → 0 < size % 10 → d.m ≡ signed minus size → d.k ≡ decimals → IsLeastDecimalOf (signed minus size) (10 ^ decimals) d
size_kept minus size decimals d last m k = record {
  value = rw (m, k) refl;
  least = λ other is. rw k (all_decimals minus size decimals other last is);
}
