-- Numbers appended one by one.
use Rattle.std.proofs.Common.{◌≡◌, ◌∙◌, ◌<◌, ◌≤◌, ◌+◌, ◌*◌, ℕ, ℤ, pos, List, [], ◌∷◌, ◌++◌, map, take, length, get_or, sum, sym, ap, subst, arith, append_assoc, Result, Ok, Err, OnOk, IfOk, IsErr}
use Rattle.std.proofs.Math.Path.{fun_ext}
use Rattle.std.proofs.lemmas.List.{append-nil, map-append, take_more, take_all}
use Rattle.std.proofs.Math.Nat.{mul-le-mul_right}
use Rattle.std.proofs.lemmas.List.Sums.{get_or-le-sum_by}
use Rattle.std.proofs.lemmas.Int.{to_z_pos}
use Rattle.std.specs.Int.{w128, cast_signed}
use Rattle.maid_model.specs.Diagrams.{greatest_number}

module _ (f : ℕ → ℤ) (old : List ℤ) (row : List ℕ) where
  pub appended_none : old ≡ old ++ map f (take 0 row)
  appended_none = sym (append-nil old)

  pub appended_more : (items new : List ℤ) (i : ℕ) → i < length row → new ≡ items ++ f (get_or row i 0) ∷ [] → items ≡ old ++ map f (take i row) → new ≡ old ++ map f (take (i + 1) row)
  appended_more items new i l pushed so_far =
      let x = get_or row i 0 in
      pushed
      ∙ ap (λ (k : List ℤ). k ++ f x ∷ []) so_far
      ∙ append_assoc old (map f (take i row)) (f x ∷ [])
      ∙ ap (λ (k : List ℤ). old ++ k) (sym (map-append f (take i row) (x ∷ [])) ∙ ap (map f) (sym (take_more row i 0 l)))

  pub appended_all : (items : List ℤ) (i : ℕ) → length row ≤ i → items ≡ old ++ map f (take i row) → items ≡ old ++ map f row
  appended_all items i l so_far = so_far ∙ ap (λ (k : List ℕ). old ++ map f k) (take_all i row l)

-- a number of a row, and its multiple, is at most the sum's
pub multiple_within : (row : List ℕ) (i factor most : ℕ) → i < length row → sum row * factor ≤ most → get_or row i 0 * factor ≤ most
multiple_within row i factor most l fits = omega (arith, fits, mul-le-mul_right factor (get_or-le-sum_by (λ x. x) row i 0 l))

pub number_within : (row : List ℕ) (i most : ℕ) → i < length row → sum row ≤ most → get_or row i 0 ≤ most
number_within row i most l fits = omega (arith, fits, get_or-le-sum_by (λ x. x) row i 0 l)

-- and one that fits is itself as a signed number
pub pushed_cast : (n : ℕ) (items new : List ℤ) → n ≤ greatest_number → new ≡ items ++ cast_signed w128 n ∷ [] → new ≡ items ++ pos n ∷ []
pushed_cast n items new small pushed = pushed ∙ ap (λ (z : ℤ). items ++ z ∷ []) (to_z_pos w128 n (omega (arith, small)))

pub one_times : (s factor most : ℕ) → factor ≡ 1 → s * factor ≤ most → s ≤ most
one_times s factor most e l = let once : s * 1 ≤ most = subst (λ k. s * k ≤ most) e l in omega (arith, once)

pub times_one : (factor : ℕ) → factor ≡ 1 → ◌≡◌ {A = ℕ → ℤ} (λ x. pos x) (λ x. pos (x * factor))
times_one factor e = fun_ext (λ x. ap (λ (n : ℕ). pos n) (same x) ∙ ap (λ (k : ℕ). pos (x * k)) (sym e))
  where
    same : (x : ℕ) → x ≡ x * 1
    same x = omega arith

-- a fault promises nothing of a value
pub on_fault : {T E : Type 0} (P : Type 0) (r : Result T E) → IsErr r → OnOk r P
on_fault P (Ok x) e = absurd (cc)
on_fault P (Err x) e = tt

pub if_fault : {T E : Type 0} (P : T → Type 0) (r : Result T E) → IsErr r → IfOk r P
if_fault P (Ok x) e = absurd (cc)
if_fault P (Err x) e = tt
