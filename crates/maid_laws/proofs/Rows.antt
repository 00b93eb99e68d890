-- A world for each row of a table.
use Rattle.std.proofs.Common.{◌≡◌, ◌∙◌, ℕ, ◌<◌, ◌+◌, ◌*◌, ◌/◌, ◌%◌, List, [], ◌∷◌, refl, sym, ap, inl, inr, arith}
use Rattle.std.proofs.lemmas.Nat.{div-add-mod'}
use Rattle.std.proofs.Math.Nat.{div-lt_iff_lt-mul, mul-pos}
use Rattle.maid_model.specs.Nodes.{rows_under}
use Rattle.finite_sums.specs.Sums.{World, with_state, InRange}
use Rattle.maid_model.specs.Tables.{row_from}
use Rattle.finite_sums.specs.Members.{Among}
use Rattle.finite_sums.proofs.Sums.{with_same, with_other, with_in}
use Rattle.maid_model.proofs.Tables.{row_from_other}
use Rattle.maid_laws.proofs.Collapse.{Apart}

-- each table has a row
pub rows_positive : (count : ℕ → ℕ) → ((v : ℕ) → 0 < count v) → (us : List ℕ) → 0 < rows_under count us
rows_positive count has [] = omega arith
rows_positive count has (u ∷ us) = mul-pos (has u) (rows_positive count has us)

-- a number by its quotient and rest
row_parts : (k c r x : ℕ) → (k * c + x / r) * r + x % r ≡ k * (c * r) + x
row_parts k c r x = let e : x / r * r + x % r ≡ x = div-add-mod' x r in omega (arith, e)

-- the quotient is a state
quotient_below : (x c r : ℕ) → 0 < r → x < c * r → x / r < c
quotient_below x c r h l = (div-lt_iff_lt-mul h).1 l

-- by induction over the parents: the quotient is the first one's state
pub world_at_row : (count : ℕ → ℕ) → ((v : ℕ) → 0 < count v) → (us : List ℕ) → Apart us → (x : ℕ) → x < rows_under count us
    → (q : World) × InRange count q × ((v : ℕ) → ¬ (Among v us) → 0 ≡ q v) × ((r : ℕ) → row_from count q r us ≡ r * rows_under count us + x)
world_at_row count has [] a x l = ((λ v. 0), record { state = has }, (λ v n. refl), (λ r. omega arith))
world_at_row count has (u ∷ us) a x l =
    let rows : 0 < rows_under count us = rows_positive count has us in
    let less : x % rows_under count us < rows_under count us = omega arith in
    let r = world_at_row count has us a.1 (x % rows_under count us) less in
    let top : x / rows_under count us < count u = quotient_below x (count u) (rows_under count us) rows l in (
      with_state r.0 u (x / rows_under count us),
      with_in count r.0 u (x / rows_under count us) r.1 top,
      (λ v n. r.2 v (λ m. n (inr m)) ∙ sym (with_other r.0 u (x / rows_under count us) v (λ e. n (inl e)))),
      (λ k. ap (λ y. row_from count (with_state r.0 u (x / rows_under count us)) (k * count u + y) us) (with_same r.0 u (x / rows_under count us))
          ∙ row_from_other count r.0 u (x / rows_under count us) us a.0 (k * count u + x / rows_under count us)
          ∙ r.3 (k * count u + x / rows_under count us)
          ∙ row_parts k (count u) (rows_under count us) x),
    )
