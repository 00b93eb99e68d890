-- A product of the cells at places, one place after another.
use Rattle.std.proofs.Common.{◌≡◌, ℕ, ◌+◌, ◌*◌, ◌<◌, ◌≤◌, List, drop, length, get_or, sym, ap, subst, ◌∙◌}
use Rattle.std.proofs.lemmas.List.{drop_more, drop_all}
use Rattle.cell_rings.specs.Rings.{Ring, IsRing, IsSize}
use Rattle.cell_rings.specs.Sums.{product_from, product_at, cell_at, ProductFits}
use Rattle.cell_rings.proofs.Adding.{fits_less}

module _ {C : Type 0} {r : Ring C} (laws : IsRing r) (sizes : IsSize r r.size) (cells : List C) (places : List ℕ) where
  -- the next factor
  fits_here : (i : ℕ) (product : C) → i < length places → ProductFits r cells (r.size product) (drop i places) → (r.size product * r.size (cell_at r cells (get_or places i 0)) ≤ r.most) × ProductFits r cells (r.size product * r.size (cell_at r cells (get_or places i 0))) (drop (i + 1) places)
  fits_here i product h fits =
      subst (λ ps. ProductFits r cells (r.size product) ps) (drop_more places i 0 h) fits

  pub next_fits : (i : ℕ) (product cell : C) → i < length places → cell ≡ cell_at r cells (get_or places i 0) → ProductFits r cells (r.size product) (drop i places) → r.size product * r.size cell ≤ r.most
  next_fits i product cell h is fits =
      subst (λ x. r.size product * r.size x ≤ r.most) (sym is) (fits_here i product h fits).0

  pub next_product : (i : ℕ) (product cell new : C) → i < length places → cell ≡ cell_at r cells (get_or places i 0) → new ≡ r.times product cell → product_from r cells product (drop i places) ≡ product_at r cells places → product_from r cells new (drop (i + 1) places) ≡ product_at r cells places
  next_product i product cell new h is times before =
      let first : product_from r cells (r.times product (cell_at r cells (get_or places i 0))) (drop (i + 1) places) ≡ product_at r cells places = subst (λ ps. product_from r cells product ps ≡ product_at r cells places) (drop_more places i 0 h) before in
      ap (λ x. product_from r cells x (drop (i + 1) places)) (times ∙ ap (r.times product) is) ∙ first

  pub fits_behind : (i : ℕ) (product cell new : C) → i < length places → cell ≡ cell_at r cells (get_or places i 0) → new ≡ r.times product cell → ProductFits r cells (r.size product) (drop i places) → ProductFits r cells (r.size new) (drop (i + 1) places)
  fits_behind i product cell new h is times fits =
      let there = times ∙ ap (r.times product) is in
      subst (λ x. ProductFits r cells (r.size x) (drop (i + 1) places)) (sym there)
      (fits_less laws sizes cells (drop (i + 1) places) _ _ (sizes.times product (cell_at r cells (get_or places i 0))) (fits_here i product h fits).1)

  -- no factor is left
  pub whole_product : (i : ℕ) (product : C) → length places ≤ i → product_from r cells product (drop i places) ≡ product_at r cells places → product ≡ product_at r cells places
  whole_product i product h is =
      subst (λ ps. product_from r cells product ps ≡ product_at r cells places) (drop_all i places h) is
