-- Cells that are copied in the order in which they stand: one run.
use Rattle.std.proofs.Common.{◌≡◌, ◌∙◌, ℕ, zero, suc, ◌+◌, ◌*◌, ◌^◌, ◌<◌, ◌≤◌, List, [], ◌∷◌, ◌++◌, refl, sym, ap, arith, All, append_assoc}
use Rattle.std.proofs.lemmas.List.{append-nil}
use Rattle.maid_model.specs.Nodes.{rows_under}
use Rattle.cell_rings.specs.Rings.{Ring}
use Rattle.cell_rings.specs.Sums.{cell_at}
use Rattle.cell_rings.proofs.Runs.{chosen, not_chosen}
use Rattle.factor_core.specs.declared.copies.Step.{Step}
use Rattle.factor_core.specs.Copies.{one_by_one, gathered, IsCopyStep, steps_of, list_stride, CanCopy}
use Rattle.factor_core.proofs.Collapse.{IsNoneOf, AllOnce, none_first, none_rest}
use Rattle.factor_core.proofs.Copying.{row_below}

abbrev pub run_of : ℕ → Step
run_of n = record { states = n; stride = 1 }

module _ {C : Type 0} (r : Ring C) (cells : List C) where
  -- so many cells from a place on, as the copy of one step
  abbrev pub run : ℕ → ℕ → List C
  run n from = gathered r cells (run_of n ∷ []) from

  run_append : (m k from : ℕ) → run m from ++ run k (from + m) ≡ run (m + k) from
  run_append m zero from = append-nil (run m from) ∙ ap (λ j. run j from) (let e : m ≡ m + 0 = omega arith in e)
  run_append m (suc k) from =
      sym (append_assoc (run m from) (run k (from + m)) (cell_at r cells ((from + m) + k * 1) ∷ []))
      ∙ ap (λ l. l ++ cell_at r cells ((from + m) + k * 1) ∷ []) (run_append m k from)
      ∙ ap (λ p. run (m + k) from ++ cell_at r cells p ∷ []) (let e : (from + m) + k * 1 ≡ from + (m + k) * 1 = omega arith in e)
      ∙ ap (λ j. run j from) (let e : suc (m + k) ≡ m + suc k = omega arith in e)

  blocks : (k n from : ℕ) → one_by_one n (λ s. run k (from + s * k)) ≡ run (n * k) from
  blocks k zero from = ap (λ j. run j from) (let e : 0 ≡ 0 * k = omega arith in e)
  blocks k (suc n) from =
      ap (λ l. l ++ run k (from + n * k)) (blocks k n from)
      ∙ run_append (n * k) k from
      ∙ ap (λ j. run j from) (let e : n * k + k ≡ suc n * k = omega arith in e)

  one_same : (n : ℕ) (f g : ℕ → List C) → ((s : ℕ) → f s ≡ g s) → one_by_one n f ≡ one_by_one n g
  one_same zero f g h = refl
  one_same (suc n) f g h = ap (λ l. l ++ f n) (one_same n f g h) ∙ ap (λ l. one_by_one n g ++ l) (h n)

  module _ (count : ℕ → ℕ) where
    -- the strides of the list without its first node
    steps_rest : (v : ℕ) (ws vs : List ℕ) → IsNoneOf v vs → steps_of count (list_stride count (v ∷ ws)) vs ≡ steps_of count (list_stride count ws) vs
    steps_rest v ws [] none = refl
    steps_rest v ws (u ∷ us) none =
        ap (λ k. let a : Step = record { states = count u; stride = k } in a ∷ steps_of count (list_stride count (v ∷ ws)) us) (not_chosen v u (rows_under count ws) (list_stride count ws u) (λ e. none_first v u us none (sym e)))
        ∙ ap (λ l. let a : Step = record { states = count u; stride = list_stride count ws u } in a ∷ l) (steps_rest v ws us (none_rest v u us none))

    pub straight : (vs : List ℕ) (from : ℕ) → AllOnce vs → gathered r cells (steps_of count (list_stride count vs) vs) from ≡ run (rows_under count vs) from
    straight [] from once = ap (λ p. cell_at r cells p ∷ []) (let e : from ≡ from + 0 * 1 = omega arith in e)
    straight (v ∷ vs) from once =
        one_same (count v) (λ s. gathered r cells (steps_of count (list_stride count (v ∷ vs)) vs) (from + s * list_stride count (v ∷ vs) v)) (λ s. run (rows_under count vs) (from + s * rows_under count vs)) (λ s.
        ap (λ k. gathered r cells (steps_of count (list_stride count (v ∷ vs)) vs) (from + s * k)) (chosen v v (rows_under count vs) (list_stride count vs v) refl)
        ∙ ap (λ l. gathered r cells l (from + s * rows_under count vs)) (steps_rest v vs vs once.0)
        ∙ straight vs (from + s * rows_under count vs) once.1)
        ∙ blocks (rows_under count vs) (count v) from

    pub rows_some : ((v : ℕ) → 0 < count v) → (vs : List ℕ) → 0 < rows_under count vs
    rows_some some vs =
        let below = row_below r count (λ v. 0) vs (λ v. 0) (record { state = some }) in
        omega (arith, below)

all_one : (a : Step) → IsCopyStep a → All IsCopyStep (a ∷ [])
all_one a h zero d l = h
all_one a h (suc i) d l = absurd (omega arith)

pub can_run : (Fit : Type 0) → Fit → (n m room : ℕ) → 0 < m → m ≡ n → n ≤ 2 ^ 32 → m ≤ room → CanCopy Fit n (run_of m ∷ []) 0 room 0
can_run Fit fit n m room some same short fits = record {
  fit = fit;
  are_steps = all_one (run_of m) (record { some = some; near = omega arith });
  reads = λ s l. (let e : 0 + s * 1 < n = omega (arith, same) in e);
  short = short;
  room = omega (arith, fits);
}
