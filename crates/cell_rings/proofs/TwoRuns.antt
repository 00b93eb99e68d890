-- Two runs of cells, each times its factor, added to a third: that each step fits, and what is
-- added after it.
use Rattle.std.proofs.Common.{◌≡◌, ℕ, ◌+◌, ◌*◌, ◌<◌, ◌≤◌, List, length, ap, arith, set}
use Rattle.cell_rings.specs.Rings.{Ring}
use Rattle.cell_rings.specs.Sums.{cell_at, two_scaled, two_sizes, AddsTwo, HasRoomForTwo}
use Rattle.cell_rings.specs.declared.pairs.RunPair.{RunPair}
use Rattle.cell_rings.proofs.Runs.{run_room, run_step}
use Rattle.cell_rings.proofs.Together.{AreFactors, two_size}

-- the i-th cells of both runs times their factors may be added up, and then to the cell that stands
-- here
pub record TwoFit {C F : Type 0} (r : Ring C) (of : F → C) (size : F → ℕ) (cells : List C) (pair : RunPair F) (i : ℕ) (here : C) : Type 0 where
  pub sum : two_sizes r size cells pair i ≤ r.most
  pub first : {x : C} → x ≡ cell_at r cells (pair.from + i) → size pair.first * r.size x ≤ r.most
  pub second : {y : C} → y ≡ cell_at r cells (pair.beside + i) → size pair.second * r.size y ≤ r.most
  pub both : {p q : C} → p ≡ r.times (of pair.first) (cell_at r cells (pair.from + i)) → q ≡ r.times (of pair.second) (cell_at r cells (pair.beside + i)) → r.size p + r.size q ≤ r.most
  pub all : {a b : C} → a ≡ here → b ≡ two_scaled r of cells pair i → r.size a + r.size b ≤ r.most

module _ {C F : Type 0} {r : Ring C} {of : F → C} {size : F → ℕ} (factors : AreFactors r of size) (at : ℕ) (cells : List C) (pair : RunPair F) where
  pub two_fit : (n : ℕ) → {xs now : List C} → HasRoomForTwo r size xs at n cells pair → (i : ℕ) → i < n → AddsTwo r of xs now at i cells pair → TwoFit r of size cells pair i (cell_at r now (at + i))
  two_fit n {xs} {now} given i h adds =
      let laws = factors.laws in
      let sizes = factors.sizes in
      let x = cell_at r cells (pair.from + i) in
      let y = cell_at r cells (pair.beside + i) in
      let le = two_size factors cells pair in
      let room = run_room laws sizes n at (two_scaled r of cells pair) (two_sizes r size cells pair) le given i h adds in
      let one = sizes.times (of pair.first) x in
      let other = sizes.times (of pair.second) y in
      let same = ap (λ s. s * r.size x) (factors.same pair.first) in
      let alike = ap (λ s. s * r.size y) (factors.same pair.second) in
      record {
        sum = omega (arith, room);
        first = λ e. omega (arith, room, ap (λ z. size pair.first * r.size z) e);
        second = λ e. omega (arith, room, ap (λ z. size pair.second * r.size z) e);
        both = λ e f. omega (arith, room, ap r.size e, ap r.size f, one, other, same, alike);
        all = λ e f. omega (arith, room, ap r.size e, ap r.size f, le i);
      }

  pub two_step : {xs now : List C} {y : C} → (i : ℕ) → at + i < length now → y ≡ r.plus (cell_at r now (at + i)) (two_scaled r of cells pair i) → AddsTwo r of xs now at i cells pair → AddsTwo r of xs (set now (at + i) y) at (i + 1) cells pair
  two_step i h e adds = run_step factors.laws factors.sizes at (two_scaled r of cells pair) i h e adds
