-- Copies of a slot's cells: they may begin, and what they write are cells of the slot.
use Rattle.std.proofs.Common.{◌≡◌, ◌∙◌, ℕ, suc, ◌+◌, ◌-◌, ◌*◌, ◌^◌, ◌<◌, ◌≤◌, Bool, true, false, cond, not, ◌&&◌, ◌==◌, List, [], ◌++◌, take, length, get_or, refl, sym, ap, subst, arith, All, inl}
use Rattle.std.proofs.lemmas.List.{length-map, get_or-map, get_or-take, get_or-append_right, length-take-le, take-take, take-append-le}
use Rattle.finite_sums.specs.Sums.{World, InRange, with_state}
use Rattle.node_sets.specs.declared.sets.NodeSet.{NodeSet}
use Rattle.node_sets.specs.Sets.{holds}
use Rattle.cell_rings.specs.Rings.{Ring}
use Rattle.cell_rings.specs.Sums.{cell_at}
use Rattle.cell_rings.proofs.Runs.{chosen, not_chosen}
use Rattle.factor_core.specs.declared.copies.Step.{Step}
use Rattle.factor_core.specs.Copies.{count_of_steps, IsCopyStep, steps_of, CanCopy}
use Rattle.factor_core.specs.Tables.{AreCounts, listed, states_in, size_from, place_from, stride_of, out_place, size_of}
use Rattle.factor_core.proofs.Collapse.{AllOnce, with_same, out_other}
use Rattle.factor_core.proofs.Copying.{reads_before}
use Rattle.factor_core.proofs.Joining.{place_along, out_extra}
use Rattle.factor_core.proofs.Ordering.{listed_none}
use Rattle.factor_core.proofs.SizeLemmas.{size_later}

pub stride_small : (counts : List ℕ) → AreCounts counts → (s : NodeSet) (v : ℕ) → v < length counts → size_of counts s ≤ 2 ^ 32 → stride_of (states_in counts) (length counts) (holds s) v ≤ 2 ^ 32
stride_small counts are s v below small = bounded (holds s v)
  where
    later : size_from (states_in counts) (holds s) (suc v) (length counts - suc v) ≤ 2 ^ 32
    later =
        let h = size_later (states_in counts) (holds s) are.some (length counts) 0 (suc v) (omega arith) (omega arith) in
        omega (arith, h, small, ap (λ k. size_from (states_in counts) (holds s) 0 k) (let e : length counts - 0 ≡ length counts = omega arith in e))

    bounded : (b : Bool) → cond b (size_from (states_in counts) (holds s) (suc v) (length counts - suc v)) 0 ≤ 2 ^ 32
    bounded true = later
    bounded false = omega arith

-- where each world's place is in the cells, the copy may begin
pub can_copy : (Fit : Type 0) → Fit → (counts : List ℕ) → AreCounts counts → (stride : ℕ → ℕ) → ((v : ℕ) → v < length counts → stride v ≤ 2 ^ 32) → (vs : List ℕ) → All (λ v. v < length counts) vs → AllOnce vs → (from n room : ℕ) → n ≤ 2 ^ 32
    → ((w : World) → InRange (states_in counts) w → from + out_place stride vs w < n) → count_of_steps (steps_of (states_in counts) stride vs) ≤ room
    → CanCopy Fit n (steps_of (states_in counts) stride vs) from room 0
can_copy Fit fit counts are stride near vs below once from n room short reads fits = record {
  fit = fit;
  are_steps = λ i d l.
      let inside : i < length vs = omega (arith, length-map vs (λ v. let a : Step = record { states = states_in counts v; stride = stride v } in a)) in
      let v = get_or vs i 0 in
      let step : IsCopyStep (record { states = states_in counts v; stride = stride v }) = record { some = are.some v; near = near v (below i 0 inside) } in
      subst IsCopyStep (sym (get_or-map (λ u. let a : Step = record { states = states_in counts u; stride = stride u } in a) vs i 0 d inside)) step;
  reads = reads_before (states_in counts) stride n vs from once (λ v. 0) (record { state = are.some }) reads;
  short = short;
  room = omega arith;
}

-- ---- a restriction
module _ (counts : List ℕ) (h : ℕ → Bool) (kept : ℕ → Bool) (x state : ℕ) (inside : x < length counts) (without : (v : ℕ) → kept v ≡ (h v && not (v == x))) where
  none : kept x ≡ false
  none = without x ∙ go (h x) (x == x) (chosen x x true false refl)
    where
      go : (a b : Bool) → cond b true false ≡ true → (a && not b) ≡ false
      go true true e = refl
      go false true e = refl
      go true false e = absurd (let no : false ≡ true = e in cc)
      go false false e = refl

  covers : (u : ℕ) → u < length counts → (u ≡ x → ⊥) → kept u ≡ false → h u ≡ false
  covers u l ne f = go (h u) (u == x) (not_chosen u x true false ne) (sym (without u) ∙ f)
    where
      go : (a b : Bool) → cond b true false ≡ false → (a && not b) ≡ false → a ≡ false
      go a true e k = absurd (let no : true ≡ false = e in cc)
      go true false e k = absurd (let no : true ≡ false = k in cc)
      go false false e k = refl

  -- the walk over the other nodes, from the state's cells on, comes to the place in the world with
  -- that state
  pub restrict_place : (w : World) → state * stride_of (states_in counts) (length counts) h x + out_place (stride_of (states_in counts) (length counts) h) (listed kept 0 (length counts)) w ≡ place_from (states_in counts) h (with_state w x state) 0 (length counts)
  restrict_place w =
      let f = stride_of (states_in counts) (length counts) h in
      let order = listed kept 0 (length counts) in
      let apart = listed_none kept x (length counts) 0 (inl none) in
      let along = place_along (states_in counts) (length counts) x 0 h kept (with_state w x state) inside none covers in
      let extra = out_extra f 0 x order (with_state w x state) in
      let same = ap (λ k. k * f x) (with_same w x state) in
      let other = out_other (states_in counts) f (λ u. []) 0 (λ u. refl) order w x state apart in
      omega (arith, along, extra, same, other)

-- ---- what was written
module _ {C : Type 0} (r : Ring C) (all new copied : List C) (used len : ℕ) (within : used ≤ length all) (long : length copied ≡ len) (is : take (used + len) new ≡ take used all ++ copied) where
  pub copied_kept : take used new ≡ take used all
  copied_kept =
      sym (take-take used (used + len) new (omega arith))
      ∙ ap (take used) is
      ∙ take-append-le used (take used all) copied (let e = length-take-le used all within in omega arith)
      ∙ take-take used used all (omega arith)

  pub copied_at : (p : ℕ) → p < len → cell_at r new (used + p) ≡ cell_at r copied p
  copied_at p l =
      sym (get_or-take (used + len) new (used + p) r.nought (omega arith))
      ∙ ap (λ xs. cell_at r xs (used + p)) is
      ∙ get_or-append_right (take used all) copied used (used + p) r.nought (length-take-le used all within) (omega arith)
      ∙ ap (cell_at r copied) (let d : (used + p) - used ≡ p = omega arith in d)
