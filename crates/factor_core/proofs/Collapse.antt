-- A walk over the nodes of a join adds to each cell of the result the sum over the states of the
-- node x.
use Rattle.std.proofs.Common.{◌≡◌, ℕ, zero, suc, ◌+◌, ◌*◌, ◌/◌, ◌%◌, ◌<◌, ◌≤◌, List, [], ◌∷◌, ◌++◌, drop, length, refl, sym, ap, subst, ◌∙◌, arith, get_or, cond, Bool, true, false, ◌==◌, ◌⊎◌, inl, inr}
use Rattle.std.proofs.Math.Nat.{mul-le-mul_right}
use Rattle.std.proofs.lemmas.List.{drop_at}
use Rattle.std.proofs.lemmas.Bool.{cases_eq, cases_lt}
use Rattle.cell_rings.specs.Rings.{Ring, IsRing}
use Rattle.cell_rings.specs.Sums.{ring_sum, product_at}
use Rattle.cell_rings.proofs.Runs.{chosen, not_chosen}
use Rattle.factor_core.specs.Walks.{shifted, total, AtEach}
use Rattle.finite_sums.specs.Sums.{World, InRange, with_state}
use Rattle.factor_core.specs.Tables.{axes_of, stride_rows, moved, out_place, kept_size}
use Rattle.factor_core.proofs.Shifts.{length-shifted}
use Rattle.cell_rings.proofs.Together.{ring_sum_cong}

-- v is none of the nodes
pub record IsNoneOf (v : ℕ) (vs : List ℕ) : Type 0 where
  pub none : (i : ℕ) → i < length vs → get_or vs i 0 ≡ v → ⊥

-- each node stands once
abbrev pub AllOnce : List ℕ → Type 0
AllOnce [] = Unit {0}
AllOnce (v ∷ vs) = IsNoneOf v vs × AllOnce vs

pub none_first : (v u : ℕ) (vs : List ℕ) → IsNoneOf v (u ∷ vs) → u ≡ v → ⊥
none_first v u vs h e = h.none 0 (omega arith) e

pub none_rest : (v u : ℕ) (vs : List ℕ) → IsNoneOf v (u ∷ vs) → IsNoneOf v vs
none_rest v u vs h = record { none = λ i l e. h.none (suc i) (omega arith) e }

pub with_same : (w : World) (v s : ℕ) → with_state w v s v ≡ s
with_same w v s = chosen v v s (w v) refl

pub with_other : (w : World) (v s u : ℕ) → (u ≡ v → ⊥) → with_state w v s u ≡ w u
with_other w v s u h = not_chosen u v s (w u) h

pub with_in_range : (count : ℕ → ℕ) (w : World) (v s : ℕ) → InRange count w → s < count v → InRange count (with_state w v s)
with_in_range count w v s h l = record {
  state = λ u.
      elim (cases_eq u v) [
        | inl e ↦ subst (λ k. k < count u) (sym (chosen u v s (w u) e)) (subst (λ k. s < count k) (sym e) l)
        | inr ne ↦ subst (λ k. k < count u) (sym (with_other w v s u ne)) (h.state u)
      ];
}

-- strides that follow the row are not read
pub shifted_row : (s : ℕ) (row more places : List ℕ) → length row ≡ length places → shifted s (row ++ more) places ≡ shifted s row places
shifted_row s row more [] e = refl
shifted_row s [] more (p ∷ ps) e = absurd (omega arith)
shifted_row s (d ∷ row) more (p ∷ ps) e = ap (λ l. (p + s * d) ∷ l) (shifted_row s row more ps (omega arith))

module _ (count out : ℕ → ℕ) (row : ℕ → List ℕ) (k : ℕ) (rows : (v : ℕ) → length (row v) ≡ k) where
  -- the state of a node that isn't there
  pub moved_other : (vs : List ℕ) (w : World) (v s : ℕ) (places : List ℕ) → IsNoneOf v vs → moved row vs (with_state w v s) places ≡ moved row vs w places
  moved_other [] w v s places h = refl
  moved_other (u ∷ vs) w v s places h =
      ap (λ x. moved row vs (with_state w v s) (shifted x (row u) places)) (with_other w v s u (none_first v u vs h))
      ∙ moved_other vs w v s (shifted (w u) (row u) places) (none_rest v u vs h)

  pub out_other : (vs : List ℕ) (w : World) (v s : ℕ) → IsNoneOf v vs → out_place out vs (with_state w v s) ≡ out_place out vs w
  out_other [] w v s h = refl
  out_other (u ∷ vs) w v s h =
      let here = with_other w v s u (none_first v u vs h) in
      let rest = out_other vs w v s (none_rest v u vs h) in
      omega (arith, ap (λ x. x * out u) here, rest)

  strides_below : (v : ℕ) (vs places : List ℕ) → length places ≡ k → drop (length places) (row v ++ stride_rows row vs) ≡ stride_rows row vs
  strides_below v vs places e = drop_at (row v) (stride_rows row vs) (length places) (rows v ∙ sym e)

  -- a fact of each world holds at each choice of states
  pub each_choice : (P : List ℕ → ℕ → Type 0) (vs : List ℕ) (places : List ℕ) (at : ℕ) (some : World) → InRange count some → AllOnce vs → length places ≡ k → ((w : World) → InRange count w → P (moved row vs w places) (at + out_place out vs w)) → AtEach P (axes_of count out vs) (stride_rows row vs) places at
  each_choice P [] places at some ok once e h = subst (P places) (let none : at + 0 ≡ at = omega arith in none) (h some ok)
  each_choice P (v ∷ vs) places at some ok once e h = λ s l.
      let below = strides_below v vs places e in
      let here = shifted_row s (row v) (stride_rows row vs) places (rows v ∙ sym e) in
      subst (λ ds. AtEach P (axes_of count out vs) ds (shifted s (row v ++ stride_rows row vs) places) (at + s * out v)) (sym below)
      (subst (λ ps. AtEach P (axes_of count out vs) (stride_rows row vs) ps (at + s * out v)) (sym here)
      (each_choice P vs (shifted s (row v) places) (at + s * out v) some ok once.1 (length-shifted s (row v) places ∙ e)
      (λ w in_range.
      let other = with_state w v s in
      let fact = h other (with_in_range count w v s in_range l) in
      let same = with_same w v s in
      let places_are : moved row (v ∷ vs) other places ≡ moved row vs w (shifted s (row v) places) = ap (λ x. moved row vs other (shifted x (row v) places)) same ∙ moved_other vs w v s (shifted s (row v) places) once.0 in
      let out_is : at + out_place out (v ∷ vs) other ≡ (at + s * out v) + out_place out vs w = omega (arith, ap (λ x. x * out v) same, out_other vs w v s once.0) in
      subst (λ n. P (moved row vs w (shifted s (row v) places)) n) out_is (subst (λ ps. P ps (at + out_place out (v ∷ vs) other)) places_are fact))))

  -- the result's places are those of a table over the nodes but x
  abbrev pub IsRadix : ℕ → List ℕ → Type 0
  IsRadix x [] = Unit {0}
  IsRadix x (v ∷ vs) = (out v ≡ cond (v == x) 0 (kept_size count x vs)) × IsRadix x vs

  pub kept_some : (x : ℕ) (vs : List ℕ) → ((v : ℕ) → 0 < count v) → 0 < kept_size count x vs
  kept_some x [] h = omega arith
  kept_some x (v ∷ vs) h = positive (cond (v == x) 1 (count v)) (kept_size count x vs) (either (v == x)) (kept_some x vs h)
    where
      either : (b : Bool) → 0 < cond b 1 (count v)
      either true = omega arith
      either false = h v

      positive : (m n : ℕ) → 0 < m → 0 < n → 0 < m * n
      positive m n a b = let step : 1 * n ≤ m * n = mul-le-mul_right n a in omega arith

  -- one step of the result's place, at a node that is kept and at x
  out_kept : (x v : ℕ) (vs : List ℕ) → (v ≡ x → ⊥) → IsRadix x (v ∷ vs) → (out v ≡ kept_size count x vs) × (kept_size count x (v ∷ vs) ≡ count v * kept_size count x vs)
  out_kept x v vs ne h = (h.0 ∙ not_chosen v x 0 (kept_size count x vs) ne, ap (λ n. n * kept_size count x vs) (not_chosen v x 1 (count v) ne))

  out_summed : (x v : ℕ) (vs : List ℕ) → v ≡ x → IsRadix x (v ∷ vs) → (out v ≡ 0) × (kept_size count x (v ∷ vs) ≡ kept_size count x vs)
  out_summed x v vs e h = (h.0 ∙ chosen v x 0 (kept_size count x vs) e, ap (λ n. n * kept_size count x vs) (chosen v x 1 (count v) e) ∙ omega arith)

  pub out_within : (x : ℕ) (vs : List ℕ) (w : World) → IsRadix x vs → InRange count w → out_place out vs w < kept_size count x vs
  out_within x [] w h ok = omega arith
  out_within x (v ∷ vs) w h ok =
      let rest = out_within x vs w h.1 ok in
      elim (cases_eq v x) [
        | inl e ↦ let here = out_summed x v vs e h in omega (arith, rest, here.1, ap (λ n. w v * n) here.0)
        | inr ne ↦
            let here = out_kept x v vs ne h in
            let step : (w v + 1) * kept_size count x vs ≤ count v * kept_size count x vs = mul-le-mul_right (kept_size count x vs) (let l = ok.state v in omega arith) in
            omega (arith, rest, here.1, ap (λ n. w v * n) here.0, step)
      ]

  module _ {C : Type 0} (r : Ring C) (laws : IsRing r) where
    -- a sum of one term
    sum_of_none : (n : ℕ) (f : ℕ → C) → ((i : ℕ) → i < n → f i ≡ r.nought) → ring_sum r n f ≡ r.nought
    sum_of_none zero f h = refl
    sum_of_none (suc n) f h =
        let before : ring_sum r n f ≡ r.nought = sum_of_none n f (λ i l. h i (omega arith)) in
        ap (λ x. r.plus x (f n)) before ∙ ap (r.plus r.nought) (h n (omega arith)) ∙ laws.plus_nought r.nought

    sum_of_one : (n i : ℕ) (f : ℕ → C) → i < n → ((j : ℕ) → j < n → (j ≡ i → ⊥) → f j ≡ r.nought) → ring_sum r n f ≡ f i
    sum_of_one zero i f l h = absurd (omega arith)
    sum_of_one (suc n) i f l h =
        elim (cases_eq n i) [
          | inl e ↦
              let before : ring_sum r n f ≡ r.nought = sum_of_none n f (λ j m. h j (omega arith) (λ same. let no : n ≡ j = e ∙ sym same in absurd (omega arith))) in
              ap (λ x. r.plus x (f n)) before ∙ laws.plus_comm r.nought (f n) ∙ laws.plus_nought (f n) ∙ ap f e
          | inr ne ↦
              let before : ring_sum r n f ≡ f i = sum_of_one n i f (let less : i < n = grind arith in less) (λ j m other. h j (omega arith) other) in
              ap (λ x. r.plus x (f n)) before ∙ ap (r.plus (f i)) (h n (omega arith) ne) ∙ laws.plus_nought (f i)
        ]

    module _ (cells : List C) (x : ℕ) where
      -- one level of the walk, over the strides below
      pub total_step : (v : ℕ) (vs places : List ℕ) (at p : ℕ) → length places ≡ k → total r cells (axes_of count out (v ∷ vs)) (stride_rows row (v ∷ vs)) places at p ≡ ring_sum r (count v) (λ s. total r cells (axes_of count out vs) (stride_rows row vs) (shifted s (row v) places) (at + s * out v) p)
      total_step v vs places at p e =
          ring_sum_cong r (count v) _ _
          (λ s.
          ap (λ ds. total r cells (axes_of count out vs) ds (shifted s (row v ++ stride_rows row vs) places) (at + s * out v) p) (strides_below v vs places e)
          ∙ ap (λ ps. total r cells (axes_of count out vs) (stride_rows row vs) ps (at + s * out v) p) (shifted_row s (row v) (stride_rows row vs) places (rows v ∙ sym e)))

      -- nothing is added outside the result's part
      pub total_outside : (vs places : List ℕ) (at p : ℕ) → IsRadix x vs → length places ≡ k → (p < at) ⊎ (at + kept_size count x vs ≤ p) → total r cells (axes_of count out vs) (stride_rows row vs) places at p ≡ r.nought
      total_outside [] places at p h e away = not_chosen p at (product_at r cells places) r.nought (λ same. elim away [ inl l ↦ absurd (omega arith) | inr l ↦ absurd (omega arith) ])
      total_outside (v ∷ vs) places at p h e away =
          total_step v vs places at p e
          ∙ sum_of_none (count v) (λ s. total r cells (axes_of count out vs) (stride_rows row vs) (shifted s (row v) places) (at + s * out v) p)
          (λ s l. total_outside vs (shifted s (row v) places) (at + s * out v) p h.1 (length-shifted s (row v) places ∙ e) (still_away s l))
        where
          still_away : (s : ℕ) → s < count v → (p < at + s * out v) ⊎ ((at + s * out v) + kept_size count x vs ≤ p)
          still_away s l =
              elim (cases_eq v x) [
                | inl same ↦
                    let here = out_summed x v vs same h in
                    let zero_step = ap (λ n. s * n) here.0 in
                    elim away [ inl less ↦ inl (omega arith) | inr more ↦ inr (omega (arith, here.1, zero_step)) ]
                | inr ne ↦
                    let here = out_kept x v vs ne h in
                    let step_is = ap (λ n. s * n) here.0 in
                    let step : (s + 1) * kept_size count x vs ≤ count v * kept_size count x vs = mul-le-mul_right (kept_size count x vs) (let m : s + 1 ≤ count v = omega arith in m) in
                    elim away [ inl less ↦ inl (omega arith) | inr more ↦ inr (omega (arith, here.1, step_is, step)) ]
              ]

      -- the sum over the states of x of the products in the world
      abbrev pub picked : List ℕ → World → List ℕ → C
      picked [] w places = product_at r cells places
      picked (v ∷ vs) w places = cond (v == x) (ring_sum r (count v) (λ s. picked vs w (shifted s (row v) places))) (picked vs w (shifted (w v) (row v) places))

      pub total_at : (vs places : List ℕ) (at : ℕ) (w : World) → IsRadix x vs → length places ≡ k → InRange count w → total r cells (axes_of count out vs) (stride_rows row vs) places at (at + out_place out vs w) ≡ picked vs w places
      total_at [] places at w h e ok = chosen (at + 0) at (product_at r cells places) r.nought (omega arith)
      total_at (v ∷ vs) places at w h e ok =
          total_step v vs places at (at + out_place out (v ∷ vs) w) e
          ∙ elim (cases_eq v x) [
            | inl same ↦
                let here = out_summed x v vs same h in
                ring_sum_cong r (count v) (λ s. total r cells (axes_of count out vs) (stride_rows row vs) (shifted s (row v) places) (at + s * out v) (at + out_place out (v ∷ vs) w)) (λ s. picked vs w (shifted s (row v) places))
                (λ s.
                let none = ap (λ n. s * n) here.0 in
                let mine = ap (λ n. w v * n) here.0 in
                let there : at + out_place out (v ∷ vs) w ≡ (at + s * out v) + out_place out vs w = omega (arith, none, mine) in
                ap (λ p. total r cells (axes_of count out vs) (stride_rows row vs) (shifted s (row v) places) (at + s * out v) p) there
                ∙ total_at vs (shifted s (row v) places) (at + s * out v) w h.1 (length-shifted s (row v) places ∙ e) ok)
                ∙ sym (chosen v x (ring_sum r (count v) (λ s. picked vs w (shifted s (row v) places))) (picked vs w (shifted (w v) (row v) places)) same)
            | inr ne ↦
                let here = out_kept x v vs ne h in
                let within = out_within x vs w h.1 ok in
                let mine = ap (λ n. w v * n) here.0 in
                let there : at + out_place out (v ∷ vs) w ≡ (at + w v * out v) + out_place out vs w = omega arith in
                sum_of_one (count v) (w v) (λ s. total r cells (axes_of count out vs) (stride_rows row vs) (shifted s (row v) places) (at + s * out v) (at + out_place out (v ∷ vs) w)) (ok.state v)
                (λ s l other.
                total_outside vs (shifted s (row v) places) (at + s * out v) (at + out_place out (v ∷ vs) w) h.1 (length-shifted s (row v) places ∙ e)
                (let step_is = ap (λ n. s * n) here.0 in
                elim (cases_lt s (w v)) [
                  | inl less ↦
                      let step : (s + 1) * kept_size count x vs ≤ w v * kept_size count x vs = mul-le-mul_right (kept_size count x vs) (let m : s + 1 ≤ w v = omega arith in m) in
                      inr (omega (arith, step_is, mine, step))
                  | inr more ↦
                      let step : (w v + 1) * kept_size count x vs ≤ s * kept_size count x vs = mul-le-mul_right (kept_size count x vs) (let m : w v + 1 ≤ s = grind arith in m) in
                      inl (omega (arith, step_is, mine, step, within))
                ]))
                ∙ ap (λ p. total r cells (axes_of count out vs) (stride_rows row vs) (shifted (w v) (row v) places) (at + w v * out v) p) there
                ∙ total_at vs (shifted (w v) (row v) places) (at + w v * out v) w h.1 (length-shifted (w v) (row v) places ∙ e) ok
                ∙ sym (not_chosen v x (ring_sum r (count v) (λ s. picked vs w (shifted s (row v) places))) (picked vs w (shifted (w v) (row v) places)) ne)
          ]

      -- without x nothing is summed
      pub picked_kept : (vs places : List ℕ) (w : World) → IsNoneOf x vs → picked vs w places ≡ product_at r cells (moved row vs w places)
      picked_kept [] places w h = refl
      picked_kept (v ∷ vs) places w h =
          not_chosen v x (ring_sum r (count v) (λ s. picked vs w (shifted s (row v) places))) (picked vs w (shifted (w v) (row v) places)) (none_first x v vs h)
          ∙ picked_kept vs (shifted (w v) (row v) places) w (none_rest x v vs h)

      -- the node is among them
      abbrev pub IsAmong : List ℕ → Type 0
      IsAmong [] = ⊥
      IsAmong (v ∷ vs) = (v ≡ x) ⊎ IsAmong vs

      pub picked_is : (vs places : List ℕ) (w : World) → AllOnce vs → IsAmong vs → picked vs w places ≡ ring_sum r (count x) (λ s. product_at r cells (moved row vs (with_state w x s) places))
      picked_is [] places w once h = absurd h
      picked_is (v ∷ vs) places w once h =
          elim (cases_eq v x) [
            | inl same ↦
                chosen v x (ring_sum r (count v) (λ s. picked vs w (shifted s (row v) places))) (picked vs w (shifted (w v) (row v) places)) same
                ∙ ring_sum_cong r (count v) (λ s. picked vs w (shifted s (row v) places)) (λ s. product_at r cells (moved row (v ∷ vs) (with_state w x s) places))
                (λ s.
                let none : IsNoneOf x vs = subst (λ u. IsNoneOf u vs) same once.0 in
                let mine : with_state w x s v ≡ s = chosen v x s (w v) same in
                picked_kept vs (shifted s (row v) places) w none
                ∙ ap (product_at r cells) (sym (moved_other vs w x s (shifted s (row v) places) none) ∙ ap (λ n. moved row vs (with_state w x s) (shifted n (row v) places)) (sym mine)))
                ∙ ap (λ u. ring_sum r (count u) (λ s. product_at r cells (moved row (v ∷ vs) (with_state w x s) places))) same
            | inr ne ↦
                not_chosen v x (ring_sum r (count v) (λ s. picked vs w (shifted s (row v) places))) (picked vs w (shifted (w v) (row v) places)) ne
                ∙ picked_is vs (shifted (w v) (row v) places) w once.1 (elim h [ inl e ↦ absurd (ne e) | inr below ↦ below ])
                ∙ ring_sum_cong r (count x) (λ s. product_at r cells (moved row vs (with_state w x s) (shifted (w v) (row v) places))) (λ s. product_at r cells (moved row (v ∷ vs) (with_state w x s) places))
                (λ s. ap (λ n. product_at r cells (moved row vs (with_state w x s) (shifted n (row v) places))) (sym (with_other w x s v ne)))
          ]

      -- what the walk adds at a world's place
      pub total_is : (vs places : List ℕ) (at : ℕ) (w : World) → AllOnce vs → IsAmong vs → IsRadix x vs → length places ≡ k → InRange count w → total r cells (axes_of count out vs) (stride_rows row vs) places at (at + out_place out vs w) ≡ ring_sum r (count x) (λ s. product_at r cells (moved row vs (with_state w x s) places))
      total_is vs places at w once among h e ok = total_at vs places at w h e ok ∙ picked_is vs places w once among

  -- each place of the result is that of a world
  pub world_at : (x : ℕ) (vs : List ℕ) (q : ℕ) (some : World) → InRange count some → AllOnce vs → IsRadix x vs → ((v : ℕ) → 0 < count v) → q < kept_size count x vs → (w : World) × InRange count w × (out_place out vs w ≡ q)
  world_at x [] q some ok once h positive l = (some, ok, omega arith)
  world_at x (v ∷ vs) q some ok once h positive l =
      elim (cases_eq v x) [
        | inl e ↦
            let here = out_summed x v vs e h in
            let below = world_at x vs q some ok once.1 h.1 positive (omega (arith, here.1)) in
            (below.0, below.1, omega (arith, below.2, ap (λ n. below.0 v * n) here.0))
        | inr ne ↦
            let here = out_kept x v vs ne h in
            let size = kept_size count x vs in
            let some_size : 0 < size = kept_some x vs positive in
            let below = world_at x vs (q % size) some ok once.1 h.1 positive (omega arith) in
            let few : q / size < count v = quotient_below (count v) size q some_size (omega (arith, here.1)) in
            let w = with_state below.0 v (q / size) in (
              w,
              with_in_range count below.0 v (q / size) below.1 few,
              omega (arith, below.2, ap (λ n. n * out v) (with_same below.0 v (q / size)), out_other vs below.0 v (q / size) once.0, ap (λ n. (q / size) * n) here.0),
            )
      ]
    where
      quotient_below : (n m q : ℕ) → 0 < m → q < n * m → q / m < n
      quotient_below n m q some l =
          elim (cases_lt (q / m) n) [
            | inl less ↦ less
            | inr more ↦ let big : n * m ≤ (q / m) * m = mul-le-mul_right m more in absurd (omega arith)
          ]
