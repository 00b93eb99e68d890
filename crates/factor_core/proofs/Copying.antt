-- One level of a copy: the states of the first step one after another, each with the copy over the
-- steps below.
use Rattle.std.proofs.Common.{◌≡◌, ◌∙◌, ℕ, zero, suc, ◌+◌, ◌-◌, ◌*◌, ◌^◌, ◌<◌, ◌≤◌, List, [], ◌∷◌, ◌++◌, take, drop, set, length, get_or, refl, sym, ap, subst, arith, All, append_assoc, inl, inr}
use Rattle.std.proofs.Math.Nat.{mul-le-mul_right}
use Rattle.std.proofs.lemmas.List.{drop_more, drop_all, take_more_set, map_more, length-append, get_or_append_left, get_or-append_right}
use Rattle.std.proofs.lemmas.Bool.{cases_lt}
use Rattle.finite_sums.specs.Sums.{World, InRange, with_state}
use Rattle.maid_model.specs.Nodes.{rows_under}
use Rattle.maid_model.specs.Tables.{row_from}
use Rattle.cell_rings.specs.Rings.{Ring}
use Rattle.cell_rings.specs.Sums.{cell_at}
use Rattle.factor_core.specs.declared.copies.Step.{Step}
use Rattle.factor_core.specs.Copies.{one_by_one, gathered, count_of_steps, IsCopyStep, ReadsBefore, steps_of, CanCopy}
use Rattle.factor_core.specs.Tables.{out_place}
use Rattle.factor_core.proofs.Collapse.{AllOnce, with_same, with_in_range, out_other}
use Rattle.factor_core.proofs.Counts.{row_from_split}

-- the choice of the first state of each step
reads_first : (n : ℕ) (steps : List Step) (from : ℕ) → All IsCopyStep steps → ReadsBefore n steps from → from < n
reads_first n [] from are reads = reads
reads_first n (a ∷ rest) from are reads =
    let first : IsCopyStep a = are 0 a (omega arith) in
    let below = reads_first n rest (from + 0 * a.stride) (λ k d l. are (suc k) d (omega arith)) (reads 0 first.some) in
    omega arith

module _ (Fit : Type 0) (n : ℕ) (a : Step) (rest : List Step) (from len at : ℕ) (can : CanCopy Fit n (a ∷ rest) from len at) where
  pub first_step : IsCopyStep a
  first_step = can.are_steps 0 a (omega arith)

  pub can_next : (s here place now : ℕ) → s < a.states → here ≡ from + s * a.stride → place ≡ at + s * count_of_steps rest → now ≡ len → CanCopy Fit n rest here now place
  can_next s here place now l e f same = record {
    fit = can.fit;
    are_steps = λ k d m. can.are_steps (suc k) d (omega arith);
    reads = subst (ReadsBefore n rest) (sym e) (can.reads s l);
    short = can.short;
    room = (let step : (s + 1) * count_of_steps rest ≤ a.states * count_of_steps rest = mul-le-mul_right (count_of_steps rest) (omega arith) in omega (arith, can.room));
  }

  pub here_fits : (s here : ℕ) → s < a.states → here ≡ from + s * a.stride → here + a.stride < 2 ^ 64
  here_fits s here l e =
      let below = reads_first n rest (from + s * a.stride) (λ k d m. can.are_steps (suc k) d (omega arith)) (can.reads s l) in
      let near = first_step.near in
      omega (arith, can.short)

pub one_more : {C : Type 0} (n : ℕ) (f : ℕ → List C) → one_by_one (n + 1) f ≡ one_by_one n f ++ f n
one_more n f = ap (λ k. one_by_one k f) (let e : n + 1 ≡ suc n = omega arith in e)

-- what was copied with one state more
pub copied_next : {C : Type 0} (n : ℕ) (f : ℕ → List C) (start before after : List C) → before ≡ start ++ one_by_one n f → after ≡ before ++ f n → after ≡ start ++ one_by_one (n + 1) f
copied_next n f start before after e g = g ∙ ap (λ l. l ++ f n) e ∙ append_assoc start (one_by_one n f) (f n) ∙ ap (λ l. start ++ l) (sym (one_more n f))

-- a copy with one state more, and after the last
pub copied_turn : {C : Type 0} (read : ℕ → List C) (from stride s here : ℕ) (start before after : List C) → here ≡ from + s * stride → before ≡ start ++ one_by_one s (λ i. read (from + i * stride)) → after ≡ before ++ read here → after ≡ start ++ one_by_one (s + 1) (λ i. read (from + i * stride))
copied_turn read from stride s here start before after h e g = copied_next s (λ i. read (from + i * stride)) start before after e (g ∙ ap (λ k. before ++ read k) h)

pub copied_all : {C : Type 0} (f : ℕ → List C) (n s : ℕ) (start done : List C) → s ≡ n → done ≡ start ++ one_by_one s f → done ≡ start ++ one_by_one n f
copied_all f n s start done e g = g ∙ ap (λ k. start ++ one_by_one k f) e

-- a cell was written behind those copied so far
pub copied_cell : {C : Type 0} (out : List C) (at : ℕ) (x y : C) → at < length out → x ≡ y → take (at + 1) (set out at x) ≡ take at out ++ y ∷ []
copied_cell out at x y l e = take_more_set out at x l ∙ ap (λ z. take at out ++ z ∷ []) e

-- a list that is not empty is its first item and the rest
abbrev pub first_of : List Step → Step
first_of steps = get_or steps 0 (record { states = 0; stride = 0 })

pub split : (steps : List Step) → 0 < length steps → steps ≡ first_of steps ∷ drop 1 steps
split steps h = drop_more steps 0 (record { states = 0; stride = 0 }) h

-- the same of one item, and of two
pub one_step : (steps : List Step) → length steps ≡ 1 → steps ≡ first_of steps ∷ []
one_step steps h = split steps (omega arith) ∙ ap (λ l. first_of steps ∷ l) (drop_all 1 steps (omega arith))

abbrev pub second_of : List Step → Step
second_of steps = get_or steps 1 (record { states = 0; stride = 0 })

pub two_steps : (steps : List Step) → length steps ≡ 2 → steps ≡ first_of steps ∷ (second_of steps ∷ [])
two_steps steps h = split steps (omega arith) ∙ ap (λ l. first_of steps ∷ l) (drop_more steps 1 (record { states = 0; stride = 0 }) (omega arith) ∙ ap (λ l. second_of steps ∷ l) (drop_all 2 steps (omega arith)))

pub take_behind : {X : Type 0} (xs ys : List X) (m : ℕ) → take (length xs + m) (xs ++ ys) ≡ xs ++ take m ys
take_behind [] ys m = ap (λ k. take k ys) (let e : 0 + m ≡ m = omega arith in e)
take_behind (x ∷ xs) ys m = ap (λ k. take k (x ∷ (xs ++ ys))) (let e : length (x ∷ xs) + m ≡ suc (length xs + m) = omega arith in e) ∙ ap (λ l. x ∷ l) (take_behind xs ys m)

-- ---- which cell stands where
length_in_turn : {C : Type 0} (m n : ℕ) (f : ℕ → List C) → ((i : ℕ) → length (f i) ≡ m) → length (one_by_one n f) ≡ n * m
length_in_turn m zero f len = omega arith
length_in_turn m (suc n) f len = omega (arith, length_in_turn m n f len, len n, length-append (one_by_one n f) (f n))

module _ {C : Type 0} (r : Ring C) where
  pub length-gathered : (cells : List C) (steps : List Step) (from : ℕ) → length (gathered r cells steps from) ≡ count_of_steps steps
  length-gathered cells [] from = refl
  length-gathered cells (a ∷ rest) from = length_in_turn (count_of_steps rest) a.states (λ s. gathered r cells rest (from + s * a.stride)) (λ s. length-gathered cells rest (from + s * a.stride))

  -- a cell of one of several lists of one length
  in_turn : (m n s q : ℕ) (f : ℕ → List C) → ((i : ℕ) → length (f i) ≡ m) → s < n → q < m → cell_at r (one_by_one n f) (s * m + q) ≡ cell_at r (f s) q
  in_turn m zero s q f len l k = absurd (omega arith)
  in_turn m (suc n) s q f len l k =
      elim (cases_lt s n) [
        | inl less ↦
            let step : (s + 1) * m ≤ n * m = mul-le-mul_right m (omega arith) in
            get_or_append_left (one_by_one n f) (f n) r.nought (s * m + q) (let long = length_in_turn m n f len in omega arith) ∙ in_turn m n s q f len less k
        | inr more ↦
            let same : n ≡ s = omega arith in
            get_or-append_right (one_by_one n f) (f n) (n * m) (s * m + q) r.nought (length_in_turn m n f len) (let step = ap (λ x. x * m) same in omega arith)
            ∙ ap (cell_at r (f n)) (let step = ap (λ x. x * m) same in let d : (s * m + q) - n * m ≡ q = omega arith in d)
            ∙ ap (λ x. cell_at r (f x) q) same
      ]

  module _ (count stride : ℕ → ℕ) where
    pub count_is : (vs : List ℕ) → count_of_steps (steps_of count stride vs) ≡ rows_under count vs
    count_is [] = refl
    count_is (v ∷ vs) = ap (λ k. count v * k) (count_is vs)

    pub row_below : (vs : List ℕ) (w : World) → InRange count w → row_from count w 0 vs < rows_under count vs
    row_below [] w i = omega arith
    row_below (v ∷ vs) w i =
        let rest = row_below vs w i in
        let whole = row_from_split count w (0 * count v + w v) vs in
        let step : (w v + 1) * rows_under count vs ≤ count v * rows_under count vs = mul-le-mul_right (rows_under count vs) (let l = i.state v in omega arith) in
        within (w v) (count v) (rows_under count vs) (row_from count w 0 vs) (row_from count w (0 * count v + w v) vs) whole rest step
      where
        within : (s c m q a : ℕ) → a ≡ (0 * c + s) * m + q → q < m → (s + 1) * m ≤ c * m → a < c * m
        within s c m q a e l k = omega arith

    -- the cell at a world's place is the one read there
    pub gathered_at : (cells : List C) (vs : List ℕ) (from : ℕ) (w : World) → InRange count w → cell_at r (gathered r cells (steps_of count stride vs) from) (row_from count w 0 vs) ≡ cell_at r cells (from + out_place stride vs w)
    gathered_at cells [] from w i = ap (cell_at r cells) (let e : from ≡ from + 0 = omega arith in e)
    gathered_at cells (v ∷ vs) from w i =
        ap (cell_at r (gathered r cells (steps_of count stride (v ∷ vs)) from)) (place (w v) (count v) (rows_under count vs) (row_from count w 0 vs) (row_from count w (0 * count v + w v) vs) (row_from_split count w (0 * count v + w v) vs))
        ∙ in_turn (rows_under count vs) (count v) (w v) (row_from count w 0 vs) (λ s. gathered r cells (steps_of count stride vs) (from + s * stride v)) (λ s. length-gathered cells (steps_of count stride vs) (from + s * stride v) ∙ count_is vs) (i.state v) (row_below vs w i)
        ∙ gathered_at cells vs (from + w v * stride v) w i
        ∙ ap (cell_at r cells) (let e : (from + w v * stride v) + out_place stride vs w ≡ from + (w v * stride v + out_place stride vs w) = omega arith in e)
      where
        place : (s c m q a : ℕ) → a ≡ (0 * c + s) * m + q → a ≡ s * m + q
        place s c m q a e = omega arith

-- where every world's place is before n, so is each choice of states
pub reads_before : (count stride : ℕ → ℕ) (n : ℕ) (vs : List ℕ) (from : ℕ) → AllOnce vs → (some : World) → InRange count some → ((w : World) → InRange count w → from + out_place stride vs w < n) → ReadsBefore n (steps_of count stride vs) from
reads_before count stride n [] from once some ok h = (let e = h some ok in omega arith)
reads_before count stride n (v ∷ vs) from once some ok h = λ s l.
    reads_before count stride n vs (from + s * stride v) once.1 some ok
    (λ w i.
    let there = h (with_state w v s) (with_in_range count w v s i l) in
    let same = ap (λ k. k * stride v) (with_same w v s) in
    let other = out_other count stride (λ u. []) 0 (λ u. refl) vs w v s once.0 in
    omega arith)

-- one step more is written
pub steps_more : (count stride : ℕ → ℕ) (steps : List Step) (order : List ℕ) (i s t : ℕ) → i < length steps → i < length order → s ≡ count (get_or order i 0) → t ≡ stride (get_or order i 0) → take i steps ≡ steps_of count stride (take i order)
    → take (i + 1) (set steps i (record { states = s; stride = t })) ≡ steps_of count stride (take (i + 1) order)
steps_more count stride steps order i s t room within few is so_far =
    take_more_set steps i (record { states = s; stride = t }) room
    ∙ (λ k. so_far k ++ record { states = few k; stride = is k } ∷ [])
    ∙ sym (map_more (λ v. record { states = count v; stride = stride v }) order i 0 within)
