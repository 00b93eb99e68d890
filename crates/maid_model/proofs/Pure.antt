-- The rule and the profile of answered choices.
use Rattle.std.proofs.Common.{◌≡◌, ◌∙◌, ℕ, zero, suc, ◌+◌, ◌*◌, ◌<◌, ◌≤◌, cond, eqb, List, [], ◌∷◌, ◌++◌, map, flat_map, length, All, get_or, refl, sym, ap, subst, arith, pos, ◌+ℤ◌, ◌≤ℤ◌, length-append}
use Rattle.std.proofs.lemmas.Int.{ints}
use Rattle.std.proofs.Math.Decide.{ℕ_discrete}
use Rattle.std.proofs.lemmas.List.{length-map, get_or_append_left, get_or-append-add}
use Rattle.std.proofs.lemmas.List.Elements.{All-map}
use Rattle.std.proofs.lemmas.List.FromFn.{length-map-range_with_len, get_or-map-range_with_len}
use Rattle.maid_model.specs.declared.answers.Row.{Row}
use Rattle.maid_model.specs.Answers.{FitsAnswers, pure_profile, rows_at}
use Rattle.maid_model.specs.Nodes.{states_of, rows_of}
use Rattle.maid_model.specs.Profiles.{IsProfile, IsRule, pure_row, pure_rule}
use Rattle.finite_sums.specs.Sums.{sum_below}
use Rattle.maid_model.specs.Tables.{IsTable}
use Rattle.maid_model.specs.Views.{NodeView, RuleView, AnswerView}
use Rattle.maid_model.proofs.Found.{eqb_yes, eqb_no}
use Rattle.maid_model.proofs.Made.{made_is_profile}
use Rattle.finite_sums.proofs.Sums.{sum_below_cong}

abbrev pub pure_at : List NodeView → List AnswerView → ℕ → RuleView
pure_at nodes answers v = pure_rule nodes v (map (λ r. r.choice) (rows_at answers v))

-- ---- one state of each row has weight 1
abbrev chosen : ℕ → ℕ → ℕ
chosen c s = cond (eqb s c) 1 0

sum_none : (n c : ℕ) → n ≤ c → sum_below n (λ s. pos (chosen c s)) ≡ pos 0
sum_none zero c h = refl
sum_none (suc n) c h =
    let a : sum_below n (λ s. pos (chosen c s)) ≡ pos 0 = sum_none n c (omega arith) in
    let b : pos (chosen c n) ≡ pos 0 = ap (λ t. pos (cond t 1 0)) (eqb_no n c (omega arith)) in
    omega (arith, ints)

sum_one : (n c : ℕ) → c < n → sum_below n (λ s. pos (chosen c s)) ≡ pos 1
sum_one zero c h = absurd (omega arith)
sum_one (suc n) c h = go (ℕ_discrete n c) (sum_one n c)
  where
    go : Dec (n ≡ c) → (c < n → sum_below n (λ s. pos (chosen c s)) ≡ pos 1) → sum_below n (λ s. pos (chosen c s)) +ℤ pos (chosen c n) ≡ pos 1
    go (yes e) r =
        let a : sum_below n (λ s. pos (chosen c s)) ≡ pos 0 = sum_none n c (omega arith) in
        let b : pos (chosen c n) ≡ pos 1 = ap (λ t. pos (cond t 1 0)) (eqb_yes n c e) in
        omega (arith, ints)
    go (no m) r =
        let a : sum_below n (λ s. pos (chosen c s)) ≡ pos 1 = r (omega arith) in
        let b : pos (chosen c n) ≡ pos 0 = ap (λ t. pos (cond t 1 0)) (eqb_no n c m) in
        omega (arith, ints)

pos_at : (xs : List ℕ) (i : ℕ) → get_or (map pos xs) i (pos 0) ≡ pos (get_or xs i 0)
pos_at [] i = refl
pos_at (x ∷ xs) zero = refl
pos_at (x ∷ xs) (suc i) = pos_at xs i

not_below : (n : ℕ) → pos 0 ≤ℤ pos n
not_below n = omega (arith, ints)

row_length : (states c : ℕ) → length (pure_row states c) ≡ states
row_length states c = length-map-range_with_len (chosen c) 0 states

pub rows_length : (states : ℕ) (choices : List ℕ) → length (flat_map (pure_row states) choices) ≡ length choices * states
rows_length states [] = none states
  where
    none : (n : ℕ) → 0 ≡ 0 * n
    none n = omega arith
rows_length states (c ∷ choices) =
    let a : length (pure_row states c) ≡ states = row_length states c in
    let b : length (flat_map (pure_row states) choices) ≡ length choices * states = rows_length states choices in
    length-append (pure_row states c) (flat_map (pure_row states) choices) ∙ (λ i. a i + b i) ∙ more states (length choices)
  where
    more : (n k : ℕ) → n + k * n ≡ suc k * n
    more n k = omega arith

-- the weight of a state in a row
weight_at : (states : ℕ) (choices : List ℕ) (r s : ℕ) → r < length choices → s < states → get_or (flat_map (pure_row states) choices) (r * states + s) 0 ≡ chosen (get_or choices r 0) s
weight_at states [] r s h k = absurd (omega arith)
weight_at states (c ∷ choices) zero s h k =
    ap (λ i. get_or (pure_row states c ++ flat_map (pure_row states) choices) i 0) (first states s)
    ∙ get_or_append_left (pure_row states c) (flat_map (pure_row states) choices) 0 s (subst (λ n. s < n) (sym (row_length states c)) k)
    ∙ get_or-map-range_with_len (chosen c) 0 states s s 0 k (from_nought s)
  where
    first : (states s : ℕ) → 0 * states + s ≡ s
    first states s = omega arith

    from_nought : (s : ℕ) → 0 + s ≡ s
    from_nought s = omega arith
weight_at states (c ∷ choices) (suc r) s h k =
    ap (λ i. get_or (pure_row states c ++ flat_map (pure_row states) choices) i 0) (next states r s ∙ ap (λ n. n + (r * states + s)) (sym (row_length states c)))
    ∙ get_or-append-add (pure_row states c) (flat_map (pure_row states) choices) (r * states + s) 0
    ∙ weight_at states choices r s (omega arith) k
  where
    next : (states r s : ℕ) → suc r * states + s ≡ states + (r * states + s)
    next states r s = omega arith

pure_table : (states : ℕ) (choices : List ℕ) → All (λ c. c < states) choices → IsTable (map pos (flat_map (pure_row states) choices)) (length choices) states 1
pure_table states choices inside = record {
  len = length-map (flat_map (pure_row states) choices) pos ∙ rows_length states choices;
  not_negative = λ i. subst (λ x. pos 0 ≤ℤ x) (sym (pos_at (flat_map (pure_row states) choices) i)) (not_below (get_or (flat_map (pure_row states) choices) i 0));
  row = λ r h.
      sum_below_cong states (λ s. get_or (map pos (flat_map (pure_row states) choices)) (r * states + s) (pos 0)) (λ s. pos (chosen (get_or choices r 0) s))
      (λ s k. pos_at (flat_map (pure_row states) choices) (r * states + s) ∙ ap pos (weight_at states choices r s h k))
      ∙ sum_one states (get_or choices r 0) (inside r 0 h);
}

-- the rule of choices in range, one for each row, is a rule of the decision
pub pure_is_rule : (nodes : List NodeView) (v : ℕ) (rows : List Row) → length rows ≡ rows_of nodes v → All (λ r. r.choice < states_of nodes v) rows → IsRule nodes (pure_rule nodes v (map (λ r. r.choice) rows))
pure_is_rule nodes v rows each inside = record {
  positive = omega arith;
  table = subst (λ n. IsTable (map pos (flat_map (pure_row (states_of nodes v)) (map (λ r. r.choice) rows))) n (states_of nodes v) 1) (length-map rows (λ (r : Row). r.choice) ∙ each)
      (pure_table (states_of nodes v) (map (λ r. r.choice) rows) (All-map (λ c. c < states_of nodes v) (λ (r : Row). r.choice) rows inside));
}

pub pure_is_profile : (nodes : List NodeView) (answers : List AnswerView) → FitsAnswers nodes answers → IsProfile nodes (pure_profile nodes answers)
pure_is_profile nodes answers fits = made_is_profile nodes (pure_at nodes answers) (λ v. refl) (λ v d. pure_is_rule nodes v (rows_at answers v) (fits v d).0 (fits v d).1)
