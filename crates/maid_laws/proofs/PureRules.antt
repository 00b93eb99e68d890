-- The pure profile of answered choices: a rule of total 1 at each decision, with the weight 1 at
-- the choice of each row.
use Rattle.std.proofs.Common.{◌≡◌, ◌⊎◌, ◌∙◌, ℕ, zero, suc, ◌+◌, ◌-◌, ◌*◌, ◌<◌, Bool, true, false, cond, eqb, flat_map, List, [], ◌∷◌, ◌++◌, map, length, slice_index, slice_index_or, refl, sym, ap, subst, inl, inr, arith}
use Rattle.std.proofs.lemmas.List.{length-map, get_or_append_left, get_or-append_right}
use Rattle.std.proofs.lemmas.List.FromFn.{get_or-map-range_with_len}
use Rattle.std.proofs.lemmas.List.Elements.{All-head, All-tail}
use Rattle.std.specs.List.{range_with_len}
use Rattle.std.specs.Prelude.{All}
use Rattle.maid_model.specs.declared.answers.Row.{Row}
use Rattle.maid_model.specs.Answers.{FitsAnswer, pure_profile, rows_at, no_row}
use Rattle.maid_model.specs.Nodes.{IsDecision, states_of, rows_of, decisions_of}
use Rattle.maid_model.specs.Profiles.{pure_row, pure_rule}
use Rattle.maid_model.specs.Tables.{weights_of, rule_total}
use Rattle.maid_model.specs.Views.{NodeView, AnswerView}
use Rattle.maid_model.proofs.Made.{made_total}
use Rattle.finite_sums.specs.Members.{Among}
use Rattle.maid_laws.proofs.Booleans.{eqb_yes, eqb_same}
use Rattle.maid_laws.proofs.Rearranged.{length_range}
use Rattle.maid_laws.proofs.Rules.{weights_map, among_decisions}

-- ---- the weights of pure rows
length_row : (n c : ℕ) → length (pure_row n c) ≡ n
length_row n c = length-map (range_with_len 0 n) (λ s. cond (eqb s c) 1 0) ∙ length_range 0 n

-- it is 1 at the choice
at_row : (n c s : ℕ) → s < n → slice_index (pure_row n c) s ≡ cond (eqb s c) 1 0
at_row n c s l = get_or-map-range_with_len (λ s. cond (eqb s c) 1 0) 0 n s s 0 l (omega arith)

-- by induction over the rows
pub at_rows : (n : ℕ) (cs : List ℕ) (r s : ℕ) → r < length cs → s < n → slice_index (flat_map (pure_row n) cs) (r * n + s) ≡ cond (eqb s (slice_index cs r)) 1 0
at_rows n [] r s l m = absurd (omega arith)
at_rows n (c ∷ cs) zero s l m =
    let len : length (pure_row n c) ≡ n = length_row n c in
    ap (slice_index (pure_row n c ++ flat_map (pure_row n) cs)) (first n s)
    ∙ get_or_append_left (pure_row n c) (flat_map (pure_row n) cs) 0 s (omega arith)
    ∙ at_row n c s m
  where
    first : (n s : ℕ) → 0 * n + s ≡ s
    first n s = omega arith
at_rows n (c ∷ cs) (suc r) s l m =
    get_or-append_right (pure_row n c) (flat_map (pure_row n) cs) n (suc r * n + s) 0 (length_row n c) (omega arith)
    ∙ ap (slice_index (flat_map (pure_row n) cs)) (rest r n s)
    ∙ at_rows n cs r s (omega arith) m
  where
    rest : (r n s : ℕ) → suc r * n + s - n ≡ r * n + s
    rest r n s = omega arith

-- ---- the rows answered at a decision
at_choice : (rows : List Row) (row : ℕ) → slice_index (map (λ r. r.choice) rows) row ≡ (slice_index_or rows row no_row).choice
at_choice [] row = refl
at_choice (r ∷ rows) zero = refl
at_choice (r ∷ rows) (suc row) = at_choice rows row

-- the rows of the decision fit
abbrev pub FitsRows : List NodeView → ℕ → List Row → Type 0
FitsRows nodes v rows = (length rows ≡ rows_of nodes v) × All (λ r. r.choice < states_of nodes v) rows

-- the first answer of the decision is found, and fits
pub fits_rows : (nodes : List NodeView) (answers : List AnswerView) (v : ℕ) → All (FitsAnswer nodes) answers → Among v (map (λ a. a.decision) answers) → FitsRows nodes v (rows_at answers v)
fits_rows nodes [] v h m = absurd m
fits_rows nodes (a ∷ answers) v h m = go (eqb a.decision v) refl m (λ k. fits_rows nodes answers v (All-tail (FitsAnswer nodes) a answers h) k)
  where
    fits : FitsAnswer nodes a
    fits = All-head (FitsAnswer nodes) a answers h

    here : a.decision ≡ v → FitsRows nodes v a.rows
    here e = subst (λ x. FitsRows nodes x a.rows) e (fits.rows, fits.choices)

    other : eqb a.decision v ≡ false → v ≡ a.decision → ⊥
    other f e = let t : eqb a.decision v ≡ true = eqb_yes a.decision v (sym e) in let u : true ≡ false = sym t ∙ f in cc

    go : (b : Bool) → eqb a.decision v ≡ b → (v ≡ a.decision) ⊎ Among v (map (λ a. a.decision) answers) → (Among v (map (λ a. a.decision) answers) → FitsRows nodes v (rows_at answers v)) → FitsRows nodes v (cond b a.rows (rows_at answers v))
    go true e k r = here (eqb_same a.decision v e)
    go false e (inl f) r = absurd (other e f)
    go false e (inr k) r = r k

-- ---- the pure profile
module _ (nodes : List NodeView) (answers : List AnswerView) where
  -- its weights
  pub pure_weights : (v : ℕ) → IsDecision nodes v → weights_of (pure_profile nodes answers) v ≡ flat_map (pure_row (states_of nodes v)) (map (λ r. r.choice) (rows_at answers v))
  pure_weights v d = weights_map (λ v. pure_rule nodes v (map (λ r. r.choice) (rows_at answers v))) (λ v. refl) (decisions_of nodes) v (among_decisions nodes v d)

  -- its total
  pub pure_total : (v : ℕ) → IsDecision nodes v → rule_total (pure_profile nodes answers) v ≡ 1
  pure_total v d = made_total (λ v. pure_rule nodes v (map (λ r. r.choice) (rows_at answers v))) (λ v. refl) (decisions_of nodes) v (among_decisions nodes v d)

  module _ (fits : (v : ℕ) → IsDecision nodes v → FitsRows nodes v (rows_at answers v)) where
    -- a choice for each row
    count_choices : (v : ℕ) → IsDecision nodes v → length (map (λ r. r.choice) (rows_at answers v)) ≡ rows_of nodes v
    count_choices v d = length-map (rows_at answers v) (λ r. r.choice) ∙ (fits v d).0

    -- the state of weight 1 is the answered choice
    pub pure_choice : (v row choice : ℕ) → IsDecision nodes v → row < rows_of nodes v → choice < states_of nodes v
        → slice_index (weights_of (pure_profile nodes answers) v) (row * states_of nodes v + choice) ≡ 1 → choice ≡ (slice_index_or (rows_at answers v) row no_row).choice
    pure_choice v row choice d l m e =
        is_one (eqb choice (slice_index (map (λ r. r.choice) (rows_at answers v)) row)) refl
        (sym (at_rows (states_of nodes v) (map (λ r. r.choice) (rows_at answers v)) row choice (subst (λ n. row < n) (sym (count_choices v d)) l) m) ∙ ap (λ ws. slice_index ws (row * states_of nodes v + choice)) (sym (pure_weights v d)) ∙ e)
        ∙ at_choice (rows_at answers v) row
      where
        is_one : (b : Bool) → eqb choice (slice_index (map (λ r. r.choice) (rows_at answers v)) row) ≡ b → ◌≡◌ {A = ℕ} (cond b 1 0) 1 → choice ≡ slice_index (map (λ r. r.choice) (rows_at answers v)) row
        is_one true f h = eqb_same choice (slice_index (map (λ r. r.choice) (rows_at answers v)) row) f
        is_one false f h = absurd (let z : ◌≡◌ {A = ℕ} 0 1 = h in omega arith)
