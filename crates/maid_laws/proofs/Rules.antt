-- Profiles as one rule for each decision: looked up, uniform, and pure.
use Rattle.std.proofs.Common.{◌≡◌, ◌≢◌, ◌⊎◌, ◌∙◌, ℕ, zero, suc, ◌+◌, ◌*◌, ◌<◌, true, cond, eqb, List, [], ◌∷◌, map, replicate, slice_index, refl, sym, ap, inl, inr, arith, pos}
use Rattle.std.proofs.lemmas.Int.{ints}
use Rattle.std.proofs.Math.Decide.{ℕ_discrete}
use Rattle.maid_model.specs.declared.diagrams.Kind.{Kind}
use Rattle.maid_model.specs.declared.diagrams.Kind.TheVariants.{Chance, Decision, Utility}
use Rattle.maid_model.specs.Nodes.{IsDecision, node_at, states_of, rows_of, numbers_of, decisions_of, is_decision}
use Rattle.maid_model.specs.Profiles.{uniform_rule, uniform_profile}
use Rattle.finite_sums.specs.Sums.{World, InRange, sum_below}
use Rattle.maid_model.specs.Tables.{weights_of, table, table_by, cell_of, row_of}
use Rattle.maid_model.specs.Views.{NodeView, RuleView}
use Rattle.finite_sums.specs.Members.{Among}
use Rattle.maid_model.proofs.Tables.{row_of-below, step_below}
use Rattle.maid_laws.proofs.Booleans.{eqb_yes, eqb_no}
use Rattle.maid_laws.proofs.Basis.{among_filter_in}
use Rattle.maid_laws.proofs.Profiles.{ones_at}
use Rattle.maid_laws.proofs.Rearranged.{number}

-- ---- rules looked up
module _ (f : ℕ → RuleView) (own : (v : ℕ) → (f v).decision ≡ v) where
  -- the weights of a decision of the list
  pub weights_map : (ds : List ℕ) (v : ℕ) → Among v ds → weights_of (map f ds) v ≡ (f v).weights
  weights_map [] v m = absurd m
  weights_map (d ∷ ds) v m = go (ℕ_discrete d v) m (λ k. weights_map ds v k)
    where
      go : Dec (d ≡ v) → (v ≡ d) ⊎ Among v ds → (Among v ds → weights_of (map f ds) v ≡ (f v).weights) → cond (eqb (f d).decision v) (f d).weights (weights_of (map f ds) v) ≡ (f v).weights
      go (yes e) n r = ap (λ b. cond b (f d).weights (weights_of (map f ds) v)) (eqb_yes (f d).decision v (own d ∙ e)) ∙ ap (λ x. (f x).weights) e
      go (no n) (inl e) r = absurd (n (sym e))
      go (no n) (inr k) r = ap (λ b. cond b (f d).weights (weights_of (map f ds) v)) (eqb_no (f d).decision v (λ e. n (sym (own d) ∙ e))) ∙ r k

-- ---- the decisions
pub among_decisions : (nodes : List NodeView) (v : ℕ) → IsDecision nodes v → Among v (decisions_of nodes)
among_decisions nodes v d = among_filter_in (λ v. is_decision (node_at nodes v).kind) v (numbers_of nodes) (number nodes v d.within) (ap is_decision d.kind)

-- the kind that passes
pub decision_kind : (k : Kind) → is_decision k ≡ true → k ≡ Decision
decision_kind Chance h = cc
decision_kind Decision h = refl
decision_kind Utility h = cc

-- ---- the uniform profile
pub uniform_weights : (nodes : List NodeView) (v : ℕ) → IsDecision nodes v → weights_of (uniform_profile nodes) v ≡ replicate (rows_of nodes v * states_of nodes v) 1
uniform_weights nodes v d = weights_map (uniform_rule nodes) (λ v. refl) (decisions_of nodes) v (among_decisions nodes v d)

-- a rule of uniform weights is 1 in every world
pub uniform_like : (nodes : List NodeView) (p : List RuleView) (v : ℕ) → IsDecision nodes v → weights_of p v ≡ weights_of (uniform_profile nodes) v → (w : World) → InRange (states_of nodes) w → table nodes p v w ≡ pos 1
uniform_like nodes p v d e w i =
    ap (λ x. table_by x (node_at nodes v).cells (weights_of p v) (cell_of nodes v w)) d.kind
    ∙ ap (λ ws. pos (slice_index ws (cell_of nodes v w))) (e ∙ uniform_weights nodes v d)
    ∙ ap pos (ones_at nodes (rows_of nodes v * states_of nodes v) (cell_of nodes v w) (step_below (row_of nodes v w) (rows_of nodes v) (states_of nodes v) (w v) (row_of-below nodes v w i) (i.state v)))

-- ---- pure rules: of numbers that add up to 1 one is 1 and the others are 0
sum_natural : (n : ℕ) (f : ℕ → ℕ) → (s : ℕ) × (sum_below n (λ i. pos (f i)) ≡ pos s)
sum_natural zero f = (0, refl)
sum_natural (suc n) f = let r = sum_natural n f in (r.0 + f n, let e : sum_below n (λ i. pos (f i)) ≡ pos r.0 = r.1 in omega (arith, ints))

-- none of those that add up to nought is positive
sum_zero : (n : ℕ) (f : ℕ → ℕ) → sum_below n (λ i. pos (f i)) ≡ pos 0 → (i : ℕ) → i < n → f i ≡ 0
sum_zero zero f h i l = absurd (omega arith)
sum_zero (suc n) f h i l =
    let a = sum_natural n f in
    let b : sum_below n (λ i. pos (f i)) ≡ pos a.0 = a.1 in
    go (ℕ_discrete i n) (let z : f n ≡ 0 = omega (arith, ints) in z) (λ k. sum_zero n f (omega (arith, ints)) i k)
  where
    less : (i n : ℕ) → i < suc n → i ≢ n → i < n
    less i n l m = omega arith

    go : Dec (i ≡ n) → f n ≡ 0 → (i < n → f i ≡ 0) → f i ≡ 0
    go (yes e) z r = ap f e ∙ z
    go (no m) z r = r (less i n l m)

-- by induction: the last is 1 and the others are 0, or it is 0
pub one_of : (n : ℕ) (f : ℕ → ℕ) → sum_below n (λ i. pos (f i)) ≡ pos 1 → (c : ℕ) × (c < n) × ((i : ℕ) → i < n → pos (f i) ≡ cond (eqb i c) (pos 1) (pos 0))
one_of zero f h = absurd (let e : pos 0 ≡ pos 1 = h in omega (arith, ints))
one_of (suc n) f h = go (f n) refl (sum_natural n f).0 (sum_natural n f).1 (λ e. one_of n f e)
  where
    less : (i n : ℕ) → i < suc n → i ≢ n → i < n
    less i n l m = omega arith

    here : f n ≡ 1 → sum_below n (λ i. pos (f i)) ≡ pos 0 → (c : ℕ) × (c < suc n) × ((i : ℕ) → i < suc n → pos (f i) ≡ cond (eqb i c) (pos 1) (pos 0))
    here e z = (n, omega arith, λ i l. at i l (ℕ_discrete i n))
      where
        at : (i : ℕ) → i < suc n → Dec (i ≡ n) → pos (f i) ≡ cond (eqb i n) (pos 1) (pos 0)
        at i l (yes k) = ap (λ x. pos (f x)) k ∙ ap pos e ∙ sym (ap (λ b. cond b (pos 1) (pos 0)) (eqb_yes i n k))
        at i l (no k) = ap pos (sum_zero n f z i (less i n l k)) ∙ sym (ap (λ b. cond b (pos 1) (pos 0)) (eqb_no i n k))

    there : f n ≡ 0 → (c : ℕ) × (c < n) × ((i : ℕ) → i < n → pos (f i) ≡ cond (eqb i c) (pos 1) (pos 0)) → (c : ℕ) × (c < suc n) × ((i : ℕ) → i < suc n → pos (f i) ≡ cond (eqb i c) (pos 1) (pos 0))
    there e r = (r.0, (let l : r.0 < n = r.1 in omega arith), λ i l. at i l (ℕ_discrete i n))
      where
        other : r.0 < n → n ≢ r.0
        other l = omega arith

        at : (i : ℕ) → i < suc n → Dec (i ≡ n) → pos (f i) ≡ cond (eqb i r.0) (pos 1) (pos 0)
        at i l (yes k) = ap (λ x. pos (f x)) k ∙ ap pos e ∙ sym (ap (λ b. cond b (pos 1) (pos 0)) (eqb_no i r.0 (λ m. other r.1 (sym k ∙ m))))
        at i l (no k) = r.2 i (less i n l k)

    go : (x : ℕ) → f n ≡ x → (s : ℕ) → sum_below n (λ i. pos (f i)) ≡ pos s → (sum_below n (λ i. pos (f i)) ≡ pos 1 → (c : ℕ) × (c < n) × ((i : ℕ) → i < n → pos (f i) ≡ cond (eqb i c) (pos 1) (pos 0)))
        → (c : ℕ) × (c < suc n) × ((i : ℕ) → i < suc n → pos (f i) ≡ cond (eqb i c) (pos 1) (pos 0))
    go zero e s z r = there e (r (omega (arith, ints)))
    go (suc zero) e s z r = here e (omega (arith, ints))
    go (suc (suc x)) e s z r = absurd (omega (arith, ints))
