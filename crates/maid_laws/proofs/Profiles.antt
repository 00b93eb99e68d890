-- Profiles with some rules replaced.
use Rattle.std.proofs.Common.{◌≡◌, ◌≢◌, ◌⊎◌, ◌∙◌, ℕ, zero, suc, ◌+◌, ◌*◌, ◌<◌, cond, List, [], ◌∷◌, map, length, replicate, slice_index, slice_index_or, refl, sym, ap, subst, inl, inr, ℤ, pos, ◌≤ℤ◌, arith}
use Rattle.std.proofs.lemmas.Int.{ints}
use Rattle.std.proofs.lemmas.List.{length-map}
use Rattle.std.proofs.Math.ListN.{length-replicate}
use Rattle.std.proofs.Math.Decide.{ℕ_discrete}
use Rattle.maid_model.specs.declared.diagrams.Kind.{Kind}
use Rattle.maid_model.specs.declared.diagrams.Kind.TheVariants.{Chance, Decision, Utility}
use Rattle.finite_sums.specs.Members.{Among}
use Rattle.maid_model.proofs.Setting.{TableFits, HasTables}
use Rattle.maid_model.specs.Nodes.{node_at, states_of, rows_under}
use Rattle.finite_sums.specs.Sums.{World, sum_below, InRange}
use Rattle.maid_model.specs.Tables.{row_of, cell_of, table, table_by, weights_of, rule_total, weight_total, total_by, chance_total, IsTable}
use Rattle.maid_model.specs.Profiles.{uniform_rule}
use Rattle.maid_model.specs.Views.{NodeView, RuleView}
use Rattle.finite_sums.proofs.Sums.{sum_below_cong}
use Rattle.maid_model.proofs.Tables.{row_of-below, step_below}
use Rattle.finite_sums.proofs.Lists.{decide_among}
use Rattle.maid_laws.proofs.Booleans.{eqb_yes, eqb_no}

-- p with the rule of s at d
abbrev pub put_rule : ℕ → List RuleView → List RuleView → List RuleView
put_rule d s p = record { decision = d; total = rule_total s d; weights = weights_of s d } ∷ p

-- d has the rule of s
pub put_weights : (d : ℕ) (s p : List RuleView) (v : ℕ) → v ≡ d → weights_of (put_rule d s p) v ≡ weights_of s v
put_weights d s p v e = ap (λ b. cond b (weights_of s d) (weights_of p v)) (eqb_yes d v (sym e)) ∙ ap (weights_of s) (sym e)

pub put_total : (d : ℕ) (s p : List RuleView) (v : ℕ) → v ≡ d → rule_total (put_rule d s p) v ≡ rule_total s v
put_total d s p v e = ap (λ b. cond b (rule_total s d) (rule_total p v)) (eqb_yes d v (sym e)) ∙ ap (rule_total s) (sym e)

-- other decisions keep theirs
pub other_weights : (d : ℕ) (s p : List RuleView) (v : ℕ) → v ≢ d → weights_of (put_rule d s p) v ≡ weights_of p v
other_weights d s p v n = ap (λ b. cond b (weights_of s d) (weights_of p v)) (eqb_no d v (λ e. n (sym e)))

pub other_total : (d : ℕ) (s p : List RuleView) (v : ℕ) → v ≢ d → rule_total (put_rule d s p) v ≡ rule_total p v
other_total d s p v n = ap (λ b. cond b (rule_total s d) (rule_total p v)) (eqb_no d v (λ e. n (sym e)))

module _ (nodes : List NodeView) where
  -- v's table fits
  abbrev Fits : List RuleView → ℕ → Type 0
  Fits p v = TableFits (node_at nodes v).kind (node_at nodes v).cells (weights_of p v) (rows_under (states_of nodes) (node_at nodes v).parents) (states_of nodes v) (weight_total nodes p v)

  -- that depends on v's rule alone
  fits_like : (p r : List RuleView) (v : ℕ) → weights_of p v ≡ weights_of r v → rule_total p v ≡ rule_total r v → Fits p v → Fits r v
  fits_like p r v e f h =
      subst (λ n. TableFits (node_at nodes v).kind (node_at nodes v).cells (weights_of r v) (rows_under (states_of nodes) (node_at nodes v).parents) (states_of nodes v) (total_by (node_at nodes v).kind (chance_total nodes v) n)) f
      (subst (λ ws. TableFits (node_at nodes v).kind (node_at nodes v).cells ws (rows_under (states_of nodes) (node_at nodes v).parents) (states_of nodes v) (weight_total nodes p v)) e h)

  -- and so does its total
  pub total_like : (p r : List RuleView) (v : ℕ) → rule_total p v ≡ rule_total r v → weight_total nodes p v ≡ weight_total nodes r v
  total_like p r v f = ap (total_by (node_at nodes v).kind (chance_total nodes v)) f

  -- each table is one of s or of p
  pub put_tables : (d : ℕ) (s p : List RuleView) → HasTables nodes s → HasTables nodes p → HasTables nodes (put_rule d s p)
  put_tables d s p hs hp = record { positive = λ v. positive v (ℕ_discrete v d); at = λ v l. at v l (ℕ_discrete v d) }
    where
      positive : (v : ℕ) → Dec (v ≡ d) → 0 < weight_total nodes (put_rule d s p) v
      positive v (yes e) = subst (λ n. 0 < n) (total_like s (put_rule d s p) v (sym (put_total d s p v e))) (hs.positive v)
      positive v (no n) = subst (λ n. 0 < n) (total_like p (put_rule d s p) v (sym (other_total d s p v n))) (hp.positive v)

      at : (v : ℕ) → v < length nodes → Dec (v ≡ d) → Fits (put_rule d s p) v
      at v l (yes e) = fits_like s (put_rule d s p) v (sym (put_weights d s p v e)) (sym (put_total d s p v e)) (hs.at v l)
      at v l (no n) = fits_like p (put_rule d s p) v (sym (other_weights d s p v n)) (sym (other_total d s p v n)) (hp.at v l)

  -- ---- the uniform rule
  abbrev pub with_uniform : List ℕ → List RuleView → List RuleView
  with_uniform [] p = p
  with_uniform (v ∷ vs) p = uniform_rule nodes v ∷ with_uniform vs p

  -- other decisions keep their rules
  pub uniform_off : (vs : List ℕ) (p : List RuleView) (v : ℕ) → ¬ (Among v vs) → (weights_of (with_uniform vs p) v ≡ weights_of p v) × (rule_total (with_uniform vs p) v ≡ rule_total p v)
  uniform_off [] p v n = (refl, refl)
  uniform_off (x ∷ xs) p v n =
      let r = uniform_off xs p v (λ m. n (inr m)) in (
        ap (λ b. cond b (replicate (rows_under (states_of nodes) (node_at nodes x).parents * states_of nodes x) 1) (weights_of (with_uniform xs p) v)) (eqb_no x v (λ e. n (inl (sym e)))) ∙ r.0,
        ap (λ b. cond b (states_of nodes x) (rule_total (with_uniform xs p) v)) (eqb_no x v (λ e. n (inl (sym e)))) ∙ r.1,
      )

  -- the listed ones have uniform rules
  pub uniform_on : (vs : List ℕ) (p : List RuleView) (v : ℕ) → Among v vs
      → (weights_of (with_uniform vs p) v ≡ replicate (rows_under (states_of nodes) (node_at nodes v).parents * states_of nodes v) 1) × (rule_total (with_uniform vs p) v ≡ states_of nodes v)
  uniform_on [] p v m = absurd m
  uniform_on (x ∷ xs) p v m = go (ℕ_discrete x v) (λ k. uniform_on xs p v k) m
    where
      go : Dec (x ≡ v) → (Among v xs → (weights_of (with_uniform xs p) v ≡ replicate (rows_under (states_of nodes) (node_at nodes v).parents * states_of nodes v) 1) × (rule_total (with_uniform xs p) v ≡ states_of nodes v)) → (v ≡ x) ⊎ Among v xs
          → (weights_of (with_uniform (x ∷ xs) p) v ≡ replicate (rows_under (states_of nodes) (node_at nodes v).parents * states_of nodes v) 1) × (rule_total (with_uniform (x ∷ xs) p) v ≡ states_of nodes v)
      go (yes e) r m = (
        ap (λ b. cond b (replicate (rows_under (states_of nodes) (node_at nodes x).parents * states_of nodes x) 1) (weights_of (with_uniform xs p) v)) (eqb_yes x v e) ∙ ap (λ y. replicate (rows_under (states_of nodes) (node_at nodes y).parents * states_of nodes y) 1) e,
        ap (λ b. cond b (states_of nodes x) (rule_total (with_uniform xs p) v)) (eqb_yes x v e) ∙ ap (states_of nodes) e,
      )
      go (no n) r (inl e) = absurd (n (sym e))
      go (no n) r (inr k) = (
        ap (λ b. cond b (replicate (rows_under (states_of nodes) (node_at nodes x).parents * states_of nodes x) 1) (weights_of (with_uniform xs p) v)) (eqb_no x v n) ∙ (r k).0,
        ap (λ b. cond b (states_of nodes x) (rule_total (with_uniform xs p) v)) (eqb_no x v n) ∙ (r k).1,
      )

  -- each weight is 1
  pub ones_at : (n i : ℕ) → i < n → slice_index (replicate n 1) i ≡ 1
  ones_at zero i h = absurd (omega arith)
  ones_at (suc n) zero h = refl
  ones_at (suc n) (suc i) h = ones_at n i (omega arith)

  -- as whole numbers
  ones_in : (n i : ℕ) → i < n → slice_index_or (map pos (replicate n 1)) i (pos 0) ≡ pos 1
  ones_in zero i h = absurd (omega arith)
  ones_in (suc n) zero h = refl
  ones_in (suc n) (suc i) h = ones_in n i (omega arith)

  -- none is below nought
  ones_not_negative : (n i : ℕ) → pos 0 ≤ℤ slice_index_or (map pos (replicate n 1)) i (pos 0)
  ones_not_negative zero i = omega (arith, ints)
  ones_not_negative (suc n) zero = omega (arith, ints)
  ones_not_negative (suc n) (suc i) = ones_not_negative n i

  -- n of them add up to n
  pub sum_ones : (n : ℕ) → sum_below n (λ s. pos 1) ≡ pos n
  sum_ones zero = refl
  sum_ones (suc n) = omega (arith, ints, sum_ones n)

  -- so each row adds up to the count of states
  pub uniform_table : (rows states : ℕ) → IsTable (map pos (replicate (rows * states) 1)) rows states states
  uniform_table rows states = record {
    len = length-map (replicate (rows * states) 1) pos ∙ length-replicate (rows * states) 1;
    not_negative = ones_not_negative (rows * states);
    row = λ r l. sum_below_cong states (λ s. slice_index_or (map pos (replicate (rows * states) 1)) (r * states + s) (pos 0)) (λ s. pos 1) (λ s k. ones_in (rows * states) (r * states + s) (step_below r rows states s l k)) ∙ sum_ones states;
  }

  -- the listed tables fit, and the others do as before
  pub uniform_tables : (has : (v : ℕ) → 0 < states_of nodes v) (vs : List ℕ) (p : List RuleView) → HasTables nodes p → HasTables nodes (with_uniform vs p)
  uniform_tables has vs p h = record { positive = λ v. positive v (decide_among v vs); at = λ v l. at v l (decide_among v vs) }
    where
      by_kind : (k : Kind) (chance states n : ℕ) → 0 < states → 0 < total_by k chance n → 0 < total_by k chance states
      by_kind Chance chance states n a b = b
      by_kind Decision chance states n a b = a
      by_kind Utility chance states n a b = b

      positive : (v : ℕ) → Dec (Among v vs) → 0 < weight_total nodes (with_uniform vs p) v
      positive v (yes m) = subst (λ n. 0 < total_by (node_at nodes v).kind (chance_total nodes v) n) (sym (uniform_on vs p v m).1) (by_kind (node_at nodes v).kind (chance_total nodes v) (states_of nodes v) (rule_total p v) (has v) (h.positive v))
      positive v (no n) = subst (λ n. 0 < n) (total_like p (with_uniform vs p) v (sym (uniform_off vs p v n).1)) (h.positive v)

      fits : (k : Kind) (cells : List ℤ) (ws : List ℕ) (rows states chance n : ℕ) → TableFits k cells ws rows states (total_by k chance n) → TableFits k cells (replicate (rows * states) 1) rows states (total_by k chance states)
      fits Chance cells ws rows states chance n t = t
      fits Decision cells ws rows states chance n t = uniform_table rows states
      fits Utility cells ws rows states chance n t = t

      at : (v : ℕ) → v < length nodes → Dec (Among v vs) → Fits (with_uniform vs p) v
      at v l (yes m) =
          subst (λ n. TableFits (node_at nodes v).kind (node_at nodes v).cells (weights_of (with_uniform vs p) v) (rows_under (states_of nodes) (node_at nodes v).parents) (states_of nodes v) (total_by (node_at nodes v).kind (chance_total nodes v) n)) (sym (uniform_on vs p v m).1)
          (subst (λ ws. TableFits (node_at nodes v).kind (node_at nodes v).cells ws (rows_under (states_of nodes) (node_at nodes v).parents) (states_of nodes v) (total_by (node_at nodes v).kind (chance_total nodes v) (states_of nodes v))) (sym (uniform_on vs p v m).0)
          (fits (node_at nodes v).kind (node_at nodes v).cells (weights_of p v) (rows_under (states_of nodes) (node_at nodes v).parents) (states_of nodes v) (chance_total nodes v) (rule_total p v) (h.at v l)))
      at v l (no n) = fits_like p (with_uniform vs p) v (sym (uniform_off vs p v n).0) (sym (uniform_off vs p v n).1) (h.at v l)

  -- the uniform rule's table is 1 in every world
  pub uniform_one : (vs : List ℕ) (p : List RuleView) (v : ℕ) → Among v vs → (node_at nodes v).kind ≡ Decision → (w : World) → InRange (states_of nodes) w → table nodes (with_uniform vs p) v w ≡ pos 1
  uniform_one vs p v m k w i =
      ap (λ x. table_by x (node_at nodes v).cells (weights_of (with_uniform vs p) v) (cell_of nodes v w)) k
      ∙ ap (λ ws. pos (slice_index ws (cell_of nodes v w))) (uniform_on vs p v m).0
      ∙ ap pos (ones_at (rows_under (states_of nodes) (node_at nodes v).parents * states_of nodes v) (cell_of nodes v w) (step_below (row_of nodes v w) (rows_under (states_of nodes) (node_at nodes v).parents) (states_of nodes v) (w v) (row_of-below nodes v w i) (i.state v)))
