-- The sums of a scope's part are those of its plans: both are the whole's, but for the totals left
-- out.
use Rattle.std.proofs.Common.{◌≡◌, ◌∙◌, ℕ, ◌*◌, ◌<◌, Bool, true, false, cond, ◌&&◌, eqb, filter, List, [], ◌∷◌, refl, sym, ap, subst, inl, inr, arith, Contains, Some, None, ℤ, pos, ◌*ℤ◌}
use Rattle.std.proofs.lemmas.Int.{ints}
use Rattle.maid_model.specs.Gains.{gain_at, mass_at}
use Rattle.maid_model.specs.Graph.{IsGraph, descends}
use Rattle.maid_model.specs.Nodes.{IsDecision, node_at, states_of, numbers_of, parents_of, is_utility, is_utility_of, owns, owners_of, agent_of}
use Rattle.maid_model.specs.Parts.{left_out, mass_left_out}
use Rattle.maid_model.specs.Relevance.{IsGoal}
use Rattle.maid_model.specs.Scopes.{goals_of, scope_of, scope_part, place_in_scope, rules_in_scope}
use Rattle.maid_model.specs.Tables.{row_of, weight_total}
use Rattle.maid_model.specs.Views.{NodeView, RuleView}
use Rattle.maid_model.proofs.Descent.{path_from_test}
use Rattle.maid_model.proofs.Leaves.{sum_each_cong}
use Rattle.maid_model.proofs.Setting.{HasTables}
use Rattle.finite_sums.specs.Members.{Among}
use Rattle.finite_sums.specs.Sums.{World, InRange, sum_each, nat_product_over}
use Rattle.finite_sums.proofs.Ints.{mul_comm, mul_left_comm}
use Rattle.finite_sums.proofs.Lists.{among_filter}
use Rattle.finite_sums.proofs.Members.{any_is}
use Rattle.maid_laws.proofs.Booleans.{eqb_no}
use Rattle.maid_laws.proofs.Fractions.{cancel}
use Rattle.maid_laws.proofs.Members.{among_of, contains_of, parent_of}
use Rattle.maid_laws.proofs.Proportions.{kind_of_utility}
use Rattle.maid_laws.proofs.Rearranged.{numbered}
use Rattle.maid_laws.proofs.Tied.{tables_of}
use Rattle.part_laws.proofs.PartLaws.{gains_law, masses_law, positive_law}
use Rattle.part_laws.proofs.PartNodes.{Closed, closed_of}
use Rattle.part_laws.proofs.PartSums.{sum_each-some, is_out, and_both}
use Rattle.part_laws.proofs.ScopeLaws.{scope_closed, scopes_law}
use Rattle.plan_sums.specs.Laws.{missing_total, missing_without, gain_part}
use Rattle.plan_sums.specs.Plans.{PlanView, mass_cells, gain_cells, in_plan, plan_sum, row_plan, gain_plan}
use Rattle.plan_sums.proofs.Added.{parts, sum_each_mul}
use Rattle.plan_sums.proofs.Parts.{row_is, gain_is}
use Rattle.scope_sums.specs.Missing.{missing_in, missing_in_without}
use Rattle.scope_sums.specs.Laws.{SumsOfScopes}
use Rattle.scope_sums.proofs.Lacking.{plan_inside, lacking_nodes_are}

-- a positive factor of two equal numbers
pub cancel_factor : (c : ℕ) (a b : ℤ) → 0 < c → pos c *ℤ a ≡ pos c *ℤ b → a ≡ b
cancel_factor c a b h e = cancel a b (pos c) (omega (arith, ints)) (mul_comm a (pos c) ∙ e ∙ mul_comm (pos c) b)

-- the factors of a product of two numbers, the first one outward
pub outward : (s : ℤ) (m l x : ℕ) → m ≡ l * x → s *ℤ pos m ≡ pos l *ℤ (s *ℤ pos x)
outward s m l x e = ap (λ z. s *ℤ pos z) e ∙ ap (λ z. s *ℤ z) (whole l x) ∙ mul_left_comm s (pos l) (pos x)
  where
    whole : (l x : ℕ) → pos (l * x) ≡ pos l *ℤ pos x
    whole l x = omega (arith, ints)

-- factors that agree at each member
pub product_at : (f h : ℕ → ℕ) (vs : List ℕ) → ((v : ℕ) → Among v vs → f v ≡ h v) → nat_product_over f vs ≡ nat_product_over h vs
product_at f h [] e = refl
product_at f h (v ∷ vs) e = (λ i. e v (inl refl) i * product_at f h vs (λ u m. e u (inr m)) i)

-- terms of which only those that pass two tests count, the tests the other way round
pub some_terms : (a b : ℕ → Bool) (f : ℕ → ℤ) (vs : List ℕ) → sum_each (λ v. cond (b v && a v) (f v) (pos 0)) vs ≡ sum_each f (filter (λ v. a v && b v) vs)
some_terms a b f vs =
    sum_each-some (λ v. cond (b v && a v) (f v) (pos 0)) (λ v. a v && b v) vs (λ v m e. none (a v) (b v) (f v) e)
    ∙ sum_each_cong (λ v. cond (b v && a v) (f v) (pos 0)) f (filter (λ v. a v && b v) vs) (λ v m. one (a v) (b v) (f v) (among_filter (λ x. a x && b x) v vs m).1)
  where
    none : (a b : Bool) (x : ℤ) → (a && b) ≡ false → cond (b && a) x (pos 0) ≡ pos 0
    none true true x e = absurd (cc)
    none true false x e = refl
    none false true x e = refl
    none false false x e = refl

    one : (a b : Bool) (x : ℤ) → (a && b) ≡ true → cond (b && a) x (pos 0) ≡ x
    one true true x e = refl
    one true false x e = absurd (cc)
    one false b x e = absurd (cc)

-- the totals that a plan lacks: those left out, times those of the kept nodes that it lacks
module _ (nodes : List NodeView) (p : List RuleView) (kept : List ℕ) (c : Closed nodes kept) (plan : PlanView) (inside : (v : ℕ) → in_plan nodes plan v ≡ true → Among v kept) where
  pub missing_is : missing_total nodes p plan ≡ mass_left_out nodes p kept * missing_in nodes p kept plan
  missing_is = lacking_nodes_are nodes kept c plan inside (weight_total nodes p)

  pub missing_without_is : (d : ℕ) → Among d kept → missing_without nodes p d plan ≡ mass_left_out nodes p kept * missing_in_without nodes p d kept plan
  missing_without_is d m =
      lacking_nodes_are nodes kept c plan inside (λ v. cond (eqb v d) 1 (weight_total nodes p v))
      ∙ ap (λ x. x * missing_in_without nodes p d kept plan)
      (product_at (λ v. cond (eqb v d) 1 (weight_total nodes p v)) (weight_total nodes p) (left_out nodes kept)
      (λ v k. ap (λ b. cond b 1 (weight_total nodes p v)) (eqb_no v d (λ e. is_out nodes kept c v k (subst (λ z. Among z kept) (sym e) m)))))

-- ---- a decision's scope
module _ (nodes : List NodeView) (d : ℕ) (g : IsGraph nodes) (is : IsDecision nodes d) where
  pub scope_is_closed : Closed nodes (scope_of nodes d)
  scope_is_closed = closed_of nodes (scope_of nodes d) (scope_closed nodes g d is)

  pub own_in_scope : Among d (scope_of nodes d)
  own_in_scope = among_of d (scope_of nodes d) (scopes_law nodes d g is).2

  pub goal_in_scope : (u : ℕ) → IsGoal nodes d u → Among u (scope_of nodes d)
  goal_in_scope u h = among_of u (scope_of nodes d) ((scopes_law nodes d g is).3 u h)

  pub goal_of : (u : ℕ) → Among u (goals_of nodes d) → IsGoal nodes d u
  goal_of u m =
      let r = among_filter (λ x. is_utility_of nodes (agent_of nodes d) x && descends nodes d x) u (numbers_of nodes) m in
      let a = and_both (is_utility_of nodes (agent_of nodes d) u) (descends nodes d u) r.1 in
      let b = and_both (is_utility (node_at nodes u).kind) (owns nodes (agent_of nodes d) u) a.0 in
      record { within = numbered nodes u r.0; kind = kind_of_utility (node_at nodes u).kind b.0; owner = (any_is (agent_of nodes d) (owners_of nodes u)).0 b.1; below = path_from_test nodes d u a.1 }

  parent_in_scope : (v : ℕ) → Contains (parents_of nodes d) v → Among v (scope_of nodes d)
  parent_in_scope v m = scope_is_closed.parents v d (parent_of nodes v d m) own_in_scope

  pub row_inside : (v : ℕ) → in_plan nodes (row_plan nodes d) v ≡ true → Among v (scope_of nodes d)
  row_inside = plan_inside nodes (scope_of nodes d) scope_is_closed (row_plan nodes d) parent_in_scope (λ u e. absurd (none u e))
    where
      none : (u : ℕ) → None ≡ Some u → ⊥
      none u e = cc

  pub gain_inside : (u : ℕ) → IsGoal nodes d u → (v : ℕ) → in_plan nodes (gain_plan nodes d u) v ≡ true → Among v (scope_of nodes d)
  gain_inside u h = plan_inside nodes (scope_of nodes d) scope_is_closed (gain_plan nodes d u) kept (λ x e. subst (λ z. Among z (scope_of nodes d)) (same u x e) (goal_in_scope u h))
    where
      same : (a b : ℕ) → Some a ≡ Some b → a ≡ b
      same a b e = cc

      kept : (v : ℕ) → Contains (d ∷ (parents_of nodes d)) v → Among v (scope_of nodes d)
      kept v m = elim (among_of v (d ∷ (parents_of nodes d)) m) [
        | inl e ↦ subst (λ z. Among z (scope_of nodes d)) (sym e) own_in_scope
        | inr k ↦ parent_in_scope v (contains_of v (parents_of nodes d) k)
      ]

pub sums_law : SumsOfScopes
sums_law nodes p d g h r is = record { gain = gain; mass_there = mass_there }
  where
    t : HasTables nodes p
    t = tables_of nodes p g h r

    some : 0 < mass_left_out nodes p (scope_of nodes d)
    some = positive_law nodes p (scope_of nodes d) g h r

    term : World → ℕ → ℤ
    term q u = plan_sum gain_cells nodes p (gain_plan nodes d u) q *ℤ pos (missing_in nodes p (scope_of nodes d) (gain_plan nodes d u))

    gain : (q : World) → InRange (states_of nodes) q
        → gain_at (scope_part nodes d) (rules_in_scope nodes p d) (place_in_scope nodes d) (q d) (row_of nodes d q)
        ≡ sum_each (λ u. plan_sum gain_cells nodes p (gain_plan nodes d u) q *ℤ pos (missing_in nodes p (scope_of nodes d) (gain_plan nodes d u))) (goals_of nodes d)
    gain q i =
        cancel_factor (mass_left_out nodes p (scope_of nodes d)) (gain_at (scope_part nodes d) (rules_in_scope nodes p d) (place_in_scope nodes d) (q d) (row_of nodes d q)) (sum_each (term q) (goals_of nodes d)) some
        (sym (gains_law nodes p (scope_of nodes d) d (q d) (row_of nodes d q) g h r (scope_closed nodes g d is) is (scopes_law nodes d g is).2 (scopes_law nodes d g is).3)
        ∙ (parts nodes p).gain d (q d) (row_of nodes d q)
        ∙ some_terms (λ u. is_utility_of nodes (agent_of nodes d) u) (λ u. descends nodes d u) (λ u. gain_part nodes p d u (q d) (row_of nodes d q)) (numbers_of nodes)
        ∙ sum_each_cong (λ u. gain_part nodes p d u (q d) (row_of nodes d q)) (λ u. pos (mass_left_out nodes p (scope_of nodes d)) *ℤ term q u) (goals_of nodes d)
        (λ u m. sym (gain_is nodes p g t d u is.within q i)
        ∙ outward (plan_sum gain_cells nodes p (gain_plan nodes d u) q) (missing_total nodes p (gain_plan nodes d u)) (mass_left_out nodes p (scope_of nodes d)) (missing_in nodes p (scope_of nodes d) (gain_plan nodes d u))
        (missing_is nodes p (scope_of nodes d) (scope_is_closed nodes d g is) (gain_plan nodes d u) (gain_inside nodes d g is u (goal_of nodes d g is u m))))
        ∙ sym (sum_each_mul (pos (mass_left_out nodes p (scope_of nodes d))) (term q) (goals_of nodes d)))

    mass_there : (q : World) → InRange (states_of nodes) q
        → mass_at (scope_part nodes d) (rules_in_scope nodes p d) (place_in_scope nodes d) (row_of nodes d q)
        ≡ pos (plan_sum mass_cells nodes p (row_plan nodes d) q * missing_in_without nodes p d (scope_of nodes d) (row_plan nodes d))
    mass_there q i =
        cancel_factor (mass_left_out nodes p (scope_of nodes d)) (mass_at (scope_part nodes d) (rules_in_scope nodes p d) (place_in_scope nodes d) (row_of nodes d q))
        (pos (plan_sum mass_cells nodes p (row_plan nodes d) q * missing_in_without nodes p d (scope_of nodes d) (row_plan nodes d))) some
        (sym (masses_law nodes p (scope_of nodes d) d (row_of nodes d q) g h r (scope_closed nodes g d is) is (scopes_law nodes d g is).2)
        ∙ sym (row_is nodes p g t d is.within q i)
        ∙ whole (plan_sum mass_cells nodes p (row_plan nodes d) q) (missing_without nodes p d (row_plan nodes d))
        ∙ outward (pos (plan_sum mass_cells nodes p (row_plan nodes d) q)) (missing_without nodes p d (row_plan nodes d)) (mass_left_out nodes p (scope_of nodes d)) (missing_in_without nodes p d (scope_of nodes d) (row_plan nodes d))
        (missing_without_is nodes p (scope_of nodes d) (scope_is_closed nodes d g is) (row_plan nodes d) (row_inside nodes d g is) d (own_in_scope nodes d g is))
        ∙ ap (λ z. pos (mass_left_out nodes p (scope_of nodes d)) *ℤ z) (sym (whole (plan_sum mass_cells nodes p (row_plan nodes d) q) (missing_in_without nodes p d (scope_of nodes d) (row_plan nodes d)))))
      where
        whole : (a b : ℕ) → pos (a * b) ≡ pos a *ℤ pos b
        whole a b = omega (arith, ints)
