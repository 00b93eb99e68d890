-- What a plan whose nodes are kept lacks: the nodes left out, and the kept ones that it lacks.
use Rattle.std.proofs.Common.{◌≡◌, ◌⊎◌, ◌∙◌, ℕ, ◌*◌, Bool, true, false, not, ◌&&◌, filter, List, length, sym, ap, refl, inl, inr, Contains, Some}
use Rattle.finite_sums.specs.Members.{Among, Shuffled}
use Rattle.finite_sums.specs.Sums.{nat_product_over}
use Rattle.finite_sums.proofs.Lists.{among_filter}
use Rattle.maid_model.specs.Graph.{Arc, Descends, Along}
use Rattle.maid_model.specs.Nodes.{numbers_of}
use Rattle.maid_model.specs.Parts.{is_in, left_out}
use Rattle.maid_model.specs.Views.{NodeView}
use Rattle.maid_laws.proofs.Basis.{among_filter_in}
use Rattle.maid_laws.proofs.Rearranged.{apart_filter, range_apart, shuffled_of, number}
use Rattle.cell_rings.specs.Rings.{mass_ring}
use Rattle.cell_rings.specs.RingLaws.{mass_is_ring}
use Rattle.ring_sums.specs.Sums.{ring_product}
use Rattle.ring_sums.proofs.Bounds.{product_shuffled}
use Rattle.ring_sums.proofs.Sums.{product_split}
use Rattle.part_laws.proofs.PartNodes.{Closed, path_in}
use Rattle.part_laws.proofs.PartSums.{in_test, test_in, ins_shuffled}
use Rattle.plan_sums.specs.Plans.{PlanView, in_plan, plan_nodes, lacking_nodes}
use Rattle.plan_sums.proofs.Filters.{filter_cong, filter_filter}
use Rattle.plan_sums.proofs.Scopes.{tests_plan_nodes}
use Rattle.plan_sums.proofs.Sized.{nat_product_is}
use Rattle.scope_sums.specs.Missing.{lacking_in}

-- products over the same members
same_product : (f : ℕ → ℕ) {xs ys : List ℕ} → Shuffled xs ys → ring_product mass_ring f xs ≡ nat_product_over f ys
same_product f {ys = ys} s = product_shuffled mass_ring mass_is_ring f s ∙ nat_product_is f ys

-- a product by a test, the members that fail it first
by_test : (f : ℕ → ℕ) (q : ℕ → Bool) (xs : List ℕ) → nat_product_over f xs ≡ ring_product mass_ring f (filter (λ x. not (q x)) xs) * ring_product mass_ring f (filter q xs)
by_test f q xs =
    sym (nat_product_is f xs) ∙ product_split mass_ring mass_is_ring f q xs
    ∙ mass_is_ring.times_comm (ring_product mass_ring f (filter q xs)) (ring_product mass_ring f (filter (λ x. not (q x)) xs))

module _ (nodes : List NodeView) (kept : List ℕ) (c : Closed nodes kept) where
  -- all nodes: those left out, and the kept ones
  pub all_nodes : (f : ℕ → ℕ) → nat_product_over f (numbers_of nodes) ≡ nat_product_over f (left_out nodes kept) * nat_product_over f kept
  all_nodes f = by_test f (is_in kept) (numbers_of nodes) ∙ (λ i. nat_product_is f (left_out nodes kept) i * same_product f (ins_shuffled nodes kept c) i)

  -- a plan has kept nodes alone where its own kept nodes and its utility are kept
  pub plan_inside : (plan : PlanView) → ((v : ℕ) → Contains plan.keep v → Among v kept) → ((u : ℕ) → plan.utility ≡ Some u → Among u kept) → (v : ℕ) → in_plan nodes plan v ≡ true → Among v kept
  plan_inside plan keep utility v h = elim ((tests_plan_nodes nodes plan v).0 h) [
    | inl k ↦ keep v k
    | inr r ↦ down r.1.0 r.1.1 r.1.2
  ]
    where
      down : (t : ℕ) → Contains plan.keep t ⊎ (plan.utility ≡ Some t) → Descends (Arc nodes) v t → Among v kept
      down t o (x, a, path) = path_in nodes kept c (Along a path) (elim o [ inl k ↦ keep t k | inr e ↦ utility t e ])

  module _ (plan : PlanView) (inside : (v : ℕ) → in_plan nodes plan v ≡ true → Among v kept) where
    -- the nodes left out are lacking
    out_lacks : (v : ℕ) → (not (in_plan nodes plan v) && not (is_in kept v)) ≡ not (is_in kept v)
    out_lacks v = go (in_plan nodes plan v) (is_in kept v) (λ e. in_test kept v (inside v e))
      where
        go : (a b : Bool) → (a ≡ true → b ≡ true) → (not a && not b) ≡ not b
        go true true h = refl
        go true false h = h refl
        go false b h = refl

    outs : filter (λ v. not (is_in kept v)) (lacking_nodes nodes plan) ≡ left_out nodes kept
    outs =
        filter_filter (λ v. not (is_in kept v)) (λ v. not (in_plan nodes plan v)) (numbers_of nodes)
        ∙ filter_cong (λ v. not (in_plan nodes plan v) && not (is_in kept v)) (λ v. not (is_in kept v)) (numbers_of nodes) (λ v m. out_lacks v)

    -- the others
    heres : Shuffled (filter (is_in kept) (lacking_nodes nodes plan)) (lacking_in nodes kept plan)
    heres =
        shuffled_of (filter (is_in kept) (lacking_nodes nodes plan)) (lacking_in nodes kept plan)
        (apart_filter (is_in kept) (lacking_nodes nodes plan) (apart_filter (λ v. not (in_plan nodes plan v)) (numbers_of nodes) (range_apart 0 (length nodes))))
        (apart_filter (λ v. not (in_plan nodes plan v)) kept c.apart)
        (λ v m.
        let a = among_filter (is_in kept) v (lacking_nodes nodes plan) m in
        let b = among_filter (λ x. not (in_plan nodes plan x)) v (numbers_of nodes) a.0 in
        among_filter_in (λ x. not (in_plan nodes plan x)) v kept (test_in kept v a.1) b.1)
        (λ v m.
        let a = among_filter (λ x. not (in_plan nodes plan x)) v kept m in
        among_filter_in (is_in kept) v (lacking_nodes nodes plan) (among_filter_in (λ x. not (in_plan nodes plan x)) v (numbers_of nodes) (number nodes v (c.within v a.0)) a.1) (in_test kept v a.0))

    -- all that the plan lacks
    pub lacking_nodes_are : (f : ℕ → ℕ) → nat_product_over f (lacking_nodes nodes plan) ≡ nat_product_over f (left_out nodes kept) * nat_product_over f (lacking_in nodes kept plan)
    lacking_nodes_are f = by_test f (is_in kept) (lacking_nodes nodes plan) ∙ (λ i. (ap (ring_product mass_ring f) outs ∙ nat_product_is f (left_out nodes kept)) i * same_product f heres i)

    -- the kept nodes: the plan's, and those that it lacks
    plans : Shuffled (filter (λ v. in_plan nodes plan v) kept) (plan_nodes nodes plan)
    plans =
        shuffled_of (filter (λ v. in_plan nodes plan v) kept) (plan_nodes nodes plan)
        (apart_filter (λ v. in_plan nodes plan v) kept c.apart)
        (apart_filter (λ v. in_plan nodes plan v) (numbers_of nodes) (range_apart 0 (length nodes)))
        (λ v m.
        let a = among_filter (λ x. in_plan nodes plan x) v kept m in
        among_filter_in (λ x. in_plan nodes plan x) v (numbers_of nodes) (number nodes v (c.within v a.0)) a.1)
        (λ v m.
        let a = among_filter (λ x. in_plan nodes plan x) v (numbers_of nodes) m in
        among_filter_in (λ x. in_plan nodes plan x) v kept (inside v a.1) a.1)

    pub kept_nodes_are : (f : ℕ → ℕ) → nat_product_over f kept ≡ nat_product_over f (lacking_in nodes kept plan) * nat_product_over f (plan_nodes nodes plan)
    kept_nodes_are f = by_test f (λ v. in_plan nodes plan v) kept ∙ (λ i. nat_product_is f (lacking_in nodes kept plan) i * same_product f plans i)
