-- The laws of parts and of scopes, for every diagram.
use Rattle.std.proofs.Common.{◌≡◌, ◌⊎◌, ◌∙◌, ℕ, ◌<◌, true, ◌||◌, eqb, List, length, refl, sym, ap, subst, inl, inr, pos, ◌*ℤ◌, nat_abs, Contains}
use Rattle.std.proofs.lemmas.Int.{unsigned_abs-mul}
use Rattle.maid_model.specs.Gains.{mass}
use Rattle.maid_model.specs.Graph.{Arc, IsPath, IsPathTo, Here, Along, IsGraph, descends}
use Rattle.maid_model.specs.Nodes.{node_at, numbers_of, is_utility, owns, agent_of, owners_of}
use Rattle.finite_sums.specs.Sums.{product_over}
use Rattle.maid_model.specs.Tables.{weight_total}
use Rattle.maid_model.specs.Views.{NodeView}
use Rattle.maid_model.proofs.Descent.{any_has, any_of, or_cases, or_right, path_from_test, test_from_path}
use Rattle.finite_sums.proofs.Ints.{mul_comm}
use Rattle.finite_sums.proofs.Lists.{among_filter, product_over-shuffled}
use Rattle.finite_sums.specs.Members.{Among}
use Rattle.finite_sums.proofs.Totals.{product_over-split}
use Rattle.finite_sums.proofs.Members.{any_is}
use Rattle.maid_model.proofs.Weighing.{product_positive}
use Rattle.maid_model.specs.Parts.{is_in, leads_to, with_ancestors, IsAncestral, part_of, rules_in, left_out, mass_left_out}
use Rattle.part_laws.specs.PartLaws.{AncestorsAreClosed, PartsAreGraphs, PartsHaveTables, PartsHaveProfiles, GainsOfParts, MassesOfParts, AgentsGainsOfParts, MassOfParts, LawOfParts, LeftOutIsPositive}
use Rattle.maid_laws.proofs.Basis.{among_filter_in}
use Rattle.maid_laws.proofs.Booleans.{eqb_yes, eqb_same}
use Rattle.maid_laws.proofs.Members.{among_of, contains_of, different_of}
use Rattle.part_laws.proofs.PartNodes.{Closed, closed_of, graph_is, tables_are, profile_is, weight_total_is}
use Rattle.part_laws.proofs.PartSums.{and_both, ins, ins_shuffled, product_of_part, gain_of_part, gain_at_part, mass_at_part}
use Rattle.maid_laws.proofs.Proportions.{kind_of_utility}
use Rattle.maid_laws.proofs.Rearranged.{apart_filter, range_apart, number, numbered}
use Rattle.maid_laws.proofs.Signs.{pos_product}
use Rattle.maid_laws.proofs.Tied.{tables_of}

-- ---- ancestors
module _ (nodes : List NodeView) (of : List ℕ) where
  -- what the test says
  pub path_of_test : (v : ℕ) → leads_to nodes of v ≡ true → (u : ℕ) × Among u of × IsPath (Arc nodes) v u
  path_of_test v h =
      let r = any_has (λ u. eqb u v || descends nodes v u) of h in
      (r.0, r.1, go r.0 (or_cases (eqb r.0 v) (descends nodes v r.0) r.2))
    where
      go : (u : ℕ) → (eqb u v ≡ true) ⊎ (descends nodes v u ≡ true) → IsPath (Arc nodes) v u
      go u (inl e) = subst (IsPathTo (Arc nodes) u) (eqb_same u v e) Here
      go u (inr e) = let d = path_from_test nodes v u e in Along d.1 d.2

  pub test_of_path : (u v : ℕ) → Among u of → IsPath (Arc nodes) v u → leads_to nodes of v ≡ true
  test_of_path u v m h = any_of (λ x. eqb x v || descends nodes v x) of u m (go v h)
    where
      go : (v : ℕ) → IsPath (Arc nodes) v u → (eqb u v || descends nodes v u) ≡ true
      go v Here = ap (λ b. b || descends nodes v u) (eqb_yes v v refl)
      go v (Along {v = n} a k) = or_right (eqb u v) (descends nodes v u) (test_from_path nodes v u (n, a, k))

  module _ (g : IsGraph nodes) (within : (v : ℕ) → Among v of → v < length nodes) where
    path_inside : (u v : ℕ) → Among u of → IsPath (Arc nodes) v u → v < length nodes
    path_inside u v m Here = within v m
    path_inside u v m (Along {v = n} a h) = g.parents_known v n a

    pub kept_path : (v : ℕ) → Among v (with_ancestors nodes of) → (u : ℕ) × Among u of × IsPath (Arc nodes) v u
    kept_path v m = path_of_test v (among_filter (leads_to nodes of) v (numbers_of nodes) m).1

    pub path_kept : (u v : ℕ) → Among u of → IsPath (Arc nodes) v u → Among v (with_ancestors nodes of)
    path_kept u v m h = among_filter_in (leads_to nodes of) v (numbers_of nodes) (number nodes v (path_inside u v m h)) (test_of_path u v m h)

    pub listed_kept : (u : ℕ) → Among u of → Among u (with_ancestors nodes of)
    listed_kept u m = path_kept u u m Here

    pub ancestors_closed : IsAncestral nodes (with_ancestors nodes of)
    ancestors_closed = record {
      within = λ v k. numbered nodes v (among_filter (leads_to nodes of) v (numbers_of nodes) (among_of v (with_ancestors nodes of) k)).0;
      once = different_of (with_ancestors nodes of) (apart_filter (leads_to nodes of) (numbers_of nodes) (range_apart 0 (length nodes)));
      parents = λ u v a k.
          let r = kept_path v (among_of v (with_ancestors nodes of) k) in
          contains_of u (with_ancestors nodes of) (path_kept r.0 u r.1 (Along a r.2));
    }

pub ancestors_law : AncestorsAreClosed
ancestors_law nodes of g h = (
  ancestors_closed nodes of g within,
  λ v. ((λ k. let r = kept_path nodes of g within v (among_of v (with_ancestors nodes of) k) in (r.0, contains_of r.0 of r.1, r.2)), (λ r. contains_of v (with_ancestors nodes of) (path_kept nodes of g within r.0 v (among_of r.0 of r.1) r.2))),
)
  where
    within : (v : ℕ) → Among v of → v < length nodes
    within v m = h v (contains_of v of m)

-- ---- the part is a diagram
pub graphs_law : PartsAreGraphs
graphs_law nodes kept g c = graph_is nodes kept (closed_of nodes kept c) g

pub tables_law : PartsHaveTables
tables_law nodes kept h c = tables_are nodes kept (closed_of nodes kept c) h

pub profiles_law : PartsHaveProfiles
profiles_law nodes p kept h c = profile_is nodes kept (closed_of nodes kept c) p h

-- ---- its sums
pub gains_law : GainsOfParts
gains_law nodes p kept d state row g h r c is m all =
    gain_at_part nodes kept (closed_of nodes kept c) g p (tables_of nodes p g h r) d (among_of d kept m)
    (λ u l k e. among_of u kept (all u (let b = and_both (is_utility (node_at nodes u).kind) (owns nodes (agent_of nodes d) u) k in record {
      within = l;
      kind = kind_of_utility (node_at nodes u).kind b.0;
      owner = (any_is (agent_of nodes d) (owners_of nodes u)).0 b.1;
      below = path_from_test nodes d u e;
    })))
    state row

pub masses_law : MassesOfParts
masses_law nodes p kept d row g h r c is m = mass_at_part nodes kept (closed_of nodes kept c) g p (tables_of nodes p g h r) d (among_of d kept m) row

pub agents_gains_law : AgentsGainsOfParts
agents_gains_law nodes p kept agent g h r c all =
    gain_of_part nodes kept (closed_of nodes kept c) g p (tables_of nodes p g h r) agent
    (λ u l k. among_of u kept (let b = and_both (is_utility (node_at nodes u).kind) (owns nodes agent u) k in all u l (kind_of_utility (node_at nodes u).kind b.0) ((any_is agent (owners_of nodes u)).0 b.1)))

-- the totals of all nodes are those of the part's and those left out
pub mass_law : MassOfParts
mass_law nodes p kept g h r c =
    ap nat_abs
    (sym (pos_product (weight_total nodes p) (numbers_of nodes))
    ∙ product_over-split (λ v. pos (weight_total nodes p v)) (is_in kept) (numbers_of nodes)
    ∙ mul_comm (product_over (λ v. pos (weight_total nodes p v)) (ins nodes kept closed)) (product_over (λ v. pos (weight_total nodes p v)) (left_out nodes kept))
    ∙ (λ i. pos_product (weight_total nodes p) (left_out nodes kept) i *ℤ in_part i))
    ∙ unsigned_abs-mul (pos (mass_left_out nodes p kept)) (pos (mass (part_of nodes kept) (rules_in nodes p kept)))
  where
    closed : Closed nodes kept
    closed = closed_of nodes kept c

    in_part : product_over (λ v. pos (weight_total nodes p v)) (ins nodes kept closed) ≡ pos (mass (part_of nodes kept) (rules_in nodes p kept))
    in_part =
        product_over-shuffled (λ v. pos (weight_total nodes p v)) (ins_shuffled nodes kept closed)
        ∙ product_of_part nodes kept closed (λ v. pos (weight_total nodes p v)) (λ k. pos (weight_total (part_of nodes kept) (rules_in nodes p kept) k)) (λ k l. ap pos (weight_total_is nodes kept closed p k l))
        ∙ pos_product (weight_total (part_of nodes kept) (rules_in nodes p kept)) (numbers_of (part_of nodes kept))

pub positive_law : LeftOutIsPositive
positive_law nodes p kept g h r = product_positive (weight_total nodes p) (left_out nodes kept) (tables_of nodes p g h r).positive

-- the list and its ancestors are closed, and hold the list
pub parts_law : LawOfParts
parts_law nodes p of g h r inside = (
  (λ d is m all. record {
    gain = λ state row. gains_law nodes p kept d state row g h r closed is (has d m) (λ u k. has u (all u k));
    mass_there = λ row. masses_law nodes p kept d row g h r closed is (has d m);
  }),
  (λ agent all. record {
    gain = agents_gains_law nodes p kept agent g h r closed (λ u l k o. has u (all u l k o));
    mass_there = mass_law nodes p kept g h r closed;
  }),
)
  where
    kept : List ℕ
    kept = with_ancestors nodes of

    within : (v : ℕ) → Among v of → v < length nodes
    within v m = inside v (contains_of v of m)

    closed : IsAncestral nodes (with_ancestors nodes of)
    closed = ancestors_closed nodes of g within

    has : (v : ℕ) → Contains of v → Contains (with_ancestors nodes of) v
    has v m = contains_of v (with_ancestors nodes of) (listed_kept nodes of g within v (among_of v of m))
