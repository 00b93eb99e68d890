-- The laws of lists with parents first.
use Rattle.std.proofs.Common.{◌≡◌, ◌≢◌, ◌∙◌, ℕ, zero, suc, ◌<◌, ◌≤◌, Bool, true, false, cond, not, filter, List, [], ◌∷◌, take, length, slice_index, refl, sym, ap, subst, inl, inr, arith}
use Rattle.maid_model.specs.declared.diagrams.Kind.{Kind}
use Rattle.maid_model.specs.declared.diagrams.Kind.TheVariants.{Chance, Decision, Utility}
use Rattle.maid_model.specs.Graph.{Arc, IsPath, Here, Along, IsAcyclic}
use Rattle.maid_model.specs.Nodes.{node_at, numbers_of, is_utility}
use Rattle.maid_model.specs.Views.{NodeView}
use Rattle.finite_sums.specs.Members.{Among}
use Rattle.maid_model.proofs.Setting.{ParentsFirst}
use Rattle.finite_sums.proofs.Lists.{among_filter}
use Rattle.maid_model.specs.Laws.{IsParentsFirst}
use Rattle.maid_laws.specs.Orders.{AcyclicIffListed, ListingExists}
use Rattle.maid_laws.proofs.Basis.{Setup, among_filter_in}
use Rattle.maid_laws.proofs.Collapse.{Apart}
use Rattle.maid_laws.proofs.Histories.{among_take}
use Rattle.maid_laws.proofs.Members.{among_of, contains_of, among_index, index_of, apart_of, different_of, not_among, arc_of, parent_of}
use Rattle.maid_laws.proofs.Notions.{IsParent, OrderedGraph}
use Rattle.maid_laws.proofs.Ordered.{setup_of}
use Rattle.maid_laws.proofs.Orders.{ordered, parent_dec, parents_path, parents_first_of}
use Rattle.maid_laws.proofs.Ranks.{arc_inside}
use Rattle.maid_laws.proofs.Rearranged.{number, numbered, apart_shuffled, range_apart, apart_filter, among_shuffled, among_unshuffled}
use Rattle.maid_laws.proofs.Sorted.{sorted}

-- a parent of a member stands before it
parent_before : (nodes : List NodeView) → ((v : ℕ) → ¬ (IsParent nodes v v)) → (vs : List ℕ) → ParentsFirst nodes vs → (i u : ℕ) → i < length vs → IsParent nodes u (slice_index vs i) → Among u vs → Among u (take i vs)
parent_before nodes own [] h i u l a m = absurd m
parent_before nodes own (v ∷ vs) h zero u l a (inl e) = absurd (own v (subst (λ z. IsParent nodes z v) e a))
parent_before nodes own (v ∷ vs) h zero u l a (inr m) = absurd ((h.0 u m).1 a)
parent_before nodes own (v ∷ vs) h (suc i) u l a (inl e) = inl e
parent_before nodes own (v ∷ vs) h (suc i) u l a (inr m) = inr (parent_before nodes own vs h.1 i u (omega arith) a m)

-- a part of a list with parents first has them first
parents_first_filter : (nodes : List NodeView) (p : ℕ → Bool) (vs : List ℕ) → ParentsFirst nodes vs → ParentsFirst nodes (filter p vs)
parents_first_filter nodes p [] h = tt
parents_first_filter nodes p (v ∷ vs) h = go (p v) (parents_first_filter nodes p vs h.1)
  where
    go : (b : Bool) → ParentsFirst nodes (filter p vs) → ParentsFirst nodes (cond b (v ∷ filter p vs) (filter p vs))
    go true r = ((λ u m. h.0 u (among_filter p u vs m).0), r)
    go false r = r

-- a member stands at one place
pub one_place : (xs : List ℕ) → Apart xs → (i j : ℕ) → i < length xs → j < length xs → slice_index xs i ≡ slice_index xs j → i ≡ j
one_place [] a i j l m e = absurd (omega arith)
one_place (x ∷ xs) a zero zero l m e = refl
one_place (x ∷ xs) a zero (suc j) l m e = absurd (not_among x xs a.0 (subst (λ z. Among z xs) (sym e) (among_index xs j (omega arith))))
one_place (x ∷ xs) a (suc i) zero l m e = absurd (not_among x xs a.0 (subst (λ z. Among z xs) e (among_index xs i (omega arith))))
one_place (x ∷ xs) a (suc i) (suc j) l m e = ap suc (one_place xs a.1 i j (omega arith) (omega arith) e)

module _ (nodes : List NodeView) (known : (u v : ℕ) → Arc nodes u v → u < length nodes) where
  -- the nodes, sorted
  listed : IsAcyclic (Arc nodes) → (order : List ℕ) × IsParentsFirst nodes order
  listed acyclic =
      let r = sorted (IsParent nodes) (parent_dec nodes) (λ v h. acyclic v (h.0, arc_of nodes v h.0 h.1, parents_path nodes h.2)) (numbers_of nodes) in
      let apart : Apart r.0 = apart_shuffled r.1 (range_apart 0 (length nodes)) in
      let all : (v : ℕ) → v < length nodes → Among v r.0 = (λ v l. among_shuffled v r.1 (number nodes v l)) in (
        r.0,
        record {
          all = λ v l. contains_of v r.0 (all v l);
          within = λ v c. numbered nodes v (among_unshuffled v r.1 (among_of v r.0 c));
          once = different_of r.0 apart;
          parents_first = λ i u l a. contains_of u (take i r.0)
              (parent_before nodes (λ v b. acyclic v (v, arc_of nodes v v b, Here)) r.0 (parents_first_of nodes r.0 apart r.2) i u l (parent_of nodes u (slice_index r.0 i) a) (all u (known u (slice_index r.0 i) a)));
        },
      )

  module _ (order : List ℕ) (l : IsParentsFirst nodes order) where
    place : (v : ℕ) → v < length nodes → (i : ℕ) × (i < length order) × (slice_index order i ≡ v)
    place v h = index_of v order (among_of v order (l.all v h))

    -- arcs lead to later places
    rises : (u v i j : ℕ) → Arc nodes u v → i < length order → slice_index order i ≡ u → j < length order → slice_index order j ≡ v → i < j
    rises u v i j a li ei lj ej =
        let k = among_take order j u (among_of u (take j order) (l.parents_first j u lj (subst (λ z. Arc nodes u z) (sym ej) a))) in
        let less : k.0 < j = k.1 in
        let same : k.0 ≡ i = one_place order (apart_of order l.once) k.0 i k.2 li (k.3 ∙ sym ei) in
        omega arith

    inside : (u v : ℕ) → Arc nodes u v → v < length nodes
    inside u v a = arc_inside nodes u v (parent_of nodes u v a)

    path_rises : {to v : ℕ} → IsPath (Arc nodes) v to → (i j : ℕ) → i < length order → slice_index order i ≡ v → j < length order → slice_index order j ≡ to → i ≤ j
    path_rises Here i j li ei lj ej = let e : i ≡ j = one_place order (apart_of order l.once) i j li lj (ei ∙ sym ej) in omega arith
    path_rises (Along {u = u} {v = v} a p) i j li ei lj ej =
        let k = place v (inside u v a) in
        let x : i < k.0 = rises u v i k.0 a li ei k.1 k.2 in
        let y : k.0 ≤ j = path_rises p k.0 j k.1 k.2 lj ej in
        omega arith

    acyclic_of : IsAcyclic (Arc nodes)
    acyclic_of v (next, a, p) =
        let i = place v (known v next a) in
        let k = place next (inside v next a) in
        let x : i.0 < k.0 = rises v next i.0 k.0 a i.1 i.2 k.1 k.2 in
        let y : k.0 ≤ i.0 = path_rises p k.0 i.0 k.1 k.2 i.1 i.2 in
        omega arith

-- both ways
pub acyclic_law : AcyclicIffListed
acyclic_law nodes known = (listed nodes known, λ r. acyclic_of nodes known r.0 r.1)

-- what is no utility is kept
no_utility : (k : Kind) → k ≢ Utility → not (is_utility k) ≡ true
no_utility Chance n = refl
no_utility Decision n = refl
no_utility Utility n = absurd (n refl)

-- the nodes, sorted, without the utilities
pub listing_law : ListingExists
listing_law nodes g = (
  order,
  record {
    all = λ v l n. contains_of v order (in_order v l n);
    within = λ v c. kept v (among_filter keep v o.order (among_of v order c));
    once = different_of order (apart_filter keep o.order setup.apart);
    parents_first = λ i u l a. contains_of u (take i order)
        (parent_before nodes setup.not_own_parent order (parents_first_filter nodes keep o.order o.parents_first) i u l (parent_of nodes u (slice_index order i) a)
        (in_order u (g.parents_known u (slice_index order i) a) (g.no_utility_parent u (slice_index order i) a)));
  },
)
  where
    o : OrderedGraph nodes
    o = ordered nodes g

    setup : Setup nodes o.order
    setup = setup_of nodes o

    keep : ℕ → Bool
    keep v = not (is_utility (node_at nodes v).kind)

    order : List ℕ
    order = filter keep o.order

    in_order : (v : ℕ) → v < length nodes → (node_at nodes v).kind ≢ Utility → Among v order
    in_order v l n = among_filter_in keep v o.order (setup.all v l) (no_utility (node_at nodes v).kind n)

    kept : (v : ℕ) → Among v o.order × (keep v ≡ true) → (v < length nodes) × ((node_at nodes v).kind ≢ Utility)
    kept v m = (setup.inside v m.0, λ k. not_both (is_utility (node_at nodes v).kind) (ap is_utility k) m.1)
      where
        not_both : (b : Bool) → b ≡ true → not b ≡ true → ⊥
        not_both true e f = cc
        not_both false e f = cc
