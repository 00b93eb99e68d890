-- The sets that a diagram keeps of its nodes, made node by node.
use Rattle.std.proofs.Common.{◌≡◌, ℕ, ◌+◌, ◌<◌, ◌≤◌, List, [], length, ◌⊎◌, ◌↔◌, inl, inr, subst, sym, arith}
use Rattle.std.specs.Prelude.{Contains}
use Rattle.std.proofs.lemmas.Bool.{cases_eq, cases_lt}
use Rattle.std.proofs.lemmas.List.{get_or_past}
use Rattle.maid_model.specs.declared.diagrams.Kind.TheVariants.{Utility}
use Rattle.maid_model.specs.Views.{NodeView}
use Rattle.maid_model.specs.Nodes.{no_node, node_at, parents_of, IsUtility}
use Rattle.maid_model.specs.Graph.{Arc}
use Rattle.maid_model.specs.Private.{HasLiveStates}
use Rattle.maid_model.specs.Relevance.{IsLive}

-- only nodes have parents
child_within : (nodes : List NodeView) (u v : ℕ) → Arc nodes u v → v < length nodes
child_within nodes u v arc = elim (cases_lt v (length nodes)) as (λ _. v < length nodes) [
  | inl l ↦ l
  | inr l ↦
      let none : Contains [] u = subst (λ (n : NodeView). Contains n.parents u) (get_or_past nodes v no_node l) arc in
      let k = none.1 in absurd (omega arith)
]

-- the arcs into the first n nodes
abbrev pub ArcsBelow : List NodeView → ℕ → (ℕ → ℕ → Type 0) → Type 0
ArcsBelow nodes n Has = (u w : ℕ) → Has u w ↔ ((w < n) × Arc nodes u w)

pub arcs_more : (nodes : List NodeView) (v : ℕ) (list : List ℕ) (Has Next : ℕ → ℕ → Type 0) → list ≡ parents_of nodes v → ((u w : ℕ) → Next u w ↔ (Has u w ⊎ (Contains list u × (w ≡ v)))) →
    ArcsBelow nodes v Has → ArcsBelow nodes (v + 1) Next
arcs_more nodes v list Has Next same next h u w = (
  (λ m. elim ((next u w).0 m) as (λ _. (w < v + 1) × Arc nodes u w) [
    | inl o ↦ let k = (h u w).0 o in let l = k.0 in (omega arith, k.1)
    | inr a ↦ let e = a.1 in (omega arith, subst (λ x. Arc nodes u x) (sym e) (subst (λ (xs : List ℕ). Contains xs u) same a.0))
  ]),
  (λ k. elim (cases_eq w v) as (λ _. Next u w) [
    | inl e ↦ (next u w).1 (inr (subst (λ (xs : List ℕ). Contains xs u) (sym same) (subst (λ x. Arc nodes u x) e k.1), e))
    | inr n ↦ let l = k.0 in (next u w).1 (inl ((h u w).1 (omega arith, k.1)))
  ]),
)

pub arcs_all : (nodes : List NodeView) (n : ℕ) (Has : ℕ → ℕ → Type 0) → length nodes ≤ n → ArcsBelow nodes n Has → (u w : ℕ) → Has u w ↔ Arc nodes u w
arcs_all nodes n Has all h u w = ((λ m. ((h u w).0 m).1), (λ arc. (h u w).1 (let l = child_within nodes u w arc in omega arith, arc)))

pub live_node : (nodes : List NodeView) (v : ℕ) (node : NodeView) → v < length nodes → node ≡ node_at nodes v → HasLiveStates node ↔ IsLive nodes v
live_node nodes v node within same = (
  (λ h. record { within = within; states = subst HasLiveStates same h }),
  (λ l. subst HasLiveStates (sym same) l.states),
)

pub utility_node : (nodes : List NodeView) (v : ℕ) (node : NodeView) → v < length nodes → node ≡ node_at nodes v → (node.kind ≡ Utility) ↔ IsUtility nodes v
utility_node nodes v node within same = (
  (λ h. record { within = within; kind = subst (λ (n : NodeView). n.kind ≡ Utility) same h }),
  (λ u. subst (λ (n : NodeView). n.kind ≡ Utility) (sym same) u.kind),
)

-- of the numbers below n those with the property
module _ (Is : ℕ → Type 0) where
  abbrev pub MembersBelow : ℕ → (ℕ → Type 0) → Type 0
  MembersBelow n Has = (u : ℕ) → Has u ↔ ((u < n) × Is u)

  pub member_more : (v : ℕ) (Has Next : ℕ → Type 0) → Is v → ((u : ℕ) → Next u ↔ (Has u ⊎ (u ≡ v))) → MembersBelow v Has → MembersBelow (v + 1) Next
  member_more v Has Next is next h u = (
    (λ m. elim ((next u).0 m) as (λ _. (u < v + 1) × Is u) [
      | inl o ↦ let k = (h u).0 o in let l = k.0 in (omega arith, k.1)
      | inr e ↦ (omega arith, subst Is (sym e) is)
    ]),
    (λ k. elim (cases_eq u v) as (λ _. Next u) [
      | inl e ↦ (next u).1 (inr e)
      | inr n ↦ let l = k.0 in (next u).1 (inl ((h u).1 (omega arith, k.1)))
    ]),
  )

  pub member_skip : (v : ℕ) (Has : ℕ → Type 0) → (Is v → ⊥) → MembersBelow v Has → MembersBelow (v + 1) Has
  member_skip v Has not h u = (
    (λ m. let k = (h u).0 m in let l = k.0 in (omega arith, k.1)),
    (λ k. elim (cases_eq u v) as (λ _. Has u) [
      | inl e ↦ absurd (not (subst Is e k.1))
      | inr n ↦ let l = k.0 in (h u).1 (omega arith, k.1)
    ]),
  )

  pub member_all : (n : ℕ) (Has : ℕ → Type 0) → ((u : ℕ) → Is u → u < n) → MembersBelow n Has → (u : ℕ) → Has u ↔ Is u
  member_all n Has within h u = ((λ m. ((h u).0 m).1), (λ is. (h u).1 (within u is, is)))

  -- where none has the property up to the next number
  pub member_on : (n v : ℕ) (Has : ℕ → Type 0) → n ≤ v → ((w : ℕ) → n ≤ w → w < v → Is w → ⊥) → MembersBelow n Has → MembersBelow v Has
  member_on n v Has on none h u = (
    (λ m. let k = (h u).0 m in let l = k.0 in (omega arith, k.1)),
    (λ k. elim (cases_lt u n) as (λ _. Has u) [ inl l ↦ (h u).1 (l, k.1) | inr l ↦ absurd (none u l k.0 k.1) ]),
  )

  -- where none has the property from there on
  pub member_end : (n : ℕ) (Has : ℕ → Type 0) → ((w : ℕ) → n ≤ w → Is w → ⊥) → MembersBelow n Has → (u : ℕ) → Has u ↔ Is u
  member_end n Has none h u = (
    (λ m. ((h u).0 m).1),
    (λ is. elim (cases_lt u n) as (λ _. Has u) [ inl l ↦ (h u).1 (l, is) | inr l ↦ absurd (none u l is) ]),
  )
