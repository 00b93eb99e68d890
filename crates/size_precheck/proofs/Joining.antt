-- The joints of nodes among the tables of some nodes, as there are more of these or fewer.
use Rattle.std.proofs.Common.{◌≡◌, ◌≢◌, ◌∙◌, ◌⊎◌, ◌↔◌, ℕ, ◌+◌, ◌<◌, true, false, List, length, sym, subst, refl, inl, inr, arith}
use Rattle.finite_sums.proofs.Counts.{true_or_false}
use Rattle.maid_model.specs.declared.diagrams.Kind.TheVariants.{Utility}
use Rattle.maid_model.specs.Graph.{IsGraph}
use Rattle.maid_model.specs.Nodes.{node_at}
use Rattle.maid_model.specs.Views.{NodeView}
use Rattle.node_sets.specs.Sets.{holds, IsIn}
use Rattle.node_sets.specs.declared.sets.NodeSet.{NodeSet}
use Rattle.size_precheck.specs.declared.joints.Joint.{Joint}
use Rattle.size_precheck.specs.declared.joints.Table.{Table}
use Rattle.size_precheck.specs.Families.{IsJointAmong, IsOfFamily, IsRuledBelow}
use Rattle.size_precheck.specs.Joints.{joint_at, IsPut}

module _ (nodes : List NodeView) (Of More : ℕ → Type 0) (v y : ℕ) (more : (x : ℕ) → More x ↔ (Of x ⊎ (x ≡ v))) where
  -- one more table, which holds y
  pub joined_put : (table : Table) (none : NodeSet) (before after : Joint) → ((x : ℕ) → IsIn none x → ⊥) → table.tag ≡ v → ((u : ℕ) → IsIn table.scope u ↔ IsOfFamily nodes v u)
      → IsOfFamily nodes v y → IsPut table (IsIn none) (IsIn none) before after → IsJointAmong nodes Of y before → IsJointAmong nodes More y after
  joined_put table none before after nothing tag scope own put joined = record {
    tables = λ x. (
      (λ m. elim ((put.tables x).0 m) as (λ _. More x × IsOfFamily nodes x y) [
        | inl h ↦ let k = (joined.tables x).0 h.0 in ((more x).1 (inl k.0), k.1)
        | inr e ↦ ((more x).1 (inr (e ∙ tag)), subst (λ z. IsOfFamily nodes z y) (sym (e ∙ tag)) own)
      ]),
      (λ h. (put.tables x).1 (elim ((more x).0 h.0) as (λ _. (IsIn before.tables x × (IsIn none x → ⊥)) ⊎ (x ≡ table.tag)) [
        | inl o ↦ inl ((joined.tables x).1 (o, h.1), nothing x)
        | inr e ↦ inr (e ∙ sym tag)
      ])),
    );
    set = λ u. (
      (λ m. elim ((put.set u).0 m).0 as (λ _. (x : ℕ) × More x × IsOfFamily nodes x y × IsOfFamily nodes x u) [
        | inl b ↦ let k = (joined.set u).0 b in (k.0, (more k.0).1 (inl k.1), k.2, k.3)
        | inr s ↦ (v, (more v).1 (inr refl), own, (scope u).0 s)
      ]),
      (λ h. (put.set u).1 (
        elim ((more h.0).0 h.1) as (λ _. IsIn before.set u ⊎ IsIn table.scope u) [
          | inl o ↦ inl ((joined.set u).1 (h.0, o, h.2, h.3))
          | inr e ↦ inr ((scope u).1 (subst (λ z. IsOfFamily nodes z u) e h.3))
        ],
        nothing u,
      )),
    );
  }

  -- one more, which does not hold y
  pub joined_same : (joint : Joint) → (IsOfFamily nodes v y → ⊥) → IsJointAmong nodes Of y joint → IsJointAmong nodes More y joint
  joined_same joint apart joined = record {
    tables = λ x. (
      (λ m. let k = (joined.tables x).0 m in ((more x).1 (inl k.0), k.1)),
      (λ h. (joined.tables x).1 (old x h.0 h.1, h.1)),
    );
    set = λ u. (
      (λ m. let k = (joined.set u).0 m in (k.0, (more k.0).1 (inl k.1), k.2, k.3)),
      (λ h. (joined.set u).1 (h.0, old h.0 h.1 h.2, h.2, h.3)),
    );
  }
    where
      old : (x : ℕ) → More x → IsOfFamily nodes x y → Of x
      old x m o = elim ((more x).0 m) as (λ _. Of x) [ inl k ↦ k | inr e ↦ absurd (apart (subst (λ z. IsOfFamily nodes z y) e o)) ]

-- of no nodes: it has no table
pub joined_none : (nodes : List NodeView) (y : ℕ) (joint : Joint) → ((u : ℕ) → IsIn joint.set u → ⊥) → ((x : ℕ) → IsIn joint.tables x → ⊥) → IsJointAmong nodes (IsRuledBelow nodes 0) y joint
joined_none nodes y joint no_set no_tables = record {
  tables = λ x. ((λ m. absurd (no_tables x m)), (λ h. let l = h.0.0 in absurd (omega arith)));
  set = λ u. ((λ m. absurd (no_set u m)), (λ h. let l = h.1.0 in absurd (omega arith)));
}

-- ---- along the nodes
before_or_at : (x v : ℕ) → x < v + 1 → (x < v) ⊎ (x ≡ v)
before_or_at x v l = grind arith

-- a node with a rule more
pub ruled_more : (nodes : List NodeView) (v : ℕ) → ((node_at nodes v).kind ≢ Utility) → (x : ℕ) → IsRuledBelow nodes (v + 1) x ↔ (IsRuledBelow nodes v x ⊎ (x ≡ v))
ruled_more nodes v plain x = (
  (λ h. elim (before_or_at x v h.0) as (λ _. IsRuledBelow nodes v x ⊎ (x ≡ v)) [ inl l ↦ inl (l, h.1) | inr e ↦ inr e ]),
  elim [
    | inl h ↦ (let l = h.0 in omega arith, h.1)
    | inr e ↦ (omega arith, subst (λ z. (node_at nodes z).kind ≢ Utility) (sym e) plain)
  ],
)

-- what putting a node's table makes of each joint
pub family_put : (nodes : List NodeView) (v : ℕ) (table : Table) (none : NodeSet) (joints joints' : List Joint) → ((node_at nodes v).kind ≢ Utility) → ((x : ℕ) → IsIn none x → ⊥) → table.tag ≡ v
    → ((u : ℕ) → IsIn table.scope u ↔ IsOfFamily nodes v u)
    → ((y : ℕ) → IsIn table.scope y → IsPut table (IsIn none) (IsIn none) (joint_at joints y) (joint_at joints' y))
    → ((y : ℕ) → (IsIn table.scope y → ⊥) → joint_at joints' y ≡ joint_at joints y)
    → (y : ℕ) → IsJointAmong nodes (IsRuledBelow nodes v) y (joint_at joints y) → IsJointAmong nodes (IsRuledBelow nodes (v + 1)) y (joint_at joints' y)
family_put nodes v table none joints joints' plain nothing tag scope put same y joined = elim (true_or_false (holds table.scope y)) as (λ _. IsJointAmong nodes (IsRuledBelow nodes (v + 1)) y (joint_at joints' y)) [
  | inl e ↦ joined_put nodes (IsRuledBelow nodes v) (IsRuledBelow nodes (v + 1)) v y (ruled_more nodes v plain) table none (joint_at joints y) (joint_at joints' y) nothing tag scope ((scope y).0 e) (put y e) joined
  | inr e ↦
      let lacks : IsIn table.scope y → ⊥ = lacking e in
      subst (λ (j : Joint). IsJointAmong nodes (IsRuledBelow nodes (v + 1)) y j) (sym (same y lacks))
      (joined_same nodes (IsRuledBelow nodes v) (IsRuledBelow nodes (v + 1)) v y (ruled_more nodes v plain) (joint_at joints y) (λ o. lacks ((scope y).1 o)) joined)
]
  where
    lacking : holds table.scope y ≡ false → IsIn table.scope y → ⊥
    lacking e m = let f : true ≡ false = sym m ∙ e in absurd (cc)

-- the node and its parents are nodes
pub family_within : (nodes : List NodeView) (v u : ℕ) → IsGraph nodes → v < length nodes → IsOfFamily nodes v u → u < length nodes
family_within nodes v u graph within (inl e) = omega arith
family_within nodes v u graph within (inr m) = graph.parents_known u v m
