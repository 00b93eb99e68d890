use Rattle.std.proofs.Common.{◌≡◌, ◌∙◌, ◌+◌, ◌++◌, ◌∷◌, [], ◌<◌, ℕ, List, length, inl, inr, sym, ap, subst, arith}
use Rattle.std.proofs.lemmas.Bool.{cases_lt}
use Rattle.std.proofs.lemmas.List.{get_or_append_left, get_or_at, get_or_default, length_push}
use Rattle.node_sets.specs.Sets.{holds}
use Rattle.size_precheck.specs.declared.joints.Joint.{Joint}
use Rattle.size_precheck.specs.Joints.{counted_over, joint_at, IsCountedAt}
use Rattle.size_precheck.proofs.planners.list_counts.Goals as goal

-- one count more
counted_push : (states : List ℕ) (joints : List Joint) (counts : List ℕ) (i count : ℕ) (joint : Joint) → length counts ≡ i → joint_at joints i ≡ joint → count ≡ counted_over states (holds joint.set) → ((y : ℕ) → y < i → IsCountedAt states joints counts y)
    → (y : ℕ) → y < i + 1 → IsCountedAt states joints (counts ++ count ∷ []) y
counted_push states joints counts i count joint len at is before y l = elim (cases_lt y i) as (λ _. IsCountedAt states joints (counts ++ count ∷ []) y) [
  | inl b ↦ get_or_append_left counts (count ∷ []) 0 y (omega (arith, b, len)) ∙ before y b
  | inr g ↦
      let e : i ≡ y = omega arith in
      get_or_at counts count [] 0 y (len ∙ e) ∙ is ∙ ap (λ (j : Joint). counted_over states (holds j.set)) (sym at ∙ ap (joint_at joints) e)
]

pub loop-joint-preserved : goal.loop-joint-preserved
loop-joint-preserved c =
    let i : ℕ = c.loop-joint.joint-index in
    record {
      len = let a = ap (λ (l : List ℕ). length l) c.in_ok-push.ensures.items ∙ length_push c.loop-joint.counts.items _ in omega (arith, a, c.loop-joint.invariant.len);
      counted = subst (λ (l : List ℕ). (y : ℕ) → y < i + 1 → IsCountedAt c.args.states.now c.args.joints.now l y) (sym c.in_ok-push.ensures.items)
          (counted_push c.args.states.now c.args.joints.now c.loop-joint.counts.items i c.count_cells.result _ c.loop-joint.invariant.len (get_or_default c.args.joints.now i _ _ c.loop-joint-test.true) c.count_cells.ensures c.loop-joint.invariant.counted);
    }

pub returns-clause-counted : goal.returns-clause-counted
returns-clause-counted c y l = c.loop-joint.invariant.counted y (omega (arith, l, c.loop-joint-test.false))
