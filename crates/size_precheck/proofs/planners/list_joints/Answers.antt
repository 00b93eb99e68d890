use Rattle.std.proofs.Common.{◌≡◌, ◌∙◌, ℕ, ◌+◌, ◌<◌, List, length, take, drop, ◌++◌, sym, ap, subst, arith}
use Rattle.std.proofs.Math.ListN.{length-replicate}
use Rattle.std.proofs.lemmas.List.{get_or-replicate}
use Rattle.size_precheck.specs.declared.joints.Joint.{Joint}
use Rattle.size_precheck.specs.Families.{IsJointAmong, IsRuledBelow}
use Rattle.size_precheck.specs.Joints.{joint_at, no_joint}
use Rattle.size_precheck.proofs.Joining.{joined_none}
use Rattle.size_precheck.proofs.Putting.{back_written}
use Rattle.size_precheck.proofs.planners.list_joints.Goals as goal

pub loop-v-init : goal.loop-v-init
loop-v-init c =
    let nodes = c.args.diagram.now.nodes in
    let items = c.in_ok-joints.ensures.items_if_clones_equal (λ y e. e) in
    record {
      len = ap (λ (js : List Joint). length js) items ∙ length-replicate c.count.result c.empty.result ∙ c.count.ensures.count;
      joined = λ y l. subst (λ (j : Joint). IsJointAmong nodes (IsRuledBelow nodes 0) y j)
          (sym (ap (λ (js : List Joint). joint_at js y) items ∙ get_or-replicate c.count.result y c.empty.result no_joint (subst (λ (n : ℕ). y < n) (sym c.count.ensures.count) l)))
          (joined_none nodes y c.empty.result c.empty.ensures.set c.empty.ensures.tables);
    }

pub bounds-families-v : goal.bounds-families-v
bounds-families-v c = subst (λ (n : ℕ). c.loop-v.v < n) (c.count-v-end.ensures.count ∙ sym c.requires.len) c.loop-v-test.true

pub put_family-requires-clause-within : goal.put_family-requires-clause-within
put_family-requires-clause-within c = subst (λ (n : ℕ). c.loop-v.v < n) c.count-v-end.ensures.count c.loop-v-test.true

pub put_family-requires-clause-len : goal.put_family-requires-clause-len
put_family-requires-clause-len c = ap (λ (js : List Joint). length js) c.deref_mut.ensures.value ∙ c.loop-v.invariant.len

pub put_family-requires-clause-tag : goal.put_family-requires-clause-tag
put_family-requires-clause-tag c = (c.requires.families c.loop-v.v (subst (λ (n : ℕ). c.loop-v.v < n) (c.count-v-end.ensures.count ∙ sym c.requires.len) c.loop-v-test.true)).tag

pub put_family-requires-clause-scope : goal.put_family-requires-clause-scope
put_family-requires-clause-scope c = (c.requires.families c.loop-v.v (subst (λ (n : ℕ). c.loop-v.v < n) (c.count-v-end.ensures.count ∙ sym c.requires.len) c.loop-v-test.true)).scope

pub loop-v-preserved : goal.loop-v-preserved
loop-v-preserved c =
    let nodes = c.args.diagram.now.nodes in
    let v : ℕ = c.loop-v.v in
    let old : List Joint = c.loop-v.joints.items in
    let new : List Joint = c.put_family.new.joints in
    let value = c.deref_mut.ensures.value in
    let same : length new ≡ length old = c.put_family.ensures.len ∙ ap (λ (js : List Joint). length js) value in
    let back : take c.loop-v.joints.len (new ++ drop (length new) old) ≡ new = back_written c.loop-v.joints.len new old same (let ok = c.loop-v.joints.ok in omega arith) in
    record {
      len = ap (λ (js : List Joint). length js) back ∙ same ∙ c.loop-v.invariant.len;
      joined = λ y l. subst (λ (js : List Joint). IsJointAmong nodes (IsRuledBelow nodes (v + 1)) y (joint_at js y)) (sym back)
          (c.put_family.ensures.joined y (subst (λ (js : List Joint). IsJointAmong nodes (IsRuledBelow nodes v) y (joint_at js y)) (sym value) (c.loop-v.invariant.joined y l)));
    }

pub returns-clause-joints : goal.returns-clause-joints
returns-clause-joints c =
    let nodes = c.args.diagram.now.nodes in
    let end : c.loop-v.v ≡ length nodes = omega (arith, c.loop-v-test.false, c.loop-v.auto.v-end, c.count-v-end.ensures.count) in
    subst (λ (n : ℕ). (y : ℕ) → y < length nodes → IsJointAmong nodes (IsRuledBelow nodes n) y (joint_at c.loop-v.joints.items y)) end c.loop-v.invariant.joined
