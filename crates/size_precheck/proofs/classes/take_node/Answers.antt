use Rattle.std.proofs.Common.{◌≡◌, ◌∙◌, ◌↔◌, ◌<◌, ◌≤◌, ℕ, List, length, ap, subst, sym, arith}
use Rattle.node_sets.specs.Sets.{IsIn}
use Rattle.size_precheck.specs.Classes.{class_at, AreClasses}
use Rattle.size_precheck.specs.declared.classes.Class.{Class}
use Rattle.size_precheck.proofs.Classing.{taken, dropped}
use Rattle.size_precheck.proofs.Putting.{back_written}
use Rattle.size_precheck.proofs.classes.take_node.Goals as goal

pub returns-then-has_no_other : goal.returns-then-has_no_other
returns-then-has_no_other c counts waits fewer less counted are =
    let old : List Class = c.args.classes.now.items in
    let place : ℕ = c.find_place-place.result in
    let value = c.deref.ensures.value in
    let within : place < length old = let l = c.if-place-len.true in let n = c.len.ensures in let ok = c.args.classes.now.ok in omega arith in
    dropped counts waits fewer c.args.v c.args.cells less counted old c.remove.new.self.items place c.remove.ensures.items within
    (subst (λ (cs : List Class). (i : ℕ) → i < place → (class_at cs i).cells < c.args.cells) value c.find_place-place.ensures.before)
    (subst (λ (cs : List Class). place < length cs → c.args.cells ≤ (class_at cs place).cells) value c.find_place-place.ensures.past within)
    (subst (λ (cs : List Class). (x : ℕ) → IsIn (class_at cs place).nodes x → x ≡ c.args.v) c.deref-then-len-gt-FEW.ensures.value (c.has_no_other.ensures.0 c.if-has_no_other.true))
    are

pub returns-else-len-gt-FEW : goal.returns-else-len-gt-FEW
returns-else-len-gt-FEW c counts waits fewer less counted are =
    let old : List Class = c.args.classes.now.items in
    let place : ℕ = c.find_place-place.result in
    let value = c.deref.ensures.value in
    let before : c.deref_mut.result.now ≡ old = c.deref_mut.ensures.value in
    let same : length c.take_at.new.classes ≡ length old = c.take_at.ensures.len ∙ ap (λ (cs : List Class). length cs) before in
    let ok = c.args.classes.now.ok in
    let back = back_written c.args.classes.now.len c.take_at.new.classes old same (omega arith) in
    subst (λ (cs : List Class). AreClasses counts fewer cs) (sym back)
    (taken counts waits fewer c.args.v c.args.cells less counted old c.take_at.new.classes place same
    (subst (λ (cs : List Class). (i : ℕ) → i < place → (class_at cs i).cells < c.args.cells) value c.find_place-place.ensures.before)
    (subst (λ (cs : List Class). place < length cs → c.args.cells ≤ (class_at cs place).cells) value c.find_place-place.ensures.past)
    (λ _. c.take_at.ensures.cells ∙ ap (λ (cs : List Class). (class_at cs place).cells) before)
    (λ _ x. subst (λ (cs : List Class). IsIn (class_at c.take_at.new.classes place).nodes x ↔ (IsIn (class_at cs place).nodes x × (x ≡ c.args.v → ⊥))) before (c.take_at.ensures.nodes x))
    (λ i n. c.take_at.ensures.same i n ∙ ap (λ (cs : List Class). class_at cs i) before) are)
