use Rattle.std.proofs.Common.{◌≡◌, ◌∙◌, ◌⊎◌, ◌↔◌, ◌<◌, ◌≤◌, ℕ, true, false, List, length, ap, subst, sym, refl, arith}
use Rattle.node_sets.specs.Sets.{IsIn}
use Rattle.size_precheck.specs.Classes.{class_at, AreClasses}
use Rattle.size_precheck.specs.declared.classes.Class.{Class}
use Rattle.size_precheck.proofs.Classing.{put_known, put_new}
use Rattle.size_precheck.proofs.Putting.{back_written}
use Rattle.size_precheck.proofs.classes.put_node.Goals as goal

pub returns-then-is_of_cells : goal.returns-then-is_of_cells
returns-then-is_of_cells c counts waits fewer less waiting counted are =
    let old : List Class = c.args.classes.now.items in
    let place : ℕ = c.find_place-place.result in
    let before : c.deref_mut.result.now ≡ old = c.deref_mut.ensures.value in
    let same : length c.put_at.new.classes ≡ length old = c.put_at.ensures.len ∙ ap (λ (cs : List Class). length cs) before in
    let ok = c.args.classes.now.ok in
    let back = back_written c.args.classes.now.len c.put_at.new.classes old same (omega arith) in
    let found = subst (λ (cs : List Class). (place < length cs) × ((class_at cs place).cells ≡ c.args.cells)) c.deref-2.ensures.value (c.is_of_cells.ensures.0 c.if-is_of_cells.true) in
    subst (λ (cs : List Class). AreClasses counts waits cs) (sym back)
    (put_known counts waits fewer c.args.v c.args.cells less counted waiting old c.put_at.new.classes place are same found.0 found.1
    (c.put_at.ensures.cells ∙ ap (λ (cs : List Class). (class_at cs place).cells) before)
    (λ x. subst (λ (cs : List Class). IsIn (class_at c.put_at.new.classes place).nodes x ↔ (IsIn (class_at cs place).nodes x ⊎ (x ≡ c.args.v))) before (c.put_at.ensures.nodes x))
    (λ i n. c.put_at.ensures.same i n ∙ ap (λ (cs : List Class). class_at cs i) before))

pub returns : goal.returns
returns c counts waits fewer less waiting counted are =
    let old : List Class = c.args.classes.now.items in
    let place : ℕ = c.find_place-place.result in
    let value = c.deref.ensures.value in
    put_new counts waits fewer c.args.v c.args.cells less counted waiting old c.insert.new.self.items place are
    (record { cells = c.args.cells; nodes = c.of.result }) c.in_ok-insert.ensures.items refl c.of.ensures
    (subst (λ (cs : List Class). place ≤ length cs) value c.find_place-place.ensures.end)
    (subst (λ (cs : List Class). (i : ℕ) → i < place → (class_at cs i).cells < c.args.cells) value c.find_place-place.ensures.before)
    (λ l.
    let least = subst (λ (cs : List Class). place < length cs → c.args.cells ≤ (class_at cs place).cells) value c.find_place-place.ensures.past l in
    let other = subst (λ (cs : List Class). place < length cs → (class_at cs place).cells ≡ c.args.cells → ⊥) c.deref-2.ensures.value (λ w e. not_both (sym c.if-is_of_cells.false ∙ c.is_of_cells.ensures.1 (w, e))) l in
    apart c.args.cells (class_at old place).cells least other)
  where
    apart : (a b : ℕ) → a ≤ b → (b ≡ a → ⊥) → a < b
    apart a b l n = grind arith

    not_both : false ≡ true → ⊥
    not_both e = cc
