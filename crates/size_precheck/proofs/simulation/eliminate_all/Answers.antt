use Rattle.std.proofs.Common.{◌≡◌, ◌⊎◌, ◌↔◌, ◌∙◌, ℕ, ◌+◌, ◌≤◌, ◌^◌, ◌-◌, Bool, List, length, refl, subst, sym, ap, inl, inr, arith}
use Rattle.std.proofs.lemmas.List.{length_push}
use Rattle.maid_model.specs.Placing.{Remains}
use Rattle.maid_model.specs.Views.{NodeView}
use Rattle.node_sets.specs.declared.sets.NodeSet.{NodeSet}
use Rattle.node_sets.specs.Sets.{holds, IsIn}
use Rattle.size_precheck.specs.declared.classes.Class.{Class}
use Rattle.size_precheck.specs.declared.joints.Counted.{Counted}
use Rattle.size_precheck.specs.Classes.{AreClasses, IsFewest}
use Rattle.size_precheck.specs.Greedy.{IsNext}
use Rattle.size_precheck.specs.Joints.{cells_in, Stands, IsGreedyStart}
use Rattle.size_precheck.proofs.Classing.{found_next, none_next, removed_fewer, removed_less}
use Rattle.size_precheck.proofs.Counting.{stopped_few}
use Rattle.size_precheck.proofs.Placed.{placed_less, placed_still}
use Rattle.size_precheck.proofs.Running.{At, at_none, remains_none, remains_push, stands_less, is_next, joined_few, at_more}
use Rattle.size_precheck.proofs.simulation.eliminate_all.Goals as goal

pub overflow_sub-live : goal.overflow_sub-live
overflow_sub-live c =
    let waiting = IsIn c.args.waiting in
    let states = c.args.states.now in
    let v : ℕ = c.in-Some.v in
    let found : IsFewest (cells_in c.steps.known) (holds c.steps.rest) v = found_next (cells_in c.steps.known) (holds c.steps.rest) c.deref.result.now c.find_next.result v c.find_next.ensures c.in-Some.is
    (subst (λ (cs : List Class). AreClasses (cells_in c.steps.known) (holds c.steps.rest) cs) (sym c.deref.ensures.value) c.steps.invariant.classes) in
    let started = c.requires.started in
    let now = c.steps.invariant.at started.0 started.1 started.2 in
    let before : Stands states (λ y. IsIn c.remove.new.self y ⊎ (y ≡ v)) now.tables c.steps.known =
    stands_less states (IsIn c.steps.rest) (λ y. IsIn c.remove.new.self y ⊎ (y ≡ v)) now.tables c.steps.known
    (λ y. elim [ inl m ↦ ((c.remove.ensures y).0 m).0 | inr e ↦ subst (IsIn c.steps.rest) (sym e) found.waiting ]) now.stands in
    joined_few started.0 states waiting c.steps.rest started.1 c.steps.steps.items c.steps.known c.steps.live c.steps.cells c.steps.work started.2.are_states now v _ _ _
    (c.in_ok-made.ensures.step started.0 now.tables started.2.are_states before)

pub steps-smaller : goal.steps-smaller
steps-smaller c =
    let v : ℕ = c.in-Some.v in
    let found : IsFewest (cells_in c.steps.known) (holds c.steps.rest) v = found_next (cells_in c.steps.known) (holds c.steps.rest) c.deref.result.now c.find_next.result v c.find_next.ensures c.in-Some.is
    (subst (λ (cs : List Class). AreClasses (cells_in c.steps.known) (holds c.steps.rest) cs) (sym c.deref.ensures.value) c.steps.invariant.classes) in
    removed_fewer c.steps.rest c.remove.new.self v (c.requires.small v ((c.steps.invariant.remains v).0 found.waiting).0) found.waiting c.remove.ensures

pub steps-preserved : goal.steps-preserved
steps-preserved c =
    let waiting = IsIn c.args.waiting in
    let states = c.args.states.now in
    let v : ℕ = c.in-Some.v in
    let inv = c.steps.invariant in
    let found : IsFewest (cells_in c.steps.known) (holds c.steps.rest) v = found_next (cells_in c.steps.known) (holds c.steps.rest) c.deref.result.now c.find_next.result v c.find_next.ensures c.in-Some.is
    (subst (λ (cs : List Class). AreClasses (cells_in c.steps.known) (holds c.steps.rest) cs) (sym c.deref.ensures.value) c.steps.invariant.classes) in
    let taken : AreClasses (cells_in c.steps.known) (holds c.remove.new.self) c.take_node.new.classes.items =
    c.take_node.ensures (cells_in c.steps.known) (holds c.steps.rest) (holds c.remove.new.self) (removed_less c.steps.rest c.remove.new.self v c.remove.ensures) (ap (λ (h : Counted). h.cells) (sym c.counted_of.ensures)) inv.classes in
    record {
      classes = c.in_ok-made.ensures.classes taken;
      places = placed_still c.steps.known c.eliminate.new.known c.eliminate.ensures.places waiting inv.places;
      remains = subst (λ (xs : List ℕ). (x : ℕ) → IsIn c.remove.new.self x ↔ Remains waiting xs x) (sym c.in_ok-push.ensures.items)
          (remains_push waiting (IsIn c.steps.rest) (IsIn c.remove.new.self) c.steps.steps.items v inv.remains c.remove.ensures);
      live = let a = ap length c.in_ok-push.ensures.items ∙ length_push c.steps.steps.items v in let b = inv.live in omega arith;
      few = subst (λ (n : ℕ). n ≤ 10 ^ 18) (sym c.add-cells.ensures) (stopped_few _);
      little = subst (λ (n : ℕ). n ≤ 10 ^ 18) (sym c.add-work.ensures) (stopped_few _);
      at = λ (nodes : List NodeView) (scopes : List (ℕ → Bool)) (started : IsGreedyStart nodes states waiting scopes c.args.start).
          let now = inv.at nodes scopes started in
          let before : Stands states (λ y. IsIn c.remove.new.self y ⊎ (y ≡ v)) now.tables c.steps.known =
          stands_less states (IsIn c.steps.rest) (λ y. IsIn c.remove.new.self y ⊎ (y ≡ v)) now.tables c.steps.known
          (λ y. elim [ inl m ↦ ((c.remove.ensures y).0 m).0 | inr e ↦ subst (IsIn c.steps.rest) (sym e) found.waiting ]) now.stands in
          let next : IsNext nodes waiting scopes c.steps.steps.items v =
          is_next nodes states waiting c.steps.rest scopes c.steps.steps.items c.steps.known c.steps.live c.steps.cells c.steps.work started.are_states now v inv.remains found in
          subst (λ (xs : List ℕ). At nodes states waiting (IsIn c.remove.new.self) scopes xs c.eliminate.new.known (c.steps.live + 1 - c.in_ok-made.made.tables) c.add-cells.result c.add-work.result)
          (sym c.in_ok-push.ensures.items)
          (at_more nodes states waiting c.steps.rest scopes c.steps.steps.items c.steps.known c.steps.live c.steps.cells c.steps.work started.are_states now v (IsIn c.remove.new.self) _ c.in_ok-made.made _ _ _
          next (c.in_ok-made.ensures.step nodes now.tables started.are_states before) refl c.add-cells.ensures c.add-work.ensures);
    }

pub returns-clause-run : goal.returns-clause-run
returns-clause-run c nodes scopes started =
    let inv = c.steps.invariant in
    let now = inv.at nodes scopes started in
    record {
      greedy = record {
        each = now.each;
        complete = λ v r. none_next (cells_in c.steps.known) (holds c.steps.rest) c.deref.result.now c.find_next.result c.find_next.ensures c.in_default.is
            (subst (λ (cs : List Class). AreClasses (cells_in c.steps.known) (holds c.steps.rest) cs) (sym c.deref.ensures.value) inv.classes) v ((inv.remains v).1 r);
      };
      live = now.live_is;
      cells = now.cells_are;
      work = now.work_is;
    }

pub list_classes-requires : goal.list_classes-requires
list_classes-requires c = c.requires.places

pub steps-init : goal.steps-init
steps-init c = record {
  classes = c.in_ok-classes.ensures;
  places = c.requires.places;
  remains = subst (λ (xs : List ℕ). (x : ℕ) → IsIn c.args.waiting x ↔ Remains (IsIn c.args.waiting) xs x) (sym c.in_ok-steps.ensures.items) (remains_none (IsIn c.args.waiting));
  live = let few = c.requires.few in omega arith;
  few = subst (λ (n : ℕ). n ≤ 10 ^ 18) (sym c.requires.started.2.cells) (stopped_few _);
  little = omega arith;
  at = λ nodes scopes begun. subst (λ (xs : List ℕ). At nodes c.args.states.now (IsIn c.args.waiting) (IsIn c.args.waiting) scopes xs c.args.start.known c.args.start.live c.args.start.cells 0)
      (sym c.in_ok-steps.ensures.items) (at_none nodes c.args.states.now (IsIn c.args.waiting) scopes c.args.start begun);
}

-- the node that is found waits
found_waits : (counts : ℕ → ℕ) (rest : NodeSet) (v : ℕ) (seen classes : List Class) → (AreClasses counts (holds rest) seen → IsFewest counts (holds rest) v) → seen ≡ classes → AreClasses counts (holds rest) classes → IsIn rest v
found_waits counts rest v seen classes fewest same are = (fewest (subst (λ (cs : List Class). AreClasses counts (holds rest) cs) (sym same) are)).waiting

pub counted_of-requires : goal.counted_of-requires
counted_of-requires c =
    let waits = found_waits (cells_in c.steps.known) c.steps.rest c.in-Some.v c.deref.result.now c.steps.classes.items (c.in-Some.ensures _ _) c.deref.ensures.value c.steps.invariant.classes in
    c.steps.invariant.places.each c.in-Some.v ((c.steps.invariant.remains c.in-Some.v).0 waits).0

pub take_node-requires : goal.take_node-requires
take_node-requires c =
    let waits = found_waits (cells_in c.steps.known) c.steps.rest c.in-Some.v c.deref.result.now c.steps.classes.items (c.in-Some.ensures _ _) c.deref.ensures.value c.steps.invariant.classes in
    c.requires.small c.in-Some.v ((c.steps.invariant.remains c.in-Some.v).0 waits).0

pub remove-requires : goal.remove-requires
remove-requires c =
    let waits = found_waits (cells_in c.steps.known) c.steps.rest c.in-Some.v c.deref.result.now c.steps.classes.items (c.in-Some.ensures _ _) c.deref.ensures.value c.steps.invariant.classes in
    c.requires.small c.in-Some.v ((c.steps.invariant.remains c.in-Some.v).0 waits).0

pub eliminate-requires-clause-states : goal.eliminate-requires-clause-states
eliminate-requires-clause-states c = c.requires.states

pub eliminate-requires-clause-small : goal.eliminate-requires-clause-small
eliminate-requires-clause-small c =
    let waits = found_waits (cells_in c.steps.known) c.steps.rest c.in-Some.v c.deref.result.now c.steps.classes.items (c.in-Some.ensures _ _) c.deref.ensures.value c.steps.invariant.classes in
    c.requires.small c.in-Some.v ((c.steps.invariant.remains c.in-Some.v).0 waits).0

pub eliminate-requires-clause-here : goal.eliminate-requires-clause-here
eliminate-requires-clause-here c =
    let waits = found_waits (cells_in c.steps.known) c.steps.rest c.in-Some.v c.deref.result.now c.steps.classes.items (c.in-Some.ensures _ _) c.deref.ensures.value c.steps.invariant.classes in
    c.steps.invariant.places.each c.in-Some.v ((c.steps.invariant.remains c.in-Some.v).0 waits).0

pub eliminate-requires-clause-places : goal.eliminate-requires-clause-places
eliminate-requires-clause-places c =
    placed_less (IsIn c.args.waiting) (IsIn c.remove.new.self) c.steps.known (λ y m. ((c.steps.invariant.remains y).0 ((c.remove.ensures y).0 m).0).0) c.steps.invariant.places

pub eliminate-requires-clause-apart : goal.eliminate-requires-clause-apart
eliminate-requires-clause-apart c m = ((c.remove.ensures c.in-Some.v).0 m).1 refl

pub overflow_add-live : goal.overflow_add-live
overflow_add-live c = let a = c.steps.invariant.live in let ok = c.steps.steps.ok in let small = c.steps.steps.small in omega arith

pub add-cells-requires-clause-a : goal.add-cells-requires-clause-a
add-cells-requires-clause-a c = c.steps.invariant.few

pub add-cells-requires-clause-b : goal.add-cells-requires-clause-b
add-cells-requires-clause-b c = c.in_ok-made.ensures.few

pub add-work-requires-clause-a : goal.add-work-requires-clause-a
add-work-requires-clause-a c = c.steps.invariant.little

pub add-work-requires-clause-b : goal.add-work-requires-clause-b
add-work-requires-clause-b c = c.in_ok-made.ensures.little

pub returns-clause-few : goal.returns-clause-few
returns-clause-few c = c.steps.invariant.few

pub returns-clause-little : goal.returns-clause-little
returns-clause-little c = c.steps.invariant.little
