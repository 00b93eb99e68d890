use Rattle.std.proofs.Common.{◌≡◌, ◌∙◌, ℕ, ◌<◌, ◌≤◌, ◌^◌, List, ◌++◌, map, length, Option, Some, subst, sym, ap, arith}
use Rattle.std.specs.Prelude.{option_to_list}
use Rattle.node_sets.specs.Sets.{holds, IsIn}
use Rattle.size_precheck.specs.declared.planners.Family.{Family}
use Rattle.size_precheck.specs.Families.{family_at, IsFamily, IsJointAmong}
use Rattle.size_precheck.specs.declared.simulation.Start.{Start}
use Rattle.size_precheck.specs.declared.joints.Known.{Known}
use Rattle.size_precheck.specs.Joints.{counted_over, joint_in, AllStayCounted, HasPlaces, IsCountedIn, IsGreedyStart, family_test, parents_test}
use Rattle.size_precheck.proofs.Counting.{counted_few, stopped_few}
use Rattle.size_precheck.proofs.Placed.{placed_still}
use Rattle.size_precheck.proofs.Putting.{put_none, put_more, started_without, started_with}
use Rattle.size_precheck.proofs.starts.put_all_first.Goals as goal
use Rattle.size_precheck.proofs.starts.put_all_first.Goals.{in-Some-utility, in_default-utility}

pub tables-init : goal.tables-init
tables-init c = record {
  within = omega arith;
  few = omega arith;
  little = omega arith;
  put = put_none c.args.diagram.now.nodes c.args.ruled.now;
}

pub add-cells-requires-clause-b : goal.add-cells-requires-clause-b
add-cells-requires-clause-b c =
    let v : ℕ = c.in-Some.v in
    let known : IsFamily c.args.diagram.now.nodes c.args.planner.now.states.items v (family_at c.as_slice-families.result.now v) =
    subst (λ (fs : List Family). IsFamily c.args.diagram.now.nodes c.args.planner.now.states.items v (family_at fs v)) (sym c.as_slice-families.ensures.value)
    (c.requires.planner.families v (let a = (c.requires.ruled v c.in-Some.ensures.inside).0 in let b = c.requires.planner.all in omega arith)) in
    subst (λ (n : ℕ). n ≤ 10 ^ 18) (sym known.cells) (counted_few _ _)

pub add-cells-requires-in-Some-utility-clause-b : goal.add-cells-requires-in-Some-utility-clause-b
add-cells-requires-in-Some-utility-clause-b c = subst (λ (n : ℕ). n ≤ 10 ^ 18) (sym c.count_cells.ensures) (counted_few _ _)

pub tables-preserved : goal.tables-preserved
tables-preserved c =
    let inv = c.tables.invariant in
    let nodes = c.args.diagram.now.nodes in
    let states = c.args.planner.now.states.items in
    let v : ℕ = c.in-Some.v in
    let family : Family = family_at c.as_slice-families.result.now v in
    let known : IsFamily nodes states v family = subst (λ (fs : List Family). IsFamily nodes states v (family_at fs v)) (sym c.as_slice-families.ensures.value)
    (c.requires.planner.families v (let a = (c.requires.ruled v c.in-Some.ensures.inside).0 in let b = c.requires.planner.all in omega arith)) in
    record {
      within = let a = c.in-Some.ensures.small in omega arith;
      few = let a = c.in-Some.ensures.not_before in let b = inv.few in omega arith;
      little = subst (λ (n : ℕ). n ≤ 10 ^ 18) (sym c.add-cells.ensures) (stopped_few _);
      put = put_more nodes states c.args.ruled.now c.tables.from v c.tables.live c.tables.cells _ family.cells family.table
          c.requires.planner.states c.in-Some.ensures known.tag known.scope known.cells c.add-cells.ensures inv.put;
    }

pub returns-clause-started : goal.returns-clause-started
returns-clause-started c list listed =
    let inv = c.tables.invariant in
    let nodes = c.args.diagram.now.nodes in
    let states = c.args.planner.now.states.items in
    let known : Known = c.in_ok-known.known in
    let joined : (y : ℕ) → IsIn c.args.waiting.now y → IsJointAmong nodes (IsIn c.args.ruled.now) y (joint_in known y) =
    λ y m. (c.in_ok-known.ensures.narrowed y m).joined nodes y c.requires.planner.families c.requires.ruled (c.requires.planner.joints y (c.requires.waiting y m)) in
    let counted : (y : ℕ) → IsIn c.args.waiting.now y → IsCountedIn states known y = λ y m. (c.in_ok-known.ensures.narrowed y m).counted (c.requires.planner.counts y (c.requires.waiting y m)) in
    let start : Start = record { known = c.match-utility.known; live = c.match-utility.live; cells = c.match-utility.cells } in
    elim c.match-utility.branch [
      | in-Some-utility w ↦
          let u : ℕ = w.in-Some-utility.u in
          let some : c.args.utility ≡ Some u = w.in-Some-utility.is in
          let small : u < 256 = let a = c.requires.known u some in let b = c.requires.planner.states.few in omega arith in
          let known' : Known = w.put_utility.new.known in
          subst (λ (o : Option ℕ). IsGreedyStart nodes states (IsIn c.args.waiting.now) (map (family_test nodes) list ++ map (parents_test nodes) (option_to_list o)) start) (sym some)
          (started_with nodes states c.args.ruled.now c.args.waiting.now c.tables.from inv.within c.in_default.ensures c.requires.planner.states known joined counted c.tables.live c.tables.cells inv.put list listed
          u w.utility_table-table.result known' w.count_cells.result start small (c.requires.unruled u some) (c.requires.kept u some)
          w.utility_table-table.ensures.tag w.utility_table-table.ensures.scope
          w.put_utility.ensures.tells
          (subst (λ (xs : List ℕ). AllStayCounted xs c.args.waiting.now known known') c.as_slice-states.ensures.value w.put_utility.ensures.counted)
          (w.count_cells.ensures ∙ ap (λ (xs : List ℕ). counted_over xs (holds w.utility_table-table.result.scope)) c.as_slice-states.ensures.value)
          w.known-is w.live-is (w.cells-is ∙ w.add-cells-in-Some-utility.ensures))
      | in_default-utility w ↦
          subst (λ (o : Option ℕ). IsGreedyStart nodes states (IsIn c.args.waiting.now) (map (family_test nodes) list ++ map (parents_test nodes) (option_to_list o)) start) (sym w.in_default-utility.is)
          (started_without nodes states c.args.ruled.now c.args.waiting.now c.tables.from inv.within c.in_default.ensures c.requires.planner.states known joined counted c.tables.live c.tables.cells inv.put list listed
          start w.known-is w.live-is w.cells-is)
    ]

pub list_narrowed-requires-clause-states : goal.list_narrowed-requires-clause-states
list_narrowed-requires-clause-states c = c.requires.planner.long

pub list_narrowed-requires-clause-len : goal.list_narrowed-requires-clause-len
list_narrowed-requires-clause-len c = c.requires.planner.counts_len ∙ sym c.requires.planner.joints_len

pub list_narrowed-requires-clause-ruled : goal.list_narrowed-requires-clause-ruled
list_narrowed-requires-clause-ruled c v m = subst (λ (n : ℕ). v < n) (sym c.requires.planner.all) (c.requires.ruled v m).0

pub list_narrowed-requires-clause-waiting : goal.list_narrowed-requires-clause-waiting
list_narrowed-requires-clause-waiting c v m = subst (λ (n : ℕ). v < n) (sym c.requires.planner.joints_len) (c.requires.waiting v m)

pub bounds-families-v : goal.bounds-families-v
bounds-families-v c =
    let v : ℕ = c.in-Some.v in
    let within : v < length c.args.planner.now.families.items = subst (λ (n : ℕ). v < n) (sym c.requires.planner.all) (c.requires.ruled v c.in-Some.ensures.inside).0 in
    subst (λ (fs : List Family). v < length fs) (sym c.as_slice-families.ensures.value) within

pub add-cells-requires-clause-a : goal.add-cells-requires-clause-a
add-cells-requires-clause-a c = c.tables.invariant.little

pub overflow_add-live : goal.overflow_add-live
overflow_add-live c = let few = c.tables.invariant.few in let within = c.tables.invariant.within in omega arith

pub overflow_add-from : goal.overflow_add-from
overflow_add-from c = let l = c.in-Some.ensures.small in omega arith

pub tables-smaller : goal.tables-smaller
tables-smaller c = let l = c.in-Some.ensures.small in let n = c.in-Some.ensures.not_before in omega arith

pub utility_table-table-requires : goal.utility_table-table-requires
utility_table-table-requires c = c.requires.known c.in-Some-utility.u c.in-Some-utility.is

pub put_utility-requires-clause-states : goal.put_utility-requires-clause-states
put_utility-requires-clause-states c = ap (λ (xs : List ℕ). length xs) c.as_slice-states.ensures.value ∙ c.requires.planner.long

pub put_utility-requires-clause-tag : goal.put_utility-requires-clause-tag
put_utility-requires-clause-tag c =
    let l = c.requires.known c.in-Some-utility.u c.in-Some-utility.is in
    let few = c.requires.planner.states.few in
    let tag = c.utility_table-table.ensures.tag in
    omega arith

pub put_utility-requires-clause-places : goal.put_utility-requires-clause-places
put_utility-requires-clause-places c = c.in_ok-known.ensures.places

pub count_cells-requires : goal.count_cells-requires
count_cells-requires c = ap (λ (xs : List ℕ). length xs) c.as_slice-states.ensures.value ∙ c.requires.planner.long

pub add-cells-requires-in-Some-utility-clause-a : goal.add-cells-requires-in-Some-utility-clause-a
add-cells-requires-in-Some-utility-clause-a c = c.tables.invariant.little

pub overflow_add-live-in-Some-utility : goal.overflow_add-live-in-Some-utility
overflow_add-live-in-Some-utility c = let few = c.tables.invariant.few in let within = c.tables.invariant.within in omega arith

pub returns-clause-places : goal.returns-clause-places
returns-clause-places c =
    let waits = IsIn c.args.waiting.now in
    let known : Known = c.in_ok-known.known in
    elim c.match-utility.branch [
      | in-Some-utility w ↦
          subst (HasPlaces waits) (sym w.known-is) (placed_still known w.put_utility.new.known w.put_utility.ensures.places waits c.in_ok-known.ensures.places)
      | in_default-utility w ↦ subst (HasPlaces waits) (sym w.known-is) c.in_ok-known.ensures.places
    ]

pub returns-clause-few : goal.returns-clause-few
returns-clause-few c =
    let few = c.tables.invariant.few in
    let within = c.tables.invariant.within in
    elim c.match-utility.branch [
      | in-Some-utility w ↦ let is = w.live-is in omega arith
      | in_default-utility w ↦ let is = w.live-is in omega arith
    ]
