use Rattle.std.proofs.Common.{rules, ◌≡◌, ◌∙◌, ◌<◌, ◌≤◌, ◌+◌, ◌-◌, length, take, drop, ap, arith, subst, sym, nat_abs, slice_index_or, ◌+ℤ◌, FitsSigned, to_z, of_z}
use Rattle.std.proofs.lemmas.Int.{to_z-of_z}
use Rattle.std.specs.Int.{w128}
use Rattle.finite_sums.specs.Sums.{nat_sum_over}
use Rattle.maid_model.specs.Diagrams.{greatest_number}
use Rattle.maid_model.specs.Worlds.{world_of}
use Rattle.tree_checker.specs.Walks.{greatest_at, utility_with, value_at}
use Rattle.tree_checker.proofs.WalkEndings.{room_in, row_in, utility_is}
use Rattle.tree_checker.proofs.WalkOpened.{down_opened, shorter, small_fits}
use Rattle.tree_checker.proofs.endings.+utility_in.Goals as goal

pub value-more-requires-clause-row : goal.value-more-requires-clause-row
value-more-requires-clause-row t c = row_in c.args.diagram.now c.requires.diagram c.args.world.now c.requires.world (slice_index_or c.args.list.now 0 0) c.row.result c.row.ensures

pub overflow_add-utility : goal.overflow_add-utility
overflow_add-utility t c =
    let same_sum : to_z w128 (of_z w128 c.args.utility) ≡ c.args.utility = to_z-of_z w128 c.args.utility c.ranges.utility in
    let room : nat_abs (to_z w128 (of_z w128 c.args.utility)) + nat_sum_over (greatest_at c.args.diagram.now.nodes) c.args.list.now ≤ greatest_number = subst (λ z. nat_abs z + nat_sum_over (greatest_at c.args.diagram.now.nodes) c.args.list.now ≤ greatest_number) (sym same_sum) c.requires.room in
    let left : nat_abs (to_z w128 (of_z w128 c.args.utility) +ℤ to_z w128 (of_z w128 c.value-more.result)) + nat_sum_over (greatest_at c.args.diagram.now.nodes) (take (length c.args.list.now - 1) (drop 1 c.args.list.now)) ≤ greatest_number =
    room_in c.args.diagram.now.nodes c.args.marks.now c.requires.marks (world_of c.args.world.now) c.args.list.now c.in-len1-up.len_at_least (to_z w128 (of_z w128 c.args.utility)) (to_z w128 (of_z w128 c.value-more.result)) (to_z-of_z w128 c.value-more.result (search rules) ∙ c.value-more.ensures ∙ ap (value_at c.args.diagram.now.nodes c.args.marks.now (slice_index_or c.args.list.now 0 0)) c.row.ensures) greatest_number room in
    small_fits (to_z w128 (of_z w128 c.args.utility) +ℤ to_z w128 (of_z w128 c.value-more.result)) (omega (arith, left))

pub utility_in-requires : goal.utility_in-requires
utility_in-requires t c =
    let same_sum : to_z w128 (of_z w128 c.args.utility) ≡ c.args.utility = to_z-of_z w128 c.args.utility c.ranges.utility in
    let room : nat_abs (to_z w128 (of_z w128 c.args.utility)) + nat_sum_over (greatest_at c.args.diagram.now.nodes) c.args.list.now ≤ greatest_number = subst (λ z. nat_abs z + nat_sum_over (greatest_at c.args.diagram.now.nodes) c.args.list.now ≤ greatest_number) (sym same_sum) c.requires.room in
    let left : nat_abs (to_z w128 (of_z w128 c.args.utility) +ℤ to_z w128 (of_z w128 c.value-more.result)) + nat_sum_over (greatest_at c.args.diagram.now.nodes) (take (length c.args.list.now - 1) (drop 1 c.args.list.now)) ≤ greatest_number =
    room_in c.args.diagram.now.nodes c.args.marks.now c.requires.marks (world_of c.args.world.now) c.args.list.now c.in-len1-up.len_at_least (to_z w128 (of_z w128 c.args.utility)) (to_z w128 (of_z w128 c.value-more.result)) (to_z-of_z w128 c.value-more.result (search rules) ∙ c.value-more.ensures ∙ ap (value_at c.args.diagram.now.nodes c.args.marks.now (slice_index_or c.args.list.now 0 0)) c.row.ensures) greatest_number room in
    let fits : FitsSigned w128 (to_z w128 (of_z w128 c.args.utility) +ℤ to_z w128 (of_z w128 c.value-more.result)) = small_fits (to_z w128 (of_z w128 c.args.utility) +ℤ to_z w128 (of_z w128 c.value-more.result)) (omega (arith, left)) in
    let less : length (take (length c.args.list.now - 1) (drop 1 c.args.list.now)) < length c.args.list.now = shorter c.args.list.now c.in-len1-up.len_at_least in (
      search rules,
      (
        c.requires.diagram,
        (
          c.requires.marks,
          (
            (down_opened c.args.diagram.now.nodes c.args.list.now c.in-len1-up.len_at_least c.requires.list).2,
            (
              c.requires.world,
              subst (λ z. nat_abs z + nat_sum_over (greatest_at c.args.diagram.now.nodes) (take (length c.args.list.now - 1) (drop 1 c.args.list.now)) ≤ greatest_number) (sym (to_z-of_z w128 (to_z w128 (of_z w128 c.args.utility) +ℤ to_z w128 (of_z w128 c.value-more.result)) fits)) left,
            ),
          ),
        ),
      ),
    )

pub returns-in-len1-up : goal.returns-in-len1-up
returns-in-len1-up t c =
    let same_sum : to_z w128 (of_z w128 c.args.utility) ≡ c.args.utility = to_z-of_z w128 c.args.utility c.ranges.utility in
    let room : nat_abs (to_z w128 (of_z w128 c.args.utility)) + nat_sum_over (greatest_at c.args.diagram.now.nodes) c.args.list.now ≤ greatest_number = subst (λ z. nat_abs z + nat_sum_over (greatest_at c.args.diagram.now.nodes) c.args.list.now ≤ greatest_number) (sym same_sum) c.requires.room in
    let left : nat_abs (to_z w128 (of_z w128 c.args.utility) +ℤ to_z w128 (of_z w128 c.value-more.result)) + nat_sum_over (greatest_at c.args.diagram.now.nodes) (take (length c.args.list.now - 1) (drop 1 c.args.list.now)) ≤ greatest_number =
    room_in c.args.diagram.now.nodes c.args.marks.now c.requires.marks (world_of c.args.world.now) c.args.list.now c.in-len1-up.len_at_least (to_z w128 (of_z w128 c.args.utility)) (to_z w128 (of_z w128 c.value-more.result)) (to_z-of_z w128 c.value-more.result (search rules) ∙ c.value-more.ensures ∙ ap (value_at c.args.diagram.now.nodes c.args.marks.now (slice_index_or c.args.list.now 0 0)) c.row.ensures) greatest_number room in
    let fits : FitsSigned w128 (to_z w128 (of_z w128 c.args.utility) +ℤ to_z w128 (of_z w128 c.value-more.result)) = small_fits (to_z w128 (of_z w128 c.args.utility) +ℤ to_z w128 (of_z w128 c.value-more.result)) (omega (arith, left)) in
    to_z-of_z w128 c.utility_in.result (search rules)
    ∙ utility_is c.args.diagram.now.nodes c.args.marks.now c.requires.marks (world_of c.args.world.now) c.args.list.now c.in-len1-up.len_at_least (to_z w128 (of_z w128 c.args.utility)) (to_z w128 (of_z w128 c.value-more.result)) (to_z-of_z w128 c.value-more.result (search rules) ∙ c.value-more.ensures ∙ ap (value_at c.args.diagram.now.nodes c.args.marks.now (slice_index_or c.args.list.now 0 0)) c.row.ensures) c.utility_in.result
    (c.utility_in.ensures ∙ ap (λ z. utility_with c.args.diagram.now.nodes c.args.marks.now (take (length c.args.list.now - 1) (drop 1 c.args.list.now)) z (world_of c.args.world.now)) (to_z-of_z w128 (to_z w128 (of_z w128 c.args.utility) +ℤ to_z w128 (of_z w128 c.value-more.result)) fits))
    ∙ ap (λ z. utility_with c.args.diagram.now.nodes c.args.marks.now c.args.list.now z (world_of c.args.world.now)) same_sum

pub row-requires-clause-node : goal.row-requires-clause-node
row-requires-clause-node t c = (down_opened c.args.diagram.now.nodes c.args.list.now c.in-len1-up.len_at_least c.requires.list).0

pub row-requires-clause-world : goal.row-requires-clause-world
row-requires-clause-world t c = c.requires.world

pub value-more-requires-clause-node : goal.value-more-requires-clause-node
value-more-requires-clause-node t c = (down_opened c.args.diagram.now.nodes c.args.list.now c.in-len1-up.len_at_least c.requires.list).0

pub value-more-requires-clause-marks : goal.value-more-requires-clause-marks
value-more-requires-clause-marks t c = c.requires.marks

pub bounds-list-0 : goal.bounds-list-0
bounds-list-0 t c = c.in-len1-up.len_at_least
