use Rattle.std.proofs.Common.{rules, ◌≡◌, ◌∙◌, ℕ, ◌+◌, ◌-◌, ◌<◌, ◌≤◌, ◌++◌, [], List, filter, length, take, refl, ap, sym, subst, arith, option_to_list}
use Rattle.std.specs.List.{range_with_len}
use Rattle.node_sets.specs.declared.sets.TheConstants.{MOST_NODES}
use Rattle.node_sets.specs.Sets.{holds}
use Rattle.maid_model.specs.Nodes.{numbers_of}
use Rattle.factor_core.specs.Operations.{cells_by}
use Rattle.eliminate.specs.Steps.{Lists, first_nodes}
use Rattle.eliminate.proofs.Bounds.{below_two}
use Rattle.eliminate.proofs.Numbers.{ruled_fit, value_fit}
use Rattle.eliminate.proofs.Placing.{not_true}
use Rattle.eliminate.proofs.Ruled.{kept_known, ruled_are, ruled_known, ruled_member, ruled_plain, step_known}
use Rattle.eliminate.proofs.Starting.{from_node, first_next, lists_none, lists_more, lists_room, last_next, utility_next, next_place}
use Rattle.eliminate.proofs.firsts.first_tables.Goals as goal

-- fewer than all are listed, so there is a place for the next one
place_there : (count all old now : ℕ) → count < all → all ≤ old → now ≡ old → count < now
place_there count all old now l w e = omega (arith, l, w, e)

still_there : (count all old now : ℕ) → count < all → all ≤ old → now ≡ old → (next : ℕ) → next ≡ count + 1 → next ≤ now
still_there count all old now l w e next is = omega (arith, l, w, e, is)

pub ruled_nodes-ruled-requires-clause-keep : goal.ruled_nodes-ruled-requires-clause-keep
ruled_nodes-ruled-requires-clause-keep g c v m =
    below_two v (length c.args.play.now.diagram.now.nodes) MOST_NODES (kept_known c.args.play.now.diagram.now.nodes c.args.plan.now.plan c.requires.asked.is_plan v m) c.count-count.ensures.diagram.limits.nodes

pub ruled_nodes-ruled-requires-clause-steps : goal.ruled_nodes-ruled-requires-clause-steps
ruled_nodes-ruled-requires-clause-steps g c v m =
    below_two v (length c.args.play.now.diagram.now.nodes) MOST_NODES (step_known c.args.play.now.diagram.now.nodes c.args.plan.now.plan c.args.plan.now.steps c.requires.order v m) c.count-count.ensures.diagram.limits.nodes

pub ruled_nodes-ruled-requires-clause-without : goal.ruled_nodes-ruled-requires-clause-without
ruled_nodes-ruled-requires-clause-without g c d e =
    below_two d (length c.args.play.now.diagram.now.nodes) MOST_NODES (c.requires.asked.decision d e).within c.count-count.ensures.diagram.limits.nodes

pub tables-init : goal.tables-init
tables-init g c =
    let nodes = c.args.play.now.diagram.now.nodes in
    let plan = c.args.plan.now.plan in
    let cells = cells_by g.C.Cell.ring g.C.Cell.of_weight g.C.Cell.of_value in
    let whole : length nodes - 0 ≡ length nodes = omega arith in
    let all : from_node (holds c.ruled_nodes-ruled.result) 0 (length nodes) ≡ filter (holds c.ruled_nodes-ruled.result) (numbers_of nodes) = ap (λ k. filter (holds c.ruled_nodes-ruled.result) (range_with_len 0 k)) whole in (
      subst (λ (rest : List ℕ). Lists cells nodes c.args.play.now.profile.now c.args.work.now c.args.work.now [] (rest ++ option_to_list plan.utility) (first_nodes nodes plan))
          (sym (all ∙ ruled_are nodes plan c.args.plan.now.steps c.requires.order c.ruled_nodes-ruled.result c.ruled_nodes-ruled.ensures))
          (lists_none cells nodes c.args.play.now.profile.now c.args.work.now (first_nodes nodes plan)),
      omega arith,
      omega arith,
    )

pub first_from-requires : goal.first_from-requires
first_from-requires g c = omega (arith, c.tables.invariant.2, c.count-count.ensures.diagram.limits.nodes)

pub put_table-count-requires-clause-profile : goal.put_table-count-requires-clause-profile
put_table-count-requires-clause-profile g c = c.requires.profile

pub put_table-count-requires-clause-count : goal.put_table-count-requires-clause-count
put_table-count-requires-clause-count g c =
    let nodes = c.args.play.now.diagram.now.nodes in
    let plan = c.args.plan.now.plan in
    let cells = cells_by g.C.Cell.ring g.C.Cell.of_weight g.C.Cell.of_value in
    let l = next_place cells nodes c.args.play.now.profile.now c.args.work.now c.tables.work c.tables.live c.tables.count c.in-Some.v _ (first_nodes nodes plan)
    (first_next cells nodes c.args.play.now.profile.now (holds c.ruled_nodes-ruled.result) (option_to_list plan.utility) (first_nodes nodes plan) (length nodes)
    c.args.work.now c.tables.work (take c.tables.count c.tables.live) c.tables.next c.in-Some.v c.in-Some.ensures.not_before (ruled_known nodes plan c.args.plan.now.steps c.requires.order c.ruled_nodes-ruled.result c.ruled_nodes-ruled.ensures c.requires.asked.is_plan c.in-Some.v c.in-Some.ensures.inside)
    (λ k a b. not_true (holds c.ruled_nodes-ruled.result k) (c.in-Some.ensures.first k a b)) c.in-Some.ensures.inside c.tables.invariant.0)
    c.tables.invariant.1 in
    place_there c.tables.count (length (first_nodes nodes plan)) (length c.args.live.now) (length c.tables.live) l c.requires.tables c.tables.auto.live

pub put_table-count-requires-clause-node : goal.put_table-count-requires-clause-node
put_table-count-requires-clause-node g c =
    let nodes = c.args.play.now.diagram.now.nodes in
    let plan = c.args.plan.now.plan in
    ruled_known nodes plan c.args.plan.now.steps c.requires.order c.ruled_nodes-ruled.result c.ruled_nodes-ruled.ensures c.requires.asked.is_plan c.in-Some.v c.in-Some.ensures.inside

pub put_table-count-requires-clause-fit : goal.put_table-count-requires-clause-fit
put_table-count-requires-clause-fit g c =
    let nodes = c.args.play.now.diagram.now.nodes in
    let plan = c.args.plan.now.plan in
    let member = ruled_member nodes plan c.args.plan.now.steps c.requires.order c.ruled_nodes-ruled.result c.ruled_nodes-ruled.ensures c.in-Some.v (ruled_known nodes plan c.args.plan.now.steps c.requires.order c.ruled_nodes-ruled.result c.ruled_nodes-ruled.ensures c.requires.asked.is_plan c.in-Some.v c.in-Some.ensures.inside) c.in-Some.ensures.inside in
    ruled_fit nodes c.args.play.now.profile.now plan g.C.Cell.ring.most c.count-count.ensures.diagram.graph c.count-count.ensures.diagram.tables c.requires.profile c.requires.fits c.in-Some.v
    member (ruled_plain nodes plan c.requires.asked.is_plan c.in-Some.v member)

pub put_table-count-requires-clause-room : goal.put_table-count-requires-clause-room
put_table-count-requires-clause-room g c =
    let nodes = c.args.play.now.diagram.now.nodes in
    let plan = c.args.plan.now.plan in
    let cells = cells_by g.C.Cell.ring g.C.Cell.of_weight g.C.Cell.of_value in
    lists_room cells nodes c.args.play.now.profile.now c.args.work.now c.tables.work (take c.tables.count c.tables.live) c.in-Some.v _ (first_nodes nodes plan)
    (first_next cells nodes c.args.play.now.profile.now (holds c.ruled_nodes-ruled.result) (option_to_list plan.utility) (first_nodes nodes plan) (length nodes)
    c.args.work.now c.tables.work (take c.tables.count c.tables.live) c.tables.next c.in-Some.v c.in-Some.ensures.not_before (ruled_known nodes plan c.args.plan.now.steps c.requires.order c.ruled_nodes-ruled.result c.ruled_nodes-ruled.ensures c.requires.asked.is_plan c.in-Some.v c.in-Some.ensures.inside)
    (λ k a b. not_true (holds c.ruled_nodes-ruled.result k) (c.in-Some.ensures.first k a b)) c.in-Some.ensures.inside c.tables.invariant.0)
    c.requires.room

pub overflow_add-next : goal.overflow_add-next
overflow_add-next g c = let small = c.in-Some.ensures.small in search (rules, small)

pub tables-smaller : goal.tables-smaller
tables-smaller g c =
    let nodes = c.args.play.now.diagram.now.nodes in
    let plan = c.args.plan.now.plan in
    let known = ruled_known nodes plan c.args.plan.now.steps c.requires.order c.ruled_nodes-ruled.result c.ruled_nodes-ruled.ensures c.requires.asked.is_plan c.in-Some.v c.in-Some.ensures.inside in
    omega (arith, known, c.in-Some.ensures.not_before)

pub tables-preserved : goal.tables-preserved
tables-preserved g c =
    let nodes = c.args.play.now.diagram.now.nodes in
    let plan = c.args.plan.now.plan in
    let cells = cells_by g.C.Cell.ring g.C.Cell.of_weight g.C.Cell.of_value in
    let known = ruled_known nodes plan c.args.plan.now.steps c.requires.order c.ruled_nodes-ruled.result c.ruled_nodes-ruled.ensures c.requires.asked.is_plan c.in-Some.v c.in-Some.ensures.inside in
    let held = first_next cells nodes c.args.play.now.profile.now (holds c.ruled_nodes-ruled.result) (option_to_list plan.utility) (first_nodes nodes plan) (length nodes)
    c.args.work.now c.tables.work (take c.tables.count c.tables.live) c.tables.next c.in-Some.v c.in-Some.ensures.not_before (ruled_known nodes plan c.args.plan.now.steps c.requires.order c.ruled_nodes-ruled.result c.ruled_nodes-ruled.ensures c.requires.asked.is_plan c.in-Some.v c.in-Some.ensures.inside)
    (λ k a b. not_true (holds c.ruled_nodes-ruled.result k) (c.in-Some.ensures.first k a b)) c.in-Some.ensures.inside c.tables.invariant.0 in
    let place = next_place cells nodes c.args.play.now.profile.now c.args.work.now c.tables.work c.tables.live c.tables.count c.in-Some.v _ (first_nodes nodes plan) held c.tables.invariant.1 in (
      lists_more cells nodes c.args.play.now.profile.now c.args.work.now c.tables.work c.put_table-count.new.work (take c.tables.count c.tables.live) (take c.put_table-count.result c.put_table-count.new.live) c.in-Some.v _ (first_nodes nodes plan) held
          c.put_table-count.ensures.puts,
      still_there c.tables.count (length (first_nodes nodes plan)) (length c.args.live.now) (length c.put_table-count.new.live) place c.requires.tables (c.put_table-count.auto.live ∙ c.tables.auto.live) c.put_table-count.result
          c.put_table-count.ensures.count,
      omega (arith, known),
    )

pub put_table-requires-clause-profile : goal.put_table-requires-clause-profile
put_table-requires-clause-profile g c = c.requires.profile

pub put_table-requires-clause-count : goal.put_table-requires-clause-count
put_table-requires-clause-count g c =
    let nodes = c.args.play.now.diagram.now.nodes in
    let plan = c.args.plan.now.plan in
    let cells = cells_by g.C.Cell.ring g.C.Cell.of_weight g.C.Cell.of_value in
    let l = next_place cells nodes c.args.play.now.profile.now c.args.work.now c.tables.work c.tables.live c.tables.count c.in-Some-utility.u [] (first_nodes nodes plan)
    (utility_next cells nodes c.args.play.now.profile.now plan.utility c.in-Some-utility.u (first_nodes nodes plan) c.args.work.now c.tables.work (take c.tables.count c.tables.live) (sym c.utility.ensures ∙ c.in-Some-utility.is)
    (last_next cells nodes c.args.play.now.profile.now (holds c.ruled_nodes-ruled.result) (option_to_list plan.utility) (first_nodes nodes plan) (length nodes)
    c.args.work.now c.tables.work (take c.tables.count c.tables.live) c.tables.next c.tables.invariant.2 (λ k a. not_true (holds c.ruled_nodes-ruled.result k) (c.in_default.ensures k a)) c.tables.invariant.0))
    c.tables.invariant.1 in
    place_there c.tables.count (length (first_nodes nodes plan)) (length c.args.live.now) (length c.tables.live) l c.requires.tables c.tables.auto.live

pub put_table-requires-clause-node : goal.put_table-requires-clause-node
put_table-requires-clause-node g c = c.requires.asked.known c.in-Some-utility.u (sym c.utility.ensures ∙ c.in-Some-utility.is)

pub put_table-requires-clause-fit : goal.put_table-requires-clause-fit
put_table-requires-clause-fit g c =
    let nodes = c.args.play.now.diagram.now.nodes in
    let some = sym c.utility.ensures ∙ c.in-Some-utility.is in
    value_fit nodes c.args.play.now.profile.now c.args.plan.now.plan g.C.Cell.ring.most c.count-count.ensures.diagram.graph c.count-count.ensures.diagram.tables c.requires.profile c.requires.fits c.in-Some-utility.u
    some (c.requires.asked.is_plan.utility c.in-Some-utility.u some)

pub put_table-requires-clause-room : goal.put_table-requires-clause-room
put_table-requires-clause-room g c =
    let nodes = c.args.play.now.diagram.now.nodes in
    let plan = c.args.plan.now.plan in
    let cells = cells_by g.C.Cell.ring g.C.Cell.of_weight g.C.Cell.of_value in
    lists_room cells nodes c.args.play.now.profile.now c.args.work.now c.tables.work (take c.tables.count c.tables.live) c.in-Some-utility.u [] (first_nodes nodes plan)
    (utility_next cells nodes c.args.play.now.profile.now plan.utility c.in-Some-utility.u (first_nodes nodes plan) c.args.work.now c.tables.work (take c.tables.count c.tables.live) (sym c.utility.ensures ∙ c.in-Some-utility.is)
    (last_next cells nodes c.args.play.now.profile.now (holds c.ruled_nodes-ruled.result) (option_to_list plan.utility) (first_nodes nodes plan) (length nodes)
    c.args.work.now c.tables.work (take c.tables.count c.tables.live) c.tables.next c.tables.invariant.2 (λ k a. not_true (holds c.ruled_nodes-ruled.result k) (c.in_default.ensures k a)) c.tables.invariant.0))
    c.requires.room

pub returns-in-Some-utility-clause-diagram : goal.returns-in-Some-utility-clause-diagram
returns-in-Some-utility-clause-diagram g c = c.count-count.ensures.diagram

pub returns-in-Some-utility-clause-few : goal.returns-in-Some-utility-clause-few
returns-in-Some-utility-clause-few g c =
    let nodes = c.args.play.now.diagram.now.nodes in
    let plan = c.args.plan.now.plan in
    let cells = cells_by g.C.Cell.ring g.C.Cell.of_weight g.C.Cell.of_value in
    let l = next_place cells nodes c.args.play.now.profile.now c.args.work.now c.tables.work c.tables.live c.tables.count c.in-Some-utility.u [] (first_nodes nodes plan)
    (utility_next cells nodes c.args.play.now.profile.now plan.utility c.in-Some-utility.u (first_nodes nodes plan) c.args.work.now c.tables.work (take c.tables.count c.tables.live) (sym c.utility.ensures ∙ c.in-Some-utility.is)
    (last_next cells nodes c.args.play.now.profile.now (holds c.ruled_nodes-ruled.result) (option_to_list plan.utility) (first_nodes nodes plan) (length nodes)
    c.args.work.now c.tables.work (take c.tables.count c.tables.live) c.tables.next c.tables.invariant.2 (λ k a. not_true (holds c.ruled_nodes-ruled.result k) (c.in_default.ensures k a)) c.tables.invariant.0))
    c.tables.invariant.1 in
    still_there c.tables.count (length (first_nodes nodes plan)) (length c.args.live.now) (length c.args.live.now) l c.requires.tables refl c.put_table.result c.put_table.ensures.count

pub returns-in-Some-utility-clause-lists : goal.returns-in-Some-utility-clause-lists
returns-in-Some-utility-clause-lists g c =
    let nodes = c.args.play.now.diagram.now.nodes in
    let plan = c.args.plan.now.plan in
    let cells = cells_by g.C.Cell.ring g.C.Cell.of_weight g.C.Cell.of_value in
    lists_more cells nodes c.args.play.now.profile.now c.args.work.now c.tables.work c.put_table.new.work (take c.tables.count c.tables.live) (take c.put_table.result c.put_table.new.live) c.in-Some-utility.u [] (first_nodes nodes plan)
    (utility_next cells nodes c.args.play.now.profile.now plan.utility c.in-Some-utility.u (first_nodes nodes plan) c.args.work.now c.tables.work (take c.tables.count c.tables.live) (sym c.utility.ensures ∙ c.in-Some-utility.is)
    (last_next cells nodes c.args.play.now.profile.now (holds c.ruled_nodes-ruled.result) (option_to_list plan.utility) (first_nodes nodes plan) (length nodes)
    c.args.work.now c.tables.work (take c.tables.count c.tables.live) c.tables.next c.tables.invariant.2 (λ k a. not_true (holds c.ruled_nodes-ruled.result k) (c.in_default.ensures k a)) c.tables.invariant.0))
    c.put_table.ensures.puts

pub returns-in-None-clause-diagram : goal.returns-in-None-clause-diagram
returns-in-None-clause-diagram g c = c.count-count.ensures.diagram

pub returns-in-None-clause-few : goal.returns-in-None-clause-few
returns-in-None-clause-few g c = subst (λ n. c.tables.count ≤ n) c.tables.auto.live c.tables.invariant.1

pub returns-in-None-clause-lists : goal.returns-in-None-clause-lists
returns-in-None-clause-lists g c =
    let nodes = c.args.play.now.diagram.now.nodes in
    let plan = c.args.plan.now.plan in
    let cells = cells_by g.C.Cell.ring g.C.Cell.of_weight g.C.Cell.of_value in
    subst (λ o. Lists cells nodes c.args.play.now.profile.now c.args.work.now c.tables.work (take c.tables.count c.tables.live) (option_to_list o) (first_nodes nodes plan)) (sym c.utility.ensures ∙ c.in-None.is)
    (last_next cells nodes c.args.play.now.profile.now (holds c.ruled_nodes-ruled.result) (option_to_list plan.utility) (first_nodes nodes plan) (length nodes)
    c.args.work.now c.tables.work (take c.tables.count c.tables.live) c.tables.next c.tables.invariant.2 (λ k a. not_true (holds c.ruled_nodes-ruled.result k) (c.in_default.ensures k a)) c.tables.invariant.0)
