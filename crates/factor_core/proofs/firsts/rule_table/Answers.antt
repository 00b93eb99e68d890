use Rattle.std.proofs.Common.{◌*◌, ◌≤◌, All, ◌∙◌, ◌+◌, ◌<◌, ◌++◌, [], ◌∷◌, map, length, sym, ap, subst, arith, Contains, ℕ}
use Rattle.std.proofs.lemmas.List.{length-map}
use Rattle.maid_model.specs.Graph.{AllDifferent}
use Rattle.maid_model.specs.Nodes.{states_of, rows_under}
use Rattle.maid_model.specs.Tables.{weights_of}
use Rattle.plan_sums.specs.Plans.{node_table}
use Rattle.factor_core.specs.Copies.{list_table}
use Rattle.factor_core.specs.Operations.{cells_by}
use Rattle.factor_core.specs.Slots.{space, AppendsTable}
use Rattle.factor_core.proofs.FirstTables.{family, family_once, family_known, family_rows, family_room, rule_same, rule_length, has_rule}
use Rattle.factor_core.proofs.Standing.{appends_same}
use Rattle.factor_core.proofs.firsts.rule_table.Goals as goal

pub rule_weights-requires : goal.rule_weights-requires
rule_weights-requires g c = has_rule c.args.diagram.now c.parents.ensures.diagram c.args.v c.requires.node.within c.args.profile.now c.requires.profile c.requires.node

pub write_table-requires-clause-once : goal.write_table-requires-clause-once
write_table-requires-clause-once g c =
    let d = c.args.diagram.now in
    let list = c.before-2.ensures ∙ c.list_family-n.ensures.list ∙ ap (λ us. us ++ c.args.v ∷ []) c.parents.ensures.parents in
    subst AllDifferent (sym list) (family_once d c.parents.ensures.diagram c.args.v c.requires.node.within)

pub write_table-requires-clause-known : goal.write_table-requires-clause-known
write_table-requires-clause-known g c =
    let d = c.args.diagram.now in
    let list = c.before-2.ensures ∙ c.list_family-n.ensures.list ∙ ap (λ us. us ++ c.args.v ∷ []) c.parents.ensures.parents in
    subst (λ vs. (u : ℕ) → Contains vs u → u < length d.nodes) (sym list) (family_known d c.parents.ensures.diagram c.args.v c.requires.node.within)

pub write_table-requires-clause-cells : goal.write_table-requires-clause-cells
write_table-requires-clause-cells g c =
    let d = c.args.diagram.now in
    let is = c.parents.ensures.diagram in
    let list = c.before-2.ensures ∙ c.list_family-n.ensures.list ∙ ap (λ us. us ++ c.args.v ∷ []) c.parents.ensures.parents in
    let weights = c.rule_weights.ensures in
    length-map c.rule_weights.result.now g.C.Cell.of_weight
    ∙ ap length weights
    ∙ rule_length d is c.args.v c.requires.node.within c.args.profile.now c.requires.profile c.requires.node
    ∙ sym (family_rows d is c.args.v c.requires.node.within)
    ∙ ap (rows_under (states_of d.nodes)) (sym list)

pub write_table-requires-clause-room : goal.write_table-requires-clause-room
write_table-requires-clause-room g c =
    let d = c.args.diagram.now in
    let list = c.before-2.ensures ∙ c.list_family-n.ensures.list ∙ ap (λ us. us ++ c.args.v ∷ []) c.parents.ensures.parents in
    omega (arith, ap (rows_under (states_of d.nodes)) list, family_room d c.parents.ensures.diagram c.args.v c.requires.node.within, c.requires.room)

pub returns-clause-table : goal.returns-clause-table
returns-clause-table g c =
    let d = c.args.diagram.now in
    let r = g.C.Cell.ring in
    let p = c.args.profile.now in
    let is = c.parents.ensures.diagram in
    let k = cells_by r g.C.Cell.of_weight g.C.Cell.of_value in
    let before = space c.args.all.now c.args.used in
    let after = space c.write_table.new.all (c.args.used + c.write_table.result.len) in
    let vs = family d is c.args.v c.requires.node.within in
    let list = c.before-2.ensures ∙ c.list_family-n.ensures.list ∙ ap (λ us. us ++ c.args.v ∷ []) c.parents.ensures.parents in
    let weights = c.rule_weights.ensures in
    let cells = map g.C.Cell.of_weight (weights_of p c.args.v) in
    appends_same r d.nodes before after c.write_table.result (list_table r d.nodes vs cells) (node_table k d.nodes p c.args.v)
    (subst (λ xs. AppendsTable r d.nodes before after c.write_table.result (list_table r d.nodes xs cells)) list
    (subst (λ zs. AppendsTable r d.nodes before after c.write_table.result (list_table r d.nodes c.before-2.result.now (map g.C.Cell.of_weight zs))) weights c.write_table.ensures.table))
    (rule_same d is c.args.v c.requires.node.within k p c.requires.node.kind (rule_length d is c.args.v c.requires.node.within p c.requires.profile c.requires.node))

pub write_table-requires-clause-counts : goal.write_table-requires-clause-counts
write_table-requires-clause-counts g c = c.requires.counts

pub write_table-requires-clause-diagram : goal.write_table-requires-clause-diagram
write_table-requires-clause-diagram g c = c.parents.ensures.diagram

pub write_table-requires-clause-short : goal.write_table-requires-clause-short
write_table-requires-clause-short g c = c.requires.short

pub write_table-requires-clause-used : goal.write_table-requires-clause-used
write_table-requires-clause-used g c = c.requires.used

pub returns-clause-len : goal.returns-clause-len
returns-clause-len g c = c.write_table.ensures.len

pub returns-clause-start : goal.returns-clause-start
returns-clause-start g c = c.write_table.ensures.start

pub parents-requires : goal.parents-requires
parents-requires g c = c.requires.node.within

pub write_table-requires-clause-fit : goal.write_table-requires-clause-fit
write_table-requires-clause-fit g c = subst (All (λ w. 2 * w ≤ g.C.Cell.ring.most)) (sym c.rule_weights.ensures) c.requires.fit
