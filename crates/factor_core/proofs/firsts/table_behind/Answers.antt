use Rattle.std.proofs.Common.{◌≡◌, ◌∙◌, ◌+◌, ◌*◌, ◌≤◌, cond, sym, subst, arith, All, pos, nat_abs}
use Rattle.std.proofs.lemmas.List.{length-map, get_or-map}
use Rattle.maid_model.specs.declared.diagrams.Kind.TheVariants.{Chance, Decision}
use Rattle.maid_model.specs.Nodes.{node_at, is_utility}
use Rattle.maid_model.specs.Tables.{weights_of}
use Rattle.plan_sums.specs.Plans.{node_table, utility_table}
use Rattle.factor_core.specs.Operations.{cells_by, numbers_by}
use Rattle.factor_core.specs.Slots.{space, HasSpareFor, AppendsTable}
use Rattle.factor_core.proofs.firsts.table_behind.Goals as goal

pub rule_table-requires-clause-fit : goal.rule_table-requires-clause-fit
rule_table-requires-clause-fit g c = λ k d l.
    let most = g.C.Cell.ring.most in
    let nodes = c.args.diagram.now.nodes in
    let weights = weights_of c.args.profile.now c.args.v in
    let kind : (node_at nodes c.args.v).kind ≡ Decision = sym c.kind.ensures.kind ∙ c.in-Decision.is in
    let numbers = subst (λ k. All (λ z. 2 * nat_abs z ≤ most) (numbers_by k (node_at nodes c.args.v).cells weights)) kind c.requires.fit in
    subst (λ z. 2 * nat_abs z ≤ most) (get_or-map pos weights k d (pos d) l) (numbers k (pos d) (omega (arith, length-map weights pos)))

pub returns-in-Chance-clause-table : goal.returns-in-Chance-clause-table
returns-in-Chance-clause-table g c =
    let nodes = c.args.diagram.now.nodes in
    let p = c.args.profile.now in
    let v = c.args.v in
    let cells = cells_by g.C.Cell.ring g.C.Cell.of_weight g.C.Cell.of_value in
    let kind : (node_at nodes v).kind ≡ Chance = sym c.kind.ensures.kind ∙ c.in-Chance.is in
    subst (λ k. AppendsTable g.C.Cell.ring nodes (space c.args.all.now c.args.used) (space c.chance_table.new.all (c.args.used + c.chance_table.result.len)) c.chance_table.result (cond (is_utility k) (utility_table cells nodes v) (node_table cells nodes p v)))
    (sym kind) (c.chance_table.ensures.table p)

pub chance_table-requires-clause-counts : goal.chance_table-requires-clause-counts
chance_table-requires-clause-counts g c = c.requires.counts

pub chance_table-requires-clause-used : goal.chance_table-requires-clause-used
chance_table-requires-clause-used g c = c.requires.used

pub chance_table-requires-clause-short : goal.chance_table-requires-clause-short
chance_table-requires-clause-short g c = c.requires.short

pub chance_table-requires-clause-node : goal.chance_table-requires-clause-node
chance_table-requires-clause-node g c = c.requires.node

pub rule_table-requires-clause-counts : goal.rule_table-requires-clause-counts
rule_table-requires-clause-counts g c = c.requires.counts

pub rule_table-requires-clause-used : goal.rule_table-requires-clause-used
rule_table-requires-clause-used g c = c.requires.used

pub rule_table-requires-clause-short : goal.rule_table-requires-clause-short
rule_table-requires-clause-short g c = c.requires.short

pub rule_table-requires-clause-profile : goal.rule_table-requires-clause-profile
rule_table-requires-clause-profile g c = c.requires.profile

pub rule_table-requires-clause-node : goal.rule_table-requires-clause-node
rule_table-requires-clause-node g c = record { within = c.requires.node; kind = sym c.kind.ensures.kind ∙ c.in-Decision.is }

pub value_table-requires-clause-counts : goal.value_table-requires-clause-counts
value_table-requires-clause-counts g c = c.requires.counts

pub value_table-requires-clause-used : goal.value_table-requires-clause-used
value_table-requires-clause-used g c = c.requires.used

pub value_table-requires-clause-short : goal.value_table-requires-clause-short
value_table-requires-clause-short g c = c.requires.short

pub value_table-requires-clause-node : goal.value_table-requires-clause-node
value_table-requires-clause-node g c = c.requires.node

pub returns-in-Chance-clause-start : goal.returns-in-Chance-clause-start
returns-in-Chance-clause-start g c = c.chance_table.ensures.start

pub returns-in-Chance-clause-len : goal.returns-in-Chance-clause-len
returns-in-Chance-clause-len g c = c.chance_table.ensures.len

pub returns-in-Decision-clause-start : goal.returns-in-Decision-clause-start
returns-in-Decision-clause-start g c = c.rule_table.ensures.start

pub returns-in-Decision-clause-len : goal.returns-in-Decision-clause-len
returns-in-Decision-clause-len g c = c.rule_table.ensures.len

pub returns-in-Utility-clause-start : goal.returns-in-Utility-clause-start
returns-in-Utility-clause-start g c = c.value_table.ensures.start

pub returns-in-Utility-clause-len : goal.returns-in-Utility-clause-len
returns-in-Utility-clause-len g c = c.value_table.ensures.len

pub kind-requires : goal.kind-requires
kind-requires g c = c.requires.node

pub chance_table-requires-clause-kind : goal.chance_table-requires-clause-kind
chance_table-requires-clause-kind g c = sym c.kind.ensures.kind ∙ c.in-Chance.is

pub value_table-requires-clause-kind : goal.value_table-requires-clause-kind
value_table-requires-clause-kind g c = sym c.kind.ensures.kind ∙ c.in-Utility.is

pub chance_table-requires-clause-fit : goal.chance_table-requires-clause-fit
chance_table-requires-clause-fit g c =
    let node = node_at c.args.diagram.now.nodes c.args.v in
    subst (λ k. All (λ z. 2 * nat_abs z ≤ g.C.Cell.ring.most) (numbers_by k node.cells (weights_of c.args.profile.now c.args.v))) (sym c.kind.ensures.kind ∙ c.in-Chance.is) c.requires.fit

pub value_table-requires-clause-fit : goal.value_table-requires-clause-fit
value_table-requires-clause-fit g c =
    let node = node_at c.args.diagram.now.nodes c.args.v in
    subst (λ k. All (λ z. 2 * nat_abs z ≤ g.C.Cell.ring.most) (numbers_by k node.cells (weights_of c.args.profile.now c.args.v))) (sym c.kind.ensures.kind ∙ c.in-Utility.is) c.requires.fit

pub chance_table-requires-clause-room : goal.chance_table-requires-clause-room
chance_table-requires-clause-room g c =
    let nodes = c.args.diagram.now.nodes in
    let cells = cells_by g.C.Cell.ring g.C.Cell.of_weight g.C.Cell.of_value in
    subst (λ k. HasSpareFor nodes (space c.args.all.now c.args.used) (cond (is_utility k) (utility_table cells nodes c.args.v) (node_table cells nodes c.args.profile.now c.args.v))) (sym c.kind.ensures.kind ∙ c.in-Chance.is) c.requires.room

pub rule_table-requires-clause-room : goal.rule_table-requires-clause-room
rule_table-requires-clause-room g c =
    let nodes = c.args.diagram.now.nodes in
    let cells = cells_by g.C.Cell.ring g.C.Cell.of_weight g.C.Cell.of_value in
    subst (λ k. HasSpareFor nodes (space c.args.all.now c.args.used) (cond (is_utility k) (utility_table cells nodes c.args.v) (node_table cells nodes c.args.profile.now c.args.v))) (sym c.kind.ensures.kind ∙ c.in-Decision.is) c.requires.room

pub value_table-requires-clause-room : goal.value_table-requires-clause-room
value_table-requires-clause-room g c =
    let nodes = c.args.diagram.now.nodes in
    let cells = cells_by g.C.Cell.ring g.C.Cell.of_weight g.C.Cell.of_value in
    subst (λ k. HasSpareFor nodes (space c.args.all.now c.args.used) (cond (is_utility k) (utility_table cells nodes c.args.v) (node_table cells nodes c.args.profile.now c.args.v))) (sym c.kind.ensures.kind ∙ c.in-Utility.is) c.requires.room

pub returns-in-Decision-clause-table : goal.returns-in-Decision-clause-table
returns-in-Decision-clause-table g c =
    let nodes = c.args.diagram.now.nodes in
    let cells = cells_by g.C.Cell.ring g.C.Cell.of_weight g.C.Cell.of_value in
    subst (λ k. AppendsTable g.C.Cell.ring nodes (space c.args.all.now c.args.used) (space c.rule_table.new.all (c.args.used + c.rule_table.result.len)) c.rule_table.result (cond (is_utility k) (utility_table cells nodes c.args.v) (node_table cells nodes c.args.profile.now c.args.v))) (sym (sym c.kind.ensures.kind ∙ c.in-Decision.is)) c.rule_table.ensures.table

pub returns-in-Utility-clause-table : goal.returns-in-Utility-clause-table
returns-in-Utility-clause-table g c =
    let nodes = c.args.diagram.now.nodes in
    let cells = cells_by g.C.Cell.ring g.C.Cell.of_weight g.C.Cell.of_value in
    subst (λ k. AppendsTable g.C.Cell.ring nodes (space c.args.all.now c.args.used) (space c.value_table.new.all (c.args.used + c.value_table.result.len)) c.value_table.result (cond (is_utility k) (utility_table cells nodes c.args.v) (node_table cells nodes c.args.profile.now c.args.v))) (sym (sym c.kind.ensures.kind ∙ c.in-Utility.is)) c.value_table.ensures.table
