-- The parts stand in the fields.
use Rattle.std.proofs.Common.{◌≡◌, ℕ, length, ap, sym, ◌∙◌, subst, arith}
use Rattle.std.proofs.lemmas.List.{length-map}
use Rattle.std.specs.Global.{Vec}
use Rattle.maid_model.specs.Diagrams.{IsDiagram}
use Rattle.maid_model.specs.Names.{list_of}
use Rattle.maid_model.specs.Views.{diagram_of}
use Rattle.net_build.specs.Lists.{numbers_of_lists, cells_of_lists}
use Rattle.net_build.specs.Stages.{NodeLists, LinkLists, TableLists, made_nodes, made_diagram}
use Rattle.std.proofs.lemmas.Result.{IfOk-from_err, IfOk-weaker}
use Rattle.net_build.proofs.building.make_diagram.Goals as goal

pub from_nodes-requires : goal.from_nodes-requires
from_nodes-requires c =
    let heads = c.deref.ensures.value ∙ ap (λ (n : NodeLists). n.heads) c.nodes.view_is in
    let more = ap numbers_of_lists c.deref-2.ensures.value ∙ ap (λ (n : NodeLists). n.more) c.nodes.view_is in
    let parents = ap numbers_of_lists c.deref-3.ensures.value ∙ ap (λ (l : LinkLists). l.parents) c.links.view_is in
    let cells = ap cells_of_lists c.deref_mut.ensures.value ∙ ap (λ (t : TableLists). t.cells) c.tables.view_is in
    let decimals = ap (λ (t : TableLists). t.decimals) c.tables.view_is in
    let count : c.len.result ≡ length (list_of c.nodes.inside.agents.items) = let l = length-map c.nodes.inside.agents.items (λ (v : Vec ℕ). v.items) in omega (arith, c.nodes.inside.agents.ok) in
    let agents = count ∙ ap (λ (n : NodeLists). length n.agents) c.nodes.view_is in
    let nodes = c.in_ok-list.ensures ∙ (λ j. made_nodes (heads j) (more j) (parents j) (cells j)) in
    let is : record { nodes = c.in_ok-list.list.items; agents = c.len.result; decimals = c.tables.inside.decimals } ≡ made_diagram c.args.nodes.now c.args.links.now c.args.tables = λ j. record { nodes = nodes j; agents = agents j; decimals = decimals j } in
    subst IsDiagram (sym is) c.requires.diagram

pub returns : goal.returns
returns c =
    let heads = c.deref.ensures.value ∙ ap (λ (n : NodeLists). n.heads) c.nodes.view_is in
    let more = ap numbers_of_lists c.deref-2.ensures.value ∙ ap (λ (n : NodeLists). n.more) c.nodes.view_is in
    let parents = ap numbers_of_lists c.deref-3.ensures.value ∙ ap (λ (l : LinkLists). l.parents) c.links.view_is in
    let cells = ap cells_of_lists c.deref_mut.ensures.value ∙ ap (λ (t : TableLists). t.cells) c.tables.view_is in
    let decimals = ap (λ (t : TableLists). t.decimals) c.tables.view_is in
    let count : c.len.result ≡ length (list_of c.nodes.inside.agents.items) = let l = length-map c.nodes.inside.agents.items (λ (v : Vec ℕ). v.items) in omega (arith, c.nodes.inside.agents.ok) in
    let agents = count ∙ ap (λ (n : NodeLists). length n.agents) c.nodes.view_is in
    let nodes = c.in_ok-list.ensures ∙ (λ j. made_nodes (heads j) (more j) (parents j) (cells j)) in
    let is : record { nodes = c.in_ok-list.list.items; agents = c.len.result; decimals = c.tables.inside.decimals } ≡ made_diagram c.args.nodes.now c.args.links.now c.args.tables = λ j. record { nodes = nodes j; agents = agents j; decimals = decimals j } in
    IfOk-weaker c.from_nodes.result (λ d. d ≡ diagram_of c.in_ok-list.list.items c.len.result c.tables.inside.decimals) (λ d. d ≡ made_diagram c.args.nodes.now c.args.links.now c.args.tables) (λ d e. e ∙ is) c.from_nodes.ensures

pub returns-in_err-list : goal.returns-in_err-list
returns-in_err-list c = IfOk-from_err _ _ c.from_residual.ensures.0
