-- Each owner is one of the agents, and a list of several is not empty.
use Rattle.std.proofs.Common.{◌≡◌, ◌≢◌, ◌==◌, ℕ, suc, ◌<◌, false, List, [], ◌∷◌, ◌++◌, length, map, get_or, All, OnOk, codes, sym, ap, subst, ◌∙◌, arith}
use Rattle.std.proofs.lemmas.List.{get_or_default}
use Rattle.std.proofs.lemmas.Bool.{false≢true}
use Rattle.std.proofs.lemmas.List.Folds.{flat_map-map}
use Rattle.std.specs.List.{flat_map}
use Rattle.maid_model.specs.declared.diagrams.Kind.TheVariants.{Chance}
use Rattle.maid_model.specs.Diagrams.{HasOwners}
use Rattle.maid_model.specs.Names.{NamesView, NamesFit, agent_name}
use Rattle.maid_model.specs.Nodes.{node_at, owners_of}
use Rattle.maid_model.specs.Reports.{quoted}
use Rattle.maid_model.specs.Views.{NodeView, DiagramView}
use Rattle.net_print.specs.Printed.{owners_text}
use Rattle.net_print.proofs.blocks.push_owners.Goals as goal

owners_known : (d : DiagramView) (names : NamesView) (v : ℕ) → NamesFit d names → HasOwners d.nodes d.agents → v < length d.nodes → (node_at d.nodes v).kind ≢ Chance → (n : NodeView) → n ≡ node_at d.nodes v → All (λ a. a < length names.agents) (n.owner ∷ n.more)
owners_known d names v fit owners l owned n is =
    subst (λ (m : NodeView). All (λ a. a < length names.agents) (m.owner ∷ m.more)) (sym is)
    (λ k e h. subst (λ a. slice_at k e < a) (sym fit.agents) (owners.agent v (slice_at k e) l owned (k, h, get_or_default (owners_of d.nodes v) k (slice_at k e) e h)))
  where
    slice_at : ℕ → ℕ → ℕ
    slice_at k e = get_or (owners_of d.nodes v) k e

list_text : (names : NamesView) (owner : ℕ) (more : List ℕ) → (length more == 0) ≡ false
    → codes "agents = (" ++ (quoted (agent_name names owner) ++ flat_map (λ a. 32 ∷ quoted (agent_name names a)) more) ++ codes "); " ≡ owners_text (map (agent_name names) (owner ∷ more))
list_text names owner [] some = absurd (false≢true (sym some))
list_text names owner (x ∷ xs) some = ap (λ others. codes "agents = (" ++ (quoted (agent_name names owner) ++ others) ++ codes "); ") (sym (flat_map-map (λ y. 32 ∷ quoted y) (agent_name names) (x ∷ xs)))

pub agent-first-requires : goal.agent-first-requires
agent-first-requires c =
    let node = ap (λ (n : NodeView). n.owner) c.node.view_is in
    let known = owners_known c.args.diagram.now c.args.names.now c.args.node c.requires.fit c.node-node.ensures.diagram.owners c.requires.node c.requires.kind c.node-node.result.now c.node-node.ensures.node in
    subst (λ a. a < length c.args.names.now.agents) (sym node) (known 0 0 (omega arith))

pub push_agents-requires : goal.push_agents-requires
push_agents-requires c =
    let more = c.as_slice-others.ensures ∙ ap (λ (n : NodeView). n.more) c.node.view_is in
    let known = owners_known c.args.diagram.now c.args.names.now c.args.node c.requires.fit c.node-node.ensures.diagram.owners c.requires.node c.requires.kind c.node-node.result.now c.node-node.ensures.node in
    subst (All (λ a. a < length c.args.names.now.agents)) (sym more) (λ k e h. known (suc k) e (omega arith))

pub returns-else-is_empty : goal.returns-else-is_empty
returns-else-is_empty c =
    let names = c.args.names.now in
    let node = node_at c.args.diagram.now.nodes c.args.node in
    let first = c.agent-first.ensures ∙ ap (λ (n : NodeView). agent_name names n.owner) (c.node.view_is ∙ c.node-node.ensures.node) in
    let more = c.as_slice-others.ensures ∙ ap (λ (n : NodeView). n.more) (c.node.view_is ∙ c.node-node.ensures.node) in
    let some = ap (λ (l : List ℕ). length l == 0) (sym more) ∙ sym c.is_empty.ensures ∙ c.if-is_empty.false in
    subst (λ text. OnOk c.push_agents.result (c.push_agents.new.out.items ≡ c.args.out.now.items ++ text)) (list_text names node.owner node.more some) (rw (first, more) at c.push_agents.ensures)
