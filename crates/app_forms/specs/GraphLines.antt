-- The lines of a relevance graph, node by node. Only contracts of private functions cite this.
use Rattle.std.specs.Prelude.{ℕ, List, [], if◌then◌else◌, Result}
use Rattle.maid_model.specs.Names.{NamesView}
use Rattle.maid_model.specs.Nodes.{node_at, is_decision, decisions_of}
use Rattle.maid_model.specs.Views.{NodeView, DiagramView}
use Rattle.relevance_graph.specs.Views.{RelevanceView, relied_on_by}
use Rattle.app_forms.specs.Graph.{relies_line}
use Rattle.std.specs.List.{flat_map}
use Rattle.std.specs.Global.{Vec}
use Rattle.line_pieces.specs.Pushed.{PushAppends}

-- the line of a decision, and nothing of another node
abbrev pub relies_line_of : List NodeView → NamesView → RelevanceView → ℕ → List ℕ
relies_line_of nodes names view v =
    if is_decision (node_at nodes v).kind then relies_line names v (relied_on_by view v) else []

-- the lines of all decisions
abbrev pub relies_lines : List NodeView → NamesView → RelevanceView → List ℕ
relies_lines nodes names view =
    flat_map (λ v. relies_line names v (relied_on_by view v)) (decisions_of nodes)

-- a call that ended well appended the line of the node, if it is a decision
abbrev pub PushesReliesLine : {R E : Type 0} → DiagramView → NamesView → RelevanceView → ℕ → Vec ℕ
    → Vec ℕ → Result R E → Type 0
PushesReliesLine d names view v before now result =
    PushAppends before now result (relies_line_of d.nodes names view v)

-- a call that ended well appended the lines of all decisions
abbrev pub PushesReliesLines : {R E : Type 0} → DiagramView → NamesView → RelevanceView → Vec ℕ
    → Vec ℕ → Result R E → Type 0
PushesReliesLines d names view before now result =
    PushAppends before now result (relies_lines d.nodes names view)
