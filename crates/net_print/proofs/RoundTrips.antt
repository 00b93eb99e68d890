-- The printed text of a diagram stands for that diagram and its names.
use Rattle.std.proofs.Common.{◌≡◌, ◌∙◌, ℕ, List, [], length, None, sym, ap}
use Rattle.std.proofs.lemmas.List.Elements.{All-nil}
use Rattle.maid_model.specs.Reports.{IsOneLine}
use Rattle.maid_model.specs.Names.{NamesView}
use Rattle.maid_model.specs.Views.{DiagramView}
use Rattle.net_build.specs.Blocks.{node_blocks, names_of, agents_of}
use Rattle.net_build.specs.Building.{StandsFor}
use Rattle.net_build.specs.Table.{all_passes}
use Rattle.net_print.specs.RoundTrip.{RoundTrip, CommentedRoundTrip}
use Rattle.net_print.proofs.Comments.{IsPrintableBehind, text_of, place_of}
use Rattle.net_print.proofs.Agents.{agents_told, owners_told, states_told}
use Rattle.net_print.proofs.Faultless.{graph_clear, missing_clear}
use Rattle.net_print.proofs.Given.{parents_told}
use Rattle.net_print.proofs.Look.{names_told, labels_are_told, kinds_told}
use Rattle.net_print.proofs.NodePass.{nodes_clear}
use Rattle.net_print.proofs.PotentialPass.{potentials_clear}
use Rattle.net_print.proofs.SizePass.{sizes_clear}
use Rattle.net_print.proofs.TablePass.{tables_clear, tables_told}
use Rattle.net_print.proofs.Texts as texts
use Rattle.net_print.proofs.Tree.{tree_of, tokens_are, spells}
use Rattle.net_print.proofs.WidePass.{scale_told, wide_clear}
use Rattle.net_print.proofs.Written.{tokens_at}

same_names : (names : NamesView) (nodes : List (List ℕ)) (labels : List (List (List ℕ))) (agents : List (List ℕ)) → nodes ≡ names.nodes → labels ≡ names.labels → agents ≡ names.agents → names ≡ record { nodes = nodes; labels = labels; agents = agents }
same_names names nodes labels agents e f g = sym (
    ap (λ xs. record { nodes = xs; labels = labels; agents = agents }) e
    ∙ ap (λ xs. record { nodes = names.nodes; labels = xs; agents = agents }) f
    ∙ ap (λ xs. record { nodes = names.nodes; labels = names.labels; agents = xs }) g)

stands_for : (d : DiagramView) (names : NamesView) (is : IsPrintableBehind d names) → StandsFor (text_of d names is) (tree_of d names is) d names
stands_for d names is = record {
  names_are = same_names names (names_of (text_of d names is) (node_blocks (tree_of d names is))) _ (agents_of (text_of d names is) (node_blocks (tree_of d names is))) (names_told d names is) (labels_are_told d names is) (agents_told d names is);
  agents = sym (ap length (agents_told d names is) ∙ is.fit.agents);
  kinds = kinds_told d names is;
  owners = owners_told d names is;
  states = states_told d names is;
  parents = parents_told d names is;
  scale = scale_told d names is;
  tables = tables_told d names is;
}

-- No pass finds a fault.
faultless : (d : DiagramView) (names : NamesView) (is : IsPrintableBehind d names) → all_passes (text_of d names is) (tree_of d names is) None
unfolding all_passes
faultless d names is = (nodes_clear d names is, (potentials_clear d names is, (missing_clear d names is, (graph_clear d names is, (sizes_clear d names is, (tables_clear d names is, wide_clear d names is))))))

-- The round trip of a text behind comment lines.
pub commented_round_trips : CommentedRoundTrip
commented_round_trips comments lines d names k =
    let is : IsPrintableBehind d names = record { comments = comments; lines = lines; diagram = k.diagram; plain = k.plain; fit = k.fit; form = k.form } in
    (tokens_at (place_of d names is) (texts.words d names is), tree_of d names is, tokens_are d names is, spells d names is, faultless d names is, stands_for d names is)

-- And of one without any.
pub round_trips : RoundTrip
round_trips d names is = commented_round_trips [] (All-nil IsOneLine) d names is
