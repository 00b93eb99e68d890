-- The heads, the parents and the potentials that the tree of a printed text tells, and the counts
-- of rows and cells that they make.
use Rattle.std.proofs.Common.{◌≡◌, ◌∙◌, ℕ, ◌<◌, ◌*◌, List, [], Some, None, length, get_or, sym, ap, subst}
use Rattle.std.proofs.Math.ListN.{get_or-map}
use Rattle.std.proofs.Math.Path.{fun_ext}
use Rattle.std.proofs.lemmas.List.{get_or-map as get_or_map_within}
use Rattle.std.proofs.lemmas.Simd.{map-map}
use Rattle.maid_model.specs.declared.diagrams.Kind.TheVariants.{Utility}
use Rattle.maid_model.specs.Names.{NamesView}
use Rattle.maid_model.specs.Nodes.{node_at, no_node, states_of, rows_of, rows_under}
use Rattle.maid_model.specs.Views.{NodeView, DiagramView}
use Rattle.net_build.specs.Blocks as look
use Rattle.net_build.specs.declared.nodes.Head.{Head}
use Rattle.net_build.specs.Stages.{cells_of_head, head_at, head_of, head_rows, heads_of, no_head}
use Rattle.net_build.specs.Table.{no_block}
use Rattle.net_parser.specs.Trees.{BlockTree}
use Rattle.net_print.proofs.Agents.{states_told}
use Rattle.net_print.proofs.Comments.{IsPrintableBehind, text_of}
use Rattle.net_print.proofs.Given.{parents_told, potential_found}
use Rattle.net_print.proofs.Look.{kinds_told}
use Rattle.net_print.proofs.TablesTold.{block_name, blocks_count}
use Rattle.net_print.proofs.Tree.{potential_tree, tree_of}

module _ (d : DiagramView) (names : NamesView) (is : IsPrintableBehind d names) where
  abbrev Text : List ℕ
  Text = text_of d names is

  abbrev Blocks : List BlockTree
  Blocks = tree_of d names is

  abbrev Nodes : List BlockTree
  Nodes = look.node_blocks (tree_of d names is)

  abbrev Heads : List Head
  Heads = heads_of (text_of d names is) (look.node_blocks (tree_of d names is))

  pub head_kinds : (v : ℕ) → (head_at Heads v).kind ≡ (node_at d.nodes v).kind
  head_kinds v =
      sym (get_or-map (λ (h : Head). h.kind) Heads v no_head)
      ∙ ap (λ kinds. get_or kinds v Utility) (map-map (λ (h : Head). h.kind) (head_of Text Nodes) Nodes ∙ sym (kinds_told d names is))
      ∙ get_or-map (λ (n : NodeView). n.kind) d.nodes v no_node

  pub head_states : (v : ℕ) → (head_at Heads v).states ≡ states_of d.nodes v
  head_states v =
      sym (get_or-map (λ (h : Head). h.states) Heads v no_head)
      ∙ ap (λ counts. get_or counts v 1) (map-map (λ (h : Head). h.states) (head_of Text Nodes) Nodes ∙ sym (states_told d names is))
      ∙ get_or-map (λ (n : NodeView). n.states) d.nodes v no_node

  listed_parents : (v : ℕ) → get_or (look.parent_lists Text Blocks) v [] ≡ (node_at d.nodes v).parents
  listed_parents v = ap (λ lists. get_or lists v []) (sym (parents_told d names is)) ∙ get_or-map (λ (n : NodeView). n.parents) d.nodes v no_node

  pub rows_told : head_rows Heads (look.parent_lists Text Blocks) ≡ rows_of d.nodes
  rows_told = fun_ext (λ v i. rows_under (λ u. head_states u i) (listed_parents v i))

  pub head_cells : cells_of_head Heads (look.parent_lists Text Blocks) ≡ (λ v. rows_of d.nodes v * states_of d.nodes v)
  head_cells = λ i v. rows_told i v * head_states v i

  pub listed_potential : (v : ℕ) (l : v < length d.nodes) → get_or (look.potential_list Text Blocks) v None ≡ Some (potential_tree d names (potential_found d names is v l).0 v)
  listed_potential v l =
      get_or_map_within (λ b. look.potential_of Text Blocks (look.block_name Text b)) Nodes v no_block None (subst (λ n. v < n) (sym (blocks_count d names is)) l)
      ∙ ap (look.potential_of Text Blocks) (block_name d names is v l) ∙ (potential_found d names is v l).3
