-- Passes that find nothing in the tree of a printed text.
use Rattle.std.proofs.Common.{◌≡◌, ◌∙◌, ℕ, zero, suc, ◌<◌, not, List, [], ◌∷◌, length, map, get_or, All, Contains, None, Some, refl, sym, subst, arith}
use Rattle.std.specs.List.{flat_map, range_with_len}
use Rattle.std.proofs.lemmas.List.{length-map}
use Rattle.std.proofs.lemmas.List.Elements.{All-head, All-tail, All-nil, All-cons}
use Rattle.diagram_graph.specs.Cycles.{ListedArc}
use Rattle.maid_model.specs.Graph.{Arc, IsAcyclic}
use Rattle.maid_model.specs.Names.{NamesView}
use Rattle.maid_model.specs.Nodes.{node_at, numbers_of, is_decision}
use Rattle.maid_model.specs.Views.{NodeView, DiagramView}
use Rattle.net_build.specs.Blocks as look
use Rattle.net_build.specs.declared.nodes.Head.{Head}
use Rattle.first_fault.specs.Passes.{Pass, each}
use Rattle.net_build.specs.Linking.{absent_row, missing_at}
use Rattle.net_build.specs.Passes.{Found}
use Rattle.net_build.specs.Stages.{head_at, head_of, heads_of}
use Rattle.net_build.specs.Table.{graph_pass, missing_pass}
use Rattle.net_parser.specs.Trees.{BlockTree}
use Rattle.net_print.proofs.ClearPasses.{only_clear}
use Rattle.net_print.proofs.Comments.{IsPrintableBehind, text_of, place_of}
use Rattle.net_print.proofs.CountsTold.{listed_potential}
use Rattle.net_print.proofs.Given.{parents_told}
use Rattle.net_print.proofs.Look.{node_blocks_are, at_nodes, potential_lines}
use Rattle.net_print.proofs.Spelling.{trees_at}
use Rattle.net_print.proofs.TablesTold.{blocks_count}
use Rattle.net_print.proofs.Texts.{numbers_below}
use Rattle.net_print.proofs.Tree.{node_tree, tree_of}
use Rattle.net_print.proofs.Words.{node_words}
use Rattle.net_print.proofs.Written.{Written, At, at_end, end_at, text_onto, text_onto-append}

-- where nothing is found at each, nothing is found
pub each_clear : {A : Type 0} (P : A → Pass Found) (xs : List A) → All (λ x. P x None) xs → each P xs None
each_clear P [] all = tt
each_clear P (x ∷ xs) all = (All-head (λ y. P y None) x xs all, each_clear P xs (All-tail (λ y. P y None) x xs all))

-- what holds of each block of some lines
trees_hold : (text : List ℕ) (Q : BlockTree → Type 0) (tree : ℕ → ℕ → BlockTree) (lines : ℕ → List Written) (from : ℕ) (vs : List ℕ) (rest : List ℕ) → At text from (text_onto (flat_map lines vs) rest) → All (λ v. (p : ℕ) (more : List ℕ) → At text p (text_onto (lines v) more) → Q (tree p v)) vs → All Q (trees_at tree lines from vs)
trees_hold text Q tree lines from [] rest at all = All-nil Q
trees_hold text Q tree lines from (v ∷ vs) rest at all =
    let more = text_onto (flat_map lines vs) rest in
    let here : At text from (text_onto (lines v) more) = subst (At text from) (text_onto-append (lines v) (flat_map lines vs) rest) at in
    All-cons Q (tree from v) (trees_at tree lines (end_at from (lines v)) vs)
    (All-head (λ u. (p : ℕ) (more : List ℕ) → At text p (text_onto (lines u) more) → Q (tree p u)) v vs all from more here)
    (trees_hold text Q tree lines (end_at from (lines v)) vs rest (at_end text from (lines v) more here) (All-tail (λ u. (p : ℕ) (more : List ℕ) → At text p (text_onto (lines u) more) → Q (tree p u)) v vs all))

-- the parents of a node as a list's place
parents_at : (nodes : List NodeView) (v : ℕ) → get_or (map (λ n. n.parents) nodes) v [] ≡ (node_at nodes v).parents
parents_at [] v = refl
parents_at (n ∷ nodes) zero = refl
parents_at (n ∷ nodes) (suc v) = parents_at nodes v

module _ (d : DiagramView) (names : NamesView) (is : IsPrintableBehind d names) where
  abbrev Text : List ℕ
  Text = text_of d names is

  abbrev Blocks : List BlockTree
  Blocks = tree_of d names is

  abbrev Heads : List Head
  Heads = heads_of (text_of d names is) (look.node_blocks (tree_of d names is))

  pub graph_clear : graph_pass Text Blocks None
  unfolding graph_pass
  graph_clear =
      let arcs : Arc d.nodes ≡ ListedArc (map (λ n. n.parents) d.nodes) = λ j u v. Contains (sym (parents_at d.nodes v) j) u in
      subst (λ lists. IsAcyclic (ListedArc lists)) (parents_told d names is) (subst IsAcyclic arcs is.diagram.graph.acyclic)

  -- what holds of each node's block
  pub nodes_hold : (Q : BlockTree → Type 0) → ((v p : ℕ) (more : List ℕ) → v < length d.nodes → At Text p (text_onto (node_words d.nodes names v) more) → Q (node_tree d.nodes names p v)) → All Q (look.node_blocks Blocks)
  nodes_hold Q one = subst (All Q) (sym (node_blocks_are d names is)) (trees_hold Text Q (node_tree d.nodes names) (node_words d.nodes names) (place_of d names is) (numbers_of d.nodes) (text_onto (potential_lines d names is) []) (at_nodes d names is) (λ k e h p more at. one (get_or (numbers_of d.nodes) k e) p more (numbers_below (length d.nodes) k e h) at))

  -- each node has its potential
  pub missing_clear : missing_pass Text Blocks None
  unfolding missing_pass
  missing_clear = each_clear (missing_at Heads (look.potential_list Text Blocks)) (range_with_len 0 (length Heads)) (λ k e h. one (get_or (range_with_len 0 (length Heads)) k e) (omega (arith, numbers_below (length Heads) k e h, length-map (look.node_blocks Blocks) (head_of Text (look.node_blocks Blocks)), blocks_count d names is))) where
    found_and_not : {X : Type 0} {x : X} → Some x ≡ None → ⊥
    found_and_not e = cc

    one : (v : ℕ) → v < length d.nodes → missing_at Heads (look.potential_list Text Blocks) v None
    one v l = only_clear (not (is_decision (head_at Heads v).kind)) (absent_row (head_at Heads v) (look.potential_list Text Blocks) v) (λ counts none. found_and_not (sym (listed_potential d names is v l) ∙ none))
