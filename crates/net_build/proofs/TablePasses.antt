-- The node of a number, and its block.
use Rattle.std.proofs.Common.{◌≡◌, ◌<◌, ◌*◌, ℕ, zero, suc, true, List, [], ◌∷◌, length, get_or, map, None, refl, ap, subst, ◌∙◌, arith}
use Rattle.std.proofs.lemmas.List.{get_or-map, length-map}
use Rattle.maid_model.specs.Nodes.{rows_under}
use Rattle.net_parser.specs.Trees.{BlockTree}
use Rattle.net_build.specs.declared.nodes.Head.{Head}
use Rattle.net_build.specs.Blocks.{is_node, node_blocks, kind_of, block_states, state_counts, row_count, block_name, potential_of, block_parents, parent_lists}
use Rattle.first_fault.specs.Passes.{Pass}
use Rattle.net_build.specs.Passes.{Found}
use Rattle.net_build.specs.Stages.{head_of, head_at, link_lists, head_rows, no_head}
use Rattle.net_build.specs.Table.{node_part, node_part_at, potential_at, table_pass, no_block}
use Rattle.net_build.proofs.BlockLemmas.{all_filter}
use Rattle.net_build.proofs.LinkLemmas.{number_at}

-- rows are counted by what each parent has
rows_same : (f g : ℕ → ℕ) (us : List ℕ) → ((u : ℕ) → f u ≡ g u) → rows_under f us ≡ rows_under g us
rows_same f g [] same = refl
rows_same f g (u ∷ us) same = λ i. same u i * rows_same f g us same i

states_at : (text : List ℕ) (all nodes : List BlockTree) (u : ℕ) → (head_at (map (head_of text all) nodes) u).states ≡ get_or (map (block_states text) nodes) u 1
states_at text all [] u = refl
states_at text all (b ∷ bs) zero = refl
states_at text all (b ∷ bs) (suc u) = states_at text all bs u

module _ (text : List ℕ) (blocks : List BlockTree) where
  abbrev nodes : List BlockTree
  nodes = node_blocks blocks

  abbrev heads : List Head
  heads = map (head_of text nodes) nodes

  abbrev block_at : ℕ → BlockTree
  block_at v = get_or nodes v no_block

  pub head_here : (v : ℕ) → v < length nodes → head_at heads v ≡ head_of text nodes (block_at v)
  head_here v h = get_or-map (head_of text nodes) nodes v no_block no_head h

  pub parents_here : (v : ℕ) → v < length nodes → get_or (parent_lists text blocks) v [] ≡ block_parents text blocks (block_name text (block_at v))
  parents_here v h = get_or-map (λ b. block_parents text blocks (block_name text b)) nodes v no_block [] h

  pub potential_here : (v : ℕ) → v < length nodes → potential_at (link_lists text blocks) v ≡ potential_of text blocks (block_name text (block_at v))
  potential_here v h = get_or-map (λ b. potential_of text blocks (block_name text b)) nodes v no_block None h

  pub rows_here : (v : ℕ) → v < length nodes → head_rows heads (parent_lists text blocks) v ≡ row_count text blocks (block_at v)
  rows_here v h = ap (rows_under (λ u. (head_at heads u).states)) (parents_here v h) ∙ rows_same (λ u. (head_at heads u).states) (λ u. get_or (state_counts text nodes) u 1) (block_parents text blocks (block_name text (block_at v))) (states_at text nodes nodes)

  abbrev own_part : BlockTree → Pass Found
  own_part b = node_part text (kind_of b.kind) (row_count text blocks b) (block_states text b) (potential_of text blocks (block_name text b))

  pub part_here : (v : ℕ) → v < length nodes → node_part_at text heads (link_lists text blocks) v ≡ own_part (block_at v)
  part_here v h = λ i. node_part text (head_here v h i).kind (rows_here v h i) (head_here v h i).states (potential_here v h i)

  -- each is a node block
  pub nodes_are : (v : ℕ) → v < length nodes → is_node (block_at v).kind ≡ true
  nodes_are v h = (all_filter (λ b. Unit {0}) (λ b. is_node b.kind) blocks (λ k d within. tt) v no_block h).1

  -- the rows of a node of which nothing is found
  pub part_none : table_pass text blocks None → (v : ℕ) → v < length nodes → own_part (block_at v) None
  unfolding table_pass
  part_none nothing v h = subst (λ (P : Pass Found). P None) (part_here v h) (number_at (node_part_at text heads (link_lists text blocks)) (length heads) v nothing (omega (arith, h, length-map nodes (head_of text nodes))))
