-- The pass over tables finds nothing in the tree of a printed text, and the tables that it tells
-- are the nodes' cells.
use Rattle.std.proofs.Common.{◌≡◌, ◌∙◌, ◌≢◌, ℕ, ◌*◌, ◌<◌, ◌≤◌, ℤ, nat_abs, List, [], length, map, get_or, decimal, codes, None, Some, refl, sym, ap, subst, arith}
use Rattle.std.specs.List.{range_with_len}
use Rattle.std.proofs.lemmas.List.{get_or-map, length-map}
use Rattle.maid_model.specs.declared.diagrams.Kind.{Kind}
use Rattle.maid_model.specs.declared.diagrams.Kind.TheVariants.{Chance, Decision, Utility}
use Rattle.maid_model.specs.Names.{NamesView}
use Rattle.maid_model.specs.Nodes.{node_at, no_node, states_of, rows_of}
use Rattle.maid_model.specs.Tables.{chance_total}
use Rattle.maid_model.specs.Views.{NodeView, DiagramView}
use Rattle.net_build.specs.Blocks as look
use Rattle.net_build.specs.Building.{AreTables, IsTableFrom}
use Rattle.first_fault.specs.Passes.{Pass, each}
use Rattle.net_build.specs.Passes.{Found}
use Rattle.net_build.specs.Stages.{head_of, heads_of, link_lists}
use Rattle.net_build.specs.declared.nodes.Head.{Head}
use Rattle.net_build.specs.Table.{table_pass, node_part_at, node_part, draft_part, data_parts, weight_part, length_row}
use Rattle.net_lexer.specs.Token.{token_bytes}
use Rattle.net_lexer.specs.declared.tokens.Token.{Token}
use Rattle.net_lexer.specs.declared.tokens.TokenKind.TheVariants.{Number}
use Rattle.net_parser.specs.Owned.{leaves}
use Rattle.net_parser.specs.Trees.{AttributeTree, BlockTree}
use Rattle.net_build.specs.Plain.{reduced_rows}
use Rattle.net_print.specs.Printed.{value_text}
use Rattle.net_print.proofs.Comments.{IsPrintableBehind, text_of}
use Rattle.net_print.proofs.CountsTold.{head_kinds, head_states, rows_told, listed_potential}
use Rattle.net_print.proofs.Faultless.{each_clear}
use Rattle.net_print.proofs.Given.{potential_found}
use Rattle.net_print.proofs.Rows.{length-rows}
use Rattle.net_print.proofs.TablesTold.{number_texts, table_numbers, potential_data, potential_numbers, potential_repeats, texts_of, blocks_count, block_at, block_kind, block_states, block_numbers}
use Rattle.net_print.proofs.Tree.{list_tree, table_trees, potential_tree, tree_of}
use Rattle.net_print.proofs.Texts.{numbers_below}
use Rattle.net_print.proofs.ValueLimits.{small_enough, lengths_clear}
use Rattle.net_print.proofs.ValueScale.{values_scaled}
use Rattle.net_print.proofs.WeightPass.{chance_lengths_clear, weights_clear}
use Rattle.net_print.proofs.WeightScale.{chance_cells}
use Rattle.net_print.proofs.Words.{brace_open, head_words}
use Rattle.net_print.proofs.Written.{behind, end_at}

-- A table of printed numbers has no fault, by its kind.
data_clear : (text : List ℕ) (potential : BlockTree) (from : ℕ) (kind : Kind) (decimals states rows : ℕ) (cells : List ℤ) → kind ≢ Decision → length (number_texts kind decimals states rows cells) ≡ rows * states → map (token_bytes text) (look.leaves_of (table_trees from kind decimals states rows cells)) ≡ number_texts kind decimals states rows cells → each (length_row text) (look.leaves_of (table_trees from kind decimals states rows cells)) None → (kind ≡ Chance → (table : AttributeTree) → map (token_bytes text) (leaves table.value) ≡ map decimal (reduced_rows states rows cells) → weight_part text states rows table.name.start (leaves table.value) None) → data_parts text kind rows states potential (table_trees from kind decimals states rows cells) None
data_clear text potential from Chance decimals states rows cells some count told short fair =
    let table = list_tree from (codes "data") Number decimal (reduced_rows states rows cells) in
    ((table_numbers from Chance decimals states rows cells, (λ other. other (sym (length-map (leaves table.value) (token_bytes text)) ∙ ap length told ∙ count), short)), fair refl table told)
data_clear text potential from Decision decimals states rows cells some count told short fair = absurd (some refl)
data_clear text potential from Utility decimals states rows cells some count told short fair =
    let table = list_tree from (codes "data") Number (value_text decimals) cells in
    ((table_numbers from Utility decimals states rows cells, (λ other. other (sym (length-map (leaves table.value) (token_bytes text)) ∙ ap length told ∙ count), short)), tt)

-- a node whose potential has no fault
node_clear : (text : List ℕ) (kind : Kind) (rows states : ℕ) (potential : BlockTree) → (kind ≢ Decision → draft_part text kind rows states (Some potential) None) → node_part text kind rows states (Some potential) None
node_clear text Chance rows states potential clear = clear (λ e. cc)
node_clear text Decision rows states potential clear = tt
node_clear text Utility rows states potential clear = clear (λ e. cc)

module _ (d : DiagramView) (names : NamesView) (is : IsPrintableBehind d names) where
  abbrev Text : List ℕ
  Text = text_of d names is

  abbrev Blocks : List BlockTree
  Blocks = tree_of d names is

  abbrev Heads : List Head
  Heads = heads_of (text_of d names is) (look.node_blocks (tree_of d names is))

  -- as many numbers are printed as the table has cells
  texts_count : (v : ℕ) → v < length d.nodes → (kind : Kind) → (node_at d.nodes v).kind ≡ kind → kind ≢ Decision → length (number_texts kind d.decimals (states_of d.nodes v) (rows_of d.nodes v) (node_at d.nodes v).cells) ≡ rows_of d.nodes v * states_of d.nodes v
  texts_count v l Chance kind some =
      let cells = (node_at d.nodes v).cells in
      length-map (reduced_rows (states_of d.nodes v) (rows_of d.nodes v) cells) decimal ∙ length-rows (states_of d.nodes v) cells (rows_of d.nodes v) (subst (λ n. rows_of d.nodes v * states_of d.nodes v ≤ n) (sym (is.diagram.tables.table v kind).len) (omega arith))
  texts_count v l Decision kind some = absurd (some refl)
  texts_count v l Utility kind some =
      length-map (node_at d.nodes v).cells (value_text d.decimals) ∙ is.diagram.values.utility v l kind ∙ once (rows_of d.nodes v) (states_of d.nodes v) (is.diagram.graph.utility_states v kind)
    where
      once : (rows states : ℕ) → states ≡ 1 → rows ≡ rows * states
      once rows states e = rw e (omega arith)

  -- no number is too long
  texts_short : (v : ℕ) → v < length d.nodes → (kind : Kind) → (node_at d.nodes v).kind ≡ kind → kind ≢ Decision → (tokens : List Token) → map (token_bytes Text) tokens ≡ number_texts kind d.decimals (states_of d.nodes v) (rows_of d.nodes v) (node_at d.nodes v).cells → each (length_row Text) tokens None
  texts_short v l Chance kind some tokens told = chance_lengths_clear (node_at d.nodes v).cells (rows_of d.nodes v) (states_of d.nodes v) (chance_total d.nodes v) (is.diagram.tables.table v kind) (is.diagram.tables.positive v kind) (is.diagram.limits.totals v kind) (is.diagram.graph.has_state v) Text tokens told
  texts_short v l Decision kind some tokens told = absurd (some refl)
  texts_short v l Utility kind some tokens told = lengths_clear Text tokens d.decimals (node_at d.nodes v).cells is.diagram.limits.decimals told (is.diagram.limits.values v kind)

  -- the weights have no fault
  weights_fair : (v : ℕ) → (node_at d.nodes v).kind ≡ Chance → (table : AttributeTree) → map (token_bytes Text) (leaves table.value) ≡ map decimal (reduced_rows (states_of d.nodes v) (rows_of d.nodes v) (node_at d.nodes v).cells) → weight_part Text (states_of d.nodes v) (rows_of d.nodes v) table.name.start (leaves table.value) None
  weights_fair v kind table told = weights_clear (node_at d.nodes v).cells (rows_of d.nodes v) (states_of d.nodes v) (chance_total d.nodes v) (is.diagram.tables.table v kind) (is.diagram.tables.positive v kind) (is.diagram.limits.totals v kind) (is.diagram.graph.has_state v) Text (leaves table.value) told table refl

  table_clear : (v : ℕ) (l : v < length d.nodes) → (node_at d.nodes v).kind ≢ Decision → draft_part Text (node_at d.nodes v).kind (rows_of d.nodes v) (states_of d.nodes v) (Some (potential_tree d names (potential_found d names is v l).0 v)) None
  table_clear v l some =
      let node = node_at d.nodes v in
      let found = potential_found d names is v l in
      let potential = potential_tree d names found.0 v in
      let told = potential_numbers d names is v found.0 found.1 found.2 in
      let from = behind (end_at found.0 (head_words names v node.parents)) brace_open in
      let clear = data_clear Text potential from node.kind d.decimals node.states (rows_of d.nodes v) node.cells some (texts_count v l node.kind refl some) told (texts_short v l node.kind refl some (look.leaves_of potential.attributes) told) (weights_fair v) in (
        potential_repeats d names is v found.0,
        subst (λ attributes. data_parts Text node.kind (rows_of d.nodes v) node.states potential attributes None) (sym (potential_data d names is v found.0 found.1 found.2)) clear,
      )

  rows_clear : (v : ℕ) → v < length d.nodes → node_part_at Text Heads (link_lists Text Blocks) v None
  rows_clear v l = subst (λ (P : Pass Found). P None) (λ i. node_part Text (sym (head_kinds d names is v) i) (sym (rows_told d names is) i v) (sym (head_states d names is v) i) (sym (listed_potential d names is v l) i))
      (node_clear Text (node_at d.nodes v).kind (rows_of d.nodes v) (states_of d.nodes v) (potential_tree d names (potential_found d names is v l).0 v) (table_clear v l))

  -- No table has a fault.
  pub tables_clear : table_pass Text Blocks None
  unfolding table_pass
  tables_clear = each_clear (node_part_at Text Heads (link_lists Text Blocks)) (range_with_len 0 (length Heads)) (λ k e h. rows_clear (get_or (range_with_len 0 (length Heads)) k e) (omega (arith, numbers_below (length Heads) k e h, length-map (look.node_blocks Blocks) (head_of Text (look.node_blocks Blocks)), blocks_count d names is)))

  table_is : (v : ℕ) → v < length d.nodes → (kind : Kind) → (node_at d.nodes v).kind ≡ kind → IsTableFrom kind d.decimals (states_of d.nodes v) (number_texts kind d.decimals (states_of d.nodes v) (rows_of d.nodes v) (node_at d.nodes v).cells) (node_at d.nodes v).cells
  table_is v l Chance kind = chance_cells (node_at d.nodes v).cells (rows_of d.nodes v) (states_of d.nodes v) (chance_total d.nodes v) (is.diagram.tables.table v kind) (is.diagram.tables.positive v kind) (is.diagram.limits.totals v kind) (is.diagram.graph.has_state v) (is.plain.weights v kind)
  table_is v l Decision kind = is.diagram.values.decision v kind
  table_is v l Utility kind = values_scaled d.decimals (node_at d.nodes v).cells (λ k e h. small_enough (nat_abs (get_or (node_at d.nodes v).cells k e)) (is.diagram.limits.values v kind k e h))

  told_table : (v : ℕ) → v < length d.nodes → IsTableFrom (look.kind_of (block_at d names is v).kind) d.decimals (look.block_states Text (block_at d names is v)) (map (token_bytes Text) (look.block_numbers Text Blocks (block_at d names is v))) (get_or (map (λ n. n.cells) d.nodes) v [])
  told_table v l =
      let node = node_at d.nodes v in
      let block = block_at d names is v in
      let numbers = map (token_bytes Text) (look.block_numbers Text Blocks block) in
      let cells = get_or (map (λ (n : NodeView). n.cells) d.nodes) v [] in
      subst (λ kind. IsTableFrom kind d.decimals (look.block_states Text block) numbers cells) (sym (block_kind d names is v l))
      (subst (λ states. IsTableFrom node.kind d.decimals states numbers cells) (sym (block_states d names is v l))
      (subst (λ numerals. IsTableFrom node.kind d.decimals node.states numerals cells) (sym (block_numbers d names is v l))
      (subst (λ list. IsTableFrom node.kind d.decimals node.states (texts_of d v) list) (sym (get_or-map (λ (n : NodeView). n.cells) d.nodes v no_node [] l))
      (table_is v l node.kind refl))))

  -- The tables that are told are the nodes' cells.
  pub tables_told : AreTables Text Blocks d.decimals (map (λ n. n.cells) d.nodes)
  tables_told = record {
    len = length-map d.nodes (λ (n : NodeView). n.cells) ∙ sym (blocks_count d names is);
    each = λ v l. told_table v (subst (λ n. v < n) (length-map d.nodes (λ (n : NodeView). n.cells)) l);
  }
