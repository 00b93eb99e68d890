-- What the tree of a printed text tells of the nodes' tables.
use Rattle.std.proofs.Common.{◌≡◌, ◌∙◌, ℕ, ◌<◌, ℤ, Bool, true, false, cond, List, [], ◌∷◌, ◌++◌, length, map, filter, get_or, decimal, codes, Option, None, refl, sym, ap, subst}
use Rattle.std.specs.List.{flat_map}
use Rattle.std.specs.Option.{option_map_or}
use Rattle.std.specs.Str.{bytes_eq}
use Rattle.std.proofs.lemmas.Bool.{false≢true}
use Rattle.std.proofs.lemmas.List.{get_or-map, length-map, map-append}
use Rattle.maid_model.specs.declared.diagrams.Kind.{Kind}
use Rattle.maid_model.specs.declared.diagrams.Kind.TheVariants.{Chance, Decision, Utility}
use Rattle.maid_model.specs.Names.{NamesView, name_of}
use Rattle.maid_model.specs.Nodes.{node_at, no_node, rows_of, numbers_of, is_utility}
use Rattle.maid_model.specs.Views.{NodeView, DiagramView}
use Rattle.net_build.specs.Blocks as look
use Rattle.first_fault.specs.Passes.{each}
use Rattle.net_build.specs.Stages.{node_lists}
use Rattle.net_build.specs.Table.{repeats, number_row, kind_in, utility_numbers, no_block}
use Rattle.net_lexer.specs.Token.{token_bytes}
use Rattle.net_lexer.specs.declared.tokens.Token.{Token}
use Rattle.net_lexer.specs.declared.tokens.TokenKind.{TokenKind}
use Rattle.net_lexer.specs.declared.tokens.TokenKind.TheVariants.{Word, Number}
use Rattle.net_parser.specs.declared.trees.BlockKind.{BlockKind}
use Rattle.net_parser.specs.Owned.{leaves}
use Rattle.net_parser.specs.Trees.{BlockTree}
use Rattle.net_build.specs.Plain.{reduced_rows}
use Rattle.net_print.specs.Printed.{value_text}
use Rattle.net_print.proofs.Comments.{IsPrintableBehind, text_of, place_of}
use Rattle.net_print.proofs.Agents.{states_told}
use Rattle.net_print.proofs.Given.{item_bytes, potential_found, potential_title}
use Rattle.net_print.proofs.Look.{names_told, kinds_told, potentials_are, at_potentials, node_lines}
use Rattle.net_print.proofs.NodeRows.{one_once}
use Rattle.net_print.proofs.PotentialPass.{kind_told}
use Rattle.net_print.proofs.Texts.{numbers_below}
use Rattle.net_print.proofs.Told.{says, all_say, leaves_are, trees_tell}
use Rattle.net_print.proofs.Tree.{list_tree, table_trees, potential_tree, tree_of}
use Rattle.net_print.proofs.Words.{written, space, items, equals, paren_open, paren_close, semicolon, brace_open, brace_close, list_words, head_words, table_words, potential_words}
use Rattle.net_print.proofs.Written.{At, at_rest, at_end, behind, end_at, text_onto, text_onto-append, tokens_at}

-- the numbers of a node's table as they are printed
abbrev pub number_texts : Kind → ℕ → ℕ → ℕ → List ℤ → List (List ℕ)
number_texts Chance decimals states rows cells = map decimal (reduced_rows states rows cells)
number_texts Decision decimals states rows cells = []
number_texts Utility decimals states rows cells = map (value_text decimals) cells

-- the numbers of node v as they are printed
abbrev pub texts_of : DiagramView → ℕ → List (List ℕ)
texts_of d v = number_texts (node_at d.nodes v).kind d.decimals (node_at d.nodes v).states (rows_of d.nodes v) (node_at d.nodes v).cells

later_numbers : {A : Type 0} (from : ℕ) (say : A → List ℕ) (xs : List A) → each number_row (tokens_at from (map (λ y. written space Number (say y) []) xs)) None
later_numbers from say [] = tt
later_numbers from say (x ∷ xs) = (λ e. false≢true (sym e), later_numbers (behind from (written space Number (say x) [])) say xs)

item_numbers : {A : Type 0} (from : ℕ) (say : A → List ℕ) (xs : List A) → each number_row (tokens_at from (items Number say xs)) None
item_numbers from say [] = tt
item_numbers from say (x ∷ xs) = (λ e. false≢true (sym e), later_numbers (behind from (written [] Number (say x) [])) say xs)

-- the items of a list are numbers
list_numbers : {A : Type 0} (from : ℕ) (name : List ℕ) (say : A → List ℕ) (xs : List A) → each number_row (leaves (list_tree from name Number say xs).value) None
list_numbers from name say xs =
    let place = behind (behind (behind from (written [] Word name space)) equals) paren_open in
    subst (λ ts. each number_row ts None) (sym (leaves_are (tokens_at place (items Number say xs)))) (item_numbers place say xs)

pub table_numbers : (from : ℕ) (kind : Kind) (decimals states rows : ℕ) (cells : List ℤ) → each number_row (look.leaves_of (table_trees from kind decimals states rows cells)) None
table_numbers from Chance decimals states rows cells = list_numbers from (codes "data") decimal (reduced_rows states rows cells)
table_numbers from Decision decimals states rows cells = tt
table_numbers from Utility decimals states rows cells = list_numbers from (codes "data") (value_text decimals) cells

-- one attribute repeats none
table_repeats : (text : List ℕ) (block : BlockKind) (names : List Token) (from : ℕ) (kind : Kind) (decimals states rows : ℕ) (cells : List ℤ) → repeats text (record { kind = block; names = names; attributes = table_trees from kind decimals states rows cells }) None
unfolding repeats
table_repeats text block names from Chance decimals states rows cells =
    let a = list_tree from (codes "data") Number decimal (reduced_rows states rows cells) in
    one_once text (λ b. look.is_counted block (look.word_of text b)) a
table_repeats text block names from Decision decimals states rows cells = tt
table_repeats text block names from Utility decimals states rows cells =
    let a = list_tree from (codes "data") Number (value_text decimals) cells in
    one_once text (λ b. look.is_counted block (look.word_of text b)) a

-- what is made of those that are kept
kept_flat : {A B C : Type 0} (g : B → C) (f : A → List B) (p : A → Bool) (xs : List A) → map g (flat_map f (filter p xs)) ≡ flat_map (λ ys. ys) (map (λ x. cond (p x) (map g (f x)) []) xs)
kept_flat g f p [] = refl
kept_flat g f p (x ∷ xs) = by_test (p x) (kept_flat g f p xs) where
  by_test : (b : Bool) → map g (flat_map f (filter p xs)) ≡ flat_map (λ ys. ys) (map (λ y. cond (p y) (map g (f y)) []) xs) → map g (flat_map f (cond b (x ∷ filter p xs) (filter p xs))) ≡ cond b (map g (f x)) [] ++ flat_map (λ ys. ys) (map (λ y. cond (p y) (map g (f y)) []) xs)
  by_test true e = map-append g (f x) (flat_map f (filter p xs)) ∙ ap (λ ys. map g (f x) ++ ys) e
  by_test false e = e

utility_piece : (kind : Kind) (decimals states rows : ℕ) (cells : List ℤ) → cond (is_utility kind) (number_texts kind decimals states rows cells) [] ≡ cond (is_utility kind) (map (value_text decimals) cells) []
utility_piece Chance decimals states rows cells = refl
utility_piece Decision decimals states rows cells = refl
utility_piece Utility decimals states rows cells = refl

-- the cells of all utilities
abbrev pub utility_cells : List NodeView → List ℤ
utility_cells nodes = flat_map (λ v. (node_at nodes v).cells) (filter (λ v. is_utility (node_at nodes v).kind) (numbers_of nodes))

module _ (text : List ℕ) where
  -- the items of a list attribute say what is listed
  list_told : {A : Type 0} (from : ℕ) (name : List ℕ) (kind : TokenKind) (say : A → List ℕ) (xs : List A) (rest : List ℕ) → At text from (text_onto (list_words name kind say xs) rest) → map (token_bytes text) (leaves (list_tree from name kind say xs).value) ≡ map say xs
  list_told from name kind say xs rest at =
      let first = written [] Word name space in
      let closing = paren_close [] ∷ semicolon ∷ [] in
      let inner = items kind say xs ++ closing in
      let place = behind (behind (behind from first) equals) paren_open in
      let at_equals = at_rest text from first (text_onto (equals ∷ paren_open ∷ inner) rest) at in
      let at_open = at_rest text (behind from first) equals (text_onto (paren_open ∷ inner) rest) at_equals in
      let at_items : At text place (text_onto (items kind say xs) (text_onto closing rest)) =
      subst (At text place) (text_onto-append (items kind say xs) closing rest) (at_rest text (behind (behind from first) equals) paren_open (text_onto inner rest) at_open) in
      ap (map (token_bytes text)) (leaves_are (tokens_at place (items kind say xs)))
      ∙ all_say text place (items kind say xs) (text_onto closing rest) at_items
      ∙ item_bytes kind say xs

  -- a list attribute `data` is the one of that name
  data_one : {A : Type 0} (from : ℕ) (say : A → List ℕ) (xs : List A) (rest : List ℕ) → At text from (text_onto (list_words (codes "data") Number say xs) rest) → look.named text (codes "data") (list_tree from (codes "data") Number say xs ∷ []) ≡ list_tree from (codes "data") Number say xs ∷ []
  data_one from say xs rest at =
      let a = list_tree from (codes "data") Number say xs in
      ap (λ word. cond (bytes_eq word (codes "data")) (a ∷ []) []) (says text from (written [] Word (codes "data") space) (text_onto (equals ∷ paren_open ∷ (items Number say xs ++ (paren_close [] ∷ semicolon ∷ []))) rest) at)

  data_told : (from : ℕ) (kind : Kind) (decimals states rows : ℕ) (cells : List ℤ) (rest : List ℕ) → At text from (text_onto (table_words kind decimals states rows cells) rest) → look.named text (codes "data") (table_trees from kind decimals states rows cells) ≡ table_trees from kind decimals states rows cells
  data_told from Chance decimals states rows cells rest at = data_one from decimal (reduced_rows states rows cells) rest at
  data_told from Decision decimals states rows cells rest at = refl
  data_told from Utility decimals states rows cells rest at = data_one from (value_text decimals) cells rest at

  numbers_told : (from : ℕ) (kind : Kind) (decimals states rows : ℕ) (cells : List ℤ) (rest : List ℕ) → At text from (text_onto (table_words kind decimals states rows cells) rest) → map (token_bytes text) (look.leaves_of (table_trees from kind decimals states rows cells)) ≡ number_texts kind decimals states rows cells
  numbers_told from Chance decimals states rows cells rest at = list_told from (codes "data") Number decimal (reduced_rows states rows cells) rest at
  numbers_told from Decision decimals states rows cells rest at = refl
  numbers_told from Utility decimals states rows cells rest at = list_told from (codes "data") Number (value_text decimals) cells rest at

module _ (d : DiagramView) (names : NamesView) (is : IsPrintableBehind d names) where
  abbrev Text : List ℕ
  Text = text_of d names is

  abbrev Blocks : List BlockTree
  Blocks = tree_of d names is

  abbrev Nodes : List BlockTree
  Nodes = look.node_blocks (tree_of d names is)

  -- where the table of a potential stands
  abbrev table_place : ℕ → ℕ → ℕ
  table_place v p = behind (end_at p (head_words names v (node_at d.nodes v).parents)) brace_open

  at_table : (v p : ℕ) (more : List ℕ) → At Text p (text_onto (potential_words d names v) more) → At Text (table_place v p) (text_onto (table_words (node_at d.nodes v).kind d.decimals (node_at d.nodes v).states (rows_of d.nodes v) (node_at d.nodes v).cells) (text_onto (brace_close ∷ []) more))
  at_table v p more at =
      let node = node_at d.nodes v in
      let head = head_words names v node.parents in
      let table = table_words node.kind d.decimals node.states (rows_of d.nodes v) node.cells in
      let body = brace_open ∷ (table ++ brace_close ∷ []) in
      let at_body = at_end Text p head (text_onto body more) (subst (At Text p) (text_onto-append head body more) at) in
      subst (At Text (table_place v p)) (text_onto-append table (brace_close ∷ []) more) (at_rest Text (end_at p head) brace_open (text_onto (table ++ brace_close ∷ []) more) at_body)

  -- a potential's attributes are its one `data`
  pub potential_data : (v p : ℕ) (more : List ℕ) → At Text p (text_onto (potential_words d names v) more) → look.data_of Text (potential_tree d names p v) ≡ (potential_tree d names p v).attributes
  potential_data v p more at = let node = node_at d.nodes v in data_told Text (table_place v p) node.kind d.decimals node.states (rows_of d.nodes v) node.cells (text_onto (brace_close ∷ []) more) (at_table v p more at)

  -- whose leaves are the numbers that are printed
  pub potential_numbers : (v p : ℕ) (more : List ℕ) → At Text p (text_onto (potential_words d names v) more) → map (token_bytes Text) (look.leaves_of (potential_tree d names p v).attributes) ≡ texts_of d v
  potential_numbers v p more at = let node = node_at d.nodes v in numbers_told Text (table_place v p) node.kind d.decimals node.states (rows_of d.nodes v) node.cells (text_onto (brace_close ∷ []) more) (at_table v p more at)

  pub potential_repeats : (v p : ℕ) → repeats Text (potential_tree d names p v) None
  potential_repeats v p = let node = node_at d.nodes v in table_repeats Text (potential_tree d names p v).kind (potential_tree d names p v).names (table_place v p) node.kind d.decimals node.states (rows_of d.nodes v) node.cells

  pub blocks_count : length Nodes ≡ length d.nodes
  blocks_count = sym (length-map Nodes (look.block_name Text)) ∙ ap length (names_told d names is) ∙ is.fit.nodes

  -- the block of node v
  abbrev pub block_at : ℕ → BlockTree
  block_at v = get_or (look.node_blocks (tree_of d names is)) v no_block

  in_blocks : (v : ℕ) → v < length d.nodes → v < length Nodes
  in_blocks v l = subst (λ n. v < n) (sym blocks_count) l

  pub block_name : (v : ℕ) → v < length d.nodes → look.block_name Text (block_at v) ≡ name_of names v
  block_name v l = sym (get_or-map (look.block_name Text) Nodes v no_block [] (in_blocks v l)) ∙ ap (λ list. get_or list v []) (names_told d names is)

  pub block_kind : (v : ℕ) → v < length d.nodes → look.kind_of (block_at v).kind ≡ (node_at d.nodes v).kind
  block_kind v l =
      sym (get_or-map (λ (b : BlockTree). look.kind_of b.kind) Nodes v no_block Chance (in_blocks v l))
      ∙ ap (λ kinds. get_or kinds v Chance) (sym (kinds_told d names is))
      ∙ get_or-map (λ (n : NodeView). n.kind) d.nodes v no_node Chance l

  pub block_states : (v : ℕ) → v < length d.nodes → look.block_states Text (block_at v) ≡ (node_at d.nodes v).states
  block_states v l =
      sym (get_or-map (look.block_states Text) Nodes v no_block 1 (in_blocks v l))
      ∙ ap (λ counts. get_or counts v 1) (sym (states_told d names is))
      ∙ get_or-map (λ (n : NodeView). n.states) d.nodes v no_node 1 l

  -- The numbers of each node's table are those that are printed for it.
  pub block_numbers : (v : ℕ) → v < length d.nodes → map (token_bytes Text) (look.block_numbers Text Blocks (block_at v)) ≡ texts_of d v
  block_numbers v l =
      let found = potential_found d names is v l in
      ap (λ name. map (token_bytes Text) (option_map_or (λ p. look.leaves_of (look.data_of Text p)) (look.potential_of Text Blocks name) [])) (block_name v l)
      ∙ ap (λ (o : Option BlockTree). map (token_bytes Text) (option_map_or (λ p. look.leaves_of (look.data_of Text p)) o [])) found.3
      ∙ ap (λ attributes. map (token_bytes Text) (look.leaves_of attributes)) (potential_data v found.0 found.1 found.2)
      ∙ potential_numbers v found.0 found.1 found.2

  -- what is told of a potential that is a utility's
  abbrev told_piece : BlockTree → List (List ℕ)
  told_piece b = cond (is_utility (kind_in (node_lists Text Nodes) (look.block_name Text b))) (map (token_bytes Text) (look.leaves_of (look.data_of Text b))) []

  abbrev cells_piece : ℕ → List (List ℕ)
  cells_piece v = cond (is_utility (node_at d.nodes v).kind) (map (value_text d.decimals) (node_at d.nodes v).cells) []

  piece_told : (v p : ℕ) (more : List ℕ) → v < length d.nodes → At Text p (text_onto (potential_words d names v) more) → told_piece (potential_tree d names p v) ≡ cells_piece v
  piece_told v p more l at =
      let node = node_at d.nodes v in
      let tree = potential_tree d names p v in
      ap (λ kind. cond (is_utility kind) (map (token_bytes Text) (look.leaves_of (look.data_of Text tree))) []) (ap (kind_in (node_lists Text Nodes)) (potential_title d names is v p more at) ∙ kind_told d names is v l)
      ∙ ap (λ numbers. cond (is_utility node.kind) numbers []) (ap (λ attributes. map (token_bytes Text) (look.leaves_of attributes)) (potential_data v p more at) ∙ potential_numbers v p more at)
      ∙ utility_piece node.kind d.decimals node.states (rows_of d.nodes v) node.cells

  -- The numbers of all utilities are their values, one after the other.
  pub utilities_told : map (token_bytes Text) (utility_numbers Text Blocks) ≡ map (value_text d.decimals) (utility_cells d.nodes)
  utilities_told =
      kept_flat (token_bytes Text) (λ (p : BlockTree). look.leaves_of (look.data_of Text p)) (λ p. is_utility (kind_in (node_lists Text Nodes) (look.block_name Text p))) (look.potentials Blocks)
      ∙ ap (flat_map (λ ys. ys)) (
      ap (map told_piece) (potentials_are d names is)
      ∙ trees_tell Text told_piece cells_piece (potential_tree d names) (potential_words d names) (end_at (place_of d names is) (node_lines d names is)) (numbers_of d.nodes) [] (at_potentials d names is)
      (λ k e h p more at. piece_told (get_or (numbers_of d.nodes) k e) p more (numbers_below (length d.nodes) k e h) at))
      ∙ sym (kept_flat (value_text d.decimals) (λ (v : ℕ). (node_at d.nodes v).cells) (λ v. is_utility (node_at d.nodes v).kind) (numbers_of d.nodes))
