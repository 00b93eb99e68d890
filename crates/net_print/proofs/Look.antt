-- What the look-ups find in the tree of a printed text: names, kinds, states, labels and agents.
use Rattle.std.proofs.Common.{◌≡◌, ◌∙◌, ◌≢◌, ℕ, ◌<◌, true, false, cond, List, [], ◌∷◌, ◌++◌, length, map, filter, get_or, codes, refl, sym, ap, subst, arith, append-nil}
use Rattle.std.specs.List.{flat_map, range_with_len}
use Rattle.std.specs.Str.{bytes_eq}
use Rattle.std.proofs.lemmas.List.{length-map, get_or-map}
use Rattle.std.proofs.lemmas.List.FromFn.{fill_by_all}
use Rattle.std.proofs.lemmas.List.Elements.{filter-append}
use Rattle.maid_model.specs.declared.diagrams.Kind.{Kind}
use Rattle.maid_model.specs.declared.diagrams.Kind.TheVariants.{Chance, Decision, Utility}
use Rattle.maid_model.specs.Names.{NamesView, name_of, labels_of, agent_name}
use Rattle.maid_model.specs.Nodes.{node_at, numbers_of, no_node}
use Rattle.maid_model.specs.Reports.{quoted}
use Rattle.maid_model.specs.Views.{NodeView, DiagramView}
use Rattle.net_build.specs.Blocks as look
use Rattle.net_parser.specs.Grammar.{is_potential}
use Rattle.net_lexer.specs.Token.{text_value}
use Rattle.net_lexer.specs.declared.tokens.Token.{Token}
use Rattle.net_lexer.specs.declared.tokens.TokenKind.TheVariants.{Word, Text}
use Rattle.net_parser.specs.declared.trees.BlockKind.{BlockKind}
use Rattle.net_parser.specs.declared.trees.BlockKind.TheVariants as blocks
use Rattle.net_parser.specs.Owned.{leaves}
use Rattle.net_parser.specs.Trees.{AttributeTree, BlockTree}
use Rattle.net_print.specs.Printed.{kind_word, owner_names}
use Rattle.net_print.proofs.Comments.{IsPrintableBehind, text_of, place_of}
use Rattle.net_print.proofs.Spelling.{trees_at}
use Rattle.net_print.proofs.Texts.{numbers_below}
use Rattle.net_print.proofs.Told.{says, text_says, texts_say, trees_tell, leaves_are}
use Rattle.net_print.proofs.Tree.{block_kind, node_tree, potential_tree, tree_of, at_start, list_tree, agent_tree, owner_tree, attribute_trees}
use Rattle.net_print.proofs.Words.{written, space, items, equals, paren_open, paren_close, semicolon, brace_open, brace_close, list_words, agent_words, owner_words, attribute_words, open_words, node_words, potential_words}
use Rattle.net_print.proofs.Written.{Written, At, at_rest, at_end, behind, end_at, text_onto, text_onto-append, tokens_at}

is_node_kind : (kind : Kind) → look.is_node (block_kind kind) ≡ true
is_node_kind Chance = refl
is_node_kind Decision = refl
is_node_kind Utility = refl

no_potential_kind : (kind : Kind) → is_potential (block_kind kind) ≡ false
no_potential_kind Chance = refl
no_potential_kind Decision = refl
no_potential_kind Utility = refl

pub kind_is : (kind : Kind) → look.kind_of (block_kind kind) ≡ kind
kind_is Chance = refl
kind_is Decision = refl
kind_is Utility = refl

-- each node has what its number gives
pub each_node : {B : Type 0} (f : NodeView → B) (nodes : List NodeView) → map (λ v. f (node_at nodes v)) (numbers_of nodes) ≡ map f nodes
each_node f nodes = sym (fill_by_all (λ v. f (node_at nodes v)) (map f nodes) (length nodes) (f no_node) (length-map nodes f) (λ k h. get_or-map f nodes k no_node (f no_node) h))

-- a list by its places
pub each_place : {B : Type 0} (xs : List B) (n : ℕ) (d : B) → length xs ≡ n → map (λ v. get_or xs v d) (range_with_len 0 n) ≡ xs
each_place xs n d e = sym (fill_by_all (λ v. get_or xs v d) xs n d e (λ k h. refl))

-- the first attribute, by its name
pub first_leaves : (text word : List ℕ) (a : AttributeTree) (others : List AttributeTree) → look.word_of text a ≡ word → bytes_eq word word ≡ true → look.leaves_of (look.named text word (a ∷ others)) ≡ leaves a.value
first_leaves text word a others e same =
    let rest = look.named text word others in
    ap (λ y. look.leaves_of (cond (bytes_eq y word) (a ∷ rest) rest)) e ∙ ap (λ b. look.leaves_of (cond b (a ∷ rest) rest)) same

-- an attribute of a word that tells the owners is kept, and one of another isn't
owner_kept : (text word : List ℕ) (kind : BlockKind) (a : AttributeTree) (others : List AttributeTree) → look.word_of text a ≡ word → look.names_owners kind word ≡ true → filter (λ b. look.names_owners kind (look.word_of text b)) (a ∷ others) ≡ a ∷ filter (λ b. look.names_owners kind (look.word_of text b)) others
owner_kept text word kind a others e tells =
    let rest = filter (λ b. look.names_owners kind (look.word_of text b)) others in
    ap (λ w. cond (look.names_owners kind w) (a ∷ rest) rest) e ∙ ap (λ t. cond t (a ∷ rest) rest) tells

owner_left : (text word : List ℕ) (kind : BlockKind) (a : AttributeTree) (others : List AttributeTree) → look.word_of text a ≡ word → look.names_owners kind word ≡ false → filter (λ b. look.names_owners kind (look.word_of text b)) (a ∷ others) ≡ filter (λ b. look.names_owners kind (look.word_of text b)) others
owner_left text word kind a others e tells =
    let rest = filter (λ b. look.names_owners kind (look.word_of text b)) others in
    ap (λ w. cond (look.names_owners kind w) (a ∷ rest) rest) e ∙ ap (λ t. cond t (a ∷ rest) rest) tells

-- the word that tells the owners
abbrev pub owner_word : List (List ℕ) → List ℕ
owner_word [] = codes "agents"
owner_word (agent ∷ []) = codes "agent"
owner_word (agent ∷ other ∷ more) = codes "agents"

decision_word : (owners : List (List ℕ)) → length owners ≡ 1 → look.names_owners blocks.Decision (owner_word owners) ≡ true
decision_word [] one = absurd (omega arith)
decision_word (agent ∷ []) one = refl
decision_word (agent ∷ other ∷ more) one = absurd (omega arith)

utility_word : (owners : List (List ℕ)) → look.names_owners blocks.Utility (owner_word owners) ≡ true
utility_word [] = refl
utility_word (agent ∷ []) = refl
utility_word (agent ∷ other ∷ more) = refl

texts_some : (text : List ℕ) (tokens : List Token) → 0 < length tokens → look.texts_or_agent text tokens ≡ map (text_value text) tokens
texts_some text [] some = absurd (omega arith)
texts_some text (t ∷ tokens) some = refl

module _ (text : List ℕ) where
  -- the word of a list attribute, and its leaves
  list_word : (name : List ℕ) (from : ℕ) (labels : List (List ℕ)) (rest : List ℕ) → At text from (text_onto (list_words name Text quoted labels) rest) → look.word_of text (list_tree from name Text quoted labels) ≡ name
  list_word name from labels rest at = says text from (written [] Word name space) (text_onto (equals ∷ paren_open ∷ (items Text quoted labels ++ (paren_close [] ∷ semicolon ∷ []))) rest) at

  pub list_told : (word : List ℕ) (from : ℕ) (labels : List (List ℕ)) (rest : List ℕ) → At text from (text_onto (list_words word Text quoted labels) rest) → map (text_value text) (leaves (list_tree from word Text quoted labels).value) ≡ labels
  list_told word from labels rest at =
      let name = written [] Word word space in
      let closing = paren_close [] ∷ semicolon ∷ [] in
      let inner = items Text quoted labels ++ closing in
      let at_equals = at_rest text from name (text_onto (equals ∷ paren_open ∷ inner) rest) at in
      let at_open = at_rest text (behind from name) equals (text_onto (paren_open ∷ inner) rest) at_equals in
      let at_items : At text (behind (behind (behind from name) equals) paren_open) (text_onto (items Text quoted labels) (text_onto closing rest)) =
      subst (At text (behind (behind (behind from name) equals) paren_open)) (text_onto-append (items Text quoted labels) closing rest) (at_rest text (behind (behind from name) equals) paren_open (text_onto inner rest) at_open) in
      ap (map (text_value text)) (leaves_are (tokens_at (behind (behind (behind from name) equals) paren_open) (items Text quoted labels)))
      ∙ texts_say text (behind (behind (behind from name) equals) paren_open) labels (text_onto closing rest) at_items

  pub states_word : (from : ℕ) (labels : List (List ℕ)) (rest : List ℕ) → At text from (text_onto (list_words (codes "states") Text quoted labels) rest) → look.word_of text (list_tree from (codes "states") Text quoted labels) ≡ codes "states"
  states_word from labels rest at = list_word (codes "states") from labels rest at

  pub states_leaves : (from : ℕ) (labels : List (List ℕ)) (rest : List ℕ) → At text from (text_onto (list_words (codes "states") Text quoted labels) rest) → (others : List AttributeTree) → map (text_value text) (look.leaves_of (look.named text (codes "states") (list_tree from (codes "states") Text quoted labels ∷ others))) ≡ labels
  states_leaves from labels rest at others =
      ap (map (text_value text)) (first_leaves text (codes "states") (list_tree from (codes "states") Text quoted labels) others (states_word from labels rest at) refl)
      ∙ list_told (codes "states") from labels rest at

  agent_word : (from : ℕ) (agent rest : List ℕ) → At text from (text_onto (agent_words agent) rest) → look.word_of text (agent_tree from agent) ≡ codes "agent"
  agent_word from agent rest at = says text from (written [] Word (codes "agent") space) (text_onto (equals ∷ written [] Text (quoted agent) [] ∷ semicolon ∷ []) rest) at

  agent_value : (from : ℕ) (agent rest : List ℕ) → At text from (text_onto (agent_words agent) rest) → map (text_value text) (leaves (agent_tree from agent).value) ≡ agent ∷ []
  agent_value from agent rest at =
      let name = written [] Word (codes "agent") space in
      let value = written [] Text (quoted agent) [] in
      let at_equals = at_rest text from name (text_onto (equals ∷ value ∷ semicolon ∷ []) rest) at in
      let at_value = at_rest text (behind from name) equals (text_onto (value ∷ semicolon ∷ []) rest) at_equals in
      ap (λ x. x ∷ []) (text_says text (behind (behind from name) equals) [] agent [] (text_onto (semicolon ∷ []) rest) at_value)

  -- the word of what tells the owners, and its leaves
  pub owner_word_told : (from : ℕ) (owners : List (List ℕ)) (rest : List ℕ) → At text from (text_onto (owner_words owners) rest) → look.word_of text (owner_tree from owners) ≡ owner_word owners
  owner_word_told from [] rest at = list_word (codes "agents") from [] rest at
  owner_word_told from (agent ∷ []) rest at = agent_word from agent rest at
  owner_word_told from (agent ∷ other ∷ more) rest at = list_word (codes "agents") from (agent ∷ other ∷ more) rest at

  pub owner_leaves : (from : ℕ) (owners : List (List ℕ)) (rest : List ℕ) → At text from (text_onto (owner_words owners) rest) → map (text_value text) (leaves (owner_tree from owners).value) ≡ owners
  owner_leaves from [] rest at = list_told (codes "agents") from [] rest at
  owner_leaves from (agent ∷ []) rest at = agent_value from agent rest at
  owner_leaves from (agent ∷ other ∷ more) rest at = list_told (codes "agents") from (agent ∷ other ∷ more) rest at

  -- the labels of a node's attributes
  labels_told : (from : ℕ) (kind : Kind) (labels owners : List (List ℕ)) (rest : List ℕ) → At text from (text_onto (attribute_words kind labels owners) rest) → (kind ≡ Utility → labels ≡ []) → (block : BlockTree) → block.kind ≡ block_kind kind → block.attributes ≡ attribute_trees from kind labels owners → look.block_labels text block ≡ labels
  labels_told from Chance labels owners rest at none block is attributes = ap (λ k. map (text_value text) (cond (look.has_states k) (look.leaves_of (look.named text (codes "states") block.attributes)) [])) is ∙ ap (λ attrs. map (text_value text) (look.leaves_of (look.named text (codes "states") attrs))) attributes ∙ states_leaves from labels rest at []
  labels_told from Decision labels owners rest at none block is attributes =
      let states = list_words (codes "states") Text quoted labels in
      let here : At text from (text_onto states (text_onto (owner_words owners) rest)) = subst (At text from) (text_onto-append states (owner_words owners) rest) at in
      ap (λ k. map (text_value text) (cond (look.has_states k) (look.leaves_of (look.named text (codes "states") block.attributes)) [])) is ∙ ap (λ attrs. map (text_value text) (look.leaves_of (look.named text (codes "states") attrs))) attributes
      ∙ states_leaves from labels (text_onto (owner_words owners) rest) here (owner_tree (end_at from states) owners ∷ [])
  labels_told from Utility labels owners rest at none block is attributes = ap (λ k. map (text_value text) (cond (look.has_states k) (look.leaves_of (look.named text (codes "states") block.attributes)) [])) is ∙ sym (none refl)

  -- where what tells the owners begins
  abbrev pub owner_start : ℕ → Kind → List (List ℕ) → ℕ
  owner_start from Chance labels = from
  owner_start from Decision labels = end_at from (list_words (codes "states") Text quoted labels)
  owner_start from Utility labels = from

  pub at_owners : (from : ℕ) (kind : Kind) (labels owners : List (List ℕ)) (rest : List ℕ) → kind ≢ Chance → At text from (text_onto (attribute_words kind labels owners) rest) → At text (owner_start from kind labels) (text_onto (owner_words owners) rest)
  at_owners from Chance labels owners rest owned at = absurd (owned refl)
  at_owners from Decision labels owners rest owned at =
      let states = list_words (codes "states") Text quoted labels in
      at_end text from states (text_onto (owner_words owners) rest) (subst (At text from) (text_onto-append states (owner_words owners) rest) at)
  at_owners from Utility labels owners rest owned at = at

  -- the attributes that tell the owners are that one
  pub owner_attributes_told : (from : ℕ) (kind : Kind) (labels owners : List (List ℕ)) (rest : List ℕ) → At text from (text_onto (attribute_words kind labels owners) rest) → kind ≢ Chance → (kind ≢ Utility → length owners ≡ 1)
      → (block : BlockTree) → block.kind ≡ block_kind kind → block.attributes ≡ attribute_trees from kind labels owners → look.owner_attributes text block ≡ owner_tree (owner_start from kind labels) owners ∷ []
  owner_attributes_told from Chance labels owners rest at owned one block is attributes = absurd (owned refl)
  owner_attributes_told from Decision labels owners rest at owned one block is attributes =
      let states = list_words (codes "states") Text quoted labels in
      let here : At text from (text_onto states (text_onto (owner_words owners) rest)) = subst (At text from) (text_onto-append states (owner_words owners) rest) at in
      let second = owner_tree (end_at from states) owners in
      (λ j. filter (λ a. look.names_owners (is j) (look.word_of text a)) (attributes j))
      ∙ owner_left text (codes "states") blocks.Decision (list_tree from (codes "states") Text quoted labels) (second ∷ []) (states_word from labels (text_onto (owner_words owners) rest) here) refl
      ∙ owner_kept text (owner_word owners) blocks.Decision second [] (owner_word_told (end_at from states) owners rest (at_end text from states (text_onto (owner_words owners) rest) here)) (decision_word owners (one (λ e. cc)))
  owner_attributes_told from Utility labels owners rest at owned one block is attributes =
      (λ j. filter (λ a. look.names_owners (is j) (look.word_of text a)) (attributes j))
      ∙ owner_kept text (owner_word owners) blocks.Utility (owner_tree from owners) [] (owner_word_told from owners rest at) (utility_word owners)

  -- the owners of a node's attributes
  owner_names_told : (from : ℕ) (kind : Kind) (labels owners : List (List ℕ)) (rest : List ℕ) → At text from (text_onto (attribute_words kind labels owners) rest) → kind ≢ Chance → (kind ≢ Utility → length owners ≡ 1) → 0 < length owners
      → (block : BlockTree) → block.kind ≡ block_kind kind → block.attributes ≡ attribute_trees from kind labels owners → look.owner_texts text block ≡ owners
  owner_names_told from kind labels owners rest at owned one some block is attributes =
      let tree = owner_tree (owner_start from kind labels) owners in
      let told = owner_leaves (owner_start from kind labels) owners rest (at_owners from kind labels owners rest owned at) in
      let count : length (leaves tree.value) ≡ length owners = sym (length-map (leaves tree.value) (text_value text)) ∙ ap length told in
      ap (λ attributes. look.texts_or_agent text (look.leaves_of attributes)) (owner_attributes_told from kind labels owners rest at owned one block is attributes)
      ∙ texts_some text (leaves tree.value) (omega (arith, count, some)) ∙ told

  -- where the attributes of a node's block stand
  pub at_attributes : (nodes : List NodeView) (names : NamesView) (v from : ℕ) (rest : List ℕ) → At text from (text_onto (node_words nodes names v) rest) → At text (end_at from (open_words (kind_word (node_at nodes v).kind) (name_of names v))) (text_onto (attribute_words (node_at nodes v).kind (labels_of names v) (owner_names nodes names v)) (text_onto (brace_close ∷ []) rest))
  at_attributes nodes names v from rest at =
      let kind = (node_at nodes v).kind in
      let opening = open_words (kind_word kind) (name_of names v) in
      let attributes = attribute_words kind (labels_of names v) (owner_names nodes names v) in
      subst (At text (end_at from opening)) (text_onto-append attributes (brace_close ∷ []) rest)
      (at_end text from opening (text_onto (attributes ++ brace_close ∷ []) rest) (subst (At text from) (text_onto-append opening (attributes ++ brace_close ∷ []) rest) at))

  pub node_name_told : (nodes : List NodeView) (names : NamesView) (v from : ℕ) (rest : List ℕ) → At text from (text_onto (node_words nodes names v) rest) → look.block_name text (node_tree nodes names from v) ≡ name_of names v
  node_name_told nodes names v from rest at =
      let kind = (node_at nodes v).kind in
      let attributes = attribute_words kind (labels_of names v) (owner_names nodes names v) in
      let first = written [] Word (kind_word kind) space in
      let second = written [] Word (name_of names v) space in
      let more = brace_open ∷ (attributes ++ brace_close ∷ []) in
      says text (behind from first) second (text_onto more rest) (at_rest text from first (text_onto (second ∷ more) rest) at)

  pub node_labels_told : (nodes : List NodeView) (names : NamesView) (v from : ℕ) (rest : List ℕ) → At text from (text_onto (node_words nodes names v) rest) → ((node_at nodes v).kind ≡ Utility → labels_of names v ≡ []) → look.block_labels text (node_tree nodes names from v) ≡ labels_of names v
  node_labels_told nodes names v from rest at none =
      labels_told (end_at from (open_words (kind_word (node_at nodes v).kind) (name_of names v))) (node_at nodes v).kind (labels_of names v) (owner_names nodes names v) (text_onto (brace_close ∷ []) rest) (at_attributes nodes names v from rest at) none (node_tree nodes names from v) refl refl

  pub node_owners_told : (nodes : List NodeView) (names : NamesView) (v from : ℕ) (rest : List ℕ) → At text from (text_onto (node_words nodes names v) rest) → (node_at nodes v).kind ≢ Chance → ((node_at nodes v).kind ≢ Utility → (node_at nodes v).more ≡ []) → look.owner_texts text (node_tree nodes names from v) ≡ owner_names nodes names v
  node_owners_told nodes names v from rest at owned one =
      owner_names_told (end_at from (open_words (kind_word (node_at nodes v).kind) (name_of names v))) (node_at nodes v).kind (labels_of names v) (owner_names nodes names v) (text_onto (brace_close ∷ []) rest) (at_attributes nodes names v from rest at) owned
      (λ u. ap (λ more. length (map (agent_name names) ((node_at nodes v).owner ∷ more))) (one u)) (omega arith) (node_tree nodes names from v) refl refl

-- the node blocks of the tree, and its potentials
nodes_kept : (nodes : List NodeView) (names : NamesView) (lines : ℕ → List Written) (from : ℕ) (vs : List ℕ) → filter (λ b. look.is_node b.kind) (trees_at (node_tree nodes names) lines from vs) ≡ trees_at (node_tree nodes names) lines from vs
nodes_kept nodes names lines from [] = refl
nodes_kept nodes names lines from (v ∷ vs) =
    let rest = trees_at (node_tree nodes names) lines (end_at from (lines v)) vs in
    ap (λ t. cond t (node_tree nodes names from v ∷ filter (λ b. look.is_node b.kind) rest) (filter (λ b. look.is_node b.kind) rest)) (is_node_kind (node_at nodes v).kind)
    ∙ ap (λ bs. node_tree nodes names from v ∷ bs) (nodes_kept nodes names lines (end_at from (lines v)) vs)

nodes_dropped : (nodes : List NodeView) (names : NamesView) (lines : ℕ → List Written) (from : ℕ) (vs : List ℕ) → filter (λ b. is_potential b.kind) (trees_at (node_tree nodes names) lines from vs) ≡ []
nodes_dropped nodes names lines from [] = refl
nodes_dropped nodes names lines from (v ∷ vs) =
    let rest = trees_at (node_tree nodes names) lines (end_at from (lines v)) vs in
    ap (λ t. cond t (node_tree nodes names from v ∷ filter (λ b. is_potential b.kind) rest) (filter (λ b. is_potential b.kind) rest)) (no_potential_kind (node_at nodes v).kind)
    ∙ nodes_dropped nodes names lines (end_at from (lines v)) vs

potentials_dropped : (d : DiagramView) (names : NamesView) (lines : ℕ → List Written) (from : ℕ) (vs : List ℕ) → filter (λ b. look.is_node b.kind) (trees_at (potential_tree d names) lines from vs) ≡ []
potentials_dropped d names lines from [] = refl
potentials_dropped d names lines from (v ∷ vs) = potentials_dropped d names lines (end_at from (lines v)) vs

potentials_kept : (d : DiagramView) (names : NamesView) (lines : ℕ → List Written) (from : ℕ) (vs : List ℕ) → filter (λ b. is_potential b.kind) (trees_at (potential_tree d names) lines from vs) ≡ trees_at (potential_tree d names) lines from vs
potentials_kept d names lines from [] = refl
potentials_kept d names lines from (v ∷ vs) = ap (λ bs. potential_tree d names from v ∷ bs) (potentials_kept d names lines (end_at from (lines v)) vs)

module _ (d : DiagramView) (names : NamesView) (is : IsPrintableBehind d names) where
  abbrev pub node_lines : List Written
  node_lines = flat_map (node_words d.nodes names) (numbers_of d.nodes)

  abbrev pub potential_lines : List Written
  potential_lines = flat_map (potential_words d names) (numbers_of d.nodes)

  abbrev pub node_trees : List BlockTree
  node_trees = trees_at (node_tree d.nodes names) (node_words d.nodes names) (place_of d names is) (numbers_of d.nodes)

  abbrev pub potential_trees : List BlockTree
  potential_trees = trees_at (potential_tree d names) (potential_words d names) (end_at (place_of d names is) node_lines) (numbers_of d.nodes)

  pub node_blocks_are : look.node_blocks (tree_of d names is) ≡ node_trees
  node_blocks_are =
      filter-append (λ b. look.is_node b.kind) node_trees potential_trees
      ∙ ap (λ bs. bs ++ filter (λ b. look.is_node b.kind) potential_trees) (nodes_kept d.nodes names (node_words d.nodes names) (place_of d names is) (numbers_of d.nodes))
      ∙ ap (λ bs. node_trees ++ bs) (potentials_dropped d names (potential_words d names) (end_at (place_of d names is) node_lines) (numbers_of d.nodes))
      ∙ append-nil node_trees

  pub potentials_are : look.potentials (tree_of d names is) ≡ potential_trees
  potentials_are =
      filter-append (λ b. is_potential b.kind) node_trees potential_trees
      ∙ ap (λ bs. bs ++ filter (λ b. is_potential b.kind) potential_trees) (nodes_dropped d.nodes names (node_words d.nodes names) (place_of d names is) (numbers_of d.nodes))
      ∙ potentials_kept d names (potential_words d names) (end_at (place_of d names is) node_lines) (numbers_of d.nodes)

  pub at_nodes : At (text_of d names is) (place_of d names is) (text_onto node_lines (text_onto potential_lines []))
  at_nodes = subst (λ bs. At (text_of d names is) (place_of d names is) bs) (text_onto-append node_lines potential_lines []) (at_start d names is)

  pub at_potentials : At (text_of d names is) (end_at (place_of d names is) node_lines) (text_onto potential_lines [])
  at_potentials = at_end (text_of d names is) (place_of d names is) node_lines (text_onto potential_lines []) at_nodes

  -- what the node blocks say
  pub tell : {B : Type 0} (f : BlockTree → B) (g : ℕ → B) → ((v p : ℕ) (more : List ℕ) → v < length d.nodes → At (text_of d names is) p (text_onto (node_words d.nodes names v) more) → f (node_tree d.nodes names p v) ≡ g v) → map f (look.node_blocks (tree_of d names is)) ≡ map g (numbers_of d.nodes)
  tell f g one = ap (map f) node_blocks_are ∙ trees_tell (text_of d names is) f g (node_tree d.nodes names) (node_words d.nodes names) (place_of d names is) (numbers_of d.nodes) (text_onto potential_lines []) at_nodes (λ k e h p more at. one (get_or (numbers_of d.nodes) k e) p more (numbers_below (length d.nodes) k e h) at)

  pub names_told : look.names_of (text_of d names is) (look.node_blocks (tree_of d names is)) ≡ names.nodes
  names_told = tell (look.block_name (text_of d names is)) (name_of names) (λ v p more l at. node_name_told (text_of d names is) d.nodes names v p more at) ∙ each_place names.nodes (length d.nodes) [] is.fit.nodes

  pub labels_are_told : map (look.block_labels (text_of d names is)) (look.node_blocks (tree_of d names is)) ≡ names.labels
  labels_are_told = tell (look.block_labels (text_of d names is)) (labels_of names) (λ v p more l at. node_labels_told (text_of d names is) d.nodes names v p more at (is.form.utility_labels v)) ∙ each_place names.labels (length d.nodes) [] is.fit.labels

  pub kinds_told : map (λ n. n.kind) d.nodes ≡ map (λ b. look.kind_of b.kind) (look.node_blocks (tree_of d names is))
  kinds_told = sym (tell (λ b. look.kind_of b.kind) (λ v. (node_at d.nodes v).kind) (λ v p more l at. kind_is (node_at d.nodes v).kind) ∙ each_node (λ n. n.kind) d.nodes)
