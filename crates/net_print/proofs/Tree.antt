-- The tree of a printed text, and that its tokens spell it.
use Rattle.std.proofs.Common.{◌≡◌, ◌∙◌, ◌⊎◌, ℕ, Bool, true, false, List, [], ◌∷◌, ◌++◌, length, map, get_or, All, decimal, codes, ℤ, refl, sym, ap, subst, inl, inr, arith, append_assoc}
use Rattle.std.specs.List.{flat_map}
use Rattle.std.proofs.lemmas.List.Elements.{All-head, All-tail}
use Rattle.maid_model.specs.declared.diagrams.Kind.{Kind}
use Rattle.maid_model.specs.declared.diagrams.Kind.TheVariants.{Chance, Decision, Utility}
use Rattle.maid_model.specs.Names.{NamesView, name_of, labels_of}
use Rattle.maid_model.specs.Nodes.{node_at, rows_of, numbers_of}
use Rattle.maid_model.specs.Reports.{quoted}
use Rattle.maid_model.specs.Views.{NodeView, DiagramView}
use Rattle.net_lexer.specs.Pieces.{IsTokens}
use Rattle.net_lexer.specs.Token.{is_name}
use Rattle.net_lexer.specs.declared.tokens.Token.{Token}
use Rattle.net_lexer.specs.declared.tokens.TokenKind.{TokenKind}
use Rattle.net_lexer.specs.declared.tokens.TokenKind.TheVariants.{Word, Text, Number, BraceOpen, BraceClose, ParenOpen, ParenClose, Equals, Semicolon, Bar}
use Rattle.net_parser.specs.declared.trees.BlockKind.{BlockKind}
use Rattle.net_parser.specs.declared.trees.BlockKind.TheVariants as blocks
use Rattle.net_parser.specs.Grammar as grammar
use Rattle.net_parser.specs.Grammar.{Rule, Spells, IsModelName, ◌▹◌}
use Rattle.net_parser.specs.Lexemes.{Lexeme, lexemes, is_leaf, IsWord}
use Rattle.net_parser.specs.Trees.{leaf, list, AttributeTree, BlockTree}
use Rattle.net_build.specs.Plain.{reduced_rows}
use Rattle.net_print.specs.Printed.{kind_word, value_text, owner_names}
use Rattle.net_print.specs.RoundTrip.{comment_lines}
use Rattle.net_print.proofs.Comments.{IsPrintableBehind, text_of, place_of, written_at, written_tokens, written_lexemes}
use Rattle.net_print.proofs.Spelling.{lexemes_onto, lexemes_onto-append, lexemes_onto_none, Spelled, spelled-append, spelled-cons, mark_spelled, word_spelled, name_spelled, AreNames, names_spelled, leaf_trees, AreLeaves, leaf_spelled, list_spelled, trees_at}
use Rattle.net_print.proofs.Texts.{named, numbers_below, parents_named, text_is, text_writes}
use Rattle.net_print.proofs.Texts as texts
use Rattle.net_print.proofs.Words.{written, space, items, equals, paren_open, paren_close, semicolon, brace_open, brace_close, bar, list_words, agent_words, owner_words, attribute_words, open_words, node_words, head_words, table_words, potential_words}
use Rattle.net_print.proofs.Written.{Written, At, behind, end_at, token_at, tokens_at, text_onto}

-- WORD = ( ITEMS ) ;
abbrev pub list_tree : {A : Type 0} → ℕ → List ℕ → TokenKind → (A → List ℕ) → List A → AttributeTree
list_tree from name kind text xs = record {
  name = token_at from (written [] Word name space);
  value = list (leaf_trees (tokens_at (behind (behind (behind from (written [] Word name space)) equals) paren_open) (items kind text xs)));
}

later_leaves : {A : Type 0} (kind : TokenKind) (text : A → List ℕ) (xs : List A) → is_leaf kind ≡ true → AreLeaves (map (λ y. written space kind (text y) []) xs)
later_leaves kind text [] is = tt
later_leaves kind text (x ∷ xs) is = (is, later_leaves kind text xs is)

item_leaves : {A : Type 0} (kind : TokenKind) (text : A → List ℕ) (xs : List A) → is_leaf kind ≡ true → AreLeaves (items kind text xs)
item_leaves kind text [] is = tt
item_leaves kind text (x ∷ xs) is = (is, later_leaves kind text xs is)

list_tree_spelled : {A : Type 0} (potential : Bool) (from : ℕ) (name : List ℕ) (kind : TokenKind) (text : A → List ℕ) (xs : List A) → Spelled (grammar.AttributeName potential (token_at from (written [] Word name space))) from (written [] Word name space ∷ []) → is_leaf kind ≡ true → Spelled (grammar.Attribute potential (list_tree from name kind text xs)) from (list_words name kind text xs)
list_tree_spelled potential from name kind text xs is_name is =
    let named = written [] Word name space in
    let value = list_tree from name kind text xs in
    let at_value = behind (behind from named) equals in
    let inner = paren_open ∷ (items kind text xs ++ paren_close [] ∷ []) in
    let rest = semicolon ∷ [] in
    let list_rule = grammar.Value 32 value.value in
    let both : Spelled (list_rule ▹ grammar.Mark Semicolon) at_value (inner ++ rest) =
    spelled-append list_rule (grammar.Mark Semicolon) at_value inner rest
    (list_spelled at_value paren_open (paren_close []) (items kind text xs) refl refl (item_leaves kind text xs is))
    (mark_spelled Semicolon (end_at at_value inner) semicolon refl) in
    let joined : inner ++ rest ≡ paren_open ∷ (items kind text xs ++ (paren_close [] ∷ semicolon ∷ [])) = ap (λ ws. paren_open ∷ ws) (append_assoc (items kind text xs) (paren_close [] ∷ []) rest) in
    spelled-cons (grammar.AttributeName potential value.name) (grammar.Mark Equals ▹ list_rule ▹ grammar.Mark Semicolon) from named (equals ∷ (paren_open ∷ (items kind text xs ++ (paren_close [] ∷ semicolon ∷ [])))) is_name
    (spelled-cons (grammar.Mark Equals) (list_rule ▹ grammar.Mark Semicolon) (behind from named) equals (paren_open ∷ (items kind text xs ++ (paren_close [] ∷ semicolon ∷ []))) (mark_spelled Equals (behind from named) equals refl)
    (subst (λ ws. Spelled (list_rule ▹ grammar.Mark Semicolon) at_value ws) joined both))

-- agent = AGENT ;
abbrev pub agent_tree : ℕ → List ℕ → AttributeTree
agent_tree from agent = record {
  name = token_at from (written [] Word (codes "agent") space);
  value = leaf (token_at (behind (behind from (written [] Word (codes "agent") space)) equals) (written [] Text (quoted agent) []));
}

agent_tree_spelled : (from : ℕ) (agent : List ℕ) → Spelled (grammar.Attribute false (agent_tree from agent)) from (agent_words agent)
agent_tree_spelled from agent =
    let word = written [] Word (codes "agent") space in
    let text = written [] Text (quoted agent) [] in
    let tree = agent_tree from agent in
    let at_value = behind (behind from word) equals in
    spelled-cons (grammar.AttributeName false tree.name) (grammar.Mark Equals ▹ grammar.Value 32 tree.value ▹ grammar.Mark Semicolon) from word (equals ∷ text ∷ semicolon ∷ []) (name_spelled from word refl refl)
    (spelled-cons (grammar.Mark Equals) (grammar.Value 32 tree.value ▹ grammar.Mark Semicolon) (behind from word) equals (text ∷ semicolon ∷ []) (mark_spelled Equals (behind from word) equals refl)
    (spelled-cons (grammar.Value 32 tree.value) (grammar.Mark Semicolon) at_value text (semicolon ∷ []) (leaf_spelled 32 at_value text refl) (mark_spelled Semicolon (behind at_value text) semicolon refl)))

-- what tells the owners
abbrev pub owner_tree : ℕ → List (List ℕ) → AttributeTree
owner_tree from [] = list_tree from (codes "agents") Text quoted []
owner_tree from (agent ∷ []) = agent_tree from agent
owner_tree from (agent ∷ other ∷ more) = list_tree from (codes "agents") Text quoted (agent ∷ other ∷ more)

agents_spelled : (from : ℕ) (owners : List (List ℕ)) → Spelled (grammar.Attribute false (list_tree from (codes "agents") Text quoted owners)) from (list_words (codes "agents") Text quoted owners)
agents_spelled from owners = list_tree_spelled false from (codes "agents") Text quoted owners (name_spelled from (written [] Word (codes "agents") space) refl refl) refl

owner_tree_spelled : (from : ℕ) (owners : List (List ℕ)) → Spelled (grammar.Attribute false (owner_tree from owners)) from (owner_words owners)
owner_tree_spelled from [] = agents_spelled from []
owner_tree_spelled from (agent ∷ []) = agent_tree_spelled from agent
owner_tree_spelled from (agent ∷ other ∷ more) = agents_spelled from (agent ∷ other ∷ more)

abbrev pub attribute_trees : ℕ → Kind → List (List ℕ) → List (List ℕ) → List AttributeTree
attribute_trees from Chance labels owners = list_tree from (codes "states") Text quoted labels ∷ []
attribute_trees from Decision labels owners = list_tree from (codes "states") Text quoted labels ∷ owner_tree (end_at from (list_words (codes "states") Text quoted labels)) owners ∷ []
attribute_trees from Utility labels owners = owner_tree from owners ∷ []

states_spelled : (from : ℕ) (labels : List (List ℕ)) → Spelled (grammar.Attribute false (list_tree from (codes "states") Text quoted labels)) from (list_words (codes "states") Text quoted labels)
states_spelled from labels = list_tree_spelled false from (codes "states") Text quoted labels (name_spelled from (written [] Word (codes "states") space) refl refl) refl

-- one attribute is all
one_spelled : (potential : Bool) (a : AttributeTree) (from : ℕ) (ws : List Written) → Spelled (grammar.Attribute potential a) from ws → Spelled (grammar.Each (grammar.Attribute potential) (a ∷ [])) from ws
one_spelled potential a from ws is rest = (rest, is rest, refl)

attributes_spelled : (from : ℕ) (kind : Kind) (labels owners : List (List ℕ)) → Spelled (grammar.Each (grammar.Attribute false) (attribute_trees from kind labels owners)) from (attribute_words kind labels owners)
attributes_spelled from Chance labels owners = one_spelled false (list_tree from (codes "states") Text quoted labels) from (list_words (codes "states") Text quoted labels) (states_spelled from labels)
attributes_spelled from Decision labels owners =
    let states = list_words (codes "states") Text quoted labels in
    spelled-append (grammar.Attribute false (list_tree from (codes "states") Text quoted labels)) (grammar.Each (grammar.Attribute false) (owner_tree (end_at from states) owners ∷ [])) from states (owner_words owners) (states_spelled from labels)
    (one_spelled false (owner_tree (end_at from states) owners) (end_at from states) (owner_words owners) (owner_tree_spelled (end_at from states) owners))
attributes_spelled from Utility labels owners = one_spelled false (owner_tree from owners) from (owner_words owners) (owner_tree_spelled from owners)

abbrev pub block_kind : Kind → BlockKind
block_kind Chance = blocks.Node
block_kind Decision = blocks.Decision
block_kind Utility = blocks.Utility

abbrev pub node_tree : List NodeView → NamesView → ℕ → ℕ → BlockTree
node_tree nodes names from v = record {
  kind = block_kind (node_at nodes v).kind;
  names = token_at (behind from (written [] Word (kind_word (node_at nodes v).kind) space)) (written [] Word (name_of names v) space) ∷ [];
  attributes = attribute_trees (end_at from (open_words (kind_word (node_at nodes v).kind) (name_of names v))) (node_at nodes v).kind (labels_of names v) (owner_names nodes names v);
}

node_head : (word : List ℕ) (from : ℕ) (name : List ℕ) → is_name name ≡ true → Spelled (grammar.NodeHead word (token_at (behind from (written [] Word word space)) (written [] Word name space))) from (written [] Word word space ∷ written [] Word name space ∷ [])
node_head word from name is rest =
    let first = written [] Word word space in
    let second = written [] Word name space in (
      lexemes_onto from (first ∷ second ∷ []) rest,
      inl refl,
      spelled-cons (grammar.Word word) (grammar.Name (token_at (behind from first) second)) from first (second ∷ []) (word_spelled from first refl) (name_spelled (behind from first) second refl is) rest,
    )

-- WORD NAME
head_spelled : (first : Bool) (kind : Kind) (from : ℕ) (name : List ℕ) → is_name name ≡ true → Spelled (grammar.Head first (block_kind kind) (token_at (behind from (written [] Word (kind_word kind) space)) (written [] Word name space) ∷ [])) from (written [] Word (kind_word kind) space ∷ written [] Word name space ∷ [])
head_spelled first Chance from name is rest = node_head (codes "node") from name is rest
head_spelled first Decision from name is rest = node_head (codes "decision") from name is rest
head_spelled first Utility from name is rest = node_head (codes "utility") from name is rest

-- { ATTRIBUTES }
body_spelled : (potential : Bool) (attributes : List AttributeTree) (from : ℕ) (ws : List Written) → Spelled (grammar.Each (grammar.Attribute potential) attributes) (behind from brace_open) ws → Spelled (grammar.Body potential attributes) from (brace_open ∷ (ws ++ brace_close ∷ []))
body_spelled potential attributes from ws is =
    spelled-cons (grammar.Mark BraceOpen) (grammar.Each (grammar.Attribute potential) attributes ▹ grammar.Mark BraceClose) from brace_open (ws ++ brace_close ∷ []) (mark_spelled BraceOpen from brace_open refl)
    (spelled-append (grammar.Each (grammar.Attribute potential) attributes) (grammar.Mark BraceClose) (behind from brace_open) ws (brace_close ∷ []) is (mark_spelled BraceClose (end_at (behind from brace_open) ws) brace_close refl))

-- a node's block is no potential
plain_body : (kind : Kind) (attributes : List AttributeTree) (from : ℕ) (ws : List Written) → Spelled (grammar.Body false attributes) from ws → Spelled (grammar.Body (grammar.is_potential (block_kind kind)) attributes) from ws
plain_body Chance attributes from ws is = is
plain_body Decision attributes from ws is = is
plain_body Utility attributes from ws is = is

node_spelled : (first : Bool) (nodes : List NodeView) (names : NamesView) (from v : ℕ) → is_name (name_of names v) ≡ true → Spelled (grammar.Block first (node_tree nodes names from v)) from (node_words nodes names v)
node_spelled first nodes names from v is =
    let kind = (node_at nodes v).kind in
    let owners = owner_names nodes names v in
    let tree = node_tree nodes names from v in
    let head = written [] Word (kind_word kind) space ∷ written [] Word (name_of names v) space ∷ [] in
    let words = attribute_words kind (labels_of names v) owners in
    spelled-append (grammar.Head first tree.kind tree.names) (grammar.Body (grammar.is_potential tree.kind) tree.attributes) from head (brace_open ∷ (words ++ brace_close ∷ [])) (head_spelled first kind from (name_of names v) is)
    (plain_body kind tree.attributes (end_at from head) (brace_open ∷ (words ++ brace_close ∷ []))
    (body_spelled false tree.attributes (end_at from head) words (attributes_spelled (end_at from (open_words (kind_word kind) (name_of names v))) kind (labels_of names v) owners)))

-- the names in a potential's head
abbrev pub head_tokens : ℕ → NamesView → ℕ → List ℕ → List Token
head_tokens from names v [] = token_at (behind (behind from (written [] Word (codes "potential") space)) paren_open) (written [] Word (name_of names v) []) ∷ []
head_tokens from names v (u ∷ us) =
    token_at (behind (behind from (written [] Word (codes "potential") space)) paren_open) (written [] Word (name_of names v) space)
    ∷ tokens_at (behind (behind (behind (behind from (written [] Word (codes "potential") space)) paren_open) (written [] Word (name_of names v) space)) bar) (items Word (name_of names) (u ∷ us))

later_names : (names : NamesView) (us : List ℕ) → All (λ u. is_name (name_of names u) ≡ true) us → AreNames (map (λ u. written space Word (name_of names u) []) us)
later_names names [] all = tt
later_names names (u ∷ us) all = (refl, All-head (λ w. is_name (name_of names w) ≡ true) u us all, later_names names us (All-tail (λ w. is_name (name_of names w) ≡ true) u us all))

item_names : (names : NamesView) (us : List ℕ) → All (λ u. is_name (name_of names u) ≡ true) us → AreNames (items Word (name_of names) us)
item_names names [] all = tt
item_names names (u ∷ us) all = (refl, All-head (λ w. is_name (name_of names w) ≡ true) u us all, later_names names us (All-tail (λ w. is_name (name_of names w) ≡ true) u us all))

potential_head_spelled : (first : Bool) (names : NamesView) (from v : ℕ) (parents : List ℕ) → is_name (name_of names v) ≡ true → All (λ u. is_name (name_of names u) ≡ true) parents → Spelled (grammar.Head first blocks.Potential (head_tokens from names v parents)) from (head_words names v parents)
potential_head_spelled first names from v [] named all =
    let word = written [] Word (codes "potential") space in
    let head = written [] Word (name_of names v) [] in
    let close = paren_close space in
    let at_open = behind from word in
    let at_head = behind at_open paren_open in
    let title = token_at at_head head in
    spelled-cons (grammar.Word (codes "potential")) (grammar.Mark ParenOpen ▹ grammar.Name title ▹ grammar.Given [] ▹ grammar.Mark ParenClose) from word (paren_open ∷ head ∷ close ∷ []) (word_spelled from word refl)
    (spelled-cons (grammar.Mark ParenOpen) (grammar.Name title ▹ grammar.Given [] ▹ grammar.Mark ParenClose) at_open paren_open (head ∷ close ∷ []) (mark_spelled ParenOpen at_open paren_open refl)
    (spelled-cons (grammar.Name title) (grammar.Given [] ▹ grammar.Mark ParenClose) at_head head (close ∷ []) (name_spelled at_head head refl named)
    (λ rest. (lexemes_onto (behind at_head head) (close ∷ []) rest, inl refl, mark_spelled ParenClose (behind at_head head) close refl rest))))
potential_head_spelled first names from v (u ∷ us) named all =
    let word = written [] Word (codes "potential") space in
    let head = written [] Word (name_of names v) space in
    let close = paren_close space in
    let at_open = behind from word in
    let at_head = behind at_open paren_open in
    let at_bar = behind at_head head in
    let title = token_at at_head head in
    let parents = items Word (name_of names) (u ∷ us) in
    let given = tokens_at (behind at_bar bar) parents in
    let given_spelled : Spelled (grammar.Given given) at_bar (bar ∷ parents) =
    λ rest. inr (spelled-cons (grammar.Mark Bar) (grammar.Each grammar.Name given) at_bar bar parents (mark_spelled Bar at_bar bar refl) (names_spelled (behind at_bar bar) parents (item_names names (u ∷ us) all)) rest) in
    spelled-cons (grammar.Word (codes "potential")) (grammar.Mark ParenOpen ▹ grammar.Name title ▹ grammar.Given given ▹ grammar.Mark ParenClose) from word (paren_open ∷ head ∷ bar ∷ (parents ++ close ∷ [])) (word_spelled from word refl)
    (spelled-cons (grammar.Mark ParenOpen) (grammar.Name title ▹ grammar.Given given ▹ grammar.Mark ParenClose) at_open paren_open (head ∷ bar ∷ (parents ++ close ∷ [])) (mark_spelled ParenOpen at_open paren_open refl)
    (spelled-cons (grammar.Name title) (grammar.Given given ▹ grammar.Mark ParenClose) at_head head (bar ∷ (parents ++ close ∷ [])) (name_spelled at_head head refl named)
    (spelled-append (grammar.Given given) (grammar.Mark ParenClose) at_bar (bar ∷ parents) (close ∷ []) given_spelled (mark_spelled ParenClose (end_at at_bar (bar ∷ parents)) close refl))))

abbrev pub table_trees : ℕ → Kind → ℕ → ℕ → ℕ → List ℤ → List AttributeTree
table_trees from Chance decimals states rows cells = list_tree from (codes "data") Number decimal (reduced_rows states rows cells) ∷ []
table_trees from Decision decimals states rows cells = []
table_trees from Utility decimals states rows cells = list_tree from (codes "data") Number (value_text decimals) cells ∷ []

no_model : (t : Token) → IsModelName (record { token = t; bytes = codes "data" }) → ⊥
no_model t m = other m.is where
  other : IsWord (codes "model_nodes") (record { token = t; bytes = codes "data" }) ⊎ IsWord (codes "model_data") (record { token = t; bytes = codes "data" }) → ⊥
  other (inl w) = omega (arith, ap length w.bytes)
  other (inr w) = omega (arith, ap length w.bytes)

data_named : (from : ℕ) → Spelled (grammar.AttributeName true (token_at from (written [] Word (codes "data") space))) from (written [] Word (codes "data") space ∷ [])
data_named from rest = ((record { kind = refl; unsigned = refl }, refl, no_model (token_at from (written [] Word (codes "data") space))), refl)

table_spelled : (from : ℕ) (kind : Kind) (decimals states rows : ℕ) (cells : List ℤ) → Spelled (grammar.Each (grammar.Attribute true) (table_trees from kind decimals states rows cells)) from (table_words kind decimals states rows cells)
table_spelled from Chance decimals states rows cells =
    let numbers = reduced_rows states rows cells in
    one_spelled true (list_tree from (codes "data") Number decimal numbers) from (list_words (codes "data") Number decimal numbers) (list_tree_spelled true from (codes "data") Number decimal numbers (data_named from) refl)
table_spelled from Decision decimals states rows cells = λ rest. refl
table_spelled from Utility decimals states rows cells =
    one_spelled true (list_tree from (codes "data") Number (value_text decimals) cells) from (list_words (codes "data") Number (value_text decimals) cells) (list_tree_spelled true from (codes "data") Number (value_text decimals) cells (data_named from) refl)

abbrev pub potential_tree : DiagramView → NamesView → ℕ → ℕ → BlockTree
potential_tree d names from v = record {
  kind = blocks.Potential;
  names = head_tokens from names v (node_at d.nodes v).parents;
  attributes = table_trees (behind (end_at from (head_words names v (node_at d.nodes v).parents)) brace_open) (node_at d.nodes v).kind d.decimals (node_at d.nodes v).states (rows_of d.nodes v) (node_at d.nodes v).cells;
}

potential_spelled : (first : Bool) (d : DiagramView) (names : NamesView) (from v : ℕ) → is_name (name_of names v) ≡ true → All (λ u. is_name (name_of names u) ≡ true) (node_at d.nodes v).parents → Spelled (grammar.Block first (potential_tree d names from v)) from (potential_words d names v)
potential_spelled first d names from v named all =
    let node = node_at d.nodes v in
    let tree = potential_tree d names from v in
    let head = head_words names v node.parents in
    let table = table_words node.kind d.decimals node.states (rows_of d.nodes v) node.cells in
    spelled-append (grammar.Head first blocks.Potential tree.names) (grammar.Body true tree.attributes) from head (brace_open ∷ (table ++ brace_close ∷ [])) (potential_head_spelled first names from v node.parents named all)
    (body_spelled true tree.attributes (end_at from head) table (table_spelled (behind (end_at from head) brace_open) node.kind d.decimals node.states (rows_of d.nodes v) node.cells))

-- some lines spell the trees of their blocks
blocks_spelled : (tree : ℕ → ℕ → BlockTree) (words : ℕ → List Written) (from : ℕ) (vs : List ℕ) → All (λ v. (p : ℕ) → Spelled (grammar.Block false (tree p v)) p (words v)) vs → Spelled (grammar.Each (grammar.Block false) (trees_at tree words from vs)) from (flat_map words vs)
blocks_spelled tree lines from [] all = λ rest. refl
blocks_spelled tree lines from (v ∷ vs) all =
    spelled-append (grammar.Block false (tree from v)) (grammar.Each (grammar.Block false) (trees_at tree lines (end_at from (lines v)) vs)) from (lines v) (flat_map lines vs)
    (All-head (λ u. (p : ℕ) → Spelled (grammar.Block false (tree p u)) p (lines u)) v vs all from)
    (blocks_spelled tree lines (end_at from (lines v)) vs (All-tail (λ u. (p : ℕ) → Spelled (grammar.Block false (tree p u)) p (lines u)) v vs all))

each-append : {A : Type 0} (P : A → Rule) (xs ys : List A) (a b c : List Lexeme) → grammar.Each P xs a b → grammar.Each P ys b c → grammar.Each P (xs ++ ys) a c
each-append P [] ys a b c front back = subst (λ ls. grammar.Each P ys ls c) (sym front) back
each-append P (x ∷ xs) ys a b c front back = (front.0, front.1, each-append P xs ys front.0 b c front.2 back)

-- a block that may stand anywhere may stand first
head_first : (kind : BlockKind) (names : List Token) (a b : List Lexeme) → grammar.Head false kind names a b → grammar.Head true kind names a b
head_first blocks.Net [] a b h = absurd h
head_first blocks.Net (n ∷ names) a b h = absurd h
head_first blocks.Node [] a b h = absurd h
head_first blocks.Node (n ∷ []) a b h = h
head_first blocks.Node (n ∷ m ∷ names) a b h = absurd h
head_first blocks.Decision [] a b h = absurd h
head_first blocks.Decision (n ∷ []) a b h = h
head_first blocks.Decision (n ∷ m ∷ names) a b h = absurd h
head_first blocks.Utility [] a b h = absurd h
head_first blocks.Utility (n ∷ []) a b h = h
head_first blocks.Utility (n ∷ m ∷ names) a b h = absurd h
head_first blocks.Potential [] a b h = absurd h
head_first blocks.Potential (n ∷ names) a b h = h

text_spelled : (tree : List BlockTree) (a b : List Lexeme) → grammar.Each (grammar.Block false) tree a b → grammar.Text tree a b
text_spelled [] a b h = h
text_spelled (block ∷ tree) a b h = (h.0, (h.1.0, head_first block.kind block.names a h.1.0 h.1.1, h.1.2), h.2)

module _ (d : DiagramView) (names : NamesView) (is : IsPrintableBehind d names) where
  abbrev node_text : List Written
  node_text = flat_map (node_words d.nodes names) (numbers_of d.nodes)

  -- the tree: the nodes' blocks, and then their potentials
  abbrev pub tree_of : List BlockTree
  tree_of = trees_at (node_tree d.nodes names) (node_words d.nodes names) (place_of d names is) (numbers_of d.nodes) ++ trees_at (potential_tree d names) (potential_words d names) (end_at (place_of d names is) (flat_map (node_words d.nodes names) (numbers_of d.nodes))) (numbers_of d.nodes)

  tree_spelled : grammar.Each (grammar.Block false) tree_of (lexemes_onto (place_of d names is) (texts.words d names is) []) []
  tree_spelled =
      let vs = numbers_of d.nodes in
      let n = length d.nodes in
      let potentials = flat_map (potential_words d names) vs in
      let between = lexemes_onto (end_at (place_of d names is) node_text) potentials [] in
      subst (λ ls. grammar.Each (grammar.Block false) tree_of ls []) (sym (lexemes_onto-append (place_of d names is) node_text potentials []))
      (each-append (grammar.Block false) (trees_at (node_tree d.nodes names) (node_words d.nodes names) (place_of d names is) vs) (trees_at (potential_tree d names) (potential_words d names) (end_at (place_of d names is) node_text) vs) (lexemes_onto (place_of d names is) node_text between) between []
      (blocks_spelled (node_tree d.nodes names) (node_words d.nodes names) (place_of d names is) vs (λ k e h p. node_spelled false d.nodes names p (get_or vs k e) (named d names is (get_or vs k e) (numbers_below n k e h))) between)
      (blocks_spelled (potential_tree d names) (potential_words d names) (end_at (place_of d names is) node_text) vs (λ k e h p. potential_spelled false d names p (get_or vs k e) (named d names is (get_or vs k e) (numbers_below n k e h)) (parents_named d names is (get_or vs k e))) []))

  -- the written tokens behind the comments are the text
  whole : comment_lines is.comments ++ text_onto (texts.words d names is) [] ≡ text_of d names is
  whole = ap (λ bytes. comment_lines is.comments ++ bytes) (text_is d names is)

  pub at_start : At (text_of d names is) (place_of d names is) (text_onto (texts.words d names is) [])
  at_start = subst (λ text. At text (place_of d names is) (text_onto (texts.words d names is) [])) whole (written_at is.comments is.lines (texts.words d names is))

  pub spells : Spells tree_of (lexemes (text_of d names is) (tokens_at (place_of d names is) (texts.words d names is)))
  spells =
      let ws = texts.words d names is in
      let from = place_of d names is in
      let are : lexemes_onto from ws [] ≡ lexemes (text_of d names is) (tokens_at from ws) =
      lexemes_onto_none from ws ∙ sym (written_lexemes is.comments is.lines ws) ∙ ap (λ text. lexemes text (tokens_at from ws)) whole in
      subst (λ ls. Spells tree_of ls) are (text_spelled tree_of (lexemes_onto from ws []) [] tree_spelled)

  pub tokens_are : IsTokens (text_of d names is) (tokens_at (place_of d names is) (texts.words d names is))
  tokens_are = subst (λ text. IsTokens text (tokens_at (place_of d names is) (texts.words d names is))) whole (written_tokens is.comments is.lines (texts.words d names is) ((text_writes d names is).stands []))
