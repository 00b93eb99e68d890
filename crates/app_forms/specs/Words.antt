-- The names of node blocks as tokens. Only contracts of private functions cite this.
use Rattle.std.specs.Prelude.{ℕ, List, [], ◌∷◌, map, if◌then◌else◌, ◌≡◌}
use Rattle.net_build.specs.Blocks.{is_node, names_of, node_blocks, title}
use Rattle.net_lexer.specs.Token.{token_bytes}
use Rattle.net_lexer.specs.declared.tokens.Token.{Token}
use Rattle.net_parser.specs.Trees.{BlockTree}
use Rattle.std.specs.Global.{Vec}
use Rattle.app_forms.specs.Faults.{cycle_names, cycle_words, kind_words}
use Rattle.net_build.specs.Passes.{kind_view}
use Rattle.net_build.specs.declared.faults.BuildKind.{BuildKind}

-- the name of a node block, and nothing of another
abbrev pub node_titles : BlockTree → List Token
node_titles block = if is_node block.kind then title block ∷ [] else []

-- the names of the node blocks, as bytes
abbrev pub block_names : List ℕ → List BlockTree → List (List ℕ)
block_names text blocks = names_of text (node_blocks blocks)

-- the bytes of each of these tokens
abbrev pub tokens_bytes : List ℕ → List Token → List (List ℕ)
tokens_bytes text tokens = map (token_bytes text) tokens

-- these are the names of the node blocks
abbrev pub AreBlockNames : List ℕ → List BlockTree → Vec Token → Type 0
AreBlockNames text blocks names = tokens_bytes text names.items ≡ block_names text blocks

-- these are the words that tell a cycle of them
abbrev pub AreCycleWords : List ℕ → List BlockTree → List ℕ → Vec ℕ → Type 0
AreCycleWords text blocks cycle words = words.items ≡ cycle_words (block_names text blocks) cycle

-- these are the words that tell what is wrong with the tree
abbrev pub AreKindWords : List ℕ → List BlockTree → BuildKind → Vec ℕ → Type 0
AreKindWords text blocks kind words =
    words.items ≡ kind_words (block_names text blocks) (kind_view kind)

-- the names of a cycle's nodes, of which the text's tokens are the names
abbrev pub cycle_names_in : List ℕ → List Token → List ℕ → List ℕ
cycle_names_in text names cycle = cycle_names (tokens_bytes text names) cycle
