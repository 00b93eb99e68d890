-- The names of node blocks, block by block.
use Rattle.std.proofs.Common.{◌≡◌, ◌∙◌, ℕ, List, [], ◌∷◌, Bool, true, false, All, map, take, refl, ap, ◌<◌, zero, suc, length, arith}
use Rattle.std.proofs.Math.Seq.{take-length}
use Rattle.std.proofs.lemmas.List.Elements.{All-append}
use Rattle.std.specs.List.{flat_map}
use Rattle.net_build.specs.Blocks.{node_blocks, names_of, block_name, title, is_node, no_token}
use Rattle.net_lexer.specs.Token.{IsTokenOf, token_bytes}
use Rattle.net_lexer.specs.declared.tokens.Token.{Token}
use Rattle.net_parser.specs.Owned.{IsBlockOf, HasNames}
use Rattle.net_parser.specs.Trees.{BlockTree}
use Rattle.net_parser.specs.declared.trees.BlockKind.{BlockKind}
use Rattle.net_parser.specs.declared.trees.BlockKind.TheVariants.{Net, Node, Decision, Utility, Potential}
use Rattle.app_forms.specs.Words.{node_titles}

names_step : (text : List ℕ) (block : BlockTree) (blocks : List BlockTree) (is : Bool) → is_node block.kind ≡ is → map (token_bytes text) (flat_map node_titles blocks) ≡ names_of text (node_blocks blocks)
    → map (token_bytes text) (flat_map node_titles (block ∷ blocks)) ≡ names_of text (node_blocks (block ∷ blocks))
names_step text block blocks true e rest = rw e (ap (λ names. block_name text block ∷ names) rest)
names_step text block blocks false e rest = rw e rest

-- what the titles say are the names of the node blocks
pub names_are : (text : List ℕ) (blocks : List BlockTree) → map (token_bytes text) (flat_map node_titles blocks) ≡ names_of text (node_blocks blocks)
names_are text [] = refl
names_are text (block ∷ blocks) = names_step text block blocks (is_node block.kind) refl (names_are text blocks)

has_title : (kind : BlockKind) (count : ℕ) → is_node kind ≡ true → HasNames kind count → 0 < count
has_title Node count e h = omega (arith, h)
has_title Decision count e h = omega (arith, h)
has_title Utility count e h = omega (arith, h)
has_title Net count e h = absurd cc
has_title Potential count e h = absurd cc

single : (P : Token → Type 0) (x : Token) → P x → All P (x ∷ [])
single P x p zero d h = p
single P x p (suc k) d h = absurd (omega (arith, h))

titles_of_block : (text : List ℕ) (block : BlockTree) (is : Bool) → is_node block.kind ≡ is → IsBlockOf text block → All (IsTokenOf text) (node_titles block)
titles_of_block text block false e own = rw e (λ k d h. absurd (omega (arith, h)))
titles_of_block text block true e own = rw e (single (IsTokenOf text) (title block) ((own.names 0 no_token (has_title block.kind (length block.names) e own.count)).own))

-- and each is a token of the text
pub titles_own : (text : List ℕ) (blocks : List BlockTree) → All (IsBlockOf text) blocks → All (IsTokenOf text) (flat_map node_titles blocks)
titles_own text [] all = λ k d h. absurd (omega (arith, h))
titles_own text (block ∷ blocks) all =
    All-append (IsTokenOf text) (node_titles block) (flat_map node_titles blocks)
    (titles_of_block text block (is_node block.kind) refl (all 0 block (omega arith)))
    (titles_own text blocks (λ k d h. all (suc k) d (omega (arith, h))))

-- the titles of all blocks
pub all_titles : (blocks : List BlockTree) (titles : List Token) (i : ℕ) → i ≡ length blocks → titles ≡ flat_map node_titles (take i blocks) → titles ≡ flat_map node_titles blocks
all_titles blocks titles i h e = e ∙ ap (λ n. flat_map node_titles (take n blocks)) h ∙ ap (flat_map node_titles) (take-length blocks)
