-- Where the passes find nothing, the numbers of a chance table make whole rows.
use Rattle.std.proofs.Common.{◌≡◌, ◌<◌, ◌*◌, ℕ, inl, inr, List, [], ◌∷◌, map, length, get_or, Option, None, Some, sym, subst, arith}
use Rattle.std.specs.Int.{◌∣◌}
use Rattle.std.specs.Option.{option_map_or}
use Rattle.std.proofs.Math.Nat.{dvd-mul_left}
use Rattle.std.proofs.lemmas.Bool.{cases_lt}
use Rattle.std.proofs.lemmas.List.{length-map}
use Rattle.std.proofs.lemmas.Nat.Gcd.{dvd-zero}
use Rattle.maid_model.specs.declared.diagrams.Kind.{Kind}
use Rattle.maid_model.specs.declared.diagrams.Kind.TheVariants.{Chance}
use Rattle.net_lexer.specs.Token.{token_bytes}
use Rattle.net_parser.specs.Trees.{AttributeTree, BlockTree}
use Rattle.net_parser.specs.Owned.{leaves}
use Rattle.net_build.specs.Blocks.{node_blocks, kind_of, block_name, block_states, row_count, potential_of, data_of, leaves_of, block_numbers}
use Rattle.net_build.specs.Table.{no_block, data_parts, draft_part, node_part, table_pass, all_passes}
use Rattle.net_build.proofs.TablePasses.{part_none}

pub stable : (a b : ℕ) → ((a ≡ b → ⊥) → ⊥) → a ≡ b
stable a b h = elim (cases_lt a b) as (λ _. a ≡ b) [
  | inl l ↦ absurd (h (λ e. omega arith))
  | inr g ↦ elim (cases_lt b a) as (λ _. a ≡ b) [ inl l ↦ absurd (h (λ e. omega arith)) | inr m ↦ omega arith ]
]

data_whole : (text : List ℕ) (rows states : ℕ) (potential : BlockTree) (tables : List AttributeTree) → data_parts text Chance rows states potential tables None → states ∣ length (leaves_of tables)
data_whole text rows states potential [] h = absurd (h tt)
data_whole text rows states potential (table ∷ more) h = subst (λ n. states ∣ n) (sym (stable (length (leaves table.value)) (rows * states) h.0.1.0)) (dvd-mul_left states rows)

table_whole : (text : List ℕ) (rows states : ℕ) (potential : Option BlockTree) → draft_part text Chance rows states potential None → states ∣ length (option_map_or (λ p. leaves_of (data_of text p)) potential [])
table_whole text rows states None h = dvd-zero states
table_whole text rows states (Some potential) h = data_whole text rows states potential (data_of text potential) h.1

node_whole : (text : List ℕ) (blocks : List BlockTree) (v : ℕ) → v < length (node_blocks blocks) → kind_of (get_or (node_blocks blocks) v no_block).kind ≡ Chance → table_pass text blocks None
    → block_states text (get_or (node_blocks blocks) v no_block) ∣ length (block_numbers text blocks (get_or (node_blocks blocks) v no_block))
node_whole text blocks v l kind h =
    let block = get_or (node_blocks blocks) v no_block in
    table_whole text (row_count text blocks block) (block_states text block) (potential_of text blocks (block_name text block))
    (subst (λ (k : Kind). node_part text k (row_count text blocks block) (block_states text block) (potential_of text blocks (block_name text block)) None) kind (part_none text blocks h v l))

pub rows_whole : (text : List ℕ) (blocks : List BlockTree) → all_passes text blocks None → (v : ℕ) → v < length (node_blocks blocks) → kind_of (get_or (node_blocks blocks) v no_block).kind ≡ Chance
    → block_states text (get_or (node_blocks blocks) v no_block) ∣ length (map (token_bytes text) (block_numbers text blocks (get_or (node_blocks blocks) v no_block)))
unfolding all_passes
rows_whole text blocks h v l kind =
    let block = get_or (node_blocks blocks) v no_block in
    subst (λ n. block_states text block ∣ n) (sym (length-map (block_numbers text blocks block) (token_bytes text))) (node_whole text blocks v l kind h.1.1.1.1.1.0)
