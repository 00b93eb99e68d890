-- Where the passes find nothing, each node has a table: a chance node its rows in proportion, and a
-- utility its values to scale.
use Rattle.std.proofs.Common.{◌≡◌, ◌⊎◌, inl, inr, ◌<◌, ◌≤◌, ◌*◌, ℕ, zero, suc, ℤ, true, List, [], ◌∷◌, All, length, get_or, map, Option, None, Some, refl, sym, ap, subst, ◌∙◌, arith}
use Rattle.std.specs.Option.{IsSome, option_map_or}
use Rattle.std.proofs.lemmas.Bool.{false≢true, cases_lt}
use Rattle.std.proofs.lemmas.List.{length-map}
use Rattle.maid_model.specs.declared.diagrams.Kind.{Kind}
use Rattle.maid_model.specs.declared.diagrams.Kind.TheVariants as model
use Rattle.maid_model.specs.Nodes.{is_chance}
use Rattle.net_lexer.specs.Token.{token_bytes}
use Rattle.net_lexer.specs.declared.tokens.Token.{Token}
use Rattle.net_parser.specs.Trees.{AttributeTree, BlockTree}
use Rattle.net_parser.specs.Owned.{leaves, IsBlockOf}
use Rattle.weight_scale.specs.Laws.{DecimalOrNone, ScaledOrTooWide, ScaledIsTable}
use Rattle.first_fault.specs.Passes.{each}
use Rattle.net_build.specs.Blocks.{is_node, node_blocks, kind_of, block_states, row_count, cell_count, block_name, potential_of, parent_lists, data_of, leaves_of, block_numbers}
use Rattle.net_build.specs.Building.{AreTables, IsTableFrom, AreChanceCells, AreUtilityCells}
use Rattle.net_build.specs.Scaling.{IsWholeBy}
use Rattle.net_build.specs.Stages.{FitsTable, TablesFit, head_of}
use Rattle.net_build.specs.Table.{length_row, wide_row, weight_part, data_parts, draft_part, node_part, table_pass, missing_pass, node_pass, potential_pass, no_block, utility_numbers, IsUtilityScale, IsWideValue}
use Rattle.net_build.specs.TableParts.{value_at_scale}
use Rattle.net_build.proofs.NodeFacts.{each_all, only_on}
use Rattle.net_build.proofs.ScaledOrWide.{decimal_exists, decimals_exist, chance_cells}
use Rattle.net_build.proofs.ScaleLemmas.{cells_found, raised_is}
use Rattle.net_build.proofs.TableEnd.{all_small, one_state, values_at, values_fit}
use Rattle.net_build.proofs.TableFacts.{there, states_at, values_of_nodes}
use Rattle.net_build.proofs.TablePasses.{head_here, nodes_are, part_none, rows_here}
use Rattle.net_build.proofs.WholeRows.{stable}

-- a list of what there is at each number
choose : {X : Type 0} (P : ℕ → X → Type 0) (d : X) (n : ℕ) → ((v : ℕ) → v < n → (x : X) × P v x) → (xs : List X) × (length xs ≡ n) × ((v : ℕ) → v < n → P v (get_or xs v d))
choose P d zero some = ([], refl, λ v h. absurd (omega arith))
choose P d (suc n) some =
    let first = some 0 (omega arith) in
    let rest = choose (λ v x. P (suc v) x) d n (λ v h. some (suc v) (omega arith)) in
    (first.0 ∷ rest.0, omega (arith, rest.1), at first.0 rest.0 first.1 rest.2)
  where
    at : (x : _) (xs : List _) → P 0 x → ((v : ℕ) → v < n → P (suc v) (get_or xs v d)) → (v : ℕ) → v < suc n → P v (get_or (x ∷ xs) v d)
    at x xs here later zero h = here
    at x xs here later (suc v) h = later v (omega arith)

-- a good number: whole to the scale, and not wide
abbrev IsGood : List ℕ → ℕ → Token → Type 0
IsGood text scale t = IsWholeBy scale (token_bytes text t) × (IsWideValue scale (token_bytes text t) → ⊥)

module _ (decides : DecimalOrNone) (text : List ℕ) (blocks : List BlockTree) where
  -- ---- a table by its numbers
  chance_made : ScaledOrTooWide → ScaledIsTable → (b p : BlockTree) (tables : List AttributeTree) → 0 < block_states text b → kind_of b.kind ≡ model.Chance → data_parts text (kind_of b.kind) (row_count text blocks b) (block_states text b) p tables None
      → (cells : List ℤ) × AreChanceCells (block_states text b) (map (token_bytes text) (leaves_of tables)) cells × FitsTable model.Chance (row_count text blocks b) (block_states text b) cells
  chance_made scales table b p [] some kind h = absurd (h tt)
  chance_made scales table b p (a ∷ more) some kind h =
      let weights = only_on (is_chance (kind_of b.kind)) (weight_part text (block_states text b) (row_count text blocks b) a.name.start (leaves a.value)) (ap is_chance kind) h.1 in
      let count = stable (length (leaves a.value)) (cell_count text blocks b) h.0.1.0 in
      let ds = decimals_exist decides text (leaves a.value) h.0.1.1 in
      chance_cells text (block_states text b) (row_count text blocks b) (leaves a.value) ds.0 some count ds.1 weights.0 weights.1.0 scales table weights.1.1

  times_one : (rows states : ℕ) → states ≡ 1 → rows * states ≡ rows
  times_one rows states one = rw one (omega arith)

  utility_made : (scale : ℕ) (b p : BlockTree) (tables : List AttributeTree) → block_states text b ≡ 1 → All (IsGood text scale) (leaves_of tables) → data_parts text (kind_of b.kind) (row_count text blocks b) (block_states text b) p tables None
      → (cells : List ℤ) × AreUtilityCells scale (map (token_bytes text) (leaves_of tables)) cells × FitsTable model.Utility (row_count text blocks b) (block_states text b) cells
  utility_made scale b p [] one good h = absurd (h tt)
  utility_made scale b p (a ∷ more) one good h =
      let count = stable (length (leaves a.value)) (cell_count text blocks b) h.0.1.0 in
      let ds = decimals_exist decides text (leaves a.value) h.0.1.1 in
      let fit = values_fit text (leaves a.value) ds.0 scale ds.1 good in
      let len = length-map ds.0 (value_at_scale scale) ∙ ds.1.len ∙ length-map (leaves a.value) (token_bytes text) ∙ count ∙ times_one (row_count text blocks b) (block_states text b) one in
      (map (value_at_scale scale) ds.0, cells_found (map (token_bytes text) (leaves a.value)) ds.0 scale ds.1 fit.0, (len, all_small ds.0 scale fit.1))

  -- the numbers are short
  shorts : (b p : BlockTree) (tables : List AttributeTree) → data_parts text (kind_of b.kind) (row_count text blocks b) (block_states text b) p tables None → All (λ t. length_row text t None) (leaves_of tables)
  shorts b p [] h = absurd (h tt)
  shorts b p (a ∷ more) h = each_all (length_row text) (leaves a.value) h.0.1.1

  -- ---- node by node
  module _ (own : All (IsBlockOf text) blocks) (node_none : node_pass text blocks None) (potential_none : potential_pass text blocks None) (missing_none : missing_pass text blocks None) (table_none : table_pass text blocks None) where
    abbrev nodes : List BlockTree
    nodes = node_blocks blocks

    abbrev block_at : ℕ → BlockTree
    block_at v = get_or nodes v no_block

    abbrev potential_at : ℕ → Option BlockTree
    potential_at v = potential_of text blocks (block_name text (block_at v))

    abbrev numbers : List Token
    numbers = utility_numbers text blocks

    -- the potential is there, and what its data says
    data_at : (v : ℕ) → v < length nodes → (kind_of (block_at v).kind ≡ model.Decision → ⊥) → (p : BlockTree) × (potential_at v ≡ Some p) × data_parts text (kind_of (block_at v).kind) (row_count text blocks (block_at v)) (block_states text (block_at v)) p (data_of text p) None
    data_at v h kind = by_option (potential_at v) refl (there text blocks own node_none potential_none missing_none v h kind) (drafted (kind_of (block_at v).kind) (row_count text blocks (block_at v)) (block_states text (block_at v)) (potential_at v) kind (part_none text blocks table_none v h)) where
      drafted : (k : Kind) (rows states : ℕ) (o : Option BlockTree) → (k ≡ model.Decision → ⊥) → node_part text k rows states o None → draft_part text k rows states o None
      drafted model.Chance rows states o other part = part
      drafted model.Utility rows states o other part = part
      drafted model.Decision rows states o other part = absurd (other refl)

      by_option : (o : Option BlockTree) → potential_at v ≡ o → IsSome o → draft_part text (kind_of (block_at v).kind) (row_count text blocks (block_at v)) (block_states text (block_at v)) o None → (p : BlockTree) × (potential_at v ≡ Some p) × data_parts text (kind_of (block_at v).kind) (row_count text blocks (block_at v)) (block_states text (block_at v)) p (data_of text p) None
      by_option None e some rows = absurd (false≢true some)
      by_option (Some p) e some rows = (p, e, rows.1)

    -- the utilities' numbers are short
    all_short : All (λ t. length_row text t None) numbers
    all_short = values_of_nodes text blocks own node_none potential_none (λ t. length_row text t None) (λ v p h kind is.
        let here = data_at v h (λ decides. clash (sym kind ∙ decides)) in
        subst (λ (o : Option BlockTree). All (λ t. length_row text t None) (option_map_or (λ q. leaves_of (data_of text q)) o [])) (sym here.1 ∙ is) (shorts (block_at v) here.0 (data_of text here.0) here.2)) where
          clash : model.Utility ≡ model.Decision → ⊥
          clash d = cc

    module _ (scale : ℕ) (is : IsUtilityScale text blocks scale) where
      -- 30 decimals are enough for all of them
      pub few_decimals : scale ≤ 30
      few_decimals = go (cases_lt 30 scale) where
        whole : (t : Token) → length_row text t None → IsWholeBy 30 (token_bytes text t)
        whole t short = let d = decimal_exists decides (token_bytes text t) short in (value_at_scale 30 d.0, raised_is (token_bytes text t) d.0 30 d.1 d.0.few)

        go : (30 < scale) ⊎ (scale ≤ 30) → scale ≤ 30
        go (inl more) = absurd (is.1 30 more (λ k d h. whole (get_or numbers k d) (all_short k d h)))
        go (inr few) = few

      module _ (narrow : each (wide_row text scale) numbers None) (scales : ScaledOrTooWide) (table : ScaledIsTable) where
        all_good : All (IsGood text scale) numbers
        all_good k d h = (is.0 k d h, each_all (wide_row text scale) numbers narrow k d h)

        abbrev IsCells : BlockTree → List ℤ → Type 0
        IsCells b cells = IsTableFrom (kind_of b.kind) scale (block_states text b) (map (token_bytes text) (block_numbers text blocks b)) cells × FitsTable (kind_of b.kind) (row_count text blocks b) (block_states text b) cells

        cells_exist : (v : ℕ) → v < length nodes → (cells : List ℤ) × IsCells (block_at v) cells
        cells_exist v h = by_kind (kind_of (block_at v).kind) refl where
          kept : is_node (block_at v).kind ≡ true
          kept = nodes_are text blocks v h

          -- from the potential's numbers to the block's
          from : (k : Kind) → kind_of (block_at v).kind ≡ k → (p : BlockTree) → potential_at v ≡ Some p → (cells : List ℤ) → IsTableFrom k scale (block_states text (block_at v)) (map (token_bytes text) (leaves_of (data_of text p))) cells → FitsTable k (row_count text blocks (block_at v)) (block_states text (block_at v)) cells → (found : List ℤ) × IsCells (block_at v) found
          from k e p there cells is fits = (
            cells,
            (
              subst (λ (j : Kind). IsTableFrom j scale (block_states text (block_at v)) (map (token_bytes text) (block_numbers text blocks (block_at v))) cells) (sym e)
                  (subst (λ (o : Option BlockTree). IsTableFrom k scale (block_states text (block_at v)) (map (token_bytes text) (option_map_or (λ q. leaves_of (data_of text q)) o [])) cells) (sym there) is),
              subst (λ (j : Kind). FitsTable j (row_count text blocks (block_at v)) (block_states text (block_at v)) cells) (sym e) fits,
            ),
          )

          by_kind : (k : Kind) → kind_of (block_at v).kind ≡ k → (cells : List ℤ) × IsCells (block_at v) cells
          by_kind model.Decision e = ([], (subst (λ (j : Kind). IsTableFrom j scale (block_states text (block_at v)) (map (token_bytes text) (block_numbers text blocks (block_at v))) []) (sym e) refl, subst (λ (j : Kind). FitsTable j (row_count text blocks (block_at v)) (block_states text (block_at v)) []) (sym e) refl))
          by_kind model.Chance e =
              let here = data_at v h (λ d. clash (sym e ∙ d)) in
              let made = chance_made scales table (block_at v) here.0 (data_of text here.0) (states_at text blocks own node_none potential_none v h) e here.2 in
              from model.Chance e here.0 here.1 made.0 made.1 made.2 where
                clash : model.Chance ≡ model.Decision → ⊥
                clash d = cc
          by_kind model.Utility e =
              let here = data_at v h (λ d. clash (sym e ∙ d)) in
              let good = subst (λ (o : Option BlockTree). All (IsGood text scale) (option_map_or (λ q. leaves_of (data_of text q)) o [])) here.1 (values_at text blocks own node_none potential_none (IsGood text scale) v all_good h e) in
              let made = utility_made scale (block_at v) here.0 (data_of text here.0) (one_state text (block_at v) kept e) good here.2 in
              from model.Utility e here.0 here.1 made.0 made.1 made.2 where
                clash : model.Utility ≡ model.Decision → ⊥
                clash d = cc

        -- the tables of all nodes
        pub tables_made : (cells : List (List ℤ)) × AreTables text blocks scale cells × TablesFit (map (head_of text nodes) nodes) (parent_lists text blocks) cells
        tables_made =
            let all = choose (λ v cells. IsCells (block_at v) cells) [] (length nodes) cells_exist in (
              all.0,
              record { len = all.1; each = λ v h. (all.2 v (omega (arith, h, all.1))).0 },
              λ v h.
                  let near : v < length nodes = omega (arith, h, length-map nodes (head_of text nodes)) in
                  subst (λ (T : Type 0). T) (λ i. FitsTable (sym (head_here text blocks v near) i).kind (sym (rows_here text blocks v near) i) (sym (head_here text blocks v near) i).states (get_or all.0 v [])) (all.2 v near).1,
            )
