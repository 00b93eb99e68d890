-- The utilities' numbers to their scale, and what the finished tables are.
use Rattle.std.proofs.Common.{◌≡◌, ◌⊎◌, inl, inr, ◌<◌, ◌≤◌, ◌-◌, ◌*◌, ◌/◌, ◌^◌, ℕ, ℤ, zero, suc, pos, unsigned_abs, true, List, [], ◌∷◌, All, length, get_or, map, Option, None, Some, refl, sym, ap, subst, ◌∙◌, arith}
use Rattle.std.specs.Option.{option_map_or}
use Rattle.std.proofs.lemmas.Int.{unsigned_abs-mul}
use Rattle.std.proofs.lemmas.List.{get_or-map, get_or_default, length-map}
use Rattle.maid_model.specs.declared.diagrams.Kind.{Kind}
use Rattle.maid_model.specs.declared.diagrams.Kind.TheVariants as model
use Rattle.maid_model.specs.Diagrams.{greatest_number}
use Rattle.maid_model.specs.Tables.{IsTable}
use Rattle.net_lexer.specs.Token.{IsTokenOf, token_bytes}
use Rattle.net_lexer.specs.declared.tokens.Token.{Token}
use Rattle.net_parser.specs.Trees.{AttributeTree, BlockTree}
use Rattle.net_parser.specs.Owned.{leaves, IsBlockOf, IsAttributeOf}
use Rattle.weight_scale.specs.declared.decimal.Decimal.{Decimal}
use Rattle.weight_scale.specs.Numeral.{numerator, denominator, IsLeastDecimalOf}
use Rattle.net_build.specs.declared.nodes.Head.{Head}
use Rattle.net_build.specs.declared.drafts.Draft.{Draft}
use Rattle.net_build.specs.declared.drafts.Draft.TheVariants.{Cells, Values, Scaled}
use Rattle.net_build.specs.Blocks.{no_token, is_node, potentials, is_number, node_blocks, kind_of, block_states, row_count, block_name, potential_of, parent_lists, data_of, leaves_of, block_numbers, word_of}
use Rattle.net_build.specs.Building.{AreTables, AreUtilityCells, IsTableFrom}
use Rattle.first_fault.specs.Passes.{Pass, each}
use Rattle.net_build.specs.Passes.{Found}
use Rattle.net_build.specs.Scaling.{AreDecimals, decimal_at, IsWholeBy}
use Rattle.net_build.specs.Stages.{AreLinks, NodeLists, LinkLists, TablesFit, FitsTable, head_of, head_at, node_lists, link_lists, no_head, head_rows}
use Rattle.net_build.specs.Table.{length_row, wide_row, IsWideValue, node_pass, potential_pass, missing_pass, table_pass, no_block}
use Rattle.net_build.specs.TableParts.{AreDrafts, AreScaled, CanReadTables, FitsDraft, Fits, FitsRaised, IsDraftOf, IsDraftAt, IsScaleOf, data_parts, finished, node_part, numerals_in, potential_at, value_at_scale, values_in}
use Rattle.net_build.specs.Zero.{nought}
use Rattle.net_build.proofs.BlockLemmas.{all_filter, found_in}
use Rattle.net_build.proofs.WeightPasses.{rows_are}
use Rattle.std.specs.Str.{bytes_eq}
use Rattle.std.specs.Prelude.{codes}
use Rattle.net_parser.specs.declared.trees.BlockKind.{BlockKind}
use Rattle.net_parser.specs.declared.trees.BlockKind.TheVariants.{Net, Node, Decision, Utility, Potential}
use Rattle.net_parser.specs.Grammar.{is_potential}
use Rattle.net_build.proofs.NumberLemmas.{all_numbers}
use Rattle.net_build.proofs.RaisedCells.{few_to, fit_from, fit_to, raised_are, scale_enough}
use Rattle.net_build.proofs.ScaleLemmas.{decimal_of, cells_found, not_whole, unfit_wide}
use Rattle.net_build.proofs.TableFacts.{value_of_node, values_of_nodes, can_read}
use Rattle.net_build.proofs.TablePasses.{head_here, potential_here, rows_here, part_none, nodes_are}

-- some item of a list with a place
pub item_of : {X : Type 0} (xs : List X) (v : ℕ) → v < length xs → X
item_of [] v h = absurd (omega arith)
item_of (x ∷ xs) v h = x

-- an item of those that find nothing
each_at : {X : Type 0} (P : X → Pass Found) (xs : List X) (k : ℕ) (d : X) → each P xs None → k < length xs → P (get_or xs k d) None
each_at P [] k d h within = absurd (omega arith)
each_at P (x ∷ xs) zero d h within = h.0
each_at P (x ∷ xs) (suc k) d h within = each_at P xs k d h.1 (omega arith)

-- what is known of a number that is read
pub record IsRead (text : List ℕ) (t : Token) : Type 0 where
  pub own : IsTokenOf text t
  pub number : is_number t.kind ≡ true
  pub short : length_row text t None

own_values : (text : List ℕ) (attributes : List AttributeTree) → All (IsAttributeOf text) attributes → All (IsTokenOf text) (leaves_of attributes)
own_values text [] all = λ k d h. absurd (omega arith)
own_values text (a ∷ attributes) all = λ k d h. ((all 0 a (omega arith)).value k d h).own

read_numbers_of : (text : List ℕ) (kind : Kind) (rows states : ℕ) (p : BlockTree) (attributes : List AttributeTree) → All (IsTokenOf text) (leaves_of attributes) → data_parts text kind rows states p attributes None → All (IsRead text) (leaves_of attributes)
read_numbers_of text kind rows states p [] own h = absurd (h tt)
read_numbers_of text kind rows states p (a ∷ attributes) own h = λ k d within. record {
  own = own k d within;
  number = all_numbers (leaves a.value) h.0.0 k d within;
  short = each_at (length_row text) (leaves a.value) k d h.0.1.1 within;
}

-- a value that is whole and not wide has few enough decimals, and fits
few_by : (text : List ℕ) (numeral : List ℕ) (d : Decimal) (scale : ℕ) → IsLeastDecimalOf (numerator numeral) (denominator numeral) d → IsWholeBy scale numeral → d.k ≤ scale
few_by text numeral d scale is whole = by_order (order d.k scale) where
  order : (a b : ℕ) → (a ≤ b) ⊎ (b < a)
  order a b = grind arith

  by_order : (d.k ≤ scale) ⊎ (scale < d.k) → d.k ≤ scale
  by_order (inl h) = h
  by_order (inr h) = absurd (not_whole numeral d scale is h whole)

fits_by : (numeral : List ℕ) (d : Decimal) (scale : ℕ) → IsLeastDecimalOf (numerator numeral) (denominator numeral) d → d.k ≤ scale → (IsWideValue scale numeral → ⊥) → Fits scale d
fits_by numeral d scale is few narrow = by_order (order (unsigned_abs d.m * 10 ^ (scale - d.k)) greatest_number) where
  order : (a b : ℕ) → (a ≤ b) ⊎ (b < a)
  order a b = grind arith

  by_order : (unsigned_abs d.m * 10 ^ (scale - d.k) ≤ greatest_number) ⊎ (greatest_number < unsigned_abs d.m * 10 ^ (scale - d.k)) → Fits scale d
  by_order (inl h) = h
  by_order (inr h) = absurd (narrow (unfit_wide numeral d scale is few (λ f. no_both _ _ f h))) where
    no_both : (a b : ℕ) → a ≤ b → b < a → ⊥
    no_both a b l m = omega arith

pub values_fit : (text : List ℕ) (tokens : List Token) (ds : List Decimal) (scale : ℕ) → AreDecimals (map (token_bytes text) tokens) ds → All (λ t. IsWholeBy scale (token_bytes text t) × (IsWideValue scale (token_bytes text t) → ⊥)) tokens → All (λ d. d.k ≤ scale) ds × All (Fits scale) ds
values_fit text tokens ds scale are all = (λ k d h. subst (λ (e : Decimal). e.k ≤ scale) (same k d h) (few k (near k h)), λ k d h. subst (Fits scale) (same k d h) (fits_by (token_bytes text (get_or tokens k no_token)) (decimal_at ds k) scale (its k (near k h)) (few k (near k h)) (all k no_token (near k h)).1))
  where
    near : (k : ℕ) → k < length ds → k < length tokens
    near k h = omega (arith, h, are.len, length-map tokens (token_bytes text))

    same : (k : ℕ) (d : Decimal) → k < length ds → decimal_at ds k ≡ get_or ds k d
    same k d h = get_or_default ds k nought d h

    its : (k : ℕ) → k < length tokens → IsLeastDecimalOf (numerator (token_bytes text (get_or tokens k no_token))) (denominator (token_bytes text (get_or tokens k no_token))) (decimal_at ds k)
    its k h = decimal_of text tokens ds k no_token are h

    few : (k : ℕ) → k < length tokens → (decimal_at ds k).k ≤ scale
    few k h = few_by text (token_bytes text (get_or tokens k no_token)) (decimal_at ds k) scale (its k h) (all k no_token h).0

-- the same of a utility's cells
scaled_fits : (ds : List Decimal) (k : ℕ) (cells : List ℤ) (scale : ℕ) → AreScaled ds k cells → All (λ d. d.k ≤ scale) ds × All (Fits scale) ds → (k ≤ scale) × All (FitsRaised (scale - k)) cells
scaled_fits ds k cells scale are fit =
    let enough : k ≤ scale = scale_enough ds k cells scale are fit.0 in
    (enough, fit_from ds k cells are scale enough fit.1)

-- a draft by its kind
draft_fits : (text : List ℕ) (scale rows states : ℕ) (kind : Kind) (tokens : List Token) (draft : Draft) → IsDraftOf kind rows states (map (token_bytes text) tokens) draft → (kind ≡ model.Utility → All (λ t. IsWholeBy scale (token_bytes text t) × (IsWideValue scale (token_bytes text t) → ⊥)) tokens) → FitsDraft scale draft
draft_fits text scale rows states kind tokens (Cells cells) is all = tt
draft_fits text scale rows states model.Utility tokens (Values ds) is all = values_fit text tokens ds.items scale is.0 (all refl)
draft_fits text scale rows states model.Utility tokens (Scaled cells k) is all = scaled_fits is.0 k cells.items scale is.2 (values_fit text tokens is.0 scale is.1 (all refl))
draft_fits text scale rows states model.Chance tokens (Values ds) is all = absurd is
draft_fits text scale rows states model.Chance tokens (Scaled cells k) is all = absurd is
draft_fits text scale rows states model.Decision tokens (Values ds) is all = absurd is
draft_fits text scale rows states model.Decision tokens (Scaled cells k) is all = absurd is

draft_table : (scale rows states : ℕ) (kind : Kind) (numerals : List (List ℕ)) (draft : Draft) → IsDraftOf kind rows states numerals draft → FitsDraft scale draft → IsTableFrom kind scale states numerals (finished scale draft)
draft_table scale rows states model.Chance numerals (Cells cells) is fits = (is.0, is.2.scaled, is.1, is.2.is, is.2.cells_are)
draft_table scale rows states model.Decision numerals (Cells cells) is fits = is
draft_table scale rows states model.Utility numerals (Values ds) is fits = cells_found numerals ds.items scale is.0 fits.0
draft_table scale rows states model.Utility numerals (Scaled cells k) is fits = subst (AreUtilityCells scale numerals) (sym (raised_are is.0 k cells.items is.2 scale fits.0)) (cells_found numerals is.0 scale is.1 (few_to is.0 k cells.items is.2 scale fits.0))
draft_table scale rows states model.Chance numerals (Values ds) is fits = absurd is
draft_table scale rows states model.Chance numerals (Scaled cells k) is fits = absurd is
draft_table scale rows states model.Decision numerals (Values ds) is fits = absurd is
draft_table scale rows states model.Decision numerals (Scaled cells k) is fits = absurd is
draft_table scale rows states model.Utility numerals (Cells cells) is fits = absurd is

raised_small : (d : Decimal) (scale : ℕ) → Fits scale d → unsigned_abs (value_at_scale scale d) ≤ greatest_number
raised_small d scale fits = subst (λ n. n ≤ greatest_number) (sym (unsigned_abs-mul d.m (pos (10 ^ (scale - d.k))))) fits

pub all_small : (ds : List Decimal) (scale : ℕ) → All (Fits scale) ds → All (λ x. unsigned_abs x ≤ greatest_number) (map (value_at_scale scale) ds)
all_small ds scale all k d within =
    let near : k < length ds = omega (arith, within, length-map ds (value_at_scale scale)) in
    subst (λ x. unsigned_abs x ≤ greatest_number) (sym (get_or-map (value_at_scale scale) ds k nought d near)) (raised_small (decimal_at ds k) scale (all k nought near))

whole_rows : (rows states n : ℕ) → 0 < states → n ≡ rows * states → n / states ≡ rows
whole_rows rows states n some e = sym (rows_are rows states n n some e refl)

values_limits : (ds : List Decimal) (scale rows states : ℕ) → states ≡ 1 → length ds ≡ rows * states → All (Fits scale) ds → FitsTable model.Utility rows states (map (value_at_scale scale) ds)
values_limits ds scale rows states one count fit = (length-map ds (value_at_scale scale) ∙ count ∙ ap (λ n. rows * n) one ∙ times_one rows, all_small ds scale fit) where
  times_one : (n : ℕ) → n * 1 ≡ n
  times_one n = omega arith

draft_limits : (scale rows states : ℕ) (kind : Kind) (numerals : List (List ℕ)) (draft : Draft) → 0 < states → (kind ≡ model.Utility → states ≡ 1) → IsDraftOf kind rows states numerals draft → FitsDraft scale draft → FitsTable kind rows states (finished scale draft)
draft_limits scale rows states model.Chance numerals (Cells cells) some one is fits = (is.2.scaled.total, is.2.is.common.positive, is.2.is.small, subst (λ n. IsTable cells.items n states is.2.scaled.total) (whole_rows rows states (length is.0) some is.3) is.2.table)
draft_limits scale rows states model.Decision numerals (Cells cells) some one is fits = is
draft_limits scale rows states model.Utility numerals (Values ds) some one is fits = values_limits ds.items scale rows states (one refl) is.1 fits.1
draft_limits scale rows states model.Utility numerals (Scaled cells k) some one is fits = subst (FitsTable model.Utility rows states) (sym (raised_are is.0 k cells.items is.2 scale fits.0)) (values_limits is.0 scale rows states (one refl) is.3 (fit_to is.0 k cells.items is.2 scale fits.0 fits.1))
draft_limits scale rows states model.Chance numerals (Values ds) some one is fits = absurd is
draft_limits scale rows states model.Chance numerals (Scaled cells k) some one is fits = absurd is
draft_limits scale rows states model.Decision numerals (Values ds) some one is fits = absurd is
draft_limits scale rows states model.Decision numerals (Scaled cells k) some one is fits = absurd is
draft_limits scale rows states model.Utility numerals (Cells cells) some one is fits = absurd is

pub one_state : (text : List ℕ) (b : BlockTree) → is_node b.kind ≡ true → kind_of b.kind ≡ model.Utility → block_states text b ≡ 1
one_state text b kept kind = by_kind b.kind refl where
  not_utility : (k : Kind) → (k ≡ model.Utility → ⊥) → kind_of b.kind ≡ k → ⊥
  not_utility k n e = n (sym e ∙ kind)

  by_kind : (k : BlockKind) → b.kind ≡ k → block_states text b ≡ 1
  by_kind Utility e = rw e refl
  by_kind Node e = absurd (not_utility model.Chance (λ h. cc) (ap kind_of e))
  by_kind Decision e = absurd (not_utility model.Decision (λ h. cc) (ap kind_of e))
  by_kind Net e = rw e refl
  by_kind Potential e = rw e refl

-- everything together
module _ (text : List ℕ) (blocks : List BlockTree) (own : All (IsBlockOf text) blocks) (node_rows_none : node_pass text blocks None) (potential_rows_none : potential_pass text blocks None) where
  abbrev nodes : List BlockTree
  nodes = node_blocks blocks

  abbrev heads : List Head
  heads = map (head_of text nodes) nodes

  abbrev links : LinkLists
  links = link_lists text blocks

  abbrev block_at : ℕ → BlockTree
  block_at v = get_or nodes v no_block

  abbrev numbers : List Token
  numbers = values_in text (node_lists text nodes) blocks

  heads_len : length heads ≡ length nodes
  heads_len = length-map nodes (head_of text nodes)

  -- each of the utilities' numbers is read
  pub values_read : table_pass text blocks None → All (IsRead text) numbers
  values_read h = values_of_nodes text blocks own node_rows_none potential_rows_none (IsRead text) (λ v p near kind is.
      let found = found_in (λ b. bytes_eq (block_name text b) (block_name text (block_at v))) (IsBlockOf text) (potentials blocks) p is (λ k d w. (all_filter (IsBlockOf text) (λ b. is_potential b.kind) blocks own k d w).0) in
      let part : node_part text model.Utility (row_count text blocks (block_at v)) (block_states text (block_at v)) (Some p) None = subst (λ o. node_part text model.Utility (row_count text blocks (block_at v)) (block_states text (block_at v)) o None) is (subst (λ (k : Kind). node_part text k (row_count text blocks (block_at v)) (block_states text (block_at v)) (potential_of text blocks (block_name text (block_at v))) None) kind (part_none text blocks h v near)) in
      read_numbers_of text model.Utility (row_count text blocks (block_at v)) (block_states text (block_at v)) p (data_of text p)
      (own_values text (data_of text p) (λ k d w. (all_filter (IsAttributeOf text) (λ a. bytes_eq (word_of text a) (codes "data")) p.attributes found.0.attributes k d w).0)) part.1)

  -- a draft by its block
  pub draft_here : (v : ℕ) (draft : Draft) → v < length nodes → IsDraftAt text heads links v draft → IsDraftOf (kind_of (block_at v).kind) (row_count text blocks (block_at v)) (block_states text (block_at v)) (map (token_bytes text) (block_numbers text blocks (block_at v))) draft
  draft_here v draft near is = subst (λ (T : Type 0). T) (λ i. IsDraftOf (head_here text blocks v near i).kind (rows_here text blocks v near i) (head_here text blocks v near i).states (numerals_in text (potential_here text blocks v near i)) draft) is

  pub values_at : (Q : Token → Type 0) (v : ℕ) → All Q numbers → v < length nodes → kind_of (block_at v).kind ≡ model.Utility → All Q (block_numbers text blocks (block_at v))
  values_at Q v all near kind = by_option (potential_of text blocks (block_name text (block_at v))) refl where
    by_option : (o : Option BlockTree) → potential_of text blocks (block_name text (block_at v)) ≡ o → All Q (option_map_or (λ p. leaves_of (data_of text p)) o [])
    by_option None e = λ k d h. absurd (omega arith)
    by_option (Some p) e = value_of_node text blocks own node_rows_none potential_rows_none Q v p all near kind e

  module _ (scale : ℕ) (is : IsScaleOf text numbers scale) (narrow : each (wide_row text scale) numbers None) (drafts : List Draft) (are : AreDrafts text heads links drafts) where
    scaled_all : All (λ t. IsWholeBy scale (token_bytes text t) × (IsWideValue scale (token_bytes text t) → ⊥)) numbers
    scaled_all k d h = (is.0 k d h, each_at (wide_row text scale) numbers k d narrow h)

    near_of : (v : ℕ) → v < length drafts → v < length nodes
    near_of v h = omega (arith, h, are.len, heads_len)

    -- the utilities' drafts fit the scale
    pub all_fit : All (FitsDraft scale) drafts
    all_fit v d h = draft_fits text scale (row_count text blocks (block_at v)) (block_states text (block_at v)) (kind_of (block_at v).kind) (block_numbers text blocks (block_at v)) (get_or drafts v d) (draft_here v (get_or drafts v d) (near_of v h) (are.each v d h)) (λ kind. values_at (λ t. IsWholeBy scale (token_bytes text t) × (IsWideValue scale (token_bytes text t) → ⊥)) v scaled_all (near_of v h) kind)

    finished_at : (v : ℕ) (d : Draft) → v < length drafts → get_or (map (finished scale) drafts) v [] ≡ finished scale (get_or drafts v d)
    finished_at v d h = get_or-map (finished scale) drafts v d [] h

    -- and finished they are the tables
    pub tables_are : AreTables text blocks scale (map (finished scale) drafts)
    tables_are = record {
      len = length-map drafts (finished scale) ∙ are.len ∙ heads_len;
      each = λ v h. let near : v < length drafts = omega (arith, h, length-map drafts (finished scale)) in
          subst (IsTableFrom (kind_of (block_at v).kind) scale (block_states text (block_at v)) (map (token_bytes text) (block_numbers text blocks (block_at v)))) (sym (finished_at v (item_of drafts v near) near))
          (draft_table scale (row_count text blocks (block_at v)) (block_states text (block_at v)) (kind_of (block_at v).kind) (map (token_bytes text) (block_numbers text blocks (block_at v))) (get_or drafts v (item_of drafts v near)) (draft_here v (get_or drafts v (item_of drafts v near)) (near_of v near) (are.each v (item_of drafts v near) near)) (all_fit v (item_of drafts v near) near));
    }

    pub tables_fit : CanReadTables text heads links → TablesFit heads (parent_lists text blocks) (map (finished scale) drafts)
    tables_fit read v h =
        let near : v < length drafts = omega (arith, h, are.len) in
        let its : v < length nodes = omega (arith, h, heads_len) in
        subst (FitsTable (head_at heads v).kind (head_rows heads (parent_lists text blocks) v) (head_at heads v).states) (sym (finished_at v (item_of drafts v near) near))
        (draft_limits scale (head_rows heads (parent_lists text blocks) v) (head_at heads v).states (head_at heads v).kind (numerals_in text (potential_at links v)) (get_or drafts v (item_of drafts v near)) (read.states v no_head h)
        (λ kind. ap (λ (g : Head). g.states) (head_here text blocks v its) ∙ one_state text (block_at v) (nodes_are text blocks v its) (sym (ap (λ (g : Head). g.kind) (head_here text blocks v its)) ∙ kind))
        (are.each v (item_of drafts v near) near) (all_fit v (item_of drafts v near) near))

-- the same, of the nodes and links as the callers have them
module _ (text : List ℕ) (blocks : List BlockTree) (own : All (IsBlockOf text) blocks) (node_rows_none : node_pass text blocks None) (potential_rows_none : potential_pass text blocks None) (missing_none : missing_pass text blocks None) where
  pub can_read_them : (listed : NodeLists) (linked : LinkLists) → listed ≡ node_lists text (node_blocks blocks) → linked ≡ link_lists text blocks → AreLinks listed.heads linked.parents → CanReadTables text listed.heads linked
  can_read_them listed linked n l fit = subst (λ (m : NodeLists). CanReadTables text m.heads linked) (sym n) (subst (CanReadTables text (node_lists text (node_blocks blocks)).heads) (sym l)
      (can_read text blocks own node_rows_none potential_rows_none missing_none (subst (λ (m : LinkLists). AreLinks (node_lists text (node_blocks blocks)).heads m.parents) l (subst (λ (m : NodeLists). AreLinks m.heads linked.parents) n fit))))
