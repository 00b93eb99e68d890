-- The scale of the utilities' numbers, found in the drafts: they are the numbers that the drafts
-- hold.
use Rattle.std.proofs.Common.{◌≡◌, ◌⊎◌, inl, inr, ◌<◌, ◌≤◌, ◌+◌, ℕ, List, [], All, Contains, length, get_or, map, None, refl, sym, subst, ◌∙◌, arith}
use Rattle.std.specs.Option.{option_map_or}
use Rattle.std.proofs.lemmas.List.{get_or_default, length-map}
use Rattle.maid_model.specs.declared.diagrams.Kind.{Kind}
use Rattle.maid_model.specs.declared.diagrams.Kind.TheVariants as model
use Rattle.net_lexer.specs.Token.{token_bytes}
use Rattle.net_lexer.specs.declared.tokens.Token.{Token}
use Rattle.net_parser.specs.Trees.{BlockTree}
use Rattle.net_parser.specs.Owned.{IsBlockOf}
use Rattle.weight_scale.specs.declared.decimal.Decimal.{Decimal}
use Rattle.net_build.specs.declared.nodes.Head.{Head}
use Rattle.net_build.specs.declared.drafts.Draft.{Draft}
use Rattle.net_build.specs.declared.drafts.Draft.TheVariants.{Cells, Values, Scaled}
use Rattle.net_build.specs.Blocks.{no_token, node_blocks, kind_of, block_states, row_count, data_of, leaves_of, block_numbers}
use Rattle.first_fault.specs.Passes.{each}
use Rattle.net_build.specs.Scaling.{AreDecimals, decimal_at, IsWholeBy}
use Rattle.net_build.specs.Stages.{NodeLists, LinkLists, head_at, head_of, head_rows, node_lists, link_lists}
use Rattle.net_build.specs.Table.{IsWideValue, wide_row, node_pass, potential_pass, no_block}
use Rattle.net_build.specs.TableParts.{AreDrafts, FitsDraft, Fits, HasDecimalsAtMost, Reaches, IsDraftOf, IsDraftAt, IsScaleOf, numerals_in, potential_at, value_at_scale, values_in}
use Rattle.net_build.specs.Zero.{nought}
use Rattle.first_fault.proofs.Items.{each_all}
use Rattle.net_build.proofs.RaisedCells.{few_to, fit_to, scale_enough}
use Rattle.net_build.proofs.ScaleLemmas.{decimal_of, raised_is, fits_narrow, not_whole}
use Rattle.net_build.proofs.TableEnd.{item_of, draft_here, values_at}
use Rattle.net_build.proofs.TableFacts.{values_of_nodes}

-- whole to that scale, and within the limits
abbrev pub IsGood : List ℕ → ℕ → Token → Type 0
IsGood text scale t = IsWholeBy scale (token_bytes text t) × (IsWideValue scale (token_bytes text t) → ⊥)

-- numbers whose decimals fit
values_good : (text : List ℕ) (scale : ℕ) (tokens : List Token) (ds : List Decimal) → AreDecimals (map (token_bytes text) tokens) ds → All (λ d. d.k ≤ scale) ds → All (Fits scale) ds → All (IsGood text scale) tokens
values_good text scale tokens ds are few fits i t h =
    let within : i < length ds = omega (arith, h, are.len, length-map tokens (token_bytes text)) in
    let its = decimal_of text tokens ds i t are h in (
      (value_at_scale scale (decimal_at ds i), raised_is (token_bytes text (get_or tokens i t)) (decimal_at ds i) scale its (few i nought within)),
      fits_narrow (token_bytes text (get_or tokens i t)) (decimal_at ds i) scale its (few i nought within) (fits i nought within),
    )

-- a utility's draft that fits
draft_good : (text : List ℕ) (scale rows states : ℕ) (kind : Kind) (tokens : List Token) (draft : Draft) → kind ≡ model.Utility → IsDraftOf kind rows states (map (token_bytes text) tokens) draft → FitsDraft scale draft → All (IsGood text scale) tokens
draft_good text scale rows states model.Utility tokens (Values ds) utility is fits = values_good text scale tokens ds.items is.0 fits.0 fits.1
draft_good text scale rows states model.Utility tokens (Scaled cells k) utility is fits = values_good text scale tokens is.0 is.1 (few_to is.0 k cells.items is.2 scale fits.0) (fit_to is.0 k cells.items is.2 scale fits.0 fits.1)
draft_good text scale rows states model.Utility tokens (Cells cells) utility is fits = absurd is
draft_good text scale rows states model.Chance tokens draft utility is fits = absurd (differ utility) where
  differ : model.Chance ≡ model.Utility → ⊥
  differ e = cc
draft_good text scale rows states model.Decision tokens draft utility is fits = absurd (differ utility) where
  differ : model.Decision ≡ model.Utility → ⊥
  differ e = cc

-- a number of a draft is not whole by fewer decimals than it has
values_least : (text : List ℕ) (most k : ℕ) (tokens : List Token) (ds : List Decimal) (i : ℕ) → AreDecimals (map (token_bytes text) tokens) ds → i < length ds → (decimal_at ds i).k ≡ most → k < most → All (λ t. IsWholeBy k (token_bytes text t)) tokens → ⊥
values_least text most k tokens ds i are h is fewer all =
    let within : i < length tokens = omega (arith, h, are.len, length-map tokens (token_bytes text)) in
    not_whole (token_bytes text (get_or tokens i no_token)) (decimal_at ds i) k (decimal_of text tokens ds i no_token are within) (omega (arith, is, fewer)) (all i no_token within)

draft_least : (text : List ℕ) (most k rows states : ℕ) (kind : Kind) (tokens : List Token) (draft : Draft) → Reaches most draft → IsDraftOf kind rows states (map (token_bytes text) tokens) draft → k < most → (kind ≡ model.Utility → All (λ t. IsWholeBy k (token_bytes text t)) tokens) → ⊥
draft_least text most k rows states kind tokens (Cells cells) reached is fewer all = reached
draft_least text most k rows states model.Utility tokens (Values ds) (i, h, at) is fewer all = values_least text most k tokens ds.items i is.0 h at fewer (all refl)
draft_least text most k rows states model.Utility tokens (Scaled cells own) reached is fewer all =
    let one = is.2.scale.reached (omega (arith, reached, fewer)) in
    values_least text most k tokens is.0 one.0 is.1 one.1 (one.2 ∙ reached) fewer (all refl)
draft_least text most k rows states model.Chance tokens (Values ds) reached is fewer all = is
draft_least text most k rows states model.Chance tokens (Scaled cells own) reached is fewer all = is
draft_least text most k rows states model.Decision tokens (Values ds) reached is fewer all = is
draft_least text most k rows states model.Decision tokens (Scaled cells own) reached is fewer all = is

-- more decimals than the most
more_enough : (before now : ℕ) (draft : Draft) → before ≤ now → HasDecimalsAtMost before draft → HasDecimalsAtMost now draft
more_enough before now (Cells cells) more few = tt
more_enough before now (Values ds) more few = λ i d h. omega (arith, more, few i d h)
more_enough before now (Scaled cells k) more few = omega (arith, more, few)

-- no draft of a text has more decimals than a number may have
draft_few : (kind : Kind) (rows states : ℕ) (numerals : List (List ℕ)) (draft : Draft) → IsDraftOf kind rows states numerals draft → HasDecimalsAtMost 30 draft
draft_few kind rows states numerals (Cells cells) is = tt
draft_few kind rows states numerals (Values ds) is = λ i d h. (get_or ds.items i d).few
draft_few model.Utility rows states numerals (Scaled cells k) is = scale_enough is.0 k cells.items 30 is.2 (λ i d h. (get_or is.0 i d).few)
draft_few model.Chance rows states numerals (Scaled cells k) is = absurd is
draft_few model.Decision rows states numerals (Scaled cells k) is = absurd is

pub drafts_few : (text : List ℕ) (heads : List Head) (links : LinkLists) (drafts : List Draft) → AreDrafts text heads links drafts → All (HasDecimalsAtMost 30) drafts
drafts_few text heads links drafts are v d h = draft_few (head_at heads v).kind (head_rows heads links.parents v) (head_at heads v).states (numerals_in text (potential_at links v)) (get_or drafts v d) (are.each v d h)

-- the most decimals of the drafts so far and of one more
pub most_next : (drafts : List Draft) (i : ℕ) (draft : Draft) (before here now : ℕ) → draft ≡ get_or drafts i draft → i < length drafts → ((k : ℕ) (d : Draft) → k < i → HasDecimalsAtMost before (get_or drafts k d)) → HasDecimalsAtMost here draft → before ≤ now → here ≤ now → (k : ℕ) (d : Draft) → k < i + 1 → HasDecimalsAtMost now (get_or drafts k d)
most_next drafts i draft before here now is within so its old new k d near = by_place (split k i near) where
  split : (a b : ℕ) → a < b + 1 → (a < b) ⊎ (a ≡ b)
  split a b l = grind arith

  by_place : (k < i) ⊎ (k ≡ i) → HasDecimalsAtMost now (get_or drafts k d)
  by_place (inl l) = more_enough before now (get_or drafts k d) old (so k d l)
  by_place (inr at) = subst (λ n. HasDecimalsAtMost now (get_or drafts n d)) (sym at) (subst (HasDecimalsAtMost now) (is ∙ get_or_default drafts i draft d within) (more_enough here now draft new its))

-- one of the draft's values has them
pub reached_here : (drafts : List Draft) (i : ℕ) (draft : Draft) (here now : ℕ) → draft ≡ get_or drafts i draft → i < length drafts → now ≡ here → (0 < here → Reaches here draft) → 0 < now → (x : Draft) × Contains drafts x × Reaches now x
reached_here drafts i draft here now is within new reached some = (draft, (i, within, sym is), subst (λ n. Reaches n draft) (sym new) (reached (subst (λ n. 0 < n) new some)))

module _ (text : List ℕ) (blocks : List BlockTree) (own : All (IsBlockOf text) blocks) (node_none : node_pass text blocks None) (potential_none : potential_pass text blocks None) (scale : ℕ) (drafts : List Draft) where
  abbrev nodes : List BlockTree
  nodes = node_blocks blocks

  abbrev heads : List Head
  heads = map (head_of text nodes) nodes

  abbrev block_at : ℕ → BlockTree
  block_at v = get_or nodes v no_block

  abbrev numbers : List Token
  numbers = values_in text (node_lists text nodes) blocks

  module _ (are : AreDrafts text heads (link_lists text blocks) drafts) where
    count_is : length drafts ≡ length nodes
    count_is = are.len ∙ length-map nodes (head_of text nodes)

    -- each utility's numbers are those of its draft
    pub numbers_good : All (FitsDraft scale) drafts → All (IsGood text scale) numbers
    numbers_good fits = values_of_nodes text blocks own node_none potential_none (IsGood text scale) (λ v p h kind found.
        let within : v < length drafts = omega (arith, h, count_is) in
        let draft : Draft = get_or drafts v (item_of drafts v within) in
        subst (λ o. All (IsGood text scale) (option_map_or (λ q. leaves_of (data_of text q)) o [])) found
        (draft_good text scale (row_count text blocks (block_at v)) (block_states text (block_at v)) (kind_of (block_at v).kind) (block_numbers text blocks (block_at v)) draft kind
        (draft_here text blocks own node_none potential_none v draft h (are.each v (item_of drafts v within) within)) (fits v (item_of drafts v within) within)))

    -- the draft with most decimals has a number of these
    pub none_fewer : (draft : Draft) → Contains drafts draft → Reaches scale draft → (k : ℕ) → k < scale → All (λ t. IsWholeBy k (token_bytes text t)) numbers → ⊥
    none_fewer draft (v, within, here) reached k fewer all =
        let h : v < length nodes = omega (arith, within, count_is) in
        draft_least text scale k (row_count text blocks (block_at v)) (block_states text (block_at v)) (kind_of (block_at v).kind) (block_numbers text blocks (block_at v)) draft reached
        (draft_here text blocks own node_none potential_none v draft h (subst (IsDraftAt text heads (link_lists text blocks) v) here (are.each v draft within))) fewer
        (λ kind. values_at text blocks own node_none potential_none (λ t. IsWholeBy k (token_bytes text t)) v all h kind)

    -- so that the most decimals are the scale
    pub scale_of_drafts : All (FitsDraft scale) drafts → (0 < scale → (draft : Draft) × Contains drafts draft × Reaches scale draft) → IsScaleOf text numbers scale
    scale_of_drafts fits reached = (λ i t h. (numbers_good fits i t h).0, λ k fewer. at k fewer (reached (omega (arith, fewer)))) where
      at : (k : ℕ) → k < scale → (draft : Draft) × Contains drafts draft × Reaches scale draft → All (λ t. IsWholeBy k (token_bytes text t)) numbers → ⊥
      at k fewer (draft, there, reaches) = none_fewer draft there reaches k fewer

    pub none_wide : All (FitsDraft scale) drafts → each (wide_row text scale) numbers None
    none_wide fits = each_all (wide_row text scale) numbers no_token (λ k h. (numbers_good fits k no_token h).1)

-- the same, of the nodes as the caller has them
module _ (text : List ℕ) (blocks : List BlockTree) (own : All (IsBlockOf text) blocks) (node_none : node_pass text blocks None) (potential_none : potential_pass text blocks None) (nodes : NodeLists) (n : nodes ≡ node_lists text (node_blocks blocks)) (scale : ℕ) (drafts : List Draft) (are : AreDrafts text nodes.heads (link_lists text blocks) drafts) (fits : All (FitsDraft scale) drafts) where
  own_drafts : AreDrafts text (node_lists text (node_blocks blocks)).heads (link_lists text blocks) drafts
  own_drafts = subst (λ (m : NodeLists). AreDrafts text m.heads (link_lists text blocks) drafts) n are

  pub scale_of_them : (0 < scale → (draft : Draft) × Contains drafts draft × Reaches scale draft) → IsScaleOf text (values_in text nodes blocks) scale
  scale_of_them reached = subst (λ (m : NodeLists). IsScaleOf text (values_in text m blocks) scale) (sym n) (scale_of_drafts text blocks own node_none potential_none scale drafts own_drafts fits reached)

  pub none_wide_of_them : each (wide_row text scale) (values_in text nodes blocks) None
  none_wide_of_them = subst (λ (m : NodeLists). each (wide_row text scale) (values_in text m blocks) None) (sym n) (none_wide text blocks own node_none potential_none scale drafts own_drafts fits)
