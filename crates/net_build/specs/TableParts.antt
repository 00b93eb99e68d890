-- What the functions that read tables say beside the rows of the table of passes: of drafts, of
-- scales, and of what reading needs. No public contract needs it.
use Rattle.std.specs.Prelude.{◌≡◌, ◌≢◌, ◌<◌, ◌≤◌, ◌-◌, ◌*◌, ◌/◌, ◌*ℤ◌, ◌^◌, ℕ, ℤ, pos, nat_abs, Bool, ◌&&◌, List, [], All, length, map, filter, flat_map, Option, IfSome, IsSome, true, slice_index_or, Result}
use Rattle.std.specs.Option.{option_map_or}
use Rattle.maid_model.specs.declared.diagrams.Kind.{Kind}
use Rattle.maid_model.specs.declared.diagrams.Kind.TheVariants.{Chance, Decision, Utility}
use Rattle.maid_model.specs.Diagrams.{greatest_number}
use Rattle.maid_model.specs.Nodes.{is_utility}
use Rattle.maid_model.specs.Tables.{IsTable}
use Rattle.net_lexer.specs.Token.{token_bytes}
use Rattle.net_lexer.specs.declared.tokens.Token.{Token}
use Rattle.net_parser.specs.Trees.{BlockTree}
use Rattle.net_parser.specs.Owned.{IsBlockOf}
use Rattle.net_parser.specs.Grammar.{is_potential}
use Rattle.weight_scale.specs.Numeral.{number_of, AreFewDigits}
use Rattle.weight_scale.specs.Plain.{AreWhole, ArePlainRows}
use Rattle.weight_scale.specs.Scaling.{IsScaled, NoneNegative, NoZeroRow}
use Rattle.weight_scale.specs.Views.{ScaledView}
use Rattle.weight_scale.specs.declared.decimal.Decimal.{Decimal}
use Rattle.net_build.specs.declared.drafts.Draft.{Draft}
use Rattle.net_build.specs.declared.drafts.Draft.TheVariants.{Cells, Values, Scaled}
use Rattle.net_build.specs.Blocks.{block_name, data_of, leaves_of, is_number, no_token}
use Rattle.net_build.specs.Scaling.{AreDecimals, decimal_at, TellDecimals}
use Rattle.net_build.specs.Stages.{NodeLists, LinkLists, head_at, head_rows, AreLinks}
use Rattle.net_build.specs.declared.nodes.Head.{Head}
use Rattle.net_build.specs.Table.{kind_in, wide_row}
use Rattle.net_build.specs.declared.faults.BuildFault.{BuildFault}
use Rattle.net_build.specs.Passes.{build_fault}
use Rattle.first_fault.specs.Answers.{Passes}
use Rattle.first_fault.specs.Passes.{each}
pub use Rattle.net_build.specs.Table.{wrong_count_row, number_rows, weight_part, data_part, data_parts, table_part, draft_part, node_part, potential_at, node_part_at, drafts_pass, values_in, IsScaleOf, scaled_pass}

-- the decimal times 10^scale, where it has no more decimals than that
abbrev pub value_at_scale : ℕ → Decimal → ℤ
value_at_scale scale d = d.m *ℤ pos (10 ^ (scale - d.k))

-- that is within the limits
abbrev pub Fits : ℕ → Decimal → Type 0
Fits scale d = nat_abs d.m * 10 ^ (scale - d.k) ≤ greatest_number

-- one of the decimals has so many digits behind its point
abbrev pub IsReachedIn : List Decimal → ℕ → Type 0
IsReachedIn decimals most =
    (i : ℕ) × (i < length decimals) × ((decimal_at decimals i).k ≡ most)

-- the most digits that one of the decimals has behind its point
pub record IsMostIn (decimals : List Decimal) (k : ℕ) : Type 0 where
  -- none has more
  pub most : All (λ d. d.k ≤ k) decimals
  -- one has so many, unless all are whole
  pub reached : 0 < k → IsReachedIn decimals k

-- the cells are the decimals to the scale that they need, k
pub record AreScaled (decimals : List Decimal) (k : ℕ) (cells : List ℤ) : Type 0 where
  -- none needs more, and one so many
  pub scale : IsMostIn decimals k
  -- to it they are within the limits
  pub fit : All (Fits k) decimals
  -- each is a decimal times 10^k
  pub cells_are : cells ≡ map (value_at_scale k) decimals

-- one of the decimals is beyond the limits to the scale that makes all of them whole
abbrev pub AreWide : List Decimal → Type 0
AreWide decimals = (k : ℕ) × IsMostIn decimals k × (All (Fits k) decimals → ⊥)

-- the cell times 10^more
abbrev pub raised_by : ℕ → ℤ → ℤ
raised_by more cell = cell *ℤ pos (10 ^ more)

-- that is within the limits
abbrev pub FitsRaised : ℕ → ℤ → Type 0
FitsRaised more cell = nat_abs cell * 10 ^ more ≤ greatest_number

-- the cells are the weights of the rows, and make a table within the limits
pub record IsWeighed (decimals : List Decimal) (states : ℕ) (cells : List ℤ) : Type 0 where
  pub scaled : ScaledView
  pub is : IsScaled decimals states scaled
  pub cells_are : cells ≡ scaled.weights
  pub table : IsTable cells (length decimals / states) states scaled.total

-- these numerals are whole numbers
abbrev pub AreWholeNumbers : List (List ℕ) → List ℤ → Type 0
AreWholeNumbers numerals cells =
    (decimals : List Decimal) × AreDecimals numerals decimals × AreWhole decimals cells

-- the token is a number of few digits alone
abbrev pub IsFewDigits : List ℕ → Token → Type 0
IsFewDigits text token = (is_number token.kind ≡ true) × AreFewDigits (token_bytes text token)

-- the number that its digits write
abbrev pub few_number : List ℕ → Token → ℤ
few_number text token = pos (number_of (token_bytes text token))

-- so many numbers, each of few digits alone, in rows that are weights as they stand
abbrev pub ArePlainNumbers : List ℕ → ℕ → ℕ → List Token → Type 0
ArePlainNumbers text states want numerals = (length numerals ≡ want)
    × All (IsFewDigits text) numerals
    × ((total : ℕ) × ArePlainRows (map (few_number text) numerals) states total)

-- the tokens of the text tell these whole numbers
abbrev pub TellWholeNumbers : List ℕ → List Token → List ℤ → Type 0
TellWholeNumbers text tokens cells = AreWholeNumbers (map (token_bytes text) tokens) cells

-- each token is a number
abbrev pub AreNumbers : List Token → Type 0
AreNumbers tokens =
    (k : ℕ) → k < length tokens → is_number (slice_index_or tokens k no_token).kind ≡ true

-- a chance table of so many cells whose numbers are its weights as they stand
pub record IsPlainTable
    (text : List ℕ) (states want : ℕ) (numerals : List Token) (cells : List ℤ) : Type 0 where
  pub count : length numerals ≡ want
  pub kinds : AreNumbers numerals
  pub decimals : List Decimal
  pub are : AreDecimals (map (token_bytes text) numerals) decimals
  pub weighed : IsWeighed decimals states cells
  pub signs : NoneNegative decimals
  pub totals : NoZeroRow decimals states (length decimals / states)

-- the numerals of its potential's `data`
abbrev pub numerals_in : List ℕ → Option BlockTree → List (List ℕ)
numerals_in text potential =
    map (token_bytes text) (option_map_or (λ p. leaves_of (data_of text p)) potential [])

-- what is known of a node's table before the scale of utilities is: a chance node's weights, and a
-- utility's values, as they are or to a scale of their own
abbrev pub IsDraftOf : Kind → ℕ → ℕ → List (List ℕ) → Draft → Type 0
IsDraftOf Chance rows states numerals (Cells cells) = (decimals : List Decimal)
    × AreDecimals numerals decimals × IsWeighed decimals states cells.items
    × (length decimals ≡ rows * states)
IsDraftOf Decision rows states numerals (Cells cells) = cells.items ≡ []
IsDraftOf Utility rows states numerals (Values decimals) =
    AreDecimals numerals decimals.items × (length decimals.items ≡ rows * states)
IsDraftOf Utility rows states numerals (Scaled cells k) = (decimals : List Decimal)
    × AreDecimals numerals decimals × AreScaled decimals k cells.items
    × (length decimals ≡ rows * states)
IsDraftOf kind rows states numerals draft = ⊥

-- the same from tokens of the text
abbrev pub IsDraftFrom : List ℕ → Kind → ℕ → ℕ → List Token → Draft → Type 0
IsDraftFrom text kind rows states tokens draft =
    IsDraftOf kind rows states (map (token_bytes text) tokens) draft

-- what is kept of a utility's values: their cells, and the values themselves where they are wide
abbrev pub IsValueDraft : List Decimal → Draft → Type 0
IsValueDraft decimals (Cells cells) = ⊥
IsValueDraft decimals (Values same) = (same.items ≡ decimals) × AreWide decimals
IsValueDraft decimals (Scaled cells k) = AreScaled decimals k cells.items

-- none of a utility's values has more decimals
abbrev pub HasDecimalsAtMost : ℕ → Draft → Type 0
HasDecimalsAtMost most (Cells cells) = Unit {0}
HasDecimalsAtMost most (Values decimals) = All (λ d. d.k ≤ most) decimals.items
HasDecimalsAtMost most (Scaled cells k) = k ≤ most

-- one of them has so many
abbrev pub Reaches : ℕ → Draft → Type 0
Reaches most (Cells cells) = ⊥
Reaches most (Values decimals) = IsReachedIn decimals.items most
Reaches most (Scaled cells k) = k ≡ most

-- a utility's values are whole to that scale, and within the limits
abbrev pub FitsDraft : ℕ → Draft → Type 0
FitsDraft scale (Cells cells) = Unit {0}
FitsDraft scale (Values decimals) =
    All (λ d. d.k ≤ scale) decimals.items × All (Fits scale) decimals.items
FitsDraft scale (Scaled cells k) = (k ≤ scale) × All (FitsRaised (scale - k)) cells.items

-- the cells to that scale
abbrev pub finished : ℕ → Draft → List ℤ
finished scale (Cells cells) = cells.items
finished scale (Values decimals) = map (value_at_scale scale) decimals.items
finished scale (Scaled cells k) = map (raised_by (scale - k)) cells.items

-- the potential of a utility
abbrev pub has_values : List ℕ → NodeLists → BlockTree → Bool
has_values text nodes block =
    is_potential block.kind && is_utility (kind_in nodes (block_name text block))

-- the numbers of these blocks that are such potentials, one block after the other
abbrev pub block_values : List ℕ → NodeLists → List BlockTree → List Token
block_values text nodes blocks =
    flat_map (λ p. leaves_of (data_of text p)) (filter (has_values text nodes) blocks)

-- what reading the tables needs: each node has states, and each chance node and utility its
-- potential
pub record CanReadTables (text : List ℕ) (heads : List Head) (links : LinkLists) : Type 0 where
  pub states : All (λ h. 0 < h.states) heads
  pub parents_len : length links.parents ≡ length heads
  pub potentials_len : length links.potentials ≡ length heads
  pub fit : AreLinks heads links.parents
  pub own : (v : ℕ) → v < length heads
      → IfSome (potential_at links v) (λ p. IsBlockOf text p × (is_potential p.kind ≡ true))
  pub there :
      (v : ℕ) → v < length heads → (head_at heads v).kind ≢ Decision → IsSome (potential_at links v)

-- the draft of node v
abbrev pub IsDraftAt : List ℕ → List Head → LinkLists → ℕ → Draft → Type 0
IsDraftAt text heads links v draft = IsDraftOf (head_at heads v).kind
    (head_rows heads links.parents v) (head_at heads v).states
    (numerals_in text (potential_at links v)) draft

-- the draft of each node
pub record AreDrafts
    (text : List ℕ) (heads : List Head) (links : LinkLists) (drafts : List Draft) : Type 0 where
  pub len : length drafts ≡ length heads
  pub each : (v : ℕ) (d : Draft) → v < length drafts
      → IsDraftAt text heads links v (slice_index_or drafts v d)

-- weights, or the first fault, wherever these tokens tell these decimals
abbrev pub PassesWeights :
    {A : Type 0} → ℕ → ℕ → List Token → List Decimal → Result A BuildFault → Type 0
PassesWeights states at tokens decimals result =
    (text : List ℕ) (rows : ℕ) → length tokens ≡ rows * states → TellDecimals text tokens decimals
    → Passes build_fault (weight_part text states rows at tokens) result

-- values to that scale, or the first that is too wide, wherever these tokens tell these decimals
abbrev pub PassesValues : {A : Type 0} → ℕ → List Token → List Decimal → Result A BuildFault → Type 0
PassesValues scale tokens decimals result = (text : List ℕ) → TellDecimals text tokens decimals
    → Passes build_fault (each (wide_row text scale) tokens) result
