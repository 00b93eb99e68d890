-- A table of numbers that are its weights as they stand passes each row, and has them as its cells.
use Rattle.std.proofs.Common.{◌≡◌, ◌≢◌, ◌<◌, ◌≤◌, ◌+◌, ◌*◌, ℕ, ℤ, Bool, true, false, List, [], ◌∷◌, ◌++◌, All, Option, Some, None, length, get_or, map, take, refl, sym, ap, subst, ◌∙◌, arith}
use Rattle.std.proofs.lemmas.List.{get_or_default, length-map, map-append, take_all, take_more}
use Rattle.std.proofs.lemmas.List.Elements.{All-push}
use Rattle.std.specs.Global.{Vec}
use Rattle.std.specs.Option.{IfNone, is_some}
use Rattle.maid_model.specs.declared.diagrams.Kind.{Kind}
use Rattle.maid_model.specs.declared.diagrams.Kind.TheVariants as model
use Rattle.net_lexer.specs.Token.{token_bytes}
use Rattle.net_lexer.specs.declared.tokens.Token.{Token}
use Rattle.net_parser.specs.Owned.{leaves}
use Rattle.net_parser.specs.Trees.{AttributeTree}
use Rattle.weight_scale.specs.Numeral.{numerator, denominator, IsLeastDecimalOf}
use Rattle.weight_scale.specs.declared.decimal.Decimal.{Decimal}
use Rattle.first_fault.specs.Passes.{each}
use Rattle.first_fault.proofs.Items.{each_all}
use Rattle.net_build.specs.Blocks.{is_number, no_token}
use Rattle.net_build.specs.Scaling.{decimal_at}
use Rattle.net_build.specs.Table.{number_row, length_row}
use Rattle.net_build.specs.TableParts.{AreWholeNumbers, IsFewDigits, IsPlainTable, few_number, number_rows, data_part}
use Rattle.net_build.proofs.DecimalLemmas.{are_none, decimals_step}
use Rattle.net_build.proofs.DraftLemmas.{chance_clear}
use Rattle.net_build.proofs.ScaleLemmas.{decimal_of}
use Rattle.net_build.proofs.WeightPasses.{weight_clear, rows_are}

-- what holds where there is no value
pub of_none : {X P : Type 0} (found : Option X) → is_some found ≡ false → IfNone found P → P
of_none None none p = p
of_none (Some x) none p = absurd (let e : true ≡ false = none in cc)

pub whole_start : AreWholeNumbers [] []
whole_start = ([], are_none, (refl, λ k d l. absurd (omega arith)))

-- one more whole number
pub whole_step : (text : List ℕ) (tokens : List Token) (cells new : List ℤ) (i : ℕ) (x : ℤ) → i < length tokens → AreWholeNumbers (map (token_bytes text) (take i tokens)) cells
    → (d : Decimal) × IsLeastDecimalOf (numerator (token_bytes text (get_or tokens i no_token))) (denominator (token_bytes text (get_or tokens i no_token))) d × (d.m ≡ x) × (d.k ≡ 0)
    → new ≡ cells ++ x ∷ [] → AreWholeNumbers (map (token_bytes text) (take (i + 1) tokens)) new
whole_step text tokens cells new i x l so_far this is = (
  so_far.0 ++ this.0 ∷ [],
  decimals_step text tokens so_far.0 (so_far.0 ++ this.0 ∷ []) i this.0 l so_far.1 this.1 refl,
  (
    map-append (λ (d : Decimal). d.m) so_far.0 (this.0 ∷ []) ∙ ap (λ xs. xs ++ this.0.m ∷ []) so_far.2.0 ∙ ap (λ y. cells ++ y ∷ []) this.2 ∙ sym is,
    All-push (λ (d : Decimal). d.k ≡ 0) so_far.0 this.0 so_far.2.1 this.3,
  ),
)

-- one more number of few digits
pub numbers_step : (text : List ℕ) (tokens : List Token) (cells new : List ℤ) (i : ℕ) (x : ℤ) → i < length tokens → cells ≡ map (few_number text) (take i tokens) → x ≡ few_number text (get_or tokens i no_token) → new ≡ cells ++ x ∷ [] → new ≡ map (few_number text) (take (i + 1) tokens)
numbers_step text tokens cells new i x l so_far this is = is ∙ (λ j. so_far j ++ this j ∷ []) ∙ sym (map-append (few_number text) (take i tokens) (get_or tokens i no_token ∷ [])) ∙ ap (map (few_number text)) (sym (take_more tokens i no_token l))

-- all tokens are such numbers
pub all_few : (text : List ℕ) (tokens : List Token) (i : ℕ) → length tokens ≤ i → ((k : ℕ) → k < i → IsFewDigits text (get_or tokens k no_token)) → All (IsFewDigits text) tokens
all_few text tokens i past each k d l = subst (IsFewDigits text) (get_or_default tokens k no_token d l) (each k (omega (arith, l, past)))

pub all_numbers : (text : List ℕ) (tokens : List Token) (cells : List ℤ) (i : ℕ) → length tokens ≤ i → cells ≡ map (few_number text) (take i tokens) → cells ≡ map (few_number text) tokens
all_numbers text tokens cells i past is = is ∙ ap (map (few_number text)) (take_all i tokens past)

-- as many cells as tokens
pub whole_len : (text : List ℕ) (tokens : List Token) (cells : List ℤ) → AreWholeNumbers (map (token_bytes text) tokens) cells → length cells ≡ length tokens
whole_len text tokens cells whole = sym (ap length whole.2.0) ∙ length-map whole.0 (λ (d : Decimal). d.m) ∙ whole.1.len ∙ length-map tokens (token_bytes text)

module _ (text : List ℕ) (kind : Kind) (rows states : ℕ) (table : AttributeTree) (tokens : List Token) (cells : Vec ℤ) (is : kind ≡ model.Chance) (some : 0 < states) (same : tokens ≡ leaves table.value) (plain : IsPlainTable text states (rows * states) tokens cells.items) where
  same_len : length plain.decimals ≡ length tokens
  same_len = plain.are.len ∙ length-map tokens (token_bytes text)

  not_both : (b : Bool) → b ≡ true → b ≡ false → ⊥
  not_both b t f = absurd (let e : true ≡ false = sym t ∙ f in cc)

  numbers : number_rows text (rows * states) table None
  numbers = subst (λ ts. each number_row ts None × ((◌≢◌ (length ts) (rows * states) → ⊥) × each (length_row text) ts None)) same (
    each_all number_row tokens no_token (λ k l. not_both (is_number (get_or tokens k no_token).kind) (plain.kinds k l)),
    (
      λ differ. differ plain.count,
      each_all (length_row text) tokens no_token (λ k l long. long (decimal_at plain.decimals k) (decimal_of text tokens plain.decimals k no_token plain.are l).value),
    ),
  )

  pub plain_clear : data_part text kind rows states table None
  plain_clear = chance_clear text kind rows states table.name.start table is numbers refl tokens same
      (weight_clear text states rows table.name.start tokens plain.decimals some plain.count (rows_are rows states (length plain.decimals) (length tokens) some plain.count same_len) plain.are plain.weighed.scaled plain.signs plain.totals plain.weighed.is)
