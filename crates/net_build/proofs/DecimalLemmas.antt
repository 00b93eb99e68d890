-- The decimals of numerals, one after another.
use Rattle.std.proofs.Common.{◌≡◌, ◌⊎◌, inl, inr, ℕ, ◌+◌, ◌<◌, List, [], ◌∷◌, ◌++◌, length, get_or, map, take, refl, ap, sym, ◌∙◌, arith, length-append}
use Rattle.std.proofs.lemmas.List.{take_more, map-append, get_or_default}
use Rattle.net_lexer.specs.Token.{token_bytes}
use Rattle.net_lexer.specs.declared.tokens.Token.{Token}
use Rattle.net_build.specs.Blocks.{no_token}
use Rattle.std.proofs.Math.ListN.{get_or-append}
use Rattle.std.proofs.Math.Seq.{get_or-append_seam}
use Rattle.weight_scale.specs.Numeral.{numerator, denominator, IsLeastDecimalOf}
use Rattle.weight_scale.specs.declared.decimal.Decimal.{Decimal}
use Rattle.net_build.specs.Scaling.{AreDecimals, decimal_at}
use Rattle.net_build.specs.Zero.{nought}

split : (i n : ℕ) → i < n + 1 → (i < n) ⊎ (i ≡ n)
split i n h = grind arith

pub are_none : AreDecimals [] []
are_none = record { len = refl; each = λ i h. absurd (omega arith) }

pub are_more : (numerals : List (List ℕ)) (decimals : List Decimal) (numeral : List ℕ) (d : Decimal) → AreDecimals numerals decimals → IsLeastDecimalOf (numerator numeral) (denominator numeral) d → AreDecimals (numerals ++ numeral ∷ []) (decimals ++ d ∷ [])
are_more numerals decimals numeral d are this = record {
  len = omega (arith, are.len, length-append numerals (numeral ∷ []), length-append decimals (d ∷ []));
  each = λ i h. at i (by_place i h);
} where
  by_place : (i : ℕ) → i < length (numerals ++ numeral ∷ []) → (i < length numerals) ⊎ (i ≡ length numerals)
  by_place i h = split i (length numerals) (let l = length-append numerals (numeral ∷ []) in omega arith)

  at : (i : ℕ) → (i < length numerals) ⊎ (i ≡ length numerals) → IsLeastDecimalOf (numerator (get_or (numerals ++ numeral ∷ []) i [])) (denominator (get_or (numerals ++ numeral ∷ []) i [])) (decimal_at (decimals ++ d ∷ []) i)
  at i (inl h) = rw (get_or-append numerals (numeral ∷ []) [] i h, get_or-append decimals (d ∷ []) nought i (omega (arith, are.len))) (are.each i h)
  at i (inr e) = rw (e, get_or-append_seam numerals numeral [] [], ← are.len, get_or-append_seam decimals d [] nought) this

-- one more item's numeral
pub map_more : {X : Type 0} (f : X → List ℕ) (xs : List X) (i : ℕ) (x : X) → i < length xs → x ≡ get_or xs i x → map f (take (i + 1) xs) ≡ map f (take i xs) ++ f x ∷ []
map_more f xs i x h is = ap (map f) (take_more xs i x h) ∙ map-append f (take i xs) (get_or xs i x ∷ []) ∙ ap (λ y. map f (take i xs) ++ f y ∷ []) (sym is)

-- the decimal of one more token
pub decimals_step : (text : List ℕ) (tokens : List Token) (ds new : List Decimal) (i : ℕ) (d : Decimal) → i < length tokens → AreDecimals (map (token_bytes text) (take i tokens)) ds → IsLeastDecimalOf (numerator (token_bytes text (get_or tokens i no_token))) (denominator (token_bytes text (get_or tokens i no_token))) d → new ≡ ds ++ d ∷ [] → AreDecimals (map (token_bytes text) (take (i + 1) tokens)) new
decimals_step text tokens ds new i d h are this is = rw (is, map_more (token_bytes text) tokens i (get_or tokens i no_token) h (get_or_default tokens i no_token (get_or tokens i no_token) h)) (are_more (map (token_bytes text) (take i tokens)) ds (token_bytes text (get_or tokens i no_token)) d are this)
