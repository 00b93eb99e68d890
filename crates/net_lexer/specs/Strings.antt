-- Strings in quotes.
use Rattle.std.specs.Prelude.{ℕ, Bool, true, false, ◌&&◌, ◌||◌, List, [], ◌∷◌, Option, None, Some, is_none, if◌then◌else◌}
use Rattle.net_lexer.specs.Bytes.{is_quote, is_backslash}

-- a backslash, and behind it a quote or a backslash
abbrev pub is_escape : ℕ → ℕ → Bool
is_escape b c = is_backslash b && (is_quote c || is_backslash c)

-- what stands behind the first quote that isn't escaped, if there is one
abbrev pub behind_quote : List ℕ → Option (List ℕ)
behind_quote [] = None
behind_quote (b ∷ []) = if is_quote b then Some [] else None
behind_quote (b ∷ c ∷ bytes) = if is_quote b
    then Some (c ∷ bytes)
    else (if is_escape b c then behind_quote bytes else behind_quote (c ∷ bytes))

-- a quote, and nothing behind the next quote that isn't escaped
abbrev pub is_string : List ℕ → Bool
is_string [] = false
is_string (b ∷ bytes) = is_quote b && ends (behind_quote bytes) where
  ends : Option (List ℕ) → Bool
  ends (Some []) = true
  ends (Some (c ∷ after)) = false
  ends None = false

-- a quote, and behind it none that isn't escaped
abbrev pub is_open_string : List ℕ → Bool
is_open_string [] = false
is_open_string (b ∷ bytes) = is_quote b && is_none (behind_quote bytes)

-- the bytes with escapes undone: a backslash and a following quote or backslash mean the second of
-- them, and any other byte means itself
abbrev pub unescaped : List ℕ → List ℕ
unescaped [] = []
unescaped (b ∷ []) = b ∷ []
unescaped (b ∷ c ∷ bytes) = if is_escape b c then c ∷ unescaped bytes else b ∷ unescaped (c ∷ bytes)
