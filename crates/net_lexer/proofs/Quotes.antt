-- What stands behind a quote that isn't escaped.
use Rattle.std.proofs.Common.{◌≡◌, ◌≢◌, ◌≤◌, ◌-◌, ◌⊎◌, inl, inr, rules, tests, ℕ, List, [], ◌∷◌, ◌++◌, length, get_or, take, drop, Bool, true, false, None, Some, cond, refl, ap, sym, ◌∙◌, arith}
use Rattle.std.proofs.Math.Seq.{take-length}
use Rattle.std.proofs.lemmas.Bool.Decides.{nat_tests}
use Rattle.net_lexer.specs.Bytes.{is_quote}
use Rattle.net_lexer.specs.Strings.{behind_quote, unescaped, is_escape}

-- the bytes up to the quote, which stand there whatever is behind it
pub record Closes (bytes rest : List ℕ) : Type 0 where
  pub front : List ℕ
  pub parts : bytes ≡ front ++ rest
  pub ends : behind_quote front ≡ Some []

module _ (b c : ℕ) (bytes rest : List ℕ) where
  -- an escape before the quote
  behind_escape : is_quote b ≡ false → is_escape b c ≡ true → Closes bytes rest → Closes (b ∷ c ∷ bytes) rest
  behind_escape q e closes = record {
    front = b ∷ c ∷ closes.front;
    parts = ap (λ xs. b ∷ c ∷ xs) closes.parts;
    ends = rw (q, e) closes.ends;
  }

  -- a byte before the quote
  behind_byte : is_quote b ≡ false → is_escape b c ≡ false → (front : List ℕ) → c ∷ bytes ≡ front ++ rest → behind_quote front ≡ Some [] → Closes (b ∷ c ∷ bytes) rest
  behind_byte q e [] parts ends = cc
  behind_byte q e (d ∷ front) parts ends = let same : c ≡ d = cc in record {
    front = b ∷ d ∷ front;
    parts = ap (λ xs. b ∷ xs) parts;
    ends = rw (q, rw same at e) ends;
  }

  -- two bytes or more, by the first two
  two : (q e : Bool) → is_quote b ≡ q → is_escape b c ≡ e → (behind_quote bytes ≡ Some rest → Closes bytes rest) → (behind_quote (c ∷ bytes) ≡ Some rest → Closes (c ∷ bytes) rest) → behind_quote (b ∷ c ∷ bytes) ≡ Some rest → Closes (b ∷ c ∷ bytes) rest
  two true e q_is e_is short long h =
      let one : Some (c ∷ bytes) ≡ Some rest = rw q_is at h in
      record { front = b ∷ []; parts = ap (λ xs. b ∷ xs) (let same : c ∷ bytes ≡ rest = cc in same); ends = rw q_is refl }
  two false true q_is e_is short long h = behind_escape q_is e_is (short (rw (q_is, e_is) at h))
  two false false q_is e_is short long h =
      let closes = long (rw (q_is, e_is) at h) in
      behind_byte q_is e_is closes.front closes.parts closes.ends

-- where the quote is found, the bytes up to it end with it
pub closes : (bytes rest : List ℕ) → behind_quote bytes ≡ Some rest → Closes bytes rest
closes [] rest h = cc
closes (b ∷ []) rest h = one (is_quote b) refl h where
  one : (q : Bool) → is_quote b ≡ q → cond q (Some []) None ≡ Some rest → Closes (b ∷ []) rest
  one true q_is h = let none : [] ≡ rest = cc in record { front = b ∷ []; parts = ap (λ xs. b ∷ xs) none; ends = rw q_is refl }
  one false q_is h = cc
closes (b ∷ c ∷ bytes) rest h = two b c bytes rest (is_quote b) (is_escape b c) refl refl (λ e. closes bytes rest e) (λ e. closes (c ∷ bytes) rest e) h

-- more bytes at the end
pub behind_quote-append : (bytes rest after : List ℕ) → behind_quote bytes ≡ Some rest → behind_quote (bytes ++ after) ≡ Some (rest ++ after)
behind_quote-append [] rest after h = cc
behind_quote-append (b ∷ []) rest after h = one (is_quote b) refl h where
  alone : (after : List ℕ) → is_quote b ≡ true → behind_quote (b ∷ after) ≡ Some after
  alone [] e = rw e refl
  alone (c ∷ after) e = rw e refl

  one : (q : Bool) → is_quote b ≡ q → cond q (Some []) None ≡ Some rest → behind_quote (b ∷ after) ≡ Some (rest ++ after)
  one true e h = let none : [] ≡ rest = cc in rw (← none) (alone after e)
  one false e h = cc
behind_quote-append (b ∷ c ∷ bytes) rest after h = by_test (is_quote b) (is_escape b c) refl refl (λ e. behind_quote-append bytes rest after e) (λ e. behind_quote-append (c ∷ bytes) rest after e) h where
  by_test : (q e : Bool) → is_quote b ≡ q → is_escape b c ≡ e → (behind_quote bytes ≡ Some rest → behind_quote (bytes ++ after) ≡ Some (rest ++ after)) → (behind_quote (c ∷ bytes) ≡ Some rest → behind_quote (c ∷ (bytes ++ after)) ≡ Some (rest ++ after)) → cond q (Some (c ∷ bytes)) (cond e (behind_quote bytes) (behind_quote (c ∷ bytes))) ≡ Some rest → behind_quote (b ∷ c ∷ (bytes ++ after)) ≡ Some (rest ++ after)
  by_test true e q_is e_is short long h = let same : c ∷ bytes ≡ rest = cc in rw (q_is, ← same) refl
  by_test false true q_is e_is short long h = rw (q_is, e_is) (short h)
  by_test false false q_is e_is short long h = rw (q_is, e_is) (long h)

-- a byte that is no quote
plain : (b : ℕ) → b ≢ 34 → is_quote b ≡ false
plain b not_quote = search (rules, tests)

-- two bytes that are no escape
no_escape : (b c : ℕ) → (b ≡ 92 → (c ≢ 34) × (c ≢ 92)) → is_escape b c ≡ false
no_escape b c second = grind (arith, nat_tests)

-- as many of some bytes as there are
all_taken : (xs : List ℕ) (n : ℕ) → n ≡ length xs → take n xs ≡ xs
all_taken xs n e = rw (e, take-length xs) refl

-- behind an escape
pub past_escape : (xs : List ℕ) → 2 ≤ length xs → get_or xs 0 0 ≡ 92 → (get_or xs 1 0 ≡ 34) ⊎ (get_or xs 1 0 ≡ 92) → behind_quote (take (length xs - 2) (drop 2 xs)) ≡ behind_quote xs
past_escape [] long first second = absurd (omega (arith, long))
past_escape (b ∷ []) long first second = absurd (omega (arith, long))
past_escape (b ∷ c ∷ xs) long first second = ap behind_quote (all_taken xs _ (omega arith)) ∙ by_second second where
  by_second : (c ≡ 34) ⊎ (c ≡ 92) → behind_quote xs ≡ behind_quote (b ∷ c ∷ xs)
  by_second (inl quote) = rw (first, quote) refl
  by_second (inr backslash) = rw (first, backslash) refl

-- behind a byte that is neither a quote nor begins an escape
pub past_byte : (xs : List ℕ) → 1 ≤ length xs → get_or xs 0 0 ≢ 34 → (2 ≤ length xs → get_or xs 0 0 ≡ 92 → (get_or xs 1 0 ≢ 34) × (get_or xs 1 0 ≢ 92)) → behind_quote (take (length xs - 1) (drop 1 xs)) ≡ behind_quote xs
past_byte [] some first second = absurd (omega (arith, some))
past_byte (b ∷ []) some first second = rw (plain b first) refl
past_byte (b ∷ c ∷ xs) some first second =
    ap behind_quote (all_taken (c ∷ xs) _ (omega arith))
    ∙ rw (plain b first, no_escape b c (second (omega arith))) refl

-- an escape means its second byte
pub meant_escape : (xs : List ℕ) → 2 ≤ length xs → get_or xs 0 0 ≡ 92 → (get_or xs 1 0 ≡ 34) ⊎ (get_or xs 1 0 ≡ 92) → unescaped xs ≡ get_or xs 1 0 ∷ unescaped (take (length xs - 2) (drop 2 xs))
meant_escape [] long first second = absurd (omega (arith, long))
meant_escape (b ∷ []) long first second = absurd (omega (arith, long))
meant_escape (b ∷ c ∷ xs) long first second = by_second second ∙ ap (λ ys. c ∷ unescaped ys) (sym (all_taken xs _ (omega arith))) where
  by_second : (c ≡ 34) ⊎ (c ≡ 92) → unescaped (b ∷ c ∷ xs) ≡ c ∷ unescaped xs
  by_second (inl quote) = rw (first, quote) refl
  by_second (inr backslash) = rw (first, backslash) refl

-- a byte that begins no escape means itself
pub meant_byte : (xs : List ℕ) → 1 ≤ length xs → (2 ≤ length xs → get_or xs 0 0 ≡ 92 → (get_or xs 1 0 ≢ 34) × (get_or xs 1 0 ≢ 92)) → unescaped xs ≡ get_or xs 0 0 ∷ unescaped (take (length xs - 1) (drop 1 xs))
meant_byte [] some second = absurd (omega (arith, some))
meant_byte (b ∷ []) some second = refl
meant_byte (b ∷ c ∷ xs) some second =
    rw (no_escape b c (second (omega arith))) refl
    ∙ ap (λ ys. b ∷ unescaped ys) (sym (all_taken (c ∷ xs) _ (omega arith)))
