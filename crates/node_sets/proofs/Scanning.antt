-- The lowest bit of a word from a place on is the first node of a set from there on.
use Rattle.std.proofs.Common.{◌≡◌, ℕ, zero, suc, ◌+◌, ◌-◌, ◌*◌, ◌/◌, ◌%◌, ◌^◌, ◌<◌, ◌≤◌, List, length, get_or, ◌⊎◌, inl, inr, sym, ap, subst, ◌∙◌, arith}
use Rattle.std.specs.Int.{bit_at}
use Rattle.std.proofs.lemmas.Nat.Bits.{bit_at_cat_high, bit_at_above, bit_at-zero}
use Rattle.std.proofs.lemmas.List.{get_or_past}
use Rattle.node_sets.specs.declared.sets.NodeSet.{NodeSet}
use Rattle.node_sets.specs.Sets.{holds, IsIn, IsFirstFrom}
use Rattle.node_sets.proofs.Bits.{set_is, is_set}

power_positive : (s : ℕ) → 0 < 2 ^ s
power_positive zero = grind arith
power_positive (suc s) = let h = power_positive s in grind arith

-- a bit of a word that was shifted down
pub shifted_bit : (n s i : ℕ) → bit_at (n / 2 ^ s) i ≡ bit_at n (s + i)
shifted_bit n s i =
    let positive : 0 < 2 ^ s = power_positive s in
    let below : n % 2 ^ s < 2 ^ s = omega arith in
    let whole : n / 2 ^ s * 2 ^ s + n % 2 ^ s ≡ n = grind arith in
    let place : (s + i) - s ≡ i = omega arith in
    sym (ap (λ m. bit_at m (s + i)) (sym whole) ∙ bit_at_cat_high (n / 2 ^ s) s (n % 2 ^ s) (s + i) below (omega arith) ∙ ap (λ j. bit_at (n / 2 ^ s) j) place)

-- nothing is held between the two places
abbrev pub NoneBetween : NodeSet → ℕ → ℕ → Type 0
NoneBetween set from to = (w : ℕ) → from ≤ w → w < to → IsIn set w → ⊥

module _ (words : List ℕ) (place : ℕ) (fits : get_or words (place / 64) 0 < 2 ^ 64) where
  abbrev set : NodeSet
  set = record { words = words }

  abbrev rest : ℕ
  rest = get_or words (place / 64) 0 / 2 ^ (place % 64)

  -- the test of a node in the same word
  in_word : (i : ℕ) → place % 64 + i < 64 → IsIn set (place + i) → bit_at rest i ≡ 1
  unfolding holds
  in_word i near m =
      let word : (place + i) / 64 ≡ place / 64 = omega arith in
      let bit : (place + i) % 64 ≡ place % 64 + i = omega arith in
      shifted_bit (get_or words (place / 64) 0) (place % 64) i ∙ sym (ap (λ j. bit_at (get_or words (place / 64) 0) j) bit) ∙ sym (ap (λ j. bit_at (get_or words j 0) ((place + i) % 64)) word) ∙ is_set _ m

  in_set : (i : ℕ) → place % 64 + i < 64 → bit_at rest i ≡ 1 → IsIn set (place + i)
  unfolding holds
  in_set i near e =
      let word : (place + i) / 64 ≡ place / 64 = omega arith in
      let bit : (place + i) % 64 ≡ place % 64 + i = omega arith in
      set_is _ (ap (λ j. bit_at (get_or words j 0) ((place + i) % 64)) word ∙ ap (λ j. bit_at (get_or words (place / 64) 0) j) bit ∙ sym (shifted_bit (get_or words (place / 64) 0) (place % 64) i) ∙ e)

  -- a bit that is set stands in the word
  in_reach : (i : ℕ) → bit_at rest i ≡ 1 → place % 64 + i < 64
  in_reach i e = elim (le_or_lt 64 (place % 64 + i)) as (λ _. place % 64 + i < 64) [
    | inl far ↦ let z = sym e ∙ shifted_bit (get_or words (place / 64) 0) (place % 64) i ∙ bit_at_above _ 64 _ fits far in absurd (omega arith)
    | inr near ↦ near
  ]
    where
      le_or_lt : (a b : ℕ) → (a ≤ b) ⊎ (b < a)
      le_or_lt a b = grind arith

  pub first_found : (from low : ℕ) → from ≤ place → place < 256 → NoneBetween set from place → bit_at rest low ≡ 1 → ((i : ℕ) → i < low → bit_at rest i ≡ 0) → IsFirstFrom set from (place + low)
  first_found from low a b none here before =
      let near : place % 64 + low < 64 = in_reach low here in
      record {
        not_before = omega arith;
        small = omega arith;
        inside = in_set low near here;
        first = λ w l m h. elim (before_or_from w) as (λ _. ⊥) [
          | inl f ↦ none w l f h
          | inr f ↦
              let i = w - place in
              let there : w ≡ place + i = omega arith in
              let close : place % 64 + i < 64 = omega arith in
              let one = in_word i close (subst (IsIn set) there h) in
              let nought = before i (omega arith) in
              absurd (omega arith)
        ];
      }
    where
      before_or_from : (w : ℕ) → (w < place) ⊎ (place ≤ w)
      before_or_from w = grind arith

  pub none_in_word : (from : ℕ) → NoneBetween set from place → rest ≡ 0 → NoneBetween set from ((place / 64 + 1) * 64)
  none_in_word from none e w l m h = elim (before_or_from w) as (λ _. ⊥) [
    | inl f ↦ none w l f h
    | inr f ↦
        let i = w - place in
        let there : w ≡ place + i = omega arith in
        let close : place % 64 + i < 64 = omega arith in
        let one = in_word i close (subst (IsIn set) there h) in
        let nought = ap (λ r. bit_at r i) e ∙ bit_at-zero i in
        absurd (omega arith)
  ]
    where
      before_or_from : (w : ℕ) → (w < place) ⊎ (place ≤ w)
      before_or_from w = grind arith

-- no node of 256 or more is in a set
pub none_past : (set : NodeSet) → length set.words ≡ 4 → (v : ℕ) → 256 ≤ v → IsIn set v → ⊥
unfolding holds
none_past set four v far m =
    let past : length set.words ≤ v / 64 = omega arith in
    let one = is_set _ m in
    let nought = ap (λ word. bit_at word (v % 64)) (get_or_past set.words (v / 64) 0 past) ∙ bit_at-zero (v % 64) in
    absurd (omega arith)

-- a word from its own start is whole
pub whole_word : (words : List ℕ) (i : ℕ) → get_or words ((64 * i) / 64) 0 / 2 ^ ((64 * i) % 64) ≡ get_or words i 0
whole_word words i =
    let at : (64 * i) / 64 ≡ i = omega arith in
    let start : (64 * i) % 64 ≡ 0 = omega arith in
    ap (λ j. get_or words j 0 / 2 ^ ((64 * i) % 64)) at ∙ ap (λ j. get_or words i 0 / 2 ^ j) start ∙ one (get_or words i 0)
  where
    one : (n : ℕ) → n / 1 ≡ n
    one n = omega arith

-- where the word of a place has nothing from there on, nothing is held up to the next word
pub next_word : (words : List ℕ) (place from : ℕ) → get_or words (place / 64) 0 < 2 ^ 64 → NoneBetween (record { words = words }) from place → get_or words (place / 64) 0 / 2 ^ (place % 64) ≡ 0
    → NoneBetween (record { words = words }) from (64 * (place / 64 + 1))
next_word words place from fits none e = λ w l m. none_in_word words place fits from none e w l (omega arith)
