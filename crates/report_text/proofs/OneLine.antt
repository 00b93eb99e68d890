-- No piece of a report's line has the byte that ends one.
use Rattle.std.proofs.Common.{◌≡◌, ◌≢◌, ◌⊎◌, ℕ, zero, suc, ◌+◌, ◌<◌, ◌≤◌, ◌/◌, ◌%◌, List, [], ◌∷◌, ◌++◌, map, length, get_or, Bool, true, false, not, ◌||◌, cond, eqb, inl, inr, refl, sym, subst, arith}
use Rattle.std.specs.Prelude.{All, nat_lt, ℤ, pos, negsuc, codes, decimal, Option, Some, None}
use Rattle.std.specs.List.{flat_map}
use Rattle.std.specs.Fmt.{signed_decimal, digits, digits_onto, digit_glyph}
use Rattle.std.proofs.lemmas.Bool.{and_parts, cases_lt}
use Rattle.std.proofs.lemmas.List.{get_or_past}
use Rattle.std.proofs.lemmas.List.Elements.{All-nil}
use Rattle.maid_model.specs.declared.answers.Ratio.{Ratio}
use Rattle.maid_model.specs.declared.answers.Row.{Row}
use Rattle.maid_model.specs.Views.{NodeView}
use Rattle.maid_model.specs.Names.{NamesView, name_of, label_of, labels_of, agent_name}
use Rattle.maid_model.specs.Nodes.{agent_of, parents_of, states_of}
use Rattle.maid_model.specs.Reports.{IsOneLine, escaped, parent_states, quoted, ratio_text, spaced, state_labels, worth_text}
use Rattle.report_text.specs.Reading.{AreTold}
use Rattle.report_text.specs.Slots.{lacks, den_text, decision_words, gain_words, gain_front, order_words, row_front, row_words, state_text}
use Rattle.report_text.proofs.OneCut.{lacks_append, lacks_from}
use Rattle.report_text.proofs.InOrder.{lacks_all}

glyph_low : (n : ℕ) → 10 ≢ digit_glyph false (n % 10)
glyph_low n e = by_test (nat_lt (n % 10) 10) e
  where
    by_test : (t : Bool) → 10 ≡ cond t (48 + n % 10) (87 + n % 10) → ⊥
    by_test true e = omega arith
    by_test false e = omega arith

digits_have : (k n : ℕ) (acc : List ℕ) → lacks 10 acc ≡ true → lacks 10 (digits_onto k 10 false n acc) ≡ true
digits_have zero n acc l = l
digits_have (suc k) n acc l = by_test (eqb (n / 10) 0) (digits_have k (n / 10) (digit_glyph false (n % 10) ∷ acc) more) more
  where
    more : lacks 10 (digit_glyph false (n % 10) ∷ acc) ≡ true
    more = rw (lacks_from (digit_glyph false (n % 10)) 10 (λ e. glyph_low n (sym e))) l

    by_test : (t : Bool) → lacks 10 (digits_onto k 10 false (n / 10) (digit_glyph false (n % 10) ∷ acc)) ≡ true → lacks 10 (digit_glyph false (n % 10) ∷ acc) ≡ true → lacks 10 (cond t (digit_glyph false (n % 10) ∷ acc) (digits_onto k 10 false (n / 10) (digit_glyph false (n % 10) ∷ acc))) ≡ true
    by_test true rec one = one
    by_test false rec one = rec

pub decimal_line : (n : ℕ) → lacks 10 (decimal n) ≡ true
unfolding digits
decimal_line n = digits_have 64 n [] refl

signed_line : (z : ℤ) → lacks 10 (signed_decimal z) ≡ true
signed_line (pos n) = decimal_line n
signed_line (negsuc n) = decimal_line (suc n)

pub ratio_line : (r : Ratio) → lacks 10 (ratio_text r) ≡ true
ratio_line r = lacks_append 10 (signed_decimal r.num) (den_text r.den) (signed_line r.num) (by_test (eqb r.den 1))
  where
    by_test : (t : Bool) → lacks 10 (cond t [] (47 ∷ decimal r.den)) ≡ true
    by_test true = refl
    by_test false = decimal_line r.den

-- what stands in a list of such, or else nothing
pick : (lists : List (List ℕ)) → All IsOneLine lists → (k : ℕ) → lacks 10 (get_or lists k []) ≡ true
pick lists all k = by_place (cases_lt k (length lists))
  where
    by_place : (k < length lists) ⊎ (length lists ≤ k) → lacks 10 (get_or lists k []) ≡ true
    by_place (inl h) = lacks_all 10 (get_or lists k []) (all k [] h)
    by_place (inr h) = rw (get_or_past lists k [] h) refl

module _ (names : NamesView) (told : AreTold names) where
  name_line : (v : ℕ) → lacks 10 (name_of names v) ≡ true
  name_line v = pick names.nodes (λ k d h i e l. (told.words k d h i e l).0) v

  agent_line : (a : ℕ) → lacks 10 (agent_name names a) ≡ true
  agent_line a = pick names.agents told.agents a

  labels_lines : (v : ℕ) → All IsOneLine (labels_of names v)
  labels_lines v = by_place (cases_lt v (length names.labels))
    where
      by_place : (v < length names.labels) ⊎ (length names.labels ≤ v) → All IsOneLine (labels_of names v)
      by_place (inl h) = told.labels v [] h
      by_place (inr h) = subst (λ ls. All IsOneLine ls) (sym (get_or_past names.labels v [] h)) (All-nil IsOneLine)

  label_line : (v s : ℕ) → lacks 10 (label_of names v s) ≡ true
  label_line v s = pick (labels_of names v) (labels_lines v) s

  escaped_line : (bytes : List ℕ) → lacks 10 bytes ≡ true → lacks 10 (flat_map escaped bytes) ≡ true
  escaped_line [] l = refl
  escaped_line (b ∷ bytes) l = lacks_append 10 (escaped b) (flat_map escaped bytes) (by_test ((eqb b 34) || (eqb b 92))) (escaped_line bytes (and_parts (not (eqb b 10)) _ l).1)
    where
      one : lacks 10 (b ∷ []) ≡ true
      one = rw (and_parts (not (eqb b 10)) _ l).0 refl

      by_test : (t : Bool) → lacks 10 (cond t (92 ∷ b ∷ []) (b ∷ [])) ≡ true
      by_test true = one
      by_test false = one

  quoted_line : (bytes : List ℕ) → lacks 10 bytes ≡ true → lacks 10 (quoted bytes) ≡ true
  quoted_line bytes l = lacks_append 10 (34 ∷ flat_map escaped bytes) (34 ∷ []) (escaped_line bytes l) refl

  spaced_line : (list : List ℕ) → lacks 10 (spaced (map (name_of names) list)) ≡ true
  spaced_line [] = refl
  spaced_line (v ∷ list) = lacks_append 10 (32 ∷ name_of names v) (spaced (map (name_of names) list)) (name_line v) (spaced_line list)

  labels_line : (us ss : List ℕ) → lacks 10 (state_labels names us ss) ≡ true
  labels_line [] ss = refl
  labels_line (u ∷ us) [] = refl
  labels_line (u ∷ us) (s ∷ ss) = lacks_append 10 (32 ∷ quoted (label_of names u s)) (state_labels names us ss) (quoted_line (label_of names u s) (label_line u s)) (labels_line us ss)

  pub order_line : (order : List ℕ) → lacks 10 (order_words names order) ≡ true
  order_line order = lacks_append 10 (codes "order:") (spaced (map (name_of names) order)) refl (spaced_line order)

  pub gain_one_line : (agent : ℕ) (gain : Ratio) → lacks 10 (gain_words names agent gain) ≡ true
  gain_one_line agent gain = lacks_append 10 (gain_front names agent) (ratio_text gain) (lacks_append 10 (codes "agent " ++ quoted (agent_name names agent)) (codes " = ") (lacks_append 10 (codes "agent ") (quoted (agent_name names agent)) refl (quoted_line (agent_name names agent) (agent_line agent))) refl) (ratio_line gain)

  worth_line : (worth : Option Ratio) → lacks 10 (worth_text worth) ≡ true
  worth_line None = refl
  worth_line (Some r) = lacks_append 10 (codes " = ") (ratio_text r) refl (ratio_line r)

  state_line : (d choice : ℕ) → lacks 10 (state_text names d choice) ≡ true
  state_line d choice = lacks_append 10 (decimal (choice + 1)) (32 ∷ quoted (label_of names d choice)) (decimal_line (choice + 1)) (quoted_line (label_of names d choice) (label_line d choice))

  module _ (nodes : List NodeView) where
    pub decision_line : (d : ℕ) → lacks 10 (decision_words nodes names d) ≡ true
    decision_line d =
        let by = lacks_append 10 (codes "decision ") (name_of names d) refl (name_line d) in
        let of = lacks_append 10 (codes "decision " ++ name_of names d) (codes " by ") by refl in
        let agent = lacks_append 10 (codes "decision " ++ name_of names d ++ codes " by ") (quoted (agent_name names (agent_of nodes d))) of (quoted_line (agent_name names (agent_of nodes d)) (agent_line (agent_of nodes d))) in
        let sees = lacks_append 10 (codes "decision " ++ name_of names d ++ codes " by " ++ quoted (agent_name names (agent_of nodes d))) (codes " sees") agent refl in
        lacks_append 10 (codes "decision " ++ name_of names d ++ codes " by " ++ quoted (agent_name names (agent_of nodes d)) ++ codes " sees") (spaced (map (name_of names) (parents_of nodes d))) sees (spaced_line (parents_of nodes d))

    front_line : (d number : ℕ) → lacks 10 (row_front nodes names d number) ≡ true
    front_line d number =
        let labels = state_labels names (parents_of nodes d) (parent_states (states_of nodes) (parents_of nodes d) number) in
        let place = lacks_append 10 (codes "row ") (decimal (number + 1)) refl (decimal_line (number + 1)) in
        let colon = lacks_append 10 (codes "row " ++ decimal (number + 1)) (codes ":") place refl in
        let states = lacks_append 10 (codes "row " ++ decimal (number + 1) ++ codes ":") labels colon (labels_line (parents_of nodes d) (parent_states (states_of nodes) (parents_of nodes d) number)) in
        lacks_append 10 (codes "row " ++ decimal (number + 1) ++ codes ":" ++ labels) (codes " -> ") states refl

    pub row_one_line : (d number : ℕ) (row : Row) → lacks 10 (row_words nodes names d number row) ≡ true
    row_one_line d number row = lacks_append 10 (row_front nodes names d number) (state_text names d row.choice ++ worth_text row.worth) (front_line d number) (lacks_append 10 (state_text names d row.choice) (worth_text row.worth) (state_line d row.choice) (worth_line row.worth))
