-- The diagram that a text stands for is plain: its tables' totals and its decimals are the least.
use Rattle.std.proofs.Common.{◌≡◌, ◌⊎◌, inl, inr, ◌<◌, ◌≤◌, ◌+◌, ◌*◌, ◌/◌, ◌^◌, ℕ, zero, suc, ℤ, pos, negsuc, ◌+ℤ◌, ◌*ℤ◌, nat_abs, unsigned_abs, List, [], ◌∷◌, ◌++◌, All, length, get_or, map, take, drop, sum, None, refl, sym, ap, subst, ◌∙◌, arith}
use Rattle.std.specs.Int.{◌∣◌}
use Rattle.std.specs.List.{flat_map, range_with_len}
use Rattle.std.specs.Option.{option_map_or}
use Rattle.std.proofs.Math.Nat.{div-mul_cancel, mul-div_cancel, mul-div_cancel', pos_of_dvd_of_pos, dvd-mul_left, dvd-mul_right, zero-mul, mul-le-mul_right, eq_of_mul-eq-mul_right}
use Rattle.std.proofs.Math.Seq.{take-add}
use Rattle.std.proofs.lemmas.Bool.{cases_lt}
use Rattle.std.proofs.lemmas.Int.{ints}
use borrow.Author.Differences.{up, down}
use Rattle.std.proofs.lemmas.List.{get_or-map, get_or_past, length-map, length-take-le, take_all, drop-drop, get_or-take}
use Rattle.std.proofs.lemmas.List.Sums.{sum_by-cons}
use Rattle.maid_model.specs.declared.diagrams.Kind.{Kind}
use Rattle.maid_model.specs.declared.diagrams.Kind.TheVariants as model
use Rattle.maid_model.specs.Diagrams.{IsDiagram}
use Rattle.maid_model.specs.Names.{NamesView}
use Rattle.maid_model.specs.Nodes.{no_node, node_at, states_of, rows_of}
use Rattle.finite_sums.specs.Sums.{sum_below}
use Rattle.maid_model.specs.Views.{NodeView, DiagramView}
use Rattle.net_lexer.specs.Token.{token_bytes}
use Rattle.net_lexer.specs.declared.tokens.Token.{Token}
use Rattle.net_parser.specs.Owned.{IsBlockOf}
use Rattle.net_parser.specs.Trees.{BlockTree}
use Rattle.weight_scale.specs.Numeral.{numerator, denominator}
use Rattle.weight_scale.specs.Scaling as scaling
use Rattle.weight_scale.specs.Scaling.{row_at, raised_row, IsScaled, IsCommonTotal}
use Rattle.weight_scale.specs.Views.{ScaledView}
use Rattle.weight_scale.specs.declared.decimal.Decimal.{Decimal}
use Rattle.net_build.specs.Blocks.{node_blocks, kind_of, block_states as block_states, data_of, leaves_of, block_numbers}
use Rattle.net_build.specs.Building.{StandsFor, AreUtilityCells, IsTableFrom}
use Rattle.net_build.specs.Plain.{reduced_row, reduced_rows, AreEnough, IsPlain}
use Rattle.net_build.specs.Scaling.{IsScaledBy, IsWholeBy}
use Rattle.net_build.specs.Table.{node_pass, potential_pass, utility_numbers, no_block}
use Rattle.net_build.proofs.MadeDiagram.{rows_positive}
use Rattle.net_build.proofs.RowDivisors.{reduced_again}
use Rattle.net_build.proofs.ScaleLemmas.{tens_positive}
use Rattle.net_build.proofs.TableFacts.{values_of_nodes}

-- ---- chance totals
map_map : {X Y Z : Type 0} (g : Y → Z) (f : X → Y) (xs : List X) → map g (map f xs) ≡ map (λ x. g (f x)) xs
map_map g f [] = refl
map_map g f (x ∷ xs) = ap (λ l. g (f x) ∷ l) (map_map g f xs)

quotient_positive : (b g : ℕ) → 0 < b → g ∣ b → 0 < b / g
quotient_positive b g h d = pos_of_dvd_of_pos (subst (λ z. b / g ∣ z) (div-mul_cancel g d) (dvd-mul_right (b / g) g)) h

sum_below_same : (n : ℕ) (f g : ℕ → ℤ) → ((i : ℕ) → i < n → f i ≡ g i) → sum_below n f ≡ sum_below n g
sum_below_same zero f g e = refl
sum_below_same (suc n) f g e = ap (λ a. a +ℤ f n) (sum_below_same n f g (λ i l. e i (omega (arith, l)))) ∙ ap (λ a. sum_below n g +ℤ a) (e n (omega arith))

sum_below_front : (n : ℕ) (f : ℕ → ℤ) → sum_below (suc n) f ≡ f 0 +ℤ sum_below n (λ i. f (suc i))
sum_below_front zero f = swap (f 0) where
  swap : (a : ℤ) → pos 0 +ℤ a ≡ a +ℤ pos 0
  swap a = omega (arith, ints)
sum_below_front (suc n) f = ap (λ a. a +ℤ f (suc n)) (sum_below_front n f) ∙ regroup (f 0) (sum_below n (λ i. f (suc i))) (f (suc n)) where
  regroup : (a b c : ℤ) → (a +ℤ b) +ℤ c ≡ a +ℤ (b +ℤ c)
  regroup a b c = omega (arith, ints)

-- the cells of a row times a factor add up to its sum times the factor
sum_of_row : (factor : ℕ) (xs : List ℕ) → sum_below (length xs) (λ i. get_or (map (λ x. pos (x * factor)) xs) i (pos 0)) ≡ pos (sum xs * factor)
sum_of_row factor [] = ap pos (sym (zero-mul factor))
sum_of_row factor (x ∷ xs) =
    sum_below_front (length xs) (λ i. get_or (map (λ y. pos (y * factor)) (x ∷ xs)) i (pos 0))
    ∙ ap (λ a. pos (x * factor) +ℤ a) (sum_of_row factor xs) ∙ ap pos (join x (sum xs) factor) ∙ ap (λ n. pos (n * factor)) (sym (sum_by-cons (λ n. n) x xs))
  where
    join : (a b f : ℕ) → a * f + b * f ≡ (a + b) * f
    join a b f = omega arith

-- A scaled row reduced again is the reduced row from which it was made.
module _ (ds : List Decimal) (states rows : ℕ) (scaled : ScaledView) (is : IsScaled ds states scaled) (some : 0 < states) (count : length ds ≡ rows * states) where
  rows_are : length ds / states ≡ rows
  rows_are = ap (λ n. n / states) count ∙ mul-div_cancel rows some

  near : (r : ℕ) → r < rows → r < length ds / states
  near r l = subst (λ n. r < n) (sym rows_are) l

  abbrev row : ℕ → List ℕ
  row r = row_at states is.reduced r

  abbrev factor : ℕ → ℕ
  factor r = scaled.total / sum (row r)

  row_again : (r : ℕ) → r < rows → reduced_row (map unsigned_abs (row_at states scaled.weights r)) ≡ row r
  row_again r l =
      let total = is.common.multiple r (near r l) in
      ap (λ (ws : List ℤ). reduced_row (map unsigned_abs ws)) (is.row r (near r l)) ∙ ap reduced_row (map_map unsigned_abs (λ x. pos (x * factor r)) (row r))
      ∙ reduced_again (raised_row states ds r) (row r) (factor r) (is.rows_reduced.row r (near r l)) (pos_of_dvd_of_pos total is.common.positive) (quotient_positive scaled.total (sum (row r)) is.common.positive total)

  rows_from : (n a : ℕ) → a + n ≤ rows → flat_map (λ r. reduced_row (map unsigned_abs (row_at states scaled.weights r))) (range_with_len a n) ≡ take (n * states) (drop (a * states) is.reduced)
  rows_from zero a l = ap (λ k. take k (drop (a * states) is.reduced)) (sym (zero-mul states))
  rows_from (suc n) a l =
      (λ j. row_again a (omega (arith, l)) j ++ rows_from n (a + 1) (omega (arith, l)) j)
      ∙ ap (λ xs. row a ++ take (n * states) xs) (ap (λ k. drop k is.reduced) (next a states) ∙ sym (drop-drop states (a * states) is.reduced))
      ∙ sym (take-add states (n * states) (drop (a * states) is.reduced))
      ∙ ap (λ k. take k (drop (a * states) is.reduced)) (one_more n states)
    where
      next : (a states : ℕ) → (a + 1) * states ≡ a * states + states
      next a states = omega arith

      one_more : (n states : ℕ) → states + n * states ≡ suc n * states
      one_more n states = omega arith

  reduced_are : reduced_rows states rows scaled.weights ≡ is.reduced
  reduced_are = rows_from rows 0 (omega arith) ∙ ap (λ k. take (rows * states) (drop k is.reduced)) (zero-mul states) ∙ take_all (rows * states) is.reduced (omega (arith, is.rows_reduced.len, count))

  total_is : 0 < rows → nat_abs (sum_below states (λ s. get_or scaled.weights s (pos 0))) ≡ scaled.total
  total_is more = ap nat_abs
      (sum_below_same states (λ s. get_or scaled.weights s (pos 0)) (λ s. get_or (scaling.multiplied_row scaled.total (row 0)) s (pos 0)) (λ s l. first s l)
      ∙ ap (λ n. sum_below n (λ s. get_or (scaling.multiplied_row scaled.total (row 0)) s (pos 0))) (sym row_states)
      ∙ sum_of_row (factor 0) (row 0) ∙ ap pos (mul-div_cancel' (sum (row 0)) (is.common.multiple 0 (near 0 more))))
    where
      start : 0 * states ≡ 0
      start = zero-mul states

      first : (s : ℕ) → s < states → get_or scaled.weights s (pos 0) ≡ get_or (scaling.multiplied_row scaled.total (row 0)) s (pos 0)
      first s l = sym (get_or-take states scaled.weights s (pos 0) l) ∙ ap (λ k. get_or (take states (drop k scaled.weights)) s (pos 0)) (sym start) ∙ ap (λ (ws : List ℤ). get_or ws s (pos 0)) (is.row 0 (near 0 more))

      row_states : length (row 0) ≡ states
      row_states = ap (λ k. length (take states (drop k is.reduced))) start ∙ length-take-le states is.reduced (omega (arith, mul-le-mul_right {m = 1} {n = rows} states more, is.rows_reduced.len, count))

  common_is : 0 < rows → IsCommonTotal (reduced_rows states rows scaled.weights) states rows (nat_abs (sum_below states (λ s. get_or scaled.weights s (pos 0))))
  common_is more = subst (λ (T : Type 0). T) (λ j. IsCommonTotal (sym reduced_are j) states (rows_are j) (sym (total_is more) j)) is.common

-- ---- decimals
-- a common factor of two fractions' equation is dropped
cross : (yu yd xu xd nu nd den p w : ℕ) → 0 < p → xu * den + nd * p ≡ nu * p + xd * den → yu * p + xd * w ≡ xu * w + yd * p → yu * den + nd * w ≡ nu * w + yd * den
cross yu yd xu xd nu nd den p w some e q = eq_of_mul-eq-mul_right p some (yu * den + nd * w) (nu * w + yd * den) (omega (arith, ap (λ z. z * w) e, ap (λ z. z * den) q))

negative_part : (n p w q : ℕ) → q * p ≡ suc n * w → (y : ℤ) × (y *ℤ pos p ≡ negsuc n *ℤ pos w)
negative_part n p w zero e = (pos 0, omega (arith, ints, e))
negative_part n p w (suc q) e = (negsuc q, omega (arith, ints, e))

pub whole_part : (x : ℤ) (p w : ℕ) → p ∣ nat_abs x * w → (y : ℤ) × (y *ℤ pos p ≡ x *ℤ pos w)
whole_part (pos n) p w d = (pos (n * w / p), let q = div-mul_cancel p d in omega (arith, ints, q))
whole_part (negsuc n) p w d = negative_part n p w (suc n * w / p) (div-mul_cancel p d)

-- where so many decimals are enough for the cell, the numeral's value is whole by them
whole_by_less : (numeral : List ℕ) (x : ℤ) (k w : ℕ) → IsScaledBy k numeral x → (10 ^ k) ∣ nat_abs x * 10 ^ w → IsWholeBy w numeral
whole_by_less numeral x k w is d = by_part (whole_part x (10 ^ k) (10 ^ w) d) where
  by_ints : (x y num : ℤ) (den p w : ℕ) → 0 < p → x *ℤ pos den ≡ (num *ℤ pos p) *ℤ pos 1 → y *ℤ pos p ≡ x *ℤ pos w → y *ℤ pos den ≡ (num *ℤ pos w) *ℤ pos 1
  by_ints x y num den p w some e q =
      let one : up x * den + down num * p ≡ up num * p + down x * den = omega (arith, ints, e) in
      let two : up y * p + down x * w ≡ up x * w + down y * p = omega (arith, ints, q) in
      let both = cross (up y) (down y) (up x) (down x) (up num) (down num) den p w some one two in
      omega (arith, ints, both)

  by_part : (y : ℤ) × (y *ℤ pos (10 ^ k) ≡ x *ℤ pos (10 ^ w)) → IsWholeBy w numeral
  by_part (y, q) = (y, by_ints x y (numerator numeral) (denominator numeral) (10 ^ k) (10 ^ w) (tens_positive k) is q)

-- ---- both
module _ (text : List ℕ) (blocks : List BlockTree) (own : All (IsBlockOf text) blocks) (node_none : node_pass text blocks None) (potential_none : potential_pass text blocks None) (d : DiagramView) (names : NamesView) (stands : StandsFor text blocks d names) where
  abbrev nodes : List BlockTree
  nodes = node_blocks blocks

  abbrev block_at : ℕ → BlockTree
  block_at v = get_or nodes v no_block

  abbrev numerals_at : ℕ → List (List ℕ)
  numerals_at v = map (token_bytes text) (block_numbers text blocks (block_at v))

  count_is : length d.nodes ≡ length nodes
  count_is = sym (length-map d.nodes (λ n. n.kind)) ∙ ap length stands.kinds ∙ length-map nodes (λ b. kind_of b.kind)

  kind_here : (v : ℕ) → v < length nodes → (node_at d.nodes v).kind ≡ kind_of (block_at v).kind
  kind_here v h = sym (get_or-map (λ n. n.kind) d.nodes v no_node model.Utility (omega (arith, h, count_is))) ∙ ap (λ ks. get_or ks v model.Utility) stands.kinds ∙ get_or-map (λ b. kind_of b.kind) nodes v no_block model.Utility h

  states_here : (v : ℕ) → v < length nodes → states_of d.nodes v ≡ block_states text (block_at v)
  states_here v h = sym (get_or-map (λ n. n.states) d.nodes v no_node 1 (omega (arith, h, count_is))) ∙ ap (λ ns. get_or ns v 1) stands.states ∙ get_or-map (block_states text) nodes v no_block 1 h

  table_here : (v : ℕ) → v < length nodes → IsTableFrom (node_at d.nodes v).kind d.decimals (states_of d.nodes v) (numerals_at v) (node_at d.nodes v).cells
  table_here v h =
      let within : v < length d.nodes = omega (arith, h, count_is) in
      subst (λ (T : Type 0). T) (λ j. IsTableFrom (sym (kind_here v h) j) d.decimals (sym (states_here v h) j) (numerals_at v) (get_or-map (λ n. n.cells) d.nodes v no_node [] within j))
      (stands.tables.each v (subst (λ n. v < n) (sym (length-map d.nodes (λ n. n.cells))) within))

  within_nodes : (v : ℕ) → (node_at d.nodes v).kind ≡ model.Chance → v < length nodes
  within_nodes v kind = by_place (cases_lt v (length d.nodes)) where
    by_place : (v < length d.nodes) ⊎ (length d.nodes ≤ v) → v < length nodes
    by_place (inl h) = omega (arith, h, count_is)
    by_place (inr h) = let clash : model.Utility ≡ model.Chance = sym (ap (λ (n : NodeView). n.kind) (get_or_past d.nodes v no_node h)) ∙ kind in absurd (differ clash) where
      differ : model.Utility ≡ model.Chance → ⊥
      differ e = cc

  -- the numbers of a utility are whole by as many decimals as are enough for its cells
  cells_whole : (w : ℕ) (tokens : List Token) (cells : List ℤ) → AreUtilityCells d.decimals (map (token_bytes text) tokens) cells → All (λ x. (10 ^ d.decimals) ∣ nat_abs x * 10 ^ w) cells → All (λ t. IsWholeBy w (token_bytes text t)) tokens
  cells_whole w tokens cells are enough i t l =
      let within : i < length cells = omega (arith, l, are.len, length-map tokens (token_bytes text)) in
      whole_by_less (token_bytes text (get_or tokens i t)) (get_or cells i (pos 0)) d.decimals w (subst (λ n. IsScaledBy d.decimals n (get_or cells i (pos 0))) (get_or-map (token_bytes text) tokens i t [] l) (are.each i within)) (enough i (pos 0) within)

  all_whole : (w : ℕ) → AreEnough d w → All (λ t. IsWholeBy w (token_bytes text t)) (utility_numbers text blocks)
  all_whole w enough = values_of_nodes text blocks own node_none potential_none (λ t. IsWholeBy w (token_bytes text t)) (λ v p h kind found.
      let its = kind_here v h ∙ kind in
      let table = subst (λ (k : Kind). IsTableFrom k d.decimals (states_of d.nodes v) (numerals_at v) (node_at d.nodes v).cells) its (table_here v h) in
      let here = subst (λ o. AreUtilityCells d.decimals (map (token_bytes text) (option_map_or (λ q. leaves_of (data_of text q)) o [])) (node_at d.nodes v).cells) found table in
      cells_whole w (leaves_of (data_of text p)) (node_at d.nodes v).cells here (enough v its))

  -- the least decimals of all utilities are the scale, and the reduced rows are those of the
  -- scaling
  pub stands_plain : IsDiagram d → IsPlain d
  stands_plain diagram = record {
    weights = λ v kind.
        let h = within_nodes v kind in
        let chance = subst (λ (k : Kind). IsTableFrom k d.decimals (states_of d.nodes v) (numerals_at v) (node_at d.nodes v).cells) kind (table_here v h) in
        let some : 0 < rows_of d.nodes v = rows_positive (states_of d.nodes) diagram.graph.has_state (node_at d.nodes v).parents in
        let count = sym chance.3.len ∙ sym (ap length chance.4) ∙ (diagram.tables.table v kind).len in
        subst (λ (cells : List ℤ). IsCommonTotal (reduced_rows (states_of d.nodes v) (rows_of d.nodes v) cells) (states_of d.nodes v) (rows_of d.nodes v) (nat_abs (sum_below (states_of d.nodes v) (λ s. get_or cells s (pos 0))))) (sym chance.4)
        (common_is chance.0 (states_of d.nodes v) (rows_of d.nodes v) chance.1 chance.3 (diagram.graph.has_state v) count some);
    decimals = (λ v kind i x l. dvd-mul_left (10 ^ d.decimals) (nat_abs (get_or (node_at d.nodes v).cells i x)), λ w less enough. stands.scale.1 w less (all_whole w enough));
  }
