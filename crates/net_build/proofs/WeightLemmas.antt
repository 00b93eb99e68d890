-- What the rows of a chance table find, by its decimals.
use Rattle.std.proofs.Common.{◌≡◌, ◌<◌, ◌+◌, ◌-◌, ◌*◌, ◌/◌, ◌^◌, ℕ, zero, suc, ℤ, pos, negsuc, ◌*ℤ◌, ◌<ℤ◌, ◌≤ℤ◌, unsigned_abs, List, [], ◌∷◌, All, length, map, take, drop, sum, refl, sym, ap, subst, ◌∙◌, arith}
use Rattle.std.specs.Int.{◌∣◌}
use Rattle.std.proofs.Math.Nat.{mul-pos, eq_of_mul-eq-mul_right, zero-mul}
use Rattle.std.proofs.lemmas.Int.{ints}
use Rattle.std.proofs.lemmas.List.Sums.{sum_by-cons}
use Rattle.std.proofs.lemmas.List.{length-map, take-map}
use Rattle.std.proofs.lemmas.List.Elements.{All-cons}
use Rattle.std.proofs.lemmas.Nat.Gcd.{dvd_antisymm}
use Rattle.std.specs.List.{drop-map}
use Rattle.net_lexer.specs.Token.{token_bytes}
use Rattle.net_lexer.specs.declared.tokens.Token.{Token}
use Rattle.weight_scale.specs.declared.decimal.Decimal.{Decimal}
use Rattle.weight_scale.specs.Numeral.{numerator, denominator, IsLeastDecimalOf}
use Rattle.weight_scale.specs.Scaling as scaling
use Rattle.weight_scale.specs.Scaling.{row_at, raised_row, IsReducedRow, IsScaled, IsTooWide}
use Rattle.weight_scale.specs.Views.{ScaledView}
use Rattle.net_build.specs.Scaling.{AreDecimals}
use Rattle.net_build.proofs.ScaleLemmas.{tens_positive, tens_split, den_positive, sizes}

-- the decimals of these tokens, one after another
abbrev pub AreWritten : List ℕ → List Token → List Decimal → Type 0
AreWritten text [] [] = Unit {0}
AreWritten text [] (d ∷ ds) = ⊥
AreWritten text (t ∷ ts) [] = ⊥
AreWritten text (t ∷ ts) (d ∷ ds) = IsLeastDecimalOf (numerator (token_bytes text t)) (denominator (token_bytes text t)) d × AreWritten text ts ds

pub written : (text : List ℕ) (ts : List Token) (ds : List Decimal) → AreDecimals (map (token_bytes text) ts) ds → AreWritten text ts ds
written text [] [] are = tt
written text [] (d ∷ ds) are = absurd (omega (arith, are.len))
written text (t ∷ ts) [] are = absurd (omega (arith, are.len))
written text (t ∷ ts) (d ∷ ds) are = (are.each 0 (omega arith), written text ts ds (record { len = omega (arith, are.len); each = λ i h. are.each (suc i) (omega arith) }))

written_take : (text : List ℕ) (n : ℕ) (ts : List Token) (ds : List Decimal) → AreWritten text ts ds → AreWritten text (take n ts) (take n ds)
written_take text zero ts ds h = tt
written_take text (suc n) [] [] h = tt
written_take text (suc n) [] (d ∷ ds) h = absurd h
written_take text (suc n) (t ∷ ts) [] h = absurd h
written_take text (suc n) (t ∷ ts) (d ∷ ds) h = (h.0, written_take text n ts ds h.1)

written_drop : (text : List ℕ) (n : ℕ) (ts : List Token) (ds : List Decimal) → AreWritten text ts ds → AreWritten text (drop n ts) (drop n ds)
written_drop text zero ts ds h = h
written_drop text (suc n) [] [] h = tt
written_drop text (suc n) [] (d ∷ ds) h = absurd h
written_drop text (suc n) (t ∷ ts) [] h = absurd h
written_drop text (suc n) (t ∷ ts) (d ∷ ds) h = written_drop text n ts ds h.1

pub written_row : (text : List ℕ) (states r : ℕ) (ts : List Token) (ds : List Decimal) → AreWritten text ts ds → AreWritten text (row_at states ts r) (row_at states ds r)
written_row text states r ts ds h = written_take text states (drop (r * states) ts) (drop (r * states) ds) (written_drop text (r * states) ts ds h)

-- the signs of a fraction's two forms
negative_by : (m num : ℤ) (den p : ℕ) → 0 < den → 0 < p → m *ℤ pos den ≡ num *ℤ pos p → m <ℤ pos 0 → num <ℤ pos 0
negative_by (pos a) num den p some more e h = absurd (omega (arith, ints, h))
negative_by (negsuc a) (negsuc b) den p some more e h = omega (arith, ints)
negative_by (negsuc a) (pos b) den p some more e h = absurd (omega (arith, ints, e, mul-pos {m = suc a} {n = den} (omega arith) some))

nought_by : (m num den p : ℕ) → 0 < den → m * den ≡ num * p → num ≡ 0 → m ≡ 0
nought_by m num den p some e none = eq_of_mul-eq-mul_right den some m 0 (e ∙ ap (λ x. x * p) none ∙ zero-mul p ∙ sym (zero-mul den))

pub not_below : (x : ℤ) → pos 0 ≤ℤ x → x <ℤ pos 0 → ⊥
not_below x h l = omega (arith, ints, h, l)

-- a numeral below nought, by its decimal
pub negative_number : (numeral : List ℕ) (d : Decimal) → IsLeastDecimalOf (numerator numeral) (denominator numeral) d → d.m <ℤ pos 0 → numerator numeral <ℤ pos 0
negative_number numeral d is h = negative_by d.m (numerator numeral) (denominator numeral) (10 ^ d.k) (den_positive numeral) (tens_positive d.k) is.value h

pub negative_decimal : (numeral : List ℕ) (d : Decimal) → IsLeastDecimalOf (numerator numeral) (denominator numeral) d → numerator numeral <ℤ pos 0 → d.m <ℤ pos 0
negative_decimal numeral d is h = negative_by (numerator numeral) d.m (10 ^ d.k) (denominator numeral) (tens_positive d.k) (den_positive numeral) (sym is.value) h

is_nought : (x : ℤ) → unsigned_abs x ≡ 0 → x ≡ pos 0
is_nought (pos n) e = ap pos e
is_nought (negsuc n) e = absurd (omega (arith, e))

pub nought_number : (numeral : List ℕ) (d : Decimal) → IsLeastDecimalOf (numerator numeral) (denominator numeral) d → unsigned_abs d.m ≡ 0 → numerator numeral ≡ pos 0
nought_number numeral d is h = is_nought (numerator numeral) (nought_by (unsigned_abs (numerator numeral)) (unsigned_abs d.m) (10 ^ d.k) (denominator numeral) (tens_positive d.k) (sym (sizes d.m (numerator numeral) (10 ^ d.k) (denominator numeral) is.value)) h)

pub nought_decimal : (numeral : List ℕ) (d : Decimal) → IsLeastDecimalOf (numerator numeral) (denominator numeral) d → numerator numeral ≡ pos 0 → unsigned_abs d.m ≡ 0
nought_decimal numeral d is h = nought_by (unsigned_abs d.m) (unsigned_abs (numerator numeral)) (denominator numeral) (10 ^ d.k) (den_positive numeral) (sizes d.m (numerator numeral) (10 ^ d.k) (denominator numeral) is.value) (ap unsigned_abs h)

-- a row has the total nought where each of its numbers is nought, and only there
no_sum : (x y : ℕ) → x + y ≡ 0 → (x ≡ 0) × (y ≡ 0)
no_sum x y e = (omega arith, omega arith)

raised_nought : (d : Decimal) → scaling.whole_number 30 d ≡ 0 → unsigned_abs d.m ≡ 0
raised_nought d e = eq_of_mul-eq-mul_right (10 ^ (30 - d.k)) (tens_positive (30 - d.k)) (unsigned_abs d.m) 0 (e ∙ sym (zero-mul (10 ^ (30 - d.k))))

pub row_of_noughts : (text : List ℕ) (ts : List Token) (ds : List Decimal) → AreWritten text ts ds → sum (map (scaling.whole_number 30) ds) ≡ 0 → All (λ t. numerator (token_bytes text t) ≡ pos 0) ts
row_of_noughts text [] [] h e = λ k d within. absurd (omega arith)
row_of_noughts text [] (d ∷ ds) h e = absurd h
row_of_noughts text (t ∷ ts) [] h e = absurd h
row_of_noughts text (t ∷ ts) (d ∷ ds) h e =
    let parts = no_sum (scaling.whole_number 30 d) (sum (map (scaling.whole_number 30) ds)) (sym (sum_by-cons (λ n. n) (scaling.whole_number 30 d) (map (scaling.whole_number 30) ds)) ∙ e) in
    All-cons (λ u. numerator (token_bytes text u) ≡ pos 0) t ts (nought_number (token_bytes text t) d h.0 (raised_nought d parts.0)) (row_of_noughts text ts ds h.1 parts.1)

pub noughts_in_row : (text : List ℕ) (ts : List Token) (ds : List Decimal) → AreWritten text ts ds → All (λ t. numerator (token_bytes text t) ≡ pos 0) ts → sum (map (scaling.whole_number 30) ds) ≡ 0
noughts_in_row text [] [] h all = refl
noughts_in_row text [] (d ∷ ds) h all = absurd h
noughts_in_row text (t ∷ ts) [] h all = absurd h
noughts_in_row text (t ∷ ts) (d ∷ ds) h all =
    let first : scaling.whole_number 30 d ≡ 0 = ap (λ x. x * 10 ^ (30 - d.k)) (nought_decimal (token_bytes text t) d h.0 (all 0 t (omega arith))) ∙ zero-mul (10 ^ (30 - d.k)) in
    let rest : sum (map (scaling.whole_number 30) ds) ≡ 0 = noughts_in_row text ts ds h.1 (λ k u within. all (suc k) u (omega arith)) in
    omega (arith, first, rest, sum_by-cons (λ n. n) (scaling.whole_number 30 d) (map (scaling.whole_number 30) ds))

-- decimals of one value are one number, raised
raised_same : (numeral : List ℕ) (d e : Decimal) → IsLeastDecimalOf (numerator numeral) (denominator numeral) d → IsLeastDecimalOf (numerator numeral) (denominator numeral) e → scaling.whole_number 30 d ≡ scaling.whole_number 30 e
raised_same numeral d e is also = eq_of_mul-eq-mul_right (denominator numeral) (den_positive numeral) (scaling.whole_number 30 d) (scaling.whole_number 30 e) (whole d is ∙ sym (whole e also)) where
  whole : (f : Decimal) → IsLeastDecimalOf (numerator numeral) (denominator numeral) f → scaling.whole_number 30 f * denominator numeral ≡ unsigned_abs (numerator numeral) * 10 ^ 30
  whole f are = by_parts (unsigned_abs f.m) (10 ^ (30 - f.k)) (denominator numeral) (unsigned_abs (numerator numeral)) (10 ^ f.k) (10 ^ 30) (sizes f.m (numerator numeral) (10 ^ f.k) (denominator numeral) are.value) (tens_split f.k 30 f.few) where
    by_parts : (m t den num p q : ℕ) → m * den ≡ num * p → q ≡ p * t → (m * t) * den ≡ num * q
    by_parts m t den num p q x y = omega (arith, ap (λ z. z * t) x, ap (λ z. num * z) y)

table_same : (text : List ℕ) (ts : List Token) (ds es : List Decimal) → AreWritten text ts ds → AreWritten text ts es → map (scaling.whole_number 30) ds ≡ map (scaling.whole_number 30) es
table_same text [] [] [] h g = refl
table_same text [] [] (e ∷ es) h g = absurd g
table_same text [] (d ∷ ds) es h g = absurd h
table_same text (t ∷ ts) [] es h g = absurd h
table_same text (t ∷ ts) (d ∷ ds) [] h g = absurd g
table_same text (t ∷ ts) (d ∷ ds) (e ∷ es) h g = λ i. raised_same (token_bytes text t) d e h.0 g.0 i ∷ table_same text ts ds es h.1 g.1 i

raised_part : (states : ℕ) (ds : List Decimal) (r : ℕ) → raised_row states ds r ≡ row_at states (map (scaling.whole_number 30) ds) r
raised_part states ds r = sym (take-map (scaling.whole_number 30) states (drop (r * states) ds)) ∙ ap (take states) (sym (drop-map (scaling.whole_number 30) (r * states) ds))

reduced_once : (row a b : List ℕ) → IsReducedRow row a → IsReducedRow row b → a ≡ b
reduced_once row a b p q =
    let same : p.divisor ≡ q.divisor = dvd_antisymm (q.greatest.greatest p.divisor p.greatest.divides) (p.greatest.greatest q.divisor q.greatest.divides) in
    p.divided ∙ ap (λ g. map (λ x. x / g) row) same ∙ sym q.divided

-- rows that are scaled are not too wide
pub not_wide : (text : List ℕ) (states : ℕ) (ts : List Token) (ds es : List Decimal) (scaled : ScaledView) → AreWritten text ts ds → AreWritten text ts es → IsScaled ds states scaled → IsTooWide es states → ⊥
not_wide text states ts ds es scaled h g p q = omega (arith, total, p.small, q.wide)
  where
    same : map (scaling.whole_number 30) ds ≡ map (scaling.whole_number 30) es
    same = table_same text ts ds es h g

    len : length ds ≡ length es
    len = sym (length-map ds (scaling.whole_number 30)) ∙ ap length same ∙ length-map es (scaling.whole_number 30)

    count : length ds / states ≡ length es / states
    count = ap (λ n. n / states) len

    raised : (r : ℕ) → raised_row states ds r ≡ raised_row states es r
    raised r = raised_part states ds r ∙ ap (λ ns. row_at states ns r) same ∙ sym (raised_part states es r)

    reduced : (r : ℕ) → r < length ds / states → row_at states p.reduced r ≡ row_at states q.reduced r
    reduced r l = reduced_once (raised_row states es r) (row_at states p.reduced r) (row_at states q.reduced r) (subst (λ row. IsReducedRow row (row_at states p.reduced r)) (raised r) (p.rows_reduced.row r l)) (q.rows_reduced.row r (omega (arith, l, count)))

    total : scaled.total ≡ q.total
    total = dvd_antisymm
        (p.common.least q.total (λ r l. subst (λ xs. sum xs ∣ q.total) (sym (reduced r l)) (q.common.multiple r (omega (arith, l, count)))))
        (q.common.least scaled.total (λ r l. subst (λ xs. sum xs ∣ scaled.total) (reduced r (omega (arith, l, count))) (p.common.multiple r (omega (arith, l, count)))))
