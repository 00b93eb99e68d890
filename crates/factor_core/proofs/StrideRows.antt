-- The rows of strides that a walk begins with.
use Rattle.std.proofs.Common.{◌≡◌, ℕ, zero, suc, ◌+◌, ◌-◌, ◌*◌, ◌^◌, ◌⊎◌, ◌<◌, ◌≤◌, ltb, Bool, true, false, cond, List, [], ◌∷◌, ◌++◌, map, take, drop, set, length, get_or, refl, sym, ap, subst, ◌∙◌, arith, inl, inr, append_assoc}
use Rattle.std.proofs.Math.Nat.{mul-le-mul_right}
use Rattle.std.proofs.lemmas.List.{take-take, take-append-le, length-take-le, drop-take, drop-append-le, drop_all, get_or-take, get_or-drop, take_more, take_more_set, drop-set-lt, map-append, get_or-map, take_all, take-append-drop, get_or_default, get_or_past, drop-set, drop_more}
use Rattle.std.proofs.lemmas.Grind.{drop_more_same}
use Rattle.std.proofs.lemmas.Bool.{cases_lt, or_parts, ltb-true, lt-ltb, true≢false, false_from_ne_true}
use Rattle.node_sets.specs.Sets.{holds}
use Rattle.factor_core.specs.declared.slots.Slot.{Slot}
use Rattle.factor_core.specs.declared.walks.Axis.{Axis}
use Rattle.cell_rings.proofs.Runs.{chosen, not_chosen}
use Rattle.factor_core.specs.Scopes.{united, united_but}
use Rattle.factor_core.specs.Tables.{states_in, size_from, stride_of, stride_over, stride_row, stride_rows, listed, with_extra, axes_of}
use Rattle.factor_core.specs.Rows.{sizes_from, HasStrideRow, row_beside, HasNodes}
use Rattle.factor_core.proofs.SizeLemmas.{size_step, size_gap, size_later}
use Rattle.factor_core.proofs.Listing.{rows_more}
use Rattle.factor_core.proofs.Ordering.{listed_below}

-- the node's states times the size behind it are the size from it on
pub taken_in : (count : ℕ → ℕ) (h : ℕ → Bool) (n v size states : ℕ) → v < n → h v ≡ true → states ≡ count v → size ≡ size_from count h (v + 1) (n - (v + 1)) → size * states ≡ size_from count h v (n - v)
taken_in count h n v size states l held is behind =
    let step : size_from count h v (n - v) ≡ count v * size_from count h (v + 1) (n - (v + 1)) = size_step count h n v l ∙ ap (λ b. cond b (count v) 1 * size_from count h (v + 1) (n - (v + 1))) held in
    ap (λ k. k * states) behind ∙ ap (λ k. size_from count h (v + 1) (n - (v + 1)) * k) is
    ∙ (let turn : size_from count h (v + 1) (n - (v + 1)) * count v ≡ count v * size_from count h (v + 1) (n - (v + 1)) = omega arith in turn)
    ∙ sym step

-- a part of the size is no greater than the size of the whole table
pub taken_few : (count : ℕ → ℕ) (h : ℕ → Bool) → ((v : ℕ) → 0 < count v) → (n v : ℕ) → v < n → size_from count h 0 n ≤ 2 ^ 32 → size_from count h v (n - v) ≤ 2 ^ 32
taken_few count h some n v l few =
    let later = size_later count h some n 0 v (omega arith) (omega arith) in
    omega (arith, later, few, ap (λ k. size_from count h 0 k) (let e : n - 0 ≡ n = omega arith in e))

abbrev pub no_slot : Slot
no_slot = record { start = 0; len = 0; scope = record { words = [] } }

map_more : {A : Type 0} (f : A → ℕ) (xs : List A) (j : ℕ) (d : A) → j < length xs → map f (take (j + 1) xs) ≡ map f (take j xs) ++ f (get_or xs j d) ∷ []
map_more f xs j d l = ap (map f) (take_more xs j d l) ∙ map-append f (take j xs) (get_or xs j d ∷ [])

-- one more slot has one cell behind the last node
pub ones_more : (counts : List ℕ) (slots : List Slot) (sizes : List ℕ) (j : ℕ) (d : Slot) → j < length slots → j < length sizes → take j sizes ≡ sizes_from counts (take j slots) (length counts) → take (j + 1) (set sizes j 1) ≡ sizes_from counts (take (j + 1) slots) (length counts)
ones_more counts slots sizes j d l room so_far =
    let n = length counts in
    let one : (s : Slot) → size_from (states_in counts) (holds s.scope) n (n - n) ≡ 1 = λ s. ap (λ k. size_from (states_in counts) (holds s.scope) n k) (let e : n - n ≡ 0 = omega arith in e) in
    take_more_set sizes j 1 room
    ∙ ap (λ l. l ++ 1 ∷ []) so_far
    ∙ ap (λ k. sizes_from counts (take j slots) n ++ k ∷ []) (sym (one (get_or slots j d)))
    ∙ sym (map_more (λ s. size_from (states_in counts) (holds s.scope) n (n - n)) slots j d l)

-- one more slot's size is taken in
pub sizes_more : (counts : List ℕ) (slots : List Slot) (v : ℕ) (sizes : List ℕ) (j size : ℕ) (d : Slot) → j < length slots → j < length sizes → take j sizes ≡ sizes_from counts (take j slots) v → size ≡ size_from (states_in counts) (holds (get_or slots j d).scope) v (length counts - v) → take (j + 1) (set sizes j size) ≡ sizes_from counts (take (j + 1) slots) v
sizes_more counts slots v sizes j size d l room so_far is =
    take_more_set sizes j size room
    ∙ ap (λ l. l ++ size ∷ []) so_far
    ∙ ap (λ k. sizes_from counts (take j slots) v ++ k ∷ []) is
    ∙ sym (map_more (λ s. size_from (states_in counts) (holds s.scope) v (length counts - v)) slots j d l)

-- one more slot's stride is written
pub strides_more : (counts : List ℕ) (slots : List Slot) (v : ℕ) (old now : List ℕ) (from j stride : ℕ) (d : Slot) → j < length slots → from + j < length now → take (from + j) now ≡ take from old ++ stride_row counts (take j slots) v → stride ≡ stride_over counts (get_or slots j d).scope v → take (from + (j + 1)) (set now (from + j) stride) ≡ take from old ++ stride_row counts (take (j + 1) slots) v
strides_more counts slots v old now from j stride d l room so_far is =
    ap (λ k. take k (set now (from + j) stride)) (let e : from + (j + 1) ≡ from + j + 1 = omega arith in e)
    ∙ take_more_set now (from + j) stride room
    ∙ ap (λ l. l ++ stride ∷ []) so_far
    ∙ append_assoc (take from old) (stride_row counts (take j slots) v) (stride ∷ [])
    ∙ ap (λ k. take from old ++ (stride_row counts (take j slots) v ++ k ∷ [])) is
    ∙ ap (λ l. take from old ++ l) (sym (map_more (λ s. stride_over counts s.scope v) slots j d l))

-- what lies behind a place that is written stays
pub rest_stays : (old now : List ℕ) (from k item : ℕ) → drop from now ≡ drop from old → k ≡ from + 1 → drop k (set now from item) ≡ drop k old
rest_stays old now from k item same e =
    drop-set-lt k now from item (omega (arith, e))
    ∙ ap (λ u. drop u now) e
    ∙ drop_more_same now old from same
    ∙ ap (λ u. drop u old) (sym e)

-- the size of a slot that is not yet taken in
pub size_waits : (counts : List ℕ) (slots : List Slot) (v : ℕ) (old now : List ℕ) (j : ℕ) (d : Slot) → j < length slots → take (length slots) old ≡ sizes_from counts slots v → drop j now ≡ drop j old → get_or now j 0 ≡ size_from (states_in counts) (holds (get_or slots j d).scope) v (length counts - v)
size_waits counts slots v old now j d l all same =
    let here : (xs : List ℕ) → get_or (drop j xs) 0 0 ≡ get_or xs j 0 = λ xs. get_or-drop j xs 0 0 ∙ ap (λ k. get_or xs k 0) (let e : j + 0 ≡ j = omega arith in e) in
    sym (here now) ∙ ap (λ l. get_or l 0 0) same ∙ here old
    ∙ sym (get_or-take (length slots) old j 0 l)
    ∙ ap (λ l. get_or l j 0) all
    ∙ get_or-map (λ s. size_from (states_in counts) (holds s.scope) v (length counts - v)) slots j d 0 l

-- the row that is written
pub row_written : (from m : ℕ) (old now row : List ℕ) → from ≤ length old → take (from + m) now ≡ take from old ++ row → take m (drop from now) ≡ row
row_written from m old now row room is =
    sym (drop-take from m now)
    ∙ ap (drop from) is
    ∙ drop-append-le from (take from old) row (omega (arith, length-take-le from old room))
    ∙ ap (λ l. l ++ row) (drop_all from (take from old) (omega (arith, length-take-le from old room)))

drops_same : (xs ys : List ℕ) (a d : ℕ) → drop a xs ≡ drop a ys → drop (a + d) xs ≡ drop (a + d) ys
drops_same xs ys a zero same = subst (λ k. drop k xs ≡ drop k ys) (let e : a ≡ a + 0 = omega arith in e) same
drops_same xs ys a (suc d) same = subst (λ k. drop k xs ≡ drop k ys) (let e : a + d + 1 ≡ a + suc d = omega arith in e) (drop_more_same xs ys (a + d) (drops_same xs ys a d same))

-- another row stays
pub row_stays : (m row r : ℕ) (old now mine kept : List ℕ) → (r ≡ row → ⊥) → (row + 1) * m ≤ length old → take (row * m + m) now ≡ take (row * m) old ++ mine → drop (row * m + m) now ≡ drop (row * m + m) old → take m (drop (r * m) old) ≡ kept → take m (drop (r * m) now) ≡ kept
row_stays m row r old now mine kept other room written rest was =
    elim (cases_lt r row) [
      | inl l ↦
          let below : (r + 1) * m ≤ row * m = mul-le-mul_right m (let h : r + 1 ≤ row = omega arith in h) in
          let within : row * m ≤ length old = omega (arith, room) in
          let first : take (row * m) now ≡ take (row * m) old =
          sym (take-take (row * m) (row * m + m) now (omega arith))
          ∙ ap (take (row * m)) written
          ∙ take-append-le (row * m) (take (row * m) old) mine (omega (arith, length-take-le (row * m) old within))
          ∙ take-take (row * m) (row * m) old (omega arith) in
          let cut : (xs : List ℕ) → take m (drop (r * m) xs) ≡ drop (r * m) (take (r * m + m) (take (row * m) xs)) = λ xs. sym (drop-take (r * m) m xs) ∙ ap (drop (r * m)) (sym (take-take (r * m + m) (row * m) xs (omega (arith, below)))) in
          cut now ∙ ap (λ l. drop (r * m) (take (r * m + m) l)) first ∙ sym (cut old) ∙ was
      | inr l ↦
          let above : (row + 1) * m ≤ r * m = mul-le-mul_right m (let h : row + 1 ≤ r = elim (cases_lt row r) [ inl k ↦ (let g : row + 1 ≤ r = omega arith in g) | inr k ↦ absurd (other (let same : r ≡ row = omega arith in same)) ] in h) in
          let there : row * m + m + (r * m - (row * m + m)) ≡ r * m = omega (arith, above) in
          ap (take m) (subst (λ k. drop k now ≡ drop k old) there (drops_same now old (row * m + m) (r * m - (row * m + m)) rest)) ∙ was
    ]

pub equal_or_not : (a b : ℕ) → (a ≡ b) ⊎ (a ≡ b → ⊥)
equal_or_not a b = elim (cases_lt a b) [
  | inl l ↦ inr (λ e. omega (arith, e))
  | inr l ↦ elim (cases_lt b a) [ inl k ↦ inr (λ e. omega (arith, e)) | inr k ↦ inl (omega arith) ]
]

-- the row of a node beside another one's
pub beside : (at i : ℕ) → ((i < at) × (row_beside at i ≡ i)) ⊎ ((at ≤ i) × (row_beside at i ≡ i + 1))
beside at i = by_test (ltb i at) refl
  where
    by_test : (b : Bool) → ltb i at ≡ b → ((i < at) × (row_beside at i ≡ i)) ⊎ ((at ≤ i) × (row_beside at i ≡ i + 1))
    by_test true e = inl (ltb-true i at e, ap (λ b. cond b i (i + 1)) e)
    by_test false e = elim (cases_lt i at) [
      | inl l ↦ absurd (true≢false (sym (lt-ltb i at l) ∙ e))
      | inr l ↦ inr (l, ap (λ b. cond b i (i + 1)) e)
    ]

pub beside_apart : (at i : ℕ) → row_beside at i ≡ at → ⊥
beside_apart at i e = elim (beside at i) [
  | inl h ↦ (let a = h.0 in let b = h.1 in omega (arith, e))
  | inr h ↦ (let a = h.0 in let b = h.1 in omega (arith, e))
]

pub beside_once : (at i j : ℕ) → row_beside at i ≡ row_beside at j → i ≡ j
beside_once at i j e = elim (beside at i) [
  | inl h ↦ elim (beside at j) [
    | inl k ↦ (let a = h.1 in let b = k.1 in omega (arith, e))
    | inr k ↦ (let a = h.1 in let b = k.1 in let c = h.0 in let d = k.0 in omega (arith, e))
  ]
  | inr h ↦ elim (beside at j) [
    | inl k ↦ (let a = h.1 in let b = k.1 in let c = h.0 in let d = k.0 in omega (arith, e))
    | inr k ↦ (let a = h.1 in let b = k.1 in omega (arith, e))
  ]
]

-- the nodes of a scope stand in ascending order
pub listed_from : (h : ℕ → Bool) (k v i : ℕ) → i < length (listed h v k) → v ≤ get_or (listed h v k) i 0
listed_from h zero v i l = absurd (omega arith)
listed_from h (suc k) v i l = by_held (λ j m. listed_from h k (suc v) j m) (h v) i l
  where
    by_held : ((j : ℕ) → j < length (listed h (suc v) k) → suc v ≤ get_or (listed h (suc v) k) j 0) → (b : Bool) (j : ℕ) → j < length (cond b (v ∷ []) [] ++ listed h (suc v) k) → v ≤ get_or (cond b (v ∷ []) [] ++ listed h (suc v) k) j 0
    by_held rest true zero m = omega arith
    by_held rest true (suc j) m = let later = rest j (omega arith) in omega arith
    by_held rest false j m = let later = rest j m in omega arith

pub listed_rises : (h : ℕ → Bool) (k v i j : ℕ) → i < j → j < length (listed h v k) → get_or (listed h v k) i 0 < get_or (listed h v k) j 0
listed_rises h zero v i j a l = absurd (omega arith)
listed_rises h (suc k) v i j a l = by_held (λ x y m n. listed_rises h k (suc v) x y m n) (h v) i j a l
  where
    by_held : ((x y : ℕ) → x < y → y < length (listed h (suc v) k) → get_or (listed h (suc v) k) x 0 < get_or (listed h (suc v) k) y 0) → (b : Bool) (x y : ℕ) → x < y → y < length (cond b (v ∷ []) [] ++ listed h (suc v) k) → get_or (cond b (v ∷ []) [] ++ listed h (suc v) k) x 0 < get_or (cond b (v ∷ []) [] ++ listed h (suc v) k) y 0
    by_held rest true x zero m n = absurd (omega arith)
    by_held rest true zero (suc y) m n = let later = listed_from h k (suc v) y (omega arith) in omega arith
    by_held rest true (suc x) (suc y) m n = rest x y (omega arith) (omega arith)
    by_held rest false x y m n = rest x y m n

-- each node of the scope is listed
pub listed_all : (h : ℕ → Bool) (k v w : ℕ) → v ≤ w → w < v + k → h w ≡ true → (i : ℕ) × (i < length (listed h v k)) × (get_or (listed h v k) i 0 ≡ w)
listed_all h zero v w a b held = absurd (omega arith)
listed_all h (suc k) v w a b held = elim (cases_lt v w) [
  | inl l ↦ behind (h v) (listed_all h k (suc v) w (omega arith) (omega arith) held)
  | inr l ↦ here (h v) (subst (λ u. h u ≡ true) (let e : w ≡ v = omega arith in e) held) (let e : v ≡ w = omega arith in e)
]
  where
    Found : List ℕ → Type 0
    Found xs = (i : ℕ) × (i < length xs) × (get_or xs i 0 ≡ w)

    behind : (c : Bool) → ((i : ℕ) × (i < length (listed h (suc v) k)) × (get_or (listed h (suc v) k) i 0 ≡ w)) → (i : ℕ) × (i < length (cond c (v ∷ []) [] ++ listed h (suc v) k)) × (get_or (cond c (v ∷ []) [] ++ listed h (suc v) k) i 0 ≡ w)
    behind true f = (suc f.0, (let m = f.1 in omega arith), f.2)
    behind false f = f

    here : (c : Bool) → c ≡ true → v ≡ w → (i : ℕ) × (i < length (cond c (v ∷ []) [] ++ listed h (suc v) k)) × (get_or (cond c (v ∷ []) [] ++ listed h (suc v) k) i 0 ≡ w)
    here true e same = (0, omega arith, same)
    here false e same = absurd (true≢false (sym e))

-- where no slot has a node between, the sizes from both on are the same
pub sizes_gap : (counts : List ℕ) (slots : List Slot) (from to : ℕ) → from ≤ to → to ≤ length counts → ((w : ℕ) → from ≤ w → w < to → united slots w ≡ false) → sizes_from counts slots from ≡ sizes_from counts slots to
sizes_gap counts [] from to a b none = refl
sizes_gap counts (s ∷ slots) from to a b none =
    ap (λ k. k ∷ sizes_from counts slots from) (size_gap (states_in counts) (holds s.scope) (length counts) from to a b (λ w c d. (or_parts (holds s.scope w) (united slots w) (none w c d)).0))
    ∙ ap (λ l. size_from (states_in counts) (holds s.scope) to (length counts - to) ∷ l) (sizes_gap counts slots from to a b (λ w c d. (or_parts (holds s.scope w) (united slots w) (none w c d)).1))

take_plus : (a b : ℕ) (xs : List ℕ) → take (a + b) xs ≡ take a xs ++ take b (drop a xs)
take_plus a b xs =
    sym (take-append-drop a (take (a + b) xs))
    ∙ ap (λ l. l ++ drop a (take (a + b) xs)) (take-take a (a + b) xs (omega arith))
    ∙ ap (λ l. take a xs ++ l) (drop-take a b xs)

-- the rows of all nodes, one behind another
pub rows_are : (counts : List ℕ) (slots : List Slot) (strides vs : List ℕ) → length vs * length slots ≤ length strides → ((i : ℕ) → i < length vs → HasStrideRow counts slots strides i (get_or vs i 0)) → take (length vs * length slots) strides ≡ stride_rows (stride_row counts slots) vs
rows_are counts slots strides vs room each = first (length vs) (omega arith) ∙ ap (stride_rows (stride_row counts slots)) (take_all (length vs) vs (omega arith))
  where
    first : (k : ℕ) → k ≤ length vs → take (k * length slots) strides ≡ stride_rows (stride_row counts slots) (take k vs)
    first zero l = ap (λ n. take n strides) (let e : 0 * length slots ≡ 0 = omega arith in e)
    first (suc k) l =
        ap (λ n. take n strides) (let e : suc k * length slots ≡ k * length slots + length slots = omega arith in e)
        ∙ take_plus (k * length slots) (length slots) strides
        ∙ ap (λ l. l ++ take (length slots) (drop (k * length slots) strides)) (first k (omega arith))
        ∙ ap (λ l. stride_rows (stride_row counts slots) (take k vs) ++ l) (each k (omega arith))
        ∙ rows_more (stride_row counts slots) vs k (omega arith)
        ∙ ap (λ n. stride_rows (stride_row counts slots) (take n vs)) (let e : k + 1 ≡ suc k = omega arith in e)

-- one more node among others, and each of these beside it
pub extra_at : (at x : ℕ) (xs : List ℕ) → at ≤ length xs → get_or (with_extra at x xs) at 0 ≡ x
extra_at zero x xs l = refl
extra_at (suc at) x [] l = absurd (omega arith)
extra_at (suc at) x (y ∷ xs) l = extra_at at x xs (omega arith)

pub extra_before : (at x i : ℕ) (xs : List ℕ) → i < at → at ≤ length xs → get_or (with_extra at x xs) i 0 ≡ get_or xs i 0
extra_before zero x i xs a l = absurd (omega arith)
extra_before (suc at) x i [] a l = absurd (omega arith)
extra_before (suc at) x zero (y ∷ xs) a l = refl
extra_before (suc at) x (suc i) (y ∷ xs) a l = extra_before at x i xs (omega arith) (omega arith)

pub extra_behind : (at x i : ℕ) (xs : List ℕ) → at ≤ i → at ≤ length xs → get_or (with_extra at x xs) (suc i) 0 ≡ get_or xs i 0
extra_behind zero x i xs a l = refl
extra_behind (suc at) x i [] a l = absurd (omega arith)
extra_behind (suc at) x zero (y ∷ xs) a l = absurd (omega arith)
extra_behind (suc at) x (suc i) (y ∷ xs) a l = extra_behind at x i xs (omega arith) (omega arith)

length-extra : (at x : ℕ) (xs : List ℕ) → at ≤ length xs → length (with_extra at x xs) ≡ length xs + 1
length-extra zero x xs l = omega arith
length-extra (suc at) x [] l = absurd (omega arith)
length-extra (suc at) x (y ∷ xs) l = omega (arith, length-extra at x xs (omega arith))

-- the rows beside the one at `at`, with that one
pub rows_with : (counts : List ℕ) (slots : List Slot) (strides kept : List ℕ) (at x : ℕ) → at ≤ length kept → (length kept + 1) * length slots ≤ length strides → HasStrideRow counts slots strides at x → ((i : ℕ) → i < length kept → HasStrideRow counts slots strides (row_beside at i) (get_or kept i 0)) → take ((length kept + 1) * length slots) strides ≡ stride_rows (stride_row counts slots) (with_extra at x kept)
rows_with counts slots strides kept at x fits room mine others =
    let whole = length-extra at x kept fits in
    ap (λ n. take (n * length slots) strides) (sym whole)
    ∙ rows_are counts slots strides (with_extra at x kept) (subst (λ n. n * length slots ≤ length strides) (sym whole) room) each
  where
    Here : ℕ → ℕ → Type 0
    Here r v = HasStrideRow counts slots strides r v

    each : (r : ℕ) → r < length (with_extra at x kept) → HasStrideRow counts slots strides r (get_or (with_extra at x kept) r 0)
    each r l = elim (cases_lt r at) [
      | inl a ↦
          let same : row_beside at r ≡ r = elim (beside at r) [ inl h ↦ h.1 | inr h ↦ absurd (let b = h.0 in omega arith) ] in
          subst (λ v. Here r v) (sym (extra_before at x r kept a fits)) (subst (λ q. Here q (get_or kept r 0)) same (others r (omega arith)))
      | inr a ↦ elim (cases_lt at r) [
        | inl b ↦
            let i = r - 1 in
            let back : suc i ≡ r = omega arith in
            let same : row_beside at i ≡ r = elim (beside at i) [ inl h ↦ absurd (let c = h.0 in omega arith) | inr h ↦ (let c = h.1 in omega (arith, back)) ] in
            let there : get_or (with_extra at x kept) r 0 ≡ get_or kept i 0 = ap (λ q. get_or (with_extra at x kept) q 0) (sym back) ∙ extra_behind at x i kept (omega arith) fits in
            subst (λ v. Here r v) (sym there) (subst (λ q. Here q (get_or kept i 0)) same (others i (omega (arith, length-extra at x kept fits, back))))
        | inr b ↦
            let same : at ≡ r = omega arith in
            subst (λ q. Here q (get_or (with_extra at x kept) q 0)) same (subst (λ v. Here at v) (sym (extra_at at x kept fits)) mine)
      ]
    ]

-- The nodes of a scope, from the last to the first, among which are those of the slots within a
-- range: the sizes are those from each number on that stands between the nodes that wait and those
-- that were taken in.
module _ (counts : List ℕ) (slots : List Slot) (low high : ℕ) (small : high ≤ length counts) (kept : List ℕ) (has : HasNodes counts slots low high kept) where
  pub kept_rises : (i j : ℕ) → i < j → j < length kept → get_or kept i 0 < get_or kept j 0
  kept_rises i j a l = subst (λ xs. j < length xs → get_or xs i 0 < get_or xs j 0) (sym has.listing) (λ m. listed_rises has.scope (length counts) 0 i j a m) l

  kept_all : (w : ℕ) → w < length counts → has.scope w ≡ true → (i : ℕ) × (i < length kept) × (get_or kept i 0 ≡ w)
  kept_all w l held = subst (λ xs. (i : ℕ) × (i < length xs) × (get_or xs i 0 ≡ w)) (sym has.listing) (listed_all has.scope (length counts) 0 w (omega arith) (omega arith) held)

  -- the nodes before the i-th are below the number
  abbrev pub Wait : ℕ → ℕ → Type 0
  Wait i u = (j : ℕ) → j < i → get_or kept j 0 < high → get_or kept j 0 < u

  -- the others are not
  abbrev pub AreTaken : ℕ → ℕ → Type 0
  AreTaken i u = (j : ℕ) → i ≤ j → j < length kept → low ≤ get_or kept j 0 → u ≤ get_or kept j 0

  -- no slot has a node between two such numbers
  parts_same : (i u v : ℕ) → u ≤ v → low ≤ u → v ≤ high → Wait i u → AreTaken i v → sizes_from counts slots u ≡ sizes_from counts slots v
  parts_same i u v a from to wait taken = sizes_gap counts slots u v a (omega arith) (λ w b c. false_from_ne_true (united slots w) (λ held. not_between w b c held))
    where
      not_between : (w : ℕ) → u ≤ w → w < v → united slots w ≡ true → ⊥
      not_between w b c held =
          let found = kept_all w (omega arith) (has.among w (omega arith) (omega arith) held) in
          let same = found.2 in
          elim (cases_lt found.0 i) [
            | inl m ↦ (let h = wait found.0 m (omega (arith, same)) in omega (arith, same))
            | inr m ↦ (let h = taken found.0 m found.1 (omega (arith, same)) in omega (arith, same))
          ]

  -- before the walk
  pub parts_begin : (sizes : List ℕ) → sizes ≡ sizes_from counts slots high → (u : ℕ) → low ≤ u → u ≤ high → Wait (length kept) u → sizes ≡ sizes_from counts slots u
  parts_begin sizes all u from to wait = all ∙ sym (parts_same (length kept) u high to from (omega arith) wait (λ j a b c. absurd (omega arith)))

  -- when the node is taken in
  pub parts_taken : (i : ℕ) (sizes : List ℕ) → i < length kept → low ≤ get_or kept i 0 → get_or kept i 0 < high → sizes ≡ sizes_from counts slots (get_or kept i 0) → (u : ℕ) → low ≤ u → Wait i u → AreTaken i u → sizes ≡ sizes_from counts slots u
  parts_taken i sizes l from to all u a wait taken =
      let below = taken i (omega arith) l from in
      all ∙ sym (parts_same i u (get_or kept i 0) below a (omega arith) wait (λ j b c d. elim (cases_lt i j) [ inl m ↦ (let rises = kept_rises i j m c in omega arith) | inr m ↦ subst (λ k. get_or kept i 0 ≤ get_or kept k 0) (let e : i ≡ j = omega arith in e) (omega arith) ]))

  -- before it is
  pub waits_next : (i : ℕ) → i < length kept → Wait (i + 1) (get_or kept i 0 + 1)
  waits_next i l j a b = elim (cases_lt j i) [
    | inl m ↦ (let rises = kept_rises j i m l in omega arith)
    | inr m ↦ subst (λ k. get_or kept k 0 < get_or kept i 0 + 1) (let e : i ≡ j = omega arith in e) (omega arith)
  ]

  pub taken_next : (i : ℕ) → AreTaken (i + 1) (get_or kept i 0 + 1)
  taken_next i j a l b = let rises = kept_rises i j (omega arith) l in omega arith

  -- a node that is not in the range takes no part
  pub waits_beyond : (i u : ℕ) → low ≤ u → u ≤ high → (get_or kept i 0 < low) ⊎ (high ≤ get_or kept i 0) → Wait i u → Wait (i + 1) u
  waits_beyond i u from to out wait j a b = elim (cases_lt j i) [
    | inl m ↦ wait j m b
    | inr m ↦
        let e : i ≡ j = omega arith in
        elim (subst (λ k. (get_or kept k 0 < low) ⊎ (high ≤ get_or kept k 0)) e out) [ inl c ↦ (let h = c in omega arith) | inr c ↦ absurd (let h = c in omega arith) ]
  ]

-- a listed node is in the scope
pub listed_held : (h : ℕ → Bool) (k v i : ℕ) → i < length (listed h v k) → h (get_or (listed h v k) i 0) ≡ true
listed_held h zero v i l = absurd (omega arith)
listed_held h (suc k) v i l = by_held (λ j m. listed_held h k (suc v) j m) (h v) refl i l
  where
    by_held : ((j : ℕ) → j < length (listed h (suc v) k) → h (get_or (listed h (suc v) k) j 0) ≡ true) → (b : Bool) → h v ≡ b → (j : ℕ) → j < length (cond b (v ∷ []) [] ++ listed h (suc v) k) → h (get_or (cond b (v ∷ []) [] ++ listed h (suc v) k) j 0) ≡ true
    by_held rest true e zero m = e
    by_held rest true e (suc j) m = rest j (omega arith)
    by_held rest false e j m = rest j m

-- the node that is left out is none of the others
pub kept_is_not : (slots : List Slot) (x n : ℕ) (kept : List ℕ) → kept ≡ listed (united_but slots x) 0 n → (i : ℕ) → i < length kept → x ≤ get_or kept i 0 → x + 1 ≤ get_or kept i 0
kept_is_not slots x n kept is i l from =
    let held : united_but slots x (get_or kept i 0) ≡ true = subst (λ xs. i < length xs → united_but slots x (get_or xs i 0) ≡ true) (sym is) (listed_held (united_but slots x) n 0 i) l in
    elim (cases_lt x (get_or kept i 0)) [
      | inl m ↦ (let h = m in omega arith)
      | inr m ↦ absurd (true≢false (sym held ∙ chosen (get_or kept i 0) x false (united slots (get_or kept i 0)) (omega arith)))
    ]

-- the slots' nodes but one, and the others in a range without that one
pub but_one : (counts : List ℕ) (slots : List Slot) (x : ℕ) (kept : List ℕ) → kept ≡ listed (united_but slots x) 0 (length counts) → (low high : ℕ) → (high ≤ x) ⊎ (x < low) → HasNodes counts slots low high kept
but_one counts slots x kept is low high apart = record {
  scope = united_but slots x;
  listing = is;
  among = λ v from below held. not_chosen v x false (united slots v) (λ e. elim apart [ inl l ↦ (let a = l in omega (arith, e)) | inr l ↦ (let a = l in omega (arith, e)) ]) ∙ held;
}

take_set_in : {A : Type 0} (n k : ℕ) (xs : List A) (a : A) → k < n → take n (set xs k a) ≡ set (take n xs) k a
take_set_in zero k xs a l = absurd (omega arith)
take_set_in (suc n) k [] a l = refl
take_set_in (suc n) zero (x ∷ xs) a l = refl
take_set_in (suc n) (suc k) (x ∷ xs) a l = ap (λ ys. x ∷ ys) (take_set_in n k xs a (omega arith))

-- listed nodes are nodes
pub kept_below : (h : ℕ → Bool) (n : ℕ) (kept : List ℕ) → kept ≡ listed h 0 n → (i : ℕ) → i < length kept → get_or kept i 0 < n
kept_below h n kept is i l = subst (λ xs. i < length xs → get_or xs i 0 < n) (sym is) (λ q. listed_below h n n 0 (omega arith) i 0 q) l

-- Behind a listed node the next one follows, and behind the last one there is none.
module _ (h : ℕ → Bool) (n : ℕ) (kept : List ℕ) (is : kept ≡ listed h 0 n) where
  next_most : (i : ℕ) → i < length kept → get_or kept i n < get_or kept (i + 1) n × (get_or kept (i + 1) n ≤ n)
  next_most i l = elim (cases_lt (i + 1) (length kept)) [
    | inl m ↦
        let here = get_or_default kept i n 0 l in
        let there = get_or_default kept (i + 1) n 0 m in
        let rises = subst (λ xs. i + 1 < length xs → get_or xs i 0 < get_or xs (i + 1) 0) (sym is) (λ q. listed_rises h n 0 i (i + 1) (omega arith) q) m in
        let below : get_or kept (i + 1) 0 < n = kept_below h n kept is (i + 1) m in
        (omega (arith, here, there, rises), omega (arith, there, below))
    | inr m ↦
        let here = get_or_default kept i n 0 l in
        let below : get_or kept i 0 < n = kept_below h n kept is i l in
        let end : get_or kept (i + 1) n ≡ n = get_or_past kept (i + 1) n m in
        (omega (arith, here, below, end), omega (arith, end))
  ]

  none_between : (i : ℕ) → i < length kept → (w : ℕ) → get_or kept i n + 1 ≤ w → w < get_or kept (i + 1) n → h w ≡ false
  none_between i l w a b = false_from_ne_true (h w) (λ held.
      let most = (next_most i l).1 in
      let found : (k : ℕ) × (k < length kept) × (get_or kept k 0 ≡ w) = subst (λ xs. (k : ℕ) × (k < length xs) × (get_or xs k 0 ≡ w)) (sym is) (listed_all h n 0 w (omega arith) (omega arith) held) in
      let rise : (x y : ℕ) → x < y → y < length kept → get_or kept x 0 < get_or kept y 0 = λ x y c d. subst (λ xs. y < length xs → get_or xs x 0 < get_or xs y 0) (sym is) (λ q. listed_rises h n 0 x y c q) d in
      let k = found.0 in
      let at_k : get_or kept k 0 ≡ w = found.2 in
      let here = get_or_default kept i n 0 l in
      elim (cases_lt k (i + 1)) [
        | inl m ↦ elim (cases_lt k i) [
          | inl c ↦ (let r = rise k i c l in omega (arith, at_k, here))
          | inr c ↦ (let same : get_or kept k 0 ≡ get_or kept i 0 = ap (λ q. get_or kept q 0) (let e : k ≡ i = omega arith in e) in omega (arith, at_k, here, same))
        ]
        | inr m ↦
            let there = get_or_default kept (i + 1) n 0 (let q = found.1 in omega arith) in
            elim (cases_lt (i + 1) k) [
              | inl c ↦ (let r = rise (i + 1) k c found.1 in omega (arith, at_k, there))
              | inr c ↦ (let same : get_or kept k 0 ≡ get_or kept (i + 1) 0 = ap (λ q. get_or kept q 0) (let e : k ≡ i + 1 = omega arith in e) in omega (arith, at_k, there, same))
            ]
      ])

  held_at : (i : ℕ) → i < length kept → h (get_or kept i 0) ≡ true
  held_at i l = subst (λ xs. i < length xs → h (get_or xs i 0) ≡ true) (sym is) (λ q. listed_held h n 0 i q) l

  -- the size behind a listed node is that from the next one on
  pub size_behind : (count : ℕ → ℕ) (i size : ℕ) → i < length kept → size ≡ size_from count h (get_or kept (i + 1) n) (n - get_or kept (i + 1) n) → size ≡ size_from count h (get_or kept i 0 + 1) (n - (get_or kept i 0 + 1))
  size_behind count i size l e =
      let both = next_most i l in
      let less = both.0 in
      let here = get_or_default kept i n 0 l in
      e ∙ sym (size_gap count h n (get_or kept i n + 1) (get_or kept (i + 1) n) (omega arith) both.1 (none_between i l))
      ∙ ap (λ v. size_from count h (v + 1) (n - (v + 1))) here

  pub stride_there : (count : ℕ → ℕ) (i size : ℕ) → i < length kept → size ≡ size_from count h (get_or kept (i + 1) n) (n - get_or kept (i + 1) n) → size ≡ stride_of count n h (get_or kept i 0)
  stride_there count i size l e =
      let v = get_or kept i 0 in
      size_behind count i size l e
      ∙ ap (λ u. size_from count h u (n - u)) (let s : v + 1 ≡ suc v = omega arith in s)
      ∙ sym (ap (λ b. cond b (size_from count h (suc v) (n - suc v)) 0) (held_at i l))

  pub size_there : (count : ℕ → ℕ) (i size states : ℕ) → i < length kept → states ≡ count (get_or kept i 0) → size ≡ size_from count h (get_or kept (i + 1) n) (n - get_or kept (i + 1) n) → size * states ≡ size_from count h (get_or kept i n) (n - get_or kept i n)
  size_there count i size states l same e =
      let below : get_or kept i 0 < n = kept_below h n kept is i l in
      taken_in count h n (get_or kept i 0) size states below (held_at i l) same (size_behind count i size l e)
      ∙ ap (λ v. size_from count h v (n - v)) (sym (get_or_default kept i n 0 l))

  -- one axis more, from the last to the first
  pub axes_back : (count : ℕ → ℕ) (i size states : ℕ) (axes : List Axis) → i < length kept → length kept ≤ length axes → states ≡ count (get_or kept i 0) → size ≡ size_from count h (get_or kept (i + 1) n) (n - get_or kept (i + 1) n) → drop (i + 1) (take (length kept) axes) ≡ axes_of count (stride_of count n h) (drop (i + 1) kept) → drop i (take (length kept) (set axes i (record { states = states; out = size }))) ≡ axes_of count (stride_of count n h) (drop i kept)
  axes_back count i size states axes l room same e so_far =
      let axis : ℕ → ℕ → Axis = λ c d. record { states = c; out = d } in
      ap (drop i) (take_set_in (length kept) i axes (axis states size) l)
      ∙ drop-set (take (length kept) axes) i (axis states size) (omega (arith, length-take-le (length kept) axes room))
      ∙ ap (λ xs. axis states size ∷ xs) so_far
      ∙ ap (λ c. axis c size ∷ axes_of count (stride_of count n h) (drop (i + 1) kept)) same
      ∙ ap (λ d. axis (count (get_or kept i 0)) d ∷ axes_of count (stride_of count n h) (drop (i + 1) kept)) (stride_there count i size l e)
      ∙ ap (axes_of count (stride_of count n h)) (sym (drop_more kept i 0 l))

-- scopes that hold the same nodes list the same
pub listed_cong : (h g : ℕ → Bool) (n k v : ℕ) → v + k ≡ n → ((u : ℕ) → u < n → h u ≡ g u) → listed h v k ≡ listed g v k
listed_cong h g n zero v e same = refl
listed_cong h g n (suc k) v e same =
    ap (λ b. cond b (v ∷ []) [] ++ listed h (suc v) k) (same v (omega arith))
    ∙ ap (λ l. cond (g v) (v ∷ []) [] ++ l) (listed_cong h g n k (suc v) (omega arith) same)

-- the axes with one more are those of the nodes with one more
pub axes_with : (count out : ℕ → ℕ) (at x : ℕ) (vs : List ℕ) → with_extra at (let a : Axis = record { states = count x; out = out x } in a) (axes_of count out vs) ≡ axes_of count out (with_extra at x vs)
axes_with count out zero x vs = refl
axes_with count out (suc at) x [] = refl
axes_with count out (suc at) x (v ∷ vs) = ap (λ l. (let a : Axis = record { states = count v; out = out v } in a) ∷ l) (axes_with count out at x vs)
