-- Steps of linking: lists of rows one by one, and names among those before.
use Rattle.std.proofs.Common.{◌≡◌, ◌⊎◌, inl, inr, ℕ, zero, suc, ◌+◌, ◌-◌, ◌<◌, ◌≤◌, Bool, true, false, not, cond, ◌||◌, List, [], ◌∷◌, ◌++◌, length, get_or, map, take, drop, Contains, None, Result, refl, ap, sym, subst, ◌∙◌, arith}
use Rattle.std.proofs.lemmas.Bool.{false≢true}
use Rattle.std.proofs.lemmas.List.{drop_all, map-append}
use Rattle.std.proofs.lemmas.Slice.Eq.{bytes_eq-Decides}
use Rattle.std.specs.List.{list_any, range_with_len}
use Rattle.std.specs.Result.{IsErr, IsErrAnd}
use Rattle.std.specs.Str.{bytes_eq}
use Rattle.finite_sums.proofs.Sights.{bytes_same}
use Rattle.net_build.specs.declared.faults.BuildFault.{BuildFault}
use Rattle.net_build.specs.Blocks.{place_among}
use Rattle.net_build.specs.declared.nodes.Head.{Head}
use Rattle.net_build.specs.Linking.{kind_at, node_named, unknown_row, repeat_row, utility_row, condition_steps}
use Rattle.net_lexer.specs.declared.tokens.Token.{Token}
use Rattle.first_fault.specs.Passes.{Pass, ◌▸◌, each, each_after}
use Rattle.first_fault.specs.Answers.{IsFaultOrNoMemory, Passes}
use Rattle.net_build.specs.Passes.{Found, build_fault}
use Rattle.net_build.proofs.AttributeLemmas.{contains_later, contains_cases, contains_none}
use Rattle.first_fault.proofs.HandedOn.{hands_on}
use Rattle.first_fault.proofs.Leading.{Leads, leads_on, leads_end, leads_refused, refused_first, refused_later, drop_item, take_item}

-- what the items from place i on find, those before having found nothing
abbrev pub Behind : {X : Type 0} → (List X → X → Pass Found) → List X → ℕ → Pass Found
Behind P xs i = each_after P (take i xs) (drop i xs)

-- an item whose rows find nothing
pub behind_on : {X : Type 0} (P : List X → X → Pass Found) (xs : List X) (W : Pass Found) (i : ℕ) (x : X) → i < length xs → x ≡ get_or xs i x → Leads (Behind P xs i) W → P (take i xs) x None → Leads (Behind P xs (i + 1)) W
behind_on P xs W i x h is lead nothing = rw (take_item xs i x h is) (leads_on (P (take i xs) x) (each_after P (take i xs ++ x ∷ []) (drop (i + 1) xs)) W (rw (drop_item xs i x h is) at lead) nothing)

-- an item whose rows find a fault
pub behind_refused : {X : Type 0} (P : List X → X → Pass Found) (xs : List X) (W : Pass Found) (i : ℕ) (x : X) (fault : BuildFault) → i < length xs → x ≡ get_or xs i x → Leads (Behind P xs i) W → IsFaultOrNoMemory build_fault (P (take i xs) x) fault → IsFaultOrNoMemory build_fault W fault
behind_refused P xs W i x fault h is lead here = leads_refused (P (take i xs) x ▸ each_after P (take i xs ++ x ∷ []) (drop (i + 1) xs)) W (build_fault fault) (rw (drop_item xs i x h is) at lead) (refused_first (P (take i xs) x) (each_after P (take i xs ++ x ∷ []) (drop (i + 1) xs)) (build_fault fault) here)

-- no item is left
pub behind_end : {X : Type 0} (P : List X → X → Pass Found) (xs : List X) (W : Pass Found) (i : ℕ) → length xs ≤ i → Leads (Behind P xs i) W → W None
behind_end P xs W i h lead = leads_end W (λ outcome nothing. lead outcome (rw (drop_all i xs h) nothing))

-- the test finds the word among those of the items, just where it is there
pub any_is_there : {X : Type 0} (f : X → List ℕ) (w : List ℕ) (xs : List X) → list_any (λ x. bytes_eq (f x) w) xs ≡ true → Contains (map f xs) w
any_is_there f w [] any = absurd (false≢true any)
any_is_there f w (x ∷ xs) any = by_test (bytes_eq (f x) w) refl (any_is_there f w xs) where
  by_test : (b : Bool) → bytes_eq (f x) w ≡ b → (list_any (λ y. bytes_eq (f y) w) xs ≡ true → Contains (map f xs) w) → Contains (map f (x ∷ xs)) w
  by_test true e rec = (0, omega arith, (bytes_eq-Decides (f x) w).0 e)
  by_test false e rec = contains_later (f x) w (map f xs) (rec (ap (λ b. b || list_any (λ y. bytes_eq (f y) w) xs) (sym e) ∙ any))

or_true : (b : Bool) → (b || true) ≡ true
or_true true = refl
or_true false = refl

pub there_is_any : {X : Type 0} (f : X → List ℕ) (w : List ℕ) (xs : List X) → Contains (map f xs) w → list_any (λ x. bytes_eq (f x) w) xs ≡ true
there_is_any f w [] h = absurd (contains_none w h)
there_is_any f w (x ∷ xs) h = by_place (contains_cases (f x) w (map f xs) h) (there_is_any f w xs) where
  by_place : (f x ≡ w) ⊎ Contains (map f xs) w → (Contains (map f xs) w → list_any (λ y. bytes_eq (f y) w) xs ≡ true) → (bytes_eq (f x) w || list_any (λ y. bytes_eq (f y) w) xs) ≡ true
  by_place (inl e) rec = ap (λ b. b || list_any (λ y. bytes_eq (f y) w) xs) (bytes_same (f x) w e)
  by_place (inr k) rec = ap (λ b. bytes_eq (f x) w || b) (rec k) ∙ or_true (bytes_eq (f x) w)

-- a name of the list stands at a place within it
pub place_within : (names : List (List ℕ)) (name : List ℕ) → Contains names name → place_among names name < length names
place_within [] name h = absurd (contains_none name h)
place_within (x ∷ names) name h = by_test (bytes_eq x name) refl (contains_cases x name names h) (λ k. place_within names name k) where
  by_test : (b : Bool) → bytes_eq x name ≡ b → (x ≡ name) ⊎ Contains names name → (Contains names name → place_among names name < length names) → place_among (x ∷ names) name < length (x ∷ names)
  by_test true e k rec = let s : place_among (x ∷ names) name ≡ 0 = ap (λ b. cond (not b) (1 + place_among names name) 0) e in omega (arith, s)
  by_test false e (inl is) rec = absurd (false≢true (sym e ∙ bytes_same x name is))
  by_test false e (inr k) rec = let s : place_among (x ∷ names) name ≡ 1 + place_among names name = ap (λ b. cond (not b) (1 + place_among names name) 0) e in omega (arith, s, rec k)

-- the rows of a name behind the bar, where the first, the second or the third finds a fault
pub condition_unknown : {A : Type 0} (text : List ℕ) (names : List (List ℕ)) (heads : List Head) (earlier : List Token) (name : Token) (r : Result A BuildFault) (fault : BuildFault) → IsErr r × IsErrAnd r (λ y. y ≡ fault) → IsFaultOrNoMemory build_fault (unknown_row text names name) fault → Passes build_fault (condition_steps text names heads earlier name) r
condition_unknown text names heads earlier name r fault e h =
    hands_on build_fault (condition_steps text names heads earlier name) r fault e
    (refused_first (unknown_row text names name) (repeat_row text earlier name ▸ utility_row (kind_at heads (node_named text names name)) name) (build_fault fault) h)

pub condition_repeat : {A : Type 0} (text : List ℕ) (names : List (List ℕ)) (heads : List Head) (earlier : List Token) (name : Token) (r : Result A BuildFault) (fault : BuildFault) → IsErr r × IsErrAnd r (λ y. y ≡ fault) → unknown_row text names name None → IsFaultOrNoMemory build_fault (repeat_row text earlier name) fault → Passes build_fault (condition_steps text names heads earlier name) r
condition_repeat text names heads earlier name r fault e known h =
    hands_on build_fault (condition_steps text names heads earlier name) r fault e
    (refused_later (unknown_row text names name) (repeat_row text earlier name ▸ utility_row (kind_at heads (node_named text names name)) name) (build_fault fault) known
    (refused_first (repeat_row text earlier name) (utility_row (kind_at heads (node_named text names name)) name) (build_fault fault) h))

pub condition_utility : {A : Type 0} (text : List ℕ) (names : List (List ℕ)) (heads : List Head) (earlier : List Token) (name : Token) (v : ℕ) (r : Result A BuildFault) (fault : BuildFault) → IsErr r × IsErrAnd r (λ y. y ≡ fault) → unknown_row text names name None → repeat_row text earlier name None → v ≡ node_named text names name → IsFaultOrNoMemory build_fault (utility_row (kind_at heads v) name) fault → Passes build_fault (condition_steps text names heads earlier name) r
condition_utility text names heads earlier name v r fault e known new is h =
    hands_on build_fault (condition_steps text names heads earlier name) r fault e
    (refused_later (unknown_row text names name) (repeat_row text earlier name ▸ utility_row (kind_at heads (node_named text names name)) name) (build_fault fault) known
    (refused_later (repeat_row text earlier name) (utility_row (kind_at heads (node_named text names name)) name) (build_fault fault) new
    (subst (λ (w : ℕ). IsFaultOrNoMemory build_fault (utility_row (kind_at heads w) name) fault) is h)))

-- what is made of the items so far, one item on
pub map_more : {X Y : Type 0} (f : X → Y) (xs : List X) (ys new : List Y) (i : ℕ) (x : X) (y : Y) → i < length xs → x ≡ get_or xs i x → y ≡ f x → ys ≡ map f (take i xs) → new ≡ ys ++ y ∷ [] → new ≡ map f (take (i + 1) xs)
map_more f xs ys new i x y h is of so made = made ∙ ap (λ zs. zs ++ y ∷ []) so ∙ ap (λ z. map f (take i xs) ++ z ∷ []) of ∙ sym (map-append f (take i xs) (x ∷ [])) ∙ ap (map f) (sym (take_item xs i x h is))

-- the numbers from i on below n, where i is one of them, and where none is
range_next : (i n : ℕ) → i < n → range_with_len i (n - i) ≡ i ∷ range_with_len (i + 1) (n - (i + 1))
range_next i n h = let e : n - i ≡ suc (n - (i + 1)) = omega arith in ap (range_with_len i) e

range_done : (i n : ℕ) → n ≤ i → range_with_len i (n - i) ≡ []
range_done i n h = let e : n - i ≡ 0 = omega arith in ap (range_with_len i) e

-- the numbers below n + 1 are those below n, and n
pub range_more : (a n j : ℕ) → a + n ≡ j → range_with_len a (n + 1) ≡ range_with_len a n ++ j ∷ []
range_more a zero j e = ap (λ x. x ∷ []) (let k : a ≡ j = omega (arith, e) in k)
range_more a (suc n) j e = let s : suc n + 1 ≡ suc (n + 1) = omega arith in ap (range_with_len a) s ∙ ap (λ xs. a ∷ xs) (range_more (a + 1) n j (omega (arith, e)))

-- numbered rows that find nothing, that find a fault, and the end of them
pub range_on : (P : ℕ → Pass Found) (W : Pass Found) (i n : ℕ) → i < n → Leads (each P (range_with_len i (n - i))) W → P i None → Leads (each P (range_with_len (i + 1) (n - (i + 1)))) W
range_on P W i n h lead nothing = leads_on (P i) (each P (range_with_len (i + 1) (n - (i + 1)))) W (rw (range_next i n h) at lead) nothing

pub range_refused : (P : ℕ → Pass Found) (W : Pass Found) (i n : ℕ) (fault : BuildFault) → i < n → Leads (each P (range_with_len i (n - i))) W → IsFaultOrNoMemory build_fault (P i) fault → IsFaultOrNoMemory build_fault W fault
range_refused P W i n fault h lead here = leads_refused (P i ▸ each P (range_with_len (i + 1) (n - (i + 1)))) W (build_fault fault) (rw (range_next i n h) at lead) (refused_first (P i) (each P (range_with_len (i + 1) (n - (i + 1)))) (build_fault fault) here)

pub range_end : (P : ℕ → Pass Found) (W : Pass Found) (i n : ℕ) → n ≤ i → Leads (each P (range_with_len i (n - i))) W → W None
range_end P W i n h lead = leads_end W (λ outcome nothing. lead outcome (rw (range_done i n h) nothing))

range_at : (P : ℕ → Pass Found) (s n v : ℕ) → each P (range_with_len s n) None → v < n → P (s + v) None
range_at P s zero v nothing h = absurd (omega arith)
range_at P s (suc n) zero nothing h = subst (λ (k : ℕ). P k None) (let e : s ≡ s + 0 = omega arith in e) nothing.0
range_at P s (suc n) (suc v) nothing h = subst (λ (k : ℕ). P k None) (let e : s + 1 + v ≡ s + suc v = omega arith in e) (range_at P (s + 1) n v nothing.1 (omega arith))

-- numbered rows that find nothing find nothing at each number
pub number_at : (P : ℕ → Pass Found) (n v : ℕ) → each P (range_with_len 0 n) None → v < n → P v None
number_at P n v nothing h = subst (λ (k : ℕ). P k None) (let e : 0 + v ≡ v = omega arith in e) (range_at P 0 n v nothing h)
