-- What the passes over blocks say of nodes and potentials, where they find nothing.
use Rattle.std.proofs.Common.{◌≡◌, ◌≢◌, ◌<◌, ℕ, zero, suc, Bool, true, false, not, ◌&&◌, cond, List, [], ◌∷◌, ◌++◌, All, Contains, length, get_or, map, filter, take, None, Some, refl, sym, ap, subst, ◌∙◌, arith, append_assoc}
use Rattle.std.specs.List.{flat_map, find}
use Rattle.std.specs.Str.{bytes_eq}
use Rattle.std.specs.Prelude.{codes, if◌then◌else◌}
use Rattle.std.proofs.lemmas.Bool.{false≢true}
use Rattle.std.proofs.lemmas.List.{get_or-map, append-nil, length-map}
use Rattle.std.proofs.lemmas.List.Elements.{All-cons, All-append}
use Rattle.std.proofs.lemmas.List.Sums.{prefix_len_stops}
use Rattle.std.proofs.lemmas.Slice.Eq.{bytes_eq-Decides}
use Rattle.net_lexer.specs.declared.tokens.Token.{Token}
use Rattle.net_parser.specs.Trees.{ValueTree, leaf, list, none, more, AttributeTree, BlockTree}
use Rattle.net_parser.specs.Owned.{leaves}
use Rattle.net_build.specs.Blocks.{leaves_of, has_states, is_string_list, named, block_states, place_among}
use Rattle.first_fault.specs.Passes.{Pass, each_after, only}
use Rattle.net_build.specs.Passes.{Found}
use Rattle.net_build.specs.Table.{node_rows, states_rows, label_rows}
use Rattle.net_build.proofs.PlaceLemmas.{first_place_is}

-- in lists
pub each_after_at : {X : Type 0} (P : List X → X → Pass Found) (earlier xs : List X) (d : X) (v : ℕ) → each_after P earlier xs None → v < length xs → P (earlier ++ take v xs) (get_or xs v d) None
each_after_at P earlier [] d v h within = absurd (omega arith)
each_after_at P earlier (x ∷ xs) d zero h within = rw (append-nil earlier) h.0
each_after_at P earlier (x ∷ xs) d (suc v) h within = rw (append_assoc earlier (x ∷ []) (take v xs)) at (each_after_at P (earlier ++ x ∷ []) xs d v h.1 (omega arith))

pub all_filter : {X : Type 0} (P : X → Type 0) (q : X → Bool) (xs : List X) → All P xs → All (λ x. P x × (q x ≡ true)) (filter q xs)
all_filter P q [] all = λ k d within. absurd (omega arith)
all_filter P q (x ∷ xs) all = by_test (q x) refl (all_filter P q xs (λ k d within. all (suc k) d (omega arith))) where
  by_test : (b : Bool) → q x ≡ b → All (λ y. P y × (q y ≡ true)) (filter q xs) → All (λ y. P y × (q y ≡ true)) (filter q (x ∷ xs))
  by_test true e rest = subst (λ b. All (λ y. P y × (q y ≡ true)) (cond b (x ∷ filter q xs) (filter q xs))) (sym e) (All-cons (λ y. P y × (q y ≡ true)) x (filter q xs) (all 0 x (omega arith), e) rest)
  by_test false e rest = subst (λ b. All (λ y. P y × (q y ≡ true)) (cond b (x ∷ filter q xs) (filter q xs))) (sym e) rest

pub filter_filter : {X : Type 0} (p q : X → Bool) (xs : List X) → filter q (filter p xs) ≡ filter (λ x. p x && q x) xs
filter_filter p q [] = refl
filter_filter p q (x ∷ xs) = by_test (p x) (q x) refl refl (filter_filter p q xs) where
  by_test : (a b : Bool) → p x ≡ a → q x ≡ b → filter q (filter p xs) ≡ filter (λ y. p y && q y) xs → filter q (filter p (x ∷ xs)) ≡ filter (λ y. p y && q y) (x ∷ xs)
  by_test true true e f rest = ap (λ a. filter q (cond a (x ∷ filter p xs) (filter p xs))) e ∙ ap (λ b. cond b (x ∷ filter q (filter p xs)) (filter q (filter p xs))) f ∙ ap (λ ys. x ∷ ys) rest ∙ (λ i. cond (sym e i && sym f i) (x ∷ filter (λ y. p y && q y) xs) (filter (λ y. p y && q y) xs))
  by_test true false e f rest = ap (λ a. filter q (cond a (x ∷ filter p xs) (filter p xs))) e ∙ ap (λ b. cond b (x ∷ filter q (filter p xs)) (filter q (filter p xs))) f ∙ rest ∙ (λ i. cond (sym e i && sym f i) (x ∷ filter (λ y. p y && q y) xs) (filter (λ y. p y && q y) xs))
  by_test false b e f rest = ap (λ a. filter q (cond a (x ∷ filter p xs) (filter p xs))) e ∙ rest ∙ (λ i. cond (sym e i && q x) (x ∷ filter (λ y. p y && q y) xs) (filter (λ y. p y && q y) xs))

pub all_flat : {X Y : Type 0} (P : Y → Type 0) (f : X → List Y) (xs : List X) → All (λ x. All P (f x)) xs → All P (flat_map f xs)
all_flat P f [] all = λ k d within. absurd (omega arith)
all_flat P f (x ∷ xs) all = all_append P (f x) (flat_map f xs) (all 0 x (omega arith)) (all_flat P f xs (λ k d within. all (suc k) d (omega arith))) where
  all_append : {Y : Type 0} (Q : Y → Type 0) (ls rs : List Y) → All Q ls → All Q rs → All Q (ls ++ rs)
  all_append Q ls rs l r = All-append Q ls rs l r

-- a block that a filter finds, and what a search finds
pub found_in : {X : Type 0} (q : X → Bool) (P : X → Type 0) (xs : List X) (x : X) → find q xs ≡ Some x → All P xs → P x × (q x ≡ true)
found_in q P [] x e all = absurd (cc)
found_in q P (y ∷ ys) x e all = by_test (q y) refl (λ g. found_in q P ys x g (λ k d within. all (suc k) d (omega arith))) where
  by_test : (b : Bool) → q y ≡ b → (find q ys ≡ Some x → P x × (q x ≡ true)) → P x × (q x ≡ true)
  by_test true t rec = let s : y ≡ x = (let h : Some y ≡ Some x = subst (λ b. cond b (Some y) (find q ys) ≡ Some x) t e in cc) in subst (λ z. P z × (q z ≡ true)) s (all 0 y (omega arith), t)
  by_test false t rec = rec (subst (λ b. cond b (Some y) (find q ys) ≡ Some x) t e)

pub finds : {X : Type 0} (q : X → Bool) (xs : List X) (d : X) (j : ℕ) → j < length xs → ((k : ℕ) → k < j → q (get_or xs k d) ≡ false) → q (get_or xs j d) ≡ true → find q xs ≡ Some (get_or xs j d)
finds q [] d j within before here = absurd (omega arith)
finds q (x ∷ xs) d zero within before here = ap (λ b. cond b (Some x) (find q xs)) here
finds q (x ∷ xs) d (suc j) within before here = ap (λ b. cond b (Some x) (find q xs)) (before 0 (omega arith)) ∙ finds q xs d j (omega arith) (λ k h. before (suc k) (omega arith)) here

pub take_at : {X : Type 0} (xs : List X) (d : X) (k v : ℕ) → k < v → v < length xs → Contains (take v xs) (get_or xs k d)
take_at [] d k v h within = absurd (omega arith)
take_at (x ∷ xs) d k zero h within = absurd (omega arith)
take_at (x ∷ xs) d zero (suc v) h within = (0, omega arith, refl)
take_at (x ∷ xs) d (suc k) (suc v) h within = later (take_at xs d k v (omega arith) (omega arith)) where
  later : Contains (take v xs) (get_or xs k d) → Contains (x ∷ take v xs) (get_or xs k d)
  later (i, near, here) = (suc i, omega arith, here)

pub contains_map : {X Y : Type 0} (f : X → Y) (xs : List X) (x : X) → Contains xs x → Contains (map f xs) (f x)
contains_map f xs x (k, within, here) = (k, omega (arith, length-map xs f, within), get_or-map f xs k x (f x) within ∙ ap f here)

-- a name that differs from those before stands at its place
pub place_at : (names : List (List ℕ)) (v : ℕ) → v < length names → ((k : ℕ) → k < v → get_or names k [] ≢ get_or names v []) → place_among names (get_or names v []) ≡ v
place_at names v within differ = first_place_is names (get_or names v []) v (record { within = within; here = refl; first = differ })

not_false : (b : Bool) → not b ≡ false → b ≡ true
not_false true e = refl
not_false false e = absurd (false≢true (sym e))

pub place_here : (names : List (List ℕ)) (name : List ℕ) → place_among names name < length names → get_or names (place_among names name) [] ≡ name
place_here names name h = (bytes_eq-Decides _ _).0 (not_false (bytes_eq (get_or names (place_among names name) []) name) (prefix_len_stops (λ other. not (bytes_eq other name)) names [] h))

-- a list of strings has a leaf
strings_some : (value : ValueTree) → (is_string_list value ≡ false → ⊥) → 0 < length (leaves value)
strings_some (leaf token) h = absurd (h refl)
strings_some (list none) h = absurd (h refl)
strings_some (list (more (leaf token) values)) h = omega arith
strings_some (list (more (list vs) values)) h = absurd (h refl)

by_flag : (b : Bool) (ts : List Token) → (b ≡ true → 0 < length ts) → 0 < (if b then length (if b then ts else []) else 1)
by_flag true ts h = h refl
by_flag false ts h = omega arith

module _ (text : List ℕ) where
  labels_some : (block : BlockTree) (attributes : List AttributeTree) → states_rows text block attributes None → 0 < length (leaves_of attributes)
  unfolding states_rows label_rows
  labels_some block [] h = absurd (h tt)
  labels_some block (a ∷ later) h = strings_some a.value h.0

  -- a node has states
  pub states_some : (names agents : List (List ℕ)) (block : BlockTree) → node_rows text names agents block None → 0 < block_states text block
  unfolding node_rows
  states_some names agents block h = by_flag (has_states block.kind) (leaves_of (named text (codes "states") block.attributes)) (λ e. labels_some block (named text (codes "states") block.attributes) (subst (λ b. only b (states_rows text block (named text (codes "states") block.attributes)) None) e h.1.1.0))
