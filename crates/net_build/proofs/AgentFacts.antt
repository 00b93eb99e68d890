-- Agents among nodes have places among the agents.
use Rattle.std.proofs.Common.{◌≡◌, ◌≢◌, ℕ, suc, ◌+◌, ◌<◌, Bool, true, false, not, ◌||◌, cond, List, [], ◌∷◌, ◌++◌, length, get_or, map, filter, All, AllPairs, Contains, refl, ap, sym, ◌∙◌, arith}
use Rattle.std.proofs.lemmas.Bool.{false≢true}
use Rattle.std.proofs.lemmas.List.Concat.{flat_map-cons}
use Rattle.std.proofs.lemmas.List.Elements.{All-nil, All-cons, All-map, All-weaker}
use Rattle.std.proofs.lemmas.List.{get_or-map, length-map}
use Rattle.std.specs.List.{flat_map}
use Rattle.maid_model.specs.Graph.{AllDifferent}
use Rattle.std.proofs.lemmas.Slice.Eq.{bytes_eq-Decides}
use Rattle.std.specs.Prelude.{if◌then◌else◌}
use Rattle.std.specs.Str.{bytes_eq}
use Rattle.maid_model.specs.Nodes.{is_chance}
use Rattle.finite_sums.proofs.Sights.{bytes_same}
use Rattle.net_build.specs.Blocks.{is_node, kind_of, has_agent, owner_texts, agents_of, first_sights, place_among, owner_numbers}
use Rattle.net_parser.specs.Trees.{BlockTree}
use Rattle.net_parser.specs.declared.trees.BlockKind.{BlockKind}
use Rattle.net_parser.specs.declared.trees.BlockKind.TheVariants.{Net, Node, Decision, Utility, Potential}
use Rattle.net_build.proofs.AttributeLemmas.{or_true}
use Rattle.net_build.proofs.SightLemmas.{has, others, has_others, has-append, has-before, agents_among}

-- each value has its first sight
pub sights_have : (xs : List (List ℕ)) (x : List ℕ) → has xs x ≡ true → has (first_sights xs) x ≡ true
sights_have [] x e = absurd (false≢true e)
sights_have (y ∷ xs) x e = by_test (bytes_eq y x) refl (λ k. sights_have xs x k) where
  by_test : (b : Bool) → bytes_eq y x ≡ b → (has xs x ≡ true → has (first_sights xs) x ≡ true) → (bytes_eq y x || has (others y (first_sights xs)) x) ≡ true
  by_test true t rec = ap (λ b. b || has (others y (first_sights xs)) x) t
  by_test false t rec = ap (λ b. b || has (others y (first_sights xs)) x) t ∙ has_others y x (first_sights xs) t ∙ rec (ap (λ b. b || has xs x) (sym t) ∙ e)

-- a name that is there has a place in the list
pub place_within : (names : List (List ℕ)) (a : List ℕ) → has names a ≡ true → place_among names a < length names
place_within [] a e = absurd (false≢true e)
place_within (x ∷ xs) a e = by_test (bytes_eq x a) refl (λ k. place_within xs a k) where
  by_test : (b : Bool) → bytes_eq x a ≡ b → (has xs a ≡ true → place_among xs a < length xs) → place_among (x ∷ xs) a < suc (length xs)
  by_test true t rec = let p : place_among (x ∷ xs) a ≡ 0 = ap (λ b. cond (not b) (1 + place_among xs a) 0) t in omega (arith, p)
  by_test false t rec = let p : place_among (x ∷ xs) a ≡ 1 + place_among xs a = ap (λ b. cond (not b) (1 + place_among xs a) 0) t in let r = rec (ap (λ b. b || has xs a) (sym t) ∙ e) in omega (arith, p, r)

-- and stands there
pub place_at : (names : List (List ℕ)) (a : List ℕ) → has names a ≡ true → get_or names (place_among names a) [] ≡ a
place_at [] a e = absurd (false≢true e)
place_at (x ∷ xs) a e = by_test (bytes_eq x a) refl (λ k. place_at xs a k) where
  by_test : (b : Bool) → bytes_eq x a ≡ b → (has xs a ≡ true → get_or xs (place_among xs a) [] ≡ a) → get_or (x ∷ xs) (place_among (x ∷ xs) a) [] ≡ a
  by_test true t rec = ap (λ n. get_or (x ∷ xs) n []) (ap (λ b. cond (not b) (1 + place_among xs a) 0) t) ∙ (bytes_eq-Decides x a).0 t
  by_test false t rec =
      let next : 1 + place_among xs a ≡ suc (place_among xs a) = omega arith in
      ap (λ n. get_or (x ∷ xs) n []) (ap (λ b. cond (not b) (1 + place_among xs a) 0) t ∙ next) ∙ rec (ap (λ b. b || has xs a) (sym t) ∙ e)

-- a list has its own names
names_have : (names : List (List ℕ)) → All (λ a. has names a ≡ true) names
names_have [] = All-nil (λ a. has [] a ≡ true)
names_have (x ∷ xs) = All-cons (λ a. has (x ∷ xs) a ≡ true) x xs (ap (λ b. b || has xs x) (bytes_same x x refl))
    (All-weaker (λ a. has xs a ≡ true) (λ a. has (x ∷ xs) a ≡ true) (λ a e. ap (λ b. bytes_eq x a || b) e ∙ or_true (bytes_eq x a)) xs (names_have xs))

-- the owners among one node and others
among_yes : (text : List ℕ) (y : BlockTree) (ys : List BlockTree) → has_agent y.kind ≡ true → agents_among text (y ∷ ys) ≡ owner_texts text y ++ agents_among text ys
among_yes text y ys e =
    ap (λ b. flat_map (owner_texts text) (cond b (y ∷ filter (λ c. has_agent c.kind) ys) (filter (λ c. has_agent c.kind) ys))) e
    ∙ flat_map-cons (owner_texts text) y (filter (λ c. has_agent c.kind) ys)

among_no : (text : List ℕ) (y : BlockTree) (ys : List BlockTree) → has_agent y.kind ≡ false → agents_among text (y ∷ ys) ≡ agents_among text ys
among_no text y ys e = ap (λ b. flat_map (owner_texts text) (cond b (y ∷ filter (λ c. has_agent c.kind) ys) (filter (λ c. has_agent c.kind) ys))) e

-- the names have the block's owners, if it has some
abbrev pub HasOwnersOf : List ℕ → List (List ℕ) → BlockTree → Type 0
HasOwnersOf text names b = has_agent b.kind ≡ true → All (λ a. has names a ≡ true) (owner_texts text b)

-- each node's owners are among those of the nodes
pub agents_have : (text : List ℕ) (nodes : List BlockTree) → All (HasOwnersOf text (agents_among text nodes)) nodes
agents_have text [] = All-nil (HasOwnersOf text (agents_among text []))
agents_have text (y ∷ ys) = All-cons (HasOwnersOf text (agents_among text (y ∷ ys))) y ys
    (λ e. All-weaker (λ a. has (owner_texts text y) a ≡ true) (λ a. has (agents_among text (y ∷ ys)) a ≡ true)
    (λ a h. ap (λ s. has s a) (among_yes text y ys e) ∙ has-before (owner_texts text y) (agents_among text ys) a h) (owner_texts text y) (names_have (owner_texts text y)))
    (All-weaker (HasOwnersOf text (agents_among text ys)) (HasOwnersOf text (agents_among text (y ∷ ys)))
    (λ b k e. All-weaker (λ a. has (agents_among text ys) a ≡ true) (λ a. has (agents_among text (y ∷ ys)) a ≡ true) (λ a h. later a (has_agent y.kind) refl h) (owner_texts text b) (k e)) ys (agents_have text ys)) where
      later : (a : List ℕ) (t : Bool) → has_agent y.kind ≡ t → has (agents_among text ys) a ≡ true → has (agents_among text (y ∷ ys)) a ≡ true
      later a true t h = ap (λ s. has s a) (among_yes text y ys t) ∙ has-append (owner_texts text y) (agents_among text ys) a h
      later a false t h = ap (λ s. has s a) (among_no text y ys t) ∙ h

-- and so among the agents
pub agents_known : (text : List ℕ) (nodes : List BlockTree) → All (HasOwnersOf text (agents_of text nodes)) nodes
agents_known text nodes = All-weaker (HasOwnersOf text (agents_among text nodes)) (HasOwnersOf text (agents_of text nodes))
    (λ b k e. All-weaker (λ a. has (agents_among text nodes) a ≡ true) (λ a. has (agents_of text nodes) a ≡ true) (λ a h. sights_have (agents_among text nodes) a h) (owner_texts text b) (k e))
    nodes (agents_have text nodes)

-- names that are there have places in the list
pub places_within : (agents names : List (List ℕ)) → All (λ a. has agents a ≡ true) names → All (λ n. n < length agents) (map (place_among agents) names)
places_within agents names all = All-map (λ n. n < length agents) (place_among agents) names (All-weaker (λ a. has agents a ≡ true) (λ a. place_among agents a < length agents) (λ a e. place_within agents a e) names all)

-- and stand there
places_at : (agents names : List (List ℕ)) → All (λ a. has agents a ≡ true) names → map (λ v. get_or agents v []) (map (place_among agents) names) ≡ names
places_at agents [] all = refl
places_at agents (x ∷ xs) all = λ j. place_at agents x (all 0 x (omega arith)) j ∷ places_at agents xs (λ k d h. all (suc k) d (omega arith)) j

-- so that different names have different places
pub places_differ : (agents names : List (List ℕ)) → All (λ a. has agents a ≡ true) names → AllPairs (λ name later. name ≢ later) names → AllDifferent (map (place_among agents) names)
places_differ agents [] all apart = tt
places_differ agents (x ∷ xs) all apart = (first, places_differ agents xs (λ k d h. all (suc k) d (omega arith)) (λ i j d lt h. apart (suc i) (suc j) d (omega arith) (omega arith)))
  where
    first : Contains (map (place_among agents) xs) (place_among agents x) → ⊥
    first (k, h, e) =
        let count = length-map xs (place_among agents) in
        let within : k < length xs = omega arith in
        let there : get_or xs k [] ≡ x =
        sym (place_at agents (get_or xs k []) (all (suc k) [] (omega arith)))
        ∙ ap (λ n. get_or agents n []) (sym (get_or-map (place_among agents) xs k [] (place_among agents x) within) ∙ e)
        ∙ place_at agents x (all 0 x (omega arith)) in
        apart 0 (suc k) [] (omega arith) (omega arith) (sym there)

-- a node that is no chance node has an agent
pub owned : (k : BlockKind) → is_node k ≡ true → not (is_chance (kind_of k)) ≡ has_agent k
owned Net e = absurd (false≢true e)
owned Node e = refl
owned Decision e = refl
owned Utility e = refl
owned Potential e = absurd (false≢true e)

-- the owners of the nodes that are no chance nodes, by their numbers
pub owners_name : (text : List ℕ) (all : List BlockTree) (nodes : List BlockTree) → All (λ b. is_node b.kind ≡ true) nodes → All (HasOwnersOf text (agents_of text all)) nodes
    → flat_map (λ b. map (λ v. get_or (agents_of text all) v []) (owner_numbers text all b)) (filter (λ b. not (is_chance (kind_of b.kind))) nodes) ≡ agents_among text nodes
owners_name text all [] kinds known = refl
owners_name text all (y ∷ ys) kinds known = by_test (has_agent y.kind) refl (owners_name text all ys (λ k d h. kinds (suc k) d (omega arith)) (λ k d h. known (suc k) d (omega arith))) where
  named : BlockTree → List (List ℕ)
  named b = map (λ v. get_or (agents_of text all) v []) (owner_numbers text all b)

  kept : (t : Bool) → has_agent y.kind ≡ t → flat_map named (filter (λ b. not (is_chance (kind_of b.kind))) (y ∷ ys)) ≡ flat_map named (cond t (y ∷ filter (λ b. not (is_chance (kind_of b.kind))) ys) (filter (λ b. not (is_chance (kind_of b.kind))) ys))
  kept t e = ap (λ c. flat_map named (cond c (y ∷ filter (λ b. not (is_chance (kind_of b.kind))) ys) (filter (λ b. not (is_chance (kind_of b.kind))) ys))) (owned y.kind (kinds 0 y (omega arith)) ∙ e)

  by_test : (t : Bool) → has_agent y.kind ≡ t → flat_map named (filter (λ b. not (is_chance (kind_of b.kind))) ys) ≡ agents_among text ys → flat_map named (filter (λ b. not (is_chance (kind_of b.kind))) (y ∷ ys)) ≡ agents_among text (y ∷ ys)
  by_test true t rec =
      let here : named y ≡ owner_texts text y =
      ap (λ c. map (λ v. get_or (agents_of text all) v []) (if c then map (place_among (agents_of text all)) (owner_texts text y) else 0 ∷ [])) t
      ∙ places_at (agents_of text all) (owner_texts text y) (known 0 y (omega arith) t) in
      kept true t ∙ flat_map-cons named y (filter (λ b. not (is_chance (kind_of b.kind))) ys) ∙ (λ j. here j ++ rec j) ∙ sym (among_yes text y ys t)
  by_test false t rec = kept false t ∙ rec ∙ sym (among_no text y ys t)
