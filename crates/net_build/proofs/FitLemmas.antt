-- Names behind a bar whose rows find nothing are parents that a node may have.
use Rattle.std.proofs.Common.{◌≡◌, ◌≢◌, ◌⊎◌, inl, inr, ℕ, zero, suc, ◌<◌, ◌≤◌, List, [], ◌∷◌, ◌++◌, length, get_or, map, take, replicate, All, Contains, None, ap, sym, subst, ◌∙◌, arith, append_assoc}
use Rattle.std.proofs.lemmas.Bool.{cases_lt}
use Rattle.std.proofs.lemmas.List.{append-nil, get_or-map, get_or-replicate, length-map, length-replicate, map-append}
use Rattle.std.proofs.lemmas.List.Elements.{Contains-append_left, Contains-append_right}
use Rattle.maid_model.specs.declared.diagrams.Kind.TheVariants.{Chance, Utility}
use Rattle.std.proofs.Math.ListN.{get_or-eq_default}
use Rattle.diagram_graph.specs.Cycles.{ListedArc}
use Rattle.maid_model.specs.Graph.{IsAcyclic, AllDifferent}
use Rattle.net_lexer.specs.Token.{token_bytes}
use Rattle.net_lexer.specs.declared.tokens.Token.{Token}
use Rattle.net_build.specs.declared.nodes.Head.{Head}
use Rattle.net_build.specs.Blocks.{no_token}
use Rattle.net_build.specs.Linking.{node_named, kind_at, unknown_row, condition_steps, AreParents, rules_before}
use Rattle.first_fault.specs.Passes.{each_after}
use Rattle.net_build.specs.Stages.{head_at, no_head, cells_of_head, AreLinks}
use Rattle.net_build.proofs.AttributeLemmas.{contains_first, contains_cases, contains_none}
use Rattle.net_build.proofs.LinkLemmas.{place_within}
use Rattle.net_build.proofs.PotentialLemmas.{place_holds}

-- an order holds where it is not false
below_from : (a b : ℕ) → ((a < b → ⊥) → ⊥) → a < b
below_from a b h = by_order (cases_lt a b) where
  by_order : (a < b) ⊎ (b ≤ a) → a < b
  by_order (inl lt) = lt
  by_order (inr ge) = absurd (h (λ lt. omega arith))

pub not_above : (n limit : ℕ) → (limit < n → ⊥) → n ≤ limit
not_above n limit h = by_order (cases_lt limit n) where
  by_order : (limit < n) ⊎ (n ≤ limit) → n ≤ limit
  by_order (inl gt) = absurd (h gt)
  by_order (inr le) = le

-- a name that is not unknown stands within
pub within_names : (text : List ℕ) (names : List (List ℕ)) (name : Token) → unknown_row text names name None → node_named text names name < length names
within_names text names name known = below_from (node_named text names name) (length names) (λ out. known (λ there. out (place_within names (token_bytes text name) there)))

-- the rows of an item, where all find nothing
rows_at : (text : List ℕ) (names : List (List ℕ)) (heads : List Head) (earlier cs : List Token) → each_after (condition_steps text names heads) earlier cs None → (k : ℕ) → k < length cs → condition_steps text names heads (earlier ++ take k cs) (get_or cs k no_token) None
rows_at text names heads earlier [] rows k h = absurd (omega arith)
rows_at text names heads earlier (c ∷ cs) rows zero h = rw append-nil rows.0
rows_at text names heads earlier (c ∷ cs) rows (suc k) h = rw (← append_assoc earlier (c ∷ []) (take k cs)) (rows_at text names heads (earlier ++ c ∷ []) cs rows.1 k (omega arith))

-- names that stand earlier have no node of those behind
apart : (text : List ℕ) (names : List (List ℕ)) (heads : List Head) (x : Token) → unknown_row text names x None → (earlier cs : List Token) → Contains (map (token_bytes text) earlier) (token_bytes text x) → each_after (condition_steps text names heads) earlier cs None → Contains (map (node_named text names) cs) (node_named text names x) → ⊥
apart text names heads x known earlier [] before rows there = contains_none _ there
apart text names heads x known earlier (c ∷ cs) before rows there = by_place (contains_cases (node_named text names c) (node_named text names x) (map (node_named text names) cs) there)
    (apart text names heads x known (earlier ++ c ∷ []) cs (rw map-append (Contains-append_left (map (token_bytes text) earlier) (map (token_bytes text) (c ∷ [])) (token_bytes text x) before)) rows.1) where
      same : node_named text names c ≡ node_named text names x → token_bytes text x ≡ token_bytes text c
      same e = sym (place_holds names (token_bytes text x) (within_names text names x known)) ∙ ap (λ (v : ℕ). get_or names v []) (sym e) ∙ place_holds names (token_bytes text c) (within_names text names c rows.0.0)

      by_place : (node_named text names c ≡ node_named text names x) ⊎ Contains (map (node_named text names) cs) (node_named text names x) → (Contains (map (node_named text names) cs) (node_named text names x) → ⊥) → ⊥
      by_place (inl e) rec = rows.0.1.0 (subst (λ (w : List ℕ). Contains (map (token_bytes text) earlier) w) (same e) before)
      by_place (inr k) rec = rec k

differ_from : (text : List ℕ) (names : List (List ℕ)) (heads : List Head) (earlier cs : List Token) → each_after (condition_steps text names heads) earlier cs None → AllDifferent (map (node_named text names) cs)
differ_from text names heads earlier [] rows = tt
differ_from text names heads earlier (c ∷ cs) rows =
    (apart text names heads c rows.0.0 (earlier ++ c ∷ []) cs (rw map-append (Contains-append_right (map (token_bytes text) earlier) (map (token_bytes text) (c ∷ [])) (token_bytes text c) (contains_first (token_bytes text c) []))) rows.1, differ_from text names heads (earlier ++ c ∷ []) cs rows.1)

-- the kind at a place within
pub kind_within : (heads : List Head) (v : ℕ) → v < length heads → kind_at heads v ≡ (head_at heads v).kind
kind_within heads v h = get_or-map (λ x. x.kind) heads v no_head Chance h

pub conditions_fit : (text : List ℕ) (names : List (List ℕ)) (heads : List Head) (cs : List Token) (list : List ℕ) → length heads ≡ length names → each_after (condition_steps text names heads) [] cs None → (16 < length cs → ⊥) → list ≡ map (node_named text names) cs → AreParents heads list
conditions_fit text names heads cs list same rows few is = subst (AreParents heads) (sym is) record {
  known = known;
  differ = differ_from text names heads [] cs rows;
  no_utility = no_utility;
  few = let n : length (map (node_named text names) cs) ≡ length cs = length-map cs (node_named text names) in omega (arith, not_above (length cs) 16 few);
} where
  at : (k d : ℕ) → k < length (map (node_named text names) cs) → get_or (map (node_named text names) cs) k d ≡ node_named text names (get_or cs k no_token)
  at k d h = get_or-map (node_named text names) cs k no_token d (let n : length (map (node_named text names) cs) ≡ length cs = length-map cs (node_named text names) in omega arith)

  within : (k : ℕ) → k < length (map (node_named text names) cs) → node_named text names (get_or cs k no_token) < length heads
  within k h = let n : length (map (node_named text names) cs) ≡ length cs = length-map cs (node_named text names) in omega (arith, same, within_names text names (get_or cs k no_token) (rows_at text names heads [] cs rows k (omega arith)).0)

  known : All (λ u. u < length heads) (map (node_named text names) cs)
  known k d h = subst (λ (u : ℕ). u < length heads) (sym (at k d h)) (within k h)

  no_utility : All (λ u. (head_at heads u).kind ≢ Utility) (map (node_named text names) cs)
  no_utility k d h = subst (λ (u : ℕ). (head_at heads u).kind ≢ Utility) (sym (at k d h))
      (λ e. let n : length (map (node_named text names) cs) ≡ length cs = length-map cs (node_named text names) in (rows_at text names heads [] cs rows k (omega arith)).1.1 (kind_within heads (node_named text names (get_or cs k no_token)) (within k h) ∙ e))

-- a node without a potential has no parents
pub none_fit : (heads : List Head) → AreParents heads []
none_fit heads = record { known = λ k d h. absurd (omega arith); differ = tt; no_utility = λ k d h. absurd (omega arith); few = omega arith }

pub none_fit_all : (heads : List Head) (n : ℕ) → All (AreParents heads) (replicate n [])
none_fit_all heads n k d h = subst (AreParents heads) (sym (get_or-replicate n k [] d (let l : length (replicate n []) ≡ n = length-replicate {A = List ℕ} n [] in omega arith))) (none_fit heads)

-- the parents at any number
pub fits_at : (heads : List Head) (rows : List (List ℕ)) → All (AreParents heads) rows → (v : ℕ) → AreParents heads (get_or rows v [])
fits_at heads rows fits v = by_order (cases_lt v (length rows)) where
  by_order : (v < length rows) ⊎ (length rows ≤ v) → AreParents heads (get_or rows v [])
  by_order (inl h) = fits v [] h
  by_order (inr h) = subst (AreParents heads) (sym (get_or-eq_default rows [] h)) (none_fit heads)

pub known_arcs : (heads : List Head) (rows : List (List ℕ)) → All (AreParents heads) rows → (u v : ℕ) → ListedArc rows u v → u < length heads
known_arcs heads rows fits u v (k, within, here) = subst (λ (w : ℕ). w < length heads) here ((fits_at heads rows fits v).known k u within)

-- the parents make a graph within the limits
pub links_fit : (heads : List Head) (rows : List (List ℕ)) → All (AreParents heads) rows → IsAcyclic (ListedArc rows) → ((v : ℕ) → v < length heads → cells_of_head heads rows v ≤ 65536) → rules_before heads rows (length heads) ≤ 262144 → AreLinks heads rows
links_fit heads rows fits acyclic cells rules = record {
  known = known_arcs heads rows fits;
  differ = λ v. (fits_at heads rows fits v).differ;
  no_utility = λ u v arc. no_utility u v arc;
  acyclic = acyclic;
  few = λ v. (fits_at heads rows fits v).few;
  cells = cells;
  rules = rules;
} where
  no_utility : (u v : ℕ) → ListedArc rows u v → (head_at heads u).kind ≢ Utility
  no_utility u v (k, within, here) = subst (λ (w : ℕ). (head_at heads w).kind ≢ Utility) here ((fits_at heads rows fits v).no_utility k u within)
