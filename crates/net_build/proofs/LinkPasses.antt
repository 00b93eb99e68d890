-- The lists that the steps have are those of the blocks.
use Rattle.std.proofs.Common.{◌≡◌, ◌≢◌, ℕ, ◌<◌, Bool, true, false, ◌||◌, cond, List, [], ◌∷◌, length, get_or, map, find, Contains, Option, None, Some, refl, ap, sym, subst, ◌∙◌}
use Rattle.std.proofs.lemmas.List.{length-map}
use Rattle.std.specs.List.{AllPairs, list_any}
use Rattle.std.specs.Option.{IsSome, is_some, option_map_or}
use Rattle.std.specs.Str.{bytes_eq}
use Rattle.net_parser.specs.Trees.{BlockTree}
use Rattle.net_build.specs.declared.nodes.Head.{Head}
use Rattle.net_build.specs.Blocks.{node_blocks, potentials, title, block_name, names_of, conditions, potential_of, parent_lists}
use Rattle.net_build.specs.Linking.{node_named, unknown_row, potentials_among, parents_in, potentials_steps, missing_steps, graph_steps, size_steps}
use Rattle.first_fault.specs.Passes.{Pass, ◌▸◌}
use Rattle.first_fault.specs.Answers.{IsFoundIfAny}
use Rattle.net_build.specs.Passes.{Found}
use Rattle.net_build.specs.Stages.{heads_of, head_of, LinkLists, link_lists}
use Rattle.net_build.specs.Table.{node_pass, potential_pass, missing_pass, graph_pass, size_pass}
use Rattle.net_build.proofs.FitLemmas.{within_names}
use Rattle.net_build.proofs.LinkLemmas.{there_is_any}
use Rattle.net_build.proofs.PotentialLemmas.{place_holds, among_at}
use Rattle.net_build.proofs.NodeFacts.{nodes_are_good}

-- one map after another
pub map_map : {X Y Z : Type 0} (g : Y → Z) (f : X → Y) (xs : List X) → map g (map f xs) ≡ map (λ x. g (f x)) xs
map_map g f [] = refl
map_map g f (x ∷ xs) = ap (λ zs. g (f x) ∷ zs) (map_map g f xs)

-- an item is found just where one has the word
found_is_any : {X : Type 0} (f : X → List ℕ) (w : List ℕ) (xs : List X) → is_some (find (λ x. bytes_eq (f x) w) xs) ≡ list_any (λ x. bytes_eq (f x) w) xs
found_is_any f w [] = refl
found_is_any f w (x ∷ xs) = by_test (bytes_eq (f x) w) (found_is_any f w xs) where
  by_test : (b : Bool) → is_some (find (λ y. bytes_eq (f y) w) xs) ≡ list_any (λ y. bytes_eq (f y) w) xs → is_some (cond b (Some x) (find (λ y. bytes_eq (f y) w) xs)) ≡ (b || list_any (λ y. bytes_eq (f y) w) xs)
  by_test true rec = refl
  by_test false rec = rec

there_is_found : {X : Type 0} (f : X → List ℕ) (w : List ℕ) (xs : List X) → Contains (map f xs) w → IsSome (find (λ x. bytes_eq (f x) w) xs)
there_is_found f w xs there = found_is_any f w xs ∙ there_is_any f w xs there

-- a name that stands among the potentials before it is taken
pub taken_from : (text : List ℕ) (names : List (List ℕ)) (earlier : List BlockTree) (p : BlockTree) → unknown_row text names (title p) None → Contains (names_of text earlier) (block_name text p) → IsSome (get_or (potentials_among text names earlier) (node_named text names (title p)) None)
taken_from text names earlier p known there =
    let h : node_named text names (title p) < length names = within_names text names (title p) known in
    subst IsSome (sym (among_at text names earlier (node_named text names (title p)) None h))
    (subst (λ (w : List ℕ). IsSome (find (λ q. bytes_eq (block_name text q) w) earlier)) (sym (place_holds names (block_name text p) h)) (there_is_found (block_name text) (block_name text p) earlier there))

-- the potentials and the parents of the nodes
pub potentials_are : (text : List ℕ) (bs : List BlockTree) → potentials_among text (names_of text (node_blocks bs)) (potentials bs) ≡ map (λ b. potential_of text bs (block_name text b)) (node_blocks bs)
potentials_are text bs = map_map (λ name. find (λ p. bytes_eq (block_name text p) name) (potentials bs)) (block_name text) (node_blocks bs)

pub parents_are : (text : List ℕ) (bs : List BlockTree) → parents_in text (names_of text (node_blocks bs)) (potentials_among text (names_of text (node_blocks bs)) (potentials bs)) ≡ parent_lists text bs
parents_are text bs = ap (parents_in text (names_of text (node_blocks bs))) (potentials_are text bs) ∙ map_map (λ o. option_map_or (λ p. map (node_named text (names_of text (node_blocks bs))) (conditions p)) o []) (λ b. potential_of text bs (block_name text b)) (node_blocks bs)

-- names of nodes whose rows find nothing differ
pub names_differ : (text : List ℕ) (bs : List BlockTree) → node_pass text bs None → AllPairs (λ x y. x ≢ y) (names_of text (node_blocks bs))
names_differ text bs rows = (nodes_are_good text bs rows).distinct

-- what the one refuses, the other does
pub same_refused : (P Q : Pass Found) (told : Option Found) → P ≡ Q → IsFoundIfAny P told → IsFoundIfAny Q told
same_refused P Q told same h = subst (λ (R : Pass Found). IsFoundIfAny R told) same h

-- the passes over the lists that the steps have
pub potentials_into : (text : List ℕ) (bs : List BlockTree) (names : List (List ℕ)) (heads : List Head) → names ≡ names_of text (node_blocks bs) → heads ≡ heads_of text (node_blocks bs) → potentials_steps text names heads bs ≡ potential_pass text bs
unfolding potential_pass
potentials_into text bs names heads names_eq heads_eq = λ i. potentials_steps text (names_eq i) (heads_eq i) bs

among_from : (text : List ℕ) (bs : List BlockTree) (names : List (List ℕ)) (found : List (Option BlockTree)) → names ≡ names_of text (node_blocks bs) → found ≡ potentials_among text names (potentials bs) → found ≡ potentials_among text (names_of text (node_blocks bs)) (potentials bs)
among_from text bs names found names_eq found_eq = found_eq ∙ ap (λ xs. potentials_among text xs (potentials bs)) names_eq

lists_from : (text : List ℕ) (bs : List BlockTree) (names : List (List ℕ)) (found : List (Option BlockTree)) (rows : List (List ℕ)) → names ≡ names_of text (node_blocks bs) → found ≡ potentials_among text names (potentials bs) → rows ≡ parents_in text names found → rows ≡ parent_lists text bs
lists_from text bs names found rows names_eq found_eq rows_eq = rows_eq
    ∙ ap (λ xs. parents_in text xs found) names_eq
    ∙ ap (parents_in text (names_of text (node_blocks bs))) (among_from text bs names found names_eq found_eq)
    ∙ parents_are text bs

pub rest_into : (text : List ℕ) (bs : List BlockTree) (names : List (List ℕ)) (heads : List Head) (found : List (Option BlockTree)) (rows : List (List ℕ)) → names ≡ names_of text (node_blocks bs) → heads ≡ heads_of text (node_blocks bs) → found ≡ potentials_among text names (potentials bs) → rows ≡ parents_in text names found → (missing_steps heads found ▸ graph_steps heads rows ▸ size_steps heads rows) ≡ (missing_pass text bs ▸ graph_pass text bs ▸ size_pass text bs)
unfolding missing_pass graph_pass size_pass
rest_into text bs names heads found rows names_eq heads_eq found_eq rows_eq =
    let own = among_from text bs names found names_eq found_eq ∙ potentials_are text bs in
    let lists = lists_from text bs names found rows names_eq found_eq rows_eq in
    λ i. missing_steps (heads_eq i) (own i) ▸ graph_steps (heads_eq i) (lists i) ▸ size_steps (heads_eq i) (lists i)

-- the links themselves
pub links_are : (text : List ℕ) (bs : List BlockTree) (names : List (List ℕ)) (l : LinkLists) → names ≡ names_of text (node_blocks bs) → l.potentials ≡ potentials_among text names (potentials bs) → l.parents ≡ parents_in text names l.potentials → l ≡ link_lists text bs
links_are text bs names l names_eq found_eq rows_eq =
    ap (λ (rs : List (List ℕ)). let r : LinkLists = record { parents = rs; potentials = l.potentials } in r) (lists_from text bs names l.potentials l.parents names_eq found_eq rows_eq)
    ∙ ap (λ (os : List (Option BlockTree)). let r : LinkLists = record { parents = parent_lists text bs; potentials = os } in r) (among_from text bs names l.potentials names_eq found_eq ∙ potentials_are text bs)

-- one entry for each node
pub length_among : (text : List ℕ) (names : List (List ℕ)) (blocks : List BlockTree) (found : List (Option BlockTree)) → found ≡ potentials_among text names blocks → length found ≡ length names
length_among text names blocks found e = ap length e ∙ length-map names (λ name. find (λ p. bytes_eq (block_name text p) name) blocks)

pub length_in : (text : List ℕ) (names : List (List ℕ)) (found : List (Option BlockTree)) (rows : List (List ℕ)) → rows ≡ parents_in text names found → length rows ≡ length found
length_in text names found rows e = ap length e ∙ length-map found (λ o. option_map_or (λ p. map (node_named text names) (conditions p)) o [])

pub length_heads : (text : List ℕ) (bs : List BlockTree) (names : List (List ℕ)) (heads : List Head) → names ≡ names_of text (node_blocks bs) → heads ≡ map (head_of text (node_blocks bs)) (node_blocks bs) → length names ≡ length heads
length_heads text bs names heads names_eq heads_eq = ap length names_eq ∙ length-map (node_blocks bs) (block_name text) ∙ sym (length-map (node_blocks bs) (head_of text (node_blocks bs))) ∙ sym (ap length heads_eq)
