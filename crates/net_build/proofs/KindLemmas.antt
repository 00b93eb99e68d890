-- The kind of the node of a name.
use Rattle.std.proofs.Common.{◌≡◌, ◌⊎◌, inl, inr, ◌<◌, ◌≤◌, ℕ, true, false, not, List, [], Contains, length, get_or, map, refl, sym, ap, subst, ◌∙◌, arith}
use Rattle.std.proofs.lemmas.List.{get_or-map, get_or_default, length-map}
use Rattle.std.proofs.Math.ListN.{get_or-eq_default}
use Rattle.std.proofs.lemmas.Bool.{false≢true}
use Rattle.std.proofs.lemmas.List.Sums.{prefix_len_passes}
use Rattle.std.specs.Str.{bytes_eq}
use Rattle.maid_model.specs.contracts.diagrams.Kind.{the_type}
use Rattle.maid_model.specs.declared.diagrams.Kind.{Kind}
use Rattle.maid_model.specs.declared.diagrams.Kind.TheVariants as model
use Rattle.maid_model.specs.Nodes.{is_utility}
use denote.Enum.Bare.{sameb}
use Rattle.finite_sums.proofs.Sights.{bytes_same}
use Rattle.net_build.specs.declared.nodes.Head.{Head}
use Rattle.net_build.specs.Blocks.{place_among}
use Rattle.net_build.specs.Stages.{NodeLists}
use Rattle.net_build.specs.Table.{kind_in}
use Rattle.net_build.proofs.BlockLemmas.{place_here}

pub same_utility : (k : Kind) → sameb the_type k model.Utility ≡ is_utility k
same_utility model.Chance = refl
same_utility model.Decision = refl
same_utility model.Utility = refl

order : (a b : ℕ) → (a < b) ⊎ (b ≤ a)
order a b = grind arith

-- a name that the list has stands at its place
place_within : (names : List (List ℕ)) (name : List ℕ) → Contains names name → place_among names name < length names
place_within names name (k, within, here) = by_order (order (place_among names name) (length names)) where
  found : bytes_eq (get_or names k []) name ≡ true
  found = bytes_same (get_or names k []) name (get_or_default names k [] name within ∙ here)

  by_order : (place_among names name < length names) ⊎ (length names ≤ place_among names name) → place_among names name < length names
  by_order (inl h) = h
  by_order (inr h) = absurd (false≢true (sym (ap not found) ∙ prefix_len_passes (λ other. not (bytes_eq other name)) names k [] (omega (arith, within, h))))

pub found_within : (nodes : NodeLists) (names : List (List ℕ)) (heads : List Head) (name : List ℕ) (v : ℕ) → names ≡ nodes.names → heads ≡ nodes.heads → length nodes.names ≡ length nodes.heads → Contains names name × (v ≡ place_among names name) → v < length heads
found_within nodes names heads name v n h len found = let l : place_among names name < length names = place_within names name found.0 in omega (arith, l, found.1, len, ap length n, ap length h)

pub kind_found : (nodes : NodeLists) (names : List (List ℕ)) (heads : List Head) (name : List ℕ) (v : ℕ) (head : Head) → names ≡ nodes.names → heads ≡ nodes.heads → length nodes.names ≡ length nodes.heads → Contains names name × (v ≡ place_among names name) → head ≡ get_or heads v head → is_utility head.kind ≡ is_utility (kind_in nodes name)
kind_found nodes names heads name v head n h len found is =
    let near : v < length heads = found_within nodes names heads name v n h len found in
    ap is_utility (ap (λ (g : Head). g.kind) is ∙ sym (get_or-map (λ (g : Head). g.kind) heads v head model.Chance near) ∙ (λ i. get_or (map (λ (g : Head). g.kind) (h i)) (place i) model.Chance))
  where
    place : v ≡ place_among nodes.names name
    place = found.1 ∙ ap (λ ns. place_among ns name) n

pub kind_missing : (nodes : NodeLists) (names : List (List ℕ)) (name : List ℕ) → names ≡ nodes.names → length nodes.names ≡ length nodes.heads → (Contains names name → ⊥) → false ≡ is_utility (kind_in nodes name)
kind_missing nodes names name n len none = by_order (order (place_among nodes.names name) (length nodes.names)) where
  by_order : (place_among nodes.names name < length nodes.names) ⊎ (length nodes.names ≤ place_among nodes.names name) → false ≡ is_utility (kind_in nodes name)
  by_order (inl h) = absurd (none (subst (λ ns. Contains ns name) (sym n) (place_among nodes.names name, h, get_or_default nodes.names (place_among nodes.names name) name [] h ∙ place_here nodes.names name h)))
  by_order (inr h) = sym (ap is_utility (get_or-eq_default (map (λ (g : Head). g.kind) nodes.heads) model.Chance {n = place_among nodes.names name} (omega (arith, h, len, length-map nodes.heads (λ (g : Head). g.kind)))))
