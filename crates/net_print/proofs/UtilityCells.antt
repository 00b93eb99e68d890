-- What holds of the cells of all utilities, one after the other, and the decimals that they need.
use Rattle.std.proofs.Common.{◌≡◌, ◌∙◌, ℕ, ◌+◌, ◌*◌, ◌^◌, ◌<◌, ◌≤◌, ℤ, nat_abs, Bool, true, false, cond, List, [], ◌∷◌, ◌++◌, length, filter, get_or, All, refl, sym, ap, subst, ⊎_elim, arith}
use Rattle.std.specs.Int.{◌∣◌}
use Rattle.std.specs.List.{flat_map}
use Rattle.std.proofs.lemmas.Bool.{cases_lt, both_ways}
use Rattle.std.proofs.lemmas.List.{length-append, get_or_append_left, get_or-append-add, get_or_past}
use Rattle.std.proofs.lemmas.List.Elements.{All-nil, All-cons, filter_passes}
use Rattle.std.proofs.lemmas.List.FromFn.{length-range_with_len, get_or-range_with_len}
use Rattle.maid_model.specs.declared.diagrams.Kind.{Kind}
use Rattle.maid_model.specs.declared.diagrams.Kind.TheVariants.{Chance, Decision, Utility}
use Rattle.maid_model.specs.Nodes.{node_at, no_node, numbers_of, is_utility}
use Rattle.maid_model.specs.Placing.{IsLeast}
use Rattle.maid_model.specs.Views.{NodeView, DiagramView}
use Rattle.net_build.specs.Plain.{AreEnough}
use Rattle.net_print.proofs.TablesTold.{utility_cells}
use Rattle.net_print.proofs.Texts.{all_flat}

All-front : {X : Type 0} (P : X → Type 0) (xs ys : List X) → All P (xs ++ ys) → All P xs
All-front P xs ys all k d l = subst P (get_or_append_left xs ys d k l) (all k d (omega (arith, length-append xs ys)))

All-back : {X : Type 0} (P : X → Type 0) (xs ys : List X) → All P (xs ++ ys) → All P ys
All-back P xs ys all k d l = subst P (get_or-append-add xs ys k d) (all (length xs + k) d (omega (arith, length-append xs ys)))

-- what holds in all lists that are kept holds in each of them
kept_each : {A B : Type 0} (P : B → Type 0) (f : A → List B) (p : A → Bool) (xs : List A) → All P (flat_map f (filter p xs)) → All (λ x. p x ≡ true → All P (f x)) xs
kept_each P f p [] all = All-nil (λ x. p x ≡ true → All P (f x))
kept_each P f p (x ∷ xs) all = by_test (p x) refl all (λ more. kept_each P f p xs more) where
  by_test : (b : Bool) → p x ≡ b → All P (flat_map f (cond b (x ∷ filter p xs) (filter p xs))) → (All P (flat_map f (filter p xs)) → All (λ y. p y ≡ true → All P (f y)) xs) → All (λ y. p y ≡ true → All P (f y)) (x ∷ xs)
  by_test true e here later = All-cons (λ y. p y ≡ true → All P (f y)) x xs (λ _. All-front P (f x) (flat_map f (filter p xs)) here) (later (All-back P (f x) (flat_map f (filter p xs)) here))
  by_test false e here later = All-cons (λ y. p y ≡ true → All P (f y)) x xs (λ keeps. absurd (both_ways (p x) e keeps)) (later here)

utility_kind : (kind : Kind) → is_utility kind ≡ true → kind ≡ Utility
utility_kind Chance e = absurd (both_ways false refl e)
utility_kind Decision e = absurd (both_ways false refl e)
utility_kind Utility e = refl

-- what holds of each utility's cells holds of all
pub from_each : (nodes : List NodeView) (P : ℤ → Type 0) → ((v : ℕ) → (node_at nodes v).kind ≡ Utility → All P (node_at nodes v).cells) → All P (utility_cells nodes)
from_each nodes P one =
    let keeps = λ (v : ℕ). is_utility (node_at nodes v).kind in
    all_flat P (λ (v : ℕ). (node_at nodes v).cells) (filter keeps (numbers_of nodes))
    (λ k e h. let v = get_or (filter keeps (numbers_of nodes)) k e in one v (utility_kind (node_at nodes v).kind (filter_passes keeps (numbers_of nodes) k e h)))

-- and the other way round
pub to_each : (nodes : List NodeView) (P : ℤ → Type 0) → All P (utility_cells nodes) → (v : ℕ) → (node_at nodes v).kind ≡ Utility → All P (node_at nodes v).cells
to_each nodes P all v kind = ⊎_elim within (λ (h : length nodes ≤ v). subst (λ (n : NodeView). All P n.cells) (sym (get_or_past nodes v no_node h)) (All-nil P)) (cases_lt v (length nodes)) where
  within : v < length nodes → All P (node_at nodes v).cells
  within l =
      let there : get_or (numbers_of nodes) v v ≡ v = get_or-range_with_len 0 (length nodes) v v l ∙ start v in
      let holds = λ (u : ℕ). is_utility (node_at nodes u).kind ≡ true → All P (node_at nodes u).cells in
      let at = kept_each P (λ (u : ℕ). (node_at nodes u).cells) (λ u. is_utility (node_at nodes u).kind) (numbers_of nodes) all v v (omega (arith, length-range_with_len 0 (length nodes))) in
      subst holds there at (ap is_utility kind)
    where
      start : (n : ℕ) → 0 + n ≡ n
      start n = omega arith

-- The decimals are the least that the cells of all utilities need.
pub cells_need : (d : DiagramView) → IsLeast (AreEnough d) d.decimals → IsLeast (λ k. All (λ x. (10 ^ d.decimals) ∣ nat_abs x * 10 ^ k) (utility_cells d.nodes)) d.decimals
cells_need d is = (
  from_each d.nodes (λ x. (10 ^ d.decimals) ∣ nat_abs x * 10 ^ d.decimals) is.0,
  λ k h all. is.1 k h (λ v kind. to_each d.nodes (λ x. (10 ^ d.decimals) ∣ nat_abs x * 10 ^ k) all v kind),
)
