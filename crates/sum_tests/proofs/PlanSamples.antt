-- The plans that the tests ask for may be asked for.
use Rattle.std.proofs.Common.{◌≡◌, ◌≢◌, ◌∙◌, ℕ, ◌<◌, Bool, true, false, ◌&&◌, not, eqb, ltb, List, [], ◌∷◌, length, refl, sym, ap, subst, inl, inr, arith, Option, Some, None}
use Rattle.std.specs.List.{list_all}
use Rattle.std.proofs.lemmas.Bool.Decides.{nat_tests}
use Rattle.finite_sums.proofs.Members.{among_from_contains}
use Rattle.finite_sums.specs.Members.{Among}
use Rattle.maid_model.specs.declared.diagrams.Kind.{Kind}
use Rattle.maid_model.specs.declared.diagrams.Kind.TheVariants.{Chance, Decision, Utility}
use Rattle.maid_model.specs.Graph.{AllDifferent}
use Rattle.maid_model.specs.Nodes.{node_at, is_utility}
use Rattle.maid_model.specs.Tested.{differ}
use Rattle.maid_model.specs.Views.{NodeView}
use Rattle.size_precheck.specs.Sizes.{CanBePlanned}

left : (a b : Bool) → (a && b) ≡ true → a ≡ true
left true b e = refl
left false b e = e

right : (a b : Bool) → (a && b) ≡ true → b ≡ true
right true b e = e
right false b e = absurd (cc)

all_at : (p : ℕ → Bool) (xs : List ℕ) → list_all p xs ≡ true → (v : ℕ) → Among v xs → p v ≡ true
all_at p [] e v m = absurd m
all_at p (x ∷ xs) e v (inl f) = ap p f ∙ left (p x) (list_all p xs) e
all_at p (x ∷ xs) e v (inr m) = all_at p xs (right (p x) (list_all p xs) e) v m

differs : (xs : List ℕ) → differ xs ≡ true → AllDifferent xs
differs [] e = tt
differs (x ∷ xs) e = (
  (λ c. same_or_not x (all_at (λ y. not (eqb x y)) xs (left _ (differ xs) e) x (among_from_contains xs x c))),
  differs xs (right (list_all (λ y. not (eqb x y)) xs) (differ xs) e),
)
  where
    same_or_not : (a : ℕ) → not (eqb a a) ≡ true → ⊥
    same_or_not a e = let f : eqb a a ≡ true = grind (arith, nat_tests) in absurd (let g : not true ≡ true = ap not (sym f) ∙ e in cc)

plain : (nodes : List NodeView) (v : ℕ) → not (is_utility (node_at nodes v).kind) ≡ true → (node_at nodes v).kind ≢ Utility
plain nodes v e f = absurd (let g : not true ≡ true = ap (λ k. not (is_utility k)) (sym f) ∙ e in cc)

kind_is : (k : Kind) → is_utility k ≡ true → k ≡ Utility
kind_is Chance e = absurd (cc)
kind_is Decision e = absurd (cc)
kind_is Utility e = refl

below : (a b : ℕ) → ltb a b ≡ true → a < b
below a b e = grind (arith, nat_tests)

-- the kept nodes differ and are no utilities, and the utility is one
abbrev utility_passes : List NodeView → Option ℕ → Bool
utility_passes nodes None = true
utility_passes nodes (Some u) = ltb u (length nodes) && is_utility (node_at nodes u).kind

pub planned : (nodes : List NodeView) (keep : List ℕ) (utility : Option ℕ) → differ keep ≡ true → list_all (λ v. not (is_utility (node_at nodes v).kind)) keep ≡ true → utility_passes nodes utility ≡ true
    → CanBePlanned nodes (record { keep = keep; without = None; utility = utility })
planned nodes keep utility different kept passes = record {
  is_plan = record {
    different = differs keep different;
    kept = λ v m. plain nodes v (all_at (λ x. not (is_utility (node_at nodes x).kind)) keep kept v (among_from_contains keep v m));
    without = λ d e. absurd (cc);
    utility = λ u e. (one u utility e passes).1;
  };
  known = λ u e. (one u utility e passes).0;
  decision = λ d e. absurd (cc);
  leads = λ d e. absurd (cc);
}
  where
    one : (u : ℕ) (o : Option ℕ) → o ≡ Some u → utility_passes nodes o ≡ true → (u < length nodes) × ((node_at nodes u).kind ≡ Utility)
    one u None e f = absurd (cc)
    one u (Some x) e f =
        let same : x ≡ u = cc in
        subst (λ y. (y < length nodes) × ((node_at nodes y).kind ≡ Utility)) same (below x (length nodes) (left _ (is_utility (node_at nodes x).kind) f), kind_is (node_at nodes x).kind (right (ltb x (length nodes)) _ f))
