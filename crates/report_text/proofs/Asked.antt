-- What the answer says whether a list is empty, whether it has a number, and whether a node is a
-- decision.
use Rattle.std.proofs.Common.{◌≡◌, ◌≢◌, ℕ, ◌<◌, nat_eq, eqb, true, false, List, [], ◌∷◌, length, Contains, refl, ap, ◌∙◌, arith}
use Rattle.std.specs.List.{IsAnyAnswer}
use Rattle.std.proofs.lemmas.List.{nil_from_length}
use Rattle.std.proofs.lemmas.Bool.Decides.{nat_tests}
use Rattle.std.proofs.lemmas.Bool.{false≢true, eqb-true, eq-eqb}
use Rattle.maid_model.specs.contracts.diagrams.Kind.{the_type}
use Rattle.maid_model.specs.declared.diagrams.Kind.{Kind}
use Rattle.maid_model.specs.declared.diagrams.Kind.TheVariants.{Chance, Decision, Utility}
use denote.Enum.Bare.{sameb}

pub empty : (xs : List ℕ) → true ≡ nat_eq (length xs) 0 → xs ≡ []
empty xs e = nil_from_length xs (grind (arith, nat_tests))

pub filled : (xs : List ℕ) → false ≡ nat_eq (length xs) 0 → 0 < length xs
filled [] e = cc
filled (x ∷ xs) e = omega arith

pub found : (xs : List ℕ) (x : ℕ) → IsAnyAnswer (λ y b. eqb y x ≡ b) xs true → Contains xs x
found xs x any = (any.0, any.1, eqb-true _ _ (any.2 x))

pub not_found : (xs : List ℕ) (x : ℕ) → IsAnyAnswer (λ y b. eqb y x ≡ b) xs false → Contains xs x → ⊥
not_found xs x none (k, within, here) =
    let e = none k x (omega arith) within in
    let f = eq-eqb _ _ here in
    cc

pub decided : (k : Kind) → true ≡ sameb the_type k Decision → k ≡ Decision
decided Chance e = cc
decided Decision e = refl
decided Utility e = cc

pub undecided : (k : Kind) → false ≡ sameb the_type k Decision → k ≢ Decision
undecided k e is = false≢true (e ∙ ap (λ kind. sameb the_type kind Decision) is)
