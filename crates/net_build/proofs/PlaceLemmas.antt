-- Places in lists of names.
use Rattle.std.proofs.Common.{◌≡◌, ℕ, Bool, true, false, not, List, [], Contains, Option, None, Some, IfSome, IfNone, ap, sym, ◌∙◌, refl, arith}
use Rattle.std.proofs.lemmas.List.{get_or_default}
use Rattle.std.proofs.lemmas.List.Sums.{prefix_len_is}
use Rattle.std.proofs.lemmas.Slice.Eq.{bytes_eq-Decides}
use Rattle.std.specs.Option.{SomeIff}
use Rattle.std.specs.Str.{bytes_eq}
use Rattle.finite_sums.proofs.Sights.{bytes_same}
use Rattle.net_build.specs.Blocks.{place_among}
use Rattle.maid_model.specs.Names.{IsFirstPlace}

-- bytes that differ are not equal as a test
pub bytes_differ : (xs ys : List ℕ) → (xs ≡ ys → ⊥) → bytes_eq xs ys ≡ false
bytes_differ xs ys h = differs (bytes_eq xs ys) (λ e. h ((bytes_eq-Decides xs ys).0 e)) where
  differs : (b : Bool) → (b ≡ true → ⊥) → b ≡ false
  differs true h = absurd (h refl)
  differs false h = refl

-- the first place of a name is its place
pub first_place_is : (names : List (List ℕ)) (name : List ℕ) (place : ℕ) → IsFirstPlace names name place → place_among names name ≡ place
first_place_is names name place p = prefix_len_is (λ other. not (bytes_eq other name)) names place [] (omega (arith, p.within)) (λ k h. ap not (bytes_differ _ _ (p.first k h))) (λ h. ap not (bytes_same _ _ p.here))

-- and the list has the name
pub first_place_has : (names : List (List ℕ)) (name : List ℕ) (place : ℕ) → IsFirstPlace names name place → Contains names name
first_place_has names name place p = (place, p.within, get_or_default names place name [] p.within ∙ p.here)

-- what a search for a first place answers
pub place_found : (names : List (List ℕ)) (name : List ℕ) (r : Option ℕ) → IfSome r (IsFirstPlace names name) → IfNone r (¬ Contains names name) → SomeIff r (Contains names name) (place_among names name)
place_found names name None some none = none
place_found names name (Some place) some none = (first_place_has names name place some, sym (first_place_is names name place some))
