-- Names in a set, and as lists of bytes: where a name stands, and what the set is with one more.
use Rattle.std.proofs.Common.{◌≡◌, ◌⊎◌, inl, inr, ℕ, suc, ◌+◌, ◌<◌, ◌≤◌, Bool, ◌||◌, true, false, not, cond, List, [], ◌∷◌, ◌++◌, Contains, length, None, Some, position, refl, sym, ap, subst, ◌∙◌, arith}
use Rattle.std.specs.Global.{Vec}
use Rattle.std.specs.List.{list_any, position_or_len}
use Rattle.std.specs.Option.{SomeIff}
use Rattle.std.specs.Str.{bytes_eq}
use Rattle.std.specs.Prelude.{nat_lt, if◌then◌else◌}
use Rattle.std.proofs.lemmas.Bool.{cases_lt, lt-ltb, le-ltb}
use Rattle.std.proofs.lemmas.List.{get_or_default, length-map, map-append}
use Rattle.std.proofs.lemmas.Slice.Eq.{bytes_eq-Decides}
use Rattle.finite_sums.proofs.Sights.{bytes_same}
use Rattle.net_build.specs.Blocks.{place_among}
use Rattle.maid_model.specs.Names.{list_of}
use Rattle.net_build.proofs.BlockLemmas.{place_here}
use Rattle.net_build.proofs.LinkLemmas.{place_within}
use Rattle.net_build.proofs.PlaceLemmas.{bytes_differ}

-- either name may stand first
bytes_turned : (a b : List ℕ) → bytes_eq a b ≡ bytes_eq b a
bytes_turned a b = by_test (bytes_eq b a) refl where
  by_test : (t : Bool) → bytes_eq b a ≡ t → bytes_eq a b ≡ t
  by_test true e = bytes_same a b (sym ((bytes_eq-Decides b a).0 e))
  by_test false e = bytes_differ a b (λ same. apart (sym e ∙ bytes_same b a (sym same))) where
    apart : false ≡ true → ⊥
    apart f = cc

same_place : (name : List ℕ) (keys : List (Vec ℕ)) → position_or_len (λ k. bytes_eq name k.items) keys ≡ place_among (list_of keys) name
same_place name [] = refl
same_place name (k ∷ ks) = λ j. cond (not (bytes_turned name k.items j)) (1 + same_place name ks j) 0

-- a search by a set's keys answers the name's place in the list
pub place_is : (keys : List (Vec ℕ)) (name : List ℕ) → SomeIff (position (λ k. bytes_eq name k.items) keys) (Contains (list_of keys) name) (place_among (list_of keys) name)
place_is keys name = by_order (cases_lt (position_or_len (λ k. bytes_eq name k.items) keys) (length keys)) where
  is : (b : Bool) → nat_lt (position_or_len (λ k. bytes_eq name k.items) keys) (length keys) ≡ b → position (λ k. bytes_eq name k.items) keys ≡ cond b (Some (position_or_len (λ k. bytes_eq name k.items) keys)) None
  is b e = ap (λ t. cond t (Some (position_or_len (λ k. bytes_eq name k.items) keys)) None) e

  len : length (list_of keys) ≡ length keys
  len = length-map keys (λ (v : Vec ℕ). v.items)

  by_order : (position_or_len (λ k. bytes_eq name k.items) keys < length keys) ⊎ (length keys ≤ position_or_len (λ k. bytes_eq name k.items) keys) → SomeIff (position (λ k. bytes_eq name k.items) keys) (Contains (list_of keys) name) (place_among (list_of keys) name)
  by_order (inl h) =
      let within : place_among (list_of keys) name < length (list_of keys) = omega (arith, h, same_place name keys, len) in
      subst (λ r. SomeIff r (Contains (list_of keys) name) (place_among (list_of keys) name)) (sym (is true (lt-ltb _ _ h)))
      ((place_among (list_of keys) name, within, get_or_default (list_of keys) (place_among (list_of keys) name) name [] within ∙ place_here (list_of keys) name within), same_place name keys)
  by_order (inr h) = subst (λ r. SomeIff r (Contains (list_of keys) name) (place_among (list_of keys) name)) (sym (is false (le-ltb _ _ h)))
      (λ has. absurd (omega (arith, h, place_within (list_of keys) name has, same_place name keys, len)))

-- a name that isn't there is added at the end
absent : (keys : List (Vec ℕ)) (name : Vec ℕ) → (Contains (list_of keys) name.items → ⊥) → list_any (λ (k : Vec ℕ). bytes_eq name.items k.items) keys ≡ false
absent [] name lacks = refl
absent (k ∷ ks) name lacks = λ j. bytes_differ name.items k.items (λ same. lacks (0, omega arith, sym same)) j || absent ks name (λ has. lacks (suc has.0, omega (arith, has.1), has.2)) j

pub one_more : (keys : List (Vec ℕ)) (name : Vec ℕ) → (Contains (list_of keys) name.items → ⊥) → list_of (if list_any (λ (k : Vec ℕ). bytes_eq name.items k.items) keys then keys else keys ++ name ∷ []) ≡ list_of keys ++ name.items ∷ []
one_more keys name lacks = ap (λ b. list_of (if b then keys else keys ++ name ∷ [])) (absent keys name lacks) ∙ map-append (λ (v : Vec ℕ). v.items) keys (name ∷ [])
