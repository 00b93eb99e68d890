-- Where no row finds anything, a pass finds nothing.
use Rattle.std.proofs.Common.{◌≡◌, ◌∙◌, ◌≢◌, ℕ, suc, ◌+◌, ◌<◌, Bool, true, false, List, [], ◌∷◌, ◌++◌, length, AllPairs, Contains, None, refl, sym, arith, append_assoc}
use Rattle.std.proofs.Math.Seq.{get_or-append_seam}
use Rattle.std.proofs.lemmas.List.{get_or_append_left, length-append}
use Rattle.std.proofs.lemmas.List.Elements.{Contains-append_right}
use Rattle.first_fault.specs.Passes.{Pass, only, each_after}
use Rattle.net_build.specs.Passes.{Found}

-- where nothing is found at each item, behind those before it, nothing is found
pub after_clear : {A : Type 0} (P : List A → A → Pass Found) (earlier xs : List A) → ((front : List A) (x : A) (back : List A) → front ++ (x ∷ back) ≡ earlier ++ xs → P front x None) → each_after P earlier xs None
after_clear P earlier [] one = tt
after_clear P earlier (x ∷ xs) one = (one earlier x xs refl, after_clear P (earlier ++ x ∷ []) xs (λ front y back e. one front y back (e ∙ append_assoc earlier (x ∷ []) xs)))

-- rows that count where a test holds
pub only_clear : (test : Bool) (P : Pass Found) → (test ≡ true → P None) → only test P None
only_clear true P clear = clear refl
only_clear false P clear = tt

-- an item stands in its list
pub in_whole : {A : Type 0} (front : List A) (x : A) (back : List A) → Contains (front ++ (x ∷ back)) x
in_whole front x back = Contains-append_right front (x ∷ back) x (0, omega arith, refl)

-- where the items of a list differ, none stands before itself
pub not_earlier : {A : Type 0} (xs : List A) (y : A) (ys : List A) → AllPairs (λ a b. a ≢ b) (xs ++ y ∷ ys) → Contains xs y → ⊥
not_earlier xs y ys differ (k, h, e) = differ k (length xs) y h (within (length xs) (length ys) (length (xs ++ y ∷ ys)) (length-append xs (y ∷ ys))) (get_or_append_left xs (y ∷ ys) y k h ∙ e ∙ sym (get_or-append_seam xs y ys y)) where
  within : (n m whole : ℕ) → whole ≡ n + suc m → n < whole
  within n m whole e = omega arith
