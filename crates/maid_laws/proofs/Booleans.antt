-- Tests as facts.
use Rattle.std.proofs.Common.{◌≡◌, ◌≢◌, ◌⊎◌, ◌∙◌, ℕ, Bool, true, false, ◌&&◌, eqb, List, [], ◌∷◌, refl, sym, ap, inl, inr, arith}
use Rattle.std.proofs.lemmas.Bool.Decides.{nat_tests}
use Rattle.std.specs.List.{list_all}
use Rattle.finite_sums.specs.Members.{Among}

-- a test has one answer
pub not_both : (b : Bool) → b ≡ true → b ≡ false → ⊥
not_both b e f = let g : true ≡ false = sym e ∙ f in cc

-- tests that hold together are one
pub bool_same : (a b : Bool) → (a ≡ true → b ≡ true) → (b ≡ true → a ≡ true) → a ≡ b
bool_same true b f h = sym (f refl)
bool_same false true f h = h refl
bool_same false false f h = refl

-- the test for equal numbers, at equal and at other ones
pub eqb_yes : (a b : ℕ) → a ≡ b → eqb a b ≡ true
eqb_yes a b e = grind (arith, nat_tests)

pub eqb_no : (a b : ℕ) → a ≢ b → eqb a b ≡ false
eqb_no a b n = grind (arith, nat_tests)

pub eqb_same : (a b : ℕ) → eqb a b ≡ true → a ≡ b
eqb_same a b h = grind (arith, nat_tests)

-- a test of all members, at one of them
pub all_at : (p : ℕ → Bool) (vs : List ℕ) → list_all p vs ≡ true → (v : ℕ) → Among v vs → p v ≡ true
all_at p [] h v m = absurd m
all_at p (x ∷ xs) h v m = go (p x) refl h m (λ k n. all_at p xs k v n)
  where
    go : (b : Bool) → p x ≡ b → (b && list_all p xs) ≡ true → (v ≡ x) ⊎ Among v xs → (list_all p xs ≡ true → Among v xs → p v ≡ true) → p v ≡ true
    go true e k (inl f) r = ap p f ∙ e
    go true e k (inr n) r = r k n
    go false e k n r = absurd (not_both false k refl)

-- and from each
pub at_all : (p : ℕ → Bool) (vs : List ℕ) → ((v : ℕ) → Among v vs → p v ≡ true) → list_all p vs ≡ true
at_all p [] h = refl
at_all p (x ∷ xs) h = ap (λ b. b && list_all p xs) (h x (inl refl)) ∙ at_all p xs (λ v m. h v (inr m))
