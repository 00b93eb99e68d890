-- What a test for a member of a list tells.
use Rattle.std.proofs.Common.{rules, ℕ, ◌<◌, ◌≤◌, ◌≡◌, ◌∙◌, ◌==◌, List, get_or, length, true, false, sym, subst, arith}
use Rattle.std.proofs.lemmas.List.Elements.{Contains-get_or}
use Rattle.std.specs.Prelude.{Contains}
use Rattle.maid_laws.proofs.Booleans.{eqb_yes}

-- a member that passes the test
pub member : (xs : List ℕ) (x : ℕ) → ((i : ℕ) × i < length xs × ((d : ℕ) → (get_or xs i d == x) ≡ true)) → Contains xs x
member xs x h = subst (Contains xs) (same (get_or xs h.0 0) x (h.2 0)) (Contains-get_or xs h.0 0 h.1)
  where
    same : (a b : ℕ) → (a == b) ≡ true → a ≡ b
    same a b e = search rules

pub not_both : false ≡ true → ⊥
not_both e = cc

-- no member passes it
pub no_member : (xs : List ℕ) (x : ℕ) → ((i d : ℕ) → 0 ≤ i → i < length xs → (get_or xs i d == x) ≡ false) → Contains xs x → ⊥
no_member xs x none m = not_both (sym (none m.0 x (omega arith) m.1) ∙ eqb_yes (get_or xs m.0 x) x m.2)
