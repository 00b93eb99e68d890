use Rattle.std.proofs.Common.{◌≡◌, ◌∙◌, ℕ, ◌+◌, ◌-◌, ◌*◌, ◌<◌, ◌≤◌, List, length, take, drop, get_or, ℤ, nat_abs, pos, sym, subst, arith}
use Rattle.std.proofs.Math.Nat.{mul-le-mul_right}
use Rattle.std.proofs.lemmas.List.{get_or-drop, get_or-take, get_or_default, length-drop, length-take}
use Rattle.maid_model.specs.Diagrams.{greatest_number}
use Rattle.tree_checker.proofs.rows.row_gains.Goals as goal

-- a row ends within the list
row_end : (row rows states n : ℕ) → row < rows → n ≡ rows * states → row * states + states ≤ n
row_end row rows states n l e = omega (arith, mul-le-mul_right states l, e)

-- the k elements from a on
module _ (xs : List ℤ) (a k : ℕ) (within : a + k ≤ length xs) where
  count : length (take ((a + k) - a) (drop a xs)) ≡ k
  count = simp (length-take, length-drop) (omega arith)

  at : (s : ℕ) (d : ℤ) → s < k → get_or (take ((a + k) - a) (drop a xs)) s d ≡ get_or xs (a + s) d
  at s d l = get_or-take ((a + k) - a) (drop a xs) s d (omega arith) ∙ get_or-drop a xs s d

  small : ((i : ℕ) → nat_abs (get_or xs i (pos 0)) ≤ greatest_number) → (s : ℕ) (d : ℤ) → s < length (take ((a + k) - a) (drop a xs)) → nat_abs (get_or (take ((a + k) - a) (drop a xs)) s d) ≤ greatest_number
  small h s d l =
      let inside : s < k = subst (λ n. s < n) count l in
      subst (λ z. nat_abs z ≤ greatest_number) (sym (at s d inside ∙ get_or_default xs (a + s) d (pos 0) (omega arith))) (h (a + s))

pub returns-clause-count : goal.returns-clause-count
returns-clause-count c = count c.args.gains.now (c.args.row * c.args.states) c.args.states (row_end c.args.row c.args.rows c.args.states (length c.args.gains.now) c.requires.row c.requires.all)

pub returns-clause-gains : goal.returns-clause-gains
returns-clause-gains c s l = at c.args.gains.now (c.args.row * c.args.states) c.args.states (row_end c.args.row c.args.rows c.args.states (length c.args.gains.now) c.requires.row c.requires.all) s (pos 0) l

pub returns-clause-small : goal.returns-clause-small
returns-clause-small c = small c.args.gains.now (c.args.row * c.args.states) c.args.states (row_end c.args.row c.args.rows c.args.states (length c.args.gains.now) c.requires.row c.requires.all) c.requires.small
