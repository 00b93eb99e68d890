-- The mass of each cell at its place.
use Rattle.std.proofs.Common.{◌≡◌, ◌∙◌, ℕ, ◌+◌, ◌*◌, ◌<◌, ◌≤◌, FitsSigned, List, length, set, slice_index, refl, sym, ap, subst, arith}
use Rattle.std.specs.Int.{w128}
use Rattle.std.specs.Prelude.{nat_abs}
use Rattle.std.proofs.Math.Decide.{ℕ_discrete}
use Rattle.std.proofs.lemmas.Int.{to_z-of_z}
use Rattle.std.proofs.lemmas.List.{get_or_default, get_or-set_other, get_or-set_same, length-set}
use Rattle.cell_rings.specs.Sums.{cell_at}
use Rattle.maid_model.specs.Diagrams.{greatest_number}
use Rattle.rule_solver.proofs.MassCells.{mass_made}
use Rattle.rule_solver.proofs.reading.put_cells.Goals as goal

-- one place more
put_next : (f : ℕ → ℕ) (now : List ℕ) (at m : ℕ) → at < length now → m ≡ f at → ((i : ℕ) → i < at → slice_index now i ≡ f i) → (i : ℕ) → i < at + 1 → slice_index (set now at m) i ≡ f i
put_next f now at m inside is done i h = go (ℕ_discrete i at)
  where
    below : i < at + 1 → (i ≡ at → ⊥) → i < at
    below h n = omega (arith, h, n)

    go : Dec (i ≡ at) → slice_index (set now at m) i ≡ f i
    go (yes e) = ap (λ k. slice_index (set now at m) k) e ∙ get_or-set_same now at m 0 inside ∙ is ∙ ap f (sym e)
    go (no n) = get_or-set_other now at i m 0 n ∙ done i (below h n)

pub loop-at-init : goal.loop-at-init
loop-at-init g c = record { len = refl; done = λ i h. absurd (omega (arith, h)) }

pub mass_of-mass-requires : goal.mass_of-mass-requires
mass_of-mass-requires g c =
    let fits : FitsSigned w128 c.number.result = record { sfits = c.number.type_inv } in
    let inside : c.loop-at.at < length c.args.masses.now = omega (arith, c.loop-at-test.true, c.requires.len) in
    subst (λ z. nat_abs z * c.args.factor ≤ greatest_number) (sym (to_z-of_z w128 c.number.result fits ∙ c.number.ensures ∙ ap g.C.HasNumber.number (c.index-cells-at.is ∙ get_or_default c.args.cells.now c.loop-at.at c.index-cells-at.result g.C.Cell.ring.nought c.loop-at-test.true)))
    (c.requires.room c.loop-at.at inside)

pub bounds-masses-at : goal.bounds-masses-at
bounds-masses-at g c = omega (arith, c.loop-at-test.true, c.requires.len, c.loop-at.invariant.len)

pub loop-at-preserved : goal.loop-at-preserved
loop-at-preserved g c =
    let fits : FitsSigned w128 c.number.result = record { sfits = c.number.type_inv } in
    record {
      len = length-set c.loop-at.masses c.loop-at.at c.mass_of-mass.result ∙ c.loop-at.invariant.len;
      done = put_next (λ i. nat_abs (g.C.HasNumber.number (cell_at g.C.Cell.ring c.args.cells.now i)) * c.args.factor) c.loop-at.masses c.loop-at.at c.mass_of-mass.result (omega (arith, c.loop-at-test.true, c.requires.len, c.loop-at.invariant.len))
          (mass_made c.args.factor c.mass_of-mass.ensures (to_z-of_z w128 c.number.result fits ∙ c.number.ensures ∙ ap g.C.HasNumber.number (c.index-cells-at.is ∙ get_or_default c.args.cells.now c.loop-at.at c.index-cells-at.result g.C.Cell.ring.nought c.loop-at-test.true)))
          c.loop-at.invariant.done;
    }

pub returns-clause-len : goal.returns-clause-len
returns-clause-len g c = c.loop-at.invariant.len

pub returns-clause-each : goal.returns-clause-each
returns-clause-each g c i h = c.loop-at.invariant.done i (omega (arith, h, c.loop-at-test.false, c.requires.len))
