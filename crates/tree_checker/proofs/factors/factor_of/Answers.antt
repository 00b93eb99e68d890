use lib.Dec.{T}
use lib.Signed.{non_neg}
use mir.Val.{Fits}
use Rattle.tree_checker.specs.Walks.{factor_by_weights}
use Rattle.maid_model.proofs.Found.{eqb_yes, eqb_no}
use Rattle.maid_model.specs.declared.diagrams.Kind.TheVariants.{Chance, Decision, Utility}
use Rattle.maid_model.specs.declared.diagrams.Kind.{Kind}
use Rattle.maid_model.specs.Views.{NodeView}
use Rattle.maid_model.specs.Tables.{table_by}
use Rattle.maid_model.specs.Nodes.{node_at}
use Rattle.std.proofs.Common.{rules, ◌≡◌, ◌∙◌, ◌<◌, ◌≤ℤ◌, ℕ, ℤ, List, ap, arith, cond, get_or, nat_abs, negsuc, pos, refl, slice_index, slice_index_or, subst, sym}
use Rattle.std.proofs.lemmas.Int.{ints, to_z-of_z}
use Rattle.std.specs.Int.{w128}
use Rattle.std.specs.Int.RustNames.{FitsSigned}
use Rattle.tree_checker.proofs.factors.factor_of.Goals as goal

-- the factor of a node that is not left out, by its kind
others : (nodes : List NodeView) (v out cell : ℕ) (weights : List ℕ) (kind : Kind) (z : ℤ) → (node_at nodes v).kind ≡ kind → z ≡ table_by kind (node_at nodes v).cells weights cell → (v ≡ out → ⊥) → z ≡ factor_by_weights nodes weights out v cell
others nodes v out cell weights kind z e is n =
    is ∙ ap (λ k. table_by k (node_at nodes v).cells weights cell) (sym e)
    ∙ ap (λ b. cond b (pos 1) (table_by (node_at nodes v).kind (node_at nodes v).cells weights cell)) (sym (eqb_no v out n))

-- a weight is not negative, and so the cast keeps it
cast_fits : (z : ℤ) → FitsSigned w128 z → pos 0 ≤ℤ z → T (non_neg z) × Fits w128 (nat_abs z)
cast_fits (pos n) fits some = (tt, record { fits = omega (arith, fits.sfits) })
cast_fits (negsuc n) fits some = absurd (omega (arith, ints, some))

cast_is : (z : ℤ) → pos 0 ≤ℤ z → pos (nat_abs z) ≡ z
cast_is (pos n) some = refl
cast_is (negsuc n) some = absurd (omega (arith, ints, some))

pub cells-requires : goal.cells-requires
cells-requires c = c.requires.node

pub returns-then-v-left_out : goal.returns-then-v-left_out
returns-then-v-left_out c = ap (λ b. cond b (pos 1) (table_by (node_at c.args.diagram.now.nodes c.args.v).kind (node_at c.args.diagram.now.nodes c.args.v).cells c.args.weights.now c.args.cell)) (sym (eqb_yes c.args.v c.args.left_out c.if-v-left_out.true))

pub bounds-weights-cell : goal.bounds-weights-cell
bounds-weights-cell c = subst (λ n. c.args.cell < n) (sym (c.requires.weights (sym c.kind-kind.ensures.kind ∙ c.in-Decision.is))) c.requires.cell

pub returns-in-Utility : goal.returns-in-Utility
returns-in-Utility c = others c.args.diagram.now.nodes c.args.v c.args.left_out c.args.cell c.args.weights.now Utility (pos 1) (sym c.kind-kind.ensures.kind ∙ c.in-Utility.is) refl c.if-v-left_out.false

pub returns-in-Decision : goal.returns-in-Decision
returns-in-Decision c = others c.args.diagram.now.nodes c.args.v c.args.left_out c.args.cell c.args.weights.now Decision (pos (slice_index c.args.weights.now c.args.cell)) (sym c.kind-kind.ensures.kind ∙ c.in-Decision.is) refl c.if-v-left_out.false

pub overflow_cast-result : goal.overflow_cast-result
overflow_cast-result c =
    let z = get_or c.cells.result.now c.args.cell (pos 0) in
    let fits : FitsSigned w128 z = search rules in
    let table = c.kind-kind.ensures.diagram.tables.table c.args.v (sym c.kind-kind.ensures.kind ∙ c.in-Chance.is) in
    let some = subst (λ cells. pos 0 ≤ℤ slice_index_or cells c.args.cell (pos 0)) (sym c.cells.ensures.cells) (table.not_negative c.args.cell) in
    rw (to_z-of_z w128 z fits) (cast_fits z fits some)

pub returns-in-Chance : goal.returns-in-Chance
returns-in-Chance c =
    let z = get_or c.cells.result.now c.args.cell (pos 0) in
    let fits : FitsSigned w128 z = search rules in
    let kind = sym c.kind-kind.ensures.kind ∙ c.in-Chance.is in
    let some = subst (λ cells. pos 0 ≤ℤ slice_index_or cells c.args.cell (pos 0)) (sym c.cells.ensures.cells) ((c.kind-kind.ensures.diagram.tables.table c.args.v kind).not_negative c.args.cell) in
    let is = ap (λ x. pos (nat_abs x)) (to_z-of_z w128 z fits) ∙ cast_is z some ∙ ap (λ cells. slice_index_or cells c.args.cell (pos 0)) c.cells.ensures.cells in
    others c.args.diagram.now.nodes c.args.v c.args.left_out c.args.cell c.args.weights.now Chance _ kind is c.if-v-left_out.false
