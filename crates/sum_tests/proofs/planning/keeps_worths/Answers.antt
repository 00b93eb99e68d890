use Rattle.std.proofs.Common.{◌≡◌, ◌≢◌, ℕ, zero, suc, refl, sym, subst, arith}
use Rattle.maid_model.specs.Nodes.{node_at, parents_of, states_of}
use Rattle.maid_model.specs.Views.{DiagramView}
use Rattle.size_precheck.specs.Kept.{AreWorthsBeside, DifferAt}
use Rattle.size_precheck.specs.Sizes.{ArePlansOfWorths}
use Rattle.sum_tests.specs.Planning.{blind_diagram, seeing_diagram}
use Rattle.sum_tests.proofs.planning.keeps_worths.Goals as goal

-- the two differ in what the decision sees
differ : DifferAt blind_diagram.nodes seeing_diagram.nodes 1
differ = record {
  count = refl;
  kind = kind;
  states = states;
  parents = parents;
}
  where
    kind : (v : ℕ) → (node_at seeing_diagram.nodes v).kind ≡ (node_at blind_diagram.nodes v).kind
    kind zero = refl
    kind (suc zero) = refl
    kind (suc (suc v)) = refl

    states : (v : ℕ) → states_of seeing_diagram.nodes v ≡ states_of blind_diagram.nodes v
    states zero = refl
    states (suc zero) = refl
    states (suc (suc v)) = refl

    parents : (v : ℕ) → v ≢ 1 → parents_of seeing_diagram.nodes v ≡ parents_of blind_diagram.nodes v
    parents zero n = refl
    parents (suc zero) n = absurd (n refl)
    parents (suc (suc v)) n = refl

pub keep_edited-requires-clause-before : goal.keep_edited-requires-clause-before
keep_edited-requires-clause-before c = (
  blind_diagram.nodes,
  subst (λ (d : DiagramView). DifferAt blind_diagram.nodes d.nodes 1) (sym c.in_ok-seeing.ensures) differ,
  subst (ArePlansOfWorths blind_diagram.nodes) (sym c.deref.ensures.value)
      (subst (λ (d : DiagramView). ArePlansOfWorths d.nodes c.in_ok-before.before.items) c.in_ok-blind.ensures c.in_ok-before.ensures),
)
