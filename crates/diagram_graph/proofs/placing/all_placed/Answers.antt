use Rattle.std.proofs.Common.{subst, refl, ◌∙◌, arith}
use Rattle.std.proofs.lemmas.List.{get_or_default}
use Rattle.std.proofs.lemmas.List.Elements.{Contains-get_or}
use Rattle.diagram_graph.specs.Needs.{IsMarkedIn}
use Rattle.diagram_graph.proofs.placing.all_placed.Goals as goal

pub bounds-placed-e : goal.bounds-placed-e
bounds-placed-e c = c.requires _ (Contains-get_or _ _ 0 c.loop-e-test.true)

pub returns : goal.returns
returns c = (
  (λ _ e h. subst (λ x. IsMarkedIn c.args.placed.now x) (get_or_default c.args.list.now h.0 0 e h.1 ∙ h.2)
      (let l = h.1 in c.loop-e.invariant h.0 (omega arith))),
  (λ _. refl),
)
