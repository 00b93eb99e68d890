-- A chance node that the agent decided at is put back.
use Rattle.std.proofs.Common.{◌≡◌, ◌∙◌, ℕ, ◌<◌, length, refl, sym, ap, subst}
use Rattle.std.proofs.lemmas.List.{get_or-set_same, length-set, set-get_or, set-set}
use Rattle.arc_laws.proofs.ControlLaws.{chance_within}
use Rattle.maid_model.specs.declared.diagrams.Kind.TheVariants.{Chance}
use Rattle.maid_model.specs.Edits.{AreAlike, made_decision, with_node}
use Rattle.maid_model.specs.Nodes.{is_utility, no_node, node_at}
use Rattle.maid_model.specs.Views.{DiagramView, diagram_of}
use Rattle.control_incentive.specs.Lines.{controlling}

module _ (d : DiagramView) (agent x : ℕ) (chance : (node_at d.nodes x).kind ≡ Chance) where
  there : x < length d.nodes
  there = chance_within d.nodes x chance

  pub within_back : x < length (controlling d agent x).nodes
  within_back = subst (λ n. x < n) (sym (length-set d.nodes x (made_decision d.nodes agent x))) there

  pub alike_back : AreAlike (node_at (controlling d agent x).nodes x) (node_at d.nodes x)
  alike_back =
      subst (λ n. AreAlike n (node_at d.nodes x)) (sym (get_or-set_same d.nodes x (made_decision d.nodes agent x) no_node there))
      (record { states = refl; utilities = ap is_utility chance })

  pub restored : with_node (controlling d agent x) x (node_at d.nodes x) ≡ d
  restored = ap (λ nodes. diagram_of nodes d.agents d.decimals) (set-set d.nodes x (made_decision d.nodes agent x) (node_at d.nodes x) ∙ set-get_or d.nodes x no_node)
