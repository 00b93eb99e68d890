-- The agent's sum under a list of choices: it has room, and is the gain in the table.
use Rattle.std.proofs.Common.{◌≡◌, ◌∙◌, ℕ, ◌<◌, List, ap, sym}
use Rattle.maid_model.specs.Bounds.{HasRoomForWeight}
use Rattle.maid_model.specs.Diagrams.{IsDiagram}
use Rattle.maid_model.specs.Gains.{gain_of, mass}
use Rattle.maid_model.specs.Parts.{rules_in}
use Rattle.maid_model.specs.Scopes.{KeepsScopedBounds, scope_for}
use Rattle.maid_model.specs.Views.{DiagramView}
use Rattle.maid_model.specs.Worlds.{IsWorld}
use Rattle.reach_laws.specs.Equilibria.{profile_of}
use Rattle.tree_checker.specs.declared.agent_sums.AgentSum.{AgentSum}
use Rattle.pure_search.specs.Following.{FollowsChoices}
use Rattle.pure_search.specs.Games.{counts_for, part_gain, part_of_agent}
use Rattle.pure_search.proofs.Agents.{IsWeighed, weighed}
use Rattle.pure_search.proofs.Answered.{pure_choices}

module _ (d : DiagramView) (agent : ℕ) (choices : List ℕ) (part : DiagramView) (kept : List ℕ) (s : AgentSum) (is : IsDiagram d) (bound : KeepsScopedBounds d) (l : agent < d.agents) (world : IsWorld (counts_for d.nodes) choices)
    (part_is : part ≡ part_of_agent d agent) (kept_is : kept ≡ scope_for d.nodes agent) (under : FollowsChoices d.nodes agent choices s) where
  told : IsWeighed d (profile_of d.nodes choices) agent part s.rules
  told =
      let pure = pure_choices d.nodes choices world in
      weighed d (profile_of d.nodes choices) agent is bound pure.profile pure.total l part kept s.rules part_is kept_is (under.rules_are ∙ ap (rules_in d.nodes (profile_of d.nodes choices)) (sym kept_is))

  pub room_under : HasRoomForWeight part (mass part.nodes s.rules)
  room_under = told.fits

  pub gain_is_under : gain_of part.nodes s.rules s.agent ≡ part_gain d.nodes agent choices
  gain_is_under = ap (gain_of part.nodes s.rules) under.agent_is ∙ told.gain
