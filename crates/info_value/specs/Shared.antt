-- What the lines share. Only private functions cite it.
use Rattle.std.specs.Prelude.{◌≡◌, IfSome}
use Rattle.maid_model.specs.Views.{DiagramView}
use Rattle.rule_solver.specs.Rooms.{AreLeft}
use Rattle.size_precheck.specs.Sizes.{ArePlansOfWorths}
use Rattle.info_value.specs.declared.sharing.Shared.{Shared}

-- the copy, if there is one, is the diagram itself; the plans, if there are any, are those of the
-- worths of all its utilities; and the workspaces are ready
pub record IsShared (d : DiagramView) (shared : Shared) : Type 0 where
  pub copy : IfSome shared.copy (λ copy. copy ≡ d)
  pub worths : IfSome shared.worths (λ plans. ArePlansOfWorths d.nodes plans.items)
  pub left : AreLeft shared.left
