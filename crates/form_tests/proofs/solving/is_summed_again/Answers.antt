-- The run has room for the plans of each decision, and the reply is one.
use Rattle.std.proofs.Common.{refl, sym, subst, arith}
use Rattle.maid_model.specs.Nodes.{IsDecision}
use Rattle.maid_model.specs.Views.{DiagramView}
use Rattle.form_tests.specs.Checking.{reply_diagram}
use Rattle.form_tests.proofs.solving.is_summed_again.Goals as goal

reply_decides : IsDecision reply_diagram.nodes 1
reply_decides = record { within = omega arith; kind = refl }

pub spaces_for-requires-clause-room : goal.spaces_for-requires-clause-room
spaces_for-requires-clause-room c =
    (c.in_ok-has_room.ensures.room c.if-not-branch.false).decisions 1
    (subst (λ (d : DiagramView). IsDecision d.nodes 1) (sym c.in_ok-diagram.ensures) reply_decides)

pub spaces_for-requires-2-clause-room : goal.spaces_for-requires-2-clause-room
spaces_for-requires-2-clause-room c =
    (c.in_ok-has_room.ensures.room c.if-not-branch.false).decisions 1
    (subst (λ (d : DiagramView). IsDecision d.nodes 1) (sym c.in_ok-diagram.ensures) reply_decides)
