-- The draft at hand has more decimals than those so far, or it hasn't.
use Rattle.std.proofs.Common.{arith, subst, sym}
use Rattle.net_build.specs.TableParts.{HasDecimalsAtMost}
use Rattle.net_build.proofs.DraftScales.{most_next, reached_here}
use Rattle.net_build.proofs.tables.most_of.Goals as goal
use Rattle.net_build.proofs.tables.most_of.Goals.{then-here-most, else-here-most}

pub loop-draft-preserved : goal.loop-draft-preserved
loop-draft-preserved c =
    elim c.if-here-most.branch [
      | then-here-most w ↦ record {
        most = most_next c.args.drafts.now c.loop-draft.draft-index c.draft-item.result c.loop-draft.most c.most_in-here.result c.if-here-most.most c.draft-item.is c.loop-draft-test.true c.loop-draft.invariant.most c.most_in-here.ensures.most (omega (arith, w.most-is, w.if-here-most.true)) (omega (arith, w.most-is));
        reached = reached_here c.args.drafts.now c.loop-draft.draft-index c.draft-item.result c.most_in-here.result c.if-here-most.most c.draft-item.is c.loop-draft-test.true w.most-is c.most_in-here.ensures.reached;
        few = omega (arith, w.most-is, c.most_in-here.ensures.few);
      }
      | else-here-most w ↦ record {
        most = most_next c.args.drafts.now c.loop-draft.draft-index c.draft-item.result c.loop-draft.most c.most_in-here.result c.if-here-most.most c.draft-item.is c.loop-draft-test.true c.loop-draft.invariant.most c.most_in-here.ensures.most (omega (arith, w.most-is)) (omega (arith, w.most-is, w.if-here-most.false));
        reached = rw w.most-is c.loop-draft.invariant.reached;
        few = omega (arith, w.most-is, c.loop-draft.invariant.few);
      }
    ]

pub most_in-here-requires : goal.most_in-here-requires
most_in-here-requires c = record { few = subst (HasDecimalsAtMost 30) (sym c.draft-item.is) (c.requires.few c.loop-draft.draft-index c.draft-item.result c.loop-draft-test.true) }
