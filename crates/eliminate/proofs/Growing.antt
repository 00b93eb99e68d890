-- How a workspace grows: by nothing, by tables that stand in it, by one more, and by one growth
-- after another.
use Rattle.std.proofs.Common.{◌∙◌, ℕ, List, refl, arith}
use Rattle.maid_model.specs.Views.{NodeView}
use Rattle.cell_rings.specs.Rings.{Ring}
use Rattle.ring_sums.specs.Tables.{Table}
use Rattle.factor_core.specs.declared.slots.Slot.{Slot}
use Rattle.factor_core.specs.Slots.{WorkspaceView, AppendsTable}
use Rattle.eliminate.specs.Results.{Grows}
use Rattle.eliminate.specs.Steps.{Stand}

module _ {C : Type 0} {r : Ring C} {nodes : List NodeView} where
  pub grows_none : {work : WorkspaceView C} → Grows r nodes work work
  grows_none = record { space = refl; stays = λ s l. record { live = l; table = refl } }

  pub grows_by : {before now : WorkspaceView C} {spent : ℕ} {slots : List Slot} {tables : List (Table C)} → Stand r nodes before now spent slots tables → Grows r nodes before now
  grows_by s = record { space = omega (arith, s.appends.longer, s.appends.less); stays = s.stays }

  pub grows_table : {before after : WorkspaceView C} {slot : Slot} {t : Table C} → AppendsTable r nodes before after slot t → Grows r nodes before after
  grows_table a = record { space = omega (arith, a.appends.longer, a.appends.less); stays = a.stays }

  pub grows_on : {before now after : WorkspaceView C} → Grows r nodes before now → Grows r nodes now after → Grows r nodes before after
  grows_on g h = record {
    space = h.space ∙ g.space;
    stays = λ s l.
        let k = g.stays s l in
        let m = h.stays s k.live in
        record { live = m.live; table = m.table ∙ k.table };
  }
