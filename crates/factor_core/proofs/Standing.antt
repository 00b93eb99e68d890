-- Tables that stand in a list of cells, also when more cells come behind them.
use Rattle.std.proofs.Common.{◌≡◌, ◌∙◌, ℕ, ◌+◌, ◌-◌, ◌<◌, ◌≤◌, List, take, drop, length, sym, ap, arith}
use Rattle.std.proofs.lemmas.List.{get_or-take, get_or-drop, length-take-le, drop-take, take-take}
use Rattle.finite_sums.specs.Sums.{World, InRange}
use Rattle.node_sets.specs.declared.sets.NodeSet.{NodeSet}
use Rattle.node_sets.specs.Sets.{holds, IsIn}
use Rattle.ring_sums.specs.Tables.{Table, IsSame}
use Rattle.maid_model.specs.Views.{NodeView}
use Rattle.maid_model.specs.Nodes.{states_of, counts_of}
use Rattle.cell_rings.specs.Rings.{Ring}
use Rattle.cell_rings.specs.Sums.{cell_at}
use Rattle.factor_core.specs.declared.slots.Slot.{Slot}
use Rattle.factor_core.specs.Slots.{WorkspaceView, space, nodes_in, part, picked, IsLiveSlot, table_of, Appends, StaysLive, AppendsTable}
use Rattle.factor_core.specs.Tables.{LiesIn, place_of, size_of, states_in}
use Rattle.factor_core.proofs.Counts.{counts_length, cells_are, place_among, range_is}
use Rattle.factor_core.proofs.Joining.{place_below}
use Rattle.factor_core.proofs.Scoping.{not_held}

-- a cell of a part
pub part_at : {C : Type 0} (r : Ring C) (cells : List C) (start len p : ℕ) → p < len → cell_at r (part cells start len) p ≡ cell_at r cells (start + p)
part_at r cells start len p l = get_or-take len (drop start cells) p r.nought l ∙ get_or-drop start cells p r.nought

-- a part of the first cells is a part of all
pub part_of_first : {C : Type 0} (cells : List C) (used start len : ℕ) → start + len ≤ used → part (take used cells) start len ≡ part cells start len
part_of_first cells used start len l =
    let whole : start + (len + (used - (start + len))) ≡ used = omega arith in
    ap (λ k. take len (drop start (take k cells))) (sym whole)
    ∙ ap (take len) (drop-take start (len + (used - (start + len))) cells)
    ∙ take-take len (len + (used - (start + len))) (drop start cells) (omega arith)

module _ {C : Type 0} (r : Ring C) (nodes : List NodeView) where
  -- as the walks see it
  pub lies_in : (cells : List C) (s : Slot) → IsLiveSlot nodes cells s → LiesIn (counts_of nodes) (length cells) s
  lies_in cells s live = record {
    known = λ v l. not_held (holds s.scope v) (λ t. let k = live.known v t in let e = counts_length nodes in omega arith);
    size = live.size ∙ sym (cells_are nodes (holds s.scope));
    within = live.within;
  }

  -- a slot's cell in a world
  pub cell_of_slot : (cells : List C) (s : Slot) (w : World) → IsLiveSlot nodes cells s → InRange (states_of nodes) w → cell_at r cells (s.start + place_of (counts_of nodes) s.scope w) ≡ (table_of r nodes cells s).cell w
  cell_of_slot cells s w live i =
      let below = place_below (states_in (counts_of nodes)) (holds s.scope) w (range_is nodes w i) (length (counts_of nodes)) 0 in
      let inside : place_of (counts_of nodes) s.scope w < s.len = omega (arith, below, live.size, cells_are nodes (holds s.scope)) in
      sym (part_at r cells s.start s.len (place_of (counts_of nodes) s.scope w) inside)
      ∙ ap (cell_at r (part cells s.start s.len)) (place_among nodes (holds s.scope) w)

  -- earlier slots stay
  pub stays_live : (before after : List C) (s : Slot) → take (length before) after ≡ before → length before ≤ length after → IsLiveSlot nodes before s → StaysLive r nodes before after s
  stays_live before after s kept longer live = record {
    live = record { known = live.known; size = live.size; within = (let l = live.within in omega arith) };
    table = ap (λ cs. let t = picked r nodes (nodes_in nodes (holds s.scope)) cs in record { holds = holds s.scope; cell = t })
        (sym (part_of_first after (length before) s.start s.len live.within) ∙ ap (λ cs. part cs s.start s.len) kept);
  }

  -- cells were written behind the first ones
  module _ (all new : List C) (used len : ℕ) (same : length new ≡ length all) (fits : used + len ≤ length all) (kept : take used new ≡ take used all) where
    before : length (take used all) ≡ used
    before = length-take-le used all (omega arith)

    after : length (take (used + len) new) ≡ used + len
    after = length-take-le (used + len) new (omega arith)

    first : take (length (take used all)) (take (used + len) new) ≡ take used all
    first = ap (λ k. take k (take (used + len) new)) before ∙ take-take used (used + len) new (omega arith) ∙ kept

    pub appends : Appends (space all used) (space new (used + len)) used len
    appends = record { start = sym before; kept = first; longer = (let b = before in let a = after in omega arith); less = (omega arith) }

    pub stays : (s : Slot) → IsLiveSlot nodes (take used all) s → StaysLive r nodes (take used all) (take (used + len) new) s
    stays s live = stays_live (take used all) (take (used + len) new) s first (let b = before in let a = after in omega arith) live

    -- a cell of what was written
    pub cell_written : (p : ℕ) → p < len → cell_at r (part (take (used + len) new) used len) p ≡ cell_at r new (used + p)
    cell_written p l = ap (λ cs. cell_at r cs p) (part_of_first new (used + len) used len (omega arith)) ∙ part_at r new used len p l

    -- what was written is a table more
    pub appends_table : (scope : NodeSet) (t : Table C)
        → len ≡ size_of (counts_of nodes) scope → ((v : ℕ) → IsIn scope v → v < length nodes) → ((v : ℕ) → holds scope v ≡ t.holds v)
        → ((w : World) → InRange (states_of nodes) w → cell_at r new (used + place_of (counts_of nodes) scope w) ≡ t.cell w)
        → AppendsTable r nodes (space all used) (space new (used + len)) (record { start = used; len = len; scope = scope }) t
    appends_table scope t size known held is = record {
      appends = appends;
      live = record { known = known; size = size ∙ cells_are nodes (holds scope); within = (let a = after in omega arith) };
      table = record {
        holds = held;
        cell = λ w i.
            let below = place_below (states_in (counts_of nodes)) (holds scope) w (range_is nodes w i) (length (counts_of nodes)) 0 in
            sym (ap (cell_at r (part (take (used + len) new) used len)) (place_among nodes (holds scope) w))
            ∙ cell_written (place_of (counts_of nodes) scope w) (omega arith)
            ∙ is w i;
      };
      stays = stays;
    }

  -- a table that is the same was appended too
  pub appends_same : (before after : WorkspaceView C) (slot : Slot) (t u : Table C) → AppendsTable r nodes before after slot t → IsSame (states_of nodes) t u → AppendsTable r nodes before after slot u
  appends_same old new slot t u a same = record {
    appends = a.appends;
    live = a.live;
    table = record { holds = λ v. a.table.holds v ∙ same.holds v; cell = λ w i. a.table.cell w i ∙ same.cell w i };
    stays = a.stays;
  }
