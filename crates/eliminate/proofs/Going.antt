-- One step of a plan: what it asks is there, and what it makes leads on.
use Rattle.std.proofs.Common.{◌≡◌, ◌∙◌, ℕ, ◌+◌, ◌<◌, ◌≤◌, not, ◌&&◌, eqb, List, [], ◌∷◌, length, drop, slice_index, drop-cons, suc, sym, ap, subst, arith}
use Rattle.std.specs.List.{list_any, AllZip}
use Rattle.std.proofs.Math.Path.{fun_ext}
use Rattle.node_sets.specs.Sets.{holds}
use Rattle.maid_model.specs.declared.limits.TheConstants.{COUNT_END}
use Rattle.maid_model.specs.Nodes.{states_of}
use Rattle.maid_model.specs.Views.{NodeView}
use Rattle.cell_rings.specs.Rings.{Ring, IsRing}
use Rattle.ring_sums.specs.Groups.{JoinFits}
use Rattle.ring_sums.specs.Tables.{Table, IsSame, with_node, without_node, sum_out, eliminate_one, scopes_of, joined_without, scopes_one}
use Rattle.ring_sums.proofs.Each.{zip_filter}
use Rattle.ring_sums.proofs.Same.{any_map, fits_same, holds_same, makes_scopes_at, map_filter, same_out}
use Rattle.factor_core.specs.declared.slots.Slot.{Slot}
use Rattle.factor_core.specs.Slots.{WorkspaceView, cells_over, IsLiveSlot, table_of, tables_of}
use Rattle.size_precheck.specs.Greedy.{holding}
use Rattle.size_precheck.specs.Sizes.{made_cells}
use Rattle.eliminate.specs.Limits.{step_cells}
use Rattle.eliminate.specs.Steps.{slots_with, slots_without, PutsTable, CanJoinOut, Between}
use Rattle.eliminate.proofs.Sizes.{cells_exact}
use Rattle.eliminate.proofs.Standing.{map_length, more_stands}
use Rattle.eliminate.proofs.Stepping.{all_filter}

-- the scope that the plan's count sees is that of the table that is made
pub made_scope : {C : Type 0} (r : Ring C) (count : ℕ → ℕ) (v : ℕ) (ts : List (Table C)) → joined_without v (holding v (scopes_of ts)) ≡ (sum_out r count v (with_node v ts)).holds
made_scope r count v ts = fun_ext (λ u. ap (λ b. b && not (eqb u v))
    (ap (λ ss. list_any (λ s. s u) ss) (sym (map_filter (λ (t : Table _). t.holds) (λ s. s v) ts)) ∙ any_map (λ s. s u) (λ (t : Table _). t.holds) (with_node v ts)))

module _ {C : Type 0} (r : Ring C) (h : IsRing r) (nodes : List NodeView) (before now : WorkspaceView C) (slots : List Slot) (v : ℕ) (rest steps : List ℕ) (first : List (Table C)) (cells : ℕ)
    (b : Between r nodes before now slots (v ∷ rest) steps first cells) where
  abbrev stored : List (Table C)
  stored = tables_of r nodes now.cells slots

  abbrev made : Table C
  made = sum_out r (states_of nodes) v (tables_of r nodes now.cells (slots_with v slots))

  abbrev told : Table C
  told = sum_out r (states_of nodes) v (with_node v b.tables)

  with_is : tables_of r nodes now.cells (slots_with v slots) ≡ with_node v stored
  with_is = map_filter (table_of r nodes now.cells) (λ t. t.holds v) slots

  without_is : tables_of r nodes now.cells (slots_without v slots) ≡ without_node v stored
  without_is = map_filter (table_of r nodes now.cells) (λ t. not (t.holds v)) slots

  made_same : IsSame (states_of nodes) made told
  made_same = subst (λ ts. IsSame (states_of nodes) (sum_out r (states_of nodes) v ts) told) (sym with_is)
      (same_out r h (states_of nodes) v (with_node v stored) (with_node v b.tables) (zip_filter (IsSame (states_of nodes)) (λ t. t.holds v) (λ t. t.holds v) (λ t u e. e.holds v) stored b.tables b.stand.same))

  left_same : AllZip (IsSame (states_of nodes)) (tables_of r nodes now.cells (slots_without v slots)) (without_node v b.tables)
  left_same = subst (λ ts. AllZip (IsSame (states_of nodes)) ts (without_node v b.tables)) (sym without_is)
      (zip_filter (IsSame (states_of nodes)) (λ t. not (t.holds v)) (λ t. not (t.holds v)) (λ t u e. ap not (e.holds v)) stored b.tables b.stand.same)

  -- the cells that the step makes, as the plan counts them
  abbrev pub here : ℕ
  here = step_cells nodes v (scopes_of b.tables)

  abbrev later : ℕ
  later = made_cells nodes rest (scopes_one v (scopes_of b.tables))

  parts : b.spent + (here + later) ≡ cells
  parts = b.room

  pub here_exact : here < COUNT_END → here ≡ cells_over nodes told.holds
  here_exact counted = cells_exact nodes (joined_without v (holding v (scopes_of b.tables))) counted ∙ ap (cells_over nodes) (made_scope r (states_of nodes) v b.tables)

  pub can_join_here : here < COUNT_END → here ≤ now.spare → CanJoinOut r nodes now slots v
  can_join_here counted fits = record {
    live = b.stand.live;
    some = some_slots (slots_with v slots) (subst (λ ts. 0 < length ts) (sym with_is) (holds_same r h r.size (states_of nodes) r.most (v ∷ rest) stored b.tables b.stand.same b.holds).0);
    fits = subst (JoinFits r.size (states_of nodes) r.most v) (sym with_is) (fits_same r h r.size (states_of nodes) r.most (v ∷ rest) stored b.tables b.stand.same b.fits).0;
    room = subst (λ n. n ≤ now.spare) (here_exact counted ∙ ap (cells_over nodes) (sym (fun_ext made_same.holds))) fits;
  }
    where
      some_slots : (ss : List Slot) → 0 < length (tables_of r nodes now.cells ss) → 0 < length ss
      some_slots ss l = omega (arith, l, map_length (table_of r nodes now.cells) ss)

  -- after it the rest leads on
  pub goes_on_here : here < COUNT_END → (after : WorkspaceView C) (new : List Slot) → PutsTable r nodes now after (slots_without v slots) new made → Between r nodes before after new rest steps first cells
  goes_on_here counted after new puts = record {
    tables = eliminate_one r (states_of nodes) v b.tables;
    spent = b.spent + cells_over nodes told.holds;
    stand = more_stands r nodes before now after b.spent slots (slots_without v slots) new b.tables (without_node v b.tables) made told b.stand
        (all_filter (IsLiveSlot nodes now.cells) (λ s. not (holds s.scope v)) slots b.stand.live) left_same puts made_same;
    leads = b.leads;
    fits = b.fits.1;
    holds = b.holds.1;
    room = ap (λ ss. b.spent + cells_over nodes told.holds + made_cells nodes rest ss) (makes_scopes_at r (states_of nodes) (v ∷ []) b.tables)
        ∙ ap (λ n. b.spent + n + later) (sym (here_exact counted))
        ∙ same_sum b.spent here later
        ∙ parts;
  }
    where
      same_sum : (x y z : ℕ) → x + y + z ≡ x + (y + z)
      same_sum x y z = omega arith

  -- so many cells more are spent, and these scopes are left
  pub spent_here : (counted : here < COUNT_END) (after : WorkspaceView C) (new : List Slot) (puts : PutsTable r nodes now after (slots_without v slots) new made) → (goes_on_here counted after new puts).spent ≡ b.spent + here
  unfolding goes_on_here
  spent_here counted after new puts = ap (λ n. b.spent + n) (sym (here_exact counted))

  pub scopes_here : (counted : here < COUNT_END) (after : WorkspaceView C) (new : List Slot) (puts : PutsTable r nodes now after (slots_without v slots) new made) → scopes_of (goes_on_here counted after new puts).tables ≡ scopes_one v (scopes_of b.tables)
  unfolding goes_on_here
  scopes_here counted after new puts = makes_scopes_at r (states_of nodes) (v ∷ []) b.tables

-- where all cells are counted and have room, so have those of the step
module _ {C : Type 0} (r : Ring C) (h : IsRing r) (nodes : List NodeView) (before now : WorkspaceView C) (slots : List Slot) (v : ℕ) (rest steps : List ℕ) (first : List (Table C)) (cells : ℕ)
    (b : Between r nodes before now slots (v ∷ rest) steps first cells) (counted : cells < COUNT_END) (fits : cells ≤ before.spare) where
  few : here r h nodes before now slots v rest steps first cells b < COUNT_END
  few = omega (arith, b.room, counted)

  pub can_join : CanJoinOut r nodes now slots v
  can_join = can_join_here r h nodes before now slots v rest steps first cells b few (omega (arith, b.room, fits, b.stand.appends.less))

  pub goes_on : (after : WorkspaceView C) (new : List Slot) → PutsTable r nodes now after (slots_without v slots) new (sum_out r (states_of nodes) v (tables_of r nodes now.cells (slots_with v slots))) → Between r nodes before after new rest steps first cells
  goes_on = goes_on_here r h nodes before now slots v rest steps first cells b few

-- the next step, by its place
pub at_place : {C : Type 0} (r : Ring C) (nodes : List NodeView) (before now : WorkspaceView C) (slots : List Slot) (i : ℕ) (steps : List ℕ) (first : List (Table C)) (cells : ℕ)
    → Between r nodes before now slots (drop i steps) steps first cells → i < length steps → Between r nodes before now slots (slice_index steps i ∷ drop (i + 1) steps) steps first cells
at_place r nodes before now slots i steps first cells b l =
    subst (λ k. Between r nodes before now slots (slice_index steps i ∷ drop k steps) steps first cells) (next i) (subst (λ z. Between r nodes before now slots z steps first cells) (drop-cons steps i 0 l) b)
  where
    next : (i : ℕ) → suc i ≡ i + 1
    next i = omega arith
