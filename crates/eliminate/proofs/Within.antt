-- What a call with limits has taken from them: among the first tables, between steps and at the
-- end.
use Rattle.std.proofs.Common.{◌≡◌, ◌∙◌, ◌⊎◌, ◌↔◌, ℕ, ◌+◌, ◌-◌, ◌*◌, ◌<◌, ◌≤◌, List, [], ◌∷◌, drop, length, get_or, Some, None, refl, sym, ap, subst, inl, inr, arith}
use Rattle.std.specs.List.{sum_by, AllZip}
use Rattle.std.proofs.Math.Path.{fun_ext}
use Rattle.std.proofs.lemmas.List.{append-nil, drop_more, drop_all}
use Rattle.std.proofs.lemmas.List.Sums.{sum_by-cons}
use Rattle.maid_model.specs.declared.limits.TheConstants.{COUNT_END, MOST_PLAN_CELLS}
use Rattle.maid_model.specs.Nodes.{states_of}
use Rattle.maid_model.specs.Views.{NodeView, RuleView}
use Rattle.node_sets.specs.declared.sets.NodeSet.{NodeSet}
use Rattle.node_sets.specs.Sets.{holds}
use Rattle.cell_rings.specs.Rings.{Ring, IsRing}
use Rattle.ring_sums.specs.Tables.{Table, IsSame, joined, product_of, scopes_of}
use Rattle.ring_sums.proofs.Same.{any_map, fits_same, same_product}
use Rattle.plan_sums.specs.Plans.{Cells, mass_cells}
use Rattle.factor_core.specs.declared.slots.Slot.{Slot}
use Rattle.factor_core.specs.Operations.{first_table}
use Rattle.factor_core.specs.Slots.{WorkspaceView, cells_over, tables_of, ProductOfFits, AppendsProduct}
use Rattle.size_precheck.specs.Counts.{counted_cells}
use Rattle.size_precheck.specs.Sizes.{made_cells, steps_work}
use Rattle.eliminate.specs.declared.counts.Limits.{Limits}
use Rattle.eliminate.specs.Limits.{ListsWithin, IsFirstScope, Spends, SpendsStep, IsProductTooMuch, scopes_at, step_cells, step_work, product_cells, product_work}
use Rattle.eliminate.specs.Results.{tables_at, tables_left, FindTables, SumsFit, SumsTables, Grows, IsTooMuch}
use Rattle.eliminate.specs.Steps.{PutsTable, GiveWay, CanJoinOut, Stand, Between, first_cells}
use Rattle.eliminate.proofs.Growing.{grows_by}
use Rattle.eliminate.proofs.Going.{can_join_here, goes_on_here, spent_here, scopes_here}
use Rattle.eliminate.proofs.Standing.{map_length}
use Rattle.eliminate.proofs.Sizes.{cells_exact, counted_below}
use Rattle.eliminate.proofs.Starting.{lists_none, lists_more}
use Rattle.eliminate.proofs.Whole.{one_scope, same_joined}

-- where not both are enough, one is too small
pub one_passes : (a b c d : ℕ) → ((a ≤ c) × (b ≤ d) → ⊥) → (c < a) ⊎ (d < b)
one_passes a b c d h = go (le_or_lt a c) (le_or_lt b d)
  where
    le_or_lt : (m n : ℕ) → (m ≤ n) ⊎ (n < m)
    le_or_lt m n = grind arith

    go : (a ≤ c) ⊎ (c < a) → (b ≤ d) ⊎ (d < b) → (c < a) ⊎ (d < b)
    go (inr l) k = inl l
    go (inl l) (inr k) = inr k
    go (inl l) (inl k) = absurd (h (l, k))

-- ---- the first tables
pub within_none : {C : Type 0} (c : Cells C) (nodes : List NodeView) (p : List RuleView) (w : WorkspaceView C) (all : List ℕ) (limits : Limits) → ListsWithin c nodes p w w [] all all limits limits
within_none c nodes p w all limits =
    let none = lists_none c nodes p w all in
    record { lists = none; cells = omega (arith, none.room); work = refl }

module _ {C : Type 0} {c : Cells C} {nodes : List NodeView} {p : List RuleView} {before now : WorkspaceView C} {slots : List Slot} {all : List ℕ} {limits left : Limits} where
  -- the next node by its place, and none behind the last place
  module _ (i : ℕ) (l : ListsWithin c nodes p before now slots (drop i all) all limits left) where
    pub next_node : i < length all → ListsWithin c nodes p before now slots (get_or all i 0 ∷ drop (i + 1) all) all limits left
    next_node k = subst (λ rest. ListsWithin c nodes p before now slots rest all limits left) (drop_more all i 0 k) l

    pub no_node : length all ≤ i → ListsWithin c nodes p before now slots [] all limits left
    no_node k = subst (λ rest. ListsWithin c nodes p before now slots rest all limits left) (drop_all i all k) l

  -- the table of the next node, of which so many cells are counted
  module _ {v : ℕ} {rest : List ℕ} (l : ListsWithin c nodes p before now slots (v ∷ rest) all limits left) (small : limits.cells ≤ MOST_PLAN_CELLS)
      (scope : NodeSet) (is : IsFirstScope nodes v scope) {cells : ℕ} (counted : cells ≡ counted_cells nodes (holds scope)) where
    scope_is : holds scope ≡ (first_table c nodes p v).holds
    scope_is = fun_ext is ∙ one_scope mass_cells c nodes [] p v

    parts : l.lists.spent + (first_cells c nodes p v + sum_by (first_cells c nodes p) rest) ≡ sum_by (first_cells c nodes p) all
    parts = ap (λ n. l.lists.spent + n) (sym (sum_by-cons (first_cells c nodes p) v rest)) ∙ l.lists.room

    -- where it has no room, all of them haven't
    pub lists_refused : Spends left cells 0 None → limits.cells < sum_by (first_cells c nodes p) all
    lists_refused h = go (one_passes cells 0 left.cells left.work h)
      where
        go : (left.cells < cells) ⊎ (left.work < 0) → limits.cells < sum_by (first_cells c nodes p) all
        go (inl m) = omega (arith, m, l.cells, parts, counted, counted_below nodes (holds scope), ap (cells_over nodes) scope_is)
        go (inr m) = absurd (omega (arith, m))

    module _ {next : Limits} (told : Spends left cells 0 (Some next)) where
      exact : cells ≡ first_cells c nodes p v
      exact = counted ∙ cells_exact nodes (holds scope) (omega (arith, counted, told.0.0, l.cells, small)) ∙ ap (cells_over nodes) scope_is

      pub next_room : limits.cells ≤ before.spare → first_cells c nodes p v ≤ now.spare
      next_room room = omega (arith, exact, told.0.0, l.cells, l.lists.stand.appends.less, room)

      pub within_more : {after : WorkspaceView C} {new : List Slot} → PutsTable c.ring nodes now after slots new (first_table c nodes p v) → ListsWithin c nodes p before after new rest all limits next
      within_more {after} {new} puts =
          let more = lists_more c nodes p before now after slots new v rest all l.lists puts in
          let next_cells : next.cells ≡ left.cells - cells = ap (λ (k : Limits). k.cells) told.1 in
          let next_work : next.work ≡ left.work - 0 = ap (λ (k : Limits). k.work) told.1 in
          record {
            lists = more;
            cells = omega (arith, exact, told.0.0, l.cells, next_cells, parts, more.room);
            work = omega (arith, next_work, l.work);
          }

-- ---- between steps
-- tables that are the same have the same scopes
scopes_same : {C : Type 0} (r : Ring C) (nodes : List NodeView) (cells : List C) (slots : List Slot) (ts : List (Table C)) → AllZip (IsSame (states_of nodes)) (tables_of r nodes cells slots) ts → scopes_at slots ≡ scopes_of ts
scopes_same r nodes cells [] [] m = refl
scopes_same r nodes cells [] (t ∷ ts) m = absurd m
scopes_same r nodes cells (s ∷ ss) [] m = absurd m
scopes_same r nodes cells (s ∷ ss) (t ∷ ts) m = (λ i. fun_ext m.0.holds i ∷ scopes_same r nodes cells ss ts m.1 i)

-- the cells of the first tables, and of those that the steps make
abbrev pub steps_cells : {C : Type 0} → Cells C → List NodeView → List RuleView → List ℕ → List ℕ → ℕ
steps_cells c nodes p vs steps = sum_by (first_cells c nodes p) vs + made_cells nodes steps (scopes_of (tables_at c nodes p vs))

-- a sum of the first tables of these nodes is under way: the steps to come lead on from the slots
-- that stand, and the cells and the work of those so far were taken from the limits
pub record Underway {C : Type 0}
    (c : Cells C) (nodes : List NodeView) (p : List RuleView) (vs steps : List ℕ) (limits : Limits)
    (before now : WorkspaceView C) (slots : List Slot) (rest : List ℕ) (left : Limits) : Type 0 where
  pub between : Between c.ring nodes before now slots rest steps (tables_at c nodes p vs) (steps_cells c nodes p vs steps)
  pub cells : left.cells + between.spent ≡ limits.cells
  pub work : left.work + steps_work nodes steps (scopes_of (tables_at c nodes p vs)) ≡ limits.work + steps_work nodes rest (scopes_of between.tables)

-- where the first tables alone pass the limit
pub first_too_much : {C : Type 0} (c : Cells C) (nodes : List NodeView) (p : List RuleView) (vs steps : List ℕ) (limits : Limits) → limits.cells < sum_by (first_cells c nodes p) vs → IsTooMuch c nodes p vs steps limits
first_too_much c nodes p vs steps limits l = inl (omega (arith, l))

module _ {C : Type 0} {c : Cells C} {nodes : List NodeView} {p : List RuleView} {vs steps : List ℕ} {limits : Limits} {before : WorkspaceView C} where
  -- before the first step
  pub sum_starts : SumsFit c nodes p vs steps → FindTables c nodes p vs steps → {now : WorkspaceView C} {slots : List Slot} {left : Limits}
      → ListsWithin c nodes p before now slots [] vs limits left → Underway c nodes p vs steps limits before now slots steps left
  sum_starts fits held {now} {slots} l = record {
    between = record {
      tables = tables_at c nodes p vs;
      spent = l.lists.spent;
      stand = subst (λ ts. Stand c.ring nodes before now l.lists.spent slots ts) (sym (append-nil l.lists.tables) ∙ l.lists.leads) l.lists.stand;
      leads = refl;
      fits = fits;
      holds = held;
      room = omega (arith, l.lists.room);
    };
    cells = l.cells;
    work = omega (arith, l.work);
  }

  -- the next step by its place, and none behind the last place
  module _ {now : WorkspaceView C} {slots : List Slot} {left : Limits} (i : ℕ) (w : Underway c nodes p vs steps limits before now slots (drop i steps) left) where
    pub next_step : i < length steps → Underway c nodes p vs steps limits before now slots (get_or steps i 0 ∷ drop (i + 1) steps) left
    next_step l = subst (λ rest. Underway c nodes p vs steps limits before now slots rest left) (drop_more steps i 0 l) w

    pub no_step : length steps ≤ i → Underway c nodes p vs steps limits before now slots [] left
    no_step l = subst (λ rest. Underway c nodes p vs steps limits before now slots rest left) (drop_all i steps l) w

  module _ {now : WorkspaceView C} {slots : List Slot} {rest : List ℕ} {left : Limits} (w : Underway c nodes p vs steps limits before now slots rest left) where
    pub has_grown : Grows c.ring nodes before now
    has_grown = grows_by w.between.stand

    pub left_small : limits.cells ≤ MOST_PLAN_CELLS → left.cells ≤ MOST_PLAN_CELLS
    left_small small = omega (arith, w.cells, small)

    pub left_room : limits.cells ≤ before.spare → left.cells ≤ now.spare
    left_room room = omega (arith, w.cells, w.between.stand.appends.less, room)

    same_scopes : scopes_at slots ≡ scopes_of w.between.tables
    same_scopes = scopes_same c.ring nodes now.cells slots w.between.tables w.between.stand.same

  -- ---- one step
  module _ {now : WorkspaceView C} {slots : List Slot} {v : ℕ} {rest : List ℕ} {left : Limits} (h : IsRing c.ring) (w : Underway c nodes p vs steps limits before now slots (v ∷ rest) left) where
    abbrev cells : ℕ
    cells = step_cells nodes v (scopes_at slots)

    abbrev work : ℕ
    work = step_work nodes v (scopes_at slots)

    cells_are : cells ≡ step_cells nodes v (scopes_of w.between.tables)
    cells_are = ap (step_cells nodes v) (same_scopes w)

    work_is : work ≡ step_work nodes v (scopes_of w.between.tables)
    work_is = ap (step_work nodes v) (same_scopes w)

    -- where the limits refuse it, all steps ask for too much
    pub step_refused : SpendsStep nodes v (scopes_at slots) left None → IsTooMuch c nodes p vs steps limits
    step_refused k = go (one_passes cells work left.cells left.work k)
      where
        go : (left.cells < cells) ⊎ (left.work < work) → IsTooMuch c nodes p vs steps limits
        go (inl m) = inl (omega (arith, m, w.cells, w.between.room, cells_are))
        go (inr m) = inr (omega (arith, m, w.work, work_is))

    -- where they allow it, it can be done, and leads on
    module _ {next : Limits} (small : limits.cells ≤ MOST_PLAN_CELLS) (room : limits.cells ≤ before.spare) (told : SpendsStep nodes v (scopes_at slots) left (Some next)) where
      cells_counted : step_cells nodes v (scopes_of w.between.tables) < COUNT_END
      cells_counted = omega (arith, told.0.0, cells_are, left_small w small)

      pub step_joins : CanJoinOut c.ring nodes now slots v
      step_joins = can_join_here c.ring h nodes before now slots v rest steps (tables_at c nodes p vs) (steps_cells c nodes p vs steps) w.between cells_counted (omega (arith, told.0.0, cells_are, left_room w room))

      pub step_on : {after : WorkspaceView C} {new : List Slot} → GiveWay c.ring nodes now after slots new v → Underway c nodes p vs steps limits before after new rest next
      step_on {after} {new} gives =
          let first = tables_at c nodes p vs in
          let all = steps_cells c nodes p vs steps in
          let spent = spent_here c.ring h nodes before now slots v rest steps first all w.between cells_counted after new gives in
          let scopes = scopes_here c.ring h nodes before now slots v rest steps first all w.between cells_counted after new gives in
          let next_cells : next.cells ≡ left.cells - cells = ap (λ (l : Limits). l.cells) told.1 in
          let next_work : next.work ≡ left.work - work = ap (λ (l : Limits). l.work) told.1 in
          record {
            between = goes_on_here c.ring h nodes before now slots v rest steps first all w.between cells_counted after new gives;
            cells = omega (arith, spent, next_cells, told.0.0, cells_are, w.cells);
            work = omega (arith, ap (steps_work nodes rest) scopes, next_work, told.0.1, work_is, w.work);
          }

  -- ---- the product
  module _ {now : WorkspaceView C} {slots : List Slot} {left : Limits} (h : IsRing c.ring) (w : Underway c nodes p vs steps limits before now slots [] left) where
    scopes_left : scopes_at slots ≡ scopes_of (tables_left c nodes p vs steps)
    scopes_left = same_scopes w ∙ ap scopes_of w.between.leads

    cells_left : product_cells nodes (scopes_at slots) ≡ counted_cells nodes (joined (tables_left c nodes p vs steps))
    cells_left = ap (product_cells nodes) scopes_left ∙ ap (counted_cells nodes) (fun_ext (λ u. any_map (λ k. k u) (λ (t : Table C). t.holds) (tables_left c nodes p vs steps)))

    count_left : length (scopes_at slots) ≡ length (tables_left c nodes p vs steps)
    count_left = ap length scopes_left ∙ map_length (λ (t : Table C). t.holds) (tables_left c nodes p vs steps)

    work_left : product_work nodes (scopes_at slots) ≡ counted_cells nodes (joined (tables_left c nodes p vs steps)) * length (tables_left c nodes p vs steps)
    work_left = (λ i. cells_left i * count_left i)

    -- it asks for more than what is left where the whole sum asks for more than the limits
    pub product_too_much : IsProductTooMuch nodes (scopes_at slots) left ↔ IsTooMuch c nodes p vs steps limits
    product_too_much = (whole, last)
      where
        whole : IsProductTooMuch nodes (scopes_at slots) left → IsTooMuch c nodes p vs steps limits
        whole (inl m) = inl (omega (arith, m, w.cells, w.between.room, cells_left))
        whole (inr m) = inr (omega (arith, m, w.work, work_left))

        last : IsTooMuch c nodes p vs steps limits → IsProductTooMuch nodes (scopes_at slots) left
        last (inl m) = inl (omega (arith, m, w.cells, w.between.room, cells_left))
        last (inr m) = inr (omega (arith, m, w.work, work_left))

    pub product_fits : ProductOfFits c.ring nodes slots now
    product_fits = fits_same c.ring h c.ring.size (states_of nodes) c.ring.most [] (tables_of c.ring nodes now.cells slots) w.between.tables w.between.stand.same w.between.fits

    -- its table is the product of what the steps leave
    pub product_sums : {after : WorkspaceView C} (slot : Slot) → AppendsProduct c.ring nodes slots now after slot → SumsTables c nodes p vs steps after slot
    product_sums slot a = record {
      live = a.live;
      scope = λ u. a.table.holds u ∙ same_joined (states_of nodes) (tables_of c.ring nodes now.cells slots) w.between.tables u w.between.stand.same ∙ ap (λ ts. joined ts u) w.between.leads;
      cell = λ x i. a.table.cell x i ∙ same_product c.ring h (states_of nodes) (tables_of c.ring nodes now.cells slots) w.between.tables x w.between.stand.same i ∙ ap (λ ts. product_of c.ring ts x) w.between.leads;
    }
