-- The whole run of a plan: what its count of cells says, its start and its end.
use Rattle.std.proofs.Common.{◌≡◌, ◌∙◌, ℕ, ◌+◌, ◌*◌, ◌<◌, ◌≤◌, Bool, true, false, cond, ◌||◌, map, List, [], ◌∷◌, ◌++◌, drop, length, slice_index, refl, sym, ap, subst, inl, inr, arith, Option, Some, None, option_to_list}
use Rattle.std.specs.List.{sum_by, AllZip}
use Rattle.std.proofs.Math.Path.{fun_ext}
use Rattle.std.proofs.lemmas.List.{append-nil, drop_all}
use Rattle.std.proofs.lemmas.List.Sums.{sum_by-cons}
use Rattle.finite_sums.specs.Members.{Among}
use Rattle.maid_model.specs.declared.limits.TheConstants.{COUNT_END}
use Rattle.maid_model.specs.Graph.{IsGraph}
use Rattle.maid_model.specs.Nodes.{node_at, states_of, is_utility}
use Rattle.maid_model.specs.Profiles.{IsProfile}
use Rattle.maid_model.specs.Tables.{HasChanceTables}
use Rattle.maid_model.specs.Views.{NodeView, RuleView}
use Rattle.cell_rings.specs.Rings.{IsRing, IsSize}
use Rattle.ring_sums.specs.Groups.{ProductsFit}
use Rattle.ring_sums.specs.Tables.{Table, IsSame, joined, product_of, scopes_of}
use Rattle.ring_sums.proofs.Same.{map_append, fits_same, fits_more, same_product}
use Rattle.plan_sums.specs.Plans.{Cells, PlanView, mass_cells, has, node_table, utility_table, first_tables, ruled_nodes}
use Rattle.plan_sums.specs.Sizes.{AreSized, IsPlan}
use Rattle.plan_sums.proofs.Looks.{runs_plans}
use Rattle.plan_sums.proofs.Scopes.{plans_keep}
use Rattle.plan_sums.proofs.Sized.{in_plan_kind, map_same, plans_fit, plans_hold, ruled_in}
use Rattle.factor_core.specs.declared.slots.Slot.{Slot}
use Rattle.factor_core.specs.Operations.{first_table, product_table}
use Rattle.factor_core.specs.Slots.{WorkspaceView, cells_over, tables_of, Appends, AppendsProduct}
use Rattle.size_precheck.specs.Counts.{counted_cells}
use Rattle.size_precheck.specs.Greedy.{first_scopes}
use Rattle.size_precheck.specs.Sizes.{SizedPlan, CanBePlanned, IsMade, made_cells}
use Rattle.eliminate.specs.Results.{plan_total, SumsPlan}
use Rattle.eliminate.specs.Steps.{first_nodes, first_cells, GiveWay, CanJoinOut, Stand, Lists, Between}
use Rattle.eliminate.proofs.Going.{can_join, goes_on, at_place}
use Rattle.eliminate.proofs.Numbers.{bound_fits}
use Rattle.eliminate.proofs.Ruled.{has_contains}
use Rattle.eliminate.proofs.Sizes.{cells_exact, sum_exact, sums_exact}
use Rattle.eliminate.proofs.Standing.{more_stands}

-- ---- lists

map_map : {X Y Z : Type 0} (f : X → Y) (g : Y → Z) (xs : List X) → map g (map f xs) ≡ map (λ x. g (f x)) xs
map_map f g [] = refl
map_map f g (x ∷ xs) = ap (λ ys. g (f x) ∷ ys) (map_map f g xs)

sum_map : {X Y : Type 0} (f : X → Y) (g : Y → ℕ) (xs : List X) → sum_by g (map f xs) ≡ sum_by (λ x. g (f x)) xs
sum_map f g [] = refl
sum_map f g (x ∷ xs) = sum_by-cons g (f x) (map f xs) ∙ ap (λ n. g (f x) + n) (sum_map f g xs) ∙ sym (sum_by-cons (λ y. g (f y)) x xs)

-- tables that are the same have one joined scope
pub same_joined : {C : Type 0} (count : ℕ → ℕ) (ts us : List (Table C)) (v : ℕ) → AllZip (IsSame count) ts us → joined ts v ≡ joined us v
same_joined count [] [] v m = refl
same_joined count [] (u ∷ us) v m = absurd m
same_joined count (t ∷ ts) [] v m = absurd m
same_joined count (t ∷ ts) (u ∷ us) v m = (λ j. m.0.holds v j || same_joined count ts us v m.1 j)

-- ---- the first tables
module _ {C : Type 0} (c : Cells C) (nodes : List NodeView) (p : List RuleView) where
  pub first_node : (v : ℕ) → is_utility (node_at nodes v).kind ≡ false → first_table c nodes p v ≡ node_table c nodes p v
  first_node v e = ap (λ b. cond b (utility_table c nodes v) (node_table c nodes p v)) e

  pub first_value : (u : ℕ) → is_utility (node_at nodes u).kind ≡ true → first_table c nodes p u ≡ utility_table c nodes u
  first_value u e = ap (λ b. cond b (utility_table c nodes u) (node_table c nodes p u)) e

  -- those of nodes that are no utilities, and of utilities
  pub firsts_split : (vs us : List ℕ) → ((v : ℕ) → Among v vs → is_utility (node_at nodes v).kind ≡ false) → ((u : ℕ) → Among u us → is_utility (node_at nodes u).kind ≡ true)
      → map (first_table c nodes p) (vs ++ us) ≡ map (λ v. node_table c nodes p v) vs ++ map (λ u. utility_table c nodes u) us
  firsts_split vs us plain values =
      map_append (first_table c nodes p) vs us
      ∙ (λ i. map_same (first_table c nodes p) (λ v. node_table c nodes p v) vs (λ v m. first_node v (plain v m)) i
      ++ map_same (first_table c nodes p) (λ u. utility_table c nodes u) us (λ u m. first_value u (values u m)) i)

  pub firsts_are : (plan : PlanView) → IsPlan nodes plan → map (first_table c nodes p) (first_nodes nodes plan) ≡ first_tables c nodes p plan
  firsts_are plan is =
      firsts_split (ruled_nodes nodes plan) (option_to_list plan.utility) (λ v m. in_plan_kind nodes plan is v (ruled_in nodes plan is v m)) (λ u m. ap is_utility (is.utility u (listed plan.utility u m)))
    where
      listed : (o : Option ℕ) (u : ℕ) → Among u (option_to_list o) → o ≡ Some u
      listed None u m = absurd m
      listed (Some x) u (inl e) = ap Some (sym e)
      listed (Some x) u (inr m) = absurd m

-- their scopes are the same for all cells and rules
pub one_scope : {C D : Type 0} (c : Cells C) (e : Cells D) (nodes : List NodeView) (p q : List RuleView) (v : ℕ) → (first_table c nodes p v).holds ≡ (first_table e nodes q v).holds
one_scope c e nodes p q v = go (is_utility (node_at nodes v).kind)
  where
    go : (b : Bool) → (cond b (utility_table c nodes v) (node_table c nodes p v)).holds ≡ (cond b (utility_table e nodes v) (node_table e nodes q v)).holds
    go true = refl
    go false = refl

module _ {C : Type 0} (c : Cells C) (nodes : List NodeView) (p : List RuleView) (plan : PlanView) (is : IsPlan nodes plan) where
  scopes_listed : map (λ v. (first_table c nodes p v).holds) (first_nodes nodes plan) ≡ first_scopes nodes plan
  scopes_listed =
      ap (λ (f : ℕ → ℕ → Bool). map f (first_nodes nodes plan)) (fun_ext (λ v. one_scope c mass_cells nodes p [] v))
      ∙ sym (map_map (first_table mass_cells nodes []) (λ t. t.holds) (first_nodes nodes plan))
      ∙ ap scopes_of (firsts_are mass_cells nodes [] plan is)

  scopes_are : scopes_of (first_tables c nodes p plan) ≡ first_scopes nodes plan
  scopes_are = ap scopes_of (sym (firsts_are c nodes p plan is)) ∙ map_map (first_table c nodes p) (λ t. t.holds) (first_nodes nodes plan) ∙ scopes_listed

-- ---- the cells of a plan
module _ (nodes : List NodeView) (made : SizedPlan) where
  -- of its first tables, and of those that its steps make
  abbrev pub firsts : ℕ
  firsts = sum_by (counted_cells nodes) (first_scopes nodes made.plan)

  abbrev pub so_many : ℕ
  so_many = firsts + made_cells nodes made.steps (first_scopes nodes made.plan)

module _ {C : Type 0} (c : Cells C) (nodes : List NodeView) (p : List RuleView) (made : SizedPlan) (asked : CanBePlanned nodes made.plan) (is : IsMade nodes made.plan made) (counted : made.size.cells < COUNT_END) where
  whole : so_many nodes made + counted_cells nodes (has made.plan.keep) ≡ made.size.cells
  whole = sum_exact (so_many nodes made + counted_cells nodes (has made.plan.keep)) (subst (λ n. n < COUNT_END) is.cells counted) ∙ sym is.cells

  firsts_exact : sum_by (first_cells c nodes p) (first_nodes nodes made.plan) ≡ firsts nodes made
  firsts_exact =
      let told = sym (sum_map (λ v. (first_table c nodes p v).holds) (counted_cells nodes) (first_nodes nodes made.plan)) ∙ ap (sum_by (counted_cells nodes)) (scopes_listed c nodes p made.plan asked.is_plan) in
      sym (sums_exact nodes (λ v. (first_table c nodes p v).holds) (first_nodes nodes made.plan) (omega (arith, told, whole, counted))) ∙ told

  pub firsts_room : (spare : ℕ) → made.size.cells ≤ spare → sum_by (first_cells c nodes p) (first_nodes nodes made.plan) ≤ spare
  firsts_room spare l = omega (arith, whole, l, firsts_exact)

-- ---- what a run rests on: a plan that is asked for and counted, and numbers that fit
pub record CanRun {C : Type 0} (c : Cells C) (nodes : List NodeView) (p : List RuleView) (made : SizedPlan) : Type 0 where
  pub ring : IsRing c.ring
  pub size : IsSize c.ring c.ring.size
  pub sized : AreSized c c.ring.size
  pub asked : CanBePlanned nodes made.plan
  pub is : IsMade nodes made.plan made
  pub counted : made.size.cells < COUNT_END
  pub graph : IsGraph nodes
  pub chance : HasChanceTables nodes
  pub profile : IsProfile nodes p
  pub fits : 2 * plan_total nodes p made.plan ≤ c.ring.most

module _ {C : Type 0} {c : Cells C} {nodes : List NodeView} {p : List RuleView} {made : SizedPlan} (run : CanRun c nodes p made) where
  all_cells : so_many nodes made + counted_cells nodes (has made.plan.keep) ≡ made.size.cells
  all_cells = whole c nodes p made run.asked run.is run.counted

  last_exact : counted_cells nodes (has made.plan.keep) ≡ cells_over nodes (has made.plan.keep)
  last_exact = cells_exact nodes (has made.plan.keep) (let counted = run.counted in omega (arith, all_cells, counted))

  abbrev start_tables : List (Table C)
  start_tables = first_tables c nodes p made.plan

  -- ---- the start
  pub started : {before now : WorkspaceView C} {slots : List Slot} → Lists c nodes p before now slots [] (first_nodes nodes made.plan)
      → Between c.ring nodes before now slots made.steps made.steps (first_tables c nodes p made.plan) (so_many nodes made)
  started {before} {now} {slots} l = record {
    tables = start_tables;
    spent = l.spent;
    stand = subst (λ ts. Stand c.ring nodes before now l.spent slots ts) (sym (append-nil l.tables) ∙ l.leads ∙ firsts_are c nodes p made.plan run.asked.is_plan) l.stand;
    leads = refl;
    fits = fits_more c.ring c.ring.size (states_of nodes) _ c.ring.most (bound_fits nodes p made.plan c.ring.most run.graph run.chance run.profile run.fits) made.steps start_tables
        (plans_fit c run.ring c.ring.size run.size run.sized nodes p made.plan made.steps run.graph run.chance run.profile run.asked.is_plan run.is.order);
    holds = plans_hold c run.ring nodes p made.plan made.steps run.asked.is_plan run.is.order;
    room = ap (λ ss. l.spent + made_cells nodes made.steps ss) (scopes_are c nodes p made.plan run.asked.is_plan) ∙ ap (λ n. n + made_cells nodes made.steps (first_scopes nodes made.plan)) spent_is;
  }
    where
      spent_is : l.spent ≡ firsts nodes made
      spent_is = (let none : l.spent ≡ l.spent + 0 = omega arith in none) ∙ l.room ∙ firsts_exact c nodes p made run.asked run.is run.counted

  -- the next step by its place, and none behind the last place
  module _ {before now : WorkspaceView C} {slots : List Slot} (i : ℕ) (b : Between c.ring nodes before now slots (drop i made.steps) made.steps (first_tables c nodes p made.plan) (so_many nodes made)) where
    pub next_step : i < length made.steps → Between c.ring nodes before now slots (slice_index made.steps i ∷ drop (i + 1) made.steps) made.steps (first_tables c nodes p made.plan) (so_many nodes made)
    next_step = at_place c.ring nodes before now slots i made.steps start_tables (so_many nodes made) b

    pub no_step : length made.steps ≤ i → Between c.ring nodes before now slots [] made.steps (first_tables c nodes p made.plan) (so_many nodes made)
    no_step l = subst (λ rest. Between c.ring nodes before now slots rest made.steps start_tables (so_many nodes made)) (drop_all i made.steps l) b

  -- ---- one step
  module _ {before now : WorkspaceView C} {slots : List Slot} {v : ℕ} {rest : List ℕ} (room : made.size.cells ≤ before.spare)
      (b : Between c.ring nodes before now slots (v ∷ rest) made.steps (first_tables c nodes p made.plan) (so_many nodes made)) where
    steps_counted : so_many nodes made < COUNT_END
    steps_counted = (let counted = run.counted in omega (arith, all_cells, counted))

    steps_room : so_many nodes made ≤ before.spare
    steps_room = omega (arith, all_cells, room)

    pub run_joins : CanJoinOut c.ring nodes now slots v
    run_joins = can_join c.ring run.ring nodes before now slots v rest made.steps start_tables (so_many nodes made) b steps_counted steps_room

    pub run_on : {after : WorkspaceView C} {new : List Slot} → GiveWay c.ring nodes now after slots new v → Between c.ring nodes before after new rest made.steps (first_tables c nodes p made.plan) (so_many nodes made)
    run_on {after} {new} = goes_on c.ring run.ring nodes before now slots v rest made.steps start_tables (so_many nodes made) b steps_counted steps_room after new

  -- ---- the end
  module _ {before now : WorkspaceView C} {slots : List Slot} (b : Between c.ring nodes before now slots [] made.steps (first_tables c nodes p made.plan) (so_many nodes made)) where
    pub last_fits : ProductsFit c.ring.size (states_of nodes) c.ring.most (tables_of c.ring nodes now.cells slots)
    last_fits = fits_same c.ring run.ring c.ring.size (states_of nodes) c.ring.most [] (tables_of c.ring nodes now.cells slots) b.tables b.stand.same b.fits

    kept_scope : (v : ℕ) → joined (tables_of c.ring nodes now.cells slots) v ≡ has made.plan.keep v
    kept_scope v =
        same_joined (states_of nodes) (tables_of c.ring nodes now.cells slots) b.tables v b.stand.same
        ∙ ap (λ ts. joined ts v) b.leads
        ∙ plans_keep c run.ring nodes p made.plan made.steps run.graph run.asked.is_plan run.is.order run.asked.leads v

    last_cells : cells_over nodes (joined (tables_of c.ring nodes now.cells slots)) ≡ counted_cells nodes (has made.plan.keep)
    last_cells = ap (cells_over nodes) (fun_ext kept_scope) ∙ sym last_exact

    pub last_room : made.size.cells ≤ before.spare → cells_over nodes (product_table c.ring (tables_of c.ring nodes now.cells slots)).holds ≤ now.spare
    last_room l = omega (arith, last_cells, all_cells, l, b.room, b.stand.appends.less)

    abbrev last : Table C
    last = product_table c.ring (tables_of c.ring nodes now.cells slots)

    pub ended : {after : WorkspaceView C} {slot : Slot} → AppendsProduct c.ring nodes slots now after slot → SumsPlan c nodes p made before after slot
    ended {after} {slot} a = record {
      appends = subst (λ n. Appends before after (length before.cells) n) spent_all stands.appends;
      live = a.live;
      scope = λ v. ((λ m. (has_contains made.plan.keep v).0 (sym (kept_scope v) ∙ sym (a.table.holds v) ∙ m)), (λ m. a.table.holds v ∙ kept_scope v ∙ (has_contains made.plan.keep v).1 m));
      cell = λ w i.
          a.table.cell w i
          ∙ same_product c.ring run.ring (states_of nodes) (tables_of c.ring nodes now.cells slots) b.tables w b.stand.same i
          ∙ ap (λ ts. product_of c.ring ts w) b.leads
          ∙ runs_plans c run.ring nodes p made.plan made.steps w run.is.order i;
      stays = stands.stays;
    }
      where
        stands : Stand c.ring nodes before after (b.spent + cells_over nodes last.holds) (slots ++ slot ∷ []) (b.tables ++ last ∷ [])
        stands = more_stands c.ring nodes before now after b.spent slots slots (slots ++ slot ∷ []) b.tables b.tables last last b.stand b.stand.live b.stand.same (record { slot = slot; appends = a; slots = refl })
            (record { holds = λ v. refl; cell = λ w i. refl })

        spent_all : b.spent + cells_over nodes last.holds ≡ made.size.cells
        spent_all = omega (arith, last_cells, all_cells, b.room)
