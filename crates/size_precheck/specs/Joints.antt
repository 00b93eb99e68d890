-- What the steps of simulating a plan promise one another. Only private functions cite this file.
use Rattle.std.specs.Prelude.{Contains, ◌==◌, ◌||◌, ◌≤◌, slice_index, sum_by, ◌≡◌, ◌⊎◌, ◌↔◌, ℕ, zero, suc, ◌+◌, ◌*◌, ◌<◌, Bool, List, [], ◌∷◌, ◌++◌, map, length, slice_index_or, if◌then◌else◌}
use Rattle.maid_model.specs.declared.limits.TheConstants.{COUNT_END}
use Rattle.maid_model.specs.Nodes.{states_of, parents_of}
use Rattle.plan_sums.specs.Plans.{PlanView, eliminated_nodes, has}
use Rattle.maid_model.specs.Views.{NodeView}
use Rattle.node_sets.specs.declared.sets.NodeSet.{NodeSet}
use Rattle.node_sets.specs.declared.sets.TheConstants.{MOST_NODES}
use Rattle.node_sets.specs.Sets.{holds, IsIn}
use Rattle.size_precheck.specs.declared.joints.Counted.{Counted}
use Rattle.size_precheck.specs.declared.joints.Joint.{Joint}
use Rattle.size_precheck.specs.declared.joints.Known.{Known}
use Rattle.size_precheck.specs.declared.joints.Table.{Table}
use Rattle.ring_sums.specs.Tables.{joined_without, scopes_one, scopes_after}
use Rattle.size_precheck.specs.declared.simulation.Start.{Start}
use Rattle.size_precheck.specs.declared.simulation.Made.{Made}
use Rattle.size_precheck.specs.declared.simulation.Run.{Run}
use Rattle.maid_model.specs.Bounds.{stopped}
use Rattle.size_precheck.specs.Counts.{counted_cells}
use Rattle.size_precheck.specs.Greedy.{first_scopes, holding, joined_set, IsGreedy}
use Rattle.size_precheck.specs.Sizes.{made_cells, steps_work}

-- how many of the first n numbers pass the test
abbrev pub members_below : (ℕ → Bool) → ℕ → ℕ
members_below test zero = 0
members_below test (suc n) = members_below test n + (if test n then 1 else 0)

-- f 0 * f 1 * .. * f (n - 1)
abbrev pub product_below : (ℕ → ℕ) → ℕ → ℕ
product_below f zero = 1
product_below f (suc n) = product_below f n * f n

-- a number's factor in the cells of a set: its count of states, or 1 outside
abbrev pub factor : List ℕ → (ℕ → Bool) → ℕ → ℕ
factor states scope u = if scope u then slice_index_or states u 1 else 1

-- how many nodes the set has
unfoldable pub member_count : NodeSet → ℕ
member_count set = members_below (holds set) MOST_NODES

-- the cells of a set by the counts of all numbers, which stop at 10^18
unfoldable pub counted_over : List ℕ → (ℕ → Bool) → ℕ
counted_over states scope = stopped (product_below (factor states scope) MOST_NODES)

-- the set without v
abbrev pub IsWithout : NodeSet → NodeSet → ℕ → Type 0
IsWithout before after v = (x : ℕ) → IsIn after x ↔ (IsIn before x × (x ≡ v → ⊥))

-- the set with v
abbrev pub IsWith : NodeSet → NodeSet → ℕ → Type 0
IsWith before after v = (x : ℕ) → IsIn after x ↔ (IsIn before x ⊎ (x ≡ v))

-- the states of v can be divided out of the cells of the set: v is in it, and the count of the
-- cells has not stopped
abbrev pub CanBeDivided : List ℕ → NodeSet → ℕ → ℕ → Type 0
CanBeDivided states set v cells =
    IsIn set v × (0 < slice_index states v) × (cells < COUNT_END)

-- where `cells` are those of a set, `less` are those of the set without v
abbrev pub CountsWithout : List ℕ → NodeSet → NodeSet → ℕ → ℕ → ℕ → Type 0
CountsWithout states before after v cells less =
    IsWithout before after v → cells ≡ counted_over states (holds before)
    → less ≡ counted_over states (holds after)

-- where `cells` are those of a set, `result` are those of the set after the scope has come and the
-- nodes `out` have left
abbrev pub CountsPut : List ℕ → NodeSet → NodeSet → NodeSet → ℕ → ℕ → Type 0
CountsPut states before scope out cells result =
    (after : NodeSet)
    → ((u : ℕ) → IsIn after u ↔ ((IsIn before u ⊎ IsIn scope u) × (IsIn out u → ⊥)))
    → cells ≡ counted_over states (holds before) → result ≡ counted_over states (holds after)

-- the counts are those of the nodes, and 1 past them
pub record AreStateCounts (nodes : List NodeView) (states : List ℕ) : Type 0 where
  pub few : length nodes ≤ MOST_NODES
  pub each : (u : ℕ) → slice_index_or states u 1 ≡ states_of nodes u

-- ---- tables by their scopes
-- what is known of a number that no node has
abbrev pub no_joint : Joint
no_joint = record { set = record { words = [] }; tables = record { words = [] } }

-- y's joint
abbrev pub joint_at : List Joint → ℕ → Joint
joint_at joints y = slice_index_or joints y no_joint

-- a table more, after some tables and some nodes have left
pub record IsPut (table : Table) (Gone Out : ℕ → Type 0) (before after : Joint) : Type 0 where
  pub set : (u : ℕ) → IsIn after.set u ↔ ((IsIn before.set u ⊎ IsIn table.scope u) × (Out u → ⊥))
  pub tables :
      (x : ℕ) → IsIn after.tables x ↔ ((IsIn before.tables x × (Gone x → ⊥)) ⊎ (x ≡ table.tag))

-- the table is put to y, after the tables `gone` and the nodes `out` have left
abbrev pub IsPutAt : Table → NodeSet → NodeSet → List Joint → List Joint → ℕ → Type 0
IsPutAt table gone out before after y =
    IsPut table (IsIn gone) (IsIn out) (joint_at before y) (joint_at after y)

-- and to each of these nodes
abbrev pub IsPutToAll : NodeSet → Table → NodeSet → NodeSet → List Joint → List Joint → Type 0
IsPutToAll set table gone out before after =
    (y : ℕ) → IsIn set y → IsPutAt table gone out before after y

-- ---- what is known of the nodes that wait
-- what is known at no place
abbrev pub no_counted : Counted
no_counted = record { joint = no_joint; cells = 0 }

-- the place of what is known of y
abbrev pub place_of : Known → ℕ → ℕ
place_of known y = slice_index known.places.items y

-- what is known of y
abbrev pub counted_in : Known → ℕ → Counted
counted_in known y = slice_index_or known.held.items (place_of known y) no_counted

-- y's joint
abbrev pub joint_in : Known → ℕ → Joint
joint_in known y = (counted_in known y).joint

-- the cells of y's joined set
abbrev pub cells_in : Known → ℕ → ℕ
cells_in known y = (counted_in known y).cells

-- y has a place
abbrev pub HasPlace : Known → ℕ → Type 0
HasPlace known y =
    (y < length known.places.items) × (place_of known y < length known.held.items)

-- each node that waits has a place of its own
pub record HasPlaces (Waits : ℕ → Type 0) (known : Known) : Type 0 where
  pub each : (y : ℕ) → Waits y → HasPlace known y
  pub own : (x y : ℕ) → Waits x → Waits y → place_of known x ≡ place_of known y → x ≡ y

-- y has the next place, with this in it, and all others have the places that they had
pub record TakesPlace (y : ℕ) (counted : Counted) (before after : Known) : Type 0 where
  pub len : length after.places.items ≡ length before.places.items
  pub place : place_of after y ≡ length before.held.items
  pub others : (x : ℕ) → (x ≡ y → ⊥) → place_of after x ≡ place_of before x
  pub held : after.held.items ≡ before.held.items ++ counted ∷ []

-- the places are as they were
pub record KeepsPlaces (before after : Known) : Type 0 where
  pub places : after.places.items ≡ before.places.items
  pub len : length after.held.items ≡ length before.held.items

-- what is known of a node is as it was, unless one that changes has its place
abbrev pub KeepsOthers : (ℕ → Type 0) → Known → Known → Type 0
KeepsOthers Changes before after =
    (x : ℕ) → ((y : ℕ) → Changes y → place_of before x ≡ place_of before y → ⊥)
    → counted_in after x ≡ counted_in before x

-- the table is put to each of these nodes, after the tables `gone` and the nodes `out` have left
abbrev pub ArePutIn : NodeSet → Table → NodeSet → NodeSet → Known → Known → Type 0
ArePutIn set table gone out before after = (y : ℕ) → IsIn set y
    → IsPut table (IsIn gone) (IsIn out) (joint_in before y) (joint_in after y)

-- P holds of each element
abbrev pub HoldsOfEach : {X : Type 0} → (X → Type 0) → List X → Type 0
HoldsOfEach P [] = Unit {0}
HoldsOfEach P (x ∷ xs) = P x × HoldsOfEach P xs

-- P holds of some element
abbrev pub SomeOf : {X : Type 0} → (X → Type 0) → List X → Type 0
SomeOf P [] = ⊥
SomeOf P (x ∷ xs) = P x ⊎ SomeOf P xs

-- no two tables have one tag
abbrev pub TagsDiffer : List Table → Type 0
TagsDiffer [] = Unit {0}
TagsDiffer (t ∷ ts) = (SomeOf (λ s. s.tag ≡ t.tag) ts → ⊥) × TagsDiffer ts

-- the joint has the live tables that hold y
pub record Tells (live : List Table) (y : ℕ) (joint : Joint) : Type 0 where
  pub set : (u : ℕ) → IsIn joint.set u ↔ SomeOf (λ t. IsIn t.scope y × IsIn t.scope u) live
  pub tables : (x : ℕ) → IsIn joint.tables x ↔ SomeOf (λ t. (t.tag ≡ x) × IsIn t.scope y) live

-- the live tables have different tags below MOST_NODES; where a tag's node waits, it is in the
-- table's scope
pub record AreLive (Waiting : ℕ → Type 0) (live : List Table) : Type 0 where
  pub small : HoldsOfEach (λ t. t.tag < MOST_NODES) live
  pub differ : TagsDiffer live
  pub own : HoldsOfEach (λ t. Waiting t.tag → IsIn t.scope t.tag) live

-- the cells are those of the joined set
abbrev pub IsCounted : List ℕ → Joint → ℕ → Type 0
IsCounted states joint cells = cells ≡ counted_over states (holds joint.set)

-- so they are at y
abbrev pub IsCountedAt : List ℕ → List Joint → List ℕ → ℕ → Type 0
IsCountedAt states joints cells y =
    IsCounted states (joint_at joints y) (slice_index cells y)

-- so they are in what is known of y
abbrev pub IsCountedIn : List ℕ → Known → ℕ → Type 0
IsCountedIn states known y = IsCounted states (joint_in known y) (cells_in known y)

-- where the cells were counted at one of these nodes, they are counted after
abbrev pub AllStayCounted : List ℕ → NodeSet → Known → Known → Type 0
AllStayCounted states set before after =
    (y : ℕ) → IsIn set y → IsCountedIn states before y → IsCountedIn states after y

-- the cells of all joined sets are counted
abbrev pub AreCounted : List ℕ → List Joint → List ℕ → Type 0
AreCounted states joints cells = (y : ℕ) → y < length joints → IsCountedAt states joints cells y

-- where the joints have the live tables, they have this one more
abbrev pub TellsOneMore : NodeSet → Table → Known → Known → Type 0
TellsOneMore waiting table before after =
    (live : List Table) (y : ℕ) → IsIn waiting y → Tells live y (joint_in before y)
    → Tells (live ++ table ∷ []) y (joint_in after y)

-- the scopes of these tables
abbrev pub tests_of : List Table → List (ℕ → Bool)
tests_of live = map (λ t. holds t.scope) live

-- what is known of the nodes that wait is right for these live tables
pub record Stands
    (states : List ℕ) (Waiting : ℕ → Type 0) (tables : List Table) (known : Known) : Type 0 where
  pub live : AreLive Waiting tables
  pub tells : (y : ℕ) → Waiting y → Tells tables y (joint_in known y)
  pub counted : (y : ℕ) → Waiting y → IsCountedIn states known y

-- what a step at v makes of these live tables, after which v waits no more
pub record IsGreedyStep
    (nodes : List NodeView) (states : List ℕ) (Waiting : ℕ → Type 0) (v : ℕ) (before : List Table)
    (known : Known) (made : Made) : Type 0 where
  pub after : List Table
  pub stands : Stands states Waiting after known
  pub scopes : tests_of after ≡ scopes_one v (tests_of before)
  pub cells : made.cells ≡ counted_cells nodes (joined_without v (holding v (tests_of before)))
  pub work : made.work ≡ stopped (counted_cells nodes (joined_set v (tests_of before))
      * length (holding v (tests_of before)))
  pub joined : made.tables ≡ length (holding v (tests_of before))

-- what is known of the nodes that wait and of v becomes what a step at v makes of it, whichever
-- tables are live
abbrev pub MakesStep : List ℕ → NodeSet → ℕ → Known → Known → Made → Type 0
MakesStep states waiting v before after made =
    (nodes : List NodeView) (live : List Table) → AreStateCounts nodes states
    → Stands states (λ y. IsIn waiting y ⊎ (y ≡ v)) live before
    → IsGreedyStep nodes states (IsIn waiting) v live after made

-- before the first step: what is known of the nodes that wait is right for tables of these scopes,
-- which are counted
pub record IsGreedyStart
    (nodes : List NodeView) (states : List ℕ) (Waiting : ℕ → Type 0) (scopes : List (ℕ → Bool))
    (start : Start) : Type 0 where
  pub are_states : AreStateCounts nodes states
  pub tables : List Table
  pub are_live : AreLive Waiting tables
  pub tells : (y : ℕ) → Waiting y → Tells tables y (joint_in start.known y)
  pub counted : (y : ℕ) → Waiting y → IsCountedIn states start.known y
  pub scopes_are : tests_of tables ≡ scopes
  pub live : start.live ≡ length scopes
  pub cells : start.cells ≡ stopped (sum_by (λ s. counted_cells nodes s) scopes)

-- after the last step: the steps are greedy, and what they made is counted
pub record IsGreedyRun
    (nodes : List NodeView) (Item : ℕ → Type 0) (scopes : List (ℕ → Bool)) (run : Run) : Type 0
  where
    pub greedy : IsGreedy nodes Item scopes run.steps.items
    pub live : run.live ≡ length (scopes_after run.steps.items scopes)
    pub cells : run.cells ≡ stopped (sum_by (λ s. counted_cells nodes s) scopes
        + made_cells nodes run.steps.items scopes)
    pub work : run.work ≡ stopped (steps_work nodes run.steps.items scopes)

-- after the last step of a plan, which eliminates the nodes that it does not keep
abbrev pub IsRunOfPlan : List NodeView → PlanView → Run → Type 0
IsRunOfPlan nodes plan run =
    IsGreedyRun nodes (Contains (eliminated_nodes nodes plan)) (first_scopes nodes plan) run

-- some tables of some nodes start so
abbrev pub IsStartOfSome : List ℕ → NodeSet → Start → Type 0
IsStartOfSome states waiting start =
    (nodes : List NodeView) × (scopes : List (ℕ → Bool))
    × IsGreedyStart nodes states (IsIn waiting) scopes start

-- the run is that of all tables, of all nodes, that start so
abbrev pub IsRunFrom : List ℕ → NodeSet → Start → Run → Type 0
IsRunFrom states waiting start run =
    (nodes : List NodeView) (scopes : List (ℕ → Bool))
    → IsGreedyStart nodes states (IsIn waiting) scopes start → IsGreedyRun nodes (IsIn waiting) scopes run

-- ---- lists of what waits
-- each number is less than those after it
abbrev pub Rising : List ℕ → Type 0
Rising [] = Unit {0}
Rising (x ∷ xs) = HoldsOfEach (λ y. x < y) xs × Rising xs

-- the members of the set, in text order
pub record IsListOf (set : NodeSet) (list : List ℕ) : Type 0 where
  pub inside : HoldsOfEach (λ v. IsIn set v) list
  pub all : (v : ℕ) → IsIn set v → SomeOf (λ x. x ≡ v) list
  pub rising : Rising list

-- ---- first tables
-- the scope of a chance or decision node's table, as `plan_sums` has it: the node and its parents
abbrev pub family_test : List NodeView → ℕ → ℕ → Bool
family_test nodes v u = (v == u) || has (parents_of nodes v) u

-- that of a utility's: its parents
abbrev pub parents_test : List NodeView → ℕ → ℕ → Bool
parents_test nodes u x = has (parents_of nodes u) x
