-- The nodes that wait, in classes of equal cells. Only private functions cite this file.
use Rattle.std.specs.Global.{Vec}
use Rattle.std.specs.Prelude.{◌≡◌, ◌↔◌, ◌<◌, ◌≤◌, ℕ, Bool, true, List, [], length, slice_index_or, Option, MatchOption}
use Rattle.node_sets.specs.declared.sets.NodeSet.{NodeSet}
use Rattle.node_sets.specs.Sets.{holds, IsIn}
use Rattle.size_precheck.specs.declared.classes.Class.{Class}
use Rattle.size_precheck.specs.declared.joints.Known.{Known}
use Rattle.size_precheck.specs.Joints.{cells_in, HasPlaces}

-- what is known of a place past the classes
abbrev pub no_class : Class
no_class = record { cells = 0; nodes = record { words = [] } }

-- the class at a place
abbrev pub class_at : List Class → ℕ → Class
class_at classes i = slice_index_or classes i no_class

-- the nodes of the class of a place
abbrev pub nodes_at : List Class → ℕ → NodeSet
nodes_at classes i = (class_at classes i).nodes

-- the cells of the classes rise, and each node that waits is in the class of its cells and in no
-- other
pub record AreClasses (counts : ℕ → ℕ) (waits : ℕ → Bool) (classes : List Class) : Type 0 where
  pub rising : (i j : ℕ) → i < j → j < length classes
      → (class_at classes i).cells < (class_at classes j).cells
  pub nodes : (i : ℕ) → i < length classes → (v : ℕ) → IsIn (nodes_at classes i) v
      ↔ ((waits v ≡ true) × (counts v ≡ (class_at classes i).cells))
  pub all : (v : ℕ) → waits v ≡ true
      → (i : ℕ) × (i < length classes) × ((class_at classes i).cells ≡ counts v)

-- of the nodes that wait the first in text of those with fewest cells
pub record IsFewest (counts : ℕ → ℕ) (waits : ℕ → Bool) (v : ℕ) : Type 0 where
  pub waiting : waits v ≡ true
  pub fewest : (w : ℕ) → waits w ≡ true → counts v ≤ counts w
  pub first : (w : ℕ) → waits w ≡ true → w < v → counts v < counts w

-- fewer wait: all but v
pub record IsLess (waits fewer : ℕ → Bool) (v : ℕ) : Type 0 where
  pub own : fewer v ≡ true → ⊥
  pub others : (x : ℕ) → (x ≡ v → ⊥) → fewer x ≡ waits x

-- of the nodes that wait the cells of v alone are counted anew
pub record IsRecounted
    (counts recounted : ℕ → ℕ) (waits : ℕ → Bool) (v before after : ℕ) : Type 0 where
  pub was : counts v ≡ before
  pub is : recounted v ≡ after
  pub others : (x : ℕ) → waits x ≡ true → (x ≡ v → ⊥) → recounted x ≡ counts x

-- the place is that of a class of this many cells
abbrev pub IsOfCells : List Class → ℕ → ℕ → Type 0
IsOfCells classes place cells =
    (place < length classes) × ((class_at classes place).cells ≡ cells)

-- what is found: of the nodes that wait the first in text of those with fewest cells, where any
-- waits
abbrev pub FindsFewest : List Class → Option ℕ → Type 0
FindsFewest classes found =
    (counts : ℕ → ℕ) (waits : ℕ → Bool) → AreClasses counts waits classes
    → MatchOption found ((v : ℕ) → waits v ≡ true → ⊥) (IsFewest counts waits)

-- v, of this many cells, has left: classes of some nodes have become those of the same nodes but v
abbrev pub HasLeft : List Class → List Class → ℕ → ℕ → Type 0
HasLeft before after v cells =
    (counts : ℕ → ℕ) (waits fewer : ℕ → Bool) → IsLess waits fewer v → counts v ≡ cells
    → AreClasses counts waits before → AreClasses counts fewer after

-- v, of this many cells, has come: classes of some nodes but v have become those of the same nodes
-- with v
abbrev pub HasCome : List Class → List Class → ℕ → ℕ → Type 0
HasCome before after v cells =
    (counts : ℕ → ℕ) (waits fewer : ℕ → Bool) → IsLess waits fewer v → waits v ≡ true
    → counts v ≡ cells → AreClasses counts fewer before → AreClasses counts waits after

-- v, one of the nodes, has the cells `is` in place of `was`: the classes have become those by the
-- new count
abbrev pub HasChanged : List Class → List Class → ℕ → ℕ → ℕ → Type 0
HasChanged before after v was is =
    (counts recounted : ℕ → ℕ) (waits : ℕ → Bool) → waits v ≡ true
    → IsRecounted counts recounted waits v was is → AreClasses counts waits before
    → AreClasses recounted waits after

-- classes of the nodes that wait are still so by other counts
abbrev pub StayClasses : (ℕ → Bool) → Known → Vec Class → Known → Vec Class → Type 0
StayClasses waits known before recounted after =
    AreClasses (cells_in known) waits before.items
    → AreClasses (cells_in recounted) waits after.items

-- so they are where the nodes of the set wait
abbrev pub StayIn : NodeSet → Known → Vec Class → Known → Vec Class → Type 0
StayIn set known before recounted after =
    StayClasses (holds set) known before recounted after

-- so they are whichever nodes wait, these among them, each at a place of its own
abbrev pub StayWithAll : NodeSet → Known → Vec Class → Known → Vec Class → Type 0
StayWithAll set known before recounted after =
    (waits : ℕ → Bool) → ((y : ℕ) → IsIn set y → waits y ≡ true)
    → HasPlaces (λ y. waits y ≡ true) known → StayClasses waits known before recounted after
