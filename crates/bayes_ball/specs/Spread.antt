-- The steps of a search: two marks a node, one for each way of arrival.
use Rattle.std.specs.Prelude.{◌≡◌, ℕ, ◌<◌, ◌⊎◌, ◌↔◌, Bool, true, false, List}
use Rattle.node_sets.specs.declared.sets.NodeSet.{NodeSet}
use Rattle.node_sets.specs.Sets.{IsIn, room}
use Rattle.maid_model.specs.Views.{NodeView}
use Rattle.maid_model.specs.Graph.{Arc}
use Rattle.maid_model.specs.Relevance.{IsLive}
use Rattle.bayes_ball.specs.declared.search.Start.{Start}
use Rattle.bayes_ball.specs.declared.search.Start.TheVariants.{Node, ParentOf}
use Rattle.bayes_ball.specs.Flow.{Way, Up, Down, Flows, IsLiveArc, IsClosed}

-- v has the mark of that way of arrival
abbrev pub IsMarked : NodeSet → NodeSet → Way → ℕ → Type 0
IsMarked down up Up v = IsIn up v
IsMarked down up Down v = IsIn down v

-- the arcs between live nodes of a diagram
abbrev pub LiveArc : List NodeView → ℕ → ℕ → Type 0
LiveArc nodes = IsLiveArc (Arc nodes) (IsLive nodes)

-- walks go on from this node down each of its arcs
abbrev pub LeadsDown : NodeSet → NodeSet → NodeSet → ℕ → Type 0
LeadsDown given down up v = (IsIn given v → ⊥) × (IsIn down v ⊎ IsIn up v)

-- walks go on up each arc into this node: back from one that is given, or on from one that is not
abbrev pub LeadsUp : NodeSet → NodeSet → NodeSet → ℕ → Type 0
LeadsUp given down up v = (IsIn given v × IsIn down v) ⊎ ((IsIn given v → ⊥) × IsIn up v)

-- the nodes at which walks lead on up the arcs into them
abbrev pub AreLeadingUp : NodeSet → NodeSet → NodeSet → NodeSet → Type 0
AreLeadingUp given down up marked = (v : ℕ) → IsIn marked v ↔ LeadsUp given down up v

-- the mark spreads from these marks by the rules
abbrev pub FlowsFrom : List NodeView → NodeSet → NodeSet → NodeSet → Way → ℕ → Type 0
FlowsFrom nodes given down up w v = Flows (LiveArc nodes) (IsIn given) (IsMarked down up) w v

-- the later marks all spread from the earlier ones by the rules
abbrev pub FlowAllFrom : List NodeView → NodeSet → NodeSet → NodeSet → NodeSet → NodeSet → Type 0
FlowAllFrom nodes given down up down' up' =
    (w : Way) (v : ℕ) → IsMarked down' up' w v → FlowsFrom nodes given down up w v

-- no rule adds one to these marks
abbrev pub AreClosed : List NodeView → NodeSet → NodeSet → NodeSet → Type 0
AreClosed nodes given down up = IsClosed (LiveArc nodes) (IsIn given) (IsMarked down up)

-- the live nodes among those that lead on, without those that were followed
abbrev pub AreFresh : List NodeView → NodeSet → NodeSet → NodeSet → Type 0
AreFresh nodes leading followed fresh =
    (v : ℕ) → IsIn fresh v ↔ (IsIn leading v × IsLive nodes v × (IsIn followed v → ⊥))

-- arcs were followed from the followed nodes: all to which they lead are among the marked ones
abbrev pub HandOn : (ℕ → ℕ → Type 0) → NodeSet → NodeSet → Type 0
HandOn Arc followed marked = (p v : ℕ) → IsIn followed p → Arc p v → IsIn marked v

-- arcs were followed down from the followed nodes: each of their live children has the mark
abbrev pub HandDown : List NodeView → NodeSet → NodeSet → Type 0
HandDown nodes followed down = HandOn (LiveArc nodes) followed down

-- arcs were followed up from the followed nodes: each of their live parents has the mark
abbrev pub HandUp : List NodeView → NodeSet → NodeSet → Type 0
HandUp nodes followed up = (p v : ℕ) → IsIn followed v → LiveArc nodes p v → IsIn up p

-- one wave down, from all live nodes that lead down and had not been followed down; `went` tells
-- whether there are any
pub record GoesDown
    (nodes : List NodeView) (given up down followed down' followed' : NodeSet) (went : Bool) :
    Type 0 where
  pub kept : (v : ℕ) → IsIn down v → IsIn down' v
  pub sound : FlowAllFrom nodes given down up down' up
  pub handed : HandDown nodes followed down → HandDown nodes followed' down'
  pub all : (v : ℕ) → IsLive nodes v → LeadsDown given down up v → IsIn followed' v
  pub fewer : went ≡ true → room followed' < room followed
  pub same : went ≡ false → (down' ≡ down) × (followed' ≡ followed)

-- one wave up, from all live nodes that lead up and had not been followed up; `went` tells whether
-- there are any
pub record GoesUp
    (nodes : List NodeView) (given down up followed up' followed' : NodeSet) (went : Bool) :
    Type 0 where
  pub kept : (v : ℕ) → IsIn up v → IsIn up' v
  pub sound : FlowAllFrom nodes given down up down up'
  pub handed : HandUp nodes followed up → HandUp nodes followed' up'
  pub all : (v : ℕ) → IsLive nodes v → LeadsUp given down up v → IsIn followed' v
  pub fewer : went ≡ true → room followed' < room followed
  pub same : went ≡ false → (up' ≡ up) × (followed' ≡ followed)

-- the node that a start names
abbrev pub node_of : Start → ℕ
node_of (Node x) = x
node_of (ParentOf x) = x

-- the mark with which a search begins
abbrev pub StartsAt : Start → Way → ℕ → Type 0
StartsAt (Node x) w v = (w ≡ Up) × (v ≡ x)
StartsAt (ParentOf x) w v = (w ≡ Down) × (v ≡ x)
