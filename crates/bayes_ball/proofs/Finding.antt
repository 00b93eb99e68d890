-- A search whose goals are found on the way: each mark tells of a walk to a goal, and at the end
-- none is missing.
use Rattle.std.proofs.Common.{◌≡◌, ◌≢◌, ℕ, ◌+◌, ◌<◌, ◌||◌, Bool, true, false, List, length, ◌⊎◌, ◌↔◌, inl, inr, refl, subst, sym, ap, ◌∙◌, arith}
use Rattle.std.specs.Prelude.{MatchBool}
use Rattle.std.proofs.lemmas.Bool.{false≢true, or_parts}
use Rattle.maid_model.specs.declared.diagrams.Kind.TheVariants.{Utility}
use Rattle.maid_model.specs.Views.{NodeView}
use Rattle.maid_model.specs.Nodes.{IsDecision, IsUtilityOf, agent_of, node_at}
use Rattle.maid_model.specs.Graph.{Arc, IsGraph, IsPath, Here, Along, Descends}
use Rattle.maid_model.specs.Relevance.{IsGoal, IsInFamily, IsLive}
use Rattle.maid_model.specs.Walks.{IsReached}
use Rattle.node_sets.specs.declared.sets.NodeSet.{NodeSet}
use Rattle.node_sets.specs.Sets.{HasNoneFrom, IsFirstFrom, IsIn, room}
use Rattle.node_sets.proofs.Following.{path_marked}
use Rattle.node_sets.proofs.Turning.{path_then}
use Rattle.bayes_ball.specs.Flow.{Way, Up, Down, Flows, Begin}
use Rattle.bayes_ball.specs.Finding.{AreAllMarked, FindsGoals}
use Rattle.bayes_ball.specs.Search.{ReachesGoal}
use Rattle.bayes_ball.specs.Spread.{GoesDown, GoesUp, HandOn, IsMarked, LiveArc}
use Rattle.bayes_ball.proofs.FromGoals.{goal_free, goal_live, walks_to_goals}
use Rattle.bayes_ball.proofs.Searching.{IsSearched, flows_reached, reached_from_any}
use Rattle.bayes_ball.proofs.Spreading.{Falls, IsSpreading, all_followed, closed_at_end, down_falls, falls_or, in_or_out, more_followed, none_fresh, up_falls, waves_then}
use Rattle.bayes_ball.proofs.Walking.{FromNodes}

-- ---- a wave of descendants
module _ (nodes : List NodeView) (agent : ℕ) (below followed up fresh : NodeSet) (are : (v : ℕ) → IsIn fresh v ↔ (IsIn below v × (IsIn followed v → ⊥))) where
  pub no_goals : ((v : ℕ) → IsIn fresh v → ⊥) → FindsGoals nodes agent below followed up below followed up false
  no_goals none = record {
    kept = λ v m. m;
    led = λ v m. (v, m, Here);
    handed = λ h. h;
    all = λ v m. none_fresh followed fresh none v (λ n. (are v).1 (m, n));
    marked = λ v. ((λ m. inl m), elim [ inl m ↦ m | inr n ↦ absurd (n.1 n.0) ]);
    fewer = λ e. absurd (false≢true e);
    same = λ _. (refl, refl, refl);
  }

  pub more_goals : (children found goals below' followed' up' : NodeSet) (x : ℕ) → IsFirstFrom fresh 0 x → ((v : ℕ) → IsIn children v ↔ ((u : ℕ) × IsIn fresh u × Arc nodes u v)) →
      ((v : ℕ) → IsIn found v ↔ (IsIn children v × (IsIn below v → ⊥))) → ((v : ℕ) → IsIn goals v ↔ (IsIn found v × IsUtilityOf nodes agent v)) →
      ((v : ℕ) → IsIn below' v ↔ (IsIn below v ⊎ IsIn found v)) → ((v : ℕ) → IsIn followed' v ↔ (IsIn followed v ⊎ IsIn fresh v)) → ((v : ℕ) → IsIn up' v ↔ (IsIn up v ⊎ IsIn goals v)) →
      FindsGoals nodes agent below followed up below' followed' up' true
  more_goals children found goals below' followed' up' x first stepped new owned grown both marked = record {
    kept = λ v m. (grown v).1 (inl m);
    led = λ v m. elim ((grown v).0 m) as (λ _. (u : ℕ) × IsIn below u × IsPath (Arc nodes) u v) [
      | inl o ↦ (v, o, Here)
      | inr f ↦ let s = (stepped v).0 ((new v).0 f).0 in (s.0, ((are s.0).0 s.1).0, Along s.2 Here)
    ];
    handed = λ h u v m arc. elim ((both u).0 m) as (λ _. IsIn below' v) [
      | inl o ↦ (grown v).1 (inl (h u v o arc))
      | inr f ↦ child v ((stepped v).1 (u, f, arc))
    ];
    all = λ v m. all_followed followed fresh followed' both v (λ n. (are v).1 (m, n));
    marked = λ v. (
      (λ m. elim ((marked v).0 m) as (λ _. IsIn up v ⊎ (IsIn below' v × (IsIn below v → ⊥) × IsUtilityOf nodes agent v)) [
        | inl o ↦ inl o
        | inr g ↦ let k = (owned v).0 g in inr ((grown v).1 (inr k.0), ((new v).0 k.0).1, k.1)
      ]),
      elim [
        | inl o ↦ (marked v).1 (inl o)
        | inr n ↦ elim ((grown v).0 n.0) as (λ _. IsIn up' v) [
          | inl o ↦ absurd (n.1 o)
          | inr f ↦ (marked v).1 (inr ((owned v).1 (f, n.2)))
        ]
      ],
    );
    fewer = λ _. more_followed followed fresh followed' both x first ((are x).0 first.inside).1;
    same = λ e. absurd (false≢true (sym e));
  }
    where
      child : (v : ℕ) → IsIn children v → IsIn below' v
      child v m = elim (in_or_out below v) as (λ _. IsIn below' v) [ inl o ↦ (grown v).1 (inl o) | inr n ↦ (grown v).1 (inr ((new v).1 (m, n))) ]

-- ---- the test
-- no node of the set is left without a mark
pub none_unmarked : (set down up marked left : NodeSet) (empty : Bool) → ((v : ℕ) → IsIn marked v ↔ (IsIn down v ⊎ IsIn up v)) → ((v : ℕ) → IsIn left v ↔ (IsIn set v × (IsIn marked v → ⊥))) →
    MatchBool empty (HasNoneFrom left 0) ((v : ℕ) × IsFirstFrom left 0 v) → (empty ≡ true) ↔ AreAllMarked set down up
none_unmarked set down up marked left true either rest none = (
  (λ _ v m. elim (in_or_out marked v) as (λ _. IsIn down v ⊎ IsIn up v) [ inl k ↦ (either v).0 k | inr n ↦ absurd (none v (omega arith) ((rest v).1 (m, n))) ]),
  (λ _. refl),
)
none_unmarked set down up marked left false either rest first = (
  (λ e. absurd (false≢true e)),
  (λ all. let l = (rest first.0).0 first.1.inside in absurd (l.1 ((either first.0).1 (all first.0 l.0)))),
)

-- ---- the search
-- the descendants of d that were found, d among them, and of these the followed ones; the marks
-- that spread from the goals among them
pub record IsFinding (nodes : List NodeView) (d : ℕ) (given below down up followed gone_down gone_up : NodeSet) : Type 0 where
  pub decision : IsIn below d
  pub descend : (v : ℕ) → IsIn below v → IsPath (Arc nodes) d v
  pub handed : HandOn (Arc nodes) followed below
  pub goals : (v : ℕ) → IsIn below v → IsUtilityOf nodes (agent_of nodes d) v → IsIn up v
  pub spreads : IsSpreading nodes given (FromNodes (IsGoal nodes d)) down up gone_down gone_up

-- a utility of d's agent to which a path leads from d
found_goal : (nodes : List NodeView) (d v : ℕ) → IsDecision nodes d → IsUtilityOf nodes (agent_of nodes d) v → IsPath (Arc nodes) d v → IsGoal nodes d v
found_goal nodes d v decision utility path = record {
  within = utility.within;
  kind = utility.kind;
  owner = utility.owner;
  below = below d path (λ e. let k : (node_at nodes d).kind ≡ Utility = subst (λ x. (node_at nodes x).kind ≡ Utility) e utility.kind in let m = decision.kind in cc);
}
  where
    below : (u : ℕ) → IsPath (Arc nodes) u v → v ≢ u → Descends (Arc nodes) u v
    below u Here apart = absurd (apart refl)
    below u (Along {v = next} arc rest) apart = (next, arc, rest)

module _ (nodes : List NodeView) (d : ℕ) (given : NodeSet) (decision : IsDecision nodes d) where
  -- the mark spreads from the goals of d
  abbrev FromGoals : Way → ℕ → Type 0
  FromGoals w v = Flows (LiveArc nodes) (IsIn given) (FromNodes (IsGoal nodes d)) w v

  -- nothing is marked, and d alone is found
  pub finding_begins : (below down up followed gone_down gone_up : NodeSet) → ((v : ℕ) → IsIn below v ↔ (v ≡ d)) → ((v : ℕ) → IsIn down v → ⊥) → ((v : ℕ) → IsIn up v → ⊥) →
      ((v : ℕ) → IsIn followed v → ⊥) → ((v : ℕ) → IsIn gone_down v → ⊥) → ((v : ℕ) → IsIn gone_up v → ⊥) → IsFinding nodes d given below down up followed gone_down gone_up
  finding_begins below down up followed gone_down gone_up alone no_down no_up no_followed no_gone_down no_gone_up = record {
    decision = (alone d).1 refl;
    descend = λ v m. subst (λ x. IsPath (Arc nodes) d x) (sym ((alone v).0 m)) Here;
    handed = λ u v m. absurd (no_followed u m);
    goals = λ v m utility. let k : (node_at nodes d).kind ≡ Utility = subst (λ x. (node_at nodes x).kind ≡ Utility) ((alone v).0 m) utility.kind in let l = decision.kind in cc;
    spreads = record {
      sound = none_marked;
      handed_down = λ u v m. absurd (no_gone_down u m);
      handed_up = λ u v m. absurd (no_gone_up v m);
    };
  }
    where
      none_marked : (w : Way) (v : ℕ) → IsMarked down up w v → FromGoals w v
      none_marked Up v m = absurd (no_up v m)
      none_marked Down v m = absurd (no_down v m)

  -- each mark tells of a walk to a goal
  pub marks_reach : (below down up followed gone_down gone_up : NodeSet) → IsGraph nodes → ((v : ℕ) → IsIn given v ↔ IsInFamily (Arc nodes) d v) →
      IsFinding nodes d given below down up followed gone_down gone_up → (v : ℕ) → IsIn down v ⊎ IsIn up v → ReachesGoal nodes d v
  marks_reach below down up followed gone_down gone_up graph fixed h v m =
      (walks_to_goals nodes d given (IsGoal nodes d) (λ u. ((λ g. g), (λ g. g))) fixed v).0 (elim m [ inl k ↦ walk Down (h.spreads.sound Down v k) | inr k ↦ walk Up (h.spreads.sound Up v k) ])
    where
      walk : (w : Way) → FromGoals w v → (u : ℕ) × IsGoal nodes d u × IsReached (Arc nodes) (IsLive nodes) (IsIn given) u v
      walk w flows = flows_reached nodes given (IsGoal nodes d) graph (goal_live nodes d) w v flows

  -- a wave of descendants, then one down, and then one up
  module _ (agent : ℕ) (below down up followed gone_down gone_up below' down' up₁ up' followed' gone_down' gone_up' : NodeSet) (a b c : Bool) (owner : agent ≡ agent_of nodes d)
      (finds : FindsGoals nodes agent below followed up below' followed' up₁ a) (goes_down : GoesDown nodes given up₁ down gone_down down' gone_down' b)
      (goes_up : GoesUp nodes given down' up₁ gone_up up' gone_up' c) (h : IsFinding nodes d given below down up followed gone_down gone_up) where
    descend : (v : ℕ) → IsIn below' v → IsPath (Arc nodes) d v
    descend v m = let l = finds.led v m in path_then v l.0 l.2 d (h.descend l.0 l.1)

    -- the goals that the wave found are marked
    goals : (v : ℕ) → IsIn below' v → IsUtilityOf nodes (agent_of nodes d) v → IsIn up₁ v
    goals v m utility = elim (in_or_out below v) as (λ _. IsIn up₁ v) [
      | inl o ↦ (finds.marked v).1 (inl (h.goals v o utility))
      | inr n ↦ (finds.marked v).1 (inr (m, n, subst (λ x. IsUtilityOf nodes x v) (sym owner) utility))
    ]

    spreads : IsSpreading nodes given (FromNodes (IsGoal nodes d)) down up₁ gone_down gone_up
    spreads = record {
      sound = sound;
      handed_down = h.spreads.handed_down;
      handed_up = λ u v m arc. (finds.marked u).1 (inl (h.spreads.handed_up u v m arc));
    }
      where
        sound : (w : Way) (v : ℕ) → IsMarked down up₁ w v → FromGoals w v
        sound Down v m = h.spreads.sound Down v m
        sound Up v m = elim ((finds.marked v).0 m) [
          | inl o ↦ h.spreads.sound Up v o
          | inr g ↦ Begin (refl, found_goal nodes d v decision (subst (λ x. IsUtilityOf nodes x v) owner g.2) (descend v g.0))
        ]

    pub finding_then : IsFinding nodes d given below' down' up' followed' gone_down' gone_up'
    finding_then = record {
      decision = finds.kept d h.decision;
      descend = descend;
      handed = finds.handed h.handed;
      goals = λ v m utility. goes_up.kept v (goals v m utility);
      spreads = waves_then nodes given down up₁ gone_down gone_up down' up' gone_down' gone_up' b c goes_down goes_up (FromNodes (IsGoal nodes d)) spreads;
    }

    pub finding_falls : Falls ((a || b) || c) (room followed + room gone_down + room gone_up) (room followed' + room gone_down' + room gone_up')
    finding_falls =
        falls_or (a || b) c _ _ _ _ (falls_or a b _ _ _ _ (record { fewer = finds.fewer; same = λ e. ap (λ s. room s) (finds.same e).1 }) (down_falls nodes given up₁ down gone_down down' gone_down' b goes_down))
        (up_falls nodes given down' up₁ gone_up up' gone_up' c goes_up)

    -- where none goes on, each node from which a walk leads to a goal had its mark
    pub none_is_left : ((a || b) || c) ≡ false → IsGraph nodes → ((v : ℕ) → IsIn given v → v < length nodes) → ((v : ℕ) → IsIn given v ↔ IsInFamily (Arc nodes) d v) →
        (v : ℕ) → ReachesGoal nodes d v → IsIn down v ⊎ IsIn up v
    none_is_left e graph known fixed v reaches =
        let walks = walks_to_goals nodes d given (IsGoal nodes d) (λ u. ((λ g. g), (λ g. g))) fixed v in
        let marks = reached_from_any nodes given (IsGoal nodes d) down' up' searched (λ g is m. goal_free nodes d g graph decision is ((fixed g).0 m)) v in before (marks.1 (walks.1 reaches))
      where
        no_find : a ≡ false
        no_find = (or_parts a b (or_parts (a || b) c e).0).0

        no_down : b ≡ false
        no_down = (or_parts a b (or_parts (a || b) c e).0).1

        no_up : c ≡ false
        no_up = (or_parts (a || b) c e).1

        -- all descendants of d were found
        below_closed : (u w : ℕ) → Arc nodes u w → IsIn below u → IsIn below w
        below_closed u w arc m = subst (λ s. IsIn s w) (finds.same no_find).0 (finds.handed h.handed u w (finds.all u m) arc)

        goal_marked : (g : ℕ) → IsGoal nodes d g → IsIn up₁ g
        goal_marked g is =
            let found : IsIn below g = path_marked {Arc = Arc nodes} {Set = IsIn below} below_closed g d (Along is.below.1 is.below.2) h.decision in
            goals g (finds.kept g found) (record { within = is.within; kind = is.kind; owner = is.owner })

        starts : (w : Way) (g : ℕ) → FromNodes (IsGoal nodes d) w g → IsMarked down' up' w g
        starts w g (from_below, is) = subst (λ x. IsMarked down' up' x g) (sym from_below) (goes_up.kept g (goal_marked g is))

        searched : IsSearched nodes given (FromNodes (IsGoal nodes d)) down' up'
        searched = record {
          graph = graph;
          given_within = known;
          live = λ w g s. goal_live nodes d g s.1;
          starts = starts;
          sound = finding_then.spreads.sound;
          closed = closed_at_end nodes given down up₁ gone_down gone_up down' up' gone_down' gone_up' b c goes_down goes_up (FromNodes (IsGoal nodes d)) no_down no_up spreads;
        }

        before : IsIn down' v ⊎ IsIn up' v → IsIn down v ⊎ IsIn up v
        before (inl m) = inl (subst (λ s. IsIn s v) (goes_down.same no_down).0 m)
        before (inr m) = inr (subst (λ s. IsIn s v) ((goes_up.same no_up).0 ∙ (finds.same no_find).2) m)
