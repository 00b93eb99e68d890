-- Waves of a search, one after another.
use Rattle.std.proofs.Common.{◌≡◌, ℕ, ◌+◌, ◌<◌, ◌||◌, Bool, true, false, List, ◌⊎◌, ◌↔◌, inl, inr, refl, subst, sym, ap, ◌∙◌, arith}
use Rattle.std.proofs.lemmas.Bool.{cases_Bool, false_from_ne_true, false≢true, or_parts}
use Rattle.maid_model.specs.Views.{NodeView}
use Rattle.maid_model.specs.Graph.{Arc}
use Rattle.maid_model.specs.Relevance.{IsLive}
use Rattle.node_sets.specs.declared.sets.NodeSet.{NodeSet}
use Rattle.node_sets.specs.Sets.{holds, IsIn, IsFirstFrom, room}
use Rattle.node_sets.proofs.Growing.{room_less}
use Rattle.bayes_ball.specs.Flow.{Way, Up, Down, Flows, Begin, Forward, Back, Bounce}
use Rattle.bayes_ball.specs.Spread.{IsMarked, LiveArc, LeadsDown, LeadsUp, AreFresh, AreClosed, FlowAllFrom, HandDown, HandUp, GoesDown, GoesUp}

-- what spreads from marks that spread from the start
pub flows_again : {Arc : ℕ → ℕ → Type 0} {Given : ℕ → Type 0} {Start Next : Way → ℕ → Type 0} {w : Way} {v : ℕ} →
    ((w : Way) (v : ℕ) → Next w v → Flows Arc Given Start w v) → Flows Arc Given Next w v → Flows Arc Given Start w v
flows_again s (Begin h) = s _ _ h
flows_again s (Forward a n f) = Forward a n (flows_again s f)
flows_again s (Back a n f) = Back a n (flows_again s f)
flows_again s (Bounce a g f) = Bounce a g (flows_again s f)

-- a node is in the set or not
pub in_or_out : (set : NodeSet) (v : ℕ) → IsIn set v ⊎ (IsIn set v → ⊥)
in_or_out set v = elim (cases_Bool (holds set v)) as (λ _. IsIn set v ⊎ (IsIn set v → ⊥)) [ inl t ↦ inl t | inr f ↦ inr (λ m. false≢true (sym f ∙ m)) ]

-- a wave from fresh nodes: what is followed then
module _ (followed fresh followed' : NodeSet) (both : (v : ℕ) → IsIn followed' v ↔ (IsIn followed v ⊎ IsIn fresh v)) where
  -- each node that was followed or is fresh
  pub all_followed : (v : ℕ) → ((IsIn followed v → ⊥) → IsIn fresh v) → IsIn followed' v
  all_followed v leads = elim (in_or_out followed v) as (λ _. IsIn followed' v) [ inl m ↦ (both v).1 (inl m) | inr n ↦ (both v).1 (inr (leads n)) ]

  pub more_followed : (x : ℕ) → IsFirstFrom fresh 0 x → (IsIn followed x → ⊥) → room followed' < room followed
  more_followed x first new = room_less followed followed' x first.small (λ v m. (both v).1 (inl m)) (false_from_ne_true (holds followed x) new) ((both x).1 (inr first.inside))

-- where no node is fresh, all that lead on were followed
pub none_fresh : (followed fresh : NodeSet) → ((v : ℕ) → IsIn fresh v → ⊥) → (v : ℕ) → ((IsIn followed v → ⊥) → IsIn fresh v) → IsIn followed v
none_fresh followed fresh none v leads = elim (in_or_out followed v) as (λ _. IsIn followed v) [ inl m ↦ m | inr n ↦ absurd (none v (leads n)) ]

module _ (nodes : List NodeView) (given down up leading followed fresh : NodeSet) (are : AreFresh nodes leading followed fresh) where
  pub no_wave_down : ((v : ℕ) → IsIn leading v ↔ LeadsDown given down up v) → ((v : ℕ) → IsIn fresh v → ⊥) → GoesDown nodes given up down followed down followed false
  no_wave_down leads none = record {
    kept = λ v m. m;
    sound = λ w v m. Begin m;
    handed = λ h. h;
    all = λ v live lead. none_fresh followed fresh none v (λ n. (are v).1 ((leads v).1 lead, live, n));
    fewer = λ e. absurd (false≢true e);
    same = λ _. (refl, refl);
  }

  pub no_wave_up : ((v : ℕ) → IsIn leading v ↔ LeadsUp given down up v) → ((v : ℕ) → IsIn fresh v → ⊥) → GoesUp nodes given down up followed up followed false
  no_wave_up leads none = record {
    kept = λ v m. m;
    sound = λ w v m. Begin m;
    handed = λ h. h;
    all = λ v live lead. none_fresh followed fresh none v (λ n. (are v).1 ((leads v).1 lead, live, n));
    fewer = λ e. absurd (false≢true e);
    same = λ _. (refl, refl);
  }

  module _ (followed' reached : NodeSet) (x : ℕ) (first : IsFirstFrom fresh 0 x) (both : (v : ℕ) → IsIn followed' v ↔ (IsIn followed v ⊎ IsIn fresh v)) where
    pub wave_down : (down' : NodeSet) → ((v : ℕ) → IsIn leading v ↔ LeadsDown given down up v) → ((v : ℕ) → IsIn reached v ↔ (((u : ℕ) × IsIn fresh u × Arc nodes u v) × IsLive nodes v)) →
        ((v : ℕ) → IsIn down' v ↔ (IsIn down v ⊎ IsIn reached v)) → GoesDown nodes given up down followed down' followed' true
    wave_down down' leads children marked = record {
      kept = λ v m. (marked v).1 (inl m);
      sound = sound;
      handed = λ h p v m arc. elim ((both p).0 m) as (λ _. IsIn down' v) [
        | inl o ↦ (marked v).1 (inl (h p v o arc))
        | inr f ↦ (marked v).1 (inr ((children v).1 ((p, f, arc.0), arc.2)))
      ];
      all = λ v live lead. all_followed followed fresh followed' both v (λ n. (are v).1 ((leads v).1 lead, live, n));
      fewer = λ _. more_followed followed fresh followed' both x first ((are x).0 first.inside).2;
      same = λ e. absurd (false≢true (sym e));
    }
      where
        sound : FlowAllFrom nodes given down up down' up
        sound Up v m = Begin m
        sound Down v m = elim ((marked v).0 m) as (λ _. Flows (LiveArc nodes) (IsIn given) (IsMarked down up) Down v) [
          | inl o ↦ Begin o
          | inr r ↦
              let c = (children v).0 r in
              let f = (are c.0.0).0 c.0.1 in
              let lead = (leads c.0.0).0 f.0 in
              elim lead.1 as (λ _. Flows (LiveArc nodes) (IsIn given) (IsMarked down up) Down v) [
                | inl d ↦ Forward {w = Down} (c.0.2, f.1, c.1) lead.0 (Begin d)
                | inr u ↦ Forward {w = Up} (c.0.2, f.1, c.1) lead.0 (Begin u)
              ]
        ]

    pub wave_up : (up' : NodeSet) → ((v : ℕ) → IsIn leading v ↔ LeadsUp given down up v) → ((v : ℕ) → IsIn reached v ↔ (((u : ℕ) × IsIn fresh u × Arc nodes v u) × IsLive nodes v)) →
        ((v : ℕ) → IsIn up' v ↔ (IsIn up v ⊎ IsIn reached v)) → GoesUp nodes given down up followed up' followed' true
    wave_up up' leads parents marked = record {
      kept = λ v m. (marked v).1 (inl m);
      sound = sound;
      handed = λ h p v m arc. elim ((both v).0 m) as (λ _. IsIn up' p) [
        | inl o ↦ (marked p).1 (inl (h p v o arc))
        | inr f ↦ (marked p).1 (inr ((parents p).1 ((v, f, arc.0), arc.1)))
      ];
      all = λ v live lead. all_followed followed fresh followed' both v (λ n. (are v).1 ((leads v).1 lead, live, n));
      fewer = λ _. more_followed followed fresh followed' both x first ((are x).0 first.inside).2;
      same = λ e. absurd (false≢true (sym e));
    }
      where
        sound : FlowAllFrom nodes given down up down up'
        sound Down v m = Begin m
        sound Up v m = elim ((marked v).0 m) as (λ _. Flows (LiveArc nodes) (IsIn given) (IsMarked down up) Up v) [
          | inl o ↦ Begin o
          | inr r ↦
              let p = (parents v).0 r in
              let f = (are p.0.0).0 p.0.1 in
              elim ((leads p.0.0).0 f.0) as (λ _. Flows (LiveArc nodes) (IsIn given) (IsMarked down up) Up v) [
                | inl g ↦ Bounce (p.0.2, p.1, f.1) g.0 (Begin g.1)
                | inr n ↦ Back (p.0.2, p.1, f.1) n.0 (Begin n.1)
              ]
        ]

-- the marks while waves go on from the start
pub record IsSpreading (nodes : List NodeView) (given : NodeSet) (Start : Way → ℕ → Type 0) (down up gone_down gone_up : NodeSet) : Type 0 where
  pub sound : (w : Way) (v : ℕ) → IsMarked down up w v → Flows (LiveArc nodes) (IsIn given) Start w v
  pub handed_down : HandDown nodes gone_down down
  pub handed_up : HandUp nodes gone_up up

-- a number that falls where something went on, and else stays the same
pub record Falls (went : Bool) (before after : ℕ) : Type 0 where
  pub fewer : went ≡ true → after < before
  pub same : went ≡ false → after ≡ before

-- so does the sum of two such numbers
pub falls_or : (b c : Bool) (x x' y y' : ℕ) → Falls b x x' → Falls c y y' → Falls (b || c) (x + y) (x' + y')
falls_or b c x x' y y' f g = record {
  fewer = less b c f g;
  same = λ e. let n = or_parts b c e in let k = f.same n.0 in let l = g.same n.1 in omega arith;
}
  where
    less : (b c : Bool) → Falls b x x' → Falls c y y' → (b || c) ≡ true → x' + y' < x + y
    less true true f g e = let k = f.fewer refl in let l = g.fewer refl in omega arith
    less true false f g e = let k = f.fewer refl in let l = g.same refl in omega arith
    less false c f g e = let k = f.same refl in let l = g.fewer e in omega arith

-- what a wave can still follow
pub down_falls : (nodes : List NodeView) (given up down followed down' followed' : NodeSet) (went : Bool) → GoesDown nodes given up down followed down' followed' went → Falls went (room followed) (room followed')
down_falls nodes given up down followed down' followed' went d = record { fewer = d.fewer; same = λ e. ap (λ s. room s) (d.same e).1 }

pub up_falls : (nodes : List NodeView) (given down up followed up' followed' : NodeSet) (went : Bool) → GoesUp nodes given down up followed up' followed' went → Falls went (room followed) (room followed')
up_falls nodes given down up followed up' followed' went u = record { fewer = u.fewer; same = λ e. ap (λ s. room s) (u.same e).1 }

-- a wave down, and then one up
module _ (nodes : List NodeView) (given down up gone_down gone_up down' up' gone_down' gone_up' : NodeSet) (b c : Bool)
    (d : GoesDown nodes given up down gone_down down' gone_down' b) (u : GoesUp nodes given down' up gone_up up' gone_up' c) where
  pub waves_keep : (w : Way) (v : ℕ) → IsMarked down up w v → IsMarked down' up' w v
  waves_keep Up v m = u.kept v m
  waves_keep Down v m = d.kept v m

  pub waves_then : (Start : Way → ℕ → Type 0) → IsSpreading nodes given Start down up gone_down gone_up → IsSpreading nodes given Start down' up' gone_down' gone_up'
  waves_then Start h = record {
    sound = λ w v m. flows_again h.sound (flows_again d.sound (u.sound w v m));
    handed_down = d.handed h.handed_down;
    handed_up = u.handed h.handed_up;
  }

  -- where neither goes on, no rule adds a mark
  pub closed_at_end : (Start : Way → ℕ → Type 0) → b ≡ false → c ≡ false → IsSpreading nodes given Start down up gone_down gone_up → AreClosed nodes given down' up'
  closed_at_end Start no_down no_up h = record {
    forward = λ w p v a n m. d.handed h.handed_down p v (d.all p a.1 (n, either_way w p m)) a;
    back = λ p v a n m. u.handed h.handed_up p v (u.all v a.2 (inr (n, same_up v m))) a;
    bounce = λ p v a g m. u.handed h.handed_up p v (u.all v a.2 (inl (g, m))) a;
  }
    where
      same_up : (v : ℕ) → IsIn up' v → IsIn up v
      same_up v m = subst (λ s. IsIn s v) (u.same no_up).0 m

      same_down : (v : ℕ) → IsIn down' v → IsIn down v
      same_down v m = subst (λ s. IsIn s v) (d.same no_down).0 m

      either_way : (w : Way) (x : ℕ) → IsMarked down' up' w x → IsIn down x ⊎ IsIn up x
      either_way Up x m = inr (same_up x m)
      either_way Down x m = inl (same_down x m)
