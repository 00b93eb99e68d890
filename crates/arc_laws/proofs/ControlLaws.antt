-- Control of a chance node never lowers what an agent can get, and leaves it as it is where no
-- utility of the agent descends from the node in the trimmed diagram.
use Rattle.std.proofs.Common.{◌≡◌, ◌∙◌, ℕ, ◌<◌, cond, eqb, List, map, length, refl, sym, ap, subst, ℤ, pos, ◌*ℤ◌, ◌≤ℤ◌, arith, nat_abs}
use Rattle.std.proofs.lemmas.Int.{ints}
use Rattle.std.proofs.Math.Decide.{ℕ_discrete}
use Rattle.maid_model.specs.declared.diagrams.Kind.TheVariants.{Chance, Utility}
use Rattle.maid_model.specs.Edits.{as_decision, without_arc}
use Rattle.maid_model.specs.Gains.{gain_of, mass}
use Rattle.maid_model.specs.Graph.{IsGraph}
use Rattle.maid_model.specs.Nodes.{IsDecision, node_at, parents_of}
use Rattle.maid_model.specs.Profiles.{IsProfile, IsRule}
use Rattle.maid_model.specs.Subgames.{OwnsAll}
use Rattle.maid_model.specs.Tables.{HasChanceTables, weights_of, rule_total, chance_total}
use Rattle.maid_model.specs.Trimming.{IsTrimmed, Done, Removed}
use Rattle.maid_model.specs.Views.{NodeView, RuleView}
use Rattle.arc_laws.specs.Arcs.{CanGet}
use Rattle.maid_model.specs.Values.{IsUnreached}
use Rattle.arc_laws.specs.Control.{KeptAsDecision, MoreWithControl, SameWithControl}
use Rattle.maid_laws.specs.Optimum.{IsAsGood}
use Rattle.arc_laws.proofs.ArcLaws.{kept_law, as_much_alone, trimmed_both}
use Rattle.maid_laws.proofs.Booleans.{eqb_yes, eqb_no}
use Rattle.maid_laws.proofs.Choices.{made, made_at, made_profile, put_at, put_here, put_else, put_profile}
use Rattle.arc_laws.proofs.InControl.{Controls, controls, controls_less, Fills, own_table, decision_there, decision_back, decision_not_x, owns_there, graph_kept, tables_kept, requisite_back, unreached_there, gain_filled, mass_filled, states_at, parents_at}
use Rattle.arc_laws.proofs.SameArcs.{rule_there, rule_back, arc_there}
use Rattle.arc_laws.proofs.LostArc.{loses, kind_same, owns_there as owns_less}
use Rattle.maid_laws.proofs.Members.{arc_of, parent_of, among_index}
use Rattle.maid_laws.proofs.Notions.{IsParent}
use Rattle.maid_laws.proofs.PureReplies.{as_good_then}
use Rattle.maid_laws.proofs.Rules.{among_decisions}
use Rattle.arc_laws.proofs.SameOptimum.{good_equal, can_get, can_get_then, not_above, same_optimum}
use Rattle.maid_laws.proofs.Tied.{tables_of, kind_within}
use Rattle.arc_laws.proofs.Unreached.{unreached}

module _ (nodes others : List NodeView) (agent x : ℕ) (r : Controls nodes others agent x) (k : (node_at nodes x).kind ≡ Chance) (g : IsGraph nodes) (c : HasChanceTables nodes) where
  -- x's table as a rule
  abbrev ws : List ℕ
  ws = map nat_abs (node_at nodes x).cells

  abbrev total : ℕ
  total = chance_total nodes x

  -- the new decision
  x_decision : IsDecision others x
  x_decision = record { within = subst (λ n. x < n) (sym r.len) (kind_within nodes x (λ e. chance_utility (sym k ∙ e))); kind = ap (λ n. n.kind) r.at }
    where
      chance_utility : Chance ≡ Utility → ⊥
      chance_utility e = cc

  -- ---- the table is a rule
  module _ (p : List RuleView) (hp : IsProfile nodes p) where
    abbrev filled : List RuleView
    filled = put_at others x total ws p

    filled_profile : IsProfile others filled
    filled_profile = made_profile others (λ v. cond (eqb v x) total (rule_total p v)) (λ v. cond (eqb v x) ws (weights_of p v)) (λ v kv. go v kv (ℕ_discrete v x))
      where
        go : (v : ℕ) → IsDecision others v → Dec (v ≡ x) → IsRule others (record { decision = v; total = cond (eqb v x) total (rule_total p v); weights = cond (eqb v x) ws (weights_of p v) })
        go v kv (yes e) =
            subst (λ b. IsRule others (record { decision = v; total = cond b total (rule_total p v); weights = cond b ws (weights_of p v) })) (sym (eqb_yes v x e))
            (subst (λ u. IsRule others (record { decision = u; total = total; weights = ws })) (sym e) (record { positive = c.positive x k; table = own_table nodes others agent x r k c }))
        go v kv (no n) =
            subst (λ b. IsRule others (record { decision = v; total = cond b total (rule_total p v); weights = cond b ws (weights_of p v) })) (sym (eqb_no v x n))
            (rule_there nodes others r.len (states_at nodes others agent x r k) (parents_at nodes others agent x r k) (record { decision = v; total = rule_total p v; weights = weights_of p v }) (hp.rule v (decision_back nodes others agent x r k v n kv)))

    filled_fills : Fills nodes others agent x r k p filled
    filled_fills = record {
      weights = λ v kv. (at v (decision_there nodes others agent x r k v kv)).0 ∙ ap (λ b. cond b ws (weights_of p v)) (eqb_no v x (decision_not_x nodes others agent x r k v kv));
      total = λ v kv. (at v (decision_there nodes others agent x r k v kv)).1 ∙ ap (λ b. cond b total (rule_total p v)) (eqb_no v x (decision_not_x nodes others agent x r k v kv));
      own_weights = (at x x_decision).0 ∙ ap (λ b. cond b ws (weights_of p x)) (eqb_yes x x refl);
      own_total = (at x x_decision).1 ∙ ap (λ b. cond b total (rule_total p x)) (eqb_yes x x refl);
    }
      where
        at : (v : ℕ) → IsDecision others v → (weights_of filled v ≡ cond (eqb v x) ws (weights_of p v)) × (rule_total filled v ≡ cond (eqb v x) total (rule_total p v))
        at v kv = made_at others (λ v. cond (eqb v x) total (rule_total p v)) (λ v. cond (eqb v x) ws (weights_of p v)) v (among_decisions others v kv)

    pub filled_good : (other : ℕ) → (q : List RuleView) × IsProfile others q × IsAsGood nodes p others q other
    filled_good other = (filled, filled_profile, good_equal nodes others p filled other (sym (gain_filled nodes others agent x r k c g.has_state p filled filled_fills other)) (sym (mass_filled nodes others agent x r k c g.has_state p filled filled_fills)))

  -- ---- a rule of x that reaches nothing
  module _ (other : ℕ) (far : IsUnreached nodes other x) (q : List RuleView) (hq : IsProfile others q) where
    abbrev dropped : List RuleView
    dropped = made nodes (rule_total q) (weights_of q)

    abbrev again : List RuleView
    again = put_at others x total ws q

    dropped_profile : IsProfile nodes dropped
    dropped_profile = made_profile nodes (rule_total q) (weights_of q) (λ v kv. rule_back nodes others r.len (states_at nodes others agent x r k) (parents_at nodes others agent x r k) (record { decision = v; total = rule_total q v; weights = weights_of q v }) (hq.rule v (decision_there nodes others agent x r k v kv)))

    again_profile : IsProfile others again
    again_profile = put_profile others x total ws q hq.decisions (c.positive x k) (own_table nodes others agent x r k c) (λ v kv n. hq.rule v kv)

    again_fills : Fills nodes others agent x r k dropped again
    again_fills = record {
      weights = λ v kv. (put_else others x total ws q hq.decisions v (decision_not_x nodes others agent x r k v kv)).0 ∙ sym (made_at nodes (rule_total q) (weights_of q) v (among_decisions nodes v kv)).0;
      total = λ v kv. (put_else others x total ws q hq.decisions v (decision_not_x nodes others agent x r k v kv)).1 ∙ sym (made_at nodes (rule_total q) (weights_of q) v (among_decisions nodes v kv)).1;
      own_weights = (put_here others x total ws q hq.decisions x_decision).0;
      own_total = (put_here others x total ws q hq.decisions x_decision).1;
    }

    h : IsGraph others
    h = graph_kept nodes others agent x r k g

    d : HasChanceTables others
    d = tables_kept nodes others agent x r k c

    again_good : IsAsGood others q others again other
    again_good = record {
      worth = at_most (gain_of others q other *ℤ pos (mass others again)) (gain_of others again other *ℤ pos (mass others q))
          (unreached others h x other (unreached_there nodes others agent x r k other far) q again (tables_of others q h d hq) (tables_of others again h d again_profile) x_decision
          (λ v n. let e = put_else others x total ws q hq.decisions v n in (sym e.0, sym e.1)));
    }
      where
        at_most : (a b : ℤ) → a ≡ b → a ≤ℤ b
        at_most a b e = omega (arith, ints)

    pub dropped_good : (p : List RuleView) × IsProfile nodes p × IsAsGood others q nodes p other
    dropped_good = (
      dropped,
      dropped_profile,
      as_good_then others others nodes q again dropped other (tables_of others q h d hq) (tables_of others again h d again_profile) (tables_of nodes dropped g c dropped_profile) again_good
          (good_equal others nodes again dropped other (gain_filled nodes others agent x r k c g.has_state dropped again again_fills other) (mass_filled nodes others agent x r k c g.has_state dropped again again_fills)),
    )

-- ---- trimming in both diagrams
pub trimmed_with : {nodes trimmed : List NodeView} {removed : List (ℕ × ℕ)} (others : List NodeView) (agent x : ℕ) → Controls nodes others agent x → (node_at nodes x).kind ≡ Chance → IsGraph nodes → HasChanceTables nodes → OwnsAll nodes agent
    → IsTrimmed nodes removed trimmed → IsGraph trimmed → HasChanceTables trimmed
    → (less : List NodeView) × Controls trimmed less agent x × ((node_at trimmed x).kind ≡ Chance) × CanGet others less agent
trimmed_with others agent x r k g c owns (Done h) tg tc = (others, r, k, can_get others agent)
trimmed_with {nodes} {trimmed} others agent x r k g c owns (Removed {x = y} {d = d} f t) tg tc =
    let kd = f.decision in
    let ko : IsDecision others d = decision_there nodes others agent x r k d kd in
    let a : IsParent nodes y d = subst (λ z. IsParent nodes z d) f.there (among_index (parents_of nodes d) f.place f.within) in
    let b : IsParent others y d = parent_of others y d (arc_there nodes others r.len (states_at nodes others agent x r k) (parents_at nodes others agent x r k) y d (arc_of nodes y d a)) in
    let go : IsGraph others = graph_kept nodes others agent x r k g in
    let co : HasChanceTables others = tables_kept nodes others agent x r k c in
    let own : OwnsAll others agent = owns_there nodes others agent x r k owns in
    let l = loses nodes y d kd.within in
    let m = loses others y d ko.within in
    let less = kept_law nodes y d g c kd in
    let fewer = kept_law others y d go co ko in
    let s = controls_less nodes others (without_arc nodes y d) (without_arc others y d) agent x y d (decision_not_x nodes others agent x r k d kd) r l m in
    let rest = trimmed_with (without_arc others y d) agent x s (kind_same nodes (without_arc nodes y d) y d l x ∙ k) less.0 less.1 (owns_less nodes (without_arc nodes y d) y d l agent owns) t tg tc in (
      rest.0,
      rest.1,
      rest.2,
      can_get_then others (without_arc others y d) rest.0 agent go co fewer.0 fewer.1 (graph_kept trimmed rest.0 agent x rest.1 rest.2 tg) (tables_kept trimmed rest.0 agent x rest.1 rest.2 tc)
          (as_much_alone others y d agent go co own ko b (λ q. f.not_requisite (requisite_back nodes others agent x r k d y kd q))) rest.3,
    )

-- ---- for every diagram
-- a chance node is a node
pub chance_within : (nodes : List NodeView) (x : ℕ) → (node_at nodes x).kind ≡ Chance → x < length nodes
chance_within nodes x k = kind_within nodes x (λ e. clash (sym k ∙ e))
  where
    clash : Chance ≡ Utility → ⊥
    clash e = cc

pub kept_as_decision : KeptAsDecision
kept_as_decision nodes agent x g c k =
    let r = controls nodes agent x (chance_within nodes x k) in
    (graph_kept nodes (as_decision nodes agent x) agent x r k g, tables_kept nodes (as_decision nodes agent x) agent x r k c)

pub more_law : MoreWithControl
more_law nodes agent x other g c k =
    let r = controls nodes agent x (chance_within nodes x k) in
    let h = kept_as_decision nodes agent x g c k in
    let a : CanGet nodes (as_decision nodes agent x) other = (λ p hp. filled_good nodes (as_decision nodes agent x) agent x r k g c p hp other) in
    (a, not_above nodes (as_decision nodes agent x) other g c h.0 h.1 a)

pub same_control_law : SameWithControl
same_control_law nodes trimmed removed agent x g c owns k t far =
    let r = controls nodes agent x (chance_within nodes x k) in
    let h = kept_as_decision nodes agent x g c k in
    let b = trimmed_both agent g c owns t in
    let w = trimmed_with (as_decision nodes agent x) agent x r k g c owns t b.0 b.1 in
    let lg = graph_kept trimmed w.0 agent x w.1 w.2 b.0 in
    let lc = tables_kept trimmed w.0 agent x w.1 w.2 b.1 in
    let down : CanGet w.0 trimmed agent = (λ q hq. dropped_good trimmed w.0 agent x w.1 w.2 b.0 b.1 agent far q hq) in
    let back : CanGet (as_decision nodes agent x) nodes agent =
    can_get_then (as_decision nodes agent x) w.0 nodes agent h.0 h.1 lg lc g c w.3 (can_get_then w.0 trimmed nodes agent lg lc b.0 b.1 g c down b.4) in
    same_optimum nodes (as_decision nodes agent x) agent g c h.0 h.1 (more_law nodes agent x agent g c k).0 back owns (owns_there nodes (as_decision nodes agent x) agent x r k owns)
