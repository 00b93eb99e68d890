-- What arcs and control are worth.
use Rattle.std.proofs.Common.{◌≡◌, ℕ, List, sym, subst, pos, ◌≤ℤ◌}
use Rattle.maid_model.specs.declared.answers.Ratio.{Ratio}
use Rattle.maid_model.specs.Edits.{without_arc, with_arc, as_decision}
use Rattle.maid_model.specs.Graph.{IsGraph}
use Rattle.maid_model.specs.Subgames.{OwnsAll}
use Rattle.maid_model.specs.Tables.{HasChanceTables}
use Rattle.maid_model.specs.Values.{IsOptimum, IsDifference, IsDifferenceOfOptima}
use Rattle.maid_model.specs.Views.{NodeView}
use Rattle.arc_laws.specs.Arcs.{CanGet}
use Rattle.arc_laws.specs.Worths.{nought_ratio, ValueExists, OneDifference, SeenValue, UnseenValue, ControlValue}
use Rattle.arc_laws.proofs.ArcLaws.{kept_law, less_law, as_much_law, lifts, shorten}
use Rattle.arc_laws.proofs.ControlLaws.{kept_as_decision, more_law, same_control_law}
use Rattle.arc_laws.proofs.Differences.{difference_of, one_difference, not_below, no_difference}
use Rattle.arc_laws.proofs.LostArc.{loses_added, tables_back, decision_back, added_parent}
use Rattle.maid_laws.proofs.Optima.{exists_law, one_law}
use Rattle.arc_laws.proofs.SameOptimum.{not_above, optimum_there}

module _ (nodes others : List NodeView) (g : IsGraph nodes) (c : HasChanceTables nodes) (h : IsGraph others) (d : HasChanceTables others) where
  pub value_exists : (decimals agent : ℕ) → OwnsAll nodes agent → OwnsAll others agent → (r : Ratio) × IsDifferenceOfOptima nodes others decimals agent r
  value_exists decimals agent owns own =
      let a = exists_law nodes decimals agent g c owns in
      let b = exists_law others decimals agent h d own in
      let r = difference_of a.0 b.0 a.1.worth.reduced.positive b.1.worth.reduced.positive in
      (r.0, record { more = a.0; is_more = a.1; less = b.0; is_less = b.1; difference = r.1 })

  -- both optima are the only ones
  pub one_value : (decimals agent : ℕ) (r s : Ratio) → IsDifferenceOfOptima nodes others decimals agent r → IsDifferenceOfOptima nodes others decimals agent s → r ≡ s
  one_value decimals agent r s v w =
      one_difference r s v.more v.less v.is_more.worth.reduced.positive v.is_less.worth.reduced.positive v.difference
      (subst (λ b. IsDifference s v.more b) (sym (one_law others decimals agent v.less w.less h d v.is_less w.is_less))
      (subst (λ a. IsDifference s a w.less) (sym (one_law nodes decimals agent v.more w.more g c v.is_more w.is_more)) w.difference))

  -- where as much can be got
  pub value_sign : (decimals agent : ℕ) (r : Ratio) → CanGet others nodes agent → IsDifferenceOfOptima nodes others decimals agent r → pos 0 ≤ℤ r.num
  value_sign decimals agent r more v =
      not_below r v.more v.less v.is_more.worth.reduced.positive v.is_less.worth.reduced.positive v.difference
      (not_above others nodes agent h d g c more decimals v.less v.more v.is_less v.is_more)

  -- where the optima are one
  pub value_nought : (decimals agent : ℕ) (r : Ratio) → ((a : Ratio) → IsOptimum nodes decimals agent a → IsOptimum others decimals agent a) → IsDifferenceOfOptima nodes others decimals agent r → r ≡ nought_ratio
  value_nought decimals agent r same v =
      no_difference r v.more v.less v.is_more.worth.reduced.positive v.is_less.worth.reduced.positive v.difference
      (one_law others decimals agent v.more v.less h d (same v.more v.is_more) v.is_less)

-- for every two diagrams
pub exists_value_law : ValueExists
exists_value_law nodes others decimals agent g c h d owns own = value_exists nodes others g c h d decimals agent owns own

pub one_value_law : OneDifference
one_value_law nodes others decimals agent r s g c h d v w = one_value nodes others g c h d decimals agent r s v w

-- an arc that is there
pub seen_law : SeenValue
seen_law nodes x d decimals agent r g c k v =
    let h = kept_law nodes x d g c k in
    let back = (less_law nodes x d agent g c k).0 in (
      value_sign nodes (without_arc nodes x d) g c h.0 h.1 decimals agent r back v,
      λ a unneeded. value_nought nodes (without_arc nodes x d) g c h.0 h.1 decimals agent r
          (λ b o. optimum_there nodes (without_arc nodes x d) agent g c h.0 h.1 (subst (CanGet nodes (without_arc nodes x d)) (v.is_more.alone d k) (as_much_law nodes x d g c k a unneeded)) back v.is_less.alone decimals b o) v,
    )

-- an arc that is not
pub unseen_law : UnseenValue
unseen_law nodes x d decimals agent r g c h k v =
    let more = with_arc nodes x d in
    let l = loses_added nodes x d k.within h in
    let kd = decision_back more nodes x d l d k in
    let t = tables_back more nodes x d l kd c in
    let back = lifts more nodes x d l h t kd agent in (
      value_sign more nodes h t g c decimals agent r back v,
      λ unneeded. value_nought more nodes h t g c decimals agent r
          (λ b o. optimum_there more nodes agent h t g c (subst (CanGet more nodes) (v.is_more.alone d kd) (shorten more nodes x d l h t kd (added_parent nodes x d k.within) unneeded)) back v.is_less.alone decimals b o) v,
    )

-- control
pub control_value_law : ControlValue
control_value_law nodes x decimals agent r g c k v =
    let others = as_decision nodes agent x in
    let h = kept_as_decision nodes agent x g c k in (
      value_sign others nodes h.0 h.1 g c decimals agent r (more_law nodes agent x agent g c k).0 v,
      λ trimmed removed t far. value_nought others nodes h.0 h.1 g c decimals agent r
          (λ b o. (same_control_law nodes trimmed removed agent x g c v.is_less.alone k t far).back decimals b o) v,
    )
