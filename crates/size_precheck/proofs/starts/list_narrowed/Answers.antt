use Rattle.std.proofs.Common.{◌≡◌, ◌∙◌, ◌⊎◌, ℕ, ◌+◌, ◌<◌, List, length, refl, sym, ap, subst, inl, inr, arith}
use Rattle.std.specs.Prelude.{slice_index}
use Rattle.std.proofs.lemmas.List.{get_or_read, length_push}
use Rattle.node_sets.specs.Sets.{IsIn, IsFirstFrom}
use Rattle.size_precheck.specs.declared.joints.Counted.{Counted}
use Rattle.size_precheck.specs.declared.joints.Joint.{Joint}
use Rattle.size_precheck.specs.declared.joints.Known.{Known}
use Rattle.size_precheck.specs.declared.planners.Family.{Family}
use Rattle.size_precheck.specs.Families.{IsNarrowed, IsNarrowedAt}
use Rattle.size_precheck.specs.Joints.{counted_in, joint_at, no_joint, TakesPlace}
use Rattle.size_precheck.proofs.Placed.{given_place, given_here, given_others, placed_less}
use Rattle.size_precheck.proofs.Walking.{walked, all_walked}
use Rattle.size_precheck.proofs.starts.list_narrowed.Goals as goal

pub nodes-preserved : goal.nodes-preserved
nodes-preserved c =
    let inv = c.nodes.invariant in
    let nodes = c.args.waiting.now in
    let y : ℕ = c.in-Some.y in
    let first : IsFirstFrom nodes c.nodes.from y = c.in-Some.ensures in
    let planner = c.args.planner.now in
    let ruled = c.args.ruled.now in
    let before : Known = c.nodes.known in
    let after : Known = c.give_place.new.known in
    let left : Counted = c.narrowed-counted.result in
    let takes : TakesPlace y left before after = c.in_ok-give_place.ensures in
    let joint : c.index.result.now ≡ joint_at planner.joints.items y = get_or_read planner.joints.items y _ (c.requires.waiting y first.inside) c.index.ensures no_joint in
    let cells : c.index-in-Some.result.now ≡ slice_index planner.counts.items y =
    get_or_read planner.counts.items y _ (let l = c.requires.waiting y first.inside in omega (arith, l, c.requires.len)) c.index-in-Some.ensures 0 in
    let narrowed : IsNarrowedAt planner ruled y left =
    subst (λ (xs : List ℕ). IsNarrowed xs planner.families.items ruled (joint_at planner.joints.items y) (slice_index planner.counts.items y) left) c.as_slice-states.ensures.value
    (subst (λ (fs : List Family). IsNarrowed c.as_slice-states.result.now fs ruled (joint_at planner.joints.items y) (slice_index planner.counts.items y) left) c.as_slice-families.ensures.value
    (subst (λ (j : Joint). IsNarrowed c.as_slice-states.result.now c.as_slice-families.result.now ruled j (slice_index planner.counts.items y) left) joint
    (subst (λ (n : ℕ). IsNarrowed c.as_slice-states.result.now c.as_slice-families.result.now ruled c.index.result.now n left) cells c.narrowed-counted.ensures))) in
    record {
      within = let l = first.small in omega arith;
      len = takes.len ∙ inv.len;
      few = let e = ap (λ (hs : List Counted). length hs) takes.held ∙ length_push before.held.items left in let n = first.not_before in omega (arith, e, inv.few);
      places = given_place y left before after takes (λ x. IsIn nodes x × (x < c.nodes.from)) (λ x. IsIn nodes x × (x < y + 1))
          (let l = first.small in omega (arith, l, inv.len)) inv.places
          (λ x m. walked nodes c.nodes.from y first (λ z. (z ≡ y) ⊎ ((z ≡ y → ⊥) × (IsIn nodes z × (z < c.nodes.from)))) (λ z l k n. inr (n, (k, l))) (inl refl) x m.1 m.0);
      narrowed = λ x m. walked nodes c.nodes.from y first (λ z. IsNarrowedAt planner ruled z (counted_in after z))
          (λ z l k n. subst (IsNarrowedAt planner ruled z) (sym (given_others y left before after takes z n (inv.places.each z (k, l)).1)) (inv.narrowed z (k, l)))
          (subst (IsNarrowedAt planner ruled y) (sym (given_here y left before after takes)) narrowed) x m.1 m.0;
    }

pub returns-clause-places : goal.returns-clause-places
returns-clause-places c = placed_less (λ y. IsIn c.args.waiting.now y × (y < c.nodes.from)) (IsIn c.args.waiting.now) c.nodes.known
    (λ y m. (m, all_walked c.args.waiting.now c.nodes.from y c.in_default.ensures m)) c.nodes.invariant.places

pub returns-clause-narrowed : goal.returns-clause-narrowed
returns-clause-narrowed c y m = c.nodes.invariant.narrowed y (m, all_walked c.args.waiting.now c.nodes.from y c.in_default.ensures m)
