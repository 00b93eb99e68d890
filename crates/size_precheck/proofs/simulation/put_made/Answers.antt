use Rattle.std.proofs.Common.{◌≡◌, ◌∙◌, ℕ, ◌<◌, true, length, slice_index_or, refl, sym, ap, subst, set, arith}
use Rattle.std.specs.Vec.{with_item}
use Rattle.std.proofs.lemmas.List.{get_or_read}
use Rattle.node_sets.specs.Sets.{IsIn, IsFirstFrom}
use Rattle.size_precheck.specs.declared.joints.Counted.{Counted}
use Rattle.size_precheck.specs.declared.joints.Known.{Known}
use Rattle.size_precheck.specs.Joints.{cells_in, counted_in, joint_in, no_counted, place_of, IsCounted, IsCountedIn, IsPut}
use Rattle.size_precheck.proofs.Placed.{ChangesAt, change_here, change_keeps, found_untouched, keeps_both, others_untouched, placed_still, rest_still}
use Rattle.size_precheck.proofs.Walking.{walked}
use Rattle.size_precheck.proofs.simulation.put_made.Goals as goal

pub nodes-preserved : goal.nodes-preserved
nodes-preserved c =
    let inv = c.nodes.invariant in
    let nodes = c.args.at.now in
    let y : ℕ = c.in-Some.y in
    let first : IsFirstFrom nodes c.nodes.from y = c.in-Some.ensures in
    let states = c.args.states.now in
    let initial : Known = c.args.known.now in
    let before : Known = c.nodes.known in
    let held : Counted = c.put_at.new.held in
    let after : Known = record { places = before.places; held = with_item before.held c.index.result.now held } in
    let has = (placed_still initial before inv.places (IsIn nodes) c.requires.places).each y first.inside in
    let place : c.index.result.now ≡ place_of before y = get_or_read before.places.items y _ has.0 c.index.ensures 0 in
    let was : c.index_mut-held.result.now ≡ counted_in before y =
    get_or_read before.held.items c.index.result.now _ (subst (λ (p : ℕ). p < length before.held.items) (sym place) has.1) c.index_mut-held.ensures.value no_counted
    ∙ ap (λ (p : ℕ). slice_index_or before.held.items p no_counted) place in
    let changes : ChangesAt y held before after = record { within = has.1; places = refl; items = ap (λ (p : ℕ). set before.held.items p held) place } in
    let here : counted_in after y ≡ held = change_here y held before after changes in
    let at_first : c.index_mut-held.result.now ≡ counted_in initial y = was ∙ found_untouched nodes c.nodes.from y first initial before after held inv.places changes inv.rest c.requires.places in
    let others = others_untouched nodes c.nodes.from y first initial before after held inv.places changes in
    record {
      within = let l = first.small in omega arith;
      places = keeps_both initial before after inv.places (change_keeps y held before after changes);
      put = walked nodes c.nodes.from y first (λ x. IsPut c.args.table.now (IsIn c.args.gone.now) (IsIn c.args.out.now) (joint_in initial x) (joint_in after x))
          (λ x l m n. subst (λ (h : Counted). IsPut c.args.table.now (IsIn c.args.gone.now) (IsIn c.args.out.now) (joint_in initial x) h.joint) (sym (others (IsIn nodes) c.requires.places first.inside x m n)) (inv.put x l m))
          (subst (λ (h : Counted). IsPut c.args.table.now (IsIn c.args.gone.now) (IsIn c.args.out.now) (joint_in initial y) h.joint) (sym here)
          (subst (λ (h : Counted). IsPut c.args.table.now (IsIn c.args.gone.now) (IsIn c.args.out.now) h.joint held.joint) at_first c.put_at.ensures.put));
      counted = walked nodes c.nodes.from y first (λ x. IsCountedIn states initial x → IsCountedIn states after x)
          (λ x l m n h. subst (λ (h : Counted). IsCounted states h.joint h.cells) (sym (others (IsIn nodes) c.requires.places first.inside x m n)) (inv.counted x l m h))
          (λ h. subst (λ (h : Counted). IsCounted states h.joint h.cells) (sym here) (c.put_at.ensures.counted (subst (λ (h : Counted). IsCounted states h.joint h.cells) (sym at_first) h)));
      classes = λ waits all own are.
          c.in_ok-move_node.ensures (cells_in before) (cells_in after) waits (all y first.inside)
          (record {
            was = ap (λ (h : Counted). h.cells) (sym was);
            is = ap (λ (h : Counted). h.cells) here;
            others = λ x w n. ap (λ (h : Counted). h.cells) (others (λ z. waits z ≡ true) own (all y first.inside) x w n);
          })
          (inv.classes waits all own are);
      rest = rest_still nodes c.nodes.from y first initial before after held inv.places changes inv.rest;
    }
