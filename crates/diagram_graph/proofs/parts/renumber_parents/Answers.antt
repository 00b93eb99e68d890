use Rattle.std.proofs.Common.{◌≡◌, ◌∙◌, ◌++◌, List, ℕ, length, map, take, slice_index, ap, subst, arith}
use Rattle.std.specs.Prelude.{Contains}
use Rattle.std.specs.List.{refill}
use Rattle.std.proofs.lemmas.List.{append-nil, drop_all, length-map, take_all}
use Rattle.maid_model.specs.Views.{NodeView}
use Rattle.diagram_graph.specs.Edited.{with_parents}
use Rattle.diagram_graph.proofs.parts.renumber_parents.Goals as goal

-- as many numbers as there were
refilled : (xs ws : List ℕ) → length ws ≡ length xs → refill (length xs) xs ws ≡ ws
refilled xs ws e =
    ap (λ (ys : List ℕ). take (length xs) (ws ++ ys)) (drop_all (length ws) xs (omega (arith, e)))
    ∙ ap (λ (ys : List ℕ). take (length xs) ys) (append-nil ws)
    ∙ take_all (length xs) ws (omega (arith, e))

pub put_places-requires : goal.put_places-requires
put_places-requires c u m = c.requires u (subst (λ (us : List ℕ). Contains us u) (c.as_mut_slice.ensures.value ∙ ap (λ (n : NodeView). n.parents) c.node.view_is) m)

pub returns : goal.returns
returns c =
    let f = slice_index c.args.places.now in
    let old = c.node.inside.parents.items in
    let new : c.put_places.new.numbers ≡ map f old = c.put_places.ensures ∙ ap (map f) c.as_mut_slice.ensures.value in
    let parents : refill (length old) old c.put_places.new.numbers ≡ map f old = refilled old c.put_places.new.numbers (ap (λ (l : List ℕ). length l) new ∙ length-map old f) ∙ new in
    (λ i. record {
      kind = c.node.inside.kind;
      owner = c.node.inside.owner;
      more = c.node.inside.more.items;
      states = c.node.inside.states;
      parents = parents i;
      cells = c.node.inside.cells.items;
    })
    ∙ ap (λ (n : NodeView). with_parents n (map f n.parents)) c.node.view_is
