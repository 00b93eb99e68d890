use Rattle.diagram_graph.proofs.Placings.{none_marked}
use Rattle.diagram_graph.specs.Needs.{IsMarkedIn}
use Rattle.std.proofs.lemmas.List.{length-replicate}
use Rattle.std.proofs.Common.{◌∙◌, Bool, false, List, length, ap, subst}
use Rattle.diagram_graph.proofs.placing.place_all.Goals as goal

pub place_in-requires-clause-items_len : goal.place_in-requires-clause-items_len
place_in-requires-clause-items_len g c = c.requires.items_len

pub place_in-requires-clause-needs : goal.place_in-requires-clause-needs
place_in-requires-clause-needs g c = c.requires.needs

pub place_in-requires-clause-placed_len : goal.place_in-requires-clause-placed_len
place_in-requires-clause-placed_len g c =
    let unmarked = c.deref_mut.ensures.value ∙ c.in_ok-placed.ensures.items_if_clones_equal (λ y e. e) in
    ap (λ (xs : List Bool). length xs) unmarked ∙ length-replicate c.count.result false ∙ c.count.ensures

pub place_in-requires-clause-none : goal.place_in-requires-clause-none
place_in-requires-clause-none g c v m =
    let unmarked = c.deref_mut.ensures.value ∙ c.in_ok-placed.ensures.items_if_clones_equal (λ y e. e) in
    none_marked c.count.result v (subst (λ (xs : List Bool). IsMarkedIn xs v) unmarked m)

pub returns : goal.returns
returns g c = c.place_in.ensures
