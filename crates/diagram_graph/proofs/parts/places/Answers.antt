use Rattle.std.proofs.Common.{◌∙◌, get_or, arith}
use Rattle.std.proofs.lemmas.List.{length-set}
use Rattle.std.proofs.lemmas.List.Elements.{Contains-get_or}
use Rattle.diagram_graph.proofs.Kept.{told_more, told_all}
use Rattle.diagram_graph.proofs.parts.places.Goals as goal

pub offset_bounds-places-v : goal.offset_bounds-places-v
offset_bounds-places-v c = let l = c.requires.small _ (Contains-get_or c.args.kept.now c.loop-place.place 0 c.loop-place-test.true) in omega arith

pub bounds-places-v : goal.bounds-places-v
bounds-places-v c = c.requires.small _ (Contains-get_or c.args.kept.now c.loop-place.place 0 c.loop-place-test.true)

pub loop-place-preserved : goal.loop-place-preserved
loop-place-preserved c =
    let kept = c.args.kept.now in
    let low = c.requires.small _ (Contains-get_or kept c.loop-place.place 0 c.loop-place-test.true) in
    let len = c.loop-place.invariant.len in
    record {
      len = length-set c.loop-place.places (get_or kept c.loop-place.place 0) c.loop-place.place ∙ len;
      told = told_more kept c.loop-place.places c.loop-place.place c.requires.differ c.loop-place-test.true (omega arith) c.loop-place.invariant.told;
    }

pub returns : goal.returns
returns c = told_all c.args.kept.now c.loop-place.places c.loop-place.place (let l = c.loop-place-test.false in let k = c.loop-place.auto.place-end in omega arith) c.loop-place.invariant.told
