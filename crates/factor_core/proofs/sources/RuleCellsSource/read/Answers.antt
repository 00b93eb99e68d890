use Rattle.std.proofs.Common.{◌<◌, ◌∙◌, length, sym, arith}
use Rattle.std.proofs.lemmas.List.{get_or-map, length-map}
use Rattle.factor_core.proofs.sources.RuleCellsSource.read.Goals as goal

pub bounds-self-place : goal.bounds-self-place
bounds-self-place g c = omega (arith, c.requires.within, length-map c.args.self.now.cells.now g.C.Cell.of_weight)

pub weight-requires : goal.weight-requires
weight-requires g c =
    let within : c.args.place < length c.args.self.now.cells.now = omega (arith, c.requires.within, length-map c.args.self.now.cells.now g.C.Cell.of_weight) in
    c.requires.fit c.args.place 0 within

pub returns : goal.returns
returns g c =
    let within : c.args.place < length c.args.self.now.cells.now = omega (arith, c.requires.within, length-map c.args.self.now.cells.now g.C.Cell.of_weight) in
    c.weight.ensures ∙ sym (get_or-map g.C.Cell.of_weight c.args.self.now.cells.now c.args.place 0 g.C.Cell.ring.nought within)
