use Rattle.std.proofs.Common.{rules, FitsSigned, sym}
use Rattle.std.specs.Int.{w128}
use Rattle.std.proofs.lemmas.Int.{to_z-of_z}
use Rattle.maid_model.proofs.answers.Ratio.reduced.Goals as goal

pub returns : goal.returns
returns c =
    let fits : FitsSigned w128 c.reduce-num.result.0 = search rules in
    let fits_num : FitsSigned w128 c.args.num = c.ranges.num in
    let same = simp to_z-of_z at c.reduce-num.ensures.same in
    simp to_z-of_z (record {
      reduced = record { positive = c.reduce-num.ensures.reduced.0; coprime = c.reduce-num.ensures.reduced.1 };
      same = sym same;
    })
