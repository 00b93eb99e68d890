use Rattle.std.proofs.Common.{◌≡◌, rules, FitsSigned, pos, sym, subst, ◌*ℤ◌, to_z}
use Rattle.std.specs.Int.{w128}
use Rattle.std.proofs.lemmas.Int.{to_z-of_z, to_z_pos}
use Rattle.threshold.proofs.interval.fraction.Goals as goal

pub returns : goal.returns
returns c =
    let fits : FitsSigned w128 c.reduce-num.result.0 = search rules in
    let e : to_z w128 c.args.num ≡ pos c.args.num = to_z_pos w128 c.args.num c.requires.num in
    simp to_z-of_z (record {
      reduced = record { positive = c.reduce-num.ensures.reduced.0; coprime = c.reduce-num.ensures.reduced.1 };
      same = sym (subst (λ z. z *ℤ pos c.reduce-num.result.1 ≡ c.reduce-num.result.0 *ℤ pos c.args.den) e c.reduce-num.ensures.same);
    })
