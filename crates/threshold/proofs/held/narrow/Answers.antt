use Rattle.std.proofs.Common.{◌≡◌, ◌+◌, ◌∙◌, ◌<◌, ◌^◌, nat_abs, FitsSigned, ℕ, ℤ, ap, arith, to_z, of_z}
use Rattle.std.specs.Int.{w128}
use Rattle.std.proofs.lemmas.Int.{to_z-of_z}
use Rattle.threshold.specs.declared.held.Part.{Part}
use Rattle.threshold.specs.Held.{IsPart}
use Rattle.threshold.proofs.Narrowing.{cut_low, cut_high, cut_none, below_nought, from_nought, of_negative}
use Rattle.threshold.proofs.held.narrow.Goals as goal

pub returns-then-nought-lt0 : goal.returns-then-nought-lt0
returns-then-nought-lt0 c =
    let fits : FitsSigned w128 c.args.nought = c.ranges.nought in
    let fits_one : FitsSigned w128 c.args.one = c.ranges.one in
    let turn : Part = record { num = c.unsigned_abs.result; den = c.unsigned_abs-2.result + c.unsigned_abs-3.result } in
    let a : c.unsigned_abs.result ≡ nat_abs c.args.nought = simp to_z-of_z at c.unsigned_abs.ensures.value in
    let b : c.unsigned_abs-2.result ≡ nat_abs c.args.nought = simp to_z-of_z at c.unsigned_abs-2.ensures.value in
    let d : c.unsigned_abs-3.result ≡ nat_abs c.args.one = simp to_z-of_z at c.unsigned_abs-3.ensures.value in
    let below = below_nought c.args.nought (simp to_z-of_z at c.if-nought-lt0.true) in
    cut_low c.args.held c.greater.result turn c.args.nought c.args.one c.requires.range c.greater.ensures.part c.greater.ensures.from a (λ i. b i + d i) below c.requires.somewhere

pub returns-then-one-lt0 : goal.returns-then-one-lt0
returns-then-one-lt0 c =
    let fits : FitsSigned w128 c.args.nought = c.ranges.nought in
    let fits_one : FitsSigned w128 c.args.one = c.ranges.one in
    let turn : Part = record { num = c.unsigned_abs.result; den = c.unsigned_abs-2.result + c.unsigned_abs-3.result } in
    let a : c.unsigned_abs.result ≡ nat_abs c.args.nought = simp to_z-of_z at c.unsigned_abs.ensures.value in
    let b : c.unsigned_abs-2.result ≡ nat_abs c.args.nought = simp to_z-of_z at c.unsigned_abs-2.ensures.value in
    let d : c.unsigned_abs-3.result ≡ nat_abs c.args.one = simp to_z-of_z at c.unsigned_abs-3.ensures.value in
    let not_below = from_nought c.args.nought (simp to_z-of_z at c.if-nought-lt0.false) in
    let below = below_nought c.args.one (simp to_z-of_z at c.if-one-lt0.true) in
    cut_high c.args.held c.lesser.result turn c.args.nought c.args.one c.requires.range c.lesser.ensures.part c.lesser.ensures.up_to a (λ i. b i + d i) not_below below

size : (z : ℤ) (n : ℕ) → FitsSigned w128 z → n ≡ nat_abs (to_z w128 (of_z w128 z)) → n ≡ nat_abs z
size z n fits e = e ∙ ap nat_abs (to_z-of_z w128 z fits)

-- where the number is nought
turn_is : (a b d : ℕ) (nought one : ℤ) → a ≡ nat_abs nought → b ≡ nat_abs nought → d ≡ nat_abs one → nat_abs nought < 2 ^ 127 → 0 < nat_abs nought + nat_abs one → IsPart (record { num = a; den = b + d })
turn_is a b d nought one e f g h k = record { positive = omega (arith, f, g, k); at_most = omega (arith, e, f); room = omega (arith, e, h) }

pub greater-requires-clause-b : goal.greater-requires-clause-b
greater-requires-clause-b c =
    let fits : FitsSigned w128 c.args.nought = c.ranges.nought in
    let some = (of_negative c.args.nought (below_nought c.args.nought (simp to_z-of_z at c.if-nought-lt0.true))).0 in
    turn_is _ _ _ c.args.nought c.args.one (size c.args.nought _ c.ranges.nought c.unsigned_abs.ensures.value) (size c.args.nought _ c.ranges.nought c.unsigned_abs-2.ensures.value) (size c.args.one _ c.ranges.one c.unsigned_abs-3.ensures.value) c.requires.nought (omega (arith, some))

pub lesser-requires-clause-b : goal.lesser-requires-clause-b
lesser-requires-clause-b c =
    let fits : FitsSigned w128 c.args.one = c.ranges.one in
    let some = (of_negative c.args.one (below_nought c.args.one (simp to_z-of_z at c.if-one-lt0.true))).0 in
    turn_is _ _ _ c.args.nought c.args.one (size c.args.nought _ c.ranges.nought c.unsigned_abs.ensures.value) (size c.args.nought _ c.ranges.nought c.unsigned_abs-2.ensures.value) (size c.args.one _ c.ranges.one c.unsigned_abs-3.ensures.value) c.requires.nought (omega (arith, some))

pub returns-else-one-lt0 : goal.returns-else-one-lt0
returns-else-one-lt0 c =
    let fits : FitsSigned w128 c.args.nought = c.ranges.nought in
    let fits_one : FitsSigned w128 c.args.one = c.ranges.one in
    cut_none c.args.held c.args.nought c.args.one c.requires.range (from_nought c.args.nought (simp to_z-of_z at c.if-nought-lt0.false)) (from_nought c.args.one (simp to_z-of_z at c.if-one-lt0.false))
