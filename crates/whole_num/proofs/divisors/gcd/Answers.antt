use Rattle.std.proofs.lemmas.Nat.Gcd.{IsGcd-from_mod, IsGcd-from_zero}
use Rattle.whole_num.proofs.Multiples.{gcd_positive}
use Rattle.whole_num.proofs.divisors.gcd.Goals as goal

pub returns-then-y-eq0-clause-greatest : goal.returns-then-y-eq0-clause-greatest
returns-then-y-eq0-clause-greatest c = c.euclid.invariant _ (IsGcd-from_zero c.euclid.x c.euclid.y c.if-y-eq0.true)

pub euclid-preserved : goal.euclid-preserved
euclid-preserved c = λ g h. c.euclid.invariant g (IsGcd-from_mod c.euclid.x c.euclid.y g h)

pub returns-clause-positive : goal.returns-clause-positive
returns-clause-positive c = gcd_positive c.args.a c.args.b _ (c.euclid.invariant _ c.gcd_small.ensures)
