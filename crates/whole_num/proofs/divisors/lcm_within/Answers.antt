use Rattle.std.proofs.Common.{ℕ, arith, ◌≤◌, ◌<◌, Option, None, Some, IfSome, IfNone, sym, subst}
use Rattle.std.specs.Option.{SomeIff}
use Rattle.whole_num.specs.Divisors.{IsLcm}
use Rattle.whole_num.proofs.Multiples.{lcm_by_gcd, lcm_positive}
use Rattle.whole_num.proofs.divisors.lcm_within.Goals as goal

some_is : (o : Option ℕ) (a b limit m : ℕ) → SomeIff o (m ≤ limit) m → IsLcm a b m → 0 < m → IfSome o (λ l. IsLcm a b l × (0 < l) × (l ≤ limit))
some_is None a b limit m s p h = tt
some_is (Some x) a b limit m s p h = (subst (IsLcm a b) (sym s.1) p, rw s.1 h, rw s.1 s.0)

none_is : (o : Option ℕ) (a b limit m : ℕ) → SomeIff o (m ≤ limit) m → IsLcm a b m → IfNone o ((l : ℕ) × IsLcm a b l × (limit < l))
none_is None a b limit m s p = (m, p, omega (arith, s))
none_is (Some x) a b limit m s p = tt

pub nonzero_div-a : goal.nonzero_div-a
nonzero_div-a c = c.gcd.ensures.positive (omega arith)

pub returns-clause-some : goal.returns-clause-some
returns-clause-some c = let is = lcm_by_gcd _ _ _ c.requires.b_positive c.gcd.ensures.greatest in
    some_is c.mul_within.result c.args.a c.args.b c.args.limit _ c.mul_within.ensures is (lcm_positive c.args.a c.args.b _ c.requires.a_positive c.requires.b_positive is)

pub returns-clause-none : goal.returns-clause-none
returns-clause-none c = none_is c.mul_within.result _ _ c.args.limit _ c.mul_within.ensures (lcm_by_gcd _ _ _ c.requires.b_positive c.gcd.ensures.greatest)
