use Rattle.std.proofs.lemmas.Nat.Gcd.{dvd_of_mod-eq-zero}
use Rattle.text_tests.proofs.numbers.compare_total.Goals as goal

pub plain_total-requires-clause-whole : goal.plain_total-requires-clause-whole
plain_total-requires-clause-whole g c = dvd_of_mod-eq-zero c.args.states c.requires.whole
