use Rattle.std.proofs.lemmas.Nat.Gcd.{dvd_of_mod-eq-zero}
use Rattle.text_tests.proofs.numbers.have.Goals as goal

pub scale_rows-requires-clause-whole : goal.scale_rows-requires-clause-whole
scale_rows-requires-clause-whole c = dvd_of_mod-eq-zero c.args.states c.requires.whole
