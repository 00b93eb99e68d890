use Rattle.std.proofs.Common.{◌≡◌, length, refl, rules}
use Rattle.std.specs.Int.RustNames.{bit_and}
use Rattle.std.proofs.lemmas.Nat.Bits.{bit_at_and, bit_at-lt}
use Rattle.node_sets.specs.Sets.{holds}
use Rattle.node_sets.proofs.Bits.{four_words, bit_of, both_bits}
use Rattle.node_sets.proofs.sets.NodeSet.intersection.Goals as goal

pub returns : goal.returns
unfolding holds
returns c x =
    let a : length c.args.self.now.words ≡ 4 = search rules in
    let b : length c.args.other.now.words ≡ 4 = search rules in
    rw (four_words c.args.self.now.words c.args.other.now.words a b bit_and refl, bit_at_and) (both_bits (bit_of c.args.self.now.words x) (bit_of c.args.other.now.words x) (bit_at-lt _ _) (bit_at-lt _ _))
