use Rattle.std.proofs.Common.{◌≡◌, length, refl, rules}
use Rattle.std.specs.Int.RustNames.{bit_or}
use Rattle.std.proofs.lemmas.Nat.Bits.{bit_at_or, bit_at-lt}
use Rattle.node_sets.specs.Sets.{holds}
use Rattle.node_sets.proofs.Bits.{four_words, bit_of, either_bit}
use Rattle.node_sets.proofs.sets.NodeSet.union.Goals as goal

pub returns : goal.returns
unfolding holds
returns c x =
    let a : length c.args.self.now.words ≡ 4 = search rules in
    let b : length c.args.other.now.words ≡ 4 = search rules in
    rw (four_words c.args.self.now.words c.args.other.now.words a b bit_or refl, bit_at_or) (either_bit (bit_of c.args.self.now.words x) (bit_of c.args.other.now.words x) (bit_at-lt _ _) (bit_at-lt _ _))
