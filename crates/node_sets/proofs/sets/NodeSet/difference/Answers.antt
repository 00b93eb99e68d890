use Rattle.std.proofs.Common.{◌≡◌, ℕ, ◌<◌, ◌-◌, ◌/◌, ◌^◌, length, get_or, refl, rules}
use Rattle.std.specs.Int.{w64}
use Rattle.std.specs.Int.RustNames.{bit_and}
use Rattle.std.proofs.lemmas.Nat.Bits.{bit_at_and, bit_at_not, bit_at-lt}
use Rattle.node_sets.specs.Sets.{holds}
use Rattle.node_sets.proofs.Bits.{four_words, bit_of, without_bit, small}
use Rattle.node_sets.proofs.sets.NodeSet.difference.Goals as goal

pub returns : goal.returns
unfolding holds
returns c x =
    let a : length c.args.self.now.words ≡ 4 = search rules in
    let b : length c.args.other.now.words ≡ 4 = search rules in
    let fits : (k : ℕ) → get_or c.args.other.now.words k 0 < 2 ^ 64 = search rules in
    rw (four_words c.args.self.now.words c.args.other.now.words a b (λ w v. bit_and w (2 ^ 64 - 1 - v)) refl, bit_at_and, bit_at_not w64 _ _ (fits (x / 64)) (small x))
    (without_bit (bit_of c.args.self.now.words x) (bit_of c.args.other.now.words x) (bit_at-lt _ _) (bit_at-lt _ _))
