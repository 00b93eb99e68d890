use Rattle.std.proofs.Common.{◌≡◌, ◌<◌, ◌/◌, length, rules, arith}
use Rattle.std.specs.Int.{w64}
use Rattle.std.proofs.lemmas.Nat.Bits.{bit_at_clear_same, bit_at_clear_other}
use Rattle.node_sets.proofs.Bits.{small}
use Rattle.node_sets.proofs.Words.{loses}
use Rattle.node_sets.proofs.sets.NodeSet.remove.Goals as goal

pub returns : goal.returns
returns c =
    let four : length c.args.self.now.words ≡ 4 = search rules in
    let within : c.args.v / 64 < length c.args.self.now.words = let l = c.requires in omega arith in
    loses c.args.self.now.words c.args.v _ within (bit_at_clear_same w64 _ _ (small c.args.v)) (λ i l n. bit_at_clear_other w64 _ _ (small c.args.v) i l n)
