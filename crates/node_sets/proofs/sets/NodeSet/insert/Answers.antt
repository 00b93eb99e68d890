use Rattle.std.proofs.Common.{◌≡◌, ◌<◌, ◌/◌, length, sym, ◌∙◌, rules, arith}
use Rattle.std.specs.Int.{w64}
use Rattle.std.proofs.lemmas.Nat.Bits.{bit_at_set_same, bit_at_set_other}
use Rattle.node_sets.proofs.Bits.{small}
use Rattle.node_sets.proofs.Words.{gains}
use Rattle.node_sets.proofs.sets.NodeSet.insert.Goals as goal

pub returns : goal.returns
returns c =
    let four : length c.args.self.now.words ≡ 4 = search rules in
    let within : c.args.v / 64 < length c.args.self.now.words = let l = c.requires in omega arith in
    gains c.args.self.now.words c.args.v _ within c.requires (sym c.holds.ensures ∙ c.if-holds.false)
    (bit_at_set_same w64 _ _ (small c.args.v)) (λ i _ n. bit_at_set_other w64 _ _ (small c.args.v) i n)
