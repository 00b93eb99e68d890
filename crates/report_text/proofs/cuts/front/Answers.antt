use Rattle.std.proofs.Common.{◌≡◌, not, eqb, arith}
use Rattle.std.specs.List.{prefix_len}
use Rattle.std.proofs.lemmas.List.Sums.{prefix_len-le-length}
use Rattle.report_text.proofs.OneCut.{cut_front}
use Rattle.report_text.proofs.cuts.front.Goals as goal

pub split_at-requires : goal.split_at-requires
split_at-requires c = omega (arith, c.front_len.ensures, prefix_len-le-length (λ b. not (eqb b c.args.byte)) c.args.bytes.now)

pub returns : goal.returns
returns c =
    let is = cut_front c.args.byte c.args.bytes.now in
    let n : c.front_len.result ≡ prefix_len (λ b. not (eqb b c.args.byte)) c.args.bytes.now = c.front_len.ensures in
    rw (c.split_at.ensures.front, c.split_at.ensures.back, n) is
