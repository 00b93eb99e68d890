use Rattle.std.proofs.Common.{◌≡◌, length, ◌==◌, rules}
use Rattle.std.proofs.lemmas.Result.{err_from_is_err_and}
use Rattle.net_parser.proofs.Turns.{place_is, place-push, text-push}
use Rattle.net_parser.proofs.reader.Reader.text.Goals as goal

pub returns-in_err-block-clause-follows : goal.returns-in_err-block-clause-follows
returns-in_err-block-clause-follows c =
    let p = err_from_is_err_and c.from_residual.result c.from_residual.ensures.1 in
    let first : c.is_empty.result ≡ (length c.loop-alloc.blocks.items == 0) = search rules in
    let place = place_is c.loop-alloc.blocks.items c.is_empty.result first in
    rw (p.1, p.2, c.loop-alloc.invariant.follows, ← place) c.in_err-block.ensures.follows

pub loop-alloc-preserved : goal.loop-alloc-preserved
loop-alloc-preserved c =
    let first : c.is_empty.result ≡ (length c.loop-alloc.blocks.items == 0) = search rules in
    let place = place_is c.loop-alloc.blocks.items c.is_empty.result first in
    record {
      read = rw c.in_ok-push.ensures.items (text-push c.loop-alloc.blocks.items c.is_empty.result c.in_ok-block.block c.args.self.now c.loop-alloc.self c.block.new.self first c.loop-alloc.invariant.read c.in_ok-block.ensures.rule);
      follows = rw (c.in_ok-push.ensures.items, place-push, c.loop-alloc.invariant.follows, ← place) c.in_ok-block.ensures.follows;
    }
