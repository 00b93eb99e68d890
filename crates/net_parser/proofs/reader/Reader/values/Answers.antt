use Rattle.std.proofs.Common.{◌≤◌, ◌∙◌, ap, drop, length, arith}
use Rattle.net_parser.proofs.Nests.{leads_into_list, leads_out_of_list, leads_past_leaf, leaf_passed, list_ended, list_opened, list_passed}
use Rattle.net_parser.proofs.Stopped.{leaf_kind}
use Rattle.net_parser.proofs.reader.Reader.values.Goals as goal
use Rattle.net_parser.proofs.reader.Reader.values.Goals.{in-Text, in-ParenOpen-2, in-ParenClose-2}

pub returns-in-ParenClose-clause-rule : goal.returns-in-ParenClose-clause-rule
returns-in-ParenClose-clause-rule c =
    list_passed c.args.depth c.loop-token.level c.args.self.now c.loop-token.self c.advance.new.self _ c.in-Some.ensures.some c.advance.ensures c.in-ParenClose.is c.if-level-eq0.true c.loop-token.invariant.leads

-- a leaf, a list that opens, or one that closes inside
pub loop-token-preserved : goal.loop-token-preserved
loop-token-preserved c =
    let old = c.args.self.now in
    let now = c.loop-token.self in
    let depth = c.args.depth in
    let level = c.loop-token.level in
    let further = c.match-token.level in
    let here = c.in-Some.ensures.some in
    let before = c.loop-token.invariant in
    let shorter : length (drop 1 now) ≤ length old = omega (arith, before.shorter, ap length here) in
    rw c.advance-in-Some.ensures (elim c.match-token.branch [
      | in-Text w ↦ rw w.level-is (record {
        few = before.few;
        leads = leads_past_leaf depth level old now _ _ here (leaf_kind _ w.in-Text.is) before.leads;
        follows = λ after. before.follows after ∙ leaf_passed depth level after _ now _ here (leaf_kind _ w.in-Text.is);
        shorter = shorter;
      })
      | in-ParenOpen-2 w ↦ record {
        few = omega (arith, before.few, w.level-is, w.if-level-depth.false);
        leads = leads_into_list depth level old now _ _ here w.in-ParenOpen-2.is (omega (arith, before.few, w.if-level-depth.false)) further w.level-is before.leads;
        follows = λ after. before.follows after ∙ list_opened depth level after _ now _ here w.in-ParenOpen-2.is (omega (arith, before.few, w.if-level-depth.false)) further w.level-is;
        shorter = shorter;
      }
      | in-ParenClose-2 w ↦ record {
        few = omega (arith, before.few, w.level-is);
        leads = leads_out_of_list depth level old now _ _ here w.in-ParenClose-2.is further (omega (arith, w.level-is, w.if-level-eq0.false)) before.leads;
        follows = λ after. before.follows after ∙ list_ended depth level after _ now _ here w.in-ParenClose-2.is further (omega (arith, w.level-is, w.if-level-eq0.false));
        shorter = shorter;
      }
    ])
