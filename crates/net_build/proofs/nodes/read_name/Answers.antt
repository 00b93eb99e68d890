-- The count of nodes, the size of the name, and the names before it.
use Rattle.std.proofs.Common.{length, ap, sym, ◌∙◌}
use Rattle.net_build.specs.declared.faults.BuildFault.TheVariants.{Fault}
use Rattle.net_build.specs.declared.faults.BuildKind.TheVariants as kinds
use Rattle.net_build.specs.declared.faults.Limit.TheVariants as limits
use Rattle.net_lexer.specs.Token.{token_bytes}
use Rattle.net_lexer.specs.declared.tokens.Token.{Token}
use Rattle.net_build.proofs.NodeLemmas.{many_nodes, long_name, double_name, good_name, some_has, none_lacks}
use Rattle.net_build.proofs.nodes.read_name.Goals as goal

pub returns-then-len-ge-MOST_NODES-clause-rows : goal.returns-then-len-ge-MOST_NODES-clause-rows
returns-then-len-ge-MOST_NODES-clause-rows c = many_nodes c.args.text.now c.args.names.now c.args.block.now _ (rw c.len.ensures at c.if-len-ge-MOST_NODES.true)
    (c.at.ensures ∙ ap (λ (t : Token). Fault t.start (kinds.LimitPassed limits.Nodes 257)) c.title-title.ensures)

pub returns-then-name-gt-MOST_NAME_BYTES-clause-rows : goal.returns-then-name-gt-MOST_NAME_BYTES-clause-rows
returns-then-name-gt-MOST_NAME_BYTES-clause-rows c = long_name c.args.text.now c.args.names.now c.args.block.now _ (length c.bytes-name.result.now) (rw c.len.ensures at c.if-len-ge-MOST_NODES.false)
    (ap length (c.bytes-name.ensures ∙ ap (token_bytes c.args.text.now) c.title-title.ensures))
    c.if-name-gt-MOST_NAME_BYTES.true
    (c.at-then-name-gt-MOST_NAME_BYTES.ensures ∙ ap (λ (t : Token). Fault t.start (kinds.LimitPassed limits.NameBytes (length c.bytes-name.result.now))) c.title-title.ensures)

pub returns-then-is_some-clause-rows : goal.returns-then-is_some-clause-rows
returns-then-is_some-clause-rows c =
    let name = c.bytes-name.ensures ∙ ap (token_bytes c.args.text.now) c.title-title.ensures in
    double_name c.args.text.now c.args.names.now c.args.block.now _ (rw c.len.ensures at c.if-len-ge-MOST_NODES.false) (rw name at c.if-name-gt-MOST_NAME_BYTES.false)
    (rw name at (some_has _ c.place.result c.place.ensures (sym c.is_some.ensures ∙ c.if-is_some.true)))
    (c.at-then-is_some.ensures ∙ ap (λ (t : Token). Fault t.start kinds.DoubleName) c.title-title.ensures)

pub returns-clause-rows : goal.returns-clause-rows
returns-clause-rows c =
    let name = c.bytes-name.ensures ∙ ap (token_bytes c.args.text.now) c.title-title.ensures in
    good_name c.args.text.now c.args.names.now c.args.block.now (rw c.len.ensures at c.if-len-ge-MOST_NODES.false) (rw name at c.if-name-gt-MOST_NAME_BYTES.false)
    (rw name at (none_lacks _ c.place.result c.place.ensures (sym c.is_some.ensures ∙ c.if-is_some.false)))
