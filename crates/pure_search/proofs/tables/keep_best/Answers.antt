use Rattle.std.proofs.Common.{◌≡◌, ◌∙◌, ◌<◌, All, length, get_or, eqb, true, false, sym, ap, subst, arith}
use Rattle.std.proofs.lemmas.Result.{IfOk-from_err}
use Rattle.maid_laws.proofs.Booleans.{eqb_yes}
use Rattle.pure_search.specs.Games.{KeepsGreatest, choice_lists, owners_for}
use Rattle.pure_search.proofs.Marking.{gains_count, keys_count, none_fewer, one_more}
use Rattle.pure_search.proofs.tables.keep_best.Goals as goal

pub returns-then-not-contains : goal.returns-then-not-contains
returns-then-not-contains c =
    let owners : c.deref.result.now ≡ owners_for c.args.diagram.now.nodes = c.deref.ensures.value ∙ c.requires.game.owners_are in
    none_fewer c.args.diagram.now.nodes c.args.agent
    (λ i l e.
    let other : eqb (get_or c.deref.result.now i 0) c.args.agent ≡ false = c.if-not-contains.ensures.cases i 0 (omega arith) (subst (λ os. i < length os) (sym owners) l) in
    let own : eqb (get_or c.deref.result.now i 0) c.args.agent ≡ true = eqb_yes (get_or c.deref.result.now i 0) c.args.agent (ap (λ os. get_or os i 0) owners ∙ e) in
    let clash : true ≡ false = sym own ∙ other in cc)
    c.args.marks.now c.requires.marks

pub returns : goal.returns
returns c =
    one_more c.args.diagram.now.nodes c.args.agent c.in_ok-table.table.keys.items c.in_ok-table.table.gains.items c.in_ok-table.ensures c.args.marks.now c.keep_greatest.new.marks c.requires.marks
    (subst (λ ks. KeepsGreatest ks c.in_ok-table.table.gains.items c.args.marks.now c.keep_greatest.new.marks) c.deref-2.ensures.value
    (subst (λ gs. KeepsGreatest c.deref-2.result.now gs c.args.marks.now c.keep_greatest.new.marks) c.deref-3.ensures.value c.in_ok-keep_greatest.ensures))

pub returns-in_err-table : goal.returns-in_err-table
returns-in_err-table c = IfOk-from_err _ _ c.from_residual.ensures.0

pub table_for-requires-clause-game : goal.table_for-requires-clause-game
table_for-requires-clause-game c = c.requires.game

pub table_for-requires-clause-agent : goal.table_for-requires-clause-agent
table_for-requires-clause-agent c = c.requires.agent

pub table_for-requires-clause-bound : goal.table_for-requires-clause-bound
table_for-requires-clause-bound c = c.requires.bound

pub keep_greatest-requires-clause-len : goal.keep_greatest-requires-clause-len
keep_greatest-requires-clause-len c =
    ap length c.deref-2.ensures.value ∙ keys_count c.args.diagram.now.nodes c.args.agent c.in_ok-table.table.keys.items c.in_ok-table.table.gains.items c.in_ok-table.ensures
    ∙ sym (ap length c.deref-3.ensures.value ∙ gains_count c.args.diagram.now.nodes c.args.agent c.in_ok-table.table.keys.items c.in_ok-table.table.gains.items c.in_ok-table.ensures)

pub keep_greatest-requires-clause-keys : goal.keep_greatest-requires-clause-keys
keep_greatest-requires-clause-keys c =
    let count : length c.deref-3.result.now ≡ length (choice_lists c.args.diagram.now.nodes) = ap length c.deref-3.ensures.value ∙ gains_count c.args.diagram.now.nodes c.args.agent c.in_ok-table.table.keys.items c.in_ok-table.table.gains.items c.in_ok-table.ensures in
    subst (λ n. All (λ key. key < n) c.deref-2.result.now) (sym count) (subst (All (λ key. key < length (choice_lists c.args.diagram.now.nodes))) (sym c.deref-2.ensures.value) c.in_ok-table.ensures.within)

pub keep_greatest-requires-clause-marks : goal.keep_greatest-requires-clause-marks
keep_greatest-requires-clause-marks c =
    c.requires.marks.len ∙ sym (ap length c.deref-3.ensures.value ∙ gains_count c.args.diagram.now.nodes c.args.agent c.in_ok-table.table.keys.items c.in_ok-table.table.gains.items c.in_ok-table.ensures)
