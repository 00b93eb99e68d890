-- A potential's rows are the first of those still to come, and it is entered where its head's name
-- stands.
use borrow.Author.Count.{falls}
use Rattle.std.proofs.lemmas.Result.{IfOk-from_err}
use Rattle.std.proofs.Common.{◌≡◌, ℕ, ◌<◌, ◌≤◌, true, false, List, length, get_or, All, Option, None, take, filter, sym, ap, subst, ◌∙◌}
use Rattle.std.proofs.lemmas.List.{take_all, map-set, length-map}
use Rattle.std.proofs.lemmas.List.Elements.{All-set}
use Rattle.std.specs.Global.{Vec}
use Rattle.std.specs.Option.{option_map}
use Rattle.net_build.proofs.FitLemmas.{none_fit_all}
use Rattle.net_parser.specs.Owned.{IsBlockOf}
use Rattle.net_parser.specs.Trees.{BlockTree}
use Rattle.net_parser.specs.Grammar.{is_potential}
use Rattle.net_build.specs.Linking.{borrowed_trees, behind_rows, potentials_steps, potentials_among, parents_in, AreParents}
use Rattle.net_build.specs.Lists.{numbers_of_lists}
use Rattle.first_fault.proofs.HandedOn.{hands_on}
use Rattle.net_build.specs.Passes.{build_fault}
use Rattle.net_build.proofs.LinkPasses.{length_among, length_in}
use Rattle.first_fault.proofs.Leading.{after_refused, after_skip, after_step, leads_all, filter_front_no, after_end}
use Rattle.net_build.proofs.PotentialLemmas.{none_among, none_in, entered_from, parents_from}
use Rattle.net_build.proofs.potentials.enter_potentials.Goals as goal
use Rattle.net_build.proofs.potentials.enter_potentials.Goals.{then-is_potential+in_ok-node, else-is_potential}

pub loop-block-init : goal.loop-block-init
loop-block-init c = record {
  potentials = c.requires.no_potentials ∙ none_among c.args.text.now c.args.names.now;
  parents = c.requires.no_parents ∙ none_in c.args.text.now c.args.names.now (length c.args.names.now) ∙ ap (parents_in c.args.text.now c.args.names.now) (sym c.requires.no_potentials);
  fit = subst (All (AreParents c.args.heads.now)) (sym c.requires.no_parents) (none_fit_all c.args.heads.now (length c.args.names.now));
  lead = leads_all _;
}

pub read_potential-requires-clause-block : goal.read_potential-requires-clause-block
read_potential-requires-clause-block c =
    let blocks : c.deref-block-items.result.now ≡ c.args.syntax.now = c.deref-block-items.ensures.value ∙ c.syntax.view_is in
    let within : c.loop-block.block-index < length c.args.syntax.now = subst (λ (bs : List BlockTree). c.loop-block.block-index < length bs) blocks c.loop-block-test.true in
    let is : c.block-item.result ≡ get_or c.args.syntax.now c.loop-block.block-index c.block-item.result = c.block-item.is ∙ ap (λ bs. get_or bs c.loop-block.block-index c.block-item.result) blocks in
    subst (IsBlockOf c.args.text.now) (sym is) (c.requires.blocks c.loop-block.block-index c.block-item.result within)

pub read_potential-requires-clause-potential : goal.read_potential-requires-clause-potential
read_potential-requires-clause-potential c = sym c.is_potential.ensures ∙ c.if-is_potential.true

pub read_potential-requires-clause-potentials : goal.read_potential-requires-clause-potentials
read_potential-requires-clause-potentials c =
    ap length c.deref.ensures.value ∙ sym (length-map c.loop-block.potentials.items (option_map (λ p. p.now)))
    ∙ length_among c.args.text.now c.args.names.now (filter (λ b. is_potential b.kind) (take c.loop-block.block-index c.args.syntax.now)) (borrowed_trees c.loop-block.potentials.items) c.loop-block.invariant.potentials

pub enter-requires-clause-parents : goal.enter-requires-clause-parents
enter-requires-clause-parents c =
    let trees = borrowed_trees c.loop-block.potentials.items in
    let count : length c.loop-block.parents.items ≡ length c.args.names.now =
    sym (length-map c.loop-block.parents.items (λ (v : Vec ℕ). v.items))
    ∙ length_in c.args.text.now c.args.names.now trees (numbers_of_lists c.loop-block.parents.items) c.loop-block.invariant.parents
    ∙ length_among c.args.text.now c.args.names.now (filter (λ b. is_potential b.kind) (take c.loop-block.block-index c.args.syntax.now)) trees c.loop-block.invariant.potentials in
    subst (λ n. c.in_ok-node.node < n) (sym count) c.in_ok-node.ensures.within

pub enter-requires-clause-potentials : goal.enter-requires-clause-potentials
enter-requires-clause-potentials c =
    let count : length c.loop-block.potentials.items ≡ length c.args.names.now =
    sym (length-map c.loop-block.potentials.items (option_map (λ p. p.now)))
    ∙ length_among c.args.text.now c.args.names.now (filter (λ b. is_potential b.kind) (take c.loop-block.block-index c.args.syntax.now)) (borrowed_trees c.loop-block.potentials.items) c.loop-block.invariant.potentials in
    subst (λ n. c.in_ok-node.node < n) (sym count) c.in_ok-node.ensures.within

pub returns-in_err-node-clause-rows : goal.returns-in_err-node-clause-rows
returns-in_err-node-clause-rows c =
    let blocks : c.deref-block-items.result.now ≡ c.args.syntax.now = c.deref-block-items.ensures.value ∙ c.syntax.view_is in
    let within : c.loop-block.block-index < length c.args.syntax.now = subst (λ (bs : List BlockTree). c.loop-block.block-index < length bs) blocks c.loop-block-test.true in
    let is : c.block-item.result ≡ get_or c.args.syntax.now c.loop-block.block-index c.block-item.result = c.block-item.is ∙ ap (λ bs. get_or bs c.loop-block.block-index c.block-item.result) blocks in
    let kept : is_potential c.block-item.result.kind ≡ true = sym c.is_potential.ensures ∙ c.if-is_potential.true in
    let trees : borrowed_trees c.deref.result.now ≡ potentials_among c.args.text.now c.args.names.now (filter (λ b. is_potential b.kind) (take c.loop-block.block-index c.args.syntax.now)) = ap borrowed_trees c.deref.ensures.value ∙ c.loop-block.invariant.potentials in
    hands_on build_fault (potentials_steps c.args.text.now c.args.names.now c.args.heads.now c.args.syntax.now) _ _ c.from_residual.ensures
    (after_refused (behind_rows c.args.text.now c.args.names.now c.args.heads.now) (λ b. is_potential b.kind) c.args.syntax.now _ c.loop-block.block-index c.block-item.result _ within is kept c.loop-block.invariant.lead
    (rw (← trees) c.in_err-node.ensures.rows))

pub loop-block-preserved : goal.loop-block-preserved
loop-block-preserved c =
    let blocks : c.deref-block-items.result.now ≡ c.args.syntax.now = c.deref-block-items.ensures.value ∙ c.syntax.view_is in
    let within : c.loop-block.block-index < length c.args.syntax.now = subst (λ (bs : List BlockTree). c.loop-block.block-index < length bs) blocks c.loop-block-test.true in
    let is : c.block-item.result ≡ get_or c.args.syntax.now c.loop-block.block-index c.block-item.result = c.block-item.is ∙ ap (λ bs. get_or bs c.loop-block.block-index c.block-item.result) blocks in
    elim c.if-is_potential.branch [
      | then-is_potential+in_ok-node w ↦
          let kept : is_potential c.block-item.result.kind ≡ true = sym c.is_potential.ensures ∙ w.if-is_potential.true in
          let trees : borrowed_trees w.deref.result.now ≡ potentials_among c.args.text.now c.args.names.now (filter (λ b. is_potential b.kind) (take c.loop-block.block-index c.args.syntax.now)) = ap borrowed_trees w.deref.ensures.value ∙ c.loop-block.invariant.potentials in
          let rows : behind_rows c.args.text.now c.args.names.now c.args.heads.now (filter (λ b. is_potential b.kind) (take c.loop-block.block-index c.args.syntax.now)) c.block-item.result None = rw (← trees) w.in_ok-node.ensures.rows in
          let now : borrowed_trees c.if-is_potential.potentials.items ≡ borrowed_trees w.enter.new.potentials.items = ap (λ (v : Vec (Option _)). borrowed_trees v.items) w.potentials-is in
          let made = now ∙ ap borrowed_trees w.enter.ensures.potentials ∙ map-set (option_map (λ p. p.now)) _ w.in_ok-node.node _ in
          let new : numbers_of_lists c.if-is_potential.parents.items ≡ numbers_of_lists w.enter.new.parents.items = ap (λ (v : Vec (Vec ℕ)). numbers_of_lists v.items) w.parents-is in
          record {
            potentials = entered_from c.args.text.now c.args.names.now c.args.syntax.now c.loop-block.block-index c.block-item.result w.in_ok-node.node _ _ within is kept c.requires.names w.in_ok-node.ensures.within w.in_ok-node.ensures.node rows.1.0 c.loop-block.invariant.potentials made;
            parents = parents_from c.args.text.now c.args.names.now w.in_ok-node.node c.block-item.result _ _ _ _ _ w.in_ok-node.ensures.parents c.loop-block.invariant.parents made (new ∙ w.enter.ensures.parents);
            fit = subst (All (AreParents c.args.heads.now)) (sym (new ∙ w.enter.ensures.parents)) (All-set (AreParents c.args.heads.now) _ w.in_ok-node.node _ w.in_ok-node.ensures.fit c.loop-block.invariant.fit);
            lead = after_step (behind_rows c.args.text.now c.args.names.now c.args.heads.now) (λ b. is_potential b.kind) c.args.syntax.now _ c.loop-block.block-index c.block-item.result within is kept c.loop-block.invariant.lead rows;
          }
      | else-is_potential w ↦
          let left : is_potential c.block-item.result.kind ≡ false = sym c.is_potential.ensures ∙ w.if-is_potential.false in
          let now : borrowed_trees c.if-is_potential.potentials.items ≡ borrowed_trees c.loop-block.potentials.items = ap (λ (v : Vec (Option _)). borrowed_trees v.items) w.potentials-is in
          let new : numbers_of_lists c.if-is_potential.parents.items ≡ numbers_of_lists c.loop-block.parents.items = ap (λ (v : Vec (Vec ℕ)). numbers_of_lists v.items) w.parents-is in
          record {
            potentials = now ∙ c.loop-block.invariant.potentials ∙ ap (potentials_among c.args.text.now c.args.names.now) (sym (filter_front_no (λ b. is_potential b.kind) c.args.syntax.now c.loop-block.block-index c.block-item.result within is left));
            parents = new ∙ c.loop-block.invariant.parents ∙ ap (parents_in c.args.text.now c.args.names.now) (sym now);
            fit = subst (All (AreParents c.args.heads.now)) (sym new) c.loop-block.invariant.fit;
            lead = after_skip (behind_rows c.args.text.now c.args.names.now c.args.heads.now) (λ b. is_potential b.kind) c.args.syntax.now _ c.loop-block.block-index c.block-item.result within is left c.loop-block.invariant.lead;
          }
    ]

pub returns-clause-links : goal.returns-clause-links
returns-clause-links c =
    let blocks : c.deref-block-items.result.now ≡ c.args.syntax.now = c.deref-block-items.ensures.value ∙ c.syntax.view_is in
    let end : length c.args.syntax.now ≤ c.loop-block.block-index = subst (λ (bs : List BlockTree). length bs ≤ c.loop-block.block-index) blocks c.loop-block-test.false in
    record {
      potentials = c.loop-block.invariant.potentials ∙ ap (λ bs. potentials_among c.args.text.now c.args.names.now (filter (λ b. is_potential b.kind) bs)) (take_all c.loop-block.block-index c.args.syntax.now end);
      parents = c.loop-block.invariant.parents;
      fit = c.loop-block.invariant.fit;
    }

pub bounds-block-items-block-index : goal.bounds-block-items-block-index
bounds-block-items-block-index c = c.loop-block-test.true

pub read_potential-requires-clause-heads : goal.read_potential-requires-clause-heads
read_potential-requires-clause-heads c = c.requires.heads

pub returns-in_err-node-clause-links : goal.returns-in_err-node-clause-links
returns-in_err-node-clause-links c = IfOk-from_err _ _ c.from_residual.ensures.0

pub loop-block-smaller : goal.loop-block-smaller
loop-block-smaller c = falls _ _ c.loop-block-test.true

pub returns-clause-rows : goal.returns-clause-rows
returns-clause-rows c =
    let blocks : c.deref-block-items.result.now ≡ c.args.syntax.now = c.deref-block-items.ensures.value ∙ c.syntax.view_is in
    let end : length c.args.syntax.now ≤ c.loop-block.block-index = subst (λ (bs : List BlockTree). length bs ≤ c.loop-block.block-index) blocks c.loop-block-test.false in
    after_end (behind_rows c.args.text.now c.args.names.now c.args.heads.now) (λ b. is_potential b.kind) c.args.syntax.now (potentials_steps c.args.text.now c.args.names.now c.args.heads.now c.args.syntax.now) c.loop-block.block-index end c.loop-block.invariant.lead
