-- The potentials of utilities are picked from the blocks by one test in place of two.
use Rattle.std.proofs.Common.{◌≡◌, ℕ, ◌+◌, ◌<◌, ◌≤◌, ◌∙◌, List, [], ◌∷◌, ◌++◌, length, take, get_or, true, false, All, sym, ap, subst}
use Rattle.std.specs.List.{filter, flat_map}
use Rattle.std.proofs.lemmas.List.{append-nil, take_all}
use Rattle.std.proofs.lemmas.List.Elements.{All-get_or}
use Rattle.std.proofs.lemmas.Grind.{flat_map-append}
use Rattle.std.specs.Global.{Vec}
use Rattle.first_fault.proofs.Leading.{filter_front_no, filter_front_yes}
use Rattle.net_lexer.specs.declared.tokens.Token.{Token}
use Rattle.net_parser.specs.Owned.{IsBlockOf}
use Rattle.net_parser.specs.Trees.{BlockTree}
use Rattle.net_build.specs.Stages.{NodeLists}
use Rattle.maid_model.specs.Nodes.{is_utility}
use Rattle.net_parser.specs.Trees.{BlockTree}
use Rattle.net_parser.specs.Grammar.{is_potential}
use Rattle.std.proofs.lemmas.Result.{IfOk-from_err}
use Rattle.net_build.specs.Blocks.{block_name, data_of, leaves_of}
use Rattle.net_build.specs.Table.{kind_in}
use Rattle.net_build.specs.TableParts.{block_values, has_values}
use Rattle.net_build.proofs.BlockLemmas.{filter_filter}
use Rattle.net_build.proofs.utilities.utility_numbers.Goals.{then-has_values+in_ok-push_data, else-has_values}
use Rattle.net_build.proofs.utilities.utility_numbers.Goals as goal

own : (text : List ℕ) (syntax blocks : List BlockTree) (i : ℕ) (b : BlockTree) → All (IsBlockOf text) syntax → blocks ≡ syntax → i < length blocks → b ≡ get_or blocks i b → IsBlockOf text b
own text syntax blocks i b all same l is = subst (IsBlockOf text) (sym is) (All-get_or (IsBlockOf text) blocks i b l (subst (All (IsBlockOf text)) (sym same) all))

module _ (text : List ℕ) (nodes : NodeLists) (syntax blocks : List BlockTree) (i : ℕ) (b : BlockTree) where
  -- a block with values adds them
  values_yes : (before now : List Token) → blocks ≡ syntax → i < length blocks → b ≡ get_or blocks i b → has_values text nodes b ≡ true → before ≡ block_values text nodes (take i syntax) → now ≡ before ++ leaves_of (data_of text b) → now ≡ block_values text nodes (take (i + 1) syntax)
  values_yes before now same l is has so_far more =
      let f = λ (p : BlockTree). leaves_of (data_of text p) in
      more ∙ ap (λ ts. ts ++ f b) (so_far ∙ ap (λ bs. block_values text nodes (take i bs)) (sym same)) ∙ ap (λ ts. block_values text nodes (take i blocks) ++ ts) (sym (append-nil (f b)))
      ∙ sym (ap (flat_map f) (filter_front_yes (has_values text nodes) blocks i b l is has) ∙ flat_map-append f (filter (has_values text nodes) (take i blocks)) (b ∷ [])) ∙ ap (λ bs. block_values text nodes (take (i + 1) bs)) same

  values_no : (before : List Token) → blocks ≡ syntax → i < length blocks → b ≡ get_or blocks i b → has_values text nodes b ≡ false → before ≡ block_values text nodes (take i syntax) → before ≡ block_values text nodes (take (i + 1) syntax)
  values_no before same l is lacks so_far =
      so_far ∙ ap (λ bs. block_values text nodes (take i bs)) (sym same) ∙ ap (flat_map (λ p. leaves_of (data_of text p))) (sym (filter_front_no (has_values text nodes) blocks i b l is lacks)) ∙ ap (λ bs. block_values text nodes (take (i + 1) bs)) same

pub returns : goal.returns
returns c =
    let text = c.args.text.now in
    let nodes = c.args.nodes.now in
    let blocks : c.deref-block-items.result.now ≡ c.args.syntax.now = c.deref-block-items.ensures.value ∙ c.syntax.view_is in
    let end : length c.args.syntax.now ≤ c.loop-block.block-index = subst (λ (bs : List BlockTree). length bs ≤ c.loop-block.block-index) blocks c.loop-block-test.false in
    c.loop-block.invariant
    ∙ ap (block_values text nodes) (take_all c.loop-block.block-index c.args.syntax.now end)
    ∙ ap (flat_map (λ p. leaves_of (data_of text p))) (sym (filter_filter (λ b. is_potential b.kind) (λ b. is_utility (kind_in nodes (block_name text b))) c.args.syntax.now))

pub loop-block-init : goal.loop-block-init
loop-block-init c = c.new-tokens.ensures.items

pub returns-in_err-push_data : goal.returns-in_err-push_data
returns-in_err-push_data c = IfOk-from_err _ _ c.from_residual.ensures.0

pub has_values-requires-clause-own : goal.has_values-requires-clause-own
has_values-requires-clause-own c = own c.args.text.now c.args.syntax.now c.deref-block-items.result.now c.loop-block.block-index c.block-item.result c.requires.blocks (c.deref-block-items.ensures.value ∙ c.syntax.view_is) c.loop-block-test.true c.block-item.is

pub has_values-requires-clause-len : goal.has_values-requires-clause-len
has_values-requires-clause-len c = c.requires.len

pub push_data-requires : goal.push_data-requires
push_data-requires c = own c.args.text.now c.args.syntax.now c.deref-block-items.result.now c.loop-block.block-index c.block-item.result c.requires.blocks (c.deref-block-items.ensures.value ∙ c.syntax.view_is) c.loop-block-test.true c.block-item.is

pub loop-block-preserved : goal.loop-block-preserved
loop-block-preserved c =
    let blocks : c.deref-block-items.result.now ≡ c.args.syntax.now = c.deref-block-items.ensures.value ∙ c.syntax.view_is in
    elim c.if-has_values.branch [
      | then-has_values+in_ok-push_data w ↦ ap (λ (v : Vec Token). v.items) w.tokens-is ∙ values_yes c.args.text.now c.args.nodes.now c.args.syntax.now c.deref-block-items.result.now c.loop-block.block-index c.block-item.result c.loop-block.tokens.items w.push_data.new.tokens.items blocks c.loop-block-test.true c.block-item.is (sym c.has_values.ensures ∙ w.if-has_values.true) c.loop-block.invariant w.in_ok-push_data.ensures
      | else-has_values w ↦ ap (λ (v : Vec Token). v.items) w.tokens-is ∙ values_no c.args.text.now c.args.nodes.now c.args.syntax.now c.deref-block-items.result.now c.loop-block.block-index c.block-item.result c.loop-block.tokens.items blocks c.loop-block-test.true c.block-item.is (sym c.has_values.ensures ∙ w.if-has_values.false) c.loop-block.invariant
    ]
