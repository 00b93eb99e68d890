-- A parent's count of states is the first factor of those still to come.
use Rattle.std.proofs.Common.{ℕ, ◌+◌, ◌*◌, ◌^◌, min, List, drop, get_or, sym, ap, ◌∙◌, arith}
use Rattle.std.proofs.lemmas.List.{get_or_default}
use Rattle.net_build.specs.declared.nodes.Head.{Head}
use Rattle.net_build.specs.Stages.{head_at, no_head, rows_over}
use Rattle.first_fault.proofs.Leading.{drop_item}
use Rattle.net_build.proofs.SizeLemmas.{counted_on}
use Rattle.net_build.proofs.sizes.count_rows.Goals as goal

pub loop-parent-preserved : goal.loop-parent-preserved
loop-parent-preserved c =
    let heads : List Head = c.args.heads.now in
    let parents : List ℕ = c.args.parents.now in
    let i : ℕ = c.loop-parent.parent-index in
    let u : ℕ = get_or parents i 0 in
    record {
      counted = counted_on (10 ^ 18) c.loop-parent.rows (head_at heads u).states (rows_over heads (drop (i + 1) parents)) _ c.times-rows.result
          (c.times-rows.ensures ∙ ap (λ (x : Head). min (c.loop-parent.rows * x.states) (10 ^ 18)) (get_or_default heads u _ no_head (c.requires i 0 c.loop-parent-test.true)))
          (ap (λ us. min (c.loop-parent.rows * rows_over heads us) (10 ^ 18)) (sym (drop_item parents i u c.loop-parent-test.true (get_or_default parents i 0 u c.loop-parent-test.true))) ∙ c.loop-parent.invariant.counted);
      few = omega (arith, c.times-rows.ensures);
    }
