use Rattle.std.proofs.Common.{rules, ◌≡◌, ◌+◌, ◌*◌, ◌<◌, ◌++◌, length, take, drop, arith, ap, ◌∙◌, subst}
use Rattle.std.proofs.lemmas.List.{take_all}
use Rattle.factor_core.specs.Tables.{stride_row}
use Rattle.factor_core.proofs.StrideRows.{no_slot, size_waits, sizes_more, strides_more, rest_stays, row_written, row_stays}
use Rattle.factor_core.proofs.rows.set_row.Goals as goal

pub take_in-requires-clause-behind : goal.take_in-requires-clause-behind
take_in-requires-clause-behind c =
    size_waits c.args.counts.now c.args.slots.now (c.args.node + 1) c.args.sizes.now c.loop-j.sizes c.loop-j.j no_slot c.loop-j-test.true c.requires.behind c.loop-j.invariant.5

pub loop-j-preserved : goal.loop-j-preserved
loop-j-preserved c =
    let from = c.args.row * length c.args.slots.now in
    let j = c.loop-j.j in
    let old = c.loop-j.invariant in
    let room : from + j < length c.loop-j.strides = omega (arith, c.loop-j-test.true, c.requires.room, old.0) in
    let there : j < length c.loop-j.sizes = omega (arith, c.loop-j-test.true, c.requires.sizes, old.1) in (
      search rules,
      search rules,
      strides_more c.args.counts.now c.args.slots.now c.args.node c.args.strides.now c.loop-j.strides from j c.take_in.result no_slot c.loop-j-test.true room old.2 c.take_in.ensures.stride,
      rest_stays c.args.strides.now c.loop-j.strides (from + j) (from + (j + 1)) c.take_in.result old.3 (omega arith),
      sizes_more c.args.counts.now c.args.slots.now c.args.node c.loop-j.sizes j c.take_in.new.size no_slot c.loop-j-test.true there old.4 c.take_in.ensures.size,
      rest_stays c.args.sizes.now c.loop-j.sizes j (j + 1) c.take_in.new.size old.5 (omega arith),
    )

pub returns-clause-row : goal.returns-clause-row
returns-clause-row c =
    let from = c.args.row * length c.args.slots.now in
    let all : c.loop-j.j ≡ length c.args.slots.now = omega (arith, c.loop-j-test.false, c.loop-j.auto.j-end) in
    row_written from (length c.args.slots.now) c.args.strides.now c.loop-j.strides _ (omega (arith, c.requires.room))
    (subst (λ k. take (from + k) c.loop-j.strides ≡ take from c.args.strides.now ++ stride_row c.args.counts.now (take k c.args.slots.now) c.args.node) all c.loop-j.invariant.2)
    ∙ ap (λ l. stride_row c.args.counts.now l c.args.node) (take_all (length c.args.slots.now) c.args.slots.now (omega arith))

pub returns-clause-others : goal.returns-clause-others
returns-clause-others c = λ r v other was.
    let from = c.args.row * length c.args.slots.now in
    let all : c.loop-j.j ≡ length c.args.slots.now = omega (arith, c.loop-j-test.false, c.loop-j.auto.j-end) in
    row_stays (length c.args.slots.now) c.args.row r c.args.strides.now c.loop-j.strides _ _ other c.requires.room
    (subst (λ k. take (from + k) c.loop-j.strides ≡ take from c.args.strides.now ++ stride_row c.args.counts.now (take k c.args.slots.now) c.args.node) all c.loop-j.invariant.2)
    (subst (λ k. drop (from + k) c.loop-j.strides ≡ drop (from + k) c.args.strides.now) all c.loop-j.invariant.3)
    was
