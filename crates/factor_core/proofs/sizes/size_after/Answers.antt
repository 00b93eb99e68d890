use Rattle.std.proofs.Common.{◌≡◌, ◌∙◌, ◌+◌, ◌*◌, length, get_or, ap, sym, arith}
use Rattle.std.proofs.lemmas.List.{get_or_default}
use Rattle.node_sets.specs.Sets.{holds}
use Rattle.factor_core.specs.Tables.{states_in}
use Rattle.factor_core.proofs.Scoping.{not_held}
use Rattle.factor_core.proofs.SizeLemmas.{size_found, size_last, part_le}
use Rattle.factor_core.proofs.sizes.size_after.Goals as goal

pub overflow_mul-size : goal.overflow_mul-size
overflow_mul-size c =
    let counts = c.args.counts.now in
    let scope = c.args.scope.now in
    let first = c.in-Some.ensures.0 in
    let states = get_or_default counts c.in-Some.v 0 1 c.in-Some.ensures.1 in
    let more = size_found (states_in counts) (holds scope) (length counts) c.nodes.next c.in-Some.v c.nodes.size (get_or counts c.in-Some.v 0) _ first.not_before c.in-Some.ensures.1 (λ w a b. not_held (holds scope w) (first.first w a b)) first.inside states c.nodes.invariant.0 in
    omega (arith, part_le (states_in counts) (holds scope) c.requires.counts.some (length counts) (c.in-Some.v + 1) _ _ (omega (arith, c.in-Some.ensures.1)) more, c.requires.fits)

pub nodes-preserved : goal.nodes-preserved
nodes-preserved c =
    let counts = c.args.counts.now in
    let scope = c.args.scope.now in
    let first = c.in-Some.ensures.0 in
    let states = get_or_default counts c.in-Some.v 0 1 c.in-Some.ensures.1 in (
      size_found (states_in counts) (holds scope) (length counts) c.nodes.next c.in-Some.v c.nodes.size (get_or counts c.in-Some.v 0) _ first.not_before c.in-Some.ensures.1 (λ w a b. not_held (holds scope w) (first.first w a b)) first.inside states c.nodes.invariant.0,
      omega (arith, c.in-Some.ensures.1),
    )

pub returns : goal.returns
returns c =
    let counts = c.args.counts.now in
    let scope = c.args.scope.now in
    let last = size_last (states_in counts) (holds scope) (length counts) c.nodes.next c.nodes.invariant.1 (λ w a b. not_held (holds scope w) (c.in_default.ensures w a b)) in
    (let one : c.nodes.size ≡ c.nodes.size * 1 = omega arith in one) ∙ ap (λ k. c.nodes.size * k) (sym last) ∙ c.nodes.invariant.0
