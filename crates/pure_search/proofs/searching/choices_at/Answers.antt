use Rattle.std.proofs.Common.{◌≡◌, ◌∙◌, ◌+◌, ◌∷◌, [], drop, sym, ap, subst, rules, arith}
use Rattle.maid_model.specs.Worlds.{IsWorld, worlds, worlds_from}
use Rattle.pure_search.proofs.Steps.{placed, stepped, written}
use Rattle.pure_search.proofs.searching.choices_at.Goals as goal

pub loop-preserved : goal.loop-preserved
loop-preserved c =
    let cs = c.args.counts.now in
    let new = c.next_choices.new.choices in
    let world : IsWorld cs new = c.next_choices.ensures.world in
    let whole = written c.loop.choices.len new c.loop.choices.items (world.len ∙ sym c.loop.invariant.0.len) (search rules) in
    let next : worlds_from cs new ≡ drop (c.loop.counter + 1) (worlds cs) =
    stepped cs c.loop.choices.items new c.loop.counter c.next_choices.result c.loop.invariant.1 (let l = c.loop-test.true in let m = c.requires.place in omega (arith, l, m))
    (λ e. subst (λ xs. worlds_from cs xs ≡ xs ∷ worlds_from cs new) c.deref_mut.ensures.value (c.next_choices.ensures.more e))
    (λ e. subst (λ xs. worlds_from cs xs ≡ xs ∷ []) c.deref_mut.ensures.value (c.next_choices.ensures.last e)) in
    (subst (IsWorld cs) (sym whole) world, ap (worlds_from cs) whole ∙ next)

pub returns-clause-choices : goal.returns-clause-choices
returns-clause-choices c =
    let there : c.loop.counter ≡ c.args.place = let h = c.loop-test.false in let k = c.loop.auto.counter-end in omega (arith, h, k) in
    placed c.args.counts.now c.loop.choices.items c.args.place c.loop.invariant.0 c.requires.place (c.loop.invariant.1 ∙ ap (λ n. drop n (worlds c.args.counts.now)) there)
