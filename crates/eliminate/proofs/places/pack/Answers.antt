use Rattle.std.proofs.Common.{◌≡◌, ◌∙◌, ℕ, ◌≤◌, List, length, take, refl, sym, ap, subst, arith}
use Rattle.std.proofs.lemmas.List.{length-take-le}
use Rattle.node_sets.specs.declared.sets.TheConstants.{MOST_NODES}
use Rattle.factor_core.specs.declared.slots.Slot.{Slot}
use Rattle.eliminate.proofs.Bounds.{within_two}
use Rattle.eliminate.proofs.places.pack.Goals as goal

-- lists are one up to the count where a loop has gone over all
all_same : (i n : ℕ) (xs ys : List Slot) → i ≤ n → n ≤ i → take i xs ≡ take i ys → take n xs ≡ take n ys
all_same i n xs ys l m e = let end : i ≡ n = omega (arith, l, m) in subst (λ k. take k xs ≡ take k ys) end e

pub gather_live-count-requires-clause-within : goal.gather_live-count-requires-clause-within
gather_live-count-requires-clause-within c = c.requires.board.within

pub gather_live-count-requires-clause-made : goal.gather_live-count-requires-clause-made
gather_live-count-requires-clause-made c = c.requires.made

pub gather_live-count-requires-clause-few : goal.gather_live-count-requires-clause-few
gather_live-count-requires-clause-few c = c.requires.slots

pub gather_live-count-requires-clause-room : goal.gather_live-count-requires-clause-room
gather_live-count-requires-clause-room c = c.requires.spare

pub loop-i-init : goal.loop-i-init
loop-i-init c = (refl, refl)

pub all_live-requires-clause-made : goal.all_live-requires-clause-made
all_live-requires-clause-made c = subst (λ n. c.gather_live-count.result ≤ n) (sym c.loop-i.invariant.1) c.gather_live-count.ensures.few

pub all_live-requires-clause-few : goal.all_live-requires-clause-few
all_live-requires-clause-few c = within_two c.gather_live-count.result (length c.args.slots.now) MOST_NODES c.gather_live-count.ensures.few c.requires.slots

pub all_live-requires-clause-same : goal.all_live-requires-clause-same
all_live-requires-clause-same c = c.clear.auto.at ∙ c.requires.board.same

pub all_live-requires-clause-apart : goal.all_live-requires-clause-apart
all_live-requires-clause-apart c = c.requires.board.apart

pub all_live-requires-clause-blank : goal.all_live-requires-clause-blank
all_live-requires-clause-blank c v k none l ranked = c.clear.ensures v k none l

pub returns-clause-board : goal.returns-clause-board
returns-clause-board c = c.all_live.ensures.board

pub returns-clause-made : goal.returns-clause-made
returns-clause-made c =
    let within : c.gather_live-count.result ≤ length c.gather_live-count.new.found = omega (arith, c.gather_live-count.ensures.few, c.gather_live-count.auto.found, c.requires.spare) in
    c.all_live.ensures.made
    ∙ sym (length-take-le c.gather_live-count.result c.gather_live-count.new.found within)
    ∙ ap length c.gather_live-count.ensures.list

pub returns-clause-live : goal.returns-clause-live
returns-clause-live c =
    c.all_live.ensures.live
    ∙ all_same c.loop-i.i c.gather_live-count.result c.loop-i.slots c.gather_live-count.new.found c.loop-i.auto.i-end c.loop-i-test.false c.loop-i.invariant.0
    ∙ c.gather_live-count.ensures.list
