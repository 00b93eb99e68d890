use Rattle.std.proofs.Common.{◌≡◌, ◌∙◌, List, Some, None, sym, subst, arith, All}
use Rattle.node_sets.specs.declared.sets.TheConstants.{MOST_NODES}
use Rattle.factor_core.specs.declared.slots.Slot.{Slot}
use Rattle.factor_core.specs.Slots.{IsLiveSlot, ProductOfFits, AppendsProduct}
use Rattle.eliminate.specs.Limits.{SpendsProduct, IsProductTooMuch, scopes_at}
use Rattle.eliminate.specs.Places.{live_slots}
use Rattle.eliminate.proofs.Bounds.{at_most}
use Rattle.eliminate.proofs.Growing.{grows_none, grows_table}
use Rattle.eliminate.proofs.Multiplying.{product_room, product_refused, product_allowed}
use Rattle.eliminate.proofs.sums.multiply_live.Goals as goal

-- What is gathered are the live slots: a fact of these is one of what is multiplied.

-- a slot that there is
is_some_slot : (s : Slot) → Some s ≡ None → ⊥
is_some_slot s e = cc

pub gather_live-count-requires-clause-within : goal.gather_live-count-requires-clause-within
gather_live-count-requires-clause-within g c = c.requires.within

pub gather_live-count-requires-clause-made : goal.gather_live-count-requires-clause-made
gather_live-count-requires-clause-made g c = c.requires.made

pub gather_live-count-requires-clause-few : goal.gather_live-count-requires-clause-few
gather_live-count-requires-clause-few g c = c.requires.slots

pub gather_live-count-requires-clause-room : goal.gather_live-count-requires-clause-room
gather_live-count-requires-clause-room g c = c.requires.joined

pub before-last-requires : goal.before-last-requires
before-last-requires g c = omega (arith, c.gather_live-count.ensures.few, c.gather_live-count.auto.found, c.requires.joined)

pub returns-in_err-spend_on_product-clause-some : goal.returns-in_err-spend_on_product-clause-some
returns-in_err-spend_on_product-clause-some g c = rw c.from_residual.ensures tt

pub returns-in_err-spend_on_product-clause-none : goal.returns-in_err-spend_on_product-clause-none
returns-in_err-spend_on_product-clause-none g c =
    let nodes = c.args.diagram.now.nodes in
    let live = live_slots c.args.places.now.live c.args.places.now.made c.args.slots.now in
    let refused = subst (λ (l : List Slot). SpendsProduct nodes (scopes_at l) c.args.left None) (c.before-last.ensures ∙ c.gather_live-count.ensures.list) c.in_err-spend_on_product.ensures in
    ((λ e. product_refused nodes (scopes_at live) c.args.left refused), (λ t. c.from_residual.ensures))

pub returns-in_err-spend_on_product-clause-grows : goal.returns-in_err-spend_on_product-clause-grows
returns-in_err-spend_on_product-clause-grows g c = grows_none

pub product-requires-clause-few : goal.product-requires-clause-few
product-requires-clause-few g c = at_most c.gather_live-count.result MOST_NODES c.gather_live-count.new.found c.before-last.ensures (omega (arith, c.gather_live-count.ensures.few, c.requires.slots))

pub product-requires-clause-live : goal.product-requires-clause-live
product-requires-clause-live g c = subst (λ (l : List Slot). All (IsLiveSlot c.args.diagram.now.nodes c.args.work.now.cells) l) (sym (c.before-last.ensures ∙ c.gather_live-count.ensures.list)) c.requires.product.live

pub product-requires-clause-fits : goal.product-requires-clause-fits
product-requires-clause-fits g c = subst (λ (l : List Slot). ProductOfFits g.C.Cell.ring c.args.diagram.now.nodes l c.args.work.now) (sym (c.before-last.ensures ∙ c.gather_live-count.ensures.list)) c.requires.product.fits

pub product-requires-clause-room : goal.product-requires-clause-room
product-requires-clause-room g c = product_room c.args.diagram.now.nodes c.before-last.result.now g.C.Cell.ring c.args.work.now c.args.left c.in_ok-spend_on_product.ensures.0.0 c.requires.small c.requires.room

pub returns-clause-some : goal.returns-clause-some
returns-clause-some g c = subst (λ (l : List Slot). AppendsProduct g.C.Cell.ring c.args.diagram.now.nodes l c.args.work.now c.product.new.self c.product.result) (c.before-last.ensures ∙ c.gather_live-count.ensures.list) c.product.ensures

pub returns-clause-none : goal.returns-clause-none
returns-clause-none g c =
    let nodes = c.args.diagram.now.nodes in
    let within = subst (λ (l : List Slot). IsProductTooMuch nodes (scopes_at l) c.args.left → ⊥) (c.before-last.ensures ∙ c.gather_live-count.ensures.list)
    (product_allowed nodes (scopes_at c.before-last.result.now) c.args.left c.in_ok-spend_on_product.ensures) in
    ((λ e. absurd (is_some_slot c.product.result e)), (λ t. absurd (within t)))

pub returns-clause-grows : goal.returns-clause-grows
returns-clause-grows g c = grows_table c.product.ensures
