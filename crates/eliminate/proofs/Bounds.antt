-- Bounds of a run's lists, over plain lists: what its calls ask of the slots made and gathered.
use Rattle.std.proofs.Common.{◌≡◌, ◌∙◌, ◌↔◌, ℕ, zero, suc, ◌<◌, ◌≤◌, Bool, List, [], ◌∷◌, take, length, slice_index_or, ap, arith}
use Rattle.std.proofs.lemmas.List.{length-take-le}
use Rattle.node_sets.specs.declared.sets.NodeSet.{NodeSet}
use Rattle.node_sets.specs.Sets.{holds, IsIn}
use Rattle.factor_core.specs.declared.slots.Slot.{Slot}
use Rattle.eliminate.specs.Places.{slots_from, live_slots, scope_at}
use Rattle.eliminate.specs.Steps.{slots_with}
use Rattle.eliminate.proofs.Placing.{held_slots}

pub below_three : (v n m k : ℕ) → v < n → n ≤ m → k ≡ m → v < k
below_three v n m k l w e = omega (arith, l, w, e)

pub below_two : (v n m : ℕ) → v < n → n ≤ m → v < m
below_two v n m l w = omega (arith, l, w)

pub within_two : (a b c : ℕ) → a ≤ b → b ≤ c → a ≤ c
within_two a b c l m = omega (arith, l, m)

-- a count over a list that has kept its length
pub within_same : (n a b k : ℕ) → k ≡ n → n ≤ a → b ≡ a → k ≤ b
within_same n a b k e l f = omega (arith, e, l, f)

-- the slots made, before the others
module _ (made : ℕ) (slots front : List Slot) (is : front ≡ take made slots) (within : made ≤ length slots) where
  front_is : length front ≡ made
  front_is = omega (arith, ap length is, length-take-le made slots within)

  pub front_holds : (live : NodeSet) → ((k : ℕ) → IsIn live k → k < made) → (k : ℕ) → IsIn live k → k < length front
  front_holds live h k t = omega (arith, h k t, front_is)

  pub front_few : (most : ℕ) → length slots ≤ most → length front ≤ most
  front_few most few = omega (arith, front_is, within, few)

  module _ (found : List Slot) (same : length found ≡ length slots) where
    pub front_room : length front ≤ length found
    front_room = omega (arith, front_is, within, same)

    module _ (count : ℕ) (few : count ≤ length front) where
      pub count_within : count ≤ length slots
      count_within = omega (arith, few, front_is, within)

      pub found_within : count ≤ length found
      found_within = omega (arith, few, front_room)

      pub found_many : (last : List Slot) → last ≡ take count found → length last ≡ count
      found_many last e = omega (arith, ap length e, length-take-le count found found_within)

      pub found_few : (last : List Slot) → last ≡ take count found → (most : ℕ) → length slots ≤ most → length last ≤ most
      found_few last e most bound = omega (arith, found_many last e, few, front_few most bound)

-- so many of a list are no more
pub at_most : (count most : ℕ) (found : List Slot) {last : List Slot} → last ≡ take count found → count ≤ most → length last ≤ most
at_most count most found e few = omega (arith, ap length e, taken count found, few)
  where
    taken : (n : ℕ) (xs : List Slot) → length (take n xs) ≤ n
    taken zero xs = omega arith
    taken (suc n) [] = omega arith
    taken (suc n) (x ∷ xs) = omega (arith, taken n xs)

-- what was gathered from them
pub gathered : (p : ℕ → Bool) (made : ℕ) (slots front found last : List Slot) → front ≡ take made slots → found ≡ slots_from p 0 front → last ≡ found → last ≡ slots_from p 0 (take made slots)
gathered p made slots front found last is list e = e ∙ list ∙ ap (slots_from p 0) is

-- and where that is at the node's places
pub gathered_with : (at : List NodeSet) (live held : NodeSet) (made node : ℕ) (slots : List Slot)
    → ((k : ℕ) (none : NodeSet) → IsIn live k → holds (slice_index_or at node none) k ≡ scope_at (take made slots) k node)
    → ((k : ℕ) (none : NodeSet) → IsIn held k ↔ (IsIn live k × IsIn (slice_index_or at node none) k))
    → {front found last : List Slot} → front ≡ take made slots → found ≡ slots_from (holds held) 0 front → last ≡ found → last ≡ slots_with node (live_slots live made slots)
gathered_with at live held made node slots tells are {front} {found} {last} is list e =
    gathered (holds held) made slots front found last is list e ∙ held_slots at live held made node slots tells are
