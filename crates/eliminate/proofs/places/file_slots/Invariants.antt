use Rattle.std.proofs.Common.{◌≡◌, length, take}
use Rattle.eliminate.specs.Places.{Filed}
use Rattle.eliminate.proofs.places.file_slots.Given as goal

abbrev pub invariant-loop-place : goal.invariant-loop-place
invariant-loop-place l = Filed l.order.ranks.now l.order.count l.at (take l.place l.slots) × (length l.at ≡ length l.fn.at)
