-- A list in parts: how many its first items are, and where the cells of its middle part stand.
use Rattle.std.proofs.Common.{◌≡◌, ◌+◌, ◌-◌, ◌<◌, ◌≤◌, ◌++◌, ℕ, List, length, take, arith, sym, ap, ◌∙◌, ◌*◌}
use Rattle.std.proofs.Math.Nat.{mul-le-mul_right}
use Rattle.std.proofs.lemmas.List.{length-take-le, get_or_append_left, get_or-append_right}
use Rattle.cell_rings.specs.Rings.{Ring}
use Rattle.cell_rings.specs.Sums.{cell_at}
use Rattle.node_sets.specs.Sets.{holds}
use Rattle.node_sets.specs.declared.sets.NodeSet.{NodeSet}
use Rattle.finite_sums.specs.Sums.{World, InRange}
use Rattle.factor_core.specs.Tables.{states_in, place_of, size_of}
use Rattle.factor_core.proofs.Joining.{place_below}

-- so many are the first ones
pub count_first : {A : Type 0} (k : ℕ) (whole : List A) {first : List A} → k ≤ length whole → first ≡ take k whole → length first ≡ k
count_first k whole l e = ap length e ∙ length-take-le k whole l

cell_between : {C : Type 0} (r : Ring C) (front middle back : List C) (start p : ℕ) → length front ≡ start → p < length middle → cell_at r (front ++ (middle ++ back)) (start + p) ≡ cell_at r middle p
cell_between r front middle back start p e h =
    get_or-append_right front (middle ++ back) start (start + p) r.nought e (omega arith)
    ∙ ap (λ k. cell_at r (middle ++ back) k) (let d : (start + p) - start ≡ p = omega arith in d)
    ∙ get_or_append_left middle back r.nought p h

-- a world's cell, where the table of a scope is the middle part
pub world_between : {C : Type 0} (r : Ring C) (counts : List ℕ) (scope : NodeSet) (whole middle back : List C) {front : List C} (start : ℕ) → start ≤ length whole → front ≡ take start whole → length middle ≡ size_of counts scope → (w : World) → InRange (states_in counts) w → cell_at r (front ++ (middle ++ back)) (start + place_of counts scope w) ≡ cell_at r middle (place_of counts scope w)
world_between r counts scope whole middle back {front} start l e long w ok =
    let below : place_of counts scope w < size_of counts scope = place_below (states_in counts) (holds scope) w ok (length counts) 0 in
    cell_between r front middle back start (place_of counts scope w) (count_first start whole l e) (omega (arith, below, long))

-- what was written for the nodes of a list, read with their number
pub read_as : {X : Type 0} (part : ℕ → List X) (whole : List ℕ → List X) (n : ℕ) (order listed : List ℕ) {result : List X} → length order ≡ n → order ≡ listed → result ≡ part n → part (length order) ≡ whole order → result ≡ whole listed
read_as part whole n order listed many is read wrote = read ∙ ap part (sym many) ∙ wrote ∙ ap whole is

-- the same where it was changed before it was read
pub read_changed : {X : Type 0} (change : List X → List X) (part : ℕ → List X) (whole : List ℕ → List X) (n : ℕ) (order listed : List ℕ) {result there : List X} → length order ≡ n → order ≡ listed → result ≡ there → there ≡ change (part n) → part (length order) ≡ whole order → result ≡ change (whole listed)
read_changed change part whole n order listed many is read changed wrote = read ∙ changed ∙ ap change (ap part (sym many) ∙ wrote ∙ ap whole is)

-- the strides of the widest walk
pub widest : (n slots : ℕ) → slots ≤ 256 → n ≤ 256 → (n + 1) * slots ≤ 65792
widest n slots few nodes =
    let step : (n + 1) * slots ≤ 257 * slots = mul-le-mul_right slots (omega (arith, nodes)) in
    omega (arith, step, few)
