use Rattle.std.proofs.Common.{◌≡◌, ◌∙◌, ◌<◌, ◌≤◌, ◌++◌, ◌∷◌, [], ℕ, zero, suc, List, map, take, drop, length, get_or, slice_index, refl, sym, ap, subst, arith}
use Rattle.std.proofs.lemmas.List.{append-nil, drop_all, get_or_default, take_all}
use Rattle.std.proofs.lemmas.List.Edits.{map_over_more}
use Rattle.std.proofs.lemmas.List.Elements.{Contains-get_or}
use Rattle.std.specs.Prelude.{Contains}
use Rattle.diagram_graph.proofs.parts.put_places.Goals as goal

-- the number that is next stands as it did
still : (f : ℕ → ℕ) (xs : List ℕ) (i : ℕ) → i < length xs → get_or (map f (take i xs) ++ drop i xs) i 0 ≡ get_or xs i 0
still f [] i l = absurd (omega (arith, l))
still f (x ∷ xs) zero l = refl
still f (x ∷ xs) (suc i) l = still f xs i (omega (arith, l))

listed : (f : ℕ → ℕ) (xs now : List ℕ) (i : ℕ) → i < length xs → now ≡ map f (take i xs) ++ drop i xs → Contains xs (get_or now i 0)
listed f xs now i l e = subst (Contains xs) (sym (ap (λ (ys : List ℕ). get_or ys i 0) e ∙ still f xs i l)) (Contains-get_or xs i 0 l)

pub loop-i-preserved : goal.loop-i-preserved
loop-i-preserved c = map_over_more (slice_index c.args.places.now) c.args.numbers.now c.loop-i.numbers c.loop-i.i (get_or c.loop-i.numbers c.loop-i.i 0) c.loop-i-test.true c.loop-i.invariant (get_or_default c.loop-i.numbers c.loop-i.i 0 _ (omega (arith, c.loop-i-test.true, c.loop-i.auto.numbers)))

pub bounds-places-numbers : goal.bounds-places-numbers
bounds-places-numbers c = c.requires _ (listed (slice_index c.args.places.now) c.args.numbers.now c.loop-i.numbers c.loop-i.i c.loop-i-test.true c.loop-i.invariant)

pub offset_bounds-places-numbers : goal.offset_bounds-places-numbers
offset_bounds-places-numbers c = let l = c.requires _ (listed (slice_index c.args.places.now) c.args.numbers.now c.loop-i.numbers c.loop-i.i c.loop-i-test.true c.loop-i.invariant) in record { fits = omega (arith, l) }

pub returns : goal.returns
returns c =
    let f = slice_index c.args.places.now in
    let xs = c.args.numbers.now in
    let end : length xs ≤ c.loop-i.i = c.loop-i-test.false in
    c.loop-i.invariant ∙ (λ i. map f (take_all c.loop-i.i xs end i) ++ drop_all c.loop-i.i xs end i) ∙ append-nil (map f xs)
