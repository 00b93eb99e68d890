-- Worlds as lists of states, and the rows that they pick.
use Rattle.std.proofs.Common.{◌≡◌, ◌∙◌, ℕ, ◌<◌, ◌≤◌, List, length, set, sym, subst, slice_index, arith}
use Rattle.std.proofs.Math.Decide.{ℕ_discrete, dec_lt}
use Rattle.std.proofs.lemmas.List.{length-map, length-set, get_or_past, get_or-set_same, get_or-set_other}
use Rattle.finite_sums.specs.Sums.{World, InRange}
use Rattle.maid_model.specs.Nodes.{no_node, states_of, counts_of, rows_under}
use Rattle.maid_model.specs.Tables.{row_from}
use Rattle.maid_model.specs.Views.{NodeView}
use Rattle.maid_model.specs.Worlds.{IsWorld, world_of}
use Rattle.maid_model.proofs.Tables.{row_from_below}
use Rattle.maid_model.proofs.Views.{counts_at}

-- a world has a state for each node
pub world_length : (nodes : List NodeView) (xs : List ℕ) → IsWorld (counts_of nodes) xs → length xs ≡ length nodes
world_length nodes xs w = w.len ∙ length-map nodes (λ n. n.states)

-- where there is a world each node has a state
pub world_has : (nodes : List NodeView) (xs : List ℕ) → IsWorld (counts_of nodes) xs → (v : ℕ) → 0 < states_of nodes v
world_has nodes xs w v = go (dec_lt v (length nodes))
  where
    past : ¬ (v < length nodes) → length nodes ≤ v
    past n = omega arith

    go : Dec (v < length nodes) → 0 < states_of nodes v
    go (yes l) = omega (arith, counts_at nodes v l, w.each v (omega (arith, world_length nodes xs w)))
    go (no n) = subst (λ (x : NodeView). 0 < x.states) (sym (get_or_past nodes v no_node (past n))) (omega arith)

-- it is in range at all numbers
pub world_in_range : (nodes : List NodeView) (xs : List ℕ) → IsWorld (counts_of nodes) xs → InRange (states_of nodes) (world_of xs)
world_in_range nodes xs w = record { state = λ v. go v (dec_lt v (length xs)) }
  where
    past : (v : ℕ) → ¬ (v < length xs) → length xs ≤ v
    past v n = omega arith

    inside : (v : ℕ) → v < length xs → v < length nodes
    inside v l = omega (arith, world_length nodes xs w)

    go : (v : ℕ) → Dec (v < length xs) → world_of xs v < states_of nodes v
    go v (yes l) = subst (λ c. slice_index xs v < c) (sym (counts_at nodes v (inside v l))) (w.each v l)
    go v (no n) = subst (λ x. x < states_of nodes v) (sym (get_or_past xs v 0 (past v n))) (world_has nodes xs w v)

-- another state that the node has makes another world
pub world_set : (nodes : List NodeView) (xs : List ℕ) (v s : ℕ) → v < length nodes → s < states_of nodes v → IsWorld (counts_of nodes) xs → IsWorld (counts_of nodes) (set xs v s)
world_set nodes xs v s l h w = record { len = length-set xs v s ∙ w.len; each = λ u k. go u (ℕ_discrete u v) (subst (λ n. u < n) (length-set xs v s) k) }
  where
    inside : v < length xs
    inside = omega (arith, world_length nodes xs w)

    go : (u : ℕ) → Dec (u ≡ v) → u < length xs → slice_index (set xs v s) u < slice_index (counts_of nodes) u
    go u (yes e) k =
        subst (λ x. slice_index (set xs v s) x < slice_index (counts_of nodes) x) (sym e)
        (subst (λ x. x < slice_index (counts_of nodes) v) (sym (get_or-set_same xs v s 0 inside)) (subst (λ x. s < x) (counts_at nodes v l) h))
    go u (no n) k = subst (λ x. x < slice_index (counts_of nodes) u) (sym (get_or-set_other xs v u s 0 n)) (w.each u k)

-- a row is one of so many
pub row_below : (count : ℕ → ℕ) (w : World) → InRange count w → (us : List ℕ) → row_from count w 0 us < rows_under count us
row_below count w i us = omega (arith, row_from_below count w i us 0 1 (omega arith))
