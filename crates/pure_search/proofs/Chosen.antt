-- The decisions among the nodes.
use Rattle.std.proofs.Common.{◌≡◌, ◌∙◌, ℕ, ◌+◌, ◌<◌, List, drop, length, replicate, get_or, ap, subst, All}
use Rattle.std.proofs.Math.ListN.{length-append, length-replicate}
use Rattle.std.proofs.lemmas.List.{drop_more, get_or_default}
use Rattle.maid_model.specs.Nodes.{decisions_of, rows_of, states_of}
use Rattle.maid_model.specs.Views.{NodeView}
use Rattle.maid_laws.proofs.Members.{among_index}
use Rattle.maid_laws.proofs.SameProfile.{decided}
use Rattle.reach_laws.specs.Equilibria.{choice_counts}

-- each is a node
pub decisions_known : (nodes : List NodeView) → All (λ v. v < length nodes) (decisions_of nodes)
decisions_known nodes k e l = subst (λ v. v < length nodes) (get_or_default (decisions_of nodes) k 0 e l) (decided nodes (get_or (decisions_of nodes) k 0) (among_index (decisions_of nodes) k l)).within

-- the rows of the decisions from a place on are those of the decision there and those behind it
pub rows_counted : (nodes : List NodeView) (ds : List ℕ) (i : ℕ) → i < length ds → length (choice_counts nodes (drop i ds)) ≡ rows_of nodes (get_or ds i 0) + length (choice_counts nodes (drop (i + 1) ds))
rows_counted nodes ds i h =
    let v = get_or ds i 0 in
    ap (λ l. length (choice_counts nodes l)) (drop_more ds i 0 h)
    ∙ length-append (replicate (rows_of nodes v) (states_of nodes v)) (choice_counts nodes (drop (i + 1) ds))
    ∙ ap (λ n. n + length (choice_counts nodes (drop (i + 1) ds))) (length-replicate (rows_of nodes v) (states_of nodes v))
