-- The marks that stay for each agent, and those that stay for all: they are at the equilibria.
use Rattle.std.proofs.Common.{◌≡◌, ◌≢◌, ◌↔◌, ◌∙◌, ℕ, zero, suc, ◌+◌, ◌<◌, Bool, true, false, List, [], ◌∷◌, length, replicate, slice_index, slice_index_or, refl, sym, ap, subst, arith, ℤ, pos, ◌≤ℤ◌, length-append}
use Rattle.std.proofs.lemmas.Int.{ints}
use Rattle.std.proofs.lemmas.List.{length-map, get_or-map, get_or_default, ext_get_or}
use Rattle.std.proofs.lemmas.List.Elements.{Contains-get_or}
use Rattle.std.proofs.Math.Decide.{ℕ_discrete}
use Rattle.std.specs.Prelude.{Contains}
use Rattle.maid_model.specs.declared.diagrams.Kind.TheVariants.{Chance, Decision}
use Rattle.maid_model.specs.Gains.{gain_of}
use Rattle.maid_model.specs.Diagrams.{IsDiagram}
use Rattle.maid_model.specs.Nodes.{IsDecision, agent_of, decisions_of, rows_of, states_of}
use Rattle.maid_model.specs.Views.{NodeView, DiagramView}
use Rattle.maid_model.specs.Worlds.{IsWorld}
use Rattle.maid_model.proofs.Listing.{lists_worlds}
use Rattle.reach_laws.specs.Equilibria.{AgreeForOthers, IsEquilibrium, choice_counts, choice_owners, profile_of}
use Rattle.reach_laws.proofs.InTable.{table_law}
use Rattle.reach_laws.proofs.Listed.{fits_of}
use Rattle.pure_search.specs.Games.{IsBestFor, IsGreatest, IsGainTable, KeepsGreatest, MarksBest, MarksStable, choice_lists, choices_at, counts_for, key_of, owners_for, part_gain}
use Rattle.pure_search.proofs.Compared.{compares}
use Rattle.pure_search.proofs.OthersKeys.{key_of_same, same_key}

-- ---- a list of choices at a place
pub listed : (nodes : List NodeView) (k : ℕ) → k < length (choice_lists nodes) → IsWorld (counts_for nodes) (choices_at nodes k)
listed nodes k l = (lists_worlds.all (counts_for nodes) (choices_at nodes k)).1 (Contains-get_or (choice_lists nodes) k [] l)

-- as many owners as counts
pub owners_counted : (nodes : List NodeView) (ds : List ℕ) → length (choice_owners nodes ds) ≡ length (choice_counts nodes ds)
owners_counted nodes [] = refl
owners_counted nodes (d ∷ ds) =
    length-append (replicate (rows_of nodes d) (agent_of nodes d)) (choice_owners nodes ds)
    ∙ (λ i. same_times (agent_of nodes d) (states_of nodes d) (rows_of nodes d) i + owners_counted nodes ds i)
    ∙ sym (length-append (replicate (rows_of nodes d) (states_of nodes d)) (choice_counts nodes ds))
  where
    same_times : (a b n : ℕ) → length (replicate n a) ≡ length (replicate n b)
    same_times a b zero = refl
    same_times a b (suc n) = ap suc (same_times a b n)

-- the same key is the same choices of the others
pub keys_agree : (nodes : List NodeView) (agent : ℕ) (xs ys : List ℕ) → IsWorld (counts_for nodes) xs → IsWorld (counts_for nodes) ys
    → (key_of nodes agent ys ≡ key_of nodes agent xs) ↔ AgreeForOthers nodes agent xs ys
keys_agree nodes agent xs ys wx wy = (
  (λ e. (same_key agent 0 0 (counts_for nodes) (owners_for nodes) xs ys (fits_of (counts_for nodes) xs wx) (fits_of (counts_for nodes) ys wy) (owners_counted nodes (decisions_of nodes)) (sym e)).1),
  (λ a. sym (key_of_same agent 0 (counts_for nodes) (owners_for nodes) xs ys (fits_of (counts_for nodes) xs wx) (fits_of (counts_for nodes) ys wy) (owners_counted nodes (decisions_of nodes)) a)),
)

-- ---- one agent
module _ (nodes : List NodeView) (agent : ℕ) (keys : List ℕ) (gains : List ℤ) (t : IsGainTable nodes agent keys gains) where
  abbrev count : ℕ
  count = length (choice_lists nodes)

  pub gains_count : length gains ≡ length (choice_lists nodes)
  gains_count = ap length t.gains_are ∙ length-map (choice_lists nodes) (part_gain nodes agent)

  pub keys_count : length keys ≡ length (choice_lists nodes)
  keys_count = ap length t.keys_are ∙ length-map (choice_lists nodes) (key_of nodes agent)

  key_is : (j : ℕ) → j < count → slice_index keys j ≡ key_of nodes agent (choices_at nodes j)
  key_is j l = ap (λ ks. slice_index ks j) t.keys_are ∙ get_or-map (key_of nodes agent) (choice_lists nodes) j [] 0 l

  gain_is : (j : ℕ) → j < count → slice_index_or gains j (pos 0) ≡ part_gain nodes agent (choices_at nodes j)
  gain_is j l = ap (λ gs. slice_index_or gs j (pos 0)) t.gains_are ∙ get_or-map (part_gain nodes agent) (choice_lists nodes) j [] (pos 0) l

  greatest_is_best : (k : ℕ) → k < count → IsGreatest keys gains k ↔ IsBestFor nodes agent k
  greatest_is_best k l = (
    (λ g j m a.
        subst (λ z. z ≤ℤ part_gain nodes agent (choices_at nodes k)) (gain_is j m)
        (subst (λ z. slice_index_or gains j (pos 0) ≤ℤ z) (gain_is k l)
        (g j (subst (λ n. j < n) (sym gains_count) m) (key_is j m ∙ (keys_agree nodes agent (choices_at nodes k) (choices_at nodes j) (listed nodes k l) (listed nodes j m)).1 a ∙ sym (key_is k l))))),
    (λ b j m e.
        let i : j < count = subst (λ n. j < n) gains_count m in
        subst (λ z. z ≤ℤ slice_index_or gains k (pos 0)) (sym (gain_is j i))
        (subst (λ z. part_gain nodes agent (choices_at nodes j) ≤ℤ z) (sym (gain_is k l))
        (b j i ((keys_agree nodes agent (choices_at nodes k) (choices_at nodes j) (listed nodes k l) (listed nodes j i)).0 (sym (key_is j i) ∙ e ∙ key_is k l))))),
  )

  pub one_more : (old new : List Bool) → MarksBest nodes agent old → KeepsGreatest keys gains old new → MarksBest nodes (agent + 1) new
  one_more old new so kept = record { len = kept.len ∙ so.len; each = λ k l. each k (subst (λ n. k < n) kept.len l) }
    where
      upto : (a : ℕ) → a < agent + 1 → a ≢ agent → a < agent
      upto a l n = omega arith

      below : (a : ℕ) → a < agent → a < agent + 1
      below a l = omega arith

      itself : agent < agent + 1
      itself = omega arith

      each : (k : ℕ) → k < length old → (slice_index_or new k false ≡ true) ↔ ((a : ℕ) → a < agent + 1 → IsBestFor nodes a k)
      each k l = (
        (λ m. let h = (kept.each k l).0 m in λ a i. by_agent h.1 ((so.each k l).0 h.0) a i (ℕ_discrete a agent)),
        (λ all. (kept.each k l).1 ((so.each k l).1 (λ a i. all a (below a i)), (greatest_is_best k inside).1 (all agent itself))),
      )
        where
          inside : k < count
          inside = subst (λ n. k < n) so.len l

          by_agent : IsGreatest keys gains k → ((a : ℕ) → a < agent → IsBestFor nodes a k) → (a : ℕ) → a < agent + 1 → Dec (a ≡ agent) → IsBestFor nodes a k
          by_agent g rest a i (yes e) = subst (λ b. IsBestFor nodes b k) (sym e) ((greatest_is_best k inside).0 g)
          by_agent g rest a i (no n) = rest a (upto a i n)

-- ---- an agent without a choice
module _ (nodes : List NodeView) (agent : ℕ) (idle : (i : ℕ) → i < length (owners_for nodes) → slice_index (owners_for nodes) i ≢ agent) where
  -- lists of choices that agree for the others are one
  same_list : (xs ys : List ℕ) → IsWorld (counts_for nodes) xs → IsWorld (counts_for nodes) ys → AgreeForOthers nodes agent xs ys → xs ≡ ys
  same_list xs ys wx wy a =
      ext_get_or 0 xs ys (wx.len ∙ sym wy.len)
      (λ i l. sym (a i l (idle i (subst (λ n. i < n) (wx.len ∙ sym (owners_counted nodes (decisions_of nodes))) l))))

  equal_le : (a b : ℤ) → a ≡ b → a ≤ℤ b
  equal_le a b e = omega (arith, ints)

  all_best : (k : ℕ) → k < length (choice_lists nodes) → IsBestFor nodes agent k
  all_best k l j m a =
      equal_le (part_gain nodes agent (choices_at nodes j)) (part_gain nodes agent (choices_at nodes k))
      (ap (part_gain nodes agent) (sym (same_list (choices_at nodes k) (choices_at nodes j) (listed nodes k l) (listed nodes j m) a)))

  pub none_fewer : (marks : List Bool) → MarksBest nodes agent marks → MarksBest nodes (agent + 1) marks
  none_fewer marks so = record { len = so.len; each = λ k l. each k l (subst (λ n. k < n) so.len l) }
    where
      upto : (a : ℕ) → a < agent + 1 → a ≢ agent → a < agent
      upto a l n = omega arith

      below : (a : ℕ) → a < agent → a < agent + 1
      below a l = omega arith

      by_agent : (k : ℕ) → k < length (choice_lists nodes) → ((a : ℕ) → a < agent → IsBestFor nodes a k) → (a : ℕ) → a < agent + 1 → Dec (a ≡ agent) → IsBestFor nodes a k
      by_agent k l rest a i (yes e) = subst (λ b. IsBestFor nodes b k) (sym e) (all_best k l)
      by_agent k l rest a i (no n) = rest a (upto a i n)

      each : (k : ℕ) → k < length marks → k < length (choice_lists nodes) → (slice_index_or marks k false ≡ true) ↔ ((a : ℕ) → a < agent + 1 → IsBestFor nodes a k)
      each k l m = ((λ t a i. by_agent k m ((so.each k l).0 t) a i (ℕ_discrete a agent)), (λ all. (so.each k l).1 (λ a i. all a (below a i))))

-- ---- all agents
all_marked : (n k : ℕ) → k < n → slice_index_or (replicate n true) k false ≡ true
all_marked zero k l = absurd (omega arith)
all_marked (suc n) zero l = refl
all_marked (suc n) (suc k) l = all_marked n k (omega arith)

as_many : (n : ℕ) → length (replicate n true) ≡ n
as_many zero = refl
as_many (suc n) = ap suc (as_many n)

pub none_tried : (nodes : List NodeView) (n : ℕ) → n ≡ length (choice_lists nodes) → MarksBest nodes 0 (replicate n true)
none_tried nodes n e = record { len = as_many n ∙ e; each = λ k l. ((λ m a i. absurd (omega arith)), (λ h. all_marked n k (subst (λ c. k < c) (as_many n) l))) }

-- a decision belongs to one of the agents
pub owned : (d : DiagramView) → IsDiagram d → (v : ℕ) → IsDecision d.nodes v → agent_of d.nodes v < d.agents
owned d is v k = is.owners.agent v (agent_of d.nodes v) k.within (λ chance. let clash : Decision ≡ Chance = sym k.kind ∙ chance in cc) (0, omega arith, refl)

module _ (d : DiagramView) (is : IsDiagram d) where
  best : (k : ℕ) → k < length (choice_lists d.nodes) → ((a : ℕ) → a < d.agents → IsBestFor d.nodes a k) → (a : ℕ) (ys : List ℕ) → a < d.agents → Contains (choice_lists d.nodes) ys → IsWorld (counts_for d.nodes) ys → AgreeForOthers d.nodes a (choices_at d.nodes k) ys
      → gain_of d.nodes (profile_of d.nodes ys) a ≤ℤ gain_of d.nodes (profile_of d.nodes (choices_at d.nodes k)) a
  best k m h a ys i (j, n, e) w agree =
      let there : choices_at d.nodes j ≡ ys = get_or_default (choice_lists d.nodes) j [] ys n ∙ e in
      (compares d.nodes a ys (choices_at d.nodes k) is.graph is.tables w (listed d.nodes k m)).1
      (subst (λ zs. part_gain d.nodes a zs ≤ℤ part_gain d.nodes a (choices_at d.nodes k)) there
      (h a i j n (subst (AgreeForOthers d.nodes a (choices_at d.nodes k)) (sym there) agree)))

  stable_is_best : (k : ℕ) → k < length (choice_lists d.nodes) → ((a : ℕ) → a < d.agents → IsBestFor d.nodes a k) ↔ IsEquilibrium d.nodes (profile_of d.nodes (choices_at d.nodes k))
  stable_is_best k m =
      let law = table_law d.nodes d.agents (choices_at d.nodes k) is.graph is.tables (owned d is) (listed d.nodes k m) in (
        (λ h. law.1 (λ a ys i w agree. best k m h a ys i ((lists_worlds.all (counts_for d.nodes) ys).0 w) w agree)),
        (λ e a i j n agree. (compares d.nodes a (choices_at d.nodes j) (choices_at d.nodes k) is.graph is.tables (listed d.nodes j n) (listed d.nodes k m)).0 (law.0 e a (choices_at d.nodes j) i (listed d.nodes j n) agree)),
      )

  pub all_tried : (marks : List Bool) → MarksBest d.nodes d.agents marks → MarksStable d.nodes marks
  all_tried marks so = record { len = so.len; each = λ k l. each k l (subst (λ n. k < n) so.len l) }
    where
      each : (k : ℕ) → k < length marks → k < length (choice_lists d.nodes) → (slice_index_or marks k false ≡ true) ↔ IsEquilibrium d.nodes (profile_of d.nodes (choices_at d.nodes k))
      each k l m = ((λ t. (stable_is_best k m).0 ((so.each k l).0 t)), (λ e. (so.each k l).1 ((stable_is_best k m).1 e)))
