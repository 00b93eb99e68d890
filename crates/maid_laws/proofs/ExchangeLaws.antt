-- The law of the exchange, for every diagram.
use Rattle.std.proofs.Common.{◌≡◌, ◌≢◌, ◌⊎◌, ◌∙◌, ℕ, suc, ◌+◌, ◌*◌, ◌<◌, Bool, true, false, cond, eqb, filter, List, [], ◌∷◌, take, map, length, slice_index, slice_index_or, refl, sym, ap, subst, inl, inr, arith, ℤ, pos, ◌*ℤ◌, ◌≤ℤ◌, ◌<ℤ◌}
use Rattle.std.proofs.Math.Decide.{dec_lt}
use Rattle.maid_model.specs.declared.diagrams.Kind.TheVariants.{Decision}
use Rattle.maid_model.specs.Gains.{gain_at, mass_at}
use Rattle.maid_model.specs.Graph.{IsGraph}
use Rattle.maid_model.specs.Nodes.{IsDecision, node_at, states_of, rows_of, is_decision}
use Rattle.maid_model.specs.Profiles.{uniform_profile}
use Rattle.maid_model.specs.Relevance.{IsLive, ReliesOn}
use Rattle.maid_model.specs.Subgames.{IsSubgamePerfect, DiffersOnlyFor, gain_from, mass_from, world_of_history}
use Rattle.finite_sums.specs.Sums.{World, InRange}
use Rattle.maid_model.specs.Tables.{HasChanceTables, weights_of, table}
use Rattle.maid_model.specs.Views.{NodeView, RuleView}
use Rattle.finite_sums.specs.Members.{Among}
use Rattle.maid_model.proofs.Setting.{HasTables}
use Rattle.finite_sums.proofs.Sums.{sum_below_cong}
use Rattle.maid_laws.specs.Exchange.{weight_at, IsBestInBases, Exchange}
use Rattle.maid_laws.proofs.Booleans.{eqb_yes}
use Rattle.maid_laws.proofs.FromStarts.{exchange_at}
use Rattle.maid_laws.proofs.Basis.{among_filter_in}
use Rattle.maid_laws.proofs.Histories.{in_start}
use Rattle.maid_laws.proofs.Listings.{start_of, gain_same, mass_same}
use Rattle.maid_laws.proofs.Members.{among_of}
use Rattle.maid_laws.proofs.Notions.{IsBest, InOrder, SameForOthers, gain_from_start, mass_from_start}
use Rattle.maid_laws.proofs.Orders.{ordered}
use Rattle.maid_model.proofs.Uniform.{uniform_is_profile}
use Rattle.maid_model.proofs.Weighing.{pos_at}
use Rattle.maid_laws.proofs.Rules.{one_of, decision_kind, uniform_like}
use Rattle.maid_laws.proofs.Tied.{decision_of, dec_decision, tables_of}

module _ (nodes : List NodeView) (g : IsGraph nodes) (c : HasChanceTables nodes) (s : List RuleView) (b : IsBestInBases nodes s) where
  -- in each row of a decision one state has the weight 1 and the others none
  chosen : (d row : ℕ) → IsDecision nodes d → row < rows_of nodes d
      → (x : ℕ) × (x < states_of nodes d) × ((i : ℕ) → i < states_of nodes d → pos (weight_at nodes s d i row) ≡ cond (eqb i x) (pos 1) (pos 0))
  chosen d row k l =
      one_of (states_of nodes d) (λ x. weight_at nodes s d x row)
      (sum_below_cong (states_of nodes d) (λ i. pos (weight_at nodes s d i row)) (λ i. slice_index_or (map pos (weights_of s d)) (row * states_of nodes d + i) (pos 0)) (λ i m. sym (pos_at (weights_of s d) (row * states_of nodes d + i)))
      ∙ (b.profile.rule d k).table.row row l ∙ ap pos (b.pure d k))

  -- that state, where the decision has the row
  choice_by : (d row : ℕ) → Dec (IsDecision nodes d) → Dec (row < rows_of nodes d) → ℕ
  choice_by d row (yes k) (yes l) = (chosen d row k l).0
  choice_by d row (yes k) (no n) = 0
  choice_by d row (no n) e = 0

  -- the chosen state of each row
  choice : ℕ → ℕ → ℕ
  choice d row = choice_by d row (dec_decision nodes d) (dec_lt row (rows_of nodes d))

  -- it is a state, and the only one with weight
  choice_is : (d row : ℕ) → IsDecision nodes d → row < rows_of nodes d → (choice d row < states_of nodes d) × ((i : ℕ) → i < states_of nodes d → pos (weight_at nodes s d i row) ≡ cond (eqb i (choice d row)) (pos 1) (pos 0))
  unfolding choice choice_by
  choice_is d row k l = go (dec_decision nodes d) (dec_lt row (rows_of nodes d))
    where
      go : (e : Dec (IsDecision nodes d)) (f : Dec (row < rows_of nodes d)) → (choice_by d row e f < states_of nodes d) × ((i : ℕ) → i < states_of nodes d → pos (weight_at nodes s d i row) ≡ cond (eqb i (choice_by d row e f)) (pos 1) (pos 0))
      go (yes x) (yes y) = ((chosen d row x y).1, (chosen d row x y).2)
      go (yes x) (no n) = absurd (n l)
      go (no n) f = absurd (n k)

  -- the base of a decision
  base_by : (d : ℕ) → Dec (IsDecision nodes d) → List RuleView
  base_by d (yes k) = (b.best d k).base
  base_by d (no n) = uniform_profile nodes

  -- a base for each number
  base : ℕ → List RuleView
  base d = base_by d (dec_decision nodes d)

  -- each base has its tables
  base_tables : (d : ℕ) → HasTables nodes (base d)
  unfolding base base_by
  base_tables d = go (dec_decision nodes d)
    where
      go : (e : Dec (IsDecision nodes d)) → HasTables nodes (base_by d e)
      go (yes k) = tables_of nodes (b.best d k).base g c (b.best d k).is_base.profile
      go (no n) = tables_of nodes (uniform_profile nodes) g c (uniform_is_profile nodes g)

  -- and s's weights where the decision relies
  base_relied : (d e : ℕ) → ReliesOn nodes d e → weights_of (base d) e ≡ weights_of s e
  unfolding base base_by
  base_relied d e r = go (dec_decision nodes d)
    where
      go : (f : Dec (IsDecision nodes d)) → weights_of (base_by d f) e ≡ weights_of s e
      go (yes k) = ((b.best d k).is_base.relied e r).weights
      go (no n) = absurd (n r.from_decision)

  -- and factors of 1 elsewhere
  base_else : (d e : ℕ) → (ReliesOn nodes d e → ⊥) → e ≢ d → (node_at nodes e).kind ≡ Decision → (w : World) → InRange (states_of nodes) w → table nodes (base d) e w ≡ pos 1
  unfolding base base_by
  base_else d e n m k w i = uniform_like nodes (base d) e (decision_of nodes e k) (go (dec_decision nodes d)) w i
    where
      go : (f : Dec (IsDecision nodes d)) → weights_of (base_by d f) e ≡ weights_of (uniform_profile nodes) e
      go (yes j) = ((b.best d j).is_base.others e (decision_of nodes e k) n).weights
      go (no j) = refl

  -- no state has a greater gain against the base than the chosen one
  best : (d row x : ℕ) → IsLive nodes d → (node_at nodes d).kind ≡ Decision → row < rows_of nodes d → x < states_of nodes d → pos 0 <ℤ mass_at nodes (base d) d row → gain_at nodes (base d) d x row ≤ℤ gain_at nodes (base d) d (choice d row) row
  unfolding base base_by
  best d row x live kind l lx = go (dec_decision nodes d)
    where
      ch : (choice d row < states_of nodes d) × ((i : ℕ) → i < states_of nodes d → pos (weight_at nodes s d i row) ≡ cond (eqb i (choice d row)) (pos 1) (pos 0))
      ch = choice_is d row (decision_of nodes d kind) l

      natural : {m n : ℕ} → ◌≡◌ {A = ℤ} (pos m) (pos n) → m ≡ n
      natural e = cc

      one : weight_at nodes s d (choice d row) row ≡ 1
      one = natural (ch.1 (choice d row) ch.0 ∙ ap (λ y. cond y (pos 1) (pos 0)) (eqb_yes (choice d row) (choice d row) refl))

      go : (f : Dec (IsDecision nodes d)) → pos 0 <ℤ mass_at nodes (base_by d f) d row → gain_at nodes (base_by d f) d x row ≤ℤ gain_at nodes (base_by d f) d (choice d row) row
      go (yes j) m = (b.best d j).best (choice d row) x row ch.0 l one m lx
      go (no n) m = absurd (n (decision_of nodes d kind))

  -- so s is best, in the words of the proofs
  is_best : IsBest nodes s choice base
  is_best = record {
    tables = tables_of nodes s g c b.profile;
    total = λ v k. b.pure v (decision_of nodes v k);
    inside = λ v row k l. (choice_is v row (decision_of nodes v k) l).0;
    pure = λ v row x k l m. (choice_is v row (decision_of nodes v k) l).1 x m;
    base_tables = base_tables;
    base_relied = base_relied;
    base_else = base_else;
    best = best;
  }

  -- ---- the decisions of the list, each after those that it relies on
  in_order : (done rest : List ℕ) → ((i e : ℕ) → i < length rest → ReliesOn nodes (slice_index rest i) e → Among e done ⊎ Among e (take i rest)) → InOrder nodes done (filter (λ v. is_decision (node_at nodes v).kind) rest)
  in_order done [] h = tt
  in_order done (d ∷ rest) h = go (is_decision (node_at nodes d).kind) refl (λ more k. in_order more rest k)
    where
      none : {A : Type 0} → A ⊎ ⊥ → A
      none (inl a) = a
      none (inr m) = absurd m

      past_d : (i e : ℕ) → i < length rest → Among e done ⊎ Among e (d ∷ take i rest) → Among e (d ∷ done) ⊎ Among e (take i rest)
      past_d i e l (inl m) = inl (inr m)
      past_d i e l (inr (inl f)) = inl (inl f)
      past_d i e l (inr (inr m)) = inr m

      not_d : (i e : ℕ) → is_decision (node_at nodes d).kind ≡ false → ReliesOn nodes (slice_index rest i) e → Among e done ⊎ Among e (d ∷ take i rest) → Among e done ⊎ Among e (take i rest)
      not_d i e f r (inl m) = inl m
      not_d i e f r (inr (inl k)) = absurd (let t : is_decision (node_at nodes d).kind ≡ true = ap (λ z. is_decision (node_at nodes z).kind) (sym k) ∙ ap is_decision r.on_decision.kind in let u : true ≡ false = sym t ∙ f in cc)
      not_d i e f r (inr (inr m)) = inr m

      go : (b : Bool) → is_decision (node_at nodes d).kind ≡ b
          → ((more : List ℕ) → ((i e : ℕ) → i < length rest → ReliesOn nodes (slice_index rest i) e → Among e more ⊎ Among e (take i rest)) → InOrder nodes more (filter (λ v. is_decision (node_at nodes v).kind) rest))
          → InOrder nodes done (cond b (d ∷ filter (λ v. is_decision (node_at nodes v).kind) rest) (filter (λ v. is_decision (node_at nodes v).kind) rest))
      go true e f =
          let k = decision_of nodes d (decision_kind (node_at nodes d).kind e) in
          (k.within, k.kind, (λ x r. none (h 0 x (omega arith) r)), f (d ∷ done) (λ i x l r. past_d i x l (h (suc i) x (omega arith) r)))
      go false e f = f done (λ i x l r. not_d i x e r (h (suc i) x (omega arith) r))

  -- the decisions of the record's list
  solved_order : InOrder nodes [] (filter (λ v. is_decision (node_at nodes v).kind) b.order)
  solved_order = in_order [] b.order (λ i e l r. inr (among_of e (take i b.order) (b.relied_first i e l r)))

  -- all of them
  solved_all : (v : ℕ) → v < length nodes → (node_at nodes v).kind ≡ Decision → Among v (filter (λ v. is_decision (node_at nodes v).kind) b.order)
  solved_all v l k = among_filter_in (λ v. is_decision (node_at nodes v).kind) v b.order (among_of v b.order (b.all v (decision_of nodes v k))) (ap is_decision k)

  -- a deviation changes no other agent's rules
  same_for_others : (agent : ℕ) (t : List RuleView) → DiffersOnlyFor nodes agent s t → SameForOthers nodes agent s t
  same_for_others agent t h v k n = let r = h v (decision_of nodes v k) n in (r.weights, r.total)

  -- each start is a set of nodes with a world
  pub subgame_perfect : IsSubgamePerfect nodes s
  subgame_perfect = record {
    profile = b.profile;
    from_each_start = λ order start listing is_start agent t ht other.
        let h = exchange_at nodes s choice base (filter (λ v. is_decision (node_at nodes v).kind) b.order) (ordered nodes g) is_best solved_order solved_all
        (in_start order start) (world_of_history order start) (start_of nodes g order start listing is_start) agent t (tables_of nodes t g c ht) (same_for_others agent t other) in
        subst (λ x. x ≤ℤ (gain_from nodes order start s agent *ℤ pos (mass_from nodes order start t))) (λ i. gain_same nodes g order start listing is_start.history t agent i *ℤ mass_same nodes g order start listing is_start.history s i)
        (subst (λ x. (gain_from_start nodes (in_start order start) (world_of_history order start) t agent *ℤ mass_from_start nodes (in_start order start) s) ≤ℤ x) (λ i. gain_same nodes g order start listing is_start.history s agent i *ℤ mass_same nodes g order start listing is_start.history t i) h);
  }

-- for every diagram
pub exchange_law : Exchange
exchange_law nodes s g c b = subgame_perfect nodes g c s b
