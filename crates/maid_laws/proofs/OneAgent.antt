-- The start without a node: one agent's optimum.
use Rattle.std.proofs.Common.{◌≡◌, ◌∙◌, ℕ, true, false, cond, List, [], ◌∷◌, refl, sym, ap, subst, arith, ℤ, pos, ◌*ℤ◌, ◌≤ℤ◌}
use Rattle.std.proofs.Math.Path.{fun_ext}
use Rattle.std.specs.List.{list_all}
use Rattle.maid_model.specs.Gains.{gain_of, mass, sum_worlds, utility}
use Rattle.maid_model.specs.Graph.{IsGraph}
use Rattle.maid_model.specs.Nodes.{numbers_of}
use Rattle.maid_model.specs.Profiles.{IsProfile}
use Rattle.maid_model.specs.Subgames.{IsNoBetter, IsListing, IsHistory, IsSubgameStart, gain_from, mass_from}
use Rattle.finite_sums.specs.Sums.{product_over}
use Rattle.maid_model.specs.Tables.{table, weight_total}
use Rattle.maid_model.specs.Views.{NodeView, RuleView}
use Rattle.maid_laws.specs.Exchange.{OneAgent}
use Rattle.maid_laws.proofs.Listings.{gain_same, mass_same}
use Rattle.maid_laws.proofs.Notions.{gain_from_start, mass_from_start}
use Rattle.maid_laws.proofs.OrderLaws.{listing_law}
use Rattle.maid_laws.proofs.Signs.{pos_product}

-- the empty history starts a subgame
pub empty_start : (nodes : List NodeView) (order : List ℕ) → IsSubgameStart nodes order []
empty_start nodes order = record {
  history = record { within = omega arith; each = λ i l. absurd (omega arith) };
  reachable = λ i l k. absurd (omega arith);
  keeps = λ i g h l m k gh hh lg lh a e. refl;
}

-- every world extends the empty start
all_true : (vs : List ℕ) → list_all (λ v. true) vs ≡ true
all_true [] = refl
all_true (v ∷ vs) = all_true vs

-- its gain is that of the whole
gain_empty : (nodes : List NodeView) (p : List RuleView) (a : ℕ) → gain_from_start nodes (λ v. false) (λ v. 0) p a ≡ gain_of nodes p a
gain_empty nodes p a = ap (sum_worlds nodes) (fun_ext (λ w. ap (λ b. cond b (product_over (λ v. table nodes p v w) (numbers_of nodes) *ℤ utility nodes a w) (pos 0)) (all_true (numbers_of nodes))))

-- and its mass
mass_empty : (nodes : List NodeView) (p : List RuleView) → mass_from_start nodes (λ v. false) p ≡ pos (mass nodes p)
mass_empty nodes p = pos_product (weight_total nodes p) (numbers_of nodes)

module _ (nodes : List NodeView) (g : IsGraph nodes) (order : List ℕ) (l : IsListing nodes order) where
  -- the empty history
  none : IsHistory nodes order []
  none = (empty_start nodes order).history

  -- the same for the empty history
  pub gain_whole : (p : List RuleView) (agent : ℕ) → gain_from nodes order [] p agent ≡ gain_of nodes p agent
  gain_whole p agent = sym (gain_same nodes g order [] l none p agent) ∙ gain_empty nodes p agent

  pub mass_whole : (p : List RuleView) → ◌≡◌ {A = ℤ} (pos (mass_from nodes order [] p)) (pos (mass nodes p))
  mass_whole p = sym (mass_same nodes g order [] l none p) ∙ mass_empty nodes p

-- an agent that owns all may deviate to any profile at the empty start
pub one_agent_law : OneAgent
one_agent_law nodes s agent g perfect owns = record { profile = perfect.profile; greatest = greatest }
  where
    greatest : (t : List RuleView) → IsProfile nodes t → IsNoBetter nodes agent s t
    greatest t ht =
        let l = listing_law nodes g in
        let h = perfect.from_each_start l.0 [] l.1 (empty_start nodes l.0) agent t ht (λ v d n. absurd (n (owns v d))) in
        subst (λ x. x ≤ℤ (gain_of nodes s agent *ℤ pos (mass nodes t))) (λ i. gain_whole nodes g l.0 l.1 t agent i *ℤ mass_whole nodes g l.0 l.1 s i)
        (subst (λ x. (gain_from nodes l.0 [] t agent *ℤ pos (mass_from nodes l.0 [] s)) ≤ℤ x) (λ i. gain_whole nodes g l.0 l.1 s agent i *ℤ mass_whole nodes g l.0 l.1 t i) h)
