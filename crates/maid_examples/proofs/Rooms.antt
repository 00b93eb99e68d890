-- The diagrams of the tests with their rules have room for their sums.
use Rattle.std.proofs.Common.{◌≡◌, ◌∙◌, ℕ, ◌*◌, ◌^◌, max, Bool, true, false, ◌||◌, not, leb, List, length, sym, ap, subst₂, leb-true}
use Rattle.std.specs.List.{list_all}
use Rattle.maid_model.specs.Views.{DiagramView, RuleView}
use Rattle.maid_model.specs.Nodes.{node_at, numbers_of, is_decision}
use Rattle.maid_model.specs.Diagrams.{greatest_number}
use Rattle.maid_model.specs.Profiles.{IsProfile, uniform_profile}
use Rattle.maid_model.specs.Gains.{mass, base_mass, greatest_utility}
use Rattle.maid_examples.specs.Trial.{HasRoomForTrial}
use Rattle.maid_examples.proofs.Members.{at_number}

-- what the mass is multiplied by
abbrev pub scale : DiagramView → ℕ
scale d = max (10 ^ d.decimals) (greatest_utility d.nodes)

-- v is no decision, or its base has room
abbrev pub base_fits : DiagramView → List RuleView → ℕ → Bool
base_fits d p v = not (is_decision (node_at d.nodes v).kind) || leb (base_mass d.nodes p v * scale d) greatest_number

-- one test that follows from another
follows : (a b : Bool) → (not a || b) ≡ true → a ≡ true → b ≡ true
follows true b e f = e
follows false b e f = absurd (cc)

module _ {d known : DiagramView} {p : List RuleView} where
  pub of_rules : {rules : List RuleView} → d ≡ known → p ≡ rules → IsProfile known.nodes rules → leb (mass known.nodes rules * scale known) greatest_number ≡ true → list_all (base_fits known rules) (numbers_of known.nodes) ≡ true → HasRoomForTrial (record { diagram = d; profile = p })
  of_rules {rules = rules} e f is whole base = subst₂ (λ x y. HasRoomForTrial (record { diagram = x; profile = y })) (sym e) (sym f) (record {
    profile = is;
    whole = leb-true (mass known.nodes rules * scale known) greatest_number whole;
    base = λ v k. leb-true (base_mass known.nodes rules v * scale known) greatest_number (follows (is_decision (node_at known.nodes v).kind) (leb (base_mass known.nodes rules v * scale known) greatest_number) (at_number (base_fits known rules) (length known.nodes) base v k.within) (ap is_decision k.kind));
  })

  pub of_uniform : d ≡ known → p ≡ uniform_profile d.nodes → IsProfile known.nodes (uniform_profile known.nodes) → leb (mass known.nodes (uniform_profile known.nodes) * scale known) greatest_number ≡ true → list_all (base_fits known (uniform_profile known.nodes)) (numbers_of known.nodes) ≡ true → HasRoomForTrial (record { diagram = d; profile = p })
  of_uniform e f = of_rules e (f ∙ ap (λ x. uniform_profile x.nodes) e)
