use Rattle.std.proofs.Common.{◌≡◌, ◌∙◌, ◌⊎◌, ◌↔◌, ℕ, List, Contains, false, sym, subst, ap, inl, inr, arith}
use Rattle.maid_model.specs.declared.diagrams.Kind.{Kind}
use Rattle.maid_model.specs.declared.diagrams.Kind.TheVariants.{Chance, Decision}
use Rattle.maid_model.specs.Nodes.{is_utility}
use Rattle.node_sets.specs.Sets.{IsIn}
use Rattle.eliminate.proofs.Scoped.{utility_scope, node_scope}
use Rattle.eliminate.proofs.sums.first_scope.Goals as goal

pub insert_all-requires : goal.insert_all-requires
insert_all-requires c v m = let a = c.parents.ensures.known v m in let b = c.parents.ensures.diagram.limits.nodes in omega arith

pub returns-in-Utility : goal.returns-in-Utility
returns-in-Utility c =
    utility_scope c.args.diagram.now.nodes c.args.node c.empty-scope.result c.insert_all.new.self c.empty-scope.ensures
    (subst (λ (l : List ℕ). (x : ℕ) → IsIn c.insert_all.new.self x ↔ (IsIn c.empty-scope.result x ⊎ Contains l x)) c.parents.ensures.parents c.insert_all.ensures.all)
    (sym c.kind.ensures.kind ∙ c.in-Utility.is)

plain : (kind : Kind) → ((kind ≡ Chance) ⊎ (kind ≡ Decision)) → is_utility kind ≡ false
plain kind (inl e) = ap is_utility e
plain kind (inr e) = ap is_utility e

pub returns-in-Chance : goal.returns-in-Chance
returns-in-Chance c =
    node_scope c.args.diagram.now.nodes c.args.node c.empty-scope.result c.insert_all.new.self c.empty-scope.ensures
    (subst (λ (l : List ℕ). (x : ℕ) → IsIn c.insert_all.new.self x ↔ (IsIn c.empty-scope.result x ⊎ Contains l x)) c.parents.ensures.parents c.insert_all.ensures.all)
    c.insert.new.self c.insert.ensures.all (ap is_utility (sym c.kind.ensures.kind) ∙ plain c.kind.result c.in-Chance.is)
