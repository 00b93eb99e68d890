-- A key that isn't there goes last.
use Rattle.std.proofs.Common.{ℕ, List, [], ◌∷◌, ◌++◌, Contains, ap, sym, subst, ◌∙◌}
use Rattle.maid_model.specs.Names.{list_of}
use Rattle.net_build.proofs.NameLemmas.{one_more}
use Rattle.net_build.proofs.distinct_names.DistinctNames.add.Goals as goal

pub returns : goal.returns
returns c = ap list_of c.in_ok-insert.ensures.keys
    ∙ one_more c.self.inside.names.keys c.args.name (subst (λ (names : List (List ℕ)). Contains names c.args.name.items → ⊥) (sym c.self.view_is) c.requires)
    ∙ ap (λ (names : List (List ℕ)). names ++ c.args.name.items ∷ []) c.self.view_is
