use Rattle.std.proofs.Common.{◌≡◌, Bool, true, false, refl, sym, inl, inr}
use Rattle.node_sets.specs.Sets.{holds}
use Rattle.plan_sums.specs.Plans.{has}
use Rattle.factor_core.proofs.ListTables.{has_is}
use Rattle.factor_core.proofs.tables.scope_of.Goals as goal

same_test : (a b : Bool) → ((a ≡ true) → (b ≡ true)) → ((b ≡ true) → (a ≡ true)) → a ≡ b
same_test true b f g = sym (f refl)
same_test false true f g = g refl
same_test false false f g = refl

pub returns : goal.returns
returns c = λ v.
    same_test (holds c.insert_all.new.self v) (has c.args.list.now v)
    (λ t. elim ((c.insert_all.ensures.all v).0 t) [ inl m ↦ absurd (c.empty-scope.ensures v m) | inr m ↦ (has_is c.args.list.now v).0 m ])
    (λ t. (c.insert_all.ensures.all v).1 (inr ((has_is c.args.list.now v).1 t)))
