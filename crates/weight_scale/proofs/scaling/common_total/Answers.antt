use Rattle.std.proofs.Common.{⊎_elim, sym, subst}
use Rattle.std.specs.Int.{◌∣◌}
use Rattle.std.proofs.Math.Nat.{one-dvd}
use Rattle.std.proofs.lemmas.Nat.Gcd.{dvd_refl}
use Rattle.weight_scale.proofs.scaling.common_total.Goals as goal

-- the total so far is a multiple of itself and of 1
pub returns-then-added-total-clause-some : goal.returns-then-added-total-clause-some
returns-then-added-total-clause-some c =
    let total = c.args.total in
    let divides : c.args.added ∣ total = ⊎_elim (λ e. subst (λ n. n ∣ total) (sym e) (dvd_refl total)) (λ e. subst (λ n. n ∣ total) (sym e.1) (one-dvd total)) c.then-added-total.either in
    ((dvd_refl total, divides, λ m in_m _. in_m), c.requires.total, c.requires.small)
