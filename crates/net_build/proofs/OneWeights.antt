-- Chance cells are the only ones: the decimals are, and so is their scaling.
use Rattle.std.proofs.Common.{◌≡◌, ℕ, zero, suc, ℤ, List, [], length, sym, ap, subst, ◌∙◌, arith}
use Rattle.std.specs.Int.{◌∣◌}
use Rattle.std.proofs.lemmas.List.{nil_from_length}
use Rattle.std.proofs.lemmas.Nat.Gcd.{dvd-zero, dvd_antisymm}
use Rattle.weight_scale.specs.Laws.{ScalesInOneWay}
use Rattle.weight_scale.specs.Scaling.{IsScaled}
use Rattle.weight_scale.specs.Views.{ScaledView}
use Rattle.weight_scale.specs.declared.decimal.Decimal.{Decimal}
use Rattle.net_build.specs.Building.{AreChanceCells}
use Rattle.net_build.proofs.OneDecimal.{decimals_once}

-- without states there are no weights
no_weights : (ds : List Decimal) (scaled : ScaledView) → 0 ∣ length ds → IsScaled ds 0 scaled → scaled.weights ≡ []
no_weights ds scaled divides h = nil_from_length scaled.weights (h.len ∙ sym (dvd_antisymm divides (dvd-zero (length ds))))

weights_once : ScalesInOneWay → (states : ℕ) (ds : List Decimal) (scaled other : ScaledView) → states ∣ length ds → IsScaled ds states scaled → IsScaled ds states other → scaled.weights ≡ other.weights
weights_once one_way zero ds scaled other divides h k = no_weights ds scaled divides h ∙ sym (no_weights ds other divides k)
weights_once one_way (suc s) ds scaled other divides h k = ap (λ (x : ScaledView). x.weights) (one_way ds (suc s) scaled other (omega arith) divides h k)

pub chance_cells_once : ScalesInOneWay → (states : ℕ) (numerals : List (List ℕ)) → states ∣ length numerals → (cells others : List ℤ) → AreChanceCells states numerals cells → AreChanceCells states numerals others → cells ≡ others
chance_cells_once one_way states numerals divides cells others h k =
    let same = decimals_once numerals h.0 k.0 h.2 k.2 in
    let whole = subst (λ n. states ∣ n) (sym k.2.len) divides in
    h.4 ∙ weights_once one_way states k.0 h.1 k.1 whole (subst (λ (ds : List Decimal). IsScaled ds states h.1) same h.3) k.3 ∙ sym k.4
