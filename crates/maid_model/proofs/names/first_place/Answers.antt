-- Below the place no name is the one that is sought, and at the place the test says which it is.
use Rattle.std.proofs.Common.{◌≡◌, ℕ, ◌<◌, List, [], length, slice_index_or, Contains, arith, ap, sym, ◌∙◌, below_more}
use Rattle.std.proofs.lemmas.Bool.{false≢true}
use Rattle.std.proofs.lemmas.List.{get_or-map, get_or_default, length-map}
use Rattle.std.proofs.lemmas.Slice.Eq.{bytes_eq-Decides}
use Rattle.std.specs.Global.{Vec}
use Rattle.maid_model.specs.Names.{list_of}
use Rattle.maid_model.proofs.names.first_place.Goals as goal

-- what stands at the place, as bytes
at_place : (names : List (Vec ℕ)) (k : ℕ) (x : Vec ℕ) (bytes : List ℕ) → k < length names → x ≡ slice_index_or names k x → bytes ≡ x.items → slice_index_or (list_of names) k [] ≡ bytes
at_place names k x bytes h is shows = get_or-map (λ v. v.items) names k x [] h ∙ sym (ap (λ (v : Vec ℕ). v.items) is) ∙ sym shows

-- where the list lacks the name at each place, it lacks it
lacks : (names : List (List ℕ)) (name : List ℕ) → ((k : ℕ) → k < length names → slice_index_or names k [] ≡ name → ⊥) → Contains names name → ⊥
lacks names name h (k, within, is) = h k within (get_or_default names k [] name within ∙ is)

pub returns-then-eq-clause-some : goal.returns-then-eq-clause-some
returns-then-eq-clause-some c = record {
  within = rw length-map c.loop-place-test.true;
  here = at_place c.args.names.now c.loop-place.place c.index-names-place.result _ c.loop-place-test.true c.index-names-place.is c.as_slice.ensures.value ∙ (bytes_eq-Decides _ _).0 (sym c.eq.ensures ∙ c.if-eq.true);
  first = c.loop-place.invariant;
}

pub loop-place-preserved : goal.loop-place-preserved
loop-place-preserved c = below_more _ _ c.loop-place.invariant
    (λ e. false≢true (sym c.if-eq.false ∙ c.eq.ensures ∙ (bytes_eq-Decides _ _).1 (sym (at_place c.args.names.now c.loop-place.place c.index-names-place.result _ c.loop-place-test.true c.index-names-place.is c.as_slice.ensures.value) ∙ e)))

pub returns-clause-none : goal.returns-clause-none
returns-clause-none c = lacks _ _ (λ k h. c.loop-place.invariant k (let l = length-map c.args.names.now (λ (v : Vec ℕ). v.items) in omega arith))
