use Rattle.std.proofs.Common.{◌≡◌, ◌∙◌, ◌<◌, ℕ, [], false, length, sym, subst, slice_index_or}
use Rattle.reach_laws.specs.Equilibria.{pure_profiles}
use Rattle.pure_search.specs.Games.{IsFirstMark}
use Rattle.pure_search.proofs.Finding.{as_many_profiles, first_is, found_one, none_is}
use Rattle.pure_search.proofs.searching.search.Goals as goal

pub found_at-requires-clause-first : goal.found_at-requires-clause-first
found_at-requires-clause-first c = first_is c.args.diagram.now.nodes c.in_ok-marks.marks.items c.in_ok-marks.ensures c.in-Some.place (subst (λ ms. IsFirstMark ms c.in-Some.place) c.deref.ensures.value c.in-Some.ensures.some)

pub returns-in-Some-clause-rows : goal.returns-in-Some-clause-rows
returns-in-Some-clause-rows c =
    let nodes = c.args.diagram.now.nodes in (
      slice_index_or (pure_profiles nodes) c.in-Some.place [],
      found_one nodes c.in-Some.place (first_is nodes c.in_ok-marks.marks.items c.in_ok-marks.ensures c.in-Some.place (subst (λ ms. IsFirstMark ms c.in-Some.place) c.deref.ensures.value c.in-Some.ensures.some)),
    )

pub returns-clause-rows : goal.returns-clause-rows
returns-clause-rows c = (
  none_is c.args.diagram.now.nodes c.in_ok-marks.marks.items c.in_ok-marks.ensures (subst (λ ms. (k : ℕ) → k < length ms → slice_index_or ms k false ≡ false) c.deref.ensures.value c.in-None.ensures.none),
  c.requires.profiles ∙ sym (as_many_profiles c.args.diagram.now.nodes),
)
