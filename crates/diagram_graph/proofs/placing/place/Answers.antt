use Rattle.std.proofs.lemmas.Result.{err_from_is_err_and}
use Rattle.std.proofs.Common.{◌≡◌, ℕ, ◌<◌, ◌↔◌, List, [], ◌∷◌, ◌++◌, length, sym, subst, arith, get_or, false}
use Rattle.std.specs.Prelude.{Contains, slice_set, true}
use Rattle.maid_model.specs.Placing.{IsLeast, IsPlacing, CanPlace}
use Rattle.diagram_graph.specs.Needs.{IsMarkedIn, NeedsItem}
use Rattle.diagram_graph.specs.Free.{IsReady}
use Rattle.diagram_graph.proofs.Placings.{in_within, marks_push, placing_push, least_same, ready_can, fewer_unmarked, unmarked}
use Rattle.diagram_graph.proofs.placing.place.Goals as goal

pub placing-preserved : goal.placing-preserved
placing-preserved g c =
    let items = c.args.items.now in
    let lists = g.N.Needs.lists c.args.needs.now in
    let order = c.placing.order.items in
    let v = c.in-Some.v in
    let same = c.placing.invariant.marks in
    let least : IsLeast (IsReady lists items c.placing.placed) v = c.in-Some.ensures in
    let grown : c.push.new.self.items ≡ order ++ v ∷ [] = c.in_ok-push.ensures.items in
    let within : v < length c.placing.placed = let a = in_within items v least.0.0.0 in omega arith in
    record {
      marks = subst (λ (xs : List ℕ). (x : ℕ) → IsMarkedIn (slice_set c.placing.placed v true) x ↔ Contains xs x) (sym grown) (marks_push c.placing.placed order v within same);
      placing = subst (λ (xs : List ℕ). IsPlacing (IsMarkedIn items) (NeedsItem lists) xs) (sym grown)
          (placing_push (IsMarkedIn items) (NeedsItem lists) order v c.placing.invariant.placing
          (least_same (IsReady lists items c.placing.placed) (CanPlace (IsMarkedIn items) (NeedsItem lists) order) (ready_can lists items c.placing.placed order same) v least));
    }

pub first_ready-requires-clause-items_len : goal.first_ready-requires-clause-items_len
first_ready-requires-clause-items_len g c = c.requires.items_len

pub first_ready-requires-clause-placed_len : goal.first_ready-requires-clause-placed_len
first_ready-requires-clause-placed_len g c = omega (arith, c.placing.auto.placed, c.requires.placed_len)

pub first_ready-requires-clause-needs : goal.first_ready-requires-clause-needs
first_ready-requires-clause-needs g c = c.requires.needs

pub returns-in_err-push-clause-marks : goal.returns-in_err-push-clause-marks
returns-in_err-push-clause-marks g c = rw (err_from_is_err_and c.from_residual.result c.from_residual.ensures.1).1 tt

pub returns-in_err-push-clause-placing : goal.returns-in_err-push-clause-placing
returns-in_err-push-clause-placing g c = rw (err_from_is_err_and c.from_residual.result c.from_residual.ensures.1).1 tt

pub returns-in_err-push-clause-stuck : goal.returns-in_err-push-clause-stuck
returns-in_err-push-clause-stuck g c = rw (err_from_is_err_and c.from_residual.result c.from_residual.ensures.1).1 tt

pub bounds-placed-v : goal.bounds-placed-v
bounds-placed-v g c =
    let least = c.in-Some.ensures in
    let within : c.in-Some.v < length c.placing.placed = let a = in_within c.args.items.now c.in-Some.v least.0.0.0 in omega (arith, a, c.placing.auto.placed, c.requires.placed_len, c.requires.items_len) in
    within

pub placing-smaller : goal.placing-smaller
placing-smaller g c =
    let least = c.in-Some.ensures in
    let within : c.in-Some.v < length c.placing.placed = let a = in_within c.args.items.now c.in-Some.v least.0.0.0 in omega (arith, a, c.placing.auto.placed, c.requires.placed_len, c.requires.items_len) in
    fewer_unmarked c.placing.placed c.in-Some.v within (unmarked (get_or c.placing.placed c.in-Some.v false) least.0.0.1)

pub returns-clause-marks : goal.returns-clause-marks
returns-clause-marks g c = c.placing.invariant.marks

pub returns-clause-placing : goal.returns-clause-placing
returns-clause-placing g c = c.placing.invariant.placing
