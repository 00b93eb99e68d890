use Rattle.std.proofs.Math.ListN.{length-replicate}
use Rattle.std.proofs.Common.{◌≡◌, ℕ, ◌<◌, ◌↔◌, List, [], ◌∷◌, ◌++◌, length, get_or, sym, subst, ◌∙◌, arith, false, Bool, ap, replicate}
use Rattle.std.specs.Prelude.{Contains, slice_set, true}
use Rattle.std.proofs.lemmas.Bool.{both_ways}
use Rattle.std.proofs.lemmas.List.{length-set}
use Rattle.std.proofs.lemmas.Result.{IfOk-weaker, err_from_is_err_and}
use Rattle.diagram_graph.specs.Needs.{IsMarkedIn}
use Rattle.diagram_graph.specs.Free.{IsFree}
use Rattle.diagram_graph.specs.Rounds.{IsListedRound}
use Rattle.diagram_graph.proofs.Placings.{in_within, marks_push, read_mark, fewer_unmarked, marks_none, none_marked}
use Rattle.diagram_graph.proofs.Trails.{IsWalking, walking_push, round_from, walking_start}
use Rattle.diagram_graph.proofs.rounds.find_round.Goals as goal

pub trail-preserved : goal.trail-preserved
trail-preserved g c =
    let seen = c.trail.seen.items in
    let trail = c.trail.trail.items in
    let at = c.trail.at in
    let Left : ℕ → Type 0 = IsFree c.args.items.now c.args.placed.now in
    let walking : IsWalking Left (g.N.Needs.lists c.args.needs.now) trail at = c.trail.invariant.walking in
    let within : at < length seen = let l = in_within c.args.items.now at walking.left.0 in let m = c.trail.invariant.len in let n = c.requires.items_len in omega arith in
    let unseen : get_or seen at false ≡ false = read_mark seen at _ within c.index.ensures ∙ c.trail-test.true in
    let grown : c.push.new.self.items ≡ trail ++ at ∷ [] = c.in_ok-push.ensures.items in
    record {
      len = simp length-set (c.trail.invariant.len);
      marks = subst (λ (xs : List ℕ). (x : ℕ) → IsMarkedIn (slice_set seen at true) x ↔ Contains xs x) (sym grown) (marks_push seen trail at within c.trail.invariant.marks);
      walking = subst (λ (xs : List ℕ). IsWalking Left (g.N.Needs.lists c.args.needs.now) xs c.next_needed-at.result) (sym grown)
          (walking_push Left (g.N.Needs.lists c.args.needs.now) trail at c.next_needed-at.result walking
          (λ h. both_ways _ unseen ((c.trail.invariant.marks at).1 h)) c.next_needed-at.ensures);
    }

pub place_of-back-requires : goal.place_of-back-requires
place_of-back-requires g c =
    let seen = c.trail.seen.items in
    let at = c.trail.at in
    let within : at < length seen = let l = in_within c.args.items.now at c.trail.invariant.walking.left.0 in let m = c.trail.invariant.len in let n = c.requires.items_len in omega arith in
    let there : Contains c.trail.trail.items at = (c.trail.invariant.marks at).0 (read_mark seen at _ within c.index.ensures ∙ c.trail-test.false) in
    subst (λ (xs : List ℕ). Contains xs at) (sym c.deref.ensures.value) there

pub returns : goal.returns
returns g c =
    let trail = c.trail.trail.items in
    let back = c.place_of-back.result in
    let Left : ℕ → Type 0 = IsFree c.args.items.now c.args.placed.now in
    let same : c.deref.result.now ≡ trail = c.deref.ensures.value in
    let within : back < length trail = subst (λ (xs : List ℕ). back < length xs) same c.place_of-back.ensures.within in
    let there : get_or trail back 0 ≡ c.trail.at = subst (λ (xs : List ℕ). get_or xs back 0 ≡ c.trail.at) same c.place_of-back.ensures.there in
    IfOk-weaker c.split_off.result _ _
    (λ w e. subst (λ (xs : List ℕ). IsListedRound Left (g.N.Needs.lists c.args.needs.now) xs) (sym e) (round_from Left (g.N.Needs.lists c.args.needs.now) trail c.trail.at back c.trail.invariant.walking within there))
    c.split_off.ensures.tail

pub returns-in_err-seen : goal.returns-in_err-seen
returns-in_err-seen g c = rw (err_from_is_err_and c.from_residual.result c.from_residual.ensures.1).1 tt

pub trail-init : goal.trail-init
trail-init g c =
    let all : c.in_ok-seen.seen.items ≡ replicate c.count.result false = c.in_ok-seen.ensures.items_if_clones_equal (λ y e. e) in
    record {
      len = ap length all ∙ length-replicate c.count.result false ∙ c.count.ensures;
      marks = subst (λ (xs : List ℕ). (x : ℕ) → IsMarkedIn c.in_ok-seen.seen.items x ↔ Contains xs x) (sym c.new-trail.ensures.items)
          (marks_none c.in_ok-seen.seen.items (λ x h. none_marked c.count.result x (subst (λ (xs : List Bool). IsMarkedIn xs x) all h)));
      walking = subst (λ (xs : List ℕ). IsWalking (IsFree c.args.items.now c.args.placed.now) (g.N.Needs.lists c.args.needs.now) xs c.args.start) (sym c.new-trail.ensures.items) (walking_start (IsFree c.args.items.now c.args.placed.now) (g.N.Needs.lists c.args.needs.now) c.args.start c.requires.start);
    }

pub index-requires : goal.index-requires
index-requires g c =
    let seen = c.trail.seen.items in
    let within : c.trail.at < length seen = let l = in_within c.args.items.now c.trail.at c.trail.invariant.walking.left.0 in let m = c.trail.invariant.len in let n = c.requires.items_len in omega (arith, l, m, n) in
    omega (arith, within, c.trail.seen.ok.0)

pub index_mut-requires : goal.index_mut-requires
index_mut-requires g c =
    let seen = c.trail.seen.items in
    let within : c.trail.at < length seen = let l = in_within c.args.items.now c.trail.at c.trail.invariant.walking.left.0 in let m = c.trail.invariant.len in let n = c.requires.items_len in omega (arith, l, m, n) in
    omega (arith, within, c.trail.seen.ok.0)

pub returns-in_err-push : goal.returns-in_err-push
returns-in_err-push g c = rw (err_from_is_err_and c.from_residual-in_err-push.result c.from_residual-in_err-push.ensures.1).1 tt

pub next_needed-at-requires-clause-items_len : goal.next_needed-at-requires-clause-items_len
next_needed-at-requires-clause-items_len g c = c.requires.items_len

pub next_needed-at-requires-clause-placed_len : goal.next_needed-at-requires-clause-placed_len
next_needed-at-requires-clause-placed_len g c = c.requires.placed_len

pub next_needed-at-requires-clause-needs : goal.next_needed-at-requires-clause-needs
next_needed-at-requires-clause-needs g c = c.requires.needs

pub next_needed-at-requires-clause-free : goal.next_needed-at-requires-clause-free
next_needed-at-requires-clause-free g c = c.trail.invariant.walking.left

pub next_needed-at-requires-clause-stuck : goal.next_needed-at-requires-clause-stuck
next_needed-at-requires-clause-stuck g c = c.requires.stuck

pub trail-smaller : goal.trail-smaller
trail-smaller g c =
    let seen = c.trail.seen.items in
    let within : c.trail.at < length seen = let l = in_within c.args.items.now c.trail.at c.trail.invariant.walking.left.0 in let m = c.trail.invariant.len in let n = c.requires.items_len in omega (arith, l, m, n) in
    fewer_unmarked seen c.trail.at within (read_mark seen c.trail.at c.index.result.now within c.index.ensures ∙ c.trail-test.true)
