use Rattle.std.proofs.Common.{◌∙◌, ℕ, ◌<◌, List, length, subst, sym, ap}
use Rattle.size_precheck.specs.declared.joints.Joint.{Joint}
use Rattle.size_precheck.specs.declared.planners.Family.{Family}
use Rattle.size_precheck.specs.Families.{AreFamilies}
use Rattle.size_precheck.specs.Joints.{IsCountedAt}
use Rattle.size_precheck.proofs.planners.Planner.new.Goals as goal

pub list_families-requires : goal.list_families-requires
list_families-requires c = ap (λ (xs : List ℕ). length xs) c.deref.ensures.value ∙ c.in_ok-states.ensures.len

pub list_joints-requires-clause-len : goal.list_joints-requires-clause-len
list_joints-requires-clause-len c = ap (λ (fs : List Family). length fs) c.deref-3.ensures.value ∙ c.in_ok-families.ensures.len

pub list_joints-requires-clause-families : goal.list_joints-requires-clause-families
list_joints-requires-clause-families c =
    let nodes = c.args.diagram.now.nodes in
    subst (λ (fs : List Family). AreFamilies nodes c.deref-2.result.now fs) (sym c.deref-3.ensures.value)
    (subst (λ (xs : List ℕ). AreFamilies nodes xs c.in_ok-families.families.items) (c.deref.ensures.value ∙ sym c.deref-2.ensures.value) c.in_ok-families.ensures.families)

pub list_counts-requires : goal.list_counts-requires
list_counts-requires c = ap (λ (xs : List ℕ). length xs) c.deref-4.ensures.value ∙ c.in_ok-states.ensures.len

pub returns-clause-planner : goal.returns-clause-planner
returns-clause-planner c =
    let nodes = c.args.diagram.now.nodes in
    let joints = c.in_ok-joints.joints.items in
    let counts = c.in_ok-counts.counts.items in
    let len = ap (λ (js : List Joint). length js) c.deref-5.ensures.value ∙ c.in_ok-joints.ensures.len in
    record {
      long = c.in_ok-states.ensures.len;
      states = c.in_ok-states.ensures.states;
      all = c.in_ok-families.ensures.len;
      families = subst (λ (xs : List ℕ). AreFamilies nodes xs c.in_ok-families.families.items) c.deref.ensures.value c.in_ok-families.ensures.families;
      joints_len = c.in_ok-joints.ensures.len;
      joints = c.in_ok-joints.ensures.joints;
      counts_len = c.in_ok-counts.ensures.len ∙ len;
      counts = λ y l. subst (λ (xs : List ℕ). IsCountedAt xs joints counts y) c.deref-4.ensures.value
          (subst (λ (js : List Joint). IsCountedAt c.deref-4.result.now js counts y) c.deref-5.ensures.value (c.in_ok-counts.ensures.counted y (subst (λ (n : ℕ). y < n) (sym len) l)));
    }

pub returns-clause-diagram : goal.returns-clause-diagram
returns-clause-diagram c = c.in_ok-states.ensures.diagram
