use Rattle.std.proofs.Common.{subst}
use Rattle.first_fault.specs.Answers.{IsFaultOrNoMemory}
use Rattle.pure_search.specs.Faults.{pure_fault, pure_pass}
use Rattle.app_forms.specs.Lines.{bound_line, no_equilibrium_line, profiles_line}
use Rattle.app_forms.specs.Pure.{search_stages}
use Rattle.app_forms.specs.Reading.{found_by}
use Rattle.app_forms.specs.declared.status.Status.TheVariants.{NoPure, TooLarge, WeightBound}
use Rattle.app_forms.proofs.Refusals.{told_gives}
use Rattle.app_forms.proofs.SolveRefusals.{place_named}
use Rattle.app_forms.proofs.Searches.{search_passed, search_bound, search_size, search_none}
use Rattle.app_forms.proofs.forms.pure.refusal.Goals as goal

-- the place at which the weight bound is passed is a node, which has a name
pub weight_bound-requires : goal.weight_bound-requires
weight_bound-requires c =
    let d = c.args.diagram.now in
    let found = subst (IsFaultOrNoMemory pure_fault (pure_pass d)) c.in-WeightBound.is c.requires.fault in
    place_named d c.args.names.now c.in-WeightBound.node c.requires.fit (search_passed d c.in-WeightBound.node found)

-- the line tells it
pub returns-in-WeightBound : goal.returns-in-WeightBound
returns-in-WeightBound c =
    let d = c.args.diagram.now in
    let names = c.args.names.now in
    let found = subst (IsFaultOrNoMemory pure_fault (pure_pass d)) c.in-WeightBound.is c.requires.fault in
    told_gives (found_by d names search_stages) WeightBound (bound_line names c.in-WeightBound.node) c.weight_bound.result c.told.result
    (λ told e. search_bound d names told c.in-WeightBound.node found e)
    c.weight_bound.ensures
    c.told.ensures

-- or the counts of profiles and worlds
pub returns-in-TooLarge : goal.returns-in-TooLarge
returns-in-TooLarge c =
    let d = c.args.diagram.now in
    let names = c.args.names.now in
    let found = subst (IsFaultOrNoMemory pure_fault (pure_pass d)) c.in-TooLarge.is c.requires.fault in
    told_gives (found_by d names search_stages) TooLarge (profiles_line c.in-TooLarge.profiles c.in-TooLarge.leaves) c.too_many_profiles.result c.told-in-TooLarge.result
    (λ told e. search_size d names told c.in-TooLarge.profiles c.in-TooLarge.leaves found e)
    c.too_many_profiles.ensures
    c.told-in-TooLarge.ensures

-- or how many profiles are no equilibrium
pub returns-in-NoPure : goal.returns-in-NoPure
returns-in-NoPure c =
    let d = c.args.diagram.now in
    let names = c.args.names.now in
    let found = subst (IsFaultOrNoMemory pure_fault (pure_pass d)) c.in-NoPure.is c.requires.fault in
    told_gives (found_by d names search_stages) NoPure (no_equilibrium_line c.in-NoPure.profiles) c.no_equilibrium.result c.told-in-NoPure.result
    (λ told e. search_none d names told c.in-NoPure.profiles found e)
    c.no_equilibrium.ensures
    c.told-in-NoPure.ensures
