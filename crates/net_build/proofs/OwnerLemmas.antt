-- Agents in order of first sight.
use Rattle.std.proofs.Common.{◌≡◌, ◌⊎◌, inl, inr, ℕ, ◌+◌, ◌<◌, ◌≤◌, Bool, true, false, ◌||◌, List, [], ◌∷◌, ◌++◌, length, get_or, map, take, drop, All, Contains, Result, None, refl, ap, sym, subst, ◌∙◌, arith}
use Rattle.std.proofs.lemmas.Bool.{false≢true}
use Rattle.std.proofs.lemmas.List.{map-append, length-map, get_or-map, length_push, get_or_push, get_or_append_left, get_or_default}
use Rattle.std.proofs.lemmas.Slice.Eq.{bytes_eq-Decides}
use Rattle.std.specs.Global.{Vec}
use Rattle.std.specs.List.{list_any}
use Rattle.std.specs.Prelude.{if◌then◌else◌}
use Rattle.std.specs.Str.{bytes_eq}
use Rattle.finite_sums.proofs.Sights.{bytes_same}
use Rattle.net_build.specs.declared.faults.BuildFault.{BuildFault}
use Rattle.net_build.specs.declared.faults.BuildFault.TheVariants.{Fault}
use Rattle.net_build.specs.declared.faults.BuildKind.TheVariants as kinds
use Rattle.net_build.specs.declared.faults.Limit.TheVariants as limits
use Rattle.net_build.specs.Blocks.{place_among, owner_attributes, owner_texts, texts_or_agent, title_at, with_sight, with_sights}
use Rattle.maid_model.specs.Names.{list_of}
use Rattle.first_fault.specs.Passes.{rule, each_after}
use Rattle.first_fault.specs.Answers.{IsFaultOrNoMemory, Passes}
use Rattle.net_build.specs.Passes.{found, LimitPassed, build_fault}
use Rattle.net_build.specs.Table.{IsAgentTooMany, agent_rows, sight_row, owner_rows}
use Rattle.net_lexer.specs.declared.tokens.Token.{Token}
use Rattle.net_parser.specs.Trees.{BlockTree}
use Rattle.net_build.proofs.AttributeLemmas.{contains_none, contains_cases, contains_later, or_true}
use Rattle.first_fault.proofs.Leading.{passes_on, refused_first, take_item}
use Rattle.net_build.proofs.PlaceLemmas.{first_place_is}
use Rattle.net_build.proofs.SightLemmas.{has, has_sights, places_grow, sight_adds}

-- a list has a name where the test of one of its names says so
pub contains_any : (xs : List (List ℕ)) (x : List ℕ) → Contains xs x → list_any (λ y. bytes_eq y x) xs ≡ true
contains_any [] x h = absurd (contains_none x h)
contains_any (y ∷ xs) x h = by_place (contains_cases y x xs h) (λ k. contains_any xs x k) where
  by_place : (y ≡ x) ⊎ Contains xs x → (Contains xs x → list_any (λ z. bytes_eq z x) xs ≡ true) → (bytes_eq y x || list_any (λ z. bytes_eq z x) xs) ≡ true
  by_place (inl e) rec = ap (λ b. b || list_any (λ z. bytes_eq z x) xs) (bytes_same y x e)
  by_place (inr k) rec = ap (λ b. bytes_eq y x || b) (rec k) ∙ or_true (bytes_eq y x)

pub any_contains : (xs : List (List ℕ)) (x : List ℕ) → list_any (λ y. bytes_eq y x) xs ≡ true → Contains xs x
any_contains [] x e = absurd (false≢true e)
any_contains (y ∷ xs) x e = by_test (bytes_eq y x) refl (λ k. any_contains xs x k) where
  by_test : (b : Bool) → bytes_eq y x ≡ b → (list_any (λ z. bytes_eq z x) xs ≡ true → Contains xs x) → Contains (y ∷ xs) x
  by_test true t rec = (0, omega arith, (bytes_eq-Decides y x).0 t)
  by_test false t rec = contains_later y x xs (rec (ap (λ b. b || list_any (λ z. bytes_eq z x) xs) (sym t) ∙ e))

pub any_lacks : (xs : List (List ℕ)) (x : List ℕ) → (Contains xs x → ⊥) → list_any (λ y. bytes_eq y x) xs ≡ false
any_lacks xs x lacks = by_test (list_any (λ y. bytes_eq y x) xs) refl where
  by_test : (b : Bool) → list_any (λ y. bytes_eq y x) xs ≡ b → b ≡ false
  by_test true e = absurd (lacks (any_contains xs x e))
  by_test false e = refl

-- an agent that was seen is not added
pub sight_old : (agents : List (List ℕ)) (agent : List ℕ) → Contains agents agent → agents ≡ with_sight agents agent
sight_old agents agent has = sym (ap (λ b. if b then agents else agents ++ agent ∷ []) (contains_any agents agent has))

-- one that wasn't is
pub sight_new : (agents : List (List ℕ)) (agent : List ℕ) → (Contains agents agent → ⊥) → agents ++ agent ∷ [] ≡ with_sight agents agent
sight_new agents agent lacks = sym (ap (λ b. if b then agents else agents ++ agent ∷ []) (any_lacks agents agent lacks))

-- as vectors
pub sight_pushed : (agents more : List (Vec ℕ)) (agent : Vec ℕ) → (Contains (list_of agents) agent.items → ⊥) → more ≡ agents ++ agent ∷ [] → list_of more ≡ with_sight (list_of agents) agent.items
sight_pushed agents more agent lacks is = ap list_of is ∙ map-append (λ (v : Vec ℕ). v.items) agents (agent ∷ []) ∙ sight_new (list_of agents) agent.items lacks

-- a new name at the end has the last place
pub place_last : (names : List (List ℕ)) (name : List ℕ) → (Contains names name → ⊥) → place_among (names ++ name ∷ []) name ≡ length names
place_last names name lacks = first_place_is (names ++ name ∷ []) name (length names) (record {
  within = let l = length_push names name in omega arith;
  here = get_or_push names name [] (length names) refl;
  first = λ k h e. lacks (k, h, get_or_default names k name [] h ∙ sym (get_or_append_left names (name ∷ []) [] k h) ∙ e);
})

pub place_pushed : (names more : List (Vec ℕ)) (name : Vec ℕ) → (Contains (list_of names) name.items → ⊥) → more ≡ names ++ name ∷ [] → length names ≡ place_among (list_of more) name.items
place_pushed names more name lacks is =
    sym (ap (λ ns. place_among (list_of ns) name.items) is ∙ ap (λ ns. place_among ns name.items) (map-append (λ (v : Vec ℕ). v.items) names (name ∷ [])) ∙ place_last (list_of names) name.items lacks ∙ length-map names (λ (v : Vec ℕ). v.items))

-- the seventeenth agent
pub too_many : (agents : List (Vec ℕ)) (agent : List ℕ) (at : ℕ) (fault : BuildFault) → 16 ≤ length agents → (Contains (list_of agents) agent → ⊥) → fault ≡ Fault at (kinds.LimitPassed limits.Agents 17) → IsFaultOrNoMemory build_fault (rule (IsAgentTooMany (list_of agents) agent) (found at (LimitPassed limits.Agents 17))) fault
too_many agents agent at fault many lacks what = rw what ((let l = length-map agents (λ (v : Vec ℕ). v.items) in omega arith, lacks), refl)

-- the agents with the names of a list up to one more
pub sights_push : (agents names : List (List ℕ)) (x : List ℕ) → with_sights agents (names ++ x ∷ []) ≡ with_sight (with_sights agents names) x
sights_push agents [] x = refl
sights_push agents (y ∷ names) x = sights_push (with_sight agents y) names x

pub sights_step : (agents names : List (List ℕ)) (i : ℕ) (x : List ℕ) → i < length names → x ≡ get_or names i x → with_sights agents (take (i + 1) names) ≡ with_sight (with_sights agents (take i names)) x
sights_step agents names i x h is = ap (with_sights agents) (take_item names i x h is) ∙ sights_push agents (take i names) x

-- their numbers
pub numbers_step : (agents names cur new : List (List ℕ)) (numbers longer : List ℕ) (number i : ℕ) (x : List ℕ) → i < length names → x ≡ get_or names i x → cur ≡ with_sights agents (take i names) → new ≡ with_sight cur x
    → numbers ≡ map (place_among cur) (take i names) → longer ≡ numbers ++ number ∷ [] → number ≡ place_among new x → longer ≡ map (place_among new) (take (i + 1) names)
numbers_step agents names cur new numbers longer number i x h is so_far seen are is_longer this =
    let added = sight_adds cur x in
    let all : All (λ a. has cur a ≡ true) (take i names) = subst (λ s. All (λ a. has s a ≡ true) (take i names)) (sym so_far) (has_sights agents (take i names)) in
    let kept : map (place_among new) (take i names) ≡ map (place_among cur) (take i names) = ap (λ s. map (place_among s) (take i names)) (seen ∙ added.1) ∙ places_grow cur added.0 (take i names) all in
    is_longer ∙ (λ j. are j ++ this j ∷ []) ∙ ap (λ ns. ns ++ place_among new x ∷ []) (sym kept)
    ∙ sym (map-append (place_among new) (take i names) (x ∷ [])) ∙ ap (map (place_among new)) (sym (take_item names i x h is))

-- the name at a place of a list of vectors
pub name_item : (names : List (Vec ℕ)) (i : ℕ) (v : Vec ℕ) → i < length names → v ≡ get_or names i v → v.items ≡ get_or (list_of names) i v.items
name_item names i v h is = ap (λ (w : Vec ℕ). w.items) is ∙ sym (get_or-map (λ (w : Vec ℕ). w.items) names i v v.items h)

pub names_within : (names : List (Vec ℕ)) (i : ℕ) → i < length names → i < length (list_of names)
names_within names i h = let l = length-map names (λ (v : Vec ℕ). v.items) in omega arith

-- the names are refused
pub owners_refused : (text : List ℕ) (agents : List (List ℕ)) (block : BlockTree) (fault : BuildFault) → IsFaultOrNoMemory build_fault (agent_rows text (owner_attributes text block)) fault → IsFaultOrNoMemory build_fault (owner_rows text agents block) fault
unfolding owner_rows
owners_refused text agents block fault h = refused_first (agent_rows text (owner_attributes text block)) (each_after (sight_row agents (title_at block)) [] (owner_texts text block)) (build_fault fault) h

-- or numbered
pub owners_numbered : {A : Type 0} (text : List ℕ) (agents : List (List ℕ)) (block : BlockTree) (names : List (List ℕ)) (at : ℕ) (result : Result A BuildFault) → agent_rows text (owner_attributes text block) None → names ≡ owner_texts text block → at ≡ title_at block
    → Passes build_fault (each_after (sight_row agents at) [] names) result → Passes build_fault (owner_rows text agents block) result
unfolding owner_rows
owners_numbered text agents block names at result nothing are is rows =
    passes_on build_fault (agent_rows text (owner_attributes text block)) (each_after (sight_row agents (title_at block)) [] (owner_texts text block)) result nothing (rw (are, is) at rows)

-- a decision or a utility has an owner
pub some_numbers : (text : List ℕ) (agents : List (List ℕ)) (tokens : List Token) → 0 < length (map (place_among agents) (texts_or_agent text tokens))
some_numbers text agents [] = omega arith
some_numbers text agents (token ∷ tokens) = omega arith

-- the first owner and the others
pub first_and_more : (numbers : List ℕ) → 0 < length numbers → get_or numbers 0 0 ∷ drop 1 numbers ≡ numbers
first_and_more [] h = absurd (omega arith)
first_and_more (n ∷ numbers) h = refl
