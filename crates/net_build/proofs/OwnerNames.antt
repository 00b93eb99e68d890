-- The strings that tell a node's owners.
use Rattle.std.proofs.Common.{◌≡◌, inl, inr, ℕ, ◌<◌, Bool, true, false, ◌&&◌, cond, List, [], ◌∷◌, length, map, None, Some, Result, refl, ap, sym, ◌∙◌, arith}
use Rattle.std.proofs.lemmas.Bool.{false≢true}
use Rattle.std.specs.List.{list_all}
use Rattle.std.specs.Prelude.{codes}
use Rattle.std.specs.Str.{bytes_eq}
use Rattle.net_build.specs.declared.faults.BuildFault.{BuildFault}
use Rattle.net_build.specs.declared.faults.BuildFault.TheVariants as faults
use Rattle.net_build.specs.Blocks.{is_string, is_string_list, is_label, tells_owners, texts_or_agent, word_of}
use Rattle.first_fault.specs.Passes.{rule, each, each_after}
use Rattle.first_fault.specs.Answers.{IsFaultOrNoMemory, Passes}
use Rattle.first_fault.proofs.Leading.{refused_first, refused_later}
use Rattle.net_build.specs.Passes.{found, BadAgent, Found, build_fault, kind_view}
use Rattle.net_build.specs.NodeCalls.{as_bad_agent}
use Rattle.net_build.specs.Table.{label_row, agent_rows, bad_agent_row, repeated_agent_row}
use Rattle.net_lexer.specs.Token.{text_value}
use Rattle.net_lexer.specs.declared.tokens.Token.{Token}
use Rattle.net_parser.specs.Owned.{leaves}
use Rattle.net_parser.specs.Trees.{AttributeTree}
use Rattle.net_build.proofs.AttributeLemmas.{and_left}
use Rattle.net_build.proofs.LabelLemmas.{one_leaf, some_leaf, not_false}

and_false : (b : Bool) → (b && false) ≡ false
and_false true = refl
and_false false = refl

module _ (text : List ℕ) (a : AttributeTree) where
  -- each string of the value has a label's form
  abbrev plain : Bool
  plain = list_all (λ t. is_label (text_value text t)) (leaves a.value)

  -- an `agent` tells by its one string
  one_tells : bytes_eq (word_of text a) (codes "agents") ≡ false → tells_owners text a ≡ (is_string a.value && plain)
  one_tells one = ap (λ b. cond b (is_string_list a.value) (is_string a.value) && plain) one

  -- an `agents` by all of its list
  list_tells : bytes_eq (word_of text a) (codes "agents") ≡ true → tells_owners text a ≡ (is_string_list a.value && plain)
  list_tells many = ap (λ b. cond b (is_string_list a.value) (is_string a.value) && plain) many

  each_plain : (ts : List Token) → each (label_row text) ts None → list_all (λ t. is_label (text_value text t)) ts ≡ true
  each_plain [] h = refl
  each_plain (t ∷ ts) h = λ j. not_false (is_label (text_value text t)) h.0 j && each_plain ts h.1 j

  some_unplain : (ts : List Token) (f : Found) → each (label_row text) ts (Some f) → list_all (λ t. is_label (text_value text t)) ts ≡ false
  some_unplain [] f h = absurd h
  some_unplain (t ∷ ts) f (inl h) = ap (λ b. b && list_all (λ t. is_label (text_value text t)) ts) h.0
  some_unplain (t ∷ ts) f (inr h) = ap (λ b. is_label (text_value text t) && b) (some_unplain ts f h.1) ∙ and_false (is_label (text_value text t))

  pub plain_list : (ts : List Token) → bytes_eq (word_of text a) (codes "agents") ≡ true → is_string_list a.value ≡ true → leaves a.value ≡ ts → each (label_row text) ts None → tells_owners text a ≡ false → ⊥
  plain_list ts many good are each_one bad =
      false≢true (sym bad ∙ list_tells many ∙ (λ j. good j && (ap (list_all (λ t. is_label (text_value text t))) are ∙ each_plain ts each_one) j))

  pub unplain_list : (ts : List Token) (f : Found) → bytes_eq (word_of text a) (codes "agents") ≡ true → leaves a.value ≡ ts → each (label_row text) ts (Some f) → tells_owners text a ≡ false
  unplain_list ts f many are one_bad =
      list_tells many ∙ ap (λ b. is_string_list a.value && b) (ap (list_all (λ t. is_label (text_value text t))) are ∙ some_unplain ts f one_bad) ∙ and_false (is_string_list a.value)

  pub unplain_fault : (ts : List Token) (fault : BuildFault) → bytes_eq (word_of text a) (codes "agents") ≡ true → leaves a.value ≡ ts → IsFaultOrNoMemory build_fault (each (label_row text) ts) fault
      → IsFaultOrNoMemory build_fault (bad_agent_row text a) (as_bad_agent a.name.start fault)
  unplain_fault ts faults.NoMemory many are h = tt
  unplain_fault ts (faults.Fault at kind) many are h = (unplain_list ts (found at (kind_view kind)) many are h, refl)

  -- an `agent` that tells an owner is a string
  pub one_string : bytes_eq (word_of text a) (codes "agents") ≡ false → (tells_owners text a ≡ false → ⊥) → is_string a.value ≡ true
  one_string one good = and_left (is_string a.value) plain (sym (one_tells one) ∙ not_false (tells_owners text a) good)

  -- where the attribute tells owners, there is one
  pub some_told : (tells_owners text a ≡ false → ⊥) → 0 < length (leaves a.value)
  some_told good = by_word (bytes_eq (word_of text a) (codes "agents")) refl where
    tells : tells_owners text a ≡ true
    tells = not_false (tells_owners text a) good

    by_word : (b : Bool) → bytes_eq (word_of text a) (codes "agents") ≡ b → 0 < length (leaves a.value)
    by_word true e = some_leaf a.value (and_left (is_string_list a.value) plain (sym (list_tells e) ∙ tells))
    by_word false e = let one = one_leaf a.value (and_left (is_string a.value) plain (sym (one_tells e) ∙ tells)) in omega arith

  texts_are : (ts : List Token) → 0 < length ts → texts_or_agent text ts ≡ map (text_value text) ts
  texts_are [] h = absurd (omega arith)
  texts_are (t ∷ ts) h = refl

  pub texts_told : (tells_owners text a ≡ false → ⊥) → texts_or_agent text (leaves a.value) ≡ map (text_value text) (leaves a.value)
  texts_told good = texts_are (leaves a.value) (some_told good)

-- an attribute's rows in their order
pub told_badly : (text : List ℕ) (a : AttributeTree) (fault : BuildFault) → IsFaultOrNoMemory build_fault (rule (tells_owners text a ≡ false) (found a.name.start BadAgent)) fault → IsFaultOrNoMemory build_fault (agent_rows text (a ∷ [])) fault
unfolding agent_rows
told_badly text a fault h = refused_first (rule (tells_owners text a ≡ false) (found a.name.start BadAgent)) (each_after (repeated_agent_row text) [] (leaves a.value)) (build_fault fault) h

pub told_twice : (text : List ℕ) (a : AttributeTree) (fault : BuildFault) → (tells_owners text a ≡ false → ⊥) → IsFaultOrNoMemory build_fault (each_after (repeated_agent_row text) [] (leaves a.value)) fault → IsFaultOrNoMemory build_fault (agent_rows text (a ∷ [])) fault
unfolding agent_rows
told_twice text a fault good h = refused_later (rule (tells_owners text a ≡ false) (found a.name.start BadAgent)) (each_after (repeated_agent_row text) [] (leaves a.value)) (build_fault fault) good h

pub told_well : (text : List ℕ) (a : AttributeTree) → (tells_owners text a ≡ false → ⊥) → each_after (repeated_agent_row text) [] (leaves a.value) None → agent_rows text (a ∷ []) None
unfolding agent_rows
told_well text a good apart = (good, apart)

-- the first attribute that tells owners decides
pub some_owners : {A : Type 0} (text : List ℕ) (attributes : List AttributeTree) (first : AttributeTree) (rest : List AttributeTree) (result : Result A BuildFault) → attributes ≡ first ∷ rest → Passes build_fault (agent_rows text (first ∷ [])) result → Passes build_fault (agent_rows text attributes) result
unfolding agent_rows
some_owners text attributes first rest result some rows = rw some rows

pub no_owners : (text : List ℕ) (attributes : List AttributeTree) → attributes ≡ [] → agent_rows text attributes None
unfolding agent_rows
no_owners text attributes none = rw none tt
