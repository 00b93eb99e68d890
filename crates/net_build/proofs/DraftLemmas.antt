-- A table's rows from those of its parts.
use Rattle.std.proofs.Common.{◌≡◌, ◌≢◌, ◌⊎◌, inl, inr, ◌<◌, ◌*◌, ℕ, List, [], length, get_or, map, IfSome, Option, None, Some, refl, sym, ap, subst, ◌∙◌, arith}
use Rattle.std.proofs.Math.Nat.{dvd-mul_left}
use Rattle.std.specs.Int.{◌∣◌}
use Rattle.std.specs.Global.{Vec}
use Rattle.std.specs.Option.{option_map, IsSome}
use Rattle.std.proofs.lemmas.List.{get_or-map, length-map}
use Rattle.maid_model.specs.declared.diagrams.Kind.{Kind}
use Rattle.maid_model.specs.declared.diagrams.Kind.TheVariants as model
use Rattle.maid_model.specs.Nodes.{is_chance}
use Rattle.net_lexer.specs.declared.tokens.Token.{Token}
use Rattle.net_parser.specs.Trees.{AttributeTree}
use Rattle.net_parser.specs.Owned.{leaves}
use Rattle.net_build.specs.declared.faults.BuildFault.{BuildFault}
use Rattle.first_fault.specs.Passes.{only}
use Rattle.first_fault.specs.Answers.{IsFaultOrNoMemory}
use Rattle.net_build.specs.Passes.{build_fault}
use Rattle.net_build.specs.TableParts.{number_rows, weight_part, data_part}
use Rattle.first_fault.proofs.Leading.{refused_later}

-- numbers that do not differ are the same
pub same_count : (a b : ℕ) → (a ≢ b → ⊥) → a ≡ b
same_count a b h = by_order (order a b) where
  order : (x y : ℕ) → (x ≡ y) ⊎ (x ≢ y)
  order x y = grind arith

  by_order : (a ≡ b) ⊎ (a ≢ b) → a ≡ b
  by_order (inl e) = e
  by_order (inr n) = absurd (h n)

pub divides_by : (n rows states : ℕ) → n ≡ rows * states → states ∣ n
divides_by n rows states e = subst (λ m. states ∣ m) (sym e) (dvd-mul_left states rows)

module _ (text : List ℕ) (kind : Kind) (rows states at : ℕ) (table : AttributeTree) (is : kind ≡ model.Chance) (numbers : number_rows text (rows * states) table None) (place : at ≡ table.name.start) where
  pub chance_refused : (tokens : List Token) (fault : BuildFault) → tokens ≡ leaves table.value → IsFaultOrNoMemory build_fault (weight_part text states rows at tokens) fault → IsFaultOrNoMemory build_fault (data_part text kind rows states table) fault
  chance_refused tokens fault same h = refused_later (number_rows text (rows * states) table) (only (is_chance kind) (weight_part text states rows table.name.start (leaves table.value))) (build_fault fault) numbers
      (subst (λ (k : Kind). IsFaultOrNoMemory build_fault (only (is_chance k) (weight_part text states rows table.name.start (leaves table.value))) fault) (sym is)
      (subst (λ n. IsFaultOrNoMemory build_fault (weight_part text states rows n (leaves table.value)) fault) place (subst (λ ts. IsFaultOrNoMemory build_fault (weight_part text states rows at ts) fault) same h)))

  pub chance_clear : (tokens : List Token) → tokens ≡ leaves table.value → weight_part text states rows at tokens None → data_part text kind rows states table None
  chance_clear tokens same h = (
    numbers,
    subst (λ (k : Kind). only (is_chance k) (weight_part text states rows table.name.start (leaves table.value)) None) (sym is)
        (subst (λ n. weight_part text states rows n (leaves table.value) None) place (subst (λ ts. weight_part text states rows at ts None) same h)),
  )

-- what stands at a place of lists and of potentials as contracts see them
pub list_at : (xs : List (Vec ℕ)) (ys : List (List ℕ)) (i : ℕ) (x : Vec ℕ) (items : List ℕ) → map (λ (v : Vec ℕ). v.items) xs ≡ ys → i < length ys → x ≡ get_or xs i x → items ≡ x.items → items ≡ get_or ys i []
list_at xs ys i x items views h is shows =
    let within : i < length xs = omega (arith, h, sym (ap length views), length-map xs (λ (v : Vec ℕ). v.items)) in
    shows ∙ ap (λ (v : Vec ℕ). v.items) is ∙ sym (get_or-map (λ (v : Vec ℕ). v.items) xs i x [] within) ∙ ap (λ zs. get_or zs i []) views

pub option_at : {B C : Type 0} (f : B → C) (xs : List (Option B)) (ys : List (Option C)) (i : ℕ) (x : Option B) → map (option_map f) xs ≡ ys → i < length ys → x ≡ get_or xs i x → option_map f x ≡ get_or ys i None
option_at f xs ys i x views h is =
    let within : i < length xs = omega (arith, h, sym (ap length views), length-map xs (option_map f)) in
    ap (option_map f) is ∙ sym (get_or-map (option_map f) xs i x None within) ∙ ap (λ zs. get_or zs i None) views

-- of a potential seen as its tree
pub seen_some : {B C : Type 0} (f : B → C) (P : C → Type 0) (x : Option B) → IfSome (option_map f x) P → IfSome x (λ b. P (f b))
seen_some f P None h = tt
seen_some f P (Some x) h = h

pub seen_is_some : {B C : Type 0} (f : B → C) (x : Option B) → IsSome (option_map f x) → IsSome x
seen_is_some f None h = h
seen_is_some f (Some x) h = refl
