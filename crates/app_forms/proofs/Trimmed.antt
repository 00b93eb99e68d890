-- A diagram without arcs into decisions can be printed where the whole can, and the removed arcs
-- have names.
use Rattle.std.proofs.Common.{◌≡◌, ◌≢◌, ◌∙◌, ℕ, zero, suc, ◌*◌, ◌<◌, ◌^◌, Bool, true, false, cond, not, List, [], ◌∷◌, ◌++◌, All, length, map, filter, get_or, codes, refl, sym, ap, subst, nat_abs, pos, slice_index_or}
use Rattle.std.specs.Int.{◌∣◌}
use Rattle.std.specs.List.{flat_map, list_all}
use Rattle.std.proofs.lemmas.List.{length-map, get_or_default}
use Rattle.std.proofs.lemmas.List.Elements.{All-nil, All-cons, All-head, All-tail, All-append}
use Rattle.std.proofs.lemmas.List.Sums.{AllPass-from_list_all}
use Rattle.app_lines.specs.Removed.{AreNamed, removed_line, removed_lines}
use Rattle.arc_laws.proofs.LostArc.{loses, graph_kept}
use Rattle.finite_sums.specs.Sums.{sum_below}
use Rattle.maid_model.specs.Edits.{without_arc}
use Rattle.maid_model.specs.Graph.{Arc, IsGraph}
use Rattle.maid_model.specs.Names.{NamesView, NamesFit, name_of, agent_name}
use Rattle.maid_model.specs.Nodes.{node_at, no_node, states_of, parents_of, rows_of, rows_under, is_chance}
use Rattle.maid_model.specs.Placing.{IsLeast}
use Rattle.maid_model.specs.Reports.{IsOneLine}
use Rattle.maid_model.specs.Tables.{chance_total}
use Rattle.maid_model.specs.Trimming.{IsTrimmed, Done, Removed}
use Rattle.maid_model.specs.Views.{NodeView, DiagramView}
use Rattle.maid_model.specs.declared.diagrams.Kind.TheVariants.{Chance, Decision, Utility}
use Rattle.net_build.specs.Blocks.{first_sights}
use Rattle.net_build.specs.Form.{HasTextForm}
use Rattle.net_build.specs.Plain.{reduced_rows, AreEnough, IsPlain}
use Rattle.net_lexer.specs.Bytes.{is_line_byte}
use Rattle.net_lexer.specs.Token.{is_name}
use Rattle.net_print.specs.Printed.{printed}
use Rattle.net_print.specs.RoundTrip.{IsPrintable, comment_lines, ReadsAs, CommentedRoundTrip}
use Rattle.requisite_trim.specs.Trims.{but_parents, LosesArcs, IsTrimming}
use Rattle.weight_scale.specs.Scaling.{IsCommonTotal}
use Rattle.app_forms.specs.Diagrams.{IsDiagramOf}
use Rattle.app_forms.specs.Trim.{HasTrim}
use Rattle.app_forms.proofs.TellApart.{one_word}

-- ---- the nodes
node_but : (nodes : List NodeView) (v : ℕ) → get_or (map but_parents nodes) v no_node ≡ but_parents (node_at nodes v)
node_but [] v = refl
node_but (n ∷ nodes) zero = refl
node_but (n ∷ nodes) (suc v) = node_but nodes v

owner_step : (f : NodeView → List (List ℕ)) → ((n : NodeView) → f (but_parents n) ≡ f n) → (n : NodeView) (owned : Bool) (less nodes : List NodeView)
    → flat_map f less ≡ flat_map f nodes → flat_map f (cond owned (but_parents n ∷ less) less) ≡ flat_map f (cond owned (n ∷ nodes) nodes)
owner_step f same n true less nodes rest = λ i. same n i ++ rest i
owner_step f same n false less nodes rest = rest

-- what nodes but chance nodes have, parents aside
owners_but : (f : NodeView → List (List ℕ)) → ((n : NodeView) → f (but_parents n) ≡ f n) → (nodes : List NodeView)
    → flat_map f (filter (λ n. not (is_chance n.kind)) (map but_parents nodes)) ≡ flat_map f (filter (λ n. not (is_chance n.kind)) nodes)
owners_but f same [] = refl
owners_but f same (n ∷ nodes) =
    owner_step f same n (not (is_chance n.kind)) (filter (λ n. not (is_chance n.kind)) (map but_parents nodes)) (filter (λ n. not (is_chance n.kind)) nodes) (owners_but f same nodes)

module _ (before after : DiagramView) (l : LosesArcs before.nodes after.nodes) (agents : after.agents ≡ before.agents) (decimals : after.decimals ≡ before.decimals) where
  -- what is no parent stays
  same : {A : Type 0} (f : NodeView → A) → ((n : NodeView) → f (but_parents n) ≡ f n) → (v : ℕ) → f (node_at after.nodes v) ≡ f (node_at before.nodes v)
  same f k v =
      sym (k (node_at after.nodes v)) ∙ ap f (sym (node_but after.nodes v) ∙ ap (λ ns. get_or ns v no_node) l.nodes ∙ node_but before.nodes v) ∙ k (node_at before.nodes v)

  kind_at : (v : ℕ) → (node_at after.nodes v).kind ≡ (node_at before.nodes v).kind
  kind_at = same (λ n. n.kind) (λ n. refl)

  states_at : (v : ℕ) → states_of after.nodes v ≡ states_of before.nodes v
  states_at = same (λ n. n.states) (λ n. refl)

  cells_at : (v : ℕ) → (node_at after.nodes v).cells ≡ (node_at before.nodes v).cells
  cells_at = same (λ n. n.cells) (λ n. refl)

  total_at : (v : ℕ) → chance_total after.nodes v ≡ chance_total before.nodes v
  total_at = same (λ n. nat_abs (sum_below n.states (λ s. slice_index_or n.cells s (pos 0)))) (λ n. refl)

  -- and so do the parents of all nodes but decisions
  rows_at : (v : ℕ) → (node_at before.nodes v).kind ≢ Decision → rows_of after.nodes v ≡ rows_of before.nodes v
  rows_at v n = λ i. rows_under (λ u. states_at u i) (l.others v n i)

  len : length after.nodes ≡ length before.nodes
  len = sym (length-map after.nodes but_parents) ∙ ap length l.nodes ∙ length-map before.nodes but_parents

  pub fit_kept : (names : NamesView) → NamesFit before names → NamesFit after names
  fit_kept names fit = record {
    nodes = fit.nodes ∙ sym len;
    labels = fit.labels ∙ sym len;
    states = λ v h n. fit.states v (subst (λ m. v < m) len h) (λ e. n (kind_at v ∙ e)) ∙ sym (states_at v);
    agents = fit.agents ∙ sym agents;
  }

  -- the values need the same decimals
  enough : AreEnough after ≡ AreEnough before
  enough = λ i k. (v : ℕ) → kind_at v i ≡ Utility → All (λ x. (10 ^ decimals i) ∣ nat_abs x * 10 ^ k) (cells_at v i)

  plain_kept : IsPlain before → IsPlain after
  plain_kept plain = record {
    weights = λ v e.
        let chance : (node_at before.nodes v).kind ≡ Chance = sym (kind_at v) ∙ e in
        let rows = rows_at v (λ f. apart (sym chance ∙ f)) in
        subst (λ (T : Type 0). T) (sym (λ i. IsCommonTotal (reduced_rows (states_at v i) (rows i) (cells_at v i)) (states_at v i) (rows i) (total_at v i))) (plain.weights v chance);
    decimals = subst (λ (T : Type 0). T) (sym (λ i. IsLeast (enough i) (decimals i))) plain.decimals;
  }
    where
      apart : Chance ≡ Decision → ⊥
      apart e = absurd cc

  form_kept : (names : NamesView) → HasTextForm before names → HasTextForm after names
  form_kept names form =
      let f : NodeView → List (List ℕ) = λ n. map (agent_name names) (n.owner ∷ n.more) in
      let owners = sym (owners_but f (λ n. refl) after.nodes) ∙ ap (λ ns. flat_map f (filter (λ n. not (is_chance n.kind)) ns)) l.nodes ∙ owners_but f (λ n. refl) before.nodes in
      record {
        distinct = form.distinct;
        words = form.words;
        labels = form.labels;
        utility_labels = λ v e. form.utility_labels v (sym (kind_at v) ∙ e);
        agents = form.agents;
        numbered = form.numbered ∙ ap first_sights (sym owners);
      }

-- what can be printed can be printed when it is trimmed
pub trimmed_printable : (before after : DiagramView) (removed : List (ℕ × ℕ)) (names : NamesView) → IsTrimming before after removed → IsPrintable before names → IsPrintable after names
trimmed_printable before after removed names t is = record {
  diagram = t.diagram;
  plain = plain_kept before after t.nodes t.agents t.decimals is.plain;
  fit = fit_kept before after t.nodes t.agents t.decimals names is.fit;
  form = form_kept before after t.nodes t.agents t.decimals names is.form;
}

-- ---- the removed arcs
-- both ends of each are nodes
within : {nodes trimmed : List NodeView} {removed : List (ℕ × ℕ)} → IsGraph nodes → IsTrimmed nodes removed trimmed → All (λ arc. (arc.0 < length nodes) × (arc.1 < length nodes)) removed
within {nodes} g (Done h) = All-nil (λ arc. (arc.0 < length nodes) × (arc.1 < length nodes))
within {nodes} g (Removed {x = x} {d = d} {removed = removed} f t) =
    let l = loses nodes x d f.decision.within in
    let later = within (graph_kept nodes (without_arc nodes x d) x d l g) t in
    let arc : Arc nodes x d = (f.place, f.within, get_or_default (parents_of nodes d) f.place x 0 f.within ∙ f.there) in
    All-cons (λ arc. (arc.0 < length nodes) × (arc.1 < length nodes)) (x, d) removed (g.parents_known x d arc, f.decision.within)
    (subst (λ n. All (λ arc. (arc.0 < n) × (arc.1 < n)) removed) l.len later)

pub removed_named : (nodes trimmed : List NodeView) (removed : List (ℕ × ℕ)) (names : NamesView) → IsGraph nodes → IsTrimmed nodes removed trimmed → length names.nodes ≡ length nodes → AreNamed names removed
removed_named nodes trimmed removed names g t e = subst (λ n. All (λ arc. (arc.0 < n) × (arc.1 < n)) removed) (sym e) (within g t)

-- ---- their lines
-- bytes of which none ends a line, by the test of each
plain_words : (words : List ℕ) → list_all is_line_byte words ≡ true → IsOneLine words
plain_words words is = λ k d h e. let no = sym (ap is_line_byte e) ∙ AllPass-from_list_all is_line_byte words is k d h in absurd cc

name_line : (name : List ℕ) → is_name name ≡ true → IsOneLine name
name_line name is = λ k d h. (one_word name is k d h).0

lines-append : (xs ys : List ℕ) → IsOneLine xs → IsOneLine ys → IsOneLine (xs ++ ys)
lines-append = All-append (λ byte. byte ≢ 10)

-- what stands behind the percent sign
abbrev removed_words : NamesView → ℕ × ℕ → List ℕ
removed_words names arc = codes " removed " ++ name_of names arc.0 ++ codes " -> " ++ name_of names arc.1

lines_are : (names : NamesView) (removed : List (ℕ × ℕ)) → removed_lines names removed ≡ comment_lines (map (removed_words names) removed)
lines_are names [] = refl
lines_are names (arc ∷ removed) = ap (λ later. removed_line names arc ++ later) (lines_are names removed)

one_line : (names : NamesView) (arc : ℕ × ℕ) → is_name (name_of names arc.0) ≡ true → is_name (name_of names arc.1) ≡ true → IsOneLine (removed_words names arc)
one_line names arc from to =
    let tail = name_of names arc.0 in
    let head = name_of names arc.1 in
    lines-append (codes " removed " ++ tail ++ codes " -> ") head
    (lines-append (codes " removed " ++ tail) (codes " -> ") (lines-append (codes " removed ") tail (plain_words (codes " removed ") refl) (name_line tail from)) (plain_words (codes " -> ") refl))
    (name_line head to)

one_lines : (d : DiagramView) (names : NamesView) (removed : List (ℕ × ℕ)) → HasTextForm d names → AreNamed names removed → All IsOneLine (map (removed_words names) removed)
one_lines d names [] form named = All-nil IsOneLine
one_lines d names (arc ∷ removed) form named =
    let here = All-head (λ arc. (arc.0 < length names.nodes) × (arc.1 < length names.nodes)) arc removed named in
    All-cons IsOneLine (removed_words names arc) (map (removed_words names) removed)
    (one_line names arc (form.words arc.0 [] here.0).unsigned (form.words arc.1 [] here.1).unsigned)
    (one_lines d names removed form (All-tail (λ arc. (arc.0 < length names.nodes) × (arc.1 < length names.nodes)) arc removed named))

-- ---- the text
diagram_of : (text : List ℕ) (d : DiagramView) (names : NamesView) → ReadsAs text d names → IsDiagramOf text d names
diagram_of text d names (tokens, tree, is_tokens, spells, clear, stands) = record { tree = tree; is_tree = record { tokens = tokens; is_tokens = is_tokens; spells = spells }; clear = clear; stands = stands }

-- the lines are read over, and the text stands for the trimmed diagram
pub has_trim : CommentedRoundTrip → (before after : DiagramView) (removed : List (ℕ × ℕ)) (names : NamesView) (told : List ℕ) → IsTrimming before after removed → IsPrintable before names → AreNamed names removed
    → told ≡ removed_lines names removed ++ printed after names → HasTrim before names told
has_trim law before after removed names told t is named e =
    let printable = trimmed_printable before after removed names t is in
    let comments = map (removed_words names) removed in
    let reads = diagram_of (comment_lines comments ++ printed after names) after names (law comments (one_lines after names removed printable.form named) after names printable) in
    record {
      trimmed = after;
      removed = removed;
      is_trimming = t;
      is = e;
      reads_back = subst (λ text. IsDiagramOf text after names) (sym (e ∙ ap (λ lines. lines ++ printed after names) (lines_are names removed))) reads;
    }
