-- Gains at any fraction are compared by those where the probability is 0 and 1, in the part of the
-- decision's scope.
use Rattle.std.proofs.Common.{◌≡◌, ◌↔◌, ◌∙◌, ℕ, ◌*◌, ◌<◌, not, List, filter, sym, ap, subst, ℤ, pos, ◌+ℤ◌, ◌-ℤ◌, ◌*ℤ◌, ◌≤ℤ◌, ◌<ℤ◌, arith}
use Rattle.std.proofs.lemmas.Int.{ints}
use Rattle.std.proofs.Math.Nat.{mul-pos}
use Rattle.std.proofs.Math.Path.{fun_ext}
use Rattle.finite_sums.specs.Sums.{nat_product_over}
use Rattle.finite_sums.proofs.Ints.{mul_add, mul_comm, products}
use Rattle.maid_laws.proofs.Best.{cross_le}
use Rattle.maid_model.specs.Diagrams.{IsDiagram}
use Rattle.maid_model.specs.Gains.{gain_at, gain_in}
use Rattle.maid_model.specs.Graph.{IsGraph}
use Rattle.maid_model.specs.Nodes.{IsDecision, node_at, rows_of, states_of}
use Rattle.maid_model.specs.Parts.{is_in, mass_left_out}
use Rattle.maid_model.specs.Profiles.{IsProfile}
use Rattle.maid_model.specs.Scopes.{scope_of}
use Rattle.maid_model.specs.Tables.{chance_total, rule_total, total_by}
use Rattle.maid_model.specs.Views.{NodeView, DiagramView, RuleView}
use Rattle.part_laws.proofs.PartLaws.{gains_law, positive_law}
use Rattle.part_laws.proofs.ScopeLaws.{scopes_law}
use Rattle.reach_laws.specs.Threshold.{IsMoved, IsPlace}
use Rattle.reach_laws.proofs.Affine.{interpolate_law}
use Rattle.reach_laws.proofs.Perfect.{IsLike, decision_back, graph_there, like_of, profile_there, rows_like, turned}
use Rattle.rule_solver.specs.Sums.{IsRowGains}
use Rattle.threshold.specs.declared.weights.Place.{Place}
use Rattle.threshold.specs.Ends.{AreEnds, IsEnd}
use Rattle.threshold.specs.Held.{IsNotBelow, between}
use Rattle.threshold.specs.Weights.{IsCell}
use Rattle.threshold.proofs.Alike.{HasSameBounds, numbers_same, scope_same}
use Rattle.threshold.proofs.SameTotals.{end_redone, redone_same}
use Rattle.threshold.proofs.Tables.{is_place}

-- ---- whole numbers
above : (n : ℕ) → 0 < n → pos 0 <ℤ pos n
above n l = omega (arith, ints)

not_below : (z : ℤ) → pos 0 <ℤ z → pos 0 ≤ℤ z
not_below z l = omega (arith, ints)

both_above : (m n : ℕ) → pos 0 <ℤ pos m → pos 0 <ℤ pos n → pos 0 <ℤ (pos m *ℤ pos n)
both_above m n h k = above (m * n) (mul-pos (nat m h) (nat n k))
  where
    nat : (m : ℕ) → pos 0 <ℤ pos m → 0 < m
    nat m h = omega (arith, ints)

-- numbers in proportion stand in the same order
order_both : (y z a b k u : ℤ) → pos 0 <ℤ k → pos 0 <ℤ u → y *ℤ k ≡ u *ℤ a → z *ℤ k ≡ u *ℤ b → (y ≤ℤ z) ↔ (a ≤ℤ b)
order_both y z a b k u hk hu e f = (
  (λ h. cross_le a b y z u k (mul_comm a u ∙ sym e) (mul_comm b u ∙ sym f) h (not_below k hk) hu),
  (λ h. cross_le y z a b k u (e ∙ mul_comm u a) (f ∙ mul_comm u b) h (not_below u hu) hk),
)

-- the difference of two numbers between
apart : (a b p q : ℤ) (num den : ℕ) → between (a -ℤ b) (p -ℤ q) num den ≡ between a p num den -ℤ between b q num den
apart a b p q num den =
    let e : (p -ℤ q) *ℤ pos num ≡ (p *ℤ pos num) -ℤ (q *ℤ pos num) = minus p q (pos num) in
    let f : (a -ℤ b) *ℤ (pos den -ℤ pos num) ≡ (a *ℤ (pos den -ℤ pos num)) -ℤ (b *ℤ (pos den -ℤ pos num)) = minus a b (pos den -ℤ pos num) in
    sums ((p -ℤ q) *ℤ pos num) (p *ℤ pos num) (q *ℤ pos num) ((a -ℤ b) *ℤ (pos den -ℤ pos num)) (a *ℤ (pos den -ℤ pos num)) (b *ℤ (pos den -ℤ pos num)) e f
  where
    sums : (x p q y a b : ℤ) → x ≡ p -ℤ q → y ≡ a -ℤ b → x +ℤ y ≡ (p +ℤ a) -ℤ (q +ℤ b)
    sums x p q y a b e f = omega (arith, ints)

    minus : (a b n : ℤ) → (a -ℤ b) *ℤ n ≡ (a *ℤ n) -ℤ (b *ℤ n)
    minus a b n =
        let e : n *ℤ a ≡ (n *ℤ (a -ℤ b)) +ℤ (n *ℤ b) = ap (λ z. n *ℤ z) (parts a b) ∙ mul_add n (a -ℤ b) b in
        let f : n *ℤ a ≡ a *ℤ n = mul_comm n a in
        let g : n *ℤ b ≡ b *ℤ n = mul_comm n b in
        let h : n *ℤ (a -ℤ b) ≡ (a -ℤ b) *ℤ n = mul_comm n (a -ℤ b) in
        omega (arith, ints)
      where
        parts : (a b : ℤ) → a ≡ (a -ℤ b) +ℤ b
        parts a b = omega (arith, ints)

-- the choice leads exactly where the other has no more
leads : (a b p q : ℤ) (num den : ℕ) → (between b q num den ≤ℤ between a p num den) ↔ IsNotBelow (a -ℤ b) (p -ℤ q) num den
leads a b p q num den = (
  (λ h. subst (λ z. pos 0 ≤ℤ z) (sym (apart a b p q num den)) (up (between a p num den) (between b q num den) h)),
  (λ h. down (between a p num den) (between b q num den) (subst (λ z. pos 0 ≤ℤ z) (apart a b p q num den) h)),
)
  where
    up : (x y : ℤ) → y ≤ℤ x → pos 0 ≤ℤ (x -ℤ y)
    up x y h = omega (arith, ints)

    down : (x y : ℤ) → pos 0 ≤ℤ (x -ℤ y) → y ≤ℤ x
    down x y h = omega (arith, ints)

-- ---- one of the ends
module _ (d : DiagramView) (place : Place) (is : IsDiagram d) (at : IsPlace d.nodes place.node place.state place.row) (num whole : ℕ) (e : DiagramView) (h : IsEnd d place num whole e) (t : ℕ) (k : IsDecision d.nodes t) where
  pub end_like : IsLike d.nodes e.nodes
  end_like = like_of d.nodes e.nodes place.node place.state place.row num 1 at h.moved

  pub end_graph : IsGraph e.nodes
  end_graph = graph_there d.nodes e.nodes end_like is.graph

  pub end_decision : IsDecision e.nodes t
  end_decision = decision_back e.nodes d.nodes (turned d.nodes e.nodes end_like) t k

  pub end_profile : (base : List RuleView) → IsProfile d.nodes base → IsProfile e.nodes base
  end_profile base b = profile_there d.nodes e.nodes end_like base b

  -- the whole diagram's gain is the part's, times the totals left out
  end_gain : (base : List RuleView) → IsProfile d.nodes base → (gains : List ℤ) → IsRowGains e.nodes base t gains → (line s : ℕ) → line < rows_of d.nodes t → s < states_of d.nodes t
      → gain_at e.nodes base t s line ≡ pos (mass_left_out e.nodes base (scope_of e.nodes t)) *ℤ gain_in gains (states_of d.nodes t) s line
  end_gain base b gains sums line s l m =
      let scope = scopes_law e.nodes t end_graph end_decision in
      let there = sums.gain s line (subst (λ n. s < n) (sym (end_like.states t)) m) (subst (λ n. line < n) (sym (rows_like d.nodes e.nodes end_like t)) l) in
      gains_law e.nodes base (scope_of e.nodes t) t s line end_graph h.moved.tables (end_profile base b) scope.0 end_decision scope.2 scope.3
      ∙ ap (λ z. pos (mass_left_out e.nodes base (scope_of e.nodes t)) *ℤ z) (sym there ∙ ap (λ n. gain_in gains n s line) (end_like.states t))

-- ---- both
module _ (d : DiagramView) (place : Place) (is : IsDiagram d) (cell : IsCell d.nodes place) (nought one : DiagramView) (ends : AreEnds d place nought one) (t : ℕ) (k : IsDecision d.nodes t) (base : List RuleView) (b : IsProfile d.nodes base)
    (gains_nought gains_one : List ℤ) (sums_nought : IsRowGains nought.nodes base t gains_nought) (sums_one : IsRowGains one.nodes base t gains_one) where
  pub at_place : IsPlace d.nodes place.node place.state place.row
  at_place = is_place d.nodes place is.tables cell ends.some

  same : HasSameBounds nought one
  same = redone_same d place.node ends.total nought one cell.kind (end_redone d place 0 ends.total nought at_place ends.at_nought) (end_redone d place 1 ends.total one at_place ends.at_one)

  abbrev left : ℕ
  left = mass_left_out nought.nodes base (scope_of nought.nodes t)

  left_same : mass_left_out one.nodes base (scope_of one.nodes t) ≡ mass_left_out nought.nodes base (scope_of nought.nodes t)
  left_same = λ i. nat_product_over (fun_ext totals i) (filter (λ v. not (is_in (scope_same nought.nodes one.nodes same.like t i) v)) (numbers_same nought.nodes one.nodes same.like i))
    where
      totals : (v : ℕ) → total_by (node_at one.nodes v).kind (chance_total one.nodes v) (rule_total base v) ≡ total_by (node_at nought.nodes v).kind (chance_total nought.nodes v) (rule_total base v)
      totals v = λ i. total_by (same.like.kinds v i) (same.totals v i) (rule_total base v)

  left_above : pos 0 <ℤ pos left
  left_above = above left (positive_law nought.nodes base (scope_of nought.nodes t) (end_graph d place is at_place 0 ends.total nought ends.at_nought t k) ends.at_nought.moved.tables (end_profile d place is at_place 0 ends.total nought ends.at_nought t k base b))

  total_same : chance_total nought.nodes place.node ≡ chance_total one.nodes place.node
  total_same = ends.at_nought.total ∙ sym ends.at_one.total

  abbrev number : ℕ → ℕ → ℕ → ℕ → ℤ
  number line s num den = between (gain_in gains_nought (states_of d.nodes t) s line) (gain_in gains_one (states_of d.nodes t) s line) num den

  module _ (num den : ℕ) (hd : 0 < den) (moved : List NodeView) (m : IsMoved d.nodes place.node place.state place.row num den moved) where
    abbrev scale : ℤ
    scale = pos den *ℤ pos (chance_total one.nodes place.node)

    abbrev factor : ℤ
    factor = pos (chance_total moved place.node) *ℤ pos left

    scale_above : pos 0 <ℤ scale
    scale_above = both_above den (chance_total one.nodes place.node) (above den hd) (above (chance_total one.nodes place.node) (ends.at_one.moved.tables.positive place.node (ap (λ (n : NodeView). n.kind) ends.at_one.moved.at)))

    factor_above : pos 0 <ℤ factor
    factor_above = both_above (chance_total moved place.node) left (above (chance_total moved place.node) (m.tables.positive place.node (ap (λ (n : NodeView). n.kind) m.at))) left_above

    -- a gain at the fraction is in proportion to the number between
    in_proportion : (line s : ℕ) → line < rows_of d.nodes t → s < states_of d.nodes t → gain_at moved base t s line *ℤ scale ≡ factor *ℤ number line s num den
    in_proportion line s l n =
        interpolate_law d.nodes base t s line place.node place.state place.row num den nought.nodes one.nodes moved is.graph is.tables k at_place ends.at_nought.moved ends.at_one.moved total_same m
        ∙ (λ i. pos (chance_total moved place.node) *ℤ ((there_one i *ℤ pos num) +ℤ (there_nought i *ℤ (pos den -ℤ pos num))))
        ∙ gather (pos (chance_total moved place.node)) (pos left) (gain_in gains_one (states_of d.nodes t) s line) (gain_in gains_nought (states_of d.nodes t) s line) (pos num) (pos den -ℤ pos num)
      where
        there_nought : gain_at nought.nodes base t s line ≡ pos (mass_left_out nought.nodes base (scope_of nought.nodes t)) *ℤ gain_in gains_nought (states_of d.nodes t) s line
        there_nought = end_gain d place is at_place 0 ends.total nought ends.at_nought t k base b gains_nought sums_nought line s l n

        there_one : gain_at one.nodes base t s line ≡ pos (mass_left_out nought.nodes base (scope_of nought.nodes t)) *ℤ gain_in gains_one (states_of d.nodes t) s line
        there_one = end_gain d place is at_place 1 ends.total one ends.at_one t k base b gains_one sums_one line s l n ∙ ap (λ c. pos c *ℤ gain_in gains_one (states_of d.nodes t) s line) left_same

        gather : (u c o z n r : ℤ) → u *ℤ (((c *ℤ o) *ℤ n) +ℤ ((c *ℤ z) *ℤ r)) ≡ (u *ℤ c) *ℤ ((o *ℤ n) +ℤ (z *ℤ r))
        gather u c o z n r = ap (λ y. u *ℤ y) ((λ i. regroup c o n i +ℤ regroup c z r i) ∙ sym (mul_add c (o *ℤ n) (z *ℤ r))) ∙ split u c ((o *ℤ n) +ℤ (z *ℤ r))
          where
            regroup : (c o n : ℤ) → (c *ℤ o) *ℤ n ≡ c *ℤ (o *ℤ n)
            regroup c o n = simp products

            split : (u c y : ℤ) → u *ℤ (c *ℤ y) ≡ (u *ℤ c) *ℤ y
            split u c y = simp products

    -- a state gains no more than another exactly where the condition holds
    pub no_more : (line choice other : ℕ) → line < rows_of d.nodes t → choice < states_of d.nodes t → other < states_of d.nodes t
        → (gain_at moved base t other line ≤ℤ gain_at moved base t choice line)
        ↔ IsNotBelow (gain_in gains_nought (states_of d.nodes t) choice line -ℤ gain_in gains_nought (states_of d.nodes t) other line) (gain_in gains_one (states_of d.nodes t) choice line -ℤ gain_in gains_one (states_of d.nodes t) other line) num den
    no_more line choice other l m n =
        let o = order_both (gain_at moved base t other line) (gain_at moved base t choice line) (number line other num den) (number line choice num den) scale factor scale_above factor_above (in_proportion line other l n) (in_proportion line choice l m) in
        let e = leads (gain_in gains_nought (states_of d.nodes t) choice line) (gain_in gains_nought (states_of d.nodes t) other line) (gain_in gains_one (states_of d.nodes t) choice line) (gain_in gains_one (states_of d.nodes t) other line) num den in
        ((λ h. e.0 (o.0 h)), (λ h. o.1 (e.1 h)))
