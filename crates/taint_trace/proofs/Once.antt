-- Of a finding there is one trace.
use Rattle.std.proofs.Common.{◌≡◌, ◌⊎◌, inl, inr, ℕ, ◌<◌, List, [], ◌∷◌, length, Some, sym, ap, ◌∙◌, subst, arith}
use Rattle.std.specs.Prelude.{slice_get}
use Rattle.std.proofs.lemmas.Bool.{cases_order}
use Rattle.node_tree.specs.declared.node.Node.{Node}
use Rattle.node_tree.specs.declared.span.Span.{Span}
use Rattle.meta_bind.specs.declared.finding.Finding.{Finding}
use Rattle.rule_form.specs.declared.rule.TaintRule.{TaintRule}
use Rattle.graph_form.specs.declared.graph.Point.{Point}
use Rattle.flow_graph.specs.Units.{units_of, IsPointBefore}
use Rattle.tree_match.specs.declared.leaf.Leaf.{Leaf}
use Rattle.taint_tables.specs.declared.sets.TaintSets.{TaintSets}
use Rattle.taint_judge.proofs.Once.{sets_one}
use Rattle.taint_trace.specs.Trace.{Precedes, IsUpTo, IsLeastPath, IsTraceBy}
use Rattle.taint_trace.specs.Findings.{IsTraceOf}

-- of two points at most one stands before the other
points_apart : (p q : Point) → IsPointBefore p q → IsPointBefore q p → ⊥
points_apart p q (inl less) (inl more) = omega (arith, less, more)
points_apart p q (inl less) (inr (same, later)) = omega (arith, less, same)
points_apart p q (inr (same, earlier)) (inl more) = omega (arith, same, more)
points_apart p q (inr (same, earlier)) (inr (again, later)) = omega (arith, earlier, later)

never_itself : (p q : Point) → IsPointBefore p q → p ≡ q → ⊥
never_itself p q before same =
    let Of : Point → Type 0 = λ z. IsPointBefore z q in
    let itself = subst Of same before in
    points_apart q q itself itself

-- of two paths at most one stands before the other
paths_apart : (ps qs : List Point) → Precedes ps qs → Precedes qs ps → ⊥
paths_apart [] qs none more = absurd none
paths_apart (p ∷ ps) [] none more = absurd none
paths_apart (p ∷ ps) (q ∷ qs) (inl before) (inl after) = points_apart p q before after
paths_apart (p ∷ ps) (q ∷ qs) (inl before) (inr (same, rest)) = never_itself p q before (sym same)
paths_apart (p ∷ ps) (q ∷ qs) (inr (same, rest)) (inl after) = never_itself q p after (sym same)
paths_apart (p ∷ ps) (q ∷ qs) (inr (same, rest)) (inr (again, more)) = paths_apart ps qs rest more

as_long : (ps qs : List Point) → length ps ≡ length qs → Precedes ps qs ⊎ (ps ≡ qs) → length qs ≡ length ps → Precedes qs ps ⊎ (qs ≡ ps) → ps ≡ qs
as_long ps qs many (inl before) again (inl after) = absurd (paths_apart ps qs before after)
as_long ps qs many (inl before) again (inr same) = sym same
as_long ps qs many (inr same) again other = same

-- paths that are each up to the other are the same
paths_one : (ps qs : List Point) → IsUpTo ps qs → IsUpTo qs ps → ps ≡ qs
paths_one ps qs (inl fewer) (inl more) = absurd (omega (arith, fewer, more))
paths_one ps qs (inl fewer) (inr (many, rest)) = absurd (omega (arith, fewer, many))
paths_one ps qs (inr (many, rest)) (inl fewer) = absurd (omega (arith, fewer, many))
paths_one ps qs (inr (many, rest)) (inr (again, other)) = as_long ps qs many rest again other

module _ (root : Node) (sets : TaintSets) (source range : Span) where
  least_one : (unit : ℕ) (p q : List Point) → IsLeastPath root sets source range unit p → IsLeastPath root sets source range unit q → p ≡ q
  least_one unit p q h k = paths_one p q (h.least q k.hits) (k.least p h.hits)

  -- the first unit with a path doesn't stand before another one that is the first
  never_earlier : (p q : List Point) (h : IsTraceBy root sets source range p) (k : IsTraceBy root sets source range q) → h.place < k.place → ⊥
  never_earlier p q h k less = k.first h.place h.unit less h.stands p h.least.hits

  pub trace_by_one : (p q : List Point) → IsTraceBy root sets source range p → IsTraceBy root sets source range q → p ≡ q
  trace_by_one p q h k =
      elim (cases_order h.place k.place) [
        | inl same ↦
            let there : slice_get (units_of root) k.place ≡ Some h.unit = ap (slice_get (units_of root)) (sym same) ∙ h.stands in
            let units : h.unit ≡ k.unit = (let e : Some h.unit ≡ Some k.unit = sym there ∙ k.stands in cc) in
            let Least : ℕ → Type 0 = λ unit. IsLeastPath root sets source range unit p in
            least_one k.unit p q (subst Least units h.least) k.least
        | inr other ↦ elim other [
          | inl less ↦ absurd (never_earlier p q h k less)
          | inr more ↦ absurd (never_earlier q p k h more)
        ]
      ]

module _ (leaves : List Leaf) (texts : List (List ℕ)) (bytes : List ℕ) (root : Node) where
  -- what is a trace of a finding is the only one
  pub trace_once : (rule : TaintRule) (finding : Finding) (p q : List Point) → IsTraceOf leaves texts bytes root rule finding p → IsTraceOf leaves texts bytes root rule finding q → p ≡ q
  trace_once rule finding p q h k =
      let sets : h.sets ≡ k.sets = sets_one leaves texts bytes rule h.sinks k.sinks h.sets k.sets h.read.sets_are k.read.sets_are in
      let sources : h.source ≡ k.source = (let e : Some h.source ≡ Some k.source = sym h.source_is ∙ k.source_is in cc) in
      let BySets : TaintSets → Type 0 = λ s. IsTraceBy root s h.source finding.span p in
      let BySource : Span → Type 0 = λ source. IsTraceBy root k.sets source finding.span p in
      trace_by_one root k.sets k.source finding.span p q (subst BySource sources (subst BySets sets h.trace)) k.trace
