-- The first unit with a path is one of those in which the source stands.
use Rattle.std.proofs.Common.{◌≡◌, inl, inr, ℕ, ◌+◌, ◌<◌, ◌≤◌, List, length, get_or, sym, ap, ◌∙◌, subst, arith}
use Rattle.std.specs.Prelude.{Some, slice_get}
use Rattle.std.proofs.lemmas.Bool.{cases_lt}
use Rattle.std.proofs.lemmas.Option.{slice_get_within, get_or_from_slice_get}
use Rattle.node_tree.specs.declared.node.Node.{Node}
use Rattle.node_tree.specs.declared.span.Span.{Span}
use Rattle.graph_form.specs.declared.graph.Point.{Point}
use Rattle.flow_graph.specs.Units.{units_of}
use Rattle.flow_reach.proofs.Sorted.{among_got}
use Rattle.taint_tables.specs.declared.sets.TaintSets.{TaintSets}
use Rattle.taint_flow.specs.Traces.{IsHitPath}
use Rattle.taint_flow.proofs.Sources.{source_there}
use Rattle.taint_trace.specs.Trace.{HasNoPath, HasNoTrace}
use Rattle.taint_trace.specs.Standings.{AreUnitsWith}

module _ (root : Node) (sets : TaintSets) (source range : Span) (places : List ℕ) where
  -- the units at the first so many of the places have no path
  abbrev pub NoneSoFar : ℕ → Type 0
  NoneSoFar n = (k place unit : ℕ) → k < n → slice_get places k ≡ Some place → slice_get (units_of root) place ≡ Some unit → HasNoPath root sets source range unit

  -- the next unit has none either
  pub none_more : (n place unit : ℕ) → slice_get places n ≡ Some place → slice_get (units_of root) place ≡ Some unit → HasNoPath root sets source range unit → NoneSoFar n → NoneSoFar (n + 1)
  none_more n place unit at got here none k p u less k_at u_at = elim (cases_lt k n) [
    | inl before ↦ none k p u before k_at u_at
    | inr behind ↦
        let same : k ≡ n = omega (arith, less, behind) in
        let places_same : Some place ≡ Some p = sym at ∙ ap (slice_get places) (sym same) ∙ k_at in
        let p_is : place ≡ p = cc in
        let units_same : Some unit ≡ Some u = sym got ∙ ap (slice_get (units_of root)) p_is ∙ u_at in
        let u_is : unit ≡ u = cc in
        let No : ℕ → Type 0 = HasNoPath root sets source range in
        subst No u_is here
  ]

  module _ (are : AreUnitsWith root source places) where
    -- a unit with a path has its place among them
    listed : (place unit : ℕ) → slice_get (units_of root) place ≡ Some unit → (path : List Point) → IsHitPath root unit sets source range path → (k : ℕ) × (slice_get places k ≡ Some place)
    listed place unit got path hit = among_got places place ((are.exact place).1 (record { unit = unit; unit_is = got; there = source_there root unit sets source range hit.earlier hit.last hit.hits }))

    -- no unit before that one has a path
    pub none_before : (n place : ℕ) → slice_get places n ≡ Some place → NoneSoFar n → (i other : ℕ) → i < place → slice_get (units_of root) i ≡ Some other → HasNoPath root sets source range other
    none_before n place at none i other less got path hit =
        let (k, k_at) = listed i other got path hit in
        elim (cases_lt k n) [
          | inl before ↦ none k i other before k_at got path hit
          | inr behind ↦
              let rise = are.ordered n k 0 behind (slice_get_within places k i k_at) in
              let first : get_or places n 0 ≡ place = get_or_from_slice_get places n place 0 at in
              let later : get_or places k 0 ≡ i = get_or_from_slice_get places k i 0 k_at in
              absurd (omega (arith, rise, first, later, less))
        ]

    -- no unit has one
    pub none_at_all : (n : ℕ) → length places ≤ n → NoneSoFar n → HasNoTrace root sets source range
    none_at_all n all none unit among path hit =
        let (i, got) = among_got (units_of root) unit among in
        let (k, k_at) = listed i unit got path hit in
        let within = slice_get_within places k i k_at in
        none k i unit (omega (arith, within, all)) k_at got path hit
