-- The facts that a path of points brings are those that its places carry.
use Rattle.std.proofs.Common.{◌≡◌, ◌↔◌, ℕ, zero, suc, ◌<◌, List, [], ◌∷◌, length, map, refl, sym, ap, ◌∙◌, subst, arith, Some}
use Rattle.std.specs.Prelude.{slice_get}
use Rattle.std.proofs.lemmas.Option.{slice_get_within}
use Rattle.node_tree.specs.declared.node.Node.{Node}
use Rattle.node_tree.specs.declared.span.Span.{Span}
use Rattle.node_tree.specs.Tree.{pre_of}
use Rattle.point_nodes.specs.Tops.{tops_of}
use Rattle.graph_form.specs.declared.graph.Graph.{Graph}
use Rattle.graph_form.specs.declared.graph.Point.{Point}
use Rattle.graph_form.specs.Sets.{Among}
use Rattle.flow_graph.specs.Units.{points_of, entry_of, Goes, IsGraphOf}
use Rattle.flow_reach.specs.declared.moves.Move.{Move}
use Rattle.flow_reach.specs.declared.moves.Moves.{Moves}
use Rattle.flow_reach.specs.Carried.{Stop, LeadsFrom, TurnsBy}
use Rattle.trace_path.specs.Trace.{points_of as places_of}
use Rattle.taint_tables.specs.declared.sets.TaintSets.{TaintSets}
use Rattle.taint_tables.specs.Numbers.{Numbering}
use Rattle.taint_plan.specs.Facts.{BeginsBy, Brought, PointFact}
use Rattle.taint_plan.specs.SinkGoals.{outermost_among, TaintsAny}
use Rattle.taint_flow.specs.Taint.{AtEntry, IsPath, HitsAt}
use Rattle.flow_reach.proofs.Sorted.{got_among, among_got}
use Rattle.taint_flow.proofs.Entry.{entry_first, only_first}
use Rattle.taint_flow.proofs.Spread.{AreApart, IsKnown, IsKnownAt, hit_is, path_there}

pub some_at : {X : Type 0} (xs : List X) (i : ℕ) → i < length xs → (x : X) × (slice_get xs i ≡ Some x)
some_at [] i lt = absurd (omega (arith, lt))
some_at (x ∷ xs) zero lt = (x, refl)
some_at (x ∷ xs) (suc i) lt = some_at xs i (omega (arith, lt))

module _ (root : Node) (unit : ℕ) (sets : TaintSets) (numbers : Numbering) (source : Span) (number : ℕ) (graph : Graph) (moves : Moves) (Begins : ℕ → ℕ → Type 0) where
  -- the moves begin with the source, and do to facts what the points of the unit do
  pub record AreMoves : Type 0 where
    pub graph_is : IsGraphOf (points_of root unit) (Goes root unit) graph
    pub rows : length moves.rows ≡ length graph.points
    pub turns : (i : ℕ) (p : Point) (row : Move) → slice_get graph.points i ≡ Some p → slice_get moves.rows i ≡ Some row → (from to : ℕ) → TurnsBy row from to ↔ PointFact (pre_of root) sets numbers p from to
    pub begins : (point fact : ℕ) → Begins point fact ↔ ((point ≡ 0) × BeginsBy (pre_of root) unit numbers source number fact)

  -- the places are those of the points
  abbrev pub ArePlaces : List ℕ → List Point → Type 0
  ArePlaces places points = map (slice_get graph.points) places ≡ map Some points

  module _ (are : AreMoves) where
    -- a path that brings a fact is a route that carries it
    led : (earlier : List Point) (p : Point) (places : List ℕ) (i : ℕ) → ArePlaces places earlier → slice_get graph.points i ≡ Some p → IsPath root unit earlier p → (fact : ℕ) → Brought root unit sets numbers source number earlier fact
        → (stops : List Stop) × LeadsFrom Begins graph moves stops i fact × (places_of stops ≡ places)
    led [] p [] i same at path fact b = ([], (are.begins i fact).1 (only_first root unit (Goes root unit) graph are.graph_is i (at ∙ ap Some path), b), refl)
    led [] p (j ∷ js) i same at path fact b = absurd cc
    led (last ∷ earlier) p [] i same at path fact b = absurd cc
    led (last ∷ earlier) p (j ∷ js) i same at (before, there, goes) fact (from, b, turns) =
        let first : slice_get graph.points j ≡ Some last = cc in
        let rest : map (slice_get graph.points) js ≡ map Some earlier = cc in
        let (stops, leads, places) = led earlier last js j rest first before from b in
        let (row, row_at) = some_at moves.rows j (let lt = slice_get_within graph.points j last first in omega (arith, lt, are.rows)) in (
          record { point = j; fact = from } ∷ stops,
          (leads, (are.graph_is.edges j i).1 (last, first, p, at, goes), (row, row_at, (are.turns j last row first row_at from fact).1 turns)),
          ap (λ xs. j ∷ xs) places,
        )

    -- and the other way round
    brought : (stops : List Stop) (i fact : ℕ) (p : Point) → slice_get graph.points i ≡ Some p → LeadsFrom Begins graph moves stops i fact
        → (earlier : List Point) × IsPath root unit earlier p × Brought root unit sets numbers source number earlier fact × ArePlaces (places_of stops) earlier
    brought [] i fact p at begins =
        let (first, b) = (are.begins i fact).0 begins in
        let entry = entry_first root unit (Goes root unit) graph are.graph_is in
        let same : Some p ≡ Some (entry_of unit) = sym at ∙ ap (slice_get graph.points) first ∙ entry in
        ([], (let q : p ≡ entry_of unit = cc in q), b, refl)
    brought (stop ∷ stops) i fact p at (leads, edge, (row, row_at, turned)) =
        let (a, at_a, b, at_b, goes) = (are.graph_is.edges stop.point i).0 edge in
        let same : b ≡ p = (let q : Some b ≡ Some p = sym at_b ∙ at in cc) in
        let (earlier, path, brings, places) = brought stops stop.point stop.fact a at_a leads in
        let G : Point → Type 0 = λ x. Goes root unit a x in (
          a ∷ earlier,
          (path, (are.graph_is.points p).0 (got_among graph.points i p at), subst G same goes),
          (stop.fact, brings, (are.turns stop.point a row at_a row_at stop.fact fact).0 turned),
          ap (λ xs. slice_get graph.points stop.point ∷ xs) places ∙ ap (λ o. o ∷ map Some earlier) at_a,
        )

    module _ (apart : AreApart numbers source number) (known : (p : Point) → Among (points_of root unit) p → IsKnownAt sets numbers source number apart (pre_of root) p) (first : (n : List ℕ) → AtEntry root unit source n → IsKnown numbers n) where
      -- where a route carries a fact that taints what stands in the range, its path is one on which the source hits
      pub path_hit : (stops : List Stop) (i fact : ℕ) (p : Point) (range : Span) → slice_get graph.points i ≡ Some p → LeadsFrom Begins graph moves stops i fact → TaintsAny sets.sanitizers numbers (outermost_among range (tops_of (pre_of root) p)) fact
          → (earlier : List Point) × HitsAt root unit sets source range earlier p × ArePlaces (places_of stops) earlier
      path_hit stops i fact p range at leads (e, outer, taints) =
          let (earlier, path, brings, places) = brought stops i fact p at leads in (
            earlier,
            record { path = path; expression = e; outer = outer; tainted = (hit_is sets numbers source number apart root unit known first earlier p path e).1 (fact, taints, brings) },
            places,
          )

      -- and the other way round
      pub hit_path : (earlier : List Point) (p : Point) (places : List ℕ) (i : ℕ) (range : Span) → ArePlaces places earlier → slice_get graph.points i ≡ Some p → HitsAt root unit sets source range earlier p
          → (fact : ℕ) × TaintsAny sets.sanitizers numbers (outermost_among range (tops_of (pre_of root) p)) fact × ((stops : List Stop) × LeadsFrom Begins graph moves stops i fact × (places_of stops ≡ places))
      hit_path earlier p places i range same at hits =
          let (fact, taints, brings) = (hit_is sets numbers source number apart root unit known first earlier p hits.path hits.expression).0 hits.tainted in
          (fact, (hits.expression, hits.outer, taints), led earlier p places i same at hits.path fact brings)

    -- a path has places
    pub path_places : (earlier : List Point) (p : Point) → IsPath root unit earlier p → (places : List ℕ) × ArePlaces places earlier
    path_places [] p path = ([], refl)
    path_places (last ∷ earlier) p (before, there, goes) =
        let (j, at) = among_got graph.points last ((are.graph_is.points last).1 (path_there root unit earlier last before)) in
        let (places, same) = path_places earlier last before in
        (j ∷ places, ap (λ xs. slice_get graph.points j ∷ xs) same ∙ ap (λ o. o ∷ map Some earlier) at)
