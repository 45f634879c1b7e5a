-- The traces to the goals of a sink are the paths on which it is hit.
use Rattle.std.proofs.Common.{◌≡◌, ◌↔◌, inl, inr, ℕ, Bool, true, false, List, [], ◌∷◌, ◌++◌, map, reverse, refl, sym, ap, ◌∙◌, subst, Some}
use Rattle.std.specs.Prelude.{slice_get, filter, ◌==◌, cond}
use Rattle.std.proofs.lemmas.Bool.{eqb-true, eq-eqb}
use Rattle.std.proofs.lemmas.List.{reverse-append, reverse-reverse, map-append}
use Rattle.node_tree.specs.declared.node.Node.{Node}
use Rattle.node_tree.specs.declared.span.Span.{Span}
use Rattle.node_tree.specs.Tree.{pre_of}
use Rattle.point_nodes.specs.Tops.{tops_of}
use Rattle.graph_form.specs.declared.graph.Graph.{Graph}
use Rattle.graph_form.specs.declared.graph.Point.{Point}
use Rattle.graph_form.specs.Sets.{Among}
use Rattle.flow_graph.specs.Units.{points_of}
use Rattle.flow_reach.specs.Carried.{AtEntry as FromStart}
use Rattle.trace_path.specs.Trace.{IsTrace, points_of as places_of}
use Rattle.taint_plan.specs.declared.goal.Goal.{Goal}
use Rattle.taint_flow.specs.declared.moves.UnitMoves.{UnitMoves}
use Rattle.taint_tables.specs.declared.sets.TaintSets.{TaintSets}
use Rattle.taint_tables.specs.Numbers.{Numbering}
use Rattle.taint_plan.specs.SinkGoals.{IsGoal, outermost_among, TaintsAny}
use Rattle.taint_flow.specs.Taint.{AtEntry}
use Rattle.taint_flow.specs.Traces.{goals_of, IsHitPath, TracesAreHits}
use Rattle.taint_flow.proofs.Routes.{AreMoves, path_hit, hit_path}
use Rattle.taint_flow.proofs.Spread.{AreApart, IsKnown, IsKnownAt}

reverse_cons : {X : Type 0} (x : X) (xs : List X) → reverse (x ∷ xs) ≡ reverse xs ++ x ∷ []
reverse_cons x xs = reverse-append (x ∷ []) xs

map_reverse : {X Y : Type 0} (f : X → Y) (xs : List X) → map f (reverse xs) ≡ reverse (map f xs)
map_reverse f [] = refl
map_reverse f (x ∷ xs) = ap (map f) (reverse_cons x xs) ∙ map-append f (reverse xs) (x ∷ []) ∙ ap (λ ys. ys ++ f x ∷ []) (map_reverse f xs) ∙ sym (reverse_cons (f x) (map f xs))

-- the goals of a sink
goal_there : (sink : ℕ) (goals : List Goal) (point fact : ℕ) → Among {X = ℕ × ℕ} (goals_of sink goals) (point, fact) ↔ Among goals (record { sink = sink; point = point; fact = fact })
goal_there sink [] point fact = (λ none. none, λ none. none)
goal_there sink (g ∷ gs) point fact = by (goal_there sink gs point fact) (g.sink == sink) refl
  where
    by : Among {X = ℕ × ℕ} (goals_of sink gs) (point, fact) ↔ Among gs (record { sink = sink; point = point; fact = fact }) → (b : Bool) → (g.sink == sink) ≡ b → Among {X = ℕ × ℕ} (map (λ (x : Goal). (x.point, x.fact)) (cond b (g ∷ filter (λ (x : Goal). x.sink == sink) gs) (filter (λ (x : Goal). x.sink == sink) gs))) (point, fact) ↔ Among (g ∷ gs) (record { sink = sink; point = point; fact = fact })
    by below true e =
        let same : g.sink ≡ sink = eqb-true g.sink sink e in (
          λ h. elim h [
            | inl q ↦ inl (λ i. record { sink = same i; point = (q i).0; fact = (q i).1 })
            | inr more ↦ inr (below.0 more)
          ],
          λ h. elim h [
            | inl q ↦ inl (λ i. ((q i).point, (q i).fact))
            | inr more ↦ inr (below.1 more)
          ],
        )
    by below false e = (
      λ more. inr (below.0 more),
      λ h. elim h [
        | inl q ↦ (let k : g.sink ≡ sink = ap (λ (x : Goal). x.sink) q in let t : (g.sink == sink) ≡ true = eq-eqb g.sink sink k in absurd (let u : true ≡ false = sym t ∙ e in cc))
        | inr more ↦ below.1 more
      ],
    )

module _ (root : Node) (unit : ℕ) (sets : TaintSets) (numbers : Numbering) (source : Span) (number : ℕ) (graph : Graph) (m : UnitMoves) (are : AreMoves root unit sets numbers source number graph m.moves (FromStart m.moves))
    (apart : AreApart numbers source number) (known : (p : Point) → Among (points_of root unit) p → IsKnownAt sets numbers source number apart (pre_of root) p) (first : (n : List ℕ) → AtEntry root unit source n → IsKnown numbers n)
    (goals : (g : Goal) → Among m.goals g ↔ IsGoal (pre_of root) graph.points sets.sanitizers sets.sinks numbers g) where
  trace_hits : (sink : ℕ) (range : Span) (places : List ℕ) → slice_get sets.sinks sink ≡ Some range → IsTrace graph m.moves (goals_of sink m.goals) places
      → (path : List Point) × (map (slice_get graph.points) places ≡ map Some path) × IsHitPath root unit sets source range path
  trace_hits sink range places at trace =
      let (p, p_at, (other, other_at, taints)) = (goals (record { sink = sink; point = trace.point; fact = trace.fact })).0 ((goal_there sink m.goals trace.point trace.fact).0 trace.goal) in
      let ranges : other ≡ range = (let q : Some other ≡ Some range = sym other_at ∙ at in cc) in
      let T : Span → Type 0 = λ r. TaintsAny sets.sanitizers numbers (outermost_among r (tops_of (pre_of root) p)) trace.fact in
      let (earlier, hits, same) = path_hit root unit sets numbers source number graph m.moves (FromStart m.moves) are apart known first trace.stops trace.point trace.fact p range p_at trace.leads (subst T ranges taints) in
      let all : map (slice_get graph.points) (trace.point ∷ places_of trace.stops) ≡ map Some (p ∷ earlier) =
      ap (λ o. o ∷ map (slice_get graph.points) (places_of trace.stops)) p_at ∙ ap (λ os. Some p ∷ os) same in (
        reverse (p ∷ earlier),
        ap (map (slice_get graph.points)) trace.same ∙ map_reverse (slice_get graph.points) (trace.point ∷ places_of trace.stops) ∙ ap reverse all ∙ sym (map_reverse Some (p ∷ earlier)),
        record { earlier = earlier; last = p; whole = refl; hits = hits },
      )

  hit_traces : (sink : ℕ) (range : Span) (places : List ℕ) → slice_get sets.sinks sink ≡ Some range → (path : List Point) → map (slice_get graph.points) places ≡ map Some path → IsHitPath root unit sets source range path
      → IsTrace graph m.moves (goals_of sink m.goals) places
  hit_traces sink range places at path same is = by (reverse places) refl back
    where
      back : map (slice_get graph.points) (reverse places) ≡ map Some (is.last ∷ is.earlier)
      back = map_reverse (slice_get graph.points) places ∙ ap reverse (same ∙ ap (map Some) is.whole) ∙ sym (map_reverse Some (reverse (is.last ∷ is.earlier))) ∙ ap (map Some) (reverse-reverse (is.last ∷ is.earlier))

      by : (others : List ℕ) → reverse places ≡ others → map (slice_get graph.points) others ≡ map Some (is.last ∷ is.earlier) → IsTrace graph m.moves (goals_of sink m.goals) places
      by [] e f = absurd cc
      by (i ∷ js) e f =
          let i_at : slice_get graph.points i ≡ Some is.last = cc in
          let js_are : map (slice_get graph.points) js ≡ map Some is.earlier = cc in
          let (fact, taints, (stops, leads, there)) = hit_path root unit sets numbers source number graph m.moves (FromStart m.moves) are apart known first is.earlier is.last js i range js_are i_at is.hits in
          record {
            stops = stops;
            point = i;
            fact = fact;
            leads = leads;
            goal = (goal_there sink m.goals i fact).1 ((goals (record { sink = sink; point = i; fact = fact })).1 (is.last, i_at, (range, at, taints)));
            same = sym (reverse-reverse places) ∙ ap reverse (e ∙ ap (λ xs. i ∷ xs) (sym there));
          }

  pub traces_are_hits : TracesAreHits root unit sets source graph m
  traces_are_hits sink range places at = (trace_hits sink range places at, λ (path, same, is). hit_traces sink range places at path same is)
