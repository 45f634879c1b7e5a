-- Places in a list of points, and the paths that they stand for.
use Rattle.std.proofs.Common.{◌≡◌, inl, inr, ℕ, ◌+◌, ◌<◌, List, [], ◌∷◌, ◌++◌, length, map, take, get_or, reverse, refl, sym, ap, ◌∙◌, subst, arith, Some}
use Rattle.std.specs.Prelude.{slice_get}
use Rattle.std.proofs.lemmas.List.{length-map, map-append, take_more}
use Rattle.std.proofs.lemmas.List.Sorted.{IsPermutation-reverse}
use Rattle.std.proofs.lemmas.Option.{slice_get_within, slice_get-get_or}
use Rattle.node_tree.specs.declared.node.Node.{Node}
use Rattle.node_tree.specs.declared.span.Span.{Span}
use Rattle.graph_form.specs.declared.graph.Graph.{Graph}
use Rattle.graph_form.specs.declared.graph.Point.{Point}
use Rattle.graph_form.specs.Sets.{Among}
use Rattle.graph_form.proofs.Amongs.{same_items}
use Rattle.flow_graph.specs.Units.{points_of, Goes, InOrder, IsPointBefore, IsGraphOf}
use Rattle.flow_reach.proofs.Sorted.{among_got}
use Rattle.trace_path.specs.Trace.{IsTrace, IsLeast}
use Rattle.trace_path.specs.Trace as places
use Rattle.taint_flow.specs.declared.moves.UnitMoves.{UnitMoves}
use Rattle.taint_tables.specs.declared.sets.TaintSets.{TaintSets}
use Rattle.taint_flow.specs.Taint.{IsPath}
use Rattle.taint_flow.specs.Traces.{goals_of, IsHitPath, TracesAreHits}
use Rattle.taint_trace.specs.Trace.{Precedes, IsUpTo, IsLeastPath, HasNoPath}

-- points are told apart
same_paths : (ps qs : List Point) → map Some ps ≡ map Some qs → ps ≡ qs
same_paths [] [] e = refl
same_paths [] (q ∷ qs) e = absurd cc
same_paths (p ∷ ps) [] e = absurd cc
same_paths (p ∷ ps) (q ∷ qs) e =
    let first : p ≡ q = cc in
    let rest : map Some ps ≡ map Some qs = cc in
    ap (λ z. z ∷ ps) first ∙ ap (λ zs. q ∷ zs) (same_paths ps qs rest)

module _ (points : List Point) where
  -- the places stand for the points of the path
  abbrev pub Are : List ℕ → List Point → Type 0
  Are places path = map (slice_get points) places ≡ map Some path

  places_for : (path : List Point) → ((p : Point) → Among path p → Among points p) → (places : List ℕ) × Are places path
  places_for [] all = ([], refl)
  places_for (p ∷ ps) all =
      let (i, at) = among_got points p (all p (inl refl)) in
      let (rest, same) = places_for ps (λ q h. all q (inr h)) in
      (i ∷ rest, ap (λ o. o ∷ map (slice_get points) rest) at ∙ ap (λ os. Some p ∷ os) same)

  lengths : (xs : List ℕ) (ps : List Point) → Are xs ps → length xs ≡ length ps
  lengths xs ps e = sym (length-map xs (slice_get points)) ∙ ap length e ∙ length-map ps Some

  pub there : (xs : List ℕ) (ps : List Point) → Are xs ps → (x : ℕ) → Among xs x → x < length points
  there [] ps e x none = absurd none
  there (y ∷ ys) [] e x among = absurd cc
  there (y ∷ ys) (p ∷ ps) e x (inl same) = let at : slice_get points y ≡ Some p = cc in subst (λ z. z < length points) same (slice_get_within points y p at)
  there (y ∷ ys) (p ∷ ps) e x (inr more) = there ys ps (let rest : map (slice_get points) ys ≡ map Some ps = cc in rest) x more

  -- one place more
  pub points_more : (places : List ℕ) (path new : List Point) (i : ℕ) (d : Point) → i < length places → get_or places i 0 < length points → Are (take i places) path → new ≡ path ++ get_or points (get_or places i 0) d ∷ [] → Are (take (i + 1) places) new
  points_more places path new i d lt within so_far is =
      let place = get_or places i 0 in
      ap (map (slice_get points)) (take_more places i 0 lt) ∙ map-append (slice_get points) (take i places) (place ∷ []) ∙ ap (λ os. os ++ slice_get points place ∷ []) so_far
      ∙ ap (λ o. map Some path ++ o ∷ []) (slice_get-get_or points place d within) ∙ sym (map-append Some path (get_or points place d ∷ [])) ∙ ap (map Some) (sym is)

  module _ (order : InOrder IsPointBefore points) where
    precede : (xs ys : List ℕ) (ps qs : List Point) → Are xs ps → Are ys qs → places.Precedes xs ys → Precedes ps qs
    precede [] ys ps qs e f none = absurd none
    precede (x ∷ xs) [] ps qs e f none = absurd none
    precede (x ∷ xs) (y ∷ ys) [] qs e f h = absurd cc
    precede (x ∷ xs) (y ∷ ys) (p ∷ ps) [] e f h = absurd cc
    precede (x ∷ xs) (y ∷ ys) (p ∷ ps) (q ∷ qs) e f h =
        let x_at : slice_get points x ≡ Some p = cc in
        let y_at : slice_get points y ≡ Some q = cc in
        let xs_are : map (slice_get points) xs ≡ map Some ps = cc in
        let ys_are : map (slice_get points) ys ≡ map Some qs = cc in
        elim h [
          | inl less ↦ inl (order x y p q less x_at y_at)
          | inr more ↦ inr ((let same : x ≡ y = more.0 in let point : p ≡ q = cc in point), precede xs ys ps qs xs_are ys_are more.1)
        ]

    up_to : (xs ys : List ℕ) (ps qs : List Point) → Are xs ps → Are ys qs → places.IsUpTo xs ys → IsUpTo ps qs
    up_to xs ys ps qs e f (inl fewer) = inl (let a = lengths xs ps e in let b = lengths ys qs f in omega (arith, a, b, fewer))
    up_to xs ys ps qs e f (inr (many, inl before)) = inr (sym (lengths xs ps e) ∙ many ∙ lengths ys qs f, inl (precede xs ys ps qs e f before))
    up_to xs ys ps qs e f (inr (many, inr same)) = inr (sym (lengths xs ps e) ∙ many ∙ lengths ys qs f, inr (same_paths ps qs (sym e ∙ ap (map (slice_get points)) same ∙ f)))

-- the points of a path are those of the unit
along : (root : Node) (unit : ℕ) (earlier : List Point) (p : Point) → IsPath root unit earlier p → (q : Point) → Among (p ∷ earlier) q → Among (points_of root unit) q
along root unit [] p path q (inl e) = inl (sym path ∙ e)
along root unit [] p path q (inr none) = absurd none
along root unit (last ∷ earlier) p path q (inl e) = let Of : Point → Type 0 = Among (points_of root unit) in subst Of e path.1
along root unit (last ∷ earlier) p path q (inr more) = along root unit earlier last path.0 q more

on_path : (root : Node) (unit : ℕ) (sets : TaintSets) (source range : Span) (path : List Point) → IsHitPath root unit sets source range path → (q : Point) → Among path q → Among (points_of root unit) q
on_path root unit sets source range path is q among =
    let all = is.last ∷ is.earlier in
    let Has : List Point → Type 0 = λ ps. Among ps q in
    along root unit is.earlier is.last is.hits.path q ((same_items all (reverse all) (IsPermutation-reverse all) q).0 (subst Has is.whole among))

module _ (root : Node) (unit : ℕ) (sets : TaintSets) (source : Span) (graph : Graph) (m : UnitMoves) (is : IsGraphOf (points_of root unit) (Goes root unit) graph) (hits : TracesAreHits root unit sets source graph m)
    (sink : ℕ) (range : Span) (at : slice_get sets.sinks sink ≡ Some range) where
  places_of : (path : List Point) → IsHitPath root unit sets source range path → (places : List ℕ) × Are graph.points places path
  places_of path hit = places_for graph.points path (λ p h. (is.points p).1 (on_path root unit sets source range path hit p h))

  -- without a trace the source hits the range on no path
  pub none_hits : ((places : List ℕ) → IsTrace graph m.moves (goals_of sink m.goals) places → ⊥) → HasNoPath root sets source range unit
  none_hits none path hit = let (places, same) = places_of path hit in none places ((hits sink range places at).1 (path, same, hit))

  -- the places of a trace are there
  pub places_there : (places : List ℕ) → IsTrace graph m.moves (goals_of sink m.goals) places → (place : ℕ) → Among places place → place < length graph.points
  places_there places trace = let (path, same, hit) = (hits sink range places at).0 trace in there graph.points places path same

  -- the points of the least trace are the least path
  pub least_hits : (places : List ℕ) (path : List Point) → IsLeast graph m.moves (goals_of sink m.goals) places → Are graph.points places path → IsLeastPath root sets source range unit path
  least_hits places path least same = record {
    hits =
        let (found, got, hit) = (hits sink range places at).0 least.trace in
        let Hits : List Point → Type 0 = IsHitPath root unit sets source range in
        subst Hits (same_paths found path (sym got ∙ same)) hit;
    least = λ other hit. (let (others, got) = places_of other hit in up_to graph.points is.points_order places others path other same got (least.least others ((hits sink range others at).1 (other, got, hit))));
  }
