-- The hits of a file are those of its table of least sources, and there is one list of them.
use Rattle.std.proofs.Common.{◌≡◌, ◌↔◌, inl, inr, ℕ, suc, ◌<◌, List, [], ◌∷◌, refl, sym, ap, ◌∙◌, subst, arith, Some}
use Rattle.std.specs.Prelude.{Option, slice_get}
use Rattle.node_tree.specs.declared.node.Node.{Node}
use Rattle.node_tree.specs.declared.span.Span.{Span}
use Rattle.graph_form.specs.Sets.{Among}
use Rattle.flow_graph.specs.Units.{InOrder, units_of}
use Rattle.taint_flow.specs.declared.hit.TaintHit.{TaintHit}
use Rattle.taint_tables.specs.declared.sets.TaintSets.{TaintSets}
use Rattle.taint_flow.specs.Taint.{HitsAt, IsUpTo, IsLeastSource, Hit, AreHits}
use Rattle.taint_flow.specs.Lowest.{Has, AreLeast, AreListed, HitsIn, HitsAmong}
use Rattle.flow_reach.proofs.Sorted.{among_got}
use Rattle.taint_flow.proofs.Lowest.{up_to_both}

abbrev IsBefore : TaintHit → TaintHit → Type 0
IsBefore a b = a.sink < b.sink

first_before : (h : TaintHit) (hs : List TaintHit) → InOrder IsBefore (h ∷ hs) → (x : TaintHit) → Among hs x → h.sink < x.sink
first_before h hs order x among = let r = among_got hs x among in order 0 (suc r.0) h x (omega arith) refl r.1

later_order : (h : TaintHit) (hs : List TaintHit) → InOrder IsBefore (h ∷ hs) → InOrder IsBefore hs
later_order h hs order i j x y lt at there = order (suc i) (suc j) x y (omega (arith, lt)) at there

-- of two lists in order with the same items both are the same
same_lists : (xs ys : List TaintHit) → InOrder IsBefore xs → InOrder IsBefore ys → ((x : TaintHit) → Among xs x ↔ Among ys x) → xs ≡ ys
same_lists [] [] o p same = refl
same_lists [] (y ∷ ys) o p same = absurd ((same y).1 (inl refl))
same_lists (x ∷ xs) [] o p same = absurd ((same x).0 (inl refl))
same_lists (x ∷ xs) (y ∷ ys) o p same =
    ap (λ z. z ∷ xs) head ∙ ap (λ zs. y ∷ zs) (same_lists xs ys (later_order x xs o) (later_order y ys p) (λ z. (there z, back z)))
  where
    head : x ≡ y
    head = elim ((same x).0 (inl refl)) [
      | inl e ↦ sym e
      | inr a ↦ elim ((same y).1 (inl refl)) [ inl e ↦ e | inr b ↦ (let p = first_before y ys p x a in let q = first_before x xs o y b in absurd (omega (arith, p, q))) ]
    ]

    there : (z : TaintHit) → Among xs z → Among ys z
    there z a = elim ((same z).0 (inr a)) [ inl e ↦ (let lt = first_before x xs o z a in let k : x.sink ≡ z.sink = ap (λ (h : TaintHit). h.sink) (head ∙ e) in absurd (omega (arith, lt, k))) | inr b ↦ b ]

    back : (z : TaintHit) → Among ys z → Among xs z
    back z b = elim ((same z).1 (inr b)) [ inl e ↦ (let lt = first_before y ys p z b in let k : y.sink ≡ z.sink = ap (λ (h : TaintHit). h.sink) (sym head ∙ e) in absurd (omega (arith, lt, k))) | inr a ↦ a ]

module _ (root : Node) (sets : TaintSets) where
  one_range : (sink : ℕ) (a b : Span) → slice_get sets.sinks sink ≡ Some a → slice_get sets.sinks sink ≡ Some b → a ≡ b
  one_range sink a b e f = let q : Some a ≡ Some b = sym e ∙ f in cc

  there : (xs ys : List TaintHit) → AreHits root sets xs → AreHits root sets ys → (h : TaintHit) → Among xs h → Among ys h
  there xs ys is other h among =
      let (range, at, least) = is.each h among in
      let (g, got, sink) = other.all h.sink range h.source at least.hits in
      let (range', at', least') = other.each g got in
      let A : ℕ → Type 0 = λ k. slice_get sets.sinks k ≡ Some range' in
      let ranges : range' ≡ range = one_range h.sink range' range (subst A sink at') at in
      let L : Span → Type 0 = λ r. IsLeastSource root sets r g.source in
      let least'' = subst L ranges least' in
      let source : g.source ≡ h.source = up_to_both g.source h.source (least''.least h.source least.hits) (least.least g.source least''.hits) in
      let same : g ≡ h = λ i. record { sink = sink i; source = source i } in
      let P : TaintHit → Type 0 = λ x. Among ys x in
      subst P same got

  -- there is one list of hits
  pub one_list : (xs ys : List TaintHit) → AreHits root sets xs → AreHits root sets ys → ys ≡ xs
  one_list xs ys is other = same_lists ys xs other.order is.order (λ h. (there ys xs other is h, there xs ys is other h))

  hit_of : (unit sink : ℕ) (source range : Span) → Among (units_of root) unit → slice_get sets.sinks sink ≡ Some range → HitsIn root unit sets sink source → Hit root sets range source
  hit_of unit sink source range among at hits =
      let H : Span → Type 0 = λ r. HitsAt root unit sets source r hits.earlier hits.point in
      record {
        listed = hits.listed;
        unit = unit;
        unit_is = among;
        earlier = hits.earlier;
        point = hits.point;
        hits = subst H (one_range sink hits.range range hits.sink_is at) hits.hits;
      }

  of_hit : (sink : ℕ) (source range : Span) → slice_get sets.sinks sink ≡ Some range → Hit root sets range source → HitsAmong root (units_of root) sets sink source
  of_hit sink source range at hit = (hit.unit, hit.unit_is, record { range = range; sink_is = at; listed = hit.listed; earlier = hit.earlier; point = hit.point; hits = hit.hits })

  -- the hits that a table of the least sources of all units lists
  pub are_hits : (table : List (Option Span)) (hits : List TaintHit) → AreLeast (HitsAmong root (units_of root) sets) table → AreListed table hits → AreHits root sets hits
  are_hits table hits least listed = record {
    each = each;
    all = λ sink range source at hit.
        let r = least.least sink source (of_hit sink source range at hit) in
        (record { sink = sink; source = r.0 }, (listed.each (record { sink = sink; source = r.0 })).1 r.1, refl);
    order = listed.order;
  }
    where
      one_source : (sink : ℕ) (a b : Span) → Has table sink a → Has table sink b → a ≡ b
      one_source sink a b e f = let q : Some (Some a) ≡ Some (Some b) = sym e ∙ f in cc

      each : (hit : TaintHit) → Among hits hit → (range : Span) × (slice_get sets.sinks hit.sink ≡ Some range) × IsLeastSource root sets range hit.source
      each hit among =
          let has = (listed.each hit).0 among in
          let (unit, in_units, met) = least.some hit.sink hit.source has in (
            met.range,
            met.sink_is,
            record {
              hits = hit_of unit hit.sink hit.source met.range in_units met.sink_is met;
              least = λ other another.
                  let r = least.least hit.sink other (of_hit hit.sink other met.range met.sink_is another) in
                  let U : Span → Type 0 = λ s. IsUpTo s other in
                  subst U (one_source hit.sink r.0 hit.source r.1 has) r.2;
            },
          )
