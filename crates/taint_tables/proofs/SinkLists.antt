-- Sinks in the order in which they begin.
use Rattle.std.proofs.Common.{◌≡◌, ◌⊎◌, ◌↔◌, inl, inr, ℕ, ◌+◌, ◌≤◌, ◌<◌, List, [], ◌∷◌, ◌++◌, length, take, get_or, sym, ap, subst, ◌∙◌, arith, length-append}
use Rattle.std.specs.Prelude.{Some, slice_get}
use Rattle.std.proofs.lemmas.Bool.{cases_lt}
use Rattle.std.proofs.lemmas.List.{get_or_append_left}
use Rattle.std.proofs.Math.Seq.{get_or-append_seam}
use Rattle.std.proofs.lemmas.Option.{get_or_from_slice_get, slice_get-get_or}
use Rattle.node_tree.specs.declared.span.Span.{Span}
use Rattle.graph_form.specs.Sets.{Among}
use Rattle.graph_form.proofs.Amongs.{among_push}
use Rattle.flow_reach.proofs.Sorted.{got_among, among_got}
use Rattle.taint_tables.specs.declared.hull.Hull.{Hull}
use Rattle.taint_tables.specs.declared.sink.Sink.{Sink}
use Rattle.taint_tables.specs.Hulls.{Meets}
use Rattle.taint_tables.specs.Sinks.{IsSinkOf}
use Rattle.taint_tables.proofs.ItemPlaces.{got_more}

-- a sink more with its place
pub listed_more : (sinks : List Span) (i : ℕ) (d : Span) (old new : List Sink) → i < length sinks → ((s : Sink) → Among old s ↔ IsSinkOf (take i sinks) s) → new ≡ old ++ record { place = i; range = get_or sinks i d } ∷ []
    → (s : Sink) → Among new s ↔ IsSinkOf (take (i + 1) sinks) s
listed_more sinks i d old new lt all is s =
    let one : Sink = record { place = i; range = get_or sinks i d } in
    let p = among_push old one s in
    let g = got_more sinks i d lt s.place s.range in
    let P : List Sink → Type 0 = λ xs. Among xs s ↔ IsSinkOf (take (i + 1) sinks) s in
    subst P (sym is) (
      λ h. g.1 (elim (p.0 h) [ inl a ↦ inl ((all s).0 a) | inr e ↦ inr (sym (ap (λ (z : Sink). z.place) e), ap (λ (z : Sink). z.range) e) ]),
      λ h. p.1 (elim (g.0 h) [ inl a ↦ inl ((all s).1 a) | inr (e, q) ↦ inr (let r = sym e in λ i. record { place = r i; range = q i }) ]),
    )

-- a sink that doesn't end too early is added
pub added_if : (old new : List Sink) (sink : Sink) (end : ℕ) → end ≤ sink.range.to → new ≡ old ++ sink ∷ [] → (s : Sink) → Among new s ↔ (Among old s ⊎ ((sink ≡ s) × (end ≤ s.range.to)))
added_if old new sink end le is s =
    let p = among_push old sink s in
    let P : List Sink → Type 0 = λ xs. Among xs s ↔ (Among old s ⊎ ((sink ≡ s) × (end ≤ s.range.to))) in
    subst P (sym is) (
      λ h. elim (p.0 h) [ inl a ↦ inl a | inr e ↦ inr (e, let Q : Sink → Type 0 = λ z. end ≤ z.range.to in subst Q e le) ],
      λ h. p.1 (elim h [ inl a ↦ inl a | inr b ↦ inr b.0 ]),
    )

-- the ends, one sink more
pub record EndsSoFar (sinks : List Sink) (i last : ℕ) (ends : List ℕ) : Type 0 where
  pub size : length ends ≡ i
  pub top : (k : ℕ) (s : Sink) → k < i → slice_get sinks k ≡ Some s → s.range.to ≤ last
  pub each : (k j : ℕ) (s : Sink) → k ≤ j → j < i → slice_get sinks k ≡ Some s → s.range.to ≤ get_or ends j 0

pub ends_more : (sinks : List Sink) (i : ℕ) (d : Sink) (old new : ℕ) (ends more : List ℕ) → i < length sinks → EndsSoFar sinks i old ends → old ≤ new → (get_or sinks i d).range.to ≤ new → more ≡ ends ++ new ∷ [] → EndsSoFar sinks (i + 1) new more
ends_more sinks i d old new ends more lt far le covers grown = record {
  size = omega (arith, far.size, ap length grown, length-append {A = ℕ});
  top = top;
  each = λ k j s first less got. elim (cases_lt j i) [
    | inl before ↦
        let r : get_or more j 0 ≡ get_or ends j 0 = ap (λ (zs : List ℕ). get_or zs j 0) grown ∙ get_or_append_left ends (new ∷ []) 0 j (omega (arith, before, far.size)) in
        omega (arith, r, far.each k j s first before got)
    | inr there ↦
        let e : j ≡ length ends = omega (arith, there, less, far.size) in
        let r : get_or more j 0 ≡ new = ap (λ (zs : List ℕ). get_or zs j 0) grown ∙ ap (λ n. get_or (ends ++ new ∷ []) n 0) e ∙ get_or-append_seam ends new [] 0 in
        omega (arith, r, top k s (omega (arith, first, less)) got)
  ];
}
  where
    top : (k : ℕ) (s : Sink) → k < i + 1 → slice_get sinks k ≡ Some s → s.range.to ≤ new
    top k s less got = elim (cases_lt k i) [
      | inl before ↦ omega (arith, far.top k s before got, le)
      | inr there ↦
          let e : i ≡ k = omega (arith, there, less) in
          let q : (get_or sinks i d).range.to ≡ s.range.to = ap (λ (z : Sink). z.range.to) (get_or_from_slice_get sinks i s d (ap (slice_get sinks) e ∙ got)) in
          omega (arith, covers, q)
    ]

-- which of the sinks from one place up to another end at that place or behind it
abbrev pub Between : List Sink → ℕ → ℕ → ℕ → Sink → Type 0
Between sinks end from to s = (k : ℕ) × (from ≤ k) × (k < to) × (slice_get sinks k ≡ Some s) × (end ≤ s.range.to)

pub found_more : (sinks : List Sink) (end from at to : ℕ) (x : Sink) (old new : List Sink) → from ≡ at + 1 → at < to → at < length sinks → x ≡ get_or sinks at x → ((s : Sink) → Among old s ↔ Between sinks end from to s)
    → ((s : Sink) → Among new s ↔ (Among old s ⊎ ((x ≡ s) × (end ≤ s.range.to)))) → (s : Sink) → Among new s ↔ Between sinks end at to s
found_more sinks end from at to x old new next lt within is all step s = (
  λ h. elim ((step s).0 h) [
    | inl a ↦ let (k, le, less, got, ends) = (all s).0 a in (k, omega (arith, next, le), less, got, ends)
    | inr (e, ends) ↦ (at, omega arith, lt, slice_get-get_or sinks at x within ∙ ap (λ z. Some z) (sym is ∙ e), ends)
  ],
  λ (k, le, less, got, ends). (step s).1 (elim (at_or k le) [
    | inl e ↦ inr (is ∙ get_or_from_slice_get sinks at s x (ap (slice_get sinks) e ∙ got), ends)
    | inr more ↦ inl ((all s).1 (k, more, less, got, ends))
  ]),
)
  where
    at_or : (k : ℕ) → at ≤ k → (at ≡ k) ⊎ (from ≤ k)
    at_or k le = elim (cases_lt at k) [ inl less ↦ inr (omega (arith, next, less)) | inr ge ↦ inl (omega (arith, le, ge)) ]

-- the sinks that meet the hull are all found, where those before end too early
pub all_found : (sinks : List Sink) (hull : Hull) (at to : ℕ) (found : List Sink) → ((k : ℕ) (s : Sink) → slice_get sinks k ≡ Some s → (k < to) ↔ (s.range.from ≤ hull.last_begin)) → ((s : Sink) → Among found s ↔ Between sinks hull.first_end at to s)
    → ((k : ℕ) (s : Sink) → k < at → slice_get sinks k ≡ Some s → s.range.to < hull.first_end) → (s : Sink) → Among found s ↔ (Among sinks s × Meets hull s.range)
all_found sinks hull at to found parts all none s = (
  λ h. let (k, le, less, got, ends) = (all s).0 h in (got_among sinks k s got, ((parts k s got).0 less, ends)),
  λ (among, (begins, ends)).
      let (k, got) = among_got sinks s among in
      (all s).1 (k, reached k got ends, (parts k s got).1 begins, got, ends),
)
  where
    reached : (k : ℕ) → slice_get sinks k ≡ Some s → hull.first_end ≤ s.range.to → at ≤ k
    reached k got ends = elim (cases_lt k at) [ inl less ↦ absurd (omega (arith, none k s less got, ends)) | inr ge ↦ ge ]
