-- The steps of the search by a plan.
use Rattle.std.proofs.Common.{◌≡◌, ◌⊎◌, ◌↔◌, inl, inr, ℕ, ◌+◌, ◌<◌, List, [], ◌∷◌, ◌++◌, length, take, get_or, refl, sym, ap, ◌∙◌, subst, arith, Some}
use Rattle.std.specs.Prelude.{Option, slice_get}
use Rattle.std.specs.Global.{Vec}
use Rattle.std.proofs.lemmas.Bool.{cases_eq}
use Rattle.node_tree.specs.declared.span.Span.{Span}
use Rattle.graph_form.specs.Sets.{Among}
use Rattle.graph_form.proofs.Amongs.{among_more, among_push}
use Rattle.flow_reach.specs.Carried.{Pairs}
use Rattle.flow_reach.proofs.Steps.{pair_is}
use Rattle.taint_plan.specs.declared.goal.Goal.{Goal}
use Rattle.taint_flow.specs.Found.{ByFirst, BySource, FromEntry}
use Rattle.taint_flow.specs.Lowest.{Lowers}
use Rattle.taint_flow.proofs.Lowest.{lowers_none, lowers_same, lowers_then}

-- one fact more begins at the entry
pub entry_more : (old new : List (ℕ × ℕ)) (y point fact : ℕ) (fs gs : List ℕ) → new ≡ old ++ (0, y) ∷ [] → Among gs fact ↔ (Among fs fact ⊎ (y ≡ fact)) → Pairs old point fact ↔ FromEntry fs point fact → Pairs new point fact ↔ FromEntry gs point fact
entry_more old new y point fact fs gs is more all =
    let P : List (ℕ × ℕ) → Type 0 = λ xs. Among xs (point, fact) ↔ (Among old (point, fact) ⊎ ◌≡◌ {A = ℕ × ℕ} (0, y) (point, fact)) in
    let step = subst P (sym is) (among_push old (0, y) (point, fact)) in
    let pair = pair_is (0, y) point fact in (
      λ h. elim (step.0 h) [
        | inl o ↦ (let q = all.0 o in (q.0, more.1 (inl q.1)))
        | inr e ↦ (let q = pair.0 e in (sym q.0, more.1 (inr q.1)))
      ],
      λ h. elim (more.0 h.1) [
        | inl a ↦ step.1 (inl (all.1 (h.0, a)))
        | inr e ↦ step.1 (inr (pair.1 (sym h.0, e)))
      ],
    )

-- ---- one goal more

module _ (source : Span) (These : ℕ → ℕ → Type 0) (goals : List Goal) (i : ℕ) (d : Goal) (lt : i < length goals) where
  abbrev now : Goal
  now = get_or goals i d

  pub note_none : (old new : List (Option Span)) → (These now.point now.fact → ⊥) → Lowers (BySource source These (take i goals)) old new → Lowers (BySource source These (take (i + 1) goals)) old new
  note_none old new not low = lowers_same (BySource source These (take i goals)) (BySource source These (take (i + 1) goals)) old new (λ k s. (
    λ (e, (g, among, sink, these)). (e, (g, (among_more goals i d lt g).1 (inl among), sink, these)),
    λ (e, (g, among, sink, these)). elim ((among_more goals i d lt g).0 among) [
      | inl before ↦ (e, (g, before, sink, these))
      | inr q ↦ absurd (not (let P : Goal → Type 0 = λ x. These x.point x.fact in subst P (sym q) these))
    ],
  )) low

  pub note_some : (old mid new : List (Option Span)) → These now.point now.fact → Lowers (BySource source These (take i goals)) old mid → Lowers (λ (k : ℕ) (s : Span). (k ≡ now.sink) × (s ≡ source)) mid new → Lowers (BySource source These (take (i + 1) goals)) old new
  note_some old mid new these low one = lowers_then (BySource source These (take i goals)) (λ (k : ℕ) (s : Span). (k ≡ now.sink) × (s ≡ source)) (BySource source These (take (i + 1) goals)) old mid new (λ k s. (
    λ (e, (g, among, sink, are)). elim ((among_more goals i d lt g).0 among) [
      | inl before ↦ inl (e, (g, before, sink, are))
      | inr q ↦ inr (sym sink ∙ ap (λ (x : Goal). x.sink) (sym q), e)
    ],
    λ h. elim h [
      | inl (e, (g, among, sink, are)) ↦ (e, (g, (among_more goals i d lt g).1 (inl among), sink, are))
      | inr (sink, e) ↦ (e, (now, (among_more goals i d lt now).1 (inr refl), sym sink, these))
    ],
  )) low one

-- ---- one source more

module _ (Finds : List ℕ → ℕ → Type 0) (begins : List (Vec ℕ)) (sources : List Span) where
  pub first_none : (table : List (Option Span)) → Lowers (ByFirst Finds begins sources 0) table table
  first_none table = lowers_none (ByFirst Finds begins sources 0) table (λ sink source (i, lt, at, rest). omega (arith, lt))

  pub first_more : (i : ℕ) (source : Span) (facts : Vec ℕ) (old mid new : List (Option Span)) → slice_get sources i ≡ Some source → slice_get begins i ≡ Some facts → Lowers (ByFirst Finds begins sources i) old mid
      → Lowers (λ (k : ℕ) (s : Span). (s ≡ source) × Finds facts.items k) mid new → Lowers (ByFirst Finds begins sources (i + 1)) old new
  first_more i source facts old mid new at facts_at low one = lowers_then (ByFirst Finds begins sources i) (λ (k : ℕ) (s : Span). (s ≡ source) × Finds facts.items k) (ByFirst Finds begins sources (i + 1)) old mid new (λ k s. (
    λ (j, lt, s_at, (fs, fs_at, found)). elim (cases_eq j i) [
      | inl e ↦ inr (
        (let q : Some s ≡ Some source = sym s_at ∙ ap (slice_get sources) e ∙ at in cc),
        let f : fs ≡ facts = (let q : Some fs ≡ Some facts = sym fs_at ∙ ap (slice_get begins) e ∙ facts_at in cc) in
            let P : Vec ℕ → Type 0 = λ x. Finds x.items k in
            subst P f found,
      )
      | inr ne ↦ inl (j, omega (arith, lt, ne), s_at, (fs, fs_at, found))
    ],
    λ h. elim h [
      | inl (j, lt, s_at, rest) ↦ (j, omega (arith, lt), s_at, rest)
      | inr (e, found) ↦ (i, omega arith, at ∙ ap Some (sym e), (facts, facts_at, found))
    ],
  )) low one
