-- A choice with one member more.
use Rattle.std.proofs.Common.{◌≡◌, ◌⊎◌, ◌≤◌, inl, inr, ℕ, List, [], ◌∷◌, ◌++◌, refl, ◌∙◌, subst, arith}
use Rattle.std.specs.Prelude.{max, min}
use Rattle.node_tree.specs.declared.span.Span.{Span}
use Rattle.meta_bind.specs.declared.bound.Bound.{Bound}
use Rattle.meta_bind.specs.Bounds.{Agree}
use Rattle.meta_bind.specs.Merges.{merged}
use Rattle.node_match.specs.Sets.{Among}
use Rattle.sorted_sets.specs.Sizes.{Each}
use Rattle.member_join.specs.Ranges.{IsShared}
use Rattle.member_join.specs.Choices.{AllAgree, merged_with}
use Rattle.member_join.specs.Joins.{meet}
use Rattle.sorted_sets.proofs.Lasts.{among_front, among_end, each_snoc}

pub merged_snoc : (b : List Bound) (cs : List (List Bound)) (c : List Bound) → merged_with b (cs ++ c ∷ []) ≡ merged (merged_with b cs) c
merged_snoc b [] c = refl
merged_snoc b (d ∷ ds) c = merged_snoc (merged b d) ds c

-- ---- the range that ranges share

pub shared_snoc : (s : Span) (rs : List Span) (r : Span) → IsShared s rs → IsShared (meet s r) (rs ++ r ∷ [])
shared_snoc s rs r h = record {
  begins_late = each_snoc (λ (x : Span). x.from ≤ max s.from r.from) rs r (λ x k. let le = h.begins_late x k in omega arith) (omega arith);
  ends_early = each_snoc (λ (x : Span). min s.to r.to ≤ x.to) rs r (λ x k. let le = h.ends_early x k in omega arith) (omega arith);
  begins = begin (order s.from r.from);
  ends = end (order r.to s.to);
}
  where
    order : (a b : ℕ) → (b ≤ a) ⊎ (a ≤ b)
    order a b = grind arith

    begin : (r.from ≤ s.from) ⊎ (s.from ≤ r.from) → (x : Span) × Among (rs ++ r ∷ []) x × (x.from ≡ max s.from r.from)
    begin (inl le) = (h.begins.0, among_front rs r h.begins.0 h.begins.1, h.begins.2 ∙ omega arith)
    begin (inr le) = (r, among_end rs r, omega arith)

    end : (s.to ≤ r.to) ⊎ (r.to ≤ s.to) → (x : Span) × Among (rs ++ r ∷ []) x × (x.to ≡ min s.to r.to)
    end (inl le) = (h.ends.0, among_front rs r h.ends.0 h.ends.1, h.ends.2 ∙ omega arith)
    end (inr le) = (r, among_end rs r, omega arith)

-- what ranges share is told by them
pub shared_is_one : (s t : Span) (rs : List Span) → IsShared s rs → IsShared t rs → (s.from ≡ t.from) × (s.to ≡ t.to)
shared_is_one s t rs h k =
    let a = h.begins_late k.begins.0 k.begins.1 in
    let b = k.begins_late h.begins.0 h.begins.1 in
    let c = h.ends_early k.ends.0 k.ends.1 in
    let d = k.ends_early h.ends.0 h.ends.1 in
    (omega (arith, h.begins.2, k.begins.2), omega (arith, h.ends.2, k.ends.2))

pub shared_alone : (r : Span) → IsShared r (r ∷ [])
shared_alone r = record {
  begins_late = λ x h. at x h (λ y. y.from ≤ r.from) (omega arith);
  ends_early = λ x h. at x h (λ y. r.to ≤ y.to) (omega arith);
  begins = (r, inl refl, refl);
  ends = (r, inl refl, refl);
}
  where
    at : (x : Span) → Among (r ∷ []) x → (P : Span → Type 0) → P r → P x
    at x (inl e) P p = subst P e p
    at x (inr h) P p = elim h [ ]

-- ---- bindings that agree

pub all_agree_snoc : (bs : List (List Bound)) (c : List Bound) → AllAgree bs → Each (λ b. Agree b c) bs → AllAgree (bs ++ c ∷ [])
all_agree_snoc [] c h k = (λ x g. elim g [ ], tt)
all_agree_snoc (b ∷ bs) c h k = (each_snoc (Agree b) bs c h.0 (k b (inl refl)), all_agree_snoc bs c h.1 (λ x g. k x (inr g)))

pub all_agree_front : (bs : List (List Bound)) (c : List Bound) → AllAgree (bs ++ c ∷ []) → AllAgree bs × Each (λ b. Agree b c) bs
all_agree_front [] c h = (tt, λ x g. elim g [ ])
all_agree_front (b ∷ bs) c h =
    let r = all_agree_front bs c h.1 in
    ((λ x g. h.0 x (among_front bs c x g), r.0), each r.1)
  where
    each : Each (λ x. Agree x c) bs → Each (λ x. Agree x c) (b ∷ bs)
    each rest x (inl e) = let P : List Bound → Type 0 = λ y. Agree y c in subst P e (h.0 c (among_end bs c))
    each rest x (inr g) = rest x g
