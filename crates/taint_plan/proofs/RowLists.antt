-- What the assignments of a point do to facts, one after the other.
use Rattle.std.proofs.Common.{◌≡◌, ◌⊎◌, ◌↔◌, inl, inr, ℕ, ◌+◌, ◌<◌, Bool, true, false, List, [], ◌∷◌, ◌++◌, length, take, get_or, sym, ap, subst, refl, ◌∙◌}
use Rattle.std.specs.Prelude.{IsTrue, ◌&&◌}
use Rattle.std.proofs.lemmas.List.{take_more, map-append}
use Rattle.node_tree.specs.declared.span.Span.{Span}
use Rattle.graph_form.specs.Sets.{Among}
use Rattle.graph_form.proofs.Amongs.{among_push}
use Rattle.assignments.specs.declared.assignment.Assignment.{Assignment}
use Rattle.assignments.specs.declared.assignment.Target.{Target}
use Rattle.assignments.specs.declared.assignment.Manner.{Manner}
use Rattle.assignments.specs.Seen.{Named, Assigned, seen_target, all_targets, seen_assignment, all_assignments}
use Rattle.taint_form.specs.declared.origins.Aim.{Aim}
use Rattle.taint_form.specs.Origins.{AfterOne, ComesAny}
use Rattle.taint_tables.specs.Numbers.{Numbering}
use Rattle.taint_tables.specs.Taints.{IsFactOf}
use Rattle.taint_plan.specs.Facts.{TaintsValue, AfterFact, AfterFacts}
use Rattle.taint_plan.specs.RowFacts.{AreAims, IsAimOf}
use Rattle.taint_plan.specs.Spreading.{renews, is_plain}

-- ---- aims

pub aim_pushed : (numbers : Numbering) (manner : Manner) (t : Named) (old new : List Aim) (fact : ℕ) (renewed : Bool) → ((other : ℕ) → IsFactOf numbers t.name other ↔ (fact ≡ other)) → renewed ≡ (renews manner && is_plain t.reach)
    → new ≡ old ++ record { fact = fact; renewed = renewed } ∷ [] → (aim : Aim) → Among new aim ↔ (Among old aim ⊎ IsAimOf numbers manner t aim)
aim_pushed numbers manner t old new fact renewed only is added aim =
    let one : Aim = record { fact = fact; renewed = renewed } in
    let p = among_push old one aim in
    let P : List Aim → Type 0 = λ xs. Among xs aim ↔ (Among old aim ⊎ IsAimOf numbers manner t aim) in
    subst P (sym added) (
      λ h. elim (p.0 h) [
        | inl o ↦ inl o
        | inr e ↦ inr ((only aim.fact).1 (ap (λ (z : Aim). z.fact) e), sym (ap (λ (z : Aim). z.renewed) e) ∙ is)
      ],
      λ h. p.1 (elim h [
        | inl o ↦ inl o
        | inr (f, r) ↦ inr (let q = (only aim.fact).0 f in let s : renewed ≡ aim.renewed = is ∙ sym r in λ i. record { fact = q i; renewed = s i })
      ]),
    )

pub aim_none : (numbers : Numbering) (manner : Manner) (t : Named) (old : List Aim) → ((f : ℕ) → IsFactOf numbers t.name f → ⊥) → (aim : Aim) → Among old aim ↔ (Among old aim ⊎ IsAimOf numbers manner t aim)
aim_none numbers manner t old none aim = (λ h. inl h, λ h. elim h [ inl o ↦ o | inr (f, r) ↦ absurd (none aim.fact f) ])

-- the aims of targets
abbrev pub AimsOf : Numbering → Manner → List Named → List Aim → Type 0
AimsOf numbers manner ts aims = (aim : Aim) → Among aims aim ↔ ((t : Named) × Among ts t × IsAimOf numbers manner t aim)

pub aims_more : (numbers : Numbering) (manner : Manner) (xs ys : List Named) (y : Named) (mid new : List Aim) → ((t : Named) → Among ys t ↔ (Among xs t ⊎ (y ≡ t))) → AimsOf numbers manner xs mid
    → ((aim : Aim) → Among new aim ↔ (Among mid aim ⊎ IsAimOf numbers manner y aim)) → AimsOf numbers manner ys new
aims_more numbers manner xs ys y mid new split all step aim = (
  λ h. elim ((step aim).0 h) [
    | inl m ↦ let r = (all aim).0 m in (r.0, (split r.0).1 (inl r.1), r.2)
    | inr is ↦ (y, (split y).1 (inr refl), is)
  ],
  λ (t, among, is). (step aim).1 (elim ((split t).0 among) [
    | inl a ↦ inl ((all aim).1 (t, a, is))
    | inr e ↦ inr (let P : Named → Type 0 = λ z. IsAimOf numbers manner z aim in subst P (sym e) is)
  ]),
)

pub target_more : (xs : List Target) (i : ℕ) (x : Target) → i < length xs → x ≡ get_or xs i x → (t : Named) → Among (all_targets (take (i + 1) xs)) t ↔ (Among (all_targets (take i xs)) t ⊎ (seen_target x ≡ t))
target_more xs i x lt is t =
    let one : all_targets (take (i + 1) xs) ≡ all_targets (take i xs) ++ seen_target x ∷ [] =
    ap all_targets (take_more xs i x lt ∙ ap (λ y. take i xs ++ y ∷ []) (sym is)) ∙ map-append seen_target (take i xs) (x ∷ []) in
    let P : List Named → Type 0 = λ ns. Among ns t ↔ (Among (all_targets (take i xs)) t ⊎ (seen_target x ≡ t)) in
    subst P (sym one) (among_push (all_targets (take i xs)) (seen_target x) t)

pub both_of : (a b : Bool) → IsTrue (a && b) → IsTrue a × IsTrue b
both_of true true h = (refl, refl)
both_of true false h = absurd cc
both_of false b h = absurd cc

of_both : (a b : Bool) → IsTrue a → IsTrue b → IsTrue (a && b)
of_both true true h k = refl
of_both true false h k = absurd cc
of_both false b h k = absurd cc

pub are_aims : (numbers : Numbering) (a : Assigned) (aims : List Aim) → AimsOf numbers a.manner a.targets aims → AreAims numbers a aims
are_aims numbers a aims all = record {
  aimed = λ fact. (
    λ (aim, among, e). (let r = (all aim).0 among in let P : ℕ → Type 0 = λ z. IsFactOf numbers r.0.name z in (r.0, r.1, subst P e r.2.0)),
    λ (t, among, f). (let aim : Aim = record { fact = fact; renewed = renews a.manner && is_plain t.reach } in (aim, (all aim).1 (t, among, (f, refl)), refl)),
  );
  renewed = λ fact. (
    λ (aim, among, e, on). (
        let r = (all aim).0 among in
        let P : ℕ → Type 0 = λ z. IsFactOf numbers r.0.name z in
        let b = both_of (renews a.manner) (is_plain r.0.reach) (sym r.2.1 ∙ on) in
        (b.0, r.0, r.1, subst P e r.2.0, b.1)
        ),
    λ (on, t, among, f, plain). (
        let aim : Aim = record { fact = fact; renewed = renews a.manner && is_plain t.reach } in
        (aim, (all aim).1 (t, among, (f, refl)), refl, of_both (renews a.manner) (is_plain t.reach) on plain)
        ),
  );
}

-- ---- one assignment

pub after_fact : (spans : List Span) (numbers : Numbering) (a : Assigned) (Before After : ℕ → ℕ → Type 0) (facts : List ℕ) (aims : List Aim) → ((f : ℕ) → Among facts f ↔ TaintsValue spans numbers a.value f) → AreAims numbers a aims
    → ((from to : ℕ) → After from to ↔ AfterOne (ComesAny Before facts) Before aims from to) → (from to : ℕ) → After from to ↔ AfterFact spans numbers Before a from to
after_fact spans numbers a Before After facts aims values are all from to = (
  λ h. elim ((all from to).0 h) [
    | inl (aim, (f, among, b)) ↦ inl ((are.aimed to).0 aim, (f, (values f).0 among, b))
    | inr (b, unrenewed) ↦ inr (b, λ r. unrenewed ((are.renewed to).1 r))
  ],
  λ h. (all from to).1 (elim h [
    | inl (t, (f, taints, b)) ↦ inl ((are.aimed to).1 t, (f, (values f).1 taints, b))
    | inr (b, unrenewed) ↦ inr (b, λ r. unrenewed ((are.renewed to).0 r))
  ]),
)

-- ---- assignments, one more at the end

after_as : (spans : List Span) (numbers : Numbering) (a : Assigned) (R S : ℕ → ℕ → Type 0) → ((from to : ℕ) → R from to ↔ S from to) → (from to : ℕ) → AfterFact spans numbers R a from to ↔ AfterFact spans numbers S a from to
after_as spans numbers a R S same from to = (
  λ h. elim h [ inl (t, (f, v, b)) ↦ inl (t, (f, v, (same from f).0 b)) | inr (b, u) ↦ inr ((same from to).0 b, u) ],
  λ h. elim h [ inl (t, (f, v, b)) ↦ inl (t, (f, v, (same from f).1 b)) | inr (b, u) ↦ inr ((same from to).1 b, u) ],
)

after_push : (spans : List Span) (numbers : Numbering) (R : ℕ → ℕ → Type 0) (xs : List Assigned) (a : Assigned) (from to : ℕ) → AfterFacts spans numbers R (xs ++ a ∷ []) from to ↔ AfterFact spans numbers (AfterFacts spans numbers R xs) a from to
after_push spans numbers R [] a from to = (λ h. h, λ h. h)
after_push spans numbers R (x ∷ xs) a from to = after_push spans numbers (AfterFact spans numbers R x) xs a from to

pub after_more : (spans : List Span) (numbers : Numbering) (R Mid New : ℕ → ℕ → Type 0) (given : List Assignment) (i : ℕ) (x : Assignment) → i < length given → x ≡ get_or given i x → ((from to : ℕ) → Mid from to ↔ AfterFacts spans numbers R (all_assignments (take i given)) from to)
    → ((from to : ℕ) → New from to ↔ AfterFact spans numbers Mid (seen_assignment x) from to) → (from to : ℕ) → New from to ↔ AfterFacts spans numbers R (all_assignments (take (i + 1) given)) from to
after_more spans numbers R Mid New given i x lt is mid step from to =
    let one : all_assignments (take (i + 1) given) ≡ all_assignments (take i given) ++ seen_assignment x ∷ [] =
    ap all_assignments (take_more given i x lt ∙ ap (λ y. take i given ++ y ∷ []) (sym is)) ∙ map-append seen_assignment (take i given) (x ∷ []) in
    let a = after_as spans numbers (seen_assignment x) Mid (AfterFacts spans numbers R (all_assignments (take i given))) mid from to in
    let p = after_push spans numbers R (all_assignments (take i given)) (seen_assignment x) from to in
    let P : List Assigned → Type 0 = λ xs. New from to ↔ AfterFacts spans numbers R xs from to in
    subst P (sym one) (λ h. p.1 (a.0 ((step from to).0 h)), λ h. (step from to).1 (a.1 (p.0 h)))

pub read_more : (xs : List Target) (i : ℕ) (d : Target) → i < length xs → (t : Named) → Among (all_targets (take (i + 1) xs)) t ↔ (Among (all_targets (take i xs)) t ⊎ (seen_target (get_or xs i d) ≡ t))
read_more xs i d lt t =
    let one : all_targets (take (i + 1) xs) ≡ all_targets (take i xs) ++ seen_target (get_or xs i d) ∷ [] =
    ap all_targets (take_more xs i d lt) ∙ map-append seen_target (take i xs) (get_or xs i d ∷ []) in
    let P : List Named → Type 0 = λ ns. Among ns t ↔ (Among (all_targets (take i xs)) t ⊎ (seen_target (get_or xs i d) ≡ t)) in
    subst P (sym one) (among_push (all_targets (take i xs)) (seen_target (get_or xs i d)) t)
