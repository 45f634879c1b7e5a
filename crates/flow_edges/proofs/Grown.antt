-- Sets of edges that grow, and lists that loops go over.
use Rattle.std.proofs.Common.{◌≡◌, ℕ, zero, suc, ◌+◌, ◌-◌, ◌<◌, ◌≤◌, ◌⊎◌, ◌↔◌, inl, inr, List, [], ◌∷◌, ◌++◌, length, take, drop, get_or, map, Bool, true, false, ◌||◌, append_assoc, sym, ◌∙◌, ap, subst, refl, arith}
use Rattle.std.proofs.lemmas.List.{take_more, drop_all, at_drop_more, append-nil, map-append}
use Rattle.std.proofs.lemmas.List.Concat.{flat_map-cons, flat_map-append}
use Rattle.std.specs.List.{flat_map}
use Rattle.graph_form.specs.declared.graph.Point.{Point}
use Rattle.flow_edges.specs.declared.transfer.Transfer.{Transfer}
use Rattle.flow_edges.specs.declared.own_cases.Cases.{Cases}
use Rattle.flow_edges.specs.declared.around.Around.{Around}
use Rattle.flow_edges.specs.declared.statement.Statement.{Statement}
use Rattle.flow_edges.specs.Flow.{IsEdge, whole_unit, Into, Cross, Route, Tried, tried, pending_out, pending_try, laters, in_body, in_side, hop, part, row_kids, or_else, points, InEach, Inside, Line, kids_of, first, firsts, before, Flow, InRow, head, has_default, is_default, form_of}
use Rattle.graph_form.specs.Sets.{Among}
use Rattle.flow_edges.specs.Tries.{IsFirsts}
use Rattle.flow_edges.specs.declared.first_points.Firsts.{Firsts}
use Rattle.flow_edges.specs.declared.statement.Form.TheVariants as forms
use Rattle.flow_edges.specs.Grows.{Adds, AddsCases}

module _ {X : Type 0} where
  among_app : (xs ys : List X) (x : X) → Among (xs ++ ys) x ↔ (Among xs x ⊎ Among ys x)
  among_app [] ys x = (λ h. inr h, λ h. elim h [ inl a ↦ absurd a | inr b ↦ b ])
  among_app (z ∷ zs) ys x =
      let r = among_app zs ys x in (
        λ h. elim h [ inl e ↦ inl (inl e) | inr t ↦ elim (r.0 t) [ inl a ↦ inl (inr a) | inr b ↦ inr b ] ],
        λ h. elim h [ inl a ↦ elim a [ inl e ↦ inl e | inr t ↦ inr (r.1 (inl t)) ] | inr b ↦ inr (r.1 (inr b)) ],
      )

  pub among_push : (xs : List X) (y x : X) → Among (xs ++ y ∷ []) x ↔ (Among xs x ⊎ (y ≡ x))
  among_push xs y x =
      let r = among_app xs (y ∷ []) x in (
        λ h. elim (r.0 h) [ inl a ↦ inl a | inr b ↦ elim b [ inl e ↦ inr e | inr n ↦ absurd n ] ],
        λ h. elim h [ inl a ↦ r.1 (inl a) | inr e ↦ r.1 (inr (inl e)) ],
      )

  pub among_more : (xs : List X) (i : ℕ) (d : X) → i < length xs → (x : X) → Among (take (i + 1) xs) x ↔ (Among (take i xs) x ⊎ (get_or xs i d ≡ x))
  among_more xs i d lt x =
      let P : List X → Type 0 = λ ys. Among ys x ↔ (Among (take i xs) x ⊎ (get_or xs i d ≡ x)) in
      subst P (sym (take_more xs i d lt)) (among_push (take i xs) (get_or xs i d) x)

-- one set after the other
pub adds_then : (a b c : List Transfer) (P Q : Point → Point → Type 0) → Adds a b P → Adds b c Q → Adds a c (λ x y. P x y ⊎ Q x y)
adds_then a b c P Q f g transfer = (
  λ h. elim ((g transfer).0 h) [ inl x ↦ elim ((f transfer).0 x) [ inl o ↦ inl o | inr p ↦ inr (inl p) ] | inr q ↦ inr (inr q) ],
  λ h. elim h [
    | inl o ↦ (g transfer).1 (inl ((f transfer).1 (inl o)))
    | inr pq ↦ elim pq [ inl p ↦ (g transfer).1 (inl ((f transfer).1 (inr p))) | inr q ↦ (g transfer).1 (inr q) ]
  ],
)

pub adds_as : (a b : List Transfer) (P Q : Point → Point → Type 0) → Adds a b P → ((x y : Point) → P x y ↔ Q x y) → Adds a b Q
adds_as a b P Q f same transfer = (
  λ h. elim ((f transfer).0 h) [ inl o ↦ inl o | inr p ↦ inr ((same transfer.from transfer.to).0 p) ],
  λ h. elim h [ inl o ↦ (f transfer).1 (inl o) | inr q ↦ (f transfer).1 (inr ((same transfer.from transfer.to).1 q)) ],
)

pub adds_none : (a : List Transfer) → Adds a a (λ x y. ⊥)
adds_none a transfer = (λ h. inl h, λ h. elim h [ inl o ↦ o | inr n ↦ absurd n ])

-- one edge more
pub into_more : (from to : Point) (old mid new : List Transfer) (xs ys : List Point) → Adds old mid (Into from xs) → new ≡ mid ++ record { from = from; to = to } ∷ [] → ((x : Point) → Among ys x ↔ (Among xs x ⊎ (to ≡ x))) → Adds old new (Into from ys)
into_more from to old mid new xs ys all e split transfer =
    let one : Transfer = record { from = from; to = to } in
    let P : List Transfer → Type 0 = λ ws. Among ws transfer ↔ (Among mid transfer ⊎ (one ≡ transfer)) in
    let statement = subst P (sym e) (among_push mid one transfer) in (
      λ h. elim (statement.0 h) [
        | inl m ↦ elim ((all transfer).0 m) [ inl o ↦ inl o | inr i ↦ inr (i.0, (split transfer.to).1 (inl i.1)) ]
        | inr q ↦ inr (sym (ap (λ w. w.from) q), (split transfer.to).1 (inr (ap (λ w. w.to) q)))
      ],
      λ h. elim h [
        | inl o ↦ statement.1 (inl ((all transfer).1 (inl o)))
        | inr i ↦ elim ((split transfer.to).0 i.1) [
          | inl a ↦ statement.1 (inl ((all transfer).1 (inr (i.0, a))))
          | inr q ↦ statement.1 (inr (λ j. record { from = sym i.0 j; to = q j }))
        ]
      ],
    )

-- the part of a list
pub one_more : (k : ℕ) → k + 1 - k ≡ 1
one_more k = omega arith

pub no_part : {X : Type 0} (xs : List X) (k : ℕ) → length xs ≤ k → take (length xs - length xs) (drop (length xs) xs) ≡ take 1 (drop k xs)
no_part xs k le =
    let n = length xs in
    let same : n ≤ n = omega arith in
    let none : n - n ≡ 0 = omega arith in
    ap (λ m. take m (drop n xs)) none ∙ sym (ap (take 1) (drop_all k xs le))

pub drop_read : {X : Type 0} (xs : List X) (i j : ℕ) (x : X) → i < length xs → i + 1 ≡ j → x ≡ get_or xs i x → drop i xs ≡ x ∷ drop j xs
drop_read xs i j x lt next read = at_drop_more (λ ys. ys) xs i x lt ∙ ap (λ k. get_or xs i x ∷ drop k xs) next ∙ ap (λ y. y ∷ drop j xs) (sym read)

-- one statement more, before the others
pub row_more : (d : ℕ) (c inner : Around) (next : List Point) (s : Statement) (rest whole : List Statement) (old mid new : List Transfer) → whole ≡ s ∷ rest → next ≡ firsts (first d) rest c.next → inner ≡ before next c → Adds old mid (InRow (Flow d) (first d) c rest) → Adds mid new (Flow d inner s) → Adds old new (InRow (Flow d) (first d) c whole)
row_more d c inner next s rest whole old mid new whole_is next_is inner_is f g =
    let F = first d in
    let A : Around → Type 0 = λ x. Adds mid new (Flow d x s) in
    let g' = subst A (inner_is ∙ ap (λ n. before n c) next_is) g in
    let W : List Statement → Type 0 = λ ss. Adds old new (InRow (Flow d) F c ss) in
    subst W (sym whole_is) (adds_as old new _ (InRow (Flow d) F c (s ∷ rest)) (adds_then old mid new _ _ f g') (λ x y. (
      λ h. elim h [ inl r ↦ inr r | inr o ↦ inl o ],
      λ h. elim h [ inl o ↦ inr o | inr r ↦ inl r ],
    )))

default_append : (xs ys : List Statement) → has_default (xs ++ ys) ≡ (has_default xs || has_default ys)
default_append [] ys = refl
default_append (x ∷ xs) ys = ap (λ b. is_default (form_of x) || b) (default_append xs ys) ∙ or_assoc (is_default (form_of x)) (has_default xs) (has_default ys)
  where
    or_assoc : (a b c : Bool) → (a || (b || c)) ≡ ((a || b) || c)
    or_assoc true b c = refl
    or_assoc false b c = refl

-- the cases of one statement more
pub cases_more : (K : Statement → List Statement) (statements : List Statement) (i : ℕ) (s : Statement) (old mid new : Cases) → i < length statements → s ≡ get_or statements i s → AddsCases old mid (flat_map K (take i statements)) → AddsCases mid new (K s) → AddsCases old new (flat_map K (take (i + 1) statements))
cases_more K statements i s old mid new lt read f g =
    let whole : flat_map K (take (i + 1) statements) ≡ flat_map K (take i statements) ++ K s =
    ap (flat_map K) (take_more statements i s lt ∙ ap (λ x. take i statements ++ x ∷ []) (sym read)) ∙ flat_map-append K (take i statements) (s ∷ []) ∙ ap (λ xs. flat_map K (take i statements) ++ xs) (flat_map-cons K s [] ∙ append-nil (K s)) in
    let P : List Statement → Type 0 = λ xs. AddsCases old new xs in
    subst P (sym whole) (record {
      heads = g.heads ∙ ap (λ h. h ++ map head (K s)) f.heads ∙ append_assoc old.heads (map head (flat_map K (take i statements))) (map head (K s)) ∙ ap (λ h. old.heads ++ h) (sym (map-append head (flat_map K (take i statements)) (K s)));
      default = g.default ∙ ap (λ d. d || has_default (K s)) f.default ∙ or_back old.default (has_default (flat_map K (take i statements))) (has_default (K s)) ∙ ap (λ d. old.default || d) (sym (default_append (flat_map K (take i statements)) (K s)));
    })
  where
    or_back : (a b c : Bool) → ((a || b) || c) ≡ (a || (b || c))
    or_back true b c = refl
    or_back false b c = refl

-- the edges from one point more
pub cross_more : (p : Point) (xs ys targets : List Point) (old mid new : List Transfer) → Adds old mid (Cross xs targets) → Adds mid new (Into p targets) → ((x : Point) → Among ys x ↔ (Among xs x ⊎ (p ≡ x))) → Adds old new (Cross ys targets)
cross_more p xs ys targets old mid new f g split =
    adds_as old new _ (Cross ys targets) (adds_then old mid new _ _ f g) (λ a b. (
      λ h. elim h [
        | inl x ↦ ((split a).1 (inl x.0), x.1)
        | inr i ↦ ((split a).1 (inr (sym i.0)), i.1)
      ],
      λ h. elim ((split a).0 h.0) [ inl x ↦ inl (x, h.1) | inr q ↦ inr (sym q, h.1) ],
    ))

-- a finally part that is there
pub out_some : (P : Around → List Statement → List Route) (c : Around) (t : Tried) (inner : List Route) (final : List Point) → (final ≡ [] → ⊥) → pending_out P c t inner final ≡ laters inner ++ P c t.last
out_some P c t inner [] some = absurd (some refl)
out_some P c t inner (x ∷ xs) some = refl

pub six : (a b c d e f g : List Transfer) (P1 P2 P3 P4 P5 P6 : Point → Point → Type 0) → Adds a b P1 → Adds b c P2 → Adds c d P3 → Adds d e P4 → Adds e f P5 → Adds f g P6 → Adds a g (λ x y. P1 x y ⊎ (P2 x y ⊎ P3 x y ⊎ P4 x y ⊎ P5 x y ⊎ P6 x y))
six a b c d e f g P1 P2 P3 P4 P5 P6 a1 a2 a3 a4 a5 a6 =
    adds_then a b g P1 _ a1 (adds_then b c g P2 _ a2 (adds_then c d g P3 _ a3 (adds_then d e g P4 _ a4 (adds_then e f g P5 P6 a5 a6))))

-- the edges of a Try
pub try_adds : (d : ℕ) (c : Around) (s : Statement) (f : Firsts) (body side last : Around) (start : List Point) (inside : List Route) (o0 o1 o2 o3 o4 o5 o6 : List Transfer) →
    IsFirsts (tried (firsts (first d)) c (kids_of s)) f →
    body ≡ in_body c f.final_part f.heads f.after_body →
    side ≡ in_side c f.final_part f.after →
    last ≡ before (c.next ++ flat_map hop inside) c →
    start ≡ firsts (first d) (part 0 (kids_of s)) f.after_body →
    inside ≡ Inside d c (tried (firsts (first d)) c (kids_of s)) →
    Adds o0 o1 (Into (head s) start) →
    Adds o1 o2 (InRow (Flow d) (first d) body (part 0 (kids_of s))) →
    Adds o2 o3 (InEach (Flow d) side (row_kids (part 1 (kids_of s)))) →
    Adds o3 o4 (InRow (Flow d) (first d) side (part 2 (kids_of s))) →
    Adds o4 o5 (Cross (flat_map (points d) (part 0 (kids_of s))) (or_else f.heads f.final_part)) →
    Adds o5 o6 (InRow (Flow d) (first d) last (part 3 (kids_of s))) →
    Adds o0 o6 (Line d c s forms.Try)
try_adds d c s f body side last start inside o0 o1 o2 o3 o4 o5 o6 is body_is side_is last_is start_is inside_is a1 a2 a3 a4 a5 a6 =
    let F = first d in
    let t = tried (firsts F) c (kids_of s) in
    let kids = kids_of s in
    let body_t : body ≡ in_body c t.final t.heads t.after_body = body_is ∙ ap (λ x. in_body c x f.heads f.after_body) is.final ∙ ap (λ x. in_body c t.final x f.after_body) is.heads ∙ ap (λ x. in_body c t.final t.heads x) is.after_body in
    let side_t : side ≡ in_side c t.final t.after = side_is ∙ ap (λ x. in_side c x f.after) is.final ∙ ap (λ x. in_side c t.final x) is.after in
    let last_t : last ≡ before (c.next ++ flat_map hop (Inside d c t)) c = last_is ∙ ap (λ x. before (c.next ++ flat_map hop x) c) inside_is in
    let start_t : start ≡ firsts F (part 0 kids) t.after_body = start_is ∙ ap (firsts F (part 0 kids)) is.after_body in
    let escape_t : or_else f.heads f.final_part ≡ or_else t.heads t.final = ap (λ x. or_else x f.final_part) is.heads ∙ ap (or_else t.heads) is.final in
    let P1 : List Point → Type 0 = λ x. Adds o0 o1 (Into (head s) x) in
    let P2 : Around → Type 0 = λ x. Adds o1 o2 (InRow (Flow d) F x (part 0 kids)) in
    let P3 : Around → Type 0 = λ x. Adds o2 o3 (InEach (Flow d) x (row_kids (part 1 kids))) in
    let P4 : Around → Type 0 = λ x. Adds o3 o4 (InRow (Flow d) F x (part 2 kids)) in
    let P5 : List Point → Type 0 = λ x. Adds o4 o5 (Cross (flat_map (points d) (part 0 kids)) x) in
    let P6 : Around → Type 0 = λ x. Adds o5 o6 (InRow (Flow d) F x (part 3 kids)) in
    six o0 o1 o2 o3 o4 o5 o6 _ _ _ _ _ _ (subst P1 start_t a1) (subst P2 body_t a2) (subst P3 side_t a3) (subst P4 side_t a4) (subst P5 escape_t a5) (subst P6 last_t a6)

pub pended : (P : Around → List Statement → List Route) (c : Around) (t : Tried) (final : List Point) (r0 r1 r2 inside : List Route) → (final ≡ [] → ⊥) → final ≡ t.final → inside ≡ pending_try P c t → r1 ≡ r0 ++ laters inside → r2 ≡ r1 ++ P c t.last → r2 ≡ r0 ++ pending_out P c t (pending_try P c t) t.final
pended P c t final r0 r1 r2 inside some final_is inside_is first second =
    let none : t.final ≡ [] → ⊥ = λ e. some (final_is ∙ e) in
    second ∙ ap (λ r. r ++ P c t.last) (first ∙ ap (λ r. r0 ++ laters r) inside_is) ∙ append_assoc r0 (laters (pending_try P c t)) (P c t.last)
    ∙ ap (λ r. r0 ++ r) (sym (out_some P c t (pending_try P c t) t.final none))

pub from_none : (new old add : List Route) → old ≡ [] → new ≡ old ++ add → new ≡ add
from_none new old add none e = e ∙ ap (λ (r : List Route). r ++ add) none

pub of_slice : (r1 r0 s inside : List Route) → s ≡ inside → r1 ≡ r0 ++ laters s → r1 ≡ r0 ++ laters inside
of_slice r1 r0 s inside same e = e ∙ ap (λ (r : List Route). r0 ++ laters r) same

pub unit_transfers : (d : ℕ) (entry exit : Point) (body : List Statement) (c : Around) (o0 o1 o2 : List Transfer) → o0 ≡ [] → c ≡ whole_unit exit → Adds o0 o1 (Into entry (firsts (first d) body c.next)) → Adds o1 o2 (InRow (Flow d) (first d) c body) → (transfer : Transfer) → Among o2 transfer ↔ IsEdge d entry exit body transfer.from transfer.to
unit_transfers d entry exit body c o0 o1 o2 none whole a1 a2 transfer =
    let P1 : Around → Type 0 = λ x. Adds o0 o1 (Into entry (firsts (first d) body x.next)) in
    let P2 : Around → Type 0 = λ x. Adds o1 o2 (InRow (Flow d) (first d) x body) in
    let all = adds_then o0 o1 o2 _ _ (subst P1 whole a1) (subst P2 whole a2) in
    let N : List Transfer → Type 0 = λ ws. Among ws transfer in (
      λ h. elim ((all transfer).0 h) [ inl o ↦ absurd (subst N none o) | inr e ↦ e ],
      λ e. (all transfer).1 (inr e),
    )
