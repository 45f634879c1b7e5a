-- One operand more to a choice, and back.
use Rattle.std.proofs.Common.{◌≡◌, ◌⊎◌, ◌↔◌, ◌≤◌, inl, inr, ℕ, List, [], ◌∷◌, ◌++◌, map, refl, sym, ap, ◌∙◌, subst, Bool, true, false, arith}
use Rattle.std.specs.Prelude.{None, Some, IsTrue, max, min, ◌&&◌, ◌||◌}
use Rattle.std.proofs.lemmas.Bool.{eqb-true, eq-eqb}
use Rattle.std.proofs.lemmas.List.{append-nil, append_assoc, map-append}
use Rattle.node_tree.specs.declared.span.Span.{Span}
use Rattle.meta_bind.specs.declared.bound.Bound.{Bound}
use Rattle.meta_bind.specs.declared.join.Keep.TheVariants.{Later}
use Rattle.meta_bind.specs.Bounds.{NamesAscend, Agree}
use Rattle.meta_bind.specs.Merges.{merged}
use Rattle.meta_bind.proofs.Joins.{ascends_joined}
use Rattle.node_match.specs.Sets.{Among}
use Rattle.tree_match.specs.Members.{Member}
use Rattle.member_join.specs.declared.state.State.{State}
use Rattle.member_join.specs.declared.operand.Role.{Role}
use Rattle.member_join.specs.declared.operand.Role.TheVariants.{Plain, Inside}
use Rattle.sorted_sets.specs.Sizes.{Each}
use Rattle.member_join.specs.Ranges.{IsShared}
use Rattle.member_join.specs.Agreements.{AgreesWith}
use Rattle.member_join.specs.Choices.{Chosen, NoneOf, IsChoice, AllAgree, merged_with, merged_all, range_of, binding_of}
use Rattle.member_join.specs.Joins.{meet, same_range, joined, begun}
use Rattle.member_join.specs.Operands.{Ascends}
use Rattle.sorted_sets.proofs.Lasts.{among_front, among_end, among_snoc}
use Rattle.member_join.proofs.Steps.{merged_snoc, shared_snoc, shared_is_one, shared_alone, all_agree_snoc, all_agree_front}
use Rattle.member_join.proofs.Merged.{agree_joined, agree_left, agree_right}
use Rattle.member_join.proofs.Names.{bindings_ascend, AllAscend}

-- ---- what agrees with all bindings agrees with them made one

pub each_cons : {X : Type 0} (P : X → Type 0) (y : X) (ys : List X) → P y → Each P ys → Each P (y ∷ ys)
each_cons P y ys p all x (inl e) = subst P e p
each_cons P y ys p all x (inr k) = all x k

each_append : {X : Type 0} (P : X → Type 0) (xs ys : List X) → Each P xs → Each P ys → Each P (xs ++ ys)
each_append P [] ys h k = k
each_append P (x ∷ xs) ys h k = each_cons P x (xs ++ ys) (h x (inl refl)) (each_append P xs ys (λ y g. h y (inr g)) k)

pub among_left : {X : Type 0} (xs ys : List X) (x : X) → Among xs x → Among (xs ++ ys) x
among_left [] ys x h = elim h [ ]
among_left (z ∷ zs) ys x (inl e) = inl e
among_left (z ∷ zs) ys x (inr h) = inr (among_left zs ys x h)

among_right : {X : Type 0} (xs ys : List X) (x : X) → Among ys x → Among (xs ++ ys) x
among_right [] ys x h = h
among_right (z ∷ zs) ys x h = inr (among_right zs ys x h)

agree_all : (a : List Bound) (cs : List (List Bound)) (d : List Bound) → NamesAscend a → Each NamesAscend cs → NamesAscend d → Each (Agree a) cs → AllAgree cs
    → Agree (merged_with a cs) d ↔ (Agree a d × Each (λ b. Agree b d) cs)
agree_all a [] d ua uc ud e all = (λ h. (h, λ x k. elim k [ ]), λ h. h.0)
agree_all a (c ∷ cs) d ua uc ud e all =
    let up = uc c (inl refl) in
    let both = e c (inl refl) in
    let us = ascends_joined Later a c ua up in
    let ih = agree_all (merged a c) cs d us (λ x k. uc x (inr k)) ud (λ x k. agree_joined Later a c x ua up (uc x (inr k)) (e x (inr k)) (all.0 x k)) all.1 in (
      λ h. let r = ih.0 h in (agree_left Later a c d ua up ud us both r.0, each_cons (λ b. Agree b d) c cs (agree_right Later a c d ua up ud us both r.0) r.1),
      λ h. ih.1 (agree_joined Later a c d ua up ud h.0 (h.1 c (inl refl)), λ x k. h.1 x (inr k)),
    )

agree_nothing : (d : List Bound) → Agree [] d
agree_nothing d name b c e f = let h : None ≡ Some b = e in absurd cc

agree_merged : (cs : List (List Bound)) (d : List Bound) → Each NamesAscend cs → NamesAscend d → AllAgree cs → Agree (merged_all cs) d ↔ Each (λ b. Agree b d) cs
agree_merged cs d uc ud all =
    let r = agree_all [] cs d tt uc ud (λ x k. agree_nothing x) all in
    (λ h. (r.0 h).1, λ h. r.1 (agree_nothing d, h))

all_left : (bs cs : List (List Bound)) → AllAgree (bs ++ cs) → AllAgree bs
all_left [] cs h = tt
all_left (b ∷ bs) cs h = (λ x k. h.0 x (among_left bs cs x k), all_left bs cs h.1)

all_right : (bs cs : List (List Bound)) → AllAgree (bs ++ cs) → AllAgree cs
all_right [] cs h = h
all_right (b ∷ bs) cs h = all_right bs cs h.1

agree_with : (bs cs : List (List Bound)) (d : List Bound) → Each NamesAscend bs → Each NamesAscend cs → NamesAscend d → AllAgree (bs ++ cs)
    → AgreesWith (merged_all bs) (merged_all cs) d ↔ Each (λ b. Agree b d) (bs ++ cs)
agree_with bs cs d ub uc ud all =
    let first = agree_merged bs d ub ud (all_left bs cs all) in
    let second = agree_merged cs d uc ud (all_right bs cs all) in
    (λ h. each_append (λ b. Agree b d) bs cs (first.0 h.0) (second.0 h.1), λ h. (first.1 (λ x k. h x (among_left bs cs x k)), second.1 (λ x k. h x (among_right bs cs x k))))

-- ---- marks

pub span_is : (a b : Span) → a.from ≡ b.from → a.to ≡ b.to → a ≡ b
span_is a b e f =
    let g : ℕ → Span = λ x. record { from = x; to = a.to } in
    let h : ℕ → Span = λ x. record { from = b.from; to = x } in
    ap g e ∙ ap h f

pub and_both : (a b : Bool) → (a && b ≡ true) → (a ≡ true) × (b ≡ true)
and_both true true e = (refl, refl)
and_both true false e = absurd cc
and_both false b e = absurd cc

both_and : (a b : Bool) → a ≡ true → b ≡ true → (a && b ≡ true)
both_and a b e f = ap (λ x. x && b) e ∙ f

pub or_one : (a b : Bool) → (a || b ≡ true) → (a ≡ true) ⊎ (b ≡ true)
or_one true b e = inl refl
or_one false b e = inr e

first_or : (a b : Bool) → a ≡ true → (a || b ≡ true)
first_or a b e = ap (λ x. x || b) e

second_or : (a b : Bool) → b ≡ true → (a || b ≡ true)
second_or true b e = refl
second_or false b e = e

pub same_range_is : (a b : Span) → same_range a b ≡ true → a ≡ b
same_range_is a b e =
    let r = and_both _ _ e in
    span_is a b (eqb-true a.from b.from r.0) (eqb-true a.to b.to r.1)

pub is_same_range : (a b : Span) → a ≡ b → same_range a b ≡ true
is_same_range a b e = both_and _ _ (eq-eqb a.from b.from (ap (λ (x : Span). x.from) e)) (eq-eqb a.to b.to (ap (λ (x : Span). x.to) e))

bool_is : (a b : Bool) → (a ≡ true → b ≡ true) → (b ≡ true → a ≡ true) → a ≡ b
bool_is true b f g = sym (f refl)
bool_is false true f g = g refl
bool_is false false f g = refl

-- a chosen range that is the whole intersection is that of those before
meet_stays : (all : List Span) (r m : Span) → IsShared r all → Among all (meet r m) → meet r m ≡ r
meet_stays all r m h k =
    let a = h.begins_late (meet r m) k in
    let b = h.ends_early (meet r m) k in
    span_is (meet r m) r (omega arith) (omega arith)

abbrev is_among : List Span → Span → Bool
is_among [] r = false
is_among (x ∷ xs) r = same_range x r || is_among xs r

among_is : (xs : List Span) (r : Span) → IsTrue (is_among xs r) ↔ Among xs r
among_is [] r = (λ h. absurd cc, λ h. elim h [ ])
among_is (x ∷ xs) r =
    let ih = among_is xs r in (
      λ e. elim (or_one _ _ e) [ inl f ↦ inl (same_range_is x r f) | inr f ↦ inr (ih.0 f) ],
      λ h. elim h [ inl e ↦ first_or _ _ (is_same_range x r e) | inr k ↦ second_or _ _ (ih.1 k) ],
    )

-- ---- the range that ranges share is there

shared_first : (a : Span) (rs : List Span) (s : Span) → IsShared s rs → IsShared (meet s a) (a ∷ rs)
shared_first a rs s h = record {
  begins_late = each_cons (λ (x : Span). x.from ≤ max s.from a.from) a rs (omega arith) (λ x k. let le = h.begins_late x k in omega arith);
  ends_early = each_cons (λ (x : Span). min s.to a.to ≤ x.to) a rs (omega arith) (λ x k. let le = h.ends_early x k in omega arith);
  begins = begin (order s.from a.from);
  ends = end (order a.to s.to);
}
  where
    order : (x y : ℕ) → (y ≤ x) ⊎ (x ≤ y)
    order x y = grind arith

    begin : (a.from ≤ s.from) ⊎ (s.from ≤ a.from) → (x : Span) × Among (a ∷ rs) x × (x.from ≡ max s.from a.from)
    begin (inl le) = (h.begins.0, inr h.begins.1, h.begins.2 ∙ omega arith)
    begin (inr le) = (a, inl refl, omega arith)

    end : (s.to ≤ a.to) ⊎ (a.to ≤ s.to) → (x : Span) × Among (a ∷ rs) x × (x.to ≡ min s.to a.to)
    end (inl le) = (h.ends.0, inr h.ends.1, h.ends.2 ∙ omega arith)
    end (inr le) = (a, inl refl, omega arith)

abbrev shared_of : Span → List Span → Span
shared_of a [] = a
shared_of a (b ∷ rs) = meet (shared_of b rs) a

shared_is : (a : Span) (rs : List Span) → IsShared (shared_of a rs) (a ∷ rs)
shared_is a [] = shared_alone a
shared_is a (b ∷ rs) = shared_first a (b ∷ rs) (shared_of b rs) (shared_is b rs)

-- ---- the state of chosen members

-- the state of these members, where the first list has those of the others, plain ones and insides
pub record Holds (all chosen around : List Member) (s : State) : Type 0 where
  pub agree : AllAgree (map binding_of all)
  pub range : IsShared s.range (map range_of all)
  pub marked : IsTrue s.marked ↔ Among (map range_of chosen) s.range
  pub plain : s.plain ≡ merged_all (map binding_of chosen)
  pub inside : s.inside ≡ merged_all (map binding_of around)

state_is : (s t : State) → s.range ≡ t.range → s.marked ≡ t.marked → s.plain ≡ t.plain → s.inside ≡ t.inside → s ≡ t
state_is s t range marked plain inside =
    let f1 : Span → State = λ x. record { range = x; marked = s.marked; plain = s.plain; inside = s.inside } in
    let f2 : Bool → State = λ x. record { range = t.range; marked = x; plain = s.plain; inside = s.inside } in
    let f3 : List Bound → State = λ x. record { range = t.range; marked = t.marked; plain = x; inside = s.inside } in
    let f4 : List Bound → State = λ x. record { range = t.range; marked = t.marked; plain = t.plain; inside = x } in
    ap f1 range ∙ ap f2 marked ∙ ap f3 plain ∙ ap f4 inside

one_state : (all chosen around : List Member) (s t : State) → Holds all chosen around s → Holds all chosen around t → s ≡ t
one_state all chosen around s t h k =
    let is = shared_is_one s.range t.range (map range_of all) h.range k.range in
    let range = span_is s.range t.range is.0 is.1 in
    let P : Span → Type 0 = Among (map range_of chosen) in
    state_is s t range (bool_is s.marked t.marked (λ e. k.marked.1 (subst P range (h.marked.0 e))) (λ e. h.marked.1 (subst P (sym range) (k.marked.0 e)))) (h.plain ∙ sym k.plain) (h.inside ∙ sym k.inside)

-- members whose bindings agree have a state
state_there : (m : Member) (rest chosen around : List Member) → AllAgree (map binding_of (m ∷ rest)) → (s : State) × Holds (m ∷ rest) chosen around s
state_there m rest chosen around agree =
    let range = shared_of m.0 (map range_of rest) in (
      record { range = range; marked = is_among (map range_of chosen) range; plain = merged_all (map binding_of chosen); inside = merged_all (map binding_of around) },
      record { agree = agree; range = shared_is m.0 (map range_of rest); marked = among_is (map range_of chosen) range; plain = refl; inside = refl },
    )

pub alone : (m : Member) → Holds (m ∷ []) (m ∷ []) [] (begun m)
alone m = record { agree = (λ x k. elim k [ ], tt); range = shared_alone m.0; marked = (λ _. inl refl, λ _. refl); plain = refl; inside = refl }

module _ (all : List Member) (m : Member) where
  bindings_more : map binding_of (all ++ m ∷ []) ≡ map binding_of all ++ m.1 ∷ []
  bindings_more = map-append binding_of all (m ∷ [])

  ranges_more : map range_of (all ++ m ∷ []) ≡ map range_of all ++ m.0 ∷ []
  ranges_more = map-append range_of all (m ∷ [])

  more_agree : AllAgree (map binding_of all) → Each (λ b. Agree b m.1) (map binding_of all) → AllAgree (map binding_of (all ++ m ∷ []))
  more_agree h k = subst AllAgree (sym bindings_more) (all_agree_snoc (map binding_of all) m.1 h k)

  front_agrees : AllAgree (map binding_of (all ++ m ∷ [])) → AllAgree (map binding_of all) × Each (λ b. Agree b m.1) (map binding_of all)
  front_agrees h = all_agree_front (map binding_of all) m.1 (subst AllAgree bindings_more h)

  more_shared : (s : Span) → IsShared s (map range_of all) → IsShared (meet s m.0) (map range_of (all ++ m ∷ []))
  more_shared s h = let P : List Span → Type 0 = IsShared (meet s m.0) in subst P (sym ranges_more) (shared_snoc s (map range_of all) m.0 h)

  more_merged : merged_all (map binding_of (all ++ m ∷ [])) ≡ merged (merged_all (map binding_of all)) m.1
  more_merged = ap merged_all bindings_more ∙ merged_snoc [] (map binding_of all) m.1

-- ---- one plain member more

module _ (c : List Member) (m : Member) (up : Each Ascends c) (um : Ascends m) where
  pub plain_agrees : (s : State) → Holds c c [] s → AgreesWith s.plain s.inside m.1 ↔ Each (λ b. Agree b m.1) (map binding_of c)
  plain_agrees s h =
      let r = agree_merged (map binding_of c) m.1 (bindings_ascend c up) um h.agree in
      let P : List Bound → Type 0 = λ x. Agree x m.1 in
      (λ a. r.0 (subst P h.plain a.0), λ e. (subst P (sym h.plain) (r.1 e), subst P (sym h.inside) (agree_nothing m.1)))

  pub plain_more : (s : State) → Holds c c [] s → AgreesWith s.plain s.inside m.1 → Holds (c ++ m ∷ []) (c ++ m ∷ []) [] (joined Plain s m)
  plain_more s h agrees = record {
    agree = more_agree c m h.agree ((plain_agrees s h).0 agrees);
    range = more_shared c m s.range h.range;
    marked = (to, from);
    plain = ap (λ x. merged x m.1) h.plain ∙ sym (more_merged c m);
    inside = h.inside;
  }
    where
      there : Among (map range_of c ++ m.0 ∷ []) (meet s.range m.0) → Among (map range_of (c ++ m ∷ [])) (meet s.range m.0)
      there k = let P : List Span → Type 0 = λ rs. Among rs (meet s.range m.0) in subst P (sym (ranges_more c m)) k

      back : Among (map range_of (c ++ m ∷ [])) (meet s.range m.0) → Among (map range_of c) (meet s.range m.0) ⊎ (m.0 ≡ (meet s.range m.0))
      back k = let P : List Span → Type 0 = λ rs. Among rs (meet s.range m.0) in among_snoc (map range_of c) m.0 (meet s.range m.0) (subst P (ranges_more c m) k)

      old : (s.marked ≡ true) × (same_range (meet s.range m.0) s.range ≡ true) → Among (map range_of c) (meet s.range m.0)
      old e = let P : Span → Type 0 = Among (map range_of c) in subst P (sym (same_range_is (meet s.range m.0) s.range e.1)) (h.marked.0 e.0)

      cases : (s.marked && same_range (meet s.range m.0) s.range ≡ true) ⊎ (same_range (meet s.range m.0) m.0 ≡ true) → Among (map range_of (c ++ m ∷ [])) (meet s.range m.0)
      cases (inl e) = there (among_front (map range_of c) m.0 (meet s.range m.0) (old (and_both _ _ e)))
      cases (inr e) = there (let P : Span → Type 0 = Among (map range_of c ++ m.0 ∷ []) in subst P (sym (same_range_is (meet s.range m.0) m.0 e)) (among_end (map range_of c) m.0))

      to : (s.marked && same_range (meet s.range m.0) s.range) || same_range (meet s.range m.0) m.0 ≡ true → Among (map range_of (c ++ m ∷ [])) (meet s.range m.0)
      to e = cases (or_one _ _ e)

      was : Among (map range_of c) (meet s.range m.0) → (s.marked && same_range (meet s.range m.0) s.range) || same_range (meet s.range m.0) m.0 ≡ true
      was k =
          let e = meet_stays (map range_of c) s.range m.0 h.range k in
          let P : Span → Type 0 = Among (map range_of c) in
          first_or _ _ (both_and _ _ (h.marked.1 (subst P e k)) (is_same_range (meet s.range m.0) s.range e))

      from : Among (map range_of (c ++ m ∷ [])) (meet s.range m.0) → (s.marked && same_range (meet s.range m.0) s.range) || same_range (meet s.range m.0) m.0 ≡ true
      from k = elim (back k) [ inl g ↦ was g | inr e ↦ second_or _ _ (is_same_range (meet s.range m.0) m.0 (sym e)) ]

-- ---- one inside more

module _ (c a : List Member) (m : Member) (uc : Each Ascends c) (ua : Each Ascends a) (um : Ascends m) where
  pub inside_agrees : (s : State) → Holds (c ++ a) c a s → AgreesWith s.plain s.inside m.1 ↔ Each (λ b. Agree b m.1) (map binding_of (c ++ a))
  inside_agrees s h =
      let parts = map-append binding_of c a in
      let r = agree_with (map binding_of c) (map binding_of a) m.1 (bindings_ascend c uc) (bindings_ascend a ua) um (subst AllAgree parts h.agree) in
      let P : List Bound → Type 0 = λ x. Agree x m.1 in
      let Q : List (List Bound) → Type 0 = Each (λ b. Agree b m.1) in
      (λ g. subst Q (sym parts) (r.0 (subst P h.plain g.0, subst P h.inside g.1)), λ e. let g = r.1 (subst Q parts e) in (subst P (sym h.plain) g.0, subst P (sym h.inside) g.1))

  pub inside_more : (s : State) → Holds (c ++ a) c a s → AgreesWith s.plain s.inside m.1 → Holds ((c ++ a) ++ m ∷ []) c (a ++ m ∷ []) (joined Inside s m)
  inside_more s h agrees = record {
    agree = more_agree (c ++ a) m h.agree ((inside_agrees s h).0 agrees);
    range = more_shared (c ++ a) m s.range h.range;
    marked = (to, from);
    plain = h.plain;
    inside = ap (λ x. merged x m.1) h.inside ∙ sym (more_merged a m);
  }
    where
      to : s.marked && same_range (meet s.range m.0) s.range ≡ true → Among (map range_of c) (meet s.range m.0)
      to e =
          let r = and_both _ _ e in
          let P : Span → Type 0 = Among (map range_of c) in
          subst P (sym (same_range_is (meet s.range m.0) s.range r.1)) (h.marked.0 r.0)

      from : Among (map range_of c) (meet s.range m.0) → s.marked && same_range (meet s.range m.0) s.range ≡ true
      from k =
          let P : Span → Type 0 = Among (map range_of c) in
          let Q : List Span → Type 0 = λ rs. Among rs (meet s.range m.0) in
          let e = meet_stays (map range_of (c ++ a)) s.range m.0 h.range (subst Q (sym (map-append range_of c a)) (among_left (map range_of c) (map range_of a) (meet s.range m.0) k)) in
          both_and _ _ (h.marked.1 (subst P e k)) (is_same_range (meet s.range m.0) s.range e)

-- ---- choices of sets of lists

holds_of : (P I : Chosen) (s : State) (h : IsChoice P I s) → Holds (h.chosen ++ h.around) h.chosen h.around s
holds_of P I s h = record { agree = h.agree; range = h.range; marked = h.marked; plain = h.plain; inside = h.inside }

choice_of : (P I : Chosen) (s : State) (c a : List Member) → P c → I a → Holds (c ++ a) c a s → IsChoice P I s
choice_of P I s c a p i h = record { chosen = c; around = a; plain_members = p; inside_members = i; agree = h.agree; range = h.range; marked = h.marked; plain = h.plain; inside = h.inside }

plain_choice : (P : Chosen) (s : State) (c : List Member) → P c → Holds c c [] s → IsChoice P NoneOf s
plain_choice P s c p h = let Q : List Member → Type 0 = λ all. Holds all c [] s in choice_of P NoneOf s c [] p refl (subst Q (sym (append-nil c)) h)

pub record PlainChoice (P : Chosen) (s : State) : Type 0 where
  pub chosen : List Member
  pub members : P chosen
  pub holds : Holds chosen chosen [] s

choice_plain : (P : Chosen) (s : State) → IsChoice P NoneOf s → PlainChoice P s
choice_plain P s h =
    let Q : List Member → Type 0 = λ a. Holds (h.chosen ++ a) h.chosen a s in
    let k = subst Q h.inside_members (holds_of P NoneOf s h) in
    let R : List Member → Type 0 = λ all. Holds all h.chosen [] s in
    record { chosen = h.chosen; members = h.plain_members; holds = subst R (append-nil h.chosen) k }

-- a list of the set is one of the first with a member more
pub record Splits (Before : Chosen) (members ms : List Member) : Type 0 where
  pub front : List Member
  pub last : Member
  pub parts : ms ≡ front ++ last ∷ []
  pub before : Before front
  pub among : Among members last

pub record IsMore (Before : Chosen) (members : List Member) (After : Chosen) : Type 0 where
  pub put : (ms : List Member) (m : Member) → Before ms → Among members m → After (ms ++ m ∷ [])
  pub split : (ms : List Member) → After ms → Splits Before members ms

-- the state comes of one with a member that agrees
pub record Comes (role : Role) (Before : State → Type 0) (members : List Member) (s : State) : Type 0 where
  pub state : State
  pub member : Member
  pub before : Before state
  pub among : Among members member
  pub agrees : AgreesWith state.plain state.inside member.1
  pub is : joined role state member ≡ s

-- each list of the set has a member
abbrev pub AllSome : Chosen → Type 0
AllSome P = (ms : List Member) → P ms → (m : Member) × (rest : List Member) × (ms ≡ m ∷ rest)

module _ (P After : Chosen) (members : List Member) (more : IsMore P members After) (up : AllAscend P) (um : Each Ascends members) where
  pub plain_to : (s : State) (m : Member) → IsChoice P NoneOf s → Among members m → AgreesWith s.plain s.inside m.1 → IsChoice After NoneOf (joined Plain s m)
  plain_to s m h k agrees =
      let r = choice_plain P s h in
      plain_choice After (joined Plain s m) (r.chosen ++ m ∷ []) (more.put r.chosen m r.members k) (plain_more r.chosen m (up r.chosen r.members) (um m k) s r.holds agrees)

  plain_split : AllSome P → (s : State) (c : List Member) → Holds c c [] s → Splits P members c → Comes Plain (IsChoice P NoneOf) members s
  plain_split some s c old d = at (some d.front d.before)
    where
      whole : Holds (d.front ++ d.last ∷ []) (d.front ++ d.last ∷ []) [] s
      whole = let Q : List Member → Type 0 = λ x. Holds x x [] s in subst Q d.parts old

      at : (m : Member) × (rest : List Member) × (d.front ≡ m ∷ rest) → Comes Plain (IsChoice P NoneOf) members s
      at (m, rest, e) =
          let front = front_agrees d.front d.last whole.agree in
          let there = state_there m rest d.front [] (let Q : List Member → Type 0 = λ x. AllAgree (map binding_of x) in subst Q e front.0) in
          let holds = let Q : List Member → Type 0 = λ all. Holds all d.front [] there.0 in subst Q (sym e) there.1 in
          let ud = up d.front d.before in
          let agrees = (plain_agrees d.front d.last ud (um d.last d.among) there.0 holds).1 front.1 in
          record {
            state = there.0;
            member = d.last;
            before = plain_choice P there.0 d.front d.before holds;
            among = d.among;
            agrees = agrees;
            is = one_state (d.front ++ d.last ∷ []) (d.front ++ d.last ∷ []) [] (joined Plain there.0 d.last) s (plain_more d.front d.last ud (um d.last d.among) there.0 holds agrees) whole;
          }

  pub plain_from : AllSome P → (s : State) → IsChoice After NoneOf s → Comes Plain (IsChoice P NoneOf) members s
  plain_from some s h = let r = choice_plain After s h in plain_split some s r.chosen r.holds (more.split r.chosen r.members)

module _ (P I After : Chosen) (members : List Member) (more : IsMore I members After) (up : AllAscend P) (ui : AllAscend I) (um : Each Ascends members) where
  pub inside_to : (s : State) (m : Member) → IsChoice P I s → Among members m → AgreesWith s.plain s.inside m.1 → IsChoice P After (joined Inside s m)
  inside_to s m h k agrees =
      let new = inside_more h.chosen h.around m (up h.chosen h.plain_members) (ui h.around h.inside_members) (um m k) s (holds_of P I s h) agrees in
      let Q : List Member → Type 0 = λ all. Holds all h.chosen (h.around ++ m ∷ []) (joined Inside s m) in
      choice_of P After (joined Inside s m) h.chosen (h.around ++ m ∷ []) h.plain_members (more.put h.around m h.inside_members k) (subst Q (append_assoc h.chosen h.around (m ∷ [])) new)

  inside_split : AllSome P → (s : State) (c a : List Member) → P c → Holds (c ++ a) c a s → Splits I members a → Comes Inside (IsChoice P I) members s
  inside_split some s c a p old d = at (some c p)
    where
      whole : Holds ((c ++ d.front) ++ d.last ∷ []) c (d.front ++ d.last ∷ []) s
      whole =
          let Q : List Member → Type 0 = λ x. Holds (c ++ x) c x s in
          let R : List Member → Type 0 = λ all. Holds all c (d.front ++ d.last ∷ []) s in
          subst R (sym (append_assoc c d.front (d.last ∷ []))) (subst Q d.parts old)

      at : (m : Member) × (rest : List Member) × (c ≡ m ∷ rest) → Comes Inside (IsChoice P I) members s
      at (m, rest, e) =
          let front = front_agrees (c ++ d.front) d.last whole.agree in
          let f = ap (λ (x : List Member). x ++ d.front) e in
          let there = state_there m (rest ++ d.front) c d.front (let Q : List Member → Type 0 = λ x. AllAgree (map binding_of x) in subst Q f front.0) in
          let holds = let Q : List Member → Type 0 = λ all. Holds all c d.front there.0 in subst Q (sym f) there.1 in
          let uc = up c p in
          let ud = ui d.front d.before in
          let agrees = (inside_agrees c d.front d.last uc ud (um d.last d.among) there.0 holds).1 front.1 in
          record {
            state = there.0;
            member = d.last;
            before = choice_of P I there.0 c d.front p d.before holds;
            among = d.among;
            agrees = agrees;
            is = one_state ((c ++ d.front) ++ d.last ∷ []) c (d.front ++ d.last ∷ []) (joined Inside there.0 d.last) s (inside_more c d.front d.last uc ud (um d.last d.among) there.0 holds agrees) whole;
          }

  pub inside_from : AllSome P → (s : State) → IsChoice P After s → Comes Inside (IsChoice P I) members s
  inside_from some s h = inside_split some s h.chosen h.around h.plain_members (holds_of P After s h) (more.split h.around h.inside_members)

-- a choice of one member of the first operand alone
pub begun_to : (P : Chosen) (s : State) (m : Member) → P (m ∷ []) → begun m ≡ s → IsChoice P NoneOf s
begun_to P s m p e = let Q : State → Type 0 = IsChoice P NoneOf in subst Q e (plain_choice P (begun m) (m ∷ []) p (alone m))

pub begun_from : (P : Chosen) (s : State) → IsChoice P NoneOf s → ((ms : List Member) → P ms → (m : Member) × (ms ≡ m ∷ [])) → (m : Member) × P (m ∷ []) × (begun m ≡ s)
begun_from P s h one =
    let r = choice_plain P s h in
    let d = one r.chosen r.members in
    let Q : List Member → Type 0 = λ c. Holds c c [] s in
    (d.0, subst P d.1 r.members, one_state (d.0 ∷ []) (d.0 ∷ []) [] (begun d.0) s (alone d.0) (subst Q d.1 r.holds))
