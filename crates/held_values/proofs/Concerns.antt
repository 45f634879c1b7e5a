-- Which assignments of a point concern a name, and what they give.
use Rattle.std.proofs.Common.{◌≡◌, ◌≢◌, ℕ, zero, suc, ◌+◌, ◌<◌, ◌⊎◌, ◌↔◌, inl, inr, List, [], ◌∷◌, ◌++◌, length, get_or, Some, sym, ◌∙◌, ap, subst, refl, arith}
use Rattle.std.specs.Prelude.{slice_get}
use Rattle.std.proofs.lemmas.Bool.{cases_eq}
use Rattle.graph_form.specs.Sets.{Among}
use Rattle.graph_form.proofs.Amongs.{among_push}
use Rattle.held_values.specs.declared.assign.Assign.{Assign}
use Rattle.held_values.specs.declared.assign.Source.{Source}
use Rattle.held_values.specs.declared.assign.Source.TheVariants.{Sets, Copies}
use Rattle.held_values.specs.declared.targets.Target.{Target}
use Rattle.flow_reach.specs.Adds.{Coded}
use Rattle.held_values.specs.Merged.{IsIndex, Assigns, Concerns, Yields, Gives, GivesAt, IsToAt, Turns}

pub got_among : {X : Type 0} (xs : List X) (i : ℕ) (x : X) → slice_get xs i ≡ Some x → Among xs x
got_among [] i x e = absurd cc
got_among (y ∷ ys) zero x e = inl cc
got_among (y ∷ ys) (suc i) x e = inr (got_among ys i x e)

among_got : {X : Type 0} (xs : List X) (x : X) → Among xs x → (i : ℕ) × (slice_get xs i ≡ Some x)
among_got [] x h = absurd h
among_got (y ∷ ys) x (inl e) = (0, ap Some e)
among_got (y ∷ ys) x (inr h) = let r = among_got ys x h in (suc r.0, r.1)

got_below : {X : Type 0} (xs : List X) (i : ℕ) (x : X) → slice_get xs i ≡ Some x → i < length xs
got_below [] i x e = absurd cc
got_below (y ∷ ys) zero x e = omega arith
got_below (y ∷ ys) (suc i) x e = omega (arith, got_below ys i x e)

pub some_same : {X : Type 0} (a b : X) → Some a ≡ Some b → a ≡ b
some_same a b e = cc

pub got_at : {X : Type 0} (xs : List X) (i : ℕ) (d : X) → i < length xs → slice_get xs i ≡ Some (get_or xs i d)
got_at [] i d lt = absurd (omega arith)
got_at (x ∷ xs) zero d lt = refl
got_at (x ∷ xs) (suc i) d lt = got_at xs i d (omega arith)

pub got_read : {X : Type 0} (xs : List X) (i : ℕ) (x : X) → i < length xs → x ≡ get_or xs i x → slice_get xs i ≡ Some x
got_read xs i x lt is = got_at xs i x lt ∙ ap Some (sym is)

-- the places of assignments

pair_is : (p q : ℕ × ℕ) → (p ≡ q) ↔ ((p.0 ≡ q.0) × (p.1 ≡ q.1))
pair_is p q = (λ e. (ap (λ (x : ℕ × ℕ). x.0) e, ap (λ (x : ℕ × ℕ). x.1) e), λ h. λ i. (h.0 i, h.1 i))

pub placed_set : (pairs new : List (ℕ × ℕ)) (a : Assign) (place name at : ℕ) → new ≡ pairs ++ (a.name, place) ∷ [] → (a.source ≡ Copies name → ⊥) → Among new (name, at) ↔ (Among pairs (name, at) ⊎ ((place ≡ at) × ((a.name ≡ name) ⊎ (a.source ≡ Copies name))))
placed_set pairs new a place name at is none =
    let P : List (ℕ × ℕ) → Type 0 = λ xs. Among xs (name, at) in
    let p = among_push pairs (a.name, place) (name, at) in
    let q = pair_is (a.name, place) (name, at) in (
      λ h. elim (p.0 (subst P is h)) [ inl o ↦ inl o | inr e ↦ let r = q.0 e in inr (r.1, inl r.0) ],
      λ h. subst P (sym is) (p.1 (elim h [ inl o ↦ inl o | inr (e, how) ↦ elim how [ inl f ↦ inr (q.1 (f, e)) | inr c ↦ absurd (none c) ] ])),
    )

pub placed_copy : (pairs mid new : List (ℕ × ℕ)) (a : Assign) (place other name at : ℕ) → mid ≡ pairs ++ (a.name, place) ∷ [] → new ≡ mid ++ (other, place) ∷ [] → a.source ≡ Copies other → Among new (name, at) ↔ (Among pairs (name, at) ⊎ ((place ≡ at) × ((a.name ≡ name) ⊎ (a.source ≡ Copies name))))
placed_copy pairs mid new a place other name at first second is =
    let P : List (ℕ × ℕ) → Type 0 = λ xs. Among xs (name, at) in
    let p = among_push pairs (a.name, place) (name, at) in
    let r = among_push mid (other, place) (name, at) in
    let q = pair_is (a.name, place) (name, at) in
    let s = pair_is (other, place) (name, at) in (
      λ h. elim (r.0 (subst P second h)) [
        | inl m ↦ elim (p.0 (subst P first m)) [ inl o ↦ inl o | inr e ↦ let t = q.0 e in inr (t.1, inl t.0) ]
        | inr e ↦ let t = s.0 e in inr (t.1, inr (is ∙ ap Copies t.0))
      ],
      λ h. subst P (sym second) (r.1 (elim h [
        | inl o ↦ inl (subst P (sym first) (p.1 (inl o)))
        | inr (e, how) ↦ elim how [
          | inl f ↦ inl (subst P (sym first) (p.1 (inr (q.1 (f, e)))))
          | inr c ↦ inr (s.1 (copies_same other name (sym is ∙ c), e))
        ]
      ])),
    )
  where
    copies_same : (x y : ℕ) → Copies x ≡ Copies y → x ≡ y
    copies_same x y e = cc

pub concerned_below : (assigns : List Assign) (name at : ℕ) → Concerns assigns name at → at < length assigns
concerned_below assigns name at (a, got, how) = got_below assigns at a got

pub concerns_more : (assigns : List Assign) (i name at : ℕ) (a : Assign) → slice_get assigns i ≡ Some a → ((at < i + 1) × Concerns assigns name at) ↔ (((at < i) × Concerns assigns name at) ⊎ ((i ≡ at) × ((a.name ≡ name) ⊎ (a.source ≡ Copies name))))
concerns_more assigns i name at a got = (
  λ (lt, (b, is, how)). elim (cases_eq at i) [
    | inl e ↦
        let G : ℕ → Type 0 = λ k. slice_get assigns k ≡ Some b in
        let same : b ≡ a = some_same b a (sym (subst G e is) ∙ got) in
        let P : Assign → Type 0 = λ x. (x.name ≡ name) ⊎ (x.source ≡ Copies name) in
        inr (sym e, subst P same how)
    | inr ne ↦ inl (omega arith, (b, is, how))
  ],
  λ h. elim h [
    | inl (lt, c) ↦ (omega (arith, lt), c)
    | inr (e, how) ↦ let G : ℕ → Type 0 = λ k. slice_get assigns k ≡ Some a in (omega (arith, e), (a, subst G e got, how))
  ],
)

-- what the assignments at some places give

pub gives_more : (assigns : List Assign) (all some : List ℕ) (place : ℕ) (a : Assign) (name value target after : ℕ) → slice_get assigns place ≡ Some a → ((x : ℕ) → Among all x ↔ (Among some x ⊎ (place ≡ x))) → GivesAt assigns all name value target after ↔ (GivesAt assigns some name value target after ⊎ Gives a name value target after)
gives_more assigns all some place a name value target after got split = (
  λ (p, among, b, is, gives). elim ((split p).0 among) [
    | inl o ↦ inl (p, o, b, is, gives)
    | inr e ↦
        let G : ℕ → Type 0 = λ k. slice_get assigns k ≡ Some b in
        let same : b ≡ a = some_same b a (sym (subst G (sym e) is) ∙ got) in
        let P : Assign → Type 0 = λ x. Gives x name value target after in
        inr (subst P same gives)
  ],
  λ h. elim h [
    | inl (p, o, b, is, gives) ↦ (p, (split p).1 (inl o), b, is, gives)
    | inr gives ↦ (place, (split place).1 (inr refl), a, got, gives)
  ],
)

pub to_more : (assigns : List Assign) (all some : List ℕ) (place : ℕ) (a : Assign) (name : ℕ) → slice_get assigns place ≡ Some a → ((x : ℕ) → Among all x ↔ (Among some x ⊎ (place ≡ x))) → IsToAt assigns all name ↔ (IsToAt assigns some name ⊎ (a.name ≡ name))
to_more assigns all some place a name got split = (
  λ (p, among, b, is, e). elim ((split p).0 among) [
    | inl o ↦ inl (p, o, b, is, e)
    | inr at ↦
        let G : ℕ → Type 0 = λ k. slice_get assigns k ≡ Some b in
        let same : b ≡ a = some_same b a (sym (subst G (sym at) is) ∙ got) in
        let P : Assign → Type 0 = λ x. x.name ≡ name in
        inr (subst P same e)
  ],
  λ h. elim h [
    | inl (p, o, b, is, e) ↦ (p, (split p).1 (inl o), b, is, e)
    | inr e ↦ (place, (split place).1 (inr refl), a, got, e)
  ],
)

-- what all give

yields_concerned : (source : Source) (name value target after : ℕ) → Yields source name value target after → (name ≡ target) ⊎ (source ≡ Copies name)
yields_concerned (Sets w) name value target after (e, f) = inl e
yields_concerned (Copies other) name value target after (e, f) = inr (ap Copies (sym e))

module _ (assigns : List Assign) (places : List ℕ) (name value : ℕ) (exact : (place : ℕ) → Among places place ↔ Concerns assigns name place) where
  gives_all : (target after : ℕ) → GivesAt assigns places name value target after ↔ ((a : Assign) × Among assigns a × Gives a name value target after)
  gives_all target after = (
    λ (p, among, a, got, gives). (a, got_among assigns p a got, gives),
    λ (a, among, (to, yields)).
        let r = among_got assigns a among in
        let how : (a.name ≡ name) ⊎ (a.source ≡ Copies name) = elim (yields_concerned a.source name value target after yields) [ inl e ↦ inl (to ∙ sym e) | inr e ↦ inr e ] in
        (r.0, (exact r.0).1 (a, r.1, how), a, r.1, (to, yields)),
  )

  to_all : IsToAt assigns places name ↔ Assigns assigns name
  to_all = (
    λ (p, among, a, got, e). (a, got_among assigns p a got, e),
    λ (a, among, e). let r = among_got assigns a among in (r.0, (exact r.0).1 (a, r.1, inl e), a, r.1, e),
  )

  -- where one of them is to the name
  pub turns_assigned : (target after : ℕ) → IsToAt assigns places name → GivesAt assigns places name value target after ↔ Turns assigns name value target after
  turns_assigned target after to = (
    λ h. inr ((gives_all target after).0 h),
    λ h. elim h [ inl (e, f, none) ↦ absurd (none (to_all.0 to)) | inr g ↦ (gives_all target after).1 g ],
  )

  -- where none is
  pub turns_kept : (target : Target) → (IsToAt assigns places name → ⊥) → (GivesAt assigns places name value target.name target.value ⊎ (record { name = name; value = value } ≡ target)) ↔ Turns assigns name value target.name target.value
  turns_kept target none = (
    λ h. elim h [
      | inl g ↦ inr ((gives_all target.name target.value).0 g)
      | inr e ↦ inl (ap (λ (t : Target). t.name) e, sym (ap (λ (t : Target). t.value) e), λ to. none (to_all.1 to))
    ],
    λ h. elim h [
      | inl (e, f, unassigned) ↦ inr (λ i. record { name = e i; value = sym f i })
      | inr g ↦ inl ((gives_all target.name target.value).1 g)
    ],
  )

-- what one gives

pub given_set : (assign : Assign) (name value set : ℕ) (target : Target) → assign.source ≡ Sets set → assign.name ≡ name → (Some (record { name = name; value = set }) ≡ Some target) ↔ Gives assign name value target.name target.value
given_set assign name value set target is to = (
  λ e.
      let t : record { name = name; value = set } ≡ target = some_same _ _ e in
      let Y : Source → Type 0 = λ s. Yields s name value target.name target.value in
      let n : name ≡ target.name = ap (λ (x : Target). x.name) t in
      (to ∙ n, subst Y (sym is) (n, sym (ap (λ (x : Target). x.value) t))),
  λ (to_it, yields).
      let Y : Source → Type 0 = λ s. Yields s name value target.name target.value in
      let y = subst Y is yields in
      ap Some (λ i. record { name = y.0 i; value = sym y.1 i }),
)

pub given_copy : (assign : Assign) (name value : ℕ) (target : Target) → assign.source ≡ Copies name → (Some (record { name = assign.name; value = value }) ≡ Some target) ↔ Gives assign name value target.name target.value
given_copy assign name value target is = (
  λ e.
      let t : record { name = assign.name; value = value } ≡ target = some_same _ _ e in
      let Y : Source → Type 0 = λ s. Yields s name value target.name target.value in
      (ap (λ (x : Target). x.name) t, subst Y (sym is) (refl, sym (ap (λ (x : Target). x.value) t))),
  λ (to, yields).
      let Y : Source → Type 0 = λ s. Yields s name value target.name target.value in
      let y = subst Y is yields in
      ap Some (λ i. record { name = to i; value = sym y.1 i }),
)

pub given_no_set : (assign : Assign) (name value set target after : ℕ) → assign.source ≡ Sets set → assign.name ≢ name → Gives assign name value target after → ⊥
given_no_set assign name value set target after is ne (to, yields) =
    let Y : Source → Type 0 = λ s. Yields s name value target after in ne (to ∙ sym (subst Y is yields).0)

pub given_no_copy : (assign : Assign) (name value other target after : ℕ) → assign.source ≡ Copies other → other ≢ name → Gives assign name value target after → ⊥
given_no_copy assign name value other target after is ne (to, yields) =
    let Y : Source → Type 0 = λ s. Yields s name value target after in ne (sym (subst Y is yields).0)

-- the places that were looked up
pub looked_up : (assigns : List Assign) (index read into given : List ℕ) (name : ℕ) → IsIndex assigns index → read ≡ index → ((after : ℕ) → Among into after ↔ Coded read name after) → given ≡ into → (place : ℕ) → Among given place ↔ Concerns assigns name place
looked_up assigns index read into given name is read_is exact given_is place =
    let P : List ℕ → Type 0 = λ xs. Among into place ↔ Coded xs name place in
    let Q : List ℕ → Type 0 = λ xs. Among xs place ↔ Concerns assigns name place in
    let e = subst P read_is (exact place) in
    let x = is.exact name place in
    subst Q (sym given_is) (λ h. x.0 (e.0 h), λ h. e.1 (x.1 h))

-- with the targets that were listed
pub all_given : (assigns : List Assign) (places given : List ℕ) (name value : ℕ) (old new : List Target) → old ≡ [] → given ≡ places → ((target : Target) → Among new target ↔ (Among old target ⊎ GivesAt assigns given name value target.name target.value)) → (target : Target) → Among new target ↔ GivesAt assigns places name value target.name target.value
all_given assigns places given name value old new none same is target =
    let P : List Target → Type 0 = λ ts. Among new target ↔ (Among ts target ⊎ GivesAt assigns given name value target.name target.value) in
    let Q : List ℕ → Type 0 = λ ps. Among new target ↔ (⊥ ⊎ GivesAt assigns ps name value target.name target.value) in
    let r = subst Q same (subst P none (is target)) in
    (λ h. elim (r.0 h) [ inl n ↦ absurd n | inr g ↦ g ], λ g. r.1 (inr g))
