-- Rules that came to others, gathered one after the other.
use Rattle.std.proofs.Common.{◌≡◌, ◌⊎◌, inl, inr, ◌↔◌, ℕ, zero, suc, ◌+◌, ◌<◌, ◌≤◌, List, [], ◌∷◌, ◌++◌, length, take, drop, drop_of_length-le, get_or, refl, sym, ap, ◌∙◌, subst, arith}
use Rattle.std.specs.Prelude.{Some, slice_get}
use Rattle.std.proofs.lemmas.List.{take_more, drop_more, length-drop}
use Rattle.std.proofs.lemmas.Option.{slice_get-get_or}
use Rattle.node_match.specs.Sets.{Among}
use Rattle.node_match.proofs.Sets.{among_more}
use Rattle.rule_form.specs.declared.rule.Rule.{Rule}
use Rattle.running_rules.specs.Running.{AreApart}
use Rattle.running_rules.proofs.Members.{among_get, get_among}
use Rattle.seen_files.specs.More.{StillRun, AreAdded}

-- ---- items by their places

get_front : {X : Type 0} (xs ys : List X) (i : ℕ) (x : X) → slice_get xs i ≡ Some x → slice_get (xs ++ ys) i ≡ Some x
get_front [] ys i x e = absurd cc
get_front (z ∷ zs) ys zero x e = e
get_front (z ∷ zs) ys (suc i) x e = get_front zs ys i x e

get_last : {X : Type 0} (xs : List X) (x : X) → slice_get (xs ++ x ∷ []) (length xs) ≡ Some x
get_last [] x = refl
get_last (z ∷ zs) x = get_last zs x

get_inside : {X : Type 0} (xs : List X) (i : ℕ) (x : X) → slice_get xs i ≡ Some x → i < length xs
get_inside [] i x e = absurd cc
get_inside (z ∷ zs) zero x e = omega arith
get_inside (z ∷ zs) (suc i) x e = let f = get_inside zs i x e in omega (arith, f)

get_cases : {X : Type 0} (xs : List X) (y : X) (i : ℕ) (x : X) → slice_get (xs ++ y ∷ []) i ≡ Some x → (slice_get xs i ≡ Some x) ⊎ ((i ≡ length xs) × (y ≡ x))
get_cases [] y zero x e = inr (refl, cc)
get_cases [] y (suc i) x e = absurd cc
get_cases (z ∷ zs) y zero x e = inl e
get_cases (z ∷ zs) y (suc i) x e = elim (get_cases zs y i x e) [ inl f ↦ inl f | inr f ↦ inr (ap suc f.0, f.1) ]

-- ---- ids

front_apart : (rs : List Rule) (r : Rule) → AreApart (rs ++ r ∷ []) → AreApart rs
front_apart rs r apart i j x y e f ids = apart i j x y (get_front rs (r ∷ []) i x e) (get_front rs (r ∷ []) j y f) ids

last_apart : (rs : List Rule) (r : Rule) → AreApart (rs ++ r ∷ []) → (x : Rule) → Among rs x → x.id ≡ r.id → ⊥
last_apart rs r apart x a ids =
    let (i, e) = among_get rs x a in
    let same = apart i (length rs) x r (get_front rs (r ∷ []) i x e) (get_last rs r) ids in
    let inside = get_inside rs i x e in
    absurd (omega (arith, same, inside))

-- a rule with an id of its own
more_apart : (ns : List Rule) (r : Rule) → AreApart ns → ((x : Rule) → Among ns x → x.id ≡ r.id → ⊥) → AreApart (ns ++ r ∷ [])
more_apart ns r apart fresh i j x y e f ids = elim (get_cases ns r i x e) [
  | inl a ↦ elim (get_cases ns r j y f) [
    | inl b ↦ apart i j x y a b ids
    | inr b ↦ absurd (fresh x (get_among ns i x a) (ids ∙ sym (ap (λ (z : Rule). z.id) b.1)))
  ]
  | inr a ↦ elim (get_cases ns r j y f) [
    | inl b ↦ absurd (fresh y (get_among ns j y b) (sym ids ∙ sym (ap (λ (z : Rule). z.id) a.1)))
    | inr b ↦ a.0 ∙ sym b.0
  ]
]

-- ---- one rule after the other

pub added_none : AreAdded [] [] []
added_none = record {
  exact = λ r. (λ h. absurd h, λ h. elim h [ inl a ↦ absurd a | inr b ↦ absurd b ]);
  none = λ e. refl;
  alone = λ up. up;
  apart = λ up r s a b e. absurd a;
}

module _ (bs rs ns : List Rule) (r : Rule) (so_far : AreAdded bs rs ns) where
  -- it was there before
  added_same : AreAdded (bs ++ r ∷ []) (rs ++ r ∷ []) ns
  added_same = record {
    exact = λ x. (
      λ h. elim ((among_more rs r x).0 h) [
        | inl a ↦ elim ((so_far.exact x).0 a) [ inl b ↦ inl ((among_more bs r x).1 (inl b)) | inr c ↦ inr c ]
        | inr e ↦ inl ((among_more bs r x).1 (inr e))
      ],
      λ h. elim h [
        | inl a ↦ elim ((among_more bs r x).0 a) [ inl b ↦ (among_more rs r x).1 (inl ((so_far.exact x).1 (inl b))) | inr e ↦ (among_more rs r x).1 (inr e) ]
        | inr c ↦ (among_more rs r x).1 (inl ((so_far.exact x).1 (inr c)))
      ],
    );
    none = λ e. ap (λ (l : List Rule). l ++ r ∷ []) (so_far.none e);
    alone = λ up. so_far.alone (front_apart rs r up);
    apart = λ up x y a b ids. elim ((among_more bs r x).0 a) [
      | inl c ↦ so_far.apart (front_apart rs r up) x y c b ids
      | inr e ↦ last_apart rs r up y ((so_far.exact y).1 (inr b)) (sym ids ∙ ap (λ (z : Rule). z.id) (sym e))
    ];
  }

  -- it came
  added_new : AreAdded bs (rs ++ r ∷ []) (ns ++ r ∷ [])
  added_new = record {
    exact = λ x. (
      λ h. elim ((among_more rs r x).0 h) [
        | inl a ↦ elim ((so_far.exact x).0 a) [ inl b ↦ inl b | inr c ↦ inr ((among_more ns r x).1 (inl c)) ]
        | inr e ↦ inr ((among_more ns r x).1 (inr e))
      ],
      λ h. elim h [
        | inl b ↦ (among_more rs r x).1 (inl ((so_far.exact x).1 (inl b)))
        | inr a ↦ elim ((among_more ns r x).0 a) [ inl c ↦ (among_more rs r x).1 (inl ((so_far.exact x).1 (inr c))) | inr e ↦ (among_more rs r x).1 (inr e) ]
      ],
    );
    none = λ e. absurd (some_last ns e);
    alone = λ up. more_apart ns r (so_far.alone (front_apart rs r up)) (λ x a ids. last_apart rs r up x ((so_far.exact x).1 (inr a)) ids);
    apart = λ up x y a b ids. elim ((among_more ns r y).0 b) [
      | inl c ↦ so_far.apart (front_apart rs r up) x y a c ids
      | inr e ↦ last_apart rs r up x ((so_far.exact x).1 (inl a)) (ids ∙ ap (λ (z : Rule). z.id) (sym e))
    ];
  }
    where
      some_last : (xs : List Rule) → xs ++ r ∷ [] ≡ [] → ⊥
      some_last [] e = absurd cc
      some_last (x ∷ xs) e = absurd cc

-- ---- whether those before still run

-- then all but the first of them do
less_run : (b : Rule) (before running : List Rule) → StillRun (b ∷ before) running → StillRun before running
less_run b before [] h = absurd h
less_run b [] (r ∷ running) h = tt
less_run b (c ∷ before) (r ∷ running) h = elim h [ inl x ↦ inr x.1 | inr y ↦ inr (less_run b (c ∷ before) running y) ]

-- the first one of them is the first one that runs: no later one that is the same serves better
first_same : (r : Rule) (before running : List Rule) → StillRun (r ∷ before) (r ∷ running) ↔ StillRun before running
first_same r before running = (λ h. elim h [ inl x ↦ x.1 | inr y ↦ less_run r before running y ], λ h. inl (refl, h))

-- another one runs first
first_other : (r : Rule) (before running : List Rule) → (slice_get before 0 ≡ Some r → ⊥) → StillRun before (r ∷ running) ↔ StillRun before running
first_other r [] running other = (λ h. tt, λ h. tt)
first_other r (b ∷ before) running other = (λ h. elim h [ inl x ↦ absurd (other (ap (λ (z : Rule). Some z) x.0)) | inr y ↦ y ], λ h. inr h)

-- no rule runs
none_run : (before : List Rule) → 0 < length before → StillRun before [] → ⊥
none_run [] some h = absurd (omega (arith, some))
none_run (b ∷ before) some h = h

-- ---- the walk over the rules that run

-- So many of the rules before were found among the first ones that run. The rest of them run in the rest just where all of them still
-- run.
abbrev pub Walked : List Rule → List Rule → ℕ → ℕ → List Rule → Type 0
Walked before running next i added = AreAdded (take next before) (take i running) added × (next ≤ length before) × (StillRun (drop next before) (drop i running) ↔ StillRun before running)

take_got : (xs : List Rule) (i : ℕ) (x : Rule) → slice_get xs i ≡ Some x → take (i + 1) xs ≡ take i xs ++ x ∷ []
take_got xs i x e =
    let inside = get_inside xs i x e in
    let read : Some (get_or xs i x) ≡ Some x = sym (slice_get-get_or xs i x inside) ∙ e in
    let same : get_or xs i x ≡ x = cc in
    take_more xs i x inside ∙ ap (λ (y : Rule). take i xs ++ y ∷ []) same

drop_got : (xs : List Rule) (i : ℕ) (x : Rule) → slice_get xs i ≡ Some x → drop i xs ≡ x ∷ drop (i + 1) xs
drop_got xs i x e =
    let inside = get_inside xs i x e in
    let read : Some (get_or xs i x) ≡ Some x = sym (slice_get-get_or xs i x inside) ∙ e in
    let same : get_or xs i x ≡ x = cc in
    drop_more xs i x inside ∙ ap (λ (y : Rule). y ∷ drop (i + 1) xs) same

drop_first : (xs : List Rule) (i : ℕ) → slice_get (drop i xs) 0 ≡ slice_get xs i
drop_first xs zero = refl
drop_first [] (suc i) = refl
drop_first (x ∷ xs) (suc i) = drop_first xs i

module _ (before running : List Rule) (next i : ℕ) (added : List Rule) (r d : Rule) (lt : i < length running) (is : r ≡ get_or running i d) (far : Walked before running next i added) where
  one_more : take (i + 1) running ≡ take i running ++ r ∷ []
  one_more = take_more running i d lt ∙ ap (λ (x : Rule). take i running ++ x ∷ []) (sym is)

  one_less : drop i running ≡ r ∷ drop (i + 1) running
  one_less = drop_more running i d lt ∙ ap (λ (x : Rule). x ∷ drop (i + 1) running) (sym is)

  left : StillRun (drop next before) (r ∷ drop (i + 1) running) ↔ StillRun before running
  left = let P : List Rule → Type 0 = λ rs. StillRun (drop next before) rs ↔ StillRun before running in subst P one_less far.2

  -- it is the next one of those before
  pub walked_same : slice_get before next ≡ Some r → Walked before running (next + 1) (i + 1) added
  walked_same there =
      let inside = get_inside before next r there in
      let P : List Rule → Type 0 = λ bs. AreAdded bs (take (i + 1) running) added in
      let Q : List Rule → Type 0 = λ rs. AreAdded (take next before ++ r ∷ []) rs added in
      let R : List Rule → Type 0 = λ bs. StillRun bs (r ∷ drop (i + 1) running) ↔ StillRun before running in
      let rest = subst R (drop_got before next r there) left in
      let same = first_same r (drop (next + 1) before) (drop (i + 1) running) in (
        subst P (sym (take_got before next r there)) (subst Q (sym one_more) (added_same (take next before) (take i running) added r far.0)),
        omega (arith, inside),
        (λ h. rest.0 (same.1 h), λ all. same.0 (rest.1 all)),
      )

  -- it is another one
  pub walked_new : (slice_get before next ≡ Some r → ⊥) → (added' : List Rule) → added' ≡ added ++ r ∷ [] → Walked before running next (i + 1) added'
  walked_new other added' push =
      let P : List Rule → Type 0 = λ rs. AreAdded (take next before) rs added' in
      let Q : List Rule → Type 0 = λ ns. AreAdded (take next before) (take i running ++ r ∷ []) ns in
      let same = first_other r (drop next before) (drop (i + 1) running) (λ e. other (sym (drop_first before next) ∙ e)) in (
        subst P (sym one_more) (subst Q (sym push) (added_new (take next before) (take i running) added r far.0)),
        far.1,
        (λ h. left.0 (same.1 h), λ all. same.0 (left.1 all)),
      )

-- at the end some of those before weren't found
pub some_gone : (before running : List Rule) (next i : ℕ) (added : List Rule) → next < length before → length running ≤ i → Walked before running next i added → StillRun before running → ⊥
some_gone before running next i added some end far all =
    let P : List Rule → Type 0 = λ rs. StillRun (drop next before) rs in
    let left = length-drop next before in
    none_run (drop next before) (omega (arith, some, left)) (subst P (drop_of_length-le running end) (far.2.1 all))

-- ---- one step of the loop

module _ (before running : List Rule) (next next' i : ℕ) (added added' : List Rule) (r d : Rule) (lt : i < length running) (is : r ≡ get_or running i d) (far : Walked before running next i added) where
  pub step_same : (x : Rule) → slice_get before next ≡ Some x → x ≡ r → next' ≡ next + 1 → added' ≡ added → Walked before running next' (i + 1) added'
  step_same x there same on stays =
      let P : ℕ → Type 0 = λ n. Walked before running n (i + 1) added' in
      let Q : List Rule → Type 0 = λ xs. Walked before running (next + 1) (i + 1) xs in
      subst P (sym on) (subst Q (sym stays) (walked_same before running next i added r d lt is far (there ∙ ap (λ (y : Rule). Some y) same)))

  pub step_new : (slice_get before next ≡ Some r → ⊥) → next' ≡ next → added' ≡ added ++ r ∷ [] → Walked before running next' (i + 1) added'
  step_new other stays push = let P : ℕ → Type 0 = λ n. Walked before running n (i + 1) added' in subst P (sym stays) (walked_new before running next i added r d lt is far other added' push)
