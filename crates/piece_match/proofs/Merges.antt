-- Lists of members in order that become one.
use Rattle.std.proofs.Common.{◌≡◌, ◌⊎◌, inl, inr, ◌↔◌, ◌+◌, ◌-◌, ◌<◌, List, [], ◌∷◌, ◌++◌, length, length-append, get_or, reverse, refl, sym, ap, ◌∙◌, subst, arith}
use Rattle.std.specs.Prelude.{Option, None, Some, MatchOption, Result, Ok, Err, IfOk}
use Rattle.std.specs.Ordering.{MatchOrdering, ordering_reverse}
use Rattle.std.specs.declared.cmp.Ordering.{Ordering}
use Rattle.std.specs.declared.cmp.Ordering.TheVariants.{Less, Equal, Greater}
use Rattle.std.proofs.lemmas.List.{reverse-append}
use Rattle.node_match.specs.Sets.{Among}
use Rattle.sorted_sets.specs.Ends.{EndsWith}
use Rattle.sorted_sets.specs.Orders.{member_total, member_apart}
use Rattle.sorted_sets.proofs.Lasts.{among_front, among_end, among_snoc}
use Rattle.sorted_sets.proofs.Settling.{ends_at, one_last, no_end}
use Rattle.tree_match.specs.Ascending.{IsAscending}
use Rattle.tree_match.specs.Members.{Member, member_cmp}
use Rattle.tree_match.proofs.Ascents.{among_reverse}
use Rattle.piece_match.specs.Merging.{turned_cmp, IsFalling, AreBefore, EndsBefore, EndsAlike, TakesLeast, CanGoOn}

module _ {X : Type 0} (R : X → X → Ordering) where
  -- one item more at the end
  snoc_up : (xs : List X) (x : X) → IsAscending R xs → ((y : X) → Among xs y → R y x ≡ Less) → IsAscending R (xs ++ x ∷ [])
  snoc_up [] x up before = tt
  snoc_up (y ∷ []) x up before = (before y (inl refl), tt)
  snoc_up (y ∷ z ∷ zs) x up before = (up.0, snoc_up (z ∷ zs) x up.1 (λ w h. before w (inr h)))

module _ {X : Type 0} (R : X → X → Ordering) (trans : (x y z : X) → R x y ≡ Less → R y z ≡ Less → R x z ≡ Less) where
  -- what stands before the last item is in order, and comes before it
  front_up : (xs : List X) (x : X) → IsAscending R (xs ++ x ∷ []) → IsAscending R xs × ((y : X) → Among xs y → R y x ≡ Less)
  front_up [] x up = (tt, λ y h. absurd h)
  front_up (z ∷ []) x up = (tt, λ y h. elim h [ inl e ↦ (let P : X → Type 0 = λ w. R w x ≡ Less in subst P e up.0) | inr a ↦ absurd a ])
  front_up (z ∷ w ∷ ws) x up =
      let (rest, before) = front_up (w ∷ ws) x up.1 in
      let P : X → Type 0 = λ v. R v x ≡ Less in
      ((up.0, rest), λ y h. elim h [ inl e ↦ subst P e (trans z w x up.0 (before w (inl refl))) | inr a ↦ before y a ])

  first_up : (x : X) (xs : List X) (y : X) → IsAscending R (x ∷ xs) → Among xs y → R x y ≡ Less
  first_up x [] y up h = absurd h
  first_up x (z ∷ zs) y up (inl e) = let P : X → Type 0 = λ w. R x w ≡ Less in subst P e up.0
  first_up x (z ∷ zs) y up (inr h) = trans x z y up.0 (first_up z zs y up.1 h)

  tail_up : (x : X) (xs : List X) → IsAscending R (x ∷ xs) → IsAscending R xs
  tail_up x [] up = tt
  tail_up x (y ∷ ys) up = up.1

  reverse_falls : (xs : List X) → IsAscending R xs → IsAscending (λ x y. R y x) (reverse xs)
  reverse_falls [] up = tt
  reverse_falls (x ∷ xs) up =
      let P : List X → Type 0 = IsAscending (λ x y. R y x) in
      subst P (sym (reverse-append (x ∷ []) xs)) (snoc_up (λ x y. R y x) (reverse xs) x (reverse_falls xs (tail_up x xs up)) (λ y h. first_up x xs y up ((among_reverse xs y).0 h)))

trans : (x y z : Member) → member_cmp x y ≡ Less → member_cmp y z ≡ Less → member_cmp x z ≡ Less
trans = member_total.trans

turned_trans : (x y z : Member) → turned_cmp x y ≡ Less → turned_cmp y z ≡ Less → turned_cmp x z ≡ Less
turned_trans x y z e f = trans z y x f e

last_or_none : {X : Type 0} (xs : List X) → (xs ≡ []) ⊎ ((ys : List X) × (x : X) × (xs ≡ ys ++ x ∷ []))
last_or_none [] = inl refl
last_or_none {X} (x ∷ xs) = elim (last_or_none xs) [
  | inl e ↦ inr ([], x, ap (λ (zs : List X). x ∷ zs) e)
  | inr (ys, y, e) ↦ inr (x ∷ ys, y, ap (λ (zs : List X). x ∷ zs) e)
]

pub some_last : {X : Type 0} (xs : List X) → 0 < length xs → (x : X) × EndsWith xs x
some_last xs lt = elim (last_or_none xs) [
  | inl e ↦ absurd (omega (arith, lt, ap length e))
  | inr (ys, x, e) ↦ (x, (ys, e))
]

pub never_last : {X : Type 0} (xs : List X) (x : X) → xs ≡ [] → EndsWith xs x → ⊥
never_last xs x e h = no_end xs x (ap length e) h

-- what comes before the last of a falling list comes before all of it
below_all : (ys : List Member) (x : Member) → IsFalling ys → ((y : Member) → EndsWith ys y → member_cmp x y ≡ Less) → (y : Member) → Among ys y → member_cmp x y ≡ Less
below_all ys x falls before y a = elim (last_or_none ys) [
  | inl e ↦ absurd (let P : List Member → Type 0 = λ zs. Among zs y in subst P e a)
  | inr (zs, l, e) ↦ (
      let P : List Member → Type 0 = λ ws. Among ws y in
      let Q : Member → Type 0 = λ w. member_cmp x w ≡ Less in
      let f = front_up turned_cmp turned_trans zs l (subst IsFalling e falls) in
      elim (among_snoc zs l y (subst P e a)) [ inl b ↦ trans x l y (before l (zs, e)) (f.1 y b) | inr g ↦ subst Q g (before l (zs, e)) ])
]

-- the items of a list whose last is taken off
taken_off : (xs ys : List Member) (x y : Member) → xs ≡ ys ++ x ∷ [] → Among xs y ↔ ((x ≡ y) ⊎ Among ys y)
taken_off xs ys x y e =
    let P : List Member → Type 0 = λ zs. Among zs y ↔ ((x ≡ y) ⊎ Among ys y) in
    let Q : Member → Type 0 = λ w. Among (ys ++ x ∷ []) w in
    subst P (sym e) (
      λ a. elim (among_snoc ys x y a) [ inl b ↦ inr b | inr f ↦ inl f ],
      λ h. elim h [ inl f ↦ subst Q f (among_end ys x) | inr b ↦ among_front ys x y b ],
    )

swapped : (left right left' right' : List Member) (x : Member) → TakesLeast right left right' left' x → TakesLeast left right left' right' x
swapped left right left' right' x t =
    let few = t.fewer in
    record {
      left_falls = t.right_falls;
      right_falls = t.left_falls;
      least = λ y h. t.least y (turn y h);
      same = λ y. (
        λ h. elim ((t.same y).0 (elim h [ inl a ↦ inr a | inr b ↦ inl b ])) [ inl e ↦ inl e | inr k ↦ inr (elim k [ inl a ↦ inr a | inr b ↦ inl b ]) ],
        λ h. elim ((t.same y).1 (elim h [ inl e ↦ inl e | inr k ↦ inr (elim k [ inl a ↦ inr a | inr b ↦ inl b ]) ])) [ inl a ↦ inr a | inr b ↦ inl b ],
      );
      fewer = omega (arith, few);
    }
  where
    turn : (y : Member) → Among left' y ⊎ Among right' y → Among right' y ⊎ Among left' y
    turn y (inl a) = inr a
    turn y (inr b) = inl b

took_left : (left right left' : List Member) (x : Member) → IsFalling left → IsFalling right → EndsBefore left right → left ≡ left' ++ x ∷ [] → TakesLeast left right left' right x
took_left left right left' x falls falls' (z, last, before) is =
    let same = one_last left z x last (left', is) in
    let front = front_up turned_cmp turned_trans left' x (subst IsFalling is falls) in
    let behind = below_all right x falls' (λ y l. let P : Member → Type 0 = λ w. member_cmp w y ≡ Less in subst P same (before y l)) in
    record {
      left_falls = front.0;
      right_falls = falls';
      least = λ y h. elim h [ inl a ↦ front.1 y a | inr b ↦ behind y b ];
      same = λ y. (
        λ h. elim h [ inl a ↦ elim ((taken_off left left' x y is).0 a) [ inl e ↦ inl e | inr b ↦ inr (inl b) ] | inr b ↦ inr (inr b) ],
        λ h. elim h [ inl e ↦ inl ((taken_off left left' x y is).1 (inl e)) | inr k ↦ elim k [ inl a ↦ inl ((taken_off left left' x y is).1 (inr a)) | inr b ↦ inr b ] ],
      );
      fewer = omega (arith, ap length is, length-append left' (x ∷ []));
    }

took_both : (left right left' right' : List Member) (x y z : Member) → IsFalling left → IsFalling right → z ≡ x → z ≡ y → left ≡ left' ++ x ∷ [] → right ≡ right' ++ y ∷ [] → TakesLeast left right left' right' y
took_both left right left' right' x y z falls falls' e f is is' =
    let here : x ≡ y = sym e ∙ f in
    let front = front_up turned_cmp turned_trans left' x (subst IsFalling is falls) in
    let front' = front_up turned_cmp turned_trans right' y (subst IsFalling is' falls') in
    record {
      left_falls = front.0;
      right_falls = front'.0;
      least = λ w h. elim h [ inl a ↦ (let P : Member → Type 0 = λ v. member_cmp v w ≡ Less in subst P here (front.1 w a)) | inr b ↦ front'.1 w b ];
      same = λ w. (
        λ h. elim h [
          | inl a ↦ elim ((taken_off left left' x w is).0 a) [ inl g ↦ inl (sym here ∙ g) | inr b ↦ inr (inl b) ]
          | inr a ↦ elim ((taken_off right right' y w is').0 a) [ inl g ↦ inl g | inr b ↦ inr (inr b) ]
        ],
        λ h. elim h [
          | inl g ↦ inr ((taken_off right right' y w is').1 (inl g))
          | inr k ↦ elim k [ inl a ↦ inl ((taken_off left left' x w is).1 (inr a)) | inr b ↦ inr ((taken_off right right' y w is').1 (inr b)) ]
        ],
      );
      fewer = omega (arith, ap length is, length-append left' (x ∷ []), ap length is', length-append right' (y ∷ []));
    }

-- what `pop` says
abbrev pub Pops : List Member → List Member → Option Member → Type 0
Pops old new r = MatchOption r ((old ≡ []) × (new ≡ [])) (λ x. old ≡ new ++ x ∷ [])

pub take_less : (r : Option Member) (left right left' : List Member) → IsFalling left → IsFalling right → EndsBefore left right → Pops left left' r
    → MatchOption r ((left ≡ []) × (right ≡ [])) (λ m. TakesLeast left right left' right m)
take_less None left right left' f g ends pops = absurd (never_last left ends.0 pops.0 ends.1)
take_less (Some x) left right left' f g ends pops = took_left left right left' x f g ends pops

pub take_greater : (r : Option Member) (left right right' : List Member) → IsFalling left → IsFalling right → EndsBefore right left → Pops right right' r
    → MatchOption r ((left ≡ []) × (right ≡ [])) (λ m. TakesLeast left right left right' m)
take_greater None left right right' f g ends pops = absurd (never_last right ends.0 pops.0 ends.1)
take_greater (Some x) left right right' f g ends pops = swapped left right left right' x (took_left right left right' x g f ends pops)

pub take_equal : (q r : Option Member) (left right left' right' : List Member) → IsFalling left → IsFalling right → EndsAlike left right → Pops left left' q → Pops right right' r
    → MatchOption r ((left ≡ []) × (right ≡ [])) (λ m. TakesLeast left right left' right' m)
take_equal q None left right left' right' f g (inl ends) a b = ends
take_equal q None left right left' right' f g (inr (z, l, m)) a b = absurd (never_last right z b.0 m)
take_equal q (Some y) left right left' right' f g (inl ends) a b = absurd (never_last right y ends.1 (right', b))
take_equal None (Some y) left right left' right' f g (inr (z, l, m)) a b = absurd (never_last left z a.0 l)
take_equal (Some x) (Some y) left right left' right' f g (inr (z, l, m)) a b =
    took_both left right left' right' x y z f g (one_last left z x l (left', a)) (one_last right z y m (right', b)) a b

-- ---- ends that meet

pub first_before : (xs ys : List Member) (x y : Member) → IsAscending member_cmp xs → IsAscending member_cmp ys → 0 < length xs → x ≡ get_or xs (length xs - 1) x → y ≡ get_or ys 0 y → member_cmp x y ≡ Less → AreBefore xs ys
first_before xs [] x y up up' some is is' less a b h k = absurd k
first_before xs (z ∷ zs) x y up up' some is is' less a b h k = before
  where
    last : EndsWith xs x
    last = ends_at xs x some is

    to_first : member_cmp a y ≡ Less
    to_first =
        let P : List Member → Type 0 = λ ws. Among ws a in
        let Q : Member → Type 0 = λ w. member_cmp w y ≡ Less in
        let front = front_up member_cmp trans last.0 x (let O : List Member → Type 0 = IsAscending member_cmp in subst O last.1 up) in
        elim (among_snoc last.0 x a (subst P last.1 h)) [ inl c ↦ trans a x y (front.1 a c) less | inr e ↦ subst Q e less ]

    before : member_cmp a b ≡ Less
    before = elim k [
      | inl e ↦ (let P : Member → Type 0 = λ w. member_cmp a w ≡ Less in subst P (is' ∙ e) to_first)
      | inr c ↦ (let P : Member → Type 0 = λ w. member_cmp a w ≡ Less in trans a z b (subst P is' to_first) (first_up member_cmp trans z zs b up' c))
    ]

-- how two last members compare
ends_by : (o : Ordering) (left right : List Member) (x y : Member) → EndsWith left x → EndsWith right y → o ≡ member_cmp x y → MatchOrdering o (EndsBefore left right) (EndsAlike left right) (EndsBefore right left)
ends_by Less left right x y l r e = (x, l, λ z h. let P : Member → Type 0 = λ w. member_cmp x w ≡ Less in subst P (one_last right y z r h) (sym e))
ends_by Equal left right x y l r e = let P : Member → Type 0 = EndsWith right in inr (x, l, subst P (sym (member_apart x y (sym e))) r)
ends_by Greater left right x y l r e =
    let less : member_cmp y x ≡ Less = member_total.antisymm y x ∙ ap ordering_reverse (sym e) in
    (y, r, λ z h. let P : Member → Type 0 = λ w. member_cmp y w ≡ Less in subst P (one_last left x z l h) less)

pub ends_ordered : {E : Type 0} (r : Result Ordering E) (left right : List Member) (x y : Member) → 0 < length left → 0 < length right → x ≡ get_or left (length left - 1) x → y ≡ get_or right (length right - 1) y
    → IfOk r (λ o. o ≡ member_cmp x y) → IfOk r (λ o. MatchOrdering o (EndsBefore left right) (EndsAlike left right) (EndsBefore right left))
ends_ordered (Ok o) left right x y some some' is is' e = ends_by o left right x y (ends_at left x some is) (ends_at right y some' is') e
ends_ordered (Err e) left right x y some some' is is' f = tt

-- ---- going on

pub go_step : (done left right left' right' done' : List Member) (x : Member) → CanGoOn done left right → TakesLeast left right left' right' x → done' ≡ done ++ x ∷ [] → CanGoOn done' left' right'
go_step done left right left' right' done' x can t e =
    let P : List Member → Type 0 = λ ds. CanGoOn ds left' right' in
    subst P (sym e) (record {
      ordered = snoc_up member_cmp done x can.ordered (λ y h. behind y x h ((t.same x).1 (inl refl)));
      left_falls = t.left_falls;
      right_falls = t.right_falls;
      left_behind = λ y z h k. after y z h (inl k);
      right_behind = λ y z h k. after y z h (inr k);
    })
  where
    behind : (y z : Member) → Among done y → Among left z ⊎ Among right z → member_cmp y z ≡ Less
    behind y z h (inl a) = can.left_behind y z h a
    behind y z h (inr b) = can.right_behind y z h b

    after : (y z : Member) → Among (done ++ x ∷ []) y → Among left' z ⊎ Among right' z → member_cmp y z ≡ Less
    after y z h k = elim (among_snoc done x y h) [
      | inl a ↦ behind y z a ((t.same z).1 (inr k))
      | inr f ↦ (let Q : Member → Type 0 = λ w. member_cmp w z ≡ Less in subst Q f (t.least z k))
    ]

pub go_same : (done left right left' right' done' : List Member) (x : Member) → TakesLeast left right left' right' x → done' ≡ done ++ x ∷ [] → (W : Type 0) (m : Member)
    → ((Among done m ⊎ (Among left m ⊎ Among right m)) ↔ W) → ((Among done' m ⊎ (Among left' m ⊎ Among right' m)) ↔ W)
go_same done left right left' right' done' x t e W m all =
    let P : List Member → Type 0 = λ ds. (Among ds m ⊎ (Among left' m ⊎ Among right' m)) ↔ W in
    let Q : Member → Type 0 = Among (done ++ x ∷ []) in
    subst P (sym e) (
      λ h. elim h [
        | inl a ↦ elim (among_snoc done x m a) [ inl b ↦ all.0 (inl b) | inr f ↦ all.0 (inr ((t.same m).1 (inl f))) ]
        | inr k ↦ all.0 (inr ((t.same m).1 (inr k)))
      ],
      λ w. elim (all.1 w) [
        | inl a ↦ inl (among_front done x m a)
        | inr k ↦ elim ((t.same m).0 k) [ inl f ↦ inl (subst Q f (among_end done x)) | inr r ↦ inr r ]
      ],
    )

-- ---- starting

pub start_behind : (first none others turned : List Member) → IsAscending member_cmp first → IsAscending member_cmp others → AreBefore first others → none ≡ [] → turned ≡ reverse others → CanGoOn first none turned
start_behind first none others turned up up' before e f =
    let P : List Member → Type 0 = λ ns. CanGoOn first ns turned in
    let Q : List Member → Type 0 = λ ts. CanGoOn first [] ts in
    subst P (sym e) (subst Q (sym f) (record {
      ordered = up;
      left_falls = tt;
      right_falls = reverse_falls member_cmp trans others up';
      left_behind = λ x y h k. absurd k;
      right_behind = λ x y h k. before x y h ((among_reverse others y).0 k);
    }))

pub start_both : (none first others turned turned' : List Member) → IsAscending member_cmp first → IsAscending member_cmp others → none ≡ [] → turned ≡ reverse first → turned' ≡ reverse others → CanGoOn none turned turned'
start_both none first others turned turned' up up' e f g =
    let P : List Member → Type 0 = λ ns. CanGoOn ns turned turned' in
    let Q : List Member → Type 0 = λ ts. CanGoOn [] ts turned' in
    let R : List Member → Type 0 = λ ts. CanGoOn [] (reverse first) ts in
    subst P (sym e) (subst Q (sym f) (subst R (sym g) (record {
      ordered = tt;
      left_falls = reverse_falls member_cmp trans first up;
      right_falls = reverse_falls member_cmp trans others up';
      left_behind = λ x y h k. absurd h;
      right_behind = λ x y h k. absurd h;
    })))

-- the items of a list that was turned
turned_as : (xs turned : List Member) (m : Member) → turned ≡ reverse xs → Among turned m ↔ Among xs m
turned_as xs turned m e = let P : List Member → Type 0 = λ ts. Among ts m ↔ Among xs m in subst P (sym e) (among_reverse xs m)

none_as : (none : List Member) (m : Member) → none ≡ [] → Among none m → ⊥
none_as none m e h = let P : List Member → Type 0 = λ ns. Among ns m in subst P e h

pub end_behind : (first none others turned : List Member) (m : Member) (W : Type 0) → none ≡ [] → turned ≡ reverse others → ((Among first m ⊎ (Among none m ⊎ Among turned m)) ↔ W) → ((Among first m ⊎ Among others m) ↔ W)
end_behind first none others turned m W e f all = (
  λ h. elim h [ inl a ↦ all.0 (inl a) | inr b ↦ all.0 (inr (inr ((turned_as others turned m f).1 b))) ],
  λ w. elim (all.1 w) [ inl a ↦ inl a | inr k ↦ elim k [ inl n ↦ absurd (none_as none m e n) | inr b ↦ inr ((turned_as others turned m f).0 b) ] ],
)

pub end_both : (none first others turned turned' : List Member) (m : Member) (W : Type 0) → none ≡ [] → turned ≡ reverse first → turned' ≡ reverse others → ((Among none m ⊎ (Among turned m ⊎ Among turned' m)) ↔ W)
    → ((Among first m ⊎ Among others m) ↔ W)
end_both none first others turned turned' m W e f g all = (
  λ h. elim h [ inl a ↦ all.0 (inr (inl ((turned_as first turned m f).1 a))) | inr b ↦ all.0 (inr (inr ((turned_as others turned' m g).1 b))) ],
  λ w. elim (all.1 w) [ inl n ↦ absurd (none_as none m e n) | inr k ↦ elim k [ inl a ↦ inl ((turned_as first turned m f).0 a) | inr b ↦ inr ((turned_as others turned' m g).0 b) ] ],
)

pub one_taken : (o : Option Member) (x : Member) (left right left' right' : List Member) → o ≡ Some x → MatchOption o ((left ≡ []) × (right ≡ [])) (λ m. TakesLeast left right left' right' m) → TakesLeast left right left' right' x
one_taken o x left right left' right' e h = let P : Option Member → Type 0 = λ q. MatchOption q ((left ≡ []) × (right ≡ [])) (λ m. TakesLeast left right left' right' m) in subst P e h

pub ok_as : {X E : Type 0} (P Q : X → Type 0) (r : Result X E) → ((x : X) → P x → Q x) → IfOk r P → IfOk r Q
ok_as P Q (Ok x) f h = f x h
ok_as P Q (Err e) f h = tt
