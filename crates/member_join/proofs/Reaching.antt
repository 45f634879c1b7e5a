-- The states of the operands, one operand after another.
use Rattle.std.proofs.Common.{◌≡◌, ◌⊎◌, ◌↔◌, ◌≤◌, ◌<◌, inl, inr, ℕ, zero, suc, ◌+◌, List, [], ◌∷◌, ◌++◌, length, map, take, drop, get_or, refl, sym, ap, ◌∙◌, subst, true, arith}
use Rattle.std.specs.Prelude.{Option, None, Some, max, min, ◌&&◌}
use Rattle.std.proofs.lemmas.List.{append-nil, take-append-drop, take_more, drop_all}
use Rattle.node_tree.specs.declared.span.Span.{Span}
use Rattle.meta_bind.proofs.Lookups.{opened}
use Rattle.node_match.specs.Sets.{Among}
use Rattle.tree_match.specs.Members.{Member}
use Rattle.node_match.proofs.Sets.{among_at}
use Rattle.member_join.specs.declared.state.State.{State}
use Rattle.member_join.specs.declared.operand.Operand.{Operand}
use Rattle.member_join.specs.declared.operand.Role.TheVariants.{Plain, Inside}
use Rattle.member_join.specs.declared.fault.EvalFault.{EvalFault}
use Rattle.member_join.specs.declared.fault.EvalFault.TheVariants as faults
use Rattle.sorted_sets.specs.Sizes.{Each}
use Rattle.member_join.specs.Choices.{NoneOf, IsChoice, IsCounted, range_of}
use Rattle.member_join.specs.Joins.{meet, same_range, joined, IsJoined, IsNeeded, HasRange}
use Rattle.member_join.specs.Limits.{Search, Nothing, Then, OneSet, IsFaultFrom}
use Rattle.member_join.specs.Operands.{Ascends, OperandsAscend, ChosenFrom, IsReached, IsBegun, WithBytes, PlainFronts, InsideFronts, Fronts}
use Rattle.member_join.proofs.Names.{AllAscend, none_ascend, first_ascends}
use Rattle.member_join.proofs.Choosing.{Splits, IsMore, AllSome, span_is, and_both, or_one, same_range_is, plain_to, plain_from, inside_to, inside_from, begun_to, begun_from}
use Rattle.member_join.proofs.Limits.{one_set_as, fault_as}

-- ---- lists of one member of each operand

put_last : (os : List Operand) (x : Operand) (ms : List Member) (m : Member) → ChosenFrom os ms → Among x.members.now m → ChosenFrom (os ++ x ∷ []) (ms ++ m ∷ [])
put_last [] x [] m h k = (k, refl)
put_last [] x (n ∷ ns) m h k = absurd cc
put_last (o ∷ os) x [] m h k = elim h [ ]
put_last (o ∷ os) x (n ∷ ns) m h k = (h.0, put_last os x ns m h.1 k)

split_last : (os : List Operand) (x : Operand) (ms : List Member) → ChosenFrom (os ++ x ∷ []) ms → Splits (ChosenFrom os) x.members.now ms
split_last [] x [] h = elim h [ ]
split_last [] x (m ∷ ms) h = record { front = []; last = m; parts = ap (λ (t : List Member). m ∷ t) h.1; before = refl; among = h.0 }
split_last (o ∷ os) x [] h = elim h [ ]
split_last (o ∷ os) x (m ∷ ms) h =
    let r = split_last os x ms h.1 in
    record { front = m ∷ r.front; last = r.last; parts = ap (λ (t : List Member). m ∷ t) r.parts; before = (h.0, r.before); among = r.among }

chosen_more : (os : List Operand) (x : Operand) → IsMore (ChosenFrom os) x.members.now (ChosenFrom (os ++ x ∷ []))
chosen_more os x = record { put = put_last os x; split = split_last os x }

chosen_ascend : (os : List Operand) → OperandsAscend os → AllAscend (ChosenFrom os)
chosen_ascend [] up ms h = none_ascend ms h
chosen_ascend (o ∷ os) up ms h = first_ascends (Among o.members.now) (ChosenFrom os) (up o (inl refl)) (chosen_ascend os (λ x k. up x (inr k))) ms h

chosen_some : (o : Operand) (os : List Operand) → AllSome (ChosenFrom (o ∷ os))
chosen_some o os [] h = elim h [ ]
chosen_some o os (m ∷ rest) h = (m, rest, refl)

-- ---- no operand

pub no_choice : (s : State) → IsChoice (ChosenFrom []) (ChosenFrom []) s → ⊥
no_choice s h = at h.chosen h.around h.plain_members h.inside_members h.range.begins.0 h.range.begins.1
  where
    at : (c a : List Member) → c ≡ [] → a ≡ [] → (r : Span) → Among (map range_of (c ++ a)) r → ⊥
    at [] [] e f r k = k
    at [] (m ∷ ms) e f r k = cc
    at (m ∷ ms) a e f r k = cc

pub none_reached : (plains insides : List Operand) (states : List State) → plains ≡ [] → insides ≡ [] → states ≡ [] → (s : State) → Among states s ↔ IsReached plains insides [] s
none_reached plains insides states e f g s =
    let P : List State → Type 0 = λ xs. Among xs s ↔ IsReached plains insides [] s in
    let Q : List Operand → Type 0 = λ os. ⊥ ↔ IsReached os insides [] s in
    let R : List Operand → Type 0 = λ os. ⊥ ↔ IsReached [] os [] s in
    subst P (sym g) (subst Q (sym e) (subst R (sym f) (λ h. elim h [ ], λ h. no_choice s h.0)))

pub none_searched : (plains insides : List Operand) → plains ≡ [] → insides ≡ [] → Fronts plains insides None
none_searched plains insides e f =
    let Q : List Operand → Type 0 = λ os. Fronts os insides None in
    let R : List Operand → Type 0 = λ os. Fronts [] os None in
    subst Q (sym e) (subst R (sym f) (refl, refl))

-- ---- what is needed later was needed before

order : (a b : ℕ) → (a < b) ⊎ (b ≤ a)
order a b = grind arith

shrinks : (b : State) (m : Member) → max b.range.from m.0.from ≡ min b.range.to m.0.to → b.range.to ≤ b.range.from → (b.range.from ≡ b.range.to) × (meet b.range m.0 ≡ b.range)
shrinks b m e le = (omega (arith, e, le), span_is (meet b.range m.0) b.range (omega (arith, e, le)) (omega (arith, e, le)))

needed_plain : (x : Operand) (later : List Operand) (b : State) (m : Member) → Among x.members.now m → IsNeeded later (joined Plain b m) → IsNeeded (x ∷ later) b
needed_plain x later b m k (inl bytes) = inl (omega (arith, bytes))
needed_plain x later b m k (inr (e, why)) = at (order b.range.from b.range.to)
  where
    at : (b.range.from < b.range.to) ⊎ (b.range.to ≤ b.range.from) → IsNeeded (x ∷ later) b
    at (inl lt) = inl lt
    at (inr le) = inr (same.0, cases why)
      where
        same : (b.range.from ≡ b.range.to) × (meet b.range m.0 ≡ b.range)
        same = shrinks b m e le

        mark : ((b.marked && same_range (meet b.range m.0) b.range) ≡ true) ⊎ (same_range (meet b.range m.0) m.0 ≡ true) → (b.marked ≡ true) ⊎ HasRange (x ∷ later) b.range
        mark (inl f) = inl (and_both _ _ f).0
        mark (inr f) = inr (x, inl refl, (m, k, sym (same_range_is (meet b.range m.0) m.0 f) ∙ same.1))

        cases : ((joined Plain b m).marked ≡ true) ⊎ HasRange later (meet b.range m.0) → (b.marked ≡ true) ⊎ HasRange (x ∷ later) b.range
        cases (inl f) = mark (or_one _ _ f)
        cases (inr f) = inr (f.0, inr f.1, (f.2.0, f.2.1, f.2.2 ∙ same.1))

needed_inside : (b : State) (m : Member) → IsNeeded [] (joined Inside b m) → IsNeeded [] b
needed_inside b m (inl bytes) = inl (omega (arith, bytes))
needed_inside b m (inr (e, inr f)) = elim f.1 [ ]
needed_inside b m (inr (e, inl f)) = at (order b.range.from b.range.to)
  where
    at : (b.range.from < b.range.to) ⊎ (b.range.to ≤ b.range.from) → IsNeeded [] b
    at (inl lt) = inl lt
    at (inr le) = inr ((shrinks b m e le).0, inl (and_both _ _ f).0)

-- ---- a step

module _ (later : List Operand) (Set Joined : State → Type 0) (to : (s : State) → Joined s → Set s) (from : (s : State) → Set s → IsNeeded later s → Joined s) where
  needed_both : (s : State) → (Joined s × IsNeeded later s) ↔ (Set s × IsNeeded later s)
  needed_both s = (λ h. (to s h.0, h.1), λ h. (from s h.0 h.1, h.1))

  bytes_both : (s : State) → WithBytes Joined s ↔ WithBytes Set s
  bytes_both s = (λ h. (to s h.0, h.1), λ h. (from s h.0 (inl h.1), h.1))

module _ (o : Operand) (os : List Operand) (x : Operand) (later : List Operand) (before : List State) (up : OperandsAscend (o ∷ os)) (ux : Each Ascends x.members.now) (exact : (s : State) → Among before s ↔ IsReached (o ∷ os) [] (x ∷ later) s) where
  abbrev Whole : State → Type 0
  Whole s = IsChoice (ChosenFrom ((o ∷ os) ++ x ∷ [])) (ChosenFrom []) s

  plain_there : (s : State) → IsJoined Plain before x.members.now s → Whole s
  plain_there s h =
      let m = h.2.0 in
      let P : State → Type 0 = Whole in
      subst P h.2.2.1 (plain_to (ChosenFrom (o ∷ os)) (ChosenFrom ((o ∷ os) ++ x ∷ [])) x.members.now (chosen_more (o ∷ os) x) (chosen_ascend (o ∷ os) up) ux h.0 m ((exact h.0).0 h.1).0 h.2.1 h.2.2.0)

  plain_back : (s : State) → Whole s → IsNeeded later s → IsJoined Plain before x.members.now s
  plain_back s h n =
      let c = plain_from (ChosenFrom (o ∷ os)) (ChosenFrom ((o ∷ os) ++ x ∷ [])) x.members.now (chosen_more (o ∷ os) x) (chosen_ascend (o ∷ os) up) ux (chosen_some o os) s h in
      let P : State → Type 0 = IsNeeded later in
      (c.state, (exact c.state).1 (c.before, needed_plain x later c.state c.member c.among (subst P (sym c.is) n)), (c.member, c.among, (c.agrees, c.is)))

  plain_step : (s : State) → (IsJoined Plain before x.members.now s × IsNeeded later s) ↔ IsReached ((o ∷ os) ++ x ∷ []) [] later s
  plain_step = needed_both later Whole (IsJoined Plain before x.members.now) plain_there plain_back

  plain_counts : (s : State) → WithBytes (IsJoined Plain before x.members.now) s ↔ IsCounted (ChosenFrom ((o ∷ os) ++ x ∷ [])) NoneOf s
  plain_counts = bytes_both later Whole (IsJoined Plain before x.members.now) plain_there plain_back

module _ (o : Operand) (os done : List Operand) (x : Operand) (before : List State) (up : OperandsAscend (o ∷ os)) (ud : OperandsAscend done) (ux : Each Ascends x.members.now) (exact : (s : State) → Among before s ↔ IsReached (o ∷ os) done [] s) where
  abbrev WholeInside : State → Type 0
  WholeInside s = IsChoice (ChosenFrom (o ∷ os)) (ChosenFrom (done ++ x ∷ [])) s

  inside_there : (s : State) → IsJoined Inside before x.members.now s → WholeInside s
  inside_there s h =
      let m = h.2.0 in
      let P : State → Type 0 = WholeInside in
      subst P h.2.2.1 (inside_to (ChosenFrom (o ∷ os)) (ChosenFrom done) (ChosenFrom (done ++ x ∷ [])) x.members.now (chosen_more done x) (chosen_ascend (o ∷ os) up) (chosen_ascend done ud) ux h.0 m ((exact h.0).0 h.1).0 h.2.1 h.2.2.0)

  inside_back : (s : State) → WholeInside s → IsNeeded [] s → IsJoined Inside before x.members.now s
  inside_back s h n =
      let c = inside_from (ChosenFrom (o ∷ os)) (ChosenFrom done) (ChosenFrom (done ++ x ∷ [])) x.members.now (chosen_more done x) (chosen_ascend (o ∷ os) up) (chosen_ascend done ud) ux (chosen_some o os) s h in
      let P : State → Type 0 = IsNeeded [] in
      (c.state, (exact c.state).1 (c.before, needed_inside c.state c.member (subst P (sym c.is) n)), (c.member, c.among, (c.agrees, c.is)))

  inside_step : (s : State) → (IsJoined Inside before x.members.now s × IsNeeded [] s) ↔ IsReached (o ∷ os) (done ++ x ∷ []) [] s
  inside_step = needed_both [] WholeInside (IsJoined Inside before x.members.now) inside_there inside_back

  inside_counts : (s : State) → WithBytes (IsJoined Inside before x.members.now) s ↔ IsCounted (ChosenFrom (o ∷ os)) (ChosenFrom (done ++ x ∷ [])) s
  inside_counts = bytes_both [] WholeInside (IsJoined Inside before x.members.now) inside_there inside_back

module _ (o : Operand) (later : List Operand) where
  abbrev First : State → Type 0
  First s = IsChoice (ChosenFrom (o ∷ [])) (ChosenFrom []) s

  begun_there : (s : State) → IsBegun o.members.now s → First s
  begun_there s h = begun_to (ChosenFrom (o ∷ [])) s h.0 (h.1, refl) h.2

  one_alone : (ms : List Member) → ChosenFrom (o ∷ []) ms → (m : Member) × (ms ≡ m ∷ [])
  one_alone [] h = elim h [ ]
  one_alone (m ∷ ms) h = (m, ap (λ (t : List Member). m ∷ t) h.1)

  begun_back : (s : State) → First s → IsNeeded later s → IsBegun o.members.now s
  begun_back s h n = let c = begun_from (ChosenFrom (o ∷ [])) s h one_alone in (c.0, c.1.0, c.2)

  begun_step : (s : State) → (IsBegun o.members.now s × IsNeeded later s) ↔ IsReached (o ∷ []) [] later s
  begun_step = needed_both later First (IsBegun o.members.now) begun_there begun_back

  begun_counts : (s : State) → WithBytes (IsBegun o.members.now) s ↔ IsCounted (ChosenFrom (o ∷ [])) NoneOf s
  begun_counts = bytes_both later First (IsBegun o.members.now) begun_there begun_back

-- ---- searches

then_next : (A B : Search) → A None → (o : Option (List ℕ)) → B o → Then A B o
then_next A B a None b = (a, b)
then_next A B a (Some p) b = inr (a, b)

then_deeper : (A B C : Search) → A None → (o : Option (List ℕ)) → Then B C o → Then (Then A B) C o
then_deeper A B C a None h = ((a, h.0), h.1)
then_deeper A B C a (Some p) (inl b) = inl (inr (a, b))
then_deeper A B C a (Some p) (inr h) = inr ((a, h.0), h.1)

-- ---- the loop over the plain operands

pub record PlainGoing (plains insides done left : List Operand) (states : List State) : Type 0 where
  pub exact : (s : State) → Among states s ↔ IsReached done [] left s
  pub search : (o : Option (List ℕ)) → Then (PlainFronts done left) (InsideFronts plains [] insides) o → Fronts plains insides o

abbrev Counted : List Operand → List Operand → State → Type 0
Counted plains insides = IsCounted (ChosenFrom plains) (ChosenFrom insides)

chain : {A B C : Type 0} → (A ↔ B) → (B ↔ C) → (A ↔ C)
chain f g = (λ a. g.0 (f.0 a), λ c. f.1 (g.1 c))

module _ (first : Operand) (rest insides : List Operand) where
  pub going_start : (states : List State) → ((s : State) → Among states s ↔ (IsBegun first.members.now s × IsNeeded rest s)) → OneSet (first.number ∷ []) (WithBytes (IsBegun first.members.now)) None
      → PlainGoing (first ∷ rest) insides (first ∷ []) rest states
  going_start states exact few = record {
    exact = λ s. chain (exact s) (begun_step first rest s);
    search = then_deeper (OneSet (first.number ∷ []) (Counted (first ∷ []) [])) (PlainFronts (first ∷ []) rest) (InsideFronts (first ∷ rest) [] insides) (one_set_as (first.number ∷ []) (WithBytes (IsBegun first.members.now)) (Counted (first ∷ []) []) (begun_counts first rest) None few);
  }

  pub start_fault : (e : EvalFault) → IsFaultFrom (OneSet (first.number ∷ []) (WithBytes (IsBegun first.members.now))) e → IsFaultFrom (Fronts (first ∷ rest) insides) e
  start_fault e h =
      fault_as (OneSet (first.number ∷ []) (WithBytes (IsBegun first.members.now))) (Fronts (first ∷ rest) insides)
      (λ p k. inl (inl (one_set_as (first.number ∷ []) (WithBytes (IsBegun first.members.now)) (Counted (first ∷ []) []) (begun_counts first rest) (Some p) k))) e h

module _ (plains insides : List Operand) (o : Operand) (os : List Operand) (x : Operand) (left : List Operand) (states : List State) (up : OperandsAscend (o ∷ os)) (ux : Each Ascends x.members.now) (going : PlainGoing plains insides (o ∷ os) (x ∷ left) states) where
  abbrev NextCount : State → Type 0
  NextCount = WithBytes (IsJoined Plain states x.members.now)

  next_set : (p : Option (List ℕ)) → OneSet (x.number ∷ []) NextCount p → OneSet (x.number ∷ []) (Counted ((o ∷ os) ++ x ∷ []) []) p
  next_set = one_set_as (x.number ∷ []) NextCount (Counted ((o ∷ os) ++ x ∷ []) []) (plain_counts o os x left states up ux going.exact)

  pub going_more : (next : List State) → ((s : State) → Among next s ↔ (IsJoined Plain states x.members.now s × IsNeeded left s)) → OneSet (x.number ∷ []) NextCount None
      → PlainGoing plains insides ((o ∷ os) ++ x ∷ []) left next
  going_more next exact few = record {
    exact = λ s. chain (exact s) (plain_step o os x left states up ux going.exact s);
    search = λ p h. going.search p (then_deeper (OneSet (x.number ∷ []) (Counted ((o ∷ os) ++ x ∷ []) [])) (PlainFronts ((o ∷ os) ++ x ∷ []) left) (InsideFronts plains [] insides) (next_set None few) p h);
  }

  pub going_fault : (e : EvalFault) → IsFaultFrom (OneSet (x.number ∷ []) NextCount) e → IsFaultFrom (Fronts plains insides) e
  going_fault e h = fault_as (OneSet (x.number ∷ []) NextCount) (Fronts plains insides) (λ p k. going.search (Some p) (inl (inl (next_set (Some p) k)))) e h

-- ---- the loop over the insides

pub record InsideGoing (plains insides done left : List Operand) (states : List State) : Type 0 where
  pub exact : (s : State) → Among states s ↔ IsReached plains done [] s
  pub search : (o : Option (List ℕ)) → InsideFronts plains done left o → Fronts plains insides o

pub inside_start : (plains insides : List Operand) (states : List State) → PlainGoing plains insides plains [] states → InsideGoing plains insides [] insides states
inside_start plains insides states going = record {
  exact = going.exact;
  search = λ o h. going.search o (then_next Nothing (InsideFronts plains [] insides) refl o h);
}

module _ (insides : List Operand) (o : Operand) (os done : List Operand) (x : Operand) (left : List Operand) (states : List State) (up : OperandsAscend (o ∷ os)) (ud : OperandsAscend done) (ux : Each Ascends x.members.now) (going : InsideGoing (o ∷ os) insides done (x ∷ left) states) where
  abbrev InsideCount : State → Type 0
  InsideCount = WithBytes (IsJoined Inside states x.members.now)

  inside_set : (p : Option (List ℕ)) → OneSet (x.number ∷ []) InsideCount p → OneSet (x.number ∷ []) (Counted (o ∷ os) (done ++ x ∷ [])) p
  inside_set = one_set_as (x.number ∷ []) InsideCount (Counted (o ∷ os) (done ++ x ∷ [])) (inside_counts o os done x states up ud ux going.exact)

  pub inside_goes : (next : List State) → ((s : State) → Among next s ↔ (IsJoined Inside states x.members.now s × IsNeeded [] s)) → OneSet (x.number ∷ []) InsideCount None
      → InsideGoing (o ∷ os) insides (done ++ x ∷ []) left next
  inside_goes next exact few = record {
    exact = λ s. chain (exact s) (inside_step o os done x states up ud ux going.exact s);
    search = λ p h. going.search p (then_next (OneSet (x.number ∷ []) (Counted (o ∷ os) (done ++ x ∷ []))) (InsideFronts (o ∷ os) (done ++ x ∷ []) left) (inside_set None few) p h);
  }

  pub inside_fault : (e : EvalFault) → IsFaultFrom (OneSet (x.number ∷ []) InsideCount) e → IsFaultFrom (Fronts (o ∷ os) insides) e
  inside_fault e h = fault_as (OneSet (x.number ∷ []) InsideCount) (Fronts (o ∷ os) insides) (λ p k. going.search (Some p) (here p (inside_set (Some p) k))) e h
    where
      here : (p : List ℕ) → OneSet (x.number ∷ []) (Counted (o ∷ os) (done ++ x ∷ [])) (Some p) → InsideFronts (o ∷ os) done (x ∷ left) (Some p)
      here p k = inl k

-- ---- places in lists

pub no_items : {X : Type 0} (xs : List X) → length xs ≡ 0 → xs ≡ []
no_items [] e = refl
no_items (x ∷ xs) e = absurd (omega (arith, e))

pub some_items : {X : Type 0} (xs : List X) → (length xs ≡ 0 → ⊥) → (x : X) × (rest : List X) × (xs ≡ x ∷ rest)
some_items [] e = absurd (e refl)
some_items (x ∷ xs) e = (x, xs, refl)

pub first_rest : {X : Type 0} (xs : List X) (x : X) (rest : List X) → 0 < length xs → x ≡ get_or xs 0 x → rest ≡ drop 1 xs → x ∷ rest ≡ xs
first_rest {X} xs x rest lt is e = ap (λ (ys : List X). x ∷ ys) e ∙ sym (opened xs 0 x lt is)

taken : (xs : List Operand) (n : ℕ) (x : Operand) → Among (take n xs) x → Among xs x
taken xs zero x h = elim h [ ]
taken [] (suc n) x h = elim h [ ]
taken (y ∷ ys) (suc n) x (inl e) = inl e
taken (y ∷ ys) (suc n) x (inr h) = inr (taken ys n x h)

pub ascend_at : (os : List Operand) (i : ℕ) → OperandsAscend os → OperandsAscend (take i os)
ascend_at os i up o k = up o (taken os i o k)

module _ (first : Operand) (rest insides : List Operand) (up : OperandsAscend (first ∷ rest)) (states : List State) where
  -- the plain operand at a place
  module _ (i : ℕ) (x : Operand) (lt : i < length rest) (is : x ≡ get_or rest i x) (going : PlainGoing (first ∷ rest) insides (first ∷ take i rest) (drop i rest) states) where
    opens : PlainGoing (first ∷ rest) insides (first ∷ take i rest) (x ∷ drop (i + 1) rest) states
    opens = let P : List Operand → Type 0 = λ xs. PlainGoing (first ∷ rest) insides (first ∷ take i rest) xs states in subst P (opened rest i x lt is) going

    front_ascends : OperandsAscend (first ∷ take i rest)
    front_ascends o (inl e) = up o (inl e)
    front_ascends o (inr k) = up o (inr (taken rest i o k))

    x_ascends : Each Ascends x.members.now
    x_ascends = up x (inr (among_at rest i x lt is))

    more_taken : take i rest ++ x ∷ [] ≡ take (i + 1) rest
    more_taken = ap (λ (y : Operand). take i rest ++ y ∷ []) is ∙ sym (take_more rest i x lt)

    pub going_at : (later : List Operand) (next : List State) → later ≡ drop (i + 1) rest → ((s : State) → Among next s ↔ (IsJoined Plain states x.members.now s × IsNeeded later s)) → OneSet (x.number ∷ []) (WithBytes (IsJoined Plain states x.members.now)) None
        → PlainGoing (first ∷ rest) insides (first ∷ take (i + 1) rest) (drop (i + 1) rest) next
    going_at later next e exact few =
        let P : List Operand → Type 0 = λ xs. PlainGoing (first ∷ rest) insides (first ∷ xs) (drop (i + 1) rest) next in
        let Q : List Operand → Type 0 = λ xs. (s : State) → Among next s ↔ (IsJoined Plain states x.members.now s × IsNeeded xs s) in
        subst P more_taken (going_more (first ∷ rest) insides first (take i rest) x (drop (i + 1) rest) states front_ascends x_ascends opens next (subst Q e exact) few)

    pub fault_at : (e : EvalFault) → IsFaultFrom (OneSet (x.number ∷ []) (WithBytes (IsJoined Plain states x.members.now))) e → IsFaultFrom (Fronts (first ∷ rest) insides) e
    fault_at = going_fault (first ∷ rest) insides first (take i rest) x (drop (i + 1) rest) states front_ascends x_ascends opens

  pub going_ends : (i : ℕ) → length rest ≤ i → PlainGoing (first ∷ rest) insides (first ∷ take i rest) (drop i rest) states → InsideGoing (first ∷ rest) insides [] insides states
  going_ends i le going =
      let P : List Operand → Type 0 = λ xs. PlainGoing (first ∷ rest) insides (first ∷ take i rest) xs states in
      let Q : List Operand → Type 0 = λ xs. PlainGoing (first ∷ rest) insides (first ∷ xs) [] states in
      let e : take i rest ≡ rest = sym (append-nil (take i rest)) ∙ ap (λ (ys : List Operand). take i rest ++ ys) (sym (drop_all i rest le)) ∙ take-append-drop i rest in
      inside_start (first ∷ rest) insides states (subst Q e (subst P (drop_all i rest le) going))

  -- the inside at a place
  module _ (ui : OperandsAscend insides) (i : ℕ) (x : Operand) (lt : i < length insides) (is : x ≡ get_or insides i x) (going : InsideGoing (first ∷ rest) insides (take i insides) (drop i insides) states) where
    inside_opens : InsideGoing (first ∷ rest) insides (take i insides) (x ∷ drop (i + 1) insides) states
    inside_opens = let P : List Operand → Type 0 = λ xs. InsideGoing (first ∷ rest) insides (take i insides) xs states in subst P (opened insides i x lt is) going

    inside_ascends : Each Ascends x.members.now
    inside_ascends = ui x (among_at insides i x lt is)

    more_insides : take i insides ++ x ∷ [] ≡ take (i + 1) insides
    more_insides = ap (λ (y : Operand). take i insides ++ y ∷ []) is ∙ sym (take_more insides i x lt)

    pub inside_at : (later : List Operand) (next : List State) → later ≡ [] → ((s : State) → Among next s ↔ (IsJoined Inside states x.members.now s × IsNeeded later s)) → OneSet (x.number ∷ []) (WithBytes (IsJoined Inside states x.members.now)) None
        → InsideGoing (first ∷ rest) insides (take (i + 1) insides) (drop (i + 1) insides) next
    inside_at later next e exact few =
        let P : List Operand → Type 0 = λ xs. InsideGoing (first ∷ rest) insides xs (drop (i + 1) insides) next in
        let Q : List Operand → Type 0 = λ xs. (s : State) → Among next s ↔ (IsJoined Inside states x.members.now s × IsNeeded xs s) in
        subst P more_insides (inside_goes insides first rest (take i insides) x (drop (i + 1) insides) states up (ascend_at insides i ui) inside_ascends inside_opens next (subst Q e exact) few)

    pub inside_fault_at : (e : EvalFault) → IsFaultFrom (OneSet (x.number ∷ []) (WithBytes (IsJoined Inside states x.members.now))) e → IsFaultFrom (Fronts (first ∷ rest) insides) e
    inside_fault_at = inside_fault insides first rest (take i insides) x (drop (i + 1) insides) states up (ascend_at insides i ui) inside_ascends inside_opens

  -- what is left of the insides is nothing
  module _ (i : ℕ) (le : length insides ≤ i) (going : InsideGoing (first ∷ rest) insides (take i insides) (drop i insides) states) where
    all_insides : take i insides ≡ insides
    all_insides = sym (append-nil (take i insides)) ∙ ap (λ (ys : List Operand). take i insides ++ ys) (sym (drop_all i insides le)) ∙ take-append-drop i insides

    pub all_reached : (s : State) → Among states s ↔ IsReached (first ∷ rest) insides [] s
    all_reached s = let P : List Operand → Type 0 = λ xs. Among states s ↔ IsReached (first ∷ rest) xs [] s in subst P all_insides (going.exact s)

    pub all_searched : Fronts (first ∷ rest) insides None
    all_searched = let P : List Operand → Type 0 = λ xs. InsideFronts (first ∷ rest) (take i insides) xs None in going.search None (subst P (sym (drop_all i insides le)) refl)
