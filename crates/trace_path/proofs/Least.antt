-- The first class that has a goal is the least path.
use Rattle.std.proofs.Common.{◌≡◌, ◌≢◌, ℕ, zero, suc, ◌+◌, ◌*◌, ◌-◌, ◌/◌, ◌%◌, ◌<◌, ◌≤◌, ◌⊎◌, ◌↔◌, inl, inr, List, [], ◌∷◌, ◌++◌, length, get_or, Some, sym, ◌∙◌, ap, subst, refl, arith}
use Rattle.std.specs.Prelude.{slice_get, reverse, ⊤}
use Rattle.std.proofs.lemmas.Bool.{cases_eq}
use Rattle.std.proofs.lemmas.Grind.{reverse_onto}
use Rattle.std.proofs.lemmas.Option.{slice_get_within, slice_get-get_or}
use Rattle.graph_form.specs.declared.graph.Graph.{Graph}
use Rattle.graph_form.specs.Sets.{Among}
use Rattle.flow_reach.specs.declared.moves.Moves.{Moves}
use Rattle.graph_form.specs.Edges.{HasEdge}
use Rattle.flow_reach.specs.Carried.{Turns, Fits, Stop, Leads}
use Rattle.trace_path.specs.Trace.{points_of, IsTrace, Precedes, IsUpTo, IsLeast}
use Rattle.trace_path.specs.Queue.{Group, IsAt, Comes, Held, InOrder, IsQueue, IsRoute, Meets}
use Rattle.trace_path.proofs.Lengthen.{at_one}

-- ---- the order of lists of points, the last one first

-- fewer points, or as many and less at the first place from the end where they differ
abbrev pub Before : List ℕ → List ℕ → Type 0
Before [] [] = ⊥
Before [] (y ∷ ys) = ⊤
Before (x ∷ xs) [] = ⊥
Before (x ∷ xs) (y ∷ ys) = Before xs ys ⊎ ((xs ≡ ys) × (x < y))

abbrev pub UpTo : List ℕ → List ℕ → Type 0
UpTo xs ys = Before xs ys ⊎ (xs ≡ ys)

before_then : (xs ys zs : List ℕ) → Before xs ys → Before ys zs → Before xs zs
before_then [] [] zs a b = absurd a
before_then [] (y ∷ ys) [] a b = absurd b
before_then [] (y ∷ ys) (z ∷ zs) a b = a
before_then (x ∷ xs) [] zs a b = absurd a
before_then (x ∷ xs) (y ∷ ys) [] a b = absurd b
before_then (x ∷ xs) (y ∷ ys) (z ∷ zs) (inl a) (inl b) = inl (before_then xs ys zs a b)
before_then (x ∷ xs) (y ∷ ys) (z ∷ zs) (inl a) (inr b) = inl (let P : List ℕ → Type 0 = λ s. Before xs s in subst P b.0 a)
before_then (x ∷ xs) (y ∷ ys) (z ∷ zs) (inr a) (inl b) = inl (let P : List ℕ → Type 0 = λ s. Before s zs in subst P (sym a.0) b)
before_then (x ∷ xs) (y ∷ ys) (z ∷ zs) (inr a) (inr b) = inr (a.0 ∙ b.0, omega (arith, a.1, b.1))

up_to_then : (xs ys zs : List ℕ) → UpTo xs ys → UpTo ys zs → UpTo xs zs
up_to_then xs ys zs (inl a) (inl b) = inl (before_then xs ys zs a b)
up_to_then xs ys zs (inl a) (inr e) = inl (let P : List ℕ → Type 0 = λ s. Before xs s in subst P e a)
up_to_then xs ys zs (inr e) b = let P : List ℕ → Type 0 = λ s. UpTo s zs in subst P (sym e) b

up_to_more : (x y : ℕ) (xs ys : List ℕ) → x ≡ y → UpTo xs ys → UpTo (x ∷ xs) (y ∷ ys)
up_to_more x y xs ys e (inl a) = inl (inl a)
up_to_more x y xs ys e (inr q) = inr (ap (λ z. z ∷ xs) e ∙ ap (λ zs. y ∷ zs) q)

longer : (y : ℕ) (xs ys : List ℕ) → UpTo xs ys → UpTo xs (y ∷ ys)
longer y xs ys h = inl (go y xs ys h)
  where
    go : (y : ℕ) (xs ys : List ℕ) → UpTo xs ys → Before xs (y ∷ ys)
    go y [] ys h = _
    go y (x ∷ xs) [] (inl a) = absurd a
    go y (x ∷ xs) [] (inr e) = absurd cc
    go y (x ∷ xs) (z ∷ zs) (inl (inl a)) = inl (go z xs zs (inl a))
    go y (x ∷ xs) (z ∷ zs) (inl (inr a)) = inl (go z xs zs (inr a.0))
    go y (x ∷ xs) (z ∷ zs) (inr e) = inl (go z xs zs (inr cc))

-- ---- the same from the first point on

precedes_more : (xs ys : List ℕ) (x y : ℕ) → Precedes xs ys → Precedes (xs ++ x ∷ []) (ys ++ y ∷ [])
precedes_more [] ys x y h = absurd h
precedes_more (a ∷ az) [] x y h = absurd h
precedes_more (a ∷ az) (b ∷ bz) x y (inl lt) = inl lt
precedes_more (a ∷ az) (b ∷ bz) x y (inr h) = inr (h.0, precedes_more az bz x y h.1)

precedes_last : (xs : List ℕ) (x y : ℕ) → x < y → Precedes (xs ++ x ∷ []) (xs ++ y ∷ [])
precedes_last [] x y lt = inl lt
precedes_last (a ∷ az) x y lt = inr (refl, precedes_last az x y lt)

long_more : (xs : List ℕ) (x : ℕ) → length (xs ++ x ∷ []) ≡ length xs + 1
long_more [] x = refl
long_more (y ∷ ys) x = omega (arith, long_more ys x)

turned_round : (xs ys : List ℕ) → Before xs ys → (length (reverse xs) < length (reverse ys)) ⊎ ((length (reverse xs) ≡ length (reverse ys)) × Precedes (reverse xs) (reverse ys))
turned_round [] [] h = absurd h
turned_round [] (y ∷ ys) h = inl (let e : reverse (y ∷ ys) ≡ reverse ys ++ y ∷ [] = reverse_onto ys y [] in omega (arith, ap length e, long_more (reverse ys) y))
turned_round (x ∷ xs) [] h = absurd h
turned_round (x ∷ xs) (y ∷ ys) h =
    let ex : reverse (x ∷ xs) ≡ reverse xs ++ x ∷ [] = reverse_onto xs x [] in
    let ey : reverse (y ∷ ys) ≡ reverse ys ++ y ∷ [] = reverse_onto ys y [] in
    let lx = ap length ex ∙ long_more (reverse xs) x in
    let ly = ap length ey ∙ long_more (reverse ys) y in
    let P : List ℕ → Type 0 = λ s. Precedes s (reverse (y ∷ ys)) in
    let Q : List ℕ → Type 0 = λ s. Precedes (reverse xs ++ x ∷ []) s in
    elim h [
      | inl b ↦ elim (turned_round xs ys b) [
        | inl less ↦ inl (omega (arith, lx, ly, less))
        | inr (e, p) ↦ inr (omega (arith, lx, ly, e), subst P (sym ex) (subst Q (sym ey) (precedes_more (reverse xs) (reverse ys) x y p)))
      ]
      | inr (e, lt) ↦
          let R : List ℕ → Type 0 = λ s. Precedes (reverse xs ++ x ∷ []) (s ++ y ∷ []) in
          inr (omega (arith, lx, ly, ap (λ s. length (reverse s)) e), subst P (sym ex) (subst Q (sym ey) (subst R (ap reverse e) (precedes_last (reverse xs) x y lt))))
    ]

pub as_up_to : (xs ys : List ℕ) → UpTo xs ys → IsUpTo (reverse xs) (reverse ys)
as_up_to xs ys (inl b) = elim (turned_round xs ys b) [ inl less ↦ inl less | inr (e, p) ↦ inr (e, inl p) ]
as_up_to xs ys (inr e) = inr (ap (λ s. length (reverse s)) e, inr (ap reverse e))

-- ---- the classes

module _ (graph : Graph) (moves : Moves) (head : ℕ) (classes : List Group) (seen : List ℕ) (queue : IsQueue graph moves head (λ i q. i < head) classes seen) where
  got : {X : Type 0} (xs : List X) (i : ℕ) → i < length xs → (x : X) × (slice_get xs i ≡ Some x)
  got [] i lt = absurd (omega arith)
  got (x ∷ xs) zero lt = (x, refl)
  got (x ∷ xs) (suc i) lt = got xs i (omega arith)

  route_within : (fuel i : ℕ) → i < fuel → i < length classes → (r : List ℕ) × IsRoute classes i r
  route_within zero i less lt = absurd (omega arith)
  route_within (suc fuel) i less lt =
      let c = got classes i lt in
      elim (cases_eq i 0) [
        | inl e ↦ (c.0.point ∷ [], (c.0, c.1, refl, inl (e, refl)))
        | inr ne ↦
            let pos : 0 < i = omega arith in
            let from = queue.comes i c.0 c.1 pos in
            let r = route_within fuel c.0.parent (omega (arith, from.2, less)) (slice_get_within classes c.0.parent from.0 from.1) in
            (c.0.point ∷ r.0, (c.0, c.1, refl, inr (pos, r.1)))
      ]

  route : (i : ℕ) → i < length classes → (r : List ℕ) × IsRoute classes i r
  route i lt = route_within (suc i) i (omega arith) lt

  one_route : (i : ℕ) (r s : List ℕ) → IsRoute classes i r → IsRoute classes i s → r ≡ s
  one_route i [] s a b = absurd a
  one_route i (x ∷ r) [] a b = absurd b
  one_route i (x ∷ r) (y ∷ s) (c, at_c, xc, more_r) (d, at_d, yd, more_s) =
      let same : c ≡ d = at_one classes i c d at_c at_d in
      let xy : x ≡ y = sym xc ∙ ap (λ z. z.point) same ∙ yd in
      let tails : r ≡ s = elim more_r [
        | inl (z, e) ↦ elim more_s [ inl (w, f) ↦ e ∙ sym f | inr (pos, n) ↦ absurd (omega (arith, z, pos)) ]
        | inr (pos, m) ↦ elim more_s [
          | inl (w, f) ↦ absurd (omega (arith, w, pos))
          | inr (q, n) ↦ let P : Group → Type 0 = λ z. IsRoute classes z.parent s in one_route c.parent r s m (subst P (sym same) n)
        ]
      ] in
      ap (λ z. z ∷ r) xy ∙ ap (λ zs. y ∷ zs) tails

  not_empty : (i x : ℕ) (s : List ℕ) → IsRoute classes i s → Before [] s
  not_empty i x [] h = absurd h
  not_empty i x (y ∷ s) h = _

  -- classes stand in the order of their routes
  in_order : (i j : ℕ) (r s : List ℕ) → i < j → IsRoute classes i r → IsRoute classes j s → Before r s
  in_order i j [] s less a b = absurd a
  in_order i j (x ∷ r) [] less a b = absurd b
  in_order i j (x ∷ r) (y ∷ s) less (c, at_c, xc, more_r) (d, at_d, yd, more_s) = elim more_s [
    | inl (z, e) ↦ absurd (omega (arith, z, less))
    | inr (pos, n) ↦ elim more_r [
      | inl (z, e) ↦ inl (let P : List ℕ → Type 0 = λ t. Before t s in subst P (sym e) (not_empty d.parent x s n))
      | inr (q, m) ↦ elim (queue.order i j c d at_c at_d q less) [
        | inl lt ↦ inl (in_order c.parent d.parent r s lt m n)
        | inr (e, lt) ↦ inr (let P : ℕ → Type 0 = λ k. IsRoute classes k s in one_route c.parent r s m (subst P (sym e) n), omega (arith, xc, yd, lt))
      ]
    ]
  ]

  in_order_up : (i j : ℕ) (r s : List ℕ) → i ≤ j → IsRoute classes i r → IsRoute classes j s → UpTo r s
  in_order_up i j r s le a b = elim (cases_eq i j) [
    | inl e ↦ inr (let P : ℕ → Type 0 = λ k. IsRoute classes k s in one_route i r s a (subst P (sym e) b))
    | inr ne ↦ inl (in_order i j r s (omega arith) a b)
  ]

  -- a fact of a class is carried along its route
  led : (i : ℕ) (r : List ℕ) (c : Group) (f : ℕ) → IsRoute classes i r → IsAt classes i c → Among c.facts f → (stops : List Stop) × Leads graph moves stops c.point f × (r ≡ c.point ∷ points_of stops)
  led i [] c f a at among = absurd a
  led i (x ∷ r) c f (d, at_d, xd, more) at among =
      let same : d ≡ c = at_one classes i d c at_d at in
      let xc : x ≡ c.point = sym xd ∙ ap (λ z. z.point) same in
      elim more [
        | inl (z, e) ↦
            let A : ℕ → Type 0 = λ k. IsAt classes k c in
            let first : queue.zeroth.0 ≡ c = at_one classes 0 queue.zeroth.0 c queue.zeroth.1 (subst A z at) in
            let S : Group → Type 0 = λ k. Among k.facts f in
            ([], (sym (ap (λ k. k.point) first) ∙ queue.zeroth.2, (queue.zeroth.3 f).0 (subst S (sym first) among)), ap (λ k. k ∷ r) xc ∙ ap (λ ks. c.point ∷ ks) e)
        | inr (pos, m) ↦
            let from = queue.comes i c at pos in
            let back = from.4 f among in
            let P : Group → Type 0 = λ k. IsRoute classes k.parent r in
            let earlier = led c.parent r from.0 back.0 (subst P same m) from.1 back.1 in
            let stop : Stop = record { point = from.0.point; fact = back.0 } in
            (stop ∷ earlier.0, (earlier.1, from.3, back.2), ap (λ k. k ∷ r) xc ∙ ap (λ ks. c.point ∷ ks) earlier.2)
      ]

  -- a class before the head has the fact, or the head's route comes before
  abbrev Covered : List Stop → ℕ → ℕ → Type 0
  Covered stops point fact = (j : ℕ) × (d : Group) × (r : List ℕ) × IsAt classes j d × IsRoute classes j r × (d.point ≡ point) × Among d.facts fact × UpTo r (point ∷ points_of stops)

  abbrev Passed : List ℕ → Type 0
  Passed path = (h : List ℕ) × IsRoute classes head h × UpTo h path

  lengthened : (stop : Stop) (earlier : List Stop) (point fact : ℕ) (j : ℕ) (r : List ℕ) → IsRoute classes j r → UpTo r (stop.point ∷ points_of earlier) → Held classes j point fact → Covered (stop ∷ earlier) point fact
  lengthened stop earlier point fact j r is up (k, e, at, here, among, last) = elim (cases_eq k 0) [
    | inl z ↦
        let one : IsRoute classes k (e.point ∷ []) = (e, at, refl, inl (z, refl)) in
        (k, e, e.point ∷ [], at, one, here, among, inl (inl _))
    | inr ne ↦
        let pos : 0 < k = omega arith in
        let from = queue.comes k e at pos in
        let p = route e.parent (slice_get_within classes e.parent from.0 from.1) in
        let le : e.parent ≤ j = elim last [ inl z ↦ absurd (ne z) | inr le ↦ le ] in
        let up_p : UpTo p.0 (stop.point ∷ points_of earlier) = up_to_then p.0 r (stop.point ∷ points_of earlier) (in_order_up e.parent j p.0 r le p.1 is) up in
        (k, e, e.point ∷ p.0, at, (e, at, refl, inr (pos, p.1)), here, among, up_to_more e.point point p.0 (stop.point ∷ points_of earlier) here up_p)
  ]

  covers : (stops : List Stop) (point fact : ℕ) → Leads graph moves stops point fact → Covered stops point fact ⊎ Passed (point ∷ points_of stops)
  covers [] point fact (entry, among) =
      let c = queue.zeroth in
      let here : c.0.point ≡ point = c.2 ∙ sym entry in
      inl (0, c.0, c.0.point ∷ [], c.1, (c.0, c.1, refl, inl (refl, refl)), here, (c.3 fact).1 among, up_to_more c.0.point point [] [] here (inr refl))
  covers (stop ∷ earlier) point fact (before, edge, turn) = elim (covers earlier stop.point stop.fact before) [
    | inl (j, d, r, at, is, here, among, up) ↦ elim (cases_lt j head) [
      | inl lt ↦
          let E : ℕ → Type 0 = λ x. HasEdge graph x point in
          let T : ℕ → Type 0 = λ x. Turns moves x stop.fact fact in
          inl (lengthened stop earlier point fact j r is up (queue.closed j point d at lt (subst E (sym here) edge) stop.fact fact among (subst T (sym here) turn)))
      | inr ge ↦
          let h = route head (omega (arith, ge, slice_get_within classes j d at)) in
          inr (h.0, h.1, longer point h.0 (stop.point ∷ points_of earlier) (up_to_then h.0 r (stop.point ∷ points_of earlier) (in_order_up head j h.0 r ge h.1 is) up))
    ]
    | inr (h, is, up) ↦ inr (h, is, longer point h (stop.point ∷ points_of earlier) up)
  ]
    where
      cases_lt : (a b : ℕ) → (a < b) ⊎ (b ≤ a)
      cases_lt a zero = inr (omega arith)
      cases_lt zero (suc b) = inl (omega arith)
      cases_lt (suc a) (suc b) = elim (cases_lt a b) [ inl h ↦ inl (omega arith) | inr h ↦ inr (omega arith) ]

  module _ (goals : List (ℕ × ℕ)) (unmet : (i : ℕ) (c : Group) → IsAt classes i c → i < head → Meets goals c → ⊥) where
    passed : (stops : List Stop) (point fact : ℕ) → Leads graph moves stops point fact → Among goals (point, fact) → Passed (point ∷ points_of stops)
    passed stops point fact leads goal = elim (covers stops point fact leads) [
      | inr p ↦ p
      | inl (j, d, r, at, is, here, among, up) ↦
          let G : ℕ → Type 0 = λ x. Among goals (x, fact) in
          let ge : head ≤ j = not_less j head (λ lt. unmet j d at lt (fact, subst G (sym here) goal, among)) in
          let h = route head (omega (arith, ge, slice_get_within classes j d at)) in
          (h.0, h.1, up_to_then h.0 r (point ∷ points_of stops) (in_order_up head j h.0 r ge h.1 is) up)
    ]
      where
        not_less : (a b : ℕ) → (a < b → ⊥) → b ≤ a
        not_less a zero f = omega arith
        not_less zero (suc b) f = absurd (f (omega arith))
        not_less (suc a) (suc b) f = let r = not_less a b (λ lt. f (omega arith)) in omega arith

    route_inside : (r : List ℕ) (i : ℕ) → IsRoute classes i r → i < length classes
    route_inside [] i h = absurd h
    route_inside (x ∷ r) i (c, at, e, more) = slice_get_within classes i c at

    pub no_trace : length classes ≤ head → (points : List ℕ) → IsTrace graph moves goals points → ⊥
    no_trace all points trace = let p = passed trace.stops trace.point trace.fact trace.leads trace.goal in omega (arith, all, route_inside p.0 head p.1)

    pub least : (c : Group) (r points : List ℕ) → IsAt classes head c → Meets goals c → IsRoute classes head r → points ≡ reverse r → IsLeast graph moves goals points
    least c r points at meets is same =
        let way = led head r c meets.0 is at meets.2 in
        record {
          trace = record { stops = way.0; point = c.point; fact = meets.0; leads = way.1; goal = meets.1; same = same ∙ ap reverse way.2 };
          least = λ others trace.
              let p = passed trace.stops trace.point trace.fact trace.leads trace.goal in
              let P : List ℕ → Type 0 = λ s. IsUpTo s others in
              let Q : List ℕ → Type 0 = λ s. IsUpTo (reverse r) s in
              let R : List ℕ → Type 0 = λ s. UpTo s (trace.point ∷ points_of trace.stops) in
              subst P (sym same) (subst Q (sym trace.same) (as_up_to r (trace.point ∷ points_of trace.stops) (subst R (one_route head p.0 r p.1 is) p.2)));
        }

pub descends : (graph : Graph) (moves : Moves) (head : ℕ) (Done : ℕ → ℕ → Type 0) (classes : List Group) (seen : List ℕ) → IsQueue graph moves head Done classes seen → (i : ℕ) (c : Group) → IsAt classes i c → 0 < i → c.parent < i
descends graph moves head Done classes seen queue i c at pos = (queue.comes i c at pos).2
