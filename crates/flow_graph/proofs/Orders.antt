-- Numbers in order.
use Rattle.std.proofs.Common.{◌≡◌, ◌≢◌, ◌⊎◌, ◌↔◌, inl, inr, ℕ, zero, suc, ◌+◌, ◌*◌, ◌-◌, ◌/◌, ◌%◌, ◌<◌, ◌≤◌, ◌^◌, List, [], ◌∷◌, ◌++◌, length, take, map, get_or, Some, sym, ◌∙◌, ap, subst, refl, arith}
use Rattle.std.specs.Prelude.{slice_get}
use Rattle.std.proofs.lemmas.Bool.{cases_eq}
use Rattle.std.proofs.lemmas.List.{take_more, map-append}
use Rattle.std.proofs.lemmas.Option.{slice_get_within, slice_get_read, get_or_from_slice_get}
use Rattle.graph_form.specs.declared.graph.Edge.{Edge}
use Rattle.graph_form.specs.declared.graph.Graph.{Graph}
use Rattle.graph_form.specs.declared.graph.Point.{Point}
use Rattle.graph_form.specs.declared.graph.Role.{Role}
use Rattle.graph_form.specs.declared.graph.Role.TheVariants as roles
use Rattle.graph_form.specs.Edges.{HasEdge}
use Rattle.graph_form.specs.Sets.{Among}
use Rattle.graph_form.proofs.Amongs.{among_push, among_more, among_at, among_place}
use Rattle.flow_edges.specs.declared.transfer.Transfer.{Transfer}
use Rattle.flow_graph.specs.Keys.{key_of, role_at, decoded, edge_of, Ascends, Stays, Settles, IsPlace, IsCodeOf, IsCode, Transfers}
use Rattle.flow_graph.specs.Units.{role_place, IsPointBefore, IsEdgeBefore, InOrder, IsGraphOf}

-- a number is not there
pub absent_end : (xs : List ℕ) (low x : ℕ) → ((k : ℕ) → k < low → get_or xs k 0 < x) → low ≡ length xs → Among xs x → ⊥
absent_end xs low x below e among = let p = among_place 0 xs x among in let lt : p.0 < low = omega (arith, p.1) in omega (arith, below p.0 lt, p.2)

pub absent_there : (xs : List ℕ) (low x : ℕ) → Ascends xs → ((k : ℕ) → k < low → get_or xs k 0 < x) → ((k : ℕ) → low ≤ k → k < length xs → x ≤ get_or xs k 0) → get_or xs low 0 ≢ x → Among xs x → ⊥
absent_there xs low x up below above other among =
    let p = among_place 0 xs x among in
    elim (sides p.0 low) [
      | inl lt ↦ omega (arith, below p.0 lt, p.2)
      | inr ge ↦ elim (cases_eq p.0 low) [
        | inl same ↦ other (ap (λ k. get_or xs k 0) (sym same) ∙ p.2)
        | inr ne ↦
            let lt : low < p.0 = omega (arith, ge) in
            let here : low ≤ low = omega arith in
            let within : low < length xs = omega (arith, lt, p.1) in
            omega (arith, up low p.0 lt p.1, above low here within, p.2)
      ]
    ]
  where
    sides : (a b : ℕ) → (a < b) ⊎ (b ≤ a)
    sides a zero = inr (omega arith)
    sides zero (suc b) = inl (omega arith)
    sides (suc a) (suc b) = elim (sides a b) [ inl h ↦ inl (omega arith) | inr h ↦ inr (omega arith) ]

-- each number has one place
pub one_place : (xs : List ℕ) (x i j : ℕ) → Ascends xs → IsPlace xs x i → IsPlace xs x j → i ≡ j
one_place xs x i j up (il, ie) (jl, je) = elim (order i j) [
  | inl lt ↦ absurd (omega (arith, up i j lt jl, ie, je))
  | inr r ↦ elim r [ inl e ↦ e | inr gt ↦ absurd (omega (arith, up j i gt il, ie, je)) ]
]
  where
    order : (a b : ℕ) → (a < b) ⊎ ((a ≡ b) ⊎ (b < a))
    order zero zero = inr (inl refl)
    order zero (suc b) = inl (omega arith)
    order (suc a) zero = inr (inr (omega arith))
    order (suc a) (suc b) = elim (order a b) [ inl h ↦ inl (omega arith) | inr r ↦ elim r [ inl e ↦ inr (inl (ap suc e)) | inr g ↦ inr (inr (omega arith)) ] ]

-- the number of an edge comes too
pub code_some : (keys : List ℕ) (t : Transfer) (i j : ℕ) (old new : List ℕ) → Ascends keys → IsPlace keys (key_of t.from) i → IsPlace keys (key_of t.to) j → new ≡ old ++ (i * 4294967296 + j) ∷ [] → (x : ℕ) → Among new x ↔ (Among old x ⊎ IsCodeOf keys t x)
code_some keys t i j old new up from to new_is x =
    let P : List ℕ → Type 0 = λ xs. Among xs x ↔ (Among old x ⊎ (i * 4294967296 + j ≡ x)) in
    let step = subst P (sym new_is) (among_push old (i * 4294967296 + j) x) in (
      λ h. elim (step.0 h) [ inl o ↦ inl o | inr e ↦ inr (i, from, j, to, sym e) ],
      λ h. elim h [
        | inl o ↦ step.1 (inl o)
        | inr (k, kf, m, mt, e) ↦ step.1 (inr (let a = one_place keys (key_of t.from) i k up from kf in let b = one_place keys (key_of t.to) j m up to mt in ap (λ z. z * 4294967296 + j) a ∙ ap (λ z. k * 4294967296 + z) b ∙ sym e))
      ],
    )

pub code_none : (keys : List ℕ) (t : Transfer) (old : List ℕ) → ((i : ℕ) → IsPlace keys (key_of t.from) i → (j : ℕ) → IsPlace keys (key_of t.to) j → ⊥) → (x : ℕ) → Among old x ↔ (Among old x ⊎ IsCodeOf keys t x)
code_none keys t old none x = (λ h. inl h, λ h. elim h [ inl o ↦ o | inr (i, p, j, q, e) ↦ absurd (none i p j q) ])

pub no_place : (keys : List ℕ) (k : ℕ) → (Among keys k → ⊥) → (i : ℕ) → IsPlace keys k i → ⊥
no_place keys k none i (lt, e) = let P : ℕ → Type 0 = λ x. Among keys x in none (subst P e (among_at keys i 0 lt))

pub codes_more : (keys : List ℕ) (ts : List Transfer) (i : ℕ) (d : Transfer) (old new : List ℕ) → i < length ts → ((x : ℕ) → Among old x ↔ IsCode keys (take i ts) x) → ((x : ℕ) → Among new x ↔ (Among old x ⊎ IsCodeOf keys (get_or ts i d) x)) → (x : ℕ) → Among new x ↔ IsCode keys (take (i + 1) ts) x
codes_more keys ts i d old new lt all step x =
    let split = λ (y : Transfer). among_more ts i d lt y in (
      λ h. elim ((step x).0 h) [
        | inl o ↦ let r = (all x).0 o in (r.0, (split r.0).1 (inl r.1), r.2)
        | inr is ↦ (get_or ts i d, (split (get_or ts i d)).1 (inr refl), is)
      ],
      λ (u, among, is). elim ((split u).0 among) [
        | inl a ↦ (step x).1 (inl ((all x).1 (u, a, is)))
        | inr e ↦ (step x).1 (inr (let P : Transfer → Type 0 = λ v. IsCodeOf keys v x in subst P (sym e) is))
      ],
    )

-- the first number, one more, and one that is there
settle_push : (xs : List ℕ) (i : ℕ) (all new : List ℕ) → i < length xs → Settles xs i all → ((k : ℕ) → k < length all → get_or all k 0 < get_or xs i 0) → new ≡ all ++ get_or xs i 0 ∷ [] → Settles xs (i + 1) new
settle_push xs i all new lt s less new_is = record {
  same = λ x.
      let P : List ℕ → Type 0 = λ ys. Among ys x ↔ (Among all x ⊎ (get_or xs i 0 ≡ x)) in
      let step = subst P (sym new_is) (among_push all (get_or xs i 0) x) in
      let m = among_more xs i 0 lt x in (
        λ h. elim (step.0 h) [ inl o ↦ m.1 (inl ((s.same x).0 o)) | inr e ↦ m.1 (inr e) ],
        λ h. elim (m.0 h) [ inl o ↦ step.1 (inl ((s.same x).1 o)) | inr e ↦ step.1 (inr e) ],
      );
  ascends = let A : List ℕ → Type 0 = λ ys. Ascends ys in subst A (sym new_is) (pushed all (get_or xs i 0) s.ascends less);
}
  where
    last_at : (ys : List ℕ) (y k : ℕ) → k < length ys → get_or (ys ++ y ∷ []) k 0 ≡ get_or ys k 0
    last_at [] y k h = absurd (omega (arith, h))
    last_at (z ∷ zs) y zero h = refl
    last_at (z ∷ zs) y (suc k) h = last_at zs y k (omega (arith, h))

    end_at : (ys : List ℕ) (y : ℕ) → get_or (ys ++ y ∷ []) (length ys) 0 ≡ y
    end_at [] y = refl
    end_at (z ∷ zs) y = end_at zs y

    size : (ys : List ℕ) (y : ℕ) → length (ys ++ y ∷ []) ≡ length ys + 1
    size [] y = omega arith
    size (z ∷ zs) y = omega (arith, size zs y)

    pushed : (ys : List ℕ) (y : ℕ) → Ascends ys → ((k : ℕ) → k < length ys → get_or ys k 0 < y) → Ascends (ys ++ y ∷ [])
    pushed ys y up below a b ab bl = elim (cases_eq b (length ys)) [
      | inl e ↦
          let al : a < length ys = omega (arith, ab, e) in
          let B : ℕ → Type 0 = λ m. get_or (ys ++ y ∷ []) a 0 < get_or (ys ++ y ∷ []) m 0 in
          subst B (sym e) (omega (arith, last_at ys y a al, end_at ys y, below a al))
      | inr ne ↦
          let bs : b < length ys = omega (arith, bl, size ys y) in
          let as_lt : a < length ys = omega (arith, ab, bs) in
          omega (arith, last_at ys y a as_lt, last_at ys y b bs, up a b ab bs)
    ]

pub none_settled : (xs all : List ℕ) → all ≡ [] → Settles xs 0 all
none_settled xs all e = let P : List ℕ → Type 0 = λ ys. Settles xs 0 ys in subst P (sym e) (record { same = λ x. (λ h. h, λ h. h); ascends = λ i j lt within. absurd (omega (arith, within)) })

pub settle_first : (xs : List ℕ) (i : ℕ) (all new : List ℕ) → i < length xs → Settles xs i all → i ≡ 0 → new ≡ all ++ get_or xs i 0 ∷ [] → Settles xs (i + 1) new
settle_first xs i all new lt s first new_is = settle_push xs i all new lt s (λ k kl.
    let a = (s.same (get_or all k 0)).0 (among_at all k 0 kl) in
    let P : ℕ → Type 0 = λ n. Among (take n xs) (get_or all k 0) in absurd (subst P first a)) new_is

in_front : (xs : List ℕ) (i : ℕ) (x : ℕ) → Stays xs → i < length xs → Among (take (i + 1) xs) x → x ≤ get_or xs i 0
in_front xs i x stays lt among =
    let p = among_place 0 (take (i + 1) xs) x among in
    let r = front xs (i + 1) p.0 p.1 in
    let le : p.0 ≤ i = omega (arith, r.0) in
    omega (arith, stays p.0 i le lt, r.1, p.2)
  where
    front : (ys : List ℕ) (n k : ℕ) → k < length (take n ys) → (k < n) × (get_or (take n ys) k 0 ≡ get_or ys k 0)
    front ys zero k h = absurd (omega (arith, h))
    front [] (suc n) k h = absurd (omega (arith, h))
    front (y ∷ ys) (suc n) zero h = (omega arith, refl)
    front (y ∷ ys) (suc n) (suc k) h = let r = front ys n k (omega (arith, h)) in (omega (arith, r.0), r.1)

pub settle_more : (xs : List ℕ) (i j : ℕ) (all new : List ℕ) → Stays xs → i < length xs → j + 1 ≡ i → Settles xs i all → get_or xs j 0 < get_or xs i 0 → new ≡ all ++ get_or xs i 0 ∷ [] → Settles xs (i + 1) new
settle_more xs i j all new stays lt back s less new_is = settle_push xs i all new lt s (λ k kl.
    let a = (s.same (get_or all k 0)).0 (among_at all k 0 kl) in
    let P : ℕ → Type 0 = λ n. Among (take n xs) (get_or all k 0) in
    let jl : j < length xs = omega (arith, lt) in
    omega (arith, in_front xs j (get_or all k 0) stays jl (subst P (sym back) a), less)) new_is

pub settle_same : (xs : List ℕ) (i j : ℕ) (all : List ℕ) → Stays xs → i < length xs → j + 1 ≡ i → Settles xs i all → (get_or xs j 0 < get_or xs i 0 → ⊥) → Settles xs (i + 1) all
settle_same xs i j all stays lt back s other =
    let jl : j < length xs = omega (arith, lt) in
    let le : j ≤ i = omega arith in
    let e : get_or xs j 0 ≡ get_or xs i 0 = equal (get_or xs j 0) (get_or xs i 0) (stays j i le lt) other in
    record {
      same = λ x.
          let m = among_more xs i 0 lt x in (
            λ h. m.1 (inl ((s.same x).0 h)),
            λ h. elim (m.0 h) [
              | inl o ↦ (s.same x).1 o
              | inr q ↦ (s.same x).1 (let n = among_more xs j 0 jl x in let P : ℕ → Type 0 = λ k. Among (take k xs) x in subst P back (n.1 (inr (e ∙ q))))
            ],
          );
      ascends = s.ascends;
    }
  where
    equal : (a b : ℕ) → a ≤ b → (a < b → ⊥) → a ≡ b
    equal a b le n = elim (cases_eq a b) [ inl e ↦ e | inr ne ↦ absurd (n (omega arith)) ]

-- numbers of points
pub decoded_key : (p : Point) → decoded (key_of p) ≡ p
decoded_key p = λ i. record { node = (number p.role) i; role = (place p.role) i }
  where
    number : (r : Role) → (p.node * 8 + role_place r) / 8 ≡ p.node
    number roles.Entry = omega arith
    number roles.Exit = omega arith
    number roles.Head = omega arith
    number roles.Init = omega arith
    number roles.Test = omega arith
    number roles.Step = omega arith

    place : (r : Role) → role_at ((p.node * 8 + role_place r) % 8) ≡ r
    place roles.Entry = let e : (p.node * 8 + 0) % 8 ≡ 0 = omega arith in ap role_at e
    place roles.Exit = let e : (p.node * 8 + 1) % 8 ≡ 1 = omega arith in ap role_at e
    place roles.Head = let e : (p.node * 8 + 2) % 8 ≡ 2 = omega arith in ap role_at e
    place roles.Init = let e : (p.node * 8 + 3) % 8 ≡ 3 = omega arith in ap role_at e
    place roles.Test = let e : (p.node * 8 + 4) % 8 ≡ 4 = omega arith in ap role_at e
    place roles.Step = let e : (p.node * 8 + 5) % 8 ≡ 5 = omega arith in ap role_at e

role_small : (r : Role) → role_place r < 8
role_small roles.Entry = omega arith
role_small roles.Exit = omega arith
role_small roles.Head = omega arith
role_small roles.Init = omega arith
role_small roles.Test = omega arith
role_small roles.Step = omega arith

pub by_keys : (a b : Point) → key_of a < key_of b → IsPointBefore a b
by_keys a b lt = elim (cases_eq a.node b.node) [
  | inl e ↦ inr (e, omega (arith, lt, e))
  | inr ne ↦ inl (omega (arith, lt, ne, role_small a.role, role_small b.role))
]

by_codes : (c d : ℕ) → c < d → IsEdgeBefore (edge_of c) (edge_of d)
by_codes c d lt = elim (cases_eq (c / 4294967296) (d / 4294967296)) [
  | inl e ↦ inr (e, omega (arith, lt, e))
  | inr ne ↦ inl (omega (arith, lt, ne))
]

-- items of a list that is mapped
among_map : {X Y : Type 0} (f : X → Y) (xs : List X) (y : Y) → Among (map f xs) y ↔ ((x : X) × Among xs x × (f x ≡ y))
among_map f [] y = (λ h. absurd h, λ h. h.1)
among_map f (x ∷ xs) y =
    let r = among_map f xs y in (
      λ h. elim h [ inl e ↦ (x, inl refl, e) | inr t ↦ let q = r.0 t in (q.0, inr q.1, q.2) ],
      λ (z, a, e). elim a [ inl s ↦ inl (ap f s ∙ e) | inr t ↦ inr (r.1 (z, t, e)) ],
    )

map_at : {Y : Type 0} (f : ℕ → Y) (xs : List ℕ) (i : ℕ) (y : Y) → slice_get (map f xs) i ≡ Some y → (i < length xs) × (f (get_or xs i 0) ≡ y)
map_at f [] i y e = absurd cc
map_at f (x ∷ xs) zero y e = (omega arith, cc)
map_at f (x ∷ xs) (suc i) y e = let r = map_at f xs i y e in (omega (arith, r.0), r.1)

at_map : {Y : Type 0} (f : ℕ → Y) (xs : List ℕ) (i : ℕ) → i < length xs → slice_get (map f xs) i ≡ Some (f (get_or xs i 0))
at_map f [] i lt = absurd (omega (arith, lt))
at_map f (x ∷ xs) zero lt = refl
at_map f (x ∷ xs) (suc i) lt = at_map f xs i (omega (arith, lt))

mapped_size : {Y : Type 0} (f : ℕ → Y) (xs : List ℕ) → length (map f xs) ≡ length xs
mapped_size f [] = refl
mapped_size f (x ∷ xs) = ap suc (mapped_size f xs)

-- the graph of numbers in order
module _ (points : List Point) (ts : List Transfer) (keys raw : List ℕ) (raw_is : raw ≡ map key_of points) (same : (x : ℕ) → Among keys x ↔ Among raw x) (up : Ascends keys) (few : length keys < 2 ^ 32) where
  keyed : (k : ℕ) → Among keys k → (p : Point) × Among points p × (key_of p ≡ k)
  keyed k among = let R : List ℕ → Type 0 = λ xs. Among xs k in (among_map key_of points k).0 (subst R raw_is ((same k).0 among))

  key_at : (i : ℕ) (p : Point) → i < length keys → decoded (get_or keys i 0) ≡ p → get_or keys i 0 ≡ key_of p
  key_at i p lt e =
      let q = keyed (get_or keys i 0) (among_at keys i 0 lt) in
      let q_is : q.0 ≡ p = sym (decoded_key q.0) ∙ ap decoded q.2 ∙ e in
      sym q.2 ∙ ap key_of q_is

  points_are : (p : Point) → Among (map decoded keys) p ↔ Among points p
  points_are p = (
    λ h.
        let r = (among_map decoded keys p).0 h in
        let q = keyed r.0 r.1 in
        let q_is : q.0 ≡ p = sym (decoded_key q.0) ∙ ap decoded q.2 ∙ r.2 in
        let P : Point → Type 0 = λ x. Among points x in subst P q_is q.1,
    λ h.
        let R : List ℕ → Type 0 = λ xs. Among xs (key_of p) in
        let k = (same (key_of p)).1 (subst R (sym raw_is) ((among_map key_of points (key_of p)).1 (p, h, refl))) in
        (among_map decoded keys p).1 (key_of p, k, decoded_key p),
  )

  order_is : InOrder IsPointBefore (map decoded keys)
  order_is i j x y lt xi yj =
      let a = map_at decoded keys i x xi in
      let b = map_at decoded keys j y yj in
      by_keys x y (omega (arith, up i j lt b.0, key_at i x a.0 a.1, key_at j y b.0 b.1))

  module _ (codes found : List ℕ) (found_is : (x : ℕ) → Among found x ↔ IsCode keys ts x) (codes_are : (x : ℕ) → Among codes x ↔ Among found x) (codes_up : Ascends codes) where
    abbrev Joined : ℕ → ℕ → Type 0
    Joined i j = (a : Point) × (slice_get (map decoded keys) i ≡ Some a) × (b : Point) × (slice_get (map decoded keys) j ≡ Some b) × Transfers ts a b

    forth : (i j : ℕ) → Among (map edge_of codes) (record { from = i; to = j }) → Joined i j
    forth i j h =
        let r = (among_map edge_of codes (record { from = i; to = j })).0 h in
        let is = (found_is r.0).0 ((codes_are r.0).0 r.1) in
        let t = is.0 in
        let a = is.2.0 in
        let ap_ = is.2.1 in
        let b = is.2.2 in
        let bp = is.2.3 in
        let e : r.0 ≡ a * 4294967296 + b = is.2.4 in
        let small : b < 4294967296 = omega (arith, bp.0, few) in
        let fi : r.0 / 4294967296 ≡ i = ap (λ (x : Edge). x.from) r.2 in
        let tj : r.0 % 4294967296 ≡ j = ap (λ (x : Edge). x.to) r.2 in
        let ai : a ≡ i = omega (arith, e, small, fi) in
        let bj : b ≡ j = omega (arith, e, small, tj) in
        let F : ℕ → Type 0 = λ n. slice_get (map decoded keys) n ≡ Some t.from in
        let T : ℕ → Type 0 = λ n. slice_get (map decoded keys) n ≡ Some t.to in
        let from_at = at_map decoded keys a ap_.0 ∙ ap (λ k. Some (decoded k)) ap_.1 ∙ ap Some (decoded_key t.from) in
        let to_at = at_map decoded keys b bp.0 ∙ ap (λ k. Some (decoded k)) bp.1 ∙ ap Some (decoded_key t.to) in
        (t.from, subst F ai from_at, t.to, subst T bj to_at, is.1)

    back : (i j : ℕ) → Joined i j → Among (map edge_of codes) (record { from = i; to = j })
    back i j (a, ga, b, gb, among) =
        let x = map_at decoded keys i a ga in
        let y = map_at decoded keys j b gb in
        let code = i * 4294967296 + j in
        let small : j < 4294967296 = omega (arith, y.0, few) in
        let t : Transfer = record { from = a; to = b } in
        let is : IsCode keys ts code = (t, among, (i, (x.0, key_at i a x.0 x.1), j, (y.0, key_at j b y.0 y.1), refl)) in
        let f : code / 4294967296 ≡ i = omega (arith, small) in
        let g : code % 4294967296 ≡ j = omega (arith, small) in
        (among_map edge_of codes (record { from = i; to = j })).1 (code, (codes_are code).1 ((found_is code).1 is), λ k. record { from = f k; to = g k })

    pub is_graph : (ps : List Point) (es : List Edge) → ps ≡ map decoded keys → es ≡ map edge_of codes → IsGraphOf points (Transfers ts) (record { points = ps; edges = es })
    is_graph ps es ps_are es_are =
        let G : List Point → Type 0 = λ xs. IsGraphOf points (Transfers ts) (record { points = xs; edges = es }) in
        let H : List Edge → Type 0 = λ xs. IsGraphOf points (Transfers ts) (record { points = map decoded keys; edges = xs }) in
        subst G (sym ps_are) (subst H (sym es_are) (record {
          points = points_are;
          points_order = order_is;
          edges = λ i j. (forth i j, back i j);
          few = omega (arith, few, mapped_size decoded keys);
          edges_order = λ i j x y lt xi yj.
              let a = map_at edge_of codes i x xi in
              let b = map_at edge_of codes j y yj in
              let P : Edge → Type 0 = λ e. IsEdgeBefore e y in
              let Q : Edge → Type 0 = λ e. IsEdgeBefore (edge_of (get_or codes i 0)) e in
              subst P a.1 (subst Q b.1 (by_codes (get_or codes i 0) (get_or codes j 0) (codes_up i j lt b.0)));
        }))

-- a loop that maps, one more
pub map_more : {X : Type 0} (f : X → ℕ) (xs : List X) (i : ℕ) (d : X) (old new : List ℕ) (y : ℕ) → i < length xs → old ≡ map f (take i xs) → new ≡ old ++ y ∷ [] → y ≡ f (get_or xs i d) → new ≡ map f (take (i + 1) xs)
map_more f xs i d old new y lt old_is new_is y_is =
    new_is ∙ ap (λ o. o ++ y ∷ []) old_is ∙ ap (λ z. map f (take i xs) ++ z ∷ []) y_is ∙ sym (map-append f (take i xs) (get_or xs i d ∷ [])) ∙ sym (ap (map f) (take_more xs i d lt))

pub small_more : (most : ℕ) (old new : List ℕ) (y : ℕ) → ((k : ℕ) → Among old k → k < most) → new ≡ old ++ y ∷ [] → y < most → (k : ℕ) → Among new k → k < most
small_more most old new y all new_is small k among =
    let N : List ℕ → Type 0 = λ xs. Among xs k in
    elim ((among_push old y k).0 (subst N new_is among)) [ inl o ↦ all k o | inr e ↦ let P : ℕ → Type 0 = λ z. z < most in subst P e small ]

-- the last role
pub last_role : (n : ℕ) → n ≢ 0 → n ≢ 1 → n ≢ 2 → n ≢ 3 → n ≢ 4 → roles.Step ≡ role_at n
last_role zero a b c d e = absurd (a refl)
last_role (suc zero) a b c d e = absurd (b refl)
last_role (suc (suc zero)) a b c d e = absurd (c refl)
last_role (suc (suc (suc zero))) a b c d e = absurd (d refl)
last_role (suc (suc (suc (suc zero)))) a b c d e = absurd (e refl)
last_role (suc (suc (suc (suc (suc n))))) a b c d e = refl
