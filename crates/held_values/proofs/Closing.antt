-- The search: what is known is so, and in the end all that is so is known.
use Rattle.std.proofs.Common.{◌≡◌, ◌≢◌, ℕ, zero, suc, ◌+◌, ◌*◌, ◌/◌, ◌%◌, ◌<◌, ◌≤◌, ◌⊎◌, inl, inr, List, [], ◌∷◌, ◌++◌, length, get_or, Some, sym, ◌∙◌, ap, subst, refl, arith, mul_comm}
use Rattle.std.specs.Prelude.{slice_get, slice_index, slice_index_or}
use Rattle.std.proofs.lemmas.Bool.{cases_eq}
use Rattle.std.proofs.lemmas.Nat.{div-mul-add, mod-mul-add, mul-add-lt}
use Rattle.std.proofs.Math.Nat.{div-lt_iff_lt-mul}
use Rattle.graph_form.specs.declared.graph.Graph.{Graph}
use Rattle.graph_form.specs.Edges.{HasEdge}
use Rattle.graph_form.specs.Sets.{Among}
use Rattle.graph_form.proofs.Amongs.{among_app}
use Rattle.held_values.specs.declared.assign.Assign.{Assign}
use Rattle.held_values.specs.declared.assign.Effects.{Effects}
use Rattle.held_values.specs.declared.merged.Merged.{Merged}
use Rattle.held_values.specs.declared.slots.Slots.{Slots}
use Rattle.held_values.specs.Closing.{MayHold, IsSo, Passes, IsClosing, IsFilled}
use Rattle.held_values.specs.Holding.{IsRoute, left, AreKnown, Fits}
use Rattle.held_values.specs.Merged.{IsMerged, AreMerged, Turns}
use Rattle.held_values.specs.Slots.{unseen, slot, Covers, IsNew, Raised, Enters}
use Rattle.held_values.proofs.Raising.{covers_still, still_seen}
use Rattle.held_values.proofs.States.{AreSmall, nodes_size, nodes_small, list_small, turns_kind, turned_there, turned, turn_of}

-- the parts of a number of a pair
pub record Parts (points names k : ℕ) : Type 0 where
  pub point : k % points < points
  pub name : k / points < names
  pub some : 0 < names

pub parts : (points names k : ℕ) → k < points * names → Parts points names k
parts zero names k lt = absurd (omega (arith, lt))
parts (suc p) names k lt =
    let some : 0 < suc p = omega arith in
    let name : k / suc p < names = (div-lt_iff_lt-mul {k = suc p} {x = k} {y = names} some).1 (omega (arith, lt, mul_comm (suc p) names)) in
    record { point = omega arith; name = name; some = omega (arith, name) }

got : {X : Type 0} (xs : List X) (i : ℕ) → i < length xs → (x : X) × (slice_get xs i ≡ Some x)
got [] i lt = absurd (omega arith)
got (x ∷ xs) zero lt = (x, refl)
got (x ∷ xs) (suc i) lt = got xs i (omega arith)

covers_seen : (known value : ℕ) → Covers known value → value < unseen → known ≢ unseen
covers_seen known value (inl z) small = λ u. absurd (omega (arith, z, u))
covers_seen known value (inr e) small = λ u. absurd (omega (arith, e, u, small))

module _ (graph : Graph) (effects : Effects) (merged : List Merged) (fits : Fits graph effects) (are : AreMerged effects merged) where
  abbrev points : ℕ
  points = length graph.points

  abbrev names : ℕ
  names = length effects.start

  nodes_known : (point : ℕ) → AreKnown effects.literals (slice_index_or effects.points point [])
  nodes_known point = reads effects.points point fits.known
    where
      reads : (all : List (List (List Assign))) (i : ℕ) → ((nodes : List (List Assign)) → Among all nodes → AreKnown effects.literals nodes) → AreKnown effects.literals (slice_index_or all i [])
      reads [] i known = λ node among. absurd among
      reads (x ∷ xs) zero known = known x (inl refl)
      reads (x ∷ xs) (suc i) known = reads xs i (λ n among. known n (inr among))

  left_size : (route : List ℕ) → length (left effects route) ≡ names
  left_size [] = refl
  left_size (last ∷ earlier) = nodes_size (left effects earlier) (slice_index_or effects.points last []) ∙ left_size earlier

  left_small : (route : List ℕ) → AreSmall effects.literals (left effects route)
  left_small [] = list_small effects.literals effects.start fits.start
  left_small (last ∷ earlier) = nodes_small effects.literals (left effects earlier) (slice_index_or effects.points last []) (left_small earlier) (nodes_known last)

  -- what a point passes on
  module _ (q : ℕ) (one : Merged) (at : slice_get merged q ≡ Some one) where
    of : IsMerged names (slice_index_or effects.points q []) one.assigns.items
    of = (are.each q one at).assigns

    pub target_there : (name value target after : ℕ) → name < names → Turns one.assigns.items name value target after → target < names
    target_there name value target after lt turns = turned_there names (slice_index_or effects.points q []) one.assigns.items of effects.start refl name value target after lt turns

    may_pass : (p name value target after : ℕ) → name < names → HasEdge graph q p → MayHold graph effects q name value → Turns one.assigns.items name value target after → MayHold graph effects p target after
    may_pass p name value target after lt edge (route, is, held) turns =
        (q ∷ route, (is, edge), turned names (slice_index_or effects.points q []) one.assigns.items of (left effects route) (left_size route) name value target after lt held turns)

    so_pass : (p name value target after : ℕ) → name < names → HasEdge graph q p → IsSo graph effects q name value → Turns one.assigns.items name value target after → IsSo graph effects p target after
    so_pass p name value target after lt edge (inl may) turns = inl (may_pass p name value target after lt edge may turns)
    so_pass p name value target after lt edge (inr (z, v, w, first, second, ne)) turns = elim (turns_kind one.assigns.items name value target after turns) [
      | inl (e, f) ↦ inr (e ∙ z, v, w, may_pass p name v target v lt edge first (f v), may_pass p name w target w lt edge second (f w), ne)
      | inr f ↦ inl (may_pass p name v target after lt edge first (f v))
    ]

    may_small : (name value target after : ℕ) → name < names → MayHold graph effects q name value → Turns one.assigns.items name value target after → after ≤ effects.literals
    may_small name value target after lt (route, is, held) turns =
        let state = left effects route in
        let e = turned names (slice_index_or effects.points q []) one.assigns.items of state (left_size route) name value target after lt held turns in
        omega (arith, e, nodes_small effects.literals state (slice_index_or effects.points q []) (left_small route) (nodes_known q) target)

    pub so_small : (name value target after : ℕ) → name < names → IsSo graph effects q name value → Turns one.assigns.items name value target after → after ≤ effects.literals
    so_small name value target after lt (inl may) turns = may_small name value target after lt may turns
    so_small name value target after lt (inr (z, v, w, first, second, ne)) turns = elim (turns_kind one.assigns.items name value target after turns) [
      | inl (e, f) ↦ omega (arith, e, z)
      | inr f ↦ may_small name v target after lt first (f v)
    ]

  so_both : (p name x y : ℕ) → IsSo graph effects p name x → IsSo graph effects p name y → x ≢ y → IsSo graph effects p name 0
  so_both p name x y (inl a) (inl b) ne = inr (refl, x, y, a, b, ne)
  so_both p name x y (inr (z, v, w, a, b, other)) h ne = inr (refl, v, w, a, b, other)
  so_both p name x y (inl a) (inr (z, v, w, b, d, other)) ne = inr (refl, v, w, b, d, other)

  module _ (few : 0 < names → effects.literals < unseen) where
    -- what a pair passes on
    pub passes_so : (w : Slots) (at k v : ℕ) → IsClosing graph effects merged w → at < length w.values.items → slot w at ≢ unseen → Passes graph merged points at (slot w at) k v → (k < length w.values.items) × (v < unseen) × IsSo graph effects (k % points) (k / points) v
    passes_so w at k v closing lt seen (one, is, p, edge, target, turns, e) =
        let q = parts points names at (omega (arith, lt, closing.size)) in
        let inside = (fits.edges (at % points) p edge).1 in
        let here = target_there (at % points) one is (at / points) (slot w at) target v q.name turns in
        let so = closing.sound at lt seen in
        let small = so_small (at % points) one is (at / points) (slot w at) target v q.name so turns in
        let point_is : k % points ≡ p = ap (λ x. x % points) e ∙ mod-mul-add target points p inside in
        let name_is : k / points ≡ target = ap (λ x. x / points) e ∙ div-mul-add target points p inside in
        let P : ℕ → Type 0 = λ x. IsSo graph effects x (k / points) v in
        let Q : ℕ → Type 0 = λ x. IsSo graph effects p x v in
        (omega (arith, e, closing.size, mul-add-lt target points p names here inside), omega (arith, small, few q.some), subst P (sym point_is) (subst Q (sym name_is) (so_pass (at % points) one is p (at / points) (slot w at) target v q.name edge so turns)))

    -- after the start
    pub begun : (w0 w1 : Slots) → IsNew (points * names) w0 → Raised (Enters effects.start points names) w0 w1 → IsClosing graph effects merged w1
    begun w0 w1 fresh grows =
        let first : (k : ℕ) → k < length w1.values.items → slot w0 k ≡ unseen = λ k lt. fresh.unseen k (omega (arith, lt, grows.size, fresh.size)) in
        record {
          size = grows.size ∙ fresh.size;
          inside = λ k h. elim (grows.inside k h) [
            | inl o ↦ let P : List ℕ → Type 0 = λ xs. Among xs k in absurd (subst P fresh.waiting o)
            | inr x ↦ x
          ];
          sound = λ k lt seen. elim (grows.comes k) [
            | inl e ↦ absurd (seen (e ∙ first k lt))
            | inr more ↦ elim more [
              | inl came ↦ inl ([], (entered k (slot w1 k) came).0, sym (entered k (slot w1 k) came).1)
              | inr (z, (v, came, how)) ↦ elim how [
                | inl (was, ne) ↦ absurd (was (first k lt))
                | inr (w, also, ne) ↦ absurd (ne ((entered k w also).1 ∙ sym (entered k v came).1))
              ]
            ]
          ];
          start = λ name lt. grows.covers (name * points) (slice_index effects.start name) (name, lt, lt, refl, refl);
          closed = λ k lt seen. elim (grows.waits k) [ inl e ↦ absurd (seen (e ∙ first k lt)) | inr w ↦ inl w ];
        }
      where
        entered : (k v : ℕ) → Enters effects.start points names k v → (k % points ≡ 0) × (v ≡ slice_index effects.start (k / points))
        entered k v (name, below, inside, e, f) =
            let whole : k ≡ name * points + 0 = omega (arith, e) in
            let point_is : k % points ≡ 0 = ap (λ x. x % points) whole ∙ mod-mul-add name points 0 fits.entry in
            let name_is : k / points ≡ name = ap (λ x. x / points) whole ∙ div-mul-add name points 0 fits.entry in
            (point_is, f ∙ ap (slice_index effects.start) (sym name_is))

    -- one pair was taken, and what it gives was passed on
    pub stepped : (at : ℕ) (w0 w1 w2 : Slots) → IsClosing graph effects merged w0 → w0.waiting.items ≡ w1.waiting.items ++ at ∷ [] → w1.values ≡ w0.values → Raised (Passes graph merged points at (slot w0 at)) w1 w2 → IsClosing graph effects merged w2
    stepped at w0 w1 w2 closing taken same grows =
        let W : List ℕ → Type 0 = λ xs. Among xs at in
        let here = closing.inside at (subst W (sym taken) ((among_app w1.waiting.items (at ∷ []) at).1 (inr (inl refl)))) in
        let is : (k : ℕ) → slot w1 k ≡ slot w0 k = λ k. ap (λ v. get_or v.items k 0) same in
        let size : length w2.values.items ≡ length w0.values.items = grows.size ∙ ap (λ v. length v.items) same in
        let kept : (k : ℕ) → (slot w0 k ≡ unseen) ⊎ Covers (slot w2 k) (slot w0 k) = λ k. let P : ℕ → Type 0 = λ x. (x ≡ unseen) ⊎ Covers (slot w2 k) x in subst P (is k) (grows.kept k) in
        let rest : (k : ℕ) → Among w1.waiting.items k → Among w0.waiting.items k = λ k h.
        let P : List ℕ → Type 0 = λ xs. Among xs k in subst P (sym taken) ((among_app w1.waiting.items (at ∷ []) k).1 (inl h)) in
        record {
          size = size ∙ closing.size;
          inside = λ k h. elim (grows.inside k h) [
            | inl o ↦ let i = closing.inside k (rest k o) in (omega (arith, i.0, size), still_seen (slot w0 k) (slot w2 k) (kept k) i.1)
            | inr x ↦ x
          ];
          sound = λ k lt seen. elim (grows.comes k) [
            | inl e ↦ let P : ℕ → Type 0 = λ x. IsSo graph effects (k % points) (k / points) x in
                let f : slot w2 k ≡ slot w0 k = e ∙ is k in
                subst P (sym f) (closing.sound k (omega (arith, lt, size)) (λ u. seen (f ∙ u)))
            | inr more ↦ elim more [
              | inl came ↦ (passes_so w0 at k (slot w2 k) closing here.0 here.1 came).2
              | inr (z, (v, came, how)) ↦
                  let P : ℕ → Type 0 = λ x. IsSo graph effects (k % points) (k / points) x in
                  let one = (passes_so w0 at k v closing here.0 here.1 came).2 in
                  elim how [
                    | inl (was, ne) ↦ subst P (sym z) (so_both (k % points) (k / points) (slot w0 k) v (closing.sound k (omega (arith, lt, size)) (λ u. was (is k ∙ u))) one (λ e. ne (is k ∙ e)))
                    | inr (w, also, ne) ↦ subst P (sym z) (so_both (k % points) (k / points) w v (passes_so w0 at k w closing here.0 here.1 also).2 one ne)
                  ]
            ]
          ];
          start = λ name lt. covers_still (slot w0 (name * points)) (slot w2 (name * points)) (slice_index effects.start name) (omega (arith, left_small [] name, few (omega (arith, lt)))) (closing.start name lt) (kept (name * points));
          closed = λ k lt seen. elim (grows.waits k) [
            | inr w ↦ inl w
            | inl e ↦
                let f : slot w2 k ≡ slot w0 k = e ∙ is k in
                let back : (m v : ℕ) → Passes graph merged points k (slot w2 k) m v → Passes graph merged points k (slot w0 k) m v = λ m v passes. let P : ℕ → Type 0 = λ x. Passes graph merged points k x m v in subst P f passes in
                let lt0 : k < length w0.values.items = omega (arith, lt, size) in
                let seen0 : slot w0 k ≢ unseen = λ u. seen (f ∙ u) in
                elim (cases_eq k at) [
                  | inl eq ↦ inr (λ m v passes. let P : ℕ → Type 0 = λ x. Passes graph merged points x (slot w0 x) m v in grows.covers m v (subst P eq (back m v passes)))
                  | inr ne ↦ elim (closing.closed k lt0 seen0) [
                    | inl waits ↦
                        let P : List ℕ → Type 0 = λ xs. Among xs k in
                        elim ((among_app w1.waiting.items (at ∷ []) k).0 (subst P taken waits)) [
                          | inl o ↦ inl (grows.more k o)
                          | inr l ↦ elim l [ inl eq ↦ absurd (ne (sym eq)) | inr n ↦ absurd n ]
                        ]
                    | inr all ↦ inr (λ m v passes.
                        let b = back m v passes in
                        covers_still (slot w0 m) (slot w2 m) v (passes_so w0 k m v closing lt0 seen0 b).1 (all m v b) (kept m))
                  ]
                ]
          ];
        }

    -- in the end
    module _ (w : Slots) (closing : IsClosing graph effects merged w) (idle : (k : ℕ) → Among w.waiting.items k → ⊥) where
      small : (route : List ℕ) (name : ℕ) → name < names → slice_index (left effects route) name < unseen
      small route name lt = omega (arith, left_small route name, few (omega (arith, lt)))

      led : (route : List ℕ) (point name : ℕ) → IsRoute graph route point → point < length graph.points → name < names → Covers (slot w (name * points + point)) (slice_index (left effects route) name)
      led [] point name entry there lt =
          let e : name * points ≡ name * points + point = omega (arith, entry) in
          let P : ℕ → Type 0 = λ k. Covers (slot w k) (slice_index effects.start name) in
          subst P e (closing.start name lt)
      led (q ∷ earlier) point target (before, edge) there lt =
          let inside = (fits.edges q point edge).0 in
          let r = got merged q (omega (arith, inside, are.size, fits.points)) in
          let state = left effects earlier in
          let t = turn_of names (slice_index_or effects.points q []) r.0.assigns.items (are.each q r.0 r.1).assigns state (left_size earlier) target lt in
          let k = t.0 * points + q in
          let known = led earlier q t.0 before inside t.1 in
          let k_lt : k < length w.values.items = omega (arith, closing.size, mul-add-lt t.0 points q names t.1 inside) in
          let seen = covers_seen (slot w k) (slice_index state t.0) known (small earlier t.0 t.1) in
          let point_is : k % points ≡ q = mod-mul-add t.0 points q inside in
          let name_is : k / points ≡ t.0 = div-mul-add t.0 points q inside in
          let after = slice_index (left effects (q ∷ earlier)) target in
          let passes : (v : ℕ) → Turns r.0.assigns.items t.0 (slot w k) target v → Passes graph merged points k (slot w k) (target * points + point) v = λ v turns.
          let G : ℕ → Type 0 = λ x. slice_get merged x ≡ Some r.0 in
          let E : ℕ → Type 0 = λ x. HasEdge graph x point in
          let T : ℕ → Type 0 = λ x. Turns r.0.assigns.items x (slot w k) target v in
          (r.0, subst G (sym point_is) r.1, point, subst E (sym point_is) edge, target, subst T (sym name_is) turns, refl) in
          elim (closing.closed k k_lt seen) [
            | inl waits ↦ absurd (idle k waits)
            | inr all ↦ elim known [
              | inr e ↦ let P : ℕ → Type 0 = λ x. Turns r.0.assigns.items t.0 x target after in all (target * points + point) after (passes after (subst P (sym e) t.2))
              | inl z ↦ elim (turns_kind r.0.assigns.items t.0 (slice_index state t.0) target after t.2) [
                | inl (e, f) ↦
                    let P : ℕ → Type 0 = λ x. Turns r.0.assigns.items t.0 x target 0 in
                    elim (all (target * points + point) 0 (passes 0 (subst P (sym z) (f 0)))) [ inl y ↦ inl y | inr y ↦ inl y ]
                | inr f ↦ let P : ℕ → Type 0 = λ x. Turns r.0.assigns.items t.0 x target after in all (target * points + point) after (passes after (subst P (sym z) (f 0)))
              ]
            ]
          ]

      pub filled : IsFilled graph effects w.values.items
      filled = record {
        size = closing.size;
        exact = λ point name literal there lt some. (
          λ (e, ne, seen).
              let k_lt : name * points + point < length w.values.items = omega (arith, closing.size, mul-add-lt name points point names lt there) in
              let so = sound point name k_lt there (λ u. seen (sym e ∙ u)) in
              record {
                some = elim so [ inl (route, is, held) ↦ (route, is) | inr (z, v, x, first, second, ne) ↦ absurd (some (sym e ∙ z)) ];
                every = λ route is. elim (led route point name is there lt) [ inl z ↦ absurd (some (sym e ∙ z)) | inr f ↦ sym f ∙ e ];
              },
          λ h.
              let k_lt : name * points + point < length w.values.items = omega (arith, closing.size, mul-add-lt name points point names lt there) in
              let is_it = h.every h.some.0 h.some.1 in
              let under = small h.some.0 name lt in
              let known = led h.some.0 point name h.some.1 there lt in
              let seen = covers_seen (slot w (name * points + point)) (slice_index (left effects h.some.0) name) known under in
              elim known [
                | inr e ↦ (e ∙ is_it, some, λ u. absurd (omega (arith, u, is_it, under)))
                | inl z ↦ elim (sound point name k_lt there seen) [
                  | inl (route, is, held) ↦ absurd (some (sym (h.every route is) ∙ held ∙ z))
                  | inr (y, v, x, first, second, ne) ↦ absurd (ne (sym first.2 ∙ h.every first.0 first.1 ∙ sym (h.every second.0 second.1) ∙ second.2))
                ]
              ],
        );
      }
        where
          sound : (point name : ℕ) → name * points + point < length w.values.items → point < points → slot w (name * points + point) ≢ unseen → IsSo graph effects point name (slot w (name * points + point))
          sound point name k_lt there seen =
              let P : ℕ → Type 0 = λ x. IsSo graph effects x ((name * points + point) / points) (slot w (name * points + point)) in
              let Q : ℕ → Type 0 = λ x. IsSo graph effects point x (slot w (name * points + point)) in
              subst Q (div-mul-add name points point there) (subst P (mod-mul-add name points point there) (closing.sound (name * points + point) k_lt seen))

-- where nothing waits
pub idle : (xs : List ℕ) → (0 < length xs → ⊥) → (k : ℕ) → Among xs k → ⊥
idle [] none k h = h
idle (x ∷ xs) none k h = none (omega arith)
