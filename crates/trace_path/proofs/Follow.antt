-- Facts along one path.
use Rattle.std.proofs.Common.{◌≡◌, ℕ, zero, suc, ◌+◌, ◌<◌, ◌≤◌, ◌⊎◌, ◌↔◌, inl, inr, List, [], ◌∷◌, ◌++◌, length, take, get_or, Some, sym, ◌∙◌, ap, subst, refl, arith, Bool, true, false, IsTrue}
use Rattle.std.specs.Prelude.{slice_get, reverse, Result, Ok, Err, is_ok}
use Rattle.std.specs.List.Sorted.{IsBinarySearchResult}
use Rattle.std.specs.Ordering.{nat_cmp}
use Rattle.std.proofs.lemmas.Bool.{cases_eq}
use Rattle.std.proofs.lemmas.List.Sorted.{searched}
use Rattle.graph_form.proofs.Amongs.{among_at, among_more, among_place, among_push}
use Rattle.std.proofs.lemmas.List.{take_more, reverse-append, reverse-reverse, length-reverse}
use Rattle.graph_form.specs.declared.graph.Graph.{Graph}
use Rattle.graph_form.specs.declared.graph.Edge.{Edge}
use Rattle.graph_form.specs.Sets.{Among}
use Rattle.flow_reach.specs.declared.moves.Moves.{Moves}
use Rattle.flow_reach.specs.declared.moves.Move.{Move}
use Rattle.graph_form.specs.Edges.{HasEdge}
use Rattle.flow_reach.specs.Carried.{Stop, Leads, Turns, TurnsBy, Stays, Fits}
use Rattle.flow_reach.specs.Adds.{Coded}
use Rattle.flow_reach.proofs.Closing.{leads_there}
use Rattle.trace_path.specs.Queue.{Ascends}
use Rattle.trace_path.specs.Trace.{points_of, IsTrace}
use Rattle.trace_path.specs.Along.{Along, Follows, Begins, Ends, IsDistinct, TurnedBy}
use Rattle.trace_path.proofs.Lengthen.{taken_up}

pub along_first : (graph : Graph) (moves : Moves) (point fact : ℕ) → Begins moves point fact ↔ Along graph moves point [] fact
along_first graph moves point fact = (λ h. ([], h, refl), λ (stops, leads, same). back stops leads same)
  where
    back : (stops : List Stop) → Leads graph moves stops point fact → points_of stops ≡ [] → Begins moves point fact
    back [] leads same = leads
    back (s ∷ ss) leads same = absurd cc

pub along_more : (graph : Graph) (moves : Moves) (from to : ℕ) (earlier facts : List ℕ) → ((f : ℕ) → Among facts f ↔ Along graph moves from earlier f) → (g : ℕ) → Follows graph moves from to facts g ↔ Along graph moves to (from ∷ earlier) g
along_more graph moves from to earlier facts all g = (
  λ (edge, (f, among, turn)).
      let a = (all f).0 among in
      let stop : Stop = record { point = from; fact = f } in
      (stop ∷ a.0, (a.1, edge, turn), ap (λ ps. from ∷ ps) a.2),
  λ (stops, leads, same). back stops leads same,
)
  where
    back : (stops : List Stop) → Leads graph moves stops to g → points_of stops ≡ from ∷ earlier → Follows graph moves from to facts g
    back [] leads same = absurd cc
    back (s ∷ ss) (before, edge, turn) same =
        let head : s.point ≡ from = cc in
        let tail : points_of ss ≡ earlier = cc in
        let E : ℕ → Type 0 = λ p. HasEdge graph p to in
        let T : ℕ → Type 0 = λ p. Turns moves p s.fact g in
        let L : ℕ → Type 0 = λ p. Leads graph moves ss p s.fact in
        (subst E head edge, (s.fact, (all s.fact).1 (ss, subst L head before, tail), subst T head turn))

-- the points so far, the last one first
pub record SoFar (graph : Graph) (moves : Moves) (points : List ℕ) (n last : ℕ) (facts : List ℕ) : Type 0 where
  pub earlier : List ℕ
  pub same : reverse (take n points) ≡ last ∷ earlier
  pub all : (f : ℕ) → Among facts f ↔ Along graph moves last earlier f

pub so_far_first : (graph : Graph) (moves : Moves) (points : List ℕ) (last : ℕ) (facts : List ℕ) → 0 < length points → last ≡ get_or points 0 0 → ((f : ℕ) → Among facts f ↔ Begins moves last f) → SoFar graph moves points 1 last facts
so_far_first graph moves [] last facts lt read begins = absurd (omega arith)
so_far_first graph moves (p ∷ ps) last facts lt read begins = record {
  earlier = [];
  same = ap (λ x. x ∷ []) (sym read);
  all = λ f. let b = begins f in let a = along_first graph moves last f in (λ h. a.0 (b.0 h), λ h. b.1 (a.1 h));
}

pub so_far_more : (graph : Graph) (moves : Moves) (points : List ℕ) (n last next : ℕ) (facts later : List ℕ) → SoFar graph moves points n last facts → n < length points → next ≡ get_or points n 0 → ((g : ℕ) → Among later g ↔ Follows graph moves last next facts g) → SoFar graph moves points (n + 1) next later
so_far_more graph moves points n last next facts later so_far lt read follows = record {
  earlier = last ∷ so_far.earlier;
  same = ap reverse (take_more points n 0 lt) ∙ reverse-append (take n points) (get_or points n 0 ∷ []) ∙ ap (λ xs. get_or points n 0 ∷ xs) so_far.same ∙ ap (λ x. x ∷ (last ∷ so_far.earlier)) (sym read);
  all = λ g. let b = follows g in let a = along_more graph moves last next so_far.earlier facts so_far.all g in (λ h. a.0 (b.0 h), λ h. b.1 (a.1 h));
}

pub so_far_there : (graph : Graph) (moves : Moves) (fits : Fits graph moves) (points : List ℕ) (n last : ℕ) (facts : List ℕ) → SoFar graph moves points n last facts → (f : ℕ) → Among facts f → f < moves.facts
so_far_there graph moves fits points n last facts so_far f among = let a = (so_far.all f).0 among in leads_there graph moves a.0 last f fits a.1

pub trace_is : (graph : Graph) (moves : Moves) (goals : List (ℕ × ℕ)) (points : List ℕ) (n last : ℕ) (facts : List ℕ) → SoFar graph moves points n last facts → take n points ≡ points → Ends goals last facts ↔ IsTrace graph moves goals points
trace_is graph moves goals points n last facts so_far whole =
    let round : reverse points ≡ last ∷ so_far.earlier = ap reverse (sym whole) ∙ so_far.same in (
      λ (f, goal, among).
          let a = (so_far.all f).0 among in
          record {
            stops = a.0;
            point = last;
            fact = f;
            leads = a.1;
            goal = goal;
            same = sym (reverse-reverse points) ∙ ap reverse (round ∙ ap (λ ps. last ∷ ps) (sym a.2));
          },
      λ t.
          let e : t.point ∷ points_of t.stops ≡ last ∷ so_far.earlier = sym (reverse-reverse (t.point ∷ points_of t.stops)) ∙ ap reverse (sym t.same) ∙ round in
          let head : t.point ≡ last = cc in
          let tail : points_of t.stops ≡ so_far.earlier = cc in
          let G : ℕ → Type 0 = λ p. Among goals (p, t.fact) in
          let L : ℕ → Type 0 = λ p. Leads graph moves t.stops p t.fact in
          (t.fact, subst G head t.goal, (so_far.all t.fact).1 (t.stops, subst L head t.leads, tail)),
    )

pub no_points : (graph : Graph) (moves : Moves) (goals : List (ℕ × ℕ)) (points : List ℕ) → length points ≡ 0 → IsTrace graph moves goals points → ⊥
no_points graph moves goals points none t = let e = ap length (sym (reverse-reverse (t.point ∷ points_of t.stops)) ∙ ap reverse (sym t.same)) in omega (arith, none, e, reversed points)
  where
    reversed : (ps : List ℕ) → length (reverse ps) ≡ length ps
    reversed ps = length-reverse ps

-- what is turned at a point, by its row as it was read
pub follows_is : (graph : Graph) (moves : Moves) (from to : ℕ) (row : Move) (facts later : List ℕ) → HasEdge graph from to → slice_get moves.rows from ≡ Some row → ((g : ℕ) → Among later g ↔ TurnedBy row facts g) → (g : ℕ) → Among later g ↔ Follows graph moves from to facts g
follows_is graph moves from to row facts later edge at turns g = (
  λ h. let t = (turns g).0 h in (edge, (t.0, t.1, (row, at, t.2))),
  λ (e, (f, among, (r, at_r, by))).
      let one : r ≡ row = let z : Some r ≡ Some row = sym at_r ∙ at in cc in
      (turns g).1 (f, among, turned_by r row f g one by),
)
  where
    turned_by : (r row : Move) (f g : ℕ) → r ≡ row → TurnsBy r f g → TurnsBy row f g
    turned_by r row f g e by = let P : Move → Type 0 = λ m. TurnsBy m f g in subst P e by

-- where no edge leads on, no fact does
pub no_edge : (graph : Graph) (moves : Moves) (from to : ℕ) (facts later : List ℕ) (b : Bool) → (IsTrue b ↔ HasEdge graph from to) → b ≡ false → later ≡ [] → (g : ℕ) → Among later g ↔ Follows graph moves from to facts g
no_edge graph moves from to facts later b same off none g = (
  λ h. let P : List ℕ → Type 0 = λ xs. Among xs g in absurd (subst P none h),
  λ (edge, rest). absurd (let on : b ≡ true = same.1 edge in let z : false ≡ true = sym off ∙ on in cc),
)

-- the facts that a row turns some into, one more
pub turned_more : (row : Move) (xs ys mid kept new : List ℕ) (adds : List ℕ) (drops : List ℕ) (y : ℕ) → ((x : ℕ) → Among drops x ↔ Among row.drops x) → ((f h : ℕ) → Coded adds f h ↔ Among row.adds (f, h)) → ((x : ℕ) → Among ys x ↔ (Among xs x ⊎ (y ≡ x))) → ((g : ℕ) → Among mid g ↔ TurnedBy row xs g) → ((g : ℕ) → Among kept g ↔ (Among mid g ⊎ Stays drops y g)) → ((g : ℕ) → Among new g ↔ (Among kept g ⊎ Coded adds y g)) → (g : ℕ) → Among new g ↔ TurnedBy row ys g
turned_more row xs ys mid kept new adds drops y same_drops same_adds split all keeps second g = (
  λ h. elim ((second g).0 h) [
    | inl k ↦ elim ((keeps g).0 k) [
      | inl m ↦ let t = (all g).0 m in (t.0, (split t.0).1 (inl t.1), t.2)
      | inr (e, stays) ↦ (y, (split y).1 (inr refl), inl (e, λ d. stays ((same_drops y).1 d)))
    ]
    | inr coded ↦ (y, (split y).1 (inr refl), inr ((same_adds y g).0 coded))
  ],
  λ (f, among, by). elim ((split f).0 among) [
    | inl a ↦ (second g).1 (inl ((keeps g).1 (inl ((all g).1 (f, a, by)))))
    | inr e ↦ let P : ℕ → Type 0 = λ z. TurnsBy row z g in elim (subst P (sym e) by) [
      | inl (q, stays) ↦ (second g).1 (inl ((keeps g).1 (inr (q, λ d. stays ((same_drops y).0 d)))))
      | inr adds_it ↦ (second g).1 (inr ((same_adds y g).1 adds_it))
    ]
  ],
)

-- ---- numbers in order, each once

size_push : (xs : List ℕ) (y : ℕ) → length (xs ++ y ∷ []) ≡ length xs + 1
size_push [] y = refl
size_push (x ∷ xs) y = omega (arith, size_push xs y)

pushed_at : (xs : List ℕ) (y k : ℕ) → k < length xs → get_or (xs ++ y ∷ []) k 0 ≡ get_or xs k 0
pushed_at [] y k lt = absurd (omega (arith, lt))
pushed_at (x ∷ xs) y zero lt = refl
pushed_at (x ∷ xs) y (suc k) lt = pushed_at xs y k (omega (arith, lt))

pushed_last : (xs : List ℕ) (y : ℕ) → get_or (xs ++ y ∷ []) (length xs) 0 ≡ y
pushed_last [] y = refl
pushed_last (x ∷ xs) y = pushed_last xs y

ascends_push : (xs : List ℕ) (y : ℕ) → Ascends xs → ((x : ℕ) → Among xs x → x ≤ y) → Ascends (xs ++ y ∷ [])
ascends_push xs y up least i j le lt = elim (cases_eq j (length xs)) [
  | inl e ↦
      let J : ℕ → Type 0 = λ k. get_or (xs ++ y ∷ []) i 0 ≤ get_or (xs ++ y ∷ []) k 0 in
      subst J (sym e) (elim (cases_eq i (length xs)) [
        | inl q ↦ omega (arith, ap (λ k. get_or (xs ++ y ∷ []) k 0) q)
        | inr n ↦ let il : i < length xs = omega (arith, le, e) in omega (arith, pushed_at xs y i il, pushed_last xs y, least (get_or xs i 0) (among_at xs i 0 il))
      ])
  | inr n ↦
      let jl : j < length xs = omega (arith, lt, size_push xs y) in
      let il : i < length xs = omega (arith, le, jl) in
      omega (arith, pushed_at xs y i il, pushed_at xs y j jl, up i j le jl)
]

pub distinct_none : (numbers found : List ℕ) → found ≡ [] → IsDistinct numbers 0 found
distinct_none numbers found e = let P : List ℕ → Type 0 = λ xs. IsDistinct numbers 0 xs in subst P (sym e) (record { same = λ x. (λ h. h, λ h. h); ascends = λ i j le lt. absurd (omega (arith, lt)) })

pub distinct_push : (numbers : List ℕ) (n : ℕ) (found new : List ℕ) → Ascends numbers → n < length numbers → IsDistinct numbers n found → new ≡ found ++ get_or numbers n 0 ∷ [] → IsDistinct numbers (n + 1) new
distinct_push numbers n found new up lt so_far new_is =
    let y = get_or numbers n 0 in
    let P : List ℕ → Type 0 = λ xs. IsDistinct numbers (n + 1) xs in
    subst P (sym new_is) (record {
      same = λ x.
          let a = among_push found y x in
          let m = among_more numbers n 0 lt x in (
            λ h. elim (a.0 h) [ inl o ↦ m.1 (inl ((so_far.same x).0 o)) | inr e ↦ m.1 (inr e) ],
            λ h. elim (m.0 h) [ inl o ↦ a.1 (inl ((so_far.same x).1 o)) | inr e ↦ a.1 (inr e) ],
          );
      ascends = ascends_push found y so_far.ascends (λ x among. taken_up numbers n up lt x ((so_far.same x).0 among));
    })

pub distinct_same : (numbers : List ℕ) (n m : ℕ) (found : List ℕ) → n < length numbers → m + 1 ≡ n → get_or numbers m 0 ≡ get_or numbers n 0 → IsDistinct numbers n found → IsDistinct numbers (n + 1) found
distinct_same numbers n m found lt back same so_far = record {
  same = λ x.
      let a = among_more numbers n 0 lt x in (
        λ h. a.1 (inl ((so_far.same x).0 h)),
        λ h. elim (a.0 h) [
          | inl o ↦ (so_far.same x).1 o
          | inr e ↦
              let P : ℕ → Type 0 = λ k. Among (take k numbers) x in
              (so_far.same x).1 (subst P back ((among_more numbers m 0 (omega (arith, lt)) x).1 (inr (same ∙ e))))
        ],
      );
  ascends = so_far.ascends;
}

-- a number that is found by halving
pub found_there : (xs : List ℕ) (x : ℕ) (r : Result ℕ ℕ) (b : Bool) → Ascends xs → IsBinarySearchResult (λ y. nat_cmp y x) xs r → b ≡ is_ok r → IsTrue b ↔ Among xs x
found_there xs x (Ok i) b up result is =
    let s = searched xs x (Ok i) result up in
    let P : ℕ → Type 0 = λ y. Among xs y in
    (λ t. subst P s.1 (among_at xs i 0 s.0), λ a. is)
found_there xs x (Err i) b up result is =
    let s = searched xs x (Err i) result up in (
      λ t. absurd (let z : false ≡ true = sym is ∙ t in cc),
      λ a.
          let p = among_place 0 xs x a in
          absurd (elim (sides p.0 i) [
            | inl lt ↦ omega (arith, s.1 p.0 lt, p.2)
            | inr ge ↦ omega (arith, s.2 p.0 ge p.1, p.2)
          ]),
    )
  where
    sides : (a b : ℕ) → (a < b) ⊎ (b ≤ a)
    sides a zero = inr (omega arith)
    sides zero (suc b) = inl (omega arith)
    sides (suc a) (suc b) = elim (sides a b) [ inl h ↦ inl (omega arith) | inr h ↦ inr (omega arith) ]
