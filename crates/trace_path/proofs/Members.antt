-- Items of lists.
use Rattle.std.proofs.Common.{◌≡◌, ◌↔◌, ◌⊎◌, inl, inr, ℕ, ◌+◌, ◌*◌, ◌<◌, List, [], ◌∷◌, ◌++◌, length, take, get_or, Some, sym, ◌∙◌, ap, subst, refl, arith, mul_comm}
use Rattle.std.specs.Prelude.{slice_get}
use Rattle.std.proofs.lemmas.Nat.{mul-add-lt}
use Rattle.std.proofs.lemmas.Option.{slice_get_read}
use Rattle.graph_form.specs.Edges.{HasEdge}
use Rattle.std.specs.Global.{Vec}
use Rattle.graph_form.specs.declared.graph.Graph.{Graph}
use Rattle.graph_form.specs.Sets.{Among}
use Rattle.flow_reach.specs.declared.moves.Moves.{Moves}
use Rattle.flow_reach.specs.Bits.{Has, stride_of}
use Rattle.flow_reach.proofs.Closing.{facts_fit}
use Rattle.flow_reach.proofs.Following.{same_parts}
use Rattle.flow_reach.specs.Carried.{Turns, Inside, Pairs}
use Rattle.flow_reach.specs.Spread.{IsTable, AtPairs}
use Rattle.flow_reach.proofs.Steps.{row_at}
use Rattle.trace_path.specs.Queue.{Ascends, Turned, HasOne, IsNext, Group, IsAt, IsQueue, Leaves, Meets}

-- the facts that a point turns the facts into, one more
pub turned_more : (moves : Moves) (point : ℕ) (xs ys : List ℕ) (y g : ℕ) (mid new : List ℕ) → ((x : ℕ) → Among ys x ↔ (Among xs x ⊎ (y ≡ x))) → (Among mid g ↔ Turned moves point xs g) → (Among new g ↔ (Among mid g ⊎ Turns moves point y g)) → Among new g ↔ Turned moves point ys g
turned_more moves point xs ys y g mid new split all step = (
  λ h. elim (step.0 h) [
    | inl m ↦ let t = all.0 m in (t.0, (split t.0).1 (inl t.1), t.2)
    | inr turns ↦ (y, (split y).1 (inr refl), turns)
  ],
  λ (f, among, turns). elim ((split f).0 among) [
    | inl a ↦ step.1 (inl (all.1 (f, a, turns)))
    | inr e ↦ step.1 (inr (let P : ℕ → Type 0 = λ z. Turns moves point z g in subst P (sym e) turns))
  ],
)

-- no fact so far is in the set, and the next one isn't
pub none_more : (set : List ℕ) (base : ℕ) (xs ys : List ℕ) (y : ℕ) → ((x : ℕ) → Among ys x ↔ (Among xs x ⊎ (y ≡ x))) → (HasOne set base xs → ⊥) → (Has set (base + y) → ⊥) → HasOne set base ys → ⊥
none_more set base xs ys y split none here (f, among, has) = elim ((split f).0 among) [
  | inl a ↦ none (f, a, has)
  | inr e ↦ here (let P : ℕ → Type 0 = λ z. Has set (base + z) in subst P (sym e) has)
]

pub joined : (xs : List ℕ) (y : ℕ) (zs : List ℕ) → (xs ++ y ∷ []) ++ zs ≡ xs ++ (y ∷ zs)
joined [] y zs = refl
joined (x ∷ xs) y zs = ap (λ ws. x ∷ ws) (joined xs y zs)

-- the rows of a table in order
pub rows_are : (graph : Graph) (table rows : List (Vec ℕ)) → IsTable graph table → length rows ≡ length table → ((i : ℕ) (row : Vec ℕ) → slice_get rows i ≡ Some row → (old : Vec ℕ) × (slice_get table i ≡ Some old) × ((x : ℕ) → Among row.items x ↔ Among old.items x) × Ascends row.items) → IsNext graph rows
rows_are graph table rows is size each = record {
  size = size ∙ is.rows;
  each = λ i row got.
      let r = each i row got in (
        λ q.
            let a = r.2 q in
            let b = row_at table i r.0 q r.1 in
            let e = is.exact i q in
            (λ h. e.0 (b.1 (a.0 h)), λ h. a.1 (b.0 (e.1 h))),
        r.3,
      );
}

-- a class has a fact in the set of goals exactly where it meets a goal
pub meets_is : (stride facts : ℕ) (goals : List (ℕ × ℕ)) (set : List ℕ) (c : Group) → ((fact : ℕ) → fact < facts → fact < stride) → ((point fact : ℕ) → Among goals (point, fact) → fact < facts) → ((fact : ℕ) → Among c.facts fact → fact < facts) → ((k : ℕ) → Has set k ↔ AtPairs stride goals k) → HasOne set (c.point * stride) c.facts ↔ Meets goals c
meets_is stride facts goals set c fit goals_there facts_there has = (
  λ (fact, among, h).
      let p = (has (c.point * stride + fact)).0 h in
      let q = same_parts stride c.point p.0.0 fact p.0.1 (fit fact (facts_there fact among)) (fit p.0.1 (goals_there p.0.0 p.0.1 p.1)) p.2 in
      let P : ℕ × ℕ → Type 0 = λ g. Among goals g in
      (fact, subst P (λ i. (sym q.0 i, sym q.1 i)) p.1, among),
  λ (fact, goal, among). (fact, among, (has (c.point * stride + fact)).1 ((c.point, fact), goal, refl)),
)

-- there is room for the facts of a class
pub class_room : (graph : Graph) (moves : Moves) (head : ℕ) (Done : ℕ → ℕ → Type 0) (classes : List Group) (seen : List ℕ) → IsQueue graph moves head Done classes seen → (i : ℕ) (c : Group) → IsAt classes i c → (fact : ℕ) → Among c.facts fact → c.point * stride_of moves.facts + fact < 64 * length seen
class_room graph moves head Done classes seen queue i c at fact among =
    let there = queue.inside i c at in
    omega (arith, mul-add-lt c.point (stride_of moves.facts) fact (length graph.points) there.0 (facts_fit moves.facts fact (there.1 fact among)), mul_comm (stride_of moves.facts) (length graph.points), queue.room)

-- what a class leads to, as the code reads it
pub leaves_of : (graph : Graph) (moves : Moves) (classes : List Group) (head : ℕ) (c : Group) (rows : List (Vec ℕ)) (row : Vec ℕ) (next turned facts : List ℕ) → IsNext graph rows → IsAt classes head c → c.point < length graph.points → row ≡ get_or rows c.point row → next ≡ row.items → facts ≡ c.facts → ((g : ℕ) → Among turned g ↔ Turned moves c.point facts g) → Leaves graph moves classes head next turned × Ascends next
leaves_of graph moves classes head c rows row next turned facts is at lt read next_is facts_are turns =
    let got = slice_get_read rows (length graph.points) c.point row (sym is.size) lt read in
    let e = is.each c.point row got in
    let N : List ℕ → Type 0 = λ ns. (q : ℕ) → Among ns q ↔ HasEdge graph c.point q in
    let F : List ℕ → Type 0 = λ fs. (g : ℕ) → Among turned g ↔ Turned moves c.point fs g in
    let A : List ℕ → Type 0 = λ ns. Ascends ns in
    (record { class = c; at = at; forth = subst N (sym next_is) e.0; turns = subst F facts_are turns }, subst A (sym next_is) e.1)

-- the same by what the code reads
pub meets_read : (graph : Graph) (moves : Moves) (head : ℕ) (Done : ℕ → ℕ → Type 0) (classes : List Group) (seen : List ℕ) → IsQueue graph moves head Done classes seen → (goals : List (ℕ × ℕ)) → Inside (Pairs goals) graph moves → (i : ℕ) (c : Group) → IsAt classes i c → (stride : ℕ) (set read facts : List ℕ) → stride ≡ stride_of moves.facts → read ≡ set → facts ≡ c.facts → ((k : ℕ) → Has set k ↔ AtPairs stride goals k) → HasOne read (c.point * stride) facts ↔ Meets goals c
meets_read graph moves head Done classes seen queue goals inside i c at stride set read facts stride_is read_is facts_are has =
    let S : ℕ → Type 0 = λ s. HasOne read (c.point * s) facts ↔ Meets goals c in
    let R : List ℕ → Type 0 = λ r. HasOne r (c.point * stride_of moves.facts) facts ↔ Meets goals c in
    let F : List ℕ → Type 0 = λ fs. HasOne set (c.point * stride_of moves.facts) fs ↔ Meets goals c in
    let H : ℕ → Type 0 = λ s. (k : ℕ) → Has set k ↔ AtPairs s goals k in
    subst S (sym stride_is) (subst R (sym read_is) (subst F (sym facts_are) (meets_is (stride_of moves.facts) moves.facts goals set c (facts_fit moves.facts) (λ p f among. (inside p f among).1) (queue.inside i c at).1 (subst H stride_is has))))
