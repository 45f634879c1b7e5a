-- The search: what is seen is carried, and in the end all that is carried is seen.
use Rattle.std.proofs.Common.{◌≡◌, ℕ, zero, suc, ◌+◌, ◌*◌, ◌/◌, ◌%◌, ◌<◌, ◌↔◌, inl, inr, List, [], ◌∷◌, length, sym, ◌∙◌, ap, subst, refl, arith, mul_comm}
use Rattle.std.proofs.lemmas.Bool.{cases_eq}
use Rattle.std.proofs.lemmas.Nat.{div-mul-add, mod-mul-add, mul-add-lt}
use Rattle.std.proofs.Math.Nat.{div-lt_iff_lt-mul}
use Rattle.graph_form.specs.declared.graph.Graph.{Graph}
use Rattle.graph_form.specs.Edges.{HasEdge}
use Rattle.flow_reach.specs.declared.moves.Moves.{Moves}
use Rattle.flow_reach.specs.declared.worklist.Worklist.{Worklist}
use Rattle.flow_reach.specs.declared.reached.Reached.{Reached}
use Rattle.flow_reach.specs.Reached.{IsReachedFrom}
use Rattle.flow_reach.specs.Bits.{Has, stride_of}
use Rattle.flow_reach.specs.Carried.{Turns, CarriedFrom, LeadsFrom, Leads, AtEntry, Inside, Pairs, Stop, Fits}
use Rattle.flow_reach.specs.Spread.{AtPairs, Next, NextOf, IsClosing, IsFilled}
use Rattle.flow_reach.specs.Worklist.{IsNew, Grows, Takes, IsIdle, weight_of}
use Rattle.flow_reach.proofs.Words.{has_none}
use Rattle.flow_reach.proofs.Works.{weight_le}

-- facts fit into the numbers that a point takes
pub facts_fit : (facts fact : ℕ) → fact < facts → fact < stride_of facts
facts_fit facts fact lt = omega (arith, lt)

-- a fact that a row turns into is there
pub turned_there : (graph : Graph) (moves : Moves) (point before after : ℕ) → Fits graph moves → before < moves.facts → Turns moves point before after → after < moves.facts
turned_there graph moves point before after fits lt (row, at, inl (same, stays)) = let P : ℕ → Type 0 = λ f. f < moves.facts in subst P same lt
turned_there graph moves point before after fits lt (row, at, inr adds) = ((fits.speaks point row at).adds before after adds).1

-- a fact that is carried is there
pub led_there : (Begins : ℕ → ℕ → Type 0) (graph : Graph) (moves : Moves) (stops : List Stop) (point fact : ℕ) → Fits graph moves → Inside Begins graph moves → LeadsFrom Begins graph moves stops point fact → fact < moves.facts
led_there Begins graph moves [] point fact fits inside begins = (inside point fact begins).1
led_there Begins graph moves (stop ∷ earlier) point fact fits inside (before, edge, turn) = turned_there graph moves stop.point stop.fact fact fits (led_there Begins graph moves earlier stop.point stop.fact fits inside before) turn

-- what begins at the entry is there
pub entry_inside : (graph : Graph) (moves : Moves) → Fits graph moves → Inside (AtEntry moves) graph moves
entry_inside graph moves fits point fact (entry, among) = (omega (arith, entry, fits.entry), fits.start fact among)

pub leads_there : (graph : Graph) (moves : Moves) (stops : List Stop) (point fact : ℕ) → Fits graph moves → Leads graph moves stops point fact → fact < moves.facts
leads_there graph moves stops point fact fits leads = led_there (AtEntry moves) graph moves stops point fact fits (entry_inside graph moves fits) leads

-- facts that begin at the same points lead to the same
pub leads_as : (P Q : ℕ → ℕ → Type 0) (graph : Graph) (moves : Moves) → ((point fact : ℕ) → P point fact → Q point fact) → (stops : List Stop) (point fact : ℕ) → LeadsFrom P graph moves stops point fact → LeadsFrom Q graph moves stops point fact
leads_as P Q graph moves same [] point fact begins = same point fact begins
leads_as P Q graph moves same (stop ∷ earlier) point fact (before, edge, turn) = (leads_as P Q graph moves same earlier stop.point stop.fact before, edge, turn)

-- and they are reached alike
pub reached_as : (P Q : ℕ → ℕ → Type 0) (graph : Graph) (moves : Moves) (reached : Reached) → ((point fact : ℕ) → P point fact ↔ Q point fact) → IsReachedFrom P graph moves reached → IsReachedFrom Q graph moves reached
reached_as P Q graph moves reached same is = record {
  points = is.points;
  facts = is.facts;
  exact = λ point fact there small.
      let e = is.exact point fact there small in (
        λ h. let r = e.0 h in (r.0, leads_as P Q graph moves (λ p f. (same p f).0) r.0 point fact r.1),
        λ h. e.1 (h.0, leads_as Q P graph moves (λ p f. (same p f).1) h.0 point fact h.1),
      );
}

module _ (Begins : ℕ → ℕ → Type 0) (graph : Graph) (moves : Moves) (fits : Fits graph moves) (inside : Inside Begins graph moves) where
  abbrev stride : ℕ
  stride = stride_of moves.facts

  -- after the start
  pub begun : (words : ℕ) (pairs : List (ℕ × ℕ)) (w0 w1 : Worklist) → ((point fact : ℕ) → Pairs pairs point fact → Begins point fact) → ((point fact : ℕ) → Begins point fact → Pairs pairs point fact) → length graph.points * stride ≡ 64 * words → IsNew words w0 → Grows (AtPairs stride pairs) w0 w1 → IsClosing Begins graph moves stride w1
  begun words pairs w0 w1 forth back size fresh grows =
      let unseen : (k : ℕ) → Has w0.seen.items k → ⊥ = λ k h. has_none w0.seen.items k (fresh.seen k) h in
      let idle : (k : ℕ) → Has w0.todo.items k → ⊥ = λ k h. has_none w0.todo.items k (fresh.todo k) h in
      record {
        shaped = grows.shaped;
        room = omega (arith, fresh.room, grows.room, size);
        sound = λ k h. elim ((grows.seen k).0 h) [
          | inl o ↦ absurd (unseen k o)
          | inr (pair, among, e) ↦
              let begins = forth pair.0 pair.1 among in
              let there = inside pair.0 pair.1 begins in
              let lt = facts_fit moves.facts pair.1 there.1 in
              let point_is : k / stride ≡ pair.0 = ap (λ x. x / stride) e ∙ div-mul-add pair.0 stride pair.1 lt in
              let fact_is : k % stride ≡ pair.1 = ap (λ x. x % stride) e ∙ mod-mul-add pair.0 stride pair.1 lt in
              let P : ℕ → Type 0 = λ p. Begins p (k % stride) in
              let Q : ℕ → Type 0 = λ f. Begins pair.0 f in
              (omega (arith, mul-add-lt pair.0 stride pair.1 (length graph.points) there.0 lt, mul_comm stride (length graph.points), e), ([], subst P (sym point_is) (subst Q (sym fact_is) begins)))
        ];
        start = λ point fact begins. (grows.seen (point * stride + fact)).1 (inr ((point, fact), back point fact begins, refl));
        listed = λ k h. elim (grows.only k h) [ inl o ↦ absurd (idle k o) | inr at ↦ (grows.seen k).1 (inr at) ];
        closed = λ k h. elim (grows.fresh k h) [ inl o ↦ absurd (unseen k o) | inr t ↦ inl t ];
      }

  -- a number that is seen is one of a point and a fact
  pub place : (w : Worklist) (at : ℕ) → IsClosing Begins graph moves stride w → Has w.seen.items at → (at / stride < length graph.points) × (at % stride < moves.facts)
  place w at closing h =
      let s = closing.sound at h in
      (point_there (length graph.points) stride at s.0, led_there Begins graph moves s.1.0 (at / stride) (at % stride) fits inside s.1.1)
    where
      point_there : (n f at : ℕ) → at < n * f → at / f < n
      point_there n zero at lt = absurd (omega (arith, lt))
      point_there n (suc f) at lt = let p : 0 < suc f = omega arith in (div-lt_iff_lt-mul {k = suc f} {x = at} {y = n} p).1 lt

  -- a number to which one leads has room
  pub next_room : (w : Worklist) (at k : ℕ) → IsClosing Begins graph moves stride w → Has w.seen.items at → Next graph moves stride at k → k < 64 * length w.seen.items
  next_room w at k closing h (point, edge, fact, turn, e) =
      let lt = facts_fit moves.facts fact (turned_there graph moves _ _ fact fits (place w at closing h).1 turn) in
      let inside = (fits.edges _ point edge).1 in
      omega (arith, mul-add-lt point stride fact (length graph.points) inside lt, mul_comm stride (length graph.points), closing.room, e)

  -- all numbers of a word
  pub stepped : (word bits : ℕ) (w0 w1 w2 : Worklist) → IsClosing Begins graph moves stride w0 → Takes word bits w0 w1 → Grows (NextOf graph moves stride word bits) w1 w2 → IsClosing Begins graph moves stride w2
  stepped word bits w0 w1 w2 closing takes grows =
      let P : ℕ → List ℕ → Type 0 = λ k s. Has s k in
      let forth : (k : ℕ) → Has w0.seen.items k → Has w1.seen.items k = λ k h. subst (P k) (sym takes.seen) h in
      let back : (k : ℕ) → Has w1.seen.items k → Has w0.seen.items k = λ k h. subst (P k) takes.seen h in
      record {
        shaped = grows.shaped;
        room = omega (arith, closing.room, grows.room, ap length takes.seen);
        sound = λ k h. elim ((grows.seen k).0 h) [
          | inl o ↦ closing.sound k (back k o)
          | inr (at, in_it, next) ↦
              let here = closing.listed at ((takes.waited at).0 in_it).0 in
              let carried = (closing.sound at here).1 in
              let point = next.0 in
              let edge = next.1 in
              let fact = next.2 in
              let turn = next.3 in
              let e = next.4 in
              let lt = facts_fit moves.facts fact (turned_there graph moves _ _ fact fits (place w0 at closing here).1 turn) in
              let point_is : k / stride ≡ point = ap (λ x. x / stride) e ∙ div-mul-add point stride fact lt in
              let fact_is : k % stride ≡ fact = ap (λ x. x % stride) e ∙ mod-mul-add point stride fact lt in
              let stop : Stop = record { point = at / stride; fact = at % stride } in
              let Q : ℕ → Type 0 = λ p. HasEdge graph (at / stride) p in
              let R : ℕ → Type 0 = λ f. Turns moves (at / stride) (at % stride) f in
              (omega (arith, next_room w0 at k closing here next, closing.room), (stop ∷ carried.0, (carried.1, subst Q (sym point_is) edge, subst R (sym fact_is) turn)))
        ];
        start = λ point fact begins. (grows.seen (point * stride + fact)).1 (inl (forth (point * stride + fact) (closing.start point fact begins)));
        listed = λ k h. elim (grows.only k h) [
          | inl o ↦ (grows.seen k).1 (inl (forth k (closing.listed k ((takes.todo k).0 o).0)))
          | inr next ↦ (grows.seen k).1 (inr next)
        ];
        closed = λ k h. elim (grows.fresh k h) [
          | inr waits ↦ inl waits
          | inl o ↦ elim (closing.closed k (back k o)) [
            | inr all ↦ inr (λ m next. (grows.seen m).1 (inl (forth m (all m next))))
            | inl waits ↦ elim (cases_eq (k / 64) word) [
              | inl same ↦ inr (λ m next. (grows.seen m).1 (inr (k, (takes.waited k).1 (waits, same), next)))
              | inr other ↦ inl (grows.kept k ((takes.todo k).1 (waits, other)))
            ]
          ]
        ];
      }

  -- each path ends at a number that is seen
  module _ (w : Worklist) (closing : IsClosing Begins graph moves stride w) (idle : (k : ℕ) → Has w.todo.items k → ⊥) where
    led : (stops : List Stop) (point fact : ℕ) → LeadsFrom Begins graph moves stops point fact → (fact < moves.facts) × Has w.seen.items (point * stride + fact)
    led [] point fact begins = ((inside point fact begins).1, closing.start point fact begins)
    led (stop ∷ earlier) point fact (before, edge, turn) =
        let r = led earlier stop.point stop.fact before in
        let lt = facts_fit moves.facts stop.fact r.0 in
        let point_is : (stop.point * stride + stop.fact) / stride ≡ stop.point = div-mul-add stop.point stride stop.fact lt in
        let fact_is : (stop.point * stride + stop.fact) % stride ≡ stop.fact = mod-mul-add stop.point stride stop.fact lt in
        let Q : ℕ → Type 0 = λ p. HasEdge graph p point in
        let R : ℕ → Type 0 = λ p. Turns moves p stop.fact fact in
        let S : ℕ → Type 0 = λ f. Turns moves ((stop.point * stride + stop.fact) / stride) f fact in (
          turned_there graph moves stop.point stop.fact fact fits r.0 turn,
          elim (closing.closed _ r.1) [
            | inl waits ↦ absurd (idle _ waits)
            | inr all ↦ all (point * stride + fact) (point, subst Q (sym point_is) edge, fact, subst S (sym fact_is) (subst R (sym point_is) turn), refl)
          ],
        )

    seen_is : (point fact : ℕ) → fact < moves.facts → Has w.seen.items (point * stride + fact) ↔ CarriedFrom Begins graph moves point fact
    seen_is point fact small =
        let lt = facts_fit moves.facts fact small in
        let point_is : (point * stride + fact) / stride ≡ point = div-mul-add point stride fact lt in
        let fact_is : (point * stride + fact) % stride ≡ fact = mod-mul-add point stride fact lt in
        let Q : ℕ → Type 0 = λ p. CarriedFrom Begins graph moves p ((point * stride + fact) % stride) in
        let R : ℕ → Type 0 = λ f. CarriedFrom Begins graph moves point f in
        (λ h. subst R fact_is (subst Q point_is (closing.sound _ h).1), λ (stops, leads). (led stops point fact leads).1)

  pub filled : (old new : Worklist) → IsClosing Begins graph moves stride old → IsIdle old new → IsFilled Begins graph moves new.seen.items
  filled old new closing idle =
      let P : List ℕ → Type 0 = λ s. IsFilled Begins graph moves s in
      subst P (sym idle.seen) (record { room = closing.room; exact = λ point fact lt. seen_is old closing idle.none point fact lt })

pub smaller : (word bits : ℕ) (P : ℕ → Type 0) (w0 w1 w2 : Worklist) → Takes word bits w0 w1 → Grows P w1 w2 → weight_of w2 < weight_of w0
smaller word bits P w0 w1 w2 takes grows = omega (arith, takes.less, weight_le w1 w2 grows.cost grows.room)
