-- What a batch of facts leads to is what each of them leads to.
use Rattle.std.proofs.Common.{◌≡◌, ℕ, zero, suc, ◌+◌, ◌*◌, ◌/◌, ◌%◌, ◌<◌, ◌≤◌, ◌^◌, ◌⊎◌, ◌↔◌, inl, inr, List, [], ◌∷◌, length, get_or, Some, sym, ◌∙◌, ap, subst, refl, arith, mul_comm}
use Rattle.std.specs.Prelude.{slice_get}
use Rattle.std.specs.Global.{Vec}
use Rattle.std.specs.Int.{bit_at}
use Rattle.std.proofs.lemmas.Nat.{div-mul-add, mod-mul-add, mul-add-lt}
use Rattle.std.proofs.lemmas.Nat.Bits.{bit_at_above}
use Rattle.std.proofs.lemmas.Option.{slice_get_read}
use Rattle.std.proofs.Math.Nat.{mod-lt, mod-add-div, mul_assoc}
use Rattle.graph_form.specs.declared.graph.Graph.{Graph}
use Rattle.graph_form.specs.Edges.{HasEdge}
use Rattle.graph_form.specs.Sets.{Among}
use Rattle.flow_reach.specs.declared.moves.Moves.{Moves}
use Rattle.flow_reach.specs.declared.moves.Move.{Move}
use Rattle.flow_reach.specs.declared.spread.Batch.{Batch}
use Rattle.flow_reach.specs.Adds.{Coded, IsAddsOf, AreAdds}
use Rattle.flow_reach.specs.Bits.{Has, InWord, IsWithout, stride_of, width_of}
use Rattle.flow_reach.specs.Carried.{Fits, Turns, TurnsBy, Inside}
use Rattle.flow_reach.specs.Spread.{Kept, Added, Bits, Follows, Dropped, IsTable, NextOf}
use Rattle.flow_reach.specs.Spread.{IsClosing, IsReady, Left}
use Rattle.flow_reach.specs.declared.ready.Ready.{Ready}
use Rattle.flow_reach.specs.Worklist.{Takes}
use Rattle.flow_reach.specs.declared.worklist.Worklist.{Worklist}
use Rattle.flow_reach.proofs.Closing.{place, facts_fit}
use Rattle.flow_reach.proofs.Sorted.{move_for}
use Rattle.flow_reach.proofs.Steps.{both_ways, row_at}
use Rattle.flow_reach.proofs.Words.{in_word, read_word}

-- a bit of a word
pub bit_small : (bits : ℕ) → bits < 2 ^ 64 → (bit : ℕ) → bit_at bits bit ≡ 1 → bit < 64
bit_small bits small bit has = below (bit / 64) refl
  where
    below : (q : ℕ) → bit / 64 ≡ q → bit < 64
    below zero e = omega (arith, e)
    below (suc q) e = let ge : 64 ≤ bit = omega (arith, e) in let z = bit_at_above bits 64 bit small ge in absurd (omega (arith, z, has))

-- the place of a word among those of its point
module _ (width word : ℕ) (some : 0 < width) where
  pub column_lt : word % width < width
  column_lt = mod-lt word {m = width} some

  pub word_is : word ≡ word / width * width + word % width
  word_is = omega (arith, mod-add-div word width, mul_comm width (word / width))

  -- a number of a word, by its point and fact
  pub number_is : (at : ℕ) → at / 64 ≡ word → at ≡ word / width * (width * 64) + (word % width * 64 + at % 64)
  number_is at e = omega (arith, word_is, mul_assoc (word / width) width 64)

  pub fact_lt : (bit : ℕ) → bit < 64 → word % width * 64 + bit < width * 64
  fact_lt bit lt = omega (arith, column_lt)

  pub point_of : (at : ℕ) → at / 64 ≡ word → at / (width * 64) ≡ word / width
  point_of at e = let lt : at % 64 < 64 = omega arith in ap (λ x. x / (width * 64)) (number_is at e) ∙ div-mul-add (word / width) (width * 64) (word % width * 64 + at % 64) (fact_lt (at % 64) lt)

  pub fact_of : (at : ℕ) → at / 64 ≡ word → at % (width * 64) ≡ word % width * 64 + at % 64
  fact_of at e = let lt : at % 64 < 64 = omega arith in ap (λ x. x % (width * 64)) (number_is at e) ∙ mod-mul-add (word / width) (width * 64) (word % width * 64 + at % 64) (fact_lt (at % 64) lt)

  -- the number with that bit
  pub bit_word : (bit : ℕ) → bit < 64 → (word * 64 + bit) / 64 ≡ word
  bit_word bit lt = div-mul-add word 64 bit lt

  pub bit_bit : (bit : ℕ) → bit < 64 → (word * 64 + bit) % 64 ≡ bit
  bit_bit bit lt = mod-mul-add word 64 bit lt

-- two ways to write a number are one
pub same_parts : (stride p q f g : ℕ) → f < stride → g < stride → p * stride + f ≡ q * stride + g → (p ≡ q) × (f ≡ g)
same_parts stride p q f g lf lg e = (
  sym (div-mul-add p stride f lf) ∙ ap (λ x. x / stride) e ∙ div-mul-add q stride g lg,
  sym (mod-mul-add p stride f lf) ∙ ap (λ x. x % stride) e ∙ mod-mul-add q stride g lg,
)

got_lt : (rows : List Move) (i : ℕ) (m : Move) → slice_get rows i ≡ Some m → i < length rows
got_lt [] i m g = absurd cc
got_lt (r ∷ rs) zero m g = omega arith
got_lt (r ∷ rs) (suc i) m g = omega (arith, got_lt rs i m g)

module _ (graph : Graph) (moves : Moves) (fits : Fits graph moves) (width word : ℕ) (wide : width ≡ width_of moves.facts) (some : 0 < width) where
  abbrev point : ℕ
  point = word / width

  abbrev fact : ℕ → ℕ
  fact bit = word % width * 64 + bit

  -- a bit of the word of dropped facts
  module _ (move : Move) (got : slice_get moves.rows point ≡ Some move) (drops : List ℕ) (dropped : ℕ) (room : word < length drops) (read : dropped ≡ get_or drops word 0) (has : (k : ℕ) → Has drops k ↔ Dropped moves.rows (width * 64) (length moves.rows) k) where
    pub drops_bit : (at : ℕ) → at / 64 ≡ word → (bit_at dropped (at % 64) ≡ 1) ↔ Among move.drops (fact (at % 64))
    drops_bit at e =
        let bit = at % 64 in
        let lt : bit < 64 = omega arith in
        let here = in_word drops word room dropped read at e in
        let fact_small = fact_lt width word some bit lt in
        let is = number_is width word some at e in (
          λ b.
              let d = (has at).0 (sym here ∙ b) in
              let p = d.0 in
              let m = d.2 in
              let at_p = d.4 in
              let f = at_p.0 in
              let f_lt : f < moves.facts = (fits.speaks p m d.3).drops f at_p.1 in
              let f_small : f < width * 64 = omega (arith, f_lt, wide) in
              let same = same_parts (width * 64) point p (fact bit) f fact_small f_small (sym is ∙ at_p.2) in
              let G : ℕ → Type 0 = λ q. slice_get moves.rows q ≡ Some m in
              let m_is : m ≡ move = let g = subst G (sym same.0) d.3 in let q : Some m ≡ Some move = sym g ∙ got in cc in
              let F : ℕ → Type 0 = λ x. Among m.drops x in
              let M : Move → Type 0 = λ x. Among x.drops (fact bit) in
              subst M m_is (subst F (sym same.1) at_p.1),
          λ among.
              let there : point < length moves.rows = got_lt moves.rows point move got in
              here ∙ (has at).1 (point, there, move, got, (fact bit, among, is)),
        )

    -- a batch, with the points after its point and the pairs that its point adds
    module _ (points : List ℕ) (next : (p : ℕ) → Among points p ↔ HasEdge graph point p) (adds : List ℕ) (added : IsAddsOf move adds) (bits kept : ℕ) (small : bits < 2 ^ 64) (without : IsWithout bits dropped kept) where
      abbrev batch : Batch
      batch = record { width = width; column = word % width; bits = bits; kept = kept }

      bit_lt : (bit : ℕ) → bit_at bits bit ≡ 1 → bit < 64
      bit_lt = bit_small bits small

      -- what a fact of the batch is turned into
      turns_is : (at after : ℕ) → at / 64 ≡ word → Turns moves (at / (width * 64)) (at % (width * 64)) after ↔ TurnsBy move (fact (at % 64)) after
      turns_is at after e =
          let P : ℕ → ℕ → Type 0 = λ p f. Turns moves p f after in
          let to : Turns moves (at / (width * 64)) (at % (width * 64)) after → Turns moves point (fact (at % 64)) after = λ t.
          let Q : ℕ → Type 0 = λ p. Turns moves p (at % (width * 64)) after in
          let R : ℕ → Type 0 = λ f. Turns moves point f after in
          subst R (fact_of width word some at e) (subst Q (point_of width word some at e) t) in
          let back : Turns moves point (fact (at % 64)) after → Turns moves (at / (width * 64)) (at % (width * 64)) after = λ t.
          let Q : ℕ → Type 0 = λ p. Turns moves p (at % (width * 64)) after in
          let R : ℕ → Type 0 = λ f. Turns moves point f after in
          subst Q (sym (point_of width word some at e)) (subst R (sym (fact_of width word some at e)) t) in (
            λ t.
                let r = to t in
                let same : r.0 ≡ move = let q : Some r.0 ≡ Some move = sym r.1 ∙ got in cc in
                let M : Move → Type 0 = λ m. TurnsBy m (fact (at % 64)) after in
                subst M same r.2,
            λ by. back (move, got, by),
          )

      kept_next : (k : ℕ) → Kept points width (word % width) kept k → NextOf graph moves (width * 64) word bits k
      kept_next k (p, among, (e, b)) =
          let bit = k % 64 in
          let lt : bit < 64 = omega arith in
          let at = word * 64 + bit in
          let at_word : at / 64 ≡ word = bit_word width word some bit lt in
          let at_bit : at % 64 ≡ bit = bit_bit width word some bit lt in
          let w = (without bit).0 b in
          let H : ℕ → Type 0 = λ q. HasEdge graph q p in
          let edge = subst H (sym (point_of width word some at at_word)) ((next p).0 among) in
          let B : ℕ → Type 0 = λ i. bit_at bits i ≡ 1 in
          let N : ℕ → Type 0 = λ i. bit_at dropped i ≡ 1 → ⊥ in
          let f = fact (at % 64) in
          let stays : Among move.drops f → ⊥ = λ d. subst N (sym at_bit) w.1 ((drops_bit at at_word).1 d) in
          let is : k ≡ p * (width * 64) + f = omega (arith, e, at_bit, mul_assoc p width 64) in
          (at, (at_word, subst B (sym at_bit) w.0), (p, edge, f, (turns_is at f at_word).1 (inl (refl, stays)), is))

      added_next : (k : ℕ) → Added (Bits bits) points (width * 64) adds (word % width * 64) k → NextOf graph moves (width * 64) word bits k
      added_next k (bit, b, (p, among, second, coded, e)) =
          let lt = bit_lt bit b in
          let at = word * 64 + bit in
          let at_word : at / 64 ≡ word = bit_word width word some bit lt in
          let at_bit : at % 64 ≡ bit = bit_bit width word some bit lt in
          let H : ℕ → Type 0 = λ q. HasEdge graph q p in
          let edge = subst H (sym (point_of width word some at at_word)) ((next p).0 among) in
          let B : ℕ → Type 0 = λ i. bit_at bits i ≡ 1 in
          let A : ℕ → Type 0 = λ i. Among move.adds (fact i, second) in
          (at, (at_word, subst B (sym at_bit) b), (p, edge, second, (turns_is at second at_word).1 (inr (subst A (sym at_bit) ((added.pairs (fact bit) second).0 coded))), e))

      next_follows : (k : ℕ) → NextOf graph moves (width * 64) word bits k → Follows points adds batch k
      next_follows k (at, (at_word, b), (p, edge, after, turn, e)) =
          let bit = at % 64 in
          let lt : bit < 64 = omega arith in
          let H : ℕ → Type 0 = λ q. HasEdge graph q p in
          let among = (next p).1 (subst H (point_of width word some at at_word) edge) in
          elim ((turns_is at after at_word).0 turn) [
            | inl (same, stays) ↦
                let f : k ≡ p * (width * 64) + (word % width * 64 + bit) = omega (arith, e, same) in
                let q = mul_assoc p width 64 in
                let k_word : k / 64 ≡ p * width + word % width = let m : k ≡ (p * width + word % width) * 64 + bit = omega (arith, f, q) in ap (λ x. x / 64) m ∙ div-mul-add (p * width + word % width) 64 bit lt in
                let k_bit : k % 64 ≡ bit = let m : k ≡ (p * width + word % width) * 64 + bit = omega (arith, f, q) in ap (λ x. x % 64) m ∙ mod-mul-add (p * width + word % width) 64 bit lt in
                let B : ℕ → Type 0 = λ i. bit_at kept i ≡ 1 in
                inl (p, among, (k_word, subst B (sym k_bit) ((without bit).1 (b, λ d. stays ((drops_bit at at_word).0 d)))))
            | inr adds_it ↦ inr (bit, b, (p, among, after, (added.pairs (fact bit) after).1 adds_it, e))
          ]

      pub follows_is : (k : ℕ) → Follows points adds batch k ↔ NextOf graph moves (width * 64) word bits k
      follows_is k = (λ h. elim h [ inl a ↦ kept_next k a | inr b ↦ added_next k b ], next_follows k)

-- the tables as they are read for a point
pub record Reads (graph : Graph) (moves : Moves) (point : ℕ) (points adds : List ℕ) : Type 0 where
  pub move : Move
  pub got : slice_get moves.rows point ≡ Some move
  pub next : (p : ℕ) → Among points p ↔ HasEdge graph point p
  pub added : IsAddsOf move adds

pub reads : (graph : Graph) (moves : Moves) (point : ℕ) (points adds : List ℕ) (table added : List (Vec ℕ)) (row xs : Vec ℕ) → Fits graph moves → point < length graph.points → IsTable graph table → AreAdds moves.rows added → row ≡ get_or table point row → points ≡ row.items → xs ≡ get_or added point xs → adds ≡ xs.items → Reads graph moves point points adds
reads graph moves point points adds table added row xs fits lt is are row_read points_are xs_read adds_are =
    let at : slice_get table point ≡ Some row = slice_get_read table (length graph.points) point row (sym is.rows) lt row_read in
    let in_rows : point < length moves.rows = omega (arith, lt, fits.rows) in
    let m = move_for moves.rows added point xs are in_rows xs_read in
    let P : List ℕ → Type 0 = λ ps. (p : ℕ) → Among ps p ↔ HasEdge graph point p in
    let A : List ℕ → Type 0 = λ a. IsAddsOf m.0 a in
    record {
      move = m.0;
      got = m.1;
      next = subst P (sym points_are) (λ p. both_ways _ _ _ (let r = row_at table point row p at in (r.1, r.0)) (is.exact point p));
      added = subst A (sym adds_are) m.2;
    }

-- a word that was taken
pub record Took (graph : Graph) (moves : Moves) (width word bits : ℕ) : Type 0 where
  pub some : 0 < width
  pub point : word / width < length graph.points
  pub facts : (bit : ℕ) → bit_at bits bit ≡ 1 → word % width * 64 + bit < moves.facts

pub took : (Begins : ℕ → ℕ → Type 0) (graph : Graph) (moves : Moves) (fits : Fits graph moves) (inside : Inside Begins graph moves) (width word bits : ℕ) (w0 w1 : Worklist) → width ≡ width_of moves.facts → IsClosing Begins graph moves (stride_of moves.facts) w0 → Takes word bits w0 w1 → Took graph moves width word bits
took Begins graph moves fits inside width word bits w0 w1 wide closing takes =
    let there : (k : ℕ) → InWord word bits k → (k / stride_of moves.facts < length graph.points) × (k % stride_of moves.facts < moves.facts) = λ k i. place Begins graph moves fits inside w0 k closing (closing.listed k ((takes.waited k).0 i).0) in
    let one = takes.some in
    let p = there one.0 one.1 in
    let some : 0 < width = omega (arith, p.1, wide) in
    let e : width * 64 ≡ stride_of moves.facts = ap (λ x. x * 64) wide in
    let point_is : one.0 / stride_of moves.facts ≡ word / width = ap (λ x. one.0 / x) (sym e) ∙ point_of width word some one.0 one.1.0 in
    record {
      some = some;
      point = omega (arith, p.0, point_is);
      facts = λ bit b.
          let lt = bit_small bits takes.fits bit b in
          let at = word * 64 + bit in
          let at_word : at / 64 ≡ word = bit_word width word some bit lt in
          let at_bit : at % 64 ≡ bit = bit_bit width word some bit lt in
          let B : ℕ → Type 0 = λ i. bit_at bits i ≡ 1 in
          let q = there at (at_word, subst B (sym at_bit) b) in
          let fact_is : at % stride_of moves.facts ≡ word % width * 64 + at % 64 = ap (λ x. at % x) (sym e) ∙ fact_of width word some at at_word in
          omega (arith, q.1, fact_is, at_bit);
    }

-- what a batch leads to
pub batch_is : (graph : Graph) (moves : Moves) (fits : Fits graph moves) (width word bits kept dropped : ℕ) (points adds drops : List ℕ) → width ≡ width_of moves.facts → bits < 2 ^ 64 → Took graph moves width word bits → Reads graph moves (word / width) points adds → word < length drops → dropped ≡ get_or drops word dropped → ((k : ℕ) → Has drops k ↔ Dropped moves.rows (stride_of moves.facts) (length moves.rows) k) → IsWithout bits dropped kept → (k : ℕ) → Follows points adds (record { width = width; column = word % width; bits = bits; kept = kept }) k ↔ NextOf graph moves (stride_of moves.facts) word bits k
batch_is graph moves fits width word bits kept dropped points adds drops wide small took reads room read has without k =
    let e : width * 64 ≡ stride_of moves.facts = ap (λ x. x * 64) wide in
    let H : ℕ → Type 0 = λ s. (k : ℕ) → Has drops k ↔ Dropped moves.rows s (length moves.rows) k in
    let P : ℕ → Type 0 = λ s. Follows points adds (record { width = width; column = word % width; bits = bits; kept = kept }) k ↔ NextOf graph moves s word bits k in
    subst P e (follows_is graph moves fits width word wide took.some reads.move reads.got drops dropped room (read_word drops word dropped room read) (subst H (sym e) has) points reads.next adds reads.added bits kept small without k)

-- room for the words of a batch
pub words_there : (graph : Graph) (moves : Moves) (fits : Fits graph moves) (width word bits : ℕ) (w : Worklist) (points adds : List ℕ) → width ≡ width_of moves.facts → Took graph moves width word bits → Reads graph moves (word / width) points adds → length graph.points * stride_of moves.facts ≡ 64 * length w.seen.items → (p : ℕ) → Among points p → p * width + word % width < length w.seen.items
words_there graph moves fits width word bits w points adds wide took reads room p among =
    let inside = (fits.edges (word / width) p ((reads.next p).0 among)).1 in
    let e : length graph.points * (width * 64) ≡ 64 * length w.seen.items = ap (λ x. length graph.points * (x * 64)) wide ∙ room in
    let q = mul_assoc (length graph.points) width 64 in
    let lt = mul-add-lt p width (word % width) (length graph.points) inside (column_lt width word took.some) in
    omega (arith, lt, e, q, mul_comm width (length graph.points))

-- what a point turns a fact into, by what is looked up
module _ (graph : Graph) (moves : Moves) (fits : Fits graph moves) (ready : Ready) (is : IsReady graph moves ready) (point fact : ℕ) (there : point < length graph.points) (small : fact < moves.facts) where
  pub number_there : point * stride_of moves.facts + fact < 64 * length ready.dropped.items
  number_there = omega (arith, mul-add-lt point (stride_of moves.facts) fact (length graph.points) there (facts_fit moves.facts fact small), mul_comm (stride_of moves.facts) (length graph.points), is.room)

  pub turned_is : (xs : Vec ℕ) → xs ≡ get_or ready.added.items point xs → (after : ℕ) → (Left ready.dropped.items (point * stride_of moves.facts + fact) fact after ⊎ Coded xs.items fact after) ↔ Turns moves point fact after
  turned_is xs read after =
      let in_rows : point < length moves.rows = omega (arith, there, fits.rows) in
      let m = move_for moves.rows ready.added.items point xs is.added in_rows read in
      let k = point * stride_of moves.facts + fact in (
        λ h. elim h [
          | inl (same, kept) ↦ (m.0, m.1, inl (same, λ among. kept ((is.dropped k).1 (point, in_rows, m.0, m.1, (fact, among, refl)))))
          | inr coded ↦ (m.0, m.1, inr ((m.2.pairs fact after).0 coded))
        ],
        λ (row, got, by).
            let one : row ≡ m.0 = let q : Some row ≡ Some m.0 = sym got ∙ m.1 in cc in
            let P : Move → Type 0 = λ r. TurnsBy r fact after in
            elim (subst P one by) [
              | inl (same, stays) ↦ inl (
                same,
                λ has.
                    let d = (is.dropped k).0 has in
                    let p = d.0 in
                    let r = d.2 in
                    let at = d.4 in
                    let f_lt = (fits.speaks p r d.3).drops at.0 at.1 in
                    let q = same_parts (stride_of moves.facts) point p fact at.0 (facts_fit moves.facts fact small) (facts_fit moves.facts at.0 f_lt) at.2 in
                    let G : ℕ → Type 0 = λ x. slice_get moves.rows x ≡ Some r in
                    let r_is : r ≡ m.0 = let g = subst G (sym q.0) d.3 in let z : Some r ≡ Some m.0 = sym g ∙ m.1 in cc in
                    let F : ℕ → Type 0 = λ x. Among r.drops x in
                    let M : Move → Type 0 = λ x. Among x.drops fact in
                    stays (subst M r_is (subst F (sym q.1) at.1)),
              )
              | inr adds ↦ inr ((m.2.pairs fact after).1 adds)
            ],
      )
