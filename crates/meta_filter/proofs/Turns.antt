-- The loops of the reader, one round.
use Rattle.std.proofs.Common.{◌≡◌, ℕ, zero, suc, ◌+◌, ◌-◌, ◌<◌, List, [], ◌∷◌, ◌++◌, length, refl, ◌∙◌, add-one, arith, true, Option, Some, None}
use Rattle.std.specs.Prelude.{Bool, false, max, ◌≤◌}
use Rattle.grammar.specs.Rule.{has}
use Rattle.grammar.specs.Reader.{◌>>=◌}
use Rattle.meta_filter.specs.declared.token.Word.{Word}
use Rattle.meta_filter.specs.declared.token.Token.{Token}
use Rattle.meta_filter.specs.declared.layer.Layer.{Layer}
use Rattle.meta_filter.specs.declared.part.Part.{Part}
use Rattle.meta_filter.specs.declared.part.Links.{Links}
use Rattle.meta_filter.specs.Words.{class}
use Rattle.meta_filter.specs.Parts.{joined, compare_op}
use Rattle.meta_filter.specs.Table.{Chain, Sum, Linked, compares}
use Rattle.meta_filter.specs.Build.{Piece, part, sign, token_at, from_left, first_link, next_link, linked, build}
use Rattle.meta_filter.specs.Reading.{level, operand_of, operators_of}
use Rattle.meta_filter.proofs.Steps.{left_rest, left_turn, left_turned, chain_rest, chain_turn, chain_turned, chain_step}

-- ---- layers

-- what is left of a layer's loop, joined to the part so far
abbrev pub left_on : List Token → ℕ → Layer → ℕ → ℕ → Part → Option (List Piece × ℕ)
left_on ts room layer n i left = left_rest ts room layer n i >>= λ y. Some (from_left left y.0, y.1)

left_inner : (o : Option (List Piece × ℕ)) (w : Word) (left right : Part) → ◌>>=◌ {B = List Piece × ℕ} (◌>>=◌ {B = List Piece × ℕ} o (λ z. Some (sign w ∷ (part right ∷ z.0), z.1))) (λ y. Some (from_left left y.0, y.1)) ≡ ◌>>=◌ {B = List Piece × ℕ} o (λ y. Some (from_left (joined w left right) y.0, y.1))
left_inner None w left right = refl
left_inner (Some x) w left right = refl

module _ (ts : List Token) (room : ℕ) (layer : Layer) (n i j : ℕ) (left right : Part) (some : zero < n) (op : has (operators_of layer) (class (token_at ts i).word) ≡ true) (read : level ts room (operand_of layer) (i + 1) ≡ Some (part right ∷ [], j)) where
  left_round : left_on ts room layer n i left ≡ left_on ts room layer (n - 1) j (joined (token_at ts i).word left right)
  left_round = rw (left_turn ts room layer n i some) (rw op (rw (rw add-one at read) (left_inner (left_rest ts room layer (n - 1) j) (token_at ts i).word left right)))

  pub left_more : (m : ℕ) (next : Part) → m ≡ n - 1 → next ≡ joined (token_at ts i).word left right → left_on ts room layer n i left ≡ left_on ts room layer m j next
  left_more m next less is = rw (less, is) left_round

pub left_over : (ts : List Token) (room : ℕ) (layer : Layer) (n i : ℕ) (left : Part) → n ≡ zero → left_on ts room layer n i left ≡ None
left_over ts room layer n i left none = rw (left_turned ts room layer n i none) refl

-- ---- chains

abbrev pub chain_on : List Token → ℕ → ℕ → ℕ → ℕ → Option Links → Option (List Piece × ℕ)
chain_on ts room n i depth links = chain_rest ts room n i >>= λ y. Some (linked depth links y.0, y.1)

chain_inner : (o : Option (List Piece × ℕ)) (w : Word) (depth : ℕ) (links : Option Links) (right : Part) → ◌>>=◌ {B = List Piece × ℕ} (◌>>=◌ {B = List Piece × ℕ} o (λ z. Some (sign w ∷ (part right ∷ z.0), z.1))) (λ y. Some (linked depth links y.0, y.1)) ≡ ◌>>=◌ {B = List Piece × ℕ} o (λ y. Some (linked (max depth right.depth) (next_link links (compare_op w) right.meaning) y.0, y.1))
chain_inner None w depth links right = refl
chain_inner (Some x) w depth links right = refl

module _ (ts : List Token) (room n i j depth : ℕ) (links : Option Links) (right : Part) (some : zero < n) (op : has compares (class (token_at ts i).word) ≡ true) (read : level ts room Sum (i + 1) ≡ Some (part right ∷ [], j)) where
  chain_round : chain_on ts room n i depth links ≡ chain_on ts room (n - 1) j (max depth right.depth) (next_link links (compare_op (token_at ts i).word) right.meaning)
  chain_round = rw (chain_turn ts room n i some) (rw op (rw (rw add-one at read) (chain_inner (chain_rest ts room (n - 1) j) (token_at ts i).word depth links right)))

  pub chain_more : (m deeper : ℕ) (more : Option Links) → m ≡ n - 1 → deeper ≡ max depth right.depth → more ≡ next_link links (compare_op (token_at ts i).word) right.meaning → chain_on ts room n i depth links ≡ chain_on ts room m j deeper more
  chain_more m deeper more less is is' = rw (less, is, is') chain_round

pub chain_over : (ts : List Token) (room n i depth : ℕ) (links : Option Links) → n ≡ zero → chain_on ts room n i depth links ≡ None
chain_over ts room n i depth links none = rw (chain_turned ts room n i none) refl

-- a chain with an operator begins with its first link
module _ (ts : List Token) (room n i j : ℕ) (first : Part) (some : zero < room) (more : zero < n) (read : level ts room Sum i ≡ Some (part first ∷ [], j)) (op : has compares (class (token_at ts j).word) ≡ true) where
  begun_inner : (r : Option (List Piece × ℕ)) (rest : ℕ → Option (List Piece × ℕ)) → ◌>>=◌ {B = List Piece × ℕ} (◌>>=◌ {B = List Piece × ℕ} r (λ y. ◌>>=◌ {B = List Piece × ℕ} (rest y.1) (λ z. Some (sign (token_at ts j).word ∷ (y.0 ++ z.0), z.1)))) (λ y. Some (build Linked (part first ∷ y.0), y.1)) ≡ ◌>>=◌ {B = List Piece × ℕ} (◌>>=◌ {B = List Piece × ℕ} r (λ y. ◌>>=◌ {B = List Piece × ℕ} (rest y.1) (λ z. Some (sign (token_at ts j).word ∷ (y.0 ++ z.0), z.1)))) (λ y. Some (linked first.depth (first_link first.meaning) y.0, y.1))
  begun_inner None rest = refl
  begun_inner (Some y) rest = deeper (rest y.1)
    where
      deeper : (o : Option (List Piece × ℕ)) → ◌>>=◌ {B = List Piece × ℕ} (◌>>=◌ {B = List Piece × ℕ} o (λ z. Some (sign (token_at ts j).word ∷ (y.0 ++ z.0), z.1))) (λ y. Some (build Linked (part first ∷ y.0), y.1)) ≡ ◌>>=◌ {B = List Piece × ℕ} (◌>>=◌ {B = List Piece × ℕ} o (λ z. Some (sign (token_at ts j).word ∷ (y.0 ++ z.0), z.1))) (λ y. Some (linked first.depth (first_link first.meaning) y.0, y.1))
      deeper None = refl
      deeper (Some z) = refl

  pub chain_begun : (links : Option Links) → links ≡ first_link first.meaning → n ≡ suc (length ts) → level ts room Chain i ≡ chain_on ts room n j first.depth links
  chain_begun links is all = rw (chain_step ts room i some) (rw read (rw (is, all) (rw (chain_turn ts room (suc (length ts)) j (omega arith)) (rw op (begun_inner (level ts room Sum (suc j)) (chain_rest ts room (suc (length ts) - 1)))))))

-- where an operator stands before the first round, a chain that ends has one
pub chain_depth : (turn at depth end : ℕ) (b : Bool) → (turn ≡ 0 → b ≡ true) → (0 < turn → at + depth < end) → false ≡ b → at + suc depth ≤ end
chain_depth zero at depth end b begun deeper ends = let e : false ≡ true = ends ∙ begun refl in absurd cc
chain_depth (suc turn) at depth end b begun deeper ends = omega (arith, deeper (omega arith))
