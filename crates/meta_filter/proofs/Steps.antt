-- The reader of a level, one step.
use Rattle.std.proofs.Common.{◌≡◌, ℕ, zero, suc, ◌-◌, ◌<◌, List, [], ◌∷◌, ◌++◌, length, refl, ap, ◌∙◌, true, Option, Some, None, cond}
use Rattle.std.specs.Prelude.{Bool, false}
use Rattle.grammar.specs.Rule.{has}
use Rattle.grammar.specs.Reader.{read, choice, turns, ◌>>=◌}
use Rattle.grammar.proofs.Rounds.{turn, turned, made}
use Rattle.grammar.proofs.Stable.{room_step}
use Rattle.meta_filter.specs.declared.token.Token.{Token}
use Rattle.meta_filter.specs.declared.layer.Layer.{Layer}
use Rattle.meta_filter.specs.declared.layer.Layer.TheVariants as layers
use Rattle.meta_filter.specs.Words.{class}
use Rattle.meta_filter.specs.Table.{Level, Inverse, Chain, ChainTail, Sum, Negative, Atom, FromLeft, Linked, Row, compares, table, grammar, either_round, both_round, chain_round, sum_round, product_round}
use Rattle.meta_filter.specs.Build.{Piece, sign, token_at, build, source}
use Rattle.meta_filter.specs.Sets.{sets, ranks}
use Rattle.meta_filter.specs.Reading.{level, level_of, operand_of, tail_of, operators_of}
use Rattle.meta_filter.proofs.Passes.{pass}

pub level_none : (ts : List Token) (room : ℕ) (l : Level) (i : ℕ) → room ≡ zero → level ts room l i ≡ None
unfolding level
level_none ts room l i h = rw h refl

-- what a row reads, over the levels at hand and those one step deeper, where `again` reads what A does
abbrev pub row : List Token → ℕ → (ℕ → Option (List Piece × ℕ)) → Option Level → Row → ℕ → Option (List Piece × ℕ)
row ts room A q r = read (source ts) sets (suc (length ts)) (choice (level ts room) (level ts (room - 1))) A q r

level_row : (ts : List Token) (room : ℕ) (l : Level) (i : ℕ) → zero < room → level ts room l i ≡ row ts room (λ i. None) None (table l) i
unfolding level
level_row ts room l i h = room_step (source ts) sets (suc (length ts)) grammar ranks pass room l i h

pub inverse_step : (ts : List Token) (room i : ℕ) → zero < room → level ts room Inverse i ≡ row ts room (λ i. None) None (table Inverse) i
inverse_step ts room i h = level_row ts room Inverse i h

pub negative_step : (ts : List Token) (room i : ℕ) → zero < room → level ts room Negative i ≡ row ts room (λ i. None) None (table Negative) i
negative_step ts room i h = level_row ts room Negative i h

pub atom_step : (ts : List Token) (room i : ℕ) → zero < room → level ts room Atom i ≡ row ts room (λ i. None) None (table Atom) i
atom_step ts room i h = level_row ts room Atom i h

-- ---- loops of an operator and an operand

abbrev pub round_of : Layer → Row
round_of layers.Either = either_round
round_of layers.Both = both_round
round_of layers.Sum = sum_round
round_of layers.Product = product_round

-- what is read in a round, where `operator` says whether an operator stands there
abbrev pub turn_of : Bool → Piece → (ℕ → Option (List Piece × ℕ)) → (ℕ → Option (List Piece × ℕ)) → ℕ → Option (List Piece × ℕ)
turn_of operator op operand rest i = cond {A = Option (List Piece × ℕ)} operator (◌>>=◌ {B = List Piece × ℕ} (operand (suc i)) (λ y. ◌>>=◌ {B = List Piece × ℕ} (rest y.1) (λ z. Some (op ∷ (y.0 ++ z.0), z.1)))) (Some ([], i))

made_turn : (r : Option (List Piece × ℕ)) (v : ℕ → Option (List Piece × ℕ)) (x : Piece) → ◌>>=◌ {B = List Piece × ℕ} (◌>>=◌ {B = List Piece × ℕ} r (λ y. ◌>>=◌ {B = List Piece × ℕ} (v y.1) (λ z. Some (y.0 ++ z.0, z.1)))) (λ w. Some (x ∷ w.0, w.1)) ≡ ◌>>=◌ {B = List Piece × ℕ} r (λ y. ◌>>=◌ {B = List Piece × ℕ} (v y.1) (λ z. Some (x ∷ (y.0 ++ z.0), z.1)))
made_turn r v x = made r v (λ j xs. x ∷ xs)

one_round : (operator : Bool) (x : Piece) (operand rest : ℕ → Option (List Piece × ℕ)) (i : ℕ)
    → cond {A = Option (List Piece × ℕ)} operator (◌>>=◌ {B = List Piece × ℕ} (cond {A = Option (List Piece × ℕ)} operator (Some (x ∷ [], suc i)) None) (λ a. ◌>>=◌ {B = List Piece × ℕ} (◌>>=◌ {B = List Piece × ℕ} (operand a.1) (λ y. ◌>>=◌ {B = List Piece × ℕ} (rest y.1) (λ z. Some (y.0 ++ z.0, z.1)))) (λ w. Some (a.0 ++ w.0, w.1)))) (Some ([], i))
    ≡ turn_of operator x operand rest i
one_round true x operand rest i = made_turn (operand (suc i)) rest x
one_round false x operand rest i = refl

-- what the loop of a layer still reads, in n rounds
unfoldable pub left_rest : List Token → ℕ → Layer → ℕ → ℕ → Option (List Piece × ℕ)
left_rest ts room layer n = turns (λ i. None) (λ X. row ts room X (Some (tail_of layer)) (round_of layer)) n

left_again : (ts : List Token) (room : ℕ) (layer : Layer) (n i : ℕ) → zero < n → left_rest ts room layer n i ≡ row ts room (left_rest ts room layer (n - 1)) (Some (tail_of layer)) (round_of layer) i
unfolding left_rest
left_again ts room layer n i h = ap (λ f. f i) (turn (λ i. None) (λ X. row ts room X (Some (tail_of layer)) (round_of layer)) n h)

left_round : (ts : List Token) (room : ℕ) (layer : Layer) (A : ℕ → Option (List Piece × ℕ)) (i : ℕ) → row ts room A (Some (tail_of layer)) (round_of layer) i ≡ turn_of (has (operators_of layer) (class (token_at ts i).word)) (sign (token_at ts i).word) (level ts room (operand_of layer)) A i
left_round ts room layers.Either A i = one_round (has (operators_of layers.Either) (class (token_at ts i).word)) (sign (token_at ts i).word) (level ts room (operand_of layers.Either)) A i
left_round ts room layers.Both A i = one_round (has (operators_of layers.Both) (class (token_at ts i).word)) (sign (token_at ts i).word) (level ts room (operand_of layers.Both)) A i
left_round ts room layers.Sum A i = one_round (has (operators_of layers.Sum) (class (token_at ts i).word)) (sign (token_at ts i).word) (level ts room (operand_of layers.Sum)) A i
left_round ts room layers.Product A i = one_round (has (operators_of layers.Product) (class (token_at ts i).word)) (sign (token_at ts i).word) (level ts room (operand_of layers.Product)) A i

pub left_turn : (ts : List Token) (room : ℕ) (layer : Layer) (n i : ℕ) → zero < n → left_rest ts room layer n i ≡ turn_of (has (operators_of layer) (class (token_at ts i).word)) (sign (token_at ts i).word) (level ts room (operand_of layer)) (left_rest ts room layer (n - 1)) i
left_turn ts room layer n i h = left_again ts room layer n i h ∙ left_round ts room layer (left_rest ts room layer (n - 1)) i

pub left_turned : (ts : List Token) (room : ℕ) (layer : Layer) (n i : ℕ) → n ≡ zero → left_rest ts room layer n i ≡ None
unfolding left_rest
left_turned ts room layer n i h = ap (λ f. f i) (turned (λ i. None) (λ X. row ts room X (Some (tail_of layer)) (round_of layer)) n h)

pub left_step : (ts : List Token) (room : ℕ) (layer : Layer) (i : ℕ) → zero < room → level ts room (level_of layer) i ≡ ◌>>=◌ {B = List Piece × ℕ} (level ts room (operand_of layer) i) (λ x. ◌>>=◌ {B = List Piece × ℕ} (left_rest ts room layer (suc (length ts)) x.1) (λ y. Some (build FromLeft (x.0 ++ y.0), y.1)))
unfolding left_rest
left_step ts room layers.Either i h = level_row ts room (level_of layers.Either) i h ∙ made (level ts room (operand_of layers.Either) i) (left_rest ts room layers.Either (suc (length ts))) (λ j xs. build FromLeft xs)
left_step ts room layers.Both i h = level_row ts room (level_of layers.Both) i h ∙ made (level ts room (operand_of layers.Both) i) (left_rest ts room layers.Both (suc (length ts))) (λ j xs. build FromLeft xs)
left_step ts room layers.Sum i h = level_row ts room (level_of layers.Sum) i h ∙ made (level ts room (operand_of layers.Sum) i) (left_rest ts room layers.Sum (suc (length ts))) (λ j xs. build FromLeft xs)
left_step ts room layers.Product i h = level_row ts room (level_of layers.Product) i h ∙ made (level ts room (operand_of layers.Product) i) (left_rest ts room layers.Product (suc (length ts))) (λ j xs. build FromLeft xs)

-- ---- chains

-- what the loop of a chain still reads, in n rounds
unfoldable pub chain_rest : List Token → ℕ → ℕ → ℕ → Option (List Piece × ℕ)
chain_rest ts room n = turns (λ i. None) (λ X. row ts room X (Some ChainTail) chain_round) n

chain_again : (ts : List Token) (room n i : ℕ) → zero < n → chain_rest ts room n i ≡ row ts room (chain_rest ts room (n - 1)) (Some ChainTail) chain_round i
unfolding chain_rest
chain_again ts room n i h = ap (λ f. f i) (turn (λ i. None) (λ X. row ts room X (Some ChainTail) chain_round) n h)

pub chain_turn : (ts : List Token) (room n i : ℕ) → zero < n → chain_rest ts room n i ≡ turn_of (has compares (class (token_at ts i).word)) (sign (token_at ts i).word) (level ts room Sum) (chain_rest ts room (n - 1)) i
chain_turn ts room n i h = chain_again ts room n i h ∙ one_round (has compares (class (token_at ts i).word)) (sign (token_at ts i).word) (level ts room Sum) (chain_rest ts room (n - 1)) i

pub chain_turned : (ts : List Token) (room n i : ℕ) → n ≡ zero → chain_rest ts room n i ≡ None
unfolding chain_rest
chain_turned ts room n i h = ap (λ f. f i) (turned (λ i. None) (λ X. row ts room X (Some ChainTail) chain_round) n h)

pub chain_step : (ts : List Token) (room i : ℕ) → zero < room → level ts room Chain i ≡ ◌>>=◌ {B = List Piece × ℕ} (level ts room Sum i) (λ x. ◌>>=◌ {B = List Piece × ℕ} (chain_rest ts room (suc (length ts)) x.1) (λ y. Some (build Linked (x.0 ++ y.0), y.1)))
unfolding chain_rest
chain_step ts room i h = level_row ts room Chain i h ∙ made (level ts room Sum i) (chain_rest ts room (suc (length ts))) (λ j xs. build Linked xs)
