-- The reader of expressions with operators, one step.
use Rattle.std.proofs.Common.{◌≡◌, ℕ, zero, suc, ◌-◌, ◌+◌, ◌<◌, ◌≤◌, List, [], ◌∷◌, ◌++◌, length, map, refl, ap, sym, ◌∙◌, arith, add-one, None, Some, Bool, true, false, cond}
use Rattle.std.specs.Prelude.{◌||◌, eqb}
use Rattle.std.proofs.lemmas.List.{append-nil}
use Rattle.node_tree.specs.declared.kind.Kind.TheVariants as kinds
use Rattle.grammar.specs.Rule.{ref, again, opt, has, ◌·◌, ◌∣◌}
use Rattle.grammar.specs.Sets.{first}
use Rattle.grammar.specs.Reader.{turns}
use Rattle.grammar.proofs.Facts.{has_append}
use Rattle.grammar.proofs.Rounds.{turn, made}
use Rattle.c_expr.specs.declared.word.Word.TheVariants as w
use Rattle.c_expr.specs.declared.word.Token.{Token}
use Rattle.c_expr.specs.declared.part.Part.{Part}
use Rattle.c_expr.specs.declared.operators.Precedence.{Precedence}
use Rattle.c_expr.specs.declared.operators.Precedence.TheVariants as p
use Rattle.c_expr.specs.Words.{class}
use Rattle.c_expr.specs.Settling.{assignments, opens_cast}
use Rattle.c_expr.specs.Table.{Comma, CommaTail, Assign, AssignMore, Cond, CondPart, Multiplicative, MultiplicativeOps, MultiplicativeTail, Additive, AdditiveOps, AdditiveTail, Shift, ShiftOps, ShiftTail, Relational, RelationalOps, RelationalTail, Equality, EqualityOps, EqualityTail, BitAnd, BitAndOps, BitAndTail, BitXor, BitXorOps, BitXorTail, BitOr, BitOrOps, BitOrTail, And, AndOps, AndTail, Or, OrOps, OrTail, Cast, Unary, Named, Row, operation, up_to_multiplicative, up_to_additive, up_to_shift, up_to_relational, up_to_equality, up_to_bit_and, up_to_bit_xor, up_to_bit_or, up_to_and, up_to_or, from_multiplicative, table}
use Rattle.c_expr.specs.Build.{token_at, start_of, built, grafted, cut, graft_cut, cut_chained, cut_source}
use Rattle.c_expr.specs.reader.Sets.{sets}
use Rattle.c_expr.specs.reader.Reading.{level, optional, grafting, regraft, levels, level_at, looseness, levels_from, chain_level, ops_level, tail_level, operators, tighter, right_level, climbs, climbed, condition}
use Rattle.c_expr.proofs.Steps.{Got, on, bind_same, going_on, goes_on, chained_on, chained, row, level_row, rest, rest_turn, graft_seq, graft_cond, cond_both, once, op_row}

-- what a row outside of loops reads
abbrev here : List Token → ℕ → Row → ℕ → Got
here ts room r i = row ts room (λ i. None) None r i

got_same : (r : Got) → on r (λ y. Some (y.0, y.1)) ≡ r
got_same None = refl
got_same (Some y) = refl

-- an operator with its right side, put over what stands before it, and what follows
graft_op : (from : ℕ) (t : Part) (b : Bool) (j : ℕ) (right : ℕ → Got) (over : ℕ → List Part → Part) (f : ℕ → Got) → grafting from t (on (on (on (cond b (Some ([], j)) None) (λ x. on (right x.1) (λ y. Some (x.0 ++ y.0, y.1)))) (λ z. Some (over z.1 z.0 ∷ [], z.1))) (λ x. on (f x.1) (λ y. Some (x.0 ++ y.0, y.1)))) ≡ cond b (on (right j) (λ x. grafting from (cut (grafted from t (over x.1 x.0))) (f x.1))) None
unfolding grafting
graft_op from t false j right over f = refl
graft_op from t true j right over f = by (right j)
  where
    behind : (q : Got) (x : List Part × ℕ) → grafting from t (on q (λ y. Some (over x.1 x.0 ∷ y.0, y.1))) ≡ grafting from (cut (grafted from t (over x.1 x.0))) q
    behind None x = refl
    behind (Some y) x = refl

    by : (r : Got) → grafting from t (on (on (on r (λ y. Some (y.0, y.1))) (λ z. Some (over z.1 z.0 ∷ [], z.1))) (λ x. on (f x.1) (λ y. Some (x.0 ++ y.0, y.1)))) ≡ on r (λ x. grafting from (cut (grafted from t (over x.1 x.0))) (f x.1))
    by None = refl
    by (Some x) = behind (f x.1) x

pub has_one : (d c : ℕ) → eqb d c ≡ true → has (d ∷ []) c ≡ true
has_one d c h = rw h refl

-- ---- commas

comma_tail : (ts : List Token) (room i : ℕ) → zero < room → level ts room CommaTail i ≡ rest ts room CommaTail (suc (length ts)) i
unfolding rest
comma_tail ts room i h = level_row ts room CommaTail i h

pub comma_step : (ts : List Token) (room i : ℕ) → zero < room → level ts room Comma i ≡ on (level ts room Assign i) (λ x. chained_on (start_of ts i) (rest ts room CommaTail (suc (length ts))) x.0 x.1)
comma_step ts room i h =
    level_row ts room Comma i h ∙ made (level ts room Assign i) (level ts room CommaTail) (λ j xs. cut_chained (start_of ts i) xs ∷ [])
    ∙ bind_same (level ts room Assign i) _ _ (λ x. ap (λ r. on r (λ y. Some (cut_chained (start_of ts i) (x.0 ++ y.0) ∷ [], y.1))) (comma_tail ts room x.1 h) ∙ chained (start_of ts i) (rest ts room CommaTail (suc (length ts))) x.0 x.1)

pub comma_turn : (ts : List Token) (room from : ℕ) (t : Part) (n i : ℕ) → zero < n → grafting from t (rest ts room CommaTail n i) ≡ cond (has (class w.Comma ∷ []) (class (token_at ts i).word)) (on (level ts room Assign (suc i)) (λ x. grafting from (cut (grafted from t (cut (built ts (Named kinds.Binary 0) i x.1 x.0)))) (rest ts room CommaTail (n - 1) x.1))) (Some (t ∷ [], i))
unfolding grafting
comma_turn ts room from t n i h =
    ap (grafting from t) (rest_turn ts room CommaTail n i h) ∙ graft_cond from t comma _ (Some ([], i))
    ∙ cond_both comma _ _ (Some (t ∷ [], i)) (Some (t ∷ [], i)) (graft_op from t comma (suc i) (level ts room Assign) (λ j xs. cut (built ts (Named kinds.Binary 0) i j xs)) (rest ts room CommaTail (n - 1))) refl
    ∙ once comma _ None (Some (t ∷ [], i))
  where
    comma : Bool
    comma = has (class w.Comma ∷ []) (class (token_at ts i).word)

-- a comma with its right side, and the round behind it
pub comma_on : (ts : List Token) (room from : ℕ) (t q u : Part) (n m i j : ℕ) → zero < n → has (class w.Comma ∷ []) (class (token_at ts i).word) ≡ true → level ts room Assign (i + 1) ≡ Some (q ∷ [], j) → u ≡ cut (grafted from t (cut (built ts (Named kinds.Binary 0) i j (q ∷ [])))) → n - 1 ≡ m → grafting from t (rest ts room CommaTail n i) ≡ grafting from u (rest ts room CommaTail m j)
comma_on ts room from t q u n m i j h e g made less = comma_turn ts room from t n i h ∙ yes (has (class w.Comma ∷ []) (class (token_at ts i).word)) e ∙ ap (λ r. on r (λ x. grafting from (cut (grafted from t (cut (built ts (Named kinds.Binary 0) i x.1 x.0)))) (rest ts room CommaTail (n - 1) x.1))) (rw add-one at g) ∙ ap (λ v. grafting from v (rest ts room CommaTail (n - 1) j)) (sym made) ∙ ap (λ k. grafting from u (rest ts room CommaTail k j)) less
  where
    yes : (b : Bool) → b ≡ true → cond b (on (level ts room Assign (suc i)) (λ x. grafting from (cut (grafted from t (cut (built ts (Named kinds.Binary 0) i x.1 x.0)))) (rest ts room CommaTail (n - 1) x.1))) (Some (t ∷ [], i)) ≡ on (level ts room Assign (suc i)) (λ x. grafting from (cut (grafted from t (cut (built ts (Named kinds.Binary 0) i x.1 x.0)))) (rest ts room CommaTail (n - 1) x.1))
    yes true e = refl
    yes false e = cc

-- ---- the operators of a level

pub first_ops : (k : Precedence) → sets.first (ops_level k) ≡ map class (operators k)
first_ops p.Multiplicative = refl
first_ops p.Additive = refl
first_ops p.Shift = refl
first_ops p.Relational = refl
first_ops p.Equality = refl
first_ops p.BitAnd = refl
first_ops p.BitXor = refl
first_ops p.BitOr = refl
first_ops p.And = refl
first_ops p.Or = refl

-- an operator of the level and its right side, and what `again` reads
abbrev pub ops_round : Precedence → Row
ops_round k = operation (map class (operators k)) (right_level (tighter k)) · again

-- what may follow an operation of the level, in n rounds
unfoldable pub ops_tail : List Token → ℕ → Precedence → ℕ → ℕ → Got
ops_tail ts room k n = turns (λ i. None) (λ X. row ts room X (Some (tail_level k)) (opt (ops_round k))) n

-- what the operators of a level still read, the first and n rounds
unfoldable pub ops_rest : List Token → ℕ → Precedence → ℕ → ℕ → Got
ops_rest ts room k n i = row ts room (ops_tail ts room k n) (Some (tail_level k)) (ops_round k) i

tail_step : (ts : List Token) (room : ℕ) (k : Precedence) (i : ℕ) → zero < room → level ts room (tail_level k) i ≡ ops_tail ts room k (suc (length ts)) i
unfolding ops_tail
tail_step ts room p.Multiplicative i h = level_row ts room MultiplicativeTail i h
tail_step ts room p.Additive i h = level_row ts room AdditiveTail i h
tail_step ts room p.Shift i h = level_row ts room ShiftTail i h
tail_step ts room p.Relational i h = level_row ts room RelationalTail i h
tail_step ts room p.Equality i h = level_row ts room EqualityTail i h
tail_step ts room p.BitAnd i h = level_row ts room BitAndTail i h
tail_step ts room p.BitXor i h = level_row ts room BitXorTail i h
tail_step ts room p.BitOr i h = level_row ts room BitOrTail i h
tail_step ts room p.And i h = level_row ts room AndTail i h
tail_step ts room p.Or i h = level_row ts room OrTail i h

behind_op : (ts : List Token) (room : ℕ) (k : Precedence) (r : Got) → zero < room → on r (λ x. on (level ts room (tail_level k) x.1) (λ y. Some (x.0 ++ y.0, y.1))) ≡ on r (λ x. on (ops_tail ts room k (suc (length ts)) x.1) (λ y. Some (x.0 ++ y.0, y.1)))
behind_op ts room k r h = bind_same r _ _ (λ x. ap (λ q. on q (λ y. Some (x.0 ++ y.0, y.1))) (tail_step ts room k x.1 h))

pub ops_step : (ts : List Token) (room : ℕ) (k : Precedence) (i : ℕ) → zero < room → level ts room (ops_level k) i ≡ ops_rest ts room k (suc (length ts)) i
unfolding ops_rest
ops_step ts room p.Multiplicative i h = level_row ts room MultiplicativeOps i h ∙ behind_op ts room p.Multiplicative _ h
ops_step ts room p.Additive i h = level_row ts room AdditiveOps i h ∙ behind_op ts room p.Additive _ h
ops_step ts room p.Shift i h = level_row ts room ShiftOps i h ∙ behind_op ts room p.Shift _ h
ops_step ts room p.Relational i h = level_row ts room RelationalOps i h ∙ behind_op ts room p.Relational _ h
ops_step ts room p.Equality i h = level_row ts room EqualityOps i h ∙ behind_op ts room p.Equality _ h
ops_step ts room p.BitAnd i h = level_row ts room BitAndOps i h ∙ behind_op ts room p.BitAnd _ h
ops_step ts room p.BitXor i h = level_row ts room BitXorOps i h ∙ behind_op ts room p.BitXor _ h
ops_step ts room p.BitOr i h = level_row ts room BitOrOps i h ∙ behind_op ts room p.BitOr _ h
ops_step ts room p.And i h = level_row ts room AndOps i h ∙ behind_op ts room p.And _ h
ops_step ts room p.Or i h = level_row ts room OrOps i h ∙ behind_op ts room p.Or _ h

-- the operators of a level, where one stands
abbrev pub more_ops : List Token → ℕ → Precedence → ℕ → ℕ → Got
more_ops ts room k n i = cond (has (map class (operators k)) (class (token_at ts i).word)) (ops_rest ts room k n i) (Some ([], i))

tail_turn : (ts : List Token) (room : ℕ) (k : Precedence) (n i : ℕ) → zero < n → ops_tail ts room k n i ≡ more_ops ts room k (n - 1) i
unfolding ops_tail ops_rest
tail_turn ts room k n i h =
    ap (λ f. f i) (turn (λ i. None) (λ X. row ts room X (Some (tail_level k)) (opt (ops_round k))) n h)
    ∙ ap (λ cs. cond (has cs (class (token_at ts i).word)) (row ts room (ops_tail ts room k (n - 1)) (Some (tail_level k)) (ops_round k) i) (Some ([], i))) (append-nil (map class (operators k) ++ []) ∙ append-nil (map class (operators k)))

pub ops_turn : (ts : List Token) (room from : ℕ) (t : Part) (k : Precedence) (n i : ℕ) → zero < n → grafting from t (ops_rest ts room k n i) ≡ cond (has (map class (operators k)) (class (token_at ts i).word)) (on (level ts room (right_level (tighter k)) (suc i)) (λ x. grafting from (cut (grafted from t (cut (built ts (Named kinds.Binary 0) i x.1 x.0)))) (more_ops ts room k (n - 1) x.1))) None
unfolding ops_rest grafting
ops_turn ts room from t k n i h =
    graft_op from t stands (suc i) (level ts room (right_level (tighter k))) (λ j xs. cut (built ts (Named kinds.Binary 0) i j xs)) (ops_tail ts room k n)
    ∙ cond_both stands _ _ None None (bind_same (level ts room (right_level (tighter k)) (suc i)) _ _ (λ x. ap (grafting from (cut (grafted from t (cut (built ts (Named kinds.Binary 0) i x.1 x.0))))) (tail_turn ts room k n x.1 h))) refl
  where
    stands : Bool
    stands = has (map class (operators k)) (class (token_at ts i).word)

-- where an operator stands
pub more_there : (ts : List Token) (room from : ℕ) (t : Part) (k : Precedence) (n i : ℕ) → has (map class (operators k)) (class (token_at ts i).word) ≡ true → grafting from t (more_ops ts room k n i) ≡ grafting from t (ops_rest ts room k n i)
more_there ts room from t k n i h = ap (λ b. grafting from t (cond b (ops_rest ts room k n i) (Some ([], i)))) h

-- an operator with its right side, and the round behind it
pub ops_on : (ts : List Token) (room from : ℕ) (t q u : Part) (k : Precedence) (n m i j : ℕ) → zero < n → has (map class (operators k)) (class (token_at ts i).word) ≡ true → level ts room (right_level (tighter k)) (i + 1) ≡ Some (q ∷ [], j) → u ≡ cut (grafted from t (cut (built ts (Named kinds.Binary 0) i j (q ∷ [])))) → n - 1 ≡ m → grafting from t (ops_rest ts room k n i) ≡ grafting from u (more_ops ts room k m j)
ops_on ts room from t q u k n m i j h e g made less = ops_turn ts room from t k n i h ∙ yes (has (map class (operators k)) (class (token_at ts i).word)) e ∙ ap (λ r. on r (λ x. grafting from (cut (grafted from t (cut (built ts (Named kinds.Binary 0) i x.1 x.0)))) (more_ops ts room k (n - 1) x.1))) (rw add-one at g) ∙ ap (λ v. grafting from v (more_ops ts room k (n - 1) j)) (sym made) ∙ ap (λ l. grafting from u (more_ops ts room k l j)) less
  where
    yes : (b : Bool) → b ≡ true → cond b (on (level ts room (right_level (tighter k)) (suc i)) (λ x. grafting from (cut (grafted from t (cut (built ts (Named kinds.Binary 0) i x.1 x.0)))) (more_ops ts room k (n - 1) x.1))) None ≡ on (level ts room (right_level (tighter k)) (suc i)) (λ x. grafting from (cut (grafted from t (cut (built ts (Named kinds.Binary 0) i x.1 x.0)))) (more_ops ts room k (n - 1) x.1))
    yes true e = refl
    yes false e = cc

pub ops_turned : (ts : List Token) (room from : ℕ) (t : Part) (k : Precedence) (n i : ℕ) → n ≡ zero → grafting from t (ops_rest ts room k n i) ≡ None
unfolding ops_rest ops_tail grafting
ops_turned ts room from t k n i h = rw h (graft_op from t (has (map class (operators k)) (class (token_at ts i).word)) (suc i) (level ts room (right_level (tighter k))) (λ j xs. cut (built ts (Named kinds.Binary 0) i j xs)) (λ j. None) ∙ by (has (map class (operators k)) (class (token_at ts i).word)) (level ts room (right_level (tighter k)) (suc i)))
  where
    by : (b : Bool) (r : Got) → cond b (on r (λ x. None)) None ≡ None
    by true None = refl
    by true (Some x) = refl
    by false r = refl

-- the operators of a level, where they may stand
pub ops_read : (ts : List Token) (room : ℕ) (k : Precedence) (i : ℕ) → zero < room → optional ts room (ops_level k) i ≡ more_ops ts room k (suc (length ts)) i
ops_read ts room k i h = rw (first_ops k, ops_step ts room k i h) refl

-- ---- one level after another

ops_then : List Precedence → Row → Row
ops_then [] e = e
ops_then (k ∷ ks) e = opt (ref (ops_level k)) · ops_then ks e

graft_ops : (ts : List Token) (room from : ℕ) (ks : List Precedence) (e : Row) (t : Part) (i : ℕ) → grafting from t (here ts room (ops_then ks e) i) ≡ on (climbs ts room from ks (t ∷ []) i) (λ z. regraft from z.0 (here ts room e z.1))
unfolding ops_then grafting
graft_ops ts room from [] e t i = refl
graft_ops ts room from (k ∷ ks) e t i = graft_seq from t (optional ts room (ops_level k) i) (here ts room (ops_then ks e)) ∙ by (graft_ops ts room from ks e) (optional ts room (ops_level k) i)
  where
    by : ((t : Part) (i : ℕ) → grafting from t (here ts room (ops_then ks e) i) ≡ on (climbs ts room from ks (t ∷ []) i) (λ z. regraft from z.0 (here ts room e z.1))) → (r : Got) → on (grafting from t r) (λ z. regraft from z.0 (here ts room (ops_then ks e) z.1)) ≡ on (on (grafting from t r) (λ z. climbs ts room from ks z.0 z.1)) (λ z. regraft from z.0 (here ts room e z.1))
    by h None = refl
    by h (Some x) = h (graft_cut from t x.0) x.1

graft_climbs : (ts : List Token) (room from : ℕ) (ks : List Precedence) (k : Precedence) (t : Part) (i : ℕ) → grafting from t (here ts room (ops_then ks (opt (ref (ops_level k)))) i) ≡ climbs ts room from (ks ++ k ∷ []) (t ∷ []) i
unfolding ops_then grafting
graft_climbs ts room from [] k t i = by (optional ts room (ops_level k) i)
  where
    by : (r : Got) → grafting from t r ≡ on (grafting from t r) (λ z. Some (z.0, z.1))
    by None = refl
    by (Some x) = refl
graft_climbs ts room from (l ∷ ks) k t i = graft_seq from t (optional ts room (ops_level l) i) (here ts room (ops_then ks (opt (ref (ops_level k))))) ∙ by (graft_climbs ts room from ks k) (optional ts room (ops_level l) i)
  where
    by : ((t : Part) (i : ℕ) → grafting from t (here ts room (ops_then ks (opt (ref (ops_level k)))) i) ≡ climbs ts room from (ks ++ k ∷ []) (t ∷ []) i) → (r : Got) → on (grafting from t r) (λ z. regraft from z.0 (here ts room (ops_then ks (opt (ref (ops_level k)))) z.1)) ≡ on (grafting from t r) (λ z. climbs ts room from (ks ++ k ∷ []) z.0 z.1)
    by h None = refl
    by h (Some x) = h (graft_cut from t x.0) x.1

abbrev up_to : Precedence → Row
up_to p.Multiplicative = up_to_multiplicative
up_to p.Additive = up_to_additive
up_to p.Shift = up_to_shift
up_to p.Relational = up_to_relational
up_to p.Equality = up_to_equality
up_to p.BitAnd = up_to_bit_and
up_to p.BitXor = up_to_bit_xor
up_to p.BitOr = up_to_bit_or
up_to p.And = up_to_and
up_to p.Or = up_to_or

graft_up_to : (ts : List Token) (room from : ℕ) (k : Precedence) (t : Part) (i : ℕ) → grafting from t (here ts room (up_to k) i) ≡ climbed ts room from k t i
unfolding ops_then climbed levels_from grafting
graft_up_to ts room from p.Multiplicative t i = graft_climbs ts room from ([]) p.Multiplicative t i
graft_up_to ts room from p.Additive t i = graft_climbs ts room from (p.Multiplicative ∷ []) p.Additive t i
graft_up_to ts room from p.Shift t i = graft_climbs ts room from (p.Multiplicative ∷ p.Additive ∷ []) p.Shift t i
graft_up_to ts room from p.Relational t i = graft_climbs ts room from (p.Multiplicative ∷ p.Additive ∷ p.Shift ∷ []) p.Relational t i
graft_up_to ts room from p.Equality t i = graft_climbs ts room from (p.Multiplicative ∷ p.Additive ∷ p.Shift ∷ p.Relational ∷ []) p.Equality t i
graft_up_to ts room from p.BitAnd t i = graft_climbs ts room from (p.Multiplicative ∷ p.Additive ∷ p.Shift ∷ p.Relational ∷ p.Equality ∷ []) p.BitAnd t i
graft_up_to ts room from p.BitXor t i = graft_climbs ts room from (p.Multiplicative ∷ p.Additive ∷ p.Shift ∷ p.Relational ∷ p.Equality ∷ p.BitAnd ∷ []) p.BitXor t i
graft_up_to ts room from p.BitOr t i = graft_climbs ts room from (p.Multiplicative ∷ p.Additive ∷ p.Shift ∷ p.Relational ∷ p.Equality ∷ p.BitAnd ∷ p.BitXor ∷ []) p.BitOr t i
graft_up_to ts room from p.And t i = graft_climbs ts room from (p.Multiplicative ∷ p.Additive ∷ p.Shift ∷ p.Relational ∷ p.Equality ∷ p.BitAnd ∷ p.BitXor ∷ p.BitOr ∷ []) p.And t i
graft_up_to ts room from p.Or t i = graft_climbs ts room from (p.Multiplicative ∷ p.Additive ∷ p.Shift ∷ p.Relational ∷ p.Equality ∷ p.BitAnd ∷ p.BitXor ∷ p.BitOr ∷ p.And ∷ []) p.Or t i

pub chain_step : (ts : List Token) (room : ℕ) (k : Precedence) (i : ℕ) → zero < room → level ts room (chain_level k) i ≡ on (level ts room Cast i) (λ x. going_on (climbed ts room (start_of ts i) k) (start_of ts i) (here ts room (up_to k)) x.0 x.1)
unfolding grafting
chain_step ts room k i h = by k ∙ made (level ts room Cast i) (here ts room (up_to k)) (λ j xs. cut_chained (start_of ts i) xs ∷ []) ∙ bind_same (level ts room Cast i) _ _ (λ x. goes_on (climbed ts room (start_of ts i) k) (start_of ts i) (here ts room (up_to k)) (graft_up_to ts room (start_of ts i) k) x.0 x.1)
  where
    by : (k : Precedence) → level ts room (chain_level k) i ≡ on (on (level ts room Cast i) (λ x. on (here ts room (up_to k) x.1) (λ y. Some (x.0 ++ y.0, y.1)))) (λ z. Some (cut_chained (start_of ts i) z.0 ∷ [], z.1))
    by p.Multiplicative = level_row ts room Multiplicative i h
    by p.Additive = level_row ts room Additive i h
    by p.Shift = level_row ts room Shift i h
    by p.Relational = level_row ts room Relational i h
    by p.Equality = level_row ts room Equality i h
    by p.BitAnd = level_row ts room BitAnd i h
    by p.BitXor = level_row ts room BitXor i h
    by p.BitOr = level_row ts room BitOr i h
    by p.And = level_row ts room And i h
    by p.Or = level_row ts room Or i h

levels_turn : (n m : ℕ) → zero < n → levels_from n m ≡ level_at m ∷ levels_from (n - 1) (suc m)
unfolding levels_from
levels_turn zero m h = absurd (omega arith)
levels_turn (suc n) m h = rw less refl
  where
    less : suc n - 1 ≡ n
    less = omega arith

levels_turned : (n m : ℕ) → n ≡ zero → levels_from n m ≡ []
unfolding levels_from
levels_turned n m h = rw h refl

-- what is still climbed, over n levels from one that binds so loosely on
unfoldable pub still : List Token → ℕ → ℕ → ℕ → ℕ → Part → ℕ → Got
unfolding grafting
still ts room from n m t i = climbs ts room from (levels_from n m) (t ∷ []) i

pub climb_start : (ts : List Token) (room from : ℕ) (k : Precedence) (t : Part) (i : ℕ) → climbed ts room from k t i ≡ still ts room from (suc (looseness k)) 0 t i
unfolding climbed still grafting
climb_start ts room from k t i = refl

-- what one part is climbed on with
abbrev pub still_all : List Token → ℕ → ℕ → ℕ → ℕ → List Part → ℕ → Got
still_all ts room from n m [] i = climbs ts room from (levels_from n m) [] i
still_all ts room from n m (t ∷ []) i = still ts room from n m t i
still_all ts room from n m (t ∷ q ∷ ps) i = climbs ts room from (levels_from n m) (t ∷ q ∷ ps) i

pub climb_turn : (ts : List Token) (room from : ℕ) (t : Part) (n m i : ℕ) → zero < n → still ts room from n m t i ≡ on (grafting from t (optional ts room (ops_level (level_at m)) i)) (λ z. still_all ts room from (n - 1) (m + 1) z.0 z.1)
unfolding still grafting
climb_turn ts room from t n m i h = ap (λ ks. climbs ts room from ks (t ∷ []) i) (levels_turn n m h) ∙ bind_same (grafting from t (optional ts room (ops_level (level_at m)) i)) _ _ (λ z. rw (add-one m) (by z.0 z.1))
  where
    by : (ps : List Part) (j : ℕ) → climbs ts room from (levels_from (n - 1) (suc m)) ps j ≡ still_all ts room from (n - 1) (suc m) ps j
    by [] j = refl
    by (t ∷ []) j = refl
    by (t ∷ q ∷ ps) j = refl

pub climb_turned : (ts : List Token) (room from : ℕ) (t : Part) (n m i : ℕ) → n ≡ zero → still ts room from n m t i ≡ Some (t ∷ [], i)
unfolding still grafting
climb_turned ts room from t n m i h = ap (λ ks. climbs ts room from ks (t ∷ []) i) (levels_turned n m h)

-- a level binds as loosely as its place, or more tightly
pub loose : (m : ℕ) → looseness (level_at m) ≤ m
loose zero = omega arith
loose (suc zero) = omega arith
loose (suc (suc zero)) = omega arith
loose (suc (suc (suc zero))) = omega arith
loose (suc (suc (suc (suc zero)))) = omega arith
loose (suc (suc (suc (suc (suc zero))))) = omega arith
loose (suc (suc (suc (suc (suc (suc zero)))))) = omega arith
loose (suc (suc (suc (suc (suc (suc (suc zero))))))) = omega arith
loose (suc (suc (suc (suc (suc (suc (suc (suc zero)))))))) = omega arith
loose (suc (suc (suc (suc (suc (suc (suc (suc (suc zero))))))))) = omega arith
loose (suc (suc (suc (suc (suc (suc (suc (suc (suc (suc m)))))))))) = omega arith

-- ---- conditions and assignments

-- operators of some level, and what follows; or a condition
some_then : List Precedence → Row
some_then [] = ref CondPart
some_then (k ∷ ks) = ref (ops_level k) · ops_then ks (opt (ref CondPart)) ∣ some_then ks

starts_ops : (k : Precedence) (r : Row) → first sets None (ref (ops_level k) · r) ≡ sets.first (ops_level k)
starts_ops p.Multiplicative r = refl
starts_ops p.Additive r = refl
starts_ops p.Shift r = refl
starts_ops p.Relational r = refl
starts_ops p.Equality r = refl
starts_ops p.BitAnd r = refl
starts_ops p.BitXor r = refl
starts_ops p.BitOr r = refl
starts_ops p.And r = refl
starts_ops p.Or r = refl

either_way : (b d e : Bool) (x y z : Got) → e ≡ (b || d) → cond e (cond b x y) z ≡ cond b x (cond d y z)
either_way true d e x y z h = rw h refl
either_way false d e x y z h = rw h refl

opt_then : (b : Bool) (r : Got) (f : ℕ → Got) (i : ℕ) → on (cond b r (Some ([], i))) (λ x. on (f x.1) (λ y. Some (x.0 ++ y.0, y.1))) ≡ cond b (on r (λ x. on (f x.1) (λ y. Some (x.0 ++ y.0, y.1)))) (f i)
opt_then true r f i = refl
opt_then false r f i = got_same (f i)

some_is : (ts : List Token) (room : ℕ) (ks : List Precedence) (i : ℕ) → here ts room (opt (some_then ks)) i ≡ here ts room (ops_then ks (opt (ref CondPart))) i
unfolding ops_then some_then
some_is ts room [] i = refl
some_is ts room (k ∷ ks) i =
    let c : ℕ = class (token_at ts i).word in
    let r : Row = ops_then ks (opt (ref CondPart)) in
    either_way (has (first sets None (ref (ops_level k) · r)) c) (has (first sets None (some_then ks)) c) (has (first sets None (some_then (k ∷ ks))) c) _ (here ts room (some_then ks) i) (Some ([], i)) (has_append (first sets None (ref (ops_level k) · r)) (first sets None (some_then ks)) c)
    ∙ ap (λ cs. cond (has cs c) (on (level ts room (ops_level k) i) (λ x. on (here ts room r x.1) (λ y. Some (x.0 ++ y.0, y.1)))) (here ts room (opt (some_then ks)) i)) (starts_ops k r)
    ∙ ap (λ q. cond (has (sets.first (ops_level k)) c) (on (level ts room (ops_level k) i) (λ x. on (here ts room r x.1) (λ y. Some (x.0 ++ y.0, y.1)))) q) (some_is ts room ks i)
    ∙ sym (opt_then (has (sets.first (ops_level k)) c) (level ts room (ops_level k) i) (here ts room r) i)

graft_condition : (ts : List Token) (room from : ℕ) (t : Part) (i : ℕ) → grafting from t (here ts room from_multiplicative i) ≡ condition ts room from t i
unfolding ops_then climbed levels_from grafting
graft_condition ts room from t i = graft_ops ts room from levels (opt (ref CondPart)) t i

pub cond_step : (ts : List Token) (room i : ℕ) → zero < room → level ts room Cond i ≡ on (level ts room Cast i) (λ x. going_on (condition ts room (start_of ts i)) (start_of ts i) (here ts room from_multiplicative) x.0 x.1)
unfolding grafting
cond_step ts room i h = level_row ts room Cond i h ∙ made (level ts room Cast i) (here ts room from_multiplicative) (λ j xs. cut_chained (start_of ts i) xs ∷ []) ∙ bind_same (level ts room Cast i) _ _ (λ x. goes_on (condition ts room (start_of ts i)) (start_of ts i) (here ts room from_multiplicative) (graft_condition ts room (start_of ts i)) x.0 x.1)

pub assign_step : (ts : List Token) (room i : ℕ) → zero < room → level ts room Assign i ≡ cond (opens_cast (cut_source ts).cls i) (on (level ts room Cast i) (λ x. going_on (condition ts room (start_of ts i)) (start_of ts i) (here ts room from_multiplicative) x.0 x.1)) (on (level ts room Unary i) (λ x. chained_on (start_of ts i) (optional ts room AssignMore) x.0 x.1))
unfolding grafting
assign_step ts room i h =
    level_row ts room Assign i h ∙ cond_both (opens_cast (cut_source ts).cls i) _ _ _ _
    (made (level ts room Cast i) (here ts room from_multiplicative) (λ j xs. cut_chained (start_of ts i) xs ∷ []) ∙ bind_same (level ts room Cast i) _ _ (λ x. goes_on (condition ts room (start_of ts i)) (start_of ts i) (here ts room from_multiplicative) (graft_condition ts room (start_of ts i)) x.0 x.1))
    (made (level ts room Unary i) (optional ts room AssignMore) (λ j xs. cut_chained (start_of ts i) xs ∷ []) ∙ bind_same (level ts room Unary i) _ _ (λ x. chained (start_of ts i) (optional ts room AssignMore) x.0 x.1))

pub assign_more_step : (ts : List Token) (room from : ℕ) (t : Part) (i : ℕ) → zero < room → grafting from t (optional ts room AssignMore i) ≡ cond (has assignments (class (token_at ts i).word)) (grafting from t (on (level ts (room - 1) Assign (suc i)) (λ x. Some (cut (built ts (Named kinds.AssignE 0) i x.1 x.0) ∷ [], x.1)))) (condition ts room from t i)
unfolding ops_then some_then grafting
assign_more_step ts room from t i h =
    let c : ℕ = class (token_at ts i).word in
    ap (λ r. grafting from t (cond (has (sets.first AssignMore) c) r (Some ([], i)))) (level_row ts room AssignMore i h)
    ∙ ap (grafting from t) (either_way (has assignments c) (has (first sets None (some_then levels)) c) (has (sets.first AssignMore) c) _ (here ts room (some_then levels) i) (Some ([], i)) (has_append assignments (first sets None (some_then levels)) c))
    ∙ graft_cond from t (has assignments c) _ (here ts room (opt (some_then levels)) i)
    ∙ cond_both (has assignments c) _ _ _ _ (ap (grafting from t) (op_row (has assignments c) (suc i) (level ts (room - 1) Assign) (λ j xs. cut (built ts (Named kinds.AssignE 0) i j xs) ∷ []))) (ap (grafting from t) (some_is ts room levels i) ∙ graft_condition ts room from t i)
    ∙ yes (has assignments c)
  where
    yes : (b : Bool) → cond b (grafting from t (cond b (on (level ts (room - 1) Assign (suc i)) (λ x. Some (cut (built ts (Named kinds.AssignE 0) i x.1 x.0) ∷ [], x.1))) None)) (condition ts room from t i) ≡ cond b (grafting from t (on (level ts (room - 1) Assign (suc i)) (λ x. Some (cut (built ts (Named kinds.AssignE 0) i x.1 x.0) ∷ [], x.1)))) (condition ts room from t i)
    yes true = refl
    yes false = refl

pub cond_part_step : (ts : List Token) (room i : ℕ) → zero < room → level ts room CondPart i ≡ here ts room (table CondPart) i
cond_part_step ts room i h = level_row ts room CondPart i h
