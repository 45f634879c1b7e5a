-- What the rows of the ten levels of binary operators mean: each spells just what the standard's line `l = next {op next}` spells (C11 6.5.5 to 6.5.14), whose operators take their operands from the left.
use Rattle.std.proofs.Common.{◌≡◌, ℕ, List, [], ◌∷◌, ◌++◌, refl, sym, ap, ◌∙◌, subst, append_assoc}
use Rattle.grammar.specs.Rule.{ref, again, opt, rep, make, ◌·◌, Loop, outside, within, Derives, d_mark, d_ref, d_again, d_rep, d_seq, d_left, d_right, d_chosen, d_unchosen, d_without, d_with, d_make}
use Rattle.c_expr.specs.declared.word.Token.{Token}
use Rattle.c_expr.specs.declared.part.Part.{Part}
use Rattle.c_expr.specs.declared.operators.Precedence.{Precedence}
use Rattle.c_expr.specs.declared.operators.Precedence.TheVariants as p
use Rattle.c_expr.specs.Table as t
use Rattle.c_expr.specs.Table.{Leaf, Builder, Chain, Level, Cast, Row, operation, table}
use Rattle.c_expr.specs.Build.{start_of, grafted, graft_all, chained, source}
use Rattle.c_expr.specs.Standard.{line}
use Rattle.c_expr.specs.reader.Reading.{chain_level, ops_level, tail_level}

-- a level's row in the table: a cast, and then the operators of one level after another
abbrev ops : Level → List Level → Row
ops l [] = opt (ref l)
ops l (m ∷ ls) = opt (ref l) · ops m ls

abbrev climb : Level → List Level → Row
climb l ls = make Chain (ref Cast · ops l ls)

-- ---- chains

graft_all_more : (from : ℕ) (p : Part) (ps qs : List Part) → graft_all from p (ps ++ qs) ≡ graft_all from (graft_all from p ps) qs
graft_all_more from p [] qs = refl
graft_all_more from p (q ∷ ps) qs = graft_all_more from (grafted from p q) ps qs

-- a chain goes on with what was chained
chained_more : (from : ℕ) (us vs ws : List Part) (p : Part) → us ≡ p ∷ [] → chained from (us ++ (vs ++ ws)) ≡ chained from (chained from (us ++ vs) ∷ ws)
chained_more from us vs ws p e = rw e (graft_all_more from p vs ws)

module _ (ts : List Token) where
  -- what a rule spells, in a loop
  abbrev In : Loop Leaf Builder Level → Row → List Part → ℕ → ℕ → Type 0
  In c r xs i j = Derives (source ts) table c r xs i j

  abbrev Says : Row → List Part → ℕ → ℕ → Type 0
  Says r xs i j = In outside r xs i j

  -- ---- a cast is one part

  abbrev IsOne : List Part → Type 0
  IsOne xs = (p : Part) × (xs ≡ p ∷ [])

  sizeof_one : {xs : List Part} {i j : ℕ} → Says (table t.Sizeof) xs i j → IsOne xs
  sizeof_one (d_chosen h (d_make ys d e)) = (_, e)
  sizeof_one (d_unchosen h (d_make ys d e)) = (_, e)

  postfix_one : {xs : List Part} {i j : ℕ} → Says (table t.Postfix) xs i j → IsOne xs
  postfix_one (d_make ys d e) = (_, e)

  unary_one : {xs : List Part} {i j : ℕ} → Says (table t.Unary) xs i j → IsOne xs
  unary_one (d_left (d_make ys d e)) = (_, e)
  unary_one (d_right (d_left (d_make ys d e))) = (_, e)
  unary_one (d_right (d_right (d_left (d_ref d)))) = sizeof_one d
  unary_one (d_right (d_right (d_right (d_ref d)))) = postfix_one d

  cast_one : {xs : List Part} {i j : ℕ} → Says (ref Cast) xs i j → IsOne xs
  cast_one (d_ref (d_chosen h (d_make ys d e))) = (_, e)
  cast_one (d_ref (d_unchosen h (d_ref d))) = unary_one d

  -- ---- levels as rows

  opened : {l : Level} {r : Row} {xs : List Part} {i j : ℕ} → table l ≡ r → Says (ref l) xs i j → Says r xs i j
  opened {xs = xs} {i = i} {j = j} e (d_ref d) = subst (λ (r : Row). Says r xs i j) e d

  closed : {l : Level} {r : Row} {xs : List Part} {i j : ℕ} → table l ≡ r → Says r xs i j → Says (ref l) xs i j
  closed {xs = xs} {i = i} {j = j} e d = d_ref (subst (λ (r : Row). Says r xs i j) (sym e) d)

  -- ---- one level's operators: none or some, and any number

  operated : {c c' : Loop Leaf Builder Level} {cs : List ℕ} {right : Level} {xs : List Part} {i j : ℕ} → In c (operation cs right) xs i j → In c' (operation cs right) xs i j
  operated (d_make ys (d_seq k us vs (d_mark h a b) (d_ref d) e) made) = d_make ys (d_seq k us vs (d_mark h a b) (d_ref d) e) made

  abbrev loop : List ℕ → Level → Row
  loop cs right = opt (operation cs right · again)

  -- the rows of a level's operators and of what follows the first
  record AreOps (some tail : Level) (cs : List ℕ) (right : Level) : Type 0 where
    first : table some ≡ operation cs right · ref tail
    more : table tail ≡ rep tail (loop cs right)

  to_tail : {some tail right : Level} {cs : List ℕ} {xs : List Part} {i j : ℕ} → AreOps some tail cs right → Says (opt (ref some)) xs i j → Says (ref tail) xs i j
  to_tail rows (d_without a b) = closed rows.more (d_rep (d_without a b))
  to_tail {tail = tail} {right = right} {cs = cs} {xs = xs} {i = i} {j = j} rows (d_with d) = some_tail (opened rows.first d)
    where
      behind : {us : List Part} {k : ℕ} → Says (rep tail (loop cs right)) us k j → In (within tail (loop cs right)) again us k j
      behind (d_rep d) = d_again d

      some_tail : Says (operation cs right · ref tail) xs i j → Says (ref tail) xs i j
      some_tail (d_seq k us vs op d e) = closed rows.more (d_rep (d_with (d_seq k us vs (operated op) (behind (opened rows.more d)) e)))

  from_tail : {some tail right : Level} {cs : List ℕ} {xs : List Part} {i j : ℕ} → AreOps some tail cs right → Says (ref tail) xs i j → Says (opt (ref some)) xs i j
  from_tail {some = some} {tail = tail} {right = right} {cs = cs} {xs = xs} {i = i} {j = j} rows d = by (opened rows.more d)
    where
      by : Says (rep tail (loop cs right)) xs i j → Says (opt (ref some)) xs i j
      by (d_rep (d_without a b)) = d_without a b
      by (d_rep (d_with (d_seq k us vs op (d_again d) e))) = d_with (closed rows.first (d_seq k us vs (operated op) (closed rows.more (d_rep d)) e))

  -- ---- the operators of several levels, without the last

  record Parted (l : Level) (ls : List Level) (m : Level) (xs : List Part) (i j : ℕ) : Type 0 where
    place : ℕ
    before : List Part
    behind : List Part
    tighter_ones : Says (ops l ls) before i place
    last : Says (opt (ref m)) behind place j
    all : xs ≡ before ++ behind

  part : (l : Level) (ls : List Level) (m : Level) {xs : List Part} {i j : ℕ} → Says (ops l (ls ++ m ∷ [])) xs i j → Parted l ls m xs i j
  part l [] m (d_seq k us vs d d' e) = record { place = k; before = us; behind = vs; tighter_ones = d; last = d'; all = e }
  part l (n ∷ ls) m (d_seq k us vs d d' e) =
      let q = part n ls m d' in
      record { place = q.place; before = us ++ q.before; behind = q.behind; tighter_ones = d_seq k us q.before d q.tighter_ones refl; last = q.last; all = e ∙ ap (λ (ws : List Part). us ++ ws) q.all ∙ sym (append_assoc us q.before q.behind) }

  whole : (l : Level) (ls : List Level) (m : Level) {us vs : List Part} {i k j : ℕ} → Says (ops l ls) us i k → Says (opt (ref m)) vs k j → Says (ops l (ls ++ m ∷ [])) (us ++ vs) i j
  whole l [] m d d' = d_seq _ _ _ d d' refl
  whole l (n ∷ ls) m {vs = vs} (d_seq k us ws d d' e) last = d_seq k us (ws ++ vs) d (whole n ls m d' last) (ap (λ (xs : List Part). xs ++ vs) e ∙ append_assoc us ws vs)

  -- ---- a level against the next

  -- how a level stands in the table: its own operators come behind those of the tighter ones, which are all that the next has
  record Stands (k next : Precedence) : Type 0 where
    first : Level
    others : List Level
    marks : List ℕ
    own : AreOps (ops_level k) (tail_level k) marks (chain_level next)
    inner : table (chain_level next) ≡ climb first others
    row : table (chain_level k) ≡ climb first (others ++ ops_level k ∷ [])

  abbrev short : Precedence → Precedence → Row
  short k next = make Chain (ref (chain_level next) · ref (tail_level k))

  to_line : {k next : Precedence} {xs : List Part} {i j : ℕ} → Stands k next → Says (table (chain_level k)) xs i j → Says (short k next) xs i j
  to_line {k = k} {next = next} {xs = xs} {i = i} {j = j} s d = by (subst (λ (r : Row). Says r xs i j) s.row d)
    where
      by : Says (climb s.first (s.others ++ ops_level k ∷ [])) xs i j → Says (short k next) xs i j
      by (d_make ys (d_seq m us vs cast d' e) made) =
          let q = part s.first s.others (ops_level k) d' in
          let one = cast_one cast in
          let from = start_of ts i in
          d_make (chained from (us ++ q.before) ∷ q.behind)
          (d_seq q.place (chained from (us ++ q.before) ∷ []) q.behind (closed s.inner (d_make (us ++ q.before) (d_seq m us q.before cast q.tighter_ones refl) refl)) (to_tail s.own q.last) refl)
          (made ∙ ap (λ (ws : List Part). chained from ws ∷ []) (e ∙ ap (λ (ws : List Part). us ++ ws) q.all) ∙ ap (λ (x : Part). x ∷ []) (chained_more from us q.before q.behind one.0 one.1))

  from_line : {k next : Precedence} {xs : List Part} {i j : ℕ} → Stands k next → Says (short k next) xs i j → Says (table (chain_level k)) xs i j
  from_line {k = k} {next = next} {xs = xs} {i = i} {j = j} s (d_make ys (d_seq m us vs d d' e) made) = subst (λ (r : Row). Says r xs i j) (sym s.row) (by (opened s.inner d))
    where
      by : Says (climb s.first s.others) us i m → Says (climb s.first (s.others ++ ops_level k ∷ [])) xs i j
      by (d_make zs (d_seq n ps qs cast d'' e') made') =
          let one = cast_one cast in
          let from = start_of ts i in
          d_make (ps ++ (qs ++ vs)) (d_seq n ps (qs ++ vs) cast (whole s.first s.others (ops_level k) d'' (from_tail s.own d')) refl)
          (made ∙ ap (λ (ws : List Part). chained from ws ∷ []) (e ∙ ap (λ (ws : List Part). ws ++ vs) (made' ∙ ap (λ (ws : List Part). chained from ws ∷ []) e')) ∙ ap (λ (x : Part). x ∷ []) (sym (chained_more from ps qs vs one.0 one.1)))

  -- ---- the ten levels

  own_multiplicative : AreOps t.MultiplicativeOps t.MultiplicativeTail t.multiplicative_marks Cast
  own_multiplicative = record { first = refl; more = refl }

  additive_stands : Stands p.Additive p.Multiplicative
  additive_stands = record { first = t.MultiplicativeOps; others = []; marks = t.additive_marks; own = record { first = refl; more = refl }; inner = refl; row = refl }

  shift_stands : Stands p.Shift p.Additive
  shift_stands = record { first = t.MultiplicativeOps; others = t.AdditiveOps ∷ []; marks = t.shift_marks; own = record { first = refl; more = refl }; inner = refl; row = refl }

  relational_stands : Stands p.Relational p.Shift
  relational_stands = record { first = t.MultiplicativeOps; others = t.AdditiveOps ∷ t.ShiftOps ∷ []; marks = t.relational_marks; own = record { first = refl; more = refl }; inner = refl; row = refl }

  equality_stands : Stands p.Equality p.Relational
  equality_stands = record { first = t.MultiplicativeOps; others = t.AdditiveOps ∷ t.ShiftOps ∷ t.RelationalOps ∷ []; marks = t.equality_marks; own = record { first = refl; more = refl }; inner = refl; row = refl }

  bit_and_stands : Stands p.BitAnd p.Equality
  bit_and_stands = record { first = t.MultiplicativeOps; others = t.AdditiveOps ∷ t.ShiftOps ∷ t.RelationalOps ∷ t.EqualityOps ∷ []; marks = t.bit_and_marks; own = record { first = refl; more = refl }; inner = refl; row = refl }

  bit_xor_stands : Stands p.BitXor p.BitAnd
  bit_xor_stands = record { first = t.MultiplicativeOps; others = t.AdditiveOps ∷ t.ShiftOps ∷ t.RelationalOps ∷ t.EqualityOps ∷ t.BitAndOps ∷ []; marks = t.bit_xor_marks; own = record { first = refl; more = refl }; inner = refl; row = refl }

  bit_or_stands : Stands p.BitOr p.BitXor
  bit_or_stands = record { first = t.MultiplicativeOps; others = t.AdditiveOps ∷ t.ShiftOps ∷ t.RelationalOps ∷ t.EqualityOps ∷ t.BitAndOps ∷ t.BitXorOps ∷ []; marks = t.bit_or_marks; own = record { first = refl; more = refl }; inner = refl; row = refl }

  and_stands : Stands p.And p.BitOr
  and_stands = record { first = t.MultiplicativeOps; others = t.AdditiveOps ∷ t.ShiftOps ∷ t.RelationalOps ∷ t.EqualityOps ∷ t.BitAndOps ∷ t.BitXorOps ∷ t.BitOrOps ∷ []; marks = t.and_marks; own = record { first = refl; more = refl }; inner = refl; row = refl }

  or_stands : Stands p.Or p.And
  or_stands = record { first = t.MultiplicativeOps; others = t.AdditiveOps ∷ t.ShiftOps ∷ t.RelationalOps ∷ t.EqualityOps ∷ t.BitAndOps ∷ t.BitXorOps ∷ t.BitOrOps ∷ t.AndOps ∷ []; marks = t.or_marks; own = record { first = refl; more = refl }; inner = refl; row = refl }

  -- what the row of a level spells, the standard's line does
  pub is_line : (k : Precedence) {xs : List Part} {i j : ℕ} → Says (table (chain_level k)) xs i j → Says (line k) xs i j
  is_line p.Multiplicative (d_make ys (d_seq m us vs cast d e) made) = d_make ys (d_seq m us vs cast (to_tail own_multiplicative d) e) made
  is_line p.Additive d = to_line additive_stands d
  is_line p.Shift d = to_line shift_stands d
  is_line p.Relational d = to_line relational_stands d
  is_line p.Equality d = to_line equality_stands d
  is_line p.BitAnd d = to_line bit_and_stands d
  is_line p.BitXor d = to_line bit_xor_stands d
  is_line p.BitOr d = to_line bit_or_stands d
  is_line p.And d = to_line and_stands d
  is_line p.Or d = to_line or_stands d

  -- and the other way round
  pub of_line : (k : Precedence) {xs : List Part} {i j : ℕ} → Says (line k) xs i j → Says (table (chain_level k)) xs i j
  of_line p.Multiplicative (d_make ys (d_seq m us vs cast d e) made) = d_make ys (d_seq m us vs cast (from_tail own_multiplicative d) e) made
  of_line p.Additive d = from_line additive_stands d
  of_line p.Shift d = from_line shift_stands d
  of_line p.Relational d = from_line relational_stands d
  of_line p.Equality d = from_line equality_stands d
  of_line p.BitAnd d = from_line bit_and_stands d
  of_line p.BitXor d = from_line bit_xor_stands d
  of_line p.BitOr d = from_line bit_or_stands d
  of_line p.And d = from_line and_stands d
  of_line p.Or d = from_line or_stands d
