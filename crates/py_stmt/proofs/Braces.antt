-- What stands in braces: the table's rows, which go by one token in hand, spell the same tokens as the five lines of the reference.
use Rattle.std.proofs.Common.{◌≡◌, ℕ, suc, ◌≤◌, List, [], ◌∷◌, ◌++◌, refl, sym, ◌∙◌, subst, arith, inl, inr}
use Rattle.std.specs.Prelude.{◌<◌, Bool, true, false, None, ◌⊎◌}
use Rattle.node_tree.specs.declared.kind.Kind.TheVariants as k
use Rattle.grammar.specs.Rule.{done, ref, deep, around, opt, make, has, Source, Unlike, outside, Derives, ◌·◌, ◌∣◌, d_done, d_mark, d_ref, d_deep, d_seq, d_around, d_left, d_right, d_seen, d_unseen, d_without, d_with, d_make}
use Rattle.grammar.specs.Sets.{nul}
use Rattle.grammar.proofs.Facts.{apart_holds, less_or_same}
use Rattle.grammar.proofs.Bounded.{forward, still}
use Rattle.grammar.proofs.Checked.{is_grammar}
use Rattle.py_expr.specs.declared.word.Word.TheVariants as w
use Rattle.py_expr.specs.Words.{class}
use Rattle.py_expr.specs.Table.{Leaf, Builder, Over, Level, Row, tok, table, names, commas, grammar, Test, Or, And, Not, Cmp, Bor, Xor, Band, Shift, Sum, Term, Unary, Power, Await, Prim, Atom, Star, Named, Pair, AfterStar, AfterItem, AfterPair, AfterFirstPair, Comprehension, ForClause, FirstValue, FirstEntry, Braces}
use Rattle.py_expr.specs.reader.Sets.{sets, ranks}
use Rattle.py_expr.proofs.Passes.{pass}
use Rattle.py_stmt.specs.Braces.{key_value, lines, braces}
use Rattle.py_stmt.proofs.Seconds.{keeps, lacks}

abbrev walrus : List ℕ
walrus = class w.Walrus ∷ []

-- ---- a test that begins with a name has no `:=` behind it

-- the levels that begin a test's spelling
abbrev leads : Level → Bool
leads Test = true
leads Or = true
leads And = true
leads Not = true
leads Cmp = true
leads Bor = true
leads Xor = true
leads Band = true
leads Shift = true
leads Sum = true
leads Term = true
leads Unary = true
leads Power = true
leads Await = true
leads Prim = true
leads Atom = true
leads _ = false

leading : (l : Level) → leads l ≡ true → keeps sets names walrus leads None (table l) ≡ true
unfolding class
leading Test h = refl
leading Or h = refl
leading And h = refl
leading Not h = refl
leading Cmp h = refl
leading Bor h = refl
leading Xor h = refl
leading Band h = refl
leading Shift h = refl
leading Sum h = refl
leading Term h = refl
leading Unary h = refl
leading Power h = refl
leading Await h = refl
leading Prim h = refl
leading Atom h = refl
leading _ h = let k : false ≡ true = h in absurd cc

-- ---- what the table's rows spell

module _ {N : Type 0} (t : Source Leaf Builder N) where
  -- the tokens from i up to j are spelled by the row
  abbrev Spells : Row → ℕ → ℕ → Type 0
  Spells r i j = (xs : List N) × Derives t table outside r xs i j

  abbrev D : Row → List N → ℕ → ℕ → Type 0
  D r xs i j = Derives t table outside r xs i j

  joined : {r s : Row} {xs ys : List N} {i m j : ℕ} → D r xs i m → D s ys m j → D (r · s) (xs ++ ys) i j
  joined {xs = xs} {ys = ys} {m = m} d e = d_seq m xs ys d e refl

  -- the five lines

  nothing : {i j : ℕ} → i ≡ j → Spells lines i j
  nothing e = ([], d_left (d_done refl e))

  by_pairs : {xs ys : List N} {i m j : ℕ} → D (table Pair) xs i m → D (table AfterPair) ys m j → Spells lines i j
  by_pairs d e = (_, d_right (d_left (joined (d_ref d) (d_ref e))))

  by_dict : {xs ys : List N} {i m j : ℕ} → D key_value xs i m → D (table Comprehension) ys m j → Spells lines i j
  by_dict d e = (_, d_right (d_right (d_left (joined d (d_ref e)))))

  by_items : {xs ys : List N} {i m j : ℕ} → D (table Star) xs i m → D (table AfterStar) ys m j → Spells lines i j
  by_items d e = (_, d_right (d_right (d_right (d_left (joined (d_ref d) (d_ref e))))))

  by_set : {xs ys : List N} {i m j : ℕ} → D (table Named) xs i m → D (table Comprehension) ys m j → Spells lines i j
  by_set d e = (_, d_right (d_right (d_right (d_right (joined (d_ref d) (d_ref e))))))

  -- behind a first item

  after_item : {xs ys : List N} {i m j : ℕ} → D (table Named) xs i m → D (table AfterItem) ys m j → Spells lines i j
  after_item d (d_without n e) = by_items (d_right (d_ref d)) (d_without n e)
  after_item d (d_with (d_left (d_ref c))) = by_set d c
  after_item d (d_with (d_right f)) = by_items (d_right (d_ref d)) (d_with f)

  -- behind a first key and its value

  after_pair : {xs ys : List N} {i m j : ℕ} → D key_value xs i m → D (table AfterFirstPair) ys m j → Spells lines i j
  after_pair d (d_without n e) = by_pairs (d_right d) (d_without n e)
  after_pair d (d_with (d_left (d_ref c))) = by_dict d c
  after_pair d (d_with (d_right f)) = by_pairs (d_right d) (d_with f)

  -- a test without `:=` behind its name is a named one

  named : {xs : List N} {i m j : ℕ} → Unlike t.cls names walrus i j → m ≤ j → D (ref Test) xs i m → D (table Named) xs i m
  named u le d = d_unseen (λ h lt. u h (omega (arith, le, lt))) d

  -- behind a first test

  after_test : {xs ys : List N} {i m j : ℕ} → Unlike t.cls names walrus i j → m ≤ j → D (ref Test) xs i m → D (table FirstValue) ys m j → Spells lines i j
  after_test u le d (d_without n e) = by_items (d_right (d_ref (named u le d))) (d_without n e)
  after_test u le d (d_with (d_left (d_seq p ls rs (d_make zs (d_seq q us vs c v e) f) (d_ref a) g))) = after_pair (d_make _ (joined d (joined c v)) refl) a
  after_test u le d (d_with (d_right (d_left (d_ref c)))) = by_set (named u le d) c
  after_test u le d (d_with (d_right (d_right f))) = by_items (d_right (d_ref (named u le d))) (d_with f)

  -- a first entry is one of the lines but the first

  first_entry : {xs : List N} {i j : ℕ} → D (table FirstEntry) xs i j → Spells lines i j
  first_entry (d_left (d_make ys (d_seq m us vs d (d_ref e) s) p)) = by_pairs (d_left d) e
  first_entry (d_right (d_make ys (d_left (d_seq m us vs d (d_ref e) s)) p)) = by_items (d_left d) e
  first_entry (d_right (d_make ys (d_right (d_seen zs h g (d_seq m us vs (d_make cs d q) (d_ref e) s) o)) p)) = after_item (d_seen cs h g d refl) e
  first_entry (d_right (d_make ys (d_right (d_unseen u (d_seq m us vs d (d_ref e) s))) p)) = after_test u (ends e) d e
    where
      ends : {zs : List N} {a b : ℕ} → D (table FirstValue) zs a b → a ≤ b
      ends e = forward t table sets (is_grammar grammar sets ranks pass) e

  dots_apart : (c : ℕ) → has (class w.LeftBrace ∷ []) c ≡ true → has (class w.BraceDots ∷ []) c ≡ false
  unfolding class
  dots_apart = apart_holds (class w.BraceDots ∷ []) (class w.LeftBrace ∷ []) refl

  inside : {xs : List N} {i j : ℕ} → Derives t table outside (opt (deep FirstEntry)) xs i j → Spells lines i j
  inside (d_without n e) = nothing e
  inside (d_with (d_deep d)) = first_entry d

  -- What the table has in braces that begin with no dots is one of the reference's five lines in braces.
  are_lines : (xs : List N) (i j : ℕ) → has (class w.LeftBrace ∷ []) (t.cls i) ≡ true → Derives t table outside (table Braces) xs i j → Spells braces i j
  are_lines xs i j begins (d_make ys (d_left (d_around m h d g e)) p) = let l = inside d in (l.0, d_around m h l.1 g e)
  are_lines xs i j begins (d_make ys (d_right (d_around m h d g e)) p) = let k : true ≡ false = sym h ∙ dots_apart (t.cls i) begins in absurd cc

  -- ---- and the other way round

  no_walrus : {xs : List N} {i j : ℕ} → D (ref Test) xs i j → Unlike t.cls names walrus i j
  no_walrus (d_ref d) h lt = lacks t table sets (is_grammar grammar sets ranks pass) names walrus leads leading d None (record {}) (record {}) ((is_grammar grammar sets ranks pass).clear Test) (leading Test refl) h lt

  -- what may stand behind an item is no `:=`

  comma_apart : (c : ℕ) → has commas c ≡ true → has walrus c ≡ false
  unfolding class
  comma_apart = apart_holds walrus commas refl

  colon_apart : (c : ℕ) → has (class w.Colon ∷ []) c ≡ true → has walrus c ≡ false
  unfolding class
  colon_apart = apart_holds walrus (class w.Colon ∷ []) refl

  async_apart : (c : ℕ) → has (class w.Async ∷ []) c ≡ true → has walrus c ≡ false
  unfolding class
  async_apart = apart_holds walrus (class w.Async ∷ []) refl

  for_apart : (c : ℕ) → has (class w.For ∷ []) c ≡ true → has walrus c ≡ false
  unfolding class
  for_apart = apart_holds walrus (class w.For ∷ []) refl

  star_next : {ys : List N} {m j : ℕ} → D (table AfterStar) ys m j → m < j → has walrus (t.cls m) ≡ false
  star_next (d_without n e) lt = absurd (omega (arith, e, lt))
  star_next {m = m} (d_with (d_make zs (d_seq p us vs (d_mark h n e) r s) q)) lt = comma_apart (t.cls m) h

  colon_next : {ys : List N} {m j : ℕ} → D (tok w.Colon) ys m j → has walrus (t.cls m) ≡ false
  colon_next {m = m} (d_mark h n e) = colon_apart (t.cls m) h

  clause_next : {ys : List N} {m j : ℕ} → D (table ForClause) ys m j → has walrus (t.cls m) ≡ false
  clause_next {m = m} (d_left (d_make zs (d_seq p us vs (d_mark h n e) r s) q)) = async_apart (t.cls m) h
  clause_next {m = m} (d_right (d_make zs (d_seq p us vs (d_mark h n e) r s) q)) = for_apart (t.cls m) h

  clauses_next : {ys : List N} {m j : ℕ} → D (table Comprehension) ys m j → has walrus (t.cls m) ≡ false
  clauses_next (d_make zs (d_seq p us vs (d_ref f) r s) q) = clause_next f

  -- a test is not empty

  full : nul sets None (table Test) ≡ true → ⊥
  full h = let k : false ≡ true = h in absurd cc

  some_test : {xs : List N} {i j : ℕ} → D (ref Test) xs i j → i < j
  some_test {i = i} {j = j} (d_ref d) = elim (less_or_same i j (forward t table sets (is_grammar grammar sets ranks pass) d)) [
    | inl l ↦ l
    | inr e ↦ absurd (full (still t table sets (is_grammar grammar sets ranks pass) d None (record {}) ((is_grammar grammar sets ranks pass).clear Test) e))
  ]

  -- what holds of a test's second token holds of an item's

  unlike : {i m j : ℕ} → Unlike t.cls names walrus i m → i < m → (m < j → has walrus (t.cls m) ≡ false) → Unlike t.cls names walrus i j
  unlike {i = i} {m = m} {j = j} u some next h lt = elim (less_or_same (suc i) m some) [
    | inl l ↦ u h l
    | inr e ↦ subst (λ (n : ℕ). has walrus (t.cls n) ≡ false) (sym e) (next (omega (arith, e, lt)))
  ]

  -- the parts of the lines as those of a first entry

  item_after : {ys : List N} {m j : ℕ} → D (table AfterStar) ys m j → D (table AfterItem) ys m j
  item_after (d_without n e) = d_without n e
  item_after (d_with f) = d_with (d_right f)

  pair_after : {ys : List N} {m j : ℕ} → D (table AfterPair) ys m j → D (table AfterFirstPair) ys m j
  pair_after (d_without n e) = d_without n e
  pair_after (d_with f) = d_with (d_right f)

  value_of : {ys : List N} {m j : ℕ} → D (table AfterItem) ys m j → D (table FirstValue) ys m j
  value_of (d_without n e) = d_without n e
  value_of (d_with (d_left c)) = d_with (d_right (d_left c))
  value_of (d_with (d_right f)) = d_with (d_right (d_right f))

  of_named : {xs ys : List N} {i m j : ℕ} → D (table Named) xs i m → D (table AfterItem) ys m j → (m < j → has walrus (t.cls m) ≡ false) → Spells (table FirstEntry) i j
  of_named (d_seen cs h g d q) a next = (_, d_right (d_make _ (d_right (d_seen _ h g (joined (d_make _ d refl) (d_ref a)) refl)) refl))
  of_named (d_unseen u d) a next = (_, d_right (d_make _ (d_right (d_unseen (unlike u (some_test d) next) (joined d (d_ref (value_of a))))) refl))

  of_items : {xs ys : List N} {i m j : ℕ} → D (table Star) xs i m → D (table AfterStar) ys m j → Spells (table FirstEntry) i j
  of_items (d_left d) a = (_, d_right (d_make _ (d_left (joined d (d_ref a))) refl))
  of_items (d_right (d_ref d)) a = of_named d (item_after a) (star_next a)

  of_key : {xs ys : List N} {i m j : ℕ} → D key_value xs i m → D (table AfterFirstPair) ys m j → Spells (table FirstEntry) i j
  of_key (d_make zs (d_seq p us vs d (d_seq q ls rs c v e) f) g) a =
      (_, d_right (d_make _ (d_right (d_unseen (unlike (no_walrus d) (some_test d) (λ lt. colon_next c)) (joined d (d_ref (d_with (d_left (joined (d_make _ (joined c v) refl) (d_ref a)))))))) refl))

  entered : {i j : ℕ} → Spells (table FirstEntry) i j → Spells (opt (deep FirstEntry)) i j
  entered d = (d.0, d_with (d_deep d.1))

  of_lines : {xs : List N} {i j : ℕ} → D lines xs i j → Spells (opt (deep FirstEntry)) i j
  of_lines (d_left (d_done n e)) = ([], d_without refl e)
  of_lines (d_right (d_left (d_seq m us vs (d_ref (d_left d)) (d_ref a) s))) = entered (_, d_left (d_make _ (joined d (d_ref a)) refl))
  of_lines (d_right (d_left (d_seq m us vs (d_ref (d_right d)) (d_ref a) s))) = entered (of_key d (pair_after a))
  of_lines (d_right (d_right (d_left (d_seq m us vs d c s)))) = entered (of_key d (d_with (d_left c)))
  of_lines (d_right (d_right (d_right (d_left (d_seq m us vs (d_ref d) (d_ref a) s))))) = entered (of_items d a)
  of_lines (d_right (d_right (d_right (d_right (d_seq m us vs (d_ref d) (d_ref c) s))))) = entered (of_named d (d_with (d_left (d_ref c))) (λ lt. clauses_next c))

  -- Each of the reference's five lines in braces is what the table has there.
  are_braces : (xs : List N) (i j : ℕ) → Derives t table outside braces xs i j → Spells (table Braces) i j
  are_braces xs i j (d_around m h d g e) = let l = of_lines d in (_, d_make l.0 (d_left (d_around m h l.1 g e)) refl)

  -- Such a line in braces begins with the brace.
  pub begins : (xs : List N) (i j : ℕ) → Derives t table outside braces xs i j → has (class w.LeftBrace ∷ []) (t.cls i) ≡ true
  begins xs i j (d_around m h d g e) = h

  -- The same of the level itself.
  pub of_level : (xs : List N) (i j : ℕ) → has (class w.LeftBrace ∷ []) (t.cls i) ≡ true → D (ref Braces) xs i j → Spells braces i j
  of_level xs i j h (d_ref d) = are_lines xs i j h d

  pub to_level : (xs : List N) (i j : ℕ) → Derives t table outside braces xs i j → Spells (ref Braces) i j
  to_level xs i j d = let s = are_braces xs i j d in (s.0, d_ref s.1)
