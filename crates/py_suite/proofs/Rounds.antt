-- Loops of the reader, round by round.
use Rattle.std.proofs.Common.{◌≡◌, ℕ, zero, suc, ◌+◌, ◌-◌, ◌<◌, List, [], ◌∷◌, ◌++◌, length, refl, ap, sym, ◌∙◌, arith, append_assoc, eqb, true, false, Bool, Option, Some, None, cond}
use Rattle.std.proofs.lemmas.List.{append-nil}
use Rattle.node_tree.specs.declared.node.Node.{Node}
use Rattle.grammar.specs.Rule.{ref, word, rep, has}
use Rattle.grammar.specs.Reader.{read, choice, turns, ◌>>=◌}
use Rattle.grammar.proofs.Rounds.{turn, turned}
use Rattle.py_expr.specs.declared.item.Item.{Item}
use Rattle.py_expr.specs.declared.word.Word.TheVariants as w
use Rattle.py_expr.specs.Words.{class}
use Rattle.py_expr.specs.Parts.{Part, whole, wholes, sign}
use Rattle.py_expr.specs.Build.{token_at}
use Rattle.py_expr.specs.Table.{Operator, commas}
use Rattle.py_suite.specs.declared.series.Series.{Series}
use Rattle.py_suite.specs.declared.series.Series.TheVariants as series_of
use Rattle.py_suite.specs.Table as rows
use Rattle.py_suite.specs.Table.{Level, Row, Simple, Alias, Stmt, Handler, LineTail, MoreAliasesTail, StmtsTail, HandlersTail, DottedTail, DotsTail, looped, points}
use Rattle.py_suite.specs.Build.{source, pointed, written}
use Rattle.py_suite.specs.reader.Sets.{sets}
use Rattle.py_suite.specs.reader.Reading.{level, row, row_of, tail_of, goes_on, along, pointed_behind, behind, are_signs, further, further_parts, further_points, more_simples, more_aliases, more_statements, more_handlers}

-- what a loop reads that may go round so often
unfoldable pub rest : List Item → ℕ → Level → Row → ℕ → ℕ → Option (List Part × ℕ)
rest ts room q r n = turns (λ i. None) (λ X. read (source ts) sets (suc (length ts)) (choice (level ts room) (level ts (room - 1))) X (Some q) r) n

pub rest_row : (ts : List Item) (room : ℕ) (q : Level) (r : Row) (i : ℕ) → row ts room (rep q r) i ≡ rest ts room q r (suc (length ts)) i
unfolding rest
rest_row ts room q r i = refl

rest_again : (ts : List Item) (room : ℕ) (q : Level) (r : Row) (n i : ℕ) → zero < n → rest ts room q r n i ≡ read (source ts) sets (suc (length ts)) (choice (level ts room) (level ts (room - 1))) (rest ts room q r (n - 1)) (Some q) r i
unfolding rest
rest_again ts room q r n i h = ap (λ f. f i) (turn (λ i. None) (λ X. read (source ts) sets (suc (length ts)) (choice (level ts room) (level ts (room - 1))) X (Some q) r) n h)

pub rest_none : (ts : List Item) (room : ℕ) (q : Level) (r : Row) (n i : ℕ) → n ≡ zero → rest ts room q r n i ≡ None
unfolding rest
rest_none ts room q r n i h = ap (λ f. f i) (turned (λ i. None) (λ X. read (source ts) sets (suc (length ts)) (choice (level ts room) (level ts (room - 1))) X (Some q) r) n h)

-- ---- what is read behind some nodes

wholes_both : (ns ms : List Node) (ps : List Part) → wholes ns ++ (wholes ms ++ ps) ≡ wholes (ns ++ ms) ++ ps
wholes_both [] ms ps = refl
wholes_both (n ∷ ns) ms ps = ap (λ (qs : List Part). whole n ∷ qs) (wholes_both ns ms ps)

pushed : (o : Option (List Part × ℕ)) (ks ms : List Node) → along ks (◌>>=◌ {B = List Part × ℕ} o (λ v. Some (wholes ms ++ v.0, v.1))) ≡ along (ks ++ ms) o
pushed None ks ms = refl
pushed (Some v) ks ms = ap (λ (ps : List Part). Some (ps, v.1)) (wholes_both ks ms v.0)

along_more : (o before after : Option (List Part × ℕ)) (ks ms ls : List Node) → o ≡ along ks before → before ≡ ◌>>=◌ {B = List Part × ℕ} after (λ v. Some (wholes ms ++ v.0, v.1)) → ls ≡ ks ++ ms → o ≡ along ls after
along_more o before after ks ms ls first round more = first ∙ (ap (along ks) round ∙ (pushed after ks ms ∙ ap (λ (ns : List Node). along ns after) (sym more)))

along_none : (ks : List Node) (j : ℕ) → along ks (Some ([], j)) ≡ Some (wholes ks, j)
along_none ks j = ap (λ (ps : List Part). Some (ps, j)) (append-nil (wholes ks))

-- a round that one token begins, or two
once : (c : Bool) (I Y : Option (List Part × ℕ)) (R : ℕ → Option (List Part × ℕ)) (ms : List Node) (j : ℕ) → c ≡ true → I ≡ Some (wholes ms, j) → cond {A = Option (List Part × ℕ)} c (◌>>=◌ {B = List Part × ℕ} I (λ u. ◌>>=◌ {B = List Part × ℕ} (R u.1) (λ v. Some (u.0 ++ v.0, v.1)))) Y ≡ ◌>>=◌ {B = List Part × ℕ} (R j) (λ v. Some (wholes ms ++ v.0, v.1))
once c I Y R ms j starts item = rw (starts, item) refl

never : (c : Bool) (X Y : Option (List Part × ℕ)) → c ≡ false → cond {A = Option (List Part × ℕ)} c X Y ≡ Y
never c X Y h = rw h refl

none_there : (c : Bool) (I Y : Option (List Part × ℕ)) (R : ℕ → Option (List Part × ℕ)) → c ≡ true → I ≡ None → cond {A = Option (List Part × ℕ)} c (◌>>=◌ {B = List Part × ℕ} I (λ u. ◌>>=◌ {B = List Part × ℕ} (R u.1) (λ v. Some (u.0 ++ v.0, v.1)))) Y ≡ None
none_there c I Y R starts item = rw (starts, item) refl

-- ---- items in a row

series_turn : (ts : List Item) (room : ℕ) (s : Series) (n i : ℕ) → zero < n → rest ts room (tail_of s) (looped (row_of s)) n i ≡ cond {A = Option (List Part × ℕ)} (goes_on ts s i) (◌>>=◌ {B = List Part × ℕ} (row ts room (row_of s) i) (λ u. ◌>>=◌ {B = List Part × ℕ} (rest ts room (tail_of s) (looped (row_of s)) (n - 1) u.1) (λ v. Some (u.0 ++ v.0, v.1)))) (Some ([], i))
series_turn ts room series_of.Values n i h = rest_again ts room (tail_of series_of.Values) (looped (row_of series_of.Values)) n i h
series_turn ts room series_of.Names n i h = rest_again ts room (tail_of series_of.Names) (looped (row_of series_of.Names)) n i h
series_turn ts room series_of.Aliases n i h = rest_again ts room (tail_of series_of.Aliases) (looped (row_of series_of.Aliases)) n i h
series_turn ts room series_of.Items n i h = rest_again ts room (tail_of series_of.Items) (looped (row_of series_of.Items)) n i h
series_turn ts room series_of.Decorators n i h = rest_again ts room (tail_of series_of.Decorators) (looped (row_of series_of.Decorators)) n i h

pub series_more : (ts : List Item) (room : ℕ) (s : Series) (n m i j : ℕ) (o : Option (List Part × ℕ)) (ks ls : List Node) (x : Node) → o ≡ along ks (rest ts room (tail_of s) (looped (row_of s)) n i) → m ≡ n - 1 → zero < n → goes_on ts s i ≡ true → row ts room (row_of s) i ≡ Some (whole x ∷ [], j) → ls ≡ ks ++ x ∷ [] → o ≡ along ls (rest ts room (tail_of s) (looped (row_of s)) m j)
series_more ts room s n m i j o ks ls x first less some goes item more =
    rw less (along_more o (rest ts room (tail_of s) (looped (row_of s)) n i) (rest ts room (tail_of s) (looped (row_of s)) (n - 1) j) ks (x ∷ []) ls first (series_turn ts room s n i some ∙ once (goes_on ts s i) (row ts room (row_of s) i) (Some ([], i)) (rest ts room (tail_of s) (looped (row_of s)) (n - 1)) (x ∷ []) j goes item) more)

pub series_end : (ts : List Item) (room : ℕ) (s : Series) (n i : ℕ) (o : Option (List Part × ℕ)) (ks : List Node) → o ≡ along ks (rest ts room (tail_of s) (looped (row_of s)) n i) → zero < n → goes_on ts s i ≡ false → o ≡ Some (wholes ks, i)
series_end ts room s n i o ks first some stops = first ∙ (ap (along ks) (series_turn ts room s n i some ∙ never (goes_on ts s i) (◌>>=◌ {B = List Part × ℕ} (row ts room (row_of s) i) (λ u. ◌>>=◌ {B = List Part × ℕ} (rest ts room (tail_of s) (looped (row_of s)) (n - 1) u.1) (λ v. Some (u.0 ++ v.0, v.1)))) (Some ([], i)) stops) ∙ along_none ks i)

pub series_lost : (ts : List Item) (room : ℕ) (s : Series) (n i : ℕ) (o : Option (List Part × ℕ)) (ks : List Node) → o ≡ along ks (rest ts room (tail_of s) (looped (row_of s)) n i) → zero < n → goes_on ts s i ≡ true → row ts room (row_of s) i ≡ None → o ≡ None
series_lost ts room s n i o ks first some goes item = first ∙ ap (along ks) (series_turn ts room s n i some ∙ none_there (goes_on ts s i) (row ts room (row_of s) i) (Some ([], i)) (rest ts room (tail_of s) (looped (row_of s)) (n - 1)) goes item)

-- ---- a level one after another

-- the levels that stand so
pub data Chained : Level → Level → Type 0 where
  statements : Chained Stmt StmtsTail
  handlers : Chained Handler HandlersTail

chained_turn : (ts : List Item) (room : ℕ) (l q : Level) (n i : ℕ) → Chained l q → zero < n → rest ts room q (looped (ref l)) n i ≡ cond {A = Option (List Part × ℕ)} (has (sets.first l) (class (token_at ts i).word)) (◌>>=◌ {B = List Part × ℕ} (level ts room l i) (λ u. ◌>>=◌ {B = List Part × ℕ} (rest ts room q (looped (ref l)) (n - 1) u.1) (λ v. Some (u.0 ++ v.0, v.1)))) (Some ([], i))
chained_turn ts room l q n i statements h = rest_again ts room StmtsTail (looped (ref Stmt)) n i h
chained_turn ts room l q n i handlers h = rest_again ts room HandlersTail (looped (ref Handler)) n i h

pub chained_more : (ts : List Item) (room : ℕ) (l q : Level) (n m i j : ℕ) (o : Option (List Part × ℕ)) (ks ms ls : List Node) → Chained l q → o ≡ along ks (rest ts room q (looped (ref l)) n i) → m ≡ n - 1 → zero < n → has (sets.first l) (class (token_at ts i).word) ≡ true → level ts room l i ≡ Some (wholes ms, j) → ls ≡ ks ++ ms → o ≡ along ls (rest ts room q (looped (ref l)) m j)
chained_more ts room l q n m i j o ks ms ls c first less some goes item more =
    rw less (along_more o (rest ts room q (looped (ref l)) n i) (rest ts room q (looped (ref l)) (n - 1) j) ks ms ls first (chained_turn ts room l q n i c some ∙ once (has (sets.first l) (class (token_at ts i).word)) (level ts room l i) (Some ([], i)) (rest ts room q (looped (ref l)) (n - 1)) ms j goes item) more)

pub chained_end : (ts : List Item) (room : ℕ) (l q : Level) (n i : ℕ) (o : Option (List Part × ℕ)) (ks : List Node) → Chained l q → o ≡ along ks (rest ts room q (looped (ref l)) n i) → zero < n → has (sets.first l) (class (token_at ts i).word) ≡ false → o ≡ Some (wholes ks, i)
chained_end ts room l q n i o ks c first some stops = first ∙ (ap (along ks) (chained_turn ts room l q n i c some ∙ never (has (sets.first l) (class (token_at ts i).word)) (◌>>=◌ {B = List Part × ℕ} (level ts room l i) (λ u. ◌>>=◌ {B = List Part × ℕ} (rest ts room q (looped (ref l)) (n - 1) u.1) (λ v. Some (u.0 ++ v.0, v.1)))) (Some ([], i)) stops) ∙ along_none ks i)

pub chained_lost : (ts : List Item) (room : ℕ) (l q : Level) (n i : ℕ) (o : Option (List Part × ℕ)) (ks : List Node) → Chained l q → o ≡ along ks (rest ts room q (looped (ref l)) n i) → zero < n → has (sets.first l) (class (token_at ts i).word) ≡ true → level ts room l i ≡ None → o ≡ None
chained_lost ts room l q n i o ks c first some goes item = first ∙ ap (along ks) (chained_turn ts room l q n i c some ∙ none_there (has (sets.first l) (class (token_at ts i).word)) (level ts room l i) (Some ([], i)) (rest ts room q (looped (ref l)) (n - 1)) goes item)

-- ---- the same with a mark between, which may also be the last

parted_round : (c : Bool) (d : ℕ → Bool) (V A : ℕ → Option (List Part × ℕ)) (i : ℕ) → cond {A = Option (List Part × ℕ)} c (◌>>=◌ {B = List Part × ℕ} (cond {A = Option (List Part × ℕ)} c (Some ([], suc i)) None) (λ x. ◌>>=◌ {B = List Part × ℕ} (cond {A = Option (List Part × ℕ)} (d x.1) (◌>>=◌ {B = List Part × ℕ} (V x.1) (λ u. ◌>>=◌ {B = List Part × ℕ} (A u.1) (λ v. Some (u.0 ++ v.0, v.1)))) (Some ([], x.1))) (λ y. Some (x.0 ++ y.0, y.1)))) (Some ([], i))
    ≡ cond {A = Option (List Part × ℕ)} c (cond {A = Option (List Part × ℕ)} (d (suc i)) (◌>>=◌ {B = List Part × ℕ} (V (suc i)) (λ u. ◌>>=◌ {B = List Part × ℕ} (A u.1) (λ v. Some (u.0 ++ v.0, v.1)))) (Some ([], suc i))) (Some ([], i))
parted_round false d V A i = refl
parted_round true d V A i = same (cond {A = Option (List Part × ℕ)} (d (suc i)) (◌>>=◌ {B = List Part × ℕ} (V (suc i)) (λ u. ◌>>=◌ {B = List Part × ℕ} (A u.1) (λ v. Some (u.0 ++ v.0, v.1)))) (Some ([], suc i)))
  where
    same : (o : Option (List Part × ℕ)) → ◌>>=◌ {B = List Part × ℕ} o (λ y. Some ([] ++ y.0, y.1)) ≡ o
    same None = refl
    same (Some y) = refl

-- the marks that part a level
pub data PartedBy : List ℕ → Level → Level → Type 0 where
  line : PartedBy (class w.Semicolon ∷ []) Simple LineTail
  aliases : PartedBy commas Alias MoreAliasesTail

parted_turn : (ts : List Item) (room : ℕ) (cs : List ℕ) (l q : Level) (n i : ℕ) → PartedBy cs l q → zero < n → rest ts room q (rows.parted cs l) n i ≡ cond {A = Option (List Part × ℕ)} (has cs (class (token_at ts i).word)) (cond {A = Option (List Part × ℕ)} (has (sets.first l) (class (token_at ts (suc i)).word)) (◌>>=◌ {B = List Part × ℕ} (level ts room l (suc i)) (λ u. ◌>>=◌ {B = List Part × ℕ} (rest ts room q (rows.parted cs l) (n - 1) u.1) (λ v. Some (u.0 ++ v.0, v.1)))) (Some ([], suc i))) (Some ([], i))
parted_turn ts room cs l q n i line h = rest_again ts room LineTail (rows.parted (class w.Semicolon ∷ []) Simple) n i h ∙ parted_round (has (class w.Semicolon ∷ []) (class (token_at ts i).word)) (λ k. has (sets.first Simple) (class (token_at ts k).word)) (level ts room Simple) (rest ts room LineTail (rows.parted (class w.Semicolon ∷ []) Simple) (n - 1)) i
parted_turn ts room cs l q n i aliases h = rest_again ts room MoreAliasesTail (rows.parted commas Alias) n i h ∙ parted_round (has commas (class (token_at ts i).word)) (λ k. has (sets.first Alias) (class (token_at ts k).word)) (level ts room Alias) (rest ts room MoreAliasesTail (rows.parted commas Alias) (n - 1)) i

module _ (ts : List Item) (room : ℕ) (cs : List ℕ) (l q : Level) (n : ℕ) (by : PartedBy cs l q) (some : zero < n) (o : Option (List Part × ℕ)) (ks : List Node) where
  -- a mark and another item
  pub parted_more : (m i j : ℕ) (ls : List Node) (x : Node) → o ≡ along ks (rest ts room q (rows.parted cs l) n i) → m ≡ n - 1 → has cs (class (token_at ts i).word) ≡ true → has (sets.first l) (class (token_at ts (i + 1)).word) ≡ true → level ts room l (i + 1) ≡ Some (whole x ∷ [], j) → ls ≡ ks ++ x ∷ [] → o ≡ along ls (rest ts room q (rows.parted cs l) m j)
  parted_more m i j ls x first less mark starts item more =
      let next : i + 1 ≡ suc i = omega arith in
      let R : ℕ → Option (List Part × ℕ) = rest ts room q (rows.parted cs l) (n - 1) in
      let Y : Option (List Part × ℕ) = cond {A = Option (List Part × ℕ)} (has (sets.first l) (class (token_at ts (suc i)).word)) (◌>>=◌ {B = List Part × ℕ} (level ts room l (suc i)) (λ u. ◌>>=◌ {B = List Part × ℕ} (R u.1) (λ v. Some (u.0 ++ v.0, v.1)))) (Some ([], suc i)) in
      rw less (along_more o (rest ts room q (rows.parted cs l) n i) (R j) ks (x ∷ []) ls first
      (parted_turn ts room cs l q n i by some ∙ (taken (has cs (class (token_at ts i).word)) Y (Some ([], i)) mark ∙ once (has (sets.first l) (class (token_at ts (suc i)).word)) (level ts room l (suc i)) (Some ([], suc i)) R (x ∷ []) j (rw next at starts) (rw next at item))) more)
    where
      taken : (c : Bool) (X Z : Option (List Part × ℕ)) → c ≡ true → cond {A = Option (List Part × ℕ)} c X Z ≡ X
      taken c X Z h = rw h refl

  -- what a turn reads behind the mark
  abbrev behind_mark : ℕ → Option (List Part × ℕ)
  behind_mark i = cond {A = Option (List Part × ℕ)} (has (sets.first l) (class (token_at ts (suc i)).word)) (◌>>=◌ {B = List Part × ℕ} (level ts room l (suc i)) (λ u. ◌>>=◌ {B = List Part × ℕ} (rest ts room q (rows.parted cs l) (n - 1) u.1) (λ v. Some (u.0 ++ v.0, v.1)))) (Some ([], suc i))

  -- no further mark, or nothing behind the last
  pub parted_end : (i : ℕ) → o ≡ along ks (rest ts room q (rows.parted cs l) n i) → has cs (class (token_at ts i).word) ≡ false → o ≡ Some (wholes ks, i)
  parted_end i first stops = first ∙ (ap (along ks) (parted_turn ts room cs l q n i by some ∙ never (has cs (class (token_at ts i).word)) (behind_mark i) (Some ([], i)) stops) ∙ along_none ks i)

  pub parted_last : (i : ℕ) → o ≡ along ks (rest ts room q (rows.parted cs l) n i) → has cs (class (token_at ts i).word) ≡ true → has (sets.first l) (class (token_at ts (i + 1)).word) ≡ false → o ≡ Some (wholes ks, i + 1)
  parted_last i first mark stops =
      let next : i + 1 ≡ suc i = omega arith in
      rw next (first ∙ (ap (along ks) (parted_turn ts room cs l q n i by some ∙ (taken_mark (has cs (class (token_at ts i).word)) (behind_mark i) (Some ([], i)) mark ∙ never (has (sets.first l) (class (token_at ts (suc i)).word)) (◌>>=◌ {B = List Part × ℕ} (level ts room l (suc i)) (λ u. ◌>>=◌ {B = List Part × ℕ} (rest ts room q (rows.parted cs l) (n - 1) u.1) (λ v. Some (u.0 ++ v.0, v.1)))) (Some ([], suc i)) (rw next at stops))) ∙ along_none ks (suc i)))
    where
      taken_mark : (c : Bool) (X Z : Option (List Part × ℕ)) → c ≡ true → cond {A = Option (List Part × ℕ)} c X Z ≡ X
      taken_mark c X Z h = rw h refl

  pub parted_lost : (i : ℕ) → o ≡ along ks (rest ts room q (rows.parted cs l) n i) → has cs (class (token_at ts i).word) ≡ true → has (sets.first l) (class (token_at ts (i + 1)).word) ≡ true → level ts room l (i + 1) ≡ None → o ≡ None
  parted_lost i first mark starts item =
      let next : i + 1 ≡ suc i = omega arith in
      first ∙ ap (along ks) (parted_turn ts room cs l q n i by some ∙ (taken_there (has cs (class (token_at ts i).word)) (behind_mark i) (Some ([], i)) mark ∙ none_there (has (sets.first l) (class (token_at ts (suc i)).word)) (level ts room l (suc i)) (Some ([], suc i)) (rest ts room q (rows.parted cs l) (n - 1)) (rw next at starts) (rw next at item)))
    where
      taken_there : (c : Bool) (X Z : Option (List Part × ℕ)) → c ≡ true → cond {A = Option (List Part × ℕ)} c X Z ≡ X
      taken_there c X Z h = rw h refl

-- ---- no turn is left

pub along_turned : (ts : List Item) (room : ℕ) (q : Level) (r : Row) (n i : ℕ) (o : Option (List Part × ℕ)) (ks : List Node) → o ≡ along ks (rest ts room q r n i) → n ≡ zero → o ≡ None
along_turned ts room q r n i o ks first none = first ∙ ap (along ks) (rest_none ts room q r n i none)

-- ---- how loops begin

pub further_rest : (ts : List Item) (room : ℕ) (s : Series) (i n : ℕ) → n ≡ suc (length ts) → further ts room s i ≡ rest ts room (tail_of s) (looped (row_of s)) n i
unfolding rest further
further_rest ts room s i n h = rw h refl

pub simples_rest : (ts : List Item) (room i n : ℕ) → n ≡ suc (length ts) → more_simples ts room i ≡ rest ts room LineTail (rows.parted (class w.Semicolon ∷ []) Simple) n i
unfolding rest more_simples
simples_rest ts room i n h = rw h refl

pub aliases_rest : (ts : List Item) (room i n : ℕ) → n ≡ suc (length ts) → more_aliases ts room i ≡ rest ts room MoreAliasesTail (rows.parted commas Alias) n i
unfolding rest more_aliases
aliases_rest ts room i n h = rw h refl

pub statements_rest : (ts : List Item) (room i n : ℕ) → n ≡ suc (length ts) → more_statements ts room i ≡ rest ts room StmtsTail (looped (ref Stmt)) n i
unfolding rest more_statements
statements_rest ts room i n h = rw h refl

pub handlers_rest : (ts : List Item) (room i n : ℕ) → n ≡ suc (length ts) → more_handlers ts room i ≡ rest ts room HandlersTail (looped (ref Handler)) n i
unfolding rest more_handlers
handlers_rest ts room i n h = rw h refl

pub parts_rest : (ts : List Item) (room i n : ℕ) → n ≡ suc (length ts) → further_parts ts room i ≡ rest ts room DottedTail (looped rows.further_part) n i
unfolding rest further_parts
parts_rest ts room i n h = rw h refl

pub points_rest : (ts : List Item) (room i n : ℕ) → n ≡ suc (length ts) → further_points ts room i ≡ rest ts room DotsTail (looped (word Operator points)) n i
unfolding rest further_points
points_rest ts room i n h = rw h refl

-- ---- parts of a dotted name, and points, as text

once_sign : (c : Bool) (I Y : Option (List Part × ℕ)) (R : ℕ → Option (List Part × ℕ)) (s : List ℕ) (j : ℕ) → c ≡ true → I ≡ Some (sign s ∷ [], j) → cond {A = Option (List Part × ℕ)} c (◌>>=◌ {B = List Part × ℕ} I (λ u. ◌>>=◌ {B = List Part × ℕ} (R u.1) (λ v. Some (u.0 ++ v.0, v.1)))) Y ≡ ◌>>=◌ {B = List Part × ℕ} (R j) (λ v. Some (sign s ∷ v.0, v.1))
once_sign c I Y R s j starts item = rw (starts, item) refl

-- a loop over parts that are one token each
signs_turn : (ts : List Item) (room : ℕ) (n i : ℕ) → zero < n → rest ts room DottedTail (looped rows.further_part) n i ≡ cond {A = Option (List Part × ℕ)} (has (class w.Dot ∷ []) (class (token_at ts i).word)) (◌>>=◌ {B = List Part × ℕ} (row ts room rows.further_part i) (λ u. ◌>>=◌ {B = List Part × ℕ} (rest ts room DottedTail (looped rows.further_part) (n - 1) u.1) (λ v. Some (u.0 ++ v.0, v.1)))) (Some ([], i))
signs_turn ts room n i h = rest_again ts room DottedTail (looped rows.further_part) n i h

dots_turn : (ts : List Item) (room : ℕ) (n i : ℕ) → zero < n → rest ts room DotsTail (looped (word Operator points)) n i ≡ cond {A = Option (List Part × ℕ)} (has points (class (token_at ts i).word)) (◌>>=◌ {B = List Part × ℕ} (row ts room (word Operator points) i) (λ u. ◌>>=◌ {B = List Part × ℕ} (rest ts room DotsTail (looped (word Operator points)) (n - 1) u.1) (λ v. Some (u.0 ++ v.0, v.1)))) (Some ([], i))
dots_turn ts room n i h = rest_again ts room DotsTail (looped (word Operator points)) n i h

part_read : (ts : List Item) (room i : ℕ) → eqb (class w.Dot) (class (token_at ts i).word) ≡ true → eqb (class w.Name) (class (token_at ts (suc i)).word) ≡ true → row ts room rows.further_part i ≡ Some (sign (token_at ts (suc i)).text ∷ [], suc (suc i))
part_read ts room i dot name = rw (dot, name) refl

part_lacks : (ts : List Item) (room i : ℕ) → eqb (class w.Dot) (class (token_at ts i).word) ≡ true → eqb (class w.Name) (class (token_at ts (suc i)).word) ≡ false → row ts room rows.further_part i ≡ None
part_lacks ts room i dot name = rw (dot, name) refl

point_read : (ts : List Item) (room i : ℕ) → has points (class (token_at ts i).word) ≡ true → row ts room (word Operator points) i ≡ Some (sign (token_at ts i).text ∷ [], suc i)
point_read ts room i point = rw point refl

pub has_one : (c d : ℕ) (b : Bool) → eqb c d ≡ b → has (c ∷ []) d ≡ b
has_one c d true h = rw h refl
has_one c d false h = rw h refl

pushed_part : (o : Option (List Part × ℕ)) (t s : List ℕ) → pointed_behind t (◌>>=◌ {B = List Part × ℕ} o (λ v. Some (sign s ∷ v.0, v.1))) ≡ pointed_behind (t ++ (46 ∷ s)) o
pushed_part None t s = refl
pushed_part (Some v) t s = ap (λ (xs : List ℕ). Some (xs, are_signs v.0, v.1)) (sym (append_assoc t (46 ∷ s) (pointed v.0)))

pushed_point : (o : Option (List Part × ℕ)) (t s : List ℕ) → behind t (◌>>=◌ {B = List Part × ℕ} o (λ v. Some (sign s ∷ v.0, v.1))) ≡ behind (t ++ s) o
pushed_point None t s = refl
pushed_point (Some v) t s = ap (λ (xs : List ℕ). Some (xs, are_signs v.0, v.1)) (sym (append_assoc t s (written v.0)))

module _ (ts : List Item) (room n i : ℕ) (o : Option (List ℕ × Bool × ℕ)) (t : List ℕ) (some : zero < n) where
  pub pointed_more : (m j : ℕ) (longer : List ℕ) → o ≡ pointed_behind t (rest ts room DottedTail (looped rows.further_part) n i) → m ≡ n - 1 → j ≡ i + 2 → eqb (class w.Dot) (class (token_at ts i).word) ≡ true → eqb (class w.Name) (class (token_at ts (i + 1)).word) ≡ true → longer ≡ t ++ (46 ∷ (token_at ts (i + 1)).text) → o ≡ pointed_behind longer (rest ts room DottedTail (looped rows.further_part) m j)
  pointed_more m j longer first less on dot name more =
      let next : i + 1 ≡ suc i = omega arith in
      let two : j ≡ suc (suc i) = omega arith in
      rw (less, two, more, next) (first ∙ (ap (pointed_behind t) (signs_turn ts room n i some ∙ once_sign (has (class w.Dot ∷ []) (class (token_at ts i).word)) (row ts room rows.further_part i) (Some ([], i)) (rest ts room DottedTail (looped rows.further_part) (n - 1)) (token_at ts (suc i)).text (suc (suc i)) (has_one (class w.Dot) (class (token_at ts i).word) true dot) (part_read ts room i dot (rw next at name)))
      ∙ pushed_part (rest ts room DottedTail (looped rows.further_part) (n - 1) (suc (suc i))) t (token_at ts (suc i)).text))

  pub pointed_end : o ≡ pointed_behind t (rest ts room DottedTail (looped rows.further_part) n i) → eqb (class w.Dot) (class (token_at ts i).word) ≡ false → o ≡ Some (t, true, i)
  pointed_end first dot = first ∙ (ap (pointed_behind t) (signs_turn ts room n i some ∙ never (has (class w.Dot ∷ []) (class (token_at ts i).word)) (◌>>=◌ {B = List Part × ℕ} (row ts room rows.further_part i) (λ u. ◌>>=◌ {B = List Part × ℕ} (rest ts room DottedTail (looped rows.further_part) (n - 1) u.1) (λ v. Some (u.0 ++ v.0, v.1)))) (Some ([], i)) (has_one (class w.Dot) (class (token_at ts i).word) false dot)) ∙ ap (λ (xs : List ℕ). Some (xs, true, i)) (append-nil t))

  pub pointed_lacks : o ≡ pointed_behind t (rest ts room DottedTail (looped rows.further_part) n i) → eqb (class w.Dot) (class (token_at ts i).word) ≡ true → eqb (class w.Name) (class (token_at ts (i + 1)).word) ≡ false → o ≡ None
  pointed_lacks first dot name =
      let next : i + 1 ≡ suc i = omega arith in
      first ∙ ap (pointed_behind t) (signs_turn ts room n i some ∙ none_there (has (class w.Dot ∷ []) (class (token_at ts i).word)) (row ts room rows.further_part i) (Some ([], i)) (rest ts room DottedTail (looped rows.further_part) (n - 1)) (has_one (class w.Dot) (class (token_at ts i).word) true dot) (part_lacks ts room i dot (rw next at name)))

  pub points_more : (m j : ℕ) (longer : List ℕ) → o ≡ behind t (rest ts room DotsTail (looped (word Operator points)) n i) → m ≡ n - 1 → j ≡ i + 1 → has points (class (token_at ts i).word) ≡ true → longer ≡ t ++ (token_at ts i).text → o ≡ behind longer (rest ts room DotsTail (looped (word Operator points)) m j)
  points_more m j longer first less on point more =
      let next : j ≡ suc i = omega arith in
      rw (less, next, more) (first ∙ (ap (behind t) (dots_turn ts room n i some ∙ once_sign (has points (class (token_at ts i).word)) (row ts room (word Operator points) i) (Some ([], i)) (rest ts room DotsTail (looped (word Operator points)) (n - 1)) (token_at ts i).text (suc i) point (point_read ts room i point)) ∙ pushed_point (rest ts room DotsTail (looped (word Operator points)) (n - 1) (suc i)) t (token_at ts i).text))

  pub points_end : o ≡ behind t (rest ts room DotsTail (looped (word Operator points)) n i) → has points (class (token_at ts i).word) ≡ false → o ≡ Some (t, true, i)
  points_end first point = first ∙ (ap (behind t) (dots_turn ts room n i some ∙ never (has points (class (token_at ts i).word)) (◌>>=◌ {B = List Part × ℕ} (row ts room (word Operator points) i) (λ u. ◌>>=◌ {B = List Part × ℕ} (rest ts room DotsTail (looped (word Operator points)) (n - 1) u.1) (λ v. Some (u.0 ++ v.0, v.1)))) (Some ([], i)) point) ∙ ap (λ (xs : List ℕ). Some (xs, true, i)) (append-nil t))

pub pointed_turned : (ts : List Item) (room n i : ℕ) (o : Option (List ℕ × Bool × ℕ)) (t : List ℕ) → o ≡ pointed_behind t (rest ts room DottedTail (looped rows.further_part) n i) → n ≡ zero → o ≡ None
pointed_turned ts room n i o t first none = first ∙ ap (pointed_behind t) (rest_none ts room DottedTail (looped rows.further_part) n i none)

pub points_turned : (ts : List Item) (room n i : ℕ) (o : Option (List ℕ × Bool × ℕ)) (t : List ℕ) → o ≡ behind t (rest ts room DotsTail (looped (word Operator points)) n i) → n ≡ zero → o ≡ None
points_turned ts room n i o t first none = first ∙ ap (behind t) (rest_none ts room DotsTail (looped (word Operator points)) n i none)
