-- One more round of a loop of the reader, and what stands in braces.
use Rattle.std.proofs.Common.{◌≡◌, ℕ, zero, suc, ◌+◌, ◌-◌, ◌<◌, List, [], ◌∷◌, ◌++◌, refl, ap, sym, ◌∙◌, add-one, eqb, true, false, Bool, Option, Some, None, cond, arith}
use Rattle.std.specs.Prelude.{◌||◌, ◌&&◌, codes, Result}
use Rattle.node_tree.specs.declared.node.Node.{Node}
use Rattle.node_tree.specs.declared.kind.Kind.TheVariants as k
use Rattle.node_tree.specs.declared.fault.ReadFault.{ReadFault}
use Rattle.node_tree.specs.Gives.{Gives}
use Rattle.grammar.specs.Rule.{has}
use Rattle.grammar.specs.Reader.{◌>>=◌}
use Rattle.py_expr.specs.declared.item.Item.{Item}
use Rattle.py_expr.specs.declared.word.Word.TheVariants as w
use Rattle.py_expr.specs.declared.level.Place.{Place}
use Rattle.py_expr.specs.declared.build.After.{After}
use Rattle.py_expr.specs.declared.build.After.TheVariants as afters
use Rattle.py_expr.specs.declared.build.Entries.{Entries}
use Rattle.py_expr.specs.Words.{class}
use Rattle.py_expr.specs.Parts.{Part, whole, lacking, clauses, wholes, node, nodes_of}
use Rattle.py_expr.specs.Table.{Test, Braces, FirstEntry, LaterEntry, Dotted, DotsLeaf, Clause, Pair, commas, names, dots}
use Rattle.py_expr.specs.Build.{token_at, end_of, leaf_of, kind_of, ident_kind, undecided, displayed, joint}
use Rattle.py_expr.specs.Build as build
use Rattle.py_expr.specs.reader.Sets.{sets}
use Rattle.py_expr.specs.reader.Reading.{level, one, item_of, pair_of, entry_of, after_of, after_pair_of, set_place, after_parts, entries_parts, closed, assigned}
use Rattle.py_expr.proofs.Steps.{further_rest, further_turn, comprehension_rest, comprehension_turn, dotted_rest, dotted_turn, dots_leaf_step, pairs_rest, pairs_turn, pairs_turned, braces_step, entry_step, value_of, value_step, push_more, push_whole}

-- ---- loops

-- what a round read is put behind what there was
pushed : (F : List Node → List Part → List Part) (o : Option (List Part × ℕ)) (ks ls : List Node) (x : Node) → ((ps : List Part) → F ks (whole x ∷ ps) ≡ F ls ps) → ◌>>=◌ {B = List Part × ℕ} (◌>>=◌ {B = List Part × ℕ} o (λ v. Some (whole x ∷ v.0, v.1))) (λ y. Some (F ks y.0, y.1)) ≡ ◌>>=◌ {B = List Part × ℕ} o (λ y. Some (F ls y.0, y.1))
pushed F None ks ls x e = refl
pushed F (Some v) ks ls x e = ap (λ (ps : List Part). Some (ps, v.1)) (e v.0)

went_on : (F : List Node → List Part → List Part) (o before behind : Option (List Part × ℕ)) (ks ls : List Node) (x : Node) → o ≡ ◌>>=◌ {B = List Part × ℕ} before (λ y. Some (F ks y.0, y.1)) → before ≡ ◌>>=◌ {B = List Part × ℕ} behind (λ v. Some (whole x ∷ v.0, v.1)) → ((ps : List Part) → F ks (whole x ∷ ps) ≡ F ls ps) → o ≡ ◌>>=◌ {B = List Part × ℕ} behind (λ y. Some (F ls y.0, y.1))
went_on F o before behind ks ls x rest round e = rest ∙ ap (λ (r : Option (List Part × ℕ)). ◌>>=◌ {B = List Part × ℕ} r (λ y. Some (F ks y.0, y.1))) round ∙ pushed F behind ks ls x e

-- a round that one token or two begin
once : (c : Bool) (I Y : Option (List Part × ℕ)) (R : ℕ → Option (List Part × ℕ)) (x : Node) (j : ℕ) → c ≡ true → I ≡ Some (whole x ∷ [], j) → cond {A = Option (List Part × ℕ)} c (◌>>=◌ {B = List Part × ℕ} I (λ u. ◌>>=◌ {B = List Part × ℕ} (R u.1) (λ v. Some (u.0 ++ v.0, v.1)))) Y ≡ ◌>>=◌ {B = List Part × ℕ} (R j) (λ v. Some (whole x ∷ v.0, v.1))
once c I Y R x j starts item = rw (starts, item) refl

once_behind : (c d : Bool) (I Z Y : Option (List Part × ℕ)) (R : ℕ → Option (List Part × ℕ)) (x : Node) (j : ℕ) → c ≡ true → d ≡ true → I ≡ Some (whole x ∷ [], j) → cond {A = Option (List Part × ℕ)} c (cond {A = Option (List Part × ℕ)} d (◌>>=◌ {B = List Part × ℕ} I (λ u. ◌>>=◌ {B = List Part × ℕ} (R u.1) (λ v. Some (u.0 ++ v.0, v.1)))) Z) Y ≡ ◌>>=◌ {B = List Part × ℕ} (R j) (λ v. Some (whole x ∷ v.0, v.1))
once_behind c d I Z Y R x j comma starts item = rw (comma, starts, item) refl

listed_more : (ks ls : List Node) (x : Node) → ls ≡ ks ++ x ∷ [] → (ps : List Part) → wholes ks ++ (whole x ∷ ps) ≡ wholes ls ++ ps
listed_more ks ls x more ps = rw more (sym (push_whole ks x ps))

clauses_more : (ks ls : List Node) (x : Node) → ls ≡ ks ++ x ∷ [] → (ps : List Part) → clauses (ks ++ nodes_of (whole x ∷ ps)) ∷ [] ≡ clauses (ls ++ nodes_of ps) ∷ []
clauses_more ks ls x more ps = rw more (ap (λ (ns : List Node). clauses ns ∷ []) (sym (push_more ks x (nodes_of ps))))

undecided_more : (ks ls : List Node) (x : Node) → ls ≡ ks ++ x ∷ [] → (ps : List Part) → undecided ks (whole x ∷ ps) ∷ [] ≡ undecided ls ps ∷ []
undecided_more ks ls x more ps = rw more refl

pub further_more : (ts : List Item) (room : ℕ) (p : Place) (n m i j : ℕ) (o : Option (List Part × ℕ)) (ks ls : List Node) (x : Node) → o ≡ ◌>>=◌ {B = List Part × ℕ} (further_rest ts room p n i) (λ y. Some (wholes ks ++ y.0, y.1)) → m ≡ n - 1 → zero < n → has commas (class (token_at ts i).word) ≡ true → has (sets.first (item_of p)) (class (token_at ts (i + 1)).word) ≡ true → level ts room (item_of p) (i + 1) ≡ Some (whole x ∷ [], j) → ls ≡ ks ++ x ∷ [] → o ≡ ◌>>=◌ {B = List Part × ℕ} (further_rest ts room p m j) (λ y. Some (wholes ls ++ y.0, y.1))
further_more ts room p n m i j o ks ls x rest less some comma starts item more =
    rw less (went_on (λ ns ps. wholes ns ++ ps) o (further_rest ts room p n i) (further_rest ts room p (n - 1) j) ks ls x rest (further_turn ts room p n i some ∙ once_behind (has commas (class (token_at ts i).word)) (has (sets.first (item_of p)) (class (token_at ts (suc i)).word)) (level ts room (item_of p) (suc i)) (Some ([], suc i)) (Some ([], i)) (further_rest ts room p (n - 1)) x j comma (rw add-one at starts) (rw add-one at item)) (listed_more ks ls x more))

pub comprehension_more : (ts : List Item) (room n m i j : ℕ) (o : Option (List Part × ℕ)) (ks ls : List Node) (x : Node) → o ≡ ◌>>=◌ {B = List Part × ℕ} (comprehension_rest ts room n i) (λ y. Some (clauses (ks ++ nodes_of y.0) ∷ [], y.1)) → m ≡ n - 1 → zero < n → has (sets.first Clause) (class (token_at ts i).word) ≡ true → level ts room Clause i ≡ Some (whole x ∷ [], j) → ls ≡ ks ++ x ∷ [] → o ≡ ◌>>=◌ {B = List Part × ℕ} (comprehension_rest ts room m j) (λ y. Some (clauses (ls ++ nodes_of y.0) ∷ [], y.1))
comprehension_more ts room n m i j o ks ls x rest less some starts item more =
    rw less (went_on (λ ns ps. clauses (ns ++ nodes_of ps) ∷ []) o (comprehension_rest ts room n i) (comprehension_rest ts room (n - 1) j) ks ls x rest (comprehension_turn ts room n i some ∙ once (has (sets.first Clause) (class (token_at ts i).word)) (level ts room Clause i) (Some ([], i)) (comprehension_rest ts room (n - 1)) x j starts item) (clauses_more ks ls x more))

dots_read : (ts : List Item) (room i : ℕ) (x : Node) → zero < room → has dots (class (token_at ts i).word) ≡ true → x ≡ leaf_of (kind_of (token_at ts i).word) (token_at ts i) → level ts room DotsLeaf i ≡ Some (whole x ∷ [], suc i)
dots_read ts room i x pos starts is = dots_leaf_step ts room i pos ∙ rw (starts, is) refl

pub dotted_more : (ts : List Item) (room n m i : ℕ) (o : Option (List Part × ℕ)) (ks ls : List Node) (x : Node) → zero < room → o ≡ ◌>>=◌ {B = List Part × ℕ} (dotted_rest ts room n i) (λ y. Some (undecided ks y.0 ∷ [], y.1)) → m ≡ n - 1 → zero < n → eqb (class w.CommaDots) (class (token_at ts i).word) ≡ true → has dots (class (token_at ts (i + 1)).word) ≡ true → x ≡ leaf_of (kind_of (token_at ts (i + 1)).word) (token_at ts (i + 1)) → ls ≡ ks ++ x ∷ [] → o ≡ ◌>>=◌ {B = List Part × ℕ} (dotted_rest ts room m (i + 2)) (λ y. Some (undecided ls y.0 ∷ [], y.1))
dotted_more ts room n m i o ks ls x pos rest less some comma starts is more =
    let two : i + 2 ≡ suc (suc i) = omega arith in
    rw (less, two) (went_on (λ ns ps. undecided ns ps ∷ []) o (dotted_rest ts room n i) (dotted_rest ts room (n - 1) (suc (suc i))) ks ls x rest (dotted_turn ts room n i some ∙ once (eqb (class w.CommaDots) (class (token_at ts i).word)) (level ts room DotsLeaf (suc i)) (cond {A = Option (List Part × ℕ)} (eqb (class w.Comma) (class (token_at ts i).word)) (cond {A = Option (List Part × ℕ)} (has (sets.first LaterEntry) (class (token_at ts (suc i)).word)) (level ts room LaterEntry (suc i)) (Some ([], suc i))) (Some ([], i))) (dotted_rest ts room (n - 1)) x (suc (suc i)) comma (dots_read ts room (suc i) x pos (rw add-one at starts) (rw add-one at is))) (undecided_more ks ls x more))

pub pairs_more : (ts : List Item) (room n m i j : ℕ) (b : Bool) (o : Option (List Part × ℕ)) (ks ls : List Node) (x : Node) → o ≡ ◌>>=◌ {B = List Part × ℕ} (pairs_rest ts room n i) (λ y. Some (wholes ks ++ y.0, y.1)) → m ≡ n - 1 → zero < n → b ≡ eqb (class w.CommaDots) (class (token_at ts i).word) → (b ≡ false → eqb (class w.Comma) (class (token_at ts i).word) ≡ true) → (b ≡ false → has (sets.first Pair) (class (token_at ts (i + 1)).word) ≡ true) → level ts room (pair_of b) (i + 1) ≡ Some (whole x ∷ [], j) → ls ≡ ks ++ x ∷ [] → o ≡ ◌>>=◌ {B = List Part × ℕ} (pairs_rest ts room m j) (λ y. Some (wholes ls ++ y.0, y.1))
pairs_more ts room n m i j b o ks ls x rest less some commas comma starts item more =
    rw less (went_on (λ ns ps. wholes ns ++ ps) o (pairs_rest ts room n i) (pairs_rest ts room (n - 1) j) ks ls x rest (pairs_turn ts room n i some ∙ by_dots b (sym commas) comma starts (rw add-one at item)) (listed_more ks ls x more))
  where
    by_dots : (b : Bool) → eqb (class w.CommaDots) (class (token_at ts i).word) ≡ b → (b ≡ false → eqb (class w.Comma) (class (token_at ts i).word) ≡ true) → (b ≡ false → has (sets.first Pair) (class (token_at ts (i + 1)).word) ≡ true) → level ts room (pair_of b) (suc i) ≡ Some (whole x ∷ [], j)
        → cond {A = Option (List Part × ℕ)} (eqb (class w.CommaDots) (class (token_at ts i).word)) (◌>>=◌ {B = List Part × ℕ} (level ts room (pair_of true) (suc i)) (λ u. ◌>>=◌ {B = List Part × ℕ} (pairs_rest ts room (n - 1) u.1) (λ v. Some (u.0 ++ v.0, v.1)))) (cond {A = Option (List Part × ℕ)} (eqb (class w.Comma) (class (token_at ts i).word)) (cond {A = Option (List Part × ℕ)} (has (sets.first Pair) (class (token_at ts (suc i)).word)) (◌>>=◌ {B = List Part × ℕ} (level ts room (pair_of false) (suc i)) (λ u. ◌>>=◌ {B = List Part × ℕ} (pairs_rest ts room (n - 1) u.1) (λ v. Some (u.0 ++ v.0, v.1)))) (Some ([], suc i))) (Some ([], i))) ≡ ◌>>=◌ {B = List Part × ℕ} (pairs_rest ts room (n - 1) j) (λ v. Some (whole x ∷ v.0, v.1))
    by_dots true is comma starts item = once (eqb (class w.CommaDots) (class (token_at ts i).word)) (level ts room (pair_of true) (suc i)) (cond {A = Option (List Part × ℕ)} (eqb (class w.Comma) (class (token_at ts i).word)) (cond {A = Option (List Part × ℕ)} (has (sets.first Pair) (class (token_at ts (suc i)).word)) (◌>>=◌ {B = List Part × ℕ} (level ts room (pair_of false) (suc i)) (λ u. ◌>>=◌ {B = List Part × ℕ} (pairs_rest ts room (n - 1) u.1) (λ v. Some (u.0 ++ v.0, v.1)))) (Some ([], suc i))) (Some ([], i))) (pairs_rest ts room (n - 1)) x j is item
    by_dots false is comma starts item = rw is (once_behind (eqb (class w.Comma) (class (token_at ts i).word)) (has (sets.first Pair) (class (token_at ts (suc i)).word)) (level ts room (pair_of false) (suc i)) (Some ([], suc i)) (Some ([], i)) (pairs_rest ts room (n - 1)) x j (comma refl) (rw add-one at (starts refl)) item)

-- a loop that has no rounds left reads nothing
pub pairs_over : (ts : List Item) (room n i : ℕ) (o : Option (List Part × ℕ)) (ks : List Node) → o ≡ ◌>>=◌ {B = List Part × ℕ} (pairs_rest ts room n i) (λ y. Some (wholes ks ++ y.0, y.1)) → n ≡ zero → o ≡ None
pairs_over ts room n i o ks rest over = rest ∙ ap (λ (r : Option (List Part × ℕ)). ◌>>=◌ {B = List Part × ℕ} r (λ y. Some (wholes ks ++ y.0, y.1))) (pairs_turned ts room n i over)

-- ---- braces

-- what gives the one gives the other
pub gives_along : (r : Result (Node × ℕ) ReadFault) (a b : Option (List Part × ℕ)) → a ≡ b → Gives one r b → Gives one r a
gives_along r a b e given = rw e given

close_part : (c : Bool) (x : List Part) (mk : ℕ → List Part → List Part) (j : ℕ) → ◌>>=◌ {B = List Part × ℕ} (cond {A = Option (List Part × ℕ)} (c || false) (Some (x, suc j)) None) (λ z. Some (mk z.1 z.0, z.1)) ≡ cond {A = Option (List Part × ℕ)} c (Some (mk (suc j) x, suc j)) None
close_part false x mk j = refl
close_part true x mk j = refl

pub braces_entry : (ts : List Item) (room i j from : ℕ) (e : Entries) → zero < room → from ≡ (token_at ts i).span.from → eqb (class w.LeftBrace) (class (token_at ts i).word) ≡ true → has (sets.first LaterEntry) (class (token_at ts (i + 1)).word) ≡ true → level ts (room - 1) FirstEntry (i + 1) ≡ Some (entries_parts e, j) → level ts room Braces i ≡ closed ts from e j
braces_entry ts room i j from e pos begins brace starts inside = rw begins (braces_step ts room i pos ∙ rw brace (rw (rw add-one at starts) (rw (rw add-one at inside) (close_part (eqb (class w.RightBrace) (class (token_at ts j).word)) (entries_parts e) (λ m ps. build.braced (token_at ts i).span.from (end_of ts m) ps) j ∙ rw add-one refl))))

pub braces_dotted : (ts : List Item) (room i j from : ℕ) (e : Entries) → zero < room → from ≡ (token_at ts i).span.from → eqb (class w.LeftBrace) (class (token_at ts i).word) ≡ false → eqb (class w.BraceDots) (class (token_at ts i).word) ≡ true → level ts (room - 1) Dotted (i + 1) ≡ Some (entries_parts e, j) → level ts room Braces i ≡ closed ts from e j
braces_dotted ts room i j from e pos begins brace dots inside = rw begins (braces_step ts room i pos ∙ rw (brace, dots) (rw (rw add-one at inside) (close_part (eqb (class w.RightBrace) (class (token_at ts j).word)) (entries_parts e) (λ m ps. build.braced (token_at ts i).span.from (end_of ts m) ps) j ∙ rw add-one refl)))

-- ---- entries

-- an item with what comes after it makes a set
entry_set : (from : ℕ) (n : Node) (a : After) → build.entry from (whole n ∷ after_parts a) ≡ displayed k.SetLit (codes "set") (whole n ∷ after_parts a)
entry_set from n afters.Nothing = refl
entry_set from n (afters.Further ns) = refl
entry_set from n (afters.Clauses ns) = refl

or_false : (c : Bool) → (c || false) ≡ c
or_false false = refl
or_false true = refl

-- what was read, and where it ends
abbrev parts_in : Option (List Part × ℕ) → List Part
parts_in None = []
parts_in (Some y) = y.0

abbrev end_in : Option (List Part × ℕ) → ℕ
end_in None = 0
end_in (Some y) = y.1

walrus_entry : (T : Option (List Part × ℕ)) (A : ℕ → Option (List Part × ℕ)) (l : Node) (from : ℕ) (to : ℕ → ℕ) (n : Node) (e j : ℕ) (a : After) (d : Entries) → ◌>>=◌ {B = List Part × ℕ} T (λ x. Some (whole (node k.Walrus [] from (to x.1) (l ∷ nodes_of x.0)) ∷ [], x.1)) ≡ Some (whole n ∷ [], e) → A e ≡ Some (after_parts a, j) → entries_parts d ≡ displayed k.SetLit (codes "set") (whole n ∷ after_parts a)
    → ◌>>=◌ {B = List Part × ℕ} (◌>>=◌ {B = List Part × ℕ} (◌>>=◌ {B = List Part × ℕ} (◌>>=◌ {B = List Part × ℕ} T (λ z. Some (lacking k.Walrus [] (to z.1) (nodes_of z.0) ∷ [], z.1))) (λ x. ◌>>=◌ {B = List Part × ℕ} (A x.1) (λ y. Some (x.0 ++ y.0, y.1)))) (λ x. Some (joint from (whole l ∷ x.0), x.1))) (λ z. Some (build.entry from z.0, z.1)) ≡ Some (entries_parts d, j)
walrus_entry None A l from to n e j a d value after shows = absurd cc
walrus_entry (Some x) A l from to n e j a d value after shows =
    let ends : x.1 ≡ e = ap end_in value in
    let parts : whole (node k.Walrus [] from (to x.1) (l ∷ nodes_of x.0)) ∷ [] ≡ whole n ∷ [] = ap parts_in value in
    let made : node k.Walrus [] from (to x.1) (l ∷ nodes_of x.0) ≡ n = cc in
    rw (rw (sym ends) at after) (rw made (ap (λ (ps : List Part). Some (ps, j)) (entry_set from n a ∙ sym shows)))

value_set : (ts : List Item) (room : ℕ) (b : Bool) (e j : ℕ) (a : After) → zero < room → eqb (class w.Colon) (class (token_at ts e).word) ≡ false → level ts room (after_of (set_place b)) e ≡ Some (after_parts a, j) → level ts room (value_of b) e ≡ Some (after_parts a, j)
value_set ts room b e j a pos colon after = value_step ts room b e pos ∙ rw colon after

value_pair : (ts : List Item) (room : ℕ) (b : Bool) (e f j : ℕ) (v : Node) (a : After) → zero < room → eqb (class w.Colon) (class (token_at ts e).word) ≡ true → level ts room Test (e + 1) ≡ Some (whole v ∷ [], f) → level ts room (after_pair_of b) f ≡ Some (after_parts a, j) → level ts room (value_of b) e ≡ Some (lacking k.Pair [] (end_of ts f) (v ∷ []) ∷ after_parts a, j)
value_pair ts room b e f j v a pos colon value after = value_step ts room b e pos ∙ rw (colon, rw add-one at value, after) refl

pub entry_assigned : (ts : List Item) (room : ℕ) (b : Bool) (i e j : ℕ) (n : Node) (a : After) (d : Entries) → zero < room → eqb (class w.Power) (class (token_at ts i).word) ≡ false → eqb (class w.Times) (class (token_at ts i).word) ≡ false → (has names (class (token_at ts i).word) && eqb (class w.Walrus) (class (token_at ts (i + 1)).word)) ≡ true → assigned ts room k.Walrus i ≡ Some (whole n ∷ [], e) → level ts room (after_of (set_place b)) e ≡ Some (after_parts a, j) → entries_parts d ≡ displayed k.SetLit (codes "set") (whole n ∷ after_parts a) → level ts room (entry_of b) i ≡ Some (entries_parts d, j)
entry_assigned ts room b i e j n a d pos power times walrus value after shows =
    let two : i + 2 ≡ suc (suc i) = omega arith in
    entry_step ts room b i pos ∙ rw (power, times, or_false (eqb (class w.Walrus) (class (token_at ts (suc i)).word)), rw add-one at walrus) (walrus_entry (level ts room Test (suc (suc i))) (level ts room (after_of (set_place b))) (leaf_of (ident_kind (token_at ts i).word) (token_at ts i)) (token_at ts i).span.from (end_of ts) n e j a d (rw two at value) after shows)

pub entry_item : (ts : List Item) (room : ℕ) (b : Bool) (i e j : ℕ) (n : Node) (a : After) (d : Entries) → zero < room → eqb (class w.Power) (class (token_at ts i).word) ≡ false → eqb (class w.Times) (class (token_at ts i).word) ≡ false → (has names (class (token_at ts i).word) && eqb (class w.Walrus) (class (token_at ts (i + 1)).word)) ≡ false → level ts room Test i ≡ Some (whole n ∷ [], e) → eqb (class w.Colon) (class (token_at ts e).word) ≡ false → level ts room (after_of (set_place b)) e ≡ Some (after_parts a, j) → entries_parts d ≡ displayed k.SetLit (codes "set") (whole n ∷ after_parts a) → level ts room (entry_of b) i ≡ Some (entries_parts d, j)
entry_item ts room b i e j n a d pos power times walrus item colon after shows =
    entry_step ts room b i pos ∙ rw (power, times, or_false (eqb (class w.Walrus) (class (token_at ts (suc i)).word)), rw add-one at walrus, item, value_set ts room b e j a pos colon after) (ap (λ (ps : List Part). Some (ps, j)) (entry_set (token_at ts i).span.from n a ∙ sym shows))

pub entry_pair : (ts : List Item) (room : ℕ) (b : Bool) (i e f j : ℕ) (n v pair : Node) (a : After) (d : Entries) → zero < room → eqb (class w.Power) (class (token_at ts i).word) ≡ false → eqb (class w.Times) (class (token_at ts i).word) ≡ false → (has names (class (token_at ts i).word) && eqb (class w.Walrus) (class (token_at ts (i + 1)).word)) ≡ false → level ts room Test i ≡ Some (whole n ∷ [], e) → eqb (class w.Colon) (class (token_at ts e).word) ≡ true → level ts room Test (e + 1) ≡ Some (whole v ∷ [], f) → pair ≡ node k.Pair [] (token_at ts i).span.from (end_of ts f) (n ∷ v ∷ []) → level ts room (after_pair_of b) f ≡ Some (after_parts a, j) → entries_parts d ≡ displayed k.DictLit (codes "dict") (whole pair ∷ after_parts a) → level ts room (entry_of b) i ≡ Some (entries_parts d, j)
entry_pair ts room b i e f j n v pair a d pos power times walrus key colon value made after shows =
    entry_step ts room b i pos ∙ rw (power, times, or_false (eqb (class w.Walrus) (class (token_at ts (suc i)).word)), rw add-one at walrus, key, value_pair ts room b e f j v a pos colon value after) (ap (λ (ps : List Part). Some (ps, j)) (sym (rw made at shows)))
