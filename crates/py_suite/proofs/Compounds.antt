-- What the parts of compound statements read: blocks behind a colon, else parts, handlers, and what follows the block of a try statement.
use Rattle.std.proofs.Common.{◌≡◌, ℕ, zero, suc, ◌+◌, ◌<◌, List, [], ◌∷◌, ◌++◌, refl, ap, ◌∙◌, add-one, eqb, true, false, Option, Some, None}
use Rattle.std.specs.Prelude.{Result, Ok, Err}
use Rattle.node_tree.specs.Gives.{Gives}
use Rattle.node_tree.specs.declared.fault.ReadFault.{ReadFault}
use Rattle.node_tree.specs.declared.fault.ReadFault.TheVariants as faults
use Rattle.node_tree.specs.declared.node.Node.{Node}
use Rattle.node_tree.specs.declared.kind.Kind.TheVariants as k
use Rattle.grammar.specs.Rule.{ref, opt}
use Rattle.grammar.specs.Reader.{◌>>=◌}
use Rattle.py_expr.specs.declared.item.Item.{Item}
use Rattle.py_expr.specs.declared.word.Word.TheVariants as w
use Rattle.py_expr.specs.Words.{class}
use Rattle.py_expr.specs.Parts.{Part, whole, clauses, node}
use Rattle.py_expr.specs.Build.{token_at, absent, empty_list}
use Rattle.py_suite.specs.Table as rows
use Rattle.py_suite.specs.Table.{Suite, Branches, ElsePart, Handlers, Handler, Caught, FinallyPart, TryRest, table}
use Rattle.py_suite.specs.Build.{end_from, padded, filled, written}
use Rattle.py_suite.specs.reader.Reading.{level, row, one, one_kid, along, more_handlers, heads, body, else_or_absent, kids_behind}
use Rattle.py_suite.proofs.Steps.{level_row}
use Rattle.py_suite.proofs.Orders.{push_more}
use Rattle.py_suite.proofs.Forms.{written_append, filled_append, some_same, collected, headed}
use Rattle.py_suite.proofs.Suites.{two_heads, one_head}

-- ---- blocks behind a colon, and behind a keyword

same : (o : Option (List Part × ℕ)) → ◌>>=◌ {B = List Part × ℕ} o (λ y. Some (y.0, y.1)) ≡ o
same None = refl
same (Some y) = refl

pub body_read : (ts : List Item) (room i : ℕ) → eqb (class w.Colon) (class (token_at ts i).word) ≡ true → body ts room i ≡ level ts room Suite (i + 1)
body_read ts room i mark = rw (mark, add-one) (same (level ts room Suite (suc i)))

pub branches_else : (ts : List Item) (room i : ℕ) → zero < room → eqb (class w.Elif) (class (token_at ts i).word) ≡ false → level ts room Branches i ≡ level ts room ElsePart i
branches_else ts room i h mark = level_row ts room Branches i h ∙ rw mark refl

pub else_read : (ts : List Item) (room i : ℕ) → zero < room → eqb (class w.Else) (class (token_at ts i).word) ≡ true → level ts room ElsePart i ≡ body ts room (i + 1)
else_read ts room i h mark = level_row ts room ElsePart i h ∙ rw (mark, add-one) (same (body ts room (suc i)))

pub finally_read : (ts : List Item) (room i : ℕ) → zero < room → eqb (class w.Finally) (class (token_at ts i).word) ≡ true → level ts room FinallyPart i ≡ body ts room (i + 1)
finally_read ts room i h mark = level_row ts room FinallyPart i h ∙ rw (mark, add-one) (same (body ts room (suc i)))

-- an else part as a kid, which is absent where none stands
pub no_else_kid : (ts : List Item) (room from i : ℕ) → eqb (class w.Else) (class (token_at ts i).word) ≡ false → else_or_absent ts room from i ≡ Some ([], absent from ∷ [], i)
no_else_kid ts room from i mark = rw mark refl

pub else_kid : (ts : List Item) (room from i : ℕ) (r : Result (Node × ℕ) ReadFault) → eqb (class w.Else) (class (token_at ts i).word) ≡ true → Gives one r (level ts room ElsePart i) → Gives one_kid r (else_or_absent ts room from i)
else_kid ts room from i (Ok x) mark given = rw (mark, given) refl
else_kid ts room from i (Err faults.Memory) mark given = tt
else_kid ts room from i (Err faults.NoTree) mark given = rw (mark, given) refl

-- ---- handlers

handlers_by : (ts : List Item) (room i j : ℕ) (first : Node) (o : Option (List Part × ℕ)) → zero < room → level ts room Handler i ≡ Some (whole first ∷ [], j) → more_handlers ts room j ≡ o → level ts room Handlers i ≡ collected ts k.List i (along (first ∷ []) o)
unfolding more_handlers
handlers_by ts room i j first None h item rest = level_row ts room Handlers i h ∙ rw (item, rest) refl
handlers_by ts room i j first (Some v) h item rest = level_row ts room Handlers i h ∙ rw (item, rest) refl

pub handlers_read : (ts : List Item) (room i j : ℕ) (first : Node) → zero < room → level ts room Handler i ≡ Some (whole first ∷ [], j) → level ts room Handlers i ≡ collected ts k.List i (along (first ∷ []) (more_handlers ts room j))
handlers_read ts room i j first h item = handlers_by ts room i j first (more_handlers ts room j) h item refl

pub handler_read : (ts : List Item) (room i j m : ℕ) (a b c n : Node) → zero < room → eqb (class w.Except) (class (token_at ts i).word) ≡ true → heads ts room (token_at ts i).span.from Caught (i + 1) ≡ Some ([], a ∷ b ∷ [], j) → level ts room Suite j ≡ Some (whole c ∷ [], m)
    → n ≡ node k.Handler [] (token_at ts i).span.from (end_from ts i m) (padded k.Handler (token_at ts i).span.from (a ∷ b ∷ c ∷ [])) → level ts room Handler i ≡ Some (whole n ∷ [], m)
handler_read ts room i j m a b c n h mark caught block made = level_row ts room Handler i h ∙ over (level ts room Caught (suc i)) refl (rw add-one at caught)
  where
    over : (o : Option (List Part × ℕ)) → level ts room Caught (suc i) ≡ o → headed (token_at ts i).span.from o ≡ Some ([], a ∷ b ∷ [], j) → row ts room (table Handler) i ≡ Some (whole n ∷ [], m)
    over None is g = absurd cc
    over (Some x) is g =
        let spelled : written x.0 ≡ [] = ap (λ (y : List ℕ × List Node × ℕ). y.0) (some_same g) in
        let kids : filled (token_at ts i).span.from x.0 ≡ a ∷ b ∷ [] = ap (λ (y : List ℕ × List Node × ℕ). y.1) (some_same g) in
        let ends : x.1 ≡ j = ap (λ (y : List ℕ × List Node × ℕ). y.2) (some_same g) in
        rw (mark, is, ends, block, written_append x.0 (whole c ∷ []), filled_append (token_at ts i).span.from x.0 (whole c ∷ []), spelled, kids, made) refl

pub handler_none : (ts : List Item) (room i : ℕ) → zero < room → eqb (class w.Except) (class (token_at ts i).word) ≡ true → heads ts room (token_at ts i).span.from Caught (i + 1) ≡ None → level ts room Handler i ≡ None
handler_none ts room i h mark caught = level_row ts room Handler i h ∙ over (level ts room Caught (suc i)) refl (rw add-one at caught)
  where
    over : (o : Option (List Part × ℕ)) → level ts room Caught (suc i) ≡ o → headed (token_at ts i).span.from o ≡ None → row ts room (table Handler) i ≡ None
    over None is g = rw (mark, is) refl
    over (Some x) is g = absurd cc

pub handler_open : (ts : List Item) (room i j : ℕ) (ns : List Node) → zero < room → eqb (class w.Except) (class (token_at ts i).word) ≡ true → heads ts room (token_at ts i).span.from Caught (i + 1) ≡ Some ([], ns, j) → level ts room Suite j ≡ None → level ts room Handler i ≡ None
handler_open ts room i j ns h mark caught block = level_row ts room Handler i h ∙ over (level ts room Caught (suc i)) refl (rw add-one at caught)
  where
    over : (o : Option (List Part × ℕ)) → level ts room Caught (suc i) ≡ o → headed (token_at ts i).span.from o ≡ Some ([], ns, j) → row ts room (table Handler) i ≡ None
    over None is g = absurd cc
    over (Some x) is g = let ends : x.1 ≡ j = ap (λ (y : List ℕ × List Node × ℕ). y.2) (some_same g) in rw (mark, is, ends, block) refl

-- ---- what follows the block of a try statement, as kids

-- a kid, and two parts behind it
abbrev pub before_two : Node → Option (List ℕ × List Node × ℕ) → (ℕ → Option (List ℕ × List Node × ℕ)) → Option (List ℕ × List Node × ℕ)
before_two x P B = ◌>>=◌ {B = List ℕ × List Node × ℕ} P (λ p. ◌>>=◌ {B = List ℕ × List Node × ℕ} (B p.2) (λ b. Some (p.0 ++ b.0, x ∷ (p.1 ++ b.1), b.2)))

-- and as they are read, one part behind the other
abbrev both : Option (List ℕ × List Node × ℕ) → (ℕ → Option (List ℕ × List Node × ℕ)) → Option (List ℕ × List Node × ℕ)
both P B = ◌>>=◌ {B = List ℕ × List Node × ℕ} P (λ p. ◌>>=◌ {B = List ℕ × List Node × ℕ} (B p.2) (λ b. Some (p.0 ++ b.0, p.1 ++ b.1, b.2)))

abbrev under : Node → Option (List ℕ × List Node × ℕ) → Option (List ℕ × List Node × ℕ)
under x o = ◌>>=◌ {B = List ℕ × List Node × ℕ} o (λ y. Some (y.0, x ∷ y.1, y.2))

regrouped : (x : Node) (P : Option (List ℕ × List Node × ℕ)) (B : ℕ → Option (List ℕ × List Node × ℕ)) → under x (both P B) ≡ before_two x P B
regrouped x None B = refl
regrouped x (Some p) B = last (B p.2)
  where
    last : (o : Option (List ℕ × List Node × ℕ)) → under x (◌>>=◌ {B = List ℕ × List Node × ℕ} o (λ b. Some (p.0 ++ b.0, p.1 ++ b.1, b.2))) ≡ ◌>>=◌ {B = List ℕ × List Node × ℕ} o (λ b. Some (p.0 ++ b.0, x ∷ (p.1 ++ b.1), b.2))
    last None = refl
    last (Some b) = refl

empty_head : (from : ℕ) (o : Option (List Part × ℕ)) → headed from (◌>>=◌ {B = List Part × ℕ} o (λ y. Some (clauses [] ∷ y.0, y.1))) ≡ under (empty_list from) (headed from o)
empty_head from None = refl
empty_head from (Some y) = refl

-- two rows, one behind the other
abbrev in_turn : Option (List Part × ℕ) → (ℕ → Option (List Part × ℕ)) → Option (List Part × ℕ)
in_turn P B = ◌>>=◌ {B = List Part × ℕ} P (λ p. ◌>>=◌ {B = List Part × ℕ} (B p.1) (λ b. Some (p.0 ++ b.0, b.1)))

-- no handler: a finally part follows
pub try_alone : (ts : List Item) (room from i : ℕ) → zero < room → eqb (class w.Except) (class (token_at ts i).word) ≡ false → heads ts room from TryRest i ≡ before_two (empty_list from) (else_or_absent ts room from i) (λ j. headed from (level ts room FinallyPart j))
try_alone ts room from i h mark =
    let other : Option (List Part × ℕ) = row ts room (rows.maybe (ref ElsePart)) i in
    ap (headed from) (level_row ts room TryRest i h ∙ rw mark refl) ∙ (empty_head from (in_turn other (level ts room FinallyPart)) ∙ (ap (under (empty_list from)) (two_heads from other (level ts room FinallyPart)) ∙ regrouped (empty_list from) (headed from other) (λ j. headed from (level ts room FinallyPart j))))

-- handlers, behind which a finally part may follow
pub try_handled : (ts : List Item) (room from i j : ℕ) (l : Node) → zero < room → eqb (class w.Except) (class (token_at ts i).word) ≡ true → level ts room Handlers i ≡ Some (whole l ∷ [], j) → heads ts room from TryRest i ≡ before_two l (else_or_absent ts room from j) (λ n. headed from (row ts room (opt (ref FinallyPart)) n))
try_handled ts room from i j l h mark list =
    let other : Option (List Part × ℕ) = row ts room (rows.maybe (ref ElsePart)) j in
    ap (headed from) (level_row ts room TryRest i h ∙ rw (mark, list) refl) ∙ (one_head from l (in_turn other (row ts room (opt (ref FinallyPart)))) ∙ (ap (under l) (two_heads from other (row ts room (opt (ref FinallyPart)))) ∙ regrouped l (headed from other) (λ n. headed from (row ts room (opt (ref FinallyPart)) n))))

pub try_unhandled : (ts : List Item) (room from i : ℕ) → zero < room → eqb (class w.Except) (class (token_at ts i).word) ≡ true → level ts room Handlers i ≡ None → heads ts room from TryRest i ≡ None
try_unhandled ts room from i h mark list =
    let none : level ts room TryRest i ≡ None = level_row ts room TryRest i h ∙ rw (mark, list) refl in
    rw none refl

-- three kids behind others, one after another
thrice : (ks ls ms all : List Node) (x y z : Node) → ls ≡ ks ++ x ∷ [] → ms ≡ ls ++ y ∷ [] → all ≡ ms ++ z ∷ [] → all ≡ ks ++ (x ∷ y ∷ z ∷ [])
thrice ks ls ms all x y z first second third = third ∙ rw (second, first) (push_more (ks ++ x ∷ []) y (z ∷ []) ∙ push_more ks x (y ∷ z ∷ []))

twice : (ks ls ms : List Node) (x y : Node) → ls ≡ ks ++ x ∷ [] → ms ≡ ls ++ y ∷ [] → ms ≡ ks ++ (x ∷ y ∷ [])
twice ks ls ms x y first second = second ∙ rw first (push_more ks x (y ∷ []))

module _ (ts : List Item) (room from i : ℕ) (ks ls ms : List Node) (some : zero < room) where
  pub try_finally : (j m : ℕ) (all : List Node) (y z : Node) → eqb (class w.Except) (class (token_at ts i).word) ≡ false → else_or_absent ts room from i ≡ Some ([], y ∷ [], j) → level ts room FinallyPart j ≡ Some (whole z ∷ [], m) → ls ≡ ks ++ empty_list from ∷ [] → ms ≡ ls ++ y ∷ [] → all ≡ ms ++ z ∷ [] → kids_behind ks (heads ts room from TryRest i) ≡ Some ([], all, m)
  try_finally j m all y z mark other last first second third =
      let read : heads ts room from TryRest i ≡ Some ([], empty_list from ∷ y ∷ z ∷ [], m) = try_alone ts room from i some mark ∙ rw (other, last) refl in
      rw (read, thrice ks ls ms all (empty_list from) y z first second third) refl

  pub try_no_else : eqb (class w.Except) (class (token_at ts i).word) ≡ false → else_or_absent ts room from i ≡ None → kids_behind ks (heads ts room from TryRest i) ≡ None
  try_no_else mark other =
      let none : heads ts room from TryRest i ≡ None = try_alone ts room from i some mark ∙ rw other refl in
      rw none refl

  pub try_no_finally : (j : ℕ) (y : Node) → eqb (class w.Except) (class (token_at ts i).word) ≡ false → else_or_absent ts room from i ≡ Some ([], y ∷ [], j) → level ts room FinallyPart j ≡ None → kids_behind ks (heads ts room from TryRest i) ≡ None
  try_no_finally j y mark other last =
      let none : heads ts room from TryRest i ≡ None = try_alone ts room from i some mark ∙ rw (other, last) refl in
      rw none refl

  pub handled_alone : (j l : ℕ) (x y : Node) → eqb (class w.Except) (class (token_at ts i).word) ≡ true → level ts room Handlers i ≡ Some (whole x ∷ [], j) → else_or_absent ts room from j ≡ Some ([], y ∷ [], l) → eqb (class w.Finally) (class (token_at ts l).word) ≡ false → ls ≡ ks ++ x ∷ [] → ms ≡ ls ++ y ∷ [] → kids_behind ks (heads ts room from TryRest i) ≡ Some ([], ms, l)
  handled_alone j l x y mark list other stops first second =
      let read : heads ts room from TryRest i ≡ Some ([], x ∷ y ∷ [], l) = try_handled ts room from i j x some mark list ∙ rw (other, stops) refl in
      rw (read, twice ks ls ms x y first second) refl

  pub handled_finally : (j l m : ℕ) (all : List Node) (x y z : Node) → eqb (class w.Except) (class (token_at ts i).word) ≡ true → level ts room Handlers i ≡ Some (whole x ∷ [], j) → else_or_absent ts room from j ≡ Some ([], y ∷ [], l) → eqb (class w.Finally) (class (token_at ts l).word) ≡ true → level ts room FinallyPart l ≡ Some (whole z ∷ [], m) → ls ≡ ks ++ x ∷ [] → ms ≡ ls ++ y ∷ [] → all ≡ ms ++ z ∷ [] → kids_behind ks (heads ts room from TryRest i) ≡ Some ([], all, m)
  handled_finally j l m all x y z mark list other goes last first second third =
      let read : heads ts room from TryRest i ≡ Some ([], x ∷ y ∷ z ∷ [], m) = try_handled ts room from i j x some mark list ∙ rw (other, goes, last) refl in
      rw (read, thrice ks ls ms all x y z first second third) refl

  pub handled_none : eqb (class w.Except) (class (token_at ts i).word) ≡ true → level ts room Handlers i ≡ None → kids_behind ks (heads ts room from TryRest i) ≡ None
  handled_none mark list = rw (try_unhandled ts room from i some mark list) refl

  pub handled_no_else : (j : ℕ) (x : Node) → eqb (class w.Except) (class (token_at ts i).word) ≡ true → level ts room Handlers i ≡ Some (whole x ∷ [], j) → else_or_absent ts room from j ≡ None → kids_behind ks (heads ts room from TryRest i) ≡ None
  handled_no_else j x mark list other =
      let none : heads ts room from TryRest i ≡ None = try_handled ts room from i j x some mark list ∙ rw other refl in
      rw none refl

  pub handled_no_finally : (j l : ℕ) (x y : Node) → eqb (class w.Except) (class (token_at ts i).word) ≡ true → level ts room Handlers i ≡ Some (whole x ∷ [], j) → else_or_absent ts room from j ≡ Some ([], y ∷ [], l) → eqb (class w.Finally) (class (token_at ts l).word) ≡ true → level ts room FinallyPart l ≡ None → kids_behind ks (heads ts room from TryRest i) ≡ None
  handled_no_finally j l x y mark list other goes last =
      let none : heads ts room from TryRest i ≡ None = try_handled ts room from i j x some mark list ∙ rw (other, goes, last) refl in
      rw none refl
