-- What compound statements read in parts.
use Rattle.std.proofs.Common.{◌≡◌, ℕ, zero, suc, ◌+◌, ◌-◌, ◌<◌, List, [], ◌∷◌, ◌++◌, refl, ap, ◌∙◌, arith, add-one, eqb, true, false, Option, Some, None}
use Rattle.std.specs.Prelude.{Result}
use Rattle.std.proofs.lemmas.List.{append-nil}
use Rattle.node_tree.specs.Gives.{Gives}
use Rattle.node_tree.specs.declared.fault.ReadFault.{ReadFault}
use Rattle.node_tree.specs.declared.node.Node.{Node}
use Rattle.node_tree.specs.declared.kind.Kind.{Kind}
use Rattle.node_tree.specs.declared.kind.Kind.TheVariants as k
use Rattle.grammar.specs.Rule.{has}
use Rattle.grammar.specs.Reader.{◌>>=◌}
use Rattle.py_expr.specs.declared.item.Item.{Item}
use Rattle.py_expr.specs.declared.word.Word.TheVariants as w
use Rattle.py_expr.specs.Words.{class}
use Rattle.py_expr.specs.Parts.{Part, whole, wholes, node}
use Rattle.py_expr.specs.Build.{token_at, empty_list}
use Rattle.py_expr.specs.Table as e
use Rattle.py_expr.specs.Table.{names}
use Rattle.py_suite.specs.Table.{Expression, Line, Stmts, Stmt, Suite, If, Branches, ElsePart, While, For, ForRest, With, WithRest, Try, TryRest, Def, DefRest, Class, ClassRest, Async, AsyncRest, Decorated, Decorators, DecoratedRest}
use Rattle.py_suite.specs.Build.{end_from, statement, padded, filled, written}
use Rattle.py_suite.specs.reader.Sets.{sets}
use Rattle.py_suite.specs.reader.Reading.{level, along, more_statements, body, condition, some_else, kids_behind}
use Rattle.py_suite.proofs.Steps.{level_row}
use Rattle.py_suite.proofs.Forms.{filled_wholes, written_wholes, written_append, filled_append, some_same, headed}

-- what gives the one gives the other
pub gives_same : {X W : Type 0} (v : X → W) (r : Result X ReadFault) (a b : Option W) → a ≡ b → Gives v r b → Gives v r a
gives_same v r a b same given = rw same given

pub filled_more : (from : ℕ) (ks : List Node) (x : Node) → filled from (wholes ks ++ whole x ∷ []) ≡ ks ++ x ∷ []
filled_more from ks x = filled_append from (wholes ks) (whole x ∷ []) ∙ rw (filled_wholes from ks) refl

pub written_more : (ks : List Node) (x : Node) → written (wholes ks ++ whole x ∷ []) ≡ []
written_more ks x = written_append (wholes ks) (whole x ∷ []) ∙ rw (written_wholes ks) refl

wholes_more : (ks : List Node) (x : Node) → wholes ks ++ whole x ∷ [] ≡ wholes (ks ++ x ∷ [])
wholes_more [] x = refl
wholes_more (y ∷ ks) x = ap (λ (ps : List Part). whole y ∷ ps) (wholes_more ks x)

-- ---- statements and blocks

pub stmts_read : (ts : List Item) (room i j : ℕ) (ks : List Node) → zero < room → level ts room Stmt i ≡ Some (wholes ks, j) → level ts room Stmts i ≡ along ks (more_statements ts room j)
unfolding more_statements
stmts_read ts room i j ks h item = level_row ts room Stmts i h ∙ rw item refl

pub suite_line : (ts : List Item) (room i j : ℕ) (ks : List Node) (n : Node) → zero < room → eqb (class w.Newline) (class (token_at ts i).word) ≡ false → level ts room Line i ≡ Some (wholes ks, j) → n ≡ node k.Block [] (token_at ts i).span.from (end_from ts i j) (padded k.Block (token_at ts i).span.from ks) → level ts room Suite i ≡ Some (whole n ∷ [], j)
suite_line ts room i j ks n h mark line made = level_row ts room Suite i h ∙ rw (mark, line, written_wholes ks, filled_wholes (token_at ts i).span.from ks, made) refl

pub suite_block : (ts : List Item) (room i j : ℕ) (ks : List Node) (n : Node) → zero < room → eqb (class w.Newline) (class (token_at ts i).word) ≡ true → eqb (class w.Indent) (class (token_at ts (i + 1)).word) ≡ true → level ts (room - 1) Stmts (i + 2) ≡ Some (wholes ks, j) → eqb (class w.Dedent) (class (token_at ts j).word) ≡ true → n ≡ node k.Block [] (token_at ts (i + 2)).span.from (end_from ts (i + 2) j) (padded k.Block (token_at ts (i + 2)).span.from ks) → level ts room Suite i ≡ Some (whole n ∷ [], j + 1)
suite_block ts room i j ks n h mark indent inner dedent made =
    let two : i + 2 ≡ suc (suc i) = omega arith in
    rw (add-one) (level_row ts room Suite i h ∙ rw (mark, rw add-one at indent, rw two at inner, dedent, written_wholes ks, filled_wholes (token_at ts (suc (suc i))).span.from ks, rw two at made) refl)

pub suite_open : (ts : List Item) (room i j : ℕ) (ks : List Node) → zero < room → eqb (class w.Newline) (class (token_at ts i).word) ≡ true → eqb (class w.Indent) (class (token_at ts (i + 1)).word) ≡ true → level ts (room - 1) Stmts (i + 2) ≡ Some (wholes ks, j) → eqb (class w.Dedent) (class (token_at ts j).word) ≡ false → level ts room Suite i ≡ None
suite_open ts room i j ks h mark indent inner dedent =
    let two : i + 2 ≡ suc (suc i) = omega arith in
    level_row ts room Suite i h ∙ rw (mark, rw add-one at indent, rw two at inner, dedent) refl

-- ---- conditions

pub if_alone : (ts : List Item) (room i j : ℕ) (ks : List Node) (n : Node) → zero < room → eqb (class w.If) (class (token_at ts i).word) ≡ true → condition ts room (i + 1) ≡ Some (wholes ks, j) → has (sets.first Branches) (class (token_at ts j).word) ≡ false → n ≡ node k.If [] (token_at ts i).span.from (end_from ts i j) (padded k.If (token_at ts i).span.from ks) → level ts room If i ≡ Some (whole n ∷ [], j)
if_alone ts room i j ks n h mark test starts made = level_row ts room If i h ∙ rw (mark, rw add-one at test, starts, append-nil (wholes ks), written_wholes ks, filled_wholes (token_at ts i).span.from ks, made) refl

pub if_more : (ts : List Item) (room i j m : ℕ) (ks all : List Node) (x n : Node) → zero < room → eqb (class w.If) (class (token_at ts i).word) ≡ true → condition ts room (i + 1) ≡ Some (wholes ks, j) → has (sets.first Branches) (class (token_at ts j).word) ≡ true → level ts room Branches j ≡ Some (whole x ∷ [], m) → all ≡ ks ++ x ∷ [] → n ≡ node k.If [] (token_at ts i).span.from (end_from ts i m) (padded k.If (token_at ts i).span.from all) → level ts room If i ≡ Some (whole n ∷ [], m)
if_more ts room i j m ks all x n h mark test starts item pushed made = level_row ts room If i h ∙ rw (mark, rw add-one at test, starts, item, written_more ks x, filled_more (token_at ts i).span.from ks x, made, pushed) refl

pub branches_alone : (ts : List Item) (room i j : ℕ) (ks : List Node) (n : Node) → zero < room → eqb (class w.Elif) (class (token_at ts i).word) ≡ true → condition ts room (i + 1) ≡ Some (wholes ks, j) → has (sets.first Branches) (class (token_at ts j).word) ≡ false → n ≡ node k.If [] (token_at ts i).span.from (end_from ts i j) (padded k.If (token_at ts i).span.from ks) → level ts room Branches i ≡ Some (whole n ∷ [], j)
branches_alone ts room i j ks n h mark test starts made = level_row ts room Branches i h ∙ rw (mark, rw add-one at test, starts, append-nil (wholes ks), written_wholes ks, filled_wholes (token_at ts i).span.from ks, made) refl

pub branches_more : (ts : List Item) (room i j m : ℕ) (ks all : List Node) (x n : Node) → zero < room → eqb (class w.Elif) (class (token_at ts i).word) ≡ true → condition ts room (i + 1) ≡ Some (wholes ks, j) → has (sets.first Branches) (class (token_at ts j).word) ≡ true → level ts (room - 1) Branches j ≡ Some (whole x ∷ [], m) → all ≡ ks ++ x ∷ [] → n ≡ node k.If [] (token_at ts i).span.from (end_from ts i m) (padded k.If (token_at ts i).span.from all) → level ts room Branches i ≡ Some (whole n ∷ [], m)
branches_more ts room i j m ks all x n h mark test starts item pushed made = level_row ts room Branches i h ∙ rw (mark, rw add-one at test, starts, item, written_more ks x, filled_more (token_at ts i).span.from ks x, made, pushed) refl

-- ---- what may have an else part

pub else_alone : (ts : List Item) (room i : ℕ) (ks : List Node) → eqb (class w.Else) (class (token_at ts i).word) ≡ false → along ks (some_else ts room i) ≡ Some (wholes ks, i)
else_alone ts room i ks mark = rw mark (ap (λ (ps : List Part). Some (ps, i)) (append-nil (wholes ks)))

pub else_more : (ts : List Item) (room i j : ℕ) (ks all : List Node) (x : Node) → eqb (class w.Else) (class (token_at ts i).word) ≡ true → level ts room ElsePart i ≡ Some (whole x ∷ [], j) → all ≡ ks ++ x ∷ [] → along ks (some_else ts room i) ≡ Some (wholes all, j)
else_more ts room i j ks all x mark item pushed = rw (mark, item, pushed) (ap (λ (ps : List Part). Some (ps, j)) (wholes_more ks x))

pub else_lost : (ts : List Item) (room i : ℕ) (ks : List Node) → eqb (class w.Else) (class (token_at ts i).word) ≡ true → level ts room ElsePart i ≡ None → along ks (some_else ts room i) ≡ None
else_lost ts room i ks mark item = rw (mark, item) refl

-- a statement over parts of which the last may lack
after_else : (o : Option (List Part × ℕ)) (kind : Kind) (from m : ℕ) (to : ℕ → ℕ) (ks all : List Node) → along ks o ≡ Some (wholes all, m) → ◌>>=◌ {B = List Part × ℕ} o (λ x. Some (statement kind from (to x.1) (wholes ks ++ x.0), x.1)) ≡ Some (whole (node kind [] from (to m) (padded kind from all)) ∷ [], m)
after_else None kind from m to ks all g = absurd cc
after_else (Some x) kind from m to ks all g =
    let parts : wholes ks ++ x.0 ≡ wholes all = ap (λ (y : List Part × ℕ). y.0) (some_same g) in
    let ends : x.1 ≡ m = ap (λ (y : List Part × ℕ). y.1) (some_same g) in
    rw (parts, ends, written_wholes all, filled_wholes from all) refl

no_else : (o : Option (List Part × ℕ)) (ks : List Node) (f : List Part × ℕ → List Part × ℕ) → along ks o ≡ None → ◌>>=◌ {B = List Part × ℕ} o (λ x. Some (f x)) ≡ None
no_else None ks f g = refl
no_else (Some x) ks f g = absurd cc

while_over : (ts : List Item) (room i j : ℕ) (ks : List Node) (o : Option (List Part × ℕ)) → zero < room → eqb (class w.While) (class (token_at ts i).word) ≡ true → condition ts room (i + 1) ≡ Some (wholes ks, j) → some_else ts room j ≡ o → level ts room While i ≡ ◌>>=◌ {B = List Part × ℕ} o (λ x. Some (statement k.While (token_at ts i).span.from (end_from ts i x.1) (wholes ks ++ x.0), x.1))
while_over ts room i j ks None h mark test rest = level_row ts room While i h ∙ rw (mark, rw add-one at test, rest) refl
while_over ts room i j ks (Some x) h mark test rest = level_row ts room While i h ∙ rw (mark, rw add-one at test, rest) refl

pub while_read : (ts : List Item) (room i j m : ℕ) (ks all : List Node) (n : Node) → zero < room → eqb (class w.While) (class (token_at ts i).word) ≡ true → condition ts room (i + 1) ≡ Some (wholes ks, j) → along ks (some_else ts room j) ≡ Some (wholes all, m) → n ≡ node k.While [] (token_at ts i).span.from (end_from ts i m) (padded k.While (token_at ts i).span.from all) → level ts room While i ≡ Some (whole n ∷ [], m)
while_read ts room i j m ks all n h mark test rest made = rw made (while_over ts room i j ks (some_else ts room j) h mark test refl ∙ after_else (some_else ts room j) k.While (token_at ts i).span.from m (end_from ts i) ks all rest)

pub while_none : (ts : List Item) (room i j : ℕ) (ks : List Node) → zero < room → eqb (class w.While) (class (token_at ts i).word) ≡ true → condition ts room (i + 1) ≡ Some (wholes ks, j) → along ks (some_else ts room j) ≡ None → level ts room While i ≡ None
while_none ts room i j ks h mark test rest = while_over ts room i j ks (some_else ts room j) h mark test refl ∙ no_else (some_else ts room j) ks (λ x. (statement k.While (token_at ts i).span.from (end_from ts i x.1) (wholes ks ++ x.0), x.1)) rest

for_rest_over : (ts : List Item) (room i j l m : ℕ) (a b c : Node) (o : Option (List Part × ℕ)) → zero < room → level ts room (Expression e.Targs) i ≡ Some (whole a ∷ [], j) → eqb (class w.In) (class (token_at ts j).word) ≡ true → level ts room (Expression e.Exprs) (j + 1) ≡ Some (whole b ∷ [], l) → body ts room l ≡ Some (whole c ∷ [], m) → some_else ts room m ≡ o → level ts room ForRest i ≡ along (a ∷ b ∷ c ∷ []) o
for_rest_over ts room i j l m a b c None h target mark values block rest = level_row ts room ForRest i h ∙ rw (target, mark, rw add-one at values, block, rest) refl
for_rest_over ts room i j l m a b c (Some x) h target mark values block rest = level_row ts room ForRest i h ∙ rw (target, mark, rw add-one at values, block, rest) refl

pub for_rest_read : (ts : List Item) (room i j l m : ℕ) (a b c : Node) → zero < room → level ts room (Expression e.Targs) i ≡ Some (whole a ∷ [], j) → eqb (class w.In) (class (token_at ts j).word) ≡ true → level ts room (Expression e.Exprs) (j + 1) ≡ Some (whole b ∷ [], l) → body ts room l ≡ Some (whole c ∷ [], m) → level ts room ForRest i ≡ along (a ∷ b ∷ c ∷ []) (some_else ts room m)
for_rest_read ts room i j l m a b c h target mark values block = for_rest_over ts room i j l m a b c (some_else ts room m) h target mark values block refl

pub for_read : (ts : List Item) (room i j : ℕ) (ks : List Node) (n : Node) → zero < room → eqb (class w.For) (class (token_at ts i).word) ≡ true → level ts room ForRest (i + 1) ≡ Some (wholes ks, j) → n ≡ node k.For [] (token_at ts i).span.from (end_from ts i j) (padded k.For (token_at ts i).span.from ks) → level ts room For i ≡ Some (whole n ∷ [], j)
for_read ts room i j ks n h mark rest made = level_row ts room For i h ∙ rw (mark, rw add-one at rest, written_wholes ks, filled_wholes (token_at ts i).span.from ks, made) refl

pub with_read : (ts : List Item) (room i j : ℕ) (ks : List Node) (n : Node) → zero < room → eqb (class w.With) (class (token_at ts i).word) ≡ true → level ts room WithRest (i + 1) ≡ Some (wholes ks, j) → n ≡ node k.With [] (token_at ts i).span.from (end_from ts i j) (padded k.With (token_at ts i).span.from ks) → level ts room With i ≡ Some (whole n ∷ [], j)
with_read ts room i j ks n h mark rest made = level_row ts room With i h ∙ rw (mark, rw add-one at rest, written_wholes ks, filled_wholes (token_at ts i).span.from ks, made) refl

pub waited_for : (ts : List Item) (room i j : ℕ) (ks : List Node) (n : Node) → zero < room → eqb (class w.Async) (class (token_at ts i).word) ≡ true → eqb (class w.For) (class (token_at ts (i + 1)).word) ≡ true → level ts room ForRest (i + 2) ≡ Some (wholes ks, j) → n ≡ node k.For (token_at ts i).text (token_at ts i).span.from (end_from ts i j) (padded k.For (token_at ts i).span.from ks) → level ts room Async i ≡ Some (whole n ∷ [], j)
waited_for ts room i j ks n h mark word rest made =
    let two : i + 2 ≡ suc (suc i) = omega arith in
    level_row ts room Async i h ∙ rw (mark, level_row ts room AsyncRest (suc i) h) (rw (rw add-one at word, rw two at rest, written_wholes ks, append-nil (token_at ts i).text, filled_wholes (token_at ts i).span.from ks, made) refl)

pub waited_with : (ts : List Item) (room i j : ℕ) (ks : List Node) (n : Node) → zero < room → eqb (class w.Async) (class (token_at ts i).word) ≡ true → eqb (class w.For) (class (token_at ts (i + 1)).word) ≡ false → eqb (class w.With) (class (token_at ts (i + 1)).word) ≡ true → level ts room WithRest (i + 2) ≡ Some (wholes ks, j) → n ≡ node k.With (token_at ts i).text (token_at ts i).span.from (end_from ts i j) (padded k.With (token_at ts i).span.from ks) → level ts room Async i ≡ Some (whole n ∷ [], j)
waited_with ts room i j ks n h mark word other rest made =
    let two : i + 2 ≡ suc (suc i) = omega arith in
    level_row ts room Async i h ∙ rw (mark, level_row ts room AsyncRest (suc i) h) (rw (rw add-one at word, rw add-one at other, rw two at rest, written_wholes ks, append-nil (token_at ts i).text, filled_wholes (token_at ts i).span.from ks, made) refl)

-- ---- what goes by words that count and kids

behind_read : (o : Option (List Part × ℕ)) (kind : Kind) (from m : ℕ) (to : ℕ → ℕ) (ns all : List Node) (s t : List ℕ) → kids_behind ns (headed from o) ≡ Some (t, all, m) → ◌>>=◌ {B = List Part × ℕ} o (λ x. Some (whole (node kind (s ++ written x.0) from (to x.1) (padded kind from (ns ++ filled from x.0))) ∷ [], x.1)) ≡ Some (whole (node kind (s ++ t) from (to m) (padded kind from all)) ∷ [], m)
behind_read None kind from m to ns all s t g = absurd cc
behind_read (Some x) kind from m to ns all s t g =
    let words : written x.0 ≡ t = ap (λ (y : List ℕ × List Node × ℕ). y.0) (some_same g) in
    let spelled : ns ++ filled from x.0 ≡ all = ap (λ (y : List ℕ × List Node × ℕ). y.1) (some_same g) in
    let ends : x.1 ≡ m = ap (λ (y : List ℕ × List Node × ℕ). y.2) (some_same g) in
    rw (words, spelled, ends) refl

behind_lost : (o : Option (List Part × ℕ)) (from : ℕ) (ns : List Node) (f : List Part × ℕ → List Part × ℕ) → kids_behind ns (headed from o) ≡ None → ◌>>=◌ {B = List Part × ℕ} o (λ x. Some (f x)) ≡ None
behind_lost None from ns f g = refl
behind_lost (Some x) from ns f g = absurd cc

-- a statement over kids, a text and what a level reads
abbrev pub over_rest : List Item → Kind → ℕ → List ℕ → List Node → Option (List Part × ℕ) → Option (List Part × ℕ)
over_rest ts kind i s ns o = ◌>>=◌ {B = List Part × ℕ} o (λ x. Some (whole (node kind (s ++ written x.0) (token_at ts i).span.from (end_from ts i x.1) (padded kind (token_at ts i).span.from (ns ++ filled (token_at ts i).span.from x.0))) ∷ [], x.1))

pub over_read : (ts : List Item) (kind : Kind) (i m : ℕ) (s : List ℕ) (ns all : List Node) (n : Node) (o : Option (List Part × ℕ)) (from : ℕ) → from ≡ (token_at ts i).span.from → kids_behind ns (headed from o) ≡ Some ([], all, m) → n ≡ node kind s (token_at ts i).span.from (end_from ts i m) (padded kind (token_at ts i).span.from all) → over_rest ts kind i s ns o ≡ Some (whole n ∷ [], m)
over_read ts kind i m s ns all n o from begins g made = rw made (behind_read o kind (token_at ts i).span.from m (end_from ts i) ns all s [] (rw begins at g) ∙ rw (append-nil s) refl)

pub over_lost : (ts : List Item) (kind : Kind) (i : ℕ) (s : List ℕ) (ns : List Node) (o : Option (List Part × ℕ)) (from : ℕ) → kids_behind ns (headed from o) ≡ None → over_rest ts kind i s ns o ≡ None
over_lost ts kind i s ns o from g = behind_lost o from ns (λ x. (whole (node kind (s ++ written x.0) (token_at ts i).span.from (end_from ts i x.1) (padded kind (token_at ts i).span.from (ns ++ filled (token_at ts i).span.from x.0))) ∷ [], x.1)) g

tried_by : (ts : List Item) (room i j : ℕ) (b : Node) (o : Option (List Part × ℕ)) → zero < room → eqb (class w.Try) (class (token_at ts i).word) ≡ true → body ts room (i + 1) ≡ Some (whole b ∷ [], j) → level ts room TryRest j ≡ o → level ts room Try i ≡ over_rest ts k.Try i [] (b ∷ []) o
tried_by ts room i j b None h mark block rest = level_row ts room Try i h ∙ rw (mark, rw add-one at block, rest) refl
tried_by ts room i j b (Some x) h mark block rest = level_row ts room Try i h ∙ rw (mark, rw add-one at block, rest) refl

pub tried_over : (ts : List Item) (room i j : ℕ) (b : Node) → zero < room → eqb (class w.Try) (class (token_at ts i).word) ≡ true → body ts room (i + 1) ≡ Some (whole b ∷ [], j) → level ts room Try i ≡ over_rest ts k.Try i [] (b ∷ []) (level ts room TryRest j)
tried_over ts room i j b h mark block = tried_by ts room i j b (level ts room TryRest j) h mark block refl

def_by : (ts : List Item) (room i : ℕ) (o : Option (List Part × ℕ)) → zero < room → eqb (class w.Def) (class (token_at ts i).word) ≡ true → level ts room DefRest (i + 1) ≡ o → level ts room Def i ≡ over_rest ts k.FunctionDef i [] (empty_list (token_at ts i).span.from ∷ []) o
def_by ts room i None h mark rest = level_row ts room Def i h ∙ rw (mark, rw add-one at rest) refl
def_by ts room i (Some x) h mark rest = level_row ts room Def i h ∙ rw (mark, rw add-one at rest) refl

pub def_over : (ts : List Item) (room i : ℕ) → zero < room → eqb (class w.Def) (class (token_at ts i).word) ≡ true → level ts room Def i ≡ over_rest ts k.FunctionDef i [] (empty_list (token_at ts i).span.from ∷ []) (level ts room DefRest (i + 1))
def_over ts room i h mark = def_by ts room i (level ts room DefRest (i + 1)) h mark refl

class_by : (ts : List Item) (room i : ℕ) (o : Option (List Part × ℕ)) → zero < room → eqb (class w.Class) (class (token_at ts i).word) ≡ true → level ts room ClassRest (i + 1) ≡ o → level ts room Class i ≡ over_rest ts k.ClassDef i [] (empty_list (token_at ts i).span.from ∷ []) o
class_by ts room i None h mark rest = level_row ts room Class i h ∙ rw (mark, rw add-one at rest) refl
class_by ts room i (Some x) h mark rest = level_row ts room Class i h ∙ rw (mark, rw add-one at rest) refl

pub class_over : (ts : List Item) (room i : ℕ) → zero < room → eqb (class w.Class) (class (token_at ts i).word) ≡ true → level ts room Class i ≡ over_rest ts k.ClassDef i [] (empty_list (token_at ts i).span.from ∷ []) (level ts room ClassRest (i + 1))
class_over ts room i h mark = class_by ts room i (level ts room ClassRest (i + 1)) h mark refl

waited_by : (ts : List Item) (room i : ℕ) (o : Option (List Part × ℕ)) → zero < room → eqb (class w.Async) (class (token_at ts i).word) ≡ true → eqb (class w.For) (class (token_at ts (suc i)).word) ≡ false → eqb (class w.With) (class (token_at ts (suc i)).word) ≡ false → eqb (class w.Def) (class (token_at ts (suc i)).word) ≡ true → level ts room DefRest (suc (suc i)) ≡ o → level ts room Async i ≡ over_rest ts k.FunctionDef i (token_at ts i).text (empty_list (token_at ts i).span.from ∷ []) o
waited_by ts room i None h mark first second third rest = level_row ts room Async i h ∙ rw (mark, level_row ts room AsyncRest (suc i) h) (rw (first, second, third, rest) refl)
waited_by ts room i (Some x) h mark first second third rest = level_row ts room Async i h ∙ rw (mark, level_row ts room AsyncRest (suc i) h) (rw (first, second, third, rest) refl)

pub waited_over : (ts : List Item) (room i : ℕ) → zero < room → eqb (class w.Async) (class (token_at ts i).word) ≡ true → eqb (class w.For) (class (token_at ts (i + 1)).word) ≡ false → eqb (class w.With) (class (token_at ts (i + 1)).word) ≡ false → eqb (class w.Def) (class (token_at ts (i + 1)).word) ≡ true → level ts room Async i ≡ over_rest ts k.FunctionDef i (token_at ts i).text (empty_list (token_at ts i).span.from ∷ []) (level ts room DefRest (i + 2))
waited_over ts room i h mark first second third =
    let two : i + 2 ≡ suc (suc i) = omega arith in
    rw two (waited_by ts room i (level ts room DefRest (suc (suc i))) h mark (rw add-one at first) (rw add-one at second) (rw add-one at third) refl)

decorated_async_by : (ts : List Item) (room i j : ℕ) (l : Node) (o : Option (List Part × ℕ)) → zero < room → level ts room Decorators i ≡ Some (whole l ∷ [], j) → eqb (class w.Async) (class (token_at ts j).word) ≡ true → eqb (class w.Def) (class (token_at ts (suc j)).word) ≡ true → level ts room DefRest (suc (suc j)) ≡ o → level ts room Decorated i ≡ over_rest ts k.FunctionDef i (token_at ts j).text (l ∷ []) o
decorated_async_by ts room i j l None h list mark word rest = level_row ts room Decorated i h ∙ rw (list, level_row ts room DecoratedRest j h) (rw (mark, word, rest) refl)
decorated_async_by ts room i j l (Some x) h list mark word rest = level_row ts room Decorated i h ∙ rw (list, level_row ts room DecoratedRest j h) (rw (mark, word, rest) refl)

pub decorated_async : (ts : List Item) (room i j : ℕ) (l : Node) → zero < room → level ts room Decorators i ≡ Some (whole l ∷ [], j) → eqb (class w.Async) (class (token_at ts j).word) ≡ true → eqb (class w.Def) (class (token_at ts (j + 1)).word) ≡ true → level ts room Decorated i ≡ over_rest ts k.FunctionDef i (token_at ts j).text (l ∷ []) (level ts room DefRest (j + 2))
decorated_async ts room i j l h list mark word =
    let two : j + 2 ≡ suc (suc j) = omega arith in
    rw two (decorated_async_by ts room i j l (level ts room DefRest (suc (suc j))) h list mark (rw add-one at word) refl)

decorated_def_by : (ts : List Item) (room i j : ℕ) (l : Node) (o : Option (List Part × ℕ)) → zero < room → level ts room Decorators i ≡ Some (whole l ∷ [], j) → eqb (class w.Async) (class (token_at ts j).word) ≡ false → eqb (class w.Def) (class (token_at ts j).word) ≡ true → level ts room DefRest (j + 1) ≡ o → level ts room Decorated i ≡ over_rest ts k.FunctionDef i [] (l ∷ []) o
decorated_def_by ts room i j l None h list mark word rest = level_row ts room Decorated i h ∙ rw (list, level_row ts room DecoratedRest j h) (rw (mark, word, rw add-one at rest) refl)
decorated_def_by ts room i j l (Some x) h list mark word rest = level_row ts room Decorated i h ∙ rw (list, level_row ts room DecoratedRest j h) (rw (mark, word, rw add-one at rest) refl)

pub decorated_def : (ts : List Item) (room i j : ℕ) (l : Node) → zero < room → level ts room Decorators i ≡ Some (whole l ∷ [], j) → eqb (class w.Async) (class (token_at ts j).word) ≡ false → eqb (class w.Def) (class (token_at ts j).word) ≡ true → level ts room Decorated i ≡ over_rest ts k.FunctionDef i [] (l ∷ []) (level ts room DefRest (j + 1))
decorated_def ts room i j l h list mark word = decorated_def_by ts room i j l (level ts room DefRest (j + 1)) h list mark word refl

decorated_class_by : (ts : List Item) (room i j : ℕ) (l : Node) (o : Option (List Part × ℕ)) → zero < room → level ts room Decorators i ≡ Some (whole l ∷ [], j) → eqb (class w.Async) (class (token_at ts j).word) ≡ false → eqb (class w.Def) (class (token_at ts j).word) ≡ false → eqb (class w.Class) (class (token_at ts j).word) ≡ true → level ts room ClassRest (j + 1) ≡ o → level ts room Decorated i ≡ over_rest ts k.ClassDef i [] (l ∷ []) o
decorated_class_by ts room i j l None h list first second mark rest = level_row ts room Decorated i h ∙ rw (list, level_row ts room DecoratedRest j h) (rw (first, second, mark, rw add-one at rest) refl)
decorated_class_by ts room i j l (Some x) h list first second mark rest = level_row ts room Decorated i h ∙ rw (list, level_row ts room DecoratedRest j h) (rw (first, second, mark, rw add-one at rest) refl)

pub decorated_class : (ts : List Item) (room i j : ℕ) (l : Node) → zero < room → level ts room Decorators i ≡ Some (whole l ∷ [], j) → eqb (class w.Async) (class (token_at ts j).word) ≡ false → eqb (class w.Def) (class (token_at ts j).word) ≡ false → eqb (class w.Class) (class (token_at ts j).word) ≡ true → level ts room Decorated i ≡ over_rest ts k.ClassDef i [] (l ∷ []) (level ts room ClassRest (j + 1))
decorated_class ts room i j l h list first second mark = decorated_class_by ts room i j l (level ts room ClassRest (j + 1)) h list first second mark refl

-- ---- parts in a row, as words that count and kids

pub two_heads : (from : ℕ) (P : Option (List Part × ℕ)) (B : ℕ → Option (List Part × ℕ)) → headed from (◌>>=◌ {B = List Part × ℕ} P (λ p. ◌>>=◌ {B = List Part × ℕ} (B p.1) (λ b. Some (p.0 ++ b.0, b.1)))) ≡ ◌>>=◌ {B = List ℕ × List Node × ℕ} (headed from P) (λ p. ◌>>=◌ {B = List ℕ × List Node × ℕ} (headed from (B p.2)) (λ b. Some (p.0 ++ b.0, p.1 ++ b.1, b.2)))
two_heads from None B = refl
two_heads from (Some p) B = last (B p.1)
  where
    last : (o : Option (List Part × ℕ)) → headed from (◌>>=◌ {B = List Part × ℕ} o (λ b. Some (p.0 ++ b.0, b.1))) ≡ ◌>>=◌ {B = List ℕ × List Node × ℕ} (headed from o) (λ b. Some (written p.0 ++ b.0, filled from p.0 ++ b.1, b.2))
    last None = refl
    last (Some b) = rw (written_append p.0 b.0, filled_append from p.0 b.0) refl

pub one_head : (from : ℕ) (x : Node) (o : Option (List Part × ℕ)) → headed from (◌>>=◌ {B = List Part × ℕ} o (λ y. Some (whole x ∷ y.0, y.1))) ≡ ◌>>=◌ {B = List ℕ × List Node × ℕ} (headed from o) (λ y. Some (y.0, x ∷ y.1, y.2))
one_head from x None = refl
one_head from x (Some y) = refl
