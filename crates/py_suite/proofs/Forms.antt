-- What statements read in parts.
use Rattle.std.proofs.Common.{◌≡◌, ℕ, zero, suc, ◌+◌, ◌-◌, ◌<◌, List, [], ◌∷◌, ◌++◌, length, refl, ap, sym, ◌∙◌, arith, add-one, append_assoc, eqb, true, false, Bool, Option, Some, None, cond}
use Rattle.std.specs.Prelude.{◌||◌, Result, Ok, Err, IsErrAnd}
use Rattle.node_tree.specs.Gives.{Gives}
use Rattle.node_tree.specs.declared.fault.ReadFault.{ReadFault}
use Rattle.node_tree.specs.declared.fault.ReadFault.TheVariants as faults
use Rattle.std.proofs.lemmas.List.{append-nil}
use Rattle.node_tree.specs.declared.node.Node.{Node}
use Rattle.node_tree.specs.declared.kind.Kind.{Kind}
use Rattle.node_tree.specs.declared.kind.Kind.TheVariants as k
use Rattle.grammar.specs.Rule.{has, ref, opt}
use Rattle.grammar.specs.Reader.{◌>>=◌}
use Rattle.py_expr.specs.declared.item.Item.{Item}
use Rattle.py_expr.specs.declared.word.Word.TheVariants as w
use Rattle.py_expr.specs.declared.level.PyLevel.TheVariants as levels
use Rattle.py_expr.specs.Words.{class}
use Rattle.py_expr.specs.Parts.{Part, whole, lacking, call, more, clauses, display, sign, bounds, wholes, node, nodes_of}
use Rattle.py_expr.specs.Build.{token_at, leaf_of, ident_kind, absent, empty_list}
use Rattle.py_expr.specs.Table as e
use Rattle.py_expr.specs.Table.{names}
use Rattle.py_suite.specs.declared.series.Series.TheVariants as series_of
use Rattle.py_suite.specs.Table.{Expression, Value, Alias, Dotted, Aliases, MoreAliases, Origin, Imported, FromImport, Import, Raise, Annotated, Evaluated, Simple, Line, WithItem, WithItems, Decorator, Decorators, Caught, points, table}
use Rattle.py_suite.specs.Table as rows
use Rattle.py_suite.specs.Build.{end_from, statement, padded, arity, filled, written, pointed}
use Rattle.py_suite.specs.reader.Sets.{sets}
use Rattle.py_suite.specs.reader.Reading.{level, row, along, found, further, further_parts, further_points, more_aliases, more_simples, declared, marked, assigned, caught_name, heads, behind, pointed_behind, are_signs, optional}
use Rattle.py_suite.proofs.Steps.{level_row}

-- ---- kids and words of parts

pub filled_wholes : (from : ℕ) (ns : List Node) → filled from (wholes ns) ≡ ns
filled_wholes from [] = refl
filled_wholes from (n ∷ ns) = ap (λ (ms : List Node). n ∷ ms) (filled_wholes from ns)

pub written_wholes : (ns : List Node) → written (wholes ns) ≡ []
written_wholes [] = refl
written_wholes (n ∷ ns) = written_wholes ns

pub nodes_wholes : (ns : List Node) → nodes_of (wholes ns) ≡ ns
nodes_wholes [] = refl
nodes_wholes (n ∷ ns) = ap (λ (ms : List Node). n ∷ ms) (nodes_wholes ns)

pub written_append : (ps qs : List Part) → written (ps ++ qs) ≡ written ps ++ written qs
written_append [] qs = refl
written_append (whole n ∷ ps) qs = written_append ps qs
written_append (lacking kind text to ns ∷ ps) qs = written_append ps qs
written_append (call to ∷ ps) qs = written_append ps qs
written_append (more ns ∷ ps) qs = written_append ps qs
written_append (clauses ns ∷ ps) qs = written_append ps qs
written_append (display kind text ns ∷ ps) qs = written_append ps qs
written_append (sign text ∷ ps) qs = rw (written_append ps qs) (sym (append_assoc text (written ps) (written qs)))
written_append (bounds ns ms ∷ ps) qs = written_append ps qs

pub filled_append : (from : ℕ) (ps qs : List Part) → filled from (ps ++ qs) ≡ filled from ps ++ filled from qs
filled_append from [] qs = refl
filled_append from (whole n ∷ ps) qs = ap (λ (ms : List Node). n ∷ ms) (filled_append from ps qs)
filled_append from (lacking kind text to ns ∷ ps) qs = ap (λ (ms : List Node). node kind text to to ns ∷ ms) (filled_append from ps qs)
filled_append from (call to ∷ ps) qs = filled_append from ps qs
filled_append from (more [] ∷ ps) qs = ap (λ (ms : List Node). absent from ∷ ms) (filled_append from ps qs)
filled_append from (more (n ∷ ns) ∷ ps) qs = rw (filled_append from ps qs) (sym (append_assoc ((n ∷ ns) ++ []) (filled from ps) (filled from qs)))
filled_append from (clauses [] ∷ ps) qs = ap (λ (ms : List Node). empty_list from ∷ ms) (filled_append from ps qs)
filled_append from (clauses (n ∷ ns) ∷ ps) qs = rw (filled_append from ps qs) (sym (append_assoc ((n ∷ ns) ++ []) (filled from ps) (filled from qs)))
filled_append from (display kind text ns ∷ ps) qs = rw (filled_append from ps qs) (sym (append_assoc (ns ++ []) (filled from ps) (filled from qs)))
filled_append from (sign text ∷ ps) qs = filled_append from ps qs
filled_append from (bounds ns ms ∷ ps) qs = rw (filled_append from ps qs) (sym (append_assoc (ns ++ (ms ++ [])) (filled from ps) (filled from qs)))

pub padded_none : (kind : Kind) (from : ℕ) (ns : List Node) → arity kind ≡ zero → padded kind from ns ≡ ns
padded_none kind from ns h = let none : arity kind - length ns ≡ zero = omega (arith, h) in rw none (append-nil ns)

signs_filled : (from : ℕ) (ps qs : List Part) → are_signs ps ≡ true → filled from (ps ++ qs) ≡ filled from qs
signs_filled from [] qs h = refl
signs_filled from (whole n ∷ ps) qs h = absurd cc
signs_filled from (lacking kind text to ns ∷ ps) qs h = absurd cc
signs_filled from (call to ∷ ps) qs h = absurd cc
signs_filled from (more ns ∷ ps) qs h = absurd cc
signs_filled from (clauses ns ∷ ps) qs h = absurd cc
signs_filled from (display kind text ns ∷ ps) qs h = absurd cc
signs_filled from (sign text ∷ ps) qs h = signs_filled from ps qs h
signs_filled from (bounds ns ms ∷ ps) qs h = absurd cc

signs_nodes : (ps : List Part) → are_signs ps ≡ true → nodes_of ps ≡ []
signs_nodes [] h = refl
signs_nodes (whole n ∷ ps) h = absurd cc
signs_nodes (lacking kind text to ns ∷ ps) h = absurd cc
signs_nodes (call to ∷ ps) h = absurd cc
signs_nodes (more ns ∷ ps) h = absurd cc
signs_nodes (clauses ns ∷ ps) h = absurd cc
signs_nodes (display kind text ns ∷ ps) h = absurd cc
signs_nodes (sign text ∷ ps) h = signs_nodes ps h
signs_nodes (bounds ns ms ∷ ps) h = absurd cc

pub some_same : {A : Type 0} {a b : A} → Some a ≡ Some b → a ≡ b
some_same h = cc

-- a fault that a part gives is that of the whole
pub passed_on : {X Y V W : Type 0} (v : X → V) (u : Y → W) (r : Result X ReadFault) (f : ReadFault) (x : Option W) (y : Option V) → IsErrAnd r (λ e. e ≡ f) → Gives u (Err f) x → (x ≡ None → y ≡ None) → Gives v r y
passed_on v u (Ok a) f x y h g n = absurd h
passed_on v u (Err e) faults.Memory x y h g n = rw h tt
passed_on v u (Err e) faults.NoTree x y h g n = rw h (n g)

-- ---- statements over items in a row

-- a statement of a kind over what is read, and a node over its nodes
abbrev pub stated : List Item → Kind → ℕ → Option (List Part × ℕ) → Option (List Part × ℕ)
stated ts kind i r = ◌>>=◌ {B = List Part × ℕ} r (λ x. Some (statement kind (token_at ts i).span.from (end_from ts i x.1) x.0, x.1))

abbrev pub collected : List Item → Kind → ℕ → Option (List Part × ℕ) → Option (List Part × ℕ)
collected ts kind i r = ◌>>=◌ {B = List Part × ℕ} r (λ x. Some (whole (node kind [] (token_at ts i).span.from (end_from ts i x.1) (nodes_of x.0)) ∷ [], x.1))

pub stated_some : (ts : List Item) (kind : Kind) (i e : ℕ) (r : Option (List Part × ℕ)) (ks : List Node) (n : Node) → r ≡ Some (wholes ks, e) → n ≡ node kind [] (token_at ts i).span.from (end_from ts i e) (padded kind (token_at ts i).span.from ks) → stated ts kind i r ≡ Some (whole n ∷ [], e)
stated_some ts kind i e r ks n h made = rw (h, made) (rw (filled_wholes (token_at ts i).span.from ks, written_wholes ks) refl)

pub stated_none : (ts : List Item) (kind : Kind) (i : ℕ) (r : Option (List Part × ℕ)) → r ≡ None → stated ts kind i r ≡ None
stated_none ts kind i r h = rw h refl

pub ruleset stated_laws = (stated_some, stated_none)

pub collected_some : (ts : List Item) (kind : Kind) (i e : ℕ) (r : Option (List Part × ℕ)) (ks : List Node) (n : Node) → arity kind ≡ zero → r ≡ Some (wholes ks, e) → n ≡ node kind [] (token_at ts i).span.from (end_from ts i e) (padded kind (token_at ts i).span.from ks) → collected ts kind i r ≡ Some (whole n ∷ [], e)
collected_some ts kind i e r ks n none h made = rw (h, made) (rw (nodes_wholes ks, padded_none kind (token_at ts i).span.from ks none) refl)

pub collected_none : (ts : List Item) (kind : Kind) (i : ℕ) (r : Option (List Part × ℕ)) → r ≡ None → collected ts kind i r ≡ None
collected_none ts kind i r h = rw h refl

pub ruleset collected_laws = (collected_some, collected_none)

import_over : (ts : List Item) (room i j : ℕ) (first : Node) (o : Option (List Part × ℕ)) → zero < room → eqb (class w.Import) (class (token_at ts i).word) ≡ true → level ts room Alias (i + 1) ≡ Some (whole first ∷ [], j) → further ts room series_of.Aliases j ≡ o → level ts room Import i ≡ stated ts k.Import i (along (first ∷ []) o)
unfolding further
import_over ts room i j first None h mark item rest = level_row ts room Import i h ∙ rw (mark, rw add-one at item, rest) refl
import_over ts room i j first (Some v) h mark item rest = level_row ts room Import i h ∙ rw (mark, rw add-one at item, rest) refl

pub import_read : (ts : List Item) (room i j : ℕ) (first : Node) → zero < room → eqb (class w.Import) (class (token_at ts i).word) ≡ true → level ts room Alias (i + 1) ≡ Some (whole first ∷ [], j) → level ts room Import i ≡ stated ts k.Import i (along (first ∷ []) (further ts room series_of.Aliases j))
import_read ts room i j first h mark item = import_over ts room i j first (further ts room series_of.Aliases j) h mark item refl

aliases_over : (ts : List Item) (room i j : ℕ) (first : Node) (o : Option (List Part × ℕ)) → zero < room → level ts room Alias i ≡ Some (whole first ∷ [], j) → further ts room series_of.Aliases j ≡ o → level ts room Aliases i ≡ collected ts k.List i (along (first ∷ []) o)
unfolding further
aliases_over ts room i j first None h item rest = level_row ts room Aliases i h ∙ rw (item, rest) refl
aliases_over ts room i j first (Some v) h item rest = level_row ts room Aliases i h ∙ rw (item, rest) refl

pub aliases_read : (ts : List Item) (room i j : ℕ) (first : Node) → zero < room → level ts room Alias i ≡ Some (whole first ∷ [], j) → level ts room Aliases i ≡ collected ts k.List i (along (first ∷ []) (further ts room series_of.Aliases j))
aliases_read ts room i j first h item = aliases_over ts room i j first (further ts room series_of.Aliases j) h item refl

declared_over : (ts : List Item) (room i : ℕ) (kind : Kind) (first : Node) (o : Option (List Part × ℕ)) → has names (class (token_at ts (suc i)).word) ≡ true → first ≡ leaf_of (ident_kind (token_at ts (suc i)).word) (token_at ts (suc i)) → further ts room series_of.Names (suc (suc i)) ≡ o → declared ts room kind i ≡ stated ts kind i (along (first ∷ []) o)
unfolding further
declared_over ts room i kind first None mark is rest = rw (mark, rest) refl
declared_over ts room i kind first (Some v) mark is rest = rw (mark, is, rest) refl

pub declared_read : (ts : List Item) (room i j : ℕ) (kind : Kind) (first : Node) → has names (class (token_at ts (i + 1)).word) ≡ true → first ≡ leaf_of (ident_kind (token_at ts (i + 1)).word) (token_at ts (i + 1)) → j ≡ i + 2 → declared ts room kind i ≡ stated ts kind i (along (first ∷ []) (further ts room series_of.Names j))
declared_read ts room i j kind first mark is next = let two : j ≡ suc (suc i) = omega arith in rw two (declared_over ts room i kind first (further ts room series_of.Names (suc (suc i))) (rw add-one at mark) (rw add-one at is) refl)

values_over : (ts : List Item) (room i j m : ℕ) (first second : Node) (o : Option (List Part × ℕ)) → zero < room → level ts room (Expression e.Exprs) i ≡ Some (whole first ∷ [], j) → eqb (class w.Equal) (class (token_at ts j).word) ≡ true → level ts room Value (j + 1) ≡ Some (whole second ∷ [], m) → further ts room series_of.Values m ≡ o → level ts room Evaluated i ≡ collected ts k.Assign i (along (first ∷ second ∷ []) o)
unfolding further
values_over ts room i j m first second None h item mark later rest = level_row ts room Evaluated i h ∙ rw (item, mark, rw add-one at later, rest) refl
values_over ts room i j m first second (Some v) h item mark later rest = level_row ts room Evaluated i h ∙ rw (item, mark, rw add-one at later, rest) refl

pub values_read : (ts : List Item) (room i j m : ℕ) (first second : Node) → zero < room → level ts room (Expression e.Exprs) i ≡ Some (whole first ∷ [], j) → eqb (class w.Equal) (class (token_at ts j).word) ≡ true → level ts room Value (j + 1) ≡ Some (whole second ∷ [], m) → level ts room Evaluated i ≡ collected ts k.Assign i (along (first ∷ second ∷ []) (further ts room series_of.Values m))
values_read ts room i j m first second h item mark later = values_over ts room i j m first second (further ts room series_of.Values m) h item mark later refl

pub augmented_read : (ts : List Item) (room i j m : ℕ) (first second n : Node) → zero < room → level ts room (Expression e.Exprs) i ≡ Some (whole first ∷ [], j) → eqb (class w.Equal) (class (token_at ts j).word) ≡ false → eqb (class w.Augmented) (class (token_at ts j).word) ≡ true → level ts room Value (j + 1) ≡ Some (whole second ∷ [], m) → n ≡ node k.AugAssign (token_at ts j).text (token_at ts i).span.from (end_from ts i m) (padded k.AugAssign (token_at ts i).span.from (first ∷ second ∷ [])) → level ts room Evaluated i ≡ Some (whole n ∷ [], m)
augmented_read ts room i j m first second n h item equal mark later made = level_row ts room Evaluated i h ∙ rw (item, equal, mark, rw add-one at later, made) refl

pub ruleset evaluated_laws = (values_read, augmented_read)

-- ---- parts that may lack

pub raise_read : (ts : List Item) (room i j m : ℕ) (first n : Node) (cause : Option Node) → zero < room → eqb (class w.Raise) (class (token_at ts i).word) ≡ true → has (sets.first (Expression e.Test)) (class (token_at ts (i + 1)).word) ≡ true → level ts room (Expression e.Test) (i + 1) ≡ Some (whole first ∷ [], j) → marked ts room w.From levels.Test j ≡ Some (optional (cause, m)) → n ≡ node k.Raise [] (token_at ts i).span.from (end_from ts i m) (padded k.Raise (token_at ts i).span.from (first ∷ found cause)) → level ts room Raise i ≡ Some (whole n ∷ [], m)
raise_read ts room i j m first n None h mark starts item rest made = level_row ts room Raise i h ∙ rw (mark, rw add-one at starts, rw add-one at item, rest, made) refl
raise_read ts room i j m first n (Some x) h mark starts item rest made = level_row ts room Raise i h ∙ rw (mark, rw add-one at starts, rw add-one at item, rest, made) refl

pub annotated_read : (ts : List Item) (room i j l m : ℕ) (first second n : Node) (last : Option Node) → zero < room → level ts room (Expression e.Prim) i ≡ Some (whole first ∷ [], j) → eqb (class w.Colon) (class (token_at ts j).word) ≡ true → level ts room (Expression e.Test) (j + 1) ≡ Some (whole second ∷ [], l) → assigned ts room l ≡ Some (optional (last, m)) → n ≡ node k.AnnAssign [] (token_at ts i).span.from (end_from ts i m) (padded k.AnnAssign (token_at ts i).span.from (first ∷ second ∷ found last)) → level ts room Annotated i ≡ Some (whole n ∷ [], m)
annotated_read ts room i j l m first second n None h item mark later rest made = level_row ts room Annotated i h ∙ rw (item, mark, rw add-one at later, rest, made) refl
annotated_read ts room i j l m first second n (Some x) h item mark later rest made = level_row ts room Annotated i h ∙ rw (item, mark, rw add-one at later, rest, made) refl

-- ---- imports

dotted_over : (ts : List Item) (room i : ℕ) (o : Option (List Part × ℕ)) → zero < room → eqb (class w.Meta) (class (token_at ts i).word) ≡ false → eqb (class w.Name) (class (token_at ts i).word) ≡ true → further_parts ts room (suc i) ≡ o → level ts room Dotted i ≡ ◌>>=◌ {B = List Part × ℕ} o (λ x. Some (whole (node k.Id ((token_at ts i).text ++ pointed x.0) (token_at ts i).span.from (end_from ts i x.1) (nodes_of x.0)) ∷ [], x.1))
unfolding further_parts
dotted_over ts room i None h meta name rest = level_row ts room Dotted i h ∙ rw (meta, name, rest) refl
dotted_over ts room i (Some x) h meta name rest = level_row ts room Dotted i h ∙ rw (meta, name, rest) refl

named : (o : Option (List Part × ℕ)) (s t : List ℕ) (from m : ℕ) (to : ℕ → ℕ) (n : Node) → pointed_behind s o ≡ Some (t, true, m) → n ≡ node k.Id t from (to m) [] → ◌>>=◌ {B = List Part × ℕ} o (λ x. Some (whole (node k.Id (s ++ pointed x.0) from (to x.1) (nodes_of x.0)) ∷ [], x.1)) ≡ Some (whole n ∷ [], m)
named None s t from m to n h made = absurd cc
named (Some x) s t from m to n h made =
    let spelled : s ++ pointed x.0 ≡ t = ap (λ (y : List ℕ × Bool × ℕ). y.0) (some_same h) in
    let signs : are_signs x.0 ≡ true = ap (λ (y : List ℕ × Bool × ℕ). y.1) (some_same h) in
    let ends : x.1 ≡ m = ap (λ (y : List ℕ × Bool × ℕ). y.2) (some_same h) in
    rw (made, spelled, signs_nodes x.0 signs, ends) refl

unnamed : (o : Option (List Part × ℕ)) (s : List ℕ) (f : List Part × ℕ → List Part × ℕ) → pointed_behind s o ≡ None → ◌>>=◌ {B = List Part × ℕ} o (λ x. Some (f x)) ≡ None
unnamed None s f h = refl
unnamed (Some x) s f h = absurd cc

pub dotted_read : (ts : List Item) (room i m : ℕ) (t : List ℕ) (n : Node) → zero < room → eqb (class w.Meta) (class (token_at ts i).word) ≡ false → eqb (class w.Name) (class (token_at ts i).word) ≡ true → pointed_behind (token_at ts i).text (further_parts ts room (i + 1)) ≡ Some (t, true, m) → n ≡ node k.Id t (token_at ts i).span.from (end_from ts i m) [] → level ts room Dotted i ≡ Some (whole n ∷ [], m)
dotted_read ts room i m t n h meta name rest made = dotted_over ts room i (further_parts ts room (suc i)) h meta name refl ∙ named (further_parts ts room (suc i)) (token_at ts i).text t (token_at ts i).span.from m (end_from ts i) n (rw add-one at rest) made

pub dotted_none : (ts : List Item) (room i : ℕ) → zero < room → eqb (class w.Meta) (class (token_at ts i).word) ≡ false → eqb (class w.Name) (class (token_at ts i).word) ≡ true → pointed_behind (token_at ts i).text (further_parts ts room (i + 1)) ≡ None → level ts room Dotted i ≡ None
dotted_none ts room i h meta name rest = dotted_over ts room i (further_parts ts room (suc i)) h meta name refl ∙ unnamed (further_parts ts room (suc i)) (token_at ts i).text (λ x. (whole (node k.Id ((token_at ts i).text ++ pointed x.0) (token_at ts i).span.from (end_from ts i x.1) (nodes_of x.0)) ∷ [], x.1)) (rw add-one at rest)

pub ruleset dotted_laws = (dotted_read, dotted_none)

pub alias_read : (ts : List Item) (room i j m : ℕ) (first second n : Node) → zero < room → has e.dots (class (token_at ts i).word) ≡ false → level ts room Dotted i ≡ Some (whole first ∷ [], j) → eqb (class w.As) (class (token_at ts j).word) ≡ true → has names (class (token_at ts (j + 1)).word) ≡ true → second ≡ leaf_of (ident_kind (token_at ts (j + 1)).word) (token_at ts (j + 1)) → m ≡ j + 2 → n ≡ node k.Alias [] (token_at ts i).span.from (end_from ts i m) (padded k.Alias (token_at ts i).span.from (first ∷ second ∷ [])) → level ts room Alias i ≡ Some (whole n ∷ [], m)
alias_read ts room i j m first second n h dots item mark name is next made = let two : m ≡ suc (suc j) = omega arith in rw (made, is, two, add-one) (level_row ts room Alias i h ∙ rw (dots, item, mark, rw add-one at name) refl)

more_aliases_over : (ts : List Item) (room i j : ℕ) (first : Node) → zero < room → level ts room Alias i ≡ Some (whole first ∷ [], j) → level ts room MoreAliases i ≡ along (first ∷ []) (more_aliases ts room j)
unfolding more_aliases
more_aliases_over ts room i j first h item = level_row ts room MoreAliases i h ∙ rw item refl

abbrev is_empty : List Part → Bool
is_empty [] = true
is_empty (p ∷ ps) = false

pub imported_lost : (ts : List Item) (room i : ℕ) → zero < room → eqb (class w.Times) (class (token_at ts i).word) ≡ false → eqb (class w.LeftRound) (class (token_at ts i).word) ≡ true → level ts room Alias (i + 1) ≡ None → level ts room Imported i ≡ None
imported_lost ts room i h times mark item = level_row ts room Imported i h ∙ rw (times, mark, more_aliases_lost ts room (suc i) h (rw add-one at item)) refl
  where
    more_aliases_lost : (ts : List Item) (room i : ℕ) → zero < room → level ts room Alias i ≡ None → level ts room MoreAliases i ≡ None
    more_aliases_lost ts room i h item = level_row ts room MoreAliases i h ∙ rw item refl

pub imported_read : (ts : List Item) (room i j m : ℕ) (first n : Node) (ks : List Node) → zero < room → eqb (class w.Times) (class (token_at ts i).word) ≡ false → eqb (class w.LeftRound) (class (token_at ts i).word) ≡ true → level ts room Alias (i + 1) ≡ Some (whole first ∷ [], j) → along (first ∷ []) (more_aliases ts room j) ≡ Some (wholes ks, m) → eqb (class w.RightRound) (class (token_at ts m).word) ≡ true
    → n ≡ node k.List [] (token_at ts (i + 1)).span.from (end_from ts (i + 1) m) (padded k.List (token_at ts (i + 1)).span.from ks) → level ts room Imported i ≡ Some (whole n ∷ [], m + 1)
imported_read ts room i j m first n [] h times mark item rest close made = not_empty (more_aliases ts room j) rest
  where
    not_empty : (o : Option (List Part × ℕ)) → along (first ∷ []) o ≡ Some ([], m) → level ts room Imported i ≡ Some (whole n ∷ [], m + 1)
    not_empty None g = absurd cc
    not_empty (Some x) g = let empty : false ≡ true = ap (λ (y : List Part × ℕ). is_empty y.0) (some_same g) in absurd cc
imported_read ts room i j m first n (x ∷ ks) h times mark item rest close made = rw (made, padded_none k.List (token_at ts (i + 1)).span.from (x ∷ ks) refl, add-one, add-one) (level_row ts room Imported i h ∙ rw (times, mark, more_aliases_over ts room (suc i) j first h (rw add-one at item), rest, close, nodes_wholes ks) refl)

pub imported_open : (ts : List Item) (room i j m : ℕ) (first : Node) (ks : List Node) → zero < room → eqb (class w.Times) (class (token_at ts i).word) ≡ false → eqb (class w.LeftRound) (class (token_at ts i).word) ≡ true → level ts room Alias (i + 1) ≡ Some (whole first ∷ [], j) → along (first ∷ []) (more_aliases ts room j) ≡ Some (wholes ks, m) → eqb (class w.RightRound) (class (token_at ts m).word) ≡ false → level ts room Imported i ≡ None
imported_open ts room i j m first ks h times mark item rest close = level_row ts room Imported i h ∙ rw (times, mark, more_aliases_over ts room (suc i) j first h (rw add-one at item), rest, close) refl

pub imported_none : (ts : List Item) (room i j : ℕ) (first : Node) → zero < room → eqb (class w.Times) (class (token_at ts i).word) ≡ false → eqb (class w.LeftRound) (class (token_at ts i).word) ≡ true → level ts room Alias (i + 1) ≡ Some (whole first ∷ [], j) → along (first ∷ []) (more_aliases ts room j) ≡ None → level ts room Imported i ≡ None
imported_none ts room i j first h times mark item rest = level_row ts room Imported i h ∙ rw (times, mark, more_aliases_over ts room (suc i) j first h (rw add-one at item), rest) refl

pub ruleset imported_laws = (imported_read, imported_open, imported_none)

-- points, and what is behind them
points_over : (ts : List Item) (room from i : ℕ) (o : Option (List Part × ℕ)) → zero < room → has points (class (token_at ts i).word) ≡ true → further_points ts room (suc i) ≡ o → heads ts room from Origin i ≡ ◌>>=◌ {B = List ℕ × List Node × ℕ} o (λ x. ◌>>=◌ {B = List ℕ × List Node × ℕ} (row ts room (opt (ref Dotted)) x.1) (λ y. Some ((token_at ts i).text ++ written (x.0 ++ more (nodes_of y.0) ∷ []), filled from (x.0 ++ more (nodes_of y.0) ∷ []), y.1)))
unfolding further_points
points_over ts room from i None h mark rest = rw (level_row ts room Origin i h) (rw (mark, rest) refl)
points_over ts room from i (Some x) h mark rest = rw (level_row ts room Origin i h) (rw (mark, rest) (behind_points (row ts room (opt (ref Dotted)) x.1)))
  where
    behind_points : (o : Option (List Part × ℕ)) → ◌>>=◌ {B = List ℕ × List Node × ℕ} (◌>>=◌ {B = List Part × ℕ} (◌>>=◌ {B = List Part × ℕ} (◌>>=◌ {B = List Part × ℕ} o (λ z. Some (more (nodes_of z.0) ∷ [], z.1))) (λ y. Some (x.0 ++ y.0, y.1))) (λ y. Some (sign (token_at ts i).text ∷ y.0, y.1))) (λ y. Some (written y.0, filled from y.0, y.1)) ≡ ◌>>=◌ {B = List ℕ × List Node × ℕ} o (λ y. Some ((token_at ts i).text ++ written (x.0 ++ more (nodes_of y.0) ∷ []), filled from (x.0 ++ more (nodes_of y.0) ∷ []), y.1))
    behind_points None = refl
    behind_points (Some y) = refl

pub origin_points : (ts : List Item) (room from i m : ℕ) (t : List ℕ) → zero < room → has points (class (token_at ts i).word) ≡ true → behind (token_at ts i).text (further_points ts room (i + 1)) ≡ Some (t, true, m) → has (sets.first Dotted) (class (token_at ts m).word) ≡ false → heads ts room from Origin i ≡ Some (t, absent from ∷ [], m)
origin_points ts room from i m t h mark rest none = points_over ts room from i (further_points ts room (suc i)) h mark refl ∙ over (further_points ts room (suc i)) (rw add-one at rest)
  where
    over : (o : Option (List Part × ℕ)) → behind (token_at ts i).text o ≡ Some (t, true, m) → ◌>>=◌ {B = List ℕ × List Node × ℕ} o (λ x. ◌>>=◌ {B = List ℕ × List Node × ℕ} (row ts room (opt (ref Dotted)) x.1) (λ y. Some ((token_at ts i).text ++ written (x.0 ++ more (nodes_of y.0) ∷ []), filled from (x.0 ++ more (nodes_of y.0) ∷ []), y.1))) ≡ Some (t, absent from ∷ [], m)
    over None g = absurd cc
    over (Some x) g =
        let spelled : (token_at ts i).text ++ written x.0 ≡ t = ap (λ (y : List ℕ × Bool × ℕ). y.0) (some_same g) in
        let signs : are_signs x.0 ≡ true = ap (λ (y : List ℕ × Bool × ℕ). y.1) (some_same g) in
        let ends : x.1 ≡ m = ap (λ (y : List ℕ × Bool × ℕ). y.2) (some_same g) in
        rw (ends, none, signs_filled from x.0 (more [] ∷ []) signs, written_append x.0 (more [] ∷ []), append-nil (written x.0), spelled) refl

pub origin_both : (ts : List Item) (room from i m l : ℕ) (t : List ℕ) (n : Node) → zero < room → has points (class (token_at ts i).word) ≡ true → behind (token_at ts i).text (further_points ts room (i + 1)) ≡ Some (t, true, m) → has (sets.first Dotted) (class (token_at ts m).word) ≡ true → level ts room Dotted m ≡ Some (whole n ∷ [], l) → heads ts room from Origin i ≡ Some (t, n ∷ [], l)
origin_both ts room from i m l t n h mark rest starts name = points_over ts room from i (further_points ts room (suc i)) h mark refl ∙ over (further_points ts room (suc i)) (rw add-one at rest)
  where
    over : (o : Option (List Part × ℕ)) → behind (token_at ts i).text o ≡ Some (t, true, m) → ◌>>=◌ {B = List ℕ × List Node × ℕ} o (λ x. ◌>>=◌ {B = List ℕ × List Node × ℕ} (row ts room (opt (ref Dotted)) x.1) (λ y. Some ((token_at ts i).text ++ written (x.0 ++ more (nodes_of y.0) ∷ []), filled from (x.0 ++ more (nodes_of y.0) ∷ []), y.1))) ≡ Some (t, n ∷ [], l)
    over None g = absurd cc
    over (Some x) g =
        let spelled : (token_at ts i).text ++ written x.0 ≡ t = ap (λ (y : List ℕ × Bool × ℕ). y.0) (some_same g) in
        let signs : are_signs x.0 ≡ true = ap (λ (y : List ℕ × Bool × ℕ). y.1) (some_same g) in
        let ends : x.1 ≡ m = ap (λ (y : List ℕ × Bool × ℕ). y.2) (some_same g) in
        rw (ends, starts, name, signs_filled from x.0 (more (n ∷ []) ∷ []) signs, written_append x.0 (more (n ∷ []) ∷ []), append-nil (written x.0), spelled) refl

pub origin_none : (ts : List Item) (room from i m : ℕ) (t : List ℕ) → zero < room → has points (class (token_at ts i).word) ≡ true → behind (token_at ts i).text (further_points ts room (i + 1)) ≡ Some (t, true, m) → has (sets.first Dotted) (class (token_at ts m).word) ≡ true → level ts room Dotted m ≡ None → heads ts room from Origin i ≡ None
origin_none ts room from i m t h mark rest starts name = points_over ts room from i (further_points ts room (suc i)) h mark refl ∙ over (further_points ts room (suc i)) (rw add-one at rest)
  where
    over : (o : Option (List Part × ℕ)) → behind (token_at ts i).text o ≡ Some (t, true, m) → ◌>>=◌ {B = List ℕ × List Node × ℕ} o (λ x. ◌>>=◌ {B = List ℕ × List Node × ℕ} (row ts room (opt (ref Dotted)) x.1) (λ y. Some ((token_at ts i).text ++ written (x.0 ++ more (nodes_of y.0) ∷ []), filled from (x.0 ++ more (nodes_of y.0) ∷ []), y.1))) ≡ None
    over None g = refl
    over (Some x) g = let ends : x.1 ≡ m = ap (λ (y : List ℕ × Bool × ℕ). y.2) (some_same g) in rw (ends, starts, name) refl

pub origin_lost : (ts : List Item) (room from i : ℕ) → zero < room → has points (class (token_at ts i).word) ≡ true → behind (token_at ts i).text (further_points ts room (i + 1)) ≡ None → heads ts room from Origin i ≡ None
origin_lost ts room from i h mark rest = points_over ts room from i (further_points ts room (suc i)) h mark refl ∙ over (further_points ts room (suc i)) (rw add-one at rest)
  where
    over : (o : Option (List Part × ℕ)) → behind (token_at ts i).text o ≡ None → ◌>>=◌ {B = List ℕ × List Node × ℕ} o (λ x. ◌>>=◌ {B = List ℕ × List Node × ℕ} (row ts room (opt (ref Dotted)) x.1) (λ y. Some ((token_at ts i).text ++ written (x.0 ++ more (nodes_of y.0) ∷ []), filled from (x.0 ++ more (nodes_of y.0) ∷ []), y.1))) ≡ None
    over None g = refl
    over (Some x) g = absurd cc

origin_alone : (ts : List Item) (room i : ℕ) → zero < room → has points (class (token_at ts i).word) ≡ false → level ts room Origin i ≡ level ts room Dotted i
origin_alone ts room i h mark = level_row ts room Origin i h ∙ rw mark refl

pub origin_name : (ts : List Item) (room from i m : ℕ) (n : Node) → zero < room → has points (class (token_at ts i).word) ≡ false → level ts room Dotted i ≡ Some (whole n ∷ [], m) → heads ts room from Origin i ≡ Some ([], n ∷ [], m)
origin_name ts room from i m n h mark name = rw (origin_alone ts room i h mark ∙ name) refl

pub origin_no_name : (ts : List Item) (room from i : ℕ) → zero < room → has points (class (token_at ts i).word) ≡ false → level ts room Dotted i ≡ None → heads ts room from Origin i ≡ None
origin_no_name ts room from i h mark name = rw (origin_alone ts room i h mark ∙ name) refl

pub ruleset origin_laws = (origin_points, origin_both, origin_none, origin_lost, origin_name, origin_no_name)

-- where the kids and words of a part are known
pub from_read : (ts : List Item) (room i j m : ℕ) (t : List ℕ) (first last n : Node) → zero < room → eqb (class w.From) (class (token_at ts i).word) ≡ true → heads ts room (token_at ts i).span.from Origin (i + 1) ≡ Some (t, first ∷ [], j) → eqb (class w.Import) (class (token_at ts j).word) ≡ true → level ts room Imported (j + 1) ≡ Some (whole last ∷ [], m)
    → n ≡ node k.FromImport t (token_at ts i).span.from (end_from ts i m) (padded k.FromImport (token_at ts i).span.from (first ∷ last ∷ [])) → level ts room FromImport i ≡ Some (whole n ∷ [], m)
from_read ts room i j m t first last n h mark origin word list made = level_row ts room FromImport i h ∙ over (level ts room Origin (suc i)) refl (rw add-one at origin)
  where
    over : (o : Option (List Part × ℕ)) → level ts room Origin (suc i) ≡ o → ◌>>=◌ {B = List ℕ × List Node × ℕ} o (λ x. Some (written x.0, filled (token_at ts i).span.from x.0, x.1)) ≡ Some (t, first ∷ [], j) → row ts room (table FromImport) i ≡ Some (whole n ∷ [], m)
    over None is g = absurd cc
    over (Some x) is g =
        let spelled : written x.0 ≡ t = ap (λ (y : List ℕ × List Node × ℕ). y.0) (some_same g) in
        let kids : filled (token_at ts i).span.from x.0 ≡ first ∷ [] = ap (λ (y : List ℕ × List Node × ℕ). y.1) (some_same g) in
        let ends : x.1 ≡ j = ap (λ (y : List ℕ × List Node × ℕ). y.2) (some_same g) in
        rw (mark, is, ends, word, rw add-one at list, written_append x.0 (whole last ∷ []), filled_append (token_at ts i).span.from x.0 (whole last ∷ []), append-nil (written x.0), spelled, kids, made) refl

from_step : (ts : List Item) (room i : ℕ) (o : Option (List Part × ℕ)) → zero < room → level ts room Origin (suc i) ≡ o → o ≡ None → level ts room FromImport i ≡ None
from_step ts room i o h is none = level_row ts room FromImport i h ∙ by_mark (eqb (class w.From) (class (token_at ts i).word)) refl
  where
    by_mark : (b : Bool) → eqb (class w.From) (class (token_at ts i).word) ≡ b → row ts room (table FromImport) i ≡ None
    by_mark true mark = rw (mark, is ∙ none) refl
    by_mark false mark = rw mark refl

pub from_none : (ts : List Item) (room i : ℕ) → zero < room → heads ts room (token_at ts i).span.from Origin (i + 1) ≡ None → level ts room FromImport i ≡ None
from_none ts room i h origin = over (level ts room Origin (suc i)) refl (rw add-one at origin)
  where
    over : (o : Option (List Part × ℕ)) → level ts room Origin (suc i) ≡ o → ◌>>=◌ {B = List ℕ × List Node × ℕ} o (λ x. Some (written x.0, filled (token_at ts i).span.from x.0, x.1)) ≡ None → level ts room FromImport i ≡ None
    over None is g = from_step ts room i None h is refl
    over (Some x) is g = absurd cc

from_behind : (ts : List Item) (room i j : ℕ) (t : List ℕ) (ns : List Node) → zero < room → heads ts room (token_at ts i).span.from Origin (i + 1) ≡ Some (t, ns, j) → ((x : List Part) → level ts room Origin (suc i) ≡ Some (x, j) → level ts room FromImport i ≡ None) → level ts room FromImport i ≡ None
from_behind ts room i j t ns h origin then = over (level ts room Origin (suc i)) refl (rw add-one at origin)
  where
    over : (o : Option (List Part × ℕ)) → level ts room Origin (suc i) ≡ o → ◌>>=◌ {B = List ℕ × List Node × ℕ} o (λ x. Some (written x.0, filled (token_at ts i).span.from x.0, x.1)) ≡ Some (t, ns, j) → level ts room FromImport i ≡ None
    over None is g = absurd cc
    over (Some x) is g = let ends : x.1 ≡ j = ap (λ (y : List ℕ × List Node × ℕ). y.2) (some_same g) in then x.0 (is ∙ rw ends refl)

pub from_wordless : (ts : List Item) (room i j : ℕ) (t : List ℕ) (ns : List Node) → zero < room → heads ts room (token_at ts i).span.from Origin (i + 1) ≡ Some (t, ns, j) → eqb (class w.Import) (class (token_at ts j).word) ≡ false → level ts room FromImport i ≡ None
from_wordless ts room i j t ns h origin word = from_behind ts room i j t ns h origin (λ x is. level_row ts room FromImport i h ∙ by_mark x is (eqb (class w.From) (class (token_at ts i).word)) refl)
  where
    by_mark : (x : List Part) → level ts room Origin (suc i) ≡ Some (x, j) → (b : Bool) → eqb (class w.From) (class (token_at ts i).word) ≡ b → row ts room (table FromImport) i ≡ None
    by_mark x is true mark = rw (mark, is, word) refl
    by_mark x is false mark = rw mark refl

pub from_listless : (ts : List Item) (room i j : ℕ) (t : List ℕ) (ns : List Node) → zero < room → heads ts room (token_at ts i).span.from Origin (i + 1) ≡ Some (t, ns, j) → level ts room Imported (j + 1) ≡ None → level ts room FromImport i ≡ None
from_listless ts room i j t ns h origin list = from_behind ts room i j t ns h origin (λ x is. level_row ts room FromImport i h ∙ by_mark x is (eqb (class w.From) (class (token_at ts i).word)) refl)
  where
    by_word : (x : List Part) → level ts room Origin (suc i) ≡ Some (x, j) → eqb (class w.From) (class (token_at ts i).word) ≡ true → (b : Bool) → eqb (class w.Import) (class (token_at ts j).word) ≡ b → row ts room (table FromImport) i ≡ None
    by_word x is mark true word = rw (mark, is, word, rw add-one at list) refl
    by_word x is mark false word = rw (mark, is, word) refl

    by_mark : (x : List Part) → level ts room Origin (suc i) ≡ Some (x, j) → (b : Bool) → eqb (class w.From) (class (token_at ts i).word) ≡ b → row ts room (table FromImport) i ≡ None
    by_mark x is true mark = by_word x is mark (eqb (class w.Import) (class (token_at ts j).word)) refl
    by_mark x is false mark = rw mark refl

pub ruleset from_laws = (from_read, from_none, from_wordless, from_listless)

-- ---- lines

line_over : (ts : List Item) (room i j : ℕ) (first : Node) → zero < room → level ts room Simple i ≡ Some (whole first ∷ [], j) → (o : Option (List Part × ℕ)) → more_simples ts room j ≡ o → level ts room Line i ≡ ◌>>=◌ {B = List Part × ℕ} (along (first ∷ []) o) (λ x. cond {A = Option (List Part × ℕ)} (eqb (class w.Newline) (class (token_at ts x.1).word)) (Some (x.0, suc x.1)) None)
unfolding more_simples
line_over ts room i j first h item None rest = level_row ts room Line i h ∙ rw (item, rest) refl
line_over ts room i j first h item (Some x) rest = level_row ts room Line i h ∙ rw (item, rest) (newline (eqb (class w.Newline) (class (token_at ts x.1).word)))
  where
    newline : (b : Bool) → ◌>>=◌ {B = List Part × ℕ} (◌>>=◌ {B = List Part × ℕ} (cond {A = Option (List Part × ℕ)} (b || false) (Some ([], suc x.1)) None) (λ y. Some (x.0 ++ y.0, y.1))) (λ y. Some (whole first ∷ y.0, y.1)) ≡ cond {A = Option (List Part × ℕ)} b (Some (whole first ∷ x.0, suc x.1)) None
    newline true = ap (λ (ps : List Part). Some (whole first ∷ ps, suc x.1)) (append-nil x.0)
    newline false = refl

pub line_read : (ts : List Item) (room i j m : ℕ) (first : Node) (ks : List Node) → zero < room → level ts room Simple i ≡ Some (whole first ∷ [], j) → along (first ∷ []) (more_simples ts room j) ≡ Some (wholes ks, m) → eqb (class w.Newline) (class (token_at ts m).word) ≡ true → level ts room Line i ≡ Some (wholes ks, m + 1)
line_read ts room i j m first ks h item rest mark = line_over ts room i j first h item (more_simples ts room j) refl ∙ rw (rest, mark, add-one) refl

pub line_open : (ts : List Item) (room i j m : ℕ) (first : Node) (ks : List Node) → zero < room → level ts room Simple i ≡ Some (whole first ∷ [], j) → along (first ∷ []) (more_simples ts room j) ≡ Some (wholes ks, m) → eqb (class w.Newline) (class (token_at ts m).word) ≡ false → level ts room Line i ≡ None
line_open ts room i j m first ks h item rest mark = line_over ts room i j first h item (more_simples ts room j) refl ∙ rw (rest, mark) refl

pub line_none : (ts : List Item) (room i j : ℕ) (first : Node) → zero < room → level ts room Simple i ≡ Some (whole first ∷ [], j) → along (first ∷ []) (more_simples ts room j) ≡ None → level ts room Line i ≡ None
line_none ts room i j first h item rest = line_over ts room i j first h item (more_simples ts room j) refl ∙ rw rest refl

pub line_lost : (ts : List Item) (room i : ℕ) → zero < room → level ts room Simple i ≡ None → level ts room Line i ≡ None
line_lost ts room i h item = level_row ts room Line i h ∙ rw item refl

pub ruleset line_laws = (line_read, line_open, line_none, line_lost)

-- ---- items of compound statements

with_items_over : (ts : List Item) (room i j : ℕ) (first : Node) (o : Option (List Part × ℕ)) → zero < room → level ts room WithItem i ≡ Some (whole first ∷ [], j) → further ts room series_of.Items j ≡ o → level ts room WithItems i ≡ collected ts k.List i (along (first ∷ []) o)
unfolding further
with_items_over ts room i j first None h item rest = level_row ts room WithItems i h ∙ rw (item, rest) refl
with_items_over ts room i j first (Some v) h item rest = level_row ts room WithItems i h ∙ rw (item, rest) refl

pub with_items_read : (ts : List Item) (room i j : ℕ) (first : Node) → zero < room → level ts room WithItem i ≡ Some (whole first ∷ [], j) → level ts room WithItems i ≡ collected ts k.List i (along (first ∷ []) (further ts room series_of.Items j))
with_items_read ts room i j first h item = with_items_over ts room i j first (further ts room series_of.Items j) h item refl

decorators_over : (ts : List Item) (room i j : ℕ) (first : Node) (o : Option (List Part × ℕ)) → zero < room → level ts room Decorator i ≡ Some (whole first ∷ [], j) → further ts room series_of.Decorators j ≡ o → level ts room Decorators i ≡ collected ts k.List i (along (first ∷ []) o)
unfolding further
decorators_over ts room i j first None h item rest = level_row ts room Decorators i h ∙ rw (item, rest) refl
decorators_over ts room i j first (Some v) h item rest = level_row ts room Decorators i h ∙ rw (item, rest) refl

pub decorators_read : (ts : List Item) (room i j : ℕ) (first : Node) → zero < room → level ts room Decorator i ≡ Some (whole first ∷ [], j) → level ts room Decorators i ≡ collected ts k.List i (along (first ∷ []) (further ts room series_of.Decorators j))
decorators_read ts room i j first h item = decorators_over ts room i j first (further ts room series_of.Decorators j) h item refl

-- ---- parts, as words that count and kids

abbrev pub headed : ℕ → Option (List Part × ℕ) → Option (List ℕ × List Node × ℕ)
headed from o = ◌>>=◌ {B = List ℕ × List Node × ℕ} o (λ x. Some (written x.0, filled from x.0, x.1))

caught_over : (ts : List Item) (room from i j : ℕ) (first : Node) (o : Option (List Part × ℕ)) → zero < room → has (sets.first (Expression e.Test)) (class (token_at ts i).word) ≡ true → level ts room (Expression e.Test) i ≡ Some (whole first ∷ [], j) → row ts 1 rows.caught_name j ≡ o → heads ts room from Caught i ≡ ◌>>=◌ {B = List ℕ × List Node × ℕ} o (λ x. cond {A = Option (List ℕ × List Node × ℕ)} (eqb (class w.Colon) (class (token_at ts x.1).word)) (Some (written x.0, first ∷ filled from x.0, suc x.1)) None)
caught_over ts room from i j first None h starts item rest = rw (level_row ts room Caught i h) (rw (starts, item, rest) refl)
caught_over ts room from i j first (Some x) h starts item rest = rw (level_row ts room Caught i h) (rw (starts, item, rest) (colon (eqb (class w.Colon) (class (token_at ts x.1).word))))
  where
    colon : (b : Bool) → headed from (◌>>=◌ {B = List Part × ℕ} (◌>>=◌ {B = List Part × ℕ} (cond {A = Option (List Part × ℕ)} (b || false) (Some ([], suc x.1)) None) (λ y. Some (x.0 ++ y.0, y.1))) (λ y. Some (whole first ∷ y.0, y.1))) ≡ cond {A = Option (List ℕ × List Node × ℕ)} b (Some (written x.0, first ∷ filled from x.0, suc x.1)) None
    colon true = ap (λ (ps : List Part). Some (written ps, first ∷ filled from ps, suc x.1)) (append-nil x.0)
    colon false = refl

-- what goes by the words that count, the kids and the end alone
known : (o : Option (List Part × ℕ)) (from m : ℕ) (t : List ℕ) (ns : List Node) → headed from o ≡ Some (t, ns, m) → (f : List ℕ → List Node → ℕ → Option (List ℕ × List Node × ℕ)) → ◌>>=◌ {B = List ℕ × List Node × ℕ} o (λ x. f (written x.0) (filled from x.0) x.1) ≡ f t ns m
known None from m t ns g f = absurd cc
known (Some x) from m t ns g f =
    let words : written x.0 ≡ t = ap (λ (y : List ℕ × List Node × ℕ). y.0) (some_same g) in
    let spelled : filled from x.0 ≡ ns = ap (λ (y : List ℕ × List Node × ℕ). y.1) (some_same g) in
    let ends : x.1 ≡ m = ap (λ (y : List ℕ × List Node × ℕ). y.2) (some_same g) in
    rw (words, spelled, ends) refl

pub caught_read : (ts : List Item) (room from i j m : ℕ) (first second : Node) → zero < room → has (sets.first (Expression e.Test)) (class (token_at ts i).word) ≡ true → level ts room (Expression e.Test) i ≡ Some (whole first ∷ [], j) → caught_name ts from j ≡ Some ([], second ∷ [], m) → eqb (class w.Colon) (class (token_at ts m).word) ≡ true → heads ts room from Caught i ≡ Some ([], first ∷ second ∷ [], m + 1)
caught_read ts room from i j m first second h starts item name mark = caught_over ts room from i j first (row ts 1 rows.caught_name j) h starts item refl ∙ (known (row ts 1 rows.caught_name j) from m [] (second ∷ []) name (λ t ns l. cond {A = Option (List ℕ × List Node × ℕ)} (eqb (class w.Colon) (class (token_at ts l).word)) (Some (t, first ∷ ns, suc l)) None) ∙ rw (mark, add-one) refl)

pub caught_open : (ts : List Item) (room from i j m : ℕ) (first second : Node) → zero < room → has (sets.first (Expression e.Test)) (class (token_at ts i).word) ≡ true → level ts room (Expression e.Test) i ≡ Some (whole first ∷ [], j) → caught_name ts from j ≡ Some ([], second ∷ [], m) → eqb (class w.Colon) (class (token_at ts m).word) ≡ false → heads ts room from Caught i ≡ None
caught_open ts room from i j m first second h starts item name mark = caught_over ts room from i j first (row ts 1 rows.caught_name j) h starts item refl ∙ (known (row ts 1 rows.caught_name j) from m [] (second ∷ []) name (λ t ns l. cond {A = Option (List ℕ × List Node × ℕ)} (eqb (class w.Colon) (class (token_at ts l).word)) (Some (t, first ∷ ns, suc l)) None) ∙ rw mark refl)
