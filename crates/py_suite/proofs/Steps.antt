-- The reader of a level, one step.
use Rattle.std.proofs.Common.{◌≡◌, ℕ, zero, suc, ◌<◌, List, length, refl, arith, None}
use Rattle.grammar.proofs.Stable.{room_step}
use Rattle.grammar.proofs.Renamed.{same_reading}
use Rattle.py_expr.specs.declared.item.Item.{Item}
use Rattle.py_expr.specs.Build.{source as known_source}
use Rattle.py_expr.specs.Table as e
use Rattle.py_expr.specs.reader.Sets as es
use Rattle.py_expr.specs.reader.Reading as known
use Rattle.py_expr.proofs.Passes.{pass as known_pass}
use Rattle.py_suite.specs.Table.{Level, Expression, Value_of, table, grammar, Value, Stmts, Stmt, Line, Simple, Worded, Naming, Global, Nonlocal, Annotated, Evaluated, Return, Delete, Raise, Assert, Import, Alias, Dotted, FromImport, Origin, Imported, Aliases, MoreAliases, Suite, Compound, If, Branches, ElsePart, While, For, ForRest, With, WithRest, WithItems, WithItem, Try, TryRest, Handlers, Handler, Caught, FinallyPart, Def, DefRest, Parameters, Class, ClassRest, Bases, Async, AsyncRest, Decorated, Decorators, Decorator, DecoratedRest}
use Rattle.py_suite.specs.Build.{source}
use Rattle.py_suite.specs.reader.Sets.{sets, ranks}
use Rattle.py_suite.specs.reader.Reading.{level, row}
use Rattle.py_suite.proofs.Passes.{pass}

pub level_none : (ts : List Item) (room : ℕ) (l : Level) (i : ℕ) → room ≡ zero → level ts room l i ≡ None
unfolding level
level_none ts room l i h = rw h refl

pub level_row : (ts : List Item) (room : ℕ) (l : Level) (i : ℕ) → zero < room → level ts room l i ≡ row ts room (table l) i
unfolding level
level_row ts room l i h = room_step (source ts) sets (suc (length ts)) grammar ranks pass room l i h

-- a level of expressions reads here what it reads by itself
pub expression_step : (ts : List Item) (room : ℕ) (l : e.Level) (i : ℕ) → level ts room (Expression l) i ≡ known.level ts room l i
unfolding level known.level
expression_step ts room l i = same_reading Value_of Expression (known_source ts) (source ts) refl (λ k n. refl) (λ b j k ys. refl) e.grammar es.sets es.ranks known_pass table sets (λ l. refl) (λ l. refl) (λ l. refl) (suc (length ts)) ranks.top (omega arith) room l i

pub value_step : (ts : List Item) (room i : ℕ) → zero < room → level ts room Value i ≡ row ts room (table Value) i
value_step ts room i h = level_row ts room Value i h

pub stmt_step : (ts : List Item) (room i : ℕ) → zero < room → level ts room Stmt i ≡ row ts room (table Stmt) i
stmt_step ts room i h = level_row ts room Stmt i h

pub line_step : (ts : List Item) (room i : ℕ) → zero < room → level ts room Line i ≡ row ts room (table Line) i
line_step ts room i h = level_row ts room Line i h

pub simple_step : (ts : List Item) (room i : ℕ) → zero < room → level ts room Simple i ≡ row ts room (table Simple) i
simple_step ts room i h = level_row ts room Simple i h

pub annotated_step : (ts : List Item) (room i : ℕ) → zero < room → level ts room Annotated i ≡ row ts room (table Annotated) i
annotated_step ts room i h = level_row ts room Annotated i h

pub evaluated_step : (ts : List Item) (room i : ℕ) → zero < room → level ts room Evaluated i ≡ row ts room (table Evaluated) i
evaluated_step ts room i h = level_row ts room Evaluated i h

pub return_step : (ts : List Item) (room i : ℕ) → zero < room → level ts room Return i ≡ row ts room (table Return) i
return_step ts room i h = level_row ts room Return i h

pub delete_step : (ts : List Item) (room i : ℕ) → zero < room → level ts room Delete i ≡ row ts room (table Delete) i
delete_step ts room i h = level_row ts room Delete i h

pub raise_step : (ts : List Item) (room i : ℕ) → zero < room → level ts room Raise i ≡ row ts room (table Raise) i
raise_step ts room i h = level_row ts room Raise i h

pub assert_step : (ts : List Item) (room i : ℕ) → zero < room → level ts room Assert i ≡ row ts room (table Assert) i
assert_step ts room i h = level_row ts room Assert i h

pub import_step : (ts : List Item) (room i : ℕ) → zero < room → level ts room Import i ≡ row ts room (table Import) i
import_step ts room i h = level_row ts room Import i h

pub alias_step : (ts : List Item) (room i : ℕ) → zero < room → level ts room Alias i ≡ row ts room (table Alias) i
alias_step ts room i h = level_row ts room Alias i h

pub dotted_step : (ts : List Item) (room i : ℕ) → zero < room → level ts room Dotted i ≡ row ts room (table Dotted) i
dotted_step ts room i h = level_row ts room Dotted i h

pub from_import_step : (ts : List Item) (room i : ℕ) → zero < room → level ts room FromImport i ≡ row ts room (table FromImport) i
from_import_step ts room i h = level_row ts room FromImport i h

pub origin_step : (ts : List Item) (room i : ℕ) → zero < room → level ts room Origin i ≡ row ts room (table Origin) i
origin_step ts room i h = level_row ts room Origin i h

pub imported_step : (ts : List Item) (room i : ℕ) → zero < room → level ts room Imported i ≡ row ts room (table Imported) i
imported_step ts room i h = level_row ts room Imported i h

pub aliases_step : (ts : List Item) (room i : ℕ) → zero < room → level ts room Aliases i ≡ row ts room (table Aliases) i
aliases_step ts room i h = level_row ts room Aliases i h

pub suite_step : (ts : List Item) (room i : ℕ) → zero < room → level ts room Suite i ≡ row ts room (table Suite) i
suite_step ts room i h = level_row ts room Suite i h

pub compound_step : (ts : List Item) (room i : ℕ) → zero < room → level ts room Compound i ≡ row ts room (table Compound) i
compound_step ts room i h = level_row ts room Compound i h

pub if_step : (ts : List Item) (room i : ℕ) → zero < room → level ts room If i ≡ row ts room (table If) i
if_step ts room i h = level_row ts room If i h

pub branches_step : (ts : List Item) (room i : ℕ) → zero < room → level ts room Branches i ≡ row ts room (table Branches) i
branches_step ts room i h = level_row ts room Branches i h

pub else_step : (ts : List Item) (room i : ℕ) → zero < room → level ts room ElsePart i ≡ row ts room (table ElsePart) i
else_step ts room i h = level_row ts room ElsePart i h

pub while_step : (ts : List Item) (room i : ℕ) → zero < room → level ts room While i ≡ row ts room (table While) i
while_step ts room i h = level_row ts room While i h

pub for_step : (ts : List Item) (room i : ℕ) → zero < room → level ts room For i ≡ row ts room (table For) i
for_step ts room i h = level_row ts room For i h

pub for_rest_step : (ts : List Item) (room i : ℕ) → zero < room → level ts room ForRest i ≡ row ts room (table ForRest) i
for_rest_step ts room i h = level_row ts room ForRest i h

pub with_step : (ts : List Item) (room i : ℕ) → zero < room → level ts room With i ≡ row ts room (table With) i
with_step ts room i h = level_row ts room With i h

pub with_rest_step : (ts : List Item) (room i : ℕ) → zero < room → level ts room WithRest i ≡ row ts room (table WithRest) i
with_rest_step ts room i h = level_row ts room WithRest i h

pub with_items_step : (ts : List Item) (room i : ℕ) → zero < room → level ts room WithItems i ≡ row ts room (table WithItems) i
with_items_step ts room i h = level_row ts room WithItems i h

pub with_item_step : (ts : List Item) (room i : ℕ) → zero < room → level ts room WithItem i ≡ row ts room (table WithItem) i
with_item_step ts room i h = level_row ts room WithItem i h

pub try_step : (ts : List Item) (room i : ℕ) → zero < room → level ts room Try i ≡ row ts room (table Try) i
try_step ts room i h = level_row ts room Try i h

pub try_rest_step : (ts : List Item) (room i : ℕ) → zero < room → level ts room TryRest i ≡ row ts room (table TryRest) i
try_rest_step ts room i h = level_row ts room TryRest i h

pub handler_step : (ts : List Item) (room i : ℕ) → zero < room → level ts room Handler i ≡ row ts room (table Handler) i
handler_step ts room i h = level_row ts room Handler i h

pub caught_step : (ts : List Item) (room i : ℕ) → zero < room → level ts room Caught i ≡ row ts room (table Caught) i
caught_step ts room i h = level_row ts room Caught i h

pub finally_step : (ts : List Item) (room i : ℕ) → zero < room → level ts room FinallyPart i ≡ row ts room (table FinallyPart) i
finally_step ts room i h = level_row ts room FinallyPart i h

pub def_step : (ts : List Item) (room i : ℕ) → zero < room → level ts room Def i ≡ row ts room (table Def) i
def_step ts room i h = level_row ts room Def i h

pub def_rest_step : (ts : List Item) (room i : ℕ) → zero < room → level ts room DefRest i ≡ row ts room (table DefRest) i
def_rest_step ts room i h = level_row ts room DefRest i h

pub parameters_step : (ts : List Item) (room i : ℕ) → zero < room → level ts room Parameters i ≡ row ts room (table Parameters) i
parameters_step ts room i h = level_row ts room Parameters i h

pub class_step : (ts : List Item) (room i : ℕ) → zero < room → level ts room Class i ≡ row ts room (table Class) i
class_step ts room i h = level_row ts room Class i h

pub class_rest_step : (ts : List Item) (room i : ℕ) → zero < room → level ts room ClassRest i ≡ row ts room (table ClassRest) i
class_rest_step ts room i h = level_row ts room ClassRest i h

pub bases_step : (ts : List Item) (room i : ℕ) → zero < room → level ts room Bases i ≡ row ts room (table Bases) i
bases_step ts room i h = level_row ts room Bases i h

pub async_step : (ts : List Item) (room i : ℕ) → zero < room → level ts room Async i ≡ row ts room (table Async) i
async_step ts room i h = level_row ts room Async i h

pub async_rest_step : (ts : List Item) (room i : ℕ) → zero < room → level ts room AsyncRest i ≡ row ts room (table AsyncRest) i
async_rest_step ts room i h = level_row ts room AsyncRest i h

pub decorated_step : (ts : List Item) (room i : ℕ) → zero < room → level ts room Decorated i ≡ row ts room (table Decorated) i
decorated_step ts room i h = level_row ts room Decorated i h

pub decorators_step : (ts : List Item) (room i : ℕ) → zero < room → level ts room Decorators i ≡ row ts room (table Decorators) i
decorators_step ts room i h = level_row ts room Decorators i h

pub decorator_step : (ts : List Item) (room i : ℕ) → zero < room → level ts room Decorator i ≡ row ts room (table Decorator) i
decorator_step ts room i h = level_row ts room Decorator i h

pub decorated_rest_step : (ts : List Item) (room i : ℕ) → zero < room → level ts room DecoratedRest i ≡ row ts room (table DecoratedRest) i
decorated_rest_step ts room i h = level_row ts room DecoratedRest i h

pub stmts_step : (ts : List Item) (room i : ℕ) → zero < room → level ts room Stmts i ≡ row ts room (table Stmts) i
stmts_step ts room i h = level_row ts room Stmts i h

pub handlers_step : (ts : List Item) (room i : ℕ) → zero < room → level ts room Handlers i ≡ row ts room (table Handlers) i
handlers_step ts room i h = level_row ts room Handlers i h

pub worded_step : (ts : List Item) (room i : ℕ) → zero < room → level ts room Worded i ≡ row ts room (table Worded) i
worded_step ts room i h = level_row ts room Worded i h

pub naming_step : (ts : List Item) (room i : ℕ) → zero < room → level ts room Naming i ≡ row ts room (table Naming) i
naming_step ts room i h = level_row ts room Naming i h

pub global_step : (ts : List Item) (room i : ℕ) → zero < room → level ts room Global i ≡ row ts room (table Global) i
global_step ts room i h = level_row ts room Global i h

pub nonlocal_step : (ts : List Item) (room i : ℕ) → zero < room → level ts room Nonlocal i ≡ row ts room (table Nonlocal) i
nonlocal_step ts room i h = level_row ts room Nonlocal i h

pub more_aliases_step : (ts : List Item) (room i : ℕ) → zero < room → level ts room MoreAliases i ≡ row ts room (table MoreAliases) i
more_aliases_step ts room i h = level_row ts room MoreAliases i h
