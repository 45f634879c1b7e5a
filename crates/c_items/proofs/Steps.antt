-- The reader of a level, one step.
use Rattle.std.proofs.Common.{◌≡◌, ℕ, zero, suc, ◌-◌, ◌<◌, ◌≤◌, List, [], ◌∷◌, ◌++◌, length, refl, ap, sym, ◌∙◌, arith, Option, Some, None, Bool, true, false, cond}
use Rattle.std.proofs.lemmas.List.{append-nil}
use Rattle.grammar.specs.Rule.{has, ref, again, ◌·◌}
use Rattle.grammar.specs.Reader.{read, choice, turns, ◌>>=◌}
use Rattle.grammar.proofs.Rounds.{turn, turned, made}
use Rattle.grammar.proofs.Stable.{room_step}
use Rattle.grammar.proofs.Renamed.{same_reading}
use Rattle.c_expr.specs.declared.word.Token.{Token}
use Rattle.c_expr.specs.declared.part.Part.{Part}
use Rattle.c_expr.specs.Words.{class}
use Rattle.c_expr.specs.Build.{token_at, start_of, cut_source, cut_chained, graft_cut}
use Rattle.c_expr.specs.Table as e
use Rattle.c_expr.specs.reader.Sets as es
use Rattle.c_expr.specs.reader.Reading as known
use Rattle.c_expr.specs.reader.Reading.{grafting}
use Rattle.c_expr.proofs.Passes.{pass as known_pass}
use Rattle.c_items.specs.Settling.{defines}
use Rattle.c_items.specs.Table.{Level, Expression, same, Row, table, grammar, looped, vars_round, labelled_round, File, External, Function, Declaration, Declared, VarsTail, Items, Labelled, FileItem, Invocation, Invoked, Item, Directive, DotsItem, Block, Sub, Mark, Label, Case, Default, Statement, Simple, If, While, DoWhile, ForC, ForParts, ForStart, Switch, Return, Jump, Goto, Empty, Evaluated}
use Rattle.c_items.specs.reader.Sets.{sets, ranks}
use Rattle.c_items.specs.reader.Reading.{level, row}
use Rattle.c_items.proofs.Passes.{pass}

pub level_none : (ts : List Token) (room : ℕ) (l : Level) (i : ℕ) → room ≡ zero → level ts room l i ≡ None
unfolding level
level_none ts room l i h = rw h refl

pub level_row : (ts : List Token) (room : ℕ) (l : Level) (i : ℕ) → zero < room → level ts room l i ≡ row ts room (table l) i
unfolding level
level_row ts room l i h = room_step (cut_source ts) sets (suc (length ts)) grammar ranks pass room l i h

-- a level of expressions reads here what it reads by itself
pub expression_step : (ts : List Token) (room : ℕ) (l : e.Level) (i : ℕ) → level ts room (Expression l) i ≡ known.level ts room l i
unfolding level known.level
expression_step ts room l i = same_reading same Expression (cut_source ts) (cut_source ts) refl (λ k n. refl) (λ b j k ys. refl) e.grammar es.sets es.ranks known_pass table sets (λ l. refl) (λ l. refl) (λ l. refl) (suc (length ts)) ranks.top (omega arith) room l i

pub file_item_step : (ts : List Token) (room i : ℕ) → zero < room → level ts room FileItem i ≡ row ts room (table FileItem) i
file_item_step ts room i h = level_row ts room FileItem i h

pub invocation_step : (ts : List Token) (room i : ℕ) → zero < room → level ts room Invocation i ≡ row ts room (table Invocation) i
invocation_step ts room i h = level_row ts room Invocation i h

pub invoked_step : (ts : List Token) (room i : ℕ) → zero < room → level ts room Invoked i ≡ row ts room (table Invoked) i
invoked_step ts room i h = level_row ts room Invoked i h

pub item_step : (ts : List Token) (room i : ℕ) → zero < room → level ts room Item i ≡ row ts room (table Item) i
item_step ts room i h = level_row ts room Item i h

pub directive_step : (ts : List Token) (room i : ℕ) → zero < room → level ts room Directive i ≡ row ts room (table Directive) i
directive_step ts room i h = level_row ts room Directive i h

pub dots_item_step : (ts : List Token) (room i : ℕ) → zero < room → level ts room DotsItem i ≡ row ts room (table DotsItem) i
dots_item_step ts room i h = level_row ts room DotsItem i h

pub block_step : (ts : List Token) (room i : ℕ) → zero < room → level ts room Block i ≡ row ts room (table Block) i
block_step ts room i h = level_row ts room Block i h

pub sub_step : (ts : List Token) (room i : ℕ) → zero < room → level ts room Sub i ≡ row ts room (table Sub) i
sub_step ts room i h = level_row ts room Sub i h

pub mark_step : (ts : List Token) (room i : ℕ) → zero < room → level ts room Mark i ≡ row ts room (table Mark) i
mark_step ts room i h = level_row ts room Mark i h

pub label_step : (ts : List Token) (room i : ℕ) → zero < room → level ts room Label i ≡ row ts room (table Label) i
label_step ts room i h = level_row ts room Label i h

pub case_step : (ts : List Token) (room i : ℕ) → zero < room → level ts room Case i ≡ row ts room (table Case) i
case_step ts room i h = level_row ts room Case i h

pub default_step : (ts : List Token) (room i : ℕ) → zero < room → level ts room Default i ≡ row ts room (table Default) i
default_step ts room i h = level_row ts room Default i h

pub statement_step : (ts : List Token) (room i : ℕ) → zero < room → level ts room Statement i ≡ row ts room (table Statement) i
statement_step ts room i h = level_row ts room Statement i h

pub simple_step : (ts : List Token) (room i : ℕ) → zero < room → level ts room Simple i ≡ row ts room (table Simple) i
simple_step ts room i h = level_row ts room Simple i h

pub if_step : (ts : List Token) (room i : ℕ) → zero < room → level ts room If i ≡ row ts room (table If) i
if_step ts room i h = level_row ts room If i h

pub while_step : (ts : List Token) (room i : ℕ) → zero < room → level ts room While i ≡ row ts room (table While) i
while_step ts room i h = level_row ts room While i h

pub do_step : (ts : List Token) (room i : ℕ) → zero < room → level ts room DoWhile i ≡ row ts room (table DoWhile) i
do_step ts room i h = level_row ts room DoWhile i h

pub for_step : (ts : List Token) (room i : ℕ) → zero < room → level ts room ForC i ≡ row ts room (table ForC) i
for_step ts room i h = level_row ts room ForC i h

pub for_parts_step : (ts : List Token) (room i : ℕ) → zero < room → level ts room ForParts i ≡ row ts room (table ForParts) i
for_parts_step ts room i h = level_row ts room ForParts i h

pub for_start_step : (ts : List Token) (room i : ℕ) → zero < room → level ts room ForStart i ≡ row ts room (table ForStart) i
for_start_step ts room i h = level_row ts room ForStart i h

pub switch_step : (ts : List Token) (room i : ℕ) → zero < room → level ts room Switch i ≡ row ts room (table Switch) i
switch_step ts room i h = level_row ts room Switch i h

pub return_step : (ts : List Token) (room i : ℕ) → zero < room → level ts room Return i ≡ row ts room (table Return) i
return_step ts room i h = level_row ts room Return i h

pub jump_step : (ts : List Token) (room i : ℕ) → zero < room → level ts room Jump i ≡ row ts room (table Jump) i
jump_step ts room i h = level_row ts room Jump i h

pub goto_step : (ts : List Token) (room i : ℕ) → zero < room → level ts room Goto i ≡ row ts room (table Goto) i
goto_step ts room i h = level_row ts room Goto i h

pub empty_step : (ts : List Token) (room i : ℕ) → zero < room → level ts room Empty i ≡ row ts room (table Empty) i
empty_step ts room i h = level_row ts room Empty i h

pub evaluated_step : (ts : List Token) (room i : ℕ) → zero < room → level ts room Evaluated i ≡ row ts room (table Evaluated) i
evaluated_step ts room i h = level_row ts room Evaluated i h

-- ---- loops

-- what a loop goes round
abbrev pub round_of : Level → Row
round_of File = looped (ref FileItem)
round_of Items = looped (ref Item)
round_of Labelled = labelled_round
round_of VarsTail = vars_round
round_of _ = again

-- what a loop still reads, in n rounds
unfoldable pub rest : List Token → ℕ → Level → ℕ → ℕ → Option (List Part × ℕ)
rest ts room l n = turns (λ i. None) (λ X. read (cut_source ts) sets (suc (length ts)) (choice (level ts room) (level ts (room - 1))) X (Some l) (round_of l)) n

pub rest_turn : (ts : List Token) (room : ℕ) (l : Level) (n i : ℕ) → zero < n → rest ts room l n i ≡ read (cut_source ts) sets (suc (length ts)) (choice (level ts room) (level ts (room - 1))) (rest ts room l (n - 1)) (Some l) (round_of l) i
unfolding rest
rest_turn ts room l n i h = ap (λ f. f i) (turn (λ i. None) (λ X. read (cut_source ts) sets (suc (length ts)) (choice (level ts room) (level ts (room - 1))) X (Some l) (round_of l)) n h)

pub rest_turned : (ts : List Token) (room : ℕ) (l : Level) (n i : ℕ) → n ≡ zero → rest ts room l n i ≡ None
unfolding rest
rest_turned ts room l n i h = ap (λ f. f i) (turned (λ i. None) (λ X. read (cut_source ts) sets (suc (length ts)) (choice (level ts room) (level ts (room - 1))) X (Some l) (round_of l)) n h)

pub file_step : (ts : List Token) (room i : ℕ) → zero < room → level ts room File i ≡ rest ts room File (suc (length ts)) i
unfolding rest
file_step ts room i h = level_row ts room File i h

pub file_turn : (ts : List Token) (room n i : ℕ) → zero < n → rest ts room File n i ≡ read (cut_source ts) sets (suc (length ts)) (choice (level ts room) (level ts (room - 1))) (rest ts room File (n - 1)) (Some File) (round_of File) i
file_turn ts room n i h = rest_turn ts room File n i h

pub items_step : (ts : List Token) (room i : ℕ) → zero < room → level ts room Items i ≡ rest ts room Items (suc (length ts)) i
unfolding rest
items_step ts room i h = level_row ts room Items i h

pub items_turn : (ts : List Token) (room n i : ℕ) → zero < n → rest ts room Items n i ≡ read (cut_source ts) sets (suc (length ts)) (choice (level ts room) (level ts (room - 1))) (rest ts room Items (n - 1)) (Some Items) (round_of Items) i
items_turn ts room n i h = rest_turn ts room Items n i h

pub labelled_step : (ts : List Token) (room i : ℕ) → zero < room → level ts room Labelled i ≡ rest ts room Labelled (suc (length ts)) i
unfolding rest
labelled_step ts room i h = level_row ts room Labelled i h

pub labelled_turn : (ts : List Token) (room n i : ℕ) → zero < n → rest ts room Labelled n i ≡ read (cut_source ts) sets (suc (length ts)) (choice (level ts room) (level ts (room - 1))) (rest ts room Labelled (n - 1)) (Some Labelled) (round_of Labelled) i
labelled_turn ts room n i h = rest_turn ts room Labelled n i h

pub vars_step : (ts : List Token) (room i : ℕ) → zero < room → level ts room VarsTail i ≡ rest ts room VarsTail (suc (length ts)) i
unfolding rest
vars_step ts room i h = level_row ts room VarsTail i h

pub vars_turn : (ts : List Token) (room n i : ℕ) → zero < n → rest ts room VarsTail n i ≡ read (cut_source ts) sets (suc (length ts)) (choice (level ts room) (level ts (room - 1))) (rest ts room VarsTail (n - 1)) (Some VarsTail) (round_of VarsTail) i
vars_turn ts room n i h = rest_turn ts room VarsTail n i h

pub push_more : {A : Type 0} (xs ys : List A) (x : A) → (xs ++ x ∷ []) ++ ys ≡ xs ++ x ∷ ys
push_more [] ys x = refl
push_more (y ∷ xs) ys x = ap (λ zs. y ∷ zs) (push_more xs ys x)

pub ruleset list_laws = (append-nil, push_more)

-- ---- what is put over a spec

pub declaration_step : (ts : List Token) (room i : ℕ) → zero < room → level ts room Declaration i ≡ row ts room (table Declaration) i
declaration_step ts room i h = level_row ts room Declaration i h

pub external_step : (ts : List Token) (room i : ℕ) → zero < room → level ts room External i ≡ row ts room (table External) i
external_step ts room i h = level_row ts room External i h

pub declared_step : (ts : List Token) (room i : ℕ) → zero < room → level ts room Declared i ≡ row ts room (table Declared) i
declared_step ts room i h = level_row ts room Declared i h

pub function_step : (ts : List Token) (room i : ℕ) → zero < room → level ts room Function i ≡ row ts room (table Function) i
function_step ts room i h = level_row ts room Function i h
