-- The reader of a level, one step.
use Rattle.std.proofs.Common.{◌≡◌, ℕ, zero, suc, ◌+◌, ◌-◌, ◌<◌, List, [], ◌∷◌, ◌++◌, length, refl, ap, ◌∙◌, sym, eqb, true, false, Bool, Option, Some, None, cond}
use Rattle.std.specs.Prelude.{◌||◌}
use Rattle.std.proofs.lemmas.List.{append-nil}
use Rattle.node_tree.specs.declared.node.Node.{Node}
use Rattle.node_tree.specs.declared.kind.Kind.TheVariants as k
use Rattle.grammar.specs.Rule.{has}
use Rattle.grammar.specs.Reader.{read, choice, turns, ◌>>=◌}
use Rattle.grammar.proofs.Rounds.{turn, turned, made}
use Rattle.grammar.proofs.Stable.{room_step}
use Rattle.py_expr.specs.declared.item.Item.{Item}
use Rattle.py_expr.specs.declared.word.Word.TheVariants as w
use Rattle.py_expr.specs.declared.level.Binary.{Binary}
use Rattle.py_expr.specs.declared.level.Binary.TheVariants as binaries
use Rattle.py_expr.specs.declared.level.Place.{Place}
use Rattle.py_expr.specs.declared.level.Place.TheVariants as places
use Rattle.py_expr.specs.Words.{class}
use Rattle.py_expr.specs.Parts.{Part, whole, lacking, more, nodes_of, wholes}
use Rattle.py_expr.specs.Table as rows
use Rattle.py_expr.specs.Table.{Level, Exprs, Star, Named, Test, LambdaTest, OrTail, AndTail, Not, Cmp, CmpTail, Cop, Bor, BorTail, XorTail, BandTail, ShiftTail, SumTail, TermTail, Unary, Power, Await, Prim, PrimTail, Suffix, Attr, Call, Sub, Atom, Strings, MoreStrings, StringsTail, Paren, Inner, Items, ListLit, Braces, FirstEntry, FirstValue, LaterEntry, LaterValue, Dotted, DottedTail, DotsLeaf, Pairs, DottedPairs, PairsTail, Pair, AfterPair, AfterFirstPair, Deep, Comprehension, ClausesTail, Clause, ForClause, Yield, Targs, Target, Index, Piece, SliceEnd, Bound, Args, FirstArg, Arg, PlainArg, Params, Param, Given, LambdaParams, LambdaParam, LambdaGiven, AfterStar, Stars, StarsTail, AfterItem, TargetsTail, PiecesTail, MoreArgsTail, MoreParamsTail, MoreLambdaParamsTail, Row, table, grammar, commas, names, dots, strings, Own, Ident}
use Rattle.py_expr.specs.Build.{token_at, end_of, source, chain, compared, undecided, parameter, leaf}
use Rattle.py_expr.specs.reader.Sets.{sets, ranks}
use Rattle.py_expr.specs.reader.Reading.{level, row, level_of, operand_of, operators_of, item_of, after_of, further_of, takes_clauses, set_place, entry_of, after_pair_of, pairs_of, pair_of, param_of, given_of, marked, annotation, marked_param}
use Rattle.py_expr.proofs.Passes.{pass}

-- ---- lists of parts

pub nodes_wholes : (ns : List Node) → nodes_of (wholes ns) ≡ ns
nodes_wholes [] = refl
nodes_wholes (n ∷ ns) = ap (λ (ms : List Node). n ∷ ms) (nodes_wholes ns)

-- one more at the end
pub push_more : (xs : List Node) (x : Node) (ys : List Node) → (xs ++ x ∷ []) ++ ys ≡ xs ++ (x ∷ ys)
push_more [] x ys = refl
push_more (z ∷ xs) x ys = ap (λ (ns : List Node). z ∷ ns) (push_more xs x ys)

pub push_whole : (xs : List Node) (x : Node) (ys : List Part) → wholes (xs ++ x ∷ []) ++ ys ≡ wholes xs ++ (whole x ∷ ys)
push_whole [] x ys = refl
push_whole (z ∷ xs) x ys = ap (λ (ps : List Part). whole z ∷ ps) (push_whole xs x ys)

pub ruleset list_laws = (append-nil, nodes_wholes, push_more, push_whole)

-- ---- levels

pub level_none : (ts : List Item) (room : ℕ) (l : Level) (i : ℕ) → room ≡ zero → level ts room l i ≡ None
unfolding level
level_none ts room l i h = rw h refl

-- what a row reads, where `again` reads what A does
abbrev pub round : List Item → ℕ → (ℕ → Option (List Part × ℕ)) → Level → Row → ℕ → Option (List Part × ℕ)
round ts room A q r = read (source ts) sets (suc (length ts)) (choice (level ts room) (level ts (room - 1))) A (Some q) r

pub level_row : (ts : List Item) (room : ℕ) (l : Level) (i : ℕ) → zero < room → level ts room l i ≡ row ts room (table l) i
unfolding level
level_row ts room l i h = room_step (source ts) sets (suc (length ts)) grammar ranks pass room l i h

pub exprs_step : (ts : List Item) (room i : ℕ) → zero < room → level ts room Exprs i ≡ row ts room (table Exprs) i
exprs_step ts room i h = level_row ts room Exprs i h

pub star_step : (ts : List Item) (room i : ℕ) → zero < room → level ts room Star i ≡ row ts room (table Star) i
star_step ts room i h = level_row ts room Star i h

pub named_step : (ts : List Item) (room i : ℕ) → zero < room → level ts room Named i ≡ row ts room (table Named) i
named_step ts room i h = level_row ts room Named i h

pub test_step : (ts : List Item) (room i : ℕ) → zero < room → level ts room Test i ≡ row ts room (table Test) i
test_step ts room i h = level_row ts room Test i h

pub lambda_test_step : (ts : List Item) (room i : ℕ) → zero < room → level ts room LambdaTest i ≡ row ts room (table LambdaTest) i
lambda_test_step ts room i h = level_row ts room LambdaTest i h

pub not_step : (ts : List Item) (room i : ℕ) → zero < room → level ts room Not i ≡ row ts room (table Not) i
not_step ts room i h = level_row ts room Not i h

pub cop_step : (ts : List Item) (room i : ℕ) → zero < room → level ts room Cop i ≡ row ts room (table Cop) i
cop_step ts room i h = level_row ts room Cop i h

pub unary_step : (ts : List Item) (room i : ℕ) → zero < room → level ts room Unary i ≡ row ts room (table Unary) i
unary_step ts room i h = level_row ts room Unary i h

pub power_step : (ts : List Item) (room i : ℕ) → zero < room → level ts room Power i ≡ row ts room (table Power) i
power_step ts room i h = level_row ts room Power i h

pub await_step : (ts : List Item) (room i : ℕ) → zero < room → level ts room Await i ≡ row ts room (table Await) i
await_step ts room i h = level_row ts room Await i h

pub suffix_step : (ts : List Item) (room i : ℕ) → zero < room → level ts room Suffix i ≡ row ts room (table Suffix) i
suffix_step ts room i h = level_row ts room Suffix i h

pub attr_step : (ts : List Item) (room i : ℕ) → zero < room → level ts room Attr i ≡ row ts room (table Attr) i
attr_step ts room i h = level_row ts room Attr i h

pub call_step : (ts : List Item) (room i : ℕ) → zero < room → level ts room Call i ≡ row ts room (table Call) i
call_step ts room i h = level_row ts room Call i h

pub sub_step : (ts : List Item) (room i : ℕ) → zero < room → level ts room Sub i ≡ row ts room (table Sub) i
sub_step ts room i h = level_row ts room Sub i h

pub atom_step : (ts : List Item) (room i : ℕ) → zero < room → level ts room Atom i ≡ row ts room (table Atom) i
atom_step ts room i h = level_row ts room Atom i h

pub strings_step : (ts : List Item) (room i : ℕ) → zero < room → level ts room Strings i ≡ row ts room (table Strings) i
strings_step ts room i h = level_row ts room Strings i h

pub paren_step : (ts : List Item) (room i : ℕ) → zero < room → level ts room Paren i ≡ row ts room (table Paren) i
paren_step ts room i h = level_row ts room Paren i h

pub inner_step : (ts : List Item) (room i : ℕ) → zero < room → level ts room Inner i ≡ row ts room (table Inner) i
inner_step ts room i h = level_row ts room Inner i h

pub items_step : (ts : List Item) (room i : ℕ) → zero < room → level ts room Items i ≡ row ts room (table Items) i
items_step ts room i h = level_row ts room Items i h

pub list_lit_step : (ts : List Item) (room i : ℕ) → zero < room → level ts room ListLit i ≡ row ts room (table ListLit) i
list_lit_step ts room i h = level_row ts room ListLit i h

pub braces_step : (ts : List Item) (room i : ℕ) → zero < room → level ts room Braces i ≡ row ts room (table Braces) i
braces_step ts room i h = level_row ts room Braces i h

pub pair_step : (ts : List Item) (room i : ℕ) → zero < room → level ts room Pair i ≡ row ts room (table Pair) i
pair_step ts room i h = level_row ts room Pair i h

pub deep_step : (ts : List Item) (room i : ℕ) → zero < room → level ts room Deep i ≡ row ts room (table Deep) i
deep_step ts room i h = level_row ts room Deep i h

pub clause_step : (ts : List Item) (room i : ℕ) → zero < room → level ts room Clause i ≡ row ts room (table Clause) i
clause_step ts room i h = level_row ts room Clause i h

pub for_clause_step : (ts : List Item) (room i : ℕ) → zero < room → level ts room ForClause i ≡ row ts room (table ForClause) i
for_clause_step ts room i h = level_row ts room ForClause i h

pub yield_step : (ts : List Item) (room i : ℕ) → zero < room → level ts room Yield i ≡ row ts room (table Yield) i
yield_step ts room i h = level_row ts room Yield i h

pub targs_step : (ts : List Item) (room i : ℕ) → zero < room → level ts room Targs i ≡ row ts room (table Targs) i
targs_step ts room i h = level_row ts room Targs i h

pub index_step : (ts : List Item) (room i : ℕ) → zero < room → level ts room Index i ≡ row ts room (table Index) i
index_step ts room i h = level_row ts room Index i h

pub target_step : (ts : List Item) (room i : ℕ) → zero < room → level ts room Target i ≡ row ts room (table Target) i
target_step ts room i h = level_row ts room Target i h

pub slice_end_step : (ts : List Item) (room i : ℕ) → zero < room → level ts room SliceEnd i ≡ row ts room (table SliceEnd) i
slice_end_step ts room i h = level_row ts room SliceEnd i h

pub bound_step : (ts : List Item) (room i : ℕ) → zero < room → level ts room Bound i ≡ row ts room (table Bound) i
bound_step ts room i h = level_row ts room Bound i h

pub args_step : (ts : List Item) (room i : ℕ) → zero < room → level ts room Args i ≡ row ts room (table Args) i
args_step ts room i h = level_row ts room Args i h

pub arg_step : (ts : List Item) (room i : ℕ) → zero < room → level ts room Arg i ≡ row ts room (table Arg) i
arg_step ts room i h = level_row ts room Arg i h

pub plain_arg_step : (ts : List Item) (room i : ℕ) → zero < room → level ts room PlainArg i ≡ row ts room (table PlainArg) i
plain_arg_step ts room i h = level_row ts room PlainArg i h

pub params_step : (ts : List Item) (room i : ℕ) → zero < room → level ts room Params i ≡ row ts room (table Params) i
params_step ts room i h = level_row ts room Params i h

pub lambda_params_step : (ts : List Item) (room i : ℕ) → zero < room → level ts room LambdaParams i ≡ row ts room (table LambdaParams) i
lambda_params_step ts room i h = level_row ts room LambdaParams i h

-- ---- operators from the left

abbrev pub tail_of : Binary → Level
tail_of binaries.Or = OrTail
tail_of binaries.And = AndTail
tail_of binaries.Bar = BorTail
tail_of binaries.Caret = XorTail
tail_of binaries.Ampersand = BandTail
tail_of binaries.Shift = ShiftTail
tail_of binaries.Sign = SumTail
tail_of binaries.Factor = TermTail

chain_round : (c : Bool) (V A : ℕ → Option (List Part × ℕ)) (mk : ℕ → List Part → Part) (i : ℕ) → cond {A = Option (List Part × ℕ)} c (◌>>=◌ {B = List Part × ℕ} (◌>>=◌ {B = List Part × ℕ} (◌>>=◌ {B = List Part × ℕ} (cond {A = Option (List Part × ℕ)} c (Some ([], suc i)) None) (λ x. ◌>>=◌ {B = List Part × ℕ} (V x.1) (λ y. Some (x.0 ++ y.0, y.1)))) (λ z. Some (mk z.1 z.0 ∷ [], z.1))) (λ u. ◌>>=◌ {B = List Part × ℕ} (A u.1) (λ v. Some (u.0 ++ v.0, v.1)))) (Some ([], i))
    ≡ cond {A = Option (List Part × ℕ)} c (◌>>=◌ {B = List Part × ℕ} (V (suc i)) (λ y. ◌>>=◌ {B = List Part × ℕ} (A y.1) (λ v. Some (mk y.1 y.0 ∷ v.0, v.1)))) (Some ([], i))
chain_round false V A mk i = refl
chain_round true V A mk i = by_operand (V (suc i))
  where
    by_operand : (o : Option (List Part × ℕ)) → ◌>>=◌ {B = List Part × ℕ} (◌>>=◌ {B = List Part × ℕ} (◌>>=◌ {B = List Part × ℕ} o (λ y. Some ([] ++ y.0, y.1))) (λ z. Some (mk z.1 z.0 ∷ [], z.1))) (λ u. ◌>>=◌ {B = List Part × ℕ} (A u.1) (λ v. Some (u.0 ++ v.0, v.1)))
        ≡ ◌>>=◌ {B = List Part × ℕ} o (λ y. ◌>>=◌ {B = List Part × ℕ} (A y.1) (λ v. Some (mk y.1 y.0 ∷ v.0, v.1)))
    by_operand None = refl
    by_operand (Some y) = refl

unfoldable pub binary_rest : List Item → ℕ → Binary → ℕ → ℕ → Option (List Part × ℕ)
binary_rest ts room b n = turns (λ i. None) (λ X. round ts room X (tail_of b) (rows.chained (operators_of b) (operand_of b))) n

binary_again : (ts : List Item) (room : ℕ) (b : Binary) (n i : ℕ) → zero < n → binary_rest ts room b n i ≡ round ts room (binary_rest ts room b (n - 1)) (tail_of b) (rows.chained (operators_of b) (operand_of b)) i
unfolding binary_rest
binary_again ts room b n i h = ap (λ f. f i) (turn (λ i. None) (λ X. round ts room X (tail_of b) (rows.chained (operators_of b) (operand_of b))) n h)

pub binary_turned : (ts : List Item) (room : ℕ) (b : Binary) (n i : ℕ) → n ≡ zero → binary_rest ts room b n i ≡ None
unfolding binary_rest
binary_turned ts room b n i h = ap (λ f. f i) (turned (λ i. None) (λ X. round ts room X (tail_of b) (rows.chained (operators_of b) (operand_of b))) n h)

binary_round : (ts : List Item) (room : ℕ) (b : Binary) (A : ℕ → Option (List Part × ℕ)) (i : ℕ) → round ts room A (tail_of b) (rows.chained (operators_of b) (operand_of b)) i ≡ cond {A = Option (List Part × ℕ)} (has (operators_of b) (class (token_at ts i).word)) (◌>>=◌ {B = List Part × ℕ} (level ts room (operand_of b) (suc i)) (λ y. ◌>>=◌ {B = List Part × ℕ} (A y.1) (λ v. Some (lacking k.Binary (token_at ts i).text (end_of ts y.1) (nodes_of y.0) ∷ v.0, v.1)))) (Some ([], i))
binary_round ts room binaries.Or A i = chain_round (has (operators_of binaries.Or) (class (token_at ts i).word)) (level ts room (operand_of binaries.Or)) A (λ j ps. lacking k.Binary (token_at ts i).text (end_of ts j) (nodes_of ps)) i
binary_round ts room binaries.And A i = chain_round (has (operators_of binaries.And) (class (token_at ts i).word)) (level ts room (operand_of binaries.And)) A (λ j ps. lacking k.Binary (token_at ts i).text (end_of ts j) (nodes_of ps)) i
binary_round ts room binaries.Bar A i = chain_round (has (operators_of binaries.Bar) (class (token_at ts i).word)) (level ts room (operand_of binaries.Bar)) A (λ j ps. lacking k.Binary (token_at ts i).text (end_of ts j) (nodes_of ps)) i
binary_round ts room binaries.Caret A i = chain_round (has (operators_of binaries.Caret) (class (token_at ts i).word)) (level ts room (operand_of binaries.Caret)) A (λ j ps. lacking k.Binary (token_at ts i).text (end_of ts j) (nodes_of ps)) i
binary_round ts room binaries.Ampersand A i = chain_round (has (operators_of binaries.Ampersand) (class (token_at ts i).word)) (level ts room (operand_of binaries.Ampersand)) A (λ j ps. lacking k.Binary (token_at ts i).text (end_of ts j) (nodes_of ps)) i
binary_round ts room binaries.Shift A i = chain_round (has (operators_of binaries.Shift) (class (token_at ts i).word)) (level ts room (operand_of binaries.Shift)) A (λ j ps. lacking k.Binary (token_at ts i).text (end_of ts j) (nodes_of ps)) i
binary_round ts room binaries.Sign A i = chain_round (has (operators_of binaries.Sign) (class (token_at ts i).word)) (level ts room (operand_of binaries.Sign)) A (λ j ps. lacking k.Binary (token_at ts i).text (end_of ts j) (nodes_of ps)) i
binary_round ts room binaries.Factor A i = chain_round (has (operators_of binaries.Factor) (class (token_at ts i).word)) (level ts room (operand_of binaries.Factor)) A (λ j ps. lacking k.Binary (token_at ts i).text (end_of ts j) (nodes_of ps)) i

pub binary_turn : (ts : List Item) (room : ℕ) (b : Binary) (n i : ℕ) → zero < n → binary_rest ts room b n i ≡ cond {A = Option (List Part × ℕ)} (has (operators_of b) (class (token_at ts i).word)) (◌>>=◌ {B = List Part × ℕ} (level ts room (operand_of b) (suc i)) (λ y. ◌>>=◌ {B = List Part × ℕ} (binary_rest ts room b (n - 1) y.1) (λ v. Some (lacking k.Binary (token_at ts i).text (end_of ts y.1) (nodes_of y.0) ∷ v.0, v.1)))) (Some ([], i))
binary_turn ts room b n i h = binary_again ts room b n i h ∙ binary_round ts room b (binary_rest ts room b (n - 1)) i

pub binary_step : (ts : List Item) (room : ℕ) (b : Binary) (i : ℕ) → zero < room → level ts room (level_of b) i ≡ ◌>>=◌ {B = List Part × ℕ} (level ts room (operand_of b) i) (λ x. ◌>>=◌ {B = List Part × ℕ} (binary_rest ts room b (suc (length ts)) x.1) (λ y. Some (chain (token_at ts i).span.from (x.0 ++ y.0), y.1)))
unfolding binary_rest
binary_step ts room binaries.Or i h = level_row ts room (level_of binaries.Or) i h ∙ made (level ts room (operand_of binaries.Or) i) (binary_rest ts room binaries.Or (suc (length ts))) (λ j ps. chain (token_at ts i).span.from ps)
binary_step ts room binaries.And i h = level_row ts room (level_of binaries.And) i h ∙ made (level ts room (operand_of binaries.And) i) (binary_rest ts room binaries.And (suc (length ts))) (λ j ps. chain (token_at ts i).span.from ps)
binary_step ts room binaries.Bar i h = level_row ts room (level_of binaries.Bar) i h ∙ made (level ts room (operand_of binaries.Bar) i) (binary_rest ts room binaries.Bar (suc (length ts))) (λ j ps. chain (token_at ts i).span.from ps)
binary_step ts room binaries.Caret i h = level_row ts room (level_of binaries.Caret) i h ∙ made (level ts room (operand_of binaries.Caret) i) (binary_rest ts room binaries.Caret (suc (length ts))) (λ j ps. chain (token_at ts i).span.from ps)
binary_step ts room binaries.Ampersand i h = level_row ts room (level_of binaries.Ampersand) i h ∙ made (level ts room (operand_of binaries.Ampersand) i) (binary_rest ts room binaries.Ampersand (suc (length ts))) (λ j ps. chain (token_at ts i).span.from ps)
binary_step ts room binaries.Shift i h = level_row ts room (level_of binaries.Shift) i h ∙ made (level ts room (operand_of binaries.Shift) i) (binary_rest ts room binaries.Shift (suc (length ts))) (λ j ps. chain (token_at ts i).span.from ps)
binary_step ts room binaries.Sign i h = level_row ts room (level_of binaries.Sign) i h ∙ made (level ts room (operand_of binaries.Sign) i) (binary_rest ts room binaries.Sign (suc (length ts))) (λ j ps. chain (token_at ts i).span.from ps)
binary_step ts room binaries.Factor i h = level_row ts room (level_of binaries.Factor) i h ∙ made (level ts room (operand_of binaries.Factor) i) (binary_rest ts room binaries.Factor (suc (length ts))) (λ j ps. chain (token_at ts i).span.from ps)

-- ---- primaries

unfoldable pub prim_rest : List Item → ℕ → ℕ → ℕ → Option (List Part × ℕ)
prim_rest ts room n = turns (λ i. None) (λ X. round ts room X PrimTail rows.prim_round) n

prim_again : (ts : List Item) (room : ℕ) (n i : ℕ) → zero < n → prim_rest ts room n i ≡ round ts room (prim_rest ts room (n - 1)) PrimTail rows.prim_round i
unfolding prim_rest
prim_again ts room n i h = ap (λ f. f i) (turn (λ i. None) (λ X. round ts room X PrimTail rows.prim_round) n h)

pub prim_turned : (ts : List Item) (room : ℕ) (n i : ℕ) → n ≡ zero → prim_rest ts room n i ≡ None
unfolding prim_rest
prim_turned ts room n i h = ap (λ f. f i) (turned (λ i. None) (λ X. round ts room X PrimTail rows.prim_round) n h)

pub prim_turn : (ts : List Item) (room n i : ℕ) → zero < n → prim_rest ts room n i ≡ cond {A = Option (List Part × ℕ)} (has (sets.first Suffix) (class (token_at ts i).word)) (◌>>=◌ {B = List Part × ℕ} (level ts room Suffix i) (λ x. ◌>>=◌ {B = List Part × ℕ} (prim_rest ts room (n - 1) x.1) (λ y. Some (x.0 ++ y.0, y.1)))) (Some ([], i))
prim_turn ts room n i h = prim_again ts room n i h

pub prim_step : (ts : List Item) (room i : ℕ) → zero < room → level ts room Prim i ≡ ◌>>=◌ {B = List Part × ℕ} (level ts room Atom i) (λ x. ◌>>=◌ {B = List Part × ℕ} (prim_rest ts room (suc (length ts)) x.1) (λ y. Some (chain (token_at ts i).span.from (x.0 ++ y.0), y.1)))
unfolding prim_rest
prim_step ts room i h = level_row ts room Prim i h ∙ made (level ts room Atom i) (prim_rest ts room (suc (length ts))) (λ j ps. chain (token_at ts i).span.from ps)

unfoldable pub cmp_rest : List Item → ℕ → ℕ → ℕ → Option (List Part × ℕ)
cmp_rest ts room n = turns (λ i. None) (λ X. round ts room X CmpTail rows.cmp_round) n

cmp_again : (ts : List Item) (room : ℕ) (n i : ℕ) → zero < n → cmp_rest ts room n i ≡ round ts room (cmp_rest ts room (n - 1)) CmpTail rows.cmp_round i
unfolding cmp_rest
cmp_again ts room n i h = ap (λ f. f i) (turn (λ i. None) (λ X. round ts room X CmpTail rows.cmp_round) n h)

pub cmp_turned : (ts : List Item) (room : ℕ) (n i : ℕ) → n ≡ zero → cmp_rest ts room n i ≡ None
unfolding cmp_rest
cmp_turned ts room n i h = ap (λ f. f i) (turned (λ i. None) (λ X. round ts room X CmpTail rows.cmp_round) n h)

nested : (o : Option (List Part × ℕ)) (V A : ℕ → Option (List Part × ℕ)) → ◌>>=◌ {B = List Part × ℕ} o (λ x. ◌>>=◌ {B = List Part × ℕ} (◌>>=◌ {B = List Part × ℕ} (V x.1) (λ y. ◌>>=◌ {B = List Part × ℕ} (A y.1) (λ z. Some (y.0 ++ z.0, z.1)))) (λ u. Some (x.0 ++ u.0, u.1))) ≡ ◌>>=◌ {B = List Part × ℕ} o (λ x. ◌>>=◌ {B = List Part × ℕ} (V x.1) (λ y. ◌>>=◌ {B = List Part × ℕ} (A y.1) (λ z. Some (x.0 ++ (y.0 ++ z.0), z.1))))
nested None V A = refl
nested (Some x) V A = by_second (V x.1)
  where
    by_third : (y : List Part × ℕ) (p : Option (List Part × ℕ)) → ◌>>=◌ {B = List Part × ℕ} (◌>>=◌ {B = List Part × ℕ} p (λ z. Some (y.0 ++ z.0, z.1))) (λ u. Some (x.0 ++ u.0, u.1)) ≡ ◌>>=◌ {B = List Part × ℕ} p (λ z. Some (x.0 ++ (y.0 ++ z.0), z.1))
    by_third y None = refl
    by_third y (Some z) = refl

    by_second : (q : Option (List Part × ℕ)) → ◌>>=◌ {B = List Part × ℕ} (◌>>=◌ {B = List Part × ℕ} q (λ y. ◌>>=◌ {B = List Part × ℕ} (A y.1) (λ z. Some (y.0 ++ z.0, z.1)))) (λ u. Some (x.0 ++ u.0, u.1)) ≡ ◌>>=◌ {B = List Part × ℕ} q (λ y. ◌>>=◌ {B = List Part × ℕ} (A y.1) (λ z. Some (x.0 ++ (y.0 ++ z.0), z.1)))
    by_second None = refl
    by_second (Some y) = by_third y (A y.1)

pub cmp_turn : (ts : List Item) (room n i : ℕ) → zero < n → cmp_rest ts room n i ≡ cond {A = Option (List Part × ℕ)} (has (sets.first Cop) (class (token_at ts i).word)) (◌>>=◌ {B = List Part × ℕ} (level ts room Cop i) (λ x. ◌>>=◌ {B = List Part × ℕ} (level ts room Bor x.1) (λ y. ◌>>=◌ {B = List Part × ℕ} (cmp_rest ts room (n - 1) y.1) (λ z. Some (x.0 ++ (y.0 ++ z.0), z.1))))) (Some ([], i))
cmp_turn ts room n i h = cmp_again ts room n i h ∙ ap (λ (o : Option (List Part × ℕ)). cond {A = Option (List Part × ℕ)} (has (sets.first Cop) (class (token_at ts i).word)) o (Some ([], i))) (nested (level ts room Cop i) (level ts room Bor) (cmp_rest ts room (n - 1)))

pub cmp_step : (ts : List Item) (room i : ℕ) → zero < room → level ts room Cmp i ≡ ◌>>=◌ {B = List Part × ℕ} (level ts room Bor i) (λ x. ◌>>=◌ {B = List Part × ℕ} (cmp_rest ts room (suc (length ts)) x.1) (λ y. Some (compared (token_at ts i).span.from (end_of ts y.1) (x.0 ++ y.0), y.1)))
unfolding cmp_rest
cmp_step ts room i h = level_row ts room Cmp i h ∙ made (level ts room Bor i) (cmp_rest ts room (suc (length ts))) (λ j ps. compared (token_at ts i).span.from (end_of ts j) ps)

unfoldable pub comprehension_rest : List Item → ℕ → ℕ → ℕ → Option (List Part × ℕ)
comprehension_rest ts room n = turns (λ i. None) (λ X. round ts room X ClausesTail rows.clauses_round) n

comprehension_again : (ts : List Item) (room : ℕ) (n i : ℕ) → zero < n → comprehension_rest ts room n i ≡ round ts room (comprehension_rest ts room (n - 1)) ClausesTail rows.clauses_round i
unfolding comprehension_rest
comprehension_again ts room n i h = ap (λ f. f i) (turn (λ i. None) (λ X. round ts room X ClausesTail rows.clauses_round) n h)

pub comprehension_turned : (ts : List Item) (room : ℕ) (n i : ℕ) → n ≡ zero → comprehension_rest ts room n i ≡ None
unfolding comprehension_rest
comprehension_turned ts room n i h = ap (λ f. f i) (turned (λ i. None) (λ X. round ts room X ClausesTail rows.clauses_round) n h)

pub comprehension_turn : (ts : List Item) (room n i : ℕ) → zero < n → comprehension_rest ts room n i ≡ cond {A = Option (List Part × ℕ)} (has (sets.first Clause) (class (token_at ts i).word)) (◌>>=◌ {B = List Part × ℕ} (level ts room Clause i) (λ x. ◌>>=◌ {B = List Part × ℕ} (comprehension_rest ts room (n - 1) x.1) (λ y. Some (x.0 ++ y.0, y.1)))) (Some ([], i))
comprehension_turn ts room n i h = comprehension_again ts room n i h

pub comprehension_step : (ts : List Item) (room i : ℕ) → zero < room → level ts room Comprehension i ≡ ◌>>=◌ {B = List Part × ℕ} (level ts room ForClause i) (λ x. ◌>>=◌ {B = List Part × ℕ} (comprehension_rest ts room (suc (length ts)) x.1) (λ y. Some (Part.clauses (nodes_of (x.0 ++ y.0)) ∷ [], y.1)))
unfolding comprehension_rest
comprehension_step ts room i h = level_row ts room Comprehension i h ∙ made (level ts room ForClause i) (comprehension_rest ts room (suc (length ts))) (λ j ps. Part.clauses (nodes_of ps) ∷ [])

unfoldable pub more_strings_rest : List Item → ℕ → ℕ → ℕ → Option (List Part × ℕ)
more_strings_rest ts room n = turns (λ i. None) (λ X. round ts room X StringsTail rows.strings_round) n

more_strings_again : (ts : List Item) (room : ℕ) (n i : ℕ) → zero < n → more_strings_rest ts room n i ≡ round ts room (more_strings_rest ts room (n - 1)) StringsTail rows.strings_round i
unfolding more_strings_rest
more_strings_again ts room n i h = ap (λ f. f i) (turn (λ i. None) (λ X. round ts room X StringsTail rows.strings_round) n h)

pub more_strings_turned : (ts : List Item) (room : ℕ) (n i : ℕ) → n ≡ zero → more_strings_rest ts room n i ≡ None
unfolding more_strings_rest
more_strings_turned ts room n i h = ap (λ f. f i) (turned (λ i. None) (λ X. round ts room X StringsTail rows.strings_round) n h)

taken : (c : Bool) (x : Part) (A : ℕ → Option (List Part × ℕ)) (i : ℕ) → cond {A = Option (List Part × ℕ)} c (◌>>=◌ {B = List Part × ℕ} (cond {A = Option (List Part × ℕ)} c (Some (x ∷ [], suc i)) None) (λ u. ◌>>=◌ {B = List Part × ℕ} (A u.1) (λ v. Some (u.0 ++ v.0, v.1)))) (Some ([], i)) ≡ cond {A = Option (List Part × ℕ)} c (◌>>=◌ {B = List Part × ℕ} (A (suc i)) (λ v. Some (x ∷ v.0, v.1))) (Some ([], i))
taken false x A i = refl
taken true x A i = refl

pub more_strings_turn : (ts : List Item) (room n i : ℕ) → zero < n → more_strings_rest ts room n i ≡ cond {A = Option (List Part × ℕ)} (has strings (class (token_at ts i).word)) (◌>>=◌ {B = List Part × ℕ} (more_strings_rest ts room (n - 1) (suc i)) (λ v. Some (leaf Own (token_at ts i) ∷ v.0, v.1))) (Some ([], i))
more_strings_turn ts room n i h = more_strings_again ts room n i h ∙ taken (has strings (class (token_at ts i).word)) (leaf Own (token_at ts i)) (more_strings_rest ts room (n - 1)) i

pub more_strings_step : (ts : List Item) (room i : ℕ) → zero < room → level ts room MoreStrings i ≡ ◌>>=◌ {B = List Part × ℕ} (cond {A = Option (List Part × ℕ)} (has strings (class (token_at ts i).word)) (Some (leaf Own (token_at ts i) ∷ [], suc i)) None) (λ x. ◌>>=◌ {B = List Part × ℕ} (more_strings_rest ts room (suc (length ts)) x.1) (λ y. Some (more (nodes_of (x.0 ++ y.0)) ∷ [], y.1)))
unfolding more_strings_rest
more_strings_step ts room i h = level_row ts room MoreStrings i h ∙ made (cond {A = Option (List Part × ℕ)} (has strings (class (token_at ts i).word)) (Some (leaf Own (token_at ts i) ∷ [], suc i)) None) (more_strings_rest ts room (suc (length ts))) (λ j ps. more (nodes_of ps) ∷ [])

-- ---- lists with commas

abbrev pub list_tail_of : Place → Level
list_tail_of places.Star = StarsTail
list_tail_of places.Item = StarsTail
list_tail_of places.Target = TargetsTail
list_tail_of places.Piece = PiecesTail
list_tail_of places.Arg = MoreArgsTail
list_tail_of places.FirstArg = MoreArgsTail
list_tail_of places.Param = MoreParamsTail
list_tail_of places.LambdaParam = MoreLambdaParamsTail

listed_round : (c : Bool) (d : ℕ → Bool) (V A : ℕ → Option (List Part × ℕ)) (i : ℕ) → cond {A = Option (List Part × ℕ)} c (◌>>=◌ {B = List Part × ℕ} (cond {A = Option (List Part × ℕ)} c (Some ([], suc i)) None) (λ x. ◌>>=◌ {B = List Part × ℕ} (cond {A = Option (List Part × ℕ)} (d x.1) (◌>>=◌ {B = List Part × ℕ} (V x.1) (λ u. ◌>>=◌ {B = List Part × ℕ} (A u.1) (λ v. Some (u.0 ++ v.0, v.1)))) (Some ([], x.1))) (λ y. Some (x.0 ++ y.0, y.1)))) (Some ([], i))
    ≡ cond {A = Option (List Part × ℕ)} c (cond {A = Option (List Part × ℕ)} (d (suc i)) (◌>>=◌ {B = List Part × ℕ} (V (suc i)) (λ u. ◌>>=◌ {B = List Part × ℕ} (A u.1) (λ v. Some (u.0 ++ v.0, v.1)))) (Some ([], suc i))) (Some ([], i))
listed_round false d V A i = refl
listed_round true d V A i = same (cond {A = Option (List Part × ℕ)} (d (suc i)) (◌>>=◌ {B = List Part × ℕ} (V (suc i)) (λ u. ◌>>=◌ {B = List Part × ℕ} (A u.1) (λ v. Some (u.0 ++ v.0, v.1)))) (Some ([], suc i)))
  where
    same : (o : Option (List Part × ℕ)) → ◌>>=◌ {B = List Part × ℕ} o (λ y. Some ([] ++ y.0, y.1)) ≡ o
    same None = refl
    same (Some y) = refl

unfoldable pub further_rest : List Item → ℕ → Place → ℕ → ℕ → Option (List Part × ℕ)
further_rest ts room p n = turns (λ i. None) (λ X. round ts room X (list_tail_of p) (rows.listed (item_of p))) n

further_again : (ts : List Item) (room : ℕ) (p : Place) (n i : ℕ) → zero < n → further_rest ts room p n i ≡ round ts room (further_rest ts room p (n - 1)) (list_tail_of p) (rows.listed (item_of p)) i
unfolding further_rest
further_again ts room p n i h = ap (λ f. f i) (turn (λ i. None) (λ X. round ts room X (list_tail_of p) (rows.listed (item_of p))) n h)

pub further_turned : (ts : List Item) (room : ℕ) (p : Place) (n i : ℕ) → n ≡ zero → further_rest ts room p n i ≡ None
unfolding further_rest
further_turned ts room p n i h = ap (λ f. f i) (turned (λ i. None) (λ X. round ts room X (list_tail_of p) (rows.listed (item_of p))) n h)

further_round : (ts : List Item) (room : ℕ) (p : Place) (A : ℕ → Option (List Part × ℕ)) (i : ℕ) → round ts room A (list_tail_of p) (rows.listed (item_of p)) i ≡ cond {A = Option (List Part × ℕ)} (has commas (class (token_at ts i).word)) (cond {A = Option (List Part × ℕ)} (has (sets.first (item_of p)) (class (token_at ts (suc i)).word)) (◌>>=◌ {B = List Part × ℕ} (level ts room (item_of p) (suc i)) (λ u. ◌>>=◌ {B = List Part × ℕ} (A u.1) (λ v. Some (u.0 ++ v.0, v.1)))) (Some ([], suc i))) (Some ([], i))
further_round ts room places.Star A i = listed_round (has commas (class (token_at ts i).word)) (λ j. has (sets.first (item_of places.Star)) (class (token_at ts j).word)) (level ts room (item_of places.Star)) A i
further_round ts room places.Item A i = listed_round (has commas (class (token_at ts i).word)) (λ j. has (sets.first (item_of places.Item)) (class (token_at ts j).word)) (level ts room (item_of places.Item)) A i
further_round ts room places.Target A i = listed_round (has commas (class (token_at ts i).word)) (λ j. has (sets.first (item_of places.Target)) (class (token_at ts j).word)) (level ts room (item_of places.Target)) A i
further_round ts room places.Piece A i = listed_round (has commas (class (token_at ts i).word)) (λ j. has (sets.first (item_of places.Piece)) (class (token_at ts j).word)) (level ts room (item_of places.Piece)) A i
further_round ts room places.Arg A i = listed_round (has commas (class (token_at ts i).word)) (λ j. has (sets.first (item_of places.Arg)) (class (token_at ts j).word)) (level ts room (item_of places.Arg)) A i
further_round ts room places.FirstArg A i = listed_round (has commas (class (token_at ts i).word)) (λ j. has (sets.first (item_of places.FirstArg)) (class (token_at ts j).word)) (level ts room (item_of places.FirstArg)) A i
further_round ts room places.Param A i = listed_round (has commas (class (token_at ts i).word)) (λ j. has (sets.first (item_of places.Param)) (class (token_at ts j).word)) (level ts room (item_of places.Param)) A i
further_round ts room places.LambdaParam A i = listed_round (has commas (class (token_at ts i).word)) (λ j. has (sets.first (item_of places.LambdaParam)) (class (token_at ts j).word)) (level ts room (item_of places.LambdaParam)) A i

pub further_turn : (ts : List Item) (room : ℕ) (p : Place) (n i : ℕ) → zero < n → further_rest ts room p n i ≡ cond {A = Option (List Part × ℕ)} (has commas (class (token_at ts i).word)) (cond {A = Option (List Part × ℕ)} (has (sets.first (item_of p)) (class (token_at ts (suc i)).word)) (◌>>=◌ {B = List Part × ℕ} (level ts room (item_of p) (suc i)) (λ u. ◌>>=◌ {B = List Part × ℕ} (further_rest ts room p (n - 1) u.1) (λ v. Some (u.0 ++ v.0, v.1)))) (Some ([], suc i))) (Some ([], i))
further_turn ts room p n i h = further_again ts room p n i h ∙ further_round ts room p (further_rest ts room p (n - 1)) i

pub further_step : (ts : List Item) (room : ℕ) (p : Place) (i : ℕ) → zero < room → level ts room (further_of p) i ≡ cond {A = Option (List Part × ℕ)} (has (sets.first (item_of p)) (class (token_at ts i).word)) (◌>>=◌ {B = List Part × ℕ} (level ts room (item_of p) i) (λ x. ◌>>=◌ {B = List Part × ℕ} (further_rest ts room p (suc (length ts)) x.1) (λ y. Some (x.0 ++ y.0, y.1)))) (Some ([], i))
unfolding further_rest
further_step ts room places.Star i h = level_row ts room (further_of places.Star) i h
further_step ts room places.Item i h = level_row ts room (further_of places.Item) i h
further_step ts room places.Target i h = level_row ts room (further_of places.Target) i h
further_step ts room places.Piece i h = level_row ts room (further_of places.Piece) i h
further_step ts room places.Arg i h = level_row ts room (further_of places.Arg) i h
further_step ts room places.FirstArg i h = level_row ts room (further_of places.FirstArg) i h
further_step ts room places.Param i h = level_row ts room (further_of places.Param) i h
further_step ts room places.LambdaParam i h = level_row ts room (further_of places.LambdaParam) i h

-- what follows a comma, as further items
comma_part : (m d : Bool) (V : ℕ → Option (List Part × ℕ)) (i : ℕ) → cond {A = Option (List Part × ℕ)} (m || (d || false)) (◌>>=◌ {B = List Part × ℕ} (◌>>=◌ {B = List Part × ℕ} (cond {A = Option (List Part × ℕ)} (m || (d || false)) (Some ([], suc i)) None) (λ x. ◌>>=◌ {B = List Part × ℕ} (V x.1) (λ y. Some (x.0 ++ y.0, y.1)))) (λ z. Some (more (nodes_of z.0) ∷ [], z.1))) (Some ([], i)) ≡ cond {A = Option (List Part × ℕ)} (m || (d || false)) (◌>>=◌ {B = List Part × ℕ} (V (suc i)) (λ x. Some (more (nodes_of x.0) ∷ [], x.1))) (Some ([], i))
comma_part m d V i = by_comma (m || (d || false))
  where
    inner : (o : Option (List Part × ℕ)) → ◌>>=◌ {B = List Part × ℕ} (◌>>=◌ {B = List Part × ℕ} o (λ y. Some ([] ++ y.0, y.1))) (λ z. Some (more (nodes_of z.0) ∷ [], z.1)) ≡ ◌>>=◌ {B = List Part × ℕ} o (λ x. Some (more (nodes_of x.0) ∷ [], x.1))
    inner None = refl
    inner (Some y) = refl

    by_comma : (c : Bool) → cond {A = Option (List Part × ℕ)} c (◌>>=◌ {B = List Part × ℕ} (◌>>=◌ {B = List Part × ℕ} (cond {A = Option (List Part × ℕ)} c (Some ([], suc i)) None) (λ x. ◌>>=◌ {B = List Part × ℕ} (V x.1) (λ y. Some (x.0 ++ y.0, y.1)))) (λ z. Some (more (nodes_of z.0) ∷ [], z.1))) (Some ([], i)) ≡ cond {A = Option (List Part × ℕ)} c (◌>>=◌ {B = List Part × ℕ} (V (suc i)) (λ x. Some (more (nodes_of x.0) ∷ [], x.1))) (Some ([], i))
    by_comma false = refl
    by_comma true = inner (V (suc i))

clause_part : (a f m d : Bool) (K V Z : Option (List Part × ℕ)) → cond {A = Option (List Part × ℕ)} (a || (f || (m || (d || false)))) (cond {A = Option (List Part × ℕ)} (a || (f || false)) K V) Z ≡ cond {A = Option (List Part × ℕ)} (a || (f || false)) K (cond {A = Option (List Part × ℕ)} (m || (d || false)) V Z)
clause_part true f m d K V Z = refl
clause_part false true m d K V Z = refl
clause_part false false m d K V Z = refl

abbrev pub after_comma : List Item → ℕ → Place → ℕ → Option (List Part × ℕ)
after_comma ts room p i = cond {A = Option (List Part × ℕ)} (has commas (class (token_at ts i).word)) (◌>>=◌ {B = List Part × ℕ} (level ts room (further_of p) (suc i)) (λ x. Some (more (nodes_of x.0) ∷ [], x.1))) (Some ([], i))

pub after_step : (ts : List Item) (room : ℕ) (p : Place) (i : ℕ) → zero < room → level ts room (after_of p) i ≡ cond {A = Option (List Part × ℕ)} (takes_clauses p) (cond {A = Option (List Part × ℕ)} (has (sets.first ForClause) (class (token_at ts i).word)) (level ts room Comprehension i) (after_comma ts room p i)) (after_comma ts room p i)
after_step ts room places.Star i h = level_row ts room (after_of places.Star) i h ∙ comma_part (eqb (class w.Comma) (class (token_at ts i).word)) (eqb (class w.CommaDots) (class (token_at ts i).word)) (level ts room (further_of places.Star)) i
after_step ts room places.Item i h = level_row ts room (after_of places.Item) i h ∙ clause_part (eqb (class w.Async) (class (token_at ts i).word)) (eqb (class w.For) (class (token_at ts i).word)) (eqb (class w.Comma) (class (token_at ts i).word)) (eqb (class w.CommaDots) (class (token_at ts i).word)) (level ts room Comprehension i) (◌>>=◌ {B = List Part × ℕ} (◌>>=◌ {B = List Part × ℕ} (cond {A = Option (List Part × ℕ)} (has commas (class (token_at ts i).word)) (Some ([], suc i)) None) (λ x. ◌>>=◌ {B = List Part × ℕ} (level ts room (further_of places.Item) x.1) (λ y. Some (x.0 ++ y.0, y.1)))) (λ z. Some (more (nodes_of z.0) ∷ [], z.1))) (Some ([], i)) ∙ ap (λ (o : Option (List Part × ℕ)). cond {A = Option (List Part × ℕ)} (has (sets.first ForClause) (class (token_at ts i).word)) (level ts room Comprehension i) o) (comma_part (eqb (class w.Comma) (class (token_at ts i).word)) (eqb (class w.CommaDots) (class (token_at ts i).word)) (level ts room (further_of places.Item)) i)
after_step ts room places.Target i h = level_row ts room (after_of places.Target) i h ∙ comma_part (eqb (class w.Comma) (class (token_at ts i).word)) (eqb (class w.CommaDots) (class (token_at ts i).word)) (level ts room (further_of places.Target)) i
after_step ts room places.Piece i h = level_row ts room (after_of places.Piece) i h ∙ comma_part (eqb (class w.Comma) (class (token_at ts i).word)) (eqb (class w.CommaDots) (class (token_at ts i).word)) (level ts room (further_of places.Piece)) i
after_step ts room places.Arg i h = level_row ts room (after_of places.Arg) i h ∙ comma_part (eqb (class w.Comma) (class (token_at ts i).word)) (eqb (class w.CommaDots) (class (token_at ts i).word)) (level ts room (further_of places.Arg)) i
after_step ts room places.FirstArg i h = level_row ts room (after_of places.FirstArg) i h ∙ clause_part (eqb (class w.Async) (class (token_at ts i).word)) (eqb (class w.For) (class (token_at ts i).word)) (eqb (class w.Comma) (class (token_at ts i).word)) (eqb (class w.CommaDots) (class (token_at ts i).word)) (level ts room Comprehension i) (◌>>=◌ {B = List Part × ℕ} (◌>>=◌ {B = List Part × ℕ} (cond {A = Option (List Part × ℕ)} (has commas (class (token_at ts i).word)) (Some ([], suc i)) None) (λ x. ◌>>=◌ {B = List Part × ℕ} (level ts room (further_of places.FirstArg) x.1) (λ y. Some (x.0 ++ y.0, y.1)))) (λ z. Some (more (nodes_of z.0) ∷ [], z.1))) (Some ([], i)) ∙ ap (λ (o : Option (List Part × ℕ)). cond {A = Option (List Part × ℕ)} (has (sets.first ForClause) (class (token_at ts i).word)) (level ts room Comprehension i) o) (comma_part (eqb (class w.Comma) (class (token_at ts i).word)) (eqb (class w.CommaDots) (class (token_at ts i).word)) (level ts room (further_of places.FirstArg)) i)
after_step ts room places.Param i h = level_row ts room (after_of places.Param) i h ∙ comma_part (eqb (class w.Comma) (class (token_at ts i).word)) (eqb (class w.CommaDots) (class (token_at ts i).word)) (level ts room (further_of places.Param)) i
after_step ts room places.LambdaParam i h = level_row ts room (after_of places.LambdaParam) i h ∙ comma_part (eqb (class w.Comma) (class (token_at ts i).word)) (eqb (class w.CommaDots) (class (token_at ts i).word)) (level ts room (further_of places.LambdaParam)) i

-- ---- braces

front : (o : Option (List Part × ℕ)) → ◌>>=◌ {B = List Part × ℕ} o (λ y. Some ([] ++ y.0, y.1)) ≡ o
front None = refl
front (Some y) = refl

pairs_part : (m d : Bool) (P Q : ℕ → Option (List Part × ℕ)) (i : ℕ) → cond {A = Option (List Part × ℕ)} (m || (d || false)) (cond {A = Option (List Part × ℕ)} (m || false) (◌>>=◌ {B = List Part × ℕ} (cond {A = Option (List Part × ℕ)} (m || false) (Some ([], suc i)) None) (λ x. ◌>>=◌ {B = List Part × ℕ} (P x.1) (λ y. Some (x.0 ++ y.0, y.1)))) (◌>>=◌ {B = List Part × ℕ} (cond {A = Option (List Part × ℕ)} (d || false) (Some ([], suc i)) None) (λ x. ◌>>=◌ {B = List Part × ℕ} (Q x.1) (λ y. Some (x.0 ++ y.0, y.1))))) (Some ([], i)) ≡ cond {A = Option (List Part × ℕ)} m (P (suc i)) (cond {A = Option (List Part × ℕ)} d (Q (suc i)) (Some ([], i)))
pairs_part true d P Q i = front (P (suc i))
pairs_part false true P Q i = front (Q (suc i))
pairs_part false false P Q i = refl

further_part : (m d : Bool) (P Q : ℕ → Option (List Part × ℕ)) (i : ℕ) → cond {A = Option (List Part × ℕ)} (m || (d || false)) (◌>>=◌ {B = List Part × ℕ} (cond {A = Option (List Part × ℕ)} (m || false) (◌>>=◌ {B = List Part × ℕ} (cond {A = Option (List Part × ℕ)} (m || false) (Some ([], suc i)) None) (λ x. ◌>>=◌ {B = List Part × ℕ} (P x.1) (λ y. Some (x.0 ++ y.0, y.1)))) (◌>>=◌ {B = List Part × ℕ} (cond {A = Option (List Part × ℕ)} (d || false) (Some ([], suc i)) None) (λ x. ◌>>=◌ {B = List Part × ℕ} (Q x.1) (λ y. Some (x.0 ++ y.0, y.1))))) (λ z. Some (more (nodes_of z.0) ∷ [], z.1))) (Some ([], i)) ≡ cond {A = Option (List Part × ℕ)} m (◌>>=◌ {B = List Part × ℕ} (P (suc i)) (λ z. Some (more (nodes_of z.0) ∷ [], z.1))) (cond {A = Option (List Part × ℕ)} d (◌>>=◌ {B = List Part × ℕ} (Q (suc i)) (λ z. Some (more (nodes_of z.0) ∷ [], z.1))) (Some ([], i)))
further_part true d P Q i = ap (λ (o : Option (List Part × ℕ)). ◌>>=◌ {B = List Part × ℕ} o (λ z. Some (more (nodes_of z.0) ∷ [], z.1))) (front (P (suc i)))
further_part false true P Q i = ap (λ (o : Option (List Part × ℕ)). ◌>>=◌ {B = List Part × ℕ} o (λ z. Some (more (nodes_of z.0) ∷ [], z.1))) (front (Q (suc i)))
further_part false false P Q i = refl

pub dots_leaf_step : (ts : List Item) (room i : ℕ) → zero < room → level ts room DotsLeaf i ≡ cond {A = Option (List Part × ℕ)} (has dots (class (token_at ts i).word)) (Some (leaf Own (token_at ts i) ∷ [], suc i)) None
dots_leaf_step ts room i h = level_row ts room DotsLeaf i h

pub pair_or_dots_step : (ts : List Item) (room : ℕ) (b : Bool) (i : ℕ) → zero < room → level ts room (pair_of b) i ≡ cond {A = Option (List Part × ℕ)} b (cond {A = Option (List Part × ℕ)} (has dots (class (token_at ts i).word)) (Some (leaf Own (token_at ts i) ∷ [], suc i)) None) (level ts room Pair i)
pair_or_dots_step ts room true i h = level_row ts room DotsLeaf i h
pair_or_dots_step ts room false i h = refl

unfoldable pub pairs_rest : List Item → ℕ → ℕ → ℕ → Option (List Part × ℕ)
pairs_rest ts room n = turns (λ i. None) (λ X. round ts room X PairsTail rows.pairs_round) n

pairs_again : (ts : List Item) (room : ℕ) (n i : ℕ) → zero < n → pairs_rest ts room n i ≡ round ts room (pairs_rest ts room (n - 1)) PairsTail rows.pairs_round i
unfolding pairs_rest
pairs_again ts room n i h = ap (λ f. f i) (turn (λ i. None) (λ X. round ts room X PairsTail rows.pairs_round) n h)

pub pairs_turned : (ts : List Item) (room : ℕ) (n i : ℕ) → n ≡ zero → pairs_rest ts room n i ≡ None
unfolding pairs_rest
pairs_turned ts room n i h = ap (λ f. f i) (turned (λ i. None) (λ X. round ts room X PairsTail rows.pairs_round) n h)

pub pairs_turn : (ts : List Item) (room n i : ℕ) → zero < n → pairs_rest ts room n i ≡ cond {A = Option (List Part × ℕ)} (eqb (class w.CommaDots) (class (token_at ts i).word)) (◌>>=◌ {B = List Part × ℕ} (level ts room (pair_of true) (suc i)) (λ u. ◌>>=◌ {B = List Part × ℕ} (pairs_rest ts room (n - 1) u.1) (λ v. Some (u.0 ++ v.0, v.1)))) (cond {A = Option (List Part × ℕ)} (eqb (class w.Comma) (class (token_at ts i).word)) (cond {A = Option (List Part × ℕ)} (has (sets.first Pair) (class (token_at ts (suc i)).word)) (◌>>=◌ {B = List Part × ℕ} (level ts room (pair_of false) (suc i)) (λ u. ◌>>=◌ {B = List Part × ℕ} (pairs_rest ts room (n - 1) u.1) (λ v. Some (u.0 ++ v.0, v.1)))) (Some ([], suc i))) (Some ([], i)))
pairs_turn ts room n i h = pairs_again ts room n i h ∙ pairs_part (eqb (class w.CommaDots) (class (token_at ts i).word)) (eqb (class w.Comma) (class (token_at ts i).word)) (λ j. ◌>>=◌ {B = List Part × ℕ} (level ts room DotsLeaf j) (λ u. ◌>>=◌ {B = List Part × ℕ} (pairs_rest ts room (n - 1) u.1) (λ v. Some (u.0 ++ v.0, v.1)))) (λ j. cond {A = Option (List Part × ℕ)} (has (sets.first Pair) (class (token_at ts j).word)) (◌>>=◌ {B = List Part × ℕ} (level ts room Pair j) (λ u. ◌>>=◌ {B = List Part × ℕ} (pairs_rest ts room (n - 1) u.1) (λ v. Some (u.0 ++ v.0, v.1)))) (Some ([], j))) i

abbrev pub pairs_from : List Item → ℕ → Bool → ℕ → Option (List Part × ℕ)
pairs_from ts room b i = ◌>>=◌ {B = List Part × ℕ} (level ts room (pair_of b) i) (λ x. ◌>>=◌ {B = List Part × ℕ} (pairs_rest ts room (suc (length ts)) x.1) (λ y. Some (x.0 ++ y.0, y.1)))

pub pairs_step : (ts : List Item) (room : ℕ) (b : Bool) (i : ℕ) → zero < room → level ts room (pairs_of b) i ≡ cond {A = Option (List Part × ℕ)} b (pairs_from ts room b i) (cond {A = Option (List Part × ℕ)} (has (sets.first Pair) (class (token_at ts i).word)) (pairs_from ts room b i) (Some ([], i)))
unfolding pairs_rest
pairs_step ts room true i h = level_row ts room DottedPairs i h
pairs_step ts room false i h = level_row ts room Pairs i h

abbrev pub after_pair_comma : List Item → ℕ → ℕ → Option (List Part × ℕ)
after_pair_comma ts room i = cond {A = Option (List Part × ℕ)} (eqb (class w.CommaDots) (class (token_at ts i).word)) (◌>>=◌ {B = List Part × ℕ} (level ts room DottedPairs (suc i)) (λ z. Some (more (nodes_of z.0) ∷ [], z.1))) (cond {A = Option (List Part × ℕ)} (eqb (class w.Comma) (class (token_at ts i).word)) (◌>>=◌ {B = List Part × ℕ} (level ts room Pairs (suc i)) (λ z. Some (more (nodes_of z.0) ∷ [], z.1))) (Some ([], i)))

pub after_pair_step : (ts : List Item) (room : ℕ) (b : Bool) (i : ℕ) → zero < room → level ts room (after_pair_of b) i ≡ cond {A = Option (List Part × ℕ)} b (cond {A = Option (List Part × ℕ)} (has (sets.first ForClause) (class (token_at ts i).word)) (level ts room Comprehension i) (after_pair_comma ts room i)) (after_pair_comma ts room i)
after_pair_step ts room true i h = level_row ts room AfterFirstPair i h ∙ clause_part (eqb (class w.Async) (class (token_at ts i).word)) (eqb (class w.For) (class (token_at ts i).word)) (eqb (class w.CommaDots) (class (token_at ts i).word)) (eqb (class w.Comma) (class (token_at ts i).word)) (level ts room Comprehension i) (◌>>=◌ {B = List Part × ℕ} (cond {A = Option (List Part × ℕ)} ((eqb (class w.CommaDots) (class (token_at ts i).word)) || false) (◌>>=◌ {B = List Part × ℕ} (cond {A = Option (List Part × ℕ)} ((eqb (class w.CommaDots) (class (token_at ts i).word)) || false) (Some ([], suc i)) None) (λ x. ◌>>=◌ {B = List Part × ℕ} (level ts room DottedPairs x.1) (λ y. Some (x.0 ++ y.0, y.1)))) (◌>>=◌ {B = List Part × ℕ} (cond {A = Option (List Part × ℕ)} ((eqb (class w.Comma) (class (token_at ts i).word)) || false) (Some ([], suc i)) None) (λ x. ◌>>=◌ {B = List Part × ℕ} (level ts room Pairs x.1) (λ y. Some (x.0 ++ y.0, y.1))))) (λ z. Some (more (nodes_of z.0) ∷ [], z.1))) (Some ([], i))
    ∙ ap (λ (o : Option (List Part × ℕ)). cond {A = Option (List Part × ℕ)} (has (sets.first ForClause) (class (token_at ts i).word)) (level ts room Comprehension i) o) (further_part (eqb (class w.CommaDots) (class (token_at ts i).word)) (eqb (class w.Comma) (class (token_at ts i).word)) (level ts room DottedPairs) (level ts room Pairs) i)
after_pair_step ts room false i h = level_row ts room AfterPair i h ∙ further_part (eqb (class w.CommaDots) (class (token_at ts i).word)) (eqb (class w.Comma) (class (token_at ts i).word)) (level ts room DottedPairs) (level ts room Pairs) i

unfoldable pub dotted_rest : List Item → ℕ → ℕ → ℕ → Option (List Part × ℕ)
dotted_rest ts room n = turns (λ i. None) (λ X. round ts room X DottedTail rows.dotted_round) n

dotted_again : (ts : List Item) (room : ℕ) (n i : ℕ) → zero < n → dotted_rest ts room n i ≡ round ts room (dotted_rest ts room (n - 1)) DottedTail rows.dotted_round i
unfolding dotted_rest
dotted_again ts room n i h = ap (λ f. f i) (turn (λ i. None) (λ X. round ts room X DottedTail rows.dotted_round) n h)

pub dotted_turned : (ts : List Item) (room : ℕ) (n i : ℕ) → n ≡ zero → dotted_rest ts room n i ≡ None
unfolding dotted_rest
dotted_turned ts room n i h = ap (λ f. f i) (turned (λ i. None) (λ X. round ts room X DottedTail rows.dotted_round) n h)

abbrev pub decision : List Item → ℕ → ℕ → Option (List Part × ℕ)
decision ts room i = cond {A = Option (List Part × ℕ)} (eqb (class w.Comma) (class (token_at ts i).word)) (cond {A = Option (List Part × ℕ)} (has (sets.first LaterEntry) (class (token_at ts (suc i)).word)) (level ts room LaterEntry (suc i)) (Some ([], suc i))) (Some ([], i))

pub dotted_turn : (ts : List Item) (room n i : ℕ) → zero < n → dotted_rest ts room n i ≡ cond {A = Option (List Part × ℕ)} (eqb (class w.CommaDots) (class (token_at ts i).word)) (◌>>=◌ {B = List Part × ℕ} (level ts room (DotsLeaf) (suc i)) (λ u. ◌>>=◌ {B = List Part × ℕ} (dotted_rest ts room (n - 1) u.1) (λ v. Some (u.0 ++ v.0, v.1)))) (decision ts room i)
dotted_turn ts room n i h = dotted_again ts room n i h ∙ pairs_part (eqb (class w.CommaDots) (class (token_at ts i).word)) (eqb (class w.Comma) (class (token_at ts i).word)) (λ j. ◌>>=◌ {B = List Part × ℕ} (level ts room DotsLeaf j) (λ u. ◌>>=◌ {B = List Part × ℕ} (dotted_rest ts room (n - 1) u.1) (λ v. Some (u.0 ++ v.0, v.1)))) (λ j. cond {A = Option (List Part × ℕ)} (has (sets.first LaterEntry) (class (token_at ts j).word)) (level ts room LaterEntry j) (Some ([], j))) i

pub dotted_step : (ts : List Item) (room i : ℕ) → zero < room → level ts room Dotted i ≡ ◌>>=◌ {B = List Part × ℕ} (level ts room DotsLeaf i) (λ x. ◌>>=◌ {B = List Part × ℕ} (dotted_rest ts room (suc (length ts)) x.1) (λ y. Some (undecided [] (x.0 ++ y.0) ∷ [], y.1)))
unfolding dotted_rest
dotted_step ts room i h = level_row ts room Dotted i h ∙ made (level ts room DotsLeaf i) (dotted_rest ts room (suc (length ts))) (λ j ps. undecided [] ps ∷ [])

-- ---- entries

abbrev pub value_of : Bool → Level
value_of true = FirstValue
value_of false = LaterValue

pub entry_step : (ts : List Item) (room : ℕ) (b : Bool) (i : ℕ) → zero < room → level ts room (entry_of b) i ≡ row ts room (rows.entry (after_of (set_place b)) (value_of b)) i
entry_step ts room true i h = level_row ts room FirstEntry i h
entry_step ts room false i h = level_row ts room LaterEntry i h

value_part : (c r : Bool) (V A : ℕ → Option (List Part × ℕ)) (mk : ℕ → List Part → Part) (Y Z : Option (List Part × ℕ)) (i : ℕ) → cond {A = Option (List Part × ℕ)} (c || r) (cond {A = Option (List Part × ℕ)} (c || false) (◌>>=◌ {B = List Part × ℕ} (◌>>=◌ {B = List Part × ℕ} (◌>>=◌ {B = List Part × ℕ} (cond {A = Option (List Part × ℕ)} (c || false) (Some ([], suc i)) None) (λ x. ◌>>=◌ {B = List Part × ℕ} (V x.1) (λ y. Some (x.0 ++ y.0, y.1)))) (λ z. Some (mk z.1 z.0 ∷ [], z.1))) (λ u. ◌>>=◌ {B = List Part × ℕ} (A u.1) (λ v. Some (u.0 ++ v.0, v.1)))) Y) Z ≡ cond {A = Option (List Part × ℕ)} c (◌>>=◌ {B = List Part × ℕ} (V (suc i)) (λ y. ◌>>=◌ {B = List Part × ℕ} (A y.1) (λ v. Some (mk y.1 y.0 ∷ v.0, v.1)))) (cond {A = Option (List Part × ℕ)} r Y Z)
value_part false r V A mk Y Z i = refl
value_part true r V A mk Y Z i = chain_round true V A mk i

pub value_step : (ts : List Item) (room : ℕ) (b : Bool) (i : ℕ) → zero < room → level ts room (value_of b) i ≡ cond {A = Option (List Part × ℕ)} (eqb (class w.Colon) (class (token_at ts i).word)) (◌>>=◌ {B = List Part × ℕ} (level ts room Test (suc i)) (λ y. ◌>>=◌ {B = List Part × ℕ} (level ts room (after_pair_of b) y.1) (λ v. Some (lacking k.Pair [] (end_of ts y.1) (nodes_of y.0) ∷ v.0, v.1)))) (level ts room (after_of (set_place b)) i)
value_step ts room true i h = level_row ts room FirstValue i h ∙ value_part (eqb (class w.Colon) (class (token_at ts i).word)) ((eqb (class w.Async) (class (token_at ts i).word)) || ((eqb (class w.For) (class (token_at ts i).word)) || ((eqb (class w.Comma) (class (token_at ts i).word)) || ((eqb (class w.CommaDots) (class (token_at ts i).word)) || false)))) (level ts room Test) (level ts room AfterFirstPair) (λ j ps. lacking k.Pair [] (end_of ts j) (nodes_of ps)) (cond {A = Option (List Part × ℕ)} (has (sets.first ForClause) (class (token_at ts i).word)) (level ts room Comprehension i) (◌>>=◌ {B = List Part × ℕ} (◌>>=◌ {B = List Part × ℕ} (cond {A = Option (List Part × ℕ)} (has commas (class (token_at ts i).word)) (Some ([], suc i)) None) (λ x. ◌>>=◌ {B = List Part × ℕ} (level ts room Stars x.1) (λ y. Some (x.0 ++ y.0, y.1)))) (λ z. Some (more (nodes_of z.0) ∷ [], z.1)))) (Some ([], i)) i
    ∙ ap (λ (o : Option (List Part × ℕ)). cond {A = Option (List Part × ℕ)} (eqb (class w.Colon) (class (token_at ts i).word)) (◌>>=◌ {B = List Part × ℕ} (level ts room Test (suc i)) (λ y. ◌>>=◌ {B = List Part × ℕ} (level ts room AfterFirstPair y.1) (λ v. Some (lacking k.Pair [] (end_of ts y.1) (nodes_of y.0) ∷ v.0, v.1)))) o) (sym (level_row ts room AfterItem i h))
value_step ts room false i h = level_row ts room LaterValue i h ∙ value_part (eqb (class w.Colon) (class (token_at ts i).word)) ((eqb (class w.Comma) (class (token_at ts i).word)) || ((eqb (class w.CommaDots) (class (token_at ts i).word)) || false)) (level ts room Test) (level ts room AfterPair) (λ j ps. lacking k.Pair [] (end_of ts j) (nodes_of ps)) (◌>>=◌ {B = List Part × ℕ} (◌>>=◌ {B = List Part × ℕ} (cond {A = Option (List Part × ℕ)} (has commas (class (token_at ts i).word)) (Some ([], suc i)) None) (λ x. ◌>>=◌ {B = List Part × ℕ} (level ts room Stars x.1) (λ y. Some (x.0 ++ y.0, y.1)))) (λ z. Some (more (nodes_of z.0) ∷ [], z.1))) (Some ([], i)) i
    ∙ ap (λ (o : Option (List Part × ℕ)). cond {A = Option (List Part × ℕ)} (eqb (class w.Colon) (class (token_at ts i).word)) (◌>>=◌ {B = List Part × ℕ} (level ts room Test (suc i)) (λ y. ◌>>=◌ {B = List Part × ℕ} (level ts room AfterPair y.1) (λ v. Some (lacking k.Pair [] (end_of ts y.1) (nodes_of y.0) ∷ v.0, v.1)))) o) (sym (level_row ts room AfterStar i h))

-- ---- others

pub piece_step : (ts : List Item) (room i : ℕ) → zero < room → level ts room Piece i ≡ row ts room (table Piece) i
piece_step ts room i h = level_row ts room Piece i h

pub first_arg_step : (ts : List Item) (room i : ℕ) → zero < room → level ts room FirstArg i ≡ row ts room (table FirstArg) i
first_arg_step ts room i h = level_row ts room FirstArg i h

pub given_step : (ts : List Item) (room : ℕ) (b : Bool) (i : ℕ) → zero < room → level ts room (given_of b) i ≡ ◌>>=◌ {B = List Part × ℕ} (cond {A = Option (List Part × ℕ)} (has names (class (token_at ts i).word)) (Some (leaf Ident (token_at ts i) ∷ [], suc i)) None) (λ x. ◌>>=◌ {B = List Part × ℕ} (◌>>=◌ {B = List Part × ℕ} (annotation ts room b x.1) (λ y. ◌>>=◌ {B = List Part × ℕ} (marked ts room w.Equal y.1) (λ z. Some (y.0 ++ z.0, z.1)))) (λ u. Some (x.0 ++ u.0, u.1)))
given_step ts room true i h = level_row ts room Given i h
given_step ts room false i h = level_row ts room LambdaGiven i h

-- a mark before what V reads, or before what it may read
marked_part : (c : Bool) (d : ℕ → Bool) (V : ℕ → Option (List Part × ℕ)) (mk : ℕ → List Part → List Part) (Z : Option (List Part × ℕ)) (i : ℕ) → cond {A = Option (List Part × ℕ)} (c || false) (◌>>=◌ {B = List Part × ℕ} (◌>>=◌ {B = List Part × ℕ} (cond {A = Option (List Part × ℕ)} (c || false) (Some ([], suc i)) None) (λ x. ◌>>=◌ {B = List Part × ℕ} (cond {A = Option (List Part × ℕ)} (d x.1) (V x.1) (Some ([], x.1))) (λ y. Some (x.0 ++ y.0, y.1)))) (λ z. Some (mk z.1 z.0, z.1))) Z ≡ cond {A = Option (List Part × ℕ)} c (cond {A = Option (List Part × ℕ)} (d (suc i)) (◌>>=◌ {B = List Part × ℕ} (V (suc i)) (λ z. Some (mk z.1 z.0, z.1))) (Some (mk (suc i) [], suc i))) Z
marked_part false d V mk Z i = refl
marked_part true d V mk Z i = by_name (d (suc i))
  where
    by_name : (e : Bool) → ◌>>=◌ {B = List Part × ℕ} (◌>>=◌ {B = List Part × ℕ} (cond {A = Option (List Part × ℕ)} e (V (suc i)) (Some ([], suc i))) (λ y. Some ([] ++ y.0, y.1))) (λ z. Some (mk z.1 z.0, z.1)) ≡ cond {A = Option (List Part × ℕ)} e (◌>>=◌ {B = List Part × ℕ} (V (suc i)) (λ z. Some (mk z.1 z.0, z.1))) (Some (mk (suc i) [], suc i))
    by_name false = refl
    by_name true = ap (λ (o : Option (List Part × ℕ)). ◌>>=◌ {B = List Part × ℕ} o (λ z. Some (mk z.1 z.0, z.1))) (front (V (suc i)))

alone_part : (c : Bool) (mk : ℕ → List Part → List Part) (i : ℕ) → ◌>>=◌ {B = List Part × ℕ} (cond {A = Option (List Part × ℕ)} (c || false) (Some ([], suc i)) None) (λ z. Some (mk z.1 z.0, z.1)) ≡ cond {A = Option (List Part × ℕ)} c (Some (mk (suc i) [], suc i)) None
alone_part false mk i = refl
alone_part true mk i = refl

param_row : (ts : List Item) (room : ℕ) (b : Bool) (i : ℕ) → zero < room → level ts room (param_of b) i ≡ cond {A = Option (List Part × ℕ)} (has dots (class (token_at ts i).word)) (cond {A = Option (List Part × ℕ)} (has dots (class (token_at ts i).word)) (Some (leaf Own (token_at ts i) ∷ [], suc i)) None) (cond {A = Option (List Part × ℕ)} (has names (class (token_at ts i).word)) (◌>>=◌ {B = List Part × ℕ} (level ts room (given_of b) i) (λ z. Some (parameter [] (token_at ts i).span.from (end_of ts z.1) z.0, z.1)))
    (cond {A = Option (List Part × ℕ)} ((eqb (class w.Times) (class (token_at ts i).word)) || false) (◌>>=◌ {B = List Part × ℕ} (◌>>=◌ {B = List Part × ℕ} (cond {A = Option (List Part × ℕ)} ((eqb (class w.Times) (class (token_at ts i).word)) || false) (Some ([], suc i)) None) (λ x. ◌>>=◌ {B = List Part × ℕ} (cond {A = Option (List Part × ℕ)} (has names (class (token_at ts x.1).word)) (level ts room (given_of b) x.1) (Some ([], x.1))) (λ y. Some (x.0 ++ y.0, y.1)))) (λ z. Some (parameter (token_at ts i).text (token_at ts i).span.from (end_of ts z.1) z.0, z.1)))
    (cond {A = Option (List Part × ℕ)} ((eqb (class w.Power) (class (token_at ts i).word)) || false) (◌>>=◌ {B = List Part × ℕ} (◌>>=◌ {B = List Part × ℕ} (cond {A = Option (List Part × ℕ)} ((eqb (class w.Power) (class (token_at ts i).word)) || false) (Some ([], suc i)) None) (λ x. ◌>>=◌ {B = List Part × ℕ} (level ts room (given_of b) x.1) (λ y. Some (x.0 ++ y.0, y.1)))) (λ z. Some (parameter (token_at ts i).text (token_at ts i).span.from (end_of ts z.1) z.0, z.1))) (◌>>=◌ {B = List Part × ℕ} (cond {A = Option (List Part × ℕ)} ((eqb (class w.Slash) (class (token_at ts i).word)) || false) (Some ([], suc i)) None) (λ z. Some (parameter (token_at ts i).text (token_at ts i).span.from (end_of ts z.1) z.0, z.1))))))
param_row ts room true i h = level_row ts room Param i h
param_row ts room false i h = level_row ts room LambdaParam i h

pub param_step : (ts : List Item) (room : ℕ) (b : Bool) (i : ℕ) → zero < room → level ts room (param_of b) i ≡ cond {A = Option (List Part × ℕ)} (has dots (class (token_at ts i).word)) (cond {A = Option (List Part × ℕ)} (has dots (class (token_at ts i).word)) (Some (leaf Own (token_at ts i) ∷ [], suc i)) None) (cond {A = Option (List Part × ℕ)} (has names (class (token_at ts i).word)) (◌>>=◌ {B = List Part × ℕ} (level ts room (given_of b) i) (λ z. Some (parameter [] (token_at ts i).span.from (end_of ts z.1) z.0, z.1)))
    (cond {A = Option (List Part × ℕ)} (eqb (class w.Times) (class (token_at ts i).word)) (cond {A = Option (List Part × ℕ)} (has names (class (token_at ts (suc i)).word)) (marked_param ts room b i) (Some (parameter (token_at ts i).text (token_at ts i).span.from (end_of ts (suc i)) [], suc i))) (cond {A = Option (List Part × ℕ)} (eqb (class w.Power) (class (token_at ts i).word)) (marked_param ts room b i) (cond {A = Option (List Part × ℕ)} (eqb (class w.Slash) (class (token_at ts i).word)) (Some (parameter (token_at ts i).text (token_at ts i).span.from (end_of ts (suc i)) [], suc i)) None))))
param_step ts room b i h = param_row ts room b i h ∙ ap (λ (o : Option (List Part × ℕ)). cond {A = Option (List Part × ℕ)} (has dots (class (token_at ts i).word)) (cond {A = Option (List Part × ℕ)} (has dots (class (token_at ts i).word)) (Some (leaf Own (token_at ts i) ∷ [], suc i)) None) (cond {A = Option (List Part × ℕ)} (has names (class (token_at ts i).word)) (◌>>=◌ {B = List Part × ℕ} (level ts room (given_of b) i) (λ z. Some (parameter [] (token_at ts i).span.from (end_of ts z.1) z.0, z.1))) o)) (marked_part (eqb (class w.Times) (class (token_at ts i).word)) (λ j. has names (class (token_at ts j).word)) (level ts room (given_of b)) (λ j ps. parameter (token_at ts i).text (token_at ts i).span.from (end_of ts j) ps) (cond {A = Option (List Part × ℕ)} ((eqb (class w.Power) (class (token_at ts i).word)) || false) (◌>>=◌ {B = List Part × ℕ} (◌>>=◌ {B = List Part × ℕ} (cond {A = Option (List Part × ℕ)} ((eqb (class w.Power) (class (token_at ts i).word)) || false) (Some ([], suc i)) None) (λ x. ◌>>=◌ {B = List Part × ℕ} (level ts room (given_of b) x.1) (λ y. Some (x.0 ++ y.0, y.1)))) (λ z. Some (parameter (token_at ts i).text (token_at ts i).span.from (end_of ts z.1) z.0, z.1))) (◌>>=◌ {B = List Part × ℕ} (cond {A = Option (List Part × ℕ)} ((eqb (class w.Slash) (class (token_at ts i).word)) || false) (Some ([], suc i)) None) (λ z. Some (parameter (token_at ts i).text (token_at ts i).span.from (end_of ts z.1) z.0, z.1)))) i
    ∙ ap (λ (o : Option (List Part × ℕ)). cond {A = Option (List Part × ℕ)} (eqb (class w.Times) (class (token_at ts i).word)) (cond {A = Option (List Part × ℕ)} (has names (class (token_at ts (suc i)).word)) (marked_param ts room b i) (Some (parameter (token_at ts i).text (token_at ts i).span.from (end_of ts (suc i)) [], suc i))) o) (marked_part (eqb (class w.Power) (class (token_at ts i).word)) (λ j. true) (level ts room (given_of b)) (λ j ps. parameter (token_at ts i).text (token_at ts i).span.from (end_of ts j) ps) (◌>>=◌ {B = List Part × ℕ} (cond {A = Option (List Part × ℕ)} ((eqb (class w.Slash) (class (token_at ts i).word)) || false) (Some ([], suc i)) None) (λ z. Some (parameter (token_at ts i).text (token_at ts i).span.from (end_of ts z.1) z.0, z.1))) i
    ∙ ap (λ (o : Option (List Part × ℕ)). cond {A = Option (List Part × ℕ)} (eqb (class w.Power) (class (token_at ts i).word)) (marked_param ts room b i) o) (alone_part (eqb (class w.Slash) (class (token_at ts i).word)) (λ j ps. parameter (token_at ts i).text (token_at ts i).span.from (end_of ts j) ps) i)))
