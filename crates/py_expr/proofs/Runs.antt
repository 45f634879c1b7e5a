-- What is read of a level is the closed run, and the closed run is what is read.
use Rattle.std.proofs.Common.{◌≡◌, ℕ, suc, ◌<◌, ◌≤◌, List, [], ◌∷◌, length, refl, sym, ap, ◌∙◌, arith, Option, Some, Err}
use Rattle.std.specs.Prelude.{true, leb}
use Rattle.std.proofs.lemmas.List.{get_or_past}
use Rattle.node_tree.specs.declared.node.Node.{Node}
use Rattle.node_tree.specs.declared.fault.ReadFault.{ReadFault}
use Rattle.node_tree.specs.declared.fault.ReadFault.TheVariants as faults
use Rattle.node_tree.specs.declared.view.Mode.{Mode}
use Rattle.node_tree.specs.declared.view.Mode.TheVariants as modes
use Rattle.node_tree.specs.Tree.{depth_of}
use Rattle.grammar.specs.Check.{closes_runs}
use Rattle.grammar.proofs.Facts.{none_some, some_pair}
use Rattle.grammar.proofs.Theorem.{read_piece, piece_read, read_run, run_read}
use Rattle.py_expr.specs.declared.item.Item.{Item}
use Rattle.py_expr.specs.declared.level.PyLevel.{PyLevel}
use Rattle.py_expr.specs.Parts.{whole, depth_all}
use Rattle.py_expr.specs.Table.{Level, Exprs, Star, Named, Test, LambdaTest, Or, OrTail, And, AndTail, Not, Cmp, CmpTail, Cop, Bor, BorTail, Xor, XorTail, Band, BandTail, Shift, ShiftTail, Sum, SumTail, Term, TermTail, Unary, Power, Await, Prim, PrimTail, Suffix, Attr, Call, Sub, Atom, Strings, MoreStrings, StringsTail, Paren, Inner, Items, ListLit, Braces, FirstEntry, FirstValue, LaterEntry, LaterValue, Dotted, DottedTail, DotsLeaf, Pairs, DottedPairs, PairsTail, Pair, AfterPair, AfterFirstPair, Deep, Comprehension, ClausesTail, Clause, ForClause, Yield, Targs, Target, Index, Piece, SliceEnd, Bound, Args, FirstArg, Arg, PlainArg, Params, Param, Given, LambdaParams, LambdaParam, LambdaGiven, AfterStar, Stars, StarsTail, AfterItem, AfterTarget, Targets, TargetsTail, AfterPiece, Pieces, PiecesTail, AfterArg, AfterFirstArg, MoreArgs, MoreArgsTail, AfterParam, MoreParams, MoreParamsTail, AfterLambdaParam, MoreLambdaParams, MoreLambdaParamsTail, grammar}
use Rattle.py_expr.specs.Build.{source, end_item}
use Rattle.py_expr.specs.Words.{class}
use Rattle.py_expr.specs.reader.Sets.{sets, ranks}
use Rattle.py_expr.specs.reader.Reading.{level, round_at}
use Rattle.node_tree.specs.Gives.{Gives}
use Rattle.py_expr.specs.Runs.{of_mode, level_at, IsRunTree, IsTree, AreOf}
use Rattle.py_expr.proofs.Passes.{pass}
use Rattle.py_expr.proofs.Closes.{close_text, close_pattern}
use Rattle.py_expr.proofs.Depths.{deepens}
use Rattle.py_lex.specs.declared.token.PyToken.{PyToken}
use Rattle.py_expr.specs.Items.{Insides, AreItems}
use Rattle.py_expr.specs.Insides.{HasNodes, IsWhole}
use Rattle.py_expr.proofs.Modes.{end_of_mode}

pub close : (mode : Mode) (l : Level) → closes_runs grammar sets ranks (of_mode mode) 36 l ≡ true
close modes.Text l = close_text l
close modes.Pattern l = close_pattern l

pub shut_level : (l : Level) → ranks.shut l ≡ true
shut_level Exprs = refl
shut_level Star = refl
shut_level Named = refl
shut_level Test = refl
shut_level LambdaTest = refl
shut_level Or = refl
shut_level OrTail = refl
shut_level And = refl
shut_level AndTail = refl
shut_level Not = refl
shut_level Cmp = refl
shut_level CmpTail = refl
shut_level Cop = refl
shut_level Bor = refl
shut_level BorTail = refl
shut_level Xor = refl
shut_level XorTail = refl
shut_level Band = refl
shut_level BandTail = refl
shut_level Shift = refl
shut_level ShiftTail = refl
shut_level Sum = refl
shut_level SumTail = refl
shut_level Term = refl
shut_level TermTail = refl
shut_level Unary = refl
shut_level Power = refl
shut_level Await = refl
shut_level Prim = refl
shut_level PrimTail = refl
shut_level Suffix = refl
shut_level Attr = refl
shut_level Call = refl
shut_level Sub = refl
shut_level Atom = refl
shut_level Strings = refl
shut_level MoreStrings = refl
shut_level StringsTail = refl
shut_level Paren = refl
shut_level Inner = refl
shut_level Items = refl
shut_level ListLit = refl
shut_level Braces = refl
shut_level FirstEntry = refl
shut_level FirstValue = refl
shut_level LaterEntry = refl
shut_level LaterValue = refl
shut_level Dotted = refl
shut_level DottedTail = refl
shut_level DotsLeaf = refl
shut_level Pairs = refl
shut_level DottedPairs = refl
shut_level PairsTail = refl
shut_level Pair = refl
shut_level AfterPair = refl
shut_level AfterFirstPair = refl
shut_level Deep = refl
shut_level Comprehension = refl
shut_level ClausesTail = refl
shut_level Clause = refl
shut_level ForClause = refl
shut_level Yield = refl
shut_level Targs = refl
shut_level Target = refl
shut_level Index = refl
shut_level Piece = refl
shut_level SliceEnd = refl
shut_level Bound = refl
shut_level Args = refl
shut_level FirstArg = refl
shut_level Arg = refl
shut_level PlainArg = refl
shut_level Params = refl
shut_level Param = refl
shut_level Given = refl
shut_level LambdaParams = refl
shut_level LambdaParam = refl
shut_level LambdaGiven = refl
shut_level AfterStar = refl
shut_level Stars = refl
shut_level StarsTail = refl
shut_level AfterItem = refl
shut_level AfterTarget = refl
shut_level Targets = refl
shut_level TargetsTail = refl
shut_level AfterPiece = refl
shut_level Pieces = refl
shut_level PiecesTail = refl
shut_level AfterArg = refl
shut_level AfterFirstArg = refl
shut_level MoreArgs = refl
shut_level MoreArgsTail = refl
shut_level AfterParam = refl
shut_level MoreParams = refl
shut_level MoreParamsTail = refl
shut_level AfterLambdaParam = refl
shut_level MoreLambdaParams = refl
shut_level MoreLambdaParamsTail = refl

-- what is read, within the limits, is the closed run
pub read_is_tree : (mode : Mode) (ts : List Item) (l : PyLevel) (from : ℕ) (n : Node) (to : ℕ) → level ts 1002 (level_at l) from ≡ Some (whole n ∷ [], to) → to ≤ length ts → depth_of n ≤ 500 → ((k : ℕ) → from ≤ k → k < to → round_at ts from k ≤ 500) → IsRunTree mode ts l from n to
unfolding level round_at
read_is_tree mode ts l from n to h within shallow few = record {
  within = within;
  run = read_run grammar sets ranks pass depth_all (source ts) (deepens ts) (suc (length ts)) (of_mode mode) 36 (close mode) 1002 (level_at l) (whole n ∷ []) from to (shut_level (level_at l)) h (omega (arith, shallow)) few;
}

-- the closed run is read
pub tree_is_read : (mode : Mode) (ts : List Item) (l : PyLevel) (from : ℕ) (n : Node) (to : ℕ) → AreOf mode ts → IsRunTree mode ts l from n to → level ts 1002 (level_at l) from ≡ Some (whole n ∷ [], to)
unfolding level
tree_is_read mode ts l from n to all r = run_read grammar sets ranks pass depth_all (source ts) (deepens ts) (suc (length ts)) (of_mode mode) 36 (close mode) (level_at l) (whole n ∷ []) from to (shut_level (level_at l)) (end_of_mode mode) all r.run (omega (arith, r.within))

-- two answers of the reader are one
pub one_tree : (mode : Mode) (ts : List Item) (l : PyLevel) (from : ℕ) (n m : Node) (i j : ℕ) → AreOf mode ts → IsRunTree mode ts l from n i → level ts 1002 (level_at l) from ≡ Some (whole m ∷ [], j) → (n ≡ m) × (i ≡ j)
one_tree mode ts l from n m i j all r h = let p : _ = some_pair (whole n ∷ []) (whole m ∷ []) i j (sym (tree_is_read mode ts l from n i all r) ∙ h) in (head_of p.0, p.1)
  where
    head_of : whole n ∷ [] ≡ whole m ∷ [] → n ≡ m
    head_of e = cc

pub tree_is_shallow : (mode : Mode) (ts : List Item) (l : PyLevel) (from : ℕ) (n : Node) (to : ℕ) → IsRunTree mode ts l from n to → depth_of n ≤ 500
tree_is_shallow mode ts l from n to r = omega (arith, r.run.piece.shallow)

-- a fault that comes although there is a tree is want of memory
pub fails_still : {X Y : Type 0} (view : X → Y) (e : ReadFault) (o : Option Y) (y : Y) (x : X) → Gives view (Err e) o → o ≡ Some y → Gives (λ (z : X). z) (Err e) (Some x)
fails_still view faults.Memory o y x f h = tt
fails_still view faults.NoTree o y x f h = absurd (none_some y (sym f ∙ h))

-- a fault that isn't want of memory says that nothing is read
pub nothing_read : {X Y : Type 0} (view : X → Y) (e : ReadFault) (o : Option Y) (y : Y) → e ≡ faults.NoTree → Gives view (Err e) o → o ≡ Some y → ⊥
nothing_read view faults.Memory o y h g k = cc
nothing_read view faults.NoTree o y h g k = none_some y (sym g ∙ k)

pub leb_true : (a b : ℕ) → leb a b ≡ true → a ≤ b
leb_true a b h = grind arith

pub same_answer : (n m : Node) (i j : ℕ) → (n ≡ m) × (i ≡ j) → ◌≡◌ {A = Option (Node × ℕ)} (Some (n, i)) (Some (m, j))
same_answer n m i j e = rw (e.0, e.1) refl

-- ---- all the items

-- all the items are an expression where they are read so
pub read_is_whole : (ts : List Item) (n : Node) (to : ℕ) → level ts 1002 Exprs 0 ≡ Some (whole n ∷ [], to) → to ≡ length ts → depth_of n ≤ 500 → ((k : ℕ) → 0 ≤ k → k < to → round_at ts 0 k ≤ 500) → IsWhole ts n
unfolding level round_at
read_is_whole ts n to h e shallow few = rw (← e) (read_piece grammar sets ranks pass depth_all (source ts) (deepens ts) (suc (length ts)) 1002 Exprs (whole n ∷ []) 0 to h (omega (arith, shallow)) few)

-- and are read so where they are one
pub whole_is_read : (ts : List Item) (n : Node) → IsWhole ts n → level ts 1002 Exprs 0 ≡ Some (whole n ∷ [], length ts)
unfolding level class
whole_is_read ts n r = piece_read grammar sets ranks pass depth_all (source ts) (deepens ts) (suc (length ts)) Exprs (whole n ∷ []) 0 (length ts) r (rw (get_or_past ts (length ts) end_item (omega arith)) refl) (omega arith)

-- so there is one such expression at most
pub one_whole : (ts : List Item) (n m : Node) (to : ℕ) → IsWhole ts n → level ts 1002 Exprs 0 ≡ Some (whole m ∷ [], to) → (n ≡ m) × (length ts ≡ to)
one_whole ts n m to r h = let p : _ = some_pair (whole n ∷ []) (whole m ∷ []) (length ts) to (sym (whole_is_read ts n r) ∙ h) in (head_of p.0, p.1)
  where
    head_of : whole n ∷ [] ≡ whole m ∷ [] → n ≡ m
    head_of e = cc

pub whole_is_shallow : (ts : List Item) (n : Node) → IsWhole ts n → depth_of n ≤ 500
whole_is_shallow ts n r = omega (arith, r.shallow)

pub whole_is_bracketed : (ts : List Item) (n : Node) (k : ℕ) → IsWhole ts n → k < length ts → round_at ts 0 k ≤ 500
unfolding round_at
whole_is_bracketed ts n k r h = r.few_brackets k (omega arith) h

-- ---- from the tokens

pub items_length : (I : Insides) (mode : Mode) (ts : List PyToken) (is : List Item) → AreItems I mode ts is → length is ≡ length ts
items_length I mode [] is h = rw h refl
items_length I mode (t ∷ ts) is (i, more, is_item, are, e) = ap length e ∙ ap suc (items_length I mode ts more are)

pub from_within : (I : Insides) (mode : Mode) (ts : List PyToken) (is : List Item) (from : ℕ) → AreItems I mode ts is → from < length ts → from ≤ length is
from_within I mode ts is from are h = omega (arith, h, items_length I mode ts is are)

-- What is made of tokens: these items, and no others.
pub record AreMade (mode : Mode) (ts : List PyToken) (is : List Item) : Type 0 where
  pub are : AreItems (HasNodes 500 mode) mode ts is
  pub only : (js : List Item) → AreItems (HasNodes 500 mode) mode ts js → js ≡ is

-- the same, as other variables have them
pub are_made : (mode : Mode) (ts us : List PyToken) (is js : List Item) → us ≡ ts → js ≡ is → AreItems (HasNodes 500 mode) mode us is → ((ks : List Item) → AreItems (HasNodes 500 mode) mode us ks → ks ≡ is) → AreMade mode ts js
are_made mode ts us is js e h are only = let m : AreMade mode us is = record { are = are; only = only } in rw h (rw e at m)

-- the tree of the items is that of the tokens
pub tree_of_tokens : (mode : Mode) (ts : List PyToken) (is : List Item) (l : PyLevel) (from : ℕ) (n : Node) (i j : ℕ) → AreMade mode ts is → i ≡ j → IsRunTree mode is l from n i → IsTree mode ts l from n j
tree_of_tokens mode ts is l from n i j are h r = record { items = is; are = are.are; reads = rw (← h) r }

-- the items of the tree are those that were made
pub tree_of_items : (mode : Mode) (ts : List PyToken) (is : List Item) (l : PyLevel) (from : ℕ) (n : Node) (to : ℕ) → AreMade mode ts is → IsTree mode ts l from n to → IsRunTree mode is l from n to
tree_of_items mode ts is l from n to are r = rw (← are.only r.items r.are) r.reads

pub answer_there : (n m : Node) (i j k : ℕ) → j ≡ k → ◌≡◌ {A = Option (Node × ℕ)} (Some (n, i)) (Some (m, j)) → ◌≡◌ {A = Option (Node × ℕ)} (Some (n, i)) (Some (m, k))
answer_there n m i j k h e = rw h at e
