-- What the items of a text's tokens are is what the text is.
use Rattle.std.proofs.Common.{◌≡◌, ℕ, ◌≤◌, List, [], ◌∷◌, length, sym, subst, arith, Option, Some, None, Err}
use Rattle.std.specs.Prelude.{All, true, leb}
use Rattle.std.specs.Str.{IsUtf8}
use Rattle.node_tree.specs.declared.node.Node.{Node}
use Rattle.node_tree.specs.declared.kind.Kind.{Kind}
use Rattle.node_tree.specs.declared.kind.Kind.TheVariants as k
use Rattle.node_tree.specs.declared.view.Mode.{Mode}
use Rattle.node_tree.specs.declared.view.Mode.TheVariants as modes
use Rattle.node_tree.specs.declared.view.Shape.{Shape}
use Rattle.node_tree.specs.Tree.{depth_of, depth_is, kids_of}
use Rattle.node_tree.specs.declared.fault.LexFault.{LexFault}
use Rattle.node_tree.specs.declared.fault.LexFault.TheVariants as lexed
use Rattle.node_tree.specs.Spans.{SpansLieIn}
use Rattle.py_lex.specs.declared.token.PyToken.{PyToken}
use Rattle.py_lex.specs.Lexing.{IsTokensOf, Gives as Lexed}
use Rattle.py_lex.specs.Places.{AreTokensIn}
use Rattle.py_expr.specs.declared.item.Item.{Item}
use Rattle.py_expr.specs.Items.{AreItems}
use Rattle.py_expr.specs.Insides.{HasNodes}
use Rattle.py_expr.specs.Parts.{node, depth_nodes}
use Rattle.py_expr.proofs.Depths.{node_depth}
use Rattle.py_expr.proofs.Spans.{text_items_lie}
use Rattle.py_suite.specs.Table.{File}
use Rattle.py_stmt.specs.Modules.{AreItemsOf, AreStatements, IsModule, block, IsShape, expression, run, IsPattern}
use Rattle.py_suite.proofs.Forms.{some_same}
use Rattle.py_stmt.proofs.Patterns.{root_lies, shape_lies}
use Rattle.py_suite.proofs.Spans.{spelled_lie}

-- a text that was refused has no tokens
pub no_tokens : (us : List PyToken) (e : LexFault) → e ≡ lexed.NoTokens → Lexed us (Err e) → ⊥
no_tokens us lexed.Memory h g = absurd cc
no_tokens us lexed.NoTokens h g = g

-- What is made of a text: these tokens and these items, and no others.
pub record AreMade (mode : Mode) (text : List ℕ) (ts : List PyToken) (is : List Item) : Type 0 where
  pub lexes : IsTokensOf mode text ts
  pub only_tokens : (us : List PyToken) → IsTokensOf mode text us → ts ≡ us
  pub are : AreItems (HasNodes 500 mode) mode ts is
  pub only_items : (js : List Item) → AreItems (HasNodes 500 mode) mode ts js → js ≡ is

-- the same, as other variables have them
pub made : (mode : Mode) (text : List ℕ) (ts us : List PyToken) (is js : List Item) → us ≡ ts → js ≡ is → IsTokensOf mode text ts → ((ks : List PyToken) → IsTokensOf mode text ks → ◌≡◌ {A = Option (List PyToken)} (Some ks) (Some ts)) → AreItems (HasNodes 500 mode) mode us is → ((ks : List Item) → AreItems (HasNodes 500 mode) mode us ks → ks ≡ is) → AreMade mode text ts js
made mode text ts us is js e h lexes only_tokens are only_items =
    let them : AreItems (HasNodes 500 mode) mode ts is = rw e at are in
    let alone : (ks : List Item) → AreItems (HasNodes 500 mode) mode ts ks → ks ≡ is = rw e at only_items in
    let m : AreMade mode text ts is = record { lexes = lexes; only_tokens = λ ks g. sym (some_same (only_tokens ks g)); are = them; only_items = alone } in
    rw h m

module _ (mode : Mode) (text : List ℕ) (ts : List PyToken) (is : List Item) (m : AreMade mode text ts is) where
  pub of_text : AreItemsOf mode text is
  of_text = record { tokens = ts; lexes = m.lexes; are = m.are }

  -- so each items of the text are those that were made
  pub of_items : (js : List Item) → AreItemsOf mode text js → js ≡ is
  of_items js r =
      let P : List PyToken → Type 0 = λ us. AreItems (HasNodes 500 mode) mode us js in
      m.only_items js (subst P (sym (m.only_tokens r.tokens r.lexes)) r.are)

  -- the spans of the statements lie in the text
  pub lie_in_text : (ns : List Node) → IsUtf8 text → AreTokensIn text ts → AreStatements is ns → All (SpansLieIn text) ns
  lie_in_text ns utf8 placed r = spelled_lie text (length text) is utf8 (text_items_lie mode ts is text placed m.are) File ns (length is) r.spelled (omega arith)

-- ---- depths

pub leb_true : (a b : ℕ) → leb a b ≡ true → a ≤ b
leb_true a b h = grind arith

over_shallow : (kind : Kind) (from to : ℕ) (ns : List Node) → depth_of (node kind [] from to ns) ≤ 500 → depth_nodes ns ≤ 501
over_shallow kind from to ns h = omega (arith, h, node_depth kind [] from to ns)

pub root_shallow : (text : List ℕ) (ns : List Node) (n : Node) → n ≡ node k.Root [] 0 (length text) ns → depth_of n ≤ 500 → depth_nodes ns ≤ 501
root_shallow text ns n e h = over_shallow k.Root 0 (length text) ns (rw e at h)

block_shallow : (is : List Item) (ns : List Node) → depth_of (block is ns) ≤ 500 → depth_nodes ns ≤ 501
block_shallow is [] h = omega arith
block_shallow is (n ∷ ns) h = over_shallow k.Block _ _ (n ∷ ns) h

-- what is so deep at most is over statements that are not too deep
pub shape_shallow : (is : List Item) (ns : List Node) (s : Shape) (n : Node) → IsShape is ns s n → depth_of n ≤ 500 → depth_nodes ns ≤ 501
shape_shallow is ns s n (expression p) h =
    let kids : depth_nodes (kids_of p.statement) ≤ 500 = rw p.kid (omega (arith, h)) in
    rw p.one (omega (arith, kids, depth_is p.statement))
shape_shallow is ns s n (run none e) h = block_shallow is ns (rw e at h)

-- ---- modules and patterns of the items that were made

pub lost : {X Y : Type 0} (x : X) (y : Y) → Some x ≡ None → Some y ≡ None
lost x y e = cc

module _ (text : List ℕ) (ts : List PyToken) (is : List Item) where
  pub module_spelled : AreMade modes.Text text ts is → (n : Node) → (r : IsModule text n) → AreStatements is r.statements
  module_spelled m n r = subst (λ (js : List Item). AreStatements js r.statements) (of_items modes.Text text ts is m r.items r.of_text) r.spelled

  pub pattern_spelled : AreMade modes.Pattern text ts is → (s : Shape) (n : Node) → (r : IsPattern text s n) → AreStatements is r.statements
  pattern_spelled m s n r = subst (λ (js : List Item). AreStatements js r.statements) (of_items modes.Pattern text ts is m r.items r.of_text) r.spelled

  pub pattern_shape : AreMade modes.Pattern text ts is → (s : Shape) (n : Node) → (r : IsPattern text s n) → (ns : List Node) → r.statements ≡ ns → IsShape is ns s n
  pattern_shape m s n r ns e =
      let here : IsShape is r.statements s n = subst (λ (js : List Item). IsShape js r.statements s n) (of_items modes.Pattern text ts is m r.items r.of_text) r.is_shape in
      subst (λ (ms : List Node). IsShape is ms s n) e here

  pub module_lies : AreMade modes.Text text ts is → (ns : List Node) (n : Node) → IsUtf8 text → AreTokensIn text ts → AreStatements is ns → n ≡ node k.Root [] 0 (length text) ns → SpansLieIn text n
  module_lies m ns n utf8 placed r e = rw e (root_lies text ns utf8 (lie_in_text modes.Text text ts is m ns utf8 placed r))

  pub pattern_lies : AreMade modes.Pattern text ts is → (ns : List Node) (s : Shape) (n : Node) → IsUtf8 text → AreTokensIn text ts → AreStatements is ns → IsShape is ns s n → SpansLieIn text n
  pattern_lies m ns s n utf8 placed r shape = shape_lies text (length text) is ns s n utf8 (text_items_lie modes.Pattern ts is text placed m.are) (lie_in_text modes.Pattern text ts is m ns utf8 placed r) shape
