-- What statements are as a pattern, and where the trees of modules and patterns lie.
use Rattle.std.proofs.Common.{◌≡◌, ℕ, ◌-◌, ◌<◌, ◌≤◌, List, [], ◌∷◌, ◌++◌, length, length-append, get_or, refl, sym, ap, ◌∙◌, arith, Bool, Option, Some}
use Rattle.std.specs.Prelude.{All, IsTrue, true, false}
use Rattle.std.specs.Str.{IsUtf8}
use Rattle.std.proofs.lemmas.Str.{IsCharBoundary-start, IsCharBoundary-end}
use Rattle.std.proofs.lemmas.List.Elements.{All-head}
use Rattle.node_tree.specs.declared.node.Node.{Node}
use Rattle.node_tree.specs.declared.kind.Kind.TheVariants as k
use Rattle.node_tree.specs.declared.view.Shape.{Shape}
use Rattle.node_tree.specs.Spans.{SpansLieIn}
use Rattle.node_tree.specs.Tree.{kind_of, kids_of}
use Rattle.node_tree.proofs.SpanLaws.{none_lie}
use Rattle.py_expr.specs.declared.item.Item.{Item}
use Rattle.py_expr.specs.Parts.{node}
use Rattle.py_expr.specs.Build.{token_at}
use Rattle.py_expr.proofs.SpanBuilders.{first_lies, kids_lie, over_lies, at_place}
use Rattle.py_expr.proofs.Spans.{ItemsLie}
use Rattle.py_suite.specs.Build.{end_from}
use Rattle.py_stmt.specs.Modules.{IsExpression, block, IsShape, expression, run}
use Rattle.py_suite.proofs.Spans.{stands, all_lie}

same_head : (x y : Node) → x ∷ [] ≡ y ∷ [] → x ≡ y
same_head x y e = cc

-- statements are at most one expression, and have at most one shape
pub same_expression : (ns : List Node) (a b : Node) → IsExpression ns a → IsExpression ns b → a ≡ b
same_expression ns a b p q =
    let one : p.statement ≡ q.statement = same_head p.statement q.statement (sym p.one ∙ q.one) in
    same_head a b (sym p.kid ∙ (ap kids_of one ∙ q.kid))

pub one_shape : (is : List Item) (ns : List Node) (s t : Shape) (n m : Node) → IsShape is ns s n → IsShape is ns t m → ◌≡◌ {A = Option (Shape × Node)} (Some (s, n)) (Some (t, m))
one_shape is ns s t n m (expression p) (expression q) = rw (same_expression ns n m p q) refl
one_shape is ns s t n m (expression p) (run none e) = absurd (none n p)
one_shape is ns s t n m (run none e) (expression q) = absurd (none m q)
one_shape is ns s t n m (run none e) (run none' e') = rw (e, e') refl

-- ---- one statement with one kid

pub one_item : (xs : List Node) (x : Node) → 1 ≤ length xs → length xs < 2 → x ≡ get_or xs 0 x → xs ≡ x ∷ []
one_item [] x some few e = absurd (omega (arith, some))
one_item (y ∷ []) x some few e = ap (λ (z : Node). z ∷ []) (sym e)
one_item (y ∷ z ∷ ys) x some few e = absurd (omega (arith, few))

one_kid : (xs : List Node) → length xs ≡ 1 → (x : Node) × (xs ≡ x ∷ [])
one_kid [] e = absurd (omega (arith, e))
one_kid (x ∷ []) e = (x, refl)
one_kid (x ∷ y ∷ ys) e = absurd (omega (arith, e))

pub is_expression : (ns : List Node) (n : Node) → ns ≡ n ∷ [] → kind_of n ≡ k.ExprStmt → length (kids_of n) ≡ 1 → (tree : Node) × IsExpression ns tree
is_expression ns n one kind few = let kid : _ = one_kid (kids_of n) few in (kid.0, record { statement = n; one = one; kind = kind; kid = kid.1 })

pub has_one_kid : (ns : List Node) (n tree : Node) → ns ≡ n ∷ [] → IsExpression ns tree → length (kids_of n) ≡ 1
has_one_kid ns n tree one p =
    let same : p.statement ≡ n = same_head p.statement n (sym p.one ∙ one) in
    ap length (rw same at p.kid)

-- no statements are an expression that were tested so
pub not_expression : (b : Bool) (ns ms : List Node) (tree : Node) → b ≡ false → ms ≡ ns → (((x : Node) × IsExpression ms x) → IsTrue b) → IsExpression ns tree → ⊥
not_expression b ns ms tree off same test p =
    let yes : b ≡ true = test (tree, rw same p) in
    cc

last_one : (front : List Node) (a b : Node) → b ∷ [] ≡ front ++ a ∷ [] → a ≡ b
last_one [] a b e = cc
last_one (y ∷ ys) a b e = absurd (omega (arith, ap length e, length-append ys (a ∷ [])))

-- what is taken from the end of the statements, and of the kids of that, is the expression
pub taken : (ns ms front rest : List Node) (n tree : Node) → ms ≡ ns → (x : Node) × IsExpression ms x → ns ≡ front ++ n ∷ [] → kids_of n ≡ rest ++ tree ∷ [] → IsExpression ns tree
taken ns ms front rest n tree same (x, q) is kids =
    let p : IsExpression ns x = rw same at q in
    let one : n ≡ p.statement = last_one front n p.statement (sym p.one ∙ is) in
    let first : tree ≡ x = last_one rest tree x (sym p.kid ∙ (ap kids_of (sym one) ∙ kids)) in
    record { statement = p.statement; one = p.one; kind = p.kind; kid = p.kid ∙ ap (λ (z : Node). z ∷ []) (sym first) }

-- ---- spans

pub root_lies : (text : List ℕ) (ns : List Node) → IsUtf8 text → All (SpansLieIn text) ns → SpansLieIn text (node k.Root [] 0 (length text) ns)
root_lies text ns utf8 h = over_lies text k.Root [] 0 (length text) ns (record { ordered = omega arith; begins = IsCharBoundary-start text utf8; ends = IsCharBoundary-end text }) (all_lie text ns h)

block_lies : (text : List ℕ) (to : ℕ) (is : List Item) (ns : List Node) → IsUtf8 text → ItemsLie text 0 is to → All (SpansLieIn text) ns → SpansLieIn text (block is ns)
block_lies text to is [] utf8 lie h = over_lies text k.Block [] 0 0 [] (at_place text 0 (IsCharBoundary-start text utf8)) (none_lie text)
block_lies text to is (n ∷ ns) utf8 lie h = over_lies text k.Block [] (token_at is 0).span.from (end_from is 0 (length is - 1)) (n ∷ ns) (stands text to is utf8 lie 0 (length is - 1) (omega arith)) (all_lie text (n ∷ ns) h)

pub shape_lies : (text : List ℕ) (to : ℕ) (is : List Item) (ns : List Node) (s : Shape) (n : Node) → IsUtf8 text → ItemsLie text 0 is to → All (SpansLieIn text) ns → IsShape is ns s n → SpansLieIn text n
shape_lies text to is ns s n utf8 lie h (expression p) =
    let one : All (SpansLieIn text) (p.statement ∷ []) = rw p.one at h in
    first_lies text n [] (rw p.kid at (kids_lie text p.statement (All-head (SpansLieIn text) p.statement [] one)))
shape_lies text to is ns s n utf8 lie h (run none e) = rw e (block_lies text to is ns utf8 lie h)
