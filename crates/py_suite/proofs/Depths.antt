-- How deep what a builder of statements makes is.
use Rattle.std.proofs.Common.{◌≡◌, ℕ, ◌-◌, ◌<◌, ◌≤◌, List, [], ◌∷◌, ◌++◌, length, refl, arith}
use Rattle.std.specs.Prelude.{Bool, true, false, if◌then◌else◌}
use Rattle.node_tree.specs.declared.node.Node.{Node}
use Rattle.node_tree.specs.declared.kind.Kind.{Kind}
use Rattle.node_tree.specs.declared.kind.Kind.TheVariants as k
use Rattle.node_tree.specs.Tree.{depth_of, kind_of}
use Rattle.grammar.specs.Rule.{Deepens}
use Rattle.grammar.proofs.Facts.{true_false}
use Rattle.py_expr.specs.declared.item.Item.{Item}
use Rattle.py_expr.specs.Parts.{Part, whole, lacking, call, more, clauses, display, sign, bounds, node, nodes_of, depth_nodes, depth_all}
use Rattle.py_expr.specs.Build.{token_at}
use Rattle.py_expr.specs.Table as e
use Rattle.py_expr.proofs.Depths.{node_depth, nodes_left, nodes_right, deepens as known}
use Rattle.py_suite.specs.Table.{Builder, Value_of, Statement, Item_of, Headed, Head, Valued, Several, Listing, Dotting, strong}
use Rattle.py_suite.specs.Build.{filled, written, arity, absents, padded, told, statement, is_dots, unless_dots, item, valued, several, listing, dotted, dotting, end_from, alone, build, source}

nodes_deep : (ps : List Part) → depth_all ps ≤ depth_nodes (nodes_of ps)
nodes_deep ps = omega (arith, (known []).weak e.Further 0 0 ps)

filled_deep : (from : ℕ) (ps : List Part) → depth_all ps ≤ depth_nodes (filled from ps)
filled_deep from [] = omega arith
filled_deep from (whole n ∷ ps) = omega (arith, filled_deep from ps)
filled_deep from (lacking kind text to ns ∷ ps) = omega (arith, filled_deep from ps, node_depth kind text to to ns)
filled_deep from (call to ∷ ps) = omega (arith, filled_deep from ps)
filled_deep from (more [] ∷ ps) = omega (arith, filled_deep from ps)
filled_deep from (more (n ∷ ns) ∷ ps) = omega (arith, filled_deep from ps, nodes_left (n ∷ ns) [], nodes_left ((n ∷ ns) ++ []) (filled from ps), nodes_right ((n ∷ ns) ++ []) (filled from ps))
filled_deep from (clauses [] ∷ ps) = omega (arith, filled_deep from ps)
filled_deep from (clauses (n ∷ ns) ∷ ps) = omega (arith, filled_deep from ps, nodes_left (n ∷ ns) [], nodes_left ((n ∷ ns) ++ []) (filled from ps), nodes_right ((n ∷ ns) ++ []) (filled from ps))
filled_deep from (display kind text ns ∷ ps) = omega (arith, filled_deep from ps, nodes_left ns [], nodes_left (ns ++ []) (filled from ps), nodes_right (ns ++ []) (filled from ps))
filled_deep from (sign text ∷ ps) = omega (arith, filled_deep from ps)
filled_deep from (bounds hs ss ∷ ps) = omega (arith, filled_deep from ps, nodes_left hs (ss ++ []), nodes_right hs (ss ++ []), nodes_left ss [], nodes_left (hs ++ (ss ++ [])) (filled from ps), nodes_right (hs ++ (ss ++ [])) (filled from ps))

padded_deep : (kind : Kind) (text : List ℕ) (from to : ℕ) (ns : List Node) → depth_nodes ns < depth_of (node kind text from to (padded kind from ns))
padded_deep kind text from to ns = omega (arith, node_depth kind text from to (padded kind from ns), nodes_left ns (absents from (arity kind - length ns)))

statement_deep : (kind : Kind) (from to : ℕ) (ps : List Part) → depth_all ps < depth_all (statement kind from to ps)
statement_deep kind from to ps = omega (arith, filled_deep from ps, padded_deep kind (written ps) from to (filled from ps))

either_deep : (c : Bool) (m n : Node) → depth_of m ≤ depth_of n → depth_of m ≤ depth_of (if c then m else n)
either_deep true m n h = omega arith
either_deep false m n h = h

unless_deep : (alone : Bool) (m n : Node) → depth_of m ≤ depth_of n → depth_of m ≤ depth_of (unless_dots alone m n)
unless_deep true m n h = either_deep (is_dots (kind_of m)) m n h
unless_deep false m n h = h

below : (n m : ℕ) → n < m → n ≤ m
below n m h = omega arith

one_deep : (kind : Kind) (alone : Bool) (from to : ℕ) (n : Node) → depth_of n ≤ depth_of (unless_dots alone n (node kind [] from to (padded kind from (n ∷ []))))
one_deep kind alone from to n = unless_deep alone n (node kind [] from to (padded kind from (n ∷ []))) (omega (arith, padded_deep kind [] from to (n ∷ [])))

item_deep : (kind : Kind) (alone : Bool) (from to : ℕ) (ps : List Part) → depth_all ps ≤ depth_all (item kind alone from to ps)
item_deep kind alone from to [] = below _ _ (statement_deep kind from to [])
item_deep kind alone from to (whole n ∷ []) = omega (arith, one_deep kind alone from to n)
item_deep kind alone from to (whole n ∷ p ∷ ps) = below _ _ (statement_deep kind from to (whole n ∷ p ∷ ps))
item_deep kind alone from to (lacking k0 t0 e0 ns ∷ ps) = below _ _ (statement_deep kind from to (lacking k0 t0 e0 ns ∷ ps))
item_deep kind alone from to (call e0 ∷ ps) = below _ _ (statement_deep kind from to (call e0 ∷ ps))
item_deep kind alone from to (more ns ∷ ps) = below _ _ (statement_deep kind from to (more ns ∷ ps))
item_deep kind alone from to (clauses ns ∷ ps) = below _ _ (statement_deep kind from to (clauses ns ∷ ps))
item_deep kind alone from to (display k0 t0 ns ∷ ps) = below _ _ (statement_deep kind from to (display k0 t0 ns ∷ ps))
item_deep kind alone from to (sign s ∷ ps) = below _ _ (statement_deep kind from to (sign s ∷ ps))
item_deep kind alone from to (bounds hs ss ∷ ps) = below _ _ (statement_deep kind from to (bounds hs ss ∷ ps))

valued_deep : (alone : Bool) (from to : ℕ) (ps : List Part) → depth_all ps ≤ depth_all (valued alone from to ps)
valued_deep alone from to [] = item_deep k.ExprStmt alone from to []
valued_deep alone from to (whole n ∷ []) = item_deep k.ExprStmt alone from to (whole n ∷ [])
valued_deep alone from to (whole n ∷ whole m ∷ ps) = item_deep k.ExprStmt alone from to (whole n ∷ whole m ∷ ps)
valued_deep alone from to (whole n ∷ lacking k0 t0 e0 ns ∷ []) = omega (arith, node_depth k0 t0 from to (n ∷ ns))
valued_deep alone from to (whole n ∷ lacking k0 t0 e0 ns ∷ p ∷ ps) = item_deep k.ExprStmt alone from to (whole n ∷ lacking k0 t0 e0 ns ∷ p ∷ ps)
valued_deep alone from to (whole n ∷ call e0 ∷ ps) = item_deep k.ExprStmt alone from to (whole n ∷ call e0 ∷ ps)
valued_deep alone from to (whole n ∷ more ns ∷ []) = omega (arith, node_depth k.Assign [] from to (n ∷ ns))
valued_deep alone from to (whole n ∷ more ns ∷ p ∷ ps) = item_deep k.ExprStmt alone from to (whole n ∷ more ns ∷ p ∷ ps)
valued_deep alone from to (whole n ∷ clauses ns ∷ ps) = item_deep k.ExprStmt alone from to (whole n ∷ clauses ns ∷ ps)
valued_deep alone from to (whole n ∷ display k0 t0 ns ∷ ps) = item_deep k.ExprStmt alone from to (whole n ∷ display k0 t0 ns ∷ ps)
valued_deep alone from to (whole n ∷ sign s ∷ ps) = item_deep k.ExprStmt alone from to (whole n ∷ sign s ∷ ps)
valued_deep alone from to (whole n ∷ bounds hs ss ∷ ps) = item_deep k.ExprStmt alone from to (whole n ∷ bounds hs ss ∷ ps)
valued_deep alone from to (lacking k0 t0 e0 ns ∷ ps) = item_deep k.ExprStmt alone from to (lacking k0 t0 e0 ns ∷ ps)
valued_deep alone from to (call e0 ∷ ps) = item_deep k.ExprStmt alone from to (call e0 ∷ ps)
valued_deep alone from to (more ns ∷ ps) = item_deep k.ExprStmt alone from to (more ns ∷ ps)
valued_deep alone from to (clauses ns ∷ ps) = item_deep k.ExprStmt alone from to (clauses ns ∷ ps)
valued_deep alone from to (display k0 t0 ns ∷ ps) = item_deep k.ExprStmt alone from to (display k0 t0 ns ∷ ps)
valued_deep alone from to (sign s ∷ ps) = item_deep k.ExprStmt alone from to (sign s ∷ ps)
valued_deep alone from to (bounds hs ss ∷ ps) = item_deep k.ExprStmt alone from to (bounds hs ss ∷ ps)

several_deep : (from to : ℕ) (ps : List Part) → depth_all ps ≤ depth_all (several from to ps)
several_deep from to [] = omega arith
several_deep from to (p ∷ ps) = omega (arith, nodes_deep (p ∷ ps), node_depth k.List [] from to (nodes_of (p ∷ ps)))

listing_deep : (ps : List Part) → depth_all ps ≤ depth_all (listing ps)
listing_deep [] = omega arith
listing_deep (p ∷ ps) = omega arith

dotting_deep : (from to : ℕ) (ps : List Part) → depth_all ps ≤ depth_all (dotting from to ps)
dotting_deep from to ps = omega (arith, nodes_deep ps, node_depth k.Id (dotted ps) from to (nodes_of ps))

module _ (ts : List Item) where
  weak : (b : Builder) (i j : ℕ) (ps : List Part) → depth_all ps ≤ depth_all (build ts b i j ps)
  weak (Value_of b) i j ps = (known ts).weak b i j ps
  weak (Statement kind) i j ps = below _ _ (statement_deep kind (token_at ts i).span.from (end_from ts i j) ps)
  weak (Item_of kind) i j ps = item_deep kind (alone i j) (token_at ts i).span.from (end_from ts i j) ps
  weak Headed i j ps = below _ _ (statement_deep (told ps) (token_at ts i).span.from (end_from ts i j) ps)
  weak (Head kind) i j ps = omega (arith, nodes_deep ps)
  weak Valued i j ps = valued_deep (alone i j) (token_at ts i).span.from (end_from ts i j) ps
  weak Several i j ps = several_deep (token_at ts i).span.from (end_from ts i j) ps
  weak Listing i j ps = listing_deep ps
  weak Dotting i j ps = dotting_deep (token_at ts i).span.from (end_from ts i j) ps

  strict : (b : Builder) (i j : ℕ) (ps : List Part) → strong b ≡ true → depth_all ps < depth_all (build ts b i j ps)
  strict (Value_of b) i j ps h = (known ts).strict b i j ps h
  strict (Statement kind) i j ps h = statement_deep kind (token_at ts i).span.from (end_from ts i j) ps
  strict (Item_of kind) i j ps h = true_false false h refl
  strict Headed i j ps h = statement_deep (told ps) (token_at ts i).span.from (end_from ts i j) ps
  strict (Head kind) i j ps h = true_false false h refl
  strict Valued i j ps h = true_false false h refl
  strict Several i j ps h = true_false false h refl
  strict Listing i j ps h = true_false false h refl
  strict Dotting i j ps h = true_false false h refl

  pub deepens : Deepens strong depth_all (source ts)
  deepens = record { left = (known ts).left; right = (known ts).right; weak = λ b i j ps. weak b i j ps; strict = λ b i j ps h. strict b i j ps h }
