-- How deep what a builder makes is.
use Rattle.std.proofs.Common.{◌≡◌, ℕ, ◌+◌, ◌<◌, ◌≤◌, List, [], ◌∷◌, ◌++◌, refl, ap, ◌∙◌, arith, Bool, cond}
use Rattle.std.specs.Prelude.{true, false, max, ltb, codes}
use Rattle.node_tree.specs.declared.node.Node.{Node, out-Node, roll-Node}
use Rattle.node_tree.specs.declared.kind.Kind.{Kind}
use Rattle.node_tree.specs.declared.kind.Kind.TheVariants as k
use Rattle.node_tree.specs.Tree.{depth_of, depth_is, kids_of, kind_of, text_of, span_of}
use Rattle.node_tree.proofs.Nodes.{made_kids}
use Rattle.grammar.specs.Rule.{Deepens}
use Rattle.grammar.proofs.Facts.{true_false}
use Rattle.py_expr.specs.declared.item.Item.{Item}
use Rattle.py_expr.specs.Parts.{Part, whole, lacking, call, more, clauses, display, sign, bounds, node, nodes_of, depth_nodes, depth_part, depth_all}
use Rattle.py_expr.specs.Table.{Builder, Over, Signed, Lacking, SignedLacking, Chain, Joint, Further, Clauses, Grouped, Listed, ListOf, Braced, Entry, PairEntry, Undecided, Lambda, Conditional, Compared, Joined, Called, Sign, Yielded, Bounds, Slice, Sliced, Parameter, SignedParameter, strong}
use Rattle.py_expr.specs.Build.{token_at, end_of, absent, empty_list, or_absent, grafted, others, widened, attached, farther, chain_from, chain, joint, listed, grouped, list_of, displayed, entry, undecided, braced, lambda_kids, conditional, compared, operators, joined_strings, called, one_sign, yielded, bounded, slice, sliced, parameter, slice_kids, made, source, too_deep, spine}

-- ---- nodes

-- a node is one deeper than its kids
pub node_depth : (kind : Kind) (text : List ℕ) (from to : ℕ) (ns : List Node) → depth_of (node kind text from to ns) ≡ 1 + depth_nodes ns
node_depth kind text from to ns = depth_is (node kind text from to ns) ∙ ap (λ (ms : List Node). 1 + depth_nodes ms) (made_kids kind text ns (record { from = from; to = to }))

pub nodes_left : (xs ys : List Node) → depth_nodes xs ≤ depth_nodes (xs ++ ys)
nodes_left [] ys = omega arith
nodes_left (x ∷ xs) ys = omega (arith, nodes_left xs ys)

pub nodes_right : (xs ys : List Node) → depth_nodes ys ≤ depth_nodes (xs ++ ys)
nodes_right [] ys = omega arith
nodes_right (x ∷ xs) ys = omega (arith, nodes_right xs ys)

-- ---- parts

in_left : (ys zs : List Part) → depth_all ys ≤ depth_all (ys ++ zs)
in_left [] zs = omega arith
in_left (y ∷ ys) zs = omega (arith, in_left ys zs)

in_right : (ys zs : List Part) → depth_all zs ≤ depth_all (ys ++ zs)
in_right [] zs = omega arith
in_right (y ∷ ys) zs = omega (arith, in_right ys zs)

nodes_deep : (ps : List Part) → depth_all ps ≤ depth_nodes (nodes_of ps)
nodes_deep [] = omega arith
nodes_deep (whole n ∷ ps) = omega (arith, nodes_deep ps)
nodes_deep (lacking kind text to ns ∷ ps) = omega (arith, nodes_deep ps, node_depth kind text to to ns)
nodes_deep (call to ∷ ps) = omega (arith, nodes_deep ps)
nodes_deep (more ns ∷ ps) = omega (arith, nodes_deep ps, nodes_left ns (nodes_of ps), nodes_right ns (nodes_of ps))
nodes_deep (clauses ns ∷ ps) = omega (arith, nodes_deep ps, nodes_left ns (nodes_of ps), nodes_right ns (nodes_of ps))
nodes_deep (display kind text ns ∷ ps) = omega (arith, nodes_deep ps, nodes_left ns (nodes_of ps), nodes_right ns (nodes_of ps))
nodes_deep (sign text ∷ ps) = omega (arith, nodes_deep ps)
nodes_deep (bounds hs ss ∷ ps) = omega (arith, nodes_deep ps, nodes_left hs (ss ++ nodes_of ps), nodes_right hs (ss ++ nodes_of ps), nodes_left ss (nodes_of ps), nodes_right ss (nodes_of ps))

over_deep : (kind : Kind) (text : List ℕ) (from to : ℕ) (ps : List Part) → depth_all ps < depth_all (whole (node kind text from to (nodes_of ps)) ∷ [])
over_deep kind text from to ps = omega (arith, nodes_deep ps, node_depth kind text from to (nodes_of ps))

lacking_deep : (kind : Kind) (text : List ℕ) (to : ℕ) (ps : List Part) → depth_all ps < depth_all (lacking kind text to (nodes_of ps) ∷ [])
lacking_deep kind text to ps = omega (arith, nodes_deep ps)

-- ---- chains

by_either : (n : ℕ) (c : Bool) (x y : Node) → n ≤ depth_of x → n ≤ depth_of y → n ≤ depth_of (cond c x y)
by_either n true x y h g = h
by_either n false x y h g = g

other_deep : (from : ℕ) (n : Node) (p : Part) → max (depth_of n) (depth_part p) ≤ depth_of (node k.List [] from from (n ∷ nodes_of (p ∷ [])))
other_deep from n p = omega (arith, nodes_deep (p ∷ []), node_depth k.List [] from from (n ∷ nodes_of (p ∷ [])))

grafted_deep : (from : ℕ) (n : Node) (p : Part) → max (depth_of n) (depth_part p) ≤ depth_of (grafted from n p)
grafted_deep from n (lacking kind text to ns) = omega (arith, node_depth kind text from to (n ∷ ns))
grafted_deep from n (call to) = omega (arith, node_depth k.Call [] from to (n ∷ empty_list from ∷ []))
grafted_deep from n (whole m) = other_deep from n (whole m)
grafted_deep from n (more ns) = other_deep from n (more ns)
grafted_deep from n (clauses ns) = other_deep from n (clauses ns)
grafted_deep from n (display kind text ns) = other_deep from n (display kind text ns)
grafted_deep from n (sign text) = other_deep from n (sign text)
grafted_deep from n (bounds hs ss) = other_deep from n (bounds hs ss)

with_kids_depth : (n : Node) (ms : List Node) → depth_of (roll-Node (record (out-Node n) { kids = kids_of n ++ ms })) ≡ 1 + depth_nodes (kids_of n ++ ms)
with_kids_depth n ms = depth_is (roll-Node (record (out-Node n) { kids = kids_of n ++ ms })) ∙ ap (λ (ns : List Node). 1 + depth_nodes ns) (made_kids (kind_of n) (text_of n) (kids_of n ++ ms) (span_of n))

others_deep : (p : Part) → depth_part p ≤ 1 + depth_nodes (others p)
others_deep (lacking kind text to ns) = omega arith
others_deep (call to) = omega arith
others_deep (whole m) = omega (arith, nodes_deep (whole m ∷ []))
others_deep (more ns) = omega (arith, nodes_deep (more ns ∷ []))
others_deep (clauses ns) = omega (arith, nodes_deep (clauses ns ∷ []))
others_deep (display kind text ns) = omega (arith, nodes_deep (display kind text ns ∷ []))
others_deep (sign text) = omega arith
others_deep (bounds hs ss) = omega (arith, nodes_deep (bounds hs ss ∷ []))

wider_deep : (n : Node) (p : Part) → max (depth_of n) (depth_part p) ≤ depth_of (roll-Node (record (out-Node n) { kids = kids_of n ++ others p }))
wider_deep n p = omega (arith, with_kids_depth n (others p), depth_is n, others_deep p, nodes_left (kids_of n) (others p), nodes_right (kids_of n) (others p))

widened_deep : (n : Node) (p : Part) → max (depth_of n) (depth_part p) ≤ depth_of (widened n p)
widened_deep n (call to) = omega arith
widened_deep n (whole m) = wider_deep n (whole m)
widened_deep n (lacking kind text to ns) = wider_deep n (lacking kind text to ns)
widened_deep n (more ns) = wider_deep n (more ns)
widened_deep n (clauses ns) = wider_deep n (clauses ns)
widened_deep n (display kind text ns) = wider_deep n (display kind text ns)
widened_deep n (sign text) = wider_deep n (sign text)
widened_deep n (bounds hs ss) = wider_deep n (bounds hs ss)

attached_deep : (from far : ℕ) (n : Node) (p : Part) → max (depth_of n) (depth_part p) ≤ depth_of (attached from far n p)
attached_deep from far n p = by_either (max (depth_of n) (depth_part p)) (ltb far too_deep) (grafted from n p) (widened n p) (grafted_deep from n p) (widened_deep n p)

chain_from_deep : (from far : ℕ) (ps : List Part) (n : Node) → max (depth_of n) (depth_all ps) ≤ depth_of (chain_from from far n ps)
chain_from_deep from far [] n = omega arith
chain_from_deep from far (p ∷ ps) n = omega (arith, attached_deep from far n p, chain_from_deep from (farther far) ps (attached from far n p))

-- ---- the others

chain_deep : (from : ℕ) (ps : List Part) → depth_all ps ≤ depth_all (chain from ps)
chain_deep from [] = omega arith
chain_deep from (whole n0 ∷ ps) = omega (arith, chain_from_deep from (spine too_deep n0) ps n0)
chain_deep from (lacking k0 t0 e0 ns0 ∷ ps) = omega arith
chain_deep from (call e0 ∷ ps) = omega arith
chain_deep from (more ns0 ∷ ps) = omega arith
chain_deep from (clauses ns0 ∷ ps) = omega arith
chain_deep from (display k0 t0 ns0 ∷ ps) = omega arith
chain_deep from (sign s0 ∷ ps) = omega arith
chain_deep from (bounds hs0 ss0 ∷ ps) = omega arith

joint_deep : (from : ℕ) (ps : List Part) → depth_all ps ≤ depth_all (joint from ps)
joint_deep from [] = omega arith
joint_deep from (whole n0 ∷ []) = omega arith
joint_deep from (whole n0 ∷ whole n1 ∷ ps) = omega arith
joint_deep from (whole n0 ∷ lacking k1 t1 e1 ns1 ∷ ps) = omega (arith, node_depth k1 t1 from e1 (n0 ∷ ns1))
joint_deep from (whole n0 ∷ call e1 ∷ ps) = omega arith
joint_deep from (whole n0 ∷ more ns1 ∷ ps) = omega arith
joint_deep from (whole n0 ∷ clauses ns1 ∷ ps) = omega arith
joint_deep from (whole n0 ∷ display k1 t1 ns1 ∷ ps) = omega arith
joint_deep from (whole n0 ∷ sign s1 ∷ ps) = omega arith
joint_deep from (whole n0 ∷ bounds hs1 ss1 ∷ ps) = omega arith
joint_deep from (lacking k0 t0 e0 ns0 ∷ ps) = omega arith
joint_deep from (call e0 ∷ ps) = omega arith
joint_deep from (more ns0 ∷ ps) = omega arith
joint_deep from (clauses ns0 ∷ ps) = omega arith
joint_deep from (display k0 t0 ns0 ∷ ps) = omega arith
joint_deep from (sign s0 ∷ ps) = omega arith
joint_deep from (bounds hs0 ss0 ∷ ps) = omega arith

listed_deep : (kind : Kind) (form : List ℕ) (from to : ℕ) (ps : List Part) → depth_all ps ≤ depth_all (listed kind form from to ps)
listed_deep kind form from to [] = omega arith
listed_deep kind form from to (whole n0 ∷ []) = omega (arith, node_depth kind [] from to (n0 ∷ []))
listed_deep kind form from to (whole n0 ∷ whole n1 ∷ ps) = omega arith
listed_deep kind form from to (whole n0 ∷ lacking k1 t1 e1 ns1 ∷ ps) = omega arith
listed_deep kind form from to (whole n0 ∷ call e1 ∷ ps) = omega arith
listed_deep kind form from to (whole n0 ∷ more ns1 ∷ []) = omega (arith, node_depth kind [] from to (n0 ∷ ns1))
listed_deep kind form from to (whole n0 ∷ more ns1 ∷ p ∷ ps) = omega arith
listed_deep kind form from to (whole n0 ∷ clauses ns1 ∷ []) = omega (arith, node_depth k.Comp form from to (n0 ∷ ns1))
listed_deep kind form from to (whole n0 ∷ clauses ns1 ∷ p ∷ ps) = omega arith
listed_deep kind form from to (whole n0 ∷ display k1 t1 ns1 ∷ ps) = omega arith
listed_deep kind form from to (whole n0 ∷ sign s1 ∷ ps) = omega arith
listed_deep kind form from to (whole n0 ∷ bounds hs1 ss1 ∷ ps) = omega arith
listed_deep kind form from to (lacking k0 t0 e0 ns0 ∷ ps) = omega arith
listed_deep kind form from to (call e0 ∷ ps) = omega arith
listed_deep kind form from to (more ns0 ∷ ps) = omega arith
listed_deep kind form from to (clauses ns0 ∷ ps) = omega arith
listed_deep kind form from to (display k0 t0 ns0 ∷ ps) = omega arith
listed_deep kind form from to (sign s0 ∷ ps) = omega arith
listed_deep kind form from to (bounds hs0 ss0 ∷ ps) = omega arith

grouped_deep : (from to : ℕ) (ps : List Part) → depth_all ps ≤ depth_all (grouped from to ps)
grouped_deep from to [] = listed_deep k.Tuple (codes "gen") from to []
grouped_deep from to (whole n0 ∷ []) = omega arith
grouped_deep from to (whole n0 ∷ p ∷ ps) = listed_deep k.Tuple (codes "gen") from to (whole n0 ∷ p ∷ ps)
grouped_deep from to (lacking k0 t0 e0 ns0 ∷ ps) = listed_deep k.Tuple (codes "gen") from to (lacking k0 t0 e0 ns0 ∷ ps)
grouped_deep from to (call e0 ∷ ps) = listed_deep k.Tuple (codes "gen") from to (call e0 ∷ ps)
grouped_deep from to (more ns0 ∷ ps) = listed_deep k.Tuple (codes "gen") from to (more ns0 ∷ ps)
grouped_deep from to (clauses ns0 ∷ ps) = listed_deep k.Tuple (codes "gen") from to (clauses ns0 ∷ ps)
grouped_deep from to (display k0 t0 ns0 ∷ ps) = listed_deep k.Tuple (codes "gen") from to (display k0 t0 ns0 ∷ ps)
grouped_deep from to (sign s0 ∷ ps) = listed_deep k.Tuple (codes "gen") from to (sign s0 ∷ ps)
grouped_deep from to (bounds hs0 ss0 ∷ ps) = listed_deep k.Tuple (codes "gen") from to (bounds hs0 ss0 ∷ ps)

list_of_deep : (from to : ℕ) (ps : List Part) → depth_all ps ≤ depth_all (list_of from to ps)
list_of_deep from to [] = listed_deep k.List [] from to []
list_of_deep from to (whole n0 ∷ []) = listed_deep k.List [] from to (whole n0 ∷ [])
list_of_deep from to (whole n0 ∷ whole n1 ∷ ps) = listed_deep k.List [] from to (whole n0 ∷ whole n1 ∷ ps)
list_of_deep from to (whole n0 ∷ lacking k1 t1 e1 ns1 ∷ ps) = listed_deep k.List [] from to (whole n0 ∷ lacking k1 t1 e1 ns1 ∷ ps)
list_of_deep from to (whole n0 ∷ call e1 ∷ ps) = listed_deep k.List [] from to (whole n0 ∷ call e1 ∷ ps)
list_of_deep from to (whole n0 ∷ more ns1 ∷ ps) = listed_deep k.List [] from to (whole n0 ∷ more ns1 ∷ ps)
list_of_deep from to (whole n0 ∷ clauses ns1 ∷ []) = omega (arith, node_depth k.Comp (codes "gen") from to (n0 ∷ ns1), node_depth k.List [] from to (node k.Comp (codes "gen") from to (n0 ∷ ns1) ∷ []))
list_of_deep from to (whole n0 ∷ clauses ns1 ∷ p ∷ ps) = listed_deep k.List [] from to (whole n0 ∷ clauses ns1 ∷ p ∷ ps)
list_of_deep from to (whole n0 ∷ display k1 t1 ns1 ∷ ps) = listed_deep k.List [] from to (whole n0 ∷ display k1 t1 ns1 ∷ ps)
list_of_deep from to (whole n0 ∷ sign s1 ∷ ps) = listed_deep k.List [] from to (whole n0 ∷ sign s1 ∷ ps)
list_of_deep from to (whole n0 ∷ bounds hs1 ss1 ∷ ps) = listed_deep k.List [] from to (whole n0 ∷ bounds hs1 ss1 ∷ ps)
list_of_deep from to (lacking k0 t0 e0 ns0 ∷ ps) = listed_deep k.List [] from to (lacking k0 t0 e0 ns0 ∷ ps)
list_of_deep from to (call e0 ∷ ps) = listed_deep k.List [] from to (call e0 ∷ ps)
list_of_deep from to (more ns0 ∷ ps) = listed_deep k.List [] from to (more ns0 ∷ ps)
list_of_deep from to (clauses ns0 ∷ ps) = listed_deep k.List [] from to (clauses ns0 ∷ ps)
list_of_deep from to (display k0 t0 ns0 ∷ ps) = listed_deep k.List [] from to (display k0 t0 ns0 ∷ ps)
list_of_deep from to (sign s0 ∷ ps) = listed_deep k.List [] from to (sign s0 ∷ ps)
list_of_deep from to (bounds hs0 ss0 ∷ ps) = listed_deep k.List [] from to (bounds hs0 ss0 ∷ ps)

displayed_deep : (kind : Kind) (form : List ℕ) (ps : List Part) → depth_all ps ≤ depth_all (displayed kind form ps)
displayed_deep kind form [] = omega arith
displayed_deep kind form (whole n0 ∷ []) = omega arith
displayed_deep kind form (whole n0 ∷ whole n1 ∷ ps) = omega arith
displayed_deep kind form (whole n0 ∷ lacking k1 t1 e1 ns1 ∷ ps) = omega arith
displayed_deep kind form (whole n0 ∷ call e1 ∷ ps) = omega arith
displayed_deep kind form (whole n0 ∷ more ns1 ∷ []) = omega arith
displayed_deep kind form (whole n0 ∷ more ns1 ∷ p ∷ ps) = omega arith
displayed_deep kind form (whole n0 ∷ clauses ns1 ∷ []) = omega arith
displayed_deep kind form (whole n0 ∷ clauses ns1 ∷ p ∷ ps) = omega arith
displayed_deep kind form (whole n0 ∷ display k1 t1 ns1 ∷ ps) = omega arith
displayed_deep kind form (whole n0 ∷ sign s1 ∷ ps) = omega arith
displayed_deep kind form (whole n0 ∷ bounds hs1 ss1 ∷ ps) = omega arith
displayed_deep kind form (lacking k0 t0 e0 ns0 ∷ ps) = omega arith
displayed_deep kind form (call e0 ∷ ps) = omega arith
displayed_deep kind form (more ns0 ∷ ps) = omega arith
displayed_deep kind form (clauses ns0 ∷ ps) = omega arith
displayed_deep kind form (display k0 t0 ns0 ∷ ps) = omega arith
displayed_deep kind form (sign s0 ∷ ps) = omega arith
displayed_deep kind form (bounds hs0 ss0 ∷ ps) = omega arith

entry_deep : (from : ℕ) (ps : List Part) → depth_all ps ≤ depth_all (entry from ps)
entry_deep from [] = displayed_deep k.SetLit (codes "set") []
entry_deep from (whole n0 ∷ []) = displayed_deep k.SetLit (codes "set") (whole n0 ∷ [])
entry_deep from (whole n0 ∷ whole n1 ∷ ps) = displayed_deep k.SetLit (codes "set") (whole n0 ∷ whole n1 ∷ ps)
entry_deep from (whole n0 ∷ lacking k1 t1 e1 ns1 ∷ ps) = omega (arith, node_depth k1 t1 from e1 (n0 ∷ ns1), displayed_deep k.DictLit (codes "dict") (whole (node k1 t1 from e1 (n0 ∷ ns1)) ∷ ps))
entry_deep from (whole n0 ∷ call e1 ∷ ps) = displayed_deep k.SetLit (codes "set") (whole n0 ∷ call e1 ∷ ps)
entry_deep from (whole n0 ∷ more ns1 ∷ ps) = displayed_deep k.SetLit (codes "set") (whole n0 ∷ more ns1 ∷ ps)
entry_deep from (whole n0 ∷ clauses ns1 ∷ ps) = displayed_deep k.SetLit (codes "set") (whole n0 ∷ clauses ns1 ∷ ps)
entry_deep from (whole n0 ∷ display k1 t1 ns1 ∷ ps) = displayed_deep k.SetLit (codes "set") (whole n0 ∷ display k1 t1 ns1 ∷ ps)
entry_deep from (whole n0 ∷ sign s1 ∷ ps) = displayed_deep k.SetLit (codes "set") (whole n0 ∷ sign s1 ∷ ps)
entry_deep from (whole n0 ∷ bounds hs1 ss1 ∷ ps) = displayed_deep k.SetLit (codes "set") (whole n0 ∷ bounds hs1 ss1 ∷ ps)
entry_deep from (lacking k0 t0 e0 ns0 ∷ ps) = displayed_deep k.SetLit (codes "set") (lacking k0 t0 e0 ns0 ∷ ps)
entry_deep from (call e0 ∷ ps) = displayed_deep k.SetLit (codes "set") (call e0 ∷ ps)
entry_deep from (more ns0 ∷ ps) = displayed_deep k.SetLit (codes "set") (more ns0 ∷ ps)
entry_deep from (clauses ns0 ∷ ps) = displayed_deep k.SetLit (codes "set") (clauses ns0 ∷ ps)
entry_deep from (display k0 t0 ns0 ∷ ps) = displayed_deep k.SetLit (codes "set") (display k0 t0 ns0 ∷ ps)
entry_deep from (sign s0 ∷ ps) = displayed_deep k.SetLit (codes "set") (sign s0 ∷ ps)
entry_deep from (bounds hs0 ss0 ∷ ps) = displayed_deep k.SetLit (codes "set") (bounds hs0 ss0 ∷ ps)

braced_deep : (from to : ℕ) (ps : List Part) → depth_all ps ≤ depth_all (braced from to ps)
braced_deep from to [] = omega arith
braced_deep from to (whole n0 ∷ ps) = omega arith
braced_deep from to (lacking k0 t0 e0 ns0 ∷ ps) = omega arith
braced_deep from to (call e0 ∷ ps) = omega arith
braced_deep from to (more ns0 ∷ ps) = omega arith
braced_deep from to (clauses ns0 ∷ ps) = omega arith
braced_deep from to (display k0 t0 ns0 ∷ []) = omega (arith, node_depth k0 t0 from to ns0)
braced_deep from to (display k0 t0 ns0 ∷ p ∷ ps) = omega arith
braced_deep from to (sign s0 ∷ ps) = omega arith
braced_deep from to (bounds hs0 ss0 ∷ ps) = omega arith

conditional_deep : (from to : ℕ) (ps : List Part) → depth_all ps ≤ depth_all (conditional from to ps)
conditional_deep from to [] = omega arith
conditional_deep from to (whole n0 ∷ []) = omega arith
conditional_deep from to (whole n0 ∷ whole n1 ∷ ps) = omega arith
conditional_deep from to (whole n0 ∷ lacking k1 t1 e1 [] ∷ []) = omega arith
conditional_deep from to (whole n0 ∷ lacking k1 t1 e1 (c ∷ ns) ∷ []) = omega (arith, node_depth k1 t1 from to (c ∷ n0 ∷ ns))
conditional_deep from to (whole n0 ∷ lacking k1 t1 e1 [] ∷ p ∷ ps) = omega arith
conditional_deep from to (whole n0 ∷ lacking k1 t1 e1 (c ∷ ns) ∷ p ∷ ps) = omega arith
conditional_deep from to (whole n0 ∷ call e1 ∷ ps) = omega arith
conditional_deep from to (whole n0 ∷ more ns1 ∷ ps) = omega arith
conditional_deep from to (whole n0 ∷ clauses ns1 ∷ ps) = omega arith
conditional_deep from to (whole n0 ∷ display k1 t1 ns1 ∷ ps) = omega arith
conditional_deep from to (whole n0 ∷ sign s1 ∷ ps) = omega arith
conditional_deep from to (whole n0 ∷ bounds hs1 ss1 ∷ ps) = omega arith
conditional_deep from to (lacking k0 t0 e0 ns0 ∷ ps) = omega arith
conditional_deep from to (call e0 ∷ ps) = omega arith
conditional_deep from to (more ns0 ∷ ps) = omega arith
conditional_deep from to (clauses ns0 ∷ ps) = omega arith
conditional_deep from to (display k0 t0 ns0 ∷ ps) = omega arith
conditional_deep from to (sign s0 ∷ ps) = omega arith
conditional_deep from to (bounds hs0 ss0 ∷ ps) = omega arith

compared_deep : (from to : ℕ) (ps : List Part) → depth_all ps ≤ depth_all (compared from to ps)
compared_deep from to [] = omega arith
compared_deep from to (whole n0 ∷ []) = omega arith
compared_deep from to (whole n0 ∷ whole n1 ∷ ps) = omega arith
compared_deep from to (whole n0 ∷ lacking k1 t1 e1 ns1 ∷ ps) = omega arith
compared_deep from to (whole n0 ∷ call e1 ∷ ps) = omega arith
compared_deep from to (whole n0 ∷ more ns1 ∷ ps) = omega arith
compared_deep from to (whole n0 ∷ clauses ns1 ∷ ps) = omega arith
compared_deep from to (whole n0 ∷ display k1 t1 ns1 ∷ ps) = omega arith
compared_deep from to (whole n0 ∷ sign s1 ∷ []) = omega arith
compared_deep from to (whole n0 ∷ sign s1 ∷ whole n2 ∷ ps) = omega (arith, node_depth k.Compare (operators s1 ps) from to (n0 ∷ n2 ∷ nodes_of ps), nodes_deep ps)
compared_deep from to (whole n0 ∷ sign s1 ∷ lacking k2 t2 e2 ns2 ∷ ps) = omega arith
compared_deep from to (whole n0 ∷ sign s1 ∷ call e2 ∷ ps) = omega arith
compared_deep from to (whole n0 ∷ sign s1 ∷ more ns2 ∷ ps) = omega arith
compared_deep from to (whole n0 ∷ sign s1 ∷ clauses ns2 ∷ ps) = omega arith
compared_deep from to (whole n0 ∷ sign s1 ∷ display k2 t2 ns2 ∷ ps) = omega arith
compared_deep from to (whole n0 ∷ sign s1 ∷ sign s2 ∷ ps) = omega arith
compared_deep from to (whole n0 ∷ sign s1 ∷ bounds hs2 ss2 ∷ ps) = omega arith
compared_deep from to (whole n0 ∷ bounds hs1 ss1 ∷ ps) = omega arith
compared_deep from to (lacking k0 t0 e0 ns0 ∷ ps) = omega arith
compared_deep from to (call e0 ∷ ps) = omega arith
compared_deep from to (more ns0 ∷ ps) = omega arith
compared_deep from to (clauses ns0 ∷ ps) = omega arith
compared_deep from to (display k0 t0 ns0 ∷ ps) = omega arith
compared_deep from to (sign s0 ∷ ps) = omega arith
compared_deep from to (bounds hs0 ss0 ∷ ps) = omega arith

joined_deep : (from to : ℕ) (ps : List Part) → depth_all ps ≤ depth_all (joined_strings from to ps)
joined_deep from to [] = omega arith
joined_deep from to (whole n0 ∷ []) = omega arith
joined_deep from to (whole n0 ∷ whole n1 ∷ ps) = omega arith
joined_deep from to (whole n0 ∷ lacking k1 t1 e1 ns1 ∷ ps) = omega arith
joined_deep from to (whole n0 ∷ call e1 ∷ ps) = omega arith
joined_deep from to (whole n0 ∷ more ns1 ∷ []) = omega (arith, node_depth k.StrJoin [] from to (n0 ∷ ns1))
joined_deep from to (whole n0 ∷ more ns1 ∷ p ∷ ps) = omega arith
joined_deep from to (whole n0 ∷ clauses ns1 ∷ ps) = omega arith
joined_deep from to (whole n0 ∷ display k1 t1 ns1 ∷ ps) = omega arith
joined_deep from to (whole n0 ∷ sign s1 ∷ ps) = omega arith
joined_deep from to (whole n0 ∷ bounds hs1 ss1 ∷ ps) = omega arith
joined_deep from to (lacking k0 t0 e0 ns0 ∷ ps) = omega arith
joined_deep from to (call e0 ∷ ps) = omega arith
joined_deep from to (more ns0 ∷ ps) = omega arith
joined_deep from to (clauses ns0 ∷ ps) = omega arith
joined_deep from to (display k0 t0 ns0 ∷ ps) = omega arith
joined_deep from to (sign s0 ∷ ps) = omega arith
joined_deep from to (bounds hs0 ss0 ∷ ps) = omega arith

called_deep : (to : ℕ) (ps : List Part) → depth_all ps ≤ depth_all (called to ps)
called_deep to [] = omega arith
called_deep to (p ∷ ps) = omega (arith, nodes_deep (p ∷ ps))

one_sign_deep : (ps : List Part) → depth_all ps ≤ depth_all (one_sign ps)
one_sign_deep [] = omega arith
one_sign_deep (whole n0 ∷ ps) = omega arith
one_sign_deep (lacking k0 t0 e0 ns0 ∷ ps) = omega arith
one_sign_deep (call e0 ∷ ps) = omega arith
one_sign_deep (more ns0 ∷ ps) = omega arith
one_sign_deep (clauses ns0 ∷ ps) = omega arith
one_sign_deep (display k0 t0 ns0 ∷ ps) = omega arith
one_sign_deep (sign s0 ∷ []) = omega arith
one_sign_deep (sign s0 ∷ whole n1 ∷ ps) = omega arith
one_sign_deep (sign s0 ∷ lacking k1 t1 e1 ns1 ∷ ps) = omega arith
one_sign_deep (sign s0 ∷ call e1 ∷ ps) = omega arith
one_sign_deep (sign s0 ∷ more ns1 ∷ ps) = omega arith
one_sign_deep (sign s0 ∷ clauses ns1 ∷ ps) = omega arith
one_sign_deep (sign s0 ∷ display k1 t1 ns1 ∷ ps) = omega arith
one_sign_deep (sign s0 ∷ sign s1 ∷ []) = omega arith
one_sign_deep (sign s0 ∷ sign s1 ∷ p ∷ ps) = omega arith
one_sign_deep (sign s0 ∷ bounds hs1 ss1 ∷ ps) = omega arith
one_sign_deep (bounds hs0 ss0 ∷ ps) = omega arith

yielded_deep : (from to : ℕ) (ps : List Part) → depth_all ps ≤ depth_all (yielded from to ps)
yielded_deep from to [] = omega arith
yielded_deep from to (whole n0 ∷ ps) = omega (arith, over_deep k.Yield [] from to (whole n0 ∷ ps))
yielded_deep from to (lacking k0 t0 e0 ns0 ∷ []) = omega (arith, node_depth k0 t0 from to ns0)
yielded_deep from to (lacking k0 t0 e0 ns0 ∷ p ∷ ps) = omega (arith, over_deep k.Yield [] from to (lacking k0 t0 e0 ns0 ∷ p ∷ ps))
yielded_deep from to (call e0 ∷ ps) = omega (arith, over_deep k.Yield [] from to (call e0 ∷ ps))
yielded_deep from to (more ns0 ∷ ps) = omega (arith, over_deep k.Yield [] from to (more ns0 ∷ ps))
yielded_deep from to (clauses ns0 ∷ ps) = omega (arith, over_deep k.Yield [] from to (clauses ns0 ∷ ps))
yielded_deep from to (display k0 t0 ns0 ∷ ps) = omega (arith, over_deep k.Yield [] from to (display k0 t0 ns0 ∷ ps))
yielded_deep from to (sign s0 ∷ ps) = omega (arith, over_deep k.Yield [] from to (sign s0 ∷ ps))
yielded_deep from to (bounds hs0 ss0 ∷ ps) = omega (arith, over_deep k.Yield [] from to (bounds hs0 ss0 ∷ ps))

bounded_deep : (ps : List Part) → depth_all ps ≤ depth_all (bounded ps)
bounded_deep [] = omega arith
bounded_deep (whole n0 ∷ ps) = omega arith
bounded_deep (lacking k0 t0 e0 ns0 ∷ ps) = omega arith
bounded_deep (call e0 ∷ ps) = omega arith
bounded_deep (more ns0 ∷ []) = omega arith
bounded_deep (more ns0 ∷ whole n1 ∷ ps) = omega arith
bounded_deep (more ns0 ∷ lacking k1 t1 e1 ns1 ∷ ps) = omega arith
bounded_deep (more ns0 ∷ call e1 ∷ ps) = omega arith
bounded_deep (more ns0 ∷ more ns1 ∷ []) = omega arith
bounded_deep (more ns0 ∷ more ns1 ∷ p ∷ ps) = omega arith
bounded_deep (more ns0 ∷ clauses ns1 ∷ ps) = omega arith
bounded_deep (more ns0 ∷ display k1 t1 ns1 ∷ ps) = omega arith
bounded_deep (more ns0 ∷ sign s1 ∷ ps) = omega arith
bounded_deep (more ns0 ∷ bounds hs1 ss1 ∷ ps) = omega arith
bounded_deep (clauses ns0 ∷ ps) = omega arith
bounded_deep (display k0 t0 ns0 ∷ ps) = omega arith
bounded_deep (sign s0 ∷ ps) = omega arith
bounded_deep (bounds hs0 ss0 ∷ ps) = omega arith

slice_deep_kids : (from : ℕ) (hs ss : List Node) → max (depth_nodes hs) (depth_nodes ss) ≤ depth_nodes (slice_kids from hs ss)
slice_deep_kids from [] [] = omega arith
slice_deep_kids from [] (s ∷ ss) = omega arith
slice_deep_kids from (h ∷ hs) [] = omega (arith, nodes_left (h ∷ hs) (or_absent from []))
slice_deep_kids from (h ∷ hs) (s ∷ ss) = omega (arith, nodes_left (h ∷ hs) (s ∷ ss), nodes_right (h ∷ hs) (s ∷ ss))

slice_deep : (from to : ℕ) (ps : List Part) → depth_all ps ≤ depth_all (slice from to ps)
slice_deep from to [] = omega arith
slice_deep from to (whole n0 ∷ ps) = omega arith
slice_deep from to (lacking k0 t0 e0 ns0 ∷ ps) = omega arith
slice_deep from to (call e0 ∷ ps) = omega arith
slice_deep from to (more ns0 ∷ ps) = omega arith
slice_deep from to (clauses ns0 ∷ ps) = omega arith
slice_deep from to (display k0 t0 ns0 ∷ ps) = omega arith
slice_deep from to (sign s0 ∷ ps) = omega arith
slice_deep from to (bounds hs0 ss0 ∷ []) = omega (arith, slice_deep_kids from hs0 ss0, node_depth k.Slice [] from to (absent from ∷ slice_kids from hs0 ss0))
slice_deep from to (bounds hs0 ss0 ∷ p ∷ ps) = omega arith

sliced_deep : (from to : ℕ) (ps : List Part) → depth_all ps ≤ depth_all (sliced from to ps)
sliced_deep from to [] = omega arith
sliced_deep from to (whole n0 ∷ []) = omega arith
sliced_deep from to (whole n0 ∷ whole n1 ∷ ps) = omega arith
sliced_deep from to (whole n0 ∷ lacking k1 t1 e1 ns1 ∷ ps) = omega arith
sliced_deep from to (whole n0 ∷ call e1 ∷ ps) = omega arith
sliced_deep from to (whole n0 ∷ more ns1 ∷ ps) = omega arith
sliced_deep from to (whole n0 ∷ clauses ns1 ∷ ps) = omega arith
sliced_deep from to (whole n0 ∷ display k1 t1 ns1 ∷ ps) = omega arith
sliced_deep from to (whole n0 ∷ sign s1 ∷ ps) = omega arith
sliced_deep from to (whole n0 ∷ bounds hs1 ss1 ∷ []) = omega (arith, slice_deep_kids from hs1 ss1, node_depth k.Slice [] from to (n0 ∷ slice_kids from hs1 ss1))
sliced_deep from to (whole n0 ∷ bounds hs1 ss1 ∷ p ∷ ps) = omega arith
sliced_deep from to (lacking k0 t0 e0 ns0 ∷ ps) = omega arith
sliced_deep from to (call e0 ∷ ps) = omega arith
sliced_deep from to (more ns0 ∷ ps) = omega arith
sliced_deep from to (clauses ns0 ∷ ps) = omega arith
sliced_deep from to (display k0 t0 ns0 ∷ ps) = omega arith
sliced_deep from to (sign s0 ∷ ps) = omega arith
sliced_deep from to (bounds hs0 ss0 ∷ ps) = omega arith

parameter_deep : (mark : List ℕ) (from to : ℕ) (ps : List Part) → depth_all ps ≤ depth_all (parameter mark from to ps)
parameter_deep mark from to [] = omega arith
parameter_deep mark from to (whole n0 ∷ []) = omega arith
parameter_deep mark from to (whole n0 ∷ whole n1 ∷ ps) = omega arith
parameter_deep mark from to (whole n0 ∷ lacking k1 t1 e1 ns1 ∷ ps) = omega arith
parameter_deep mark from to (whole n0 ∷ call e1 ∷ ps) = omega arith
parameter_deep mark from to (whole n0 ∷ more ns1 ∷ []) = omega arith
parameter_deep mark from to (whole n0 ∷ more ns1 ∷ whole n2 ∷ ps) = omega arith
parameter_deep mark from to (whole n0 ∷ more ns1 ∷ lacking k2 t2 e2 ns2 ∷ ps) = omega arith
parameter_deep mark from to (whole n0 ∷ more ns1 ∷ call e2 ∷ ps) = omega arith
parameter_deep mark from to (whole n0 ∷ more ns1 ∷ more ns2 ∷ []) = omega (arith, slice_deep_kids from ns1 ns2, node_depth k.Param mark from to (n0 ∷ slice_kids from ns1 ns2))
parameter_deep mark from to (whole n0 ∷ more ns1 ∷ more ns2 ∷ p ∷ ps) = omega arith
parameter_deep mark from to (whole n0 ∷ more ns1 ∷ clauses ns2 ∷ ps) = omega arith
parameter_deep mark from to (whole n0 ∷ more ns1 ∷ display k2 t2 ns2 ∷ ps) = omega arith
parameter_deep mark from to (whole n0 ∷ more ns1 ∷ sign s2 ∷ ps) = omega arith
parameter_deep mark from to (whole n0 ∷ more ns1 ∷ bounds hs2 ss2 ∷ ps) = omega arith
parameter_deep mark from to (whole n0 ∷ clauses ns1 ∷ ps) = omega arith
parameter_deep mark from to (whole n0 ∷ display k1 t1 ns1 ∷ ps) = omega arith
parameter_deep mark from to (whole n0 ∷ sign s1 ∷ ps) = omega arith
parameter_deep mark from to (whole n0 ∷ bounds hs1 ss1 ∷ ps) = omega arith
parameter_deep mark from to (lacking k0 t0 e0 ns0 ∷ ps) = omega arith
parameter_deep mark from to (call e0 ∷ ps) = omega arith
parameter_deep mark from to (more ns0 ∷ ps) = omega arith
parameter_deep mark from to (clauses ns0 ∷ ps) = omega arith
parameter_deep mark from to (display k0 t0 ns0 ∷ ps) = omega arith
parameter_deep mark from to (sign s0 ∷ ps) = omega arith
parameter_deep mark from to (bounds hs0 ss0 ∷ ps) = omega arith

undecided_deep : (front : List Node) (ps : List Part) → max (depth_nodes front) (depth_all ps) ≤ depth_part (undecided front ps)
undecided_deep front [] = omega arith
undecided_deep front (whole n ∷ ps) = omega (arith, undecided_deep (front ++ n ∷ []) ps, nodes_left front (n ∷ []), nodes_right front (n ∷ []))
undecided_deep front (display kind text ns ∷ []) = omega (arith, nodes_left front ns, nodes_right front ns)
undecided_deep front (display kind text ns ∷ q ∷ ps) = omega (arith, undecided_deep (front ++ nodes_of (display kind text ns ∷ [])) (q ∷ ps), nodes_deep (display kind text ns ∷ []), nodes_left front (nodes_of (display kind text ns ∷ [])), nodes_right front (nodes_of (display kind text ns ∷ [])))
undecided_deep front (lacking kind text to ns ∷ ps) = omega (arith, undecided_deep (front ++ nodes_of (lacking kind text to ns ∷ [])) ps, nodes_deep (lacking kind text to ns ∷ []), nodes_left front (nodes_of (lacking kind text to ns ∷ [])), nodes_right front (nodes_of (lacking kind text to ns ∷ [])))
undecided_deep front (call to ∷ ps) = omega (arith, undecided_deep (front ++ nodes_of (call to ∷ [])) ps, nodes_deep (call to ∷ []), nodes_left front (nodes_of (call to ∷ [])), nodes_right front (nodes_of (call to ∷ [])))
undecided_deep front (more ns ∷ ps) = omega (arith, undecided_deep (front ++ nodes_of (more ns ∷ [])) ps, nodes_deep (more ns ∷ []), nodes_left front (nodes_of (more ns ∷ [])), nodes_right front (nodes_of (more ns ∷ [])))
undecided_deep front (clauses ns ∷ ps) = omega (arith, undecided_deep (front ++ nodes_of (clauses ns ∷ [])) ps, nodes_deep (clauses ns ∷ []), nodes_left front (nodes_of (clauses ns ∷ [])), nodes_right front (nodes_of (clauses ns ∷ [])))
undecided_deep front (sign text ∷ ps) = omega (arith, undecided_deep (front ++ nodes_of (sign text ∷ [])) ps, nodes_deep (sign text ∷ []), nodes_left front (nodes_of (sign text ∷ [])), nodes_right front (nodes_of (sign text ∷ [])))
undecided_deep front (bounds hs ss ∷ ps) = omega (arith, undecided_deep (front ++ nodes_of (bounds hs ss ∷ [])) ps, nodes_deep (bounds hs ss ∷ []), nodes_left front (nodes_of (bounds hs ss ∷ [])), nodes_right front (nodes_of (bounds hs ss ∷ [])))

lambda_deep : (from to : ℕ) (ps : List Part) → depth_all ps < depth_all (whole (node k.Lambda [] from to (lambda_kids from ps)) ∷ [])
lambda_deep from to [] = over_deep k.Lambda [] from to []
lambda_deep from to (whole n0 ∷ []) = omega (arith, node_depth k.Lambda [] from to (empty_list from ∷ n0 ∷ []))
lambda_deep from to (whole n0 ∷ p ∷ ps) = over_deep k.Lambda [] from to (whole n0 ∷ p ∷ ps)
lambda_deep from to (lacking k0 t0 e0 ns0 ∷ ps) = over_deep k.Lambda [] from to (lacking k0 t0 e0 ns0 ∷ ps)
lambda_deep from to (call e0 ∷ ps) = over_deep k.Lambda [] from to (call e0 ∷ ps)
lambda_deep from to (more ns0 ∷ ps) = over_deep k.Lambda [] from to (more ns0 ∷ ps)
lambda_deep from to (clauses ns0 ∷ ps) = over_deep k.Lambda [] from to (clauses ns0 ∷ ps)
lambda_deep from to (display k0 t0 ns0 ∷ ps) = over_deep k.Lambda [] from to (display k0 t0 ns0 ∷ ps)
lambda_deep from to (sign s0 ∷ ps) = over_deep k.Lambda [] from to (sign s0 ∷ ps)
lambda_deep from to (bounds hs0 ss0 ∷ ps) = over_deep k.Lambda [] from to (bounds hs0 ss0 ∷ ps)

more_deep : (ps : List Part) → depth_all ps ≤ max (depth_nodes (nodes_of ps)) 0
more_deep ps = omega (arith, nodes_deep ps)

below : (n m : ℕ) → n < m → n ≤ m
below n m h = omega arith

weak : (b : Builder) (text : List ℕ) (from to : ℕ) (ps : List Part) → depth_all ps ≤ depth_all (made b text from to ps)
weak (Over kind) text from to ps = below _ _ (over_deep kind [] from to ps)
weak (Signed kind) text from to ps = below _ _ (over_deep kind text from to ps)
weak (Lacking kind) text from to ps = below _ _ (lacking_deep kind [] to ps)
weak (SignedLacking kind) text from to ps = below _ _ (lacking_deep kind text to ps)
weak Chain text from to ps = chain_deep from ps
weak Joint text from to ps = joint_deep from ps
weak Further text from to ps = more_deep ps
weak Clauses text from to ps = more_deep ps
weak Grouped text from to ps = grouped_deep from to ps
weak Listed text from to ps = listed_deep k.ListLit (codes "list") from to ps
weak ListOf text from to ps = list_of_deep from to ps
weak Braced text from to ps = braced_deep from to ps
weak Entry text from to ps = entry_deep from ps
weak PairEntry text from to ps = displayed_deep k.DictLit (codes "dict") ps
weak Undecided text from to ps = omega (arith, undecided_deep [] ps)
weak Lambda text from to ps = below _ _ (lambda_deep from to ps)
weak Conditional text from to ps = conditional_deep from to ps
weak Compared text from to ps = compared_deep from to ps
weak Joined text from to ps = joined_deep from to ps
weak Called text from to ps = called_deep to ps
weak Sign text from to ps = one_sign_deep ps
weak Yielded text from to ps = yielded_deep from to ps
weak Bounds text from to ps = bounded_deep ps
weak Slice text from to ps = slice_deep from to ps
weak Sliced text from to ps = sliced_deep from to ps
weak Parameter text from to ps = parameter_deep [] from to ps
weak SignedParameter text from to ps = parameter_deep text from to ps

strict : (b : Builder) (text : List ℕ) (from to : ℕ) (ps : List Part) → strong b ≡ true → depth_all ps < depth_all (made b text from to ps)
strict (Over kind) text from to ps h = over_deep kind [] from to ps
strict (Signed kind) text from to ps h = over_deep kind text from to ps
strict (Lacking kind) text from to ps h = lacking_deep kind [] to ps
strict (SignedLacking kind) text from to ps h = lacking_deep kind text to ps
strict Chain text from to ps h = true_false false h refl
strict Joint text from to ps h = true_false false h refl
strict Further text from to ps h = true_false false h refl
strict Clauses text from to ps h = true_false false h refl
strict Grouped text from to ps h = true_false false h refl
strict Listed text from to ps h = true_false false h refl
strict ListOf text from to ps h = true_false false h refl
strict Braced text from to ps h = true_false false h refl
strict Entry text from to ps h = true_false false h refl
strict PairEntry text from to ps h = true_false false h refl
strict Undecided text from to ps h = true_false false h refl
strict Lambda text from to ps h = lambda_deep from to ps
strict Conditional text from to ps h = true_false false h refl
strict Compared text from to ps h = true_false false h refl
strict Joined text from to ps h = true_false false h refl
strict Called text from to ps h = true_false false h refl
strict Sign text from to ps h = true_false false h refl
strict Yielded text from to ps h = true_false false h refl
strict Bounds text from to ps h = true_false false h refl
strict Slice text from to ps h = true_false false h refl
strict Sliced text from to ps h = true_false false h refl
strict Parameter text from to ps h = true_false false h refl
strict SignedParameter text from to ps h = true_false false h refl

pub deepens : (ts : List Item) → Deepens strong depth_all (source ts)
deepens ts = record { left = in_left; right = in_right; weak = λ b i j ps. weak b (token_at ts i).text (token_at ts i).span.from (end_of ts j) ps; strict = λ b i j ps h. strict b (token_at ts i).text (token_at ts i).span.from (end_of ts j) ps h }
