-- The outermost expressions in a range are expressions, and lie in it.
use Rattle.std.proofs.Common.{◌≡◌, ℕ, ◌≤◌, arith, inl, inr, Bool, true, false, if◌then◌else◌, List, [], ◌∷◌, refl, sym, subst}
use Rattle.std.specs.Prelude.{IsTrue, ◌&&◌, nat_le}
use Rattle.std.proofs.lemmas.Bool.{leb-true}
use Rattle.std.specs.List.{flat_map}
use Rattle.node_tree.specs.declared.node.Node.{Node}
use Rattle.node_tree.specs.declared.span.Span.{Span}
use Rattle.node_tree.specs.Kinds.{is_expression}
use Rattle.node_tree.specs.Numbers.{Numbered, pre_at}
use Rattle.node_tree.specs.Tree.{pre_of, kids_of, kind_of, span_of}
use Rattle.graph_form.specs.Sets.{Among}
use Rattle.taint_form.specs.Expressions.{outermost, lies_in}
use Rattle.taint_form.proofs.Folds.{outermost_is}
use Rattle.taint_plan.specs.SinkGoals.{outermost_among}
use Rattle.taint_tables.specs.declared.hull.Hull.{Hull}
use Rattle.taint_tables.specs.Hulls.{Meets, MeetsAll}
use Rattle.taint_plan.proofs.RowLists.{both_of}
use Rattle.taint_plan.proofs.Below.{among_flat, by_kids, pre_here, pre_kid, IsBelow, stands_below}

-- an expression in the tree that lies in the range
pub record IsIn (range : Span) (n e : Node) : Type 0 where
  pub below : Among (pre_of n) e
  pub expression : IsTrue (is_expression (kind_of e))
  pub lies : IsTrue (lies_in range (span_of e))

chosen : (range : Span) (n e : Node) (below : List Node) → ((x : Node) → Among below x → IsIn range n x) → (b : Bool) → (is_expression (kind_of n) && lies_in range (span_of n)) ≡ b → Among (if b then n ∷ [] else below) e → IsIn range n e
chosen range n e below rest false is there = rest e there
chosen range n e below rest true is there =
    let both = both_of (is_expression (kind_of n)) (lies_in range (span_of n)) is in
    let here : IsIn range n n = record { below = pre_here n; expression = both.0; lies = both.1 } in
    elim there [ inl q ↦ subst (IsIn range n) q here | inr none ↦ absurd none ]

pub outermost_in : (range : Span) (n e : Node) → Among (outermost range n) e → IsIn range n e
outermost_in range n e = by_kids (λ z. (x : Node) → Among (outermost range z) x → IsIn range z x) (λ z ih x there.
    let P : List Node → Type 0 = λ ns. Among ns x in
    chosen range z x (flat_map (outermost range) (kids_of z)) (λ y among.
    let (k, kid, is) = (among_flat (outermost range) (kids_of z) y).0 among in
    let r = ih k kid y is in
    record { below = pre_kid z k y kid r.below; expression = r.expression; lies = r.lies }
    ) (is_expression (kind_of z) && lies_in range (span_of z)) refl (subst P (outermost_is range z) there)) n e

-- the same in some nodes
pub outermost_below : (range : Span) (tops : List Numbered) (e : Node) → Among (outermost_among range tops) e → IsBelow tops e × IsTrue (is_expression (kind_of e)) × IsTrue (lies_in range (span_of e))
outermost_below range tops e there =
    let (top, among, is) = (among_flat (λ (top : Numbered). outermost range top.node) tops e).0 there in
    let r = outermost_in range top.node e is in
    ((top, among, r.below), r.expression, r.lies)

le_of : (a b : ℕ) → nat_le a b ≡ true → a ≤ b
le_of a b e = leb-true a b e

-- a range that holds an outermost expression meets each hull that all the expressions meet
pub met : (hull : Hull) (range : Span) (tops : List Numbered) (e : Node) → MeetsAll hull (flat_map pre_at tops) → Among (outermost_among range tops) e → Meets hull range
met hull range tops e all there =
    let (below, expression, lies) = outermost_below range tops e there in
    let (s, among, same) = stands_below tops e below in
    let P : Node → Type 0 = λ n. IsTrue (is_expression (kind_of n)) in
    let Q : Node → Type 0 = λ n. Meets hull (span_of n) in
    let m = subst Q same (all s among (subst P (sym same) expression)) in
    let both = both_of (nat_le range.from (span_of e).from) (nat_le (span_of e).to range.to) lies in
    (omega (arith, le_of range.from (span_of e).from both.0, m.0), omega (arith, le_of (span_of e).to range.to both.1, m.1))
