-- Parts that are too deep are cut off, sooner or later.
use Rattle.std.proofs.Common.{◌≡◌, ℕ, suc, ◌<◌, ◌≤◌, List, [], ◌∷◌, refl, ap, sym, ◌∙◌, arith, Bool, true, false, inl, inr}
use Rattle.std.specs.Prelude.{max, leb, eqb, length, ◌&&◌, ◌⊎◌}
use Rattle.node_tree.specs.declared.node.Node.{Node}
use Rattle.node_tree.specs.declared.kind.Kind.{Kind}
use Rattle.node_tree.specs.declared.span.Span.{Span}
use Rattle.node_tree.specs.Tree.{kind_of, text_of, kids_of}
use Rattle.node_tree.proofs.Nodes.{made_kind, made_text, made_kids, made_span}
use Rattle.c_expr.specs.declared.part.Part.{Part}
use Rattle.c_expr.specs.Build.{node, nodes, tallest, settled, settled_all, may_be_bare, empty_at, over, grafted, cut, stub}

-- a part that is shallow enough stays, and another one doesn't
pub cut_shallow : (p : Part) → p.depth ≤ 500 → cut p ≡ p
unfolding cut
cut_shallow p h = rw yes refl
  where
    yes : leb p.depth 500 ≡ true
    yes = grind arith

pub cut_deep : (p : Part) → 500 < p.depth → cut p ≡ stub
unfolding cut
cut_deep p h = rw no refl
  where
    no : leb p.depth 500 ≡ false
    no = grind arith

pub either : (a : ℕ) → (a ≤ 500) ⊎ (500 < a)
either a = grind arith

both_deep : (p q : Part) → 500 < p.depth → 500 < q.depth → cut p ≡ cut q
both_deep p q h k = cut_deep p h ∙ sym (cut_deep q k)

-- ---- settled once or twice

abbrev is_bare : Node → Bool
is_bare n = may_be_bare (kind_of n) && eqb (length (kids_of n)) 0

abbrev bare : ℕ → Node → Node
bare at n = node (kind_of n) (text_of n) (kids_of n) (empty_at at)

settled_bare : (at : ℕ) (n : Node) → is_bare n ≡ true → settled at n ≡ bare at n
unfolding settled
settled_bare at n e = rw e refl

settled_other : (at : ℕ) (n : Node) → is_bare n ≡ false → settled at n ≡ n
unfolding settled
settled_other at n e = rw e refl

still_bare : (from : ℕ) (n : Node) → is_bare (bare from n) ≡ is_bare n
still_bare from n = rw (made_kind (kind_of n) (text_of n) (kids_of n) (empty_at from), made_kids (kind_of n) (text_of n) (kids_of n) (empty_at from)) refl

bare_bare : (at from : ℕ) (n : Node) → bare at (bare from n) ≡ bare at n
bare_bare at from n = rw (made_kind (kind_of n) (text_of n) (kids_of n) (empty_at from), made_text (kind_of n) (text_of n) (kids_of n) (empty_at from), made_kids (kind_of n) (text_of n) (kids_of n) (empty_at from)) refl

twice : (at from : ℕ) (n : Node) → settled at (settled from n) ≡ settled at n
twice at from n = by (is_bare n) refl
  where
    by : (b : Bool) → is_bare n ≡ b → settled at (settled from n) ≡ settled at n
    by true e = ap (settled at) (settled_bare from n e) ∙ settled_bare at (bare from n) (still_bare from n ∙ e) ∙ bare_bare at from n ∙ sym (settled_bare at n e)
    by false e = ap (settled at) (settled_other from n e)

twice_all : (at from : ℕ) (ns : List Node) → settled_all at (settled_all from ns) ≡ settled_all at ns
twice_all at from [] = refl
twice_all at from (n ∷ ns) = rw (twice at from n, twice_all at from ns) refl

-- ---- a node put over its first kid

deeper : (a b : ℕ) → max (suc a) (suc b) ≡ suc (max a b)
deeper a b = omega arith

abbrev whole : ℕ → Part → Kind → List ℕ → Span → List Part → Part
whole from t kind text span ps = record { node = node kind text (settled_all from (t.node ∷ nodes ps)) (record { from = from; to = span.to }); depth = suc (max t.depth (tallest ps)) }

grafted_over : (from : ℕ) (t : Part) (kind : Kind) (text : List ℕ) (span : Span) (ps : List Part) → grafted from t (over kind text span ps) ≡ whole from t kind text span ps
unfolding grafted over
grafted_over from t kind text span ps =
    let kids : List Node = settled_all span.from (nodes ps) in
    rw (made_kind kind text kids span, made_text kind text kids span, made_kids kind text kids span, made_span kind text kids span, twice_all from span.from (nodes ps), deeper t.depth (tallest ps)) refl

over_depth : (kind : Kind) (text : List ℕ) (span : Span) (ps : List Part) → (over kind text span ps).depth ≡ suc (tallest ps)
unfolding over
over_depth kind text span ps = refl

grafted_deep : (from : ℕ) (t p : Part) → p.depth ≤ (grafted from t p).depth
unfolding grafted
grafted_deep from t p = omega arith

pub graft_made : (from : ℕ) (t : Part) (kind : Kind) (text : List ℕ) (span : Span) (ps : List Part) → cut (grafted from t (cut (over kind text span ps))) ≡ cut (whole from t kind text span ps)
graft_made from t kind text span ps = elim (either (suc (tallest ps))) [
  | inl h ↦ ap (λ p. cut (grafted from t p)) (cut_shallow (over kind text span ps) (omega (arith, h, over_depth kind text span ps))) ∙ ap cut (grafted_over from t kind text span ps)
  | inr h ↦ ap (λ p. cut (grafted from t p)) (cut_deep (over kind text span ps) (omega (arith, h, over_depth kind text span ps))) ∙ both_deep (grafted from t stub) (whole from t kind text span ps) (omega (arith, grafted_deep from t stub)) (omega (arith, h))
]
