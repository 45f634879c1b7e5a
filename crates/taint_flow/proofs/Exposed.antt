-- What is exposed in a node stands in it, and is an expression.
use Rattle.std.proofs.Common.{◌≡◌, inl, inr, Bool, true, false, List, [], ◌∷◌, refl, subst}
use Rattle.std.specs.Prelude.{if◌then◌else◌, IsTrue}
use Rattle.std.specs.List.{flat_map}
use Rattle.node_tree.specs.declared.node.Node.{Node}
use Rattle.node_tree.specs.declared.span.Span.{Span}
use Rattle.node_tree.specs.Kinds.{is_expression}
use Rattle.node_tree.specs.Tree.{pre_of, kind_of, kids_of, span_of}
use Rattle.graph_form.specs.Sets.{Among}
use Rattle.graph_form.proofs.Amongs.{among_app}
use Rattle.taint_form.specs.Expressions.{exposed, shown, opens, has_span}
use Rattle.taint_form.proofs.Folds.{exposed_is}
use Rattle.taint_plan.proofs.Below.{among_flat, by_kids, pre_here, pre_kid}

shown_is : (spans : List Span) (n e : Node) → Among (shown spans n) e → Among (pre_of n) e × IsTrue (is_expression (kind_of e))
shown_is spans n e among = by (is_expression (kind_of n)) refl (has_span spans (span_of n)) among
  where
    by : (b : Bool) → is_expression (kind_of n) ≡ b → (c : Bool) → Among (if b then (if c then [] else n ∷ []) else []) e → Among (pre_of n) e × IsTrue (is_expression (kind_of e))
    by true q true none = absurd none
    by true q false (inl is) = let P : Node → Type 0 = λ x. Among (pre_of n) x × IsTrue (is_expression (kind_of x)) in subst P is (pre_here n, q)
    by true q false (inr none) = absurd none
    by false q c none = absurd none

opened : (b : Bool) (below : List Node) (e : Node) → Among (if b then below else []) e → Among below e
opened true below e more = more
opened false below e none = absurd none

pub exposed_below : (spans : List Span) (n e : Node) → Among (exposed spans n) e → Among (pre_of n) e × IsTrue (is_expression (kind_of e))
exposed_below spans n e = by_kids (λ x. Among (exposed spans x) e → Among (pre_of x) e × IsTrue (is_expression (kind_of e))) (λ x kids among.
    let P : List Node → Type 0 = λ xs. Among xs e in
    let below = flat_map (exposed spans) (kids_of x) in
    elim ((among_app (shown spans x) (if opens spans x then below else []) e).0 (subst P (exposed_is spans x) among)) [
      | inl here ↦ shown_is spans x e here
      | inr more ↦ (let (k, kid, there) = (among_flat (exposed spans) (kids_of x) e).0 (opened (opens spans x) below e more) in let r = kids k kid there in (pre_kid x k e kid r.0, r.1))
    ]) n
