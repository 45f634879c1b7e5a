-- Spans among others.
use Rattle.std.proofs.Common.{◌≡◌, Bool, true, false, cond, List, [], ◌∷◌, ◌++◌, refl, ap, ◌∙◌}
use Rattle.std.specs.Prelude.{◌||◌}
use Rattle.node_tree.specs.declared.span.Span.{Span}
use Rattle.taint_form.specs.Expressions.{has_span, same_span}

by_cases : (b c : Bool) → (c || (b || false)) ≡ cond b true c
by_cases true true = refl
by_cases true false = refl
by_cases false true = refl
by_cases false false = refl

or_assoc : (a b c : Bool) → (a || (b || c)) ≡ ((a || b) || c)
or_assoc true b c = refl
or_assoc false b c = refl

-- one span more
pub has_push : (xs : List Span) (y s : Span) → has_span (xs ++ y ∷ []) s ≡ cond (same_span y s) true (has_span xs s)
has_push xs y s = app xs ∙ by_cases (same_span y s) (has_span xs s)
  where
    app : (zs : List Span) → has_span (zs ++ y ∷ []) s ≡ (has_span zs s || (same_span y s || false))
    app [] = refl
    app (z ∷ zs) = ap (λ b. same_span z s || b) (app zs) ∙ or_assoc (same_span z s) (has_span zs s) (same_span y s || false)
