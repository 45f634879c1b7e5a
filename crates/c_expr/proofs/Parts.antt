-- One part more behind others.
use Rattle.std.proofs.Common.{◌≡◌, ℕ, List, [], ◌∷◌, ◌++◌, refl, ap, arith}
use Rattle.std.specs.Prelude.{max}
use Rattle.c_expr.specs.declared.part.Part.{Part}
use Rattle.c_expr.specs.Build.{nodes, tallest, settled, settled_all}

pub settled_more : (at : ℕ) (ps : List Part) (p : Part) → settled_all at (nodes (ps ++ p ∷ [])) ≡ settled_all at (nodes ps) ++ settled at p.node ∷ []
settled_more at [] p = refl
settled_more at (q ∷ ps) p = ap (λ ns. settled at q.node ∷ ns) (settled_more at ps p)

pub tallest_more : (ps : List Part) (p : Part) → tallest (ps ++ p ∷ []) ≡ max (tallest ps) p.depth
tallest_more [] p = omega arith
tallest_more (q ∷ ps) p = omega (arith, tallest_more ps p)
