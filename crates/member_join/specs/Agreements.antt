-- Bindings that agree with what is bound, and ranges with a byte.
use Rattle.std.specs.Prelude.{List, Bool, nat_lt}
use Rattle.node_tree.specs.declared.span.Span.{Span}
use Rattle.meta_bind.specs.declared.bound.Bound.{Bound}
use Rattle.meta_bind.specs.Bounds.{Agree}

-- the binding agrees with both
abbrev pub AgreesWith : List Bound → List Bound → List Bound → Type 0
AgreesWith plain inside b = Agree plain b × Agree inside b

abbrev pub has_bytes : Span → Bool
has_bytes a = nat_lt a.from a.to
