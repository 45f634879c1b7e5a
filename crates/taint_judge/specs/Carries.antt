-- What propagators carry on.
use Rattle.std.specs.Prelude.{List, [], ◌∷◌, ◌++◌, Option, Some}
use Rattle.std.specs.List.{flat_map}
use Rattle.node_tree.specs.declared.span.Span.{Span}
use Rattle.meta_bind.specs.declared.bound.Bound.{Bound}
use Rattle.meta_bind.specs.Bounds.{bound_at}
use Rattle.rule_form.specs.declared.rule.Propagator.{Propagator}
use Rattle.tree_match.specs.Members.{Member}
use Rattle.taint_tables.specs.declared.sets.Carry.{Carry}

-- from the one place to the other, if both are there
abbrev pub carry_between : Span → Option Bound → Option Bound → List Carry
carry_between range (Some from) (Some to) = record { range = range; source = from.span; target = to.span } ∷ []
carry_between range _ _ = []

-- what a propagator carries on at a member of its formula: from what the one name is bound to there to what the other is
abbrev pub carry_at : Propagator → Member → List Carry
carry_at p m = carry_between m.0 (bound_at p.source m.1) (bound_at p.target m.1)

-- the same for each propagator at the members of its formula
abbrev pub carries_in : List Propagator → List (List Member) → List Carry
carries_in [] each = []
carries_in (p ∷ ps) [] = []
carries_in (p ∷ ps) (members ∷ each) = flat_map (carry_at p) members ++ carries_in ps each
