-- The order of states tells them apart, and chains.
use Rattle.std.proofs.Common.{◌≡◌, List, Bool, true, false, refl, ap, ◌∙◌}
use Rattle.std.specs.declared.cmp.Ordering.{Ordering}
use Rattle.std.specs.declared.cmp.Ordering.TheVariants.{Equal}
use Rattle.std.specs.Ordering.{ordering_then, ordering_reverse, bool_cmp}
use Rattle.std.specs.Cmp.{IsTotalOrder}
use Rattle.node_tree.specs.declared.span.Span.{Span}
use Rattle.node_tree.specs.Span.{span_cmp}
use Rattle.node_tree.proofs.Orders.{span_order, then_first, then_second, then_flip}
use Rattle.meta_bind.specs.declared.bound.Bound.{Bound}
use Rattle.meta_bind.specs.Bounds.{binding_cmp}
use Rattle.meta_bind.proofs.BindingOrder.{binding_order}
use Rattle.meta_bind.proofs.Chains.{Chains, then_follows, span_chains, binding_chains}
use Rattle.member_join.specs.declared.state.State.{State}
use Rattle.member_join.specs.Joins.{state_cmp}
use Rattle.sorted_sets.specs.Orders.{total_of}

bool_flip : (x y : Bool) → bool_cmp x y ≡ ordering_reverse (bool_cmp y x)
bool_flip true true = refl
bool_flip true false = refl
bool_flip false true = refl
bool_flip false false = refl

bool_same : (x y : Bool) → bool_cmp x y ≡ Equal → x ≡ y
bool_same true true e = refl
bool_same true false e = absurd cc
bool_same false true e = absurd cc
bool_same false false e = refl

bool_chains : Chains bool_cmp
bool_chains true true z = refl
bool_chains true false z = tt
bool_chains false true true = refl
bool_chains false true false = tt
bool_chains false false z = refl

abbrev bindings_cmp : State → State → Ordering
bindings_cmp s t = ordering_then (binding_cmp s.plain t.plain) (binding_cmp s.inside t.inside)

abbrev marks_cmp : State → State → Ordering
marks_cmp s t = ordering_then (bool_cmp s.marked t.marked) (bindings_cmp s t)

bindings_flip : (s t : State) → bindings_cmp s t ≡ ordering_reverse (bindings_cmp t s)
bindings_flip s t = then_flip _ _ (binding_cmp t.plain s.plain) (binding_cmp t.inside s.inside) (binding_order.flip s.plain t.plain) (binding_order.flip s.inside t.inside)

marks_flip : (s t : State) → marks_cmp s t ≡ ordering_reverse (marks_cmp t s)
marks_flip s t = then_flip _ _ (bool_cmp t.marked s.marked) (bindings_cmp t s) (bool_flip s.marked t.marked) (bindings_flip s t)

state_flip : (s t : State) → state_cmp s t ≡ ordering_reverse (state_cmp t s)
state_flip s t = then_flip _ _ (span_cmp t.range s.range) (marks_cmp t s) (span_order.flip s.range t.range) (marks_flip s t)

pub state_apart : (s t : State) → state_cmp s t ≡ Equal → s ≡ t
state_apart s t e =
    let range = span_order.same s.range t.range (then_first (span_cmp s.range t.range) (marks_cmp s t) e) in
    let rest = then_second (span_cmp s.range t.range) (marks_cmp s t) e in
    let marked = bool_same s.marked t.marked (then_first (bool_cmp s.marked t.marked) (bindings_cmp s t) rest) in
    let last = then_second (bool_cmp s.marked t.marked) (bindings_cmp s t) rest in
    let plain = binding_order.same s.plain t.plain (then_first (binding_cmp s.plain t.plain) (binding_cmp s.inside t.inside) last) in
    let inside = binding_order.same s.inside t.inside (then_second (binding_cmp s.plain t.plain) (binding_cmp s.inside t.inside) last) in
    let f1 : Span → State = λ x. record { range = x; marked = s.marked; plain = s.plain; inside = s.inside } in
    let f2 : Bool → State = λ x. record { range = t.range; marked = x; plain = s.plain; inside = s.inside } in
    let f3 : List Bound → State = λ x. record { range = t.range; marked = t.marked; plain = x; inside = s.inside } in
    let f4 : List Bound → State = λ x. record { range = t.range; marked = t.marked; plain = t.plain; inside = x } in
    ap f1 range ∙ ap f2 marked ∙ ap f3 plain ∙ ap f4 inside

state_chains : Chains state_cmp
state_chains s t u =
    then_follows (span_cmp s.range t.range) (span_cmp t.range u.range) (span_cmp s.range u.range) (marks_cmp s t) (marks_cmp t u) (marks_cmp s u) (span_chains s.range t.range u.range)
    (then_follows (bool_cmp s.marked t.marked) (bool_cmp t.marked u.marked) (bool_cmp s.marked u.marked) (bindings_cmp s t) (bindings_cmp t u) (bindings_cmp s u) (bool_chains s.marked t.marked u.marked)
    (then_follows (binding_cmp s.plain t.plain) (binding_cmp t.plain u.plain) (binding_cmp s.plain u.plain) (binding_cmp s.inside t.inside) (binding_cmp t.inside u.inside) (binding_cmp s.inside u.inside) (binding_chains s.plain t.plain u.plain) (binding_chains s.inside t.inside u.inside)))

pub state_total : IsTotalOrder state_cmp
state_total = total_of state_cmp (record { flip = state_flip; same = state_apart }) state_chains
