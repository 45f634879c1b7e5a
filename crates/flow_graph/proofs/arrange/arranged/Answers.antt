use Rattle.std.proofs.Common.{arith, ap, sym, subst, ◌∙◌, ◌≡◌, ◌↔◌, ◌<◌, ◌^◌, List, ℕ, length, map}
use Rattle.graph_form.specs.Sets.{Among}
use Rattle.flow_graph.specs.Keys.{IsCode, Ascends, decoded, edge_of}
use Rattle.flow_graph.proofs.Orders.{is_graph}
use Rattle.flow_graph.proofs.arrange.arranged.Goals as goal

pub codes_of-requires-clause-ascends : goal.codes_of-requires-clause-ascends
codes_of-requires-clause-ascends c = let P : List ℕ → Type 0 = λ xs. Ascends xs in subst P (sym c.deref.ensures.value) c.in_ok-keys.ensures.ascends

pub decoded_points-requires : goal.decoded_points-requires
decoded_points-requires c k among = let P : List ℕ → Type 0 = λ xs. Among xs k in c.in_ok-keys_of.ensures.small k ((c.in_ok-keys.ensures.same k).0 (subst P c.deref-2.ensures.value among))

pub returns : goal.returns
returns c =
    let keys = c.in_ok-keys.keys.items in
    let few : length keys < 2 ^ 32 = omega (arith, c.if-len-gt4294967295.false, c.len.ensures) in
    let K : List ℕ → Type 0 = λ ks. (x : ℕ) → Among c.in_ok-codes_of.field-0.items x ↔ IsCode ks c.args.transfers.now x in
    let found = subst K c.deref.ensures.value c.in_ok-codes_of.ensures in
    is_graph c.args.points.now c.args.transfers.now keys c.in_ok-keys_of.field-0.items c.in_ok-keys_of.ensures.keys c.in_ok-keys.ensures.same c.in_ok-keys.ensures.ascends few c.in_ok-codes.codes.items c.in_ok-codes_of.field-0.items found c.in_ok-codes.ensures.same c.in_ok-codes.ensures.ascends c.in_ok-decoded_points.field-0 c.in_ok-decoded_edges.field-0 (c.in_ok-decoded_points.ensures ∙ ap (map decoded) c.deref-2.ensures.value) (c.in_ok-decoded_edges.ensures ∙ ap (map edge_of) c.deref-3.ensures.value)
