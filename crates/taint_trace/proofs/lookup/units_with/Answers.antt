use Rattle.std.proofs.Common.{ℕ, List, map, ap, ◌∙◌}
use Rattle.std.proofs.lemmas.List.{take_all}
use Rattle.std.proofs.lemmas.List.Sorted.{IsNonDecreasingBy-from_sort}
use Rattle.taint_trace.specs.declared.standing.Standing.{Standing}
use Rattle.taint_trace.proofs.Standings.{places_are}
use Rattle.taint_trace.proofs.lookup.units_with.Goals as goal

pub returns-clause-exact : goal.returns-clause-exact
returns-clause-exact c =
    let found = c.with_span-found.result.now in
    let Places : List Standing → List ℕ = map (λ (s : Standing). s.place) in
    places_are c.args.span c.args.standings.now found c.loop-standing.places.items c.sort.new.self.items c.with_span-found.ensures (c.loop-standing.invariant ∙ ap Places (take_all c.loop-standing.standing-index found c.loop-standing-test.false))
    c.in_ok-sort.ensures.permutation

pub returns-clause-ordered : goal.returns-clause-ordered
returns-clause-ordered c = IsNonDecreasingBy-from_sort (λ x. x) _ c.in_ok-sort.ensures.sorted
