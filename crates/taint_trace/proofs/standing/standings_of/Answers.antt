use Rattle.std.proofs.Common.{◌≡◌, ◌↔◌, ◌⊎◌, List, subst, ◌∙◌}
use Rattle.std.proofs.lemmas.List.{take_all}
use Rattle.node_tree.specs.declared.span.Span.{Span}
use Rattle.graph_form.specs.Sets.{Among}
use Rattle.unit_names.specs.declared.scope.Scope.{Scope}
use Rattle.taint_trace.specs.declared.standing.Standing.{Standing}
use Rattle.taint_trace.specs.Standings.{StandsIn}
use Rattle.taint_trace.proofs.Standings.{unit_more}
use Rattle.taint_trace.proofs.standing.standings_of.Goals as goal

pub loop-place-init : goal.loop-place-init
loop-place-init c s = (
  λ h. (let P : List Standing → Type 0 = λ xs. Among xs s in absurd (subst P c.new-all.ensures.items h)),
  λ h. absurd (let e = h.scope_is in cc),
)

pub loop-place-preserved : goal.loop-place-preserved
loop-place-preserved c =
    let unit = c.index-units-place.result in
    let i = c.loop-place.place in
    let old = c.loop-place.all.items in
    let new = c.add_standings.new.into.items in
    let More : List Span → Type 0 = λ spans. (s : Standing) → Among new s ↔ (Among old s ⊎ ((s.place ≡ i) × Among spans s.span)) in
    unit_more c.args.tree.now c.args.units.now i unit old new c.loop-place-test.true c.index-units-place.is c.loop-place.invariant (subst More (c.as_slice.ensures ∙ c.in_ok-spans.ensures) c.in_ok-add_standings.ensures)

pub returns : goal.returns
returns c s =
    let P : List Scope → Type 0 = λ xs. Among c.loop-place.all.items s ↔ StandsIn c.args.tree.now xs s in
    subst P (take_all c.loop-place.place c.args.units.now c.loop-place-test.false) (c.loop-place.invariant s)
