use Rattle.std.proofs.Common.{◌↔◌, ℕ, List, subst, arith}
use Rattle.graph_form.specs.Sets.{Among}
use Rattle.flow_reach.specs.Adds.{Coded}
use Rattle.flow_reach.proofs.Steps.{both_ways, either_way}
use Rattle.held_values.specs.declared.assign.Assign.{Assign}
use Rattle.held_values.specs.declared.assign.Source.TheVariants.{Sets}
use Rattle.held_values.proofs.Concerns.{got_at, concerned_below, concerns_more}
use Rattle.held_values.proofs.index.index_of.Goals as goal

pub loop-place-init : goal.loop-place-init
loop-place-init c name at = (λ h. let P : List (ℕ × ℕ) → Type 0 = λ ps. Among ps (name, at) in absurd (subst P c.new-pairs.ensures.items h), λ h. absurd (omega (arith, h.0)))

pub loop-place-preserved : goal.loop-place-preserved
loop-place-preserved c name at =
    let d : Assign = record { name = 0; source = Sets 0 } in
    let got = got_at c.args.assigns.now c.loop-place.place d c.loop-place-test.true in
    either_way _ _ _ _ _ _ (c.in_ok-list_place.ensures name at) (c.loop-place.invariant name at) (λ h. h, λ h. h) (concerns_more c.args.assigns.now c.loop-place.place name at _ got)

pub returns : goal.returns
returns c =
    let pairs = c.loop-place.pairs.items in
    let P : List (ℕ × ℕ) → Type 0 = λ ps. (f h : ℕ) → Coded c.in_ok-index.index.items f h ↔ Among ps (f, h) in
    let same = subst P c.deref.ensures.value c.in_ok-index.ensures.same in
    record {
      exact = λ name place. both_ways _ _ _ (same name place) (both_ways _ _ _ (c.loop-place.invariant name place) (
        λ h. h.1,
        λ h. (omega (arith, concerned_below c.args.assigns.now name place h, c.loop-place-test.false), h),
      ));
      ascends = c.in_ok-index.ensures.ascends;
    }
