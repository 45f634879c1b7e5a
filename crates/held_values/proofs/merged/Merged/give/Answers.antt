use Rattle.std.proofs.Common.{◌↔◌, ◌⊎◌, inl, inr, ℕ, List, get_or, subst, arith}
use Rattle.std.proofs.lemmas.List.{take_all}
use Rattle.graph_form.specs.Sets.{Among}
use Rattle.graph_form.proofs.Amongs.{among_at, among_more}
use Rattle.flow_reach.proofs.Steps.{more}
use Rattle.held_values.specs.Merged.{GivesAt}
use Rattle.held_values.proofs.Concerns.{got_read, concerned_below, gives_more}
use Rattle.held_values.proofs.merged.Merged.give.Goals as goal

pub index-requires : goal.index-requires
index-requires c = omega (arith, concerned_below c.args.self.now.assigns.items c.args.name _ (c.requires _ (among_at c.args.places.now c.loop-place.place-index 0 c.loop-place-test.true)), c.args.self.now.assigns.ok.0)

pub loop-place-init : goal.loop-place-init
loop-place-init c target = (λ h. inl h, λ h. elim h [ inl o ↦ o | inr g ↦ absurd g.1 ])

pub loop-place-preserved : goal.loop-place-preserved
loop-place-preserved c target =
    let place = get_or c.args.places.now c.loop-place.place-index 0 in
    let lt = concerned_below c.args.self.now.assigns.items c.args.name place (c.requires place (among_at c.args.places.now c.loop-place.place-index 0 c.loop-place-test.true)) in
    let got = got_read c.args.self.now.assigns.items place _ lt c.index.ensures in
    more _ _ _ _ _ _ (c.in_ok-push_given.ensures target) (c.loop-place.invariant target) (gives_more c.args.self.now.assigns.items _ _ place _ c.args.name c.args.value target.name target.value got (among_more c.args.places.now c.loop-place.place-index 0 c.loop-place-test.true))

pub returns : goal.returns
returns c target =
    let P : List ℕ → Type 0 = λ ps. Among c.loop-place.targets.items target ↔ (Among c.args.targets.now.items target ⊎ GivesAt c.args.self.now.assigns.items ps c.args.name c.args.value target.name target.value) in
    subst P (take_all c.loop-place.place-index c.args.places.now c.loop-place-test.false) (c.loop-place.invariant target)
