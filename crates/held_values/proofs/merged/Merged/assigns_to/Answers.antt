use Rattle.std.proofs.Common.{inl, inr, refl, ℕ, List, get_or, subst, arith}
use Rattle.std.proofs.lemmas.List.{take_all}
use Rattle.graph_form.proofs.Amongs.{among_at, among_more}
use Rattle.held_values.specs.Merged.{IsToAt}
use Rattle.held_values.proofs.Concerns.{got_read, concerned_below, to_more}
use Rattle.held_values.proofs.merged.Merged.assigns_to.Goals as goal

pub index-requires : goal.index-requires
index-requires c = omega (arith, concerned_below c.args.self.now.assigns.items c.args.name _ (c.requires _ (among_at c.args.places.now c.loop-place.place-index 0 c.loop-place-test.true)), c.args.self.now.assigns.ok.0)

pub loop-place-init : goal.loop-place-init
loop-place-init c h = h.1

pub returns-then-index-name : goal.returns-then-index-name
returns-then-index-name c =
    let place = get_or c.args.places.now c.loop-place.place-index 0 in
    let among = among_at c.args.places.now c.loop-place.place-index 0 c.loop-place-test.true in
    let lt = concerned_below c.args.self.now.assigns.items c.args.name place (c.requires place among) in
    let got = got_read c.args.self.now.assigns.items place _ lt c.index.ensures in
    let found : IsToAt c.args.self.now.assigns.items c.args.places.now c.args.name = (place, among, _, got, c.if-index-name.true) in
    (λ _. found, λ _. refl)

pub loop-place-preserved : goal.loop-place-preserved
loop-place-preserved c h =
    let place = get_or c.args.places.now c.loop-place.place-index 0 in
    let lt = concerned_below c.args.self.now.assigns.items c.args.name place (c.requires place (among_at c.args.places.now c.loop-place.place-index 0 c.loop-place-test.true)) in
    let got = got_read c.args.self.now.assigns.items place _ lt c.index.ensures in
    elim ((to_more c.args.self.now.assigns.items _ _ place _ c.args.name got (among_more c.args.places.now c.loop-place.place-index 0 c.loop-place-test.true)).0 h) [
      | inl o ↦ c.loop-place.invariant o
      | inr e ↦ c.if-index-name.false e
    ]

pub returns : goal.returns
returns c =
    let P : List ℕ → Type 0 = λ ps. IsToAt c.args.self.now.assigns.items ps c.args.name → ⊥ in
    let none = subst P (take_all c.loop-place.place-index c.args.places.now c.loop-place-test.false) c.loop-place.invariant in
    (λ h. absurd cc, λ a. absurd (none a))
