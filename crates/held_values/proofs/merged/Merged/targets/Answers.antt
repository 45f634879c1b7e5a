use Rattle.std.proofs.Common.{◌≡◌, ◌⊎◌, ◌↔◌, inl, inr, ℕ, List, sym, subst, refl}
use Rattle.graph_form.specs.Sets.{Among}
use Rattle.graph_form.proofs.Amongs.{among_push}
use Rattle.flow_reach.proofs.Steps.{both_ways}
use Rattle.held_values.specs.declared.targets.Target.{Target}
use Rattle.held_values.specs.Merged.{IsToAt}
use Rattle.held_values.proofs.Concerns.{looked_up, all_given, turns_assigned, turns_kept}
use Rattle.held_values.proofs.merged.Merged.targets.Goals as goal

pub give-requires : goal.give-requires
give-requires c place among = (looked_up c.args.self.now.assigns.items c.args.self.now.index.items c.deref.result.now c.only_seconds.new.into.items c.deref-2.result.now c.args.name c.requires c.deref.ensures.value c.in_ok-only_seconds.ensures c.deref-2.ensures.value place).0 among

pub assigns_to-requires : goal.assigns_to-requires
assigns_to-requires c place among = (looked_up c.args.self.now.assigns.items c.args.self.now.index.items c.deref.result.now c.only_seconds.new.into.items c.deref-3.result.now c.args.name c.requires c.deref.ensures.value c.in_ok-only_seconds.ensures c.deref-3.ensures.value place).0 among

pub returns-in_ok-push : goal.returns-in_ok-push
returns-in_ok-push c target =
    let assigns = c.args.self.now.assigns.items in
    let places = c.only_seconds.new.into.items in
    let exact = looked_up assigns c.args.self.now.index.items c.deref.result.now places places c.args.name c.requires c.deref.ensures.value c.in_ok-only_seconds.ensures refl in
    let given = all_given assigns places c.deref-2.result.now c.args.name c.args.value _ c.give.new.targets.items c.clear.ensures.items c.deref-2.ensures.value c.in_ok-give.ensures target in
    let one : Target = record { name = c.args.name; value = c.args.value } in
    let none : IsToAt assigns places c.args.name → ⊥ = λ h.
    let P : List ℕ → Type 0 = λ ps. IsToAt assigns ps c.args.name in
    let yes = c.assigns_to.ensures.1 (subst P (sym c.deref-3.ensures.value) h) in
    let no_it = c.if-not-assigns_to.true in
    cc in
    let kept = turns_kept assigns places c.args.name c.args.value exact target none in
    let P : List Target → Type 0 = λ ts. Among ts target ↔ (Among c.give.new.targets.items target ⊎ (one ≡ target)) in
    let pushed = subst P (sym c.in_ok-push.ensures.items) (among_push c.give.new.targets.items one target) in (
      λ h. kept.0 (elim (pushed.0 h) [ inl o ↦ inl (given.0 o) | inr e ↦ inr e ]),
      λ t. pushed.1 (elim (kept.1 t) [ inl g ↦ inl (given.1 g) | inr e ↦ inr e ]),
    )

pub returns-else-not-assigns_to : goal.returns-else-not-assigns_to
returns-else-not-assigns_to c target =
    let assigns = c.args.self.now.assigns.items in
    let places = c.only_seconds.new.into.items in
    let exact = looked_up assigns c.args.self.now.index.items c.deref.result.now places places c.args.name c.requires c.deref.ensures.value c.in_ok-only_seconds.ensures refl in
    let given = all_given assigns places c.deref-2.result.now c.args.name c.args.value _ c.give.new.targets.items c.clear.ensures.items c.deref-2.ensures.value c.in_ok-give.ensures target in
    let to : IsToAt assigns places c.args.name = let P : List ℕ → Type 0 = λ ps. IsToAt assigns ps c.args.name in subst P c.deref-3.ensures.value (c.assigns_to.ensures.0 c.if-not-assigns_to.false) in
    both_ways _ _ _ given (turns_assigned assigns places c.args.name c.args.value exact target.name target.value to)
