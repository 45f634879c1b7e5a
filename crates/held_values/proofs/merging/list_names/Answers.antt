use Rattle.std.proofs.Common.{◌≡◌, ◌↔◌, ◌⊎◌, inl, inr, ℕ, List, get_or, sym, subst}
use Rattle.std.proofs.lemmas.List.{take_all}
use Rattle.graph_form.specs.Sets.{Among}
use Rattle.graph_form.proofs.Amongs.{among_more, among_push}
use Rattle.flow_reach.proofs.Steps.{more}
use Rattle.held_values.specs.declared.assign.Assign.{Assign}
use Rattle.held_values.specs.declared.assign.Source.TheVariants.{Sets}
use Rattle.held_values.specs.Merged.{Assigns}
use Rattle.held_values.proofs.Nodes.{assigns_more}
use Rattle.held_values.proofs.merging.list_names.Goals as goal

abbrev none : Assign
none = record { name = 0; source = Sets 0 }

pub loop-assign-init : goal.loop-assign-init
loop-assign-init c name = (λ h. inl h, λ h. elim h [ inl o ↦ o | inr a ↦ absurd a.1 ])

pub loop-assign-preserved : goal.loop-assign-preserved
loop-assign-preserved c name =
    let x = get_or c.args.node.now c.loop-assign.assign-index none in
    let P : List ℕ → Type 0 = λ ns. Among ns name ↔ (Among c.loop-assign.names.items name ⊎ (x.name ≡ name)) in
    more _ _ _ _ _ _ (subst P (sym c.in_ok-push.ensures.items) (among_push c.loop-assign.names.items x.name name)) (c.loop-assign.invariant name) (assigns_more _ _ x name (among_more c.args.node.now c.loop-assign.assign-index none c.loop-assign-test.true))

pub returns : goal.returns
returns c name =
    let P : List Assign → Type 0 = λ xs. Among c.loop-assign.names.items name ↔ (Among c.args.names.now.items name ⊎ Assigns xs name) in
    subst P (take_all c.loop-assign.assign-index c.args.node.now c.loop-assign-test.false) (c.loop-assign.invariant name)
