use Rattle.std.proofs.Common.{[], ◌∷◌, ◌++◌, map, take, get_or, sym, ◌∙◌, ap}
use Rattle.std.proofs.lemmas.List.{take_more, take_all, map_push}
use Rattle.graph_form.proofs.Amongs.{among_at}
use Rattle.held_values.specs.declared.assign.Assign.{Assign}
use Rattle.held_values.specs.declared.assign.Source.TheVariants.{Sets}
use Rattle.held_values.specs.Merged.{assign_before}
use Rattle.held_values.proofs.merging.resolve.Goals as goal

abbrev none : Assign
none = record { name = 0; source = Sets 0 }

pub resolved-requires : goal.resolved-requires
resolved-requires c = (c.requires _ (among_at c.args.node.now c.loop-assign.assign-index none c.loop-assign-test.true)).copied

pub loop-assign-preserved : goal.loop-assign-preserved
loop-assign-preserved c =
    let f = assign_before c.args.sources.now in
    let i = c.loop-assign.assign-index in
    let x = get_or c.args.node.now i none in
    c.in_ok-push.ensures.items
    ∙ ap (λ s. c.loop-assign.taken.items ++ record { name = x.name; source = s } ∷ []) c.resolved.ensures
    ∙ ap (λ xs. xs ++ f x ∷ []) c.loop-assign.invariant
    ∙ sym (ap (map f) (take_more c.args.node.now i none c.loop-assign-test.true) ∙ map_push f (take i c.args.node.now) x)

pub returns : goal.returns
returns c = c.loop-assign.invariant ∙ ap (map (assign_before c.args.sources.now)) (take_all c.loop-assign.assign-index c.args.node.now c.loop-assign-test.false)
