use Rattle.std.proofs.Common.{[], ◌∷◌, ◌++◌, map, take, get_or, sym, ◌∙◌, ap}
use Rattle.std.proofs.lemmas.List.{take_more, take_all, map_push}
use Rattle.graph_form.proofs.Amongs.{among_at}
use Rattle.held_values.specs.Merged.{assign_to}
use Rattle.held_values.proofs.merging.gather.Goals as goal

pub bounds-sources-name : goal.bounds-sources-name
bounds-sources-name c = c.requires _ (among_at c.args.names.now c.loop-name.name-index 0 c.loop-name-test.true)

pub loop-name-preserved : goal.loop-name-preserved
loop-name-preserved c =
    let f = assign_to c.args.sources.now in
    let i = c.loop-name.name-index in
    let x = get_or c.args.names.now i 0 in
    c.in_ok-push.ensures.items
    ∙ ap (λ xs. xs ++ f x ∷ []) c.loop-name.invariant
    ∙ sym (ap (map f) (take_more c.args.names.now i 0 c.loop-name-test.true) ∙ map_push f (take i c.args.names.now) x)

pub returns : goal.returns
returns c = c.loop-name.invariant ∙ ap (map (assign_to c.args.sources.now)) (take_all c.loop-name.name-index c.args.names.now c.loop-name-test.false)
