use Rattle.std.proofs.Common.{◌≡◌, ◌-◌, ◌++◌, length, drop, ap, sym, ◌∙◌}
use Rattle.std.proofs.lemmas.List.{length-map}
use Rattle.node_pool.specs.Spots.{seen, all_seen}
use Rattle.assignments.specs.declared.assignment.Manner.TheVariants.{Statement}
use Rattle.assignments.specs.Assignments.{assigned, value_of, names_in}
use Rattle.assignments.specs.Seen.{all_targets, all_assignments}
use Rattle.assignments.proofs.Ends.{last_seen, front_seen}
use Rattle.assignments.proofs.node_assignment.add_chain.Goals as goal

pub returns : goal.returns
returns c =
    let kids = c.args.kids.now in
    let last = c.saturating_sub-last.result in
    let old = all_assignments c.args.into.now in
    let same : last ≡ length (all_seen kids) - 1 = c.saturating_sub-last.ensures ∙ ap (λ n. n - 1) (sym (length-map kids seen)) in
    let value = c.value.ensures ∙ ap value_of (last_seen seen kids last same) in
    let names = c.in_ok-names.ensures ∙ ap names_in (front_seen seen kids last same) in
    c.in_ok-add_assigned.ensures ∙ ap (λ v. old ++ assigned Statement v (all_targets c.in_ok-names.field-0)) value ∙ ap (λ ns. old ++ assigned Statement (value_of (drop (length (all_seen kids) - 1) (all_seen kids))) ns) names
