use Rattle.std.proofs.Common.{map, ◌∙◌}
use Rattle.std.proofs.lemmas.List.{length-map}
use Rattle.tree_match.specs.Placed.{IsPlaced}
use Rattle.taint_judge.specs.Lists.{formula_of}
use Rattle.taint_judge.proofs.Gathering.{each_length, sets_are, union_all, ranges_lie}
use Rattle.taint_judge.proofs.sets.sets_of.Goals as goal

pub joined-requires : goal.joined-requires
joined-requires c =
    let ps = c.args.rule.now.propagators in
    each_length c.args.leaves.now c.args.rx.now c.args.view.now.bytes (map formula_of ps) c.in_ok-gathered.gathered.carriers.items c.in_ok-gathered.ensures.exact.carriers ∙ length-map ps formula_of

pub returns-clause-exact : goal.returns-clause-exact
returns-clause-exact c =
    sets_are c.args.leaves.now c.args.rx.now c.args.view.now.bytes c.args.rule.now c.in_ok-gathered.gathered c.in_ok-joined.field-0.sinks c.in_ok-joined.field-0.ranges c.in_ok-gathered.ensures.exact c.in_ok-joined.ensures.sinks c.in_ok-joined.ensures.ranges

pub returns-clause-placed : goal.returns-clause-placed
returns-clause-placed c =
    union_all (λ m. IsPlaced c.args.view.now.bytes m) c.in_ok-gathered.gathered.sinks.items c.in_ok-joined.field-0.sinks c.in_ok-joined.ensures.sinks c.in_ok-gathered.ensures.sinks

pub returns-clause-sources : goal.returns-clause-sources
returns-clause-sources c =
    ranges_lie c.args.view.now.bytes c.in_ok-gathered.gathered.sources.items c.in_ok-joined.field-0.ranges.sources c.in_ok-joined.ensures.ranges.sources c.in_ok-gathered.ensures.sources
