use Rattle.std.proofs.Common.{Err, ap, ◌∙◌, subst}
use Rattle.std.specs.List.{flat_map}
use Rattle.node_tree.specs.declared.node.Node.{Node}
use Rattle.taint_flow.specs.Sizes.{NoneLarge, FirstLarge}
use Rattle.taint_flow.specs.Taint.{AreHits}
use Rattle.taint_judge.specs.Follows.{finding_of}
use Rattle.taint_judge.proofs.Gathering.{findings_placed}
use Rattle.taint_judge.proofs.following.follow.Goals as goal

pub returns-in-Ok-clause-exact : goal.returns-in-Ok-clause-exact
returns-in-Ok-clause-exact c =
    let s = c.in_ok-sets.sets in
    let P : Node → Type 0 = λ root. AreHits root s.ranges c.in-Ok.hits in
    let Q : Node → Type 0 = λ root. NoneLarge root s.ranges in
    record {
      sinks = s.sinks;
      sets = s.ranges;
      read = record { few = c.in_ok-sets.ensures.few; sets_are = c.in_ok-sets.ensures.exact };
      none_large = subst Q c.requires.flow c.in-Ok.ensures.fits;
      hits = c.in-Ok.hits;
      hits_are = subst P c.requires.flow c.in-Ok.ensures.hits;
      findings_are = c.in_ok-findings_of-in-Ok.ensures ∙ ap (flat_map (finding_of s.sinks)) c.as_slice.ensures;
    }

pub returns-in-Ok-clause-placed : goal.returns-in-Ok-clause-placed
returns-in-Ok-clause-placed c =
    let s = c.in_ok-sets.sets in
    let P : Node → Type 0 = λ root. AreHits root s.ranges c.in-Ok.hits in
    findings_placed c.args.view.now.bytes c.args.view.now.tree s.ranges s.sinks c.in_ok-sets.ensures.placed c.in_ok-sets.ensures.sources c.in-Ok.hits c.in_ok-findings_of-in-Ok.field-0 (subst P c.requires.flow c.in-Ok.ensures.hits)
    (c.in_ok-findings_of-in-Ok.ensures ∙ ap (flat_map (finding_of s.sinks)) c.as_slice.ensures)

pub returns-in-Err-TooLarge-clause-refused : goal.returns-in-Err-TooLarge-clause-refused
returns-in-Err-TooLarge-clause-refused c =
    let s = c.in_ok-sets.sets in
    let P : Node → Type 0 = λ root. FirstLarge root s.ranges c.in-Err-TooLarge.at in
    record {
      sinks = s.sinks;
      sets = s.ranges;
      read = record { few = c.in_ok-sets.ensures.few; sets_are = c.in_ok-sets.ensures.exact };
      large = rw c.in-Err-TooLarge.field-0-is (subst P c.requires.flow (c.hits.ensures.large c.in-Err-TooLarge.at (c.in-Err-TooLarge.is ∙ ap Err c.in-Err-TooLarge.field-0-is)));
    }
