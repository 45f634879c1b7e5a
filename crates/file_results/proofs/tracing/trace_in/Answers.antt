use Rattle.std.proofs.Common.{◌≡◌, true, false, List, sym, ap, ◌∙◌, subst}
use Rattle.std.specs.Prelude.{Option}
use Rattle.node_tree.specs.declared.node.Node.{Node}
use Rattle.node_tree.specs.Tree.{pre_of}
use Rattle.tree_match.specs.Members.{known_tree}
use Rattle.taint_trace.specs.Findings.{IsFoundBy}
use Rattle.file_results.specs.declared.tracing.Followed.{Followed}
use Rattle.file_results.specs.Followed.{stops_among, IsFollowedPart}
use Rattle.file_results.proofs.Followed.{unfollowed, not_found, some_sets, found_here, traced_here, has_stops}
use Rattle.file_results.proofs.tracing.trace_in.Goals as goal

pub returns-in_default : goal.returns-in_default
returns-in_default c p is =
    let v = c.args.file.now in
    let P : Option Followed → Type 0 = λ f. IsFollowedPart v.lang c.args.rule.now.texts v.bytes (known_tree v) p f in
    unfollowed v.lang c.args.rule.now.texts v.bytes (known_tree v) c.args.finding.now p (subst P c.in_default.is is) c.requires.comes

pub returns-then-not-branch : goal.returns-then-not-branch
returns-then-not-branch c p is =
    let v = c.args.file.now in
    let P : Option Followed → Type 0 = λ f. IsFollowedPart v.lang c.args.rule.now.texts v.bytes (known_tree v) p f in
    not_found v.lang c.args.rule.now.texts v.bytes (known_tree v) c.args.finding.now p c.in-Some.followed (subst P c.in-Some.is is)
    (λ a. let e : true ≡ false = sym (c.in_ok-has.ensures.1 a) ∙ c.if-not-branch.true in absurd cc)

pub unreachable-requires : goal.unreachable-requires
unreachable-requires c =
    let v = c.args.file.now in
    let part = c.requires.part in
    let P : Option Followed → Type 0 = λ o. IsFollowedPart v.lang c.args.rule.now.texts v.bytes (known_tree v) part.0 o in
    some_sets v.lang c.args.rule.now.texts v.bytes (known_tree v) c.args.finding.now part.0 c.in-Some.followed (subst P c.in-Some.is part.1) (c.in_ok-has.ensures.0 c.if-not-branch.false) c.in_default-sets.is

pub trace-requires : goal.trace-requires
trace-requires c =
    let v = c.args.file.now in
    let part = c.requires.part in
    let P : Option Followed → Type 0 = λ o. IsFollowedPart v.lang c.args.rule.now.texts v.bytes (known_tree v) part.0 o in
    let sets = c.in-Some-sets.sets in
    let R : Node → Type 0 = λ root. IsFoundBy root sets.sinks sets.ranges c.args.finding.now in
    let here = found_here v.lang c.args.rule.now.texts v.bytes (known_tree v) c.args.finding.now part.0 c.in-Some.followed (subst P c.in-Some.is part.1) (c.in_ok-has.ensures.0 c.if-not-branch.false) sets c.in-Some-sets.is in
    record { found = subst R (sym c.requires.tracer) here }

pub returns : goal.returns
returns c p is =
    let v = c.args.file.now in
    let f = c.in-Some.followed in
    let path = c.in_ok-path.path in
    let P : Option Followed → Type 0 = λ o. IsFollowedPart v.lang c.args.rule.now.texts v.bytes (known_tree v) p o in
    let by = subst P c.in-Some.is is in
    let trace = traced_here v.lang c.args.rule.now.texts v.bytes (known_tree v) c.args.finding.now p f by c.args.tracer.now c.in-Some-sets.sets path c.in-Some-sets.is c.requires.tracer c.in_ok-path.ensures.exact in
    let nodes = c.nodes.ensures ∙ ap pre_of c.requires.flow in
    let stops = c.in_ok-stops_at.ensures ∙ ap (stops_among c.nodes.result.now) c.as_slice.ensures ∙ ap (λ (ns : List Node). stops_among ns path) nodes in
    has_stops v.lang c.args.rule.now.texts v.bytes (known_tree v) c.args.finding.now p f by path c.in_ok-stops_at.field-0 (c.in_ok-has.ensures.0 c.if-not-branch.false) trace stops
