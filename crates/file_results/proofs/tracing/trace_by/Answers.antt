use Rattle.std.proofs.Common.{◌<◌, ◌≤◌, ℕ, List, length, refl, subst, arith}
use Rattle.std.specs.Prelude.{Option, MatchOption}
use Rattle.std.proofs.lemmas.Option.{slice_get_read}
use Rattle.graph_form.specs.declared.graph.Role.{Role}
use Rattle.tree_match.specs.Members.{known_tree}
use Rattle.running_rules.proofs.Members.{there_is}
use Rattle.file_results.specs.Followed.{LooksAndHas, HasStops}
use Rattle.file_results.proofs.Followed.{none_on, none_has, rule_stops}
use Rattle.file_results.proofs.tracing.trace_by.Goals as goal

pub loop-part-init : goal.loop-part-init
loop-part-init c = λ j part lt at has. absurd (omega (arith, lt))

pub trace_in-requires-clause-part : goal.trace_in-requires-clause-part
trace_in-requires-clause-part c =
    let fs = c.args.parts.now in
    let i = c.loop-part.part-index in
    let lt : i < length c.args.rule.now.parts = let a = c.loop-part-test.true in let e = c.requires.parts.many in omega (arith, a, e) in
    let one = there_is c.args.rule.now.parts i lt in
    (one.0, c.requires.parts.each i one.0 c.part-item.result one.1 (slice_get_read fs (length fs) i c.part-item.result refl c.loop-part-test.true c.part-item.is))

pub returns-in-Some : goal.returns-in-Some
returns-in-Some c =
    let v = c.args.file.now in
    let rule = c.args.rule.now in
    let fs = c.args.parts.now in
    let i = c.loop-part.part-index in
    let lt : i < length rule.parts = let a = c.loop-part-test.true in let e = c.requires.parts.many in omega (arith, a, e) in
    let one = there_is rule.parts i lt in
    let is = c.requires.parts.each i one.0 c.part-item.result one.1 (slice_get_read fs (length fs) i c.part-item.result refl c.loop-part-test.true c.part-item.is) in
    let M : Option (List (ℕ × Role)) → Type 0 = λ o. MatchOption o (LooksAndHas v.lang rule.texts v.bytes (known_tree v) one.0 c.args.finding.now → ⊥) (HasStops v.lang rule.texts v.bytes (known_tree v) one.0 c.args.finding.now) in
    rule_stops v.lang v.bytes (known_tree v) rule c.args.finding.now i one.0 c.in-Some.stops c.loop-part.invariant one.1 (subst M c.in-Some.is (c.in_ok-stops.ensures one.0 is))

pub loop-part-preserved : goal.loop-part-preserved
loop-part-preserved c =
    let v = c.args.file.now in
    let rule = c.args.rule.now in
    let fs = c.args.parts.now in
    let i = c.loop-part.part-index in
    let lt : i < length rule.parts = let a = c.loop-part-test.true in let e = c.requires.parts.many in omega (arith, a, e) in
    let one = there_is rule.parts i lt in
    let is = c.requires.parts.each i one.0 c.part-item.result one.1 (slice_get_read fs (length fs) i c.part-item.result refl c.loop-part-test.true c.part-item.is) in
    let M : Option (List (ℕ × Role)) → Type 0 = λ o. MatchOption o (LooksAndHas v.lang rule.texts v.bytes (known_tree v) one.0 c.args.finding.now → ⊥) (HasStops v.lang rule.texts v.bytes (known_tree v) one.0 c.args.finding.now) in
    none_on v.lang v.bytes (known_tree v) rule c.args.finding.now i one.0 c.loop-part.invariant one.1 (subst M c.in_default.is (c.in_ok-stops.ensures one.0 is))

pub unreachable-requires : goal.unreachable-requires
unreachable-requires c =
    let v = c.args.file.now in
    let rule = c.args.rule.now in
    let i = c.loop-part.part-index in
    let le : length rule.parts ≤ i = let a = c.loop-part-test.false in let e = c.requires.parts.many in omega (arith, a, e) in
    none_has v.lang v.bytes (known_tree v) rule c.args.finding.now i c.loop-part.invariant le c.requires.found
