use Rattle.std.proofs.Common.{◌≡◌, ◌<◌, true, List, length, refl, sym, ap, ◌∙◌, subst, arith}
use Rattle.std.specs.Prelude.{Option}
use Rattle.node_tree.specs.declared.view.FileView.{FileView}
use Rattle.node_tree.specs.declared.view.Pattern.{Pattern}
use Rattle.rule_form.specs.declared.rule.Rule.{Rule}
use Rattle.tree_match.specs.Members.{known_tree}
use Rattle.running_rules.proofs.Members.{there_is, get_among}
use Rattle.file_results.specs.declared.tracing.Followed.{Followed}
use Rattle.file_results.specs.Asking.{PartAsksFor, PartsAskFor, AsksAmong}
use Rattle.file_results.specs.Followed.{IsFollowedPart}
use Rattle.file_results.proofs.Asking.{some_none, some_more}
use Rattle.file_results.proofs.Followed.{FollowedAt, pairs_start, pairs_on, one_more}
use Rattle.file_results.proofs.tracing.follow_parts.Goals as goal

pub loop-part-init : goal.loop-part-init
loop-part-init g c =
    let v = c.args.file.now in
    let rule = c.args.rule.now in (
      ap (λ (fs : List (Option Followed)). length fs) c.new-followed.ensures,
      pairs_start (FollowedAt v.lang rule.texts v.bytes (known_tree v)) rule.parts c.new-followed.result c.new-followed.ensures,
      refl,
      some_none g.S.FileSearch.asks (λ p. (c.args.wanted ≡ true) × PartsAskFor v.lang rule.parts p) c.args.search.now c.args.steps.now,
      refl,
    )

pub follow_part-requires-clause-file : goal.follow_part-requires-clause-file
follow_part-requires-clause-file g c = c.loop-part.invariant.2 ∙ c.requires ∙ sym c.loop-part.invariant.4

pub returns-in_err-follow_part-clause-same : goal.returns-in_err-follow_part-clause-same
returns-in_err-follow_part-clause-same g c = c.follow_part.ensures.same ∙ c.loop-part.invariant.2

pub returns-in_err-push-clause-same : goal.returns-in_err-push-clause-same
returns-in_err-push-clause-same g c = c.follow_part.ensures.same ∙ c.loop-part.invariant.2

pub returns-in_err-follow_part-clause-kept : goal.returns-in_err-follow_part-clause-kept
returns-in_err-follow_part-clause-kept g c = c.follow_part.ensures.kept ∙ c.loop-part.invariant.4

pub returns-in_err-push-clause-kept : goal.returns-in_err-push-clause-kept
returns-in_err-push-clause-kept g c = c.follow_part.ensures.kept ∙ c.loop-part.invariant.4

pub loop-part-preserved : goal.loop-part-preserved
loop-part-preserved g c =
    let v = c.args.file.now in
    let rule = c.args.rule.now in
    let ps = rule.parts in
    let i = c.loop-part.part in
    let lt : i < length ps = let a = c.loop-part-test.true in let e = c.len-part-end.ensures ∙ ap (λ (r : Rule). length r.parts) c.rule.ensures in omega (arith, a, e) in
    let one = there_is ps i lt in
    let old = c.loop-part.followed in
    let new = c.push.new.self in
    let f = c.in_ok-follow_part.field-0 in
    let far = c.loop-part.invariant in
    let Asks : Pattern → Type 0 = λ p. (c.args.wanted ≡ true) × PartsAskFor v.lang ps p in
    let F : FileView → Type 0 = λ w. IsFollowedPart w.lang rule.texts w.bytes (known_tree w) one.0 f in
    let A : FileView → Type 0 = λ w. AsksAmong g.S.FileSearch.asks (PartAsksFor w.lang one.0) c.loop-part.search c.loop-part.steps c.follow_part.new.search c.follow_part.new.steps in (
      one_more old new f i c.in_ok-push.ensures.ok far.0,
      pairs_on (FollowedAt v.lang rule.texts v.bytes (known_tree v)) ps old new f i one.0 far.1 c.in_ok-push.ensures.ok far.0 one.1 (subst F far.4 (c.in_ok-follow_part.ensures.followed one.0 one.1)),
      c.follow_part.ensures.same ∙ far.2,
      some_more g.S.FileSearch.asks (PartAsksFor v.lang one.0) Asks c.args.search.now c.loop-part.search c.follow_part.new.search c.args.steps.now c.loop-part.steps c.follow_part.new.steps far.3 (subst A far.4 (c.in_ok-follow_part.ensures.asked one.0 one.1))
          (λ p h. (c.if-not-wanted.false, (one.0, get_among ps i one.0 one.1, h))),
      c.follow_part.ensures.kept ∙ far.4,
    )

pub returns-clause-followed : goal.returns-clause-followed
returns-clause-followed g c _ =
    let a = c.loop-part-test.false in
    let b = c.loop-part.auto.part-end in
    let e = c.len-part-end.ensures ∙ ap (λ (r : Rule). length r.parts) c.rule.ensures in
    let n = c.loop-part.invariant.0 in
    record { many = omega (arith, a, b, e, n); each = c.loop-part.invariant.1 }

pub returns-clause-same : goal.returns-clause-same
returns-clause-same g c = c.loop-part.invariant.2

pub returns-clause-kept : goal.returns-clause-kept
returns-clause-kept g c = c.loop-part.invariant.4

pub returns-clause-asked : goal.returns-clause-asked
returns-clause-asked g c = c.loop-part.invariant.3
