use Rattle.std.proofs.Common.{◌≡◌, ℕ, true, List, length, refl, sym, ap, ◌∙◌, subst, arith}
use Rattle.std.specs.Prelude.{Option}
use Rattle.std.specs.BTreeSet.{contains}
use Rattle.std.specs.Ordering.{nat_cmp}
use Rattle.std.proofs.lemmas.Option.{slice_get_read}
use Rattle.node_tree.specs.declared.view.FileView.{FileView}
use Rattle.node_tree.specs.declared.view.Pattern.{Pattern}
use Rattle.tree_match.specs.Members.{known_tree}
use Rattle.file_results.specs.declared.tracing.Followed.{Followed}
use Rattle.file_results.specs.Asking.{PartsAskFor, AsksAmong, WantedAsk}
use Rattle.file_results.specs.Followed.{AreFollowedParts}
use Rattle.file_results.proofs.Asking.{some_none, some_more}
use Rattle.file_results.proofs.Followed.{RuleAt, pairs_start, pairs_on, one_more}
use Rattle.file_results.proofs.tracing.follow_rules.Goals as goal

pub loop-number-init : goal.loop-number-init
loop-number-init g c =
    let v = c.args.file.now in
    let rules = c.args.running.now in
    let Wanted : ℕ → Type 0 = λ n. contains nat_cmp c.args.wanted.now n ≡ true in (
      ap (λ (fs : List (List (Option Followed))). length fs) c.new-followed.ensures,
      pairs_start (RuleAt v.lang v.bytes (known_tree v) Wanted) rules c.new-followed.result c.new-followed.ensures,
      refl,
      some_none g.S.FileSearch.asks (WantedAsk v.lang rules Wanted) c.args.search.now c.args.steps.now,
      refl,
    )

pub follow_parts-requires : goal.follow_parts-requires
follow_parts-requires g c = c.loop-number.invariant.2 ∙ c.requires ∙ sym c.loop-number.invariant.4

pub loop-number-preserved : goal.loop-number-preserved
loop-number-preserved g c =
    let v = c.args.file.now in
    let rules = c.args.running.now in
    let Wanted : ℕ → Type 0 = λ n. contains nat_cmp c.args.wanted.now n ≡ true in
    let i = c.loop-number.number-counter in
    let r = c.index-running-number.result in
    let at = slice_get_read rules (length rules) i r refl c.loop-number-test.true c.index-running-number.is in
    let old = c.loop-number.followed in
    let new = c.push.new.self in
    let parts = c.in_ok-follow_parts.field-0 in
    let far = c.loop-number.invariant in
    let Asks : Pattern → Type 0 = λ p. (c.contains-is_wanted.result ≡ true) × PartsAskFor v.lang r.parts p in
    let F : FileView → Type 0 = λ w. AreFollowedParts w.lang r.texts w.bytes (known_tree w) r.parts parts in
    let A : FileView → Type 0 = λ w. AsksAmong g.S.FileSearch.asks (λ p. (c.contains-is_wanted.result ≡ true) × PartsAskFor w.lang r.parts p) c.loop-number.search c.loop-number.steps c.follow_parts.new.search c.follow_parts.new.steps in (
      one_more old new parts i c.in_ok-push.ensures.ok far.0,
      pairs_on (RuleAt v.lang v.bytes (known_tree v) Wanted) rules old new parts i r far.1 c.in_ok-push.ensures.ok far.0 at (λ w. subst F far.4 (c.in_ok-follow_parts.ensures.followed (c.contains-is_wanted.ensures ∙ w))),
      c.follow_parts.ensures.same ∙ far.2,
      some_more g.S.FileSearch.asks Asks (WantedAsk v.lang rules Wanted) c.args.search.now c.loop-number.search c.follow_parts.new.search c.args.steps.now c.loop-number.steps c.follow_parts.new.steps far.3 (subst A far.4 c.in_ok-follow_parts.ensures.asked)
          (λ p h. (i, r, at, sym c.contains-is_wanted.ensures ∙ h.0, h.1)),
      c.follow_parts.ensures.kept ∙ far.4,
    )

pub returns-clause-followed : goal.returns-clause-followed
returns-clause-followed g c =
    let a = c.loop-number-test.false in
    let b = c.loop-number.auto.number-counter-end in
    let n = c.loop-number.invariant.0 in
    record { many = omega (arith, a, b, n); each = c.loop-number.invariant.1 }

pub returns-clause-kept : goal.returns-clause-kept
returns-clause-kept g c = c.loop-number.invariant.4

pub returns-in_err-follow_parts-clause-kept : goal.returns-in_err-follow_parts-clause-kept
returns-in_err-follow_parts-clause-kept g c = c.follow_parts.ensures.kept ∙ c.loop-number.invariant.4

pub returns-in_err-push-clause-kept : goal.returns-in_err-push-clause-kept
returns-in_err-push-clause-kept g c = c.follow_parts.ensures.kept ∙ c.loop-number.invariant.4

pub returns-clause-asked : goal.returns-clause-asked
returns-clause-asked g c = c.loop-number.invariant.3
