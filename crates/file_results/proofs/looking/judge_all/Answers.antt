use Rattle.std.proofs.Common.{◌+◌, length, refl, sym, ◌∙◌, subst, drop, arith}
use Rattle.std.proofs.lemmas.List.{drop_all}
use Rattle.meta_bind.proofs.Lookups.{opened}
use Rattle.std.proofs.lemmas.Option.{slice_get_within, slice_get_read}
use Rattle.node_tree.specs.declared.view.FileView.{FileView}
use Rattle.node_match.specs.Sets.{Adds}
use Rattle.tree_match.specs.Members.{known_tree}
use Rattle.file_search.specs.Asked.{AsksFor}
use Rattle.file_results.specs.Judging.{RuleAdds, AreAllPlaced}
use Rattle.file_results.specs.Asking.{RuleAsksFor}
use Rattle.file_results.proofs.Asking.{asks_start, asks_on, asks_end}
use Rattle.file_results.proofs.Judged.{up_to_start, up_to_on, up_to_end, all_placed_start}
use Rattle.file_results.proofs.looking.judge_all.Goals as goal

pub loop-number-init : goal.loop-number-init
loop-number-init g c =
    let v = c.args.view.now in
    let rules = c.args.running.now in (
      up_to_start c.args.path.now v.lang v.bytes (known_tree v) rules c.new-judged.result.items c.new-judged.ensures.items,
      all_placed_start v.bytes c.new-judged.result.items c.new-judged.ensures.items,
      refl,
      asks_start g.S.FileSearch.asks (RuleAsksFor c.args.path.now v.lang) rules (drop 0 rules) c.args.search.now c.args.steps.now refl,
      refl,
    )

pub add_rule-requires : goal.add_rule-requires
add_rule-requires g c = c.loop-number.invariant.2 ∙ c.requires ∙ sym c.loop-number.invariant.4

pub loop-number-preserved : goal.loop-number-preserved
loop-number-preserved g c =
    let v = c.args.view.now in
    let i = c.loop-number.number in
    let r = c.index-running-number.result in
    let rules = c.args.running.now in
    let at = slice_get_read rules (length rules) i r refl c.loop-number-test.true c.index-running-number.is in
    let far = c.loop-number.invariant in
    let J : FileView → Type 0 = λ w. Adds c.loop-number.judged.items c.add_rule.new.judged.items (RuleAdds c.args.path.now w.lang w.bytes (known_tree w) i r) in
    let P : FileView → Type 0 = λ w. AreAllPlaced w.bytes c.loop-number.judged.items → AreAllPlaced w.bytes c.add_rule.new.judged.items in
    let A : FileView → Type 0 = λ w. AsksFor g.S.FileSearch.asks (RuleAsksFor c.args.path.now w.lang r) c.loop-number.search c.loop-number.steps c.add_rule.new.search c.add_rule.new.steps in (
      up_to_on c.args.path.now v.lang v.bytes (known_tree v) rules c.loop-number.judged.items c.add_rule.new.judged.items i r far.0 at (subst J far.4 c.in_ok-add_rule.ensures.judged),
      subst P far.4 c.in_ok-add_rule.ensures.placed far.1,
      c.add_rule.ensures.same ∙ far.2,
      asks_on g.S.FileSearch.asks (RuleAsksFor c.args.path.now v.lang) rules (drop i rules) (drop (i + 1) rules) r c.args.search.now c.loop-number.search c.add_rule.new.search c.args.steps.now c.loop-number.steps c.add_rule.new.steps far.3 (opened rules i r c.loop-number-test.true c.index-running-number.is) (subst A far.4 c.in_ok-add_rule.ensures.asked),
      c.add_rule.ensures.kept ∙ far.4,
    )

pub returns-clause-judged : goal.returns-clause-judged
returns-clause-judged g c =
    let v = c.args.view.now in
    let rules = c.args.running.now in
    let a = c.loop-number-test.false in
    up_to_end c.args.path.now v.lang v.bytes (known_tree v) rules c.loop-number.judged.items c.loop-number.number c.loop-number.invariant.0 (omega (arith, a)) (λ k r at. slice_get_within rules k r at)

pub returns-clause-placed : goal.returns-clause-placed
returns-clause-placed g c = c.loop-number.invariant.1

pub returns-clause-asked : goal.returns-clause-asked
returns-clause-asked g c =
    let rules = c.args.running.now in
    let i = c.loop-number.number in
    let a = c.loop-number-test.false in
    asks_end g.S.FileSearch.asks (RuleAsksFor c.args.path.now c.args.view.now.lang) rules (drop i rules) c.args.search.now c.loop-number.search c.args.steps.now c.loop-number.steps c.loop-number.invariant.3 (drop_all i rules (omega (arith, a)))

pub returns-clause-same : goal.returns-clause-same
returns-clause-same g c = c.loop-number.invariant.2

pub returns-in_err-add_rule-clause-same : goal.returns-in_err-add_rule-clause-same
returns-in_err-add_rule-clause-same g c = c.add_rule.ensures.same ∙ c.loop-number.invariant.2

pub returns-clause-kept : goal.returns-clause-kept
returns-clause-kept g c = c.loop-number.invariant.4

pub returns-in_err-add_rule-clause-kept : goal.returns-in_err-add_rule-clause-kept
returns-in_err-add_rule-clause-kept g c = c.add_rule.ensures.kept ∙ c.loop-number.invariant.4
