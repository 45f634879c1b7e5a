use Rattle.std.proofs.Common.{◌+◌, ap, map, drop}
use Rattle.std.proofs.lemmas.List.{drop_all}
use Rattle.meta_bind.proofs.Lookups.{opened}
use Rattle.running_rules.specs.Taking.{said}
use Rattle.running_rules.proofs.Deciding.{decided_first, decided_rest}
use Rattle.running_rules.proofs.Taking.{takes, all_rules}
use Rattle.running_rules.proofs.running.take_rules.Goals as goal

pub take_rule-requires : goal.take_rule-requires
take_rule-requires c =
    let i = c.loop-entry.entry-index in
    let es = c.args.entries.now in
    let e = c.entry-item.result in
    decided_first c.args.decided.now (map said (drop i es)) (said e) (map said (drop (i + 1) es)) (ap (map said) (opened es i e c.loop-entry-test.true c.entry-item.is)) (c.loop-entry.invariant c.requires).1

pub loop-entry-preserved : goal.loop-entry-preserved
loop-entry-preserved c decided =
    let i = c.loop-entry.entry-index in
    let es = c.args.entries.now in
    let e = c.entry-item.result in
    let d = c.args.decided.now in
    let far = c.loop-entry.invariant decided in
    let r = c.in_ok-take_rule.ensures in
    let left = map said (drop i es) in
    let rest = map said (drop (i + 1) es) in
    let left-is = ap (map said) (opened es i e c.loop-entry-test.true c.entry-item.is) in (
      takes d.refused (map said es) _ c.loop-entry.taken c.take_rule.new.taken c.loop-entry.running.items c.take_rule.new.running.items c.loop-entry.notices.items c.take_rule.new.notices.items
          left (said e) rest far.0 left-is (r.ids far.0.ids far.0.just) (r.rules far.0.ids far.0.just) (r.notices far.0.ids far.0.just),
      decided_rest d left (said e) rest left-is far.1,
    )

pub returns-clause-rules : goal.returns-clause-rules
returns-clause-rules c =
    let es = c.args.entries.now in
    (all_rules c.args.decided.now.refused (map said es) _ c.loop-entry.taken c.loop-entry.running.items c.loop-entry.notices.items (map said (drop c.loop-entry.entry-index es)) (c.loop-entry.invariant c.requires).0
    (ap (map said) (drop_all c.loop-entry.entry-index es c.loop-entry-test.false))).0

pub returns-clause-notices : goal.returns-clause-notices
returns-clause-notices c =
    let es = c.args.entries.now in
    (all_rules c.args.decided.now.refused (map said es) _ c.loop-entry.taken c.loop-entry.running.items c.loop-entry.notices.items (map said (drop c.loop-entry.entry-index es)) (c.loop-entry.invariant c.requires).0
    (ap (map said) (drop_all c.loop-entry.entry-index es c.loop-entry-test.false))).1
