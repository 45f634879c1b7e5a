use Rattle.std.proofs.Common.{sym, ◌∙◌}
use Rattle.running_rules.specs.Taking.{said, HasJust, ids_after}
use Rattle.running_rules.proofs.Members.{on_ok}
use Rattle.running_rules.proofs.Taking.{ids_grown}
use Rattle.running_rules.proofs.running.take_rule.Goals as goal

pub returns-clause-ids : goal.returns-clause-ids
returns-clause-ids c = λ ids just.
    let s = said c.args.entry in
    on_ok (HasJust c.insert.new.self (ids_after ids s)) c.add_runner.result
    (ids_grown ids s c.as_str-id.result c.as_str-id.ensures c.args.taken.now c.insert.new.self just c.in_ok-insert.ensures.updates.0 (sym c.in_ok-insert.ensures.added ∙ c.if-not-branch.false))
