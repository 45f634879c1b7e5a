use Rattle.std.proofs.lemmas.Result.{err_from_is_err_and}
use Rattle.std.proofs.Common.{ap}
use Rattle.std.specs.Prelude.{None, Err}
use Rattle.file_map.specs.declared.fault.PutFault.{PutFault}
use Rattle.stream_run.specs.Faults.{of_put}
use Rattle.wire_stream.specs.declared.wire.Wire.TheVariants as wires
use Rattle.stream_run.proofs.Edits.{put_unfailed, put_at, put_passed, rule_at, rule_passed, rule_once, del_at, unrule_at, sync_at, sync_passed, end_at, once_at}
use Rattle.stream_run.proofs.Settled.{told_once, refused_once}
use Rattle.stream_run.proofs.doing.edit.Goals as goal

pub returns-in_err-put-in-Put-clause-passes : goal.returns-in_err-put-in-Put-clause-passes
returns-in_err-put-in-Put-clause-passes g c =
    let p = err_from_is_err_and c.from_residual.result c.from_residual.ensures.1 in
    rw (p.1, p.2) (put_passed (g.W.Workspace.readings (g.W.Workspace.reader c.args.workspace.now)) (g.T.Tree.files c.args.tree.now) (g.W.Workspace.state c.args.workspace.now) c.args.wire.now c.in-Put.path c.in-Put.bytes c.as_str.result.now c.as_slice.result.now c.as_str.ensures c.as_slice.ensures c.in-Put.is c.in_err-put-in-Put.field-0.0 c.in_err-put-in-Put.ensures.over)

pub returns-in_err-put_rules-in-Rule-clause-passes : goal.returns-in_err-put_rules-in-Rule-clause-passes
returns-in_err-put_rules-in-Rule-clause-passes g c =
    let p = err_from_is_err_and c.from_residual-in_err-put_rules-in-Rule.result c.from_residual-in_err-put_rules-in-Rule.ensures.1 in
    rw (p.1, p.2) (rule_passed (g.W.Workspace.readings (g.W.Workspace.reader c.args.workspace.now)) (g.T.Tree.files c.args.tree.now) (g.W.Workspace.state c.args.workspace.now) c.args.wire.now c.in-Rule.name c.in-Rule.bytes c.as_str-in-Rule.result.now c.as_slice-in-Rule.result.now c.as_str-in-Rule.ensures c.as_slice-in-Rule.ensures c.in-Rule.is c.in_err-put_rules-in-Rule.field-0.0 c.in_err-put_rules-in-Rule.ensures.over)

pub returns-in_err-sync-in-Sync-clause-passes : goal.returns-in_err-sync-in-Sync-clause-passes
returns-in_err-sync-in-Sync-clause-passes g c =
    let p = err_from_is_err_and c.from_residual-in_err-sync-in-Sync.result c.from_residual-in_err-sync-in-Sync.ensures.1 in
    rw (p.1, p.2) (sync_passed (g.W.Workspace.readings (g.W.Workspace.reader c.args.workspace.now)) (g.T.Tree.files c.args.tree.now) (g.W.Workspace.state c.args.workspace.now) c.args.wire.now c.in-Sync.prefix c.as_str-in-Sync.result.now c.as_str-in-Sync.ensures c.in-Sync.is c.in_err-sync-in-Sync.field-0.0 c.in_err-sync-in-Sync.ensures.over)

pub returns-in_ok-put-in-Put-clause-does : goal.returns-in_ok-put-in-Put-clause-does
returns-in_ok-put-in-Put-clause-does g c =
    put_at (g.W.Workspace.readings (g.W.Workspace.reader c.args.workspace.now)) (g.T.Tree.files c.args.tree.now) (g.W.Workspace.state c.args.workspace.now) c.args.wire.now c.in-Put.path c.in-Put.bytes c.as_str.result.now c.as_slice.result.now c.as_str.ensures c.as_slice.ensures c.in-Put.is (g.W.Workspace.state c.put.new.self) c.in_ok-put-in-Put.ensures.put c.in_ok-put-in-Put.ensures.within

pub returns-in-Del-clause-does : goal.returns-in-Del-clause-does
returns-in-Del-clause-does g c =
    del_at (g.W.Workspace.readings (g.W.Workspace.reader c.args.workspace.now)) (g.T.Tree.files c.args.tree.now) (g.W.Workspace.state c.args.workspace.now) c.args.wire.now c.in-Del.path c.as_str-in-Del.result.now c.as_str-in-Del.ensures c.in-Del.is (g.W.Workspace.state c.del.new.self) c.del.result c.del.ensures.removed c.del.ensures.was_there

pub returns-in_ok-put_rules-in-Rule-clause-does : goal.returns-in_ok-put_rules-in-Rule-clause-does
returns-in_ok-put_rules-in-Rule-clause-does g c =
    rule_at (g.W.Workspace.readings (g.W.Workspace.reader c.args.workspace.now)) (g.T.Tree.files c.args.tree.now) (g.W.Workspace.state c.args.workspace.now) c.args.wire.now c.in-Rule.name c.in-Rule.bytes c.as_str-in-Rule.result.now c.as_slice-in-Rule.result.now c.as_str-in-Rule.ensures c.as_slice-in-Rule.ensures c.in-Rule.is (g.W.Workspace.state c.put_rules.new.self) c.in_ok-put_rules-in-Rule.ensures.put c.in_ok-put_rules-in-Rule.ensures.within

pub returns-in-Unrule-clause-does : goal.returns-in-Unrule-clause-does
returns-in-Unrule-clause-does g c =
    unrule_at (g.W.Workspace.readings (g.W.Workspace.reader c.args.workspace.now)) (g.T.Tree.files c.args.tree.now) (g.W.Workspace.state c.args.workspace.now) c.args.wire.now c.in-Unrule.name c.as_str-in-Unrule.result.now c.as_str-in-Unrule.ensures c.in-Unrule.is (g.W.Workspace.state c.del_rules.new.self) c.del_rules.result c.del_rules.ensures.removed c.del_rules.ensures.was_there

pub returns-in_ok-sync-in-Sync-clause-does : goal.returns-in_ok-sync-in-Sync-clause-does
returns-in_ok-sync-in-Sync-clause-does g c =
    sync_at (g.W.Workspace.readings (g.W.Workspace.reader c.args.workspace.now)) (g.T.Tree.files c.args.tree.now) (g.W.Workspace.state c.args.workspace.now) c.args.wire.now c.in-Sync.prefix c.as_str-in-Sync.result.now c.as_str-in-Sync.ensures c.in-Sync.is (g.W.Workspace.state c.sync.new.self) c.in_ok-sync-in-Sync.ensures.only_files c.in_ok-sync-in-Sync.ensures.synced c.in_ok-sync-in-Sync.ensures.within

pub returns-in-End-clause-does : goal.returns-in-End-clause-does
returns-in-End-clause-does g c =
    end_at (g.W.Workspace.readings (g.W.Workspace.reader c.args.workspace.now)) (g.T.Tree.files c.args.tree.now) (g.W.Workspace.state c.args.workspace.now) c.args.wire.now c.in-End.is

pub returns-in_err-put-in-Put-clause-fails : goal.returns-in_err-put-in-Put-clause-fails
returns-in_err-put-in-Put-clause-fails g c =
    let p = err_from_is_err_and c.from_residual.result c.from_residual.ensures.1 in
    rw (p.1, p.2) (λ e. absurd (put_unfailed c.in_err-put-in-Put.field-0.0 e))

pub returns-in_err-put_rules-in-Rule-clause-fails : goal.returns-in_err-put_rules-in-Rule-clause-fails
returns-in_err-put_rules-in-Rule-clause-fails g c =
    let p = err_from_is_err_and c.from_residual-in_err-put_rules-in-Rule.result c.from_residual-in_err-put_rules-in-Rule.ensures.1 in
    rw (p.1, p.2) (λ e. absurd (put_unfailed c.in_err-put_rules-in-Rule.field-0.0 e))

pub returns-in_err-put-in-Put-clause-once : goal.returns-in_err-put-in-Put-clause-once
returns-in_err-put-in-Put-clause-once g c _ =
    once_at (g.W.Workspace.readings (g.W.Workspace.reader c.args.workspace.now)) (g.T.Tree.files c.args.tree.now) (g.W.Workspace.state c.args.workspace.now) c.args.wire.now (wires.Put c.in-Put.path c.in-Put.bytes) c.in-Put.is tt

pub returns-in_ok-put-in-Put-clause-once : goal.returns-in_ok-put-in-Put-clause-once
returns-in_ok-put-in-Put-clause-once g c _ =
    once_at (g.W.Workspace.readings (g.W.Workspace.reader c.args.workspace.now)) (g.T.Tree.files c.args.tree.now) (g.W.Workspace.state c.args.workspace.now) c.args.wire.now (wires.Put c.in-Put.path c.in-Put.bytes) c.in-Put.is tt

pub returns-in-Del-clause-once : goal.returns-in-Del-clause-once
returns-in-Del-clause-once g c _ =
    once_at (g.W.Workspace.readings (g.W.Workspace.reader c.args.workspace.now)) (g.T.Tree.files c.args.tree.now) (g.W.Workspace.state c.args.workspace.now) c.args.wire.now (wires.Del c.in-Del.path) c.in-Del.is tt

pub returns-in_err-put_rules-in-Rule-clause-once : goal.returns-in_err-put_rules-in-Rule-clause-once
returns-in_err-put_rules-in-Rule-clause-once g c =
    let p = err_from_is_err_and c.from_residual-in_err-put_rules-in-Rule.result c.from_residual-in_err-put_rules-in-Rule.ensures.1 in
    rw (p.1, p.2) (λ some. rule_once (g.W.Workspace.readings (g.W.Workspace.reader c.args.workspace.now)) (g.T.Tree.files c.args.tree.now) (g.W.Workspace.state c.args.workspace.now) c.args.wire.now c.in-Rule.name c.in-Rule.bytes c.as_str-in-Rule.result.now c.as_slice-in-Rule.result.now c.as_str-in-Rule.ensures c.as_slice-in-Rule.ensures c.in-Rule.is (refused_once (g.W.Workspace.readings (g.W.Workspace.reader c.args.workspace.now)) (g.W.Workspace.state c.args.workspace.now).rules (c.as_str-in-Rule.result.now, c.as_slice-in-Rule.result.now) c.in_err-put_rules-in-Rule.field-0.0 c.in_err-put_rules-in-Rule.ensures.only (λ e. some (ap (λ (f : PutFault). Err (of_put f)) e))))

pub returns-in_ok-put_rules-in-Rule-clause-once : goal.returns-in_ok-put_rules-in-Rule-clause-once
returns-in_ok-put_rules-in-Rule-clause-once g c _ =
    rule_once (g.W.Workspace.readings (g.W.Workspace.reader c.args.workspace.now)) (g.T.Tree.files c.args.tree.now) (g.W.Workspace.state c.args.workspace.now) c.args.wire.now c.in-Rule.name c.in-Rule.bytes c.as_str-in-Rule.result.now c.as_slice-in-Rule.result.now c.as_str-in-Rule.ensures c.as_slice-in-Rule.ensures c.in-Rule.is (told_once (g.W.Workspace.readings (g.W.Workspace.reader c.args.workspace.now)) (g.W.Workspace.state c.args.workspace.now).rules (c.as_str-in-Rule.result.now, c.as_slice-in-Rule.result.now) None c.in_ok-put_rules-in-Rule.ensures.only)

pub returns-in-Unrule-clause-once : goal.returns-in-Unrule-clause-once
returns-in-Unrule-clause-once g c _ =
    once_at (g.W.Workspace.readings (g.W.Workspace.reader c.args.workspace.now)) (g.T.Tree.files c.args.tree.now) (g.W.Workspace.state c.args.workspace.now) c.args.wire.now (wires.Unrule c.in-Unrule.name) c.in-Unrule.is tt

pub returns-in_err-sync-in-Sync-clause-once : goal.returns-in_err-sync-in-Sync-clause-once
returns-in_err-sync-in-Sync-clause-once g c _ =
    once_at (g.W.Workspace.readings (g.W.Workspace.reader c.args.workspace.now)) (g.T.Tree.files c.args.tree.now) (g.W.Workspace.state c.args.workspace.now) c.args.wire.now (wires.Sync c.in-Sync.prefix) c.in-Sync.is tt

pub returns-in_ok-sync-in-Sync-clause-once : goal.returns-in_ok-sync-in-Sync-clause-once
returns-in_ok-sync-in-Sync-clause-once g c _ =
    once_at (g.W.Workspace.readings (g.W.Workspace.reader c.args.workspace.now)) (g.T.Tree.files c.args.tree.now) (g.W.Workspace.state c.args.workspace.now) c.args.wire.now (wires.Sync c.in-Sync.prefix) c.in-Sync.is tt

pub returns-in-End-clause-once : goal.returns-in-End-clause-once
returns-in-End-clause-once g c _ =
    once_at (g.W.Workspace.readings (g.W.Workspace.reader c.args.workspace.now)) (g.T.Tree.files c.args.tree.now) (g.W.Workspace.state c.args.workspace.now) c.args.wire.now wires.End c.in-End.is tt
