use Rattle.std.proofs.Common.{ℕ, List, ap, subst}
use Rattle.std.specs.Rc.{rc_value}
use Rattle.std.specs.Map.{keys_of}
use Rattle.std.specs.List.Sorted.{IsStrictlySortedBy}
use Rattle.scan_world.specs.Files.{Files, path_cmp}
use Rattle.file_map.proofs.Shown.{sorted_shown}
use Rattle.file_map.proofs.Replacing.{one_listed, all_listed}
use Rattle.file_map.proofs.file_map.FileMap.entries.Goals as goal

pub loop-path-preserved : goal.loop-path-preserved
loop-path-preserved c =
    one_listed c.args.self.now c.loop-path.files c.loop-path.path-iterator c.next.new.self (c.in-Some.path.now, c.in-Some.bytes.now) c.loop-path.invariant c.in-Some.ensures.steps (c.as_str.result, c.in-Some.bytes) c.push.new.self
    (ap (λ (path : List ℕ). (path, rc_value c.in-Some.bytes.now)) c.as_str.ensures.value) c.in_ok-push.ensures.ok

pub returns-clause-files : goal.returns-clause-files
returns-clause-files c = all_listed c.args.self.now c.loop-path.files c.loop-path.path-iterator c.loop-path.invariant c.in-None.ensures.steps.0

pub returns-clause-ordered : goal.returns-clause-ordered
returns-clause-ordered c = subst (λ (fs : Files). IsStrictlySortedBy path_cmp (keys_of fs)) c.self.view_is (sorted_shown c.self.inside.by_path.entries c.len.ensures.ordered)
