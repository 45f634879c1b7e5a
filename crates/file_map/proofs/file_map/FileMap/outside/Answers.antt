use Rattle.std.proofs.Common.{◌∙◌, ℕ, List, ap, sym, subst}
use Rattle.std.specs.Rc.{rc_value}
use Rattle.std.proofs.lemmas.Bool.{false≢true}
use Rattle.scan_world.specs.Files.{IsUnder}
use Rattle.file_map.proofs.Syncing.{one_apart, all_outside}
use Rattle.file_map.proofs.file_map.FileMap.outside.Goals as goal

pub loop-path-preserved-in-Continue-1 : goal.loop-path-preserved-in-Continue-1
loop-path-preserved-in-Continue-1 c =
    one_apart c.args.prefix.now c.args.self.now c.loop-path.files c.loop-path.path-iterator c.next.new.self (c.in-Some.path.now, c.in-Some.bytes.now) c.loop-path.invariant c.in-Some.ensures.steps (c.as_str-then-not-is_under.result, c.in-Some.bytes) c.push.new.self
    (λ under. absurd (false≢true (sym c.if-not-is_under.true ∙ c.is_under.ensures.1 (subst (IsUnder c.args.prefix.now) (sym c.as_str.ensures.value) under))))
    (ap (λ (path : List ℕ). (path, rc_value c.in-Some.bytes.now)) c.as_str-then-not-is_under.ensures.value) c.in_ok-push.ensures.ok

pub returns : goal.returns
returns c = all_outside c.args.prefix.now c.args.self.now c.loop-path.files c.loop-path.path-iterator c.loop-path.invariant c.in-None.ensures.steps.0
