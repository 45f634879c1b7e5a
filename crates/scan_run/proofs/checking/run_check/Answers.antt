use Rattle.std.proofs.Common.{List, ℕ, IsUtf8, sym, ◌∙◌, subst}
use Rattle.std.specs.Io.KnownBytes.{Appends}
use Rattle.scan_world.specs.Streams.{AppendsFront}
use Rattle.json_check.specs.Viable.{IsFirstBad}
use Rattle.run_status.specs.declared.status.Status.{Status}
use Rattle.run_status.specs.Ways.{Printed, IsOnlyEnd}
use Rattle.scan_run.specs.Checking.{Checks}
use Rattle.scan_run.proofs.Inputs.{input_kept, of_input}
use Rattle.scan_run.proofs.Checks.{ends_over_limit, only_over_limit, ends_bad_target, only_bad_target, ends_checked, only_checked, front_checked}
use Rattle.scan_run.proofs.checking.run_check.Goals as goal

pub returns-in-Err-clause-ends : goal.returns-in-Err-clause-ends
returns-in-Err-clause-ends g c a =
    let left = g.S.Source.left c.args.input.now in
    let w = g.K.Sink.written c.args.out.now in
    let t = c.in-Err.ensures.too_long a in
    let P : Status → Type 0 = λ s. Printed (Checks left) w w s in
    subst P (sym t.0) (ends_over_limit left w t.1)

pub returns-in-Err-clause-only : goal.returns-in-Err-clause-only
returns-in-Err-clause-only g c a some =
    let left = g.S.Source.left c.args.input.now in
    let w = g.K.Sink.written c.args.out.now in
    let t = c.in-Err.ensures.too_long a in
    let P : Status → Type 0 = λ s. IsOnlyEnd (Checks left) w w s in
    subst P (sym t.0) (only_over_limit left w t.1 some)

pub returns-in-Err-clause-input_kept : goal.returns-in-Err-clause-input_kept
returns-in-Err-clause-input_kept g c a = input_kept _ _ c.in-Err.status c.in-Err.ensures.cause a

pub returns-in-Err-clause-cause : goal.returns-in-Err-clause-cause
returns-in-Err-clause-cause g c = of_input _ _ c.in-Err.status c.in-Err.ensures.cause

pub returns-in_default-clause-ends : goal.returns-in_default-clause-ends
returns-in_default-clause-ends g c a =
    let P : List ℕ → Type 0 = IsUtf8 in
    ends_bad_target (g.S.Source.left c.args.input.now) (g.K.Sink.written c.args.out.now) c.in-Ok.bytes.items c.in-Ok.ensures.target
    (λ utf8. c.in_default.ensures.cases.0 (subst P (sym c.as_slice.ensures.value) utf8))

pub returns-in_default-clause-only : goal.returns-in_default-clause-only
returns-in_default-clause-only g c a =
    let P : List ℕ → Type 0 = IsUtf8 in
    only_bad_target (g.S.Source.left c.args.input.now) (g.K.Sink.written c.args.out.now) c.in-Ok.bytes.items c.in-Ok.ensures.target
    (λ utf8. c.in_default.ensures.cases.0 (subst P (sym c.as_slice.ensures.value) utf8))

pub returns-in-Ok-write-clause-ends : goal.returns-in-Ok-write-clause-ends
returns-in-Ok-write-clause-ends g c a =
    let w = g.K.Sink.written c.args.out.now in
    let v = g.K.Sink.written c.write.new.self in
    let bad = c.in-Ok-first_bad.bad in
    let P : List ℕ → Type 0 = IsUtf8 in
    let Q : List ℕ → Type 0 = λ l. IsFirstBad l bad in
    let R : List ℕ → Type 0 = λ l. Appends w v l in
    ends_checked (g.S.Source.left c.args.input.now) w v c.in-Ok.bytes.items c.in-Ok.ensures.target (subst P c.as_slice.ensures.value c.in-Ok-from_utf8.ensures.cases.1) bad
    (subst Q (c.in-Ok-from_utf8.ensures.cases.0 ∙ c.as_slice.ensures.value) c.in-Ok-first_bad.ensures) (subst R (c.as_bytes.ensures.value ∙ c.in-Ok-line.ensures) c.in-Ok-write.ensures.ok)

pub returns-in-Ok-write-clause-only : goal.returns-in-Ok-write-clause-only
returns-in-Ok-write-clause-only g c a =
    let w = g.K.Sink.written c.args.out.now in
    let v = g.K.Sink.written c.write.new.self in
    let bad = c.in-Ok-first_bad.bad in
    let P : List ℕ → Type 0 = IsUtf8 in
    let Q : List ℕ → Type 0 = λ l. IsFirstBad l bad in
    let R : List ℕ → Type 0 = λ l. Appends w v l in
    only_checked (g.S.Source.left c.args.input.now) w v c.in-Ok.bytes.items c.in-Ok.ensures.target (subst P c.as_slice.ensures.value c.in-Ok-from_utf8.ensures.cases.1) bad
    (subst Q (c.in-Ok-from_utf8.ensures.cases.0 ∙ c.as_slice.ensures.value) c.in-Ok-first_bad.ensures) (subst R (c.as_bytes.ensures.value ∙ c.in-Ok-line.ensures) c.in-Ok-write.ensures.ok)

pub returns-clause-front_written : goal.returns-clause-front_written
returns-clause-front_written g c e =
    let w = g.K.Sink.written c.args.out.now in
    let v = g.K.Sink.written c.write.new.self in
    let bad = c.in-Ok-first_bad.bad in
    let P : List ℕ → Type 0 = IsUtf8 in
    let Q : List ℕ → Type 0 = λ l. IsFirstBad l bad in
    let R : List ℕ → Type 0 = λ l. AppendsFront w v l in
    front_checked (g.S.Source.left c.args.input.now) w v c.in-Ok.bytes.items c.in-Ok.ensures.target (subst P c.as_slice.ensures.value c.in-Ok-from_utf8.ensures.cases.1) bad
    (subst Q (c.in-Ok-from_utf8.ensures.cases.0 ∙ c.as_slice.ensures.value) c.in-Ok-first_bad.ensures) (subst R (c.as_bytes.ensures.value ∙ c.in-Ok-line.ensures) c.in-Err-write.ensures.err)
