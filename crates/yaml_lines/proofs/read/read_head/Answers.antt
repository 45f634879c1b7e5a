use Rattle.std.proofs.Common.{ap, arith}
use Rattle.yaml_lines.specs.Marks.{Marked}
use Rattle.yaml_lines.specs.Keying.{IsRest}
use Rattle.yaml_lines.proofs.Steps.{marks_utf8, rest_from, utf8_before}
use Rattle.yaml_lines.proofs.read.read_head.Goals as goal
use Rattle.yaml_lines.proofs.read.read_head.Goals.{in-Some, in-None}

pub read_key-requires-clause-utf8 : goal.read_key-requires-clause-utf8
read_key-requires-clause-utf8 c = marks_utf8 c.args.line.now c.in_ok-marks.marks.content.now (ap (λ (m : Marked). m.content) c.in_ok-marks.ensures.marks) c.requires.utf8

pub returns-clause-within : goal.returns-clause-within
returns-clause-within c =
    let content : _ = c.in_ok-marks.marks.content.now in
    let utf8 = marks_utf8 c.args.line.now content (ap (λ (m : Marked). m.content) c.in_ok-marks.ensures.marks) c.requires.utf8 in
    let rest : IsRest content c.match-branch-3.key.1.now = elim c.match-branch-3.branch [
      | in-Some w ↦ let r = rw w.in-Some.is at c.in_ok-content.ensures.rest in rest_from content _ _ _ w.key-is (record { utf8 = w.past_blanks.ensures.utf8 r.utf8; len = omega (arith, w.past_blanks.ensures.len, r.len) })
      | in-None w ↦ rest_from content _ _ _ w.key-is (record { utf8 = utf8; len = omega arith })
    ] in
    record {
      short = c.requires.short;
      content = c.in_ok-marks.ensures.within;
      depth = omega (arith, c.scan_line-scanned.ensures.depth, rest.len, c.in_ok-marks.ensures.within, c.requires.short);
      utf8 = c.before_blanks-value.ensures.utf8 (utf8_before c.match-branch-3.key.1.now c.scan_line-scanned.result.len c.scan_line-scanned.ensures.within (λ h. omega (arith, c.scan_line-scanned.ensures.comment h)) rest.utf8);
    }
