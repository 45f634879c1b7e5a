-- A drill has two scans, so it comes to two reports.
use Rattle.std.proofs.Common.{◌≡◌, ◌+◌, ℕ, List, [], ◌∷◌, ◌++◌, length, map, codes, get_or, refl, sym, ap, ◌∙◌, arith}
use Rattle.std.specs.List.{range_with_len}
use Rattle.std.proofs.lemmas.List.{length-append}
use Rattle.report_form.specs.declared.report.Report.{Report}
use Rattle.wire_stream.specs.declared.wire.Wire.{Wire}
use Rattle.wire_stream.specs.declared.wire.Wire.TheVariants as wires
use Rattle.wire_drill.specs.Drill.{file, drill, put_file, rules_text}
use Rattle.stream_run.specs.declared.reply.Reply.{Reply}
use Rattle.stream_run.specs.Doing.{Setting, Shelves, Does, put, del, rule, unrule, sync, scan, scan_many, fix, fix_many, done}
use Rattle.drill_run.specs.Drilling.{report_in, IsWithin, Drills, begun, more, HasDrilled}

-- how many of the commands are scans
abbrev scans : Wire → ℕ
scans wires.Scan = 1
scans _ = 0

abbrev scans_in : List Wire → ℕ
scans_in [] = 0
scans_in (wire ∷ left) = scans wire + scans_in left

module _ (s : Setting) where
  -- each scan comes to one report, and no other command to any
  one_each : (old : Shelves) (wire : Wire) (new : Shelves) (reply : Reply) → Does s old wire new reply → IsWithin reply → length (report_in reply) ≡ scans wire
  one_each old _ _ _ (put path bytes w) within = refl
  one_each old _ _ _ (del path) within = refl
  one_each old _ _ _ (rule name bytes w) within = refl
  one_each old _ _ _ (unrule name) within = refl
  one_each old _ _ _ (sync prefix files are w) within = refl
  one_each old _ _ _ (scan report is few) within = refl
  one_each old _ _ _ (scan_many many) within = absurd within
  one_each old _ _ _ (fix fixed is few w) within = refl
  one_each old _ _ _ (fix_many many) within = absurd within
  one_each old _ _ _ done within = refl

  counted : (all left : List Wire) (shelves : Shelves) (reports : List Report) → Drills s all left shelves reports → length reports + scans_in left ≡ scans_in all
  counted all _ _ _ begun = omega arith
  counted all _ _ _ (more wire left old new reports reply d does within) =
      let before : length reports + (scans wire + scans_in left) ≡ scans_in all = counted all (wire ∷ left) old reports d in
      let one = one_each old wire new reply does within in
      let longer = length-append reports (report_in reply) in
      omega (arith, before, one, longer)

  -- files have no scan among them
  no_scans : (numbers : List ℕ) (left : List Wire) → scans_in (map file numbers ++ left) ≡ scans_in left
  no_scans [] left = refl
  no_scans (n ∷ ns) left =
      let e = no_scans ns left in
      let f : 0 + scans_in (map file ns ++ left) ≡ scans_in left = omega (arith, e) in
      f

  pub two_reports : (count : ℕ) (reports : List Report) → HasDrilled s count reports → length reports ≡ 2
  two_reports count reports (shelves, drills) =
      let all : length reports + 0 ≡ scans_in (drill count) = counted (drill count) [] shelves reports drills in
      let two : scans_in (drill count) ≡ 2 = no_scans (range_with_len 0 count) (wires.Rule (codes "r") rules_text ∷ wires.Scan ∷ put_file 0 (codes "clean(read())") ∷ wires.Scan ∷ []) in
      omega (arith, all, two)

-- the items of a list of two
pub pair_of : (reports : List Report) (first second : Report) → length reports ≡ 2 → first ≡ get_or reports 0 first → second ≡ get_or reports 1 second → reports ≡ first ∷ second ∷ []
pair_of (a ∷ b ∷ []) first second e f g = ap (λ (x : Report). x ∷ b ∷ []) (sym f) ∙ ap (λ (x : Report). first ∷ x ∷ []) (sym g)
pair_of [] first second e f g = absurd cc
pair_of (a ∷ []) first second e f g = absurd cc
pair_of (a ∷ b ∷ c ∷ ds) first second e f g = absurd cc
