-- Later refusals change no earlier report.
use Rattle.std.proofs.Common.{◌≡◌, ℕ, List, ◌++◌, sym, subst}
use Rattle.scan_world.specs.Files.{Files}
use Rattle.rule_form.specs.declared.rule.Rule.{Rule}
use Rattle.rule_files.specs.declared.rule_file.RuleFile.{RuleFile}
use Rattle.rule_map.specs.RuleMap.{AreRuleFiles}
use Rattle.report_form.specs.declared.report.Report.{Report}
use Rattle.fix_apply.specs.declared.fixed.FixReport.{FixReport}
use Rattle.decided_texts.specs.Decided.{Decisions, AreDecided, AreUndecided}
use Rattle.scan_session.specs.Sets.{HasMore}
use Rattle.scan_session.specs.Reports.{reported_cmp}
use Rattle.running_rules.specs.Running.{stated, texts_of}
use Rattle.scan_session.specs.Fresh.{IsResult}
use Rattle.scan_session.proofs.Later.{same_running, same_fresh}
use Rattle.workspace.specs.Reports.{Readings, IsReport, HasMoreResults, AreAllDecided}
use Rattle.workspace.specs.Fixes.{IsFixReport}

module _ (readings : Readings) (files rules : Files) (d : Decisions) (more : List (List ℕ)) (all : AreAllDecided readings.writes rules d) (later : AreUndecided d more) where
  decided : (contents : List RuleFile) → AreRuleFiles readings.writes rules contents → AreDecided d (texts_of (stated contents))
  decided contents are text h = all contents text are h

  pub report_still : (report : Report) → IsReport readings d.refused files rules report → IsReport readings (d.refused ++ more) files rules report
  report_still report r = record { contents = r.contents; are = r.are; fresh = (same_fresh d more r.contents later (decided r.contents r.are) readings.grammars files report).1 r.fresh }

  pub more_still : (most : ℕ) → HasMoreResults readings d.refused files rules most → HasMoreResults readings (d.refused ++ more) files rules most
  more_still most h = record {
    contents = h.contents;
    are = h.are;
    more = subst (λ (rs : List Rule). HasMore reported_cmp (IsResult readings.grammars rs files) most) (sym (same_running d more h.contents later (decided h.contents h.are))) h.more;
  }

  pub fix_still : (fixed : FixReport) → IsFixReport readings d.refused files rules fixed → IsFixReport readings (d.refused ++ more) files rules fixed
  fix_still fixed f = record { report = report_still fixed.report f.report; fixes = f.fixes }
