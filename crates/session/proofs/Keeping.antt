-- What a session knows of its rules, from one scan to the next.
use Rattle.std.proofs.Common.{◌≡◌, inl, inr, ℕ, Bool, true, false, List, [], ◌∷◌, ◌++◌, refl, sym, ap, ◌∙◌, subst}
use Rattle.std.specs.Prelude.{Result}
use Rattle.scan_world.specs.Files.{Files}
use Rattle.report_form.specs.declared.report.Report.{Report}
use Rattle.rule_form.specs.declared.rule.Rule.{Rule}
use Rattle.rule_entries.specs.Finds.{Writes}
use Rattle.rule_files.specs.declared.rule_file.RuleFile.{RuleFile}
use Rattle.rule_map.specs.RuleMap.{AreRuleFiles}
use Rattle.node_match.specs.Sets.{Among}
use Rattle.decided_texts.specs.Decided.{Decisions, AreDecided, AreUndecided}
use Rattle.decided_texts.specs.Deciding.{Grows}
use Rattle.running_rules.specs.Running.{running as rules_of, stated, texts_of, AreApart}
use Rattle.running_rules.proofs.Ids.{are_apart}
use Rattle.running_rules.proofs.Members.{among_left}
use Rattle.scan_session.specs.declared.scanner.Scanner.{Scanner}
use Rattle.scan_session.specs.declared.fault.ScanFault.{ScanFault}
use Rattle.scan_session.specs.Quieted.{Grammars}
use Rattle.scan_session.specs.Shown.{File}
use Rattle.scan_session.specs.Scans.{HasScanned}
use Rattle.scan_session.proofs.Later.{same_running}
use Rattle.seen_files.specs.declared.seen.SeenFiles.{SeenFiles}
use Rattle.seen_files.specs.Needs.{IsNeeded}
use Rattle.seen_files.specs.Seen.{HasSeen, HasSeenNone, AfterSeen}
use Rattle.seen_files.specs.Spends.{Spends}
use Rattle.seen_files.proofs.Walking.{nothing_seen}
use Rattle.workspace.specs.Reports.{Readings, AreAllDecided}
use Rattle.workspace.specs.Work.{Works}
use Rattle.session.specs.Reporting.{TellsReport}
use Rattle.session.specs.ScanState.{IsUpToDate}

-- ---- no scan

-- nothing was seen
pub none_seen : (grammars : Grammars) (rules : List Rule) (seen : SeenFiles) → HasSeenNone seen → IsUpToDate grammars rules seen
none_seen grammars rules seen h = record { files_before = []; has_seen = nothing_seen grammars rules seen h }

-- the same was seen by the same reader
pub same_seen : {R : Type 0} (grammars : R → Grammars) (was is : R) → is ≡ was → (rules : List Rule) (seen : SeenFiles) → IsUpToDate (grammars was) rules seen → IsUpToDate (grammars is) rules seen
same_seen {R} grammars was is reader rules seen h = let P : R → Type 0 = λ r. IsUpToDate (grammars r) rules seen in subst P (sym reader) h

-- ---- a scan

module _ {R : Type 0} (grammars : R → Bool → Grammars) (traced : Bool) (writes : R → Writes) (used reader : R) (same : used ≡ reader)
    (rules : Files) (contents : List RuleFile) (are : AreRuleFiles (writes reader) rules contents) (one : (others : List RuleFile) → AreRuleFiles (writes reader) rules others → others ≡ contents)
    (new : Decisions) (decided : AreDecided new (texts_of (stated contents))) (before : List Rule) (was : SeenFiles) (up : IsUpToDate (grammars reader traced) before was)
    (most : ℕ) (scanner : Scanner R) (begun : HasScanned (grammars used traced) new.refused contents most [] scanner) (running : List Rule) (running_is : running ≡ scanner.running.items) where
  rules_are : running ≡ rules_of new.refused contents
  rules_are = running_is ∙ begun.rules

  apart : AreApart running
  apart = let P : List Rule → Type 0 = AreApart in subst P (sym rules_are) (are_apart new.refused (stated contents))

  pub all_decided : AreAllDecided (writes reader) rules new
  all_decided others text they among = let P : List RuleFile → Type 0 = λ cs. Among (texts_of (stated cs)) text in decided text (subst P (one others they) among)

  module _ (files : Files) (seen : SeenFiles) (sees : AfterSeen (grammars used traced) before running was (λ files_before. HasSeen (grammars used traced) running files seen)) where
    has_seen : HasSeen (grammars reader traced) (rules_of new.refused contents) files seen
    has_seen =
        let F : R → Type 0 = λ r. AfterSeen (grammars r traced) before running was (λ files_before. HasSeen (grammars r traced) running files seen) in
        let P : List Rule → Type 0 = λ rs. HasSeen (grammars reader traced) rs files seen in
        subst P rules_are (subst F same sees up.files_before up.has_seen apart)

    pub up_to_date : (rules_by : List Rule) → rules_by ≡ running → IsUpToDate (grammars reader traced) rules_by seen
    up_to_date rules_by e =
        let P : List Rule → Type 0 = λ rs. HasSeen (grammars reader traced) rs files seen in
        record { files_before = files; has_seen = subst P (sym (e ∙ rules_are)) has_seen }

    pub works : (start end : ℕ) → AfterSeen (grammars used traced) before running was (λ files_before. Spends files_before files (IsNeeded before was.files) (IsNeeded running seen.files) start end)
        → Works (record { grammars = grammars reader traced; writes = writes reader }) new.refused files rules was seen start end
    works start end spent =
        let F : R → Type 0 = λ r. AfterSeen (grammars r traced) before running was (λ files_before. Spends files_before files (IsNeeded before was.files) (IsNeeded running seen.files) start end) in
        let P : List Rule → Type 0 = λ rs. Spends up.files_before files (IsNeeded before was.files) (IsNeeded rs seen.files) start end in
        record {
          contents = contents;
          are = are;
          seen = has_seen;
          rules_before = before;
          files_before = up.files_before;
          was = up.has_seen;
          spends = subst P rules_are (subst F same spent up.files_before up.has_seen apart);
        }

    -- whatever is said of the report by the scan's reader and its flag is said by those of the rules
    pub answers : (r : Result Report ScanFault) → scanner.reader.now ≡ used → scanner.traced ≡ traced
        → ((refused : List (List ℕ)) (cs : List RuleFile) (n : ℕ) (fs : List File) → HasScanned (grammars scanner.reader.now scanner.traced) refused cs n [] scanner → HasSeen (grammars scanner.reader.now scanner.traced) (rules_of refused cs) fs seen → TellsReport (grammars scanner.reader.now scanner.traced) refused cs n fs r)
        → (others : List RuleFile) → AreRuleFiles (writes reader) rules others → TellsReport (grammars reader traced) new.refused others most files r
    answers r its_own its_flag told others they =
        let T : R → Bool → Type 0 = λ x b. (refused : List (List ℕ)) (cs : List RuleFile) (n : ℕ) (fs : List File) → HasScanned (grammars x b) refused cs n [] scanner → HasSeen (grammars x b) (rules_of refused cs) fs seen → TellsReport (grammars x b) refused cs n fs r in
        let F : R → Type 0 = λ x. T x traced in
        let G : Bool → Type 0 = λ b. T scanner.reader.now b in
        let H : R → Type 0 = λ x. HasScanned (grammars x traced) new.refused contents most [] scanner in
        let P : List RuleFile → Type 0 = λ cs. TellsReport (grammars reader traced) new.refused cs most files r in
        subst P (sym (one others they)) (subst F (its_own ∙ same) (subst G its_flag told) new.refused contents most files (subst H same begun) has_seen)
