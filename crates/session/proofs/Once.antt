-- A scan of files of which none was seen before.
use Rattle.std.proofs.Common.{◌≡◌, ◌≤◌, ◌<◌, ◌+◌, ℕ, Bool, List, [], ◌∷◌, ◌++◌, length, map, take, drop, get_or, refl, sym, ap, ◌∙◌, subst}
use Rattle.std.specs.Prelude.{Result, Ok, Err, IfOk}
use Rattle.std.proofs.lemmas.List.{take_all, map-append, take-append-drop}
use Rattle.scan_world.specs.Files.{Files}
use Rattle.report_form.specs.declared.report.Report.{Report}
use Rattle.rule_form.specs.declared.rule.Rule.{Rule}
use Rattle.rule_files.specs.declared.rule_file.RuleFile.{RuleFile}
use Rattle.rule_map.specs.RuleMap.{AreRuleFiles}
use Rattle.tree_match.specs.Ascending.{IsAscending}
use Rattle.running_rules.specs.Running.{running, stated, AreApart}
use Rattle.running_rules.proofs.Ids.{are_apart}
use Rattle.scan_session.specs.declared.scanner.Scanner.{Scanner}
use Rattle.scan_session.specs.declared.fault.ScanFault.{ScanFault}
use Rattle.scan_session.specs.declared.fault.ScanFault.TheVariants.{Memory, TooMany}
use Rattle.scan_session.specs.Quieted.{Grammars}
use Rattle.scan_session.specs.Shown.{File, file_cmp}
use Rattle.scan_session.specs.Sets.{HasMore}
use Rattle.scan_session.specs.Reports.{reported_cmp}
use Rattle.scan_session.specs.Fresh.{IsFresh, IsResult}
use Rattle.scan_session.specs.Scans.{HasScanned, Scans, AfterScan}
use Rattle.scan_session.proofs.Orders.{ascends_front}
use Rattle.seen_files.specs.declared.seen.SeenFile.{SeenFile}
use Rattle.seen_files.specs.Fresh.{SpendsOn, SeesFresh}
use Rattle.seen_files.specs.Seen.{file_of, IsSeen}
use Rattle.seen_files.proofs.Fresh.{fresh_more}
use Rattle.workspace.specs.Reports.{Readings, IsReport, HasMoreResults}
use Rattle.workspace.specs.Work.{WorksOnce}
use Rattle.session.specs.Reporting.{TellsReport}
use Rattle.session.proofs.Adding.{manner_of, after_all}
use Rattle.session.proofs.Reports.{is_report, has_more}
use Rattle.session.proofs.Telling.{tells}
use Rattle.session.proofs.Walks.{one_taken}

-- ---- one file after the other

module _ {X : Type 0} (f : X → File) (items : List X) (files : List File) (are : map f items ≡ files) (up : IsAscending file_cmp files) where
  module _ (i : ℕ) (x d : X) (lt : i < length items) (is : x ≡ get_or items i d) (path bytes : List ℕ) (named : f x ≡ (path, bytes)) where
    joined : map f (take i items) ++ (path, bytes) ∷ [] ≡ map f (take (i + 1) items)
    joined =
        ap (λ (file : File). map f (take i items) ++ file ∷ []) (sym named)
        ∙ sym (map-append f (take i items) (x ∷ [])) ∙ ap (map f) (sym (one_taken items i x d lt is))

    in_order : IsAscending file_cmp (map f (take i items) ++ (path, bytes) ∷ [])
    in_order =
        let P : List File → Type 0 = λ fs. IsAscending file_cmp fs in
        let whole : files ≡ map f (take (i + 1) items) ++ map f (drop (i + 1) items) =
        sym are ∙ ap (map f) (sym (take-append-drop (i + 1) items)) ∙ map-append f (take (i + 1) items) (drop (i + 1) items) in
        subst P (sym joined) (ascends_front file_cmp (map f (take (i + 1) items)) (map f (drop (i + 1) items)) (subst P whole up))

    pub sees_more : (grammars : Grammars) (rules : List Rule) (s : SeenFile) → file_of s ≡ (path, bytes) → IsSeen grammars rules s → (before mid after : ℕ) → SeesFresh grammars rules (map f (take i items)) before mid → SpendsOn rules s mid after
        → SeesFresh grammars rules (map f (take (i + 1) items)) before after
    sees_more grammars rules s file_is seen before mid after far one =
        let P : List File → Type 0 = λ fs. SeesFresh grammars rules fs before after in
        subst P joined (fresh_more grammars rules (map f (take i items)) path bytes in_order s file_is seen before mid after far one)

  pub sees_all : (grammars : Grammars) (rules : List Rule) (i : ℕ) → length items ≤ i → (before after : ℕ) → SeesFresh grammars rules (map f (take i items)) before after → SeesFresh grammars rules files before after
  sees_all grammars rules i end before after far =
      let P : List File → Type 0 = λ fs. SeesFresh grammars rules fs before after in
      subst P (ap (map f) (take_all i items end) ∙ are) far

-- ---- the rules that run

-- no two of them have one id
pub rules_apart : {R : Type 0} (grammars : Grammars) (refused : List (List ℕ)) (contents : List RuleFile) (most : ℕ) (scanner : Scanner R) → HasScanned grammars refused contents most [] scanner → AreApart scanner.running.items
rules_apart grammars refused contents most scanner begun = let P : List Rule → Type 0 = AreApart in subst P (sym begun.rules) (are_apart refused (stated contents))

-- ---- the report

-- all files were scanned, so what is said of the scan's report is said of these
pub told : {R : Type 0} (grammars : R × Bool → Grammars) (manner : R × Bool) (refused : List (List ℕ)) (contents : List RuleFile) (most : ℕ) (files : List File) (begun scanned : Scanner R) → IsAscending file_cmp files
    → HasScanned (grammars manner) refused contents most [] begun → Scans (grammars manner) files begun scanned → manner_of scanned ≡ manner → (r : Result Report ScanFault)
    → AfterScan (grammars (manner_of scanned)) scanned (λ g refused rules most files. IfOk r (IsFresh g refused files rules))
    → AfterScan (grammars (manner_of scanned)) scanned (λ g refused rules most files. IfOk r (λ report. length report.results ≤ most))
    → AfterScan (grammars (manner_of scanned)) scanned (λ g refused rules most files. (n : ℕ) → r ≡ Err (TooMany n) → (n ≡ most) × HasMore reported_cmp (IsResult g (running refused rules) files) most)
    → AfterScan (grammars (manner_of scanned)) scanned (λ g refused rules most files. IfOk r (λ report. (o : Report) → IsFresh g refused files rules o → o ≡ report))
    → TellsReport (grammars manner) refused contents most files r
told grammars manner refused contents most files begun scanned up has scans still r fresh few many only =
    let all = scans refused contents most [] up has in
    let after = after_all grammars manner scanned still refused contents most files all in
    tells (grammars manner) refused contents most files r
    (after (λ g refused rules most files. IfOk r (IsFresh g refused files rules)) fresh)
    (after (λ g refused rules most files. IfOk r (λ report. length report.results ≤ most)) few)
    (after (λ g refused rules most files. (n : ℕ) → r ≡ Err (TooMany n) → (n ≡ most) × HasMore reported_cmp (IsResult g (running refused rules) files) most) many)
    (after (λ g refused rules most files. IfOk r (λ report. (o : Report) → IsFresh g refused files rules o → o ≡ report)) only)

-- ---- what is said of a report by the scan's reader is said by that of the rules

module _ {R : Type 0} (readings : R → Readings) (used reader : R) (same : used ≡ reader) (files rules : Files) (contents : List RuleFile) (are : AreRuleFiles (readings reader).writes rules contents) (refused : List (List ℕ)) where
  module _ (most : ℕ) where
    pub once_report : (r : Result Report ScanFault) → TellsReport (readings used).grammars refused contents most files r → IfOk r (IsReport (readings reader) refused files rules)
    once_report (Ok report) told = is_report readings used reader same files rules contents are refused report told.fresh
    once_report (Err fault) told = tt

    pub once_few : (r : Result Report ScanFault) → TellsReport (readings used).grammars refused contents most files r → IfOk r (λ report. length report.results ≤ most)
    once_few (Ok report) told = told.few
    once_few (Err fault) told = tt

    pub once_many : (r : Result Report ScanFault) → TellsReport (readings used).grammars refused contents most files r → (n : ℕ) → r ≡ Err (TooMany n) → (n ≡ most) × HasMoreResults (readings reader) refused files rules n
    once_many r told n e =
        let P : Result Report ScanFault → Type 0 = λ x. TellsReport (readings used).grammars refused contents most files x in
        let m = subst P e told in
        has_more readings used reader same files rules contents are refused most n (m.told_is, m.more)

  pub once_works : (scanner : Scanner R) (most : ℕ) → HasScanned (readings used).grammars refused contents most [] scanner → (before after : ℕ) → SeesFresh (readings used).grammars scanner.running.items files before after
      → WorksOnce (readings reader) refused files rules before after
  once_works scanner most begun before after sees =
      let P : R → Type 0 = λ x. SeesFresh (readings x).grammars (running refused contents) files before after in
      let Q : List Rule → Type 0 = λ rs. SeesFresh (readings used).grammars rs files before after in
      record { contents = contents; are = are; sees = subst P same (subst Q begun.rules sees) }
