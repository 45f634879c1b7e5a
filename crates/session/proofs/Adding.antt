-- What was found in files that were seen is added to a scan.
use Rattle.std.proofs.Common.{◌≡◌, inl, inr, ◌↔◌, Bool, ℕ, zero, suc, ◌+◌, ◌<◌, ◌≤◌, List, [], ◌∷◌, ◌++◌, length, take, drop, map, get_or, refl, sym, ap, ◌∙◌, subst, arith}
use Rattle.std.proofs.lemmas.List.{take_all, map-append, take-append-drop}
use Rattle.report_form.specs.declared.notice.Notice.{Notice}
use Rattle.report_form.specs.declared.report.Reported.{Reported}
use Rattle.rule_form.specs.declared.rule.Rule.{Rule}
use Rattle.rule_files.specs.declared.rule_file.RuleFile.{RuleFile}
use Rattle.node_match.specs.Sets.{Among}
use Rattle.tree_match.specs.Ascending.{IsAscending}
use Rattle.running_rules.specs.Running.{running}
use Rattle.scan_session.specs.declared.scanner.Scanner.{Scanner}
use Rattle.scan_session.specs.Sets.{IsExactly}
use Rattle.scan_session.specs.Reports.{reported_cmp}
use Rattle.scan_session.specs.Quieted.{Grammars}
use Rattle.scan_session.specs.Shown.{File, file_cmp, IsResultIn, IsNoticeIn}
use Rattle.scan_session.specs.Scans.{HasScanned, Scans, AfterScan}
use Rattle.scan_session.proofs.Orders.{ascends_front}
use Rattle.seen_files.specs.declared.seen.SeenFile.{SeenFile}
use Rattle.seen_files.specs.declared.seen.SeenFiles.{SeenFiles}
use Rattle.seen_files.specs.Seen.{file_of, IsSeen, HasSeen}
use Rattle.session.proofs.Walks.{one_taken}

among_items : {X : Type 0} (xs : List X) (i : ℕ) (d : X) → i < length xs → Among xs (get_or xs i d)
among_items [] i d lt = absurd (omega (arith, lt))
among_items (x ∷ xs) zero d lt = inl refl
among_items (x ∷ xs) (suc i) d lt = inr (among_items xs i d (omega (arith, lt)))

-- what reads the files of a scan, and whether findings have their traces
abbrev pub manner_of : {R : Type 0} → Scanner R → R × Bool
manner_of s = (s.reader.now, s.traced)

pub in_manner : {R : Type 0} (s : Scanner R) (reader : R) (traced : Bool) → s.reader.now ≡ reader → s.traced ≡ traced → manner_of s ≡ (reader, traced)
in_manner {R} s reader traced reader_is traced_is =
    let F : R → R × Bool = λ r. (r, s.traced) in
    let G : Bool → R × Bool = λ b. (reader, b) in
    ap F reader_is ∙ ap G traced_is

-- both are as they were
pub same_manner : {R : Type 0} (now begun : Scanner R) → now.reader.now ≡ begun.reader.now → now.traced ≡ begun.traced → manner_of now ≡ manner_of begun
same_manner now begun = in_manner now begun.reader.now begun.traced

-- Whichever rules the scan is by and whatever files were seen by them, the scan has looked at these.
abbrev pub HasAdded : {R : Type 0} → Grammars → SeenFiles → Scanner R → List File → Scanner R → Type 0
HasAdded grammars seen begun done now =
    (refused : List (List ℕ)) (rules : List RuleFile) (most : ℕ) (files : List File) → HasScanned grammars refused rules most [] begun → HasSeen grammars (running refused rules) files seen → HasScanned grammars refused rules most done now

pub added_none : {R : Type 0} (grammars : Grammars) (seen : SeenFiles) (begun : Scanner R) → HasAdded grammars seen begun [] begun
added_none grammars seen begun refused rules most files has sees = has

-- what was found in a file that was seen, added to a scan in the same manner by the same rules
module _ {R : Type 0} (grammars : R × Bool → Grammars) (manner : R × Bool) (now next : Scanner R) (still : manner_of now ≡ manner) (rules : List Rule) (rules_are : now.running.items ≡ rules) (x : SeenFile) (s : IsSeen (grammars manner) rules x)
    (results : List Reported) (notices : List Notice) (results_are : results ≡ x.results) (notices_are : notices ≡ x.notices)
    (adds : (file : File) → IsExactly reported_cmp (IsResultIn (grammars (manner_of now)) now.running.items file) results → ((n : Notice) → Among notices n ↔ IsNoticeIn (grammars (manner_of now)) now.running.items file n) → Scans (grammars (manner_of now)) (file ∷ []) now next) where
  own_results : IsExactly reported_cmp (IsResultIn (grammars (manner_of now)) now.running.items (file_of x)) results
  own_results =
      let P : R × Bool → List Rule → List Reported → Type 0 = λ r rs l. IsExactly reported_cmp (IsResultIn (grammars r) rs (file_of x)) l in
      let A : List Reported → Type 0 = λ l. P manner rules l in
      let B : List Rule → Type 0 = λ rs. P manner rs results in
      let C : R × Bool → Type 0 = λ r. P r now.running.items results in
      subst C (sym still) (subst B (sym rules_are) (subst A (sym results_are) s.results))

  own_notices : (n : Notice) → Among notices n ↔ IsNoticeIn (grammars (manner_of now)) now.running.items (file_of x) n
  own_notices =
      let P : R × Bool → List Rule → List Notice → Type 0 = λ r rs l. (n : Notice) → Among l n ↔ IsNoticeIn (grammars r) rs (file_of x) n in
      let A : List Notice → Type 0 = λ l. P manner rules l in
      let B : List Rule → Type 0 = λ rs. P manner rs notices in
      let C : R × Bool → Type 0 = λ r. P r now.running.items notices in
      subst C (sym still) (subst B (sym rules_are) (subst A (sym notices_are) s.notices))

  pub own_scan : Scans (grammars manner) (file_of x ∷ []) now next
  own_scan = let P : R × Bool → Type 0 = λ r. Scans (grammars r) (file_of x ∷ []) now next in subst P still (adds (file_of x) own_results own_notices)

-- one more file
module _ {R : Type 0} (grammars : R × Bool → Grammars) (seen : SeenFiles) (begun now next : Scanner R) (still : manner_of now ≡ manner_of begun)
    (items : List SeenFile) (are : items ≡ seen.files) (i : ℕ) (x d : SeenFile) (lt : i < length items) (is : x ≡ get_or items i d)
    (results : List Reported) (notices : List Notice) (results_are : results ≡ x.results) (notices_are : notices ≡ x.notices)
    (adds : (file : File) → IsExactly reported_cmp (IsResultIn (grammars (manner_of now)) now.running.items file) results → ((n : Notice) → Among notices n ↔ IsNoticeIn (grammars (manner_of now)) now.running.items file n) → Scans (grammars (manner_of now)) (file ∷ []) now next) where
  there : Among seen.files x
  there = let P : List SeenFile → Type 0 = λ l. Among l x in subst P are (let Q : SeenFile → Type 0 = λ y. Among items y in subst Q (sym is) (among_items items i d lt))

  joined : map file_of (take i items) ++ file_of x ∷ [] ≡ map file_of (take (i + 1) items)
  joined = sym (map-append file_of (take i items) (x ∷ [])) ∙ ap (map file_of) (sym (one_taken items i x d lt is))

  in_order : (files : List File) → map file_of seen.files ≡ files → IsAscending file_cmp files → IsAscending file_cmp (map file_of (take i items) ++ file_of x ∷ [])
  in_order files files_are up =
      let P : List File → Type 0 = λ fs. IsAscending file_cmp fs in
      let whole : files ≡ map file_of (take (i + 1) items) ++ map file_of (drop (i + 1) items) =
      sym files_are ∙ ap (map file_of) (sym are) ∙ ap (map file_of) (sym (take-append-drop (i + 1) items)) ∙ map-append file_of (take (i + 1) items) (drop (i + 1) items) in
      subst P (sym joined) (ascends_front file_cmp (map file_of (take (i + 1) items)) (map file_of (drop (i + 1) items)) (subst P whole up))

  pub added_more : HasAdded (grammars (manner_of begun)) seen begun (map file_of (take i items)) now → HasAdded (grammars (manner_of begun)) seen begun (map file_of (take (i + 1) items)) next
  added_more far refused rules most files has sees =
      let done = map file_of (take i items) in
      let so_far = far refused rules most files has sees in
      let P : List File → Type 0 = λ fs. HasScanned (grammars (manner_of begun)) refused rules most fs next in
      subst P joined (own_scan grammars (manner_of begun) now next still (running refused rules) so_far.rules x (sees.all x there) results notices results_are notices_are adds refused rules most done (in_order files sees.files_are sees.ordered) so_far)

-- all files
pub added_all : {R : Type 0} (grammars : Grammars) (seen : SeenFiles) (begun now : Scanner R) (items : List SeenFile) → items ≡ seen.files → (i : ℕ) → length items ≤ i → HasAdded grammars seen begun (map file_of (take i items)) now
    → (refused : List (List ℕ)) (rules : List RuleFile) (most : ℕ) (files : List File) → HasScanned grammars refused rules most [] begun → HasSeen grammars (running refused rules) files seen → HasScanned grammars refused rules most files now
added_all grammars seen begun now items are i end far refused rules most files has sees =
    let P : List File → Type 0 = λ fs. HasScanned grammars refused rules most fs now in
    subst P (ap (map file_of) (take_all i items end ∙ are) ∙ sees.files_are) (far refused rules most files has sees)

-- what is said after a scan in its own manner is said in the same one
pub after_all : {R : Type 0} (grammars : R × Bool → Grammars) (manner : R × Bool) (scanned : Scanner R) → manner_of scanned ≡ manner → (refused : List (List ℕ)) (rules : List RuleFile) (most : ℕ) (files : List File) → HasScanned (grammars manner) refused rules most files scanned
    → (P : Grammars → List (List ℕ) → List RuleFile → ℕ → List File → Type 0) → AfterScan (grammars (manner_of scanned)) scanned P → P (grammars manner) refused rules most files
after_all {R} grammars manner scanned still refused rules most files has P h = let Q : R × Bool → Type 0 = λ r. AfterScan (grammars r) scanned P in subst Q still h refused rules most files has
