-- Files, one after the other.
use Rattle.std.proofs.Common.{◌≡◌, ◌⊎◌, inl, inr, ◌↔◌, ℕ, Bool, false, ◌<◌, List, [], ◌∷◌, ◌++◌, length, refl, sym, ap, ◌∙◌, subst, append_assoc, arith}
use Rattle.std.specs.Prelude.{IsTrue}
use Rattle.std.specs.declared.cmp.Ordering.TheVariants.{Less}
use Rattle.std.specs.Cmp.{IsTotalOrder}
use Rattle.std.proofs.lemmas.Bool.{cases_lt, false≢true}
use Rattle.std.proofs.lemmas.Cmp.{on_total}
use Rattle.std.specs.Ordering.{ordering_then}
use Rattle.node_tree.specs.Span.{span_cmp}
use Rattle.meta_bind.specs.Bounds.{name_cmp}
use Rattle.rule_form.specs.declared.rule.Rule.{Rule}
use Rattle.node_match.specs.Sets.{Among, Adds}
use Rattle.tree_match.specs.Ascending.{IsAscending}
use Rattle.report_form.specs.declared.notice.Notice.{Notice}
use Rattle.report_form.specs.declared.report.Reported.{Reported}
use Rattle.rule_files.specs.declared.rule_file.RuleFile.{RuleFile}
use Rattle.scan_session.specs.declared.scanner.Scanner.{Scanner}
use Rattle.file_results.specs.Sets.{IsExactly}
use Rattle.running_rules.specs.Notes.{notice_cmp}
use Rattle.running_rules.specs.NoteOrder.{name_total}
use Rattle.running_rules.specs.Running.{stated, running, rule_notices, AreApart}
use Rattle.file_results.specs.Reports.{reported_cmp, bound_cmp}
use Rattle.file_results.specs.Quieted.{Grammars}
use Rattle.scan_session.specs.Fresh.{IsResult, IsFileNotice, IsFresh}
use Rattle.file_results.specs.Shown.{File, file_cmp, IsResultIn, IsNoticeIn}
use Rattle.scan_session.specs.Scans.{AreAll, AreTooMany, HasScanned, Scans}
use Rattle.running_rules.proofs.Ids.{are_apart}
use Rattle.running_rules.proofs.Members.{among_left, among_right, among_either, adds_both}
use Rattle.file_results.proofs.Orders.{before_below, ascends_front, ascends_on, first_decides}
use Rattle.file_results.proofs.Traces.{same_path}

-- ---- all files

file_total : IsTotalOrder file_cmp
file_total = on_total (λ (f : File). f.0) name_total

pub path_of : (grammars : Grammars) (rules : List Rule) (file : File) (r : Reported) → IsResultIn grammars rules file r → r.path ≡ file.0
path_of grammars rules file r h = let s = h.2.3 in same_path grammars.leaf_of rules h.2.0 file.1 h.2.1 grammars.traced file.0 s.bare r s.is_found s.trace

-- what holds of a file before or of this one
one_file : {X : Type 0} (P : File → X → Type 0) (done : List File) (f : File) (x : X) → (((g : File) × Among done g × P g x) ⊎ P f x) ↔ ((g : File) × Among (done ++ f ∷ []) g × P g x)
one_file {X} P done f x = (
  λ h. elim h [ inl k ↦ (k.0, among_left done (f ∷ []) k.0 k.1, k.2) | inr p ↦ (f, among_right done (f ∷ []) f (inl refl), p) ],
  λ h. elim (among_either done (f ∷ []) h.0 h.1) [
    | inl a ↦ inl (h.0, a, h.2)
    | inr b ↦ elim b [ inl e ↦ (let Q : File → Type 0 = λ g. P g x in inr (subst Q (sym e) h.2)) | inr k ↦ absurd k ]
  ],
)

-- before the first file
pub none_yet : (grammars : Grammars) (rules : List Rule) (before : List Notice) (most : ℕ) (results : List Reported) (notices : List Notice) → results ≡ [] → notices ≡ before → AreAll grammars rules before most [] results notices
none_yet grammars rules before most results notices e f =
    let P : List Reported → List Notice → Type 0 = λ rs ns. AreAll grammars rules before most [] rs ns in
    subst (λ (ns : List Notice). P results ns) (sym f) (subst (λ (rs : List Reported). P rs before) (sym e) (record {
      few = omega arith;
      findings = record { exact = λ r. (λ k. absurd k, λ k. absurd k.1); ordered = tt };
      noted = λ n. (λ a. inl a, λ h. elim h [ inl a ↦ a | inr k ↦ absurd k.1 ]);
    }))

-- where there are too many findings already, there are with more files
pub still_more : (grammars : Grammars) (rules : List Rule) (most : ℕ) (files more : List File) (results : List Reported) → AreTooMany grammars rules most files results → AreTooMany grammars rules most (files ++ more) results
still_more grammars rules most files more results h = record {
  many = h.many;
  more = record {
    some = h.more.some;
    members = λ r k. let m = h.more.members r k in (m.0, among_left files more m.0 m.1, m.2);
    ordered = h.more.ordered;
    more = h.more.more;
  };
}

module _ (grammars : Grammars) (rules : List Rule) (before : List Notice) (most : ℕ) (files : List File) (f : File) (up : IsAscending file_cmp (files ++ f ∷ []))
    (old new : List Notice) (results found results' : List Reported)
    (far : AreAll grammars rules before most files results old) (finds : IsExactly reported_cmp (IsResultIn grammars rules f) found) (adds : Adds old new (IsNoticeIn grammars rules f)) (results-are : results' ≡ results ++ found) where
  earlier : (x y : Reported) → Among results x → Among found y → reported_cmp x y ≡ Less
  earlier x y h k =
      let a = (far.findings.exact x).0 h in
      let b = (finds.exact y).0 k in
      let less = before_below file_cmp file_total files f [] a.0 up a.1 in
      let e : name_cmp x.path y.path ≡ name_cmp a.0.0 f.0 = ap (λ (p : List ℕ). name_cmp p y.path) (path_of grammars rules a.0 x a.2) ∙ ap (λ (p : List ℕ). name_cmp a.0.0 p) (path_of grammars rules f y b) in
      first_decides (name_cmp x.path y.path) (ordering_then (span_cmp x.finding.span y.finding.span) (ordering_then (name_cmp x.id y.id) (bound_cmp x.finding y.finding))) (e ∙ less)

  more_results : IsExactly reported_cmp (IsResult grammars rules (files ++ f ∷ [])) results'
  more_results =
      let P : List Reported → Type 0 = λ rs. IsExactly reported_cmp (IsResult grammars rules (files ++ f ∷ [])) rs in
      subst P (sym results-are) (record {
        exact = λ r.
            let one = one_file (λ g x. IsResultIn grammars rules g x) files f r in (
              λ h. one.0 (elim (among_either results found r h) [ inl a ↦ inl ((far.findings.exact r).0 a) | inr b ↦ inr ((finds.exact r).0 b) ]),
              λ h. elim (one.1 h) [ inl a ↦ among_left results found r ((far.findings.exact r).1 a) | inr b ↦ among_right results found r ((finds.exact r).1 b) ],
            );
        ordered = ascends_on reported_cmp results found far.findings.ordered finds.ordered earlier;
      })

  pub one_more : AreAll grammars rules before most (files ++ f ∷ []) results' new ⊎ AreTooMany grammars rules most (files ++ f ∷ []) results'
  one_more = elim (cases_lt most (length results')) [
    | inl many ↦ inr (record { many = many; more = record { some = results'; members = λ r h. (more_results.exact r).0 h; ordered = more_results.ordered; more = many } })
    | inr few ↦ inl (record {
      few = few;
      findings = more_results;
      noted = adds_both before old new (IsFileNotice grammars rules files) (IsNoticeIn grammars rules f) (IsFileNotice grammars rules (files ++ f ∷ [])) far.noted adds (λ n. one_file (λ g x. IsNoticeIn grammars rules g x) files f n);
    })
  ]

-- ---- what a scan holds

-- a test that fails shows that there are not too many findings
pub not_over : {R : Type 0} (s : Scanner R) (b : Bool) → (IsTrue b ↔ s.most < length s.results) → b ≡ false → s.most < length s.results → ⊥
not_over s b test e many = false≢true (sym e ∙ test.1 many)

module _ {R : Type 0} (grammars : Grammars) (refused : List (List ℕ)) (rule_files : List RuleFile) (most : ℕ) (files : List File) (s : Scanner R) (h : HasScanned grammars refused rule_files most files s) where
  pub whole : (s.most < length s.results → ⊥) → AreAll grammars (running refused rule_files) (rule_notices refused rule_files) most files s.results s.notices.items
  whole few = elim h.found [ inl all ↦ all | inr more ↦ absurd (few (omega (arith, h.limit, more.many))) ]

  pub over : s.most < length s.results → AreTooMany grammars (running refused rule_files) most files s.results
  over many = elim h.found [ inl all ↦ absurd (omega (arith, h.limit, many, all.few)) | inr more ↦ more ]

  pub passed_over : (more : List File) → s.most < length s.results → HasScanned grammars refused rule_files most (files ++ more) s
  passed_over more many = record { limit = h.limit; rules = h.rules; found = inr (still_more grammars (running refused rule_files) most files more s.results (over many)) }

  pub found_more : (f : File) (rules : List Rule) (new : List Notice) (found results' : List Reported) → IsAscending file_cmp (files ++ f ∷ []) → rules ≡ s.running.items → (s.most < length s.results → ⊥)
      → IsExactly reported_cmp (IsResultIn grammars rules f) found → Adds s.notices.items new (IsNoticeIn grammars rules f) → results' ≡ s.results ++ found
      → AreAll grammars (running refused rule_files) (rule_notices refused rule_files) most (files ++ f ∷ []) results' new ⊎ AreTooMany grammars (running refused rule_files) most (files ++ f ∷ []) results'
  found_more f rules new found results' up e few finds adds put =
      let P : List Rule → Type 0 = λ rs. IsExactly reported_cmp (IsResultIn grammars rs f) found in
      let Q : List Rule → Type 0 = λ rs. Adds s.notices.items new (IsNoticeIn grammars rs f) in
      one_more grammars (running refused rule_files) (rule_notices refused rule_files) most files f up s.notices.items new s.results found results' (whole few) (subst P (e ∙ h.rules) finds) (subst Q (e ∙ h.rules) adds) put

-- ---- scans of some files after others

pub scans_then : {R : Type 0} (grammars : Grammars) (xs ys : List File) (a b c : Scanner R) → Scans grammars xs a b → Scans grammars ys b c → Scans grammars (xs ++ ys) a c
scans_then grammars xs ys a b c first second refused rule_files most files up h =
    let e : files ++ (xs ++ ys) ≡ (files ++ xs) ++ ys = sym (append_assoc files xs ys) in
    let P : List File → Type 0 = λ fs. HasScanned grammars refused rule_files most fs c in
    let Q : List File → Type 0 = λ fs. IsAscending file_cmp fs in
    let up' = subst Q e up in
    subst P (sym e) (second refused rule_files most (files ++ xs) up' (first refused rule_files most files (ascends_front file_cmp (files ++ xs) ys up') h))

-- ---- the report

pub is_fresh : {R : Type 0} (grammars : Grammars) (refused : List (List ℕ)) (rule_files : List RuleFile) (most : ℕ) (files : List File) (s : Scanner R) (listed : List Notice) → HasScanned grammars refused rule_files most files s → (s.most < length s.results → ⊥)
    → IsAscending notice_cmp listed → ((n : Notice) → Among listed n ↔ Among s.notices.items n) → IsFresh grammars refused files rule_files (record { results = s.results; notices = listed })
is_fresh grammars refused rule_files most files s listed h few up same =
    let all = whole grammars refused rule_files most files s h few in
    record {
      results = all.findings;
      notices = record { exact = λ n. (λ k. (all.noted n).0 ((same n).0 k), λ k. (same n).1 ((all.noted n).1 k)); ordered = up };
    }
