-- No number of a report is a fraction.
use Rattle.std.proofs.Common.{◌≡◌, ℕ, List, [], ◌∷◌, map, false, ◌||◌, Option, None, Some, codes, refl, ap, ◌∙◌}
use Rattle.serde_json.specs.Data.{Data, string, Members, member}
use Rattle.serde_json.specs.View.{items_of}
use Rattle.serde_json.specs.Written.{has_float, items_have_float, members_have_float}
use Rattle.graph_form.specs.declared.graph.Role.{Role}
use Rattle.node_tree.specs.declared.span.Span.{Span}
use Rattle.meta_bind.specs.declared.bound.Bound.{Bound}
use Rattle.report_form.specs.declared.notice.Notice.{Notice}
use Rattle.report_form.specs.declared.report.Reported.{Reported}
use Rattle.report_form.specs.declared.report.Report.{Report}
use Rattle.report_form.specs.declared.edit.Edit.{Edit}
use Rattle.fix_apply.specs.declared.fixed.FixedFile.{FixedFile}
use Rattle.fix_apply.specs.declared.fixed.FixReport.{FixReport}
use Rattle.finding_json.specs.Reports.{metavar_members, stop_data, trace_members, with_source, with_fix, result_data, notice_data, report_members, report_data, edit_data, fixed_data, fix_data}

in_list : {X : Type 0} (f : X → Data) → ((x : X) → has_float (f x) ≡ false) → (xs : List X) → items_have_float (items_of (map f xs)) ≡ false
in_list f none [] = refl
in_list f none (x ∷ xs) = ap (λ b. b || items_have_float (items_of (map f xs))) (none x) ∙ in_list f none xs

in_metavars : (bs : List Bound) → members_have_float (metavar_members bs) ≡ false
in_metavars [] = refl
in_metavars (b ∷ bs) = in_metavars bs

in_stop : (stop : ℕ × Role) → has_float (stop_data stop) ≡ false
in_stop stop = refl

in_trace : (trace : List (ℕ × Role)) → members_have_float (trace_members trace) ≡ false
in_trace [] = refl
in_trace (p ∷ ps) = ap (λ b. b || false) (in_list stop_data in_stop (p ∷ ps))

in_source : (source : Option Span) (rest : Members) → members_have_float rest ≡ false → members_have_float (with_source source rest) ≡ false
in_source None rest none = none
in_source (Some s) rest none = none

in_fix : (fix : Option (List ℕ)) (message : List ℕ) (rest : Members) → members_have_float rest ≡ false → members_have_float (with_fix fix (member (codes "message") (string message) rest)) ≡ false
in_fix None message rest none = none
in_fix (Some text) message rest none = none

in_result : (r : Reported) → has_float (result_data r) ≡ false
in_result r =
    let ends : Members = with_source r.finding.source (trace_members r.trace) in
    let none = ap (λ b. b || members_have_float ends) (in_metavars r.finding.binding) ∙ in_source r.finding.source (trace_members r.trace) (in_trace r.trace) in
    ap (λ b. b || false) (in_fix r.fix r.message _ none)

in_notice : (n : Notice) → has_float (notice_data n) ≡ false
in_notice n = refl

in_lists : (r : Report) → members_have_float (report_members r) ≡ false
in_lists r =
    ap (λ b. b || (items_have_float (items_of (map result_data r.results)) || false)) (in_list notice_data in_notice r.notices)
    ∙ ap (λ b. b || false) (in_list result_data in_result r.results)

pub in_report : (r : Report) → has_float (report_data r) ≡ false
in_report r = in_lists r

in_edit : (e : Edit) → has_float (edit_data e) ≡ false
in_edit e = refl

in_file : (f : FixedFile) → has_float (fixed_data f) ≡ false
in_file f = ap (λ b. b || false) (in_list edit_data in_edit f.edits)

pub in_fixes : (f : FixReport) → has_float (fix_data f) ≡ false
in_fixes f = ap (λ b. b || members_have_float (report_members f.report)) (in_list fixed_data in_file f.files) ∙ in_lists f.report
