-- The lines that the commands of a session print.
use Rattle.std.specs.Prelude.{ℕ, Bool, true, false, List, [], ◌∷◌, ◌++◌, codes}
use Rattle.std.specs.Fmt.{decimal}
use Rattle.serde_json.specs.Written.{compact_text}
use Rattle.report_form.specs.declared.report.Report.{Report}
use Rattle.fix_apply.specs.declared.fixed.FixReport.{FixReport}
use Rattle.finding_json.specs.Reports.{report_data, fix_data}
use Rattle.stream_run.specs.declared.reply.Reply.{Reply}
use Rattle.stream_run.specs.declared.reply.Reply.TheVariants as replies

-- the line of a report: its JSON text without blanks, and a line feed
abbrev pub report_line : Report → List ℕ
report_line report = compact_text (report_data report) ++ 10 ∷ []

-- the same of a report with what its fixes change
abbrev pub fix_line : FixReport → List ℕ
fix_line fixed = compact_text (fix_data fixed) ++ 10 ∷ []

-- whether something was there that was to be taken away
abbrev pub removed_line : Bool → List ℕ
removed_line true = codes "{\"removed\":true}\n"
removed_line false = codes "{\"removed\":false}\n"

-- that there are more findings than this
abbrev pub too_many_line : ℕ → List ℕ
too_many_line most = codes "{\"too_many\":" ++ (decimal most ++ codes "}\n")

-- the lines of what a command came to
abbrev pub lines_of : Reply → List (List ℕ)
lines_of replies.Done = []
lines_of (replies.Removed there) = removed_line there ∷ []
lines_of (replies.Reported report) = report_line report ∷ []
lines_of (replies.Fixed fixed) = fix_line fixed ∷ []
lines_of (replies.TooMany most) = too_many_line most ∷ []
