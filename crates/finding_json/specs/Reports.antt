-- What a report says, as a JSON value with the keys of each object in order.
use Rattle.std.specs.Prelude.{◌≡◌, ℕ, ◌+◌, List, [], ◌∷◌, map, codes, Option, None, Some}
use Rattle.serde_json.specs.Data.{Data, number, unsigned, string, array, object, item, no_items, Members, member, no_members, put}
use Rattle.serde_json.specs.View.{items_of}
use Rattle.serde_json.specs.Events.{SendsValue}
use Rattle.serde.specs.Event.{Log, Logs, field_key}
use Rattle.serde.specs.declared.name.Case.TheVariants.{AsIs}
use Rattle.graph_form.specs.declared.graph.Role.{Role}
use Rattle.graph_form.specs.declared.graph.Role.TheVariants.{Entry, Exit, Head, Init, Test, Step}
use Rattle.node_tree.specs.declared.place.Place.{Place}
use Rattle.node_tree.specs.declared.span.Span.{Span}
use Rattle.meta_bind.specs.declared.bound.Bound.{Bound}
use Rattle.rule_form.specs.declared.rule.Severity.{Severity}
use Rattle.rule_form.specs.declared.rule.Severity.TheVariants.{Info, Warning, Error, Low, Medium, High, Critical}
use Rattle.report_form.specs.Notice.{kind_word}
use Rattle.report_form.specs.declared.notice.Notice.{Notice}
use Rattle.report_form.specs.declared.report.Reported.{Reported}
use Rattle.report_form.specs.declared.report.Report.{Report}
use Rattle.report_form.specs.declared.edit.Edit.{Edit}
use Rattle.fix_apply.specs.declared.fixed.FixedFile.{FixedFile}
use Rattle.fix_apply.specs.declared.fixed.FixReport.{FixReport}

abbrev pub number_data : ℕ → Data
number_data n = number (unsigned n)

abbrev pub place_data : Place → Data
place_data p = object (member (codes "col") (number_data p.col) (member (codes "line") (number_data p.line) (member (codes "offset") (number_data p.offset) no_members)))

-- [from,to]
abbrev pub range_data : Span → Data
range_data s = array (item (number_data s.from) (item (number_data s.to) no_items))

-- the word of a severity, as rules have it
abbrev pub severity_word : Severity → List ℕ
severity_word Info = codes "INFO"
severity_word Warning = codes "WARNING"
severity_word Error = codes "ERROR"
severity_word Low = codes "LOW"
severity_word Medium = codes "MEDIUM"
severity_word High = codes "HIGH"
severity_word Critical = codes "CRITICAL"

-- the range of each metavariable by its name; a binding has the names in order
abbrev pub metavar_members : List Bound → Members
metavar_members [] = no_members
metavar_members (b ∷ bs) = member b.name (range_data b.span) (metavar_members bs)

-- the word of a role is its name
abbrev pub role_word : Role → List ℕ
role_word Entry = codes "Entry"
role_word Exit = codes "Exit"
role_word Head = codes "Head"
role_word Init = codes "Init"
role_word Test = codes "Test"
role_word Step = codes "Step"

-- [from,role]
abbrev pub stop_data : ℕ × Role → Data
stop_data p = array (item (number_data p.0) (item (string (role_word p.1)) no_items))

abbrev pub stops_data : List (ℕ × Role) → Data
stops_data stops = array (items_of (map stop_data stops))

-- the trace, where there is one
abbrev pub trace_members : List (ℕ × Role) → Members
trace_members [] = no_members
trace_members (p ∷ ps) = member (codes "trace") (stops_data (p ∷ ps)) no_members

-- where taint comes from among the members, in rules about taint
abbrev pub with_source : Option Span → Members → Members
with_source None ms = ms
with_source (Some s) ms = member (codes "source") (range_data s) ms

-- a fix among the members, where the rule has one
abbrev pub with_fix : Option (List ℕ) → Members → Members
with_fix None ms = ms
with_fix (Some text) ms = put (codes "fix") (string text) ms

-- what is said of a finding beside its place
abbrev pub extra_data : Reported → Data
extra_data r =
    object (with_fix r.fix (member (codes "message") (string r.message) (member (codes "metavars") (object (metavar_members r.finding.binding))
    (member (codes "severity") (string (severity_word r.severity)) (with_source r.finding.source (trace_members r.trace))))))

abbrev pub result_data : Reported → Data
result_data r =
    object (member (codes "check_id") (string r.id) (member (codes "end") (place_data r.end) (member (codes "extra") (extra_data r)
    (member (codes "path") (string r.path) (member (codes "start") (place_data r.start) no_members)))))

abbrev pub notice_data : Notice → Data
notice_data n =
    object (member (codes "detail") (string n.detail) (member (codes "kind") (string (kind_word n.kind))
    (member (codes "path") (string n.path) (member (codes "rule") (string n.rule_id) no_members))))

-- what a scan found and what it passed over
abbrev pub report_members : Report → Members
report_members r = member (codes "notices") (array (items_of (map notice_data r.notices))) (member (codes "results") (array (items_of (map result_data r.results))) no_members)

abbrev pub report_data : Report → Data
report_data r = object (report_members r)

-- [from,to,text]
abbrev pub edit_data : Edit → Data
edit_data e = array (item (number_data e.span.from) (item (number_data e.span.to) (item (string e.text) no_items)))

-- a file that fixes changed: its path, and the edits that were taken
abbrev pub fixed_data : FixedFile → Data
fixed_data f = object (member (codes "path") (string f.path) (member (codes "ranges") (array (items_of (map edit_data f.edits))) no_members))

abbrev pub fix_data : FixReport → Data
fix_data f = object (member (codes "fixed") (array (items_of (map fixed_data f.files))) (report_members f.report))

-- ---- for private clauses

-- one for a value that is there
abbrev pub one_if : {A : Type 0} → Option A → ℕ
one_if None = 0
one_if (Some x) = 1

-- one for a list that isn't empty
abbrev pub one_unless_empty : {A : Type 0} → List A → ℕ
one_unless_empty [] = 0
one_unless_empty (x ∷ xs) = 1

-- how many members are said of a finding beside its place
abbrev pub extra_len : Reported → ℕ
extra_len r = 3 + one_if r.fix + one_if r.finding.source + one_unless_empty r.trace

-- a member is sent
abbrev pub SendsMember : List ℕ → Data → Log → Log → Type 0
SendsMember k d old new = (named : Log) × Logs old named (field_key k AsIs) × SendsValue d named new

-- the trace is sent, where there is one
abbrev pub SendsTrace : List (ℕ × Role) → Log → Log → Type 0
SendsTrace [] old new = new ≡ old
SendsTrace (p ∷ ps) old new = SendsMember (codes "trace") (stops_data (p ∷ ps)) old new
