-- Findings as they are reported.
use Rattle.std.specs.Prelude.{ℕ, List, [], ◌∷◌}
use Rattle.std.specs.Option.{option_map, option_cmp}
use Rattle.std.specs.Fmt.{decimal}
use Rattle.std.specs.declared.cmp.Ordering.{Ordering}
use Rattle.std.specs.Ordering.{ordering_then}
use Rattle.node_tree.specs.Span.{span_cmp}
use Rattle.node_tree.specs.Places.{place_of}
use Rattle.meta_bind.specs.declared.finding.Finding.{Finding}
use Rattle.meta_bind.specs.Bounds.{name_cmp, binding_cmp}
use Rattle.meta_bind.specs.Fills.{filled}
use Rattle.rule_form.specs.declared.rule.Rule.{Rule}
use Rattle.part_judge.specs.declared.outcome.Outcome.{Outcome}
use Rattle.part_judge.specs.declared.outcome.Outcome.TheVariants as outcomes
use Rattle.report_form.specs.declared.notice.Notice.{Notice}
use Rattle.report_form.specs.declared.notice.NoticeKind.TheVariants as kinds
use Rattle.report_form.specs.declared.report.Reported.{Reported}
use Rattle.running_rules.specs.Notes.{notice}

-- by binding, then source; no source comes before any source, and sources go by their ranges
abbrev pub bound_cmp : Finding → Finding → Ordering
bound_cmp f g = ordering_then (binding_cmp f.binding g.binding) (option_cmp span_cmp f.source g.source)

-- by path, then range, then rule, then binding, then source
abbrev pub reported_cmp : Reported → Reported → Ordering
reported_cmp r s =
    ordering_then (name_cmp r.path s.path) (ordering_then (span_cmp r.finding.span s.finding.span) (ordering_then (name_cmp r.id s.id) (bound_cmp r.finding s.finding)))

-- a finding of a rule in the file at a path, with the message and the fix filled in and the places of its range, without a
-- trace
abbrev pub reported : List ℕ → List ℕ → Rule → Finding → Reported
reported path text rule finding = record {
  path = path;
  id = rule.id;
  severity = rule.severity;
  message = filled finding.binding text rule.message;
  fix = option_map (filled finding.binding text) rule.fix;
  start = place_of text finding.span.from;
  end = place_of text finding.span.to;
  finding = finding;
  trace = [];
}

-- the notices of what a rule finds in the file at a path
abbrev pub outcome_notices : List ℕ → List ℕ → Outcome → List Notice
outcome_notices path id (outcomes.Findings findings) = []
outcome_notices path id (outcomes.Crowded numbers) = notice path id kinds.Crowded numbers ∷ []
outcome_notices path id (outcomes.FlowTooLarge at) = notice path id kinds.FlowTooLarge (decimal at) ∷ []
