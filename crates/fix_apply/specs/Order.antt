-- Results in the order of a report.
use Rattle.std.specs.Prelude.{◌≡◌, ℕ, List, Bool, true, false, filter}
use Rattle.std.specs.declared.cmp.Ordering.{Ordering}
use Rattle.std.specs.List.Sorted.{IsSorted, IsPartitionPoint}
use Rattle.std.specs.Ordering.{is_eq, is_lt, is_le, ordering_then}
use Rattle.node_tree.specs.Span.{span_cmp}
use Rattle.meta_bind.specs.Bounds.{name_cmp}
use Rattle.report_form.specs.declared.report.Reported.{Reported}

-- by path, then range
abbrev pub place_cmp : Reported → Reported → Ordering
place_cmp r s = ordering_then (name_cmp r.path s.path) (span_cmp r.finding.span s.finding.span)

-- no result stands behind one that it comes before by path and range
abbrev pub AreInOrder : List Reported → Type 0
AreInOrder results = IsSorted place_cmp results

-- the result is one of the file at the path
abbrev pub is_at : List ℕ → Reported → Bool
is_at path r = is_eq (name_cmp r.path path)

-- the results of the file at the path
abbrev pub results_at : List ℕ → List Reported → List Reported
results_at path results = filter (is_at path) results

-- where the range of a result begins
abbrev pub begins_at : Reported → ℕ
begins_at r = r.finding.span.from

-- ---- for private clauses

-- the result is one of a path before that
abbrev pub is_before : List ℕ → Reported → Bool
is_before path r = is_lt (name_cmp r.path path)

-- the result is one of that path or of one before
abbrev pub is_through : List ℕ → Reported → Bool
is_through path r = is_le (name_cmp r.path path)

-- the first so many results pass the test, and no others do
abbrev pub Parts : (Reported → Bool) → List Reported → ℕ → Type 0
Parts test results at = IsPartitionPoint (λ r. test r ≡ true) (λ r. test r ≡ false) results at
