-- Which fixes are taken.
use Rattle.std.specs.Prelude.{◌≡◌, ◌≤◌, ◌<◌, ◌⊎◌, ℕ, List, [], ◌∷◌, ◌++◌, Option, All}
use Rattle.std.specs.List.{filter_map}
use Rattle.std.specs.Option.{option_map}
use Rattle.node_tree.specs.declared.span.Span.{Span}
use Rattle.report_form.specs.declared.edit.Edit.{Edit}
use Rattle.report_form.specs.declared.report.Reported.{Reported}
use Rattle.fix_apply.specs.Order.{results_at}
use Rattle.fix_apply.specs.Applied.{LieIn}

-- the byte at a place lies in the range
abbrev pub HasByte : Span → ℕ → Type 0
HasByte s at = (s.from ≤ at) × (at < s.to)

-- some byte lies in both ranges
abbrev pub SharesByte : Span → Span → Type 0
SharesByte s t = (at : ℕ) × HasByte s at × HasByte t at

-- the range of the edit has a byte, and shares none with those that were taken before
pub record IsFree (taken : List Edit) (e : Edit) : Type 0 where
  pub some : e.span.from < e.span.to
  pub apart : All (λ t. SharesByte t.span e.span → ⊥) taken

-- the fix of a result, in the place of its range
abbrev pub offer : Reported → Option Edit
offer r = option_map (λ text. record { span = r.finding.span; text = text }) r.fix

-- the fixes of those results that have one
abbrev pub offers : List Reported → List Edit
offers results = filter_map offer results

-- beside the edits that were taken before, just those of the list are taken, one after the other, that are free then
abbrev pub AreTaken : List Edit → List Edit → List Edit → Type 0
AreTaken before [] taken = taken ≡ []
AreTaken before (e ∷ es) taken =
    (IsFree before e × ((rest : List Edit) × (taken ≡ e ∷ rest) × AreTaken (before ++ e ∷ []) es rest)) ⊎ ((IsFree before e → ⊥) × AreTaken before es taken)

-- the fixes that are taken in the file at the path
abbrev pub AreChosen : List ℕ → List Reported → List Edit → Type 0
AreChosen path results edits = AreTaken [] (offers (results_at path results)) edits

-- the ranges of the results end within a text of that size
abbrev pub EndBy : ℕ → List Reported → Type 0
EndBy size results = All (λ r. r.finding.span.to ≤ size) results

-- wherever the results end within a text, the edits lie in it in this order
abbrev pub AreFit : List Reported → List Edit → Type 0
AreFit results edits = (size : ℕ) → EndBy size results → LieIn 0 size edits
