-- How a session is seen.
use Rattle.std.specs.Prelude.{◌≡◌, ◌⊎◌, ◌≤◌, ℕ, List, [], ◌∷◌, ◌++◌, All, Some}
use Rattle.scan_world.specs.Files.{Files}
use Rattle.file_map.specs.declared.limit.LimitKind.{LimitKind}
use Rattle.report_form.specs.declared.report.Reported.{Reported}
use Rattle.fix_apply.specs.Choices.{AreChosen}
use Rattle.workspace.specs.Fixes.{IsFixed, AreFixed, files_fixed}
use Rattle.report_form.specs.declared.edit.Edit.{Edit}
use Rattle.file_map.specs.FileMap.{File, over_limit}
use Rattle.fix_apply.specs.declared.fixed.FixedFile.{FixedFile}
use Rattle.workspace.specs.State.{State}
use Rattle.session.specs.declared.session.Session.{Session}

-- what a session holds
abbrev pub state_of : {R : Type 0} → Session R → State
state_of s = record { files = s.files; rules = s.scans.rules.files; decided = s.scans.decided; most = s.most }

-- the edits end within so many bytes
abbrev pub EndWithin : ℕ → List Edit → Type 0
EndWithin size edits = All (λ e. e.span.to ≤ size) edits

-- a changed file with all of its text
abbrev pub text_of : FixedFile → File
text_of fixed = (fixed.path, fixed.whole)

-- the file was added with the fixes that are taken in it, or there are none
abbrev pub AddsFixed : List Reported → File → List FixedFile → List FixedFile → Type 0
AddsFixed results file old new = ((new ≡ old) × AreChosen file.0 results []) ⊎ ((one : FixedFile) × IsFixed results file one × (new ≡ old ++ one ∷ []))

-- with what the fixes of these results make of the files this limit is passed
abbrev pub FixesOver : List Reported → Files → LimitKind → ℕ → Type 0
FixesOver results files kind n = (fixed : List FixedFile) × AreFixed results files fixed × (over_limit (files_fixed files fixed) ≡ Some (kind, n))
