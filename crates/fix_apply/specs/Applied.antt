-- Edits applied.
use Rattle.std.specs.Prelude.{◌≤◌, ℕ, List, [], ◌∷◌, ◌++◌, take, drop}
use Rattle.report_form.specs.declared.edit.Edit.{Edit}

-- the edits lie in this order in a text of that size, from a place on: each begins where the one before it ends, or later
abbrev pub LieIn : ℕ → ℕ → List Edit → Type 0
LieIn from size [] = from ≤ size
LieIn from size (e ∷ es) = (from ≤ e.span.from) × (e.span.from ≤ e.span.to) × LieIn e.span.to size es

-- a text with the range of the edit replaced by its text
abbrev pub replaced : Edit → List ℕ → List ℕ
replaced e text = take e.span.from text ++ e.text ++ drop e.span.to text

-- a text with the range of each edit replaced: the last one first, so that the places of those before it stay what they are
abbrev pub applied : List ℕ → List Edit → List ℕ
applied text [] = text
applied text (e ∷ es) = replaced e (applied text es)
