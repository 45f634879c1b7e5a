use Rattle.std.proofs.Common.{ℕ, List, sym, subst}
use Rattle.std.specs.Str.{IsUtf8}
use Rattle.file_results.proofs.reporting.reported.Goals as goal

pub fill-requires-clause-utf8 : goal.fill-requires-clause-utf8
fill-requires-clause-utf8 c = let P : List ℕ → Type 0 = λ bytes. ∥ IsUtf8 bytes ∥₁ in subst P (sym c.as_slice-bytes.ensures) c.args.view.now.utf8

pub filled_fix-requires-clause-utf8 : goal.filled_fix-requires-clause-utf8
filled_fix-requires-clause-utf8 c = let P : List ℕ → Type 0 = λ bytes. ∥ IsUtf8 bytes ∥₁ in subst P (sym c.as_slice-bytes.ensures) c.args.view.now.utf8
