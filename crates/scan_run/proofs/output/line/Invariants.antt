use Rattle.std.proofs.Common.{◌≡◌, ◌++◌, take, map, string_bytes}
use Rattle.std.specs.List.{concat}
use Rattle.meta_bind.specs.Bounds.{seen}
use Rattle.scan_run.specs.Lines.{span_text, bound_text}
use Rattle.scan_run.proofs.output.line.Given as goal

abbrev pub invariant-loop-bound : goal.invariant-loop-bound
invariant-loop-bound l = string_bytes l.text ≡ span_text l.span ++ concat (map bound_text (map seen (take l.bound-index l.bound-items)))
