use Rattle.std.proofs.Common.{◌≡◌, ◌++◌, List, ℕ, ap, ◌∙◌, string_bytes, codes}
use Rattle.scan_run.specs.Lines.{span_text, bound_text}
use Rattle.scan_run.proofs.Streaming.{one_name}
use Rattle.scan_run.proofs.output.line.Goals as goal

pub loop-bound-preserved : goal.loop-bound-preserved
loop-bound-preserved c =
    let part : string_bytes c.in_ok-part.part ≡ bound_text c.bound-item.result = c.in_ok-part.ensures.ok ∙ ap (λ (n : List ℕ). codes " " ++ (n ++ (codes "=" ++ span_text c.bound-item.result.span))) c.as_str-name.ensures in
    one_name (span_text c.args.span.now) _ (string_bytes c.in_ok-part.part) _ c.bounds-bound-items.result.now c.loop-bound.bound-index c.bound-item.result _ c.loop-bound-test.true c.bound-item.is c.loop-bound.invariant part
    (c.in_ok-push_str.ensures.bytes ∙ ap (λ (l : List ℕ). string_bytes c.loop-bound.text ++ l) c.as_str.ensures.value)
