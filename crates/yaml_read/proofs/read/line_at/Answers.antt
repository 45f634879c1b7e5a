use Rattle.std.proofs.Common.{ℕ, List, [], ap}
use Rattle.std.specs.Borrow.{Bor}
use Rattle.yaml_lines.proofs.Steps.{short_at}
use Rattle.yaml_read.proofs.read.line_at.Goals as goal

pub returns-in-Some-clause-short : goal.returns-in-Some-clause-short
returns-in-Some-clause-short c =
    let h = c.in-Some.ensures.lookup in
    let d : Bor (List ℕ) = record { ref_ptr = (0, 0); now = [] } in
    short_at c.args.all.now c.saturating_sub.result d c.in-Some.line.now.now h.3.0 (ap (λ (x : Bor (List ℕ)). x.now) (h.3.1 d)) c.requires
