use Rattle.std.proofs.Common.{ℕ, List, [], ap, ◌∙◌, sym}
use Rattle.std.specs.Borrow.{Bor}
use Rattle.yaml_lines.specs.Body.{texts, column_len}
use Rattle.yaml_lines.proofs.Steps.{block_deeper, block_shallow}
use Rattle.yaml_lines.proofs.body.block_len.Goals as goal

pub returns-then-is_deeper-clause-len : goal.returns-then-is_deeper-clause-len
returns-then-is_deeper-clause-len c =
    let h = c.in-Some.ensures.lookup in
    let d : Bor (List ℕ) = record { ref_ptr = (0, 0); now = [] } in
    let line = c.as_bytes-first.ensures.value ∙ ap (λ (x : Bor (List ℕ)). x.now) (h.3.1 d) in
    c.column_len.ensures.len ∙ ap (λ (n : ℕ). column_len n (texts c.args.lines.now)) c.indentation.ensures
    ∙ sym (block_deeper c.args.holder c.args.lines.now c.blank_len-blank.result d c.as_bytes-first.result.now h.3.0 line c.blank_len-blank.ensures.len (sym c.if-is_deeper.ensures))

pub returns-else-is_deeper-clause-len : goal.returns-else-is_deeper-clause-len
returns-else-is_deeper-clause-len c =
    let h = c.in-Some.ensures.lookup in
    let d : Bor (List ℕ) = record { ref_ptr = (0, 0); now = [] } in
    let line = c.as_bytes-first.ensures.value ∙ ap (λ (x : Bor (List ℕ)). x.now) (h.3.1 d) in
    sym (block_shallow c.args.holder c.args.lines.now c.blank_len-blank.result d c.as_bytes-first.result.now h.3.0 line c.blank_len-blank.ensures.len (sym c.if-is_deeper.ensures))
