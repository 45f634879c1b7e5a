use Rattle.std.proofs.Common.{◌+◌, sym, ◌∙◌, subst}
use Rattle.std.proofs.lemmas.List.{take_rest}
use Rattle.wire_stream.specs.Lines.{IsName}
use Rattle.wire_stream.proofs.Parts.{sized_spaceless, sized_whole}
use Rattle.wire_stream.proofs.line.sized.Goals as goal

pub returns-in_err-space : goal.returns-in_err-space
returns-in_err-space c = rw c.from_residual.ensures (sized_spaceless c.args.bytes.now c.in_err-space.ensures)

pub returns-in_err-size : goal.returns-in_err-size
returns-in_err-size c = rw c.from_residual-in_err-size.ensures
    (λ n text g e. let t = sized_whole c.args.bytes.now c.in_ok-space.space c.in_ok-space.ensures n text g.0 e in c.in_err-size.ensures n g.0 t.0)

pub returns-in_err-name : goal.returns-in_err-name
returns-in_err-name c = rw c.from_residual-in_err-name.ensures
    (λ n text g e.
    let t = sized_whole c.args.bytes.now c.in_ok-space.space c.in_ok-space.ensures n text g.0 e in
    c.in_err-name.ensures (subst IsName (sym (take_rest c.args.bytes.now (c.in_ok-space.space + 1) ∙ t.1)) g.1))
