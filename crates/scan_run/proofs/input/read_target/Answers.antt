use Rattle.std.proofs.Common.{refl, arith}
use Rattle.scan_run.proofs.Inputs.{long_input}
use Rattle.scan_run.proofs.input.read_target.Goals as goal

pub returns-in-Ok-clause-too_long : goal.returns-in-Ok-clause-too_long
returns-in-Ok-clause-too_long g c a = (
  refl,
  long_input (g.S.Source.left c.args.input.now) _ c.in-Ok.bytes.items c.in-Ok.ensures.bytes (omega (arith, c.if-len-eq-MOST.true, c.len.ensures, c.in-Ok.bytes.ok.0)),
)
