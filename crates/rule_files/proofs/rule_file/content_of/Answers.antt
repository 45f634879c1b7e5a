use Rattle.std.proofs.Common.{◌≡◌, ap, subst}
use Rattle.std.specs.Prelude.{Err}
use Rattle.yaml_lines.specs.Lines.{Gives, lines_of}
use Rattle.yaml_lines.specs.declared.fault.YFault.{YFault}
use Rattle.yaml_cells.specs.declared.value.YValue.{YValue}
use Rattle.rule_files.proofs.Contents.{value_only, no_value, no_value_only}
use Rattle.rule_files.proofs.rule_file.content_of.Goals as goal

pub returns-in-Ok-clause-only : goal.returns-in-Ok-clause-only
returns-in-Ok-clause-only g c =
    value_only (g.R.PatternReader.writes c.args.reader.now) c.args.bytes.now c.in-Ok.value c.in-Ok.ensures.value (λ v h. let e = c.in-Ok.ensures.only v h in cc) (λ fault e. let f = c.in-Ok.ensures.refused fault e in absurd cc) c.content_of_value.result c.content_of_value.ensures.only

pub returns-in-Err-NoValue-clause-content : goal.returns-in-Err-NoValue-clause-content
returns-in-Err-NoValue-clause-content g c =
    let P : YFault → Type 0 = λ x. (fault : YFault) → lines_of c.args.bytes.now ≡ Err fault → Gives {X = YValue} (Err fault) (Err x) in
    let refused = subst P c.in-Err-NoValue.field-0-is c.in-Err-NoValue.ensures.refused in
    no_value (g.R.PatternReader.writes c.args.reader.now) c.args.bytes.now (c.in-Err-NoValue.ensures.no_value (ap Err c.in-Err-NoValue.field-0-is)) (λ fault e. let f = refused fault e in cc)

pub returns-in-Err-NoValue-clause-only : goal.returns-in-Err-NoValue-clause-only
returns-in-Err-NoValue-clause-only g c =
    let P : YFault → Type 0 = λ x. (fault : YFault) → lines_of c.args.bytes.now ≡ Err fault → Gives {X = YValue} (Err fault) (Err x) in
    let refused = subst P c.in-Err-NoValue.field-0-is c.in-Err-NoValue.ensures.refused in
    no_value_only (g.R.PatternReader.writes c.args.reader.now) c.args.bytes.now (c.in-Err-NoValue.ensures.no_value (ap Err c.in-Err-NoValue.field-0-is)) (λ fault e. let f = refused fault e in cc)
