use Rattle.std.proofs.Common.{Bool, ◌+◌, drop, ap, ◌∙◌, sym, refl}
use Rattle.std.specs.Option.{option_map}
use Rattle.yaml_lines.specs.Key.{colon_at}
use Rattle.yaml_lines.proofs.Steps.{colon_more, slice_rest}
use Rattle.yaml_lines.proofs.key.colon.Goals as goal

pub loop-at-preserved : goal.loop-at-preserved
loop-at-preserved c =
    let r = slice_rest c.args.text.now (c.loop-at.at + 1) in
    let no_sign = rw r at (sym c.if-is_sign.ensures) in
    let goes = colon_more c.args.text.now c.loop-at.at c.loop-at.gap _ c.loop-at-test.true refl no_sign (sym c.if-is_hash.ensures) in
    c.loop-at.invariant ∙ goes ∙ ap (λ (g : Bool). option_map (λ n. n + (c.loop-at.at + 1)) (colon_at g (drop (c.loop-at.at + 1) c.args.text.now))) (sym c.is_blank-gap.ensures)
