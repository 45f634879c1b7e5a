use Rattle.std.proofs.Common.{◌++◌, ◌∷◌, [], List, map, sym, ap, ◌∙◌, arith}
use Rattle.std.specs.List.{range_with_len}
use Rattle.std.proofs.lemmas.List.FromFn.{map-range_with_len_more}
use Rattle.wire_stream.specs.declared.wire.Wire.{Wire}
use Rattle.wire_drill.specs.Drill.{file, put_file}
use Rattle.wire_drill.proofs.drill_input.Goals as goal

pub loop-number-preserved : goal.loop-number-preserved
loop-number-preserved c =
    let n = c.loop-number.number in
    c.in_ok-push.ensures.ok ∙ ap (λ (ws : List Wire). ws ++ c.in_ok-put_file.field-0 ∷ []) c.loop-number.invariant
    ∙ ap (λ (w : Wire). map file (range_with_len 0 n) ++ w ∷ []) (c.in_ok-put_file.ensures ∙ ap (put_file n) c.read_in.ensures)
    ∙ sym (map-range_with_len_more file 0 n n (omega arith))
