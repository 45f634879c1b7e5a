use Rattle.std.proofs.Common.{ℕ, List, ◌++◌, length, sym, ap, ◌∙◌, append_assoc, arith, rules}
use Rattle.std.specs.List.{flat_map}
use Rattle.piece_form.specs.Code.{known_code}
use Rattle.store_form.specs.Form.{number_bytes}
use Rattle.store_file.specs.Pieces.{known_bytes}
use Rattle.store_file.proofs.Forests.{names_first, names_more, names_end}
use Rattle.store_file.proofs.codes.move_known.Goals as goal

pub loop-i-init : goal.loop-i-init
loop-i-init c = λ ks r m e. names_first c.move_number.new.code.rest.now c.move_number.new.out c.in_ok-count.count ks r m e

pub loop-i-preserved : goal.loop-i-preserved
loop-i-preserved c = λ ks r m e.
    names_more c.move_number.new.out c.loop-i._i c.in_ok-count.count c.loop-i.code.rest.now c.loop-i.out ks r (c.loop-i.invariant ks r m e) (search rules) c.in_ok-move_number.field-0 c.move_number-in-loop-i.new.code.rest.now c.move_number-in-loop-i.new.out c.move_tree.new.code.rest.now c.move_tree.new.out
    c.in_ok-move_number.ensures c.in_ok-move_tree.ensures

pub returns : goal.returns
returns c = λ ks r e.
    let a = c.in_ok-count.ensures (length ks) (known_code ks ++ r) e in
    let l = c.loop-i.invariant ks r (sym a.0) a.1 in
    let end = names_end c.move_number.new.out c.loop-i._i c.in_ok-count.count c.loop-i.code.rest.now c.loop-i.out ks r l (omega arith) in
    (end.0, end.1 ∙ ap (λ (v : List ℕ). v ++ flat_map known_bytes ks) a.2 ∙ append_assoc c.args.out.now (number_bytes (length ks)) (flat_map known_bytes ks))
