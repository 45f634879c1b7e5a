use Rattle.std.proofs.Common.{◌≡◌, ℕ, ◌≤◌, List, length, ap, ◌∙◌, arith}
use Rattle.node_tree.specs.Places.{place_of}
use Rattle.node_tree.proofs.LineEnds.{mark_before, mark_after, mark_place, lines_fit, bytes_fit, piece_fits}
use Rattle.node_tree.proofs.places.Places.place.Goals as goal

pub after-mark-requires-clause-lines : goal.after-mark-requires-clause-lines
after-mark-requires-clause-lines c =
    let within : c.args.at ≤ length c.self.inside.text.now = omega (arith, c.requires, ap length c.self.view_is) in
    let before = mark_before c.self.inside.text.now c.self.inside.marks.items c.args.at c.index-before.result.now c.self.invariant.2 c.self.invariant.1 within c.index-before.ensures in
    (piece_fits c.self.inside.text.now c.args.at _ before within c.self.invariant.0).0

pub after-mark-requires-clause-bytes : goal.after-mark-requires-clause-bytes
after-mark-requires-clause-bytes c =
    let within : c.args.at ≤ length c.self.inside.text.now = omega (arith, c.requires, ap length c.self.view_is) in
    let before = mark_before c.self.inside.text.now c.self.inside.marks.items c.args.at c.index-before.result.now c.self.invariant.2 c.self.invariant.1 within c.index-before.ensures in
    (piece_fits c.self.inside.text.now c.args.at _ before within c.self.invariant.0).1

pub overflow_add-result : goal.overflow_add-result
overflow_add-result c =
    let within : c.args.at ≤ length c.self.inside.text.now = omega (arith, c.requires, ap length c.self.view_is) in
    let before = mark_before c.self.inside.text.now c.self.inside.marks.items c.args.at c.index-before.result.now c.self.invariant.2 c.self.invariant.1 within c.index-before.ensures in
    let mark = mark_after c.self.inside.text.now c.args.at _ _ before c.after-mark.ensures in
    omega (arith, within, c.self.invariant.0, lines_fit c.self.inside.text.now c.args.at _ mark within)

pub overflow_add-result-2 : goal.overflow_add-result-2
overflow_add-result-2 c =
    let within : c.args.at ≤ length c.self.inside.text.now = omega (arith, c.requires, ap length c.self.view_is) in
    let before = mark_before c.self.inside.text.now c.self.inside.marks.items c.args.at c.index-before.result.now c.self.invariant.2 c.self.invariant.1 within c.index-before.ensures in
    let mark = mark_after c.self.inside.text.now c.args.at _ _ before c.after-mark.ensures in
    omega (arith, within, c.self.invariant.0, bytes_fit c.self.inside.text.now c.args.at _ mark within)

pub returns : goal.returns
returns c =
    let within : c.args.at ≤ length c.self.inside.text.now = omega (arith, c.requires, ap length c.self.view_is) in
    let before = mark_before c.self.inside.text.now c.self.inside.marks.items c.args.at c.index-before.result.now c.self.invariant.2 c.self.invariant.1 within c.index-before.ensures in
    let mark = mark_after c.self.inside.text.now c.args.at _ _ before c.after-mark.ensures in
    mark_place c.self.inside.text.now c.args.at c.after-mark.result mark ∙ ap (λ (text : List ℕ). place_of text c.args.at) c.self.view_is
