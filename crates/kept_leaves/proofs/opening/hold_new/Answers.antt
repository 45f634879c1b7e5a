use Rattle.std.proofs.Common.{◌≡◌, ◌∙◌, [], ◌∷◌, length, sym, ap}
use Rattle.std.specs.Prelude.{slice_get}
use Rattle.std.proofs.lemmas.Cmp.{tied_itself}
use Rattle.kept_leaves.specs.declared.leaf.OpenLeaves.{OpenLeaves}
use Rattle.kept_leaves.specs.Opened.{open_map, pieces_in}
use Rattle.kept_leaves.proofs.Keyed.{piece_total}
use Rattle.kept_leaves.proofs.Laws.{right_as}
use Rattle.kept_leaves.proofs.Places.{pieces_length, none_out, knows_new, stands_new, cmp_copy}
use Rattle.kept_leaves.proofs.opening.hold_new.Goals as goal

pub hold-requires-clause-other : goal.hold-requires-clause-other
hold-requires-clause-other c = none_out c.args.leaves.now.store.rows.items c.args.key.now c.in_ok-piece.piece c.in_ok-piece.ensures.cases c.requires.out

pub returns-clause-leaves : goal.returns-clause-leaves
returns-clause-leaves c =
    let new : OpenLeaves = record { store = c.hold.new.self } in
    record { is_open = c.in_ok-hold.ensures.open; right = right_as (open_map c.args.leaves.now) (open_map new) c.in_ok-hold.ensures.same c.requires.leaves.right }

pub returns-clause-knows : goal.returns-clause-knows
returns-clause-knows c =
    let old = c.args.leaves.now in
    let new : OpenLeaves = record { store = c.hold.new.self } in
    let at : c.len-place.result ≡ length (pieces_in old) = c.len-place.ensures ∙ old.store.rows.ok.0 ∙ sym (pieces_length old.store.rows.items) in
    knows_new old new c.in_ok-piece.piece c.in_ok-hold.ensures.behind c.args.places.now c.insert.new.self c.in_ok-entry.entry c.len-place.result at (c.in_ok-piece.ensures.cases ∙ sym c.in_ok-entry.ensures.cases) c.in_ok-insert.ensures.updates.0 c.requires.knows

pub returns-clause-extends : goal.returns-clause-extends
returns-clause-extends c = record { path = c.in_ok-hold.ensures.path; more = c.in_ok-piece.piece ∷ []; pieces = c.in_ok-hold.ensures.behind }

pub returns-clause-place : goal.returns-clause-place
returns-clause-place c =
    let old = c.args.leaves.now in
    let new : OpenLeaves = record { store = c.hold.new.self } in
    let piece = c.in_ok-piece.piece in
    let at : c.len-place.result ≡ length (pieces_in old) = c.len-place.ensures ∙ old.store.rows.ok.0 ∙ sym (pieces_length old.store.rows.items) in
    (piece, ap (slice_get (pieces_in new)) at ∙ stands_new old new piece c.in_ok-hold.ensures.behind, cmp_copy piece c.args.key.now piece (sym c.in_ok-piece.ensures.cases) ∙ tied_itself piece_total piece)
