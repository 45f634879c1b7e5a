use Rattle.std.proofs.Common.{ℕ, List, [], ◌∷◌, ◌++◌, sym, subst}
use Rattle.file_parts.specs.Parts.{SeenPart}
use Rattle.piece_form.specs.Keys.{IsKeyOf}
use Rattle.kept_leaves.specs.Kept.{PieceRef}
use Rattle.kept_leaves.specs.Opened.{pieces_in, ArePlacesOf, IsPlaceOf}
use Rattle.kept_leaves.proofs.Places.{places_more, key_tied}
use Rattle.kept_leaves.proofs.opening.open_part.Goals as goal

pub returns-clause-places : goal.returns-clause-places
returns-clause-places c are =
    let old = c.args.leaves.now in
    let new = c.hold.new.leaves in
    let part = c.in_ok-ready.ready in
    let extends = c.in_ok-place.ensures.extends in
    let (piece, stands, tied) = c.in_ok-place.ensures.place in
    let K : SeenPart → Type 0 = λ p. IsKeyOf p.placed.piece c.ready.inside.key.value in
    let its = key_tied part.placed.piece piece c.ready.inside.key tied (subst K c.ready.view_is c.ready.invariant.of_piece) in
    let here : IsPlaceOf (pieces_in new) c.in_ok-place.place part = record { key = piece; stands = stands; of_piece = its } in
    let P : List PieceRef → Type 0 = λ ps. IsPlaceOf ps c.in_ok-place.place part in
    let all = places_more (pieces_in old) extends.more c.args.places.now.items c.args.parts.now.items c.in_ok-place.place part are (subst P extends.pieces here) in
    let A : List PieceRef → Type 0 = λ ps. ArePlacesOf ps (c.args.places.now.items ++ c.in_ok-place.place ∷ []) (c.args.parts.now.items ++ part ∷ []) in
    let B : List ℕ → Type 0 = λ ks. ArePlacesOf (pieces_in new) ks (c.args.parts.now.items ++ part ∷ []) in
    let C : List SeenPart → Type 0 = λ ps. ArePlacesOf (pieces_in new) c.push.new.self.items ps in
    subst C (sym c.in_ok-push-2.ensures.items) (subst B (sym c.in_ok-push.ensures.items) (subst A (sym extends.pieces) all))
