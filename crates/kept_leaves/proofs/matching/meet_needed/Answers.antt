use Rattle.std.proofs.Common.{◌≡◌, ◌∙◌, ◌+◌, ℕ, List, [], ◌∷◌, ◌⊎◌, take, set, get_or, refl, sym, ap, subst, true}
use Rattle.std.specs.Prelude.{slice_index_or}
use Rattle.std.proofs.lemmas.List.{set-get_or, get_or_default}
use Rattle.node_tree.specs.declared.view.Pattern.{Pattern}
use Rattle.piece_match.proofs.Amongs.{among_at}
use Rattle.file_parts.specs.Leaves.{HasNoneIn}
use Rattle.file_parts.specs.Parts.{SeenPart, is_needed, needed_of}
use Rattle.kept_leaves.specs.declared.found.FoundPart.{FoundPart}
use Rattle.kept_leaves.specs.Found.{AreFound, none_found, IsTold}
use Rattle.kept_leaves.specs.Growth.{Meets}
use Rattle.kept_leaves.specs.Opened.{open_map, pieces_in, IsPlaceOf, IsNumberOf}
use Rattle.kept_leaves.specs.Pairs.{Pair, IsOneOf}
use Rattle.kept_leaves.specs.Ready.{pairs_of}
use Rattle.kept_leaves.proofs.Growing.{meets_none, meets_as, meets_then}
use Rattle.kept_leaves.proofs.Needs.{read_again, needed_next, pairs_next}
use Rattle.kept_leaves.proofs.Places.{place_at, place_stays, number_stays, stays_both}
use Rattle.kept_leaves.proofs.matching.meet_needed.Goals as goal

pub loop-i-init : goal.loop-i-init
loop-i-init g c =
    let map = open_map c.args.leaves.now in
    let steps = c.args.steps.now in
    let N : List FoundPart → Type 0 = λ fs. AreFound c.args.pattern.now (pieces_in c.args.leaves.now) [] fs in (
      c.requires.leaves,
      record { path = refl; pieces = refl; numbers = refl },
      refl,
      refl,
      meets_as (λ x. ⊥) (IsOneOf []) map steps map steps (λ x. (λ h. absurd h, λ (y, a, same). absurd a)) (meets_none map steps),
      subst N (sym c.new-found.ensures) none_found,
    )

pub meet-requires-clause-place : goal.meet-requires-clause-place
meet-requires-clause-place g c =
    let (leaves, stays, same, asked, met, found) = c.loop-i.invariant in
    let d = c.index-parts-i.result in
    let here = place_at (pieces_in c.args.leaves.now) c.args.places.now c.args.parts.now c.requires.places c.loop-i.i d c.loop-i-test.true in
    let P : List SeenPart → Type 0 = λ ps. IsPlaceOf (pieces_in c.loop-i.leaves) (slice_index_or c.args.places.now c.loop-i.i 0) (slice_index_or ps c.loop-i.i d) in
    subst P (sym same) (place_stays c.args.leaves.now c.loop-i.leaves stays _ _ here)

pub meet-requires-clause-number : goal.meet-requires-clause-number
meet-requires-clause-number g c =
    let (leaves, stays, same, asked, met, found) = c.loop-i.invariant in
    let P : Pattern → Type 0 = λ q. IsNumberOf c.loop-i.leaves c.args.number q in
    subst P (sym asked) (number_stays c.args.leaves.now c.loop-i.leaves stays c.args.number c.args.pattern.now c.requires.number)

pub meet-requires-clause-absent : goal.meet-requires-clause-absent
meet-requires-clause-absent g c absent plain needs =
    let (leaves, stays, same, asked, met, found) = c.loop-i.invariant in
    let parts = c.args.parts.now in
    let i = c.loop-i.i in
    let d = c.index-parts-i.result in
    let p = get_or c.loop-i.parts i d in
    let is = read_again parts c.loop-i.parts i d same c.loop-i-test.true in
    let H : Pattern → Type 0 = λ q. is_needed q p ≡ true → HasNoneIn q p in
    subst H (sym asked) (c.requires.absent absent p (among_at parts i p c.loop-i-test.true is) plain) needs

pub loop-i-preserved : goal.loop-i-preserved
loop-i-preserved g c =
    let (leaves, stays, same, asked, met, found) = c.loop-i.invariant in
    let parts = c.args.parts.now in
    let path = c.args.leaves.now.store.path in
    let pattern = c.args.pattern.now in
    let i = c.loop-i.i in
    let d = c.index-parts-i.result in
    let p = get_or c.loop-i.parts i d in
    let First : Pair → Type 0 = IsOneOf (pairs_of path pattern (take i parts)) in
    let Here : Pair → Type 0 = IsOneOf (pairs_of path pattern (p ∷ [])) in
    let is = read_again parts c.loop-i.parts i d same c.loop-i-test.true in
    let At : List ℕ → Pattern → Type 0 = λ at q. Meets (IsOneOf (pairs_of at q (p ∷ []))) (open_map c.loop-i.leaves) c.loop-i.steps (open_map c.meet.new.leaves) c.meet.new.steps in
    let By : Pattern → Type 0 = λ q. At path q in
    let Of : List ℕ → Type 0 = λ at. At at c.loop-i.pattern in
    let whole = ap (set c.loop-i.parts i) c.in_ok-may.ensures.same ∙ set-get_or c.loop-i.parts i d ∙ same in
    let now = set c.loop-i.parts i c.meet.new.part in
    let q = get_or now i c.index-parts-i-in-loop-i.result in
    let again = read_again parts now i c.index-parts-i-in-loop-i.result whole c.loop-i-test.true in
    let it : q ≡ p = again ∙ get_or_default parts i q p c.loop-i-test.true ∙ sym is in
    let pieces = pieces_in c.args.leaves.now in
    let Place : SeenPart → Type 0 = λ r. IsPlaceOf pieces (slice_index_or c.args.places.now i 0) r in
    let place = subst Place (sym again) (place_at pieces c.args.places.now parts c.requires.places i q c.loop-i-test.true) in
    let Asked : Pattern → Type 0 = λ r. IsTold r p c.in_ok-may.may in
    let Told : SeenPart → Type 0 = λ r. IsTold pattern r c.in_ok-may.may in
    let told = subst Told (sym it) (subst Asked asked c.in_ok-may.ensures.told) in
    let Found : List SeenPart → Type 0 = λ ps. AreFound pattern pieces ps c.add_found.new.into in (
      c.in_ok-may.ensures.leaves,
      stays_both c.args.leaves.now c.loop-i.leaves c.meet.new.leaves stays c.in_ok-may.ensures.stays,
      ap (set c.loop-i.parts i) c.in_ok-may.ensures.same ∙ set-get_or c.loop-i.parts i d ∙ same,
      c.in_ok-may.ensures.pattern ∙ asked,
      meets_as (λ x. First x ⊎ Here x) (IsOneOf (pairs_of path pattern (take (i + 1) parts))) (open_map c.args.leaves.now) c.args.steps.now (open_map c.meet.new.leaves) c.meet.new.steps (pairs_next pattern parts i p c.loop-i-test.true is path)
          (meets_then First Here (open_map c.args.leaves.now) c.args.steps.now (open_map c.loop-i.leaves) c.loop-i.steps (open_map c.meet.new.leaves) c.meet.new.steps met (subst By asked (subst Of stays.path c.in_ok-may.ensures.kept))),
      subst Found (sym (needed_next pattern parts i q c.loop-i-test.true again)) (c.in_ok-add_found.ensures pattern pieces (needed_of pattern (take i parts)) place told found),
    )
