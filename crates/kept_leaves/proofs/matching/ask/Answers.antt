use Rattle.std.proofs.Common.{◌∙◌, ℕ, List, refl, sym, ap, subst}
use Rattle.node_tree.specs.declared.view.Pattern.{Pattern}
use Rattle.piece_form.specs.declared.key.PatternKey.{PatternKey}
use Rattle.piece_form.specs.Keys.{IsPatternKeyOf}
use Rattle.file_parts.specs.declared.joining.PartLeaf.{PartLeaf}
use Rattle.file_parts.specs.Leaves.{AreLeavesOf}
use Rattle.file_parts.specs.Parts.{needed_of}
use Rattle.kept_leaves.specs.declared.leaf.OpenLeaves.{OpenLeaves}
use Rattle.kept_leaves.specs.Growth.{Meets}
use Rattle.kept_leaves.specs.Opened.{open_map, pieces_in, IsNumberOf}
use Rattle.kept_leaves.specs.Pairs.{IsOneOf}
use Rattle.kept_leaves.specs.Ready.{pairs_of}
use Rattle.kept_leaves.proofs.Finding.{found_as}
use Rattle.kept_leaves.proofs.Growing.{meets_between}
use Rattle.kept_leaves.proofs.Laws.{right_as}
use Rattle.kept_leaves.proofs.Meeting.{on_ok_of}
use Rattle.kept_leaves.proofs.Places.{number_stays}
use Rattle.kept_leaves.proofs.matching.ask.Goals as goal

pub returns-in_err-number-clause-leaves : goal.returns-in_err-number-clause-leaves
returns-in_err-number-clause-leaves g c =
    let mid : OpenLeaves = record { store = c.number.new.self } in
    record { is_open = c.number.ensures.open; right = right_as (open_map c.args.leaves.now) (open_map mid) c.number.ensures.same c.requires.leaves.right }

pub meet_needed-requires-clause-leaves : goal.meet_needed-requires-clause-leaves
meet_needed-requires-clause-leaves g c =
    let mid : OpenLeaves = record { store = c.number.new.self } in
    record { is_open = c.number.ensures.open; right = right_as (open_map c.args.leaves.now) (open_map mid) c.number.ensures.same c.requires.leaves.right }

pub meet_needed-requires-clause-number : goal.meet_needed-requires-clause-number
meet_needed-requires-clause-number g c =
    let mid : OpenLeaves = record { store = c.number.new.self } in
    let numbered : IsNumberOf mid c.in_ok-number.number c.args.pattern.now = record {
      key = c.in_ok-key.key;
      of_pattern = (let K : PatternKey → Type 0 = λ k. IsPatternKeyOf c.args.pattern.now k in subst K (sym c.in_ok-key.ensures.ok) c.in_ok-of.ensures);
      found = c.in_ok-number.ensures.number;
    } in
    let P : Pattern → Type 0 = λ q. IsNumberOf mid c.in_ok-number.number q in
    subst P (sym c.of-asked.ensures) numbered

pub leaves_of-requires-clause-number : goal.leaves_of-requires-clause-number
leaves_of-requires-clause-number g c =
    let mid : OpenLeaves = record { store = c.number.new.self } in
    let numbered : IsNumberOf mid c.in_ok-number.number c.args.pattern.now = record {
      key = c.in_ok-key.key;
      of_pattern = (let K : PatternKey → Type 0 = λ k. IsPatternKeyOf c.args.pattern.now k in subst K (sym c.in_ok-key.ensures.ok) c.in_ok-of.ensures);
      found = c.in_ok-number.ensures.number;
    } in
    number_stays mid c.meet_needed.new.leaves c.in_ok-found.ensures.stays c.in_ok-number.number c.args.pattern.now numbered

pub leaves_of-requires-clause-found : goal.leaves_of-requires-clause-found
leaves_of-requires-clause-found g c =
    let mid : OpenLeaves = record { store = c.number.new.self } in
    let new = c.meet_needed.new.leaves in
    let pattern = c.args.pattern.now in
    let parts = c.args.parts.now in
    let stays = c.in_ok-found.ensures.stays in
    let found = found_as c.of-asked.result pattern (pieces_in mid) (pieces_in new) parts c.in_ok-found.found c.as_slice.result.now c.of-asked.ensures (sym stays.pieces) (sym c.as_slice.ensures) c.in_ok-found.ensures.found in
    (needed_of pattern parts, found)

pub returns-clause-exact : goal.returns-clause-exact
returns-clause-exact g c view are =
    let mid : OpenLeaves = record { store = c.number.new.self } in
    let new = c.meet_needed.new.leaves in
    let pattern = c.args.pattern.now in
    let parts = c.args.parts.now in
    let stays = c.in_ok-found.ensures.stays in
    let found = found_as c.of-asked.result pattern (pieces_in mid) (pieces_in new) parts c.in_ok-found.found c.as_slice.result.now c.of-asked.ensures (sym stays.pieces) (sym c.as_slice.ensures) c.in_ok-found.ensures.found in
    let Q : List PartLeaf → Type 0 = λ ls. AreLeavesOf pattern (needed_of pattern parts) ls in
    c.join.ensures.exact pattern view parts are (subst Q (sym c.as_slice-2.ensures) (c.in_ok-all.ensures (needed_of pattern parts) found))

pub returns-clause-placed : goal.returns-clause-placed
returns-clause-placed g c view are =
    let mid : OpenLeaves = record { store = c.number.new.self } in
    let new = c.meet_needed.new.leaves in
    let pattern = c.args.pattern.now in
    let parts = c.args.parts.now in
    let stays = c.in_ok-found.ensures.stays in
    let found = found_as c.of-asked.result pattern (pieces_in mid) (pieces_in new) parts c.in_ok-found.found c.as_slice.result.now c.of-asked.ensures (sym stays.pieces) (sym c.as_slice.ensures) c.in_ok-found.ensures.found in
    let Q : List PartLeaf → Type 0 = λ ls. AreLeavesOf pattern (needed_of pattern parts) ls in
    c.join.ensures.placed pattern view parts are (subst Q (sym c.as_slice-2.ensures) (c.in_ok-all.ensures (needed_of pattern parts) found))

pub returns-clause-kept : goal.returns-clause-kept
returns-clause-kept g c =
    let mid : OpenLeaves = record { store = c.number.new.self } in
    let old = c.args.leaves.now in
    let new = c.meet_needed.new.leaves in
    let N : List ℕ → Pattern → Type 0 = λ path q. Meets (IsOneOf (pairs_of path q c.args.parts.now)) (open_map mid) c.args.steps.now (open_map new) c.meet_needed.new.steps in
    let By : Pattern → Type 0 = λ q. N old.store.path q in
    let Of : List ℕ → Type 0 = λ path. N path c.of-asked.result in
    on_ok_of _ c.join.result (meets_between (IsOneOf (pairs_of old.store.path c.args.pattern.now c.args.parts.now)) (open_map old) (open_map mid) (open_map new) (open_map new) c.args.steps.now c.meet_needed.new.steps
    c.number.ensures.same (λ path a b. refl) (subst By c.of-asked.ensures (subst Of c.number.ensures.path c.in_ok-found.ensures.kept)))
