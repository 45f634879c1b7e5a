use Rattle.std.proofs.Common.{◌≡◌, ◌∙◌, ℕ, List, refl, sym, ap, subst, true, false}
use Rattle.std.specs.BTreeMap.{BTreeMap, get}
use Rattle.node_tree.specs.declared.view.Pattern.{Pattern}
use Rattle.file_parts.specs.Leaves.{IsLeafIn}
use Rattle.file_parts.specs.Parts.{is_needed}
use Rattle.piece_store.specs.Kept.{put_pair}
use Rattle.kept_leaves.specs.declared.leaf.KeptLeaf.{KeptLeaf}
use Rattle.kept_leaves.specs.declared.leaf.OpenLeaves.{OpenLeaves}
use Rattle.kept_leaves.specs.Kept.{PieceRef, PatternRef, piece_cmp, pattern_cmp}
use Rattle.kept_leaves.specs.Opened.{open_map, StaysOpen}
use Rattle.kept_leaves.specs.Ready.{pair_of}
use Rattle.kept_leaves.proofs.Finding.{not_false}
use Rattle.kept_leaves.proofs.Keyed.{open_alike}
use Rattle.kept_leaves.proofs.Laws.{some_pair, right_as}
use Rattle.kept_leaves.proofs.Meeting.{not_wanted, marked_right, unmarked_right, meets_marked, meets_kept, rights_kept}
use Rattle.kept_leaves.proofs.Places.{row, row_same, stands, place_within, keys, place_stays, key_stays, number_stays}
use Rattle.kept_leaves.proofs.matching.meet.Goals as goal

pub returns-then-not-is_needed-clause-told : goal.returns-then-not-is_needed-clause-told
returns-then-not-is_needed-clause-told g c =
    let out = ap (λ (p : Pattern). is_needed p c.args.part.now) (sym c.pattern.ensures) ∙ sym c.is_needed.ensures ∙ c.if-not-is_needed.true in
    record {
      needs = λ e. absurd cc;
      none = λ e n. absurd (let f : true ≡ false = sym n ∙ out in cc);
    }

pub returns-then-not-is_needed-clause-kept : goal.returns-then-not-is_needed-clause-kept
returns-then-not-is_needed-clause-kept g c =
    not_wanted c.args.leaves.now.store.path c.args.part.now c.args.pattern.now (ap (λ (p : Pattern). is_needed p c.args.part.now) (sym c.pattern.ensures) ∙ sym c.is_needed.ensures ∙ c.if-not-is_needed.true) (open_map c.args.leaves.now) c.args.steps.now

pub mark-requires-clause-at : goal.mark-requires-clause-at
mark-requires-clause-at g c = place_within c.args.leaves.now c.args.place c.args.number c.args.part.now c.args.pattern.now c.requires.place c.requires.number

pub returns-then-mark-clause-leaves : goal.returns-then-mark-clause-leaves
returns-then-mark-clause-leaves g c =
    let old = c.args.leaves.now in
    let place = c.args.place in
    let number = c.args.number in
    let part = c.args.part.now in
    let pattern = c.args.pattern.now in
    let at = c.requires.place in
    let numbered = c.requires.number in
    let r = row old place number part pattern at numbered in
    let a = r.piece in
    let b = numbered.key in
    let x = pair_of old.store.path pattern part in
    let its = keys old place number part pattern at numbered in
    let standing = stands old place number part pattern at numbered in
    let mid : OpenLeaves = record { store = c.mark.new.self } in
    let met = c.mark.ensures.met r b standing numbered.found in
    let told = sym (c.mark.ensures.told r b standing numbered.found) ∙ c.if-mark.true in
    record { is_open = c.mark.ensures.open; right = marked_right (open_map old) (open_map mid) (open_alike old) x a b its met told c.requires.leaves.right }

pub returns-then-mark-clause-kept : goal.returns-then-mark-clause-kept
returns-then-mark-clause-kept g c =
    let old = c.args.leaves.now in
    let place = c.args.place in
    let number = c.args.number in
    let part = c.args.part.now in
    let pattern = c.args.pattern.now in
    let at = c.requires.place in
    let numbered = c.requires.number in
    let r = row old place number part pattern at numbered in
    let a = r.piece in
    let b = numbered.key in
    let x = pair_of old.store.path pattern part in
    let its = keys old place number part pattern at numbered in
    let standing = stands old place number part pattern at numbered in
    let mid : OpenLeaves = record { store = c.mark.new.self } in
    let met = c.mark.ensures.met r b standing numbered.found in
    let told = sym (c.mark.ensures.told r b standing numbered.found) ∙ c.if-mark.true in
    let needs = ap (λ (p : Pattern). is_needed p c.args.part.now) (sym c.pattern.ensures) ∙ sym c.is_needed.ensures ∙ c.if-not-is_needed.false in
    meets_marked old.store.path part pattern needs (open_map old) (open_map mid) (open_alike old) a b its met told c.args.steps.now

pub may_have-requires-clause-leaves : goal.may_have-requires-clause-leaves
may_have-requires-clause-leaves g c =
    let old = c.args.leaves.now in
    let place = c.args.place in
    let number = c.args.number in
    let part = c.args.part.now in
    let pattern = c.args.pattern.now in
    let at = c.requires.place in
    let numbered = c.requires.number in
    let r = row old place number part pattern at numbered in
    let a = r.piece in
    let b = numbered.key in
    let x = pair_of old.store.path pattern part in
    let its = keys old place number part pattern at numbered in
    let standing = stands old place number part pattern at numbered in
    let mid : OpenLeaves = record { store = c.mark.new.self } in
    let met = c.mark.ensures.met r b standing numbered.found in
    let told = sym (c.mark.ensures.told r b standing numbered.found) ∙ c.if-mark.true in
    record { is_open = c.mark.ensures.open; right = marked_right (open_map old) (open_map mid) (open_alike old) x a b its met told c.requires.leaves.right }

pub may_have-requires-clause-place : goal.may_have-requires-clause-place
may_have-requires-clause-place g c =
    let old = c.args.leaves.now in
    let mid : OpenLeaves = record { store = c.mark.new.self } in
    let kept_so : StaysOpen old mid = record { path = c.mark.ensures.path; pieces = c.mark.ensures.pieces; numbers = c.mark.ensures.numbers } in
    let at2 = place_stays old mid kept_so c.args.place c.args.part.now c.requires.place in
    let numbered2 = number_stays old mid kept_so c.args.number c.args.pattern.now c.requires.number in
    place_within mid c.args.place c.args.number c.args.part.now c.args.pattern.now at2 numbered2

pub returns-then-mark-clause-told : goal.returns-then-mark-clause-told
returns-then-mark-clause-told g c =
    let old = c.args.leaves.now in
    let mid : OpenLeaves = record { store = c.mark.new.self } in
    let needs = ap (λ (p : Pattern). is_needed p c.args.part.now) (sym c.pattern.ensures) ∙ sym c.is_needed.ensures ∙ c.if-not-is_needed.false in
    let kept_so : StaysOpen old mid = record { path = c.mark.ensures.path; pieces = c.mark.ensures.pieces; numbers = c.mark.ensures.numbers } in
    let at2 = place_stays old mid kept_so c.args.place c.args.part.now c.requires.place in
    let numbered2 = number_stays old mid kept_so c.args.number c.args.pattern.now c.requires.number in
    record { needs = λ e. needs; none = λ e n. c.may_have.ensures c.args.part.now c.args.pattern.now at2 numbered2 e }

pub leaf_in-requires : goal.leaf_in-requires
leaf_in-requires g c absent plain =
    let needs = ap (λ (p : Pattern). is_needed p c.args.part.now) (sym c.pattern.ensures) ∙ sym c.is_needed.ensures ∙ c.if-not-is_needed.false in
    c.requires.absent absent plain needs

pub returns-in_err-leaf-clause-leaves : goal.returns-in_err-leaf-clause-leaves
returns-in_err-leaf-clause-leaves g c =
    let old = c.args.leaves.now in
    let place = c.args.place in
    let number = c.args.number in
    let part = c.args.part.now in
    let pattern = c.args.pattern.now in
    let at = c.requires.place in
    let numbered = c.requires.number in
    let r = row old place number part pattern at numbered in
    let a = r.piece in
    let b = numbered.key in
    let x = pair_of old.store.path pattern part in
    let its = keys old place number part pattern at numbered in
    let standing = stands old place number part pattern at numbered in
    let mid : OpenLeaves = record { store = c.mark.new.self } in
    let met = c.mark.ensures.met r b standing numbered.found in
    let told = sym (c.mark.ensures.told r b standing numbered.found) ∙ c.if-mark.false in
    record { is_open = c.mark.ensures.open; right = unmarked_right (open_map old) (open_map mid) (open_alike old) x a b its met told c.requires.leaves.right }

pub keep-requires-clause-at : goal.keep-requires-clause-at
keep-requires-clause-at g c =
    let old = c.args.leaves.now in
    let place = c.args.place in
    let number = c.args.number in
    let part = c.args.part.now in
    let pattern = c.args.pattern.now in
    let at = c.requires.place in
    let numbered = c.requires.number in
    let r = row old place number part pattern at numbered in
    let a = r.piece in
    let b = numbered.key in
    let x = pair_of old.store.path pattern part in
    let its = keys old place number part pattern at numbered in
    let standing = stands old place number part pattern at numbered in
    let mid : OpenLeaves = record { store = c.mark.new.self } in
    let met = c.mark.ensures.met r b standing numbered.found in
    let kept_so : StaysOpen old mid = record { path = c.mark.ensures.path; pieces = c.mark.ensures.pieces; numbers = c.mark.ensures.numbers } in
    let at2 = place_stays old mid kept_so place part at in
    let numbered2 = number_stays old mid kept_so number pattern numbered in
    place_within mid place number part pattern at2 numbered2

pub keep-requires-clause-given : goal.keep-requires-clause-given
keep-requires-clause-given g c =
    let old = c.args.leaves.now in
    let place = c.args.place in
    let number = c.args.number in
    let part = c.args.part.now in
    let pattern = c.args.pattern.now in
    let at = c.requires.place in
    let numbered = c.requires.number in
    let r = row old place number part pattern at numbered in
    let a = r.piece in
    let b = numbered.key in
    let x = pair_of old.store.path pattern part in
    let its = keys old place number part pattern at numbered in
    let standing = stands old place number part pattern at numbered in
    let mid : OpenLeaves = record { store = c.mark.new.self } in
    let met = c.mark.ensures.met r b standing numbered.found in
    let kept_so : StaysOpen old mid = record { path = c.mark.ensures.path; pieces = c.mark.ensures.pieces; numbers = c.mark.ensures.numbers } in
    let at2 = place_stays old mid kept_so place part at in
    let numbered2 = number_stays old mid kept_so number pattern numbered in
    c.mark.ensures.open.sound.given numbered2.key number numbered2.found

pub returns-in_err-keep-clause-leaves : goal.returns-in_err-keep-clause-leaves
returns-in_err-keep-clause-leaves g c =
    let old = c.args.leaves.now in
    let place = c.args.place in
    let number = c.args.number in
    let part = c.args.part.now in
    let pattern = c.args.pattern.now in
    let at = c.requires.place in
    let numbered = c.requires.number in
    let r = row old place number part pattern at numbered in
    let a = r.piece in
    let b = numbered.key in
    let x = pair_of old.store.path pattern part in
    let its = keys old place number part pattern at numbered in
    let standing = stands old place number part pattern at numbered in
    let mid : OpenLeaves = record { store = c.mark.new.self } in
    let met = c.mark.ensures.met r b standing numbered.found in
    let told = sym (c.mark.ensures.told r b standing numbered.found) ∙ c.if-mark.false in
    let needs = ap (λ (p : Pattern). is_needed p c.args.part.now) (sym c.pattern.ensures) ∙ sym c.is_needed.ensures ∙ c.if-not-is_needed.false in
    let kept_so : StaysOpen old mid = record { path = c.mark.ensures.path; pieces = c.mark.ensures.pieces; numbers = c.mark.ensures.numbers } in
    let at2 = place_stays old mid kept_so place part at in
    let numbered2 = number_stays old mid kept_so number pattern numbered in
    let new : OpenLeaves = record { store = c.keep.new.self } in
    let leaf = c.in_ok-leaf.leaf in
    let s = row mid place number part pattern at2 numbered2 in
    let same : s.piece ≡ a = row_same mid place number part pattern at2 numbered2 ∙ key_stays old mid kept_so place part at ∙ sym (row_same old place number part pattern at numbered) in
    let right = c.requires.leaves.right in
    record {
      is_open = c.keep.ensures.open;
      right = right_as (open_map mid) (open_map new) c.in_err-keep.ensures.err (unmarked_right (open_map old) (open_map mid) (open_alike old) x a b its met told right);
    }

pub returns-clause-leaves : goal.returns-clause-leaves
returns-clause-leaves g c =
    let old = c.args.leaves.now in
    let place = c.args.place in
    let number = c.args.number in
    let part = c.args.part.now in
    let pattern = c.args.pattern.now in
    let at = c.requires.place in
    let numbered = c.requires.number in
    let r = row old place number part pattern at numbered in
    let a = r.piece in
    let b = numbered.key in
    let x = pair_of old.store.path pattern part in
    let its = keys old place number part pattern at numbered in
    let standing = stands old place number part pattern at numbered in
    let mid : OpenLeaves = record { store = c.mark.new.self } in
    let met = c.mark.ensures.met r b standing numbered.found in
    let told = sym (c.mark.ensures.told r b standing numbered.found) ∙ c.if-mark.false in
    let needs = ap (λ (p : Pattern). is_needed p c.args.part.now) (sym c.pattern.ensures) ∙ sym c.is_needed.ensures ∙ c.if-not-is_needed.false in
    let kept_so : StaysOpen old mid = record { path = c.mark.ensures.path; pieces = c.mark.ensures.pieces; numbers = c.mark.ensures.numbers } in
    let at2 = place_stays old mid kept_so place part at in
    let numbered2 = number_stays old mid kept_so number pattern numbered in
    let new : OpenLeaves = record { store = c.keep.new.self } in
    let leaf = c.in_ok-leaf.leaf in
    let s = row mid place number part pattern at2 numbered2 in
    let same : s.piece ≡ a = row_same mid place number part pattern at2 numbered2 ∙ key_stays old mid kept_so place part at ∙ sym (row_same old place number part pattern at numbered) in
    let Put : List ℕ → PieceRef → Type 0 = λ path k. (o : List ℕ) (p : PieceRef) (q : PatternRef) → open_map new o p q ≡ put_pair piece_cmp pattern_cmp path k b (some_pair leaf true) (open_map mid) o p q in
    let to_here : Put mid.store.path s.piece → Put old.store.path a = λ put. let F : PieceRef → Type 0 = λ k. Put mid.store.path k in let G : List ℕ → Type 0 = λ path. Put path a in subst G c.mark.ensures.path (subst F same put) in
    let put = c.in_ok-keep.ensures.ok s b (stands mid place number part pattern at2 numbered2) (ap (λ (m : BTreeMap PatternRef ℕ). get pattern_cmp m b) c.mark.ensures.numbers ∙ numbered.found) in
    record {
      is_open = c.keep.ensures.open;
      right = rights_kept old.store.path part pattern needs (open_map old) (open_map mid) (open_alike old) a b its met told (open_map new) leaf (to_here put) c.in_ok-leaf.ensures.alike c.requires.leaves.right;
    }

pub returns-clause-kept : goal.returns-clause-kept
returns-clause-kept g c =
    let old = c.args.leaves.now in
    let place = c.args.place in
    let number = c.args.number in
    let part = c.args.part.now in
    let pattern = c.args.pattern.now in
    let at = c.requires.place in
    let numbered = c.requires.number in
    let r = row old place number part pattern at numbered in
    let a = r.piece in
    let b = numbered.key in
    let x = pair_of old.store.path pattern part in
    let its = keys old place number part pattern at numbered in
    let standing = stands old place number part pattern at numbered in
    let mid : OpenLeaves = record { store = c.mark.new.self } in
    let met = c.mark.ensures.met r b standing numbered.found in
    let told = sym (c.mark.ensures.told r b standing numbered.found) ∙ c.if-mark.false in
    let needs = ap (λ (p : Pattern). is_needed p c.args.part.now) (sym c.pattern.ensures) ∙ sym c.is_needed.ensures ∙ c.if-not-is_needed.false in
    let kept_so : StaysOpen old mid = record { path = c.mark.ensures.path; pieces = c.mark.ensures.pieces; numbers = c.mark.ensures.numbers } in
    let at2 = place_stays old mid kept_so place part at in
    let numbered2 = number_stays old mid kept_so number pattern numbered in
    let new : OpenLeaves = record { store = c.keep.new.self } in
    let leaf = c.in_ok-leaf.leaf in
    let s = row mid place number part pattern at2 numbered2 in
    let same : s.piece ≡ a = row_same mid place number part pattern at2 numbered2 ∙ key_stays old mid kept_so place part at ∙ sym (row_same old place number part pattern at numbered) in
    let Put : List ℕ → PieceRef → Type 0 = λ path k. (o : List ℕ) (p : PieceRef) (q : PatternRef) → open_map new o p q ≡ put_pair piece_cmp pattern_cmp path k b (some_pair leaf true) (open_map mid) o p q in
    let to_here : Put mid.store.path s.piece → Put old.store.path a = λ put. let F : PieceRef → Type 0 = λ k. Put mid.store.path k in let G : List ℕ → Type 0 = λ path. Put path a in subst G c.mark.ensures.path (subst F same put) in
    let put = c.in_ok-keep.ensures.ok s b (stands mid place number part pattern at2 numbered2) (ap (λ (m : BTreeMap PatternRef ℕ). get pattern_cmp m b) c.mark.ensures.numbers ∙ numbered.found) in
    meets_kept old.store.path part pattern needs (open_map old) (open_map mid) (open_alike old) a b its met told (open_map new) leaf (to_here put) c.args.steps.now c.leaf_in.new.steps c.in_ok-leaf.ensures.cost

pub returns-clause-told : goal.returns-clause-told
returns-clause-told g c =
    let part = c.args.part.now in
    let pattern = c.args.pattern.now in
    let needs = ap (λ (p : Pattern). is_needed p part) (sym c.pattern.ensures) ∙ sym c.is_needed.ensures ∙ c.if-not-is_needed.false in
    let P : KeptLeaf → Type 0 = λ k. IsLeafIn pattern part k.leaf in
    record {
      needs = λ e. needs;
      none = λ e n. subst P (c.is_empty-may.ensures.0 (not_false c.is_empty-may.result e)) (c.in_ok-leaf.ensures.alike part.placed.piece refl);
    }
