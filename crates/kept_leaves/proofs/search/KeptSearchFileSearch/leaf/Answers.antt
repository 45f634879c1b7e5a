use Rattle.std.proofs.Common.{◌∙◌, List, length, refl, sym, ap, subst}
use Rattle.std.proofs.lemmas.List.{with_items_is}
use Rattle.node_tree.specs.declared.view.FileView.{FileView}
use Rattle.tree_match.specs.Members.{Member, IsMember, known_tree}
use Rattle.file_parts.specs.Leaves.{HasNoneWritten}
use Rattle.file_parts.specs.Parts.{SeenPart}
use Rattle.file_parts.proofs.Splits.{none_written}
use Rattle.kept_leaves.specs.Asking.{Search, AsksKept}
use Rattle.kept_leaves.specs.Growth.{Meets}
use Rattle.kept_leaves.specs.Opened.{open_map}
use Rattle.kept_leaves.specs.Pairs.{IsOneOf}
use Rattle.kept_leaves.specs.Ready.{pairs_of}
use Rattle.kept_leaves.proofs.Finding.{not_true}
use Rattle.kept_leaves.proofs.Meeting.{on_ok_to}
use Rattle.kept_leaves.proofs.search.KeptSearchFileSearch.leaf.Goals as goal

pub returns-clause-asks : goal.returns-clause-asks
returns-clause-asks g c =
    let inside = c.self.inside in
    let pattern = c.args.pattern.now in
    let items = with_items_is inside.parts c.ask.new.parts (ap length c.ask.ensures.same ∙ c.deref_mut.ensures.len) in
    let parts = items ∙ c.ask.ensures.same ∙ c.deref_mut.ensures.value in
    let new : Search = record { leaves = c.ask.new.leaves; view = inside.file.now; parts = _ } in
    let M : List SeenPart → Type 0 = λ ps. Meets (IsOneOf (pairs_of inside.leaves.store.path pattern ps)) (open_map inside.leaves) c.args.steps.now (open_map c.ask.new.leaves) c.ask.new.steps in
    let A : Search → Type 0 = λ s. AsksKept pattern s c.args.steps.now new c.ask.new.steps in
    on_ok_to _ _ c.ask.result (λ kept. subst A c.self.view_is (record { path = c.ask.ensures.keeps.path; view = refl; parts = parts }, subst M c.deref_mut.ensures.value kept)) c.ask.ensures.kept

pub ask-requires-clause-absent : goal.ask-requires-clause-absent
ask-requires-clause-absent g c absent =
    let inside = c.self.inside in
    let pattern = c.args.pattern.now in
    let (opened, is, are, placed) = c.self.invariant in
    let out = c.in_ok-absent.ensures.lacks (not_true c.in_ok-absent.field-0 absent) in
    let R : FileView → Type 0 = λ v. (m : Member) → IsMember pattern (known_tree v) m → ⊥ in
    let P : List SeenPart → Type 0 = λ ps. HasNoneWritten pattern ps in
    subst P (sym c.deref_mut.ensures.value) (none_written pattern inside.file.now inside.parts.items are (subst R is (λ m x. out inside.ready.known m x)))
