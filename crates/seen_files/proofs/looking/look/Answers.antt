use Rattle.std.proofs.Common.{◌∙◌, subst}
use Rattle.node_tree.specs.declared.view.FileView.{FileView}
use Rattle.file_parts.specs.Parts.{ArePartsOf}
use Rattle.kept_leaves.specs.declared.leaf.KeptPairs.{KeptPairs}
use Rattle.kept_leaves.specs.Asking.{kept_by}
use Rattle.kept_leaves.specs.Kept.{map_of}
use Rattle.kept_leaves.specs.Opened.{SeesSame}
use Rattle.seen_files.proofs.Needing.{looked}
use Rattle.seen_files.proofs.looking.look.Goals as goal

pub scan_view-requires : goal.scan_view-requires
scan_view-requires g c = c.in_ok-search.ensures.file ∙ c.in_ok-parts.ensures

pub returns-clause-kept : goal.returns-clause-kept
returns-clause-kept g c =
    let P : FileView → Type 0 = λ v. ArePartsOf v c.in_ok-search.search.parts in
    let K : KeptPairs → Type 0 = λ k. SeesSame (map_of k) (kept_by c.in_ok-search.search) in
    looked c.args.running.now c.args.path.now c.args.view.now c.args.kept.now c.in_ok-now.now c.in_ok-search.search c.scan_view.new.search c.args.steps.now c.scan_view.new.steps
    (subst K c.replace-leaves.ensures.value c.in_ok-search.ensures.kept) c.in_ok-search.ensures.path (subst P c.in_ok-parts.ensures c.in_ok-search.ensures.parts) c.in_ok-now.ensures c.in_ok-results.ensures.asked
