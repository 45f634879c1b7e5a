use Rattle.std.proofs.Common.{◌≡◌, ℕ, List, sym, ◌∙◌, subst}
use Rattle.rule_form.specs.declared.rule.Rule.{Rule}
use Rattle.file_open.specs.declared.opened.Opened.{Opened}
use Rattle.kept_leaves.specs.Kept.{map_of}
use Rattle.packed_view.specs.Opened.{HasText}
use Rattle.file_results.specs.Quieted.{grammars_of}
use Rattle.seen_files.specs.More.{AreAdded}
use Rattle.seen_files.specs.Needs.{HasView}
use Rattle.seen_files.specs.Seen.{HasOwnNames, IsOpenedSo, IsSeen}
use Rattle.seen_files.proofs.Added.{meets_same, some_found}
use Rattle.seen_files.proofs.Found.{seen_own}
use Rattle.seen_files.proofs.adding.see_more.Goals as goal

pub returns-then-is_empty-clause-seen : goal.returns-then-is_empty-clause-seen
returns-then-is_empty-clause-seen g c before more apart seen =
    let P : List Rule → Type 0 = λ rs. IsSeen (grammars_of (g.R.TreeReader.spells c.args.reader.now) (g.R.TreeReader.knows c.args.reader.now) (g.R.CommentReader.comments c.args.reader.now) c.args.traced) rs c.args.was in
    subst P (sym (more.none (c.is_empty.ensures.0 c.if-is_empty.true))) seen

pub returns-then-is_empty-clause-kept : goal.returns-then-is_empty-clause-kept
returns-then-is_empty-clause-kept g c before more needed =
    meets_same before c.args.running.now c.args.added.now more (c.is_empty.ensures.0 c.if-is_empty.true) c.args.was c.args.path.now (map_of c.args.kept.now) (map_of c.keep_path.new.self) c.args.steps.now needed c.keep_path.ensures

pub look_more-requires-clause-view : goal.look_more-requires-clause-view
look_more-requires-clause-view g c =
    let P : Opened → Type 0 = λ o. HasView o c.in-Some.view.now in
    subst P c.in_ok-opened.ensures (some_found c.in_ok-view.field-0 _ _ c.in-Some.is c.in_ok-view.ensures).0

pub look_more-requires-clause-names : goal.look_more-requires-clause-names
look_more-requires-clause-names g c = (some_found c.in_ok-view.field-0 _ _ c.in-Some.is c.in_ok-view.ensures).1

pub returns-in-Some-clause-seen : goal.returns-in-Some-clause-seen
returns-in-Some-clause-seen g c before more apart seen =
    let M : List Rule → Type 0 = AreAdded before c.args.running.now in
    c.look_more.ensures.seen before c.args.running.now (subst M (sym c.as_slice-rules.ensures) more) apart seen

pub returns-in-Some-clause-kept : goal.returns-in-Some-clause-kept
returns-in-Some-clause-kept g c before more needed =
    let M : List Rule → Type 0 = AreAdded before c.args.running.now in
    c.look_more.ensures.kept before c.args.running.now (subst M (sym c.as_slice-rules.ensures) more) needed

pub see_opened-requires : goal.see_opened-requires
see_opened-requires g c = let T : Opened → Type 0 = HasText c.args.was.bytes.value in subst T (sym c.in_ok-opened.ensures) c.args.was.text

pub returns-clause-seen : goal.returns-clause-seen
returns-clause-seen g c before more apart seen =
    let spells = g.R.TreeReader.spells c.args.reader.now in
    let S : Opened → Type 0 = IsOpenedSo spells (c.args.path.now, c.args.was.bytes.value) in
    let N : Opened → Type 0 = HasOwnNames (g.R.TreeReader.knows c.args.reader.now) in
    let P : List ℕ → Type 0 = λ p. IsOpenedSo spells (p, c.args.was.bytes.value) c.args.was.opened in
    let grammars = grammars_of spells (g.R.TreeReader.knows c.args.reader.now) (g.R.CommentReader.comments c.args.reader.now) c.args.traced in
    let unpacked = sym c.in_ok-opened.ensures in
    c.see_opened.ensures.seen (subst S unpacked (subst P c.requires seen.opened)) (subst N unpacked (seen_own grammars before c.args.was seen)) apart
