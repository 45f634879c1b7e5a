use Rattle.std.proofs.Common.{List, [], ◌∷◌, ◌++◌, sym, ap, ◌∙◌, subst, refl}
use Rattle.file_open.specs.declared.opened.Opened.{Opened}
use Rattle.file_open.specs.declared.opened.Opened.TheVariants.{TooLarge, NotUtf8, NoTree, Read}
use Rattle.kept_leaves.specs.Kept.{map_of}
use Rattle.packed_view.specs.Opened.{HasText}
use Rattle.report_form.specs.declared.notice.Notice.{Notice}
use Rattle.report_form.specs.declared.notice.NoticeKind.TheVariants as kinds
use Rattle.running_rules.specs.Notes.{notice}
use Rattle.file_results.specs.Quieted.{grammars_of}
use Rattle.seen_files.specs.Findings.{seen_of}
use Rattle.seen_files.specs.Needs.{HasView}
use Rattle.seen_files.specs.Seen.{IsOpenedSo}
use Rattle.seen_files.proofs.Found.{if_large, if_odd, if_plain, if_read}
use Rattle.seen_files.proofs.Needing.{if_hidden, if_viewed}
use Rattle.seen_files.proofs.finding.find.Goals as goal

pub returns-in-TooLarge-clause-seen : goal.returns-in-TooLarge-clause-seen
returns-in-TooLarge-clause-seen g c so own apart =
    let spells = g.R.TreeReader.spells c.args.reader.now in
    let P : Opened → Type 0 = λ o. IsOpenedSo spells (c.args.path.now, c.args.bytes.value) o in
    if_large seen_of (grammars_of spells (g.R.TreeReader.knows c.args.reader.now) (g.R.CommentReader.comments c.args.reader.now) c.args.traced) c.args.running.now c.args.path.now c.args.bytes.value c.unseen.result
    c.unseen.ensures.file c.unseen.ensures.opened c.unseen.ensures.results c.unseen.ensures.notices (subst P c.in-TooLarge.is so)

pub returns-in-TooLarge-clause-kept : goal.returns-in-TooLarge-clause-kept
returns-in-TooLarge-clause-kept g c = if_hidden seen_of c.args.running.now TooLarge c.unseen.result c.unseen.ensures.opened (λ view h. h) (map_of c.args.kept.now) c.args.steps.now

pub returns-in-NotUtf8-clause-seen : goal.returns-in-NotUtf8-clause-seen
returns-in-NotUtf8-clause-seen g c so own apart =
    let spells = g.R.TreeReader.spells c.args.reader.now in
    let P : Opened → Type 0 = λ o. IsOpenedSo spells (c.args.path.now, c.args.bytes.value) o in
    if_odd seen_of (grammars_of spells (g.R.TreeReader.knows c.args.reader.now) (g.R.CommentReader.comments c.args.reader.now) c.args.traced) c.args.running.now c.args.path.now c.args.bytes.value c.unseen-in-NotUtf8.result
    c.unseen-in-NotUtf8.ensures.file c.unseen-in-NotUtf8.ensures.opened c.unseen-in-NotUtf8.ensures.results c.unseen-in-NotUtf8.ensures.notices (subst P c.in-NotUtf8.is so)

pub returns-in-NotUtf8-clause-kept : goal.returns-in-NotUtf8-clause-kept
returns-in-NotUtf8-clause-kept g c =
    if_hidden seen_of c.args.running.now NotUtf8 c.unseen-in-NotUtf8.result c.unseen-in-NotUtf8.ensures.opened (λ view h. h) (map_of c.args.kept.now) c.args.steps.now

pub found_in-requires : goal.found_in-requires
found_in-requires g c = let T : Opened → Type 0 = HasText c.args.bytes.value in c.in_ok-found-in-NoTree.ensures.same.bytes ∙ subst T c.in-NoTree.is c.requires

pub returns-in_ok-found-in-NoTree-clause-seen : goal.returns-in_ok-found-in-NoTree-clause-seen
returns-in_ok-found-in-NoTree-clause-seen g c so own apart =
    let spells = g.R.TreeReader.spells c.args.reader.now in
    let grammars = grammars_of spells (g.R.TreeReader.knows c.args.reader.now) (g.R.CommentReader.comments c.args.reader.now) c.args.traced in
    let P : Opened → Type 0 = λ o. IsOpenedSo spells (c.args.path.now, c.args.bytes.value) o in
    let V : Opened → Type 0 = λ o. HasView o c.in-NoTree.view in
    let names = own c.in-NoTree.view (subst V (sym c.in-NoTree.is) refl) in
    let start = c.in_ok-add_notice-in-NoTree.ensures ∙ ap (λ (ns : List Notice). ns ++ notice c.args.path.now [] kinds.NoTree [] ∷ []) c.new-notices.ensures.items in
    if_plain seen_of grammars c.args.running.now c.args.path.now c.args.bytes.value c.found_in.result c.found_in.ensures.file c.in-NoTree.view c.in_ok-found-in-NoTree.found.0 c.in_ok-found-in-NoTree.ensures.same
    (c.in_ok-found-in-NoTree.ensures.named names) c.in_ok-found-in-NoTree.found.1 (c.in_ok-found-in-NoTree.ensures.results names apart)
    c.add_notice.new.notices.items c.look_with_names.new.notices.items (c.in_ok-found-in-NoTree.ensures.notices names) c.found_in.ensures.results c.found_in.ensures.notices start c.found_in.ensures.opened (subst P c.in-NoTree.is so)

pub returns-in_ok-found-in-NoTree-clause-kept : goal.returns-in_ok-found-in-NoTree-clause-kept
returns-in_ok-found-in-NoTree-clause-kept g c =
    if_viewed seen_of c.args.running.now (NoTree c.in_ok-found-in-NoTree.found.0) c.found_in.result c.found_in.ensures.opened c.in_ok-found-in-NoTree.found.0 c.args.path.now c.args.bytes.value c.found_in.ensures.file refl (λ view h. h)
    (map_of c.args.kept.now) c.args.steps.now (map_of c.look_with_names.new.kept) c.look_with_names.new.steps c.in_ok-found-in-NoTree.ensures.kept

pub found_in-requires-in-Read : goal.found_in-requires-in-Read
found_in-requires-in-Read g c = let T : Opened → Type 0 = HasText c.args.bytes.value in c.in_ok-found-in-Read.ensures.same.bytes ∙ subst T c.in-Read.is c.requires

pub returns-in_ok-found-in-Read-clause-seen : goal.returns-in_ok-found-in-Read-clause-seen
returns-in_ok-found-in-Read-clause-seen g c so own apart =
    let spells = g.R.TreeReader.spells c.args.reader.now in
    let grammars = grammars_of spells (g.R.TreeReader.knows c.args.reader.now) (g.R.CommentReader.comments c.args.reader.now) c.args.traced in
    let P : Opened → Type 0 = λ o. IsOpenedSo spells (c.args.path.now, c.args.bytes.value) o in
    let V : Opened → Type 0 = λ o. HasView o c.in-Read.view in
    let names = own c.in-Read.view (subst V (sym c.in-Read.is) refl) in
    if_read seen_of grammars c.args.running.now c.args.path.now c.args.bytes.value c.found_in-in-Read.result c.found_in-in-Read.ensures.file c.in-Read.view c.in_ok-found-in-Read.found.0 c.in_ok-found-in-Read.ensures.same
    (c.in_ok-found-in-Read.ensures.named names) c.in_ok-found-in-Read.found.1 (c.in_ok-found-in-Read.ensures.results names apart)
    c.new-notices-in-Read.result.items c.look_with_names-in-Read.new.notices.items (c.in_ok-found-in-Read.ensures.notices names) c.found_in-in-Read.ensures.results c.found_in-in-Read.ensures.notices c.new-notices-in-Read.ensures.items c.found_in-in-Read.ensures.opened (subst P c.in-Read.is so)

pub returns-in_ok-found-in-Read-clause-kept : goal.returns-in_ok-found-in-Read-clause-kept
returns-in_ok-found-in-Read-clause-kept g c =
    if_viewed seen_of c.args.running.now (Read c.in_ok-found-in-Read.found.0) c.found_in-in-Read.result c.found_in-in-Read.ensures.opened c.in_ok-found-in-Read.found.0 c.args.path.now c.args.bytes.value c.found_in-in-Read.ensures.file refl (λ view h. h)
    (map_of c.args.kept.now) c.args.steps.now (map_of c.look_with_names-in-Read.new.kept) c.look_with_names-in-Read.new.steps c.in_ok-found-in-Read.ensures.kept
