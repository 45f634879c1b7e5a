use Rattle.std.proofs.Common.{map, ap, ◌∙◌, refl}
use Rattle.kept_leaves.specs.Kept.{map_of}
use Rattle.file_map.specs.Seen.{lent}
use Rattle.file_results.specs.Quieted.{grammars_of}
use Rattle.seen_files.specs.More.{IsMore}
use Rattle.seen_files.proofs.Stacks.{taken_at}
use Rattle.seen_files.proofs.Walking.{walk_start, passed_start, steps_on, walk_end, in_path_order}
use Rattle.seen_files.proofs.seeing.see_all.Goals as goal

pub loop-path-init : goal.loop-path-init
loop-path-init g c before since old has apart = (
  walk_start (grammars_of (g.R.TreeReader.spells c.args.reader.now) (g.R.TreeReader.knows c.args.reader.now) (g.R.CommentReader.comments c.args.reader.now) c.args.traced) c.args.running.now old (map_of c.args.kept.now) c.args.steps.now c.new-seen.result c.new-seen.ensures,
  passed_start c.args.left c.args.left refl,
)

pub see_file-requires : goal.see_file-requires
see_file-requires g c = taken_at c.loop-path-item.result.0.now c.loop-path.left c.in_ok-taken.taken c.take_at.new.left c.in_ok-taken.ensures

pub loop-path-preserved : goal.loop-path-preserved
loop-path-preserved g c before since old has apart =
    let grammars = grammars_of (g.R.TreeReader.spells c.args.reader.now) (g.R.TreeReader.knows c.args.reader.now) (g.R.CommentReader.comments c.args.reader.now) c.args.traced in
    let items = c.as_slice-path-items.result.now in
    let x = c.loop-path-item.result in
    let far = c.loop-path.invariant before since old has apart in
    steps_on lent items c.loop-path.path-index x x c.loop-path-test.true c.loop-path-item.is grammars c.args.running.now before old c.args.left c.args.kept.now has c.args.files.now
    (ap (map lent) c.as_slice-path-items.ensures ∙ c.in_ok-entries.ensures.files) (in_path_order c.args.files.now c.in_ok-entries.ensures.ordered) x.0.now x.1.now.value refl
    c.args.steps.now (map_of c.loop-path.kept) c.loop-path.steps c.loop-path.seen c.loop-path.left far.0 far.1 c.in_ok-taken.taken c.take_at.new.left c.in_ok-taken.ensures
    (λ b. IsMore b c.args.running.now c.args.added.now) since apart c.in_ok-file.file c.in_ok-file.ensures.file c.in_ok-file.ensures.seen (map_of c.see_file.new.kept) c.see_file.new.steps c.in_ok-file.ensures.kept c.push.new.self c.in_ok-push.ensures.ok

pub returns-clause-walked : goal.returns-clause-walked
returns-clause-walked g c before since old has apart =
    let grammars = grammars_of (g.R.TreeReader.spells c.args.reader.now) (g.R.TreeReader.knows c.args.reader.now) (g.R.CommentReader.comments c.args.reader.now) c.args.traced in
    let far = c.loop-path.invariant before since old has apart in
    walk_end lent c.as_slice-path-items.result.now c.loop-path.path-index c.args.files.now c.loop-path-test.false (ap (map lent) c.as_slice-path-items.ensures ∙ c.in_ok-entries.ensures.files)
    grammars c.args.running.now old (map_of c.args.kept.now) c.args.steps.now (map_of c.loop-path.kept) c.loop-path.steps c.loop-path.seen far.0

pub returns-clause-ordered : goal.returns-clause-ordered
returns-clause-ordered g c = in_path_order c.args.files.now c.in_ok-entries.ensures.ordered
