use Rattle.std.proofs.Common.{List, ap, ◌∙◌, sym, subst, refl, reverse}
use Rattle.rule_form.specs.declared.rule.Rule.{Rule}
use Rattle.kept_leaves.specs.Kept.{map_of}
use Rattle.file_results.specs.Quieted.{grammars_of}
use Rattle.seen_files.specs.More.{IsMore}
use Rattle.seen_files.specs.Needs.{IsNeeded}
use Rattle.seen_files.proofs.Walking.{turned_round, seen_all, spent_all}
use Rattle.seen_files.proofs.seen.SeenFiles.see_now.Goals as goal

pub rules_now-requires : goal.rules_now-requires
rules_now-requires g c = let M : List Rule → Type 0 = λ b. IsMore b c.args.running.now c.in_ok-added.added in subst M c.as_slice.ensures c.in_ok-added.ensures.those

pub returns-clause-seen : goal.returns-clause-seen
returns-clause-seen g c old has apart =
    let grammars = grammars_of (g.R.TreeReader.spells c.args.reader.now) (g.R.TreeReader.knows c.args.reader.now) (g.R.CommentReader.comments c.args.reader.now) c.args.traced in
    let M : List Rule → Type 0 = λ b. IsMore b c.args.running.now c.in_ok-added.added in
    let since = subst M c.as_slice.ensures c.in_ok-added.ensures.those in
    let s = c.args.self.now in
    let w = c.in_ok-seen.ensures.walked c.args.before since old (turned_round grammars c.args.before old s c.reverse.new.self s.kept (c.reverse.ensures ∙ ap reverse c.replace-left.ensures.value) refl has) apart in
    seen_all grammars c.args.running.now old c.args.files.now (map_of s.kept) c.args.steps.now (map_of c.see_all.new.kept) c.see_all.new.steps (record { files = c.in_ok-seen.seen; kept = c.turn.new.self }) w c.in_ok-seen.ensures.ordered has.unmet c.turn.ensures

pub returns-clause-spent : goal.returns-clause-spent
returns-clause-spent g c old has apart =
    let grammars = grammars_of (g.R.TreeReader.spells c.args.reader.now) (g.R.TreeReader.knows c.args.reader.now) (g.R.CommentReader.comments c.args.reader.now) c.args.traced in
    let M : List Rule → Type 0 = λ b. IsMore b c.args.running.now c.in_ok-added.added in
    let since = subst M c.as_slice.ensures c.in_ok-added.ensures.those in
    let s = c.args.self.now in
    let w = c.in_ok-seen.ensures.walked c.args.before since old (turned_round grammars c.args.before old s c.reverse.new.self s.kept (c.reverse.ensures ∙ ap reverse c.replace-left.ensures.value) refl has) apart in
    spent_all grammars c.args.running.now old c.args.files.now (map_of s.kept) c.args.steps.now (map_of c.see_all.new.kept) c.see_all.new.steps (record { files = c.in_ok-seen.seen; kept = c.turn.new.self }) w (IsNeeded c.args.before s.files) has.kept
