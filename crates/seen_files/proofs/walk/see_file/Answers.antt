use Rattle.std.proofs.Common.{◌≡◌, ◌↔◌, ◌+◌, sym, subst}
use Rattle.std.specs.Prelude.{Option, IfSome, IfOk}
use Rattle.kept_leaves.specs.Growth.{Meets}
use Rattle.kept_leaves.specs.Kept.{map_of, IsKept}
use Rattle.kept_leaves.specs.Pairs.{Pair}
use Rattle.file_results.specs.Quieted.{grammars_of}
use Rattle.seen_files.specs.declared.seen.SeenFile.{SeenFile}
use Rattle.seen_files.specs.Needs.{IsNeededAt}
use Rattle.seen_files.specs.Seen.{IsSeen}
use Rattle.seen_files.specs.Walk.{openings}
use Rattle.seen_files.proofs.walk.see_file.Goals as goal

pub returns-in-None-clause-seen : goal.returns-in-None-clause-seen
returns-in-None-clause-seen g c before since apart seen = c.see_anew.ensures.seen apart

pub returns-in-None-clause-kept : goal.returns-in-None-clause-kept
returns-in-None-clause-kept g c before since needed =
    let P : Option SeenFile → Type 0 = λ o. IfOk c.see_anew.result (λ s. Meets (IsNeededAt c.args.running.now s) (map_of c.args.kept.now) (c.args.steps.now + openings o c.args.bytes.now.value) (map_of c.see_anew.new.kept) c.see_anew.new.steps) in
    subst P (sym c.in-None.is) c.see_anew.ensures.kept

pub see_again-requires : goal.see_again-requires
see_again-requires g c = let P : Option SeenFile → Type 0 = λ o. IfSome o (λ s. s.path ≡ c.args.path.now) in subst P c.in-Some.is c.requires

pub returns-in-Some-clause-seen : goal.returns-in-Some-clause-seen
returns-in-Some-clause-seen g c before since apart seen =
    let P : Option SeenFile → Type 0 = λ o. IfSome o (IsSeen (grammars_of (g.R.TreeReader.spells c.args.reader.now) (g.R.TreeReader.knows c.args.reader.now) (g.R.CommentReader.comments c.args.reader.now) c.args.traced) before) in
    c.see_again.ensures.seen before since apart (subst P c.in-Some.is seen)

pub returns-in-Some-clause-kept : goal.returns-in-Some-clause-kept
returns-in-Some-clause-kept g c before since needed =
    let P : Option SeenFile → Type 0 = λ o. IfSome o (λ s. (x : Pair) → ((c.args.path.now ≡ x.path) × IsKept (map_of c.args.kept.now) x) ↔ IsNeededAt before s x) in
    let Q : Option SeenFile → Type 0 = λ o. IfOk c.see_again.result (λ s. Meets (IsNeededAt c.args.running.now s) (map_of c.args.kept.now) (c.args.steps.now + openings o c.args.bytes.now.value) (map_of c.see_again.new.kept) c.see_again.new.steps) in
    subst Q (sym c.in-Some.is) (c.see_again.ensures.kept before since (subst P c.in-Some.is needed))
