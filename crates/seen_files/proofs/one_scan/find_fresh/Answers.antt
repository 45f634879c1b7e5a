use Rattle.std.specs.Prelude.{IfOk}
use Rattle.kept_leaves.specs.Kept.{map_of}
use Rattle.seen_files.specs.Findings.{seen_of}
use Rattle.seen_files.specs.Fresh.{SpendsOn}
use Rattle.file_results.specs.Quieted.{grammars_of}
use Rattle.seen_files.proofs.Fresh.{if_spends, one_fresh_cost}
use Rattle.seen_files.proofs.one_scan.find_fresh.Goals as goal

pub returns-clause-spent : goal.returns-clause-spent
returns-clause-spent g c = if_spends seen_of c.args.running.now (map_of c.new-kept.result) (map_of c.find_anew.new.kept) c.new-kept.ensures c.find_anew.result c.args.steps.now c.find_anew.new.steps c.find_anew.ensures.kept

pub returns-clause-one : goal.returns-clause-one
returns-clause-one g c = one_fresh_cost (grammars_of (g.R.TreeReader.spells c.args.reader.now) (g.R.TreeReader.knows c.args.reader.now) (g.R.CommentReader.comments c.args.reader.now) c.args.traced)
