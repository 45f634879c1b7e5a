use Rattle.file_results.specs.Quieted.{grammars_of}
use Rattle.seen_files.proofs.Once.{one_cost}
use Rattle.seen_files.proofs.seen.SeenFiles.is_one_cost.Goals as goal

pub returns : goal.returns
returns g c = one_cost (grammars_of (g.R.TreeReader.spells c.args.reader.now) (g.R.TreeReader.knows c.args.reader.now) (g.R.CommentReader.comments c.args.reader.now) c.args.traced)
