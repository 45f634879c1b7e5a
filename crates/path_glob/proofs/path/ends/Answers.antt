use Rattle.std.proofs.lemmas.Str.Pattern.{ends_text}
use Rattle.path_glob.proofs.path.ends.Goals as goal

pub returns : goal.returns
returns c = ends_text c.ends_with.result c.args.ending.now c.args.path.now c.ends_with.ensures.cases
