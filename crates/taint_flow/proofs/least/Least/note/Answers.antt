use Rattle.std.proofs.Common.{refl}
use Rattle.std.proofs.lemmas.Option.{slice_get_read}
use Rattle.taint_flow.proofs.Lowest.{lowers_one}
use Rattle.taint_flow.proofs.least.Least.note.Goals as goal

pub returns : goal.returns
returns c =
    let old = c.args.self.now.sources.items in
    lowers_one c.args.sink c.args.source c.lesser-least.result c.index.result.now old _ c.requires (slice_get_read old _ c.args.sink c.index.result.now refl c.requires c.index.ensures) refl c.lesser-least.ensures.one c.lesser-least.ensures.source c.lesser-least.ensures.old
