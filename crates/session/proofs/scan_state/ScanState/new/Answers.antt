use Rattle.scan_session.specs.Quieted.{grammars_of}
use Rattle.session.proofs.Keeping.{none_seen}
use Rattle.session.proofs.scan_state.ScanState.new.Goals as goal

pub invariant_of-result : goal.invariant_of-result
invariant_of-result g c =
    let r = c.new.result.reader in
    none_seen (grammars_of (g.R.TreeReader.spells r) (g.R.TreeReader.knows r) (g.R.CommentReader.comments r) c.args.traced) _ c.new-3.result c.new-3.ensures
