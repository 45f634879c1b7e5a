use Rattle.std.proofs.Common.{refl, sym, ap, ◌∙◌, ◌≡◌, Some, List, ℕ}
use Rattle.std.specs.Prelude.{slice_range}
use Rattle.std.proofs.lemmas.Option.{slice_get_read}
use Rattle.trace_path.specs.declared.queue.Class.{Class}
use Rattle.trace_path.proofs.queue.Queue.facts_of.Goals as goal

pub returns : goal.returns
returns c k at =
    let d = c.index-class.result.now in
    let here = slice_get_read c.args.self.now.classes.items _ c.args.at d refl c.requires.inside c.index-class.ensures in
    let same : d ≡ k = let q : Some d ≡ Some k = sym here ∙ at in cc in
    ap (λ (fs : List ℕ). slice_range fs d.first d.end) c.deref.ensures.value ∙ ap (λ (z : Class). slice_range c.args.self.now.facts.items z.first z.end) same
