use Rattle.std.proofs.Common.{ap, arith, ◌++◌, List, ℕ}
use Rattle.std.proofs.lemmas.Str.{IsCharBoundary-start}
use Rattle.meta_bind.specs.Fills.{filled}
use Rattle.meta_bind.proofs.template.fill.Goals as goal

pub loop-at-init : goal.loop-at-init
loop-at-init c = record {
  within = omega arith;
  boundary = IsCharBoundary-start c.args.template.now c.utf8.template;
  adds = ap (λ (xs : List ℕ). xs ++ filled c.args.binding.now c.args.bytes.now c.args.template.now) c.new-text.ensures;
}
