use Rattle.std.proofs.lemmas.Str.{IsUtf8-between, IsUtf8-had}
use Rattle.meta_bind.specs.declared.bound.Bound.{Bound}
use Rattle.meta_bind.specs.Bounds.{seen}
use Rattle.meta_bind.specs.Places.{EndsLieIn}
use Rattle.meta_bind.proofs.Fillings.{found_has}
use Rattle.meta_filter.proofs.bound_text.holds_regex.Goals as goal

pub slice_bounds-from_utf8-end : goal.slice_bounds-from_utf8-end
slice_bounds-from_utf8-end c = (found_has (λ (b : Bound). EndsLieIn c.args.bytes.now b.span) c.args.name.now c.args.binding.now (seen c.in-Some.bound.now) c.in-Some.ensures c.requires.placed).1.0

pub unreachable-requires : goal.unreachable-requires
unreachable-requires c =
    let lies = found_has (λ (b : Bound). EndsLieIn c.args.bytes.now b.span) c.args.name.now c.args.binding.now (seen c.in-Some.bound.now) c.in-Some.ensures c.requires.placed in
    c.in-Err.ensures.cases.0 (IsUtf8-between c.args.bytes.now c.in-Some.bound.now.span.from c.in-Some.bound.now.span.to (IsUtf8-had c.args.bytes.now c.requires.utf8) c.if-to-from.false lies.0 lies.1)
