use Rattle.std.proofs.Common.{◌+◌, ◌-◌, ◌/◌, ◌<◌, length, sym, ap, ◌∙◌, subst, arith}
use Rattle.std.proofs.lemmas.List.{get_or_read}
use Rattle.store_file.specs.declared.entry.Entry.{Entry}
use Rattle.store_file.specs.Found.{IsWith}
use Rattle.store_file.proofs.Keys.{key_cmp, below_all, above_all, has_keys, none_between}
use Rattle.store_file.proofs.saved.place_of.Goals as goal

pub loop-low-preserved-in-Less : goal.loop-low-preserved-in-Less
loop-low-preserved-in-Less c =
    let es = c.args.entries.now in
    let lt : c.loop-low.low + (c.loop-low.high - c.loop-low.low) / 2 < length es = omega (arith, c.loop-low.invariant.within) in
    record {
      ordered = omega arith;
      within = c.loop-low.invariant.within;
      below = λ k d h. below_all es c.requires c.args.piece.now c.args.pattern.now _ k d lt (omega arith)
          (ap (λ (e : Entry). key_cmp e c.args.piece.now c.args.pattern.now) (sym (get_or_read es _ c.index-entries-middle.result lt c.index-entries-middle.is d)) ∙ sym c.order_with.ensures ∙ c.in-Less.is);
      above = c.loop-low.invariant.above;
    }

pub loop-low-preserved : goal.loop-low-preserved
loop-low-preserved c =
    let es = c.args.entries.now in
    let lt : c.loop-low.low + (c.loop-low.high - c.loop-low.low) / 2 < length es = omega (arith, c.loop-low.invariant.within) in
    record {
      ordered = omega arith;
      within = omega arith;
      below = c.loop-low.invariant.below;
      above = λ k d h in'. above_all es c.requires c.args.piece.now c.args.pattern.now _ k d h in'
          (ap (λ (e : Entry). key_cmp e c.args.piece.now c.args.pattern.now) (sym (get_or_read es _ c.index-entries-middle.result lt c.index-entries-middle.is d)) ∙ sym c.order_with.ensures ∙ c.in-Greater.is);
    }

pub returns-in-Equal : goal.returns-in-Equal
returns-in-Equal c =
    let es = c.args.entries.now in
    let lt : c.loop-low.low + (c.loop-low.high - c.loop-low.low) / 2 < length es = omega (arith, c.loop-low.invariant.within) in
    (lt, λ d. subst (IsWith c.args.piece.now c.args.pattern.now) (get_or_read es _ c.index-entries-middle.result lt c.index-entries-middle.is d) (has_keys c.index-entries-middle.result c.args.piece.now c.args.pattern.now (sym c.order_with.ensures ∙ c.in-Equal.is)))

pub returns : goal.returns
returns c =
    let i = c.loop-low.invariant in
    none_between c.args.entries.now c.args.piece.now c.args.pattern.now c.loop-low.low c.loop-low.high c.loop-low-test.false i.below i.above
