use Rattle.std.proofs.Common.{arith, refl, ap, subst, ℕ, length-set}
use Rattle.flow_reach.specs.Bits.{Has}
use Rattle.flow_reach.proofs.Works.{taken, next_word, listed_there, all_idle}
use Rattle.flow_reach.proofs.worklist.Worklist.take.Goals as goal

pub waiting-bits-requires : goal.waiting-bits-requires
waiting-bits-requires c =
    let i = c.loop-word.invariant in
    omega (arith, i.shaped.same, listed_there c.loop-word.self c.pop.new.self.items c.in-Some.word i.shaped c.in-Some.ensures.items)

pub index_mut-requires : goal.index_mut-requires
index_mut-requires c =
    let i = c.loop-word.invariant in
    omega (arith, i.shaped.same, listed_there c.loop-word.self c.pop.new.self.items c.in-Some.word i.shaped c.in-Some.ensures.items)

pub returns-then-bits-ne0 : goal.returns-then-bits-ne0
returns-then-bits-ne0 c =
    let i = c.loop-word.invariant in
    taken c.args.self.now c.loop-word.self _ c.in-Some.word c.waiting-bits.result i.shaped i.seen i.todo c.in-Some.ensures.items c.waiting-bits.ensures c.if-bits-ne0.true (omega (arith, c.waiting-bits.type_inv)) refl refl (length-set _ _ _)

pub loop-word-preserved : goal.loop-word-preserved
loop-word-preserved c =
    let i = c.loop-word.invariant in
    record {
      shaped = next_word c.loop-word.self _ c.in-Some.word c.waiting-bits.result i.shaped c.in-Some.ensures.items c.waiting-bits.ensures c.if-bits-ne0.false refl refl;
      seen = i.seen;
      todo = i.todo;
    }

pub returns : goal.returns
returns c =
    let i = c.loop-word.invariant in
    let T : _ → Type 0 = λ todo. (k : ℕ) → Has todo.items k → ⊥ in
    record {
      seen = ap (λ v. v.items) i.seen;
      none = subst T i.todo (all_idle c.loop-word.self i.shaped (λ lt. let z = c.in_default.ensures.variant.1 (omega (arith, lt)) in cc));
    }
