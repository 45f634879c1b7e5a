use Rattle.std.proofs.Common.{◌∙◌, ap, List, arith}
use Rattle.std.specs.Prelude.{◌&&◌}
use Rattle.piece_store.specs.declared.words.Word.{Word}
use Rattle.piece_store.specs.Bits.{word_at, has_bit, has_kept, has_met, met_word}
use Rattle.piece_store.proofs.BitLaws.{all_changed, front_of, blank, changed_none, changed_more, met_met}
use Rattle.piece_store.proofs.words.meet_all.Goals as goal

pub loop-word-init : goal.loop-word-init
loop-word-init c = changed_none (met_word c.args.met) _

pub loop-word-preserved : goal.loop-word-preserved
loop-word-preserved c = changed_more (met_word c.args.met) _ c.loop-word.word-index c.loop-word.word-items c.with_met.result c.loop-word.invariant (omega arith) c.with_met.ensures

pub returns-clause-kept : goal.returns-clause-kept
returns-clause-kept c i =
    let old = c.deref_mut-word-items.result.now in
    ap (λ (s : List Word). has_kept s i) (front_of c.loop-word.word-items _ c.args.words.now.len (omega arith)) ∙ ap (λ (x : Word). has_bit x.kept i) (all_changed (met_word c.args.met) old (blank c.args.met) c.loop-word.word-index c.loop-word.word-items c.loop-word.invariant (omega arith) i)
    ∙ ap (λ (s : List Word). has_kept s i) c.deref_mut-word-items.ensures.value

pub returns-clause-met : goal.returns-clause-met
returns-clause-met c i =
    let old = c.deref_mut-word-items.result.now in
    ap (λ (s : List Word). has_met s i) (front_of c.loop-word.word-items _ c.args.words.now.len (omega arith)) ∙ ap (λ (x : Word). has_bit x.met i) (all_changed (met_word c.args.met) old (blank c.args.met) c.loop-word.word-index c.loop-word.word-items c.loop-word.invariant (omega arith) i) ∙ met_met c.args.met (word_at old i) i
    ∙ ap (λ (s : List Word). c.args.met && has_kept s i) c.deref_mut-word-items.ensures.value
