use Rattle.std.proofs.Common.{◌∙◌, ap, refl, List, arith}
use Rattle.std.specs.Prelude.{◌&&◌}
use Rattle.piece_store.specs.declared.words.Word.{Word}
use Rattle.piece_store.specs.Bits.{word_at, has_bit, has_kept, has_met, turned_word}
use Rattle.piece_store.proofs.BitLaws.{all_changed, front_of, changed_none, changed_more, turned_kept, no_bits}
use Rattle.piece_store.proofs.words.turn.Goals as goal

pub loop-word-init : goal.loop-word-init
loop-word-init c = changed_none turned_word _

pub loop-word-preserved : goal.loop-word-preserved
loop-word-preserved c = changed_more turned_word _ c.loop-word.word-index c.loop-word.word-items c.turned.result c.loop-word.invariant (omega arith) c.turned.ensures

pub returns-clause-kept : goal.returns-clause-kept
returns-clause-kept c i =
    let old = c.deref_mut-word-items.result.now in
    ap (λ (s : List Word). has_kept s i) (front_of c.loop-word.word-items _ c.args.words.now.len (omega arith)) ∙ ap (λ (x : Word). has_bit x.kept i) (all_changed turned_word old refl c.loop-word.word-index c.loop-word.word-items c.loop-word.invariant (omega arith) i) ∙ turned_kept (word_at old i) i
    ∙ ap (λ (s : List Word). has_kept s i && has_met s i) c.deref_mut-word-items.ensures.value

pub returns-clause-met : goal.returns-clause-met
returns-clause-met c i =
    let old = c.deref_mut-word-items.result.now in
    ap (λ (s : List Word). has_met s i) (front_of c.loop-word.word-items _ c.args.words.now.len (omega arith)) ∙ ap (λ (x : Word). has_bit x.met i) (all_changed turned_word old refl c.loop-word.word-index c.loop-word.word-items c.loop-word.invariant (omega arith) i) ∙ no_bits i
