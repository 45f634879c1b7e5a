use Rattle.std.specs.Prelude.{option_to_list}
use Rattle.unit_names.specs.Seen.{seen_word, all_words}
use Rattle.unit_names.specs.Words.{Word}
use Rattle.unit_names.proofs.Loops.{seen_more}
use Rattle.assignments.proofs.Loops.{flat_done}
use Rattle.unit_effects.specs.Numbering.{entry_value}
use Rattle.const_prop.proofs.unit_tables.add_held.Goals as goal

pub loop-name-preserved : goal.loop-name-preserved
loop-name-preserved c =
    seen_more seen_word (λ (w : Word). option_to_list (entry_value c.args.entry.now w.text)) c.as_slice-name-items.result.now c.loop-name.name-index _ _ _ _ c.loop-name-test.true c.loop-name.invariant c.in_ok-add_value.ensures

pub returns : goal.returns
returns c =
    flat_done seen_word (λ (w : Word). option_to_list (entry_value c.args.entry.now w.text)) c.as_slice-name-items.result.now c.loop-name.name-index _ (all_words c.args.into.now) _ c.loop-name-test.false c.as_slice-name-items.ensures c.loop-name.invariant
