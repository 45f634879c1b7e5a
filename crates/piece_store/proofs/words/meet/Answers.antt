use Rattle.std.proofs.Common.{◌∙◌, ◌%◌, ◌*◌, ◌^◌, refl, bit_or}
use Rattle.std.proofs.lemmas.List.{get_or_default}
use Rattle.piece_store.specs.declared.words.Word.{Word}
use Rattle.piece_store.specs.Bits.{no_word}
use Rattle.piece_store.proofs.BitLaws.{bit_put, bit_same}
use Rattle.piece_store.proofs.words.meet.Goals as goal

pub returns-clause-kept : goal.returns-clause-kept
returns-clause-kept c =
    let w = c.index-word.result.now in
    let bit = 1 * 2 ^ (c.args.at % 64) % 2 ^ 64 in
    bit_same c.args.words.now.items c.args.at c.requires w (c.index-word.ensures ∙ get_or_default _ _ _ no_word c.requires) (λ (w : Word). w.kept) (record { kept = w.kept; met = bit_or w.met bit }) refl

pub returns-clause-met : goal.returns-clause-met
returns-clause-met c =
    let w = c.index-word.result.now in
    let bit = 1 * 2 ^ (c.args.at % 64) % 2 ^ 64 in
    bit_put c.args.words.now.items c.args.at c.requires w (c.index-word.ensures ∙ get_or_default _ _ _ no_word c.requires) (λ (w : Word). w.met) (record { kept = w.kept; met = bit_or w.met bit }) refl
