use Rattle.std.proofs.Common.{◌≡◌, ◌+◌, ℕ, List, ◌∷◌, ◌++◌, length, sym, ap, ◌∙◌, arith, length-append}
use Rattle.std.specs.Prelude.{encode_utf8}
use Rattle.std.specs.Str.{IsUtf8, chars}
use Rattle.std.proofs.lemmas.Str.{chars_past_char, length-encode}
use Rattle.lexing.specs.Mark.{past_mark, mark_len}
use Rattle.lexing.proofs.mark.without_mark.Goals as goal

marked_chars : (text rest : List ℕ) (c : ℕ) → IsUtf8 text → text ≡ encode_utf8 c ++ rest → c ≡ 0xfeff → chars rest ≡ past_mark (chars text)
marked_chars text rest c u e m = sym (ap past_mark (chars_past_char text rest c u e) ∙ ap (λ (x : ℕ). past_mark (x ∷ chars rest)) m)

marked_len : (text rest : List ℕ) (c : ℕ) → IsUtf8 text → text ≡ encode_utf8 c ++ rest → c ≡ 0xfeff → length text ≡ length rest + mark_len (chars text)
marked_len text rest c u e m =
    let k : mark_len (chars text) ≡ 3 = ap mark_len (chars_past_char text rest c u e) ∙ ap (λ (x : ℕ). mark_len (x ∷ chars rest)) m in
    let l : length text ≡ 3 + length rest = ap length e ∙ ap (λ (x : ℕ). length (encode_utf8 x ++ rest)) m ∙ length-append (encode_utf8 0xfeff) rest ∙ ap (λ (n : ℕ). n + length rest) (length-encode 0xfeff) in
    omega arith

pub returns-in-Some-eq65279-clause-chars : goal.returns-in-Some-eq65279-clause-chars
returns-in-Some-eq65279-clause-chars c = marked_chars c.args.text.now c.as_str.result.now c.in-Some-eq65279.field-0 c.utf8.text (sym c.chars-rest.ensures.rest ∙ c.in-Some-eq65279.ensures.steps.0 ∙ ap (λ (x : List ℕ). encode_utf8 c.in-Some-eq65279.field-0 ++ x) (sym c.as_str.ensures)) c.in-Some-eq65279.field-0-test

pub returns-in-Some-eq65279-clause-len : goal.returns-in-Some-eq65279-clause-len
returns-in-Some-eq65279-clause-len c = marked_len c.args.text.now c.as_str.result.now c.in-Some-eq65279.field-0 c.utf8.text (sym c.chars-rest.ensures.rest ∙ c.in-Some-eq65279.ensures.steps.0 ∙ ap (λ (x : List ℕ). encode_utf8 c.in-Some-eq65279.field-0 ++ x) (sym c.as_str.ensures)) c.in-Some-eq65279.field-0-test
