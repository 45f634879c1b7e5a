use Rattle.std.proofs.Common.{◌≡◌, ◌∷◌, [], List, ℕ, codes, sym, ap, ◌∙◌, map, string_bytes}
use Rattle.wire_words.specs.Words.{lang_word}
use Rattle.wire_words.proofs.Parts.{three, same_text, un_not}
use Rattle.wire_words.proofs.plain.match_words.Goals as goal

pub returns-clause-asked : goal.returns-clause-asked
returns-clause-asked c =
    let ws = three c.args.words.now c.command-item.result c.word-item.result c.pattern-item.result c.in-len3.len_at_least c.in-len3.len_below c.command-item.is c.word-item.is c.pattern-item.is in
    let a : string_bytes c.command-item.result ≡ codes "match" = sym c.as_str.ensures.value ∙ same_text _ _ (un_not _ (sym c.ne.ensures ∙ c.if-ne.false)) in
    let b : string_bytes c.word-item.result ≡ lang_word c.in_ok-lang.lang = sym c.as_str-2.ensures.value ∙ c.in_ok-lang.ensures.named.1 in
    record {
      matched = c.in_ok-lang.ensures.named.0;
      are =
          ap (map string_bytes) ws ∙ ap (λ (t : List ℕ). t ∷ string_bytes c.word-item.result ∷ string_bytes c.pattern-item.result ∷ []) a
          ∙ ap (λ (t : List ℕ). codes "match" ∷ t ∷ string_bytes c.pattern-item.result ∷ []) b
          ∙ ap (λ (t : List ℕ). codes "match" ∷ lang_word c.in_ok-lang.lang ∷ t ∷ []) (sym c.as_str-3.ensures.value);
    }
