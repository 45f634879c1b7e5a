use Rattle.std.proofs.Common.{◌≡◌, ◌∷◌, [], List, ℕ, codes, sym, ap, ◌∙◌, map, string_bytes}
use Rattle.wire_words.proofs.Parts.{two, same_text, same_reads}
use Rattle.wire_words.proofs.plain.is_check.Goals as goal

pub returns-then-eq : goal.returns-then-eq
returns-then-eq c =
    let ws = two c.args.words.now c.command-item.result c.word-item.result c.in-len2.len_at_least c.in-len2.len_below c.command-item.is c.word-item.is in
    let a : string_bytes c.command-item.result ≡ codes "check" = sym c.as_str.ensures.value ∙ same_text _ _ (sym c.eq.ensures ∙ c.if-eq.true) in
    let all : map string_bytes c.args.words.now ≡ codes "check" ∷ c.as_str-then-eq.result.now ∷ [] =
    ap (map string_bytes) ws ∙ ap (λ (t : List ℕ). t ∷ string_bytes c.word-item.result ∷ []) a ∙ ap (λ (t : List ℕ). codes "check" ∷ t ∷ []) (sym c.as_str-then-eq.ensures.value) in (
      λ t. all ∙ ap (λ (t : List ℕ). codes "check" ∷ t ∷ []) (same_text _ _ (sym c.eq-then-eq.ensures ∙ t)),
      λ e. c.eq-then-eq.ensures ∙ same_reads _ _ (second c.as_str-then-eq.result.now (sym all ∙ e)),
    )
  where
    second : (text : List ℕ) → codes "check" ∷ text ∷ [] ≡ codes "check" ∷ codes "json" ∷ [] → text ≡ codes "json"
    second text e = cc
