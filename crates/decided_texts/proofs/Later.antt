-- What is refused later changes nothing of texts that are decided.
use Rattle.std.proofs.Common.{◌≡◌, ℕ, Bool, true, false, List, ◌++◌, refl, sym, ap, ◌∙◌}
use Rattle.std.specs.Prelude.{◌||◌}
use Rattle.std.specs.Str.{bytes_eq}
use Rattle.std.proofs.lemmas.List.Folds.{list_any-append}
use Rattle.decided_texts.specs.Decided.{Decisions, is_refused, is_decided, AreUndecided}
use Rattle.decided_texts.proofs.Texts.{both_false, is_among}

-- a decided text is refused just where it was, whatever texts that weren't decided are refused later
pub same_refused : (d : Decisions) (more : List (List ℕ)) → AreUndecided d more → (text : List ℕ) → is_decided d text ≡ true → is_refused (d.refused ++ more) text ≡ is_refused d.refused text
same_refused d more new text decided = list_any-append (λ (t : List ℕ). bytes_eq t text) d.refused more ∙ ap (λ (b : Bool). is_refused d.refused text || b) (none (is_refused more text) refl) ∙ both_false (is_refused d.refused text)
  where
    none : (b : Bool) → is_refused more text ≡ b → is_refused more text ≡ false
    none true e = let f = sym decided ∙ new text (is_among more text e) in absurd cc
    none false e = e
