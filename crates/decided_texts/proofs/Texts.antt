-- Texts that are among others.
use Rattle.std.proofs.Common.{◌≡◌, inl, inr, ℕ, Bool, true, false, List, [], ◌∷◌, ◌++◌, refl, ap, ◌∙◌}
use Rattle.std.specs.Prelude.{◌||◌}
use Rattle.std.specs.Cmp.Lexicographic.{bytes_decides}
use Rattle.std.specs.Str.{bytes_eq}
use Rattle.std.proofs.lemmas.List.Folds.{list_any-append}
use Rattle.node_match.specs.Sets.{Among}
use Rattle.decided_texts.specs.Decided.{is_refused}

pub both_true : (b : Bool) → b || true ≡ true
both_true true = refl
both_true false = refl

pub both_false : (b : Bool) → b || false ≡ b
both_false true = refl
both_false false = refl

-- one text more
pub with_one : (texts : List (List ℕ)) (text key : List ℕ) → is_refused (texts ++ text ∷ []) key ≡ is_refused texts key || bytes_eq text key
with_one texts text key =
    list_any-append (λ (t : List ℕ). bytes_eq t key) texts (text ∷ []) ∙ ap (λ (b : Bool). is_refused texts key || b) (both_false (bytes_eq text key))

pub with_same : (texts : List (List ℕ)) (text key : List ℕ) → bytes_eq text key ≡ true → is_refused (texts ++ text ∷ []) key ≡ true
with_same texts text key e = with_one texts text key ∙ ap (λ (b : Bool). is_refused texts key || b) e ∙ both_true (is_refused texts key)

pub with_other : (texts : List (List ℕ)) (text key : List ℕ) → bytes_eq text key ≡ false → is_refused (texts ++ text ∷ []) key ≡ is_refused texts key
with_other texts text key e = with_one texts text key ∙ ap (λ (b : Bool). is_refused texts key || b) e ∙ both_false (is_refused texts key)

among_at_head : (text t : List ℕ) (ts : List (List ℕ)) (b : Bool) → bytes_eq t text ≡ b → b || is_refused ts text ≡ true → (is_refused ts text ≡ true → Among ts text) → Among (t ∷ ts) text
among_at_head text t ts true e f rest = inl ((bytes_decides t text).0 e)
among_at_head text t ts false e f rest = inr (rest f)

-- a text that is found is there
pub is_among : (texts : List (List ℕ)) (text : List ℕ) → is_refused texts text ≡ true → Among texts text
is_among [] text e = absurd cc
is_among (t ∷ ts) text e = among_at_head text t ts (bytes_eq t text) refl e (is_among ts text)
