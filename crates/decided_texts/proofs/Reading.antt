-- Regular expressions of decided texts.
use Rattle.std.proofs.Common.{◌≡◌, ℕ, ◌+◌, ◌<◌, Bool, true, false, List, ◌∷◌, length, drop, get_or, refl, sym, ap, ◌∙◌}
use Rattle.std.proofs.lemmas.List.{drop_more}
use Rattle.std.specs.Prelude.{Option, None, Some, ◌||◌, if◌then◌else◌}
use Rattle.std.specs.Borrow.{Bor}
use Rattle.std.specs.List.{list_any}
use Rattle.std.specs.Option.{option_copied}
use Rattle.decided_texts.specs.Decided.{is_refused, came_to}

-- a text whose regular expression is there isn't refused, and that is its own
pub is_built : (refused : List (List ℕ)) (text rx : List ℕ) (o : Option (Bor (List ℕ))) (b : Bor (List ℕ)) → o ≡ Some b → b.now ≡ rx → option_copied o ≡ came_to refused text → (is_refused refused text ≡ false) × (rx ≡ text)
is_built refused text rx o b e f h = at (is_refused refused text) (sym (ap (λ (p : Option (Bor (List ℕ))). option_copied p) e) ∙ h)
  where
    at : (u : Bool) → Some b.now ≡ (if u then None else Some text) → (u ≡ false) × (rx ≡ text)
    at true g = absurd cc
    at false g = (refl, let k : b.now ≡ text = cc in sym f ∙ k)

-- a text whose regular expression isn't there is refused
pub is_unbuilt_text : (refused : List (List ℕ)) (text : List ℕ) (o : Option (Bor (List ℕ))) → ((b : Bor (List ℕ)) → o ≡ Some b → ⊥) → option_copied o ≡ came_to refused text → is_refused refused text ≡ true
is_unbuilt_text refused text (Some b) none h = absurd (none b refl)
is_unbuilt_text refused text None none h = at (is_refused refused text) h
  where
    at : (u : Bool) → None ≡ (if u then None else Some text) → u ≡ true
    at true g = refl
    at false g = absurd cc

-- where one of the texts is refused there are no regular expressions
pub none_of : (texts : List (List ℕ)) (b : Bool) → b ≡ true → None ≡ (if b then None else Some texts)
none_of texts b e = ap (λ (u : Bool). if u then None else Some texts) (sym e)

-- regular expressions of texts are theirs
pub are_those : (texts rx : List (List ℕ)) (o : Option (List (List ℕ))) (b : Bool) → o ≡ Some rx → o ≡ (if b then None else Some texts) → rx ≡ texts
are_those texts rx o true e f = let g = sym e ∙ f in absurd cc
are_those texts rx o false e f = let g = sym e ∙ f in cc

-- ---- tests along lists

pub any_found : {X : Type 0} (T : X → Bool) (all left : List X) (x : X) (rest : List X) → list_any T all ≡ list_any T left → left ≡ x ∷ rest → T x ≡ true → list_any T all ≡ true
any_found T all left x rest h left-is e = h ∙ ap (list_any T) left-is ∙ ap (λ (b : Bool). b || list_any T rest) e

pub any_past : {X : Type 0} (T : X → Bool) (all left : List X) (x : X) (rest : List X) → list_any T all ≡ list_any T left → left ≡ x ∷ rest → T x ≡ false → list_any T all ≡ list_any T rest
any_past T all left x rest h left-is e = h ∙ ap (list_any T) left-is ∙ ap (λ (b : Bool). b || list_any T rest) e

-- what is left at a place that is there
pub here_is : {X : Type 0} (xs : List X) (i : ℕ) (x : X) → i < length xs → x ≡ get_or xs i x → drop i xs ≡ x ∷ drop (i + 1) xs
here_is {X} xs i x lt is = drop_more xs i x lt ∙ ap (λ (y : X). y ∷ drop (i + 1) xs) (sym is)
