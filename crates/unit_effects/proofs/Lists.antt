-- Loops that gather lists.
use Rattle.std.proofs.Common.{◌≡◌, ℕ, ◌+◌, ◌<◌, ◌≤◌, Bool, true, false, List, [], ◌∷◌, ◌++◌, length, take, map, get_or, refl, sym, ap, ◌∙◌}
use Rattle.std.specs.Prelude.{◌||◌, ◌&&◌}
use Rattle.std.specs.List.{list_any}
use Rattle.std.proofs.lemmas.List.{take_more, take_all, map-append, get_or_default}

module _ {X Y Z : Type 0} (f : X → Y) (G : Y → Z) where
  -- one item more, which is known
  pub mapped_item : (xs : List X) (i : ℕ) (x : X) (old new : List Z) → i < length xs → x ≡ get_or xs i x → old ≡ map G (map f (take i xs)) → new ≡ old ++ G (f x) ∷ [] → new ≡ map G (map f (take (i + 1) xs))
  mapped_item xs i x old new lt is old_is new_is =
      let one : take (i + 1) xs ≡ take i xs ++ x ∷ [] = take_more xs i x lt ∙ ap (λ y. take i xs ++ y ∷ []) (sym is) in
      new_is ∙ ap (λ ys. ys ++ G (f x) ∷ []) old_is ∙ sym (ap (λ ys. map G (map f ys)) one ∙ ap (map G) (map-append f (take i xs) (x ∷ [])) ∙ map-append G (map f (take i xs)) (f x ∷ []))

  -- one item more, which is copied
  pub mapped_copy : (xs : List X) (i : ℕ) (d : X) (old new : List Z) → i < length xs → old ≡ map G (map f (take i xs)) → new ≡ old ++ G (f (get_or xs i d)) ∷ [] → new ≡ map G (map f (take (i + 1) xs))
  mapped_copy xs i d old new lt old_is new_is = mapped_item xs i (get_or xs i d) old new lt (get_or_default xs i d (get_or xs i d) lt) old_is new_is

  pub mapped_all : (xs : List X) (i : ℕ) (ys : List Y) (now : List Z) → length xs ≤ i → map f xs ≡ ys → now ≡ map G (map f (take i xs)) → now ≡ map G ys
  mapped_all xs i ys now le are now_is = now_is ∙ ap (λ zs. map G (map f zs)) (take_all i xs le) ∙ ap (map G) are

module _ {X Z : Type 0} (G : X → Z) where
  pub plain_copy : (xs : List X) (i : ℕ) (d : X) (old new : List Z) → i < length xs → old ≡ map G (take i xs) → new ≡ old ++ G (get_or xs i d) ∷ [] → new ≡ map G (take (i + 1) xs)
  plain_copy xs i d old new lt old_is new_is =
      new_is ∙ ap (λ ys. ys ++ G (get_or xs i d) ∷ []) old_is ∙ sym (ap (map G) (take_more xs i d lt) ∙ map-append G (take i xs) (get_or xs i d ∷ []))

any_app : {X : Type 0} (p : X → Bool) (xs ys : List X) → list_any p (xs ++ ys) ≡ list_any p xs || list_any p ys
any_app p [] ys = refl
any_app p (x ∷ xs) ys = either (p x) (list_any p (xs ++ ys)) (list_any p xs) (list_any p ys) (any_app p xs ys)
  where
    either : (a b c d : Bool) → b ≡ c || d → a || b ≡ (a || c) || d
    either true b c d e = refl
    either false b c d e = e

-- an item goes over from one list to another, if it passes a test
pub moved : {X Y : Type 0} (f : X → Y) (test p : Y → Bool) (old new left : List X) (x : X) → old ≡ new ++ x ∷ [] → p (f x) ≡ test (f x)
    → list_any test (map f (left ++ x ∷ [])) || list_any p (map f new) ≡ list_any test (map f left) || list_any p (map f old)
moved f test p old new left x is same =
    ap (λ b. b || list_any p (map f new)) (ap (list_any test) (map-append f left (x ∷ [])) ∙ any_app test (map f left) (f x ∷ []))
    ∙ shift (list_any test (map f left)) (test (f x)) (list_any p (map f new))
    ∙ ap (λ b. list_any test (map f left) || (list_any p (map f new) || (b || false))) (sym same)
    ∙ ap (λ b. list_any test (map f left) || b) (sym (ap (λ ys. list_any p (map f ys)) is ∙ ap (list_any p) (map-append f new (x ∷ [])) ∙ any_app p (map f new) (f x ∷ [])))
  where
    shift : (a b c : Bool) → (a || (b || false)) || c ≡ a || (c || (b || false))
    shift true b c = refl
    shift false true true = refl
    shift false true false = refl
    shift false false true = refl
    shift false false false = refl

pub dropped : {X Y : Type 0} (f : X → Y) (test p : Y → Bool) (old new left : List X) (x : X) → old ≡ new ++ x ∷ [] → p (f x) ≡ false
    → list_any test (map f left) || list_any p (map f new) ≡ list_any test (map f left) || list_any p (map f old)
dropped f test p old new left x is none =
    ap (λ b. list_any test (map f left) || b)
    (or_false (list_any p (map f new)) ∙ ap (λ b. list_any p (map f new) || (b || false)) (sym none) ∙ sym (ap (λ ys. list_any p (map f ys)) is ∙ ap (list_any p) (map-append f new (x ∷ [])) ∙ any_app p (map f new) (f x ∷ [])))
  where
    or_false : (a : Bool) → a ≡ a || (false || false)
    or_false true = refl
    or_false false = refl

-- one item more of which the test doesn't hold
pub none_more : {X : Type 0} (p : X → Bool) (xs : List X) (i : ℕ) (x : X) → i < length xs → x ≡ get_or xs i x → list_any p (take i xs) ≡ false → p x ≡ false → list_any p (take (i + 1) xs) ≡ false
none_more p xs i x lt is before none =
    ap (list_any p) (take_more xs i x lt ∙ ap (λ y. take i xs ++ y ∷ []) (sym is)) ∙ any_app p (take i xs) (x ∷ []) ∙ ap (λ b. b || (p x || false)) before ∙ ap (λ b. b || false) none

pub and_true : (a b : Bool) → a ≡ true → (a && b) ≡ b
and_true a b e = ap (λ c. c && b) e

pub and_false : (a b : Bool) → a ≡ false → (a && b) ≡ false
and_false a b e = ap (λ c. c && b) e

pub left_over : {X Y : Type 0} (f : X → Y) (test p : Y → Bool) (rest left : List X) → length rest ≡ 0 → list_any test (map f left) ≡ list_any test (map f left) || list_any p (map f rest)
left_over f test p [] left none = or_none (list_any test (map f left))
  where
    or_none : (a : Bool) → a ≡ a || false
    or_none true = refl
    or_none false = refl
left_over f test p (x ∷ xs) left none = absurd cc
