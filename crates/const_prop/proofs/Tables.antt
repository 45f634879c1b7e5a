-- Tables of words in which each stands once.
use Rattle.std.proofs.Common.{◌≡◌, ◌⊎◌, inl, inr, ℕ, zero, suc, Bool, true, false, List, [], ◌∷◌, ◌++◌, length, refl, sym, ap, ◌∙◌, subst, Some}
use Rattle.std.specs.Prelude.{Option, None, ◌||◌, if◌then◌else◌, is_some, option_map, slice_get}
use Rattle.unit_names.specs.Words.{Word, same_word, place_of, is_one_of, with_word, with_words, each_once}
use Rattle.unit_names.proofs.WordPlaces.{is_there, no_place}
use Rattle.const_prop.proofs.Agreeing.{word_same, same_self}

place_by : (b : Bool) (x : Word) (xs : List Word) (w : Word) (o : Option ℕ) (k : ℕ) → (b ≡ true → x ≡ w) → ((j : ℕ) → o ≡ Some j → slice_get xs j ≡ Some w) → (if b then Some 0 else option_map suc o) ≡ Some k → slice_get (x ∷ xs) k ≡ Some w
place_by true x xs w o zero same rest e = ap Some (same refl)
place_by true x xs w o (suc k) same rest e = absurd cc
place_by false x xs w None k same rest e = absurd cc
place_by false x xs w (Some j) zero same rest e = absurd cc
place_by false x xs w (Some j) (suc k) same rest e = let is : j ≡ k = cc in ap (slice_get xs) (sym is) ∙ rest j refl

-- the word at its place
pub at_place : (ws : List Word) (w : Word) (k : ℕ) → place_of ws w ≡ Some k → slice_get ws k ≡ Some w
at_place [] w k e = absurd cc
at_place (x ∷ xs) w k e = place_by (same_word x w) x xs w (place_of xs w) k (word_same x w) (at_place xs w) e

-- each word has the place where it stands
abbrev pub IsTable : List Word → Type 0
IsTable ws = (k : ℕ) (w : Word) → slice_get ws k ≡ Some w → place_of ws w ≡ Some k

front_by : (b : Bool) (o p : Option ℕ) (k : ℕ) → ((j : ℕ) → o ≡ Some j → p ≡ Some j) → (if b then Some 0 else option_map suc o) ≡ Some k → (if b then Some 0 else option_map suc p) ≡ Some k
front_by true o p k h e = e
front_by false None p k h e = absurd cc
front_by false (Some j) p k h e = ap (option_map suc) (h j refl) ∙ e

in_front : (ws vs : List Word) (w : Word) (k : ℕ) → place_of ws w ≡ Some k → place_of (ws ++ vs) w ≡ Some k
in_front [] vs w k e = absurd cc
in_front (x ∷ xs) vs w k e = front_by (same_word x w) (place_of xs w) (place_of (xs ++ vs) w) k (in_front xs vs w) e

last_by : (b : Bool) (o p : Option ℕ) (k : ℕ) → (o ≡ None → p ≡ Some k) → (if b then Some 0 else option_map suc o) ≡ None → (if b then Some 0 else option_map suc p) ≡ Some (suc k)
last_by true o p k h e = absurd cc
last_by false (Some m) p k h e = absurd cc
last_by false None p k h e = ap (option_map suc) (h refl)

last_place : (ws : List Word) (w : Word) → place_of ws w ≡ None → place_of (ws ++ w ∷ []) w ≡ Some (length ws)
last_place [] w e = ap (λ (b : Bool). if b then Some 0 else None) (same_self w)
last_place (x ∷ xs) w e = last_by (same_word x w) (place_of xs w) (place_of (xs ++ w ∷ []) w) (length xs) (last_place xs w) e

got_more : (ws : List Word) (w : Word) (k : ℕ) (v : Word) → slice_get (ws ++ w ∷ []) k ≡ Some v → (slice_get ws k ≡ Some v) ⊎ ((k ≡ length ws) × (w ≡ v))
got_more [] w zero v e = inr (refl, cc)
got_more [] w (suc k) v e = absurd cc
got_more (x ∷ xs) w zero v e = inl e
got_more (x ∷ xs) w (suc k) v e = up (got_more xs w k v e)
  where
    up : (slice_get xs k ≡ Some v) ⊎ ((k ≡ length xs) × (w ≡ v)) → (slice_get (x ∷ xs) (suc k) ≡ Some v) ⊎ ((suc k ≡ length (x ∷ xs)) × (w ≡ v))
    up (inl h) = inl h
    up (inr h) = inr (ap suc h.0, h.1)

one_more : (ws : List Word) (w : Word) → IsTable ws → place_of ws w ≡ None → IsTable (ws ++ w ∷ [])
one_more ws w table new k v e = by (got_more ws w k v e)
  where
    by : (slice_get ws k ≡ Some v) ⊎ ((k ≡ length ws) × (w ≡ v)) → place_of (ws ++ w ∷ []) v ≡ Some k
    by (inl h) = in_front ws (w ∷ []) v k (table k v h)
    by (inr h) = ap (place_of (ws ++ w ∷ [])) (sym h.1) ∙ last_place ws w new ∙ ap Some (sym h.0)

with_one : (ws : List Word) (w : Word) → IsTable ws → IsTable (with_word ws w)
with_one ws w table = by (is_one_of ws w) refl
  where
    by : (b : Bool) → is_one_of ws w ≡ b → IsTable (if b then ws else ws ++ w ∷ [])
    by true e = table
    by false e = one_more ws w table (no_place ws w e)

with_all : (ws vs : List Word) → IsTable ws → IsTable (with_words ws vs)
with_all ws [] table = table
with_all ws (v ∷ vs) table = with_all (with_word ws v) vs (with_one ws v table)

-- words that stand once each are a table
pub once_table : (ws : List Word) → IsTable (each_once ws)
once_table ws = with_all [] ws none
  where
    none : IsTable []
    none k w e = absurd cc

any_app : (ws vs : List Word) (w : Word) → is_one_of (ws ++ vs) w ≡ is_one_of ws w || is_one_of vs w
any_app [] vs w = refl
any_app (x ∷ xs) vs w = either (same_word x w) (is_one_of (xs ++ vs) w) (is_one_of xs w) (is_one_of vs w) (any_app xs vs w)
  where
    either : (a b c d : Bool) → b ≡ c || d → a || b ≡ (a || c) || d
    either true b c d e = refl
    either false b c d e = e

or_left : (a b : Bool) → a ≡ true → a || b ≡ true
or_left a b e = ap (λ c. c || b) e

or_right : (a b : Bool) → b ≡ true → a || b ≡ true
or_right true b e = refl
or_right false b e = e

pub any_left : (ws vs : List Word) (w : Word) → is_one_of ws w ≡ true → is_one_of (ws ++ vs) w ≡ true
any_left ws vs w e = any_app ws vs w ∙ or_left (is_one_of ws w) (is_one_of vs w) e

pub any_right : (ws vs : List Word) (w : Word) → is_one_of vs w ≡ true → is_one_of (ws ++ vs) w ≡ true
any_right ws vs w e = any_app ws vs w ∙ or_right (is_one_of ws w) (is_one_of vs w) e

keeps_one : (ws : List Word) (v w : Word) → is_one_of ws w ≡ true → is_one_of (with_word ws v) w ≡ true
keeps_one ws v w e = by (is_one_of ws v) refl
  where
    by : (b : Bool) → is_one_of ws v ≡ b → is_one_of (if b then ws else ws ++ v ∷ []) w ≡ true
    by true f = e
    by false f = any_left ws (v ∷ []) w e

adds_one : (ws : List Word) (w : Word) → is_one_of (with_word ws w) w ≡ true
adds_one ws w = by (is_one_of ws w) refl
  where
    by : (b : Bool) → is_one_of ws w ≡ b → is_one_of (if b then ws else ws ++ w ∷ []) w ≡ true
    by true e = e
    by false e = any_right ws (w ∷ []) w (or_left (same_word w w) false (same_self w))

keeps : (ws vs : List Word) (w : Word) → is_one_of ws w ≡ true → is_one_of (with_words ws vs) w ≡ true
keeps ws [] w e = e
keeps ws (v ∷ vs) w e = keeps (with_word ws v) vs w (keeps_one ws v w e)

has_all : (ws vs : List Word) (w : Word) → is_one_of vs w ≡ true → is_one_of (with_words ws vs) w ≡ true
has_all ws [] w e = absurd cc
has_all ws (v ∷ vs) w e = by (has_all (with_word ws v) vs w) (same_word v w) refl e
  where
    by : (is_one_of vs w ≡ true → is_one_of (with_words (with_word ws v) vs) w ≡ true) → (b : Bool) → same_word v w ≡ b → b || is_one_of vs w ≡ true → is_one_of (with_words (with_word ws v) vs) w ≡ true
    by rest true same h = keeps (with_word ws v) vs w (subst (λ x. is_one_of (with_word ws v) x ≡ true) (word_same v w same) (adds_one ws v))
    by rest false other h = rest h

some_by : (o : Option ℕ) → is_some o ≡ true → (k : ℕ) × (o ≡ Some k)
some_by None e = absurd cc
some_by (Some k) e = (k, refl)

-- each of the words has a place
pub has_place : (ws : List Word) (w : Word) → is_one_of ws w ≡ true → (k : ℕ) × (place_of (each_once ws) w ≡ Some k)
has_place ws w e = some_by (place_of (each_once ws) w) (is_there (each_once ws) w ∙ has_all [] ws w e)
