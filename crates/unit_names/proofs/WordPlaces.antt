-- Words and their places.
use Rattle.std.proofs.Common.{◌≡◌, ℕ, zero, suc, ◌+◌, ◌<◌, Bool, true, false, cond, eqb, ltb, List, [], ◌∷◌, ◌++◌, length, take, map, get_or, nat_cmp, refl, sym, ap, ◌∙◌, arith, Some}
use Rattle.std.specs.Prelude.{◌&&◌, ◌||◌, Option, None, is_some, option_map, if◌then◌else◌}
use Rattle.std.specs.BTreeMap.{BTreeMap, get, Updates}
use Rattle.std.specs.Cmp.Lexicographic.{slice_cmp, bytes_decides}
use Rattle.std.specs.Ordering.{ordering_then, is_eq}
use Rattle.std.specs.Str.{bytes_eq}
use Rattle.std.specs.declared.cmp.Ordering.{Ordering}
use Rattle.std.specs.declared.cmp.Ordering.TheVariants.{Less, Equal, Greater}
use Rattle.std.proofs.lemmas.Bool.Decides.{nat_tests}
use Rattle.std.proofs.lemmas.Bool.{eqb-true, eq-eqb}
use Rattle.std.proofs.lemmas.List.{take_more, map-append}
use Rattle.std.proofs.lemmas.Map.Text.{is_eq-slice_cmp}
use Rattle.node_tree.specs.Order.{kind_place}
use Rattle.unit_names.specs.Places.{Key, key_cmp, TellsPlaces}
use Rattle.unit_names.specs.Words.{Word, same_word, place_of, is_one_of, with_word, with_words}

there_by : (b : Bool) (o : Option ℕ) (v : Bool) → is_some o ≡ v → is_some (if b then Some 0 else option_map suc o) ≡ b || v
there_by true o v e = refl
there_by false None v e = e
there_by false (Some k) v e = e

-- a word has a place where it is one of the words
pub is_there : (ws : List Word) (w : Word) → is_some (place_of ws w) ≡ is_one_of ws w
is_there [] w = refl
is_there (x ∷ xs) w = there_by (same_word x w) (place_of xs w) (is_one_of xs w) (is_there xs w)

-- further words, one after the other
pub with_app : (ws a b : List Word) → with_words ws (a ++ b) ≡ with_words (with_words ws a) b
with_app ws [] b = refl
with_app ws (x ∷ xs) b = with_app (with_word ws x) xs b

here_by : (b : Bool) (o p : Option ℕ) (k : ℕ) → (o ≡ None → p ≡ Some k) → (if b then Some 0 else option_map suc o) ≡ None → (if b then Some 0 else option_map suc p) ≡ Some (suc k)
here_by true o p k h e = absurd cc
here_by false (Some m) p k h e = absurd cc
here_by false None p k h e = ap (option_map suc) (h refl)

eq_self : (n : ℕ) → eqb n n ≡ true
eq_self n = eq-eqb n n refl

same_self : (w : Word) → same_word w w ≡ true
same_self w = ap (λ b. b && bytes_eq w.text w.text) (eq_self (kind_place w.kind)) ∙ (bytes_decides w.text w.text).1 refl

module _ (w : Word) where
  -- a new word comes last
  here : (ws : List Word) → place_of ws w ≡ None → place_of (ws ++ w ∷ []) w ≡ Some (length ws)
  here [] e = ap (λ (b : Bool). if b then Some 0 else None) (same_self w)
  here (x ∷ xs) e = here_by (same_word x w) (place_of xs w) (place_of (xs ++ w ∷ []) w) (length xs) (here xs) e

  other : (v : Word) (ws : List Word) → same_word w v ≡ false → place_of (ws ++ w ∷ []) v ≡ place_of ws v
  other v [] e = ap (λ (b : Bool). if b then Some 0 else None) e
  other v (x ∷ xs) e = ap (λ (o : Option ℕ). if same_word x v then Some 0 else option_map suc o) (other v xs e)

is_eq_then : (a b : Ordering) → is_eq (ordering_then a b) ≡ is_eq a && is_eq b
is_eq_then Less b = refl
is_eq_then Equal b = refl
is_eq_then Greater b = refl

is_eq_nat : (x y : ℕ) → is_eq (nat_cmp x y) ≡ eqb x y
is_eq_nat x y = at (ltb x y) refl (eqb x y) refl
  where
    at : (v : Bool) → ltb x y ≡ v → (w : Bool) → eqb x y ≡ w → is_eq (cond v Less (cond w Equal Greater)) ≡ w
    at true e true f = absurd (grind (arith, nat_tests, e, f))
    at true e false f = refl
    at false e true f = refl
    at false e false f = refl

-- keys are the same where their words are
key_same : (key other : Key) (w v : Word) → kind_place w.kind ≡ key.0 → w.text ≡ key.1.now → kind_place v.kind ≡ other.0 → v.text ≡ other.1.now → is_eq (key_cmp key other) ≡ same_word w v
key_same key other w v kw tw kv tv =
    is_eq_then (nat_cmp key.0 other.0) (slice_cmp nat_cmp key.1.now other.1.now)
    ∙ ap (λ b. b && is_eq (slice_cmp nat_cmp key.1.now other.1.now)) (is_eq_nat key.0 other.0)
    ∙ ap (λ b. eqb key.0 other.0 && b) (is_eq-slice_cmp key.1.now other.1.now)
    ∙ ap (λ k. eqb k other.0 && bytes_eq key.1.now other.1.now) (sym kw)
    ∙ ap (λ k. eqb (kind_place w.kind) k && bytes_eq key.1.now other.1.now) (sym kv)
    ∙ ap (λ t. eqb (kind_place w.kind) (kind_place v.kind) && bytes_eq t other.1.now) (sym tw)
    ∙ ap (λ t. eqb (kind_place w.kind) (kind_place v.kind) && bytes_eq w.text t) (sym tv)

split_and : (a b : Bool) → a && b ≡ true → (a ≡ true) × (b ≡ true)
split_and true b e = (refl, e)
split_and false b e = absurd cc

-- the place of a word depends on what is the same as it
same_place : (v w : Word) → same_word w v ≡ true → (ws : List Word) → place_of ws v ≡ place_of ws w
same_place v w e ws =
    let both = split_and (eqb (kind_place w.kind) (kind_place v.kind)) (bytes_eq w.text v.text) e in
    let k : kind_place w.kind ≡ kind_place v.kind = eqb-true (kind_place w.kind) (kind_place v.kind) both.0 in
    let t : w.text ≡ v.text = (bytes_decides w.text v.text).0 both.1 in
    go k t ws
  where
    go : kind_place w.kind ≡ kind_place v.kind → w.text ≡ v.text → (ws : List Word) → place_of ws v ≡ place_of ws w
    go k t [] = refl
    go k t (x ∷ xs) =
        let same : same_word x v ≡ same_word x w = ap (λ n. eqb (kind_place x.kind) n && bytes_eq x.text v.text) (sym k) ∙ ap (λ s. eqb (kind_place x.kind) (kind_place w.kind) && bytes_eq x.text s) (sym t) in
        ap (λ b. if b then Some 0 else option_map suc (place_of xs v)) same ∙ ap (λ o. if same_word x w then Some 0 else option_map suc o) (go k t xs)

module _ (w : Word) (key : Key) (ws : List Word) (n : ℕ) (old new : BTreeMap Key ℕ) (kw : kind_place w.kind ≡ key.0) (tw : w.text ≡ key.1.now) (tells : TellsPlaces old ws) (none : place_of ws w ≡ None) (number : n ≡ length ws)
    (updates : Updates key_cmp old new key (Some n)) where
  noted_by : (other_key : Key) (v : Word) → kind_place v.kind ≡ other_key.0 → v.text ≡ other_key.1.now → (b : Bool) → same_word w v ≡ b → cond b (Some n) (get key_cmp old other_key) ≡ place_of (ws ++ w ∷ []) v
  noted_by other_key v kv tv true e = ap Some number ∙ sym (here w ws none) ∙ sym (same_place v w e (ws ++ w ∷ []))
  noted_by other_key v kv tv false e = tells other_key v kv tv ∙ sym (other w v ws e)

  -- a new word is noted at the end
  pub noted : TellsPlaces new (ws ++ w ∷ [])
  noted other_key v kv tv =
      updates.0 other_key ∙ ap (λ b. cond b (Some n) (get key_cmp old other_key)) (key_same key other_key w v kw tw kv tv) ∙ noted_by other_key v kv tv (same_word w v) refl

not_there : (o : Option ℕ) (b : Bool) → is_some o ≡ b → b ≡ false → o ≡ None
not_there None b e f = refl
not_there (Some k) b e f = absurd cc

-- a word that isn't there has no place
pub no_place : (ws : List Word) (w : Word) → is_one_of ws w ≡ false → place_of ws w ≡ None
no_place ws w e = not_there (place_of ws w) (is_one_of ws w) (is_there ws w) e

pub with_old : (ws : List Word) (w : Word) → is_one_of ws w ≡ true → ws ≡ with_word ws w
with_old ws w e = sym (ap (λ (b : Bool). if b then ws else ws ++ w ∷ []) e)

pub with_new : (ws : List Word) (w : Word) → is_one_of ws w ≡ false → ws ++ w ∷ [] ≡ with_word ws w
with_new ws w e = sym (ap (λ (b : Bool). if b then ws else ws ++ w ∷ []) e)

-- one word more of a loop that takes each once
pub once_more : {X : Type 0} (f : X → Word) (xs : List X) (i : ℕ) (d : X) (old new : List Word) → i < length xs → old ≡ with_words [] (map f (take i xs)) → new ≡ with_word old (f (get_or xs i d)) → new ≡ with_words [] (map f (take (i + 1) xs))
once_more f xs i d old new lt old_is new_is =
    let w = f (get_or xs i d) in
    new_is ∙ ap (λ ws. with_word ws w) old_is ∙ sym (with_app [] (map f (take i xs)) (w ∷ [])) ∙ ap (with_words []) (sym (ap (map f) (take_more xs i d lt) ∙ map-append f (take i xs) (get_or xs i d ∷ [])))

less_by : (b : Bool) (o : Option ℕ) (n k : ℕ) → ((j : ℕ) → o ≡ Some j → j < n) → (if b then Some 0 else option_map suc o) ≡ Some k → k < suc n
less_by true o n zero h e = omega arith
less_by true o n (suc k) h e = absurd cc
less_by false None n k h e = absurd cc
less_by false (Some j) n zero h e = absurd cc
less_by false (Some j) n (suc k) h e = let is : j ≡ k = cc in let less = h j refl in omega (arith, less, is)

-- the place of a word is one of a word
pub place_less : (ws : List Word) (w : Word) (k : ℕ) → place_of ws w ≡ Some k → k < length ws
place_less [] w k e = absurd cc
place_less (x ∷ xs) w k e = less_by (same_word x w) (place_of xs w) (length xs) k (place_less xs w) e
