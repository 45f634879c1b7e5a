-- Keys of comments, one after the other.
use Rattle.std.proofs.Common.{◌≡◌, inl, inr, ℕ, suc, ◌+◌, ◌-◌, ◌<◌, ◌≤◌, Bool, true, false, cond, eqb, ltb, List, [], ◌∷◌, length, drop, drop-cons, get_or, refl, sym, ap, ◌∙◌, arith}
use Rattle.std.specs.Prelude.{◌||◌, ◌&&◌, Option, None, Some}
use Rattle.std.specs.Borrow.{Bor}
use Rattle.std.specs.List.{list_any}
use Rattle.std.specs.Option.{option_cmp}
use Rattle.std.specs.Str.{bytes_eq}
use Rattle.std.specs.Ordering.{nat_cmp, ordering_then, is_eq}
use Rattle.std.specs.declared.cmp.Ordering.{Ordering}
use Rattle.std.specs.declared.cmp.Ordering.TheVariants.{Less, Equal, Greater}
use Rattle.std.specs.Cmp.Lexicographic.{slice_cmp}
use Rattle.std.proofs.lemmas.Bool.Decides.{nat_tests}
use Rattle.std.proofs.lemmas.Bool.{cases_lt}
use Rattle.std.proofs.lemmas.List.{drop_all}
use Rattle.std.proofs.lemmas.Map.Text.{is_eq-slice_cmp}
use Rattle.std.specs.BTreeMap.{is_at}
use Rattle.quieting.specs.declared.quiet.Quiet.{Quiet}
use Rattle.quieting.specs.Lines.{quiets_id, is_quieted, Key, key_cmp, Keys, has, all_is, id_is, has_key, Adds, HasJust}

is_eq_then : (a b : Ordering) → is_eq (ordering_then a b) ≡ is_eq a && is_eq b
is_eq_then Less b = refl
is_eq_then Equal b = refl
is_eq_then Greater b = refl

is_eq_nat : (x y : ℕ) → is_eq (nat_cmp x y) ≡ eqb x y
is_eq_nat x y = at (ltb x y) refl (eqb x y) refl
  where
    at : (v : Bool) → ltb x y ≡ v → (w : Bool) → eqb x y ≡ w → is_eq (cond v Less (cond w Equal Greater)) ≡ w
    at true e true f = absurd (grind (arith, nat_tests, e, f))
    at true e false f = refl
    at false e true f = refl
    at false e false f = refl

cond_or : (a b : Bool) → cond a true b ≡ a || b
cond_or true b = refl
cond_or false b = refl

abbrev text_cmp : Bor (List ℕ) → Bor (List ℕ) → Ordering
text_cmp a b = slice_cmp nat_cmp a.now b.now

-- a key that is inserted for a comment that quiets all
pub all_added : (line : ℕ) (old new : Keys) → ((key : Key) → has new key ≡ cond (is_eq (key_cmp (line, None) key)) true (has old key)) → Adds old new (λ key. eqb line key.0 && all_is true key.1)
all_added line old new updates key =
    updates key ∙ cond_or (is_eq (key_cmp (line, None) key)) (has old key) ∙ ap (λ b. b || has old key) (is_eq_then (nat_cmp line key.0) (option_cmp text_cmp None key.1) ∙ ap (λ b. b && is_eq (option_cmp text_cmp None key.1)) (is_eq_nat line key.0) ∙ ap (λ b. eqb line key.0 && b) (tail key.1))
  where
    tail : (what : Option (Bor (List ℕ))) → is_eq (option_cmp (λ (a b : Bor (List ℕ)). slice_cmp nat_cmp a.now b.now) None what) ≡ all_is true what
    tail None = refl
    tail (Some id) = refl

-- a key that is inserted for an id
id_added : (line : ℕ) (id : Bor (List ℕ)) (old new : Keys) → ((key : Key) → has new key ≡ cond (is_eq (key_cmp (line, Some id) key)) true (has old key)) → Adds old new (λ key. eqb line key.0 && id_is (id.now ∷ []) key.1)
id_added line id old new updates key =
    updates key ∙ cond_or (is_eq (key_cmp (line, Some id) key)) (has old key) ∙ ap (λ b. b || has old key) (is_eq_then (nat_cmp line key.0) (option_cmp text_cmp (Some id) key.1) ∙ ap (λ b. b && is_eq (option_cmp text_cmp (Some id) key.1)) (is_eq_nat line key.0) ∙ ap (λ b. eqb line key.0 && b) (tail key.1))
  where
    or_false : (b : Bool) → b ≡ b || false
    or_false true = refl
    or_false false = refl

    tail : (what : Option (Bor (List ℕ))) → is_eq (option_cmp (λ (a b : Bor (List ℕ)). slice_cmp nat_cmp a.now b.now) (Some id) what) ≡ id_is (id.now ∷ []) what
    tail None = refl
    tail (Some other) = is_eq-slice_cmp id.now other.now ∙ or_false (bytes_eq id.now other.now)

-- the keys of the ids to come and those that are there are those of all ids and those that were there
abbrev pub IdsOn : ℕ → List (List ℕ) → ℕ → Keys → Keys → Type 0
IdsOn line ids i start now = (key : Key) → (eqb line key.0 && id_is (drop i ids) key.1) || has now key ≡ (eqb line key.0 && id_is ids key.1) || has start key

pub one_id : (line : ℕ) (ids : List (List ℕ)) (i : ℕ) (id : List ℕ) (lent : Bor (List ℕ)) (start old new : Keys) → i < length ids → id ≡ get_or ids i id → lent.now ≡ id
    → ((key : Key) → has new key ≡ cond (is_eq (key_cmp (line, Some lent) key)) true (has old key)) → IdsOn line ids i start old → IdsOn line ids (i + 1) start new
one_id line ids i id lent start old new lt is same updates far key =
    let on : drop i ids ≡ lent.now ∷ drop (i + 1) ids = next_of ids i id lt is ∙ ap (λ x. x ∷ drop (i + 1) ids) (sym same) in
    ap (λ b. (eqb line key.0 && id_is (drop (i + 1) ids) key.1) || b) (id_added line lent old new updates key)
    ∙ moved (eqb line key.0) (id_is (drop (i + 1) ids) key.1) (id_is (lent.now ∷ []) key.1) (has old key)
    ∙ ap (λ b. (eqb line key.0 && b) || has old key) (both key.1 ∙ ap (λ xs. id_is xs key.1) (sym on))
    ∙ far key
  where
    next_of : (xs : List (List ℕ)) (j : ℕ) (x : List ℕ) → j < length xs → x ≡ get_or xs j x → drop j xs ≡ x ∷ drop (j + 1) xs
    next_of xs j x lt is = let up : suc j ≡ j + 1 = omega arith in drop-cons xs j x lt ∙ ap (λ y. y ∷ drop (suc j) xs) (sym is) ∙ ap (λ k. x ∷ drop k xs) up

    moved : (l r a o : Bool) → (l && r) || ((l && a) || o) ≡ (l && (a || r)) || o
    moved true true true o = refl
    moved true true false o = refl
    moved true false true o = refl
    moved true false false o = refl
    moved false r a o = refl

    or_same : (a r : Bool) → (a || false) || r ≡ a || r
    or_same true r = refl
    or_same false r = refl

    both : (what : Option (Bor (List ℕ))) → id_is (lent.now ∷ []) what || id_is (drop (i + 1) ids) what ≡ id_is (lent.now ∷ drop (i + 1) ids) what
    both None = refl
    both (Some other) = or_same (bytes_eq lent.now other.now) (list_any (λ named. bytes_eq named other.now) (drop (i + 1) ids))

pub ids_begin : (line : ℕ) (ids : List (List ℕ)) (start : Keys) → IdsOn line ids 0 start start
ids_begin line ids start key = refl

pub ids_end : (line : ℕ) (ids : List (List ℕ)) (i : ℕ) (start now : Keys) → length ids ≤ i → IdsOn line ids i start now → Adds start now (λ key. eqb line key.0 && id_is ids key.1)
ids_end line ids i start now all far key = sym (ap (λ xs. (eqb line key.0 && id_is xs key.1) || has now key) (drop_all i ids all) ∙ none (eqb line key.0) key.1) ∙ far key
  where
    none : (l : Bool) (what : Option (Bor (List ℕ))) → (l && id_is [] what) || has now key ≡ has now key
    none true None = refl
    none true (Some id) = refl
    none false what = refl

-- a comment's keys are its line, and its line with each of its ids
pub quiet_added : (q : Quiet) (old mid new : Keys) → Adds old mid (λ key. eqb q.line key.0 && all_is q.all key.1) → Adds mid new (λ key. eqb q.line key.0 && id_is q.ids key.1) → Adds old new (λ key. has_key key q)
quiet_added q old mid new all ids key = ids key ∙ ap (λ b. (eqb q.line key.0 && id_is q.ids key.1) || b) (all key) ∙ moved (eqb q.line key.0) (id_is q.ids key.1) (all_is q.all key.1) (has old key)
  where
    moved : (l r a o : Bool) → (l && r) || ((l && a) || o) ≡ (l && (a || r)) || o
    moved true true true o = refl
    moved true true false o = refl
    moved true false true o = refl
    moved true false false o = refl
    moved false r a o = refl

-- the same for comments
abbrev pub QuietsOn : List Quiet → ℕ → Keys → Type 0
QuietsOn quiets i now = (key : Key) → has now key || list_any (has_key key) (drop i quiets) ≡ list_any (has_key key) quiets

pub one_quiet : (quiets : List Quiet) (i : ℕ) (q : Quiet) (old new : Keys) → i < length quiets → q ≡ get_or quiets i q → Adds old new (λ key. has_key key q) → QuietsOn quiets i old → QuietsOn quiets (i + 1) new
one_quiet quiets i q old new lt is adds far key =
    ap (λ b. b || list_any (has_key key) (drop (i + 1) quiets)) (adds key)
    ∙ moved (has_key key q) (has old key) (list_any (has_key key) (drop (i + 1) quiets))
    ∙ ap (λ xs. has old key || list_any (has_key key) xs) (sym (next_of quiets i q lt is))
    ∙ far key
  where
    next_of : (xs : List Quiet) (j : ℕ) (x : Quiet) → j < length xs → x ≡ get_or xs j x → drop j xs ≡ x ∷ drop (j + 1) xs
    next_of xs j x lt is = let up : suc j ≡ j + 1 = omega arith in drop-cons xs j x lt ∙ ap (λ y. y ∷ drop (suc j) xs) (sym is) ∙ ap (λ k. x ∷ drop k xs) up

    moved : (a o r : Bool) → (a || o) || r ≡ o || (a || r)
    moved true true r = refl
    moved true false r = refl
    moved false true r = refl
    moved false false r = refl

pub quiets_end : (quiets : List Quiet) (i : ℕ) (now : Keys) → length quiets ≤ i → QuietsOn quiets i now → HasJust now quiets
quiets_end quiets i now all far key = sym (ap (λ xs. has now key || list_any (has_key key) xs) (drop_all i quiets all) ∙ none (has now key)) ∙ far key
  where
    none : (b : Bool) → b || false ≡ b
    none true = refl
    none false = refl

-- ---- a finding is looked up

any_or : (p r s : Quiet → Bool) → ((q : Quiet) → p q || r q ≡ s q) → (quiets : List Quiet) → list_any p quiets || list_any r quiets ≡ list_any s quiets
any_or p r s same [] = refl
any_or p r s same (q ∷ qs) = moved (p q) (list_any p qs) (r q) (list_any r qs) ∙ ap (λ b. b || (list_any p qs || list_any r qs)) (same q) ∙ ap (λ b. s q || b) (any_or p r s same qs)
  where
    moved : (a b c d : Bool) → (a || b) || (c || d) ≡ (a || c) || (b || d)
    moved true b c d = refl
    moved false true true d = refl
    moved false true false d = refl
    moved false false true d = refl
    moved false false false d = refl

split_and : (l a b : Bool) → (l && (a || false)) || (l && (false || b)) ≡ l && (a || b)
split_and true true b = refl
split_and true false true = refl
split_and true false false = refl
split_and false a b = refl

pub quiet_there : (quiets : List Quiet) (keys : Keys) (line : ℕ) (id : Bor (List ℕ)) → HasJust keys quiets
    → has keys (line, None) || has keys (line, Some id) ≡ list_any (λ q. eqb q.line line && quiets_id id.now q) quiets
quiet_there quiets keys line id just =
    ap (λ b. b || has keys (line, Some id)) (just (line, None))
    ∙ ap (λ b. list_any (has_key (line, None)) quiets || b) (just (line, Some id))
    ∙ any_or (has_key (line, None)) (has_key (line, Some id)) (λ q. eqb q.line line && quiets_id id.now q) (λ q. split_and (eqb q.line line) q.all (list_any (λ named. bytes_eq named id.now) q.ids)) quiets

pub either_line : (quiets : List Quiet) (line : ℕ) (id : List ℕ) → 0 < line
    → list_any (λ q. eqb q.line line && quiets_id id q) quiets || list_any (λ q. eqb q.line (line - 1) && quiets_id id q) quiets ≡ is_quieted quiets line id
either_line quiets line id some =
    any_or (λ q. eqb q.line line && quiets_id id q) (λ q. eqb q.line (line - 1) && quiets_id id q) (λ q. (eqb q.line line || eqb (q.line + 1) line) && quiets_id id q)
    (λ q. ap (λ b. (eqb q.line line && quiets_id id q) || (b && quiets_id id q)) (before q.line) ∙ split (eqb q.line line) (eqb (q.line + 1) line) (quiets_id id q)) quiets
  where
    before : (n : ℕ) → eqb n (line - 1) ≡ eqb (n + 1) line
    before n = grind (arith, nat_tests)

    split : (a b c : Bool) → (a && c) || (b && c) ≡ (a || b) && c
    split true true true = refl
    split true true false = refl
    split true false true = refl
    split true false false = refl
    split false b c = refl

any_same : (p r : Quiet → Bool) → ((q : Quiet) → p q ≡ r q) → (quiets : List Quiet) → list_any p quiets ≡ list_any r quiets
any_same p r same [] = refl
any_same p r same (q ∷ qs) = ap (λ b. b || list_any p qs) (same q) ∙ ap (λ b. r q || b) (any_same p r same qs)

pub first_line : (quiets : List Quiet) (line : ℕ) (id : List ℕ) → line ≡ 0 → list_any (λ q. eqb q.line line && quiets_id id q) quiets ≡ is_quieted quiets line id
first_line quiets line id none = any_same (λ q. eqb q.line line && quiets_id id q) (λ q. (eqb q.line line || eqb (q.line + 1) line) && quiets_id id q) (λ q. ap (λ b. b && quiets_id id q) (alone q.line)) quiets
  where
    alone : (n : ℕ) → eqb n line ≡ eqb n line || eqb (n + 1) line
    alone n = grind (arith, nat_tests)

-- ---- the rest

-- nothing is added for a comment that doesn't quiet all
pub none_added : (line : ℕ) (keys : Keys) (all : Bool) → all ≡ false → Adds keys keys (λ key. eqb line key.0 && all_is all key.1)
none_added line keys all e key = sym (ap (λ b. (eqb line key.0 && all_is b key.1) || has keys key) e ∙ none (eqb line key.0) key.1)
  where
    none : (l : Bool) (what : Option (Bor (List ℕ))) → (l && all_is false what) || has keys key ≡ has keys key
    none true None = refl
    none true (Some id) = refl
    none false what = refl

pub all_of : (line : ℕ) (all : Bool) (old new : Keys) → all ≡ true → ((key : Key) → has new key ≡ cond (is_eq (key_cmp (line, None) key)) true (has old key)) → Adds old new (λ key. eqb line key.0 && all_is all key.1)
all_of line all old new e updates key = all_added line old new updates key ∙ ap (λ b. (eqb line key.0 && all_is b key.1) || has old key) (sym e)

pub quiets_begin : (quiets : List Quiet) (keys : Keys) → keys.keys ≡ [] → QuietsOn quiets 0 keys
quiets_begin quiets keys e key = ap (λ ks. list_any (is_at (key_cmp key)) ks || list_any (has_key key) quiets) e

or_first : (a b l : Bool) → a ≡ true → a || b ≡ l → true ≡ l
or_first a b l e f = sym (ap (λ x. x || b) e) ∙ f

or_second : (a b l : Bool) → a ≡ false → a || b ≡ l → b ≡ l
or_second a b l e f = sym (ap (λ x. x || b) e) ∙ f

pub quiet_all : (quiets : List Quiet) (keys : Keys) (line : ℕ) (id : Bor (List ℕ)) → HasJust keys quiets → has keys (line, None) ≡ true → true ≡ list_any (λ q. eqb q.line line && quiets_id id.now q) quiets
quiet_all quiets keys line id just e =
    or_first (has keys (line, None)) (has keys (line, Some id)) (list_any (λ q. eqb q.line line && quiets_id id.now q) quiets) e (quiet_there quiets keys line id just)

pub quiet_named : (quiets : List Quiet) (keys : Keys) (line : ℕ) (id : Bor (List ℕ)) → HasJust keys quiets → has keys (line, None) ≡ false
    → has keys (line, Some id) ≡ list_any (λ q. eqb q.line line && quiets_id id.now q) quiets
quiet_named quiets keys line id just e =
    or_second (has keys (line, None)) (has keys (line, Some id)) (list_any (λ q. eqb q.line line && quiets_id id.now q) quiets) e (quiet_there quiets keys line id just)

pub this_line : (quiets : List Quiet) (line : ℕ) (id : List ℕ) → list_any (λ q. eqb q.line line && quiets_id id q) quiets ≡ true → true ≡ is_quieted quiets line id
this_line quiets line id e =
    elim (cases_lt 0 line) [
      | inl lt ↦
          or_first (list_any (λ q. eqb q.line line && quiets_id id q) quiets) (list_any (λ q. eqb q.line (line - 1) && quiets_id id q) quiets) (is_quieted quiets line id) e
          (either_line quiets line id lt)
      | inr le ↦ sym e ∙ first_line quiets line id (omega arith)
    ]

pub line_before : (quiets : List Quiet) (line : ℕ) (id : List ℕ) → 0 < line → list_any (λ q. eqb q.line line && quiets_id id q) quiets ≡ false
    → list_any (λ q. eqb q.line (line - 1) && quiets_id id q) quiets ≡ is_quieted quiets line id
line_before quiets line id some e =
    or_second (list_any (λ q. eqb q.line line && quiets_id id q) quiets) (list_any (λ q. eqb q.line (line - 1) && quiets_id id q) quiets) (is_quieted quiets line id) e
    (either_line quiets line id some)
