-- Names that are assigned once.
use Rattle.std.proofs.Common.{◌≡◌, ℕ, ◌+◌, ◌<◌, ◌≤◌, Bool, true, false, cond, List, [], ◌∷◌, ◌++◌, length, take, map, get_or, append_assoc, nat_cmp, refl, sym, ap, ◌∙◌, subst, Some}
use Rattle.std.specs.Prelude.{Option, None, filter, is_none, is_some, not, slice_get, option_map, option_copied, if◌then◌else◌}
use Rattle.std.specs.Borrow.{Bor}
use Rattle.std.specs.BTreeMap.{BTreeMap, get_by, UpdatesBy, IsEmpty, is_at}
use Rattle.std.specs.Map.{lookup}
use Rattle.std.specs.Cmp.Lexicographic.{slice_cmp, bytes_decides}
use Rattle.std.specs.List.{flat_map}
use Rattle.std.specs.Str.{bytes_eq}
use Rattle.std.proofs.lemmas.List.{append-nil, take_more, take_all, get_or_default, map-append}
use Rattle.std.proofs.lemmas.List.Concat.{flat_map-append}
use Rattle.std.proofs.lemmas.Map.Text.{btree_map_updates_str}
use Rattle.unit_names.specs.declared.word.Word.{Word as Lent}
use Rattle.unit_names.specs.Seen.{seen_word}
use Rattle.unit_effects.specs.Fixed.{Value}
use Rattle.unit_effects.specs.Once.{summary, once_among, TellsOnce, Notes}

abbrev pub Map : Type 0
Map = BTreeMap (Bor (List ℕ)) (Option Lent)

abbrev pub Entry : Type 0
Entry = List ℕ × Value

summary_more : (xs : List Entry) (o : Entry) → summary (xs ++ o ∷ []) ≡ Some (if is_none (summary xs) then o.1 else None)
summary_more [] o = refl
summary_more (x ∷ []) o = refl
summary_more (x ∷ y ∷ zs) o = refl

filter_more : (p : Entry → Bool) (xs : List Entry) (o : Entry) → filter p (xs ++ o ∷ []) ≡ filter p xs ++ filter p (o ∷ [])
filter_more p [] o = refl
filter_more p (x ∷ xs) o = by (filter_more p xs o) (p x) refl
  where
    by : filter p (xs ++ o ∷ []) ≡ filter p xs ++ filter p (o ∷ []) → (b : Bool) → p x ≡ b → cond (p x) (x ∷ filter p (xs ++ o ∷ [])) (filter p (xs ++ o ∷ [])) ≡ cond (p x) (x ∷ filter p xs) (filter p xs) ++ filter p (o ∷ [])
    by rest true e = rw e (ap (λ ys. x ∷ ys) rest)
    by rest false e = rw e rest

none_mapped : (o : Option (Option Lent)) → is_none o ≡ is_none (option_map (option_map seen_word) o)
none_mapped None = refl
none_mapped (Some x) = refl

pub first_none : {X : Type 0} (o : Option X) (b : Bool) → is_some o ≡ not b → b ≡ is_none o
first_none None true e = refl
first_none None false e = absurd cc
first_none (Some x) true e = absurd cc
first_none (Some x) false e = refl

pub none_copied : (o : Option (Bor (Option Lent))) → is_none o ≡ is_none (option_copied o)
none_copied None = refl
none_copied (Some x) = refl

module _ (name : List ℕ) (literal : Value) (given : Option Lent) (first : Bool) (old new : Map) (first_is : first ≡ is_none (get_by (λ k. slice_cmp nat_cmp name k.now) old)) (given_is : option_map seen_word given ≡ (if first then literal else None))
    (updates : UpdatesBy (λ x y. slice_cmp nat_cmp x.now y.now) (λ k. slice_cmp nat_cmp name k.now) old new (Some given)) where
  told : (q : List ℕ) → get_by (λ k. slice_cmp nat_cmp q k.now) new ≡ cond (bytes_eq name q) (Some given) (get_by (λ k. slice_cmp nat_cmp q k.now) old)
  told = btree_map_updates_str name old new (Some given) updates

  module _ (before : List Entry) (tells : TellsOnce old before) where
    here : (q : List ℕ) → name ≡ q → Some (option_map seen_word given) ≡ summary (filter (λ o. bytes_eq o.0 q) before ++ (name, literal) ∷ [])
    here q same =
        let f : first ≡ is_none (once_among before q) = first_is ∙ none_mapped (get_by (λ k. slice_cmp nat_cmp name k.now) old) ∙ ap is_none (tells name) ∙ ap (λ n. is_none (once_among before n)) same in
        ap Some (given_is ∙ ap (λ b. if b then literal else None) f) ∙ sym (summary_more (filter (λ o. bytes_eq o.0 q) before) (name, literal))

    by : (q : List ℕ) (b : Bool) → bytes_eq name q ≡ b → option_map (option_map seen_word) (cond b (Some given) (get_by (λ k. slice_cmp nat_cmp q k.now) old)) ≡ summary (filter (λ o. bytes_eq o.0 q) before ++ cond b ((name, literal) ∷ []) [])
    by q true e = here q ((bytes_decides name q).0 e)
    by q false e = tells q ∙ ap summary (sym (append-nil (filter (λ o. bytes_eq o.0 q) before)))

    all : TellsOnce new (before ++ (name, literal) ∷ [])
    all q =
        ap (option_map (option_map seen_word)) (told q) ∙ by q (bytes_eq name q) refl
        ∙ ap summary (sym (filter_more (λ o. bytes_eq o.0 q) before (name, literal)))

  pub noted : Notes old ((name, literal) ∷ []) new
  noted before tells = all before tells

pub notes_none : (once : Map) → Notes once [] once
notes_none once before tells = subst (TellsOnce once) (sym (append-nil before)) tells

pub notes_then : (a b c : Map) (xs ys : List Entry) → Notes a xs b → Notes b ys c → Notes a (xs ++ ys) c
notes_then a b c xs ys one two before tells = subst (TellsOnce c) (append_assoc before xs ys) (two (before ++ xs) (one before tells))

module _ {X Y : Type 0} (f : X → Y) (F : Y → List Entry) where
  pub notes_more : (xs : List X) (i : ℕ) (x : X) (a b c : Map) → i < length xs → x ≡ get_or xs i x → Notes a (flat_map F (map f (take i xs))) b → Notes b (F (f x)) c → Notes a (flat_map F (map f (take (i + 1) xs))) c
  notes_more xs i x a b c lt is one two =
      let e : take (i + 1) xs ≡ take i xs ++ x ∷ [] = take_more xs i x lt ∙ ap (λ y. take i xs ++ y ∷ []) (sym is) in
      let all : flat_map F (map f (take (i + 1) xs)) ≡ flat_map F (map f (take i xs)) ++ F (f x) =
      ap (λ ys. flat_map F (map f ys)) e ∙ ap (flat_map F) (map-append f (take i xs) (x ∷ [])) ∙ flat_map-append F (map f (take i xs)) (f x ∷ []) ∙ ap (λ ys. flat_map F (map f (take i xs)) ++ ys) (append-nil (F (f x))) in
      subst (λ ys. Notes a ys c) (sym all) (notes_then a b c (flat_map F (map f (take i xs))) (F (f x)) one two)

  pub notes_copy : (xs : List X) (i : ℕ) (d : X) (a b c : Map) → i < length xs → Notes a (flat_map F (map f (take i xs))) b → Notes b (F (f (get_or xs i d))) c → Notes a (flat_map F (map f (take (i + 1) xs))) c
  notes_copy xs i d a b c lt one two = notes_more xs i (get_or xs i d) a b c lt (get_or_default xs i d (get_or xs i d) lt) one two

  pub notes_all : (xs : List X) (i : ℕ) (ys : List Y) (a b : Map) → length xs ≤ i → map f xs ≡ ys → Notes a (flat_map F (map f (take i xs))) b → Notes a (flat_map F ys) b
  notes_all xs i ys a b le are notes = subst (λ zs. Notes a (flat_map F zs) b) (ap (map f) (take_all i xs le) ∙ are) notes

module _ {X : Type 0} (F : X → List Entry) where
  pub notes_plain : (xs : List X) (i : ℕ) (d : X) (a b c : Map) → i < length xs → Notes a (flat_map F (take i xs)) b → Notes b (F (get_or xs i d)) c → Notes a (flat_map F (take (i + 1) xs)) c
  notes_plain xs i d a b c lt one two =
      let all : flat_map F (take (i + 1) xs) ≡ flat_map F (take i xs) ++ F (get_or xs i d) =
      ap (flat_map F) (take_more xs i d lt) ∙ flat_map-append F (take i xs) (get_or xs i d ∷ []) ∙ ap (λ ys. flat_map F (take i xs) ++ ys) (append-nil (F (get_or xs i d))) in
      subst (λ ys. Notes a ys c) (sym all) (notes_then a b c (flat_map F (take i xs)) (F (get_or xs i d)) one two)

  pub notes_done : (xs : List X) (i : ℕ) (ys : List X) (a b : Map) → length xs ≤ i → xs ≡ ys → Notes a (flat_map F (take i xs)) b → Notes a (flat_map F ys) b
  notes_done xs i ys a b le are notes = subst (λ zs. Notes a (flat_map F zs) b) (take_all i xs le ∙ are) notes

-- a new map says nothing
pub empty_tells : (once : Map) → IsEmpty once → TellsOnce once []
empty_tells once empty name = ap (λ (es : List (Bor (List ℕ) × Option Lent)). option_map (option_map seen_word) (lookup (is_at (λ k. slice_cmp nat_cmp name k.now)) es)) empty

module _ {X : Type 0} (F : X → List Entry) where
  pub none_first : (once : Map) (xs : List X) → None ≡ slice_get xs 0 → TellsOnce once [] → TellsOnce once (flat_map F (take 1 xs))
  none_first once [] e tells = tells
  none_first once (x ∷ xs) e tells = absurd cc

  pub some_first : (once new : Map) (xs : List X) (x : X) → Some x ≡ slice_get xs 0 → TellsOnce once [] → Notes once (F x) new → TellsOnce new (flat_map F (take 1 xs))
  some_first once new [] x e tells notes = absurd cc
  some_first once new (y ∷ ys) x e tells notes =
      let is : x ≡ y = cc in
      subst (TellsOnce new) (ap F is ∙ sym (append-nil (F y))) (notes [] tells)
