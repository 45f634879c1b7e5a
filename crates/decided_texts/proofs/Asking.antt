-- Which texts a builder is asked for when texts are decided one after the other.
use Rattle.std.proofs.Common.{◌≡◌, ℕ, Bool, true, false, List, [], ◌∷◌, ◌++◌, refl, sym, ap, ◌∙◌, subst, append_assoc, append-nil}
use Rattle.std.specs.Prelude.{Option, None, Some, String, ◌||◌, if◌then◌else◌}
use Rattle.std.specs.Option.{is_some}
use Rattle.std.specs.Cmp.Lexicographic.{bytes_decides}
use Rattle.std.specs.Str.{bytes_eq}
use Rattle.std.specs.BTreeMap.{BTreeMap, get_by_text}
use Rattle.std.proofs.lemmas.List.Folds.{list_any-append}
use Rattle.rx_text.specs.Asking.{AsksAll}
use Rattle.decided_texts.specs.Decided.{Decisions, is_refused, is_decided}
use Rattle.decided_texts.specs.Kept.{IsKept}
use Rattle.decided_texts.specs.Asking.{wanted, or_known, Settles}
use Rattle.decided_texts.proofs.Texts.{both_true, with_one}

-- ---- what is asked for

asks_none : (a : Option (List (List ℕ))) → AsksAll a a []
asks_none None = tt
asks_none (Some texts) = sym (append-nil texts)

asks_then : (a b c : Option (List (List ℕ))) (xs ys : List (List ℕ)) → AsksAll a b xs → AsksAll b c ys → AsksAll a c (xs ++ ys)
asks_then None b c xs ys first second = tt
asks_then (Some a) None c xs ys first second = absurd first
asks_then (Some a) (Some b) None xs ys first second = absurd second
asks_then (Some a) (Some b) (Some c) xs ys first second = second ∙ ap (λ (ts : List (List ℕ)). ts ++ ys) first ∙ append_assoc a xs ys

asks_as : (a b : Option (List (List ℕ))) (xs ys : List (List ℕ)) → xs ≡ ys → AsksAll a b xs → AsksAll a b ys
asks_as a b xs ys e asks = let P : List (List ℕ) → Type 0 = AsksAll a b in subst P e asks

-- ---- texts that are wanted

either : (b c : Bool) (w x y z : List (List ℕ)) → b ≡ c → w ≡ x → y ≡ z → (if b then w else y) ≡ (if c then x else z)
either b c w x y z e f g =
    ap (λ (b : Bool). if b then w else y) e ∙ ap (λ (l : List (List ℕ)). if c then l else y) f ∙ ap (λ (l : List (List ℕ)). if c then x else l) g

-- it depends only on which texts are known
wanted_as : (k j : List ℕ → Bool) → ((u : List ℕ) → k u ≡ j u) → (ts : List (List ℕ)) → wanted k ts ≡ wanted j ts
wanted_as k j e [] = refl
wanted_as k j e (t ∷ ts) =
    let more : (List ℕ → Bool) → List ℕ → Bool = λ known u. bytes_eq t u || known u in
    either (k t) (j t) (wanted k ts) (wanted j ts) (t ∷ wanted (more k) ts) (t ∷ wanted (more j) ts) (e t) (wanted_as k j e ts)
    (ap (λ (l : List (List ℕ)). t ∷ l) (wanted_as (more k) (more j) (λ u. ap (λ (b : Bool). bytes_eq t u || b) (e u)) ts))

or_moved : (a b c : Bool) → b || (a || c) ≡ (a || b) || c
or_moved true true c = refl
or_moved true false c = refl
or_moved false true c = refl
or_moved false false c = refl

-- a known text makes no others known
known_already : (k : List ℕ → Bool) (t : List ℕ) (ts : List (List ℕ)) (u : List ℕ) → k t ≡ true → (b : Bool) → bytes_eq t u ≡ b → or_known ts k u ≡ (b || is_refused ts u) || k u
known_already k t ts u e true f = ap (λ (b : Bool). is_refused ts u || b) (ap k (sym ((bytes_decides t u).0 f)) ∙ e) ∙ both_true (is_refused ts u)
known_already k t ts u e false f = refl

module _ (k : List ℕ → Bool) (t : List ℕ) (xs ys : List (List ℕ)) where
  both_from : wanted k (xs ++ ys) ≡ wanted k xs ++ wanted (or_known xs k) ys → wanted (λ u. bytes_eq t u || k u) (xs ++ ys) ≡ wanted (λ u. bytes_eq t u || k u) xs ++ wanted (or_known xs (λ u. bytes_eq t u || k u)) ys
      → (b : Bool) → k t ≡ b
      → (if b then wanted k (xs ++ ys) else t ∷ wanted (λ u. bytes_eq t u || k u) (xs ++ ys)) ≡ (if b then wanted k xs else t ∷ wanted (λ u. bytes_eq t u || k u) xs) ++ wanted (or_known (t ∷ xs) k) ys
  both_from old new true e = old ∙ ap (λ (l : List (List ℕ)). wanted k xs ++ l) (wanted_as (or_known xs k) (or_known (t ∷ xs) k) (λ u. known_already k t xs u e (bytes_eq t u) refl) ys)
  both_from old new false e =
      let other : List ℕ → Bool = λ u. bytes_eq t u || k u in
      ap (λ (l : List (List ℕ)). t ∷ l)
      (new ∙ ap (λ (l : List (List ℕ)). wanted other xs ++ l) (wanted_as (or_known xs other) (or_known (t ∷ xs) k) (λ u. or_moved (bytes_eq t u) (is_refused xs u) (k u)) ys))

-- of texts and further ones those that aren't known
wanted_both : (k : List ℕ → Bool) (xs ys : List (List ℕ)) → wanted k (xs ++ ys) ≡ wanted k xs ++ wanted (or_known xs k) ys
wanted_both k [] ys = refl
wanted_both k (t ∷ xs) ys = both_from k t xs ys (wanted_both k xs ys) (wanted_both (λ u. bytes_eq t u || k u) xs ys) (k t) refl

-- ---- texts that are settled

pub settles_none : (d : Decisions) (a : Option (List (List ℕ))) → Settles [] d d a a
settles_none d a = record { asked = asks_none a; decided = λ text. refl }

pub settles_as : (xs ys : List (List ℕ)) (old new : Decisions) (a b : Option (List (List ℕ))) → xs ≡ ys → Settles xs old new a b → Settles ys old new a b
settles_as xs ys old new a b e settles = let P : List (List ℕ) → Type 0 = λ ts. Settles ts old new a b in subst P e settles

-- texts, and then further ones
pub settles_then : (xs ys : List (List ℕ)) (old mid new : Decisions) (a b c : Option (List (List ℕ))) → Settles xs old mid a b → Settles ys mid new b c → Settles (xs ++ ys) old new a c
settles_then xs ys old mid new a b c first second = record {
  asked =
      let e = wanted_as (is_decided mid) (or_known xs (is_decided old)) first.decided ys in
      asks_as a c (wanted (is_decided old) xs ++ wanted (is_decided mid) ys) (wanted (is_decided old) (xs ++ ys))
      (ap (λ (l : List (List ℕ)). wanted (is_decided old) xs ++ l) e ∙ sym (wanted_both (is_decided old) xs ys))
      (asks_then a b c (wanted (is_decided old) xs) (wanted (is_decided mid) ys) first.asked second.asked);
  decided = λ text.
      second.decided text ∙ ap (λ (b : Bool). is_refused ys text || b) (first.decided text) ∙ or_moved (is_refused xs text) (is_refused ys text) (is_decided old text)
      ∙ ap (λ (b : Bool). b || is_decided old text) (sym (list_any-append (λ (t : List ℕ). bytes_eq t text) xs ys));
}

-- ---- one text

-- a decided one
pub settles_known : (text : List ℕ) (d : Decisions) (a : Option (List (List ℕ))) → is_decided d text ≡ true → Settles (text ∷ []) d d a a
settles_known text d a e = record {
  asked =
      let asked_if : Bool → List (List ℕ) = λ known. if known then [] else text ∷ [] in
      asks_as a a [] (wanted (is_decided d) (text ∷ [])) (ap asked_if (sym e)) (asks_none a);
  decided = λ other. known_already (is_decided d) text [] other e (bytes_eq text other) refl;
}

last_of_three : (t r b : Bool) → r || (b || t) ≡ (t || false) || (r || b)
last_of_three true true b = refl
last_of_three true false b = both_true b
last_of_three false true b = refl
last_of_three false false true = refl
last_of_three false false false = refl

first_of_three : (t r b : Bool) → (r || t) || b ≡ (t || false) || (r || b)
first_of_three true true b = refl
first_of_three true false b = refl
first_of_three false true b = refl
first_of_three false false b = refl

-- one that wasn't decided: it is built, or refused
module _ (text : List ℕ) (refused built : List (List ℕ)) (a b : Option (List (List ℕ))) (asks : AsksAll a b (text ∷ [])) (new : is_refused refused text || is_refused built text ≡ false) where
  asked_new : AsksAll a b (wanted (is_decided (record { refused = refused; built = built })) (text ∷ []))
  asked_new =
      let old : Decisions = record { refused = refused; built = built } in
      let asked_if : Bool → List (List ℕ) = λ known. if known then [] else text ∷ [] in
      asks_as a b (text ∷ []) (wanted (is_decided old) (text ∷ [])) (ap asked_if (sym new)) asks

  pub settles_built : (texts : List (List ℕ)) → texts ≡ built ++ text ∷ [] → Settles (text ∷ []) (record { refused = refused; built = built }) (record { refused = refused; built = texts }) a b
  settles_built texts e = record {
    asked = asked_new;
    decided = λ other.
        ap (λ (ts : List (List ℕ)). is_refused refused other || is_refused ts other) e ∙ ap (λ (b : Bool). is_refused refused other || b) (with_one built text other)
        ∙ last_of_three (bytes_eq text other) (is_refused refused other) (is_refused built other);
  }

  pub settles_refused : (texts : List (List ℕ)) → texts ≡ refused ++ text ∷ [] → Settles (text ∷ []) (record { refused = refused; built = built }) (record { refused = texts; built = built }) a b
  settles_refused texts e = record {
    asked = asked_new;
    decided = λ other.
        ap (λ (ts : List (List ℕ)). is_refused ts other || is_refused built other) e ∙ ap (λ (b : Bool). b || is_refused built other) (with_one refused text other)
        ∙ first_of_three (bytes_eq text other) (is_refused refused other) (is_refused built other);
  }

-- ---- texts that are kept

known_if : (a b : Bool) (text : List ℕ) (found : Bool) → is_some (if a then Some None else (if b then Some (Some text) else None)) ≡ found → a || b ≡ found
known_if true b text found e = e
known_if false true text found e = e
known_if false false text found e = e

-- just the decided ones are found in the map
pub known_in : {Y : Type 0} (by_text : BTreeMap (String Y) (Option (List ℕ))) (refused built : List (List ℕ)) → IsKept by_text refused built → (text : List ℕ) (found : Bool) → is_some (get_by_text by_text text) ≡ found
    → is_refused refused text || is_refused built text ≡ found
known_in by_text refused built is text found e = known_if (is_refused refused text) (is_refused built text) text found (ap is_some (sym (is.holds text)) ∙ e)
