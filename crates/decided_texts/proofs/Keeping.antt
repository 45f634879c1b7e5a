-- How decided texts are kept when one is added, and what is read from them.
use Rattle.std.proofs.Common.{◌≡◌, ℕ, Bool, true, false, cond, List, [], ◌∷◌, ◌++◌, refl, sym, ap, ◌∙◌, subst}
use Rattle.std.specs.Prelude.{Option, None, Some, String, Result, Ok, Err, OnOk, OnErr, ◌||◌, if◌then◌else◌}
use Rattle.std.specs.Option.{is_some}
use Rattle.std.specs.Str.{bytes_eq}
use Rattle.std.specs.Map.{lookup}
use Rattle.std.specs.Ordering.{is_eq, nat_cmp}
use Rattle.std.specs.Cmp.Lexicographic.{slice_cmp, bytes_decides}
use Rattle.std.specs.String.{string_bytes, string_cmp}
use Rattle.std.specs.BTreeMap.{BTreeMap, Updates, get_by_text}
use Rattle.std.proofs.lemmas.Map.Text.{btree_map_updates_text}
use Rattle.decided_texts.specs.Decided.{is_refused}
use Rattle.decided_texts.specs.Kept.{kept, IsKept}
use Rattle.decided_texts.proofs.Texts.{both_true, with_same, with_other}

-- what is known of a successful answer, carried on
pub on_ok_map : {A E X Y : Type 0} (r : Result A E) → (X → Y) → OnOk r X → OnOk r Y
on_ok_map (Ok a) f h = f h
on_ok_map (Err e) f h = tt

module _ {Y : Type 0} (m n : BTreeMap (String Y) (Option (List ℕ))) where
  abbrev pub Holds : List ℕ → Option (List ℕ) → Type 0
  Holds text rx = (key : List ℕ) → get_by_text n key ≡ cond (bytes_eq text key) (Some rx) (get_by_text m key)

  -- the map after a text was put into it
  pub held_with : (key : String Y) (text : List ℕ) (rx : Option (List ℕ)) → string_bytes key ≡ text → Updates string_cmp m n key (Some rx) → Holds text rx
  held_with key text rx e updates other = btree_map_updates_text (string_bytes key) m n (Some rx) updates other ∙ ap (λ (t : List ℕ). cond (bytes_eq t other) (Some rx) (get_by_text m other)) e

  -- the same entries keep the same
  kept_same : (refused built : List (List ℕ)) → IsKept m refused built → n.entries ≡ m.entries → IsKept n refused built
  kept_same refused built is e = record {
    holds = λ text. at text ∙ is.holds text;
    apart = is.apart;
  }
    where
      at : (text : List ℕ) → get_by_text n text ≡ get_by_text m text
      at text = ap (λ (es : List (String Y × Option (List ℕ))). lookup (λ k. is_eq (slice_cmp nat_cmp text (string_bytes k))) es) e

-- ---- a text that isn't decided

unkept : (a b : Bool) (text : List ℕ) → is_some (if a then Some None else (if b then Some (Some text) else None)) ≡ false → (a ≡ false) × (b ≡ false)
unkept true b text e = absurd cc
unkept false true text e = absurd cc
unkept false false text e = (refl, refl)

module _ {Y : Type 0} (m n : BTreeMap (String Y) (Option (List ℕ))) (refused built : List (List ℕ)) (is : IsKept m refused built) (text : List ℕ) (absent : is_some (get_by_text m text) ≡ false) where
  undecided : (is_refused refused text ≡ false) × (is_refused built text ≡ false)
  undecided = unkept (is_refused refused text) (is_refused built text) text (ap is_some (sym (is.holds text)) ∙ absent)

  -- it is built
  with_built : (rx : List ℕ) → rx ≡ text → Holds m n text (Some rx) → IsKept n refused (built ++ text ∷ [])
  with_built rx e holds = record { holds = λ key. holds key ∙ at key (bytes_eq text key) refl; apart = λ key. free key (bytes_eq text key) refl }
    where
      at : (key : List ℕ) (b : Bool) → bytes_eq text key ≡ b → cond b (Some (Some rx)) (get_by_text m key) ≡ kept refused (built ++ text ∷ []) key
      at key true f =
          let same = (bytes_decides text key).0 f in
          let free : is_refused refused key ≡ false = ap (is_refused refused) (sym same) ∙ undecided.0 in
          ap (λ (t : List ℕ). Some (Some t)) (e ∙ same)
          ∙ ap (λ (b : Bool). if b then Some (Some key) else None) (sym (with_same built text key f))
          ∙ ap (λ (b : Bool). if b then Some None else (if is_refused (built ++ text ∷ []) key then Some (Some key) else None)) (sym free)
      at key false f = is.holds key ∙ ap (λ (b : Bool). if is_refused refused key then Some None else (if b then Some (Some key) else None)) (sym (with_other built text key f))

      free : (key : List ℕ) (b : Bool) → bytes_eq text key ≡ b → is_refused (built ++ text ∷ []) key ≡ true → is_refused refused key ≡ false
      free key true f there = ap (is_refused refused) (sym ((bytes_decides text key).0 f)) ∙ undecided.0
      free key false f there = is.apart key (sym (with_other built text key f) ∙ there)

  -- it is refused
  with_refused : Holds m n text None → IsKept n (refused ++ text ∷ []) built
  with_refused holds = record { holds = λ key. holds key ∙ at key (bytes_eq text key) refl; apart = λ key. free key (bytes_eq text key) refl }
    where
      at : (key : List ℕ) (b : Bool) → bytes_eq text key ≡ b → cond b (Some None) (get_by_text m key) ≡ kept (refused ++ text ∷ []) built key
      at key true f = ap (λ (b : Bool). if b then Some None else (if is_refused built key then Some (Some key) else None)) (sym (with_same refused text key f))
      at key false f = is.holds key ∙ ap (λ (b : Bool). if b then Some None else (if is_refused built key then Some (Some key) else None)) (sym (with_other refused text key f))

      free : (key : List ℕ) (b : Bool) → bytes_eq text key ≡ b → is_refused built key ≡ true → is_refused (refused ++ text ∷ []) key ≡ false
      free key true f there = let g = sym there ∙ ap (is_refused built) (sym ((bytes_decides text key).0 f)) ∙ undecided.1 in absurd cc
      free key false f there = with_other refused text key f ∙ is.apart key there

  -- the same, where it may not have been put there
  pub after_built : {A E : Type 0} (r : Result A E) (texts : List (List ℕ)) (rx : List ℕ) → rx ≡ text → OnOk r (texts ≡ built ++ text ∷ []) → OnOk r (Holds m n text (Some rx)) → OnErr r (texts ≡ built) → OnErr r (n.entries ≡ m.entries)
      → IsKept n refused texts
  after_built (Ok a) texts rx e listed holds unlisted unheld = let P : List (List ℕ) → Type 0 = λ ts. IsKept n refused ts in subst P (sym listed) (with_built rx e holds)
  after_built (Err x) texts rx e listed holds unlisted unheld = let P : List (List ℕ) → Type 0 = λ ts. IsKept n refused ts in subst P (sym unlisted) (kept_same m n refused built is unheld)

  pub after_refused : {A E : Type 0} (r : Result A E) (texts : List (List ℕ)) → OnOk r (texts ≡ refused ++ text ∷ []) → OnOk r (Holds m n text None) → OnErr r (texts ≡ refused) → OnErr r (n.entries ≡ m.entries)
      → IsKept n texts built
  after_refused (Ok a) texts listed holds unlisted unheld = let P : List (List ℕ) → Type 0 = λ ts. IsKept n ts built in subst P (sym listed) (with_refused holds)
  after_refused (Err x) texts listed holds unlisted unheld = let P : List (List ℕ) → Type 0 = λ ts. IsKept n ts built in subst P (sym unlisted) (kept_same m n refused built is unheld)

-- ---- a text that was put at the end

pub last_refused : (refused built texts : List (List ℕ)) (text : List ℕ) → texts ≡ refused ++ text ∷ [] → is_refused texts text || is_refused built text ≡ true
last_refused refused built texts text e =
    ap (λ (b : Bool). b || is_refused built text) (ap (λ (ts : List (List ℕ)). is_refused ts text) e ∙ with_same refused text text ((bytes_decides text text).1 refl))

pub last_built : (refused built texts : List (List ℕ)) (text : List ℕ) → texts ≡ built ++ text ∷ [] → is_refused refused text || is_refused texts text ≡ true
last_built refused built texts text e =
    ap (λ (b : Bool). is_refused refused text || b) (ap (λ (ts : List (List ℕ)). is_refused ts text) e ∙ with_same built text text ((bytes_decides text text).1 refl)) ∙ both_true (is_refused refused text)
