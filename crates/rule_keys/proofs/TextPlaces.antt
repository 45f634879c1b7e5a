-- Texts with the places where they stand.
use Rattle.std.proofs.Common.{◌≡◌, ℕ, zero, suc, Bool, true, false, cond, List, [], ◌∷◌, ◌++◌, length, nat_cmp, refl, sym, ap, ◌∙◌, Some, Ok, Err}
use Rattle.std.specs.Prelude.{Option, None, Result, IfOk, OnOk, if◌then◌else◌}
use Rattle.std.specs.Borrow.{Bor}
use Rattle.std.specs.BTreeMap.{BTreeMap, UpdatesBy}
use Rattle.std.specs.Cmp.Lexicographic.{slice_cmp, bytes_decides}
use Rattle.std.specs.Option.{option_map}
use Rattle.std.specs.Str.{bytes_eq}
use Rattle.std.proofs.lemmas.Map.Text.{btree_map_updates_str}
use Rattle.node_tree.specs.declared.memory.Memory.{Memory}
use Rattle.rule_keys.specs.TextPlaces.{place_of, with_text, place_if_there, place_in, TellsPlaces}

there_by : (b : Bool) (t : List ℕ) (ts us : List (List ℕ)) (o : Option ℕ) (k n : ℕ) → ((m : ℕ) → o ≡ Some m → (m ≡ k) × (us ≡ ts))
    → (if b then Some 0 else option_map suc o) ≡ Some n → (n ≡ (if b then 0 else suc k)) × ((if b then t ∷ ts else t ∷ us) ≡ t ∷ ts)
there_by true t ts us o k zero h e = (refl, refl)
there_by true t ts us o k (suc n) h e = absurd cc
there_by false t ts us None k n h e = absurd cc
there_by false t ts us (Some m) k zero h e = absurd cc
there_by false t ts us (Some m) k (suc n) h e =
    let is : m ≡ n = cc in
    let rest = h m refl in
    (ap suc (sym is ∙ rest.0), ap (λ (xs : List (List ℕ)). t ∷ xs) rest.1)

-- a text that is there has its place, and no text comes to them
pub there : (text : List ℕ) (ts : List (List ℕ)) (n : ℕ) → place_if_there text ts ≡ Some n → (n ≡ place_of text ts) × (with_text text ts ≡ ts)
there text [] n e = absurd cc
there text (t ∷ ts) n e = there_by (bytes_eq t text) t ts (with_text text ts) (place_if_there text ts) (place_of text ts) n (there text ts) e

new_by : (b : Bool) (t text : List ℕ) (ts us : List (List ℕ)) (o : Option ℕ) (k : ℕ) → (o ≡ None → (length ts ≡ k) × (us ≡ ts ++ text ∷ []))
    → (if b then Some 0 else option_map suc o) ≡ None → (suc (length ts) ≡ (if b then 0 else suc k)) × ((if b then t ∷ ts else t ∷ us) ≡ t ∷ ts ++ text ∷ [])
new_by true t text ts us o k h e = absurd cc
new_by false t text ts us (Some m) k h e = absurd cc
new_by false t text ts us None k h e = let rest = h refl in (ap suc rest.0, ap (λ (xs : List (List ℕ)). t ∷ xs) rest.1)

-- a new text comes last
pub new : (text : List ℕ) (ts : List (List ℕ)) → place_if_there text ts ≡ None → (length ts ≡ place_of text ts) × (with_text text ts ≡ ts ++ text ∷ [])
new text [] e = (refl, refl)
new text (t ∷ ts) e = new_by (bytes_eq t text) t text ts (with_text text ts) (place_if_there text ts) (place_of text ts) (new text ts) e

module _ (text : List ℕ) where
  here_by : (b : Bool) (o p : Option ℕ) (k : ℕ) → (o ≡ None → p ≡ Some k) → (if b then Some 0 else option_map suc o) ≡ None → (if b then Some 0 else option_map suc p) ≡ Some (suc k)
  here_by true o p k h e = absurd cc
  here_by false (Some m) p k h e = absurd cc
  here_by false None p k h e = ap (option_map suc) (h refl)

  here : (ts : List (List ℕ)) → place_if_there text ts ≡ None → place_if_there text (ts ++ text ∷ []) ≡ Some (length ts)
  here [] e = ap (λ (b : Bool). if b then Some 0 else None) ((bytes_decides text text).1 refl)
  here (t ∷ ts) e = here_by (bytes_eq t text) (place_if_there text ts) (place_if_there text (ts ++ text ∷ [])) (length ts) (here ts) e

  other : (key : List ℕ) (ts : List (List ℕ)) → bytes_eq text key ≡ false → place_if_there key (ts ++ text ∷ []) ≡ place_if_there key ts
  other key [] e = ap (λ (b : Bool). if b then Some 0 else None) e
  other key (t ∷ ts) e = ap (λ (o : Option ℕ). if bytes_eq t key then Some 0 else option_map suc o) (other key ts e)

  module _ (ts us : List (List ℕ)) (n : ℕ) (old new : BTreeMap (Bor (List ℕ)) ℕ) (tells : TellsPlaces old ts) (none : place_if_there text ts ≡ None) (number : n ≡ length ts) (added : us ≡ ts ++ text ∷ [])
      (updates : UpdatesBy (λ x y. slice_cmp nat_cmp x.now y.now) (λ k. slice_cmp nat_cmp text k.now) old new (Some n)) where
    told : (key : List ℕ) → place_in new key ≡ cond (bytes_eq text key) (Some n) (place_in old key)
    told = btree_map_updates_str text old new (Some n) updates

    told_by : (key : List ℕ) (b : Bool) → bytes_eq text key ≡ b → cond b (Some n) (place_in old key) ≡ place_if_there key (ts ++ text ∷ [])
    told_by key true e =
        ap Some number ∙ sym (here ts none) ∙ ap (λ (k : List ℕ). place_if_there k (ts ++ text ∷ [])) ((bytes_decides text key).0 e)
    told_by key false e = tells key ∙ sym (other key ts e)

    -- a new text is noted at the end
    pub noted : TellsPlaces new us
    noted key = told key ∙ told_by key (bytes_eq text key) refl ∙ ap (place_if_there key) (sym added)

module _ (text : List ℕ) (ts : List (List ℕ)) (none : place_if_there text ts ≡ None) where
  pub new_number : (r : Result ℕ Memory) → IfOk r (λ n. n ≡ length ts) → IfOk r (λ n. n ≡ place_of text ts)
  new_number (Ok n) h = h ∙ (new text ts none).0
  new_number (Err e) h = tt

  pub new_texts : (r : Result ℕ Memory) (us : List (List ℕ)) → OnOk r (us ≡ ts ++ text ∷ []) → OnOk r (us ≡ with_text text ts)
  new_texts (Ok n) us h = h ∙ sym (new text ts none).1
  new_texts (Err e) us h = tt
