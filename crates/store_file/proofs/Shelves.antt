-- A map from digests to leaves, and entries in order.
use Rattle.std.proofs.Common.{◌≡◌, ℕ, ◌+◌, ◌<◌, ◌++◌, length, take, get_or, subst, List, [], ◌∷◌, map, Bool, true, false, cond, refl, sym, ap, ◌∙◌}
use Rattle.std.specs.Prelude.{Option, Some, is_some}
use Rattle.std.proofs.lemmas.List.{map_more}
use Rattle.std.specs.List.Sorted.{IsStrictlySortedBy}
use Rattle.tree_match.specs.Ascending.{IsAscending}
use Rattle.std.specs.Borrow.{Bor}
use Rattle.std.specs.Map.{lookup, keys_of}
use Rattle.std.specs.BTreeMap.{is_at, insert_entry as insert_in_map}
use Rattle.std.specs.declared.cmp.Ordering.{Ordering}
use Rattle.std.specs.declared.cmp.Ordering.TheVariants.{Less, Equal, Greater}
use Rattle.std.specs.Ordering.{nat_cmp, ordering_then, is_eq, is_lt, match_ordering}
use Rattle.std.specs.Cmp.Lexicographic.{slice_cmp}
use Rattle.tree_match.specs.declared.leaf.Leaf.{Leaf}
use Rattle.store_file.specs.declared.entry.Entry.{Entry}
use Rattle.store_file.specs.declared.offer.Offer.{Offer}
use Rattle.store_file.specs.StoreText.{entry_cmp}
use Rattle.store_file.specs.Written.{is_there, insert_entry, put_entry, entry_of, PutsOne, PutsAll}
use Rattle.store_file.specs.Shelf.{entry_in}

abbrev pub Key : Type 0
Key = List ℕ × List ℕ

abbrev pub pair_cmp : Key → Key → Ordering
pair_cmp x y = ordering_then (slice_cmp nat_cmp x.0 y.0) (slice_cmp nat_cmp x.1 y.1)

some_first : {X : Type 0} (b : Bool) (x : X) (r : Bool) (o : Option X) → r ≡ is_some o → cond b true r ≡ is_some (cond b (Some x) o)
some_first true x r o e = refl
some_first false x r o e = e

pub there_is : (k : Key) (l : Bor Leaf) (es : List (Key × Bor Leaf)) → is_there (entry_in (k, l)) (map entry_in es) ≡ is_some (lookup (is_at (pair_cmp k)) es)
there_is k l [] = refl
there_is k l (p ∷ ps) = some_first (is_eq (pair_cmp k p.0)) p.1 _ _ (there_is k l ps)

pub inserted_is : (k : Key) (l : Bor Leaf) (es : List (Key × Bor Leaf)) → is_there (entry_in (k, l)) (map entry_in es) ≡ false → map entry_in (insert_in_map pair_cmp es k l) ≡ insert_entry (entry_in (k, l)) (map entry_in es)
inserted_is k l [] h = refl
inserted_is k l (p ∷ ps) h = at (pair_cmp k p.0) (inserted_is k l ps) h
  where
    at : (o : Ordering) → (is_there (entry_in (k, l)) (map entry_in ps) ≡ false → map entry_in (insert_in_map pair_cmp ps k l) ≡ insert_entry (entry_in (k, l)) (map entry_in ps)) → cond (is_eq o) true (is_there (entry_in (k, l)) (map entry_in ps)) ≡ false
        → map entry_in (match_ordering o ((k, l) ∷ p ∷ ps) ((p.0, l) ∷ ps) (p ∷ insert_in_map pair_cmp ps k l)) ≡ cond (is_lt o) (entry_in (k, l) ∷ entry_in p ∷ map entry_in ps) (entry_in p ∷ insert_entry (entry_in (k, l)) (map entry_in ps))
    at Less rest h' = refl
    at Equal rest h' = absurd cc
    at Greater rest h' = ap (λ (v : List Entry). entry_in p ∷ v) (rest h')

pub put_there : (e : Entry) (es : List Entry) → is_there e es ≡ true → es ≡ put_entry e es
put_there e es h = ap (λ (b : Bool). cond b es (insert_entry e es)) (sym h)

pub put_new : (e : Entry) (es new : List Entry) → is_there e es ≡ false → new ≡ insert_entry e es → new ≡ put_entry e es
put_new e es new h is = is ∙ ap (λ (b : Bool). cond b es (insert_entry e es)) (sym h)

-- ---- entries that are put in

pub puts_more : (es : List Entry) (old mid new : List Entry) (e : Entry) → PutsAll es old mid → PutsOne e mid new → PutsAll (es ++ e ∷ []) old new
puts_more [] old mid new e all one = (new, subst (λ (xs : List Entry). PutsOne e xs new) all one, refl)
puts_more (f ∷ fs) old mid new e all one = (all.0, all.1, puts_more fs all.0 mid new e all.2 one)

pub puts_next : (os : List Offer) (i : ℕ) (o : Offer) (mid new : List Entry) → PutsAll (map entry_of (take i os)) [] mid → i < length os → o ≡ get_or os i o → PutsOne (entry_of o) mid new → PutsAll (map entry_of (take (i + 1) os)) [] new
puts_next os i o mid new all lt at one =
    let e : map entry_of (take i os) ++ entry_of o ∷ [] ≡ map entry_of (take (i + 1) os) = ap (λ (x : Offer). map entry_of (take i os) ++ entry_of x ∷ []) at ∙ sym (map_more entry_of os i o lt) in
    subst (λ (xs : List Entry). PutsAll xs [] new) e (puts_more (map entry_of (take i os)) [] mid new (entry_of o) all one)

-- the entries of a map whose keys are in order are in order
pub sorted_up : (es : List (Key × Bor Leaf)) → IsStrictlySortedBy pair_cmp (keys_of es) → IsAscending entry_cmp (map entry_in es)
unfolding IsStrictlySortedBy
sorted_up [] h = tt
sorted_up (p ∷ []) h = tt
sorted_up (p ∷ q ∷ qs) h = (h.0.0, sorted_up (q ∷ qs) h.1)
