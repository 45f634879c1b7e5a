-- What is kept for pairs that count as one, and what two calls add one after the other.
use Rattle.std.proofs.Common.{◌≡◌, ◌∙◌, ℕ, List, [], ◌++◌, ◌⊎◌, inl, inr, ◌↔◌, refl, sym, ap, subst, Bool, true}
use Rattle.std.specs.Prelude.{Option, Some, unwrap_or}
use Rattle.tree_match.specs.declared.leaf.Leaf.{Leaf}
use Rattle.kept_leaves.specs.declared.leaf.KeptLeaf.{KeptLeaf}
use Rattle.kept_leaves.specs.Kept.{PieceRef, PatternRef, Map, AreKeys, Keeps, IsKept, IsMet, AreRight}
use Rattle.kept_leaves.specs.Growth.{Grows}
use Rattle.kept_leaves.specs.Pairs.{Pair, IsSamePair}
use Rattle.kept_leaves.proofs.Keyed.{IsAlike, keys_of_same, tied}
use Rattle.kept_leaves.proofs.Pairs.{one_first, one_second, one_either, apart_append}

-- ---- pairs that count as one

module _ (map : Map) (x y : Pair) (same : IsSamePair x y) where
  pub keeps_same : (leaf : Leaf) (met : Bool) → Keeps map x leaf met → Keeps map y leaf met
  keeps_same leaf met k =
      let P : List ℕ → Type 0 = λ path. map path k.piece k.pattern ≡ Some (record { leaf = leaf }, met) in
      record { piece = k.piece; pattern = k.pattern; are_keys = keys_of_same x y k.piece k.pattern k.are_keys same; found = subst P same.path k.found }

  pub kept_same : IsKept map x → IsKept map y
  kept_same (leaf, met, k) = (leaf, met, keeps_same leaf met k)

-- what is kept for a pair is found by each keys of it
pub found_by : (map : Map) → IsAlike map → (x y : Pair) (a : PieceRef) (b : PatternRef) (leaf : Leaf) (met : Bool) → IsSamePair x y → AreKeys y a b → Keeps map x leaf met
    → map y.path a b ≡ Some (record { leaf = leaf }, met)
found_by map alike x y a b leaf met same keys k =
    let t = tied x y k.piece k.pattern k.are_keys a b keys same in
    let P : List ℕ → Type 0 = λ path. map path a b ≡ Some (record { leaf = leaf }, met) in
    subst P same.path (sym (alike x.path k.piece a k.pattern b t.0 t.1) ∙ k.found)

abbrev pub some_pair : Leaf → Bool → Option (KeptLeaf × Bool)
some_pair leaf met = Some (record { leaf = leaf }, met)

pub one_answer : (l m : Leaf) (b c : Bool) → some_pair l b ≡ some_pair m c → (l ≡ m) × (b ≡ c)
one_answer l m b c e =
    let x : KeptLeaf × Bool = (record { leaf = l }, b) in
    let f : Option (KeptLeaf × Bool) → KeptLeaf × Bool = λ o. unwrap_or o x in
    let pair : x ≡ (record { leaf = m }, c) = ap f e in
    (ap (λ (p : KeptLeaf × Bool). p.0.leaf) pair, ap (λ (p : KeptLeaf × Bool). p.1) pair)

-- ---- what is kept of it may be seen otherwise

-- stores of which all keys find the same keep the same
pub keeps_as : (old new : Map) → ((path : List ℕ) (a : PieceRef) (b : PatternRef) → new path a b ≡ old path a b)
    → (x : Pair) (leaf : Leaf) (met : Bool) → Keeps old x leaf met → Keeps new x leaf met
keeps_as old new same x leaf met k = record { piece = k.piece; pattern = k.pattern; are_keys = k.are_keys; found = same x.path k.piece k.pattern ∙ k.found }

-- ---- growing

pub grows_none : (old new : Map) → ((path : List ℕ) (a : PieceRef) (b : PatternRef) → new path a b ≡ old path a b) → Grows old new (λ x. ⊥) []
grows_none old new same = record {
  stays = λ x leaf met k. (met, keeps_as old new same x leaf met k, λ e. e);
  met = λ x h. absurd h;
  only_met = λ x (leaf, k). inl (leaf, keeps_as new old (λ path a b. sym (same path a b)) x leaf true k);
  only_kept = λ x (leaf, met, k). inl (leaf, met, keeps_as new old (λ path a b. sym (same path a b)) x leaf met k);
  fresh = λ x (y, a, e) k. absurd a;
  gained = λ x (y, a, e). absurd a;
  once = tt;
}

module _ (old new : Map) (ns : List Pair) where
  still_met : {N : Pair → Type 0} → Grows old new N ns → (x : Pair) → IsMet old x → IsMet new x
  still_met g x (leaf, k) =
      let (now, j, f) = g.stays x leaf true k in
      let P : Bool → Type 0 = λ m. Keeps new x leaf m in
      (leaf, subst P (f refl) j)

  still_kept : {N : Pair → Type 0} → Grows old new N ns → (x : Pair) → IsKept old x → IsKept new x
  still_kept g x (leaf, met, k) = let (now, j, f) = g.stays x leaf met k in (leaf, now, j)

  -- needed pairs in other words
  pub grows_as : (N M : Pair → Type 0) → ((x : Pair) → N x ↔ M x) → Grows old new N ns → Grows old new M ns
  grows_as N M same g = record {
    stays = g.stays;
    met = λ x m. g.met x ((same x).1 m);
    only_met = λ x k. elim (g.only_met x k) [ inl b ↦ inl b | inr n ↦ inr ((same x).0 n) ];
    only_kept = g.only_kept;
    fresh = g.fresh;
    gained = g.gained;
    once = g.once;
  }

-- two calls one after the other
pub grows_then : (old mid new : Map) (N M : Pair → Type 0) (ns ms : List Pair) → Grows old mid N ns → Grows mid new M ms → Grows old new (λ x. N x ⊎ M x) (ns ++ ms)
grows_then old mid new N M ns ms g h = record {
  stays = λ x leaf met k.
      let (m, j, f) = g.stays x leaf met k in
      let (now, i, e) = h.stays x leaf m j in
      (now, i, λ is. e (f is));
  met = λ x n. elim n [ inl a ↦ still_met mid new ms h x (g.met x a) | inr b ↦ h.met x b ];
  only_met = λ x k. elim (h.only_met x k) [ inl j ↦ (elim (g.only_met x j) [ inl i ↦ inl i | inr n ↦ inr (inl n) ]) | inr m ↦ inr (inr m) ];
  only_kept = λ x k. elim (h.only_kept x k) [ inl j ↦ (elim (g.only_kept x j) [ inl i ↦ inl i | inr o ↦ inr (one_first ns ms x o) ]) | inr o ↦ inr (one_second ns ms x o) ];
  fresh = λ x o k. elim (one_either ns ms x o) [ inl p ↦ g.fresh x p k | inr q ↦ h.fresh x q (still_kept old mid ns g x k) ];
  gained = λ x o. elim (one_either ns ms x o) [ inl p ↦ still_met mid new ms h x (g.gained x p) | inr q ↦ h.gained x q ];
  once = apart_append ns ms g.once h.once (λ x p q. let (leaf, k) = g.gained x p in h.fresh x q (leaf, true, k));
}

pub right_as : (old new : Map) → ((path : List ℕ) (a : PieceRef) (b : PatternRef) → new path a b ≡ old path a b) → AreRight old → AreRight new
right_as old new same right x leaf met k = right x leaf met (keeps_as new old (λ path a b. sym (same path a b)) x leaf met k)
