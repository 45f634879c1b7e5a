-- The order of entries by their digests.
use Rattle.std.proofs.Common.{◌≡◌, ℕ, zero, suc, ◌-◌, ◌<◌, ◌≤◌, inl, inr, List, length, get_or, sym, ap, ◌∙◌, subst, arith}
use Rattle.std.proofs.lemmas.Bool.{cases_lt}
use Rattle.std.proofs.lemmas.List.{get_or_read}
use Rattle.std.specs.List.{Contains}
use Rattle.std.specs.declared.cmp.Ordering.{Ordering}
use Rattle.std.specs.declared.cmp.Ordering.TheVariants.{Less, Equal, Greater}
use Rattle.std.specs.Ordering.{ordering_then, ordering_reverse}
use Rattle.std.specs.Cmp.{IsTotalOrder, tied_itself}
use Rattle.std.specs.Cmp.Lexicographic.{on_texts}
use Rattle.std.proofs.lemmas.Cmp.{then_total}
use Rattle.std.proofs.lemmas.Map.Lookups.{exact_bytes}
use Rattle.node_tree.proofs.Orders.{then_first, then_second}
use Rattle.tree_match.specs.declared.leaf.Leaf.TheVariants.{Crowded}
use Rattle.tree_match.specs.Ascending.{IsAscending}
use Rattle.store_file.specs.declared.digest.Digest.{Digest}
use Rattle.store_file.specs.declared.entry.Entry.{Entry}
use Rattle.store_file.specs.StoreText.{digest_cmp, entry_cmp}
use Rattle.store_file.specs.Found.{IsWith, IsAbsent}
use Rattle.store_file.proofs.Order.{some_ascend}

abbrev pub key_cmp : Entry → Digest → Digest → Ordering
key_cmp e piece pattern = ordering_then (digest_cmp e.piece piece) (digest_cmp e.pattern pattern)

-- an entry with these digests
abbrev keyed : Digest → Digest → Entry
keyed piece pattern = record { piece = piece; pattern = pattern; leaf = Crowded }

pub entry_total : IsTotalOrder entry_cmp
entry_total = then_total (on_texts (λ (e : Entry). e.piece.bytes)) (on_texts (λ (e : Entry). e.pattern.bytes))

-- any two entries of a list in order
pub pair_ascends : (es : List Entry) → IsAscending entry_cmp es → (i j : ℕ) → i < j → j < length es → (d : Entry) → entry_cmp (get_or es i d) (get_or es j d) ≡ Less
pair_ascends es up i zero lt within d = absurd (omega arith)
pair_ascends es up i (suc j) lt within d = elim (cases_lt i j) [ inl below ↦ entry_total.trans (get_or es i d) (get_or es j d) (get_or es (suc j) d) (pair_ascends es up i j below (omega arith) d) next | inr le ↦ (let e : j ≡ i = omega arith in subst (λ (k : ℕ). entry_cmp (get_or es k d) (get_or es (suc j) d) ≡ Less) e next) ]
  where
    next : entry_cmp (get_or es j d) (get_or es (suc j) d) ≡ Less
    next = let e : suc j - 1 ≡ j = omega arith in subst (λ (k : ℕ). entry_cmp (get_or es k d) (get_or es (suc j) d) ≡ Less) e (some_ascend entry_cmp es up (suc j) (omega arith) within d)

-- what comes up to an entry that is below the digests is below them
pub below_all : (es : List Entry) → IsAscending entry_cmp es → (piece pattern : Digest) (m k : ℕ) (d : Entry) → m < length es → k ≤ m → key_cmp (get_or es m d) piece pattern ≡ Less → key_cmp (get_or es k d) piece pattern ≡ Less
below_all es up piece pattern m k d within le less = elim (cases_lt k m) [ inl lt ↦ entry_total.trans (get_or es k d) (get_or es m d) (keyed piece pattern) (pair_ascends es up k m lt within d) less | inr ge ↦ (let e : m ≡ k = omega arith in subst (λ (i : ℕ). key_cmp (get_or es i d) piece pattern ≡ Less) e less) ]

turned : (o : Ordering) → o ≡ Greater → ordering_reverse o ≡ Less
turned o e = ap ordering_reverse e

-- what comes from an entry on that is above the digests is above them
pub above_all : (es : List Entry) → IsAscending entry_cmp es → (piece pattern : Digest) (m k : ℕ) (d : Entry) → m ≤ k → k < length es → key_cmp (get_or es m d) piece pattern ≡ Greater → key_cmp (get_or es k d) piece pattern ≡ Greater
above_all es up piece pattern m k d le within more = elim (cases_lt m k) [ inl lt ↦ entry_total.antisymm (get_or es k d) (keyed piece pattern) ∙ ap ordering_reverse (entry_total.trans (keyed piece pattern) (get_or es m d) (get_or es k d) (entry_total.antisymm (keyed piece pattern) (get_or es m d) ∙ ap ordering_reverse more) (pair_ascends es up m k lt within d)) | inr ge ↦ (let e : m ≡ k = omega arith in subst (λ (i : ℕ). key_cmp (get_or es i d) piece pattern ≡ Greater) e more) ]

same_bytes : (a b : Digest) → a.bytes ≡ b.bytes → a ≡ b
same_bytes a b e = let f : List ℕ → Digest = λ (bs : List ℕ). record { bytes = bs } in ap f e

-- an entry that is equal to the digests has them
pub has_keys : (e : Entry) (piece pattern : Digest) → key_cmp e piece pattern ≡ Equal → IsWith piece pattern e
has_keys e piece pattern h = (
  same_bytes e.piece piece (exact_bytes e.piece.bytes piece.bytes (then_first (digest_cmp e.piece piece) (digest_cmp e.pattern pattern) h)),
  same_bytes e.pattern pattern (exact_bytes e.pattern.bytes pattern.bytes (then_second (digest_cmp e.piece piece) (digest_cmp e.pattern pattern) h)),
)

pub keys_equal : (e : Entry) (piece pattern : Digest) → IsWith piece pattern e → key_cmp e piece pattern ≡ Equal
keys_equal e piece pattern h =
    ap (λ (d : Digest). key_cmp e d pattern) (sym h.0) ∙ ap (λ (d : Digest). key_cmp e e.piece d) (sym h.1) ∙ tied_itself entry_total e

-- where neither a part below nor a part above is left between, no entry has the digests
pub none_between : (es : List Entry) (piece pattern : Digest) (low high : ℕ) → high ≤ low
    → ((k : ℕ) (d : Entry) → k < low → key_cmp (get_or es k d) piece pattern ≡ Less) → ((k : ℕ) (d : Entry) → high ≤ k → k < length es → key_cmp (get_or es k d) piece pattern ≡ Greater) → IsAbsent piece pattern es
none_between es piece pattern low high le below above e there with = elim (cases_lt there.0 low) [ inl lt ↦ (let no : Less ≡ Equal = sym (below there.0 e lt) ∙ equal in absurd cc) | inr ge ↦ (let no : Greater ≡ Equal = sym (above there.0 e (omega arith) there.1) ∙ equal in absurd cc) ]
  where
    equal : key_cmp (get_or es there.0 e) piece pattern ≡ Equal
    equal = ap (λ (x : Entry). key_cmp x piece pattern) there.2 ∙ keys_equal e piece pattern with

both_equal : (a b : Entry) (piece pattern : Digest) → IsWith piece pattern a → IsWith piece pattern b → entry_cmp a b ≡ Equal
both_equal a b piece pattern ha hb = keys_equal a b.piece b.pattern (ha.0 ∙ sym hb.0, ha.1 ∙ sym hb.1)

-- an entry of a list in order is the one that has its digests
pub only_one : (es : List Entry) → IsAscending entry_cmp es → (piece pattern : Digest) (i : ℕ) (a b : Entry) → i < length es → a ≡ get_or es i a → IsWith piece pattern a → Contains es b → IsWith piece pattern b → b ≡ a
only_one es up piece pattern i a b lt at wa there wb = elim (cases_lt i there.0) [ inl less ↦ absurd (let no : Less ≡ Equal = sym (pair_ascends es up i there.0 less there.1 b) ∙ ap (λ (x : Entry). entry_cmp x (get_or es there.0 b)) here ∙ ap (λ (x : Entry). entry_cmp a x) there.2 ∙ both_equal a b piece pattern wa wb in cc) | inr ge ↦ elim (cases_lt there.0 i) [ inl less ↦ absurd (let no : Less ≡ Equal = sym (pair_ascends es up there.0 i less lt b) ∙ ap (λ (x : Entry). entry_cmp x (get_or es i b)) there.2 ∙ ap (λ (x : Entry). entry_cmp b x) here ∙ both_equal b a piece pattern wb wa in cc) | inr ge' ↦ (let e : there.0 ≡ i = omega arith in sym there.2 ∙ ap (λ (k : ℕ). get_or es k b) e ∙ here) ] ]
  where
    here : get_or es i b ≡ a
    here = sym (get_or_read es i a lt at b)
