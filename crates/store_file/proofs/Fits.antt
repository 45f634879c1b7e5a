-- Entries that are put in, and those of them that fit.
use Rattle.std.proofs.Common.{◌≡◌, ℕ, zero, suc, ◌-◌, ◌<◌, ◌≤◌, inl, inr, List, [], ◌∷◌, ◌++◌, length, take, Bool, true, false, cond, refl, sym, ap, ◌∙◌, subst, arith, length-append, length-take, get_or-take}
use Rattle.std.specs.Prelude.{nat_le}
use Rattle.std.specs.List.{All}
use Rattle.std.proofs.lemmas.List.Elements.{All-cons}
use Rattle.std.specs.declared.cmp.Ordering.{Ordering}
use Rattle.std.specs.Ordering.{is_lt}
use Rattle.sha2.specs.Sha256.{sha256}
use Rattle.sha2.proofs.Facts256.{length-sha256}
use Rattle.tree_match.specs.Ascending.{IsAscending}
use Rattle.store_file.specs.declared.entry.Entry.{Entry}
use Rattle.store_file.specs.StoreText.{entry_bytes, entry_cmp, front_bytes, IsEntry, IsStoreText}
use Rattle.store_file.specs.Written.{is_there, insert_entry, put_entry, PutsOne, PutsAll, fitting}

tail_all : {X : Type 0} (P : X → Type 0) (x : X) (xs : List X) → All P (x ∷ xs) → All P xs
tail_all P x xs h = λ k d lt. h (suc k) d (omega arith)

inserted_all : (e : Entry) (es : List Entry) → IsEntry e → All IsEntry es → All IsEntry (insert_entry e es)
inserted_all e [] one all = All-cons IsEntry e [] one all
inserted_all e (f ∷ fs) one all = at (is_lt (entry_cmp e f)) (inserted_all e fs one (tail_all IsEntry f fs all))
  where
    at : (b : Bool) → All IsEntry (insert_entry e fs) → All IsEntry (cond b (e ∷ f ∷ fs) (f ∷ insert_entry e fs))
    at true rest = All-cons IsEntry e (f ∷ fs) one all
    at false rest = All-cons IsEntry f (insert_entry e fs) (all 0 f (omega arith)) rest

put_all : (e : Entry) (es : List Entry) → IsEntry e → All IsEntry es → All IsEntry (put_entry e es)
put_all e es one all = at (is_there e es)
  where
    at : (b : Bool) → All IsEntry (cond b es (insert_entry e es))
    at true = all
    at false = inserted_all e es one all

puts_one : (e : Entry) (old new : List Entry) → PutsOne e old new → All IsEntry old → All IsEntry new
puts_one e old new (inl h) all = subst (All IsEntry) (sym h.1) (put_all e old h.0 all)
puts_one e old new (inr h) all = subst (All IsEntry) (sym h.1) all

pub puts_all : (es old new : List Entry) → PutsAll es old new → All IsEntry old → All IsEntry new
puts_all [] old new h all = subst (All IsEntry) (sym h) all
puts_all (e ∷ es) old new h all = puts_all es h.0 new h.2 (puts_one e old h.0 h.1 all)

-- what fits is a front
fit_take : (room : ℕ) (es : List Entry) → (n : ℕ) × (fitting room es ≡ take n es)
fit_take room [] = (0, refl)
fit_take room (e ∷ es) = at (nat_le (length (entry_bytes e)) room) (fit_take (room - length (entry_bytes e)) es)
  where
    at : (b : Bool) → ((n : ℕ) × (fitting (room - length (entry_bytes e)) es ≡ take n es)) → (n : ℕ) × (cond b (e ∷ fitting (room - length (entry_bytes e)) es) [] ≡ take n (e ∷ es))
    at true (n, h) = (suc n, ap (λ (xs : List Entry). e ∷ xs) h)
    at false h = (0, refl)

take_up : {X : Type 0} (R : X → X → Ordering) (n : ℕ) (xs : List X) → IsAscending R xs → IsAscending R (take n xs)
take_up R zero xs h = tt
take_up R (suc n) [] h = tt
take_up R (suc zero) (x ∷ xs) h = tt
take_up R (suc (suc n)) (x ∷ []) h = tt
take_up R (suc (suc n)) (x ∷ y ∷ ys) h = (h.0, take_up R (suc n) (y ∷ ys) h.1)

taken_all : {X : Type 0} (P : X → Type 0) (n : ℕ) (xs : List X) → All P xs → All P (take n xs)
taken_all P n xs h = λ k d lt.
    let within : k < n = omega (arith, length-take n xs) in
    subst P (sym (get_or-take n xs k d within)) (h k d (omega (arith, length-take n xs)))

-- the text of what fits
pub fitting_text : (room : ℕ) (all : List Entry) (front text : List ℕ) → All IsEntry all → IsAscending entry_cmp all → front ≡ front_bytes (fitting room all) → length front ≤ 33554400 → text ≡ front ++ sha256 front → IsStoreText (fitting room all) text
fitting_text room all front text entries up is small e =
    let f = fit_take room all in
    record {
      bytes = e ∙ ap (λ (v : List ℕ). v ++ sha256 v) is;
      sound = (subst (All IsEntry) (sym f.1) (taken_all IsEntry f.0 all entries), subst (IsAscending entry_cmp) (sym f.1) (take_up entry_cmp f.0 all up));
      small = omega (arith, ap (λ (v : List ℕ). length v) e, length-append front (sha256 front), length-sha256 front);
    }
