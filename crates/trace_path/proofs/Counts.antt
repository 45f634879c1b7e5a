-- Numbers that are put into a set, and the facts found by that.
use Rattle.std.proofs.Common.{◌≡◌, ◌≢◌, ℕ, zero, suc, ◌+◌, ◌*◌, ◌-◌, ◌/◌, ◌%◌, ◌<◌, ◌≤◌, ◌⊎◌, ◌↔◌, inl, inr, List, [], ◌∷◌, ◌++◌, length, take, get_or, Bool, true, false, IsTrue, sym, ◌∙◌, ap, subst, refl, arith}
use Rattle.std.proofs.lemmas.Bool.{cases_eq}
use Rattle.graph_form.specs.Sets.{Among}
use Rattle.std.specs.Int.{bit_at}
use Rattle.flow_reach.specs.Bits.{bit_of, Has, InWord}
use Rattle.flow_reach.specs.Spread.{At}
use Rattle.flow_reach.specs.Worklist.{total}
use Rattle.flow_reach.proofs.Steps.{as_right, one_number}
use Rattle.flow_reach.proofs.Words.{no_bit}
use Rattle.flow_reach.proofs.Works.{total_less, put_set}
use Rattle.graph_form.proofs.Amongs.{among_push}
use Rattle.trace_path.specs.Fresh.{absent, missing, Puts, Notes, Finds, Gathers}

pub puts : (old new : List ℕ) (at bits : ℕ) → at < 64 * length old → (Has old at → ⊥) → length new ≡ length old → ((i : ℕ) → (bit_at bits i ≡ 1) ↔ (i ≡ at % 64)) → ((k : ℕ) → InWord (at / 64) bits k → Has new k) → ((k : ℕ) → (InWord (at / 64) bits k → ⊥) → bit_of new k ≡ bit_of old k) → Puts at old new
unfolding missing
puts old new at bits lt none room one there others =
    let here_is : bit_of new at ≡ 1 = there at ((one_number at bits at one).1 refl) in
    record {
      room = room;
      seen = λ k. as_right _ _ _ _ (put_set old new (at / 64) bits there others k) (one_number at bits k one);
      less =
          let P : ℕ → Type 0 = λ n. total (absent new) (64 * n) < total (absent old) (64 * length old) in
          let here : absent new at < absent old at = omega (arith, no_bit old at none, here_is) in
          subst P (sym room) (total_less (absent old) (absent new) (64 * length old) at (λ k. elim (cases_eq k at) [
            | inl e ↦ let q : bit_of new k ≡ 1 = there k ((one_number at bits k one).1 e) in omega arith
            | inr ne ↦ let q = others k (λ i. ne ((one_number at bits k one).0 i)) in omega arith
          ]) lt here);
    }

pub finds_none : (base : ℕ) (s : List ℕ) → Finds base [] s s []
finds_none base s = record {
  room = refl;
  seen = λ k. (λ h. inl h, λ h. elim h [ inl o ↦ o | inr at ↦ absurd (at.1) ]);
  some = λ f h. absurd h;
  all = λ f h. absurd h;
  less = omega arith;
}

length_push : {X : Type 0} (xs : List X) (x : X) → length (xs ++ x ∷ []) ≡ length xs + 1
length_push [] x = refl
length_push (y ∷ ys) x = omega (arith, length_push ys x)

pub finds_more : (base y : ℕ) (xs ys old mid new found later : List ℕ) → Finds base xs old mid found → Notes base y mid new found later → ((x : ℕ) → Among ys x ↔ (Among xs x ⊎ (y ≡ x))) → Finds base ys old new later
finds_more base y xs ys old mid new found later f (inl (there, same, as_before)) split =
    let S : List ℕ → Type 0 = λ s. (k : ℕ) → Has s k ↔ (Has old k ⊎ At base ys k) in
    let F : List ℕ → Type 0 = λ fs. (x : ℕ) → Among fs x → Among ys x × (Has old (base + x) → ⊥) in
    let A : List ℕ → Type 0 = λ fs. (x : ℕ) → Among ys x → Has old (base + x) ⊎ Among fs x in
    let M : List ℕ → Type 0 = λ s. length found + missing s ≤ missing old in
    let L : List ℕ → Type 0 = λ fs. length fs + missing new ≤ missing old in
    record {
      room = ap length same ∙ f.room;
      seen = subst S (sym same) (λ k. (
        λ h. elim ((f.seen k).0 h) [ inl o ↦ inl o | inr (x, among, e) ↦ inr (x, (split x).1 (inl among), e) ],
        λ h. elim h [
          | inl o ↦ (f.seen k).1 (inl o)
          | inr (x, among, e) ↦ elim ((split x).0 among) [
            | inl a ↦ (f.seen k).1 (inr (x, a, e))
            | inr q ↦ let P : ℕ → Type 0 = λ m. Has mid m in subst P (sym (e ∙ ap (λ z. base + z) (sym q))) there
          ]
        ],
      ));
      some = subst F (sym as_before) (λ x h. ((split x).1 (inl (f.some x h).0), (f.some x h).1));
      all = subst A (sym as_before) (λ x h. elim ((split x).0 h) [
        | inl a ↦ f.all x a
        | inr q ↦ elim ((f.seen (base + y)).0 there) [
          | inl o ↦ let P : ℕ → Type 0 = λ z. Has old (base + z) in inl (subst P q o)
          | inr (z, among, e) ↦ let same_z : z ≡ x = omega (arith, e, q) in let P : ℕ → Type 0 = λ w. Among xs w in f.all x (subst P same_z among)
        ]
      ]);
      less = subst L (sym as_before) (subst M (sym same) f.less);
    }
finds_more base y xs ys old mid new found later f (inr (none, puts, pushed)) split =
    let F : List ℕ → Type 0 = λ fs. (x : ℕ) → Among fs x → Among ys x × (Has old (base + x) → ⊥) in
    let A : List ℕ → Type 0 = λ fs. (x : ℕ) → Among ys x → Has old (base + x) ⊎ Among fs x in
    record {
      room = puts.room ∙ f.room;
      seen = λ k. (
        λ h. elim ((puts.seen k).0 h) [
          | inl m ↦ elim ((f.seen k).0 m) [ inl o ↦ inl o | inr (x, among, e) ↦ inr (x, (split x).1 (inl among), e) ]
          | inr e ↦ inr (y, (split y).1 (inr refl), e)
        ],
        λ h. elim h [
          | inl o ↦ (puts.seen k).1 (inl ((f.seen k).1 (inl o)))
          | inr (x, among, e) ↦ elim ((split x).0 among) [
            | inl a ↦ (puts.seen k).1 (inl ((f.seen k).1 (inr (x, a, e))))
            | inr q ↦ (puts.seen k).1 (inr (e ∙ ap (λ z. base + z) (sym q)))
          ]
        ],
      );
      some = subst F (sym pushed) (λ x h. elim ((among_push found y x).0 h) [
        | inl a ↦ ((split x).1 (inl (f.some x a).0), (f.some x a).1)
        | inr q ↦ ((split x).1 (inr q), λ o. none ((f.seen (base + y)).1 (inl (let P : ℕ → Type 0 = λ z. Has old (base + z) in subst P (sym q) o))))
      ]);
      all = subst A (sym pushed) (λ x h. elim ((split x).0 h) [
        | inl a ↦ elim (f.all x a) [ inl o ↦ inl o | inr b ↦ inr ((among_push found y x).1 (inl b)) ]
        | inr q ↦ inr ((among_push found y x).1 (inr q))
      ]);
      less = omega (arith, ap length pushed, length_push found y, puts.less, f.less);
    }

pub total_small : (set : List ℕ) (n : ℕ) → total (absent set) n ≤ n
total_small set zero = omega arith
total_small set (suc n) = omega (arith, total_small set n)

pub missing_small : (set : List ℕ) → missing set ≤ 64 * length set
unfolding missing
missing_small set = total_small set (64 * length set)

pub gathers_none : (base : ℕ) (seen facts : List ℕ) → Gathers base [] seen seen facts facts
gathers_none base seen facts = record { found = []; same = sym (append_none facts); finds = finds_none base seen }
  where
    append_none : (xs : List ℕ) → xs ++ [] ≡ xs
    append_none [] = refl
    append_none (x ∷ xs) = ap (λ ys. x ∷ ys) (append_none xs)

pub gathers_more : (base y : ℕ) (xs ys old mid new before after later : List ℕ) → Gathers base xs old mid before after → Notes base y mid new after later → ((x : ℕ) → Among ys x ↔ (Among xs x ⊎ (y ≡ x))) → Gathers base ys old new before later
gathers_more base y xs ys old mid new before after later g (inl (there, same, as_before)) split = record {
  found = g.found;
  same = as_before ∙ g.same;
  finds = finds_more base y xs ys old mid new g.found g.found g.finds (inl (there, same, refl)) split;
}
gathers_more base y xs ys old mid new before after later g (inr (none, puts, pushed)) split = record {
  found = g.found ++ y ∷ [];
  same = pushed ∙ ap (λ zs. zs ++ y ∷ []) g.same ∙ append_one before g.found y;
  finds = finds_more base y xs ys old mid new g.found (g.found ++ y ∷ []) g.finds (inr (none, puts, refl)) split;
}
  where
    append_one : (ps qs : List ℕ) (z : ℕ) → (ps ++ qs) ++ z ∷ [] ≡ ps ++ (qs ++ z ∷ [])
    append_one [] qs z = refl
    append_one (p ∷ ps) qs z = ap (λ zs. p ∷ zs) (append_one ps qs z)

-- a number that a test didn't find
pub not_has : (set read : List ℕ) (at : ℕ) (b : Bool) → read ≡ set → (IsTrue b ↔ Has read at) → b ≡ false → Has set at → ⊥
not_has set read at b same test off h = let P : List ℕ → Type 0 = λ s. Has s at in let t : b ≡ true = test.1 (subst P (sym same) h) in cc
