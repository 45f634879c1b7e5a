-- The worklist: what it sees and takes, and what is left to do.
use Rattle.std.proofs.Common.{◌≡◌, ◌≢◌, ℕ, zero, suc, ◌*◌, ◌/◌, ◌%◌, ◌<◌, ◌≤◌, ◌^◌, ◌⊎◌, ◌↔◌, inl, inr, List, [], ◌∷◌, ◌++◌, length, get_or, set, sym, ◌∙◌, ap, subst, refl, arith}
use Rattle.std.proofs.lemmas.Bool.{cases_eq}
use Rattle.std.proofs.lemmas.Nat.Bits.{bit_at-zero}
use Rattle.graph_form.specs.Sets.{Among}
use Rattle.graph_form.proofs.Amongs.{among_push}
use Rattle.flow_reach.specs.Bits.{bit_of, Has, InWord, IsWithout}
use Rattle.flow_reach.specs.Worklist.{IsShaped, Lists, Grows, Takes, cost_of, total, weight_of}
use Rattle.flow_reach.specs.declared.worklist.Worklist.{Worklist}
use Rattle.flow_reach.proofs.Words.{no_bit, has_none, in_word_or, at_word, other_word, in_word, some_number, no_number}

-- sums
pub total_le : (f g : ℕ → ℕ) (n : ℕ) → ((k : ℕ) → g k ≤ f k) → total g n ≤ total f n
total_le f g zero h = omega arith
total_le f g (suc n) h = omega (arith, h n, total_le f g n h)

pub total_less : (f g : ℕ → ℕ) (n at : ℕ) → ((k : ℕ) → g k ≤ f k) → at < n → g at < f at → total g n < total f n
total_less f g zero at h lt less = absurd (omega arith)
total_less f g (suc n) at h lt less = elim (cases_eq at n) [
  | inl e ↦ let P : ℕ → Type 0 = λ k. g k < f k in let here : g n < f n = subst P e less in omega (arith, here, total_le f g n h)
  | inr ne ↦ let below : at < n = omega arith in omega (arith, h n, total_less f g n at h below less)
]

pub weight_le : (old new : Worklist) → ((k : ℕ) → cost_of new k ≤ cost_of old k) → length new.seen.items ≡ length old.seen.items → weight_of new ≤ weight_of old
unfolding weight_of
weight_le old new cost room =
    let P : ℕ → Type 0 = λ n. total (cost_of new) (64 * n) ≤ total (cost_of old) (64 * length old.seen.items) in
    subst P (sym room) (total_le (cost_of old) (cost_of new) (64 * length old.seen.items) cost)

weight_less : (old new : Worklist) (at : ℕ) → ((k : ℕ) → cost_of new k ≤ cost_of old k) → length new.seen.items ≡ length old.seen.items → at < 64 * length old.seen.items → cost_of new at < cost_of old at → weight_of new < weight_of old
unfolding weight_of
weight_less old new at cost room lt less =
    let P : ℕ → Type 0 = λ n. total (cost_of new) (64 * n) < total (cost_of old) (64 * length old.seen.items) in
    subst P (sym room) (total_less (cost_of old) (cost_of new) (64 * length old.seen.items) at cost lt less)

-- the numbers of a word are put into a set
pub put_set : (old new : List ℕ) (word bits : ℕ) → ((k : ℕ) → InWord word bits k → Has new k) → ((k : ℕ) → (InWord word bits k → ⊥) → bit_of new k ≡ bit_of old k) → (k : ℕ) → Has new k ↔ (Has old k ⊎ InWord word bits k)
put_set old new word bits there others k = elim (in_word_or word bits k) [
  | inl i ↦ (λ h. inr i, λ h. there k i)
  | inr n ↦ (λ h. inl (sym (others k n) ∙ h), λ h. elim h [ inl o ↦ others k n ∙ o | inr i ↦ absurd (n i) ])
]

-- numbers that are seen already
pub grows_none : (P : ℕ → Type 0) (w : Worklist) → IsShaped w → ((k : ℕ) → P k → Has w.seen.items k) → Grows P w w
grows_none P w shaped there = record {
  seen = λ k. (λ h. inl h, λ h. elim h [ inl o ↦ o | inr p ↦ there k p ]);
  kept = λ k h. h;
  fresh = λ k h. inl h;
  only = λ k h. inl h;
  cost = λ k. omega arith;
  room = refl;
  shaped = shaped;
}

-- those of a word, of which the seen ones were taken away
module _ (old : Worklist) (word bits read left : ℕ) (room : word < length old.seen.items) (is : read ≡ get_or old.seen.items word 0) (without : IsWithout bits read left) where
  pub new_is : (k : ℕ) → InWord word left k ↔ (InWord word bits k × (Has old.seen.items k → ⊥))
  new_is k = (
    λ (e, b). let w = (without (k % 64)).0 b in ((e, w.0), λ h. w.1 (in_word old.seen.items word room read is k e ∙ h)),
    λ ((e, b), n). (e, (without (k % 64)).1 (b, λ o. n (sym (in_word old.seen.items word room read is k e) ∙ o))),
  )

  pub all_seen : IsShaped old → left ≡ 0 → Grows (InWord word bits) old old
  all_seen shaped none = grows_none (InWord word bits) old shaped (λ k i. elim (cases_eq (bit_of old.seen.items k) 1) [
    | inl h ↦ h
    | inr n ↦ absurd (no_number word left k none ((new_is k).1 (i, n)))
  ])

  pub added : (mid new : Worklist) → Lists word old mid → length new.seen.items ≡ length mid.seen.items → ((k : ℕ) → InWord word left k → Has new.seen.items k) → ((k : ℕ) → (InWord word left k → ⊥) → bit_of new.seen.items k ≡ bit_of mid.seen.items k) → length new.todo.items ≡ length mid.todo.items → ((k : ℕ) → InWord word left k → Has new.todo.items k) → ((k : ℕ) → (InWord word left k → ⊥) → bit_of new.todo.items k ≡ bit_of mid.todo.items k) → new.words ≡ mid.words → Grows (InWord word bits) old new
  added mid new lists seen_room seen_there seen_others todo_room todo_there todo_others words =
      let os : mid.seen.items ≡ old.seen.items = ap (λ v. v.items) lists.seen in
      let ot : mid.todo.items ≡ old.todo.items = ap (λ v. v.items) lists.todo in
      let seen : (k : ℕ) → (InWord word left k → ⊥) → bit_of new.seen.items k ≡ bit_of old.seen.items k = λ k ne. seen_others k ne ∙ ap (λ s. bit_of s k) os in
      let todo : (k : ℕ) → (InWord word left k → ⊥) → bit_of new.todo.items k ≡ bit_of old.todo.items k = λ k ne. todo_others k ne ∙ ap (λ s. bit_of s k) ot in
      let seen_is = put_set old.seen.items new.seen.items word left seen_there seen in
      let todo_is = put_set old.todo.items new.todo.items word left todo_there todo in
      let wi : new.words.items ≡ mid.words.items = ap (λ v. v.items) words in
      let forth : (w : ℕ) → Among mid.words.items w → Among new.words.items w = λ w h. let P : List ℕ → Type 0 = λ hs. Among hs w in subst P (sym wi) h in
      let back : (w : ℕ) → Among new.words.items w → Among mid.words.items w = λ w h. let P : List ℕ → Type 0 = λ hs. Among hs w in subst P wi h in
      record {
        seen = λ k. (
          λ h. elim ((seen_is k).0 h) [ inl o ↦ inl o | inr i ↦ inr ((new_is k).0 i).0 ],
          λ h. elim h [
            | inl o ↦ (seen_is k).1 (inl o)
            | inr i ↦ elim (cases_eq (bit_of old.seen.items k) 1) [ inl o ↦ (seen_is k).1 (inl o) | inr n ↦ (seen_is k).1 (inr ((new_is k).1 (i, n))) ]
          ],
        );
        kept = λ k h. (todo_is k).1 (inl h);
        fresh = λ k h. elim ((seen_is k).0 h) [ inl o ↦ inl o | inr i ↦ inr ((todo_is k).1 (inr i)) ];
        only = λ k h. elim ((todo_is k).0 h) [ inl o ↦ inl o | inr i ↦ inr ((new_is k).0 i).0 ];
        cost = λ k. elim (in_word_or word left k) [
          | inl i ↦
              let a : bit_of new.seen.items k ≡ 1 = seen_there k i in
              let b : bit_of new.todo.items k ≡ 1 = todo_there k i in
              let d : bit_of old.seen.items k ≡ 0 = no_bit old.seen.items k ((new_is k).0 i).1 in
              omega arith
          | inr n ↦ let a = seen k n in let b = todo k n in omega arith
        ];
        room = seen_room ∙ ap length os;
        shaped = record {
          same = omega (arith, lists.shaped.same);
          small = omega (arith, lists.shaped.small);
          inside = λ w l. omega (arith, lists.shaped.inside w (back w l));
          covers = λ k h. elim ((todo_is k).0 h) [
            | inl o ↦ forth (k / 64) (lists.shaped.covers k (ap (λ s. bit_of s k) ot ∙ o))
            | inr i ↦ let P : ℕ → Type 0 = λ w. Among new.words.items w in subst P (sym i.0) (forth word lists.listed)
          ];
        };
      }

-- a word is listed
pub listed_new : (old new : Worklist) (word : ℕ) → IsShaped old → word < length old.seen.items → new.seen ≡ old.seen → new.todo ≡ old.todo → new.words.items ≡ old.words.items ++ word ∷ [] → Lists word old new
listed_new old new word shaped lt seen todo words =
    let si = ap length (ap (λ v. v.items) seen) in
    let ti : new.todo.items ≡ old.todo.items = ap (λ v. v.items) todo in
    let tl = ap length ti in
    let is : (w : ℕ) → Among new.words.items w ↔ (Among old.words.items w ⊎ (word ≡ w)) = λ w. let P : List ℕ → Type 0 = λ hs. Among hs w ↔ (Among old.words.items w ⊎ (word ≡ w)) in subst P (sym words) (among_push old.words.items word w) in
    record {
      seen = seen;
      todo = todo;
      listed = (is word).1 (inr refl);
      shaped = record {
        same = omega (arith, shaped.same);
        small = omega (arith, shaped.small);
        inside = λ w l. elim ((is w).0 l) [ inl o ↦ omega (arith, shaped.inside w o) | inr e ↦ omega arith ];
        covers = λ k h. (is (k / 64)).1 (inl (shaped.covers k (ap (λ s. bit_of s k) (sym ti) ∙ h)));
      };
    }

-- one in which a number waits is listed already
pub listed_old : (old : Worklist) (word read : ℕ) → IsShaped old → word < length old.seen.items → read ≡ get_or old.todo.items word 0 → read ≢ 0 → read < 2 ^ 64 → Lists word old old
listed_old old word read shaped lt is some fits =
    let n = some_number word read some fits in
    let room : word < length old.todo.items = omega (arith, shaped.same) in
    let h : Has old.todo.items n.0 = sym (in_word old.todo.items word room read is n.0 n.1.0) ∙ n.1.1 in
    let P : ℕ → Type 0 = λ w. Among old.words.items w in
    record { seen = refl; todo = refl; listed = subst P n.1.0 (shaped.covers n.0 h); shaped = shaped }

-- the last word that is listed has nothing that waits
pub next_word : (old new : Worklist) (word read : ℕ) → IsShaped old → old.words.items ≡ new.words.items ++ word ∷ [] → read ≡ get_or old.todo.items word 0 → read ≡ 0 → new.seen ≡ old.seen → new.todo ≡ old.todo → IsShaped new
next_word old new word read shaped words is none seen todo =
    let si = ap length (ap (λ v. v.items) seen) in
    let ti : new.todo.items ≡ old.todo.items = ap (λ v. v.items) todo in
    let tl = ap length ti in
    let listed : (w : ℕ) → Among old.words.items w ↔ (Among new.words.items w ⊎ (word ≡ w)) = λ w. let P : List ℕ → Type 0 = λ hs. Among hs w ↔ (Among new.words.items w ⊎ (word ≡ w)) in subst P (sym words) (among_push new.words.items word w) in
    let room : word < length old.todo.items = omega (arith, shaped.same, shaped.inside word ((listed word).1 (inr refl))) in
    record {
      same = omega (arith, shaped.same);
      small = omega (arith, shaped.small);
      inside = λ w l. omega (arith, shaped.inside w ((listed w).1 (inl l)));
      covers = λ k h.
          let o : Has old.todo.items k = ap (λ s. bit_of s k) (sym ti) ∙ h in
          elim ((listed (k / 64)).0 (shaped.covers k o)) [
            | inl a ↦ a
            | inr e ↦ absurd (no_number word read k none (sym e, in_word old.todo.items word room read is k (sym e) ∙ o))
          ];
    }

-- a word that is listed is there
pub listed_there : (old : Worklist) (rest : List ℕ) (word : ℕ) → IsShaped old → old.words.items ≡ rest ++ word ∷ [] → word < length old.seen.items
listed_there old rest word shaped words =
    let P : List ℕ → Type 0 = λ hs. Among hs word in
    shaped.inside word (subst P (sym words) ((among_push rest word word).1 (inr refl)))

-- nothing waits where no word is listed
pub all_idle : (old : Worklist) → IsShaped old → (0 < length old.words.items → ⊥) → (k : ℕ) → Has old.todo.items k → ⊥
all_idle old shaped none k h = empty old.words.items (k / 64) none (shaped.covers k h)
  where
    empty : (xs : List ℕ) (x : ℕ) → (0 < length xs → ⊥) → Among xs x → ⊥
    empty [] x n h = h
    empty (y ∷ ys) x n h = n (omega arith)

-- the numbers that wait in a word are taken
pub taken : (old mid new : Worklist) (word read : ℕ) → IsShaped mid → mid.seen ≡ old.seen → mid.todo ≡ old.todo → mid.words.items ≡ new.words.items ++ word ∷ [] → read ≡ get_or mid.todo.items word 0 → read ≢ 0 → read < 2 ^ 64 → new.seen ≡ mid.seen → new.todo.items ≡ set mid.todo.items word 0 → length new.todo.items ≡ length mid.todo.items → Takes word read old new
taken old mid new word read shaped os ot words is some fits ns nt room =
    let oti : mid.todo.items ≡ old.todo.items = ap (λ v. v.items) ot in
    let nsi : new.seen.items ≡ old.seen.items = ap (λ v. v.items) (ns ∙ os) in
    let msl = ap length (ap (λ v. v.items) os) in
    let nsl = ap length (ap (λ v. v.items) ns) in
    let listed : (w : ℕ) → Among mid.words.items w ↔ (Among new.words.items w ⊎ (word ≡ w)) = λ w. let P : List ℕ → Type 0 = λ hs. Among hs w ↔ (Among new.words.items w ⊎ (word ≡ w)) in subst P (sym words) (among_push new.words.items word w) in
    let in_seen : word < length mid.seen.items = shaped.inside word ((listed word).1 (inr refl)) in
    let inside : word < length mid.todo.items = omega (arith, shaped.same, in_seen) in
    let gone : (k : ℕ) → k / 64 ≡ word → bit_of new.todo.items k ≡ 0 = λ k e. ap (λ s. bit_of s k) nt ∙ at_word mid.todo.items word inside 0 k e ∙ bit_at-zero (k % 64) in
    let others : (k : ℕ) → k / 64 ≢ word → bit_of new.todo.items k ≡ bit_of old.todo.items k = λ k n. ap (λ s. bit_of s k) nt ∙ other_word mid.todo.items word inside 0 k n ∙ ap (λ s. bit_of s k) oti in
    let waited : (k : ℕ) → InWord word read k ↔ (Has old.todo.items k × (k / 64 ≡ word)) = λ k. (
      λ (e, b). (ap (λ s. bit_of s k) (sym oti) ∙ sym (in_word mid.todo.items word inside read is k e) ∙ b, e),
      λ (h, e). (e, in_word mid.todo.items word inside read is k e ∙ ap (λ s. bit_of s k) oti ∙ h),
    ) in
    let todo : (k : ℕ) → Has new.todo.items k ↔ (Has old.todo.items k × (k / 64 ≡ word → ⊥)) = λ k. elim (cases_eq (k / 64) word) [
      | inl e ↦ (λ h. absurd (has_none new.todo.items k (gone k e) h), λ h. absurd (h.1 e))
      | inr n ↦ (λ h. (sym (others k n) ∙ h, n), λ h. others k n ∙ h.0)
    ] in
    let one = some_number word read some fits in
    let there : bit_of old.todo.items one.0 ≡ 1 = ((waited one.0).0 one.1).0 in
    record {
      fits = fits;
      some = one;
      waited = waited;
      inside = omega (arith, in_seen, msl);
      seen = nsi;
      todo = todo;
      less = weight_less old new one.0
          (λ k. let a : bit_of new.seen.items k ≡ bit_of old.seen.items k = ap (λ s. bit_of s k) nsi in elim (cases_eq (k / 64) word) [
            | inl e ↦ let z = gone k e in omega arith
            | inr n ↦ let b = others k n in omega arith
          ])
          (ap length nsi)
          (let e = one.1.0 in omega (arith, in_seen, msl))
          (let a : bit_of new.seen.items one.0 ≡ bit_of old.seen.items one.0 = ap (λ s. bit_of s one.0) nsi in let z = gone one.0 one.1.0 in omega arith);
      shaped = record {
        same = omega (arith, shaped.same);
        small = omega (arith, shaped.small);
        inside = λ w l. omega (arith, shaped.inside w ((listed w).1 (inl l)));
        covers = λ k h.
            let t = (todo k).0 h in
            elim ((listed (k / 64)).0 (shaped.covers k (ap (λ s. bit_of s k) oti ∙ t.0))) [ inl a ↦ a | inr e ↦ absurd (t.1 (sym e)) ];
      };
    }
