-- What is known of names after all sightings.
use Rattle.std.proofs.Common.{◌≡◌, ◌≢◌, ◌⊎◌, ◌↔◌, inl, inr, ℕ, zero, suc, ◌+◌, ◌<◌, ◌≤◌, Bool, true, false, eqb, List, [], ◌∷◌, ◌++◌, length, take, map, get_or, replicate, refl, sym, ap, ◌∙◌, subst, arith, Some}
use Rattle.std.specs.Prelude.{Option, None, ◌==◌, ◌&&◌, if◌then◌else◌, slice_index_or, slice_set}
use Rattle.std.specs.Cmp.Lexicographic.{bytes_decides}
use Rattle.std.specs.Str.{bytes_eq}
use Rattle.std.proofs.lemmas.Bool.{eqb-true, eq-eqb}
use Rattle.std.proofs.lemmas.List.{get_or-set_same, get_or-set_other, length-set, length-replicate, get_or-replicate, get_or_append_left, take_more, map-append, append-nil}
use Rattle.graph_form.specs.Sets.{Among}
use Rattle.unit_effects.specs.Fixed.{Value}
use Rattle.unit_names.specs.declared.word.Word.{Word as Lent}
use Rattle.unit_names.specs.Words.{Word, same_word, leaf}
use Rattle.std.specs.Prelude.{slice_index}
use Rattle.std.specs.List.Sorted.{IsStrictlyIncreasing}
use Rattle.std.proofs.Common.{length-append}
use Rattle.std.proofs.lemmas.Bool.{cases_lt}
use denote.Enum.Bare.{tag_one}
use Rattle.node_tree.specs.Order.{kind_place}
use Rattle.node_tree.specs.contracts.kind.Kind.{the_type}
use Rattle.const_prop.specs.Settled.{seen_slot, seen_more, seen_all, joined, both, Agrees, AreGathered, AddsSighting, AreSettled, is_name_there, known_at}
use Rattle.node_tree.specs.declared.node.Node.{Node}
use Rattle.node_tree.specs.declared.known.Known.{Known}
use Rattle.graph_form.proofs.Amongs.{among_app}

abbrev pub Slot : Type 0
Slot = Option (Option Lent)

abbrev pub Pair : Type 0
Pair = ℕ × Value

seen_all_more : (o : Option Value) (gs : List Pair) (g : Pair) (at : ℕ) → seen_all o (gs ++ g ∷ []) at ≡ (if g.0 == at then seen_more (seen_all o gs at) g.1 else seen_all o gs at)
seen_all_more o [] g at = refl
seen_all_more o (x ∷ xs) g at = seen_all_more (if x.0 == at then seen_more o x.1 else o) xs g at

module _ (gs : List Pair) (g : Pair) (count : ℕ) (old : List Slot) (gathered : AreGathered gs count old) where
  -- a node is seen once more
  pub gathered_more : (s : Slot) (new : List Slot) → g.0 < length old → new ≡ slice_set old g.0 s → seen_slot s ≡ seen_more (seen_slot (slice_index_or old g.0 None)) g.1 → AreGathered (gs ++ g ∷ []) count new
  gathered_more s new lt new_is s_is = record {
    size = ap length new_is ∙ length-set old g.0 s ∙ gathered.size;
    each = λ at less. by at less (g.0 == at) refl;
  }
    where
      by : (at : ℕ) → at < count → (b : Bool) → (g.0 == at) ≡ b → seen_slot (slice_index_or new at None) ≡ seen_all None (gs ++ g ∷ []) at
      by at less true e =
          let same : g.0 ≡ at = eqb-true g.0 at e in
          let less_too : g.0 < count = subst (λ n. n < count) (sym same) less in
          ap (λ k. seen_slot (slice_index_or new k None)) (sym same) ∙ ap (λ xs. seen_slot (slice_index_or xs g.0 None)) new_is ∙ ap seen_slot (get_or-set_same old g.0 s None lt) ∙ s_is
          ∙ ap (λ o. seen_more o g.1) (gathered.each g.0 less_too ∙ ap (seen_all None gs) same) ∙ sym (ap (λ b. if b then seen_more (seen_all None gs at) g.1 else seen_all None gs at) e) ∙ sym (seen_all_more None gs g at)
      by at less false e =
          let other : at ≢ g.0 = λ same. absurd (cc2 (eq-eqb g.0 at (sym same)) e) in
          ap (λ xs. seen_slot (slice_index_or xs at None)) new_is ∙ ap seen_slot (get_or-set_other old g.0 at s None other) ∙ gathered.each at less
          ∙ sym (ap (λ b. if b then seen_more (seen_all None gs at) g.1 else seen_all None gs at) e) ∙ sym (seen_all_more None gs g at)
        where
          cc2 : (g.0 == at) ≡ true → (g.0 == at) ≡ false → ⊥
          cc2 t f = absurd cc

  -- a number that no node has
  pub gathered_out : length old ≤ g.0 → AreGathered (gs ++ g ∷ []) count old
  gathered_out le = record { size = gathered.size; each = λ at less. by at less (g.0 == at) refl }
    where
      by : (at : ℕ) → at < count → (b : Bool) → (g.0 == at) ≡ b → seen_slot (slice_index_or old at None) ≡ seen_all None (gs ++ g ∷ []) at
      by at less true e = let same : g.0 ≡ at = eqb-true g.0 at e in absurd (omega (arith, same, less, le, gathered.size))
      by at less false e = gathered.each at less ∙ sym (ap (λ b. if b then seen_more (seen_all None gs at) g.1 else seen_all None gs at) e) ∙ sym (seen_all_more None gs g at)

-- ---- words that are the same

pub same_is : (kinds : (v w : Word) → kind_place v.kind ≡ kind_place w.kind → v.kind ≡ w.kind) (v w : Word) → same_word v w ≡ true → v ≡ w
same_is kinds v w e = split (eqb (kind_place v.kind) (kind_place w.kind)) refl (bytes_eq v.text w.text) refl e
  where
    split : (a : Bool) → eqb (kind_place v.kind) (kind_place w.kind) ≡ a → (b : Bool) → bytes_eq v.text w.text ≡ b → a && b ≡ true → v ≡ w
    split true ea true eb h =
        let k = kinds v w (eqb-true (kind_place v.kind) (kind_place w.kind) ea) in
        let t = (bytes_decides v.text w.text).0 eb in
        λ i. record { kind = k i; text = t i }
    split true ea false eb h = absurd cc
    split false ea b eb h = absurd cc

pub gathered_none : (count : ℕ) (slots : List Slot) → slots ≡ replicate count None → AreGathered [] count slots
gathered_none count slots none = record {
  size = ap length none ∙ length-replicate count None;
  each = λ at less. ap (λ xs. seen_slot (slice_index_or xs at None)) none ∙ ap seen_slot (get_or-replicate count at None None less);
}

-- ---- what all sightings say

pub same_self : (w : Word) → same_word w w ≡ true
same_self w = ap (λ b. b && bytes_eq w.text w.text) (eq-eqb (kind_place w.kind) (kind_place w.kind) refl) ∙ (bytes_decides w.text w.text).1 refl

kinds_same : (v w : Word) → kind_place v.kind ≡ kind_place w.kind → v.kind ≡ w.kind
kinds_same v w e = tag_one the_type tt v.kind w.kind e

pub word_same : (v w : Word) → same_word v w ≡ true → v ≡ w
word_same = same_is kinds_same

both_by : (v u w : Word) (b : Bool) → same_word v u ≡ b → (if b then Some v else None) ≡ Some w → (Some v ≡ Some w) × (Some u ≡ Some w)
both_by v u w true e h = (h, ap Some (sym (same_is kinds_same v u e)) ∙ h)
both_by v u w false e h = absurd cc

joined_to : (v u : Value) (w : Word) → joined v u ≡ Some w → (v ≡ Some w) × (u ≡ Some w)
joined_to None u w h = absurd cc
joined_to (Some v) None w h = absurd cc
joined_to (Some v) (Some u) w h = both_by v u w (same_word v u) refl h

joined_of : (v u : Value) (w : Word) → v ≡ Some w → u ≡ Some w → joined v u ≡ Some w
joined_of v u w e f = ap (λ x. joined x u) e ∙ ap (both w) f ∙ ap (λ b. if b then Some w else None) (same_self w)

abbrev pub AllAre : List Pair → ℕ → Word → Type 0
AllAre gs at w = (u : Value) → Among gs (at, u) → u ≡ Some w

first_are : (g : Pair) (gs : List Pair) (at : ℕ) (w : Word) → g.1 ≡ Some w → AllAre gs at w → AllAre (g ∷ gs) at w
first_are g gs at w first rest u (inl e) = sym (ap (λ p. p.1) e) ∙ first
first_are g gs at w first rest u (inr among) = rest u among

other_are : (g : Pair) (gs : List Pair) (at : ℕ) (w : Word) → eqb g.0 at ≡ false → AllAre gs at w → AllAre (g ∷ gs) at w
other_are g gs at w other rest u (inl e) = absurd (no (eq-eqb g.0 at (ap (λ p. p.0) e)) other)
  where
    no : eqb g.0 at ≡ true → eqb g.0 at ≡ false → ⊥
    no t f = absurd cc
other_are g gs at w other rest u (inr among) = rest u among

here_is : (g : Pair) (at : ℕ) → eqb g.0 at ≡ true → g ≡ (at, g.1)
here_is g at e = let same = eqb-true g.0 at e in λ i. (same i, g.1)

-- once a node was seen
kept : (v : Value) (gs : List Pair) (at : ℕ) (w : Word) → seen_all (Some v) gs at ≡ Some (Some w) → (v ≡ Some w) × AllAre gs at w
kept v [] at w e = (cc, λ u no. absurd no)
kept v (g ∷ gs) at w e = by (λ u. kept u gs at w) (eqb g.0 at) refl e
  where
    by : ((u : Value) → seen_all (Some u) gs at ≡ Some (Some w) → (u ≡ Some w) × AllAre gs at w) → (b : Bool) → eqb g.0 at ≡ b → seen_all (if b then Some (joined v g.1) else Some v) gs at ≡ Some (Some w) → (v ≡ Some w) × AllAre (g ∷ gs) at w
    by rest true same h =
        let r = rest (joined v g.1) h in
        let j = joined_to v g.1 w r.0 in
        (j.0, first_are g gs at w j.1 r.1)
    by rest false other h = let r = rest v h in (r.0, other_are g gs at w other r.1)

kept_of : (v : Value) (gs : List Pair) (at : ℕ) (w : Word) → v ≡ Some w → AllAre gs at w → seen_all (Some v) gs at ≡ Some (Some w)
kept_of v [] at w e all = ap Some e
kept_of v (g ∷ gs) at w e all = by (λ u is. kept_of u gs at w is (λ x among. all x (inr among))) (eqb g.0 at) refl
  where
    by : ((u : Value) → u ≡ Some w → seen_all (Some u) gs at ≡ Some (Some w)) → (b : Bool) → eqb g.0 at ≡ b → seen_all (if b then Some (joined v g.1) else Some v) gs at ≡ Some (Some w)
    by rest true same = rest (joined v g.1) (joined_of v g.1 w e (all g.1 (inl (here_is g at same))))
    by rest false other = rest v e

-- the sightings agree where the last slot says so
pub agree : (gs : List Pair) (at : ℕ) (w : Word) → seen_all None gs at ≡ Some (Some w) → Agrees gs at w
agree [] at w e = absurd cc
agree (g ∷ gs) at w e = by (agree gs at w) (eqb g.0 at) refl e
  where
    by : (seen_all None gs at ≡ Some (Some w) → Agrees gs at w) → (b : Bool) → eqb g.0 at ≡ b → seen_all (if b then Some g.1 else None) gs at ≡ Some (Some w) → Agrees (g ∷ gs) at w
    by rest true same h = let r = kept g.1 gs at w h in record { some = (g.1, inl (here_is g at same)); every = first_are g gs at w r.0 r.1 }
    by rest false other h = let r = rest h in record { some = (r.some.0, inr r.some.1); every = other_are g gs at w other r.every }

pub agree_of : (gs : List Pair) (at : ℕ) (w : Word) → Agrees gs at w → seen_all None gs at ≡ Some (Some w)
agree_of [] at w a = absurd a.some.1
agree_of (g ∷ gs) at w a = by (agree_of gs at w) (eqb g.0 at) refl
  where
    by : (Agrees gs at w → seen_all None gs at ≡ Some (Some w)) → (b : Bool) → eqb g.0 at ≡ b → seen_all (if b then Some g.1 else None) gs at ≡ Some (Some w)
    by rest true same = kept_of g.1 gs at w (a.every g.1 (inl (here_is g at same))) (λ u among. a.every u (inr among))
    by rest false other = rest (record { some = later a.some.0 a.some.1; every = λ u among. a.every u (inr among) })
      where
        later : (v : Value) → Among (g ∷ gs) (at, v) → (u : Value) × Among gs (at, u)
        later v (inl e) = absurd (no (eq-eqb g.0 at (ap (λ p. p.0) e)) other)
          where
            no : eqb g.0 at ≡ true → eqb g.0 at ≡ false → ⊥
            no t f = absurd cc
        later v (inr among) = (v, among)

-- ---- the list of what is known

increasing_push : (xs : List ℕ) (x : ℕ) → IsStrictlyIncreasing xs → ((i : ℕ) → i < length xs → slice_index xs i < x) → IsStrictlyIncreasing (xs ++ x ∷ [])
increasing_push xs x up below k lt =
    let size : length (xs ++ x ∷ []) ≡ length xs + 1 = length-append xs (x ∷ []) in
    elim (cases_lt (k + 1) (length xs)) [
      | inl in_front ↦
          let a : slice_index (xs ++ x ∷ []) k ≡ slice_index xs k = get_or_append_left xs (x ∷ []) 0 k (omega (arith, in_front)) in
          let b : slice_index (xs ++ x ∷ []) (k + 1) ≡ slice_index xs (k + 1) = get_or_append_left xs (x ∷ []) 0 (k + 1) in_front in
          let h = up k in_front in
          omega (arith, a, b, h)
      | inr last ↦
          let here : k < length xs = omega (arith, size, lt) in
          let end : k + 1 ≡ length xs = omega (arith, size, lt, last) in
          let a : slice_index (xs ++ x ∷ []) k ≡ slice_index xs k = get_or_append_left xs (x ∷ []) 0 k here in
          let b : slice_index (xs ++ x ∷ []) (k + 1) ≡ x = ap (slice_index (xs ++ x ∷ [])) end ∙ last_one xs x in
          let h = below k here in
          omega (arith, a, b, h)
    ]
  where
    last_one : (xs : List ℕ) (x : ℕ) → slice_index (xs ++ x ∷ []) (length xs) ≡ x
    last_one [] x = refl
    last_one (y ∷ ys) x = last_one ys x

pub sight_more : {X : Type 0} (f : X → Pair) (xs : List X) (i : ℕ) (d : X) (count : ℕ) (old new : List Slot) → i < length xs → AreGathered (map f (take i xs)) count old → AddsSighting old (f (get_or xs i d)) new → AreGathered (map f (take (i + 1) xs)) count new
sight_more f xs i d count old new lt so adds =
    subst (λ gs. AreGathered gs count new) (sym (ap (map f) (take_more xs i d lt) ∙ map-append f (take i xs) (get_or xs i d ∷ []))) (adds (map f (take i xs)) count so)

abbrev at_of : Known → ℕ
at_of k = k.at

known_by : (nodes : List Node) (gs : List Pair) (at : ℕ) (k : Known) (b : Bool) → is_name_there nodes at ≡ b → (slot : Option Value) → slot ≡ seen_all None gs at → Among (known_at b at slot) k ↔ ((k.at ≡ at) × (literal : Word) × (k.literal ≡ leaf literal) × (is_name_there nodes k.at ≡ true) × Agrees gs k.at literal)
known_by nodes gs at k b name None slot = (λ no. absurd no, λ h. nothing h.0 h.1 h.4)
  where
    nothing : k.at ≡ at → (literal : Word) → Agrees gs k.at literal → ⊥
    nothing same literal agrees = let e = agree_of gs k.at literal agrees in let f : None ≡ seen_all None gs k.at = slot ∙ ap (seen_all None gs) (sym same) in absurd cc
known_by nodes gs at k b name (Some None) slot = (λ no. absurd no, λ h. nothing h.0 h.1 h.4)
  where
    nothing : k.at ≡ at → (literal : Word) → Agrees gs k.at literal → ⊥
    nothing same literal agrees = let e = agree_of gs k.at literal agrees in let f : Some None ≡ seen_all None gs k.at = slot ∙ ap (seen_all None gs) (sym same) in absurd cc
known_by nodes gs at k false name (Some (Some w)) slot = (λ no. absurd no, λ h. nothing h.0 h.3)
  where
    nothing : k.at ≡ at → is_name_there nodes k.at ≡ true → ⊥
    nothing same is = let e = ap (is_name_there nodes) same in absurd cc
known_by nodes gs at k true name (Some (Some w)) slot = (there, λ h. here h.0 h.1 h.2 h.4)
  where
    one : Known
    one = record { at = at; literal = leaf w }

    said : (one ≡ k) → (k.at ≡ at) × (literal : Word) × (k.literal ≡ leaf literal) × (is_name_there nodes k.at ≡ true) × Agrees gs k.at literal
    said e =
        let same : k.at ≡ at = sym (ap (λ (x : Known). x.at) e) in
        (same, w, sym (ap (λ (x : Known). x.literal) e), ap (is_name_there nodes) same ∙ name, agree gs k.at w (ap (seen_all None gs) same ∙ sym slot))

    there : Among (one ∷ []) k → (k.at ≡ at) × (literal : Word) × (k.literal ≡ leaf literal) × (is_name_there nodes k.at ≡ true) × Agrees gs k.at literal
    there (inl e) = said e
    there (inr never) = absurd never

    here : k.at ≡ at → (literal : Word) → k.literal ≡ leaf literal → Agrees gs k.at literal → Among (one ∷ []) k
    here same literal is agrees =
        let e : seen_all None gs at ≡ Some (Some literal) = ap (seen_all None gs) (sym same) ∙ agree_of gs k.at literal agrees in
        let words : w ≡ literal = cc in
        inl (λ i. record { at = sym same i; literal = (ap leaf words ∙ sym is) i })

known_size : (b : Bool) (at : ℕ) (slot : Option Value) → (map at_of (known_at b at slot) ≡ []) ⊎ (map at_of (known_at b at slot) ≡ at ∷ [])
known_size b at None = inl refl
known_size b at (Some None) = inl refl
known_size true at (Some (Some w)) = inr refl
known_size false at (Some (Some w)) = inl refl

all_below : (known : List Known) (at : ℕ) → ((k : Known) → Among known k → k.at < at) → (i : ℕ) → i < length (map at_of known) → slice_index (map at_of known) i < at
all_below [] at below i lt = absurd (omega (arith, lt))
all_below (k ∷ ks) at below zero lt = below k (inl refl)
all_below (k ∷ ks) at below (suc i) lt = all_below ks at (λ j among. below j (inr among)) i (omega (arith, lt))

-- nothing is known of no nodes
pub settled_none : (nodes : List Node) (gs : List Pair) (known : List Known) → known ≡ [] → AreSettled nodes gs 0 known
settled_none nodes gs known none = record {
  in_order = subst (λ (ks : List Known). IsStrictlyIncreasing (map at_of ks)) (sym none) (λ k lt. absurd (omega (arith, lt)));
  exact = λ k. (λ among. absurd (subst (λ ks. Among ks k) none among), λ h. absurd (omega (arith, h.0)));
}

module _ (nodes : List Node) (gs : List Pair) (at : ℕ) (known : List Known) (so : AreSettled nodes gs at known) (slot : Option Value) (slot_is : slot ≡ seen_all None gs at) where
  tail : (k : Known) → Among (known_at (is_name_there nodes at) at slot) k ↔ ((k.at ≡ at) × (literal : Word) × (k.literal ≡ leaf literal) × (is_name_there nodes k.at ≡ true) × Agrees gs k.at literal)
  tail k = known_by nodes gs at k (is_name_there nodes at) refl slot slot_is

  -- one node more
  pub settled_more : (new : List Known) → new ≡ known ++ known_at (is_name_there nodes at) at slot → AreSettled nodes gs (at + 1) new
  settled_more new new_is = record {
    in_order = subst (λ (ks : List Known). IsStrictlyIncreasing (map at_of ks)) (sym new_is) (subst IsStrictlyIncreasing (sym (map-append at_of known (known_at (is_name_there nodes at) at slot))) (ordered (known_size (is_name_there nodes at) at slot)));
    exact = λ k. (λ among. forth k ((among_app known (known_at (is_name_there nodes at) at slot) k).0 (subst (λ ks. Among ks k) new_is among)), λ h. subst (λ ks. Among ks k) (sym new_is) ((among_app known (known_at (is_name_there nodes at) at slot) k).1 (back k h)));
  }
    where
      ordered : (map at_of (known_at (is_name_there nodes at) at slot) ≡ []) ⊎ (map at_of (known_at (is_name_there nodes at) at slot) ≡ at ∷ []) → IsStrictlyIncreasing (map at_of known ++ map at_of (known_at (is_name_there nodes at) at slot))
      ordered (inl none) = subst (λ xs. IsStrictlyIncreasing (map at_of known ++ xs)) (sym none) (subst IsStrictlyIncreasing (sym (append-nil (map at_of known))) so.in_order)
      ordered (inr one) = subst (λ xs. IsStrictlyIncreasing (map at_of known ++ xs)) (sym one) (increasing_push (map at_of known) at so.in_order (all_below known at (λ k among. ((so.exact k).0 among).0)))

      forth : (k : Known) → Among known k ⊎ Among (known_at (is_name_there nodes at) at slot) k → (k.at < at + 1) × (literal : Word) × (k.literal ≡ leaf literal) × (is_name_there nodes k.at ≡ true) × Agrees gs k.at literal
      forth k (inl among) = let h = (so.exact k).0 among in (omega (arith, h.0), h.1, h.2, h.3, h.4)
      forth k (inr among) = let h = (tail k).0 among in (omega (arith, h.0), h.1, h.2, h.3, h.4)

      back : (k : Known) → ((k.at < at + 1) × (literal : Word) × (k.literal ≡ leaf literal) × (is_name_there nodes k.at ≡ true) × Agrees gs k.at literal) → Among known k ⊎ Among (known_at (is_name_there nodes at) at slot) k
      back k h =
          elim (cases_lt k.at at) [
            | inl below ↦ inl ((so.exact k).1 (below, h.1, h.2, h.3, h.4))
            | inr le ↦ let same : k.at ≡ at = omega (arith, h.0, le) in inr ((tail k).1 (same, h.1, h.2, h.3, h.4))
          ]
