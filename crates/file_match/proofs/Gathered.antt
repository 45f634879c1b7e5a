-- The places of the words that a pattern needs, as they are gathered.
use Rattle.std.proofs.Common.{◌≡◌, ◌⊎◌, inl, inr, ◌↔◌, ℕ, zero, suc, ◌+◌, ◌<◌, ◌≤◌, List, [], ◌∷◌, ◌++◌, length, arith, refl, sym, ap, ◌∙◌, subst, drop}
use Rattle.std.specs.Prelude.{Bool, true, false, not, ◌&&◌, Some}
use Rattle.std.specs.List.{slice_get}
use Rattle.node_tree.specs.declared.node.Node.{Node}
use Rattle.node_tree.specs.Kinds.{is_literal}
use Rattle.node_tree.specs.Tree.{kind_of, kids_of}
use Rattle.node_match.specs.declared.class.Role.TheVariants as roles
use Rattle.node_match.specs.Free.{Part, parts_of, IsTextFree}
use Rattle.node_match.specs.Kinds.{role_of}
use Rattle.node_match.specs.Sets.{Among, Adds}
use Rattle.node_match.proofs.Sets.{adds_as, adds_two, pushed, gathered, gathered_all}
use Rattle.file_match.specs.Words.{Word, word_of, place_of, Needs, own, below, inside, PartNeeds, PlaceIn, NeedsOwn, NeedsBelow, NeedsAt}

-- ---- places of sets

pub place_in : (P Q : Word → Type 0) → ((w : Word) → P w ↔ Q w) → (i : ℕ) → PlaceIn P i ↔ PlaceIn Q i
place_in P Q same i = (λ (w, h, e). (w, (same w).0 h, e), λ (w, h, e). (w, (same w).1 h, e))

place_two : (P Q R : Word → Type 0) → ((w : Word) → (P w ⊎ Q w) ↔ R w) → (i : ℕ) → (PlaceIn P i ⊎ PlaceIn Q i) ↔ PlaceIn R i
place_two P Q R both i = (
  λ h. elim h [ inl (w, x, e) ↦ (w, (both w).0 (inl x), e) | inr (w, y, e) ↦ (w, (both w).0 (inr y), e) ],
  λ (w, x, e). elim ((both w).1 x) [ inl y ↦ inl (w, y, e) | inr z ↦ inr (w, z, e) ],
)

-- the places of a set, and then those of another
pub places_two : (old mid new : List ℕ) (P Q R : Word → Type 0) → ((w : Word) → (P w ⊎ Q w) ↔ R w) → Adds old mid (PlaceIn P) → Adds mid new (PlaceIn Q) → Adds old new (PlaceIn R)
places_two old mid new P Q R both one two = adds_as old new (λ i. PlaceIn P i ⊎ PlaceIn Q i) (PlaceIn R) (adds_two old mid new (PlaceIn P) (PlaceIn Q) one two) (place_two P Q R both)

pub places_as : (old new : List ℕ) (P Q : Word → Type 0) → ((w : Word) → P w ↔ Q w) → Adds old new (PlaceIn P) → Adds old new (PlaceIn Q)
places_as old new P Q same one = adds_as old new (PlaceIn P) (PlaceIn Q) one (place_in P Q same)

-- ---- what a pattern node needs, by its role

module _ (fixed : Bool) where
  plain_back : (p : Node) (w : Word) → Needs fixed p w → role_of (kind_of p) ≡ roles.Plain → NeedsOwn fixed p w ⊎ NeedsBelow fixed p w
  plain_back p _ (own r text literal) role = inl (text, literal, refl)
  plain_back p w (below {q = q} r literal a x) role = inr (literal, (q, a, x))
  plain_back p w (inside r e x) role = absurd (let e : roles.Deep ≡ roles.Plain = sym r ∙ role in cc)

  -- a plain one needs its own word and those of its parts
  pub plain_needs : (p : Node) → role_of (kind_of p) ≡ roles.Plain → (w : Word) → (NeedsOwn fixed p w ⊎ NeedsBelow fixed p w) ↔ Needs fixed p w
  plain_needs p role w =
      let P : Word → Type 0 = Needs fixed p in (
        λ h. elim h [ inl (text, literal, e) ↦ subst P e (own role text literal) | inr (literal, (q, a, x)) ↦ below role literal a x ],
        λ n. plain_back p w n role,
      )

  deep_back : (p q : Node) (w : Word) → Needs fixed p w → role_of (kind_of p) ≡ roles.Deep → kids_of p ≡ q ∷ [] → Needs fixed q w
  deep_back p q _ (own r text literal) role one = absurd (let e : roles.Plain ≡ roles.Deep = sym r ∙ role in cc)
  deep_back p q w (below r literal a x) role one = absurd (let e : roles.Plain ≡ roles.Deep = sym r ∙ role in cc)
  deep_back p q w (inside {q = k} r e x) role one =
      let is : k ≡ q = (let f = sym e ∙ one in cc) in
      let P : Node → Type 0 = λ z. Needs fixed z w in
      subst P is x

  -- a deep one needs what stands inside it
  pub deep_needs : (p q : Node) → role_of (kind_of p) ≡ roles.Deep → kids_of p ≡ q ∷ [] → (w : Word) → Needs fixed q w ↔ Needs fixed p w
  deep_needs p q role one w = (λ n. inside role one n, λ n. deep_back p q w n role one)

-- ---- its own word

pub own_needs : (fixed : Bool) (p : Node) → (IsTextFree p → ⊥) → (not fixed && is_literal (kind_of p)) ≡ false → NeedsOwn fixed p (word_of p)
own_needs fixed p text literal = (text, by fixed (is_literal (kind_of p)) literal, refl)
  where
    by : (f l : Bool) → (not f && l) ≡ false → l ≡ true → f ≡ true
    by true l stands is = refl
    by false true stands is = absurd (let f : true ≡ false = stands in cc)
    by false false stands is = absurd (let f : false ≡ true = is in cc)

pub own_place : (fixed : Bool) (p : Node) (old new : List ℕ) (place : ℕ) → new ≡ old ++ place ∷ [] → place ≡ place_of (word_of p) → NeedsOwn fixed p (word_of p) → Adds old new (PlaceIn (NeedsOwn fixed p))
own_place fixed p old new place e is needs =
    adds_as old new (λ i. place ≡ i) (PlaceIn (NeedsOwn fixed p)) (pushed old new place e) (λ i. (
      λ f. (word_of p, needs, sym f ∙ is),
      λ (w, h, at). is ∙ ap place_of h.2 ∙ sym at,
    ))

-- ---- part by part

-- one of these parts needs the word
abbrev pub Need : Bool → List Part → Word → Type 0
Need fixed ps w = (q : Node) × Among ps (Some q) × Needs fixed q w

drop_none : (k : ℕ) → drop {A = Part} k [] ≡ []
drop_none zero = refl
drop_none (suc k) = refl

got_here : (ps rest : List Part) (at : ℕ) (q : Part) → drop at ps ≡ q ∷ rest → slice_get ps at ≡ Some q
got_here [] rest at q e = absurd (let f : [] ≡ q ∷ rest = sym (drop_none at) ∙ e in cc)
got_here (p ∷ ps) rest zero q e = cc
got_here (p ∷ ps) rest (suc at) q e = got_here ps rest at q e

part_there : (ps : List Part) (at : ℕ) → at < length ps → (h : Part) × (drop at ps ≡ h ∷ drop (at + 1) ps)
part_there [] at lt = absurd (omega arith)
part_there (p ∷ ps) zero lt = (p, refl)
part_there (p ∷ ps) (suc at) lt = let (h, e) = part_there ps at (omega arith) in (h, e ∙ ap (λ (k : ℕ). h ∷ drop k (p ∷ ps)) (let f : suc (at + 1) ≡ suc at + 1 = omega arith in f))

drop_past : (ps : List Part) (at : ℕ) → length ps ≤ at → drop at ps ≡ []
drop_past [] zero le = refl
drop_past [] (suc at) le = refl
drop_past (p ∷ ps) zero le = absurd (omega arith)
drop_past (p ∷ ps) (suc at) le = drop_past ps at (omega arith)

-- the part at a place that asks
pub asked_needs : (fixed : Bool) (p q : Node) (at : ℕ) (rest : List Part) → drop at (parts_of p) ≡ Some q ∷ rest → (w : Word) → Needs fixed q w ↔ NeedsAt fixed p at w
asked_needs fixed p q at rest e w =
    let here = got_here (parts_of p) rest at (Some q) e in (
      λ n. (q, here, n),
      λ (k, is, n). let same : k ≡ q = (let f = sym is ∙ here in cc) in let P : Node → Type 0 = λ z. Needs fixed z w in subst P same n,
    )

-- the parts from a place on
module _ (fixed : Bool) (p : Node) (at : ℕ) where
  parts_split : (h : Part) (rest : List Part) → drop at (parts_of p) ≡ h ∷ rest → (w : Word) → (NeedsAt fixed p at w ⊎ Need fixed rest w) ↔ Need fixed (drop at (parts_of p)) w
  parts_split h rest e w =
      let here = got_here (parts_of p) rest at h e in
      let In : Node → List Part → Type 0 = λ q ps. Among ps (Some q) in (
        λ x. elim x [
          | inl (q, is, n) ↦ (q, subst (In q) (sym e) (inl (let f = sym here ∙ is in cc)), n)
          | inr (q, b, n) ↦ (q, subst (In q) (sym e) (inr b), n)
        ],
        λ (q, a, n). elim (subst (In q) e a) [ inl is ↦ inl (q, (let f = here in cc), n) | inr b ↦ inr (q, b, n) ],
      )

  pub parts_on : (old mid new : List ℕ) → at < length (parts_of p) → ((i : ℕ) → (Among mid i ⊎ PlaceIn (Need fixed (drop at (parts_of p))) i) ↔ (Among old i ⊎ PlaceIn (PartNeeds fixed p) i)) → Adds mid new (PlaceIn (NeedsAt fixed p at))
      → (i : ℕ) → (Among new i ⊎ PlaceIn (Need fixed (drop (at + 1) (parts_of p))) i) ↔ (Among old i ⊎ PlaceIn (PartNeeds fixed p) i)
  parts_on old mid new less far more i =
      let (h, e) = part_there (parts_of p) at less in
      let rest = drop (at + 1) (parts_of p) in
      let split = place_two (NeedsAt fixed p at) (Need fixed rest) (Need fixed (drop at (parts_of p))) (parts_split h rest e) i in
      gathered (Among mid i) (Among new i) (PlaceIn (NeedsAt fixed p at) i) (PlaceIn (Need fixed (drop at (parts_of p))) i) (PlaceIn (Need fixed rest) i) (Among old i ⊎ PlaceIn (PartNeeds fixed p) i) (more i) (split.1, split.0) (far i)

  pub parts_end : (old new : List ℕ) → length (parts_of p) ≤ at → ((i : ℕ) → (Among new i ⊎ PlaceIn (Need fixed (drop at (parts_of p))) i) ↔ (Among old i ⊎ PlaceIn (PartNeeds fixed p) i)) → Adds old new (PlaceIn (PartNeeds fixed p))
  parts_end old new past far i =
      let none : PlaceIn (Need fixed (drop at (parts_of p))) i → ⊥ = λ (w, (q, a, n), is). (let P : List Part → Type 0 = λ ps. Among ps (Some q) in subst P (drop_past (parts_of p) at past) a) in
      gathered_all (Among new i) (PlaceIn (Need fixed (drop at (parts_of p))) i) (Among old i ⊎ PlaceIn (PartNeeds fixed p) i) none (far i)
