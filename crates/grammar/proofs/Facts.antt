-- Facts of truth values, of numbers and of sets of classes.
use Rattle.std.proofs.Common.{◌≡◌, ℕ, ◌<◌, ◌≤◌, List, [], ◌∷◌, ◌++◌, refl, ap, arith, inl, inr}
use Rattle.std.specs.Prelude.{Bool, true, false, cond, ◌||◌, ◌&&◌, not, Option, Some, None, ◌⊎◌, eqb, ltb}
use Rattle.grammar.specs.Rule.{has}
use Rattle.grammar.specs.Reader.{◌>>=◌}
use Rattle.grammar.specs.Check.{each, apart, within_set}

pub true_false : {P : Type 0} (b : Bool) → b ≡ true → b ≡ false → P
true_false b h k = cc

pub decide : (b : Bool) → (b ≡ true) ⊎ (b ≡ false)
decide true = inl refl
decide false = inr refl

pub and_true : (a b : Bool) → a ≡ true → b ≡ true → (a && b) ≡ true
and_true a b h k = grind arith

pub and_both : (a b : Bool) → (a && b) ≡ true → (a ≡ true) × (b ≡ true)
and_both true b h = (refl, h)
and_both false b h = cc

pub not_both : (u v : Bool) → (u ≡ true → v ≡ false) → (u && v) ≡ false
not_both true v h = h refl
not_both false v h = refl

pub and_second : (u v : Bool) → (u && v) ≡ false → u ≡ true → v ≡ false
and_second true v h k = h
and_second false v h k = cc

pub not_true : (a : Bool) → not a ≡ true → a ≡ false
not_true true h = cc
not_true false h = refl

pub or_either : (a b : Bool) → (a || b) ≡ true → (a ≡ true) ⊎ (b ≡ true)
or_either true b h = inl refl
or_either false b h = inr h

pub or_left : (a b : Bool) → a ≡ true → (a || b) ≡ true
or_left a b h = grind arith

pub or_right : (a b : Bool) → b ≡ true → (a || b) ≡ true
or_right true b h = refl
or_right false b h = h

pub implied : (u v : Bool) → (not u || v) ≡ true → u ≡ true → v ≡ true
implied true v h k = h
implied false v h k = cc

pub ltb_true : (a b : ℕ) → ltb a b ≡ true → a < b
ltb_true a b h = grind arith

pub ltb_less : (a b : ℕ) → a < b → ltb a b ≡ true
ltb_less a b h = grind arith

pub ltb_same : (a b : ℕ) → a ≡ b → ltb a b ≡ false
ltb_same a b h = grind arith

pub less_or_same : (i k : ℕ) → i ≤ k → (i < k) ⊎ (i ≡ k)
less_or_same i k h = grind arith

pub same_number : (d c : ℕ) → eqb d c ≡ true → d ≡ c
same_number d c h = grind arith

-- a step that gave something
pub bind_some : {A B : Type 0} (r : Option A) (f : A → Option B) (y : B) → (r >>= f) ≡ Some y → (x : A) × (r ≡ Some x) × (f x ≡ Some y)
bind_some None f y h = cc
bind_some (Some x) f y h = (x, refl, h)

-- which way a test went
pub chosen : {A : Type 0} (b : Bool) (x y z : A) → cond b x y ≡ z → ((b ≡ true) × (x ≡ z)) ⊎ ((b ≡ false) × (y ≡ z))
chosen true x y z h = inl (refl, h)
chosen false x y z h = inr (refl, h)

pub none_some : {A : Type 0} (x : A) → None ≡ Some x → ⊥
none_some x h = cc

pub no_some : {A P : Type 0} (x : A) → None ≡ Some x → P
no_some x h = absurd (none_some x h)

pub some_pair : {A : Type 0} (x y : A) (i j : ℕ) → ◌≡◌ {A = Option (A × ℕ)} (Some (x, i)) (Some (y, j)) → (x ≡ y) × (i ≡ j)
some_pair x y i j h = (ap (λ p. p.0) (same h), ap (λ p. p.1) (same h))
  where
    same : {B : Type 0} {a b : B} → Some a ≡ Some b → a ≡ b
    same e = cc

-- sets of classes
pub has_append : (cs ds : List ℕ) (c : ℕ) → has (cs ++ ds) c ≡ (has cs c || has ds c)
has_append [] ds c = refl
has_append (x ∷ cs) ds c = grind (arith, has_append cs ds c)

pub has_left : (cs ds : List ℕ) (c : ℕ) → has cs c ≡ true → has (cs ++ ds) c ≡ true
has_left cs ds c h = rw (has_append cs ds c) (grind (arith, h))

pub has_right : (cs ds : List ℕ) (c : ℕ) → has ds c ≡ true → has (cs ++ ds) c ≡ true
has_right cs ds c h = rw (has_append cs ds c) (grind (arith, h))

pub lacks_left : (cs ds : List ℕ) (c : ℕ) → has (cs ++ ds) c ≡ false → has cs c ≡ false
lacks_left cs ds c h = let e : has (cs ++ ds) c ≡ (has cs c || has ds c) = has_append cs ds c in grind (arith, e, h)

pub lacks_right : (cs ds : List ℕ) (c : ℕ) → has (cs ++ ds) c ≡ false → has ds c ≡ false
lacks_right cs ds c h = let e : has (cs ++ ds) c ≡ (has cs c || has ds c) = has_append cs ds c in grind (arith, e, h)

pub has_head : (c : ℕ) (cs : List ℕ) (x : ℕ) → x ≡ c → has (c ∷ cs) x ≡ true
has_head c cs x h = grind arith

-- the part that can only be empty adds the sets before it
pub skip : (e : Bool) (f f' : List ℕ) (c : ℕ) → e ≡ true → has f' c ≡ true → has (f ++ cond e f' []) c ≡ true
skip e f f' c h k = rw h (has_right f f' c k)

pub lacks_skip : (e : Bool) (f f' : List ℕ) (c : ℕ) → e ≡ true → has (f ++ cond e f' []) c ≡ false → has f' c ≡ false
lacks_skip e f f' c h k = lacks_right f f' c (rw h at k)

-- the two sets have no class in common
abbrev pub Apart : List ℕ → List ℕ → Type 0
Apart cs ds = (c : ℕ) → has ds c ≡ true → has cs c ≡ false

abbrev pub Within : List ℕ → List ℕ → Type 0
Within cs ds = (c : ℕ) → has cs c ≡ true → has ds c ≡ true

pub each_at : (p : ℕ → Bool) (cs : List ℕ) → each p cs ≡ true → (c : ℕ) → has cs c ≡ true → p c ≡ true
each_at p [] h c k = cc
each_at p (d ∷ cs) h c k = let b : _ = and_both (p d) (each p cs) h in
    elim (or_either (eqb d c) (has cs c) k) [ inl e ↦ rw (same_number d c e) at b.0 | inr m ↦ each_at p cs b.1 c m ]

pub apart_holds : (cs ds : List ℕ) → apart cs ds ≡ true → Apart cs ds
apart_holds cs ds h c k = not_true (has cs c) (each_at (λ d. not (has cs d)) ds h c k)

pub within_holds : (cs ds : List ℕ) → within_set cs ds ≡ true → Within cs ds
within_holds cs ds h c k = each_at (λ d. has ds d) cs h c k
