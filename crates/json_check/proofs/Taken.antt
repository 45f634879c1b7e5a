-- What a move tells of the token.
use Rattle.std.proofs.Common.{◌≡◌, ℕ, ◌+◌, ◌-◌, ◌≤◌, Bool, true, false, ◌⊎◌, inl, inr, List, [], ◌∷◌, refl, sym, ap, ◌∙◌, arith}
use Rattle.std.specs.Prelude.{leb, cond, Option, Some, None}
use Rattle.grammar.specs.Rule.{has}
use Rattle.json_tree.specs.declared.token.Word.{Word}
use Rattle.json_tree.specs.declared.token.Word.TheVariants as w
use Rattle.json_tree.specs.Words.{class}
use Rattle.json_tree.specs.Table.{scalars}
use Rattle.json_check.specs.declared.nest.Container.{Container}
use Rattle.json_check.specs.declared.nest.Container.TheVariants.{Array, Object}
use Rattle.json_check.specs.declared.nest.Next.TheVariants.{Value, ItemOrEnd, NameOrEnd, Name, Colon, CommaOrEnd}
use Rattle.json_check.specs.declared.nest.Move.{Move}
use Rattle.json_check.specs.declared.nest.Move.TheVariants.{Stop, Go, Open, Close}
use Rattle.json_check.specs.fronts.Moves.{Standing, value_move, name_move, within, moved, first_in, steps_in, behind_token}
use Rattle.json_check.proofs.Runs.{at, next_in}
use Rattle.json_check.proofs.Accepts.{right_of}

is_some : {X : Type 0} (x y : X) → Some x ≡ Some y → y ≡ x
is_some x y e = cc

-- only what stands in the depth is taken
in_depth : (s u : Standing) (d : ℕ) (m : Move) → moved s (within d m) ≡ Some u → (d ≤ 499) × (moved s m ≡ Some u)
in_depth s u d m h = by_test (leb d 499) refl
  where
    leb_is : (d : ℕ) → leb d 499 ≡ true → d ≤ 499
    leb_is d h = grind arith

    by_test : (b : Bool) → leb d 499 ≡ b → (d ≤ 499) × (moved s m ≡ Some u)
    by_test true e = (leb_is d e, ap (λ (b : Bool). moved s (cond b m Stop)) (sym e) ∙ h)
    by_test false e = let k : None ≡ Some u = ap (λ (b : Bool). moved s (cond b m Stop)) (sym e) ∙ h in absurd cc

-- what begins a value
abbrev pub Valued : List Container → ℕ → Word → Standing → Type 0
Valued o d x u = ((has scalars (class x) ≡ true) × (u ≡ at CommaOrEnd o d)) ⊎ (((x ≡ w.LeftBracket) × (u ≡ at ItemOrEnd (Array ∷ o) (d + 1))) ⊎ ((x ≡ w.LeftBrace) × (u ≡ at NameOrEnd (Object ∷ o) (d + 2))))

valued : (o : List Container) (d : ℕ) (x : Word) (u : Standing) → moved (at Value o d) (value_move x) ≡ Some u → Valued o d x u
unfolding class
valued o d w.End u h = absurd cc
valued o d w.LeftBrace u h = inr (inr (refl, is_some _ u h))
valued o d w.RightBrace u h = absurd cc
valued o d w.LeftBracket u h = inr (inl (refl, is_some _ u h))
valued o d w.RightBracket u h = absurd cc
valued o d w.Comma u h = absurd cc
valued o d w.Colon u h = absurd cc
valued o d w.Str u h = inl (refl, is_some _ u h)
valued o d w.Number u h = inl (refl, is_some _ u h)
valued o d w.Const u h = inl (refl, is_some _ u h)
valued o d w.StrAny u h = absurd cc
valued o d w.Meta u h = absurd cc
valued o d w.MetaDots u h = absurd cc
valued o d w.Dots u h = absurd cc
valued o d w.DeepOpen u h = absurd cc
valued o d w.DeepClose u h = absurd cc

pub value_taken : (o : List Container) (d : ℕ) (x : Word) (u : Standing) → moved (at Value o d) (within d (value_move x)) ≡ Some u → (d ≤ 499) × Valued o d x u
value_taken o d x u h = let p = in_depth (at Value o d) u d (value_move x) h in (p.0, valued o d x u p.1)

named : (o : List Container) (d : ℕ) (x : Word) (u : Standing) → moved (at Name o d) (name_move x) ≡ Some u → (x ≡ w.Str) × (u ≡ at Colon o d)
named o d w.End u h = absurd cc
named o d w.LeftBrace u h = absurd cc
named o d w.RightBrace u h = absurd cc
named o d w.LeftBracket u h = absurd cc
named o d w.RightBracket u h = absurd cc
named o d w.Comma u h = absurd cc
named o d w.Colon u h = absurd cc
named o d w.Str u h = (refl, is_some _ u h)
named o d w.Number u h = absurd cc
named o d w.Const u h = absurd cc
named o d w.StrAny u h = absurd cc
named o d w.Meta u h = absurd cc
named o d w.MetaDots u h = absurd cc
named o d w.Dots u h = absurd cc
named o d w.DeepOpen u h = absurd cc
named o d w.DeepClose u h = absurd cc

pub name_taken : (o : List Container) (d : ℕ) (x : Word) (u : Standing) → moved (at Name o d) (within d (name_move x)) ≡ Some u → (d ≤ 499) × ((x ≡ w.Str) × (u ≡ at Colon o d))
name_taken o d x u h = let p = in_depth (at Name o d) u d (name_move x) h in (p.0, named o d x u p.1)

pub colon_taken : (o : List Container) (d : ℕ) (x : Word) (u : Standing) → behind_token (at Colon o d) x ≡ Some u → (x ≡ w.Colon) × (u ≡ at Value o d)
colon_taken o d w.End u h = absurd cc
colon_taken o d w.LeftBrace u h = absurd cc
colon_taken o d w.RightBrace u h = absurd cc
colon_taken o d w.LeftBracket u h = absurd cc
colon_taken o d w.RightBracket u h = absurd cc
colon_taken o d w.Comma u h = absurd cc
colon_taken o d w.Colon u h = (refl, is_some _ u h)
colon_taken o d w.Str u h = absurd cc
colon_taken o d w.Number u h = absurd cc
colon_taken o d w.Const u h = absurd cc
colon_taken o d w.StrAny u h = absurd cc
colon_taken o d w.Meta u h = absurd cc
colon_taken o d w.MetaDots u h = absurd cc
colon_taken o d w.Dots u h = absurd cc
colon_taken o d w.DeepOpen u h = absurd cc
colon_taken o d w.DeepClose u h = absurd cc

-- a part of a container begins
abbrev pub Begins : Container → List Container → ℕ → Word → Standing → Type 0
Begins Array o d x u = moved (at Value o d) (within d (value_move x)) ≡ Some u
Begins Object o d x u = moved (at Name o d) (within d (name_move x)) ≡ Some u

abbrev pub Closes : Container → List Container → ℕ → Word → Standing → Type 0
Closes c o d x u = (x ≡ right_of c) × (u ≡ at CommaOrEnd o (d - steps_in c))

pub next_taken : (c : Container) (o : List Container) (d : ℕ) (x : Word) (u : Standing) → behind_token (at (next_in c) o d) x ≡ Some u → Begins c o d x u
next_taken Array o d x u h = h
next_taken Object o d x u h = h

pub first_taken : (c : Container) (o : List Container) (d : ℕ) (x : Word) (u : Standing) → behind_token (at (first_in c) (c ∷ o) d) x ≡ Some u → Closes c o d x u ⊎ Begins c (c ∷ o) d x u
first_taken Array o d w.End u h = inr h
first_taken Array o d w.LeftBrace u h = inr h
first_taken Array o d w.RightBrace u h = inr h
first_taken Array o d w.LeftBracket u h = inr h
first_taken Array o d w.RightBracket u h = inl (refl, is_some _ u h)
first_taken Array o d w.Comma u h = inr h
first_taken Array o d w.Colon u h = inr h
first_taken Array o d w.Str u h = inr h
first_taken Array o d w.Number u h = inr h
first_taken Array o d w.Const u h = inr h
first_taken Array o d w.StrAny u h = inr h
first_taken Array o d w.Meta u h = inr h
first_taken Array o d w.MetaDots u h = inr h
first_taken Array o d w.Dots u h = inr h
first_taken Array o d w.DeepOpen u h = inr h
first_taken Array o d w.DeepClose u h = inr h
first_taken Object o d w.End u h = inr h
first_taken Object o d w.LeftBrace u h = inr h
first_taken Object o d w.RightBrace u h = inl (refl, is_some _ u h)
first_taken Object o d w.LeftBracket u h = inr h
first_taken Object o d w.RightBracket u h = inr h
first_taken Object o d w.Comma u h = inr h
first_taken Object o d w.Colon u h = inr h
first_taken Object o d w.Str u h = inr h
first_taken Object o d w.Number u h = inr h
first_taken Object o d w.Const u h = inr h
first_taken Object o d w.StrAny u h = inr h
first_taken Object o d w.Meta u h = inr h
first_taken Object o d w.MetaDots u h = inr h
first_taken Object o d w.Dots u h = inr h
first_taken Object o d w.DeepOpen u h = inr h
first_taken Object o d w.DeepClose u h = inr h

pub comma_taken : (c : Container) (o : List Container) (d : ℕ) (x : Word) (u : Standing) → behind_token (at CommaOrEnd (c ∷ o) d) x ≡ Some u → Closes c o d x u ⊎ ((x ≡ w.Comma) × (u ≡ at (next_in c) (c ∷ o) d))
comma_taken Array o d w.End u h = absurd cc
comma_taken Array o d w.LeftBrace u h = absurd cc
comma_taken Array o d w.RightBrace u h = absurd cc
comma_taken Array o d w.LeftBracket u h = absurd cc
comma_taken Array o d w.RightBracket u h = inl (refl, is_some _ u h)
comma_taken Array o d w.Comma u h = inr (refl, is_some _ u h)
comma_taken Array o d w.Colon u h = absurd cc
comma_taken Array o d w.Str u h = absurd cc
comma_taken Array o d w.Number u h = absurd cc
comma_taken Array o d w.Const u h = absurd cc
comma_taken Array o d w.StrAny u h = absurd cc
comma_taken Array o d w.Meta u h = absurd cc
comma_taken Array o d w.MetaDots u h = absurd cc
comma_taken Array o d w.Dots u h = absurd cc
comma_taken Array o d w.DeepOpen u h = absurd cc
comma_taken Array o d w.DeepClose u h = absurd cc
comma_taken Object o d w.End u h = absurd cc
comma_taken Object o d w.LeftBrace u h = absurd cc
comma_taken Object o d w.RightBrace u h = inl (refl, is_some _ u h)
comma_taken Object o d w.LeftBracket u h = absurd cc
comma_taken Object o d w.RightBracket u h = absurd cc
comma_taken Object o d w.Comma u h = inr (refl, is_some _ u h)
comma_taken Object o d w.Colon u h = absurd cc
comma_taken Object o d w.Str u h = absurd cc
comma_taken Object o d w.Number u h = absurd cc
comma_taken Object o d w.Const u h = absurd cc
comma_taken Object o d w.StrAny u h = absurd cc
comma_taken Object o d w.Meta u h = absurd cc
comma_taken Object o d w.MetaDots u h = absurd cc
comma_taken Object o d w.Dots u h = absurd cc
comma_taken Object o d w.DeepOpen u h = absurd cc
comma_taken Object o d w.DeepClose u h = absurd cc
