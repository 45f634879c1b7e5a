-- What tokens do, one after the other.
use Rattle.std.proofs.Common.{◌≡◌, ℕ, suc, ◌+◌, ◌-◌, ◌<◌, ◌≤◌, Bool, true, false, List, [], ◌∷◌, refl, sym, ap, ◌∙◌, subst, arith, eqb-true}
use Rattle.std.specs.Prelude.{leb, cond, ◌||◌, eqb, get_or, Option, Some, None}
use Rattle.grammar.specs.Rule.{has}
use Rattle.json_tree.specs.declared.token.Word.{Word}
use Rattle.json_tree.specs.declared.token.Word.TheVariants as w
use Rattle.json_tree.specs.declared.token.Token.{Token}
use Rattle.json_tree.specs.Words.{class, number_of}
use Rattle.json_tree.specs.Table.{scalars, names, dots}
use Rattle.json_tree.specs.Build.{token_at}
use Rattle.json_check.specs.declared.nest.Container.{Container}
use Rattle.json_check.specs.declared.nest.Container.TheVariants.{Array, Object}
use Rattle.json_check.specs.declared.nest.Next.{Next}
use Rattle.json_check.specs.declared.nest.Next.TheVariants.{Value, ItemOrEnd, NameOrEnd, Name, Colon, CommaOrEnd}
use Rattle.json_check.specs.declared.nest.Move.{Move}
use Rattle.json_check.specs.declared.nest.Move.TheVariants.{Stop, Go, Open, Close}
use Rattle.json_check.specs.fronts.Moves.{Standing, value_move, name_move, within, move_of, innermost, moved, opened, first_in, steps_in, behind_token}

abbrev pub at : Next → List Container → ℕ → Standing
at n o d = record { next = n; around = o; depth = d }

abbrev pub word_at : List Token → ℕ → Word
word_at ts i = (token_at ts i).word

-- from one place to another
pub data Runs (ts : List Token) : Standing → ℕ → Standing → ℕ → Type 0 where
  r_here : {s t : Standing} {i j : ℕ} → s ≡ t → i ≡ j → Runs ts s i t j
  r_on : {s t : Standing} {i j : ℕ} (u : Standing) → behind_token s (word_at ts i) ≡ Some u → Runs ts u (suc i) t j → Runs ts s i t j

pub runs_on : {ts : List Token} {s t u : Standing} {i j k : ℕ} → Runs ts s i t j → Runs ts t j u k → Runs ts s i u k
runs_on (r_here e f) b = rw (e, f) b
runs_on (r_on v e a) b = r_on v e (runs_on a b)

pub runs_forward : {ts : List Token} {s t : Standing} {i j : ℕ} → Runs ts s i t j → i ≤ j
runs_forward (r_here e f) = omega (arith, f)
runs_forward (r_on v e a) = omega (arith, runs_forward a)

-- ---- words

-- a word that a text may have
abbrev pub is_text : Word → Bool
is_text w.End = true
is_text w.LeftBrace = true
is_text w.RightBrace = true
is_text w.LeftBracket = true
is_text w.RightBracket = true
is_text w.Comma = true
is_text w.Colon = true
is_text w.Str = true
is_text w.Number = true
is_text w.Const = true
is_text w.StrAny = false
is_text w.Meta = false
is_text w.MetaDots = false
is_text w.Dots = false
is_text w.DeepOpen = false
is_text w.DeepClose = false

abbrev pub of_class : ℕ → Word
of_class n = get_or (w.End ∷ w.LeftBrace ∷ w.RightBrace ∷ w.LeftBracket ∷ w.RightBracket ∷ w.Comma ∷ w.Colon ∷ w.Str ∷ w.Number ∷ w.Const ∷ w.StrAny ∷ w.Meta ∷ w.MetaDots ∷ w.Dots ∷ w.DeepOpen ∷ w.DeepClose ∷ []) n w.End

of_class_is : (x : Word) → of_class (class x) ≡ x
unfolding class
of_class_is w.End = refl
of_class_is w.LeftBrace = refl
of_class_is w.RightBrace = refl
of_class_is w.LeftBracket = refl
of_class_is w.RightBracket = refl
of_class_is w.Comma = refl
of_class_is w.Colon = refl
of_class_is w.Str = refl
of_class_is w.Number = refl
of_class_is w.Const = refl
of_class_is w.StrAny = refl
of_class_is w.Meta = refl
of_class_is w.MetaDots = refl
of_class_is w.Dots = refl
of_class_is w.DeepOpen = refl
of_class_is w.DeepClose = refl

pub of_number_is : (x : Word) → of_class (number_of x) ≡ x
of_number_is w.End = refl
of_number_is w.LeftBrace = refl
of_number_is w.RightBrace = refl
of_number_is w.LeftBracket = refl
of_number_is w.RightBracket = refl
of_number_is w.Comma = refl
of_number_is w.Colon = refl
of_number_is w.Str = refl
of_number_is w.Number = refl
of_number_is w.Const = refl
of_number_is w.StrAny = refl
of_number_is w.Meta = refl
of_number_is w.MetaDots = refl
of_number_is w.Dots = refl
of_number_is w.DeepOpen = refl
of_number_is w.DeepClose = refl

one_of : (a : Bool) → (a || false) ≡ true → a ≡ true
one_of true h = refl
one_of false h = absurd cc

pub word_is : (x y : Word) → has (class x ∷ []) (class y) ≡ true → y ≡ x
word_is x y h = sym (of_class_is y) ∙ ap of_class (sym (eqb-true (class x) (class y) (one_of (eqb (class x) (class y)) h))) ∙ of_class_is x

-- a value of one token
pub scalar_is : (x : Word) → has scalars (class x) ≡ true → is_text x ≡ true → value_move x ≡ Go CommaOrEnd
unfolding class
scalar_is w.End h t = absurd cc
scalar_is w.LeftBrace h t = absurd cc
scalar_is w.RightBrace h t = absurd cc
scalar_is w.LeftBracket h t = absurd cc
scalar_is w.RightBracket h t = absurd cc
scalar_is w.Comma h t = absurd cc
scalar_is w.Colon h t = absurd cc
scalar_is w.Str h t = refl
scalar_is w.Number h t = refl
scalar_is w.Const h t = refl
scalar_is w.StrAny h t = absurd cc
scalar_is w.Meta h t = absurd cc
scalar_is w.MetaDots h t = absurd cc
scalar_is w.Dots h t = absurd cc
scalar_is w.DeepOpen h t = absurd cc
scalar_is w.DeepClose h t = absurd cc

pub name_is : (x : Word) → has names (class x) ≡ true → is_text x ≡ true → x ≡ w.Str
unfolding class
name_is w.End h t = absurd cc
name_is w.LeftBrace h t = absurd cc
name_is w.RightBrace h t = absurd cc
name_is w.LeftBracket h t = absurd cc
name_is w.RightBracket h t = absurd cc
name_is w.Comma h t = absurd cc
name_is w.Colon h t = absurd cc
name_is w.Str h t = refl
name_is w.Number h t = absurd cc
name_is w.Const h t = absurd cc
name_is w.StrAny h t = absurd cc
name_is w.Meta h t = absurd cc
name_is w.MetaDots h t = absurd cc
name_is w.Dots h t = absurd cc
name_is w.DeepOpen h t = absurd cc
name_is w.DeepClose h t = absurd cc

pub no_dots : (x : Word) → has dots (class x) ≡ true → is_text x ≡ true → ⊥
unfolding class
no_dots w.End h t = absurd cc
no_dots w.LeftBrace h t = absurd cc
no_dots w.RightBrace h t = absurd cc
no_dots w.LeftBracket h t = absurd cc
no_dots w.RightBracket h t = absurd cc
no_dots w.Comma h t = absurd cc
no_dots w.Colon h t = absurd cc
no_dots w.Str h t = absurd cc
no_dots w.Number h t = absurd cc
no_dots w.Const h t = absurd cc
no_dots w.StrAny h t = absurd cc
no_dots w.Meta h t = absurd cc
no_dots w.MetaDots h t = absurd cc
no_dots w.Dots h t = absurd cc
no_dots w.DeepOpen h t = absurd cc
no_dots w.DeepClose h t = absurd cc

pub no_deep : (x : Word) → has (class w.DeepOpen ∷ []) (class x) ≡ true → is_text x ≡ true → ⊥
no_deep x h t = let e : x ≡ w.DeepOpen = word_is w.DeepOpen x h in let f : false ≡ true = ap is_text (sym e) ∙ t in absurd cc

-- ---- what may stand next

-- what may stand at the start of a container, and behind a comma
abbrev pub next_in : Container → Next
next_in Array = Value
next_in Object = Name

abbrev pub starts : Container → Bool → Next
starts c true = first_in c
starts c false = next_in c

pub in_depth : (d : ℕ) (m : Move) → d ≤ 499 → within d m ≡ m
in_depth d m h = rw (leb_is d h) refl
  where
    leb_is : (d : ℕ) → d ≤ 499 → leb d 499 ≡ true
    leb_is d h = grind arith

-- a token that begins a value does so wherever one may stand
pub value_here : (b : Bool) (o : List Container) (d : ℕ) (x : Word) (m : Move) → d ≤ 499 → value_move x ≡ m → (m ≡ Stop → ⊥) → behind_token (at (starts Array b) o d) x ≡ moved (at (starts Array b) o d) m
value_here false o d x m h e n = ap (λ (k : Move). moved (at Value o d) k) (in_depth d (value_move x) h ∙ e)
value_here true o d w.End m h e n = ap (λ (k : Move). moved (at ItemOrEnd o d) k) (in_depth d (value_move w.End) h ∙ e)
value_here true o d w.LeftBrace m h e n = ap (λ (k : Move). moved (at ItemOrEnd o d) k) (in_depth d (value_move w.LeftBrace) h ∙ e)
value_here true o d w.RightBrace m h e n = ap (λ (k : Move). moved (at ItemOrEnd o d) k) (in_depth d (value_move w.RightBrace) h ∙ e)
value_here true o d w.LeftBracket m h e n = ap (λ (k : Move). moved (at ItemOrEnd o d) k) (in_depth d (value_move w.LeftBracket) h ∙ e)
value_here true o d w.RightBracket m h e n = absurd (n (sym e))
value_here true o d w.Comma m h e n = ap (λ (k : Move). moved (at ItemOrEnd o d) k) (in_depth d (value_move w.Comma) h ∙ e)
value_here true o d w.Colon m h e n = ap (λ (k : Move). moved (at ItemOrEnd o d) k) (in_depth d (value_move w.Colon) h ∙ e)
value_here true o d w.Str m h e n = ap (λ (k : Move). moved (at ItemOrEnd o d) k) (in_depth d (value_move w.Str) h ∙ e)
value_here true o d w.Number m h e n = ap (λ (k : Move). moved (at ItemOrEnd o d) k) (in_depth d (value_move w.Number) h ∙ e)
value_here true o d w.Const m h e n = ap (λ (k : Move). moved (at ItemOrEnd o d) k) (in_depth d (value_move w.Const) h ∙ e)
value_here true o d w.StrAny m h e n = ap (λ (k : Move). moved (at ItemOrEnd o d) k) (in_depth d (value_move w.StrAny) h ∙ e)
value_here true o d w.Meta m h e n = ap (λ (k : Move). moved (at ItemOrEnd o d) k) (in_depth d (value_move w.Meta) h ∙ e)
value_here true o d w.MetaDots m h e n = ap (λ (k : Move). moved (at ItemOrEnd o d) k) (in_depth d (value_move w.MetaDots) h ∙ e)
value_here true o d w.Dots m h e n = ap (λ (k : Move). moved (at ItemOrEnd o d) k) (in_depth d (value_move w.Dots) h ∙ e)
value_here true o d w.DeepOpen m h e n = ap (λ (k : Move). moved (at ItemOrEnd o d) k) (in_depth d (value_move w.DeepOpen) h ∙ e)
value_here true o d w.DeepClose m h e n = ap (λ (k : Move). moved (at ItemOrEnd o d) k) (in_depth d (value_move w.DeepClose) h ∙ e)

pub name_here : (b : Bool) (o : List Container) (d : ℕ) → d ≤ 499 → behind_token (at (starts Object b) o d) w.Str ≡ Some (at Colon o d)
name_here true o d h = ap (λ (k : Move). moved (at NameOrEnd o d) k) (in_depth d (Go Colon) h)
name_here false o d h = ap (λ (k : Move). moved (at Name o d) k) (in_depth d (Go Colon) h)
