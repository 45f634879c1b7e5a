-- The classes of words.
use Rattle.std.proofs.Common.{◌≡◌, ◌≢◌, ℕ, ◌<◌, ◌≤◌, List, length, true, eqb, refl, arith, inl, inr}
use Rattle.std.specs.Prelude.{◌⊎◌}
use Rattle.std.proofs.lemmas.List.{get_or_past}
use Rattle.py_expr.specs.declared.item.Item.{Item}
use Rattle.py_expr.specs.declared.word.Word.{Word}
use Rattle.py_expr.specs.declared.word.Word.TheVariants.{Other, Name, Meta, Number, Const, Ellipsis, Dots, MetaDots, Str, FStr, StrAny, LeftRound, RightRound, LeftSquare, RightSquare, LeftBrace, BraceDots, RightBrace, Comma, CommaDots, Colon, Dot, Equal, Walrus, Times, Slash, Factor, Sign, Tilde, Power, Shift, Ampersand, Caret, Bar, Compare, In, Is, Not, And, Or, If, Else, Lambda, For, Async, Await, Yield, From, DeepOpen, DeepClose, At, Semicolon, Arrow, Augmented, Newline, Indent, Dedent, End, As, Assert, Break, Class, Continue, Def, Del, Elif, Except, Finally, Global, Import, Nonlocal, Pass, Raise, Return, Try, While, With}
use Rattle.py_expr.specs.Words.{class}
use Rattle.py_expr.specs.Build.{token_at, end_item}

-- no other word has the class of what stands in no row
pub class_zero : (word : Word) → class word ≡ 0 → word ≡ Other
unfolding class
class_zero Other h = refl
class_zero Name h = absurd (omega (arith, h))
class_zero Meta h = absurd (omega (arith, h))
class_zero Number h = absurd (omega (arith, h))
class_zero Const h = absurd (omega (arith, h))
class_zero Ellipsis h = absurd (omega (arith, h))
class_zero Dots h = absurd (omega (arith, h))
class_zero MetaDots h = absurd (omega (arith, h))
class_zero Str h = absurd (omega (arith, h))
class_zero FStr h = absurd (omega (arith, h))
class_zero StrAny h = absurd (omega (arith, h))
class_zero LeftRound h = absurd (omega (arith, h))
class_zero RightRound h = absurd (omega (arith, h))
class_zero LeftSquare h = absurd (omega (arith, h))
class_zero RightSquare h = absurd (omega (arith, h))
class_zero LeftBrace h = absurd (omega (arith, h))
class_zero BraceDots h = absurd (omega (arith, h))
class_zero RightBrace h = absurd (omega (arith, h))
class_zero Comma h = absurd (omega (arith, h))
class_zero CommaDots h = absurd (omega (arith, h))
class_zero Colon h = absurd (omega (arith, h))
class_zero Dot h = absurd (omega (arith, h))
class_zero Equal h = absurd (omega (arith, h))
class_zero Walrus h = absurd (omega (arith, h))
class_zero Times h = absurd (omega (arith, h))
class_zero Slash h = absurd (omega (arith, h))
class_zero Factor h = absurd (omega (arith, h))
class_zero Sign h = absurd (omega (arith, h))
class_zero Tilde h = absurd (omega (arith, h))
class_zero Power h = absurd (omega (arith, h))
class_zero Shift h = absurd (omega (arith, h))
class_zero Ampersand h = absurd (omega (arith, h))
class_zero Caret h = absurd (omega (arith, h))
class_zero Bar h = absurd (omega (arith, h))
class_zero Compare h = absurd (omega (arith, h))
class_zero In h = absurd (omega (arith, h))
class_zero Is h = absurd (omega (arith, h))
class_zero Not h = absurd (omega (arith, h))
class_zero And h = absurd (omega (arith, h))
class_zero Or h = absurd (omega (arith, h))
class_zero If h = absurd (omega (arith, h))
class_zero Else h = absurd (omega (arith, h))
class_zero Lambda h = absurd (omega (arith, h))
class_zero For h = absurd (omega (arith, h))
class_zero Async h = absurd (omega (arith, h))
class_zero Await h = absurd (omega (arith, h))
class_zero Yield h = absurd (omega (arith, h))
class_zero From h = absurd (omega (arith, h))
class_zero DeepOpen h = absurd (omega (arith, h))
class_zero DeepClose h = absurd (omega (arith, h))
class_zero At h = absurd (omega (arith, h))
class_zero Semicolon h = absurd (omega (arith, h))
class_zero Arrow h = absurd (omega (arith, h))
class_zero Augmented h = absurd (omega (arith, h))
class_zero Newline h = absurd (omega (arith, h))
class_zero Indent h = absurd (omega (arith, h))
class_zero Dedent h = absurd (omega (arith, h))
class_zero End h = absurd (omega (arith, h))
class_zero As h = absurd (omega (arith, h))
class_zero Assert h = absurd (omega (arith, h))
class_zero Break h = absurd (omega (arith, h))
class_zero Class h = absurd (omega (arith, h))
class_zero Continue h = absurd (omega (arith, h))
class_zero Def h = absurd (omega (arith, h))
class_zero Del h = absurd (omega (arith, h))
class_zero Elif h = absurd (omega (arith, h))
class_zero Except h = absurd (omega (arith, h))
class_zero Finally h = absurd (omega (arith, h))
class_zero Global h = absurd (omega (arith, h))
class_zero Import h = absurd (omega (arith, h))
class_zero Nonlocal h = absurd (omega (arith, h))
class_zero Pass h = absurd (omega (arith, h))
class_zero Raise h = absurd (omega (arith, h))
class_zero Return h = absurd (omega (arith, h))
class_zero Try h = absurd (omega (arith, h))
class_zero While h = absurd (omega (arith, h))
class_zero With h = absurd (omega (arith, h))

same_number : (a b : ℕ) → eqb a b ≡ true → a ≡ b
same_number a b h = grind arith

class_other : class Other ≡ 0
unfolding class
class_other = refl

at_end : (ts : List Item) (at : ℕ) → length ts ≤ at → class (token_at ts at).word ≡ 0
at_end ts at h = rw (get_or_past ts at end_item h) class_other

-- what stands there is before the end, unless it is what stands at the end
pub past_the_end : (ts : List Item) (at : ℕ) (word : Word) → eqb (class word) (class (token_at ts at).word) ≡ true → word ≢ Other → at < length ts
past_the_end ts at word h other = elim (either at (length ts)) [ inl lt ↦ lt | inr le ↦ absurd (other (class_zero word (rw (at_end ts at le) at (same_number (class word) (class (token_at ts at).word) h)))) ]
  where
    either : (a b : ℕ) → (a < b) ⊎ (b ≤ a)
    either a b = grind arith
