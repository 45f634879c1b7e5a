-- What a word that is no name makes as one.
use Rattle.std.proofs.Common.{◌≡◌, refl}
use Rattle.py_expr.specs.declared.word.Word.{Word}
use Rattle.py_expr.specs.declared.word.Word.TheVariants as w
use Rattle.py_expr.specs.Build.{kind_of, ident_kind}

-- it makes what it makes elsewhere
pub ident_other : (word : Word) → (word ≡ w.Name → ⊥) → kind_of word ≡ ident_kind word
ident_other w.Other h = refl
ident_other w.Name h = absurd (h refl)
ident_other w.Meta h = refl
ident_other w.Number h = refl
ident_other w.Const h = refl
ident_other w.Ellipsis h = refl
ident_other w.Dots h = refl
ident_other w.MetaDots h = refl
ident_other w.Str h = refl
ident_other w.FStr h = refl
ident_other w.StrAny h = refl
ident_other w.LeftRound h = refl
ident_other w.RightRound h = refl
ident_other w.LeftSquare h = refl
ident_other w.RightSquare h = refl
ident_other w.LeftBrace h = refl
ident_other w.BraceDots h = refl
ident_other w.RightBrace h = refl
ident_other w.Comma h = refl
ident_other w.CommaDots h = refl
ident_other w.Colon h = refl
ident_other w.Dot h = refl
ident_other w.Equal h = refl
ident_other w.Walrus h = refl
ident_other w.Times h = refl
ident_other w.Slash h = refl
ident_other w.Factor h = refl
ident_other w.Sign h = refl
ident_other w.Tilde h = refl
ident_other w.Power h = refl
ident_other w.Shift h = refl
ident_other w.Ampersand h = refl
ident_other w.Caret h = refl
ident_other w.Bar h = refl
ident_other w.Compare h = refl
ident_other w.In h = refl
ident_other w.Is h = refl
ident_other w.Not h = refl
ident_other w.And h = refl
ident_other w.Or h = refl
ident_other w.If h = refl
ident_other w.Else h = refl
ident_other w.Lambda h = refl
ident_other w.For h = refl
ident_other w.Async h = refl
ident_other w.Await h = refl
ident_other w.Yield h = refl
ident_other w.From h = refl
ident_other w.DeepOpen h = refl
ident_other w.DeepClose h = refl
ident_other w.At h = refl
ident_other w.Semicolon h = refl
ident_other w.Arrow h = refl
ident_other w.Augmented h = refl
ident_other w.Newline h = refl
ident_other w.Indent h = refl
ident_other w.Dedent h = refl
ident_other w.End h = refl
ident_other w.As h = refl
ident_other w.Assert h = refl
ident_other w.Break h = refl
ident_other w.Class h = refl
ident_other w.Continue h = refl
ident_other w.Def h = refl
ident_other w.Del h = refl
ident_other w.Elif h = refl
ident_other w.Except h = refl
ident_other w.Finally h = refl
ident_other w.Global h = refl
ident_other w.Import h = refl
ident_other w.Nonlocal h = refl
ident_other w.Pass h = refl
ident_other w.Raise h = refl
ident_other w.Return h = refl
ident_other w.Try h = refl
ident_other w.While h = refl
ident_other w.With h = refl
