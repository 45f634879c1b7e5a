-- The kinds in order, each at its place.
use Rattle.std.proofs.Common.{◌≡◌, ℕ, zero, suc, ◌+◌, ◌<◌, Bool, true, false, eqb, ltb, List, [], ◌∷◌, length, get_or, refl, sym, ap, ◌∙◌, arith, ltb-true}
use Rattle.std.specs.Prelude.{◌≢◌, if◌then◌else◌, Option, None, Some, slice_get, MatchOption}
use Rattle.std.proofs.lemmas.Bool.{eqb-true}
use Rattle.std.proofs.lemmas.Option.{slice_get_within, get_or_from_slice_get, slice_get-get_or}
use Rattle.node_tree.specs.declared.kind.Kind.{Kind}
use Rattle.node_tree.specs.declared.kind.Kind.TheVariants as k
use Rattle.node_tree.specs.declared.kind.TheConstants.{ALL}
use Rattle.node_tree.specs.Order.{kind_place}

-- the first kind has this place, the next one the next, and so on
abbrev pub counts_up : ℕ → List Kind → Bool
counts_up at [] = true
counts_up at (x ∷ xs) = if eqb (kind_place x) at then counts_up (suc at) xs else false

both : (a b : Bool) → (if a then b else false) ≡ true → (a ≡ true) × (b ≡ true)
both true b h = (refl, h)
both false b h = absurd cc

bounded : (kind : Kind) → ltb (kind_place kind) (length ALL) ≡ true
bounded k.Name = refl
bounded k.Number = refl
bounded k.Str = refl
bounded k.StrJoin = refl
bounded k.FStr = refl
bounded k.Char = refl
bounded k.Const = refl
bounded k.Ellipsis = refl
bounded k.Tuple = refl
bounded k.ListLit = refl
bounded k.SetLit = refl
bounded k.DictLit = refl
bounded k.Comp = refl
bounded k.Attr = refl
bounded k.Sub = refl
bounded k.Call = refl
bounded k.Await = refl
bounded k.Yield = refl
bounded k.YieldFrom = refl
bounded k.Unary = refl
bounded k.Postfix = refl
bounded k.Binary = refl
bounded k.Compare = refl
bounded k.Cond = refl
bounded k.Lambda = refl
bounded k.Walrus = refl
bounded k.AssignE = refl
bounded k.Cast = refl
bounded k.SizeofType = refl
bounded k.InitList = refl
bounded k.Array = refl
bounded k.Object = refl
bounded k.Id = refl
bounded k.TypeSpec = refl
bounded k.ExprStmt = refl
bounded k.Assign = refl
bounded k.AugAssign = refl
bounded k.AnnAssign = refl
bounded k.Return = refl
bounded k.Del = refl
bounded k.Pass = refl
bounded k.Break = refl
bounded k.Continue = refl
bounded k.Raise = refl
bounded k.Global = refl
bounded k.Nonlocal = refl
bounded k.Assert = refl
bounded k.Import = refl
bounded k.FromImport = refl
bounded k.If = refl
bounded k.While = refl
bounded k.For = refl
bounded k.Try = refl
bounded k.With = refl
bounded k.FunctionDef = refl
bounded k.ClassDef = refl
bounded k.Directive = refl
bounded k.FuncDef = refl
bounded k.Decl = refl
bounded k.Empty = refl
bounded k.DoWhile = refl
bounded k.ForC = refl
bounded k.Goto = refl
bounded k.Label = refl
bounded k.Switch = refl
bounded k.Case = refl
bounded k.Default = refl
bounded k.Root = refl
bounded k.Block = refl
bounded k.List = refl
bounded k.Absent = refl
bounded k.Pair = refl
bounded k.Member = refl
bounded k.Keyword = refl
bounded k.Star = refl
bounded k.Star2 = refl
bounded k.Slice = refl
bounded k.Param = refl
bounded k.ParamC = refl
bounded k.CompFor = refl
bounded k.CompIf = refl
bounded k.FText = refl
bounded k.FField = refl
bounded k.Alias = refl
bounded k.Handler = refl
bounded k.WithItem = refl
bounded k.Var = refl
bounded k.Ptr = refl
bounded k.ArrayOf = refl
bounded k.FuncOf = refl
bounded k.TypeName = refl
bounded k.Fields = refl
bounded k.EnumItems = refl
bounded k.EnumItem = refl
bounded k.Designated = refl
bounded k.DesField = refl
bounded k.DesIndex = refl
bounded k.Meta = refl
bounded k.MetaDots = refl
bounded k.Dots = refl
bounded k.Deep = refl
bounded k.StrAny = refl

few : (kind : Kind) → kind_place kind < length ALL
few kind = ltb-true _ _ (bounded kind)

-- the kind at a place has that place
placed : (all : List Kind) (at i : ℕ) (d : Kind) → counts_up at all ≡ true → i < length all → kind_place (get_or all i d) ≡ at + i
placed [] at i d h lt = absurd (omega arith)
placed (x ∷ xs) at zero d h lt = omega (arith, eqb-true _ _ (both (eqb (kind_place x) at) (counts_up (suc at) xs) h).0)
placed (x ∷ xs) at (suc i) d h lt = omega (arith, placed xs (suc at) i d (both (eqb (kind_place x) at) (counts_up (suc at) xs) h).1 (omega arith))

none_there : (place : ℕ) (kind : Kind) → None ≡ slice_get ALL place → kind_place kind ≡ place → ⊥
none_there place kind e at =
    let there : slice_get ALL place ≡ Some (get_or ALL place kind) = slice_get-get_or ALL place kind (omega (arith, few kind, at)) in
    absurd (apart (get_or ALL place kind) (e ∙ there))
  where
    apart : (k' : Kind) → None ≡ Some k' → ⊥
    apart k' p = absurd cc

-- what stands at a place is the kind that has it, and where nothing stands no kind has it
pub told : (place : ℕ) (o : Option Kind) → o ≡ slice_get ALL place → MatchOption o ((kind : Kind) → kind_place kind ≢ place) (λ kind. kind_place kind ≡ place)
told place None e = λ kind at. none_there place kind e at
told place (Some kind) e =
    let zero_on : 0 + place ≡ place = omega arith in
    ap kind_place (sym (get_or_from_slice_get ALL place kind kind (sym e))) ∙ placed ALL 0 place kind refl (slice_get_within ALL place kind (sym e)) ∙ zero_on
