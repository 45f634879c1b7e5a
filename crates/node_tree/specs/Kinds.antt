-- Classes of kinds.
use Rattle.std.specs.Prelude.{Bool, true, false}
use Rattle.node_tree.specs.declared.kind.Kind.{Kind}
use Rattle.node_tree.specs.declared.kind.Kind.TheVariants as kinds

-- an expression
abbrev pub is_expression : Kind → Bool
is_expression kinds.Name = true
is_expression kinds.Number = true
is_expression kinds.Str = true
is_expression kinds.StrJoin = true
is_expression kinds.FStr = true
is_expression kinds.Char = true
is_expression kinds.Const = true
is_expression kinds.Ellipsis = true
is_expression kinds.Tuple = true
is_expression kinds.ListLit = true
is_expression kinds.SetLit = true
is_expression kinds.DictLit = true
is_expression kinds.Comp = true
is_expression kinds.Attr = true
is_expression kinds.Sub = true
is_expression kinds.Call = true
is_expression kinds.Await = true
is_expression kinds.Yield = true
is_expression kinds.YieldFrom = true
is_expression kinds.Unary = true
is_expression kinds.Postfix = true
is_expression kinds.Binary = true
is_expression kinds.Compare = true
is_expression kinds.Cond = true
is_expression kinds.Lambda = true
is_expression kinds.Walrus = true
is_expression kinds.AssignE = true
is_expression kinds.Cast = true
is_expression kinds.SizeofType = true
is_expression kinds.InitList = true
is_expression kinds.Array = true
is_expression kinds.Object = true
is_expression _ = false

-- an expression, a name that is none, or a type
abbrev pub is_term : Kind → Bool
is_term kinds.Id = true
is_term kinds.TypeSpec = true
is_term k = is_expression k

-- a statement
abbrev pub is_statement : Kind → Bool
is_statement kinds.ExprStmt = true
is_statement kinds.Assign = true
is_statement kinds.AugAssign = true
is_statement kinds.AnnAssign = true
is_statement kinds.Return = true
is_statement kinds.Del = true
is_statement kinds.Pass = true
is_statement kinds.Break = true
is_statement kinds.Continue = true
is_statement kinds.Raise = true
is_statement kinds.Global = true
is_statement kinds.Nonlocal = true
is_statement kinds.Assert = true
is_statement kinds.Import = true
is_statement kinds.FromImport = true
is_statement kinds.If = true
is_statement kinds.While = true
is_statement kinds.For = true
is_statement kinds.Try = true
is_statement kinds.With = true
is_statement kinds.FunctionDef = true
is_statement kinds.ClassDef = true
is_statement kinds.Directive = true
is_statement kinds.FuncDef = true
is_statement kinds.Decl = true
is_statement kinds.Empty = true
is_statement kinds.DoWhile = true
is_statement kinds.ForC = true
is_statement kinds.Goto = true
is_statement kinds.Label = true
is_statement kinds.Switch = true
is_statement kinds.Case = true
is_statement kinds.Default = true
is_statement _ = false

-- a literal that a name may be known to hold
abbrev pub is_literal : Kind → Bool
is_literal kinds.Str = true
is_literal kinds.Number = true
is_literal kinds.Const = true
is_literal _ = false

-- a statement that defines a function; its last kid is the body
abbrev pub is_function : Kind → Bool
is_function kinds.FunctionDef = true
is_function kinds.FuncDef = true
is_function _ = false
