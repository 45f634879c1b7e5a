-- Where the parts of a level are read, so is the level.
use Rattle.std.proofs.Common.{◌≡◌, ℕ, zero, suc, ◌-◌, ◌+◌, ◌<◌, add-one, List, [], ◌∷◌, ◌++◌, refl, ap, ◌∙◌, arith, None, Some, Bool, true, false}
use Rattle.std.specs.Prelude.{eqb, ◌&&◌, Result, Ok, Err}
use Rattle.std.proofs.lemmas.List.{append-nil}
use Rattle.node_tree.specs.declared.fault.ReadFault.{ReadFault}
use Rattle.node_tree.specs.declared.fault.ReadFault.TheVariants as faults
use Rattle.node_tree.specs.declared.kind.Kind.TheVariants as kinds
use Rattle.node_tree.specs.Gives.{Gives}
use Rattle.grammar.specs.Rule.{has, make}
use Rattle.grammar.specs.Reader.{◌>>=◌}
use Rattle.grammar.proofs.Facts.{and_both}
use Rattle.c_expr.specs.declared.word.Word.TheVariants as w
use Rattle.c_expr.specs.declared.word.Token.{Token}
use Rattle.c_expr.specs.declared.part.Part.{Part}
use Rattle.c_expr.specs.declared.lists.Listed.TheVariants as listed
use Rattle.c_expr.specs.Words.{class}
use Rattle.c_expr.specs.Settling.{names}
use Rattle.c_expr.specs.Table as e
use Rattle.c_expr.specs.Table.{Over, Own}
use Rattle.c_expr.specs.Build.{token_at, start_of, span_between, leaf, over, padded, absent, grafted, cut, cut_chained, cut_source}
use Rattle.c_expr.specs.reader.Reading.{grafting, list_read}
use Rattle.c_expr.proofs.Cut.{cut_shallow}
use Rattle.c_expr.proofs.Steps.{graft_one, graft_nothing}
use Rattle.c_items.specs.Settling.{invokes, defines}
use Rattle.c_items.specs.Table.{Level, Expression, Invoked, External, Function, Declaration, Declared, Block, Return, variables, some_expression, maybe}
use Rattle.c_items.specs.reader.Sets.{sets}
use Rattle.c_items.specs.reader.Reading.{level, row}
use Rattle.c_items.proofs.Rounds.{Got}
use Rattle.c_items.proofs.Steps.{expression_step, invoked_step, external_step, function_step, declaration_step, declared_step, return_step}

-- ---- what is put over a part

pub grafted_there : (from : ℕ) (t p u : Part) (r : Got) (i : ℕ) → r ≡ Some (p ∷ [], i) → u ≡ cut (grafted from t p) → grafting from t r ≡ Some (u ∷ [], i)
grafted_there from t p u r i h made = rw made (ap (grafting from t) h ∙ graft_one from t p i)

pub grafted_nowhere : (from : ℕ) (t : Part) (r : Got) → r ≡ None → grafting from t r ≡ None
grafted_nowhere from t r h = ap (grafting from t) h ∙ graft_nothing from t

-- where one thing is nothing, so is another: a fault in place of the first is one in place of the other
pub fails_too : {X : Type 0} (view : X → List Part × ℕ) (fault : ReadFault) (r s : Got) → Gives view (Err fault) r → (r ≡ None → s ≡ None) → Gives view (Err fault) s
fails_too view faults.Memory r s h f = tt
fails_too view faults.NoTree r s h f = f h

-- a chain of one part and what is read behind it
chain_read : (from : ℕ) (p : Part) (r : Got) → ◌>>=◌ {B = List Part × ℕ} (◌>>=◌ {B = List Part × ℕ} r (λ y. Some (p ∷ y.0, y.1))) (λ z. Some (cut_chained from z.0 ∷ [], z.1)) ≡ grafting from p r
unfolding grafting
chain_read from p None = refl
chain_read from p (Some y) = refl

-- ---- declarations

pub declared_read : (ts : List Token) (room i j : ℕ) (p : Part) → zero < room → row ts room (make (Over kinds.List 0) variables) i ≡ Some (p ∷ [], j) → eqb (class w.Semicolon) (class (token_at ts j).word) ≡ true → level ts room Declared i ≡ Some (cut (over kinds.Decl [] (span_between ts i (j + 1)) (p ∷ [])) ∷ [], j + 1)
declared_read ts room i j p h vars end = rw (add-one j) (declared_step ts room i h ∙ rw (vars, end) refl)

pub declared_unended : (ts : List Token) (room i j : ℕ) (p : Part) → zero < room → row ts room (make (Over kinds.List 0) variables) i ≡ Some (p ∷ [], j) → eqb (class w.Semicolon) (class (token_at ts j).word) ≡ false → level ts room Declared i ≡ None
declared_unended ts room i j p h vars end = declared_step ts room i h ∙ rw (vars, end) refl

pub declared_fails : (ts : List Token) (room i : ℕ) → zero < room → row ts room (make (Over kinds.List 0) variables) i ≡ None → level ts room Declared i ≡ None
declared_fails ts room i h vars = declared_step ts room i h ∙ rw vars refl

pub declaration_on : (ts : List Token) (room i j : ℕ) (p : Part) → zero < room → level ts room (Expression e.Spec) i ≡ Some (p ∷ [], j) → level ts room Declaration i ≡ grafting (start_of ts i) p (level ts room Declared j)
declaration_on ts room i j p h base = declaration_step ts room i h ∙ rw base (chain_read (start_of ts i) p (level ts room Declared j))

-- ---- files

pub external_function : (ts : List Token) (room i j : ℕ) (p : Part) → zero < room → level ts room (Expression e.Spec) i ≡ Some (p ∷ [], j) → defines (cut_source ts).cls j ≡ true → level ts room External i ≡ grafting (start_of ts i) p (level ts room Function j)
external_function ts room i j p h base is = external_step ts room i h ∙ rw (base, is) (chain_read (start_of ts i) p (level ts room Function j))

pub external_declared : (ts : List Token) (room i j : ℕ) (p : Part) → zero < room → level ts room (Expression e.Spec) i ≡ Some (p ∷ [], j) → defines (cut_source ts).cls j ≡ false → level ts room External i ≡ grafting (start_of ts i) p (level ts room Declared j)
external_declared ts room i j p h base is = external_step ts room i h ∙ rw (base, is) (chain_read (start_of ts i) p (level ts room Declared j))

pub function_read : (ts : List Token) (room i j k : ℕ) (p q : Part) → zero < room → level ts room (Expression e.Declr) i ≡ Some (p ∷ [], j) → level ts room Block j ≡ Some (q ∷ [], k) → level ts room Function i ≡ Some (cut (over kinds.FuncDef [] (span_between ts i k) (p ∷ q ∷ [])) ∷ [], k)
function_read ts room i j k p q h name body = function_step ts room i h ∙ rw (name, body) refl

pub function_unnamed : (ts : List Token) (room i : ℕ) → zero < room → level ts room (Expression e.Declr) i ≡ None → level ts room Function i ≡ None
function_unnamed ts room i h name = function_step ts room i h ∙ rw name refl

pub function_fails : (ts : List Token) (room i j : ℕ) (p : Part) → zero < room → level ts room (Expression e.Declr) i ≡ Some (p ∷ [], j) → level ts room Block j ≡ None → level ts room Function i ≡ None
function_fails ts room i j p h name body = function_step ts room i h ∙ rw (name, body) refl

-- the use of a macro
module _ (ts : List Token) (room i : ℕ) (some : zero < room) (begins : invokes (cut_source ts).cls i ≡ true) where
  named : (has names (class (token_at ts i).word) ≡ true) × (has (class w.OpenRound ∷ []) (class (token_at ts (suc i)).word) ≡ true)
  named = and_both (has names (class (token_at ts i).word)) (has (class w.OpenRound ∷ []) (class (token_at ts (suc i)).word)) begins

  -- the arguments as the row reads them
  args : (r : Got) → list_read ts room listed.Args (i + 2) ≡ r → ◌>>=◌ {B = List Part × ℕ} (level ts room (Expression e.Args) (suc (suc i))) (λ x. Some (cut (over kinds.List [] (span_between ts (suc (suc i)) x.1) x.0) ∷ [], x.1)) ≡ r
  args r h = let two : i + 2 ≡ suc (suc i) = omega arith in rw (expression_step ts room e.Args (suc (suc i))) (rw two at h)

  pub invoked_read : (j : ℕ) (p found : Part) → list_read ts room listed.Args (i + 2) ≡ Some (p ∷ [], j) → eqb (class w.CloseRound) (class (token_at ts j).word) ≡ true → found ≡ cut (grafted (start_of ts i) (leaf ts Own i) (cut (over kinds.Call [] (span_between ts (i + 1) (j + 1)) (p ∷ [])))) → level ts room Invoked i ≡ Some (found ∷ [], j + 1)
  invoked_read j p found h close made = rw (made, add-one j, add-one i) (invoked_step ts room i some ∙ rw (named.0, named.1, args (Some (p ∷ [], j)) h, close) refl)

  pub invoked_unclosed : (j : ℕ) (p : Part) → list_read ts room listed.Args (i + 2) ≡ Some (p ∷ [], j) → eqb (class w.CloseRound) (class (token_at ts j).word) ≡ false → level ts room Invoked i ≡ None
  invoked_unclosed j p h close = invoked_step ts room i some ∙ rw (named.0, named.1, args (Some (p ∷ [], j)) h, close) refl

  pub invoked_fails : list_read ts room listed.Args (i + 2) ≡ None → level ts room Invoked i ≡ None
  invoked_fails h = invoked_step ts room i some ∙ rw (named.0, named.1, args None h) refl

-- ---- statements

pub return_read : (ts : List Token) (room i j : ℕ) (ps : List Part) (p found : Part) → zero < room → eqb (class w.Return) (class (token_at ts i).word) ≡ true → row ts room some_expression (i + 1) ≡ Some (ps, j) → eqb (class w.Semicolon) (class (token_at ts j).word) ≡ true → padded (start_of ts i) 1 ps ≡ p ∷ [] → found ≡ cut (over kinds.Return [] (span_between ts i (j + 1)) (p ∷ [])) → level ts room Return i ≡ Some (found ∷ [], j + 1)
return_read ts room i j ps p found h first inner end value made = rw (made, add-one j) (return_step ts room i h ∙ rw (first, (rw add-one at inner), end, append-nil ps, value) refl)

-- an expression that is left out
pub maybe_absent : (ts : List Token) (room i : ℕ) (found : Part) → has (sets.first (Expression e.Comma)) (class (token_at ts i).word) ≡ false → found ≡ absent (start_of ts i) → row ts room maybe i ≡ Some (found ∷ [], i)
maybe_absent ts room i found none made = rw (made, none) (ap (λ (p : Part). Some (p ∷ [], i)) (cut_shallow (absent (start_of ts i)) (omega arith)))
