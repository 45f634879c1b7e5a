-- The pattern that tokens are is the one that was read.
use Rattle.std.proofs.Common.{◌≡◌, ℕ, List, [], map, refl, sym, ap, ◌∙◌, subst, Option, Some, None}
use Rattle.std.specs.Prelude.{Err}
use Rattle.node_tree.specs.declared.fault.ReadFault.{ReadFault}
use Rattle.node_tree.specs.declared.fault.ReadFault.TheVariants.{Memory, NoTree}
use Rattle.node_tree.specs.declared.node.Node.{Node}
use Rattle.node_tree.specs.declared.kind.Kind.TheVariants.{Root}
use Rattle.node_tree.specs.declared.span.Span.{Span}
use Rattle.node_tree.specs.declared.view.Mode.{Mode}
use Rattle.node_tree.specs.declared.view.Shape.{Shape}
use Rattle.node_tree.specs.declared.view.Shape.TheVariants as shapes
use Rattle.node_tree.specs.Gives.{Gives}
use Rattle.c_lex.specs.declared.token.CToken.{CToken}
use Rattle.c_lex.specs.Lexing.{IsTokensOf}
use Rattle.c_expr.specs.declared.word.Token.{Token}
use Rattle.c_expr.specs.declared.part.Part.{Part}
use Rattle.c_expr.specs.Words.{token_of}
use Rattle.c_expr.specs.Build.{node, nodes}
use Rattle.c_items.specs.Table.{Items, File}
use Rattle.c_unit.specs.Units.{AreWords, IsExpression, IsRun, IsPatternOf, expression, items, file_items}

-- ---- tokens

-- the words of a text are those of the tokens that were read
pub same_words : (mode : Mode) (text : List ℕ) (all : List CToken) (ts : List Token) (w : AreWords mode text ts) → ◌≡◌ {A = Option (List CToken)} (Some w.tokens) (Some all) → ts ≡ map (token_of mode) all
same_words mode text all ts w e = let same : w.tokens ≡ all = cc in w.words ∙ ap (map (token_of mode)) same

-- and so are the words by which they were read
pub same_classed : (mode : Mode) (text : List ℕ) (all : List CToken) (us ts : List Token) (w : AreWords mode text ts) → ◌≡◌ {A = Option (List CToken)} (Some w.tokens) (Some all) → us ≡ map (token_of mode) all → ts ≡ us
same_classed mode text all us ts w e classed = same_words mode text all ts w e ∙ sym classed

-- a fault that is want of memory, since there was something to read, stays one
pub fault_still : {V X Y : Type 0} (view : V → X) (fault : ReadFault) (x : X) (y : Y) → Gives view (Err fault) (Some x) → Gives (λ (z : Y). z) (Err fault) (Some y)
fault_still view Memory x y h = tt
fault_still view NoTree x y h = absurd (some_none x h)
  where
    some_none : {X : Type 0} (x : X) → ◌≡◌ {A = Option X} (Some x) None → ⊥
    some_none x e = cc

-- and NoTree says that there was nothing to read
pub nothing_there : {X : Type 0} (fault : ReadFault) (P : X → Type 0) → fault ≡ NoTree → ((x : X) → P x → Gives (λ (z : X). z) (Err fault) (Some x)) → (x : X) → P x → ⊥
nothing_there {X = X} fault P is only x h = none (subst (λ (f : ReadFault). Gives (λ (z : X). z) (Err f) (Some x)) is (only x h))
  where
    none : ◌≡◌ {A = Option X} (Some x) None → ⊥
    none e = cc

-- ---- files

-- the root over the items that were read
pub same_root : (n : Node) (written : List ℕ) (kids : List Node) (ps qs : List Part) (i j : ℕ) (span : Span) → n ≡ node Root [] (nodes ps) span → ◌≡◌ {A = Option (List Part × ℕ)} (Some (ps, i)) (Some (qs, j)) → written ≡ [] → kids ≡ nodes qs → ◌≡◌ {A = Option Node} (Some n) (Some (node Root written kids span))
same_root n written kids ps qs i j span root e no_text all_kids =
    let pairs : ◌≡◌ {A = List Part × ℕ} (ps, i) (qs, j) = cc in
    let same : ps ≡ qs = ap (λ (x : List Part × ℕ). x.0) pairs in
    rw (no_text, all_kids) (ap (λ (m : Node). Some m) (root ∙ ap (λ (xs : List Part). node Root [] (nodes xs) span) same))

-- ---- which pattern tokens are

module _ (ts : List Token) where
  pub the_expression : {shape : Shape} {n : Node} (m : Node) → IsPatternOf ts shape n → IsExpression ts m → ((k : Node) → IsExpression ts k → ◌≡◌ {A = Option Node} (Some k) (Some m)) → ◌≡◌ {A = Option (Shape × Node)} (Some (shape, n)) (Some (shapes.Expr, m))
  the_expression {n = n} m (expression h) is one = let e : ◌≡◌ {A = Option Node} (Some n) (Some m) = one n h in let same : n ≡ m = cc in ap (λ (x : Node). Some (shapes.Expr, x)) same
  the_expression m (items none h) is one = absurd (none m is)
  the_expression m (file_items none others h) is one = absurd (none m is)

  pub the_items : {shape : Shape} {n : Node} (m : Node) → IsPatternOf ts shape n → ((k : Node) → IsExpression ts k → ⊥) → IsRun Items ts m → ((k : Node) → IsRun Items ts k → ◌≡◌ {A = Option Node} (Some k) (Some m)) → ◌≡◌ {A = Option (Shape × Node)} (Some (shape, n)) (Some (shapes.Run, m))
  the_items {n = n} m (expression h) none is one = absurd (none n h)
  the_items {n = n} m (items other h) none is one = let e : ◌≡◌ {A = Option Node} (Some n) (Some m) = one n h in let same : n ≡ m = cc in ap (λ (x : Node). Some (shapes.Run, x)) same
  the_items m (file_items other others h) none is one = absurd (others m is)

  -- a run of the items of a file, where there is no other
  pub only_file : {shape : Shape} {n : Node} → IsPatternOf ts shape n → ((k : Node) → IsExpression ts k → ⊥) → ((k : Node) → IsRun Items ts k → ⊥) → (shape ≡ shapes.Run) × IsRun File ts n
  only_file {n = n} (expression h) none others = absurd (none n h)
  only_file {n = n} (items other h) none others = absurd (others n h)
  only_file (file_items other more h) none others = (refl, h)

  pub the_file : {shape : Shape} {n : Node} (m : Node) → IsPatternOf ts shape n → ((k : Node) → IsExpression ts k → ⊥) → ((k : Node) → IsRun Items ts k → ⊥) → ((k : Node) → IsRun File ts k → ◌≡◌ {A = Option Node} (Some k) (Some m)) → ◌≡◌ {A = Option (Shape × Node)} (Some (shape, n)) (Some (shapes.Run, m))
  the_file {n = n} m (expression h) none others one = absurd (none n h)
  the_file {n = n} m (items other h) none others one = absurd (others n h)
  the_file {n = n} m (file_items other more h) none others one = let e : ◌≡◌ {A = Option Node} (Some n) (Some m) = one n h in let same : n ≡ m = cc in ap (λ (x : Node). Some (shapes.Run, x)) same
