-- Definitions, of which each part is known by its words that count, its kids and its end.
use Rattle.std.proofs.Common.{◌≡◌, ℕ, zero, suc, ◌+◌, ◌<◌, List, [], ◌∷◌, ◌++◌, refl, ap, ◌∙◌, add-one, append_assoc, true, Option, Some, None}
use Rattle.node_tree.specs.declared.node.Node.{Node}
use Rattle.grammar.specs.Rule.{has, ref, ◌·◌}
use Rattle.grammar.specs.Reader.{◌>>=◌}
use Rattle.py_expr.specs.declared.item.Item.{Item}
use Rattle.py_expr.specs.Words.{class}
use Rattle.py_expr.specs.Parts.{Part, whole}
use Rattle.py_expr.specs.Build.{token_at, leaf_of, ident_kind}
use Rattle.py_expr.specs.Table.{names}
use Rattle.py_suite.specs.Table as rows
use Rattle.py_suite.specs.Table.{DefRest, Parameters, ClassRest, Bases}
use Rattle.py_suite.specs.reader.Reading.{level, row, heads, body, returns, kids_behind}
use Rattle.py_suite.proofs.Steps.{level_row}
use Rattle.py_suite.proofs.Forms.{headed}
use Rattle.py_suite.proofs.Suites.{two_heads, one_head}

-- a part that is read, and what is read behind it
in_row : (from j : ℕ) (s : List ℕ) (ns : List Node) (P : Option (List Part × ℕ)) (B : ℕ → Option (List Part × ℕ)) → headed from P ≡ Some (s, ns, j) → headed from (◌>>=◌ {B = List Part × ℕ} P (λ p. ◌>>=◌ {B = List Part × ℕ} (B p.1) (λ b. Some (p.0 ++ b.0, b.1)))) ≡ ◌>>=◌ {B = List ℕ × List Node × ℕ} (headed from (B j)) (λ b. Some (s ++ b.0, ns ++ b.1, b.2))
in_row from j s ns P B g = two_heads from P B ∙ ap (λ (o : Option (List ℕ × List Node × ℕ)). ◌>>=◌ {B = List ℕ × List Node × ℕ} o (λ p. ◌>>=◌ {B = List ℕ × List Node × ℕ} (headed from (B p.2)) (λ b. Some (p.0 ++ b.0, p.1 ++ b.1, b.2)))) g

row_lost : (from : ℕ) (P : Option (List Part × ℕ)) (B : ℕ → Option (List Part × ℕ)) → headed from P ≡ None → headed from (◌>>=◌ {B = List Part × ℕ} P (λ p. ◌>>=◌ {B = List Part × ℕ} (B p.1) (λ b. Some (p.0 ++ b.0, b.1)))) ≡ None
row_lost from P B g = two_heads from P B ∙ ap (λ (o : Option (List ℕ × List Node × ℕ)). ◌>>=◌ {B = List ℕ × List Node × ℕ} o (λ p. ◌>>=◌ {B = List ℕ × List Node × ℕ} (headed from (B p.2)) (λ b. Some (p.0 ++ b.0, p.1 ++ b.1, b.2)))) g

-- kids behind others, one by one
pushed_three : (ks k1 k2 k3 : List Node) (x a b : Node) → k1 ≡ ks ++ x ∷ [] → k2 ≡ k1 ++ a ∷ [] → k3 ≡ k2 ++ b ∷ [] → k3 ≡ ks ++ (x ∷ a ∷ b ∷ [])
pushed_three ks k1 k2 k3 x a b h1 h2 h3 = rw (h3, h2, h1, append_assoc ks (x ∷ []) (a ∷ []), append_assoc ks (x ∷ a ∷ []) (b ∷ [])) refl

pushed_four : (ks k1 k2 k3 k4 : List Node) (x a r b : Node) → k1 ≡ ks ++ x ∷ [] → k2 ≡ k1 ++ a ∷ [] → k3 ≡ k2 ++ r ∷ [] → k4 ≡ k3 ++ b ∷ [] → k4 ≡ ks ++ (x ∷ a ∷ r ∷ b ∷ [])
pushed_four ks k1 k2 k3 k4 x a r b h1 h2 h3 h4 = rw (h4, pushed_three ks k1 k2 k3 x a r h1 h2 h3, append_assoc ks (x ∷ a ∷ r ∷ []) (b ∷ [])) refl

module _ (ts : List Item) (room from i : ℕ) (x : Node) (ks : List Node) (h : zero < room) (name : has names (class (token_at ts i).word) ≡ true) (is : x ≡ leaf_of (ident_kind (token_at ts i).word) (token_at ts i)) where
  -- behind the name
  class_over_name : heads ts room from ClassRest i ≡ ◌>>=◌ {B = List ℕ × List Node × ℕ} (headed from (row ts room (ref Bases · rows.body) (suc i))) (λ y. Some (y.0, x ∷ y.1, y.2))
  class_over_name = rw (level_row ts room ClassRest i h) (rw (name, is) (one_head from (leaf_of (ident_kind (token_at ts i).word) (token_at ts i)) (row ts room (ref Bases · rows.body) (suc i))))

  def_over_name : heads ts room from DefRest i ≡ ◌>>=◌ {B = List ℕ × List Node × ℕ} (headed from (row ts room (ref Parameters · (rows.returns · rows.body)) (suc i))) (λ y. Some (y.0, x ∷ y.1, y.2))
  def_over_name = rw (level_row ts room DefRest i h) (rw (name, is) (one_head from (leaf_of (ident_kind (token_at ts i).word) (token_at ts i)) (row ts room (ref Parameters · (rows.returns · rows.body)) (suc i))))

  -- kids of what is read, in front of which the name stands and others before it
  abbrev behind_name : Option (List ℕ × List Node × ℕ) → Option (List ℕ × List Node × ℕ)
  behind_name o = kids_behind ks (◌>>=◌ {B = List ℕ × List Node × ℕ} o (λ y. Some (y.0, x ∷ y.1, y.2)))

  -- ---- classes

  pub class_rest_no_bases : heads ts room from Bases (i + 1) ≡ None → kids_behind ks (heads ts room from ClassRest i) ≡ None
  class_rest_no_bases bases = ap (kids_behind ks) class_over_name ∙ ap behind_name (row_lost from (level ts room Bases (suc i)) (body ts room) (rw add-one at bases))

  class_rest_over : (j : ℕ) (a : Node) → heads ts room from Bases (i + 1) ≡ Some ([], a ∷ [], j) → kids_behind ks (heads ts room from ClassRest i) ≡ behind_name (◌>>=◌ {B = List ℕ × List Node × ℕ} (headed from (body ts room j)) (λ b. Some (b.0, a ∷ b.1, b.2)))
  class_rest_over j a bases = ap (kids_behind ks) class_over_name ∙ ap behind_name (in_row from j [] (a ∷ []) (level ts room Bases (suc i)) (body ts room) (rw add-one at bases))

  pub class_rest_no_body : (j : ℕ) (a : Node) → heads ts room from Bases (i + 1) ≡ Some ([], a ∷ [], j) → body ts room j ≡ None → kids_behind ks (heads ts room from ClassRest i) ≡ None
  class_rest_no_body j a bases block = class_rest_over j a bases ∙ rw block refl

  pub class_rest_read : (j m : ℕ) (a b : Node) (k1 k2 k3 : List Node) → heads ts room from Bases (i + 1) ≡ Some ([], a ∷ [], j) → body ts room j ≡ Some (whole b ∷ [], m) → k1 ≡ ks ++ x ∷ [] → k2 ≡ k1 ++ a ∷ [] → k3 ≡ k2 ++ b ∷ [] → kids_behind ks (heads ts room from ClassRest i) ≡ Some ([], k3, m)
  class_rest_read j m a b k1 k2 k3 bases block h1 h2 h3 = rw (pushed_three ks k1 k2 k3 x a b h1 h2 h3) (class_rest_over j a bases ∙ rw block refl)

  -- ---- functions

  pub def_rest_no_list : heads ts room from Parameters (i + 1) ≡ None → kids_behind ks (heads ts room from DefRest i) ≡ None
  def_rest_no_list list = ap (kids_behind ks) def_over_name ∙ ap behind_name (row_lost from (level ts room Parameters (suc i)) (row ts room (rows.returns · rows.body)) (rw add-one at list))

  def_rest_over : (j : ℕ) (a : Node) → heads ts room from Parameters (i + 1) ≡ Some ([], a ∷ [], j) → kids_behind ks (heads ts room from DefRest i) ≡ behind_name (◌>>=◌ {B = List ℕ × List Node × ℕ} (headed from (row ts room (rows.returns · rows.body) j)) (λ b. Some (b.0, a ∷ b.1, b.2)))
  def_rest_over j a list = ap (kids_behind ks) def_over_name ∙ ap behind_name (in_row from j [] (a ∷ []) (level ts room Parameters (suc i)) (row ts room (rows.returns · rows.body)) (rw add-one at list))

  pub def_rest_no_returns : (j : ℕ) (a : Node) → heads ts room from Parameters (i + 1) ≡ Some ([], a ∷ [], j) → returns ts room from j ≡ None → kids_behind ks (heads ts room from DefRest i) ≡ None
  def_rest_no_returns j a list answer = def_rest_over j a list ∙ ap (λ (o : Option (List ℕ × List Node × ℕ)). behind_name (◌>>=◌ {B = List ℕ × List Node × ℕ} o (λ b. Some (b.0, a ∷ b.1, b.2)))) (row_lost from (row ts room rows.returns j) (body ts room) answer)

  def_rest_behind : (j l : ℕ) (a r : Node) → heads ts room from Parameters (i + 1) ≡ Some ([], a ∷ [], j) → returns ts room from j ≡ Some ([], r ∷ [], l) → kids_behind ks (heads ts room from DefRest i) ≡ behind_name (◌>>=◌ {B = List ℕ × List Node × ℕ} (headed from (body ts room l)) (λ b. Some (b.0, a ∷ r ∷ b.1, b.2)))
  def_rest_behind j l a r list answer = def_rest_over j a list ∙ (ap (λ (o : Option (List ℕ × List Node × ℕ)). behind_name (◌>>=◌ {B = List ℕ × List Node × ℕ} o (λ b. Some (b.0, a ∷ b.1, b.2)))) (in_row from l [] (r ∷ []) (row ts room rows.returns j) (body ts room) answer) ∙ ap behind_name (both (headed from (body ts room l))))
    where
      both : (o : Option (List ℕ × List Node × ℕ)) → ◌>>=◌ {B = List ℕ × List Node × ℕ} (◌>>=◌ {B = List ℕ × List Node × ℕ} o (λ b. Some (b.0, r ∷ b.1, b.2))) (λ b. Some (b.0, a ∷ b.1, b.2)) ≡ ◌>>=◌ {B = List ℕ × List Node × ℕ} o (λ b. Some (b.0, a ∷ r ∷ b.1, b.2))
      both None = refl
      both (Some b) = refl

  pub def_rest_no_body : (j l : ℕ) (a r : Node) → heads ts room from Parameters (i + 1) ≡ Some ([], a ∷ [], j) → returns ts room from j ≡ Some ([], r ∷ [], l) → body ts room l ≡ None → kids_behind ks (heads ts room from DefRest i) ≡ None
  def_rest_no_body j l a r list answer block = def_rest_behind j l a r list answer ∙ rw block refl

  pub def_rest_read : (j l m : ℕ) (a r b : Node) (k1 k2 k3 k4 : List Node) → heads ts room from Parameters (i + 1) ≡ Some ([], a ∷ [], j) → returns ts room from j ≡ Some ([], r ∷ [], l) → body ts room l ≡ Some (whole b ∷ [], m) → k1 ≡ ks ++ x ∷ [] → k2 ≡ k1 ++ a ∷ [] → k3 ≡ k2 ++ r ∷ [] → k4 ≡ k3 ++ b ∷ [] → kids_behind ks (heads ts room from DefRest i) ≡ Some ([], k4, m)
  def_rest_read j l m a r b k1 k2 k3 k4 list answer block h1 h2 h3 h4 = rw (pushed_four ks k1 k2 k3 k4 x a r b h1 h2 h3 h4) (def_rest_behind j l a r list answer ∙ rw block refl)
