-- One round of a loop, behind the parts that were read before it.
use Rattle.std.proofs.Common.{◌≡◌, ℕ, zero, suc, ◌-◌, ◌+◌, ◌<◌, add-one, List, [], ◌∷◌, ◌++◌, refl, ap, ◌∙◌, arith, Option, None, Some, Bool, true, false, cond}
use Rattle.std.specs.Prelude.{eqb}
use Rattle.std.proofs.lemmas.List.{append-nil}
use Rattle.grammar.specs.Rule.{has}
use Rattle.grammar.specs.Reader.{◌>>=◌}
use Rattle.c_expr.specs.declared.word.Word.TheVariants as w
use Rattle.c_expr.specs.declared.word.Token.{Token}
use Rattle.c_expr.specs.declared.part.Part.{Part}
use Rattle.c_expr.specs.Words.{class}
use Rattle.c_expr.specs.Table as e
use Rattle.node_tree.specs.declared.node.Node.{Node}
use Rattle.c_expr.specs.Build.{token_at, cut_source, nodes, tallest}
use Rattle.c_expr.proofs.Parts.{tallest_more as known_tallest}
use Rattle.std.specs.Prelude.{max}
use Rattle.c_items.specs.Settling.{marks}
use Rattle.c_items.specs.Table.{Level, Expression, File, FileItem, Items, Item, Labelled, Mark, Statement, VarsTail}
use Rattle.c_items.specs.reader.Sets.{sets}
use Rattle.c_items.specs.reader.Reading.{level, along}
use Rattle.c_items.proofs.Steps.{rest, rest_turn, push_more}

abbrev pub Got : Type 0
Got = Option (List Part × ℕ)

-- one part more, behind others
one_more : (ps : List Part) (p : Part) (r : Got) → along ps (◌>>=◌ {B = List Part × ℕ} r (λ y. Some (p ∷ y.0, y.1))) ≡ along (ps ++ p ∷ []) r
one_more ps p None = refl
one_more ps p (Some y) = ap (λ (zs : List Part). Some (zs, y.1)) (more ps)
  where
    more : (xs : List Part) → xs ++ p ∷ y.0 ≡ (xs ++ p ∷ []) ++ y.0
    more [] = refl
    more (x ∷ xs) = ap (λ (zs : List Part). x ∷ zs) (more xs)

-- the same, as the loop counts and pushes
one_pushed : (f : ℕ → ℕ → Got) (ps qs : List Part) (p : Part) (n m j : ℕ) → qs ≡ ps ++ p ∷ [] → n ≡ m → along ps (◌>>=◌ {B = List Part × ℕ} (f n j) (λ y. Some (p ∷ y.0, y.1))) ≡ along qs (f m j)
one_pushed f ps qs p n m j pushed less = one_more ps p (f n j) ∙ rw (pushed, less) refl

pub items_more : (ts : List Token) (room : ℕ) (ps qs : List Part) (p : Part) (n m i j : ℕ) → zero < n → has (sets.first Item) (class (token_at ts i).word) ≡ true → level ts room Item i ≡ Some (p ∷ [], j) → qs ≡ ps ++ p ∷ [] → n - 1 ≡ m → along ps (rest ts room Items n i) ≡ along qs (rest ts room Items m j)
items_more ts room ps qs p n m i j h begins read pushed less = rw (rest_turn ts room Items n i h) (rw (begins, read) (one_pushed (rest ts room Items) ps qs p (n - 1) m j pushed less))

pub file_more : (ts : List Token) (room : ℕ) (ps qs : List Part) (p : Part) (n m i j : ℕ) → zero < n → has (sets.first FileItem) (class (token_at ts i).word) ≡ true → level ts room FileItem i ≡ Some (p ∷ [], j) → qs ≡ ps ++ p ∷ [] → n - 1 ≡ m → along ps (rest ts room File n i) ≡ along qs (rest ts room File m j)
file_more ts room ps qs p n m i j h begins read pushed less = rw (rest_turn ts room File n i h) (rw (begins, read) (one_pushed (rest ts room File) ps qs p (n - 1) m j pushed less))

pub labelled_more : (ts : List Token) (room : ℕ) (ps qs : List Part) (p : Part) (n m i j : ℕ) → zero < n → marks (cut_source ts).cls i ≡ true → level ts room Mark i ≡ Some (p ∷ [], j) → qs ≡ ps ++ p ∷ [] → n - 1 ≡ m → along ps (rest ts room Labelled n i) ≡ along qs (rest ts room Labelled m j)
labelled_more ts room ps qs p n m i j h begins read pushed less = rw (rest_turn ts room Labelled n i h) (rw (begins, read) (one_pushed (rest ts room Labelled) ps qs p (n - 1) m j pushed less))

pub labelled_last : (ts : List Token) (room : ℕ) (ps qs : List Part) (p : Part) (n i j : ℕ) → zero < n → marks (cut_source ts).cls i ≡ false → level ts room Statement i ≡ Some (p ∷ [], j) → qs ≡ ps ++ p ∷ [] → along ps (rest ts room Labelled n i) ≡ Some (qs, j)
labelled_last ts room ps qs p n i j h ends read pushed = rw (rest_turn ts room Labelled n i h) (rw (ends, read, pushed) refl)

-- behind a mark, which gives no part
nothing_before : (p : Part) (r : Got) → ◌>>=◌ {B = List Part × ℕ} (◌>>=◌ {B = List Part × ℕ} r (λ y. Some (p ∷ y.0, y.1))) (λ y. Some (y.0, y.1)) ≡ ◌>>=◌ {B = List Part × ℕ} r (λ y. Some (p ∷ y.0, y.1))
nothing_before p None = refl
nothing_before p (Some y) = refl

pub vars_more : (ts : List Token) (room : ℕ) (ps qs : List Part) (p : Part) (n m i j : ℕ) → zero < n → eqb (class w.Comma) (class (token_at ts i).word) ≡ true → level ts room (Expression e.Var) (i + 1) ≡ Some (p ∷ [], j) → qs ≡ ps ++ p ∷ [] → n - 1 ≡ m → along ps (rest ts room VarsTail n i) ≡ along qs (rest ts room VarsTail m j)
vars_more ts room ps qs p n m i j h comma read pushed less = rw (rest_turn ts room VarsTail n i h) (rw (comma, (rw add-one at read)) (ap (along ps) (nothing_before p (rest ts room VarsTail (n - 1) j)) ∙ one_pushed (rest ts room VarsTail) ps qs p (n - 1) m j pushed less))

-- ---- one part more at the end

pub nodes_more : (ps : List Part) (p : Part) → nodes (ps ++ p ∷ []) ≡ nodes ps ++ p.node ∷ []
nodes_more [] p = refl
nodes_more (q ∷ ps) p = ap (λ (ns : List Node). q.node ∷ ns) (nodes_more ps p)

pub tallest_more : (ps : List Part) (p : Part) → tallest (ps ++ p ∷ []) ≡ max (tallest ps) p.depth
tallest_more ps p = known_tallest ps p
