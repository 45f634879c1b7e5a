-- Items of tokens and nodes of parts, one by one.
use Rattle.std.proofs.Common.{◌≡◌, ℕ, zero, suc, ◌+◌, ◌-◌, ◌<◌, ◌≤◌, List, [], ◌∷◌, ◌++◌, length, drop, get_or, refl, ap, sym, ◌∙◌, add-one, drop-cons, true, false, arith, Option, Some, None}
use Rattle.std.proofs.lemmas.List.{append-nil, drop_all}
use Rattle.node_tree.specs.declared.node.Node.{Node}
use Rattle.node_tree.specs.declared.view.Mode.{Mode}
use Rattle.py_lex.specs.declared.token.PyToken.{PyToken}
use Rattle.node_tree.specs.declared.span.Span.{Span}
use Rattle.py_lex.specs.declared.token.FPart.{FPart, out-FPart, out-roll-FPart}
use Rattle.py_lex.specs.declared.token.FPart.TheVariants.{rolls-Field}
use Rattle.py_lex.specs.declared.token.FPart.TheOpen as layers
use Rattle.py_lex.specs.declared.token.FPart
use Rattle.py_expr.specs.Items.{Insides, IsItem, AreItems}
use Rattle.py_expr.specs.Insides.{Finds, IsValue, IsPart, AreParts, HasNodes, field_node, is_equal, without_equal}

pub push_more : {X : Type 0} (xs : List X) (x : X) (ys : List X) → (xs ++ x ∷ []) ++ ys ≡ xs ++ (x ∷ ys)
push_more [] x ys = refl
push_more {X = X} (z ∷ xs) x ys = ap (λ (ns : List X). z ∷ ns) (push_more xs x ys)

-- What a list goes on with from a place: an invariant of a loop that makes one thing of another, in order.
pub record GoesOn {X Y : Type 0} (Are : List X → List Y → Type 0) (xs : List X) (made : List Y) (at : ℕ) : Type 0 where
  -- with what is made of the rest, what was made is made of all
  pub forth : (more : List Y) → Are (drop at xs) more → Are xs (made ++ more)
  -- and all that is made of all goes on so
  pub back : (ys : List Y) → Are xs ys → (more : List Y) × Are (drop at xs) more × (ys ≡ made ++ more)

pub starts : {X Y : Type 0} (Are : List X → List Y → Type 0) (xs : List X) → GoesOn Are xs [] 0
starts Are xs = record { forth = λ more a. a; back = λ ys a. (ys, a, refl) }

-- one by one
abbrev pub OneByOne : {X Y : Type 0} → (X → List X → Y → Type 0) → (List X → List Y → Type 0) → Type 0
OneByOne {X = X} {Y = Y} One Are = (x : X) (xs : List X) (ys : List Y) → (Are (x ∷ xs) ys → (y : Y) × (more : List Y) × One x xs y × Are xs more × (ys ≡ y ∷ more)) × ((y : Y) (more : List Y) → One x xs y → Are xs more → ys ≡ y ∷ more → Are (x ∷ xs) ys)

pub one_more : {X Y : Type 0} (One : X → List X → Y → Type 0) (Are : List X → List Y → Type 0) → OneByOne One Are → (xs : List X) (made : List Y) (at : ℕ) (d : X) (y : Y) → at < length xs → One (get_or xs at d) (drop (at + 1) xs) y → ((z : Y) → One (get_or xs at d) (drop (at + 1) xs) z → z ≡ y) → GoesOn Are xs made at → GoesOn Are xs (made ++ y ∷ []) (at + 1)
one_more {X = X} {Y = Y} One Are by xs made at d y h one only g = record {
  forth = λ more a. rw (push_more made y more) (g.forth (y ∷ more) (rw here ((by (get_or xs at d) (drop (at + 1) xs) (y ∷ more)).1 y more one a refl)));
  back = λ ys a. let b : _ = g.back ys a in
      let c : _ = (by (get_or xs at d) (drop (at + 1) xs) b.0).0 (rw here at b.1) in
      (c.1, c.3, b.2 ∙ (ap (λ (zs : List Y). made ++ zs) (c.4 ∙ ap (λ (z : Y). z ∷ c.1) (only c.0 c.2)) ∙ sym (push_more made y c.1)));
}
  where
    here : drop at xs ≡ get_or xs at d ∷ drop (at + 1) xs
    here = rw add-one (drop-cons xs at d h)

module _ {X Y : Type 0} (One : X → List X → Y → Type 0) (Are : List X → List Y → Type 0) (by : OneByOne One Are) (xs : List X) (made : List Y) (at : ℕ) (d : X) where
  -- by what was found of the next one
  pub goes_on : (o : Option Y) (y : Y) → at < length xs → o ≡ Some y → Finds (One (get_or xs at d) (drop (at + 1) xs)) o → GoesOn Are xs made at → GoesOn Are xs (made ++ y ∷ []) (at + 1)
  goes_on None y h e f g = cc
  goes_on (Some z) y h e f g = rw (← same e) (one_more One Are by xs made at d z h f.0 f.1 g)
    where
      same : Some z ≡ Some y → z ≡ y
      same e = cc

  pub goes_nowhere : (o : Option Y) → at < length xs → o ≡ None → Finds (One (get_or xs at d) (drop (at + 1) xs)) o → GoesOn Are xs made at → (ys : List Y) → Are xs ys → ⊥
  goes_nowhere (Some z) h e f g ys a = cc
  goes_nowhere None h e f g ys a =
      let b : _ = g.back ys a in
      let c : _ = (by (get_or xs at d) (drop (at + 1) xs) b.0).0 (rw here at b.1) in
      f c.0 c.2
    where
      here : drop at xs ≡ get_or xs at d ∷ drop (at + 1) xs
      here = rw add-one (drop-cons xs at d h)

-- at the end
pub all_made : {X Y : Type 0} (Are : List X → List Y → Type 0) (xs : List X) (made : List Y) (at : ℕ) → length xs ≤ at → Are [] [] → GoesOn Are xs made at → Are xs made
all_made {Y = Y} Are xs made at h none g = rw append-nil at (g.forth [] (rw (drop_all at xs h) none))

pub only_made : {X Y : Type 0} (Are : List X → List Y → Type 0) (xs : List X) (made : List Y) (at : ℕ) → length xs ≤ at → ((ys : List Y) → Are [] ys → ys ≡ []) → GoesOn Are xs made at → (ys : List Y) → Are xs ys → ys ≡ made
only_made {Y = Y} Are xs made at h none g ys a = let b : _ = g.back ys a in b.2 ∙ (ap (λ (zs : List Y). made ++ zs) (none b.0 (rw (drop_all at xs h) at b.1)) ∙ append-nil made)

-- ---- items and parts

one_less : (n : ℕ) → suc n - 1 ≡ n
one_less n = omega arith

-- f-strings one within another
pub nodes_of_parts : (levels : ℕ) (mode : Mode) (ps : List FPart) (ns : List Node) → 0 < levels → HasNodes levels mode ps ns → AreParts (HasNodes (levels - 1) mode) mode ps ns
nodes_of_parts zero mode ps ns h a = absurd (omega arith)
nodes_of_parts (suc n) mode ps ns h a = rw (one_less n) a

pub parts_of_nodes : (levels : ℕ) (mode : Mode) (ps : List FPart) (ns : List Node) → 0 < levels → AreParts (HasNodes (levels - 1) mode) mode ps ns → HasNodes levels mode ps ns
parts_of_nodes zero mode ps ns h a = absurd (omega arith)
parts_of_nodes (suc n) mode ps ns h a = rw (one_less n) at a

pub by_item : (I : Insides) (mode : Mode) → OneByOne (λ t ts i. IsItem I mode t ts i) (AreItems I mode)
by_item I mode t ts is = (λ h. h, λ i more one are e. (i, more, one, are, e))

pub by_part : (I : Insides) (mode : Mode) → OneByOne (λ p ps n. IsPart I mode p n) (AreParts I mode)
by_part I mode p ps ns = (λ h. h, λ n more one are e. (n, more, one, are, e))

-- ---- an `=` behind an expression

pub equal_dropped : (front : List PyToken) (last : PyToken) → is_equal last ≡ true → without_equal (front ++ last ∷ []) ≡ front
equal_dropped [] last h = rw h refl
equal_dropped (t ∷ []) last h = rw h refl
equal_dropped (t ∷ u ∷ ts) last h = ap (λ (us : List PyToken). t ∷ us) (equal_dropped (u ∷ ts) last h)

pub equal_kept : (front : List PyToken) (last : PyToken) → is_equal last ≡ false → without_equal (front ++ last ∷ []) ≡ front ++ last ∷ []
equal_kept [] last h = rw h refl
equal_kept (t ∷ []) last h = rw h refl
equal_kept (t ∷ u ∷ ts) last h = ap (λ (us : List PyToken). t ∷ us) (equal_kept (u ∷ ts) last h)

-- ---- fields

pub finds_none : {Y : Type 0} (P : Y → Type 0) (o : Option Y) → ((y : Y) → o ≡ Some y → ⊥) → Finds P o → (y : Y) → P y → ⊥
finds_none P None none f y p = f y p
finds_none P (Some z) none f y p = absurd (none z refl)

pub finds_some : {Y : Type 0} (P : Y → Type 0) (o : Option Y) (y : Y) → o ≡ Some y → Finds P o → P y × ((z : Y) → P z → z ≡ y)
finds_some P o y e f = rw e at f

module _ (I : Insides) (mode : Mode) (p : FPart) (ts : List PyToken) (conversion : List ℕ) (format : List FPart) (span : Span) (is : p ≡ FPart.Field ts conversion format span) where
  opened : out-FPart p ≡ layers.Field ts conversion format span
  opened = ap out-FPart is ∙ (ap out-FPart (sym (rolls-Field ts conversion format span)) ∙ out-roll-FPart (layers.Field ts conversion format span))

  pub field_parts : (n : Node) → IsPart I mode p n → (value : Node) × (nodes : List Node) × IsValue I mode ts value × I format nodes × (n ≡ field_node span conversion value nodes)
  field_parts n h = rw (opened, IsPart) at h

  pub found_field : (value : Node) (nodes : List Node) (n : Node) → IsValue I mode ts value × ((z : Node) → IsValue I mode ts z → z ≡ value) → I format nodes × ((zs : List Node) → I format zs → zs ≡ nodes) → n ≡ field_node span conversion value nodes → Finds (IsPart I mode p) (Some n)
  found_field value nodes n v w e = (rw (opened, IsPart) (value, nodes, v.0, w.0, e), λ m h. (let q : _ = field_parts m h in q.4 ∙ (rw (v.1 q.0 q.2, w.1 q.1 q.3) refl ∙ sym e)))
