-- Steps of a choice.
use Rattle.std.proofs.Common.{◌≡◌, ◌⊎◌, inl, inr, ◌↔◌, ℕ, zero, suc, ◌+◌, ◌≤◌, ◌<◌, List, [], ◌∷◌, ◌++◌, length, drop, get_or, set, refl, sym, ap, ◌∙◌, subst, arith, add-one, cond, Bool, true, false, not}
use Rattle.std.specs.Prelude.{remove, ◌||◌}
use Rattle.std.specs.List.{AllClonesOf}
use Rattle.std.proofs.lemmas.List.{drop_all, get_or_default, get_or-map, length-map}
use Rattle.std.proofs.Math.Seq.{drop-cons}
use Rattle.std.proofs.Math.Nat.{eq-or-lt_of_le}
use Rattle.node_tree.specs.declared.node.Node.{Node}
use Rattle.node_tree.specs.Tree.{kids_of}
use Rattle.node_tree.specs.declared.known.Known.{Known}
use Rattle.node_tree.specs.Numbers.{Numbered, kids_at}
use Rattle.node_pool.specs.declared.spot.Spot.{Spot}
use Rattle.node_pool.specs.Spots.{seen, all_seen}
use Rattle.meta_bind.specs.declared.bound.Bound.{Bound}
use Rattle.node_match.specs.Sets.{Among, Adds, AddsUpTo}
use Rattle.node_match.specs.declared.order.Order.TheVariants.{Fixed, Any}
use Rattle.node_match.specs.Orders.{order_of, is_dots, is_named, some_is, has_dots, asked_of, named_of, choosers, chooses}
use Rattle.node_match.specs.Relation.{Matches, MatchesKids, MatchesChoice, in_order, choosing, no_choice, choice}
use Rattle.node_match.specs.Choices.{untaken, all_taken, Chosen, TakesAt, TakesFrom, Picked}
use Rattle.node_match.proofs.Sets.{among_more, among_at}

-- ---- whether some pattern is so

module _ (f : Node → Bool) (ps : List Node) (i : ℕ) (W : Bool) where
  some_here : (p : Node) → i < length ps → p ≡ get_or ps i p → some_is f (drop i ps) ≡ (f p || some_is f (drop (i + 1) ps))
  some_here p lt is =
      ap (some_is f) (drop-cons ps i p lt) ∙ ap (λ (q : Node). f q || some_is f (drop (suc i) ps)) (sym is) ∙ ap (λ (j : ℕ). f p || some_is f (drop j ps)) (sym (add-one i))

  pub some_next : (p : Node) → i < length ps → p ≡ get_or ps i p → f p ≡ false → W ≡ some_is f (drop i ps) → W ≡ some_is f (drop (i + 1) ps)
  some_next p lt is not inv = inv ∙ some_here p lt is ∙ ap (λ (t : Bool). t || some_is f (drop (i + 1) ps)) not

  pub some_found : (p : Node) → i < length ps → p ≡ get_or ps i p → f p ≡ true → W ≡ some_is f (drop i ps) → true ≡ W
  some_found p lt is so inv = sym (inv ∙ some_here p lt is ∙ ap (λ (t : Bool). t || some_is f (drop (i + 1) ps)) so)

  pub some_none : length ps ≤ i → W ≡ some_is f (drop i ps) → false ≡ W
  some_none le inv = sym (inv ∙ ap (some_is f) (drop_all i ps le))

-- ---- the patterns that choose

pub asked_dots : (p : Node) (ps : List Node) → is_dots p ≡ true → asked_of (p ∷ ps) ≡ asked_of ps
asked_dots p ps so = ap (λ (t : Bool). cond t (asked_of ps) (p ∷ asked_of ps)) so

pub asked_one : (p : Node) (ps : List Node) → is_dots p ≡ false → asked_of (p ∷ ps) ≡ p ∷ asked_of ps
asked_one p ps not = ap (λ (t : Bool). cond t (asked_of ps) (p ∷ asked_of ps)) not

or_first : (a b : Bool) → (a || b) ≡ false → a ≡ false
or_first true b e = absurd cc
or_first false b e = refl

or_second : (a b : Bool) → (a || b) ≡ false → b ≡ false
or_second true b e = absurd cc
or_second false b e = e

-- a pattern that chooses, and one that doesn't
pub chooser_one : (named : Bool) (p : Node) (ps : List Node) → chooses named p ≡ true → choosers named (p ∷ ps) ≡ p ∷ choosers named ps
chooser_one true p ps so = ap (λ (t : Bool). cond t (p ∷ named_of ps) (named_of ps)) so
chooser_one false p ps so = asked_one p ps (at (is_dots p) so)
  where
    at : (t : Bool) → not t ≡ true → t ≡ false
    at true e = absurd cc
    at false e = refl

pub chooser_none : (named : Bool) (p : Node) (ps : List Node) → chooses named p ≡ false → choosers named (p ∷ ps) ≡ choosers named ps
chooser_none true p ps so = ap (λ (t : Bool). cond t (p ∷ named_of ps) (named_of ps)) so
chooser_none false p ps so = asked_dots p ps (at (is_dots p) so)
  where
    at : (t : Bool) → not t ≡ false → t ≡ true
    at true e = refl
    at false e = absurd cc

no_choosers : (named : Bool) → choosers named [] ≡ []
no_choosers true = refl
no_choosers false = refl

-- without dots all choose
pub asked_all : (ps : List Node) → has_dots ps ≡ false → asked_of ps ≡ ps
asked_all [] none = refl
asked_all (p ∷ ps) none = asked_one p ps (or_first (is_dots p) (has_dots ps) none) ∙ ap (λ (qs : List Node). p ∷ qs) (asked_all ps (or_second (is_dots p) (has_dots ps) none))

pub asked_among : (ps : List Node) (p : Node) → is_dots p ≡ false → Among ps p → Among (asked_of ps) p
asked_among [] p not a = absurd a
asked_among (q ∷ ps) p not (inl e) =
    let P : List Node → Type 0 = λ qs. Among qs p in
    subst P (sym (asked_one q ps (ap is_dots e ∙ not))) (inl e)
asked_among (q ∷ ps) p not (inr a) = at (is_dots q) (asked_among ps p not a)
  where
    at : (t : Bool) → Among (asked_of ps) p → Among (cond t (asked_of ps) (q ∷ asked_of ps)) p
    at true h = h
    at false h = inr h

-- ---- nodes that aren't taken

-- the place of such a node among those that aren't
pub place_left : (ts : List Bool) (ns : List Numbered) (j : ℕ) (n : Numbered) → length ts ≡ length ns → j < length ns → get_or ts j true ≡ false → n ≡ get_or ns j n
    → (k : ℕ) × (k < length (untaken ts ns)) × (n ≡ get_or (untaken ts ns) k n) × (remove (untaken ts ns) k ≡ untaken (set ts j true) ns)
place_left [] ns j n e lt free is = absurd (omega (arith, e))
place_left (t ∷ ts) [] j n e lt free is = absurd (omega arith)
place_left (true ∷ ts) (m ∷ ns) zero n e lt free is = absurd cc
place_left (false ∷ ts) (m ∷ ns) zero n e lt free is = (0, omega arith, is, refl)
place_left (true ∷ ts) (m ∷ ns) (suc j) n e lt free is = place_left ts ns j n (omega (arith, e)) (omega arith) free is
place_left (false ∷ ts) (m ∷ ns) (suc j) n e lt free is =
    let (k, within, here, left) = place_left ts ns j n (omega (arith, e)) (omega arith) free is in
    (suc k, omega (arith, within), here, ap (λ (xs : List Numbered). m ∷ xs) left)

-- the place among all of one that isn't taken
pub place_all : (ts : List Bool) (ns : List Numbered) (k : ℕ) (n : Numbered) → length ts ≡ length ns → k < length (untaken ts ns) → n ≡ get_or (untaken ts ns) k n
    → (j : ℕ) × (j < length ns) × (get_or ts j true ≡ false) × (n ≡ get_or ns j n) × (remove (untaken ts ns) k ≡ untaken (set ts j true) ns)
place_all [] ns k n e lt is = absurd (omega arith)
place_all (t ∷ ts) [] k n e lt is = absurd (omega arith)
place_all (true ∷ ts) (m ∷ ns) k n e lt is =
    let (j, within, free, here, left) = place_all ts ns k n (omega (arith, e)) lt is in
    (suc j, omega (arith, within), free, here, left)
place_all (false ∷ ts) (m ∷ ns) zero n e lt is = (0, omega arith, refl, is, refl)
place_all (false ∷ ts) (m ∷ ns) (suc k) n e lt is =
    let (j, within, free, here, left) = place_all ts ns k n (omega (arith, e)) (omega arith) is in
    (suc j, omega (arith, within), free, here, ap (λ (xs : List Numbered). m ∷ xs) left)

-- no node is left where each is taken
pub none_left : (ts : List Bool) (ns : List Numbered) → all_taken ts → untaken ts ns ≡ []
none_left [] ns all = refl
none_left (t ∷ ts) [] all = refl
none_left (t ∷ ts) (n ∷ ns) all = ap (λ (b : Bool). cond b (untaken ts ns) (n ∷ untaken ts ns)) all.0 ∙ none_left ts ns all.1

pub all_gone : (ts : List Bool) (ns : List Numbered) → length ts ≡ length ns → untaken ts ns ≡ [] → all_taken ts
all_gone [] ns e none = tt
all_gone (t ∷ ts) [] e none = absurd (omega (arith, e))
all_gone (true ∷ ts) (n ∷ ns) e none = (refl, all_gone ts ns (omega (arith, e)) none)
all_gone (false ∷ ts) (n ∷ ns) e none = absurd cc

-- all are left where none is taken
pub all_left : (K : Bool → Bool → Type 0) → ((x y : Bool) → K x y → y ≡ x) → (ts : List Bool) (ns : List Numbered) → AllClonesOf K false ts → length ts ≡ length ns → untaken ts ns ≡ ns
all_left K same [] [] all e = refl
all_left K same [] (n ∷ ns) all e = absurd (omega (arith, e))
all_left K same (t ∷ ts) [] all e = absurd (omega (arith, e))
all_left K same (t ∷ ts) (n ∷ ns) all e =
    let here : t ≡ false = elim all.0 [ inl x ↦ x | inr y ↦ same false t y ] in
    ap (λ (b : Bool). cond b (untaken ts ns) (n ∷ untaken ts ns)) here ∙ ap (λ (xs : List Numbered). n ∷ xs) (all_left K same ts ns all.1 (omega (arith, e)))

-- what is read of a mark
pub read_free : (ts : List Bool) (i : ℕ) (r : Bool) → i < length ts → r ≡ get_or ts i r → r ≡ false → get_or ts i true ≡ false
read_free ts i r lt is free = get_or_default ts i true r lt ∙ sym is ∙ free

-- a mark that is taken back
pub set_back : (ts : List Bool) (j : ℕ) → get_or ts j true ≡ false → set (set ts j true) j false ≡ ts
set_back [] j free = absurd cc
set_back (t ∷ ts) zero free = ap (λ (b : Bool). b ∷ ts) (sym free)
set_back (t ∷ ts) (suc j) free = ap (λ (xs : List Bool). t ∷ xs) (set_back ts j free)

-- ---- one node less

removed_many : (ns : List Numbered) (k : ℕ) → k < length ns → length ns ≡ suc (length (remove ns k))
removed_many [] k lt = absurd (omega arith)
removed_many (n ∷ ns) zero lt = refl
removed_many (n ∷ ns) (suc k) lt = ap suc (removed_many ns k (omega arith))

among_removed : (ns : List Numbered) (k : ℕ) (n : Numbered) → Among (remove ns k) n → Among ns n
among_removed [] zero n a = absurd a
among_removed [] (suc k) n a = absurd a
among_removed (m ∷ ns) zero n a = inr a
among_removed (m ∷ ns) (suc k) n (inl e) = inl e
among_removed (m ∷ ns) (suc k) n (inr a) = inr (among_removed ns k n a)

module _ (C : List Known) where
  -- ---- how kids match

  pub chosen_kids : (p : Node) (n : Numbered) (b c : List Bound) → order_of p ≡ Any → Chosen C false (has_dots (kids_of p)) (kids_of p) (kids_at n) b c ↔ MatchesKids C p n b c
  chosen_kids p n b c any = (λ (rest, ends, x). choosing any ends x, λ x. to c x)
    where
      to : (c : List Bound) → MatchesKids C p n b c → Chosen C false (has_dots (kids_of p)) (kids_of p) (kids_at n) b c
      to c (in_order fixed x) = absurd (let e : Any ≡ Fixed = sym any ∙ fixed in cc)
      to c (choosing {rest = rest} _ ends x) = (rest, ends, x)

  -- ---- what chooses and what is chosen, written otherwise

  pub chosen_as : (named f g : Bool) (ps qs : List Node) (ns ms : List Numbered) (b c : List Bound) → f ≡ g → choosers named ps ≡ choosers named qs → ns ≡ ms → Chosen C named f ps ns b c ↔ Chosen C named g qs ms b c
  chosen_as named f g ps qs ns ms b c loose asked left =
      let P : List Node → Type 0 = λ xs. (rest : List Numbered) → MatchesChoice C (choosers named ps) ns rest b c ↔ MatchesChoice C xs ms rest b c in
      let Q : List Numbered → Type 0 = λ xs. (rest : List Numbered) → MatchesChoice C (choosers named ps) ns rest b c ↔ MatchesChoice C (choosers named ps) xs rest b c in
      let same : (rest : List Numbered) → MatchesChoice C (choosers named ps) ns rest b c ↔ MatchesChoice C (choosers named qs) ms rest b c = subst P asked (subst Q left (λ rest. (λ x. x, λ x. x))) in
      (λ (rest, ends, x). (rest, (λ shut. ends (loose ∙ shut)), (same rest).0 x), λ (rest, ends, x). (rest, (λ shut. ends (sym loose ∙ shut)), (same rest).1 x))

  -- ---- the end

  ended : (ns rest : List Numbered) (b c : List Bound) → MatchesChoice C [] ns rest b c → (ns ≡ rest) × (b ≡ c)
  ended ns _ b _ no_choice = (refl, refl)

  -- the end, whichever patterns chose
  abbrev End : Bool → List Node → List Numbered → List Bound → List Bound → Type 0
  End f qs ns b c = (rest : List Numbered) × (f ≡ false → rest ≡ []) × MatchesChoice C qs ns rest b c

  pub ends_loose : (named f : Bool) (ns : List Numbered) (b t c : List Bound) → t ≡ b → f ≡ true → (t ≡ c) ↔ Chosen C named f [] ns b c
  ends_loose named f ns b t c is loose =
      let Q : List Node → Type 0 = λ qs. (t ≡ c) ↔ End f qs ns b c in
      subst Q (sym (no_choosers named)) (
        λ e. let P : List Bound → Type 0 = λ x. MatchesChoice C [] ns ns b x in (ns, λ shut. absurd (let x : true ≡ false = sym loose ∙ shut in cc), subst P (sym is ∙ e) no_choice),
        λ (rest, _, x). is ∙ (ended ns rest b c x).1,
      )

  pub ends_shut : (named f : Bool) (ns : List Numbered) (b t c : List Bound) → t ≡ b → ns ≡ [] → (t ≡ c) ↔ Chosen C named f [] ns b c
  ends_shut named f ns b t c is empty =
      let Q : List Node → Type 0 = λ qs. (t ≡ c) ↔ End f qs ns b c in
      subst Q (sym (no_choosers named)) (
        λ e. let P : List Bound → Type 0 = λ x. MatchesChoice C [] ns ns b x in (ns, λ _. empty, subst P (sym is ∙ e) no_choice),
        λ (rest, _, x). is ∙ (ended ns rest b c x).1,
      )

  pub not_ended : (named f : Bool) (ns : List Numbered) (b c : List Bound) → f ≡ false → (ns ≡ [] → ⊥) → Chosen C named f [] ns b c → ⊥
  not_ended named f ns b c shut some goes =
      let Q : List Node → Type 0 = λ qs. End f qs ns b c → ⊥ in
      subst Q (sym (no_choosers named)) (λ (rest, ends, x). some ((ended ns rest b c x).0 ∙ ends shut)) goes

  -- ---- one pattern

  module _ (named f : Bool) (p : Node) (ps : List Node) (ts : List Bool) (ns : List Numbered) (many : length ts ≡ length ns) (b c : List Bound) where
    first_chosen : (rest : List Numbered) → MatchesChoice C (p ∷ choosers named ps) (untaken ts ns) rest b c
        → (j : ℕ) × (j < length ns) × (get_or ts j true ≡ false) × (n : Numbered) × (n ≡ get_or ns j n) × (d : List Bound) × Matches C p n b d × MatchesChoice C (choosers named ps) (untaken (set ts j true) ns) rest d c
    first_chosen rest x = at (untaken ts ns) refl x
      where
        at : (ms : List Numbered) → untaken ts ns ≡ ms → MatchesChoice C (p ∷ choosers named ps) ms rest b c
            → (j : ℕ) × (j < length ns) × (get_or ts j true ≡ false) × (n : Numbered) × (n ≡ get_or ns j n) × (d : List Bound) × Matches C p n b d × MatchesChoice C (choosers named ps) (untaken (set ts j true) ns) rest d c
        at ms e (choice {c = d} k n lt is x y) =
            let P : List Numbered → Type 0 = λ xs. k < length xs in
            let Q : List Numbered → Type 0 = λ xs. n ≡ get_or xs k n in
            let (j, within, free, here, left) = place_all ts ns k n many (subst P (sym e) lt) (subst Q (sym e) is) in
            let R : List Numbered → Type 0 = λ xs. MatchesChoice C (choosers named ps) xs rest d c in
            (j, within, free, n, here, d, x, subst R (ap (λ (xs : List Numbered). remove xs k) (sym e) ∙ left) y)

    pub takes : chooses named p ≡ true → TakesFrom C named f 0 p ps ts ns b c ↔ Chosen C named f (p ∷ ps) (untaken ts ns) b c
    takes so = (
      λ (j, _, lt, (free, n, is, d, x, (rest, ends, y))).
          let (k, within, here, left) = place_left ts ns j n many lt free is in
          let P : List Numbered → Type 0 = λ xs. MatchesChoice C (choosers named ps) xs rest d c in
          let Q : List Node → Type 0 = λ qs. MatchesChoice C qs (untaken ts ns) rest b c in
          (rest, ends, subst Q (sym (chooser_one named p ps so)) (choice k n within here x (subst P (sym left) y))),
      λ (rest, ends, x).
          let Q : List Node → Type 0 = λ qs. MatchesChoice C qs (untaken ts ns) rest b c in
          let (j, lt, free, n, is, d, y, z) = first_chosen rest (subst Q (chooser_one named p ps so) x) in
          (j, omega arith, lt, (free, n, is, d, y, (rest, ends, z))),
    )

    pub take_more : (k : ℕ) → k < length ns → TakesFrom C named f k p ps ts ns b c ↔ (TakesAt C named f k p ps ts ns b c ⊎ TakesFrom C named f (k + 1) p ps ts ns b c)
    take_more k lt = (
      λ (j, le, within, x). elim (split j le) [
        | inl e ↦ (let P : ℕ → Type 0 = λ i. TakesAt C named f i p ps ts ns b c in inl (subst P e x))
        | inr more ↦ inr (j, more, within, x)
      ],
      λ r. elim r [ inl x ↦ (k, omega arith, lt, x) | inr (j, more, within, x) ↦ (j, omega arith, within, x) ],
    )
      where
        split : (j : ℕ) → k ≤ j → (j ≡ k) ⊎ (k + 1 ≤ j)
        split j le = elim (eq-or-lt_of_le le) [ inl e ↦ inl (sym e) | inr more ↦ inr (omega arith) ]

    pub none_takes : (k : ℕ) → length ns ≤ k → TakesFrom C named f k p ps ts ns b c → ⊥
    none_takes k le (j, more, within, x) = absurd (omega arith)

    -- a node that is taken is taken by no other
    pub taken_once : (k : ℕ) → get_or ts k true ≡ true → TakesAt C named f k p ps ts ns b c → ⊥
    taken_once k gone x = let e : true ≡ false = sym gone ∙ x.0 in cc

    -- the bindings with which the first pattern takes a node
    pub picked_at : (k : ℕ) (n : Numbered) (old found : List (List Bound)) → k < length ns → n ≡ get_or ns k n → get_or ts k true ≡ false → old ≡ [] → Adds old found (λ d. Matches C p n b d)
        → Picked C named f ps (untaken (set ts k true) ns) found c ↔ TakesAt C named f k p ps ts ns b c
    picked_at k n old found lt is free empty adds = (
      λ (d, among, x). elim ((adds d).0 among) [ inl a ↦ (let R : List (List Bound) → Type 0 = λ xs. Among xs d in absurd (subst R empty a)) | inr m ↦ (free, n, is, d, m, x) ],
      λ (_, m, m-is, d, x, y).
          let e : m ≡ n = m-is ∙ get_or_default ns k m n lt ∙ sym is in
          let Q : Numbered → Type 0 = λ y. Matches C p y b d in
          (d, (adds d).1 (inr (subst Q e x)), y),
    )

  -- ---- bindings one by one

  pub picked_last : (named f : Bool) (ps : List Node) (ns : List Numbered) (old new : List (List Bound)) (last c : List Bound) → old ≡ new ++ last ∷ [] → Picked C named f ps ns old c ↔ (Chosen C named f ps ns last c ⊎ Picked C named f ps ns new c)
  picked_last named f ps ns old new last c e =
      let P : List (List Bound) → Type 0 = λ found. Picked C named f ps ns found c ↔ (Chosen C named f ps ns last c ⊎ Picked C named f ps ns new c) in
      subst P (sym e) (
        λ (d, among, goes). elim ((among_more new last d).0 among) [ inl a ↦ inr (d, a, goes) | inr is ↦ let Q : List Bound → Type 0 = λ x. Chosen C named f ps ns x c in inl (subst Q (sym is) goes) ],
        λ a. elim a [ inl goes ↦ (last, (among_more new last last).1 (inr refl), goes) | inr (d, among, goes) ↦ (d, (among_more new last d).1 (inl among), goes) ],
      )

  pub none_picked : (named f : Bool) (ps : List Node) (ns : List Numbered) (found : List (List Bound)) (c : List Bound) → found ≡ [] → Picked C named f ps ns found c → ⊥
  none_picked named f ps ns found c e (d, among, goes) = let P : List (List Bound) → Type 0 = λ xs. Among xs d in subst P e among

  -- ---- what a choice needs

  -- as many nodes as patterns, and those that are left over
  pub choice_many : (ps : List Node) (ns rest : List Numbered) (b c : List Bound) → MatchesChoice C ps ns rest b c → length ns ≡ length ps + length rest
  choice_many _ ns _ b _ no_choice = omega arith
  choice_many (p ∷ ps) ns rest b c (choice {c = d} k n lt is x y) = omega (arith, choice_many ps (remove ns k) rest d c y, removed_many ns k lt)

  -- each pattern matches a node
  pub choice_meets : (q : Node) (ps : List Node) (ns rest : List Numbered) (b c : List Bound) → Among ps q → MatchesChoice C ps ns rest b c → (n : Numbered) × Among ns n × (d : List Bound) × (e : List Bound) × Matches C q n d e
  choice_meets q _ ns _ b _ a no_choice = absurd a
  choice_meets q (p ∷ ps) ns rest b c (inl e) (choice {c = d} k n lt is x y) = let P : Node → Type 0 = λ z. Matches C z n b d in (n, among_at ns k n lt is, b, d, subst P e x)
  choice_meets q (p ∷ ps) ns rest b c (inr a) (choice {c = d} k n lt is x y) =
      let (m, among, e, g, z) = choice_meets q ps (remove ns k) rest d c a y in
      (m, among_removed ns k m among, e, g, z)

-- ---- places

-- the patterns from one on
pub patterns_from : (ps : List Node) (i : ℕ) (p : Node) → i < length ps → p ≡ get_or ps i p → drop i ps ≡ p ∷ drop (i + 1) ps
patterns_from ps i p lt is = drop-cons ps i p lt ∙ ap (λ (q : Node). q ∷ drop (suc i) ps) (sym is) ∙ ap (λ (j : ℕ). p ∷ drop j ps) (sym (add-one i))

pub seen_many : (refs : List Spot) → length (all_seen refs) ≡ length refs
seen_many refs = length-map refs seen

pub seen_at : (refs : List Spot) (i : ℕ) (r : Spot) → i < length refs → r ≡ get_or refs i r → seen r ≡ get_or (all_seen refs) i (seen r)
seen_at refs i r lt is = let f : Spot → Numbered = seen in ap f is ∙ sym (get_or-map f refs i r (seen r) lt)

-- the patterns that choose from one on
pub choosers_from : (named : Bool) (ps : List Node) (i : ℕ) (p : Node) → i < length ps → p ≡ get_or ps i p → choosers named (drop i ps) ≡ choosers named (p ∷ drop (i + 1) ps)
choosers_from named ps i p lt is = ap (choosers named) (patterns_from ps i p lt is)

module _ (C : List Known) where
  -- the nodes that are left, written otherwise
  pub picked_as : (named f : Bool) (ps : List Node) (ns ms : List Numbered) (found : List (List Bound)) (c : List Bound) → ns ≡ ms → Picked C named f ps ns found c ↔ Picked C named f ps ms found c
  picked_as named f ps ns ms found c e = let P : List Numbered → Type 0 = λ xs. Picked C named f ps ns found c ↔ Picked C named f ps xs found c in subst P e (λ x. x, λ x. x)

  -- the members by a choice with some marks, written by equal marks
  pub takes_as : (most : ℕ) (old new : List (List Bound)) (named f : Bool) (k : ℕ) (p : Node) (ps : List Node) (ts us : List Bool) (ns : List Numbered) (b : List Bound) → ts ≡ us
      → AddsUpTo most old new (λ c. TakesAt C named f k p ps ts ns b c) → AddsUpTo most old new (λ c. TakesAt C named f k p ps us ns b c)
  takes_as most old new named f k p ps ts us ns b e adds = let P : List Bool → Type 0 = λ xs. AddsUpTo most old new (λ c. TakesAt C named f k p ps xs ns b c) in subst P e adds

  pub chosen_at : (most : ℕ) (old new : List (List Bound)) (named f : Bool) (ps : List Node) (ts us : List Bool) (ns : List Numbered) (b : List Bound) → ts ≡ us
      → AddsUpTo most old new (λ c. Chosen C named f ps (untaken ts ns) b c) → AddsUpTo most old new (λ c. Chosen C named f ps (untaken us ns) b c)
  chosen_at most old new named f ps ts us ns b e adds = let P : List Bool → Type 0 = λ xs. AddsUpTo most old new (λ c. Chosen C named f ps (untaken xs ns) b c) in subst P e adds
