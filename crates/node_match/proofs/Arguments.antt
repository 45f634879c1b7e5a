-- The arguments of a call.
use Rattle.std.proofs.Common.{◌≡◌, ◌⊎◌, inl, inr, ◌↔◌, ℕ, zero, suc, ◌+◌, ◌<◌, ◌≤◌, List, [], ◌∷◌, ◌++◌, length, drop, get_or, map, refl, sym, ap, ◌∙◌, subst, arith, add-one, append_assoc, cond, Bool, true, false, not}
use Rattle.std.specs.Prelude.{filter, None, Some, ◌&&◌, ◌||◌}
use Rattle.std.proofs.lemmas.List.{drop_all}
use Rattle.std.proofs.Math.Seq.{drop-cons}
use Rattle.node_tree.specs.declared.node.Node.{Node}
use Rattle.node_tree.specs.declared.kind.Kind.{Kind}
use Rattle.node_tree.specs.declared.kind.Kind.TheVariants as kinds
use Rattle.node_tree.specs.declared.known.Known.{Known}
use Rattle.node_tree.specs.Tree.{kind_of, kids_of}
use Rattle.node_tree.specs.Numbers.{Numbered, kids_at}
use Rattle.node_pool.specs.declared.spot.Spot.{Spot}
use Rattle.node_pool.specs.Spots.{seen, all_seen}
use Rattle.meta_bind.specs.declared.bound.Bound.{Bound}
use Rattle.node_match.specs.Sets.{Among}
use Rattle.node_match.specs.Kinds.{role_of, IsOne}
use Rattle.node_match.specs.Free.{Part, is_free, parts_from, parts_of, HasText}
use Rattle.node_match.specs.Orders.{is_run, is_run_role, some_is, has_runs, has_dots, is_call, is_list, is_named, is_arguments, named_of, unnamed_of, named_at, unnamed_at, parted_at, is_in, all_asked}
use Rattle.node_match.specs.Relation.{Matches, MatchesKid, MatchesArguments, MatchesList, arguments, by_itself, as_arguments, nodes_of}
use Rattle.node_match.specs.Choices.{Chosen}

and_first : (a b : Bool) → (a && b) ≡ true → a ≡ true
and_first true b e = refl
and_first false b e = absurd cc

and_second : (a b : Bool) → (a && b) ≡ true → b ≡ true
and_second true b e = e
and_second false b e = absurd cc

not_true : (a : Bool) → not a ≡ true → a ≡ false
not_true true e = absurd cc
not_true false e = refl

-- ---- what the arguments are

pub arguments_listed : (k : Kind) (p : Node) → is_arguments k p ≡ true → is_list (kind_of p) ≡ true
arguments_listed k p e = and_first (is_list (kind_of p)) (not (has_runs (kids_of p))) (and_second (is_call k) (is_list (kind_of p) && not (has_runs (kids_of p))) e)

pub arguments_unrun : (k : Kind) (p : Node) → is_arguments k p ≡ true → has_runs (kids_of p) ≡ false
arguments_unrun k p e = not_true (has_runs (kids_of p)) (and_second (is_list (kind_of p)) (not (has_runs (kids_of p))) (and_second (is_call k) (is_list (kind_of p) && not (has_runs (kids_of p))) e))

list_one : (k : Kind) → is_list k ≡ true → IsOne (role_of k)
list_one kinds.List e = tt
list_one _ e = absurd (let f : false ≡ true = e in cc)

pub arguments_one : (k : Kind) (p : Node) → is_arguments k p ≡ true → IsOne (role_of (kind_of p))
arguments_one k p e = list_one (kind_of p) (arguments_listed k p e)

-- a list asks for each of its items
list_free : (k : Kind) (at : ℕ) (q : Node) → is_list k ≡ true → is_free k at q ≡ false
list_free kinds.List at q e = refl
list_free _ at q e = absurd (let f : false ≡ true = e in cc)

all_asked_from : (k : Kind) (at : ℕ) (qs : List Node) → is_list k ≡ true → parts_from k at qs ≡ all_asked qs
all_asked_from k at [] e = refl
all_asked_from k at (q ∷ qs) e = ap (λ (t : Bool). cond t None (Some q) ∷ parts_from k (at + 1) qs) (list_free k at q e) ∙ ap (λ (ps : List Part). Some q ∷ ps) (all_asked_from k (at + 1) qs e)

pub list_parts : (p : Node) → is_list (kind_of p) ≡ true → parts_of p ≡ all_asked (kids_of p)
list_parts p e = all_asked_from (kind_of p) 0 (kids_of p) e

-- ---- a kid of a holder

module _ (C : List Known) (h : Numbered) (p : Node) (n : Numbered) (b : List Bound) where
  pub kid_itself : (c : List Bound) → is_arguments (kind_of h.node) p ≡ false → Matches C p n b c ↔ MatchesKid C h p n b c
  kid_itself c other = (λ x. by_itself other x, λ x. to c x)
    where
      to : (c : List Bound) → MatchesKid C h p n b c → Matches C p n b c
      to c (by_itself _ x) = x
      to c (as_arguments are _) = absurd (let e : false ≡ true = sym other ∙ are in cc)

  pub kid_arguments : (c : List Bound) → is_arguments (kind_of h.node) p ≡ true → MatchesArguments C p n b c ↔ MatchesKid C h p n b c
  kid_arguments c are = (λ x. as_arguments are x, λ x. to c x)
    where
      to : (c : List Bound) → MatchesKid C h p n b c → MatchesArguments C p n b c
      to c (by_itself other _) = absurd (let e : false ≡ true = sym other ∙ are in cc)
      to c (as_arguments _ x) = x

-- first the arguments without a name, then those with one
abbrev pub Parted : List Known → Node → Numbered → List Bound → List Bound → Type 0
Parted C p n b d = (c : List Bound) × MatchesList C n (all_asked (unnamed_of (kids_of p))) (unnamed_at (kids_at n)) b c × Chosen C true (has_dots (kids_of p)) (kids_of p) (named_at (kids_at n)) c d

module _ (C : List Known) (p : Node) (n : Numbered) (b : List Bound) where
  pub arguments_alike : (d : List Bound) → MatchesArguments C p n b d → (kind_of p ≡ kind_of n.node) × HasText p n.node
  arguments_alike d (arguments k t _ _ _) = (k, t)

  pub arguments_parted : (d : List Bound) → MatchesArguments C p n b d → Parted C p n b d
  arguments_parted d (arguments {rest = rest} {c = c} _ _ x ends y) = (c, x, (rest, ends, y))

  pub parted_arguments : (d : List Bound) → kind_of p ≡ kind_of n.node → HasText p n.node → Parted C p n b d ↔ MatchesArguments C p n b d
  parted_arguments d k t = (λ (c, x, (rest, ends, y)). arguments k t x ends y, λ x. arguments_parted d x)

-- ---- the kids with a name, or without

module _ (named : Bool) where
  part_more : (ns : List Numbered) (n : Numbered) (t : Bool) → is_in named n.node ≡ t → parted_at named (n ∷ ns) ≡ cond t (n ∷ parted_at named ns) (parted_at named ns)
  part_more ns n t e = ap (λ (x : Bool). cond x (n ∷ parted_at named ns) (parted_at named ns)) e

  seen_from : (kids : List Spot) (i : ℕ) (s : Spot) → i < length kids → s ≡ get_or kids i s → all_seen (drop i kids) ≡ seen s ∷ all_seen (drop (i + 1) kids)
  seen_from kids i s lt is = ap all_seen (drop-cons kids i s lt ∙ ap (λ (x : Spot). x ∷ drop (suc i) kids) (sym is) ∙ ap (λ (j : ℕ). s ∷ drop j kids) (sym (add-one i)))

  seen_last : (old : List Spot) (s : Spot) → all_seen (old ++ s ∷ []) ≡ all_seen old ++ seen s ∷ []
  seen_last [] s = refl
  seen_last (o ∷ old) s = ap (λ (xs : List Numbered). seen o ∷ xs) (seen_last old s)

  pub part_taken : (kids old new : List Spot) (i : ℕ) (s : Spot) (W : List Numbered) → i < length kids → s ≡ get_or kids i s → is_in named s.node.now ≡ true → new ≡ old ++ s ∷ []
      → all_seen old ++ parted_at named (all_seen (drop i kids)) ≡ W → all_seen new ++ parted_at named (all_seen (drop (i + 1) kids)) ≡ W
  part_taken kids old new i s W lt is so put inv =
      let rest = parted_at named (all_seen (drop (i + 1) kids)) in
      ap (λ (xs : List Spot). all_seen xs ++ rest) put ∙ ap (λ (xs : List Numbered). xs ++ rest) (seen_last old s) ∙ append_assoc (all_seen old) (seen s ∷ []) rest
      ∙ ap (λ (xs : List Numbered). all_seen old ++ xs) (sym (part_more (all_seen (drop (i + 1) kids)) (seen s) true so)) ∙ ap (λ (xs : List Numbered). all_seen old ++ parted_at named xs) (sym (seen_from kids i s lt is)) ∙ inv

  pub part_passed : (kids old : List Spot) (i : ℕ) (s : Spot) (W : List Numbered) → i < length kids → s ≡ get_or kids i s → is_in named s.node.now ≡ false
      → all_seen old ++ parted_at named (all_seen (drop i kids)) ≡ W → all_seen old ++ parted_at named (all_seen (drop (i + 1) kids)) ≡ W
  part_passed kids old i s W lt is so inv =
      ap (λ (xs : List Numbered). all_seen old ++ xs) (sym (part_more (all_seen (drop (i + 1) kids)) (seen s) false so)) ∙ ap (λ (xs : List Numbered). all_seen old ++ parted_at named xs) (sym (seen_from kids i s lt is)) ∙ inv

  nothing_more : (xs : List Numbered) → xs ++ [] ≡ xs
  nothing_more [] = refl
  nothing_more (x ∷ xs) = ap (λ (ys : List Numbered). x ∷ ys) (nothing_more xs)

  pub part_whole : (kids old : List Spot) (i : ℕ) (W : List Numbered) → length kids ≤ i → all_seen old ++ parted_at named (all_seen (drop i kids)) ≡ W → all_seen old ≡ W
  part_whole kids old i W le inv = sym (nothing_more (all_seen old)) ∙ ap (λ (xs : List Spot). all_seen old ++ parted_at named (all_seen xs)) (sym (drop_all i kids le)) ∙ inv

-- ---- the patterns without a name, one after the other

module _ (ps : List Node) (i : ℕ) (p : Node) (lt : i < length ps) (is : p ≡ get_or ps i p) where
  one_on : drop i ps ≡ p ∷ drop (i + 1) ps
  one_on = drop-cons ps i p lt ∙ ap (λ (q : Node). q ∷ drop (suc i) ps) (sym is) ∙ ap (λ (j : ℕ). p ∷ drop j ps) (sym (add-one i))

  pub unnamed_next : is_named p ≡ false → all_asked (unnamed_of (drop i ps)) ≡ Some p ∷ all_asked (unnamed_of (drop (i + 1) ps))
  unnamed_next none = ap (λ (qs : List Node). all_asked (unnamed_of qs)) one_on ∙ ap (λ (t : Bool). all_asked (cond (not t) (p ∷ unnamed_of (drop (i + 1) ps)) (unnamed_of (drop (i + 1) ps)))) none

  pub unnamed_passed : is_named p ≡ true → all_asked (unnamed_of (drop i ps)) ≡ all_asked (unnamed_of (drop (i + 1) ps))
  unnamed_passed so = ap (λ (qs : List Node). all_asked (unnamed_of qs)) one_on ∙ ap (λ (t : Bool). all_asked (cond (not t) (p ∷ unnamed_of (drop (i + 1) ps)) (unnamed_of (drop (i + 1) ps)))) so

  -- a pattern that isn't bound as a run
  pub unrun_here : has_runs ps ≡ false → is_run p ≡ false
  unrun_here none = at ps i lt is none
    where
      or_first : (a b : Bool) → (a || b) ≡ false → a ≡ false
      or_first true b e = absurd cc
      or_first false b e = refl

      or_second : (a b : Bool) → (a || b) ≡ false → b ≡ false
      or_second true b e = absurd cc
      or_second false b e = e

      at : (qs : List Node) (j : ℕ) → j < length qs → p ≡ get_or qs j p → has_runs qs ≡ false → is_run p ≡ false
      at [] j less here none = absurd (omega arith)
      at (q ∷ qs) zero less here none = ap is_run here ∙ or_first (is_run q) (has_runs qs) none
      at (q ∷ qs) (suc j) less here none = at qs j (omega arith) here (or_second (is_run q) (has_runs qs) none)

-- ---- where no argument has a name

no_name : (b c : Bool) → (b || c) ≡ false → b ≡ false
no_name true c e = absurd cc
no_name false c e = refl

others_unnamed : (b c : Bool) → (b || c) ≡ false → c ≡ false
others_unnamed true c e = absurd cc
others_unnamed false c e = e

pub all_unnamed : (ps : List Node) → some_is is_named ps ≡ false → unnamed_of ps ≡ ps
all_unnamed [] e = refl
all_unnamed (p ∷ ps) e =
    ap (λ (t : Bool). cond (not t) (p ∷ unnamed_of ps) (unnamed_of ps)) (no_name (is_named p) (some_is is_named ps) e) ∙ ap (λ (qs : List Node). p ∷ qs) (all_unnamed ps (others_unnamed (is_named p) (some_is is_named ps) e))

pub all_unnamed_at : (ns : List Numbered) → some_is is_named (nodes_of ns) ≡ false → unnamed_at ns ≡ ns
all_unnamed_at [] e = refl
all_unnamed_at (n ∷ ns) e =
    ap (λ (t : Bool). cond (not t) (n ∷ unnamed_at ns) (unnamed_at ns)) (no_name (is_named n.node) (some_is is_named (nodes_of ns)) e)
    ∙ ap (λ (ms : List Numbered). n ∷ ms) (all_unnamed_at ns (others_unnamed (is_named n.node) (some_is is_named (nodes_of ns)) e))

-- a pattern with a name is among those that choose
pub among_named : (ps : List Node) (p : Node) → is_named p ≡ true → Among ps p → Among (named_of ps) p
among_named [] p so a = absurd a
among_named (q ∷ ps) p so (inl e) = let P : Bool → Type 0 = λ t. Among (cond t (q ∷ named_of ps) (named_of ps)) p in subst P (sym (ap is_named e ∙ so)) (inl e)
among_named (q ∷ ps) p so (inr a) = at (is_named q) (among_named ps p so a)
  where
    at : (t : Bool) → Among (named_of ps) p → Among (cond t (q ∷ named_of ps) (named_of ps)) p
    at true h = inr h
    at false h = h

pub among_unnamed : (ps : List Node) (p : Node) → is_named p ≡ false → Among ps p → Among (unnamed_of ps) p
among_unnamed [] p none a = absurd a
among_unnamed (q ∷ ps) p none (inl e) = let P : Bool → Type 0 = λ t. Among (cond (not t) (q ∷ unnamed_of ps) (unnamed_of ps)) p in subst P (sym (ap is_named e ∙ none)) (inl e)
among_unnamed (q ∷ ps) p none (inr a) = at (is_named q) (among_unnamed ps p none a)
  where
    at : (t : Bool) → Among (unnamed_of ps) p → Among (cond (not t) (q ∷ unnamed_of ps) (unnamed_of ps)) p
    at true h = h
    at false h = inr h

pub among_asked : (ps : List Node) (p : Node) → Among ps p → Among (all_asked ps) (Some p)
among_asked [] p a = absurd a
among_asked (q ∷ ps) p (inl e) = inl (ap Some e)
among_asked (q ∷ ps) p (inr a) = inr (among_asked ps p a)

-- those of a part are among all
pub among_part : (f : Numbered → Bool) (ns : List Numbered) (n : Numbered) → Among (filter f ns) n → Among ns n
among_part f [] n a = a
among_part f (m ∷ ns) n a = at (f m) (λ x. among_part f ns n x) a
  where
    at : (t : Bool) → (Among (filter f ns) n → Among ns n) → Among (cond t (m ∷ filter f ns) (filter f ns)) n → Among (m ∷ ns) n
    at true rest (inl e) = inl e
    at true rest (inr x) = inr (rest x)
    at false rest x = inr (rest x)
