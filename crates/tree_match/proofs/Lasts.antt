-- Parts that have to reach the last kid stand on the last kids.
use Rattle.std.proofs.Common.{◌≡◌, ◌↔◌, ℕ, zero, suc, ◌+◌, ◌-◌, ◌<◌, ◌≤◌, List, [], ◌∷◌, length, drop, refl, sym, ap, ◌∙◌, subst, arith, length-drop, true, false}
use Rattle.std.specs.Prelude.{None, Some}
use Rattle.std.proofs.lemmas.List.{drop_all, drop-drop}
use Rattle.node_tree.specs.declared.known.Known.{Known}
use Rattle.node_tree.specs.declared.span.Span.{Span}
use Rattle.node_tree.specs.Numbers.{Numbered, kids_at}
use Rattle.meta_bind.specs.declared.bound.Bound.{Bound}
use Rattle.node_match.specs.declared.class.Role.{Role}
use Rattle.node_match.specs.Free.{Part, parts_of}
use Rattle.node_match.specs.Kinds.{IsOne}
use Rattle.node_match.specs.Fronts.{End, Leads, MatchesFront, no_part_front, head_front, free_front, dots_front, named_dots_front}
use Rattle.node_pool.specs.Spots.{seen}
use Rattle.node_search.specs.declared.state.State.{State}
use Rattle.node_search.specs.States.{line_of, AnyFrom, Goes}
use Rattle.tree_match.specs.declared.aim.Aim.{Aim}
use Rattle.tree_match.specs.declared.aim.Aim.TheVariants.{All}
use Rattle.tree_match.specs.declared.aim.Search.{Search}
use Rattle.tree_match.specs.declared.outer.Outer.{Outer}
use Rattle.tree_match.specs.declared.outer.Left.{Left}
use Rattle.tree_match.specs.declared.outer.Left.TheVariants.{Kids, Candidates}
use Rattle.tree_match.specs.Members.{Member}
use Rattle.node_match.specs.Refused.{all_single}
use Rattle.tree_match.specs.Aims.{Resumes, GivesOn, FoundFrom, TakesAll}
use Rattle.tree_match.proofs.LeftLaws.{all_from}

-- ---- how many kids are left

-- as many items are left of a list
same_rest : {X : Type 0} (xs : List X) (i j : ℕ) → length (drop i xs) ≡ length (drop j xs) → drop i xs ≡ drop j xs
same_rest [] i j e = drop_all i [] (omega arith) ∙ sym (drop_all j [] (omega arith))
same_rest (x ∷ xs) zero zero e = refl
same_rest (x ∷ xs) zero (suc j) e = absurd (let f : suc (length xs) ≡ length (drop j xs) = e in omega (arith, f, length-drop j xs))
same_rest (x ∷ xs) (suc i) zero e = absurd (let f : length (drop i xs) ≡ suc (length xs) = e in omega (arith, f, length-drop i xs))
same_rest (x ∷ xs) (suc i) (suc j) e = same_rest xs i j e

module _ (C : List Known) (h : Numbered) where
  -- each part takes one kid
  taken : (ps : List Part) (ns rest : List Numbered) (b c : List Bound) → all_single ps → MatchesFront C h ps ns rest b c → length ns ≡ length ps + length rest
  taken [] ns _ b _ single no_part_front = omega arith
  taken (Some p ∷ ps) (n ∷ ns) rest b c single (head_front {c = d} m x) = omega (arith, taken ps ns rest d c single.1 x)
  taken (None ∷ ps) [] rest b c single x = elim x [ ]
  taken (None ∷ ps) (n ∷ ns) rest b c single (free_front x) = omega (arith, taken ps ns rest b c single.1 x)
  taken (Some p ∷ ps) ns rest b c single (dots_front k r x) = let P : Role → Type 0 = IsOne in absurd (subst P r single.0)
  taken (Some p ∷ ps) ns rest b c single (named_dots_front k r m x) = let P : Role → Type 0 = IsOne in absurd (subst P r single.0)

  module _ (ps : List Part) (single : all_single ps) (b : List Bound) (e : End) (all : e.0 ≡ []) where
    left_over : (i : ℕ) → Leads C h ps (drop i (kids_at h)) b e → length (drop i (kids_at h)) ≡ length ps
    left_over i x = omega (arith, taken ps (drop i (kids_at h)) e.0 b e.1 single x, ap length all)

    -- from a place on, or at the one from which they reach the last
    pub at_last : (i last : ℕ) → i ≤ last → length ps + last ≡ length (kids_at h) → Leads C h ps (drop last (kids_at h)) b e ↔ Goes C true h ps (drop i (kids_at h)) b e
    at_last i last le many = (
      λ x.
          let P : List Numbered → Type 0 = λ ns. Leads C h ps ns b e in
          let f : i + (last - i) ≡ last = omega (arith, le) in
          (last - i, subst P (sym (drop-drop (last - i) i (kids_at h) ∙ ap (λ (k : ℕ). drop k (kids_at h)) f)) x),
      λ (k, x).
          let P : List Numbered → Type 0 = λ ns. Leads C h ps ns b e in
          let y = subst P (drop-drop k i (kids_at h)) x in
          let same = same_rest (kids_at h) (i + k) last (left_over (i + k) y ∙ omega (arith, many, length-drop last (kids_at h))) in
          subst P same y,
    )

    -- past that place they don't
    pub past_last : (i : ℕ) → 0 < length ps → length (kids_at h) < length ps + i → Goes C true h ps (drop i (kids_at h)) b e → ⊥
    past_last i some past (k, x) =
        let P : List Numbered → Type 0 = λ ns. Leads C h ps ns b e in
        let y = subst P (drop-drop k i (kids_at h)) x in
        absurd (omega (arith, left_over (i + k) y, length-drop (i + k) (kids_at h), some, past))

-- ---- searches that take all kids

no_kid : (C : List Known) (G : End → Type 0) (o : Outer) (e : End) (left : Left) → Resumes C G o left e → e.0 ≡ []
no_kid C G o e (Kids at) x = x.0
no_kid C G o e (Candidates left) x = x.0

pub whole_inside : (s : Search) → 0 < length s.outer.now → TakesAll s
whole_inside s some m e = all s.outer.now some
  where
    all : (os : List Outer) → 0 < length os → GivesOn s.known.names.now s.aim (seen s.holder.spot) os m e → e.0 ≡ []
    all [] some x = absurd (omega (arith, some))
    all (o ∷ os) some x = no_kid s.known.names.now _ o e o.left x

pub whole_given : (C : List Known) (range : Span) (h : Numbered) (os : List Outer) (m : Member) (e : End) → GivesOn C (All range) h os m e → e.0 ≡ []
whole_given C range h [] m e (none, _, _) = none
whole_given C range h (o ∷ os) m e x = no_kid C _ o e o.left x

pub whole_aim : (s : Search) (range : Span) → s.aim ≡ All range → TakesAll s
whole_aim s range is m e x =
    let P : Aim → Type 0 = λ a. GivesOn s.known.names.now a (seen s.holder.spot) s.outer.now m e in
    whole_given s.known.names.now range (seen s.holder.spot) s.outer.now m e (subst P is x)

-- states that lead to the same ends where all kids are taken
pub found_whole : (s : Search) (from : ℕ) (old new : List State) (m : Member) → s.unnamed ≡ false → TakesAll s
    → ((c : End) → c.0 ≡ [] → AnyFrom s.known.names.now (line_of (seen s.holder.spot)) (drop from (parts_of s.pattern.now)) new c ↔ AnyFrom s.known.names.now (line_of (seen s.holder.spot)) (drop from (parts_of s.pattern.now)) old c)
    → FoundFrom s from new m ↔ FoundFrom s from old m
found_whole s from old new m all whole same =
    let there = λ (states : List State) (e : End). all_from s from states s.known.names.now e all in (
      λ (e, gives, x). (e, gives, (there old e).0 ((same e (whole m e gives)).0 ((there new e).1 x))),
      λ (e, gives, x). (e, gives, (there new e).0 ((same e (whole m e gives)).1 ((there old e).1 x))),
    )
