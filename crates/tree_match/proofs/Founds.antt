-- The members that a search finds.
use Rattle.std.proofs.Common.{◌≡◌, ◌⊎◌, ◌↔◌, ℕ, ◌+◌, ◌<◌, ◌≤◌, List, [], ◌∷◌, ◌++◌, length, drop, reverse, refl, sym, subst, arith, Bool, true, false}
use Rattle.meta_bind.specs.declared.bound.Bound.{Bound}
use Rattle.node_tree.specs.declared.known.Known.{Known}
use Rattle.node_tree.specs.Numbers.{Numbered, kids_at}
use Rattle.node_pool.specs.Spots.{seen, all_seen}
use Rattle.node_match.specs.Sets.{Adds}
use Rattle.node_match.specs.Free.{Part}
use Rattle.node_match.specs.Fronts.{End}
use Rattle.node_match.proofs.Sets.{chain}
use Rattle.node_search.specs.declared.state.State.{State}
use Rattle.node_search.specs.States.{Line, Goes, AnyFrom}
use Rattle.node_search.specs.Kids.{line}
use Rattle.node_search.proofs.Lines.{whole_line}
use Rattle.tree_match.specs.declared.aim.Aim.{Aim}
use Rattle.tree_match.specs.declared.aim.Aim.TheVariants.{All}
use Rattle.node_tree.specs.declared.span.Span.{Span}
use Rattle.tree_match.specs.declared.aim.Search.{Search}
use Rattle.tree_match.specs.declared.outer.Outer.{Outer}
use Rattle.tree_match.specs.declared.outer.Left.{Left}
use Rattle.tree_match.specs.declared.outer.Left.TheVariants.{Kids, Candidates}
use Rattle.tree_match.specs.declared.outer.Candidates.{Candidates as CandidatesOf}
use Rattle.node_match.specs.Choices.{untaken, Picked}
use Rattle.node_tree.specs.Tree.{kids_of}
use Rattle.tree_match.specs.declared.place.Inside.{Inside}
use Rattle.tree_match.specs.Members.{Member}
use Rattle.tree_match.specs.Aims.{Gives, Resumes, GivesOn, GivesIn, MemberFrom, MemberAfter, FoundFrom, FoundAt, left_of}
use Rattle.tree_match.specs.Lefts.{left_parts}
use Rattle.tree_match.specs.Choosings.{FoundInside}
use Rattle.tree_match.specs.Insides.{Opens}
use Rattle.tree_match.proofs.Spreads.{Reached, ReachedAt, OfSome, last_state, states_as, one_state, state_after, after_more, after_last, no_states, states_turned, ends_on, ends_choose}
use Rattle.tree_match.proofs.InsideLaws.{inside_reached}
use Rattle.tree_match.proofs.LeftLaws.{none_left}

nothing : (os : List Outer) → length os ≡ 0 → os ≡ []
nothing [] e = refl
nothing (o ∷ os) e = absurd (omega (arith, e))

-- with no outer list
pub outermost : (C : List Known) (aim : Aim) (h : Numbered) (os : List Outer) (ps : List Part) (ks : List Numbered) (at : ℕ) (b : List Bound) (m : Member) → os ≡ [] → ks ≡ kids_at h
    → ((e : End) × GivesOn C aim h os m e × Goes C false h ps (drop at ks) b e) ↔ MemberAfter C aim false h ps at b m
outermost C aim h os ps ks at b m none all =
    let P : List Outer → Type 0 = λ xs. ((e : End) × GivesOn C aim h xs m e × Goes C false h ps (drop at ks) b e) ↔ MemberAfter C aim false h ps at b m in
    let K : List Numbered → Type 0 = λ ns. ((e : End) × Gives aim h e m × Goes C false h ps (drop at ns) b e) ↔ MemberAfter C aim false h ps at b m in
    subst P (sym none) (subst K (sym all) (λ x. x, λ x. x))

-- and the range is known
pub whole_found : (C : List Known) (range : Span) (h : Numbered) (os : List Outer) (P : List Bound → Type 0) (m : Member) → os ≡ [] → ((c : List Bound) × GivesOn C (All range) h os m ([], c) × P c) ↔ ((m.0 ≡ range) × P m.1)
whole_found C range h os P m none =
    let Q : List Outer → Type 0 = λ xs. ((c : List Bound) × GivesOn C (All range) h xs m ([], c) × P c) ↔ ((m.0 ≡ range) × P m.1) in
    subst Q (sym none) (λ (c, (_, is, same), x). (is, subst P (sym same) x), λ (is, x). (m.1, (refl, is, refl), x))

-- a search for arguments alone isn't the outermost
outermost_whole : (unnamed : Bool) (outer : ℕ) → outer ≡ 0 → (unnamed ≡ true → 0 < outer) → unnamed ≡ false
outermost_whole true outer none inner = absurd (omega (arith, none, inner refl))
outermost_whole false outer none inner = refl

-- a part that is passed over
pub found_passed : (s : Search) (m : Member) (at : ℕ) (states : List State) → left_of s at ≡ left_of s (at + 1) → FoundFrom s (at + 1) states m ↔ FoundFrom s at states m
found_passed s m at states same =
    let P : List Part → Type 0 = λ ps. Reached s.known.names.now (GivesIn s m) (line s.holder) ps states ↔ FoundFrom s at states m in
    subst P same (λ x. x, λ x. x)

module _ (s : Search) (from : ℕ) (m : Member) where
  pub last_found : (old new : List State) (last : State) → old ≡ new ++ last ∷ [] → FoundFrom s from old m ↔ (FoundFrom s from (last ∷ []) m ⊎ FoundFrom s from new m)
  last_found = last_state s.known.names.now (GivesIn s m) (line s.holder) (left_of s from)

  pub found_turned : (states turned : List State) → turned ≡ reverse states → FoundFrom s from turned m ↔ FoundFrom s from states m
  found_turned = states_turned s.known.names.now (GivesIn s m) (line s.holder) (left_of s from)

  pub none_found : (states : List State) → states ≡ [] → FoundFrom s from states m → ⊥
  none_found = no_states s.known.names.now (GivesIn s m) (line s.holder) (left_of s from)

  pub one_found : (one : List State) (state : State) → one ≡ state ∷ [] → FoundFrom s from one m ↔ FoundFrom s from (state ∷ []) m
  one_found = one_state s.known.names.now (GivesIn s m) (line s.holder) (left_of s from)

  pub found_at : (state : State) (floating : Bool) (at : ℕ) (b : List Bound) → state.floating ≡ floating → state.at ≡ at → state.trail ≡ b → FoundAt s floating from at b m ↔ FoundFrom s from (state ∷ []) m
  found_at = state_after s.known.names.now (GivesIn s m) (line s.holder) (left_of s from)

  pub found_more : (at : ℕ) (b : List Bound) → FoundAt s true from at b m ↔ (FoundAt s false from at b m ⊎ FoundAt s true from (at + 1) b m)
  found_more = after_more s.known.names.now (GivesIn s m) (line s.holder) (left_of s from)

  pub found_last : (at last : ℕ) (b : List Bound) → length (all_seen s.holder.kids.now) ≤ last → length (all_seen s.holder.kids.now) ≤ at → FoundAt s false from last b m ↔ FoundAt s true from at b m
  found_last = after_last s.known.names.now (GivesIn s m) (line s.holder) (left_of s from)

  -- inside a kid, and on in this list
  pub inside_found : (state : State) (inside : Inside) → Opens s from state inside → FoundInside s inside.arguments inside state.trail m ↔ FoundFrom s from (state ∷ []) m
  inside_found = inside_reached s.known.names.now (GivesIn s m) s from

  -- states that lead to the same ends
  pub found_as : (at : ℕ) (old new : List State) → ((c : End) → AnyFrom s.known.names.now (line s.holder) (left_of s at) new c ↔ AnyFrom s.known.names.now (line s.holder) (left_of s from) old c)
      → FoundFrom s at new m ↔ FoundFrom s from old m
  found_as at old new same = states_as s.known.names.now (GivesIn s m) (line s.holder) (left_of s from) (left_of s at) old new same

  -- all parts are taken
  module _ (at : ℕ) (old new : List State) (same : FoundFrom s at new m ↔ FoundFrom s from old m) (past : length (kids_of s.pattern.now) ≤ at) where
    taken : Reached s.known.names.now (GivesIn s m) (line s.holder) [] new ↔ FoundFrom s from old m
    taken =
        let P : List Part → Type 0 = λ ps. Reached s.known.names.now (GivesIn s m) (line s.holder) ps new ↔ FoundFrom s from old m in
        subst P (none_left s.unnamed s.pattern.now at past) same

    -- and there is no outer list
    pub found_here : length s.outer.now ≡ 0 → (s.unnamed ≡ true → 0 < length s.outer.now) → MemberFrom s.known.names.now s.aim (seen s.holder.spot) [] new m ↔ FoundFrom s from old m
    found_here none inner =
        let C = s.known.names.now in
        let h = seen s.holder.spot in
        let whole = outermost_whole s.unnamed (length s.outer.now) none inner in
        let P : List Outer → Type 0 = λ os. Reached C (λ e. GivesOn C s.aim h os m e) (line s.holder) [] new ↔ FoundFrom s from old m in
        let Q : Line → Type 0 = λ l. Reached C (λ e. GivesOn C s.aim h [] m e) l [] new ↔ FoundFrom s from old m in
        subst Q (whole_line s.holder (s.kin whole)) (subst P (nothing s.outer.now none) taken)

    -- and the search goes on in the first of the outer lists
    module _ (o : Outer) (os : List Outer) (before trails : List (List Bound)) (are : s.outer.now ≡ o ∷ os) (none : before ≡ [])
        (adds : Adds before trails (λ b. AnyFrom s.known.names.now (line s.holder) [] new ([], b))) where
      abbrev On : End → Type 0
      On f = GivesOn s.known.names.now s.aim (seen o.holder.spot) os m f

      resumed : (left : Left) → o.left ≡ left → Reached s.known.names.now (λ e. Resumes s.known.names.now On o left e) (line s.holder) [] new ↔ FoundFrom s from old m
      resumed left is =
          let C = s.known.names.now in
          let h = seen s.holder.spot in
          let P : List Outer → Type 0 = λ xs. Reached C (λ e. GivesOn C s.aim h xs m e) (line s.holder) [] new ↔ FoundFrom s from old m in
          let Q : Left → Type 0 = λ l. Reached C (λ e. Resumes C On o l e) (line s.holder) [] new ↔ FoundFrom s from old m in
          subst Q is (subst P are taken)

      -- in order
      pub found_on : (at : ℕ) → o.left ≡ Kids at → OfSome (λ b. ReachedAt s.known.names.now On false (line o.holder) (left_parts o.unnamed o.pattern.now o.from) at b) trails ↔ FoundFrom s from old m
      found_on at is =
          chain _ _ _ (ends_on s.known.names.now On (line s.holder) (line o.holder) (left_parts o.unnamed o.pattern.now o.from) at new before trails none adds) (resumed (Kids at) is)

      -- by choosing
      pub found_choosing : (left : CandidatesOf) → o.left ≡ Candidates left
          → ((c : List Bound) × On ([], c) × Picked s.known.names.now left.named left.loose (drop o.from (kids_of o.pattern.now)) (untaken left.taken.now (all_seen left.nodes.now)) trails c) ↔ FoundFrom s from old m
      found_choosing left is =
          chain _ _ _ (ends_choose s.known.names.now On (line s.holder) (drop o.from (kids_of o.pattern.now)) left new before trails none adds) (resumed (Candidates left) is)
