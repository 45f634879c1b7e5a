-- What a search finds where parts of a pattern choose among kids.
use Rattle.std.proofs.Common.{◌≡◌, ◌⊎◌, inl, inr, ◌↔◌, ℕ, ◌+◌, zero, suc, ◌<◌, ◌≤◌, List, [], ◌∷◌, ◌++◌, length, drop, get_or, set, refl, sym, ◌∙◌, subst, arith, Bool, true, false}
use Rattle.std.proofs.lemmas.List.{drop_all, get_or_default}
use Rattle.node_tree.specs.declared.node.Node.{Node}
use Rattle.node_tree.specs.declared.known.Known.{Known}
use Rattle.node_tree.specs.Tree.{kids_of}
use Rattle.node_tree.specs.Numbers.{Numbered, kids_at}
use Rattle.node_pool.specs.declared.spot.Spot.{Spot}
use Rattle.node_pool.specs.Spots.{seen, all_seen}
use Rattle.meta_bind.specs.declared.bound.Bound.{Bound}
use Rattle.node_match.specs.Sets.{Among, Adds, AddsUpTo}
use Rattle.node_match.specs.Free.{Part, parts_of}
use Rattle.node_match.specs.Fronts.{End, Leads, no_part_front}
use Rattle.node_match.specs.Orders.{order_of, chooses, choosers}
use Rattle.node_match.specs.Choices.{untaken, Chosen, TakesAt, TakesFrom}
use Rattle.node_match.specs.declared.order.Order.TheVariants.{Fixed}
use Rattle.node_match.specs.Relation.{Matches, MatchesKids, MatchesList}
use Rattle.node_match.proofs.FrontLaws.{whole_front}
use Rattle.node_match.proofs.Inversion.{ordered_kids}
use Rattle.node_match.proofs.Sets.{chain, adds_up_as}
use Rattle.node_match.proofs.Choosing.{takes, take_more, chosen_as, choosers_from, picked_last, none_picked, seen_many, seen_at}
use Rattle.node_search.specs.declared.state.State.{State}
use Rattle.node_search.specs.States.{AnyFrom, AddsFrom, Entered}
use Rattle.node_search.specs.Kids.{line}
use Rattle.tree_match.specs.declared.aim.Search.{Search}
use Rattle.tree_match.specs.declared.choosing.Choosing.{Choosing}
use Rattle.tree_match.specs.Members.{Member}
use Rattle.tree_match.specs.Aims.{GivesIn, FoundFrom, FoundAt, TakesAll}
use Rattle.tree_match.specs.Choosings.{FoundBy, FoundChoice, FoundTaking, FoundMatched, FoundPicked}
use Rattle.tree_match.specs.Insides.{IsByKids}
use Rattle.tree_match.proofs.LeftLaws.{none_left, whole_left}

module _ (s : Search) (m : Member) where
  -- the same, said otherwise
  pub by_as : (P Q : List Bound → Type 0) → ((c : List Bound) → P c ↔ Q c) → FoundBy s P m ↔ FoundBy s Q m
  by_as P Q same = (λ (c, gives, x). (c, gives, (same c).0 x), λ (c, gives, x). (c, gives, (same c).1 x))

  -- one of two
  pub by_either : (P Q R : List Bound → Type 0) → ((c : List Bound) → P c ↔ (Q c ⊎ R c)) → FoundBy s P m ↔ (FoundBy s Q m ⊎ FoundBy s R m)
  by_either P Q R split = (
    λ (c, gives, x). elim ((split c).0 x) [ inl y ↦ inl (c, gives, y) | inr y ↦ inr (c, gives, y) ],
    λ z. elim z [ inl (c, gives, y) ↦ (c, gives, (split c).1 (inl y)) | inr (c, gives, y) ↦ (c, gives, (split c).1 (inr y)) ],
  )

  pub by_none : (P : List Bound → Type 0) → ((c : List Bound) → P c → ⊥) → FoundBy s P m → ⊥
  by_none P none (c, _, x) = none c x

  -- a search that takes all kids, in order
  module _ (b : List Bound) (whole : TakesAll s) where
    abbrev FoundAlong : List Part → List Numbered → Type 0
    FoundAlong ps ns = (e : End) × GivesIn s m e × Leads s.known.names.now (seen s.holder.spot) ps ns b e

    along : (ps : List Part) (ns : List Numbered) → FoundAlong ps ns ↔ FoundBy s (MatchesList s.known.names.now (seen s.holder.spot) ps ns b) m
    along ps ns =
        let C = s.known.names.now in
        let h = seen s.holder.spot in (
          λ (e, gives, x).
              let none = whole m e gives in
              let G : List Numbered → Type 0 = λ ks. GivesIn s m (ks, e.1) in
              let L : List Numbered → Type 0 = λ ks. Leads C h ps ns b (ks, e.1) in
              (e.1, subst G none gives, (whole_front C h ps ns b e.1).0 (subst L none x)),
          λ (c, gives, x). (([], c), gives, (whole_front C h ps ns b c).1 x),
        )

    pub by_order : s.unnamed ≡ false → order_of s.pattern.now ≡ Fixed → FoundAt s false 0 0 b m ↔ FoundBy s (MatchesKids s.known.names.now s.pattern.now (seen s.holder.spot) b) m
    by_order all fixed =
        let C = s.known.names.now in
        let p = s.pattern.now in
        let h = seen s.holder.spot in
        let A : List Part → Type 0 = λ ps. FoundAlong ps (all_seen s.holder.kids.now) ↔ FoundBy s (MatchesKids C p h b) m in
        let B : List Numbered → Type 0 = λ ks. FoundAlong (parts_of p) ks ↔ FoundBy s (MatchesKids C p h b) m in
        subst A (sym (whole_left s.unnamed p 0 all)) (subst B (sym (s.kin all).are) (chain _ _ _ (along (parts_of p) (kids_at h)) (by_as _ _ (λ c. ordered_kids C p h b c fixed))))

  -- states after all kids, one for each of these bindings
  module _ (none ends : List State) (found : List (List Bound)) (end : ℕ) (empty : none ≡ []) (past : length (all_seen s.holder.kids.now) ≤ end)
      (enters : (C : List Known) (l : _) → AddsFrom C l none ends (λ ps c. Entered C l ps end found c)) where
    pub by_ends : FoundFrom s (length (kids_of s.pattern.now)) ends m ↔ FoundBy s (λ c. Among found c) m
    by_ends =
        let C = s.known.names.now in
        let h = seen s.holder.spot in
        let l = line s.holder in
        let n : ℕ = length (kids_of s.pattern.now) in
        let no_part = none_left s.unnamed s.pattern.now n (omega arith) in
        let no_kid : drop end l.kids ≡ [] = drop_all end l.kids past in (
          λ (e, gives, x).
              let P : List Part → Type 0 = λ ps. AnyFrom C l ps ends e in
              elim ((enters C l [] e).0 (subst P no_part x)) [
                | inl (state, among, _) ↦ (let Q : List State → Type 0 = λ xs. Among xs state in absurd (subst Q empty among))
                | inr (d, among, y) ↦ (let K : List Numbered → Type 0 = λ ns. Leads C h [] ns d e in
                    let (rest, same) = ended e d (subst K no_kid y) in
                    let G : List Numbered → Type 0 = λ ns. GivesIn s m (ns, e.1) in
                    let A : List Bound → Type 0 = λ c. Among found c in
                    (e.1, subst G (sym rest) gives, subst A same among))
              ],
          λ (c, gives, among).
              let P : List Part → Type 0 = λ ps. AnyFrom C l ps ends ([], c) in
              let K : List Numbered → Type 0 = λ ns. Leads C h [] ns c ([], c) in
              (([], c), gives, subst P (sym no_part) ((enters C l [] ([], c)).1 (inr (c, among, subst K (sym no_kid) no_part_front)))),
        )
      where
        ended : (e : End) (d : List Bound) → Leads s.known.names.now (seen s.holder.spot) [] [] d e → ([] ≡ e.0) × (d ≡ e.1)
        ended e d no_part_front = (refl, refl)

-- ---- parts that choose

pub one_at : (ps : List Node) (i : ℕ) → i < length ps → (p : Node) × (p ≡ get_or ps i p)
one_at [] i lt = absurd (omega (arith, lt))
one_at (p ∷ ps) zero lt = (p, refl)
one_at (p ∷ ps) (suc i) lt = one_at ps i (omega (arith, lt))

module _ (c : Choosing) where
  abbrev C : List Known
  C = c.search.known.names.now

  abbrev ns : List Numbered
  ns = all_seen c.nodes.now

  abbrev ps : List Node
  ps = kids_of c.search.pattern.now

  -- what is added with some marks, written by equal marks
  pub taking_as : (most : ℕ) (old new : List Member) (from at : ℕ) (p : Node) (ts us : List Bool) (b : List Bound) → ts ≡ us → AddsUpTo most old new (FoundTaking c from at p ts b) → AddsUpTo most old new (FoundTaking c from at p us b)
  taking_as most old new from at p ts us b e adds = let P : List Bool → Type 0 = λ xs. AddsUpTo most old new (FoundTaking c from at p xs b) in subst P e adds

  pub choice_as : (most : ℕ) (old new : List Member) (from : ℕ) (ts us : List Bool) (b : List Bound) → ts ≡ us → AddsUpTo most old new (FoundChoice c from ts b) → AddsUpTo most old new (FoundChoice c from us b)
  choice_as most old new from ts us b e adds = let P : List Bool → Type 0 = λ xs. AddsUpTo most old new (FoundChoice c from xs b) in subst P e adds

  module _ (first : ℕ) (p : Node) (ts : List Bool) (b : List Bound) where
    -- from a place on
    abbrev TakingFrom : ℕ → Member → Type 0
    TakingFrom at = FoundBy c.search (TakesFrom C c.named c.loose at p (drop (first + 1) ps) ts ns b)

    pub taking_more : (at : ℕ) → length ts ≡ length c.nodes.now → at < length c.nodes.now → (m : Member) → TakingFrom at m ↔ (FoundTaking c first at p ts b m ⊎ TakingFrom (at + 1) m)
    taking_more at many lt m =
        by_either c.search m _ _ _ (λ d. take_more C c.named c.loose p (drop (first + 1) ps) ts ns (many ∙ sym (seen_many c.nodes.now)) b d at (omega (arith, lt, seen_many c.nodes.now)))

    pub taking_none : (at : ℕ) → length c.nodes.now ≤ at → (m : Member) → TakingFrom at m → ⊥
    taking_none at past m (d, _, (k, le, lt, _)) = absurd (omega (arith, past, le, lt, seen_many c.nodes.now))

  -- all places
  pub taking_all : (from first : ℕ) (p : Node) (ts : List Bool) (b : List Bound) → first < length ps → p ≡ get_or ps first p → chooses c.named p ≡ true → choosers c.named (drop first ps) ≡ choosers c.named (drop from ps) → length ts ≡ length c.nodes.now
      → (m : Member) → FoundBy c.search (TakesFrom C c.named c.loose 0 p (drop (first + 1) ps) ts ns b) m ↔ FoundChoice c from ts b m
  taking_all from first p ts b lt is so same many m =
      by_as c.search m _ _ (λ d. chain _ _ _ (takes C c.named c.loose p (drop (first + 1) ps) ts ns (many ∙ sym (seen_many c.nodes.now)) b d so)
      (chosen_as C c.named _ _ (p ∷ drop (first + 1) ps) (drop from ps) _ _ b d refl (sym (choosers_from c.named ps first p lt is) ∙ same) refl))

  -- the first part takes a node
  pub taking_at : (most : ℕ) (old new : List Member) (from at : ℕ) (p q : Node) (ts us : List Bool) (b : List Bound) (n : Spot) → from < length ps → p ≡ get_or ps from p → q ≡ get_or ps from q → at < length c.nodes.now → n ≡ get_or c.nodes.now at n
      → get_or ts at true ≡ false → us ≡ set ts at true → AddsUpTo most old new (FoundMatched c (from + 1) q (seen n) us b) → AddsUpTo most old new (FoundTaking c from at p ts b)
  taking_at most old new from at p q ts us b n lt p-is q-is within n-is free marked adds =
      let same : q ≡ p = q-is ∙ get_or_default ps from q p lt ∙ sym p-is in
      let Q : Node → Type 0 = λ r. AddsUpTo most old new (FoundMatched c (from + 1) r (seen n) us b) in
      let here = seen_at c.nodes.now at n within n-is in
      adds_up_as _ _ _ _ _ (subst Q same adds) (λ m. by_as c.search m _ _ (λ d.
      let R : List Bool → Type 0 = λ xs. ((e : List Bound) × Matches C p (seen n) b e × Chosen C c.named c.loose (drop (from + 1) ps) (untaken xs ns) e d) ↔ TakesAt C c.named c.loose at p (drop (from + 1) ps) ts ns b d in
      subst R (sym marked) (
        λ (e, x, y). (free, seen n, here, e, x, y),
        λ (_, k, k-is, e, x, y).
            let f : k ≡ seen n = k-is ∙ get_or_default ns at k (seen n) (omega (arith, within, seen_many c.nodes.now)) ∙ sym here in
            let M : Numbered → Type 0 = λ z. Matches C p z b e in
            (e, subst M f x, y),
      )))

  module _ (from : ℕ) (p : Node) (n : Numbered) (ts : List Bool) (b : List Bound) (m : Member) where
    -- inside the node, and on by choosing
    pub matched_within : (Empty : Type 0) → Empty → IsByKids p n.node
        → ((e : List Bound) × (Empty × ((d : List Bound) × GivesIn c.search m ([], d) × Chosen C c.named c.loose (drop from ps) (untaken ts ns) e d)) × MatchesKids C p n b e) ↔ FoundMatched c from p n ts b m
    matched_within Empty empty by = (
      λ (e, (_, (d, gives, y)), x). (d, gives, (e, (by.same C n refl b e).0 x, y)),
      λ (d, gives, (e, x, y)). (e, (empty, (d, gives, y)), (by.same C n refl b e).1 x),
    )

    -- by the bindings that the node gives
    pub matched_picked : (none found : List (List Bound)) → none ≡ [] → Adds none found (λ e. Matches C p n b e) → FoundPicked c from ts found m ↔ FoundMatched c from p n ts b m
    matched_picked none found empty adds = by_as c.search m _ _ (λ d. (
      λ (e, among, y). let N : List (List Bound) → Type 0 = λ xs. Among xs e in (e, elim ((adds e).0 among) [ inl a ↦ absurd (subst N empty a) | inr x ↦ x ], y),
      λ (e, x, y). (e, (adds e).1 (inr x), y),
    ))

  pub picked_more : (from : ℕ) (ts : List Bool) (old new : List (List Bound)) (last : List Bound) → old ≡ new ++ last ∷ [] → (m : Member) → FoundPicked c from ts old m ↔ (FoundChoice c from ts last m ⊎ FoundPicked c from ts new m)
  picked_more from ts old new last e m = by_either c.search m _ _ _ (λ d. picked_last C c.named c.loose (drop from ps) (untaken ts ns) old new last d e)

  pub picked_none : (from : ℕ) (ts : List Bool) (found : List (List Bound)) → found ≡ [] → (m : Member) → FoundPicked c from ts found m → ⊥
  picked_none from ts found e m = by_none c.search m _ (λ d. none_picked C c.named c.loose (drop from ps) (untaken ts ns) found d e)
