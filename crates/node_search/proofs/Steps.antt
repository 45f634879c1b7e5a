-- Steps of the search of a list of kids.
use Rattle.std.proofs.Common.{◌≡◌, ◌⊎◌, inl, inr, ◌↔◌, ℕ, zero, suc, ◌+◌, ◌≤◌, ◌<◌, List, [], ◌∷◌, ◌++◌, length, take, drop, get_or, map, refl, sym, ap, ◌∙◌, subst, arith, ◌-◌, length-drop, add-one, Bool, true, false}
use Rattle.node_tree.specs.declared.node.Node.{Node}
use Rattle.node_tree.specs.Tree.{text_of, span_of, content_of}
use Rattle.meta_bind.specs.declared.bound.Bound.{Bound}
use Rattle.node_search.specs.declared.state.State.{State}
use Rattle.node_match.specs.Sets.{Among, Adds}
use Rattle.node_match.specs.Free.{Part}
use Rattle.node_match.specs.Relation.{MatchesKid, MatchesList, Binds, fresh, again, bound_by, run_span, end_of, nodes_of}
use Rattle.node_match.specs.Fronts.{End, Leads, MatchesFront, no_part_front, free_front}
use Rattle.node_match.proofs.FrontLaws.{whole_front}
use Rattle.node_search.specs.States.{Line, AnyFrom, From, Goes, Runs, RunOf, Entered, Heads, IsCovered}
use Rattle.std.specs.Prelude.{Option, None, Some}
use Rattle.std.proofs.lemmas.List.{drop_all, take_all, drop-drop}
use Rattle.std.proofs.Math.Seq.{drop-cons}
use Rattle.std.proofs.Math.Nat.{eq-or-lt_of_le}
use Rattle.meta_bind.specs.Bounds.{bound_at, with_bound}
use Rattle.node_tree.specs.declared.span.Span.{Span}
use Rattle.node_match.proofs.Sets.{among_more}
use Rattle.node_tree.specs.declared.known.Known.{Known}
use Rattle.node_tree.specs.Numbers.{Numbered}

module _ (C : List Known) where
  -- one state more
  pub put_from : (h : Line) (old new : List State) (s : State) → Adds old new (λ t. s ≡ t) → (ps : List Part) (c : End) → AnyFrom C h ps new c ↔ (AnyFrom C h ps old c ⊎ From C h ps s c)
  put_from h old new s adds ps c = (
    λ (t, among, goes). elim ((adds t).0 among) [ inl a ↦ inl (t, a, goes) | inr e ↦ let P : State → Type 0 = λ u. From C h ps u c in inr (subst P (sym e) goes) ],
    λ a. elim a [ inl (t, among, goes) ↦ (t, (adds t).1 (inl among), goes) | inr goes ↦ (s, (adds s).1 (inr refl), goes) ],
  )

  -- the last of the bindings that are left
  pub entered_last : (h : Line) (ps : List Part) (at : ℕ) (old new : List (List Bound)) (last : List Bound) (c : End) → old ≡ new ++ last ∷ []
      → Entered C h ps at old c ↔ (Leads C h.holder ps (drop at h.kids) last c ⊎ Entered C h ps at new c)
  entered_last h ps at old new last c e =
      let P : List (List Bound) → Type 0 = λ found. Entered C h ps at found c ↔ (Leads C h.holder ps (drop at h.kids) last c ⊎ Entered C h ps at new c) in
      subst P (sym e) (
        λ (d, among, goes). elim ((among_more new last d).0 among) [ inl a ↦ inr (d, a, goes) | inr is ↦ let Q : List Bound → Type 0 = λ x. Leads C h.holder ps (drop at h.kids) x c in inl (subst Q (sym is) goes) ],
        λ a. elim a [ inl goes ↦ (last, (among_more new last last).1 (inr refl), goes) | inr (d, among, goes) ↦ (d, (among_more new last d).1 (inl among), goes) ],
      )

-- the end of the last of some nodes
pub end_at : (n : Node) (ns : List Node) (last : Node) → last ≡ get_or (n ∷ ns) (length ns) last → (span_of last).to ≡ end_of n ns
end_at n [] last e = ap (λ m. (span_of m).to) e
end_at n (m ∷ ms) last e = end_at m ms last e

pub span_is : (h : Node) (ns : List Node) (first last : Node) → 1 ≤ length ns → first ≡ get_or ns 0 first → last ≡ get_or ns (length ns - 1) last
    → record { from = (span_of first).from; to = (span_of last).to } ≡ run_span h ns
span_is h [] first last le first-is last-is = absurd (omega arith)
span_is h (n ∷ ns) first last le first-is last-is =
    let at : length (n ∷ ns) - 1 ≡ length ns = omega arith in
    let to = end_at n ns last (last-is ∙ ap (λ i. get_or (n ∷ ns) i last) at) in
    let f : ℕ → Span = λ x. record { from = (span_of first).from; to = x } in
    let g : Node → Span = λ m. record { from = (span_of m).from; to = end_of n ns } in
    ap f to ∙ ap g first-is

-- ---- a name and a run

pub bound_again : (h : Node) (name : List ℕ) (ns : List Node) (b t : List Bound) (old : Bound) → bound_at name b ≡ Some old → old.nodes ≡ map content_of ns → t ≡ b
    → (c : List Bound) → Binds h name ns b c ↔ (Some t ≡ Some c)
bound_again h name ns b t old is same t-is c = (λ x. to c x, λ e. let P : List Bound → Type 0 = λ d. Binds h name ns b d in let f : t ≡ c = cc in subst P (sym t-is ∙ f) (again old is same))
  where
    to : (c : List Bound) → Binds h name ns b c → Some t ≡ Some c
    to _ (fresh none) = absurd (let e : None ≡ Some old = sym none ∙ is in cc)
    to _ (again other other-is nodes) = ap Some t-is

pub bound_not : (h : Node) (name : List ℕ) (ns : List Node) (b : List Bound) (old : Bound) → bound_at name b ≡ Some old → (old.nodes ≡ map content_of ns → ⊥)
    → (c : List Bound) → Binds h name ns b c ↔ (None ≡ Some c)
bound_not h name ns b old is differ c = (λ x. to c x, λ e. absurd cc)
  where
    to : (c : List Bound) → Binds h name ns b c → None ≡ Some c
    to _ (fresh none) = absurd (let e : None ≡ Some old = sym none ∙ is in cc)
    to _ (again other other-is nodes) = let e : old ≡ other = cc in absurd (differ (ap (λ (x : Bound). x.nodes) e ∙ nodes))

pub bound_fresh : (h : Node) (name : List ℕ) (ns : List Node) (b t : List Bound) → bound_at name b ≡ None → t ≡ with_bound (bound_by h name ns) b
    → (c : List Bound) → Binds h name ns b c ↔ (Some t ≡ Some c)
bound_fresh h name ns b t none t-is c = (λ x. to c x, λ e. let P : List Bound → Type 0 = λ d. Binds h name ns b d in let f : t ≡ c = cc in subst P (sym t-is ∙ f) (fresh none))
  where
    to : (c : List Bound) → Binds h name ns b c → Some t ≡ Some c
    to _ (fresh _) = ap Some t-is
    to _ (again other other-is nodes) = absurd (let e : None ≡ Some other = sym none ∙ other-is in cc)

-- ---- the ends C of a list of kids

module _ (C : List Known) where
  -- no pattern is left
  pub ends : (h : Numbered) (ns rest : List Numbered) (b c : List Bound) → MatchesFront C h [] ns rest b c → (ns ≡ rest) × (b ≡ c)
  ends h ns _ b _ no_part_front = (refl, refl)

  pub ends_floating : (h : Numbered) (ns : List Numbered) (b c : List Bound) → (b ≡ c) ↔ Goes C true h [] ns b ([], c)
  ends_floating h ns b c = (
    λ e. let P : List Bound → Type 0 = λ d. Goes C true h [] ns b ([], d) in let Q : List Numbered → Type 0 = λ ms. MatchesFront C h [] (drop (length ns) ns) ms b b in subst P e (length ns, subst Q (drop_all (length ns) ns (omega arith)) no_part_front),
    λ (k, goes). (ends h (drop k ns) [] b c goes).1,
  )

  pub ends_here : (h : Numbered) (ns : List Numbered) (at : ℕ) (b c : List Bound) → length ns ≤ at → (b ≡ c) ↔ Leads C h [] (drop at ns) b ([], c)
  ends_here h ns at b c le = (
    λ e. let P : List Bound → Type 0 = λ d. Leads C h [] (drop at ns) b ([], d) in let Q : List Numbered → Type 0 = λ ms. MatchesFront C h [] (drop at ns) ms b b in subst P e (subst Q (drop_all at ns le) no_part_front),
    λ goes. (ends h (drop at ns) [] b c goes).1,
  )

  pub not_end : (h : Numbered) (ns : List Numbered) (at : ℕ) (b c : List Bound) → at < length ns → Leads C h [] (drop at ns) b ([], c) → ⊥
  not_end h ns at b c lt goes = let e = ap length ((ends h (drop at ns) [] b c goes).0) in absurd (omega (arith, e, length-drop at ns))

  -- the first state, and those that are left
  pub first_state : (h : Line) (ps : List Part) (states : List State) (i : ℕ) (s : State) (c : End) → i < length states → s ≡ get_or states i s
      → AnyFrom C h ps (drop i states) c ↔ (From C h ps s c ⊎ AnyFrom C h ps (drop (i + 1) states) c)
  first_state h ps states i s c lt is =
      let o : drop i states ≡ s ∷ drop (i + 1) states = drop-cons states i s lt ∙ ap (λ y. y ∷ drop (suc i) states) (sym is) ∙ ap (λ j. s ∷ drop j states) (sym (add-one i)) in
      let P : List State → Type 0 = λ ss. AnyFrom C h ps ss c ↔ (From C h ps s c ⊎ AnyFrom C h ps (drop (i + 1) states) c) in
      subst P (sym o) (
        λ (t, among, goes). elim among [ inl e ↦ (let Q : State → Type 0 = λ u. From C h ps u c in inl (subst Q (sym e) goes)) | inr a ↦ inr (t, a, goes) ],
        λ x. elim x [ inl goes ↦ (s, inl refl, goes) | inr (t, a, goes) ↦ (t, inr a, goes) ],
      )

  pub no_state : (h : Line) (ps : List Part) (states : List State) (i : ℕ) (c : End) → length states ≤ i → AnyFrom C h ps (drop i states) c → ⊥
  no_state h ps states i c le (t, among, goes) = let P : List State → Type 0 = λ ss. Among ss t in subst P (drop_all i states le) among

  pub state_ends : (h : Line) (s : State) (t : List Bound) → t ≡ s.trail → s.floating ≡ true → (x : List Bound) → (t ≡ x) ↔ From C h [] s ([], x)
  state_ends h s t is floats x =
      let P : Bool → Type 0 = λ f. (t ≡ x) ↔ Goes C f h.holder [] (drop s.at h.kids) s.trail ([], x) in
      let Q : List Bound → Type 0 = λ b. (b ≡ x) ↔ Goes C true h.holder [] (drop s.at h.kids) s.trail ([], x) in
      subst P (sym floats) (subst Q (sym is) (ends_floating h.holder (drop s.at h.kids) s.trail x))

  pub state_ends_here : (h : Line) (s : State) (t : List Bound) → t ≡ s.trail → s.floating ≡ false → length h.kids ≤ s.at → (x : List Bound) → (t ≡ x) ↔ From C h [] s ([], x)
  state_ends_here h s t is stays le x =
      let P : Bool → Type 0 = λ f. (t ≡ x) ↔ Goes C f h.holder [] (drop s.at h.kids) s.trail ([], x) in
      let Q : List Bound → Type 0 = λ b. (b ≡ x) ↔ Leads C h.holder [] (drop s.at h.kids) s.trail ([], x) in
      subst P (sym stays) (subst Q (sym is) (ends_here h.holder h.kids s.at s.trail x le))

  pub state_goes_on : (h : Line) (s : State) → s.floating ≡ false → s.at < length h.kids → (x : List Bound) → From C h [] s ([], x) → ⊥
  state_goes_on h s stays lt x goes =
      let P : Bool → Type 0 = λ f. Goes C f h.holder [] (drop s.at h.kids) s.trail ([], x) in
      not_end h.holder h.kids s.at s.trail x lt (subst P stays goes)

  pub no_entered : (h : Line) (ps : List Part) (at : ℕ) (found : List (List Bound)) (c : End) → found ≡ [] → Entered C h ps at found c → ⊥
  no_entered h ps at found c e (d, among, goes) = let P : List (List Bound) → Type 0 = λ xs. Among xs d in subst P e among

-- ---- runs

module _ (C : List Known) where
  pub run_of : (h : Numbered) (p : Node) (ps : List Part) (ns ms : List Numbered) (k : ℕ) (b t : List Bound) (c : End) → ((d : List Bound) → Binds h.node (text_of p) (nodes_of (take k ns)) b d ↔ (Some t ≡ Some d)) → ms ≡ drop k ns
      → Leads C h ps ms t c ↔ RunOf C k h p ps ns b c
  run_of h p ps ns ms k b t c binds e =
      let P : List Numbered → Type 0 = λ xs. Leads C h ps xs t c ↔ RunOf C k h p ps ns b c in
      subst P (sym e) (λ goes. (t, (binds t).1 refl, goes), λ (d, x, goes). let is : d ≡ t = (let s = (binds d).0 x in cc) in let Q : List Bound → Type 0 = λ y. Leads C h ps (drop k ns) y c in subst Q is goes)

  pub runs_more : (h : Numbered) (p : Node) (ps : List Part) (ns : List Numbered) (k : ℕ) (b : List Bound) (c : End) → Runs C k h p ps ns b c ↔ (RunOf C k h p ps ns b c ⊎ Runs C (k + 1) h p ps ns b c)
  runs_more h p ps ns k b c = (
    λ (j, le, d, x, goes). elim (split j le) [
      | inl e ↦ let P : ℕ → Type 0 = λ i. RunOf C i h p ps ns b c in inl (subst P e (d, x, goes))
      | inr lt ↦ inr (j, lt, d, x, goes)
    ],
    λ r. elim r [ inl (d, x, goes) ↦ (k, omega arith, d, x, goes) | inr (j, lt, d, x, goes) ↦ (j, omega arith, d, x, goes) ],
  )
    where
      split : (j : ℕ) → k ≤ j → (j ≡ k) ⊎ (k + 1 ≤ j)
      split j le = elim (eq-or-lt_of_le le) [ inl e ↦ inl (sym e) | inr lt ↦ inr (omega arith) ]

  pub runs_last : (h : Numbered) (p : Node) (ps : List Part) (ns : List Numbered) (k i : ℕ) (b : List Bound) (c : End) → length ns ≤ k → length ns ≤ i → RunOf C k h p ps ns b c ↔ Runs C i h p ps ns b c
  runs_last h p ps ns k i b c all all' = (
    λ (d, x, goes).
        let P : List Numbered → Type 0 = λ xs. Binds h.node (text_of p) (nodes_of xs) b d in
        let Q : List Numbered → Type 0 = λ xs. Leads C h ps xs d c in
        (i, omega arith, d, subst P (take_all k ns all ∙ sym (take_all i ns all')) x, subst Q (drop_all k ns all ∙ sym (drop_all i ns all')) goes),
    λ (j, le, d, x, goes).
        let P : List Numbered → Type 0 = λ xs. Binds h.node (text_of p) (nodes_of xs) b d in
        let Q : List Numbered → Type 0 = λ xs. Leads C h ps xs d c in
        (d, subst P (take_all j ns (omega arith) ∙ sym (take_all k ns all)) x, subst Q (drop_all j ns (omega arith) ∙ sym (drop_all k ns all)) goes),
  )

-- the same name, run and answer, written otherwise
pub binds_at : (h : Node) (name name' : List ℕ) (ns ns' : List Node) (b : List Bound) (o o' : Option (List Bound)) → name ≡ name' → ns ≡ ns' → o ≡ o'
    → ((d : List Bound) → Binds h name ns b d ↔ (o ≡ Some d)) → (d : List Bound) → Binds h name' ns' b d ↔ (o' ≡ Some d)
binds_at h name name' ns ns' b o o' e f g binds d =
    let P : List ℕ → Type 0 = λ x. Binds h x ns' b d ↔ (o' ≡ Some d) in
    let Q : List Node → Type 0 = λ x. Binds h name x b d ↔ (o' ≡ Some d) in
    let R : Option (List Bound) → Type 0 = λ x. Binds h name ns b d ↔ (x ≡ Some d) in
    subst P e (subst Q f (subst R g (binds d)))

-- the one binding that a run leads to
pub same_binding : (h : Node) (name : List ℕ) (ns : List Node) (b t : List Bound) → ((d : List Bound) → Binds h name ns b d ↔ (Some t ≡ Some d)) → (c : List Bound) → (t ≡ c) ↔ Binds h name ns b c
same_binding h name ns b t binds c = (λ e. (binds c).1 (ap Some e), λ x. let e = (binds c).0 x in cc)

-- ---- what a state leads to

module _ (C : List Known) where
  pub floating_from : (h : Line) (ps : List Part) (s : State) (start : ℕ) (c : End) → s.floating ≡ true → drop start h.kids ≡ drop s.at h.kids
      → Goes C true h.holder ps (drop start h.kids) s.trail c ↔ From C h ps s c
  floating_from h ps s start c floats e =
      let P : Bool → Type 0 = λ f. Goes C true h.holder ps (drop start h.kids) s.trail c ↔ Goes C f h.holder ps (drop s.at h.kids) s.trail c in
      let Q : List Numbered → Type 0 = λ ms. Goes C true h.holder ps (drop start h.kids) s.trail c ↔ Goes C true h.holder ps ms s.trail c in
      subst P (sym floats) (subst Q e (λ x. x, λ x. x))

  pub staying_from : (h : Line) (ps : List Part) (s : State) (start : ℕ) (c : End) → s.floating ≡ false → drop start h.kids ≡ drop s.at h.kids
      → Leads C h.holder ps (drop start h.kids) s.trail c ↔ From C h ps s c
  staying_from h ps s start c stays e =
      let P : Bool → Type 0 = λ f. Leads C h.holder ps (drop start h.kids) s.trail c ↔ Goes C f h.holder ps (drop s.at h.kids) s.trail c in
      let Q : List Numbered → Type 0 = λ ms. Leads C h.holder ps (drop start h.kids) s.trail c ↔ Leads C h.holder ps ms s.trail c in
      subst P (sym stays) (subst Q e (λ x. x, λ x. x))

  pub goes_at : (h : Numbered) (ps : List Part) (ns ms : List Numbered) (b : List Bound) (c : End) → ns ≡ ms → Goes C true h ps ns b c ↔ Goes C true h ps ms b c
  goes_at h ps ns ms b c e = let P : List Numbered → Type 0 = λ xs. Goes C true h ps ns b c ↔ Goes C true h ps xs b c in subst P e (λ x. x, λ x. x)

  -- the bindings found at one kid
  pub entered_heads : (h : Line) (q : Node) (ps : List Part) (kids : List Numbered) (at : ℕ) (kid : Numbered) (old found : List (List Bound)) (b : List Bound) (c : End) → kids ≡ h.kids → at < length kids → kid ≡ get_or kids at kid
      → old ≡ [] → Adds old found (λ d. MatchesKid C h.holder q kid b d) → Entered C h ps (at + 1) found c ↔ Heads C h.holder q ps (drop at h.kids) b c
  entered_heads h q ps kids at kid old found b c e lt is none adds =
      let o : drop at h.kids ≡ kid ∷ drop (at + 1) h.kids =
      ap (drop at) (sym e) ∙ drop-cons kids at kid lt ∙ ap (λ (y : Numbered). y ∷ drop (suc at) kids) (sym is) ∙ ap (λ (j : ℕ). kid ∷ drop j kids) (sym (add-one at)) ∙ ap (λ (ks : List Numbered). kid ∷ drop (at + 1) ks) e in
      let P : List Numbered → Type 0 = λ ms. Entered C h ps (at + 1) found c ↔ Heads C h.holder q ps ms b c in
      subst P (sym o) (
        λ (d, among, goes). elim ((adds d).0 among) [ inl a ↦ (let R : List (List Bound) → Type 0 = λ xs. Among xs d in absurd (subst R none a)) | inr m ↦ (d, m, goes) ],
        λ (d, m, goes). (d, (adds d).1 (inr m), goes),
      )

  -- the one state that a list of kids begins with
  pub begins : (h : Line) (ps : List Part) (states : List State) (s : State) (b : List Bound) (c : End) → states ≡ s ∷ [] → s.at ≡ 0 → s.floating ≡ false → s.trail ≡ b
      → AnyFrom C h ps states c ↔ Leads C h.holder ps h.kids b c
  begins h ps states s b c is at stays trail =
      let P : List State → Type 0 = λ xs. AnyFrom C h ps xs c ↔ Leads C h.holder ps h.kids b c in
      let A : ℕ → Type 0 = λ i. Goes C s.floating h.holder ps (drop i h.kids) s.trail c ↔ Leads C h.holder ps h.kids b c in
      let F : Bool → Type 0 = λ f. Goes C f h.holder ps h.kids s.trail c ↔ Leads C h.holder ps h.kids b c in
      let T : List Bound → Type 0 = λ x. Leads C h.holder ps h.kids x c ↔ Leads C h.holder ps h.kids b c in
      let whole : From C h ps s c ↔ Leads C h.holder ps h.kids b c = subst A (sym at) (subst F (sym stays) (subst T (sym trail) (λ x. x, λ x. x))) in
      subst P (sym is) (
        λ (t, among, goes). elim among [ inl e ↦ (let R : State → Type 0 = λ u. From C h ps u c in whole.0 (subst R (sym e) goes)) | inr a ↦ absurd a ],
        λ x. (s, inl refl, whole.1 x),
      )

  -- a step by the part at a place of some parts
  pub part_steps : (h : Line) (q : Part) (parts : List Part) (i : ℕ) (old new : List State) (c : End) → drop i parts ≡ q ∷ drop (i + 1) parts
      → AnyFrom C h (drop (i + 1) parts) new c ↔ AnyFrom C h (q ∷ drop (i + 1) parts) old c → AnyFrom C h (drop (i + 1) parts) new c ↔ AnyFrom C h (drop i parts) old c
  part_steps h q parts i old new c here steps = let P : List Part → Type 0 = λ ps. AnyFrom C h (drop (i + 1) parts) new c ↔ AnyFrom C h ps old c in subst P (sym here) steps

  pub last_part : (h : Line) (parts : List Part) (i : ℕ) (states : List State) (b c : List Bound) → length parts ≤ i
      → AnyFrom C h (drop i parts) states ([], c) ↔ Leads C h.holder parts h.kids b ([], c) → AnyFrom C h [] states ([], c) ↔ MatchesList C h.holder parts h.kids b c
  last_part h parts i states b c le inv =
      let P : List Part → Type 0 = λ qs. AnyFrom C h qs states ([], c) ↔ Leads C h.holder parts h.kids b ([], c) in
      let whole = whole_front C h.holder parts h.kids b c in
      let all = subst P (drop_all i parts le) inv in
      (λ x. whole.0 (all.0 x), λ y. all.1 (whole.1 y))

  pub from_none : (h : Line) (ps : List Part) (states : List State) (W : Type 0) (c : End) → states ≡ [] → (AnyFrom C h ps states c ⊎ W) ↔ W
  from_none h ps states W c e =
      (λ a. elim a [ inl (s, among, x) ↦ (let P : List State → Type 0 = λ ss. Among ss s in absurd (subst P e among)) | inr w ↦ w ], λ w. inr w)

  -- a floating state leads to what a later one with its binding leads to
  pub covered : (h : Line) (ps : List Part) (states : List State) (at : ℕ) (b : List Bound) (c : End) → IsCovered states at b → AnyFrom C h ps states c ↔ (AnyFrom C h ps states c ⊎ Goes C true h.holder ps (drop at h.kids) b c)
  covered h ps states at b c (s, among, floats, before, trail) = (λ a. inl a, λ x. elim x [ inl a ↦ a | inr (k, goes) ↦ (s, among, from k goes) ])
    where
      from : (k : ℕ) → Leads C h.holder ps (drop k (drop at h.kids)) b c → From C h ps s c
      from k goes =
          let e : at + k ≡ s.at + (at - s.at + k) = omega arith in
          let P : List Numbered → Type 0 = λ ms. Leads C h.holder ps ms b c in
          let F : Bool → Type 0 = λ f. Goes C f h.holder ps (drop s.at h.kids) s.trail c in
          let T : List Bound → Type 0 = λ t. Goes C true h.holder ps (drop s.at h.kids) t c in
          subst F (sym floats) (subst T (sym trail) (
            at - s.at + k,
            subst P (drop-drop k at h.kids ∙ ap (λ j. drop j h.kids) e ∙ sym (drop-drop (at - s.at + k) s.at h.kids)) goes,
          ))

-- ---- a free part

near_or_far : (a b : ℕ) → (a < b) ⊎ (b ≤ a)
near_or_far a zero = inr (omega arith)
near_or_far zero (suc b) = inl (omega arith)
near_or_far (suc a) (suc b) = elim (near_or_far a b) [ inl lt ↦ inl (omega arith) | inr le ↦ inr (omega arith) ]

module _ (C : List Known) where
  free_leads : (h : Numbered) (ps : List Part) (ns : List Numbered) (b : List Bound) (c : End) → 0 < length ns → Leads C h ps (drop 1 ns) b c → Leads C h (None ∷ ps) ns b c
  free_leads h ps [] b c lt x = absurd (omega arith)
  free_leads h ps (n ∷ ns) b c lt x = free_front x

  after_free : (h : Numbered) (ps : List Part) (ns : List Numbered) (b : List Bound) (c : End) → Leads C h (None ∷ ps) ns b c → (0 < length ns) × Leads C h ps (drop 1 ns) b c
  after_free h ps (n ∷ ns) b c (free_front x) = (omega arith, x)
  after_free h ps [] b c x = elim x [ ]

  module _ (h : Numbered) (ps : List Part) (ns : List Numbered) (b : List Bound) (c : End) (at : ℕ) where
    shift : (k : ℕ) → drop 1 (drop k (drop at ns)) ≡ drop k (drop (at + 1) ns)
    shift k = let e : at + k + 1 ≡ at + 1 + k = omega arith in ap (drop 1) (drop-drop k at ns) ∙ drop-drop 1 (at + k) ns ∙ ap (λ (j : ℕ). drop j ns) e ∙ sym (drop-drop k (at + 1) ns)

    none_there : length ns ≤ at → (k : ℕ) → Leads C h (None ∷ ps) (drop k (drop at ns)) b c → ⊥
    none_there le k x = let r = (after_free h ps (drop k (drop at ns)) b c x).0 in absurd (omega (arith, r, length-drop k (drop at ns), length-drop at ns))

    there : (k : ℕ) → at + k < length ns → Leads C h ps (drop k (drop (at + 1) ns)) b c → Leads C h (None ∷ ps) (drop k (drop at ns)) b c
    there k lt x =
        let P : List Numbered → Type 0 = λ ms. Leads C h ps ms b c in
        free_leads h ps (drop k (drop at ns)) b c (omega (arith, length-drop k (drop at ns), length-drop at ns)) (subst P (sym (shift k)) x)

    back : (k : ℕ) → Leads C h (None ∷ ps) (drop k (drop at ns)) b c → Leads C h ps (drop k (drop (at + 1) ns)) b c
    back k x = let P : List Numbered → Type 0 = λ ms. Leads C h ps ms b c in subst P (shift k) (after_free h ps (drop k (drop at ns)) b c x).1

    -- a place past the end is as good as the last one
    last : (k : ℕ) → at < length ns → length ns ≤ at + k → Leads C h ps (drop k (drop (at + 1) ns)) b c → Leads C h ps (drop (length ns - (at + 1)) (drop (at + 1) ns)) b c
    last k lt le x =
        let P : List Numbered → Type 0 = λ ms. Leads C h ps ms b c in
        let l = length-drop (at + 1) ns in
        subst P (drop_all k (drop (at + 1) ns) (omega (arith, l)) ∙ sym (drop_all (length ns - (at + 1)) (drop (at + 1) ns) (omega (arith, l)))) x

    pub free_goes : (f : Bool) → at < length ns → Goes C f h ps (drop (at + 1) ns) b c ↔ Goes C f h (None ∷ ps) (drop at ns) b c
    free_goes true lt = (
      λ (k, x). elim (near_or_far (at + k) (length ns)) [ inl near ↦ (k, there k near x) | inr far ↦ (length ns - (at + 1), there (length ns - (at + 1)) (omega arith) (last k lt far x)) ],
      λ (k, x). (k, back k x),
    )
    free_goes false lt = (λ x. there 0 (omega arith) x, λ x. back 0 x)

    pub no_free : (f : Bool) → length ns ≤ at → Goes C f h (None ∷ ps) (drop at ns) b c → ⊥
    no_free true le (k, x) = none_there le k x
    no_free false le x = none_there le 0 x
