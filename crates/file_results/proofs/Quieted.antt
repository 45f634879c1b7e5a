-- Findings that no comment quiets.
use Rattle.std.proofs.Common.{◌≡◌, ◌⊎◌, inl, inr, ◌↔◌, Bool, true, false, cond, ℕ, ◌+◌, ◌<◌, List, [], ◌∷◌, ◌++◌, length, map, reverse, drop, get_or, refl, sym, ap, ◌∙◌, subst, append_assoc, append-nil, add-one, drop-cons}
use Rattle.std.specs.Prelude.{not, filter, if◌then◌else◌}
use Rattle.std.specs.Cmp.{IsTotalOrder}
use Rattle.std.specs.declared.cmp.Ordering.{Ordering}
use Rattle.std.specs.declared.cmp.Ordering.TheVariants.{Less}
use Rattle.std.proofs.lemmas.Bool.{false≢true}
use Rattle.std.proofs.lemmas.List.{reverse-append}
use Rattle.node_tree.specs.declared.span.Span.{Span}
use Rattle.node_tree.specs.declared.view.Lang.{Lang}
use Rattle.node_tree.specs.declared.view.Lang.TheVariants.{Json, Python, C, Regex}
use Rattle.rule_form.specs.declared.rule.Rule.{Rule}
use Rattle.node_match.specs.Sets.{Among}
use Rattle.tree_match.specs.Ascending.{IsAscending}
use Rattle.node_tree.specs.declared.node.Node.{Node}
use Rattle.quieting.specs.declared.quiet.Quiet.{Quiet}
use Rattle.quieting.specs.Quieting.{quiets_of}
use Rattle.report_form.specs.declared.report.Reported.{Reported}
use Rattle.file_results.specs.Sets.{IsExactly}
use Rattle.file_results.specs.Reports.{reported_cmp}
use Rattle.file_results.specs.HitOrder.{reported_total}
use Rattle.file_results.specs.Looking.{LeafOf}
use Rattle.file_results.specs.Quieted.{Comments, IsQuietedIn, is_quieted_by, HasWord, AreQuiets, AreUnquieted, unmarked}
use Rattle.file_results.specs.Shown.{IsShownIn}
use Rattle.file_results.specs.Tracing.{HasTrace}
use Rattle.file_results.specs.Followed.{IsTracedIn}
use Rattle.file_results.proofs.Traces.{same_but_stops}
use Rattle.file_results.proofs.Orders.{tail_ascends, first_below}
use Rattle.file_results.proofs.Worded.{quiets_none}

-- ---- items that pass a test

module _ {X : Type 0} (p : X → Bool) where
  filter_from : (xs : List X) (x : X) → Among (filter p xs) x → Among xs x × (p x ≡ true)
  filter_from [] x h = elim h [ ]
  filter_from (y ∷ ys) x h = at (p y) refl h (filter_from ys x)
    where
      at : (b : Bool) → p y ≡ b → Among (cond b (y ∷ filter p ys) (filter p ys)) x → (Among (filter p ys) x → Among ys x × (p x ≡ true)) → Among (y ∷ ys) x × (p x ≡ true)
      at true e (inl is) rest = (inl is, ap p (sym is) ∙ e)
      at true e (inr k) rest = let r = rest k in (inr r.0, r.1)
      at false e k rest = let r = rest k in (inr r.0, r.1)

  filter_to : (xs : List X) (x : X) → p x ≡ true → Among xs x → Among (filter p xs) x
  filter_to [] x e h = elim h [ ]
  filter_to (y ∷ ys) x e h = at (p y) refl h (filter_to ys x e)
    where
      at : (b : Bool) → p y ≡ b → Among (y ∷ ys) x → (Among ys x → Among (filter p ys) x) → Among (cond b (y ∷ filter p ys) (filter p ys)) x
      at true f (inl is) rest = inl is
      at true f (inr k) rest = inr (rest k)
      at false f (inl is) rest = absurd (false≢true (sym f ∙ ap p is ∙ e))
      at false f (inr k) rest = rest k

  module _ (R : X → X → Ordering) (o : IsTotalOrder R) where
    below_all : (x : X) (ys : List X) → ((y : X) → Among ys y → R x y ≡ Less) → IsAscending R ys → IsAscending R (x ∷ ys)
    below_all x [] below up = tt
    below_all x (y ∷ ys) below up = (below y (inl refl), up)

    ascends_filtered : (xs : List X) → IsAscending R xs → IsAscending R (filter p xs)
    ascends_filtered [] up = tt
    ascends_filtered (x ∷ xs) up = at (p x) (ascends_filtered xs (tail_ascends R o x xs up))
      where
        at : (b : Bool) → IsAscending R (filter p xs) → IsAscending R (cond b (x ∷ filter p xs) (filter p xs))
        at true rest = below_all x (filter p xs) (λ y k. first_below R o x xs y up (filter_from xs y k).0) rest
        at false rest = rest

-- ---- findings that pass

unquiet : (b : Bool) → (not b ≡ true) ↔ (b ≡ true → ⊥)
unquiet true = (λ e f. false≢true e, λ f. absurd (f refl))
unquiet false = (λ e f. false≢true f, λ f. refl)

-- those that are not marked are those that pass
unmarked_pass : (q : Reported → Bool) (found : List Reported) → unmarked (map q found) found ≡ filter (λ r. not (q r)) found
unmarked_pass q [] = refl
unmarked_pass q (r ∷ rs) = at (q r) (unmarked_pass q rs)
  where
    at : (b : Bool) → unmarked (map q rs) rs ≡ filter (λ s. not (q s)) rs → (if b then unmarked (map q rs) rs else r ∷ unmarked (map q rs) rs) ≡ cond (not b) (r ∷ filter (λ s. not (q s)) rs) (filter (λ s. not (q s)) rs)
    at true rest = rest
    at false rest = ap (λ (ts : List Reported). r ∷ ts) rest

-- one mark after the other
pub marked_on : (q : Reported → Bool) (found rest after : List Reported) (r : Reported) (marks marks' : List Bool) (mark : Bool) → marks ++ map q rest ≡ map q found → rest ≡ r ∷ after → mark ≡ q r → marks' ≡ marks ++ mark ∷ []
    → marks' ++ map q after ≡ map q found
marked_on q found rest after r marks marks' mark far opens is put =
    ap (λ (ms : List Bool). ms ++ map q after) (put ∙ ap (λ (b : Bool). marks ++ b ∷ []) is) ∙ append_assoc marks (q r ∷ []) (map q after) ∙ ap (λ (rs : List Reported). marks ++ map q rs) (sym opens) ∙ far

pub marked_all : (q : Reported → Bool) (found rest : List Reported) (marks : List Bool) → marks ++ map q rest ≡ map q found → rest ≡ [] → marks ≡ map q found
marked_all q found rest marks far none = sym (append-nil marks) ∙ ap (λ (rs : List Reported). marks ++ map q rs) (sym none) ∙ far

-- the mark at a place, and those after it
pub mark_opened : (ms : List Bool) (i : ℕ) → i < length ms → drop i ms ≡ get_or ms i false ∷ drop (i + 1) ms
mark_opened ms i lt = drop-cons ms i false lt ∙ ap (λ (j : ℕ). get_or ms i false ∷ drop j ms) (sym (add-one i))

-- one finding after the other, from the last on
unmarked_none : (ms : List Bool) → unmarked {X = Reported} ms [] ≡ []
unmarked_none [] = refl
unmarked_none (m ∷ ms) = refl

pub none_left : (kept old whole : List Reported) (ms : List Bool) → kept ++ unmarked ms (reverse old) ≡ whole → old ≡ [] → kept ≡ whole
none_left kept old whole ms far none =
    sym (append-nil kept) ∙ ap (λ (rs : List Reported). kept ++ rs) (sym (unmarked_none ms)) ∙ ap (λ (rs : List Reported). kept ++ unmarked ms (reverse rs)) (sym none) ∙ far

module _ (kept old whole : List Reported) (ms rest : List Bool) (m : Bool) (opens : ms ≡ m ∷ rest) (far : kept ++ unmarked ms (reverse old) ≡ whole) where
  module _ (new : List Reported) (one : Reported) (last : old ≡ new ++ one ∷ []) where
    left_by : (b : Bool) → m ≡ b → kept ++ unmarked (b ∷ rest) (one ∷ reverse new) ≡ whole
    left_by b e =
        let F : List Bool → List Reported = λ l. kept ++ unmarked l (one ∷ reverse new) in
        let G : List Reported → List Reported = λ rs. kept ++ unmarked ms rs in
        ap (λ (c : Bool). F (c ∷ rest)) (sym e) ∙ ap F (sym opens) ∙ ap G (sym (ap (λ (rs : List Reported). reverse rs) last ∙ reverse-append new (one ∷ []))) ∙ far

    pub kept_on : (kept' : List Reported) → m ≡ false → kept' ≡ kept ++ one ∷ [] → kept' ++ unmarked rest (reverse new) ≡ whole
    kept_on kept' e put = ap (λ (rs : List Reported). rs ++ unmarked rest (reverse new)) put ∙ append_assoc kept (one ∷ []) (unmarked rest (reverse new)) ∙ left_by false e

    pub dropped_on : m ≡ true → kept ++ unmarked rest (reverse new) ≡ whole
    dropped_on e = left_by true e

-- ---- what the comments of a file quiet

-- a file in a language without comments
pub no_quiets : (comments : Comments) (lang : Lang) (text : List ℕ) (quiets : List Quiet) → (lang ≡ Json) ⊎ (lang ≡ Regex) → quiets ≡ [] → AreQuiets comments lang text quiets
no_quiets comments Json text quiets is e = record { spans = []; has = refl; only = λ others h. h; are = e }
no_quiets comments Regex text quiets is e = record { spans = []; has = refl; only = λ others h. h; are = e }
no_quiets comments Python text quiets (inl is) e = absurd cc
no_quiets comments Python text quiets (inr is) e = absurd cc
no_quiets comments C text quiets (inl is) e = absurd cc
no_quiets comments C text quiets (inr is) e = absurd cc

-- one with comments
pub read_quiets : (comments : Comments) (lang : Lang) (text : List ℕ) (spans : List Span) (quiets : List Quiet) → (lang ≡ Python) ⊎ (lang ≡ C) → comments lang text spans
    → ((others : List Span) → comments lang text others → spans ≡ others) → quiets ≡ quiets_of text spans → AreQuiets comments lang text quiets
read_quiets comments Python text spans quiets is has only e = record { spans = spans; has = has; only = λ others h. sym (only others h); are = e }
read_quiets comments C text spans quiets is has only e = record { spans = spans; has = has; only = λ others h. sym (only others h); are = e }
read_quiets comments Json text spans quiets (inl is) has only e = absurd cc
read_quiets comments Json text spans quiets (inr is) has only e = absurd cc
read_quiets comments Regex text spans quiets (inl is) has only e = absurd cc
read_quiets comments Regex text spans quiets (inr is) has only e = absurd cc

module _ (comments : Comments) (lang : Lang) (text : List ℕ) where
  module _ (quiets : List Quiet) (q : AreQuiets comments lang text quiets) where
    quieted_by : (r : Reported) → IsQuietedIn comments lang text r ↔ (is_quieted_by quiets r ≡ true)
    quieted_by r =
        let P : List Span → Type 0 = λ spans. is_quieted_by (quiets_of text spans) r ≡ true in
        let Q : List Quiet → Type 0 = λ qs. is_quieted_by qs r ≡ true in
        (λ h. subst Q (sym q.are) (subst P (q.only h.0 h.1) h.2), λ e. (q.spans, q.has, subst Q q.are e))

    pub are_unquieted : (found kept : List Reported) → kept ≡ unmarked (map (is_quieted_by quiets) found) found → AreUnquieted comments lang text found kept
    are_unquieted found kept e =
        let P : List Reported → Type 0 = λ rs. AreUnquieted comments lang text found rs in
        let passes : Reported → Bool = λ r. not (is_quieted_by quiets r) in
        subst P (sym (e ∙ unmarked_pass (is_quieted_by quiets) found)) (record {
          exact = λ r. (
            λ k. let f = filter_from passes found r k in (f.0, λ h. (unquiet (is_quieted_by quiets r)).0 f.1 ((quieted_by r).0 h)),
            λ k. filter_to passes found r ((unquiet (is_quieted_by quiets r)).1 (λ h. k.1 ((quieted_by r).1 h))) k.0,
          );
          ordered = λ up. ascends_filtered passes reported_cmp reported_total found up;
        })

  -- no finding, so nothing to ask for
  pub none_found : (found : List Reported) → found ≡ [] → AreUnquieted comments lang text found found
  none_found found e =
      let P : List Reported → Type 0 = λ rs. AreUnquieted comments lang text rs rs in
      subst P (sym e) (record { exact = λ r. (λ k. absurd k, λ k. absurd k.0); ordered = λ up. up })

  -- without the word that comments quiet by none is quieted
  pub unworded : (found : List Reported) → (HasWord text → ⊥) → AreUnquieted comments lang text found found
  unworded found none = record {
    exact = λ r. (λ k. (k, λ q. let P : List Quiet → Type 0 = λ quiets. is_quieted_by quiets r ≡ true in false≢true (subst P (quiets_none text none q.0) q.2)), λ k. k.0);
    ordered = λ up. up;
  }

  -- what is found and not quieted is what is shown
  module _ (leaf_of : LeafOf) (traced : Bool) (rules : List Rule) (path : List ℕ) (tree : Node) where
    -- a comment quiets a finding with its trace where it quiets the finding
    still_quieted : (bare r : Reported) → HasTrace traced leaf_of rules lang text tree bare r → IsQuietedIn comments lang text r ↔ IsQuietedIn comments lang text bare
    still_quieted bare r has =
        let s = same_but_stops leaf_of rules lang text tree traced bare r has in
        let P : Reported → Type 0 = λ x. IsQuietedIn comments lang text x ↔ IsQuietedIn comments lang text bare in
        subst P (sym s.1) (λ q. q, λ q. q)

    pub shown_exactly : (found shown : List Reported) → IsExactly reported_cmp (IsTracedIn leaf_of traced rules path lang text tree) found → AreUnquieted comments lang text found shown → IsExactly reported_cmp (IsShownIn leaf_of comments traced rules path lang text tree) shown
    shown_exactly found shown h u = record {
      exact = λ r. (
        λ k.
            let a = (u.exact r).0 k in
            let t = (h.exact r).0 a.0 in
            record { bare = t.bare; is_found = t.is_found; not_quieted = λ q. a.1 ((still_quieted t.bare r t.trace).1 q); trace = t.trace },
        λ k. (u.exact r).1 ((h.exact r).1 (record { bare = k.bare; is_found = k.is_found; trace = k.trace }), λ q. k.not_quieted ((still_quieted k.bare r k.trace).0 q)),
      );
      ordered = u.ordered h.ordered;
    }
