-- What agrees with two bindings made one.
use Rattle.std.proofs.Common.{◌≡◌, ◌⊎◌, inl, inr, ℕ, List, [], ◌∷◌, refl, sym, ap, ◌∙◌, subst, Bool, true, false, cond}
use Rattle.std.specs.Prelude.{Some}
use Rattle.std.specs.declared.cmp.Ordering.{Ordering}
use Rattle.std.specs.declared.cmp.Ordering.TheVariants.{Less, Equal, Greater}
use Rattle.std.specs.Ordering.{is_lt, is_eq, nat_cmp}
use Rattle.std.proofs.lemmas.Cmp.{nat_list_cmp_total, tied_itself}
use Rattle.node_tree.proofs.Orders.{nat_order, lists_order}
use Rattle.meta_bind.specs.declared.bound.Bound.{Bound}
use Rattle.meta_bind.specs.declared.join.Keep.{Keep}
use Rattle.meta_bind.specs.declared.join.Keep.TheVariants.{Later, First}
use Rattle.meta_bind.specs.Bounds.{name_cmp, NamesAscend, bound_at, Agree}
use Rattle.meta_bind.specs.Merges.{is_later, kept, with_kept, joined}
use Rattle.meta_bind.proofs.Names.{one_name, tail_ascends}
use Rattle.node_match.specs.Sets.{Among}

same_name : (a b : List ℕ) → name_cmp a b ≡ Equal → a ≡ b
same_name a b e = (lists_order nat_cmp nat_order).same a b e

-- a name is not below itself
apart : (a b : List ℕ) → name_cmp a b ≡ Less → a ≡ b → ⊥
apart a b lt e =
    let P : List ℕ → Type 0 = λ c. name_cmp a c ≡ Less in
    let h : Less ≡ Equal = sym (subst P (sym e) lt) ∙ tied_itself nat_list_cmp_total a in
    cc

-- the bounds of a binding stand above its first
above : (b : Bound) (bs : List Bound) (x : Bound) → NamesAscend (b ∷ bs) → Among bs x → name_cmp b.name x.name ≡ Less
above b [] x up h = elim h [ ]
above b (c ∷ cs) x up (inl e) = let P : Bound → Type 0 = λ y. name_cmp b.name y.name ≡ Less in subst P e up.0
above b (c ∷ cs) x up (inr h) = nat_list_cmp_total.trans b.name c.name x.name up.0 (above c cs x up.1 h)

-- the bound that is kept is one of the two
kept_one : (keep : Keep) (b c : Bound) → (kept keep b c ≡ b) ⊎ (kept keep b c ≡ c)
kept_one Later b c = at (is_later b.span c.span)
  where
    at : (t : Bool) → (cond t b c ≡ b) ⊎ (cond t b c ≡ c)
    at true = inl refl
    at false = inr refl
kept_one First b c = inl refl

kept_name : (keep : Keep) (b c : Bound) → b.name ≡ c.name → (kept keep b c).name ≡ c.name
kept_name keep b c e = at (kept_one keep b c)
  where
    at : (kept keep b c ≡ b) ⊎ (kept keep b c ≡ c) → (kept keep b c).name ≡ c.name
    at (inl h) = ap (λ (x : Bound). x.name) h ∙ e
    at (inr h) = ap (λ (x : Bound). x.name) h

module _ (keep : Keep) where
  abbrev put : Bound → Bound → List Bound → Ordering → List Bound
  put b d ds o = cond (is_lt o) (b ∷ d ∷ ds) (cond (is_eq o) (kept keep b d ∷ ds) (d ∷ with_kept keep b ds))

  with_from : (b : Bound) (ds : List Bound) (x : Bound) → Among (with_kept keep b ds) x → (b ≡ x) ⊎ Among ds x
  with_from b [] x h = h
  with_from b (d ∷ ds) x h = at (name_cmp b.name d.name) h (with_from b ds x)
    where
      turn : (b ≡ x) ⊎ Among ds x → (b ≡ x) ⊎ Among (d ∷ ds) x
      turn (inl e) = inl e
      turn (inr k) = inr (inr k)

      same : (kept keep b d ≡ b) ⊎ (kept keep b d ≡ d) → kept keep b d ≡ x → (b ≡ x) ⊎ Among (d ∷ ds) x
      same (inl k) e = inl (sym k ∙ e)
      same (inr k) e = inr (inl (sym k ∙ e))

      at : (o : Ordering) → Among (put b d ds o) x → (Among (with_kept keep b ds) x → (b ≡ x) ⊎ Among ds x) → (b ≡ x) ⊎ Among (d ∷ ds) x
      at Less k rest = k
      at Equal (inl e) rest = same (kept_one keep b d) e
      at Equal (inr k) rest = inr (inr k)
      at Greater (inl e) rest = inr (inl e)
      at Greater (inr k) rest = turn (rest k)

  -- a bound that stands for the name of x: x itself, or such a one
  record Stands (ms : List Bound) (x : Bound) (Other : Bound → Type 0) : Type 0 where
    one : Bound
    there : Among ms one
    named : one.name ≡ x.name
    from : (one ≡ x) ⊎ Other one

  with_new : (b : Bound) (ds : List Bound) → Stands (with_kept keep b ds) b (Among ds)
  with_new b [] = record { one = b; there = inl refl; named = refl; from = inl refl }
  with_new b (d ∷ ds) = at (name_cmp b.name d.name) refl (with_new b ds)
    where
      same : (kept keep b d ≡ b) ⊎ (kept keep b d ≡ d) → (kept keep b d ≡ b) ⊎ Among (d ∷ ds) (kept keep b d)
      same (inl k) = inl k
      same (inr k) = inr (inl (sym k))

      turn : (one : Bound) → (one ≡ b) ⊎ Among ds one → (one ≡ b) ⊎ Among (d ∷ ds) one
      turn one (inl e) = inl e
      turn one (inr k) = inr (inr k)

      at : (o : Ordering) → name_cmp b.name d.name ≡ o → Stands (with_kept keep b ds) b (Among ds) → Stands (put b d ds o) b (Among (d ∷ ds))
      at Less e rest = record { one = b; there = inl refl; named = refl; from = inl refl }
      at Equal e rest =
          let is = same_name b.name d.name e in
          record { one = kept keep b d; there = inl refl; named = kept_name keep b d is ∙ sym is; from = same (kept_one keep b d) }
      at Greater e rest = record { one = rest.one; there = inr rest.there; named = rest.named; from = turn rest.one rest.from }

  with_old : (b : Bound) (ds : List Bound) (x : Bound) → Among ds x → Stands (with_kept keep b ds) x (λ y. y ≡ b)
  with_old b [] x h = elim h [ ]
  with_old b (d ∷ ds) x h = at (name_cmp b.name d.name) refl h (with_old b ds x)
    where
      same : (kept keep b d ≡ b) ⊎ (kept keep b d ≡ d) → (kept keep b d ≡ d) ⊎ (kept keep b d ≡ b)
      same (inl k) = inr k
      same (inr k) = inl k

      first : (kept keep b d ≡ d) ⊎ (kept keep b d ≡ b) → d ≡ x → (kept keep b d ≡ x) ⊎ (kept keep b d ≡ b)
      first (inl k) e = inl (k ∙ e)
      first (inr k) e = inr k

      at : (o : Ordering) → name_cmp b.name d.name ≡ o → Among (d ∷ ds) x → (Among ds x → Stands (with_kept keep b ds) x (λ y. y ≡ b)) → Stands (put b d ds o) x (λ y. y ≡ b)
      at Less e k rest = record { one = x; there = inr k; named = refl; from = inl refl }
      at Equal e (inl k) rest =
          record { one = kept keep b d; there = inl refl; named = kept_name keep b d (same_name b.name d.name e) ∙ ap (λ (y : Bound). y.name) k; from = first (same (kept_one keep b d)) k }
      at Equal e (inr k) rest = record { one = x; there = inr k; named = refl; from = inl refl }
      at Greater e (inl k) rest = record { one = x; there = inl k; named = refl; from = inl refl }
      at Greater e (inr k) rest = let r = rest k in record { one = r.one; there = inr r.there; named = r.named; from = r.from }

  joined_from : (bs cs : List Bound) (x : Bound) → Among (joined keep bs cs) x → Among bs x ⊎ Among cs x
  joined_from [] cs x h = inr h
  joined_from (b ∷ bs) cs x h = at (with_from b (joined keep bs cs) x h) (joined_from bs cs x)
    where
      deeper : Among bs x ⊎ Among cs x → Among (b ∷ bs) x ⊎ Among cs x
      deeper (inl k) = inl (inr k)
      deeper (inr k) = inr k

      at : (b ≡ x) ⊎ Among (joined keep bs cs) x → (Among (joined keep bs cs) x → Among bs x ⊎ Among cs x) → Among (b ∷ bs) x ⊎ Among cs x
      at (inl e) rest = inl (inl e)
      at (inr k) rest = deeper (rest k)

  joined_right : (bs cs : List Bound) (x : Bound) → Among cs x → Stands (joined keep bs cs) x (Among bs)
  joined_right [] cs x h = record { one = x; there = h; named = refl; from = inl refl }
  joined_right (b ∷ bs) cs x h = at (joined_right bs cs x h)
    where
      source : (z : Bound) (y : Bound) → (z ≡ y) ⊎ (z ≡ b) → (y ≡ x) ⊎ Among bs y → (z ≡ x) ⊎ Among (b ∷ bs) z
      source z y (inl e) (inl f) = inl (e ∙ f)
      source z y (inl e) (inr k) = let P : Bound → Type 0 = Among bs in inr (inr (subst P (sym e) k))
      source z y (inr e) k = inr (inl (sym e))

      at : Stands (joined keep bs cs) x (Among bs) → Stands (with_kept keep b (joined keep bs cs)) x (Among (b ∷ bs))
      at r = let s = with_old b (joined keep bs cs) r.one r.there in record { one = s.one; there = s.there; named = s.named ∙ r.named; from = source s.one r.one s.from r.from }

  joined_left : (bs cs : List Bound) (x : Bound) → NamesAscend bs → Among bs x → Stands (joined keep bs cs) x (Among cs)
  joined_left [] cs x up h = elim h [ ]
  joined_left (b ∷ bs) cs x up (inl e) = let P : Bound → Type 0 = λ y. Stands (joined keep (b ∷ bs) cs) y (Among cs) in subst P e (at (with_new b (joined keep bs cs)))
    where
      source : (z : Bound) → z.name ≡ b.name → (z ≡ b) ⊎ (Among bs z ⊎ Among cs z) → (z ≡ b) ⊎ Among cs z
      source z n (inl f) = inl f
      source z n (inr (inl k)) = absurd (apart b.name z.name (above b bs z up k) (sym n))
      source z n (inr (inr k)) = inr k

      deeper : (z : Bound) → (z ≡ b) ⊎ Among (joined keep bs cs) z → (z ≡ b) ⊎ (Among bs z ⊎ Among cs z)
      deeper z (inl f) = inl f
      deeper z (inr k) = inr (joined_from bs cs z k)

      at : Stands (with_kept keep b (joined keep bs cs)) b (Among (joined keep bs cs)) → Stands (joined keep (b ∷ bs) cs) b (Among cs)
      at r = record { one = r.one; there = r.there; named = r.named; from = source r.one r.named (deeper r.one r.from) }
  joined_left (b ∷ bs) cs x up (inr h) = at (joined_left bs cs x (tail_ascends b bs up) h)
    where
      source : (z y : Bound) → z.name ≡ x.name → (z ≡ y) ⊎ (z ≡ b) → (y ≡ x) ⊎ Among cs y → (z ≡ x) ⊎ Among cs z
      source z y n (inl e) (inl f) = inl (e ∙ f)
      source z y n (inl e) (inr k) = let P : Bound → Type 0 = Among cs in inr (subst P (sym e) k)
      source z y n (inr e) k = absurd (apart b.name x.name (above b bs x up h) (ap (λ (w : Bound). w.name) (sym e) ∙ n))

      at : Stands (joined keep bs cs) x (Among cs) → Stands (with_kept keep b (joined keep bs cs)) x (Among cs)
      at r =
          let s = with_old b (joined keep bs cs) r.one r.there in
          let n = s.named ∙ r.named in
          record { one = s.one; there = s.there; named = n; from = source s.one r.one n s.from r.from }

-- ---- agreement, bound by bound

abbrev AgreeEach : List Bound → List Bound → Type 0
AgreeEach bs cs = (b c : Bound) → Among bs b → Among cs c → b.name ≡ c.name → b.nodes ≡ c.nodes

found_among : (name : List ℕ) (bs : List Bound) (b : Bound) → bound_at name bs ≡ Some b → Among bs b × (b.name ≡ name)
found_among name [] b e = absurd cc
found_among name (c ∷ cs) b e = at (is_eq (name_cmp c.name name)) refl e (found_among name cs b)
  where
    at : (t : Bool) → is_eq (name_cmp c.name name) ≡ t → cond t (Some c) (bound_at name cs) ≡ Some b → (bound_at name cs ≡ Some b → Among cs b × (b.name ≡ name)) → Among (c ∷ cs) b × (b.name ≡ name)
    at true t f rest = let is : c ≡ b = cc in (inl is, ap (λ (x : Bound). x.name) (sym is) ∙ one_name c.name name t)
    at false t f rest = let r = rest f in (inr r.0, r.1)

among_found : (bs : List Bound) (b : Bound) → NamesAscend bs → Among bs b → bound_at b.name bs ≡ Some b
among_found [] b up h = elim h [ ]
among_found (c ∷ cs) b up (inl e) =
    let P : Bound → Type 0 = λ x. bound_at x.name (c ∷ cs) ≡ Some x in
    subst P e (ap (λ (o : Ordering). cond (is_eq o) (Some c) (bound_at c.name cs)) (tied_itself nat_list_cmp_total c.name))
among_found (c ∷ cs) b up (inr h) = ap (λ (o : Ordering). cond (is_eq o) (Some c) (bound_at b.name cs)) (above c cs b up h) ∙ among_found cs b (tail_ascends c cs up) h

each_from : (bs cs : List Bound) → NamesAscend bs → NamesAscend cs → Agree bs cs → AgreeEach bs cs
each_from bs cs up uq a b c h k e =
    let P : List ℕ → Type 0 = λ n. bound_at n cs ≡ Some c in
    a b.name b c (among_found bs b up h) (subst P (sym e) (among_found cs c uq k))

each_to : (bs cs : List Bound) → AgreeEach bs cs → Agree bs cs
each_to bs cs a name b c e f =
    let h = found_among name bs b e in
    let k = found_among name cs c f in
    a b c h.0 k.0 (h.1 ∙ sym k.1)

module _ (keep : Keep) (bs cs ds : List Bound) (up : NamesAscend bs) (uq : NamesAscend cs) (ur : NamesAscend ds) where
  -- what agrees with both agrees with the two made one
  pub agree_joined : Agree bs ds → Agree cs ds → Agree (joined keep bs cs) ds
  agree_joined a b = each_to (joined keep bs cs) ds (λ x d h k e. at x d (joined_from keep bs cs x h) k e)
    where
      at : (x d : Bound) → Among bs x ⊎ Among cs x → Among ds d → x.name ≡ d.name → x.nodes ≡ d.nodes
      at x d (inl h) k e = each_from bs ds up ur a x d h k e
      at x d (inr h) k e = each_from cs ds uq ur b x d h k e

  -- and the other way round, for two that agree
  pub agree_left : NamesAscend (joined keep bs cs) → Agree bs cs → Agree (joined keep bs cs) ds → Agree bs ds
  agree_left us both a = each_to bs ds (λ x d h k e. at x d h k e (joined_left keep bs cs x up h))
    where
      at : (x d : Bound) → Among bs x → Among ds d → x.name ≡ d.name → Stands keep (joined keep bs cs) x (Among cs) → x.nodes ≡ d.nodes
      at x d h k e r = here r.from ∙ each_from (joined keep bs cs) ds us ur a r.one d r.there k (r.named ∙ e)
        where
          here : (r.one ≡ x) ⊎ Among cs r.one → x.nodes ≡ (r.one).nodes
          here (inl f) = ap (λ (y : Bound). y.nodes) (sym f)
          here (inr f) = each_from bs cs up uq both x r.one h f (sym r.named)

  pub agree_right : NamesAscend (joined keep bs cs) → Agree bs cs → Agree (joined keep bs cs) ds → Agree cs ds
  agree_right us both a = each_to cs ds (λ x d h k e. at x d h k e (joined_right keep bs cs x h))
    where
      at : (x d : Bound) → Among cs x → Among ds d → x.name ≡ d.name → Stands keep (joined keep bs cs) x (Among bs) → x.nodes ≡ d.nodes
      at x d h k e r = here r.from ∙ each_from (joined keep bs cs) ds us ur a r.one d r.there k (r.named ∙ e)
        where
          here : (r.one ≡ x) ⊎ Among bs r.one → x.nodes ≡ (r.one).nodes
          here (inl f) = ap (λ (y : Bound). y.nodes) (sym f)
          here (inr f) = sym (each_from bs cs up uq both r.one x f h r.named)
