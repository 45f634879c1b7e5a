-- Tables of least sources: what lowers them, and the hits that they list.
use Rattle.std.proofs.Common.{◌≡◌, ◌⊎◌, ◌↔◌, inl, inr, ℕ, zero, suc, ◌<◌, ◌≢◌, List, [], ◌∷◌, ◌++◌, length, refl, sym, ap, ◌∙◌, subst, arith, Some}
use Rattle.std.specs.Prelude.{Option, None, slice_get, slice_set}
use Rattle.std.proofs.lemmas.Bool.{cases_eq}
use Rattle.std.proofs.lemmas.List.{length-set}
use Rattle.std.proofs.lemmas.Option.{slice_get_within}
use Rattle.node_tree.specs.declared.span.Span.{Span}
use Rattle.graph_form.specs.Sets.{Among}
use Rattle.graph_form.proofs.Amongs.{among_push}
use Rattle.flow_graph.specs.Units.{InOrder}
use Rattle.taint_flow.specs.declared.hit.TaintHit.{TaintHit}
use Rattle.taint_flow.specs.Taint.{IsUpTo}
use Rattle.taint_flow.specs.Lowest.{Has, IsNone, Lowers, AreLeast, AreListed}
use Rattle.flow_reach.proofs.Sorted.{got_among}

pub up_to_itself : (a : Span) → IsUpTo a a
up_to_itself a = inr (refl, omega arith)

pub up_to_then : (a b c : Span) → IsUpTo a b → IsUpTo b c → IsUpTo a c
up_to_then a b c (inl p) (inl q) = inl (omega (arith, p, q))
up_to_then a b c (inl p) (inr (e, q)) = inl (omega (arith, p, e))
up_to_then a b c (inr (e, p)) (inl q) = inl (omega (arith, e, q))
up_to_then a b c (inr (e, p)) (inr (f, q)) = inr (e ∙ f, omega (arith, p, q))

pub up_to_both : (a b : Span) → IsUpTo a b → IsUpTo b a → a ≡ b
up_to_both a b (inl p) (inl q) = absurd (omega (arith, p, q))
up_to_both a b (inl p) (inr (e, q)) = absurd (omega (arith, p, e))
up_to_both a b (inr (e, p)) (inl q) = absurd (omega (arith, e, q))
up_to_both a b (inr (e, p)) (inr (f, q)) =
    let to : a.to ≡ b.to = omega (arith, p, q) in
    ap (λ x. record { from = x; to = a.to }) e ∙ ap (λ x. record { from = b.from; to = x }) to

-- nothing more is met
pub lowers_none : (These : ℕ → Span → Type 0) (table : List (Option Span)) → ((sink : ℕ) (source : Span) → These sink source → ⊥) → Lowers These table table
lowers_none These table none = record {
  size = refl;
  some = λ sink source has. inl has;
  kept = λ sink source has. (source, has, up_to_itself source);
  least = λ sink source these. absurd (none sink source these);
}

-- one after the other, where All are those of both
pub lowers_then : (A B All : ℕ → Span → Type 0) (old mid new : List (Option Span)) → ((sink : ℕ) (source : Span) → All sink source ↔ (A sink source ⊎ B sink source))
    → Lowers A old mid → Lowers B mid new → Lowers All old new
lowers_then A B All old mid new both first second = record {
  size = second.size ∙ first.size;
  some = λ sink source has. elim (second.some sink source has) [
    | inl h ↦ elim (first.some sink source h) [ inl o ↦ inl o | inr a ↦ inr ((both sink source).1 (inl a)) ]
    | inr b ↦ inr ((both sink source).1 (inr b))
  ];
  kept = λ sink source has. later sink source (first.kept sink source has);
  least = λ sink source all. elim ((both sink source).0 all) [ inl a ↦ later sink source (first.least sink source a) | inr b ↦ second.least sink source b ];
}
  where
    later : (sink : ℕ) (source : Span) → ((s : Span) × Has mid sink s × IsUpTo s source) → (s : Span) × Has new sink s × IsUpTo s source
    later sink source (s, has, up) = let r = second.kept sink s has in (r.0, r.1, up_to_then r.0 s source r.2 up)

-- the same sources
pub lowers_same : (A B : ℕ → Span → Type 0) (old new : List (Option Span)) → ((sink : ℕ) (source : Span) → A sink source ↔ B sink source) → Lowers A old new → Lowers B old new
lowers_same A B old new same low = record {
  size = low.size;
  some = λ sink source has. elim (low.some sink source has) [ inl h ↦ inl h | inr a ↦ inr ((same sink source).0 a) ];
  kept = low.kept;
  least = λ sink source b. low.least sink source ((same sink source).1 b);
}

-- nothing is met yet
pub least_none : (These : ℕ → Span → Type 0) (table : List (Option Span)) → IsNone table → ((sink : ℕ) (source : Span) → These sink source → ⊥) → AreLeast These table
least_none These table none never = record { some = λ sink source has. absurd (none sink source has); least = λ sink source these. absurd (never sink source these) }

-- more is met
pub least_more : (A B All : ℕ → Span → Type 0) (old new : List (Option Span)) → ((sink : ℕ) (source : Span) → All sink source ↔ (A sink source ⊎ B sink source)) → AreLeast A old → Lowers B old new → AreLeast All new
least_more A B All old new both are low = record {
  some = λ sink source has. (both sink source).1 (elim (low.some sink source has) [ inl h ↦ inl (are.some sink source h) | inr b ↦ inr b ]);
  least = λ sink source all. elim ((both sink source).0 all) [
    | inl a ↦ let r = are.least sink source a in let s = low.kept sink r.0 r.1 in (s.0, s.1, up_to_then s.0 r.0 source s.2 r.2)
    | inr b ↦ low.least sink source b
  ];
}

-- ---- one source

get_set_here : (xs : List (Option Span)) (i : ℕ) (y : Option Span) → i < length xs → slice_get (slice_set xs i y) i ≡ Some y
get_set_here [] i y lt = absurd (omega (arith, lt))
get_set_here (x ∷ xs) zero y lt = refl
get_set_here (x ∷ xs) (suc i) y lt = get_set_here xs i y (omega (arith, lt))

get_set_elsewhere : (xs : List (Option Span)) (i k : ℕ) (y : Option Span) → k ≢ i → slice_get (slice_set xs i y) k ≡ slice_get xs k
get_set_elsewhere [] i k y ne = refl
get_set_elsewhere (x ∷ xs) zero zero y ne = absurd (ne refl)
get_set_elsewhere (x ∷ xs) zero (suc k) y ne = refl
get_set_elsewhere (x ∷ xs) (suc i) zero y ne = refl
get_set_elsewhere (x ∷ xs) (suc i) (suc k) y ne = get_set_elsewhere xs i k y (λ e. ne (ap suc e))

-- the lesser one of what there was and a source is put in the place of a sink
pub lowers_one : (sink : ℕ) (source least : Span) (o : Option Span) (old new : List (Option Span)) → sink < length old → slice_get old sink ≡ Some o → new ≡ slice_set old sink (Some least)
    → (o ≡ Some least) ⊎ (least ≡ source) → IsUpTo least source → ((s : Span) → o ≡ Some s → IsUpTo least s) → Lowers (λ (k : ℕ) (s : Span). (k ≡ sink) × (s ≡ source)) old new
lowers_one sink source least o old new lt there is one up lower = record {
  size = ap length is ∙ length-set old sink (Some least);
  some = λ k s has. elim (cases_eq k sink) [
    | inl e ↦ elim one [
      | inl was ↦ inl (let q : slice_get old k ≡ Some (Some least) = ap (slice_get old) e ∙ there ∙ ap Some was in q ∙ ap (λ z. Some (Some z)) (same k s e has))
      | inr now ↦ inr (e, sym (same k s e has) ∙ now)
    ]
    | inr ne ↦ inl (sym (elsewhere k ne) ∙ has)
  ];
  kept = λ k s has. elim (cases_eq k sink) [
    | inl e ↦ (least, here k e, lower s (let q : Some o ≡ Some (Some s) = sym there ∙ ap (slice_get old) (sym e) ∙ has in cc))
    | inr ne ↦ (s, elsewhere k ne ∙ has, up_to_itself s)
  ];
  least = λ k s (e, f). (least, here k e, subst (λ (z : Span). IsUpTo least z) (sym f) up);
}
  where
    here : (k : ℕ) → k ≡ sink → slice_get new k ≡ Some (Some least)
    here k e = ap (slice_get new) e ∙ ap (λ (xs : List (Option Span)). slice_get xs sink) is ∙ get_set_here old sink (Some least) lt

    elsewhere : (k : ℕ) → k ≢ sink → slice_get new k ≡ slice_get old k
    elsewhere k ne = ap (λ (xs : List (Option Span)). slice_get xs k) is ∙ get_set_elsewhere old sink k (Some least) ne

    same : (k : ℕ) (s : Span) → k ≡ sink → Has new k s → least ≡ s
    same k s e has = let q : Some (Some least) ≡ Some (Some s) = sym (here k e) ∙ has in cc

-- ---- one sink more

has_push : (old : List (Option Span)) (o : Option Span) (k : ℕ) (s : Span) → Has (old ++ o ∷ []) k s ↔ (Has old k s ⊎ ((k ≡ length old) × (o ≡ Some s)))
has_push [] o zero s = (λ has. inr (refl, let q : Some o ≡ Some (Some s) = has in cc), λ h. elim h [ inl none ↦ absurd cc | inr (e, f) ↦ ap Some f ])
has_push [] o (suc k) s = (λ has. absurd cc, λ h. elim h [ inl none ↦ absurd cc | inr (e, f) ↦ absurd (omega (arith, e)) ])
has_push (x ∷ xs) o zero s = (λ has. inl has, λ h. elim h [ inl has ↦ has | inr (e, f) ↦ absurd (omega (arith, e)) ])
has_push (x ∷ xs) o (suc k) s =
    let r = has_push xs o k s in (
      λ has. elim (r.0 has) [ inl h ↦ inl h | inr (e, f) ↦ inr (ap suc e, f) ],
      λ h. elim h [ inl has ↦ r.1 (inl has) | inr (e, f) ↦ r.1 (inr (let q : k ≡ length xs = omega (arith, e) in q, f)) ],
    )

pub none_push : (old : List (Option Span)) → IsNone old → IsNone (old ++ None ∷ [])
none_push old none sink source has = elim ((has_push old None sink source).0 has) [ inl h ↦ none sink source h | inr (e, f) ↦ absurd cc ]

has_below : (xs : List (Option Span)) (k : ℕ) (s : Span) → Has xs k s → k < length xs
has_below xs k s has = slice_get_within xs k (Some s) has

pub listed_none : (old : List (Option Span)) (hits : List TaintHit) → AreListed old hits → AreListed (old ++ None ∷ []) hits
listed_none old hits listed = record {
  each = λ hit.
      let r = has_push old None hit.sink hit.source in (
        λ among. r.1 (inl ((listed.each hit).0 among)),
        λ has. elim (r.0 has) [ inl h ↦ (listed.each hit).1 h | inr (e, f) ↦ absurd cc ],
      );
  order = listed.order;
}

pub listed_some : (old : List (Option Span)) (sink : ℕ) (hits new : List TaintHit) (source : Span) → length old ≡ sink → new ≡ hits ++ record { sink = sink; source = source } ∷ [] → AreListed old hits → AreListed (old ++ Some source ∷ []) new
listed_some old sink hits new source size is listed =
    let P : List TaintHit → Type 0 = λ hs. AreListed (old ++ Some source ∷ []) hs in
    subst P (sym (is ∙ ap (λ k. hits ++ record { sink = k; source = source } ∷ []) (sym size))) (record { each = each; order = order })
  where
    each : (hit : TaintHit) → Among (hits ++ record { sink = length old; source = source } ∷ []) hit ↔ Has (old ++ Some source ∷ []) hit.sink hit.source
    each hit =
        let r = has_push old (Some source) hit.sink hit.source in
        let p = among_push hits (record { sink = length old; source = source }) hit in (
          λ among. elim (p.0 among) [
            | inl a ↦ r.1 (inl ((listed.each hit).0 a))
            | inr e ↦ r.1 (inr (sym (ap (λ (h : TaintHit). h.sink) e), ap (λ (h : TaintHit). Some h.source) e))
          ],
          λ has. elim (r.0 has) [
            | inl h ↦ p.1 (inl ((listed.each hit).1 h))
            | inr (e, f) ↦ p.1 (inr (let q : source ≡ hit.source = cc in λ i. record { sink = sym e i; source = q i }))
          ],
        )

    either : (xs : List TaintHit) (y x : TaintHit) (i : ℕ) → slice_get (xs ++ y ∷ []) i ≡ Some x → (slice_get xs i ≡ Some x) ⊎ ((i ≡ length xs) × (y ≡ x))
    either [] y x zero e = inr (refl, let q : Some y ≡ Some x = e in cc)
    either [] y x (suc i) e = absurd cc
    either (z ∷ zs) y x zero e = inl e
    either (z ∷ zs) y x (suc i) e = elim (either zs y x i e) [ inl a ↦ inl a | inr (p, q) ↦ inr (ap suc p, q) ]

    order : InOrder (λ (a b : TaintHit). a.sink < b.sink) (hits ++ record { sink = length old; source = source } ∷ [])
    order i j x y lt at there = elim (either hits _ y j there) [
      | inl second ↦ elim (either hits _ x i at) [
        | inl first ↦ listed.order i j x y lt first second
        | inr (e, same) ↦ (let less = slice_get_within hits j y second in absurd (omega (arith, e, less, lt)))
      ]
      | inr (f, same) ↦ elim (either hits _ x i at) [
        | inl first ↦ (let below = has_below old x.sink x.source ((listed.each x).0 (got_among hits i x first)) in let k : length old ≡ y.sink = ap (λ (h : TaintHit). h.sink) same in omega (arith, below, k))
        | inr (e, other) ↦ absurd (omega (arith, e, f, lt))
      ]
    ]
