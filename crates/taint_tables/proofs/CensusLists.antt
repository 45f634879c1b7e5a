-- Tables of names and of spans.
use Rattle.std.proofs.Common.{◌≡◌, ◌⊎◌, ◌↔◌, inl, inr, ℕ, Bool, true, false, cond, List, [], ◌∷◌, map, refl, sym, ap, ◌∙◌, subst}
use Rattle.std.specs.Prelude.{Option, Some, None, option_map, slice_get}
use Rattle.std.specs.Borrow.{Bor}
use Rattle.std.specs.BTreeMap.{BTreeMap, get, get_by, is_at}
use Rattle.std.specs.Cmp.Lexicographic.{slice_cmp, bytes_decides}
use Rattle.std.specs.Map.{lookup}
use Rattle.std.specs.Ordering.{nat_cmp, is_eq}
use Rattle.std.specs.declared.cmp.Ordering.{Ordering}
use Rattle.std.specs.declared.cmp.Ordering.TheVariants.{Equal}
use Rattle.std.proofs.lemmas.List.{map-append, map-id}
use Rattle.std.proofs.lemmas.Map.Text.{is_eq-slice_cmp}
use Rattle.std.proofs.lemmas.Option.{slice_get-map}
use Rattle.node_tree.specs.declared.span.Span.{Span}
use Rattle.node_tree.specs.Span.{span_cmp}
use Rattle.node_tree.proofs.Orders.{span_order}
use Rattle.graph_form.specs.Sets.{Among}
use Rattle.graph_form.proofs.Amongs.{among_push}
use Rattle.flow_reach.proofs.Sorted.{got_among}
use Rattle.taint_form.specs.Tables.{AreNumbers, with_key}
use Rattle.taint_form.proofs.Maps.{is_equal}
use Rattle.taint_tables.specs.Censuses.{key_cmp, texts}

module _ {K : Type 0} (test : K → Bool) where
  key_by : (x : K × ℕ) (r : Option ℕ) (i : ℕ) → (r ≡ Some i → (key : K) × (test key ≡ true)) → (b : Bool) → test x.0 ≡ b → cond b (Some x.1) r ≡ Some i → (key : K) × (test key ≡ true)
  key_by x r i rest true is e = (x.0, is)
  key_by x r i rest false is e = rest e

  -- a key that is found passes the test
  found_key : (es : List (K × ℕ)) (i : ℕ) → lookup test es ≡ Some i → (key : K) × (test key ≡ true)
  found_key [] i e = absurd cc
  found_key (x ∷ xs) i e = key_by x (lookup test xs) i (found_key xs i) (test x.0) refl e

module _ {K X : Type 0} (seen : K → X) (order : X → X → Ordering) (same : (x y : X) → order x y ≡ Equal → x ≡ y) where
  abbrev cmp : K → K → Ordering
  cmp a b = order (seen a) (seen b)

  -- a key more, as it is seen
  key_more : (numbers : BTreeMap K ℕ) (keys : List K) (key : K) → AreNumbers cmp numbers keys → (o : Option ℕ) → get cmp numbers key ≡ o → (x : X) → Among (map seen (with_key o keys key)) x ↔ (Among (map seen keys) x ⊎ (seen key ≡ x))
  key_more numbers keys key are None got x =
      let P : List X → Type 0 = λ xs. Among xs x ↔ (Among (map seen keys) x ⊎ (seen key ≡ x)) in
      subst P (sym (map-append seen keys (key ∷ []))) (among_push (map seen keys) (seen key) x)
  key_more numbers keys key are (Some i) got x =
      let (other, at, equal) = are.there key i got in
      let is : Some (seen other) ≡ slice_get (map seen keys) i = sym (slice_get-map seen keys i ∙ ap (option_map seen) at) in
      let P : X → Type 0 = λ y. Among (map seen keys) y in
      (λ h. inl h, λ h. elim h [ inl a ↦ a | inr e ↦ subst P (sym (same (seen key) (seen other) equal) ∙ e) (got_among (map seen keys) i (seen other) (sym is)) ])

  pub keys_more : (numbers : BTreeMap K ℕ) (keys all : List K) (key : K) → AreNumbers cmp numbers keys → all ≡ with_key (get cmp numbers key) keys key → (x : X) → Among (map seen all) x ↔ (Among (map seen keys) x ⊎ (seen key ≡ x))
  keys_more numbers keys all key are is x =
      let P : List K → Type 0 = λ ks. Among (map seen ks) x ↔ (Among (map seen keys) x ⊎ (seen key ≡ x)) in
      subst P (sym is) (key_more numbers keys key are (get cmp numbers key) refl x)

  placed : (numbers : BTreeMap K ℕ) (keys : List K) → AreNumbers cmp numbers keys → (x : X) (i : ℕ) (o : Option K) → slice_get keys i ≡ o → option_map seen o ≡ Some x → get_by (λ (key : K). order x (seen key)) numbers ≡ Some i
  placed numbers keys are x i None at e = absurd cc
  placed numbers keys are x i (Some key) at e =
      let q : seen key ≡ x = cc in
      let P : X → Type 0 = λ y. get_by (λ (k : K). order y (seen k)) numbers ≡ Some i in
      subst P q (are.found i key at)

  -- the number of a key is its place
  pub place_is : (numbers : BTreeMap K ℕ) (keys : List K) → AreNumbers cmp numbers keys → (x : X) (i : ℕ) → (get_by (λ (key : K). order x (seen key)) numbers ≡ Some i) ↔ (slice_get (map seen keys) i ≡ Some x)
  place_is numbers keys are x i = (
    λ got.
        let (key, found) = found_key (is_at (λ (k : K). order x (seen k))) numbers.entries i got in
        let q : x ≡ seen key = same x (seen key) (is_equal (order x (seen key)) found) in
        let P : X → Type 0 = λ y. get_by (λ (k : K). order y (seen k)) numbers ≡ Some i in
        let (other, at, equal) = are.there key i (subst P q got) in
        slice_get-map seen keys i ∙ ap (option_map seen) at ∙ ap (λ y. Some y) (sym (q ∙ same (seen key) (seen other) equal)),
    λ at. placed numbers keys are x i (slice_get keys i) refl (sym (slice_get-map seen keys i) ∙ at),
  )

same_text : (x y : List ℕ) → slice_cmp nat_cmp x y ≡ Equal → x ≡ y
same_text x y e = (bytes_decides x y).0 (sym (is_eq-slice_cmp x y) ∙ ap is_eq e)

abbrev now_of : Bor (List ℕ) → List ℕ
now_of key = key.now

-- names
pub names_more : (numbers : BTreeMap (Bor (List ℕ)) ℕ) (keys all : List (Bor (List ℕ))) (key : Bor (List ℕ)) → AreNumbers key_cmp numbers keys → all ≡ with_key (get key_cmp numbers key) keys key
    → (n : List ℕ) → Among (texts all) n ↔ (Among (texts keys) n ⊎ (key.now ≡ n))
names_more = keys_more now_of (slice_cmp nat_cmp) same_text

pub name_places : (numbers : BTreeMap (Bor (List ℕ)) ℕ) (keys : List (Bor (List ℕ))) → AreNumbers key_cmp numbers keys
    → (n : List ℕ) (i : ℕ) → (get_by (λ (key : Bor (List ℕ)). slice_cmp nat_cmp n key.now) numbers ≡ Some i) ↔ (slice_get (texts keys) i ≡ Some n)
name_places = place_is now_of (slice_cmp nat_cmp) same_text

abbrev itself : Span → Span
itself s = s

-- spans
pub spans_more : (numbers : BTreeMap Span ℕ) (keys all : List Span) (key : Span) → AreNumbers span_cmp numbers keys → all ≡ with_key (get span_cmp numbers key) keys key → (s : Span) → Among all s ↔ (Among keys s ⊎ (key ≡ s))
spans_more numbers keys all key are is s =
    let P : List Span → Type 0 = λ xs. Among xs s ↔ (Among (map itself keys) s ⊎ (key ≡ s)) in
    let Q : List Span → Type 0 = λ xs. Among all s ↔ (Among xs s ⊎ (key ≡ s)) in
    subst Q (map-id keys) (subst P (map-id all) (keys_more itself span_cmp span_order.same numbers keys all key are is s))

pub source_places : (numbers : BTreeMap Span ℕ) (keys : List Span) → AreNumbers span_cmp numbers keys → (s : Span) (i : ℕ) → (get span_cmp numbers s ≡ Some i) ↔ (slice_get keys i ≡ Some s)
source_places numbers keys are s i =
    let P : List Span → Type 0 = λ xs. (get span_cmp numbers s ≡ Some i) ↔ (slice_get xs i ≡ Some s) in
    subst P (map-id keys) (place_is itself span_cmp span_order.same numbers keys are s i)
