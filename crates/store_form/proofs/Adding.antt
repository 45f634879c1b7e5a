-- Calls that add one after the other.
use Rattle.std.proofs.Common.{◌≡◌, ℕ, ◌+◌, ◌<◌, ◌≤◌, List, [], ◌∷◌, ◌++◌, length, take, get_or, map, sym, ap, ◌∙◌, subst, arith}
use Rattle.std.specs.List.{flat_map, All}
use Rattle.std.proofs.lemmas.List.{append-nil, map_more, flat_map_more, get_or-map, length-map, take_all}
use Rattle.std.proofs.lemmas.List.Elements.{All-nil, All-push}
use Rattle.std.specs.Prelude.{Result, Ok, Err}
use Rattle.store_form.specs.declared.fault.FormFault.{FormFault}
use Rattle.store_form.specs.declared.fault.FormFault.TheVariants.{Memory, NoForm}
use Rattle.store_form.specs.Adds.{Adds}

-- where a part has no bytes, the whole has none
pub part_fails : {X Y : Type 0} (Is : X → Type 0) (bytes : X → List ℕ) (x : X) (Is' : Y → Type 0) (bytes' : Y → List ℕ) (y : Y) (mid old new new' : List ℕ) (e : FormFault) → Adds Is bytes x mid (Err e) new → (Is' y → Is x) → Adds Is' bytes' y old (Err e) new'
part_fails Is bytes x Is' bytes' y mid old new new' Memory h part = tt
part_fails Is bytes x Is' bytes' y mid old new new' NoForm h part = λ is. h (part is)

-- the last part
pub last_part : {X Y : Type 0} (Is : X → Type 0) (bytes : X → List ℕ) (x : X) (Is' : Y → Type 0) (bytes' : Y → List ℕ) (y : Y) (mid old new : List ℕ) (r : Result Unit FormFault) → Adds Is bytes x mid r new → (Is' y → Is x) → (Is x → Is' y) → mid ++ bytes x ≡ old ++ bytes' y → Adds Is' bytes' y old r new
last_part Is bytes x Is' bytes' y mid old new (Ok u) h part whole e = (whole h.0, h.1 ∙ e)
last_part Is bytes x Is' bytes' y mid old new (Err Memory) h part whole e = tt
last_part Is bytes x Is' bytes' y mid old new (Err NoForm) h part whole e = λ is. h (part is)

-- the items up to a place were added, and may be
pub record Added {X Y : Type 0} (Is : X → Type 0) (bytes : X → List ℕ) (see : Y → X) (start : List ℕ) (ys : List Y) (at : ℕ) (out : List ℕ) : Type 0 where
  pub all : All Is (map see (take at ys))
  pub added : out ≡ start ++ flat_map bytes (map see (take at ys))

module _ {X Y : Type 0} (Is : X → Type 0) (bytes : X → List ℕ) (see : Y → X) (start : List ℕ) (ys : List Y) where
  pub added_none : Added Is bytes see start ys 0 start
  added_none = record { all = All-nil Is; added = sym (append-nil start) }

  mapped_more : (i : ℕ) (y : Y) → i < length ys → y ≡ get_or ys i y → map see (take (i + 1) ys) ≡ map see (take i ys) ++ see y ∷ []
  mapped_more i y lt is = map_more see ys i y lt ∙ ap (λ (v : Y). map see (take i ys) ++ see v ∷ []) (sym is)

  pub added_more : (i : ℕ) (out new : List ℕ) (y : Y) → Added Is bytes see start ys i out → i < length ys → y ≡ get_or ys i y → Is (see y) → new ≡ out ++ bytes (see y) → Added Is bytes see start ys (i + 1) new
  added_more i out new y h lt at is e = record {
    all = subst (All Is) (sym (mapped_more i y lt at)) (All-push Is (map see (take i ys)) (see y) h.all is);
    added = e ∙ ap (λ (v : List ℕ). v ++ bytes (see y)) h.added ∙ flat_map_more bytes start (map see (take i ys)) (see y) ∙ ap (λ (v : List X). start ++ flat_map bytes v) (sym (mapped_more i y lt at));
  }

  -- what may be of all may be of one
  pub one_of : (i : ℕ) (y : Y) → i < length ys → y ≡ get_or ys i y → All Is (map see ys) → Is (see y)
  one_of i y lt at all = subst Is (get_or-map see ys i y (see y) lt ∙ ap see (sym at)) (all i (see y) (omega (arith, length-map ys see)))

  pub added_all : (i : ℕ) (out : List ℕ) → Added Is bytes see start ys i out → length ys ≤ i → (All Is (map see ys)) × (out ≡ start ++ flat_map bytes (map see ys))
  added_all i out h le =
      let e : map see (take i ys) ≡ map see ys = ap (map see) (take_all i ys le) in
      (subst (All Is) e h.all, h.added ∙ ap (λ (v : List X). start ++ flat_map bytes v) e)
