-- Outcomes one after the other, by the ids that are taken so far, are those that the definition says.
use Rattle.std.proofs.Common.{◌≡◌, ℕ, zero, suc, ◌+◌, Bool, true, false, List, [], ◌∷◌, ◌++◌, length, take, pred, refl, sym, ap, ◌∙◌, subst, Ok, Err, Some, append_assoc, append-nil, codes, arith}
use Rattle.std.specs.Prelude.{Result, Option, None, if◌then◌else◌, slice_get}
use Rattle.std.specs.Option.{unwrap_or}
use Rattle.std.specs.Str.{bytes_eq}
use Rattle.std.proofs.lemmas.Grind.{flat_map-append}
use Rattle.lexing.specs.WordList.{is_among}
use Rattle.yaml_cells.specs.declared.value.YValue.{YValue}
use Rattle.rule_form.specs.declared.rule.Rule.{Rule}
use Rattle.rule_keys.specs.declared.fault.RuleFaultKind.TheVariants.{DuplicateId}
use Rattle.rule_keys.specs.declared.stop.Misfit.{Misfit}
use Rattle.rule_keys.specs.Heads.{id_of}
use Rattle.rule_keys.specs.Misfits.{at}
use Rattle.rule_keys.specs.Values.{Entry, entries_of}
use Rattle.rule_entries.specs.declared.outcome.RuleOutcome.{RuleOutcome}
use Rattle.rule_entries.specs.declared.outcome.RuleOutcome.TheVariants.{Good, Bad}
use Rattle.rule_entries.specs.Finds.{Writes}
use Rattle.rule_entries.specs.Readings.{Outcome}
use Rattle.rule_entries.specs.Rules.{IsOutcome, IsOutcomeIn, IsOutcomeOf, AreOutcomes, decided, fault, rule_id, rule_ids, taken_after}

-- what becomes of the entries from a place on, where these ids are taken
abbrev pub Follows : Writes → List (List ℕ) → ℕ → List YValue → List RuleOutcome → Type 0
Follows writes taken k [] os = os ≡ []
Follows writes taken k (v ∷ vs) os =
    (o : RuleOutcome) × IsOutcome writes taken k v o × ((rest : List RuleOutcome) × Follows writes (taken_after taken o) (k + 1) vs rest × (os ≡ o ∷ rest))

-- the same ids, in whatever order
abbrev Same : List (List ℕ) → List (List ℕ) → Type 0
Same xs ys = (id : List ℕ) → is_among xs id ≡ is_among ys id

swapped : (a b c : Bool) → (if a then true else (if b then true else c)) ≡ (if b then true else (if a then true else c))
swapped true true c = refl
swapped true false c = refl
swapped false true c = refl
swapped false false c = refl

among_last : (xs : List (List ℕ)) (x id : List ℕ) → is_among (x ∷ xs) id ≡ is_among (xs ++ x ∷ []) id
among_last [] x id = refl
among_last (y ∷ ys) x id =
    swapped (bytes_eq x id) (bytes_eq y id) (is_among ys id) ∙ ap (λ (b : Bool). if bytes_eq y id then true else b) (among_last ys x id)

same_after : (taken : List (List ℕ)) (before : List RuleOutcome) (o : RuleOutcome) → Same taken (rule_ids before) → Same (taken_after taken o) (rule_ids (before ++ o ∷ []))
same_after taken before (Good rule) same id =
    ap (λ (b : Bool). if bytes_eq rule.id id then true else b) (same id) ∙ among_last (rule_ids before) rule.id id
    ∙ ap (λ (xs : List (List ℕ)). is_among xs id) (sym (flat_map-append rule_id before (Good rule ∷ [])))
same_after taken before (Bad f) same id =
    same id ∙ ap (λ (xs : List (List ℕ)). is_among xs id) (sym (flat_map-append rule_id before (Bad f ∷ []) ∙ append-nil (rule_ids before)))

module _ (writes : Writes) (xs ys : List (List ℕ)) (same : Same xs ys) (k : ℕ) where
  decided_same : (id : List ℕ) (o : Outcome Rule) → decided xs k id o ≡ decided ys k id o
  decided_same id (Ok rule) = ap (λ (b : Bool). if b then Bad (fault k id (at (codes "id") DuplicateId)) else Good rule.0) (same id)
  decided_same id (Err m) = refl

  of_same : (es : List Entry) (id : Result (List ℕ) Misfit) (o : RuleOutcome) → IsOutcomeOf writes xs k es id o → IsOutcomeOf writes ys k es id o
  of_same es (Ok id) o h = (h.0, h.1, h.2 ∙ decided_same id h.0)
  of_same es (Err m) o h = h

  in_same : (es : Option (List Entry)) (o : RuleOutcome) → IsOutcomeIn writes xs k es o → IsOutcomeIn writes ys k es o
  in_same (Some es) o h = of_same es (id_of es) o h
  in_same None o h = h

  outcome_same : (v : YValue) (o : RuleOutcome) → IsOutcome writes xs k v o → IsOutcome writes ys k v o
  outcome_same v o h = in_same (entries_of v) o h

-- the outcomes behind these
record Behind (writes : Writes) (before : List RuleOutcome) (vs : List YValue) (os : List RuleOutcome) : Type 0 where
  size : length os ≡ length vs
  each : (j : ℕ) (v : YValue) (o : RuleOutcome) → slice_get vs j ≡ Some v → slice_get os j ≡ Some o → IsOutcome writes (rule_ids (before ++ take j os)) (length before + j) v o

one_more : (before : List RuleOutcome) (o : RuleOutcome) → length (before ++ o ∷ []) ≡ length before + 1
one_more [] o = refl
one_more (x ∷ xs) o = omega (arith, one_more xs o)

-- an outcome among other ids that are the same, at the same place, of the same entry
moved : (writes : Writes) (xs ys : List (List ℕ)) (k m : ℕ) (v w : YValue) (o p : RuleOutcome) → xs ≡ ys → k ≡ m → v ≡ w → o ≡ p → IsOutcome writes xs k v o → IsOutcome writes ys m w p
moved writes xs ys k m v w o p xs-is k-is v-is o-is h =
    let P : List (List ℕ) → Type 0 = λ x. IsOutcome writes x k v o in
    let Q : ℕ → Type 0 = λ x. IsOutcome writes ys x v o in
    let R : YValue → Type 0 = λ x. IsOutcome writes ys m x o in
    let S : RuleOutcome → Type 0 = λ x. IsOutcome writes ys m w x in
    subst S o-is (subst R v-is (subst Q k-is (subst P xs-is h)))

given : {X : Type 0} (x y : X) → Some x ≡ Some y → x ≡ y
given x y e = ap (λ o. unwrap_or o x) e

module _ (writes : Writes) where
  module _ (v : YValue) (vs : List YValue) (o : RuleOutcome) (rest before : List RuleOutcome) (taken : List (List ℕ)) (same : Same taken (rule_ids before)) where
    first : IsOutcome writes taken (length before) v o → (w : YValue) (p : RuleOutcome) → Some v ≡ Some w → Some o ≡ Some p
        → IsOutcome writes (rule_ids (before ++ [])) (length before + 0) w p
    first h w p v-is o-is =
        moved writes (rule_ids before) (rule_ids (before ++ [])) (length before) (length before + 0) v w o p (ap rule_ids (sym (append-nil before))) (omega (arith)) (given v w v-is) (given o p o-is)
        (outcome_same writes taken (rule_ids before) same (length before) v o h)

    further : Behind writes (before ++ o ∷ []) vs rest → (j : ℕ) (w : YValue) (p : RuleOutcome) → slice_get vs j ≡ Some w → slice_get rest j ≡ Some p
        → IsOutcome writes (rule_ids (before ++ (o ∷ take j rest))) (length before + suc j) w p
    further more j w p w-is p-is =
        moved writes (rule_ids ((before ++ o ∷ []) ++ take j rest)) (rule_ids (before ++ (o ∷ take j rest))) (length (before ++ o ∷ []) + j) (length before + suc j) w w p p
        (ap rule_ids (append_assoc before (o ∷ []) (take j rest))) (omega (arith, one_more before o)) refl refl (more.each j w p w-is p-is)

    all_of : IsOutcome writes taken (length before) v o → Behind writes (before ++ o ∷ []) vs rest → (j : ℕ) (w : YValue) (p : RuleOutcome)
        → slice_get (v ∷ vs) j ≡ Some w → slice_get (o ∷ rest) j ≡ Some p → IsOutcome writes (rule_ids (before ++ take j (o ∷ rest))) (length before + j) w p
    all_of h more zero w p w-is p-is = first h w p w-is p-is
    all_of h more (suc j) w p w-is p-is = further more j w p w-is p-is

  behind : (vs : List YValue) (os before : List RuleOutcome) (taken : List (List ℕ)) → Same taken (rule_ids before) → Follows writes taken (length before) vs os → Behind writes before vs os
  behind [] os before taken same h =
      record { size = ap (λ (xs : List RuleOutcome). length xs) h; each = λ j v o v-is o-is. absurd cc }
  behind (v ∷ vs) os before taken same h =
      let o = h.0 in
      let rest = h.2.0 in
      let P : ℕ → Type 0 = λ m. Follows writes (taken_after taken o) m vs rest in
      let more = behind vs rest (before ++ o ∷ []) (taken_after taken o) (same_after taken before o same) (subst P (sym (one_more before o)) h.2.1) in
      subst (Behind writes before (v ∷ vs)) (sym h.2.2) (record { size = ap suc more.size; each = all_of v vs o rest before taken same h.1 more })

  -- and back
  module _ (v : YValue) (vs : List YValue) (o : RuleOutcome) (rest before : List RuleOutcome) (all : Behind writes before (v ∷ vs) (o ∷ rest)) where
    rest_behind : Behind writes (before ++ o ∷ []) vs rest
    rest_behind = record {
      size = ap pred all.size;
      each = λ j w p w-is p-is.
          moved writes (rule_ids (before ++ (o ∷ take j rest))) (rule_ids ((before ++ o ∷ []) ++ take j rest)) (length before + suc j) (length (before ++ o ∷ []) + j) w w p p
          (ap rule_ids (sym (append_assoc before (o ∷ []) (take j rest)))) (omega (arith, one_more before o)) refl refl (all.each (suc j) w p w-is p-is);
    }

    head_of : (taken : List (List ℕ)) → Same taken (rule_ids before) → IsOutcome writes taken (length before) v o
    head_of taken same =
        outcome_same writes (rule_ids before) taken (λ id. sym (same id)) (length before) v o
        (moved writes (rule_ids (before ++ [])) (rule_ids before) (length before + 0) (length before) v v o o (ap rule_ids (append-nil before)) (omega (arith)) refl refl (all.each 0 v o refl refl))

  follows : (vs : List YValue) (os before : List RuleOutcome) (taken : List (List ℕ)) → Same taken (rule_ids before) → Behind writes before vs os → Follows writes taken (length before) vs os
  follows [] [] before taken same all = refl
  follows [] (o ∷ rest) before taken same all = absurd (let e = all.size in cc)
  follows (v ∷ vs) [] before taken same all = absurd (let e = all.size in cc)
  follows (v ∷ vs) (o ∷ rest) before taken same all =
      let P : ℕ → Type 0 = λ m. Follows writes (taken_after taken o) m vs rest in
      let more = follows vs rest (before ++ o ∷ []) (taken_after taken o) (same_after taken before o same) (rest_behind v vs o rest before all) in
      (o, head_of v vs o rest before all taken same, (rest, subst P (one_more before o) more, refl))

  pub outcomes_are : (vs : List YValue) (os : List RuleOutcome) → Follows writes [] 0 vs os → AreOutcomes writes vs os
  outcomes_are vs os h =
      let b = behind vs os [] [] (λ id. refl) h in
      record {
        size = b.size;
        each = λ k v o v-is o-is. moved writes (rule_ids (take k os)) (rule_ids (take k os)) (0 + k) k v v o o refl (omega (arith)) refl refl (b.each k v o v-is o-is);
      }

  pub outcomes_follow : (vs : List YValue) (os : List RuleOutcome) → AreOutcomes writes vs os → Follows writes [] 0 vs os
  outcomes_follow vs os h =
      follows vs os [] [] (λ id. refl) (record {
        size = h.size;
        each = λ j v o v-is o-is. moved writes (rule_ids (take j os)) (rule_ids (take j os)) j (0 + j) v v o o refl (omega (arith)) refl refl (h.each j v o v-is o-is);
      })
