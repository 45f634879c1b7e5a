-- What becomes of entries, one after the other.
use Rattle.std.proofs.Common.{◌≡◌, ℕ, suc, ◌+◌, ◌<◌, ◌≤◌, Bool, true, false, cond, not, List, [], ◌∷◌, ◌++◌, length, get_or, drop, nat_cmp, refl, sym, ap, ◌∙◌, subst, Ok, Err, Some, codes, append_assoc, append-nil, add-one}
use Rattle.std.specs.Prelude.{Result, Option, None, if◌then◌else◌}
use Rattle.std.specs.Borrow.{Bor}
use Rattle.std.specs.Ordering.{is_eq}
use Rattle.std.specs.Str.{bytes_eq}
use Rattle.std.specs.BTreeSet.{BTreeSet, contains}
use Rattle.std.specs.Cmp.Lexicographic.{slice_cmp}
use Rattle.std.proofs.lemmas.List.{drop_all}
use Rattle.std.proofs.lemmas.Map.Text.{is_eq-slice_cmp}
use Rattle.std.proofs.Math.Seq.{drop-cons}
use Rattle.lexing.specs.WordList.{is_among}
use Rattle.node_tree.specs.declared.memory.Memory.{Memory}
use Rattle.yaml_cells.specs.declared.value.YValue.{YValue}
use Rattle.rule_form.specs.declared.rule.Rule.{Rule}
use Rattle.rule_keys.specs.declared.fault.RuleFaultKind.TheVariants.{WrongShape, DuplicateId}
use Rattle.rule_entries.specs.declared.outcome.RuleOutcome.{RuleOutcome}
use Rattle.rule_entries.specs.declared.outcome.RuleOutcome.TheVariants as outcomes
use Rattle.rule_entries.specs.declared.found.Found.{Found}
use Rattle.rule_keys.specs.declared.stop.Misfit.{Misfit}
use Rattle.rule_keys.specs.declared.stop.Stop.{Stop}
use Rattle.rule_keys.specs.declared.stop.Stop.TheVariants as stops
use Rattle.rule_keys.specs.Misfits.{here, at, Fits}
use Rattle.rule_keys.specs.Values.{Entry, entries_of}
use Rattle.rule_entries.specs.Readings.{Outcome, Only, Reads}
use Rattle.rule_keys.specs.Heads.{id_of}
use Rattle.rule_entries.specs.Finds.{Writes}
use Rattle.rule_entries.specs.Rules.{IsRule, IsBad, IsOutcome, IsOutcomeIn, IsOutcomeOf, AreOutcomes, Tells, Decides, Comes, decided, fault, nothing, taken_after}
use Rattle.rule_entries.proofs.Entries.{has_id}
use Rattle.rule_entries.proofs.Following.{Follows, outcomes_are, outcomes_follow}

abbrev pub Ids : Type 0
Ids = BTreeSet (Bor (List ℕ))

abbrev pub has : Ids → Bor (List ℕ) → Bool
has taken key = contains (λ (x y : Bor (List ℕ)). slice_cmp nat_cmp x.now y.now) taken key

not_true : (b : Bool) → not b ≡ true → b ≡ false
not_true true e = sym e
not_true false e = refl

module _ (ids : List (List ℕ)) (k : ℕ) (id : Bor (List ℕ)) (rule : Rule) (old new : Ids) (tells : Tells old ids)
    (added : not (has old id) ≡ true) (updates : (key : Bor (List ℕ)) → has new key ≡ cond (is_eq (slice_cmp nat_cmp id.now key.now)) true (has old key)) where
  fresh : is_among ids id.now ≡ false
  fresh = sym (tells id) ∙ not_true (has old id) added

  pub good_is : outcomes.Good rule ≡ decided ids k id.now (Ok (rule, nothing))
  good_is = sym (ap (λ (b : Bool). if b then outcomes.Bad (fault k id.now (at (codes "id") DuplicateId)) else outcomes.Good rule) fresh)

  pub good_tells : rule.id ≡ id.now → Tells new (rule.id ∷ ids)
  good_tells same key =
      updates key ∙ ap (λ (b : Bool). cond b true (has old key)) (is_eq-slice_cmp id.now key.now)
      ∙ ap (λ (b : Bool). cond (bytes_eq id.now key.now) true b) (tells key) ∙ ap (λ (x : List ℕ). is_among (x ∷ ids) key.now) (sym same)

module _ (writes : Writes) (ids : List (List ℕ)) (k : ℕ) (id : List ℕ) (es : List Entry) where
  abbrev Becomes : RuleOutcome → Type 0
  Becomes = IsOutcomeOf writes ids k es (Ok id)

  one : (o : Outcome Rule) (p q : RuleOutcome) → Only (IsRule writes id es nothing) o → q ≡ decided ids k id o → Becomes p → p ≡ q
  one o p q only e h = h.2 ∙ ap (decided ids k id) (only.one h.0 h.1) ∙ sym e

  pub comes_good : (rule : Rule) (t : Found) (r : Result RuleOutcome Memory) (taken : Ids) → Only (IsRule writes id es nothing) (Ok (rule, t)) → Decides ids k id rule r taken → Comes ids Becomes r taken
  comes_good rule t (Ok o) taken only d =
      ((Ok (rule, t), only.is, d.0), λ p h. one (Ok (rule, t)) p o only d.0 h, d.1 (has_id writes id es nothing t rule only.is))
  comes_good rule t (Err e) taken only d = tt

  pub comes_bad : (stop : Stop) (t : Found) (r : Result RuleOutcome Memory) (taken : Ids) → Reads (IsRule writes id es) nothing (Err stop) t → IsBad k id stop r → Tells taken ids → Comes ids Becomes r taken
  comes_bad stops.Memory t (Ok o) taken h is tells = absurd is
  comes_bad (stops.Bad m) t (Ok o) taken only is tells =
      ((Err m, only.is, is), λ p h. one (Err m) p o only is h, subst (λ (x : RuleOutcome). Tells taken (taken_after ids x)) (sym is) tells)
  comes_bad stop t (Err e) taken h is tells = tt

module _ (writes : Writes) (ids : List (List ℕ)) (k : ℕ) (v : YValue) (taken : Ids) where
  -- an entry that is bad for what is told of it
  bad_comes : (m : Misfit) (r : Result RuleOutcome Memory) (R : RuleOutcome → Type 0) → ((p : RuleOutcome) → p ≡ outcomes.Bad (fault k [] m) → R p) → ((p : RuleOutcome) → R p → p ≡ outcomes.Bad (fault k [] m)) → IsBad k [] (stops.Bad m) r → Tells taken ids → Comes ids R r taken
  bad_comes m (Ok o) R to from is tells = (to o is, λ p h. from p h ∙ sym is, subst (λ (x : RuleOutcome). Tells taken (taken_after ids x)) (sym is) tells)
  bad_comes m (Err e) R to from is tells = tt

  pub no_map : (stop : Stop) (r : Result RuleOutcome Memory) → entries_of v ≡ None → stop ≡ stops.Bad (here WrongShape) → IsBad k [] stop r → Tells taken ids → Comes ids (IsOutcome writes ids k v) r taken
  no_map stop r none e is tells =
      let P : Option (List Entry) → Type 0 = λ o. Comes ids (IsOutcomeIn writes ids k o) r taken in
      subst P (sym none) (bad_comes (here WrongShape) r (IsOutcomeIn writes ids k None) (λ p h. h) (λ p h. h) (subst (λ (s : Stop). IsBad k [] s r) e is) tells)

  module _ (es : List Entry) (some : entries_of v ≡ Some es) where
    in_map : (r : Result RuleOutcome Memory) (new : Ids) → Comes ids (IsOutcomeOf writes ids k es (id_of es)) r new → Comes ids (IsOutcome writes ids k v) r new
    in_map r new h = subst (λ (o : Option (List Entry)). Comes ids (IsOutcomeIn writes ids k o) r new) (sym some) h

    pub no_id : (stop : Stop) (r : Result RuleOutcome Memory) → Fits (λ (x : List ℕ). x) (id_of es) (Err stop) → IsBad k [] stop r → Tells taken ids → Comes ids (IsOutcome writes ids k v) r taken
    no_id stops.Memory (Ok o) e is tells = absurd is
    no_id stops.Memory (Err x) e is tells = in_map (Err x) taken tt
    no_id (stops.Bad m) r e is tells =
        let P : Result (List ℕ) Misfit → Type 0 = λ w. Comes ids (IsOutcomeOf writes ids k es w) r taken in
        in_map r taken (subst P (sym e) (bad_comes m r (IsOutcomeOf writes ids k es (Err m)) (λ p h. h) (λ p h. h) is tells))

    pub some_id : (id : List ℕ) (r : Result RuleOutcome Memory) (new : Ids) → id_of es ≡ Ok id → Comes ids (IsOutcomeOf writes ids k es (Ok id)) r new → Comes ids (IsOutcome writes ids k v) r new
    some_id id r new e h = in_map r new (subst (λ (w : Result (List ℕ) Misfit). Comes ids (IsOutcomeOf writes ids k es w) r new) (sym e) h)

-- the outcomes of the entries before a place, and the ids that are taken then
pub record SoFar (writes : Writes) (vs : List YValue) (taken : Ids) (os : List RuleOutcome) (k : ℕ) (rest : List YValue) : Type 0 where
  pub ids : List (List ℕ)
  pub tells : Tells taken ids
  pub makes : (more : List RuleOutcome) → Follows writes ids k rest more → Follows writes [] 0 vs (os ++ more)
  pub only : (all : List RuleOutcome) → Follows writes [] 0 vs all → (more : List RuleOutcome) × Follows writes ids k rest more × (all ≡ os ++ more)

pub begins : (writes : Writes) (vs : List YValue) (taken : Ids) → Tells taken [] → SoFar writes vs taken [] 0 vs
begins writes vs taken tells = record { ids = []; tells = tells; makes = λ more h. h; only = λ all h. (all, h, refl) }

module _ (writes : Writes) (vs : List YValue) (taken : Ids) (os : List RuleOutcome) (k : ℕ) (far : SoFar writes vs taken os k (drop k vs)) where
  module _ (v : YValue) (inside : k < length vs) (is : v ≡ get_or vs k v) where
    opened : drop k vs ≡ v ∷ drop (k + 1) vs
    opened = drop-cons vs k v inside ∙ ap (λ (y : YValue). y ∷ drop (suc k) vs) (sym is) ∙ ap (λ (j : ℕ). v ∷ drop j vs) (sym (add-one k))

    pub goes : (o : RuleOutcome) (new : Ids) → Comes far.ids (IsOutcome writes far.ids k v) (Ok o) new → SoFar writes vs new (os ++ o ∷ []) (k + 1) (drop (k + 1) vs)
    goes o new h = record {
      ids = taken_after far.ids o;
      tells = h.2;
      makes = λ more m.
          let P : List YValue → Type 0 = λ xs. Follows writes far.ids k xs (o ∷ more) in
          let whole = far.makes (o ∷ more) (subst P (sym opened) (o, h.0, (more, m, refl))) in
          subst (Follows writes [] 0 vs) (sym (append_assoc os (o ∷ []) more)) whole;
      only = λ all a.
          let t = far.only all a in
          let P : List YValue → Type 0 = λ xs. Follows writes far.ids k xs t.0 in
          let u = subst P opened t.1 in
          let same : u.0 ≡ o = h.1 u.0 u.1 in
          let Q : RuleOutcome → Type 0 = λ x. Follows writes (taken_after far.ids x) (k + 1) (drop (k + 1) vs) u.2.0 in
          (u.2.0, subst Q same u.2.1, t.2 ∙ ap (λ (xs : List RuleOutcome). os ++ xs) (u.2.2 ∙ ap (λ (x : RuleOutcome). x ∷ u.2.0) same) ∙ sym (append_assoc os (o ∷ []) u.2.0));
    }

  module _ (le : length vs ≤ k) where
    last : SoFar writes vs taken os k []
    last = subst (λ (xs : List YValue). SoFar writes vs taken os k xs) (drop_all k vs le) far

    pub found : AreOutcomes writes vs os
    found = outcomes_are writes vs os (subst (Follows writes [] 0 vs) (append-nil os) (last.makes [] refl))

    pub only_found : (all : List RuleOutcome) → AreOutcomes writes vs all → os ≡ all
    only_found all a =
        let t = last.only all (outcomes_follow writes vs all a) in
        sym (t.2 ∙ ap (λ (xs : List RuleOutcome). os ++ xs) t.1 ∙ append-nil os)
