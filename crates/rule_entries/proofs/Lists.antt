-- The lists of taint, entry by entry.
use Rattle.std.proofs.Common.{◌≡◌, ℕ, suc, ◌+◌, ◌<◌, ◌≤◌, List, ◌∷◌, false, length, get_or, drop, sym, ap, ◌∙◌, subst, Ok, Err, add-one}
use Rattle.std.specs.Prelude.{Result, Option, Some, None}
use Rattle.std.proofs.lemmas.List.{drop_all}
use Rattle.std.proofs.Math.Seq.{drop-cons}
use Rattle.rule_form.specs.declared.formula.Formula.{Formula}
use Rattle.rule_form.specs.declared.rule.Body.{Body}
use Rattle.rule_form.specs.declared.rule.Body.TheVariants as bodies
use Rattle.rule_form.specs.declared.rule.Propagator.{Propagator}
use Rattle.rule_form.specs.declared.rule.TaintRule.{TaintRule}
use Rattle.rule_keys.specs.declared.mode.RuleMode.{RuleMode}
use Rattle.rule_keys.specs.declared.mode.RuleMode.TheVariants as modes
use Rattle.rule_entries.specs.declared.body.TaintKey.{TaintKey}
use Rattle.rule_entries.specs.declared.body.TaintKey.TheVariants as keys
use Rattle.rule_keys.specs.declared.key.Role.TheVariants as roles
use Rattle.rule_entries.specs.declared.found.Found.{Found}
use Rattle.rule_keys.specs.declared.stop.Stop.{Stop}
use Rattle.rule_keys.specs.Values.{Entry}
use Rattle.rule_entries.specs.Readings.{Reading, Only, Reads, Then, Below, gives}
use Rattle.rule_entries.specs.declared.found.Setting.{Setting}
use Rattle.rule_entries.specs.Finds.{Writes}
use Rattle.rule_entries.specs.Formulas.{Inner, IsOne, IsFormulaAt}
use Rattle.rule_entries.specs.Bodies.{IsFormulas, IsPropagators, with_sources, with_sinks, with_sanitizers, with_propagators, IsBody, IsTaint, IsAdded, IsFormulaOf, IsPart, no_taint, taint_key, takes_patterns}
use Rattle.rule_entries.proofs.Laws.{gives_reads, then_goes, then_stops}

module _ (inner : Inner) (all : List Entry) (begin : Found) where
  -- entries were read into the lists, and what is read of the rest makes the whole
  abbrev pub Left : TaintRule → List Entry → Found → Type 0
  Left rule es s = (r : Result TaintRule Stop) (u : Found) → Reads (IsTaint inner rule es) s r u → Reads (IsTaint inner no_taint all) begin r u

  module _ (rule : TaintRule) (k : ℕ) (s : Found) (left : Left rule (drop k all) s) where
    pub lists_end : length all ≤ k → Reads (IsTaint inner no_taint all) begin (Ok rule) s
    lists_end le =
        let P : List Entry → Type 0 = λ es. Left rule es s in
        subst P (drop_all k all le) left (Ok rule) s (gives_reads rule s)

    module _ (e : Entry) (inside : k < length all) (is : e ≡ get_or all k e) where
      opened : Left rule (e ∷ drop (k + 1) all) s
      opened =
          let P : List Entry → Type 0 = λ es. Left rule es s in
          subst P (drop-cons all k e inside ∙ ap (λ (y : Entry). y ∷ drop (suc k) all) (sym is) ∙ ap (λ (j : ℕ). e ∷ drop j all) (sym (add-one k))) left

      pub passed : taint_key e.0 ≡ None → Left rule (drop (k + 1) all) s
      passed none = λ r u h.
          let P : Option TaintKey → Type 0 = λ key. Reads (Then (IsAdded inner rule e key) (λ t. IsTaint inner t (drop (k + 1) all))) s r u in
          opened r u (subst P (sym none) (then_goes (gives rule) (λ t. IsTaint inner t (drop (k + 1) all)) rule s s u r (gives_reads rule s) h))

      module _ (key : TaintKey) (some : taint_key e.0 ≡ Some key) where
        pub list_goes : (next : TaintRule) (t : Found) → Only (IsAdded inner rule e (Some key) s) (Ok (next, t)) → Left next (drop (k + 1) all) t
        list_goes next t only = λ r u h.
            let P : Option TaintKey → Type 0 = λ o. Reads (Then (IsAdded inner rule e o) (λ x. IsTaint inner x (drop (k + 1) all))) s r u in
            opened r u (subst P (sym some) (then_goes (IsAdded inner rule e (Some key)) (λ x. IsTaint inner x (drop (k + 1) all)) next s t u r only h))

        pub list_stops : (stop : Stop) (t u : Found) → Reads (IsAdded inner rule e (Some key)) s (Err stop) t → Reads (IsTaint inner no_taint all) begin (Err stop) u
        list_stops stop t u h =
            let P : Option TaintKey → Type 0 = λ o. Reads (Then (IsAdded inner rule e o) (λ x. IsTaint inner x (drop (k + 1) all))) s (Err stop) u in
            opened (Err stop) u (subst P (sym some) (then_stops (IsAdded inner rule e (Some key)) (λ x. IsTaint inner x (drop (k + 1) all)) stop s t u h))

-- a search
module _ (inner : Inner) (es : List Entry) (s t : Found) where
  abbrev Sought : Reading Formula
  Sought = IsOne (IsFormulaAt inner false) roles.Formula es

  pub search_stops : (e : Stop) → Reads Sought s (Err e) t → Reads (IsBody inner modes.Search es) s (Err e) t
  search_stops e h = then_stops Sought (λ f. gives (bodies.Search f)) e s t t h

  pub search_goes : (f : Formula) → Only (Sought s) (Ok (f, t)) → Reads (IsBody inner modes.Search es) s (Ok (bodies.Search f)) t
  search_goes f h = then_goes Sought (λ g. gives (bodies.Search g)) f s t t (Ok (bodies.Search f)) h (gives_reads (bodies.Search f) t)

-- the body of a search
pub search_at : (inner : Inner) (mode : RuleMode) (es : List Entry) (s t : Found) (r : Result Body Stop) → mode ≡ modes.Search → Reads (IsBody inner modes.Search es) s r t → Reads (IsBody inner mode es) s r t
search_at inner mode es s t r e h = subst (λ (m : RuleMode). Reads (IsBody inner m es) s r t) (sym e) h

-- and that of a rule that follows data
pub taint_stops : (inner : Inner) (mode : RuleMode) (es : List Entry) (s t : Found) (e : Stop) → mode ≡ modes.Taint → Reads (IsTaint inner no_taint es) s (Err e) t → Reads (IsBody inner mode es) s (Err e) t
taint_stops inner mode es s t e is h = subst (λ (m : RuleMode). Reads (IsBody inner m es) s (Err e) t) (sym is) (then_stops (IsTaint inner no_taint es) (λ r. gives (bodies.Taint r)) e s t t h)

pub part_stops : (writes : Writes) (setting : Setting) (mode : RuleMode) (es : List Entry) (s t : Found) (e : Stop) → Reads (IsBody (IsFormulaOf writes setting) mode es) s (Err e) t → Reads (IsPart writes setting mode es) s (Err e) t
part_stops writes setting mode es s t e h = then_stops (IsBody (IsFormulaOf writes setting) mode es) (takes_patterns setting.lang) e s t t h

-- one list of taint
module _ (inner : Inner) (rule : TaintRule) (e : Entry) (s t : Found) (key : TaintKey) where
  abbrev Added : TaintKey → Reading TaintRule
  Added k = IsAdded inner rule e (Some k)

  pub sources_stops : (stop : Stop) → key ≡ keys.Sources → Reads (Below e.0 (IsFormulas inner e.1)) s (Err stop) t → Reads (Added key) s (Err stop) t
  sources_stops stop is h = subst (λ (k : TaintKey). Reads (Added k) s (Err stop) t) (sym is) (then_stops (Below e.0 (IsFormulas inner e.1)) (λ xs. gives (with_sources rule xs)) stop s t t h)

  pub sources_goes : (xs : List Formula) → key ≡ keys.Sources → Only (Below e.0 (IsFormulas inner e.1) s) (Ok (xs, t)) → Reads (Added key) s (Ok (with_sources rule xs)) t
  sources_goes xs is h = subst (λ (k : TaintKey). Reads (Added k) s (Ok (with_sources rule xs)) t) (sym is) (then_goes (Below e.0 (IsFormulas inner e.1)) (λ ys. gives (with_sources rule ys)) xs s t t (Ok (with_sources rule xs)) h (gives_reads (with_sources rule xs) t))

  pub sinks_stops : (stop : Stop) → key ≡ keys.Sinks → Reads (Below e.0 (IsFormulas inner e.1)) s (Err stop) t → Reads (Added key) s (Err stop) t
  sinks_stops stop is h = subst (λ (k : TaintKey). Reads (Added k) s (Err stop) t) (sym is) (then_stops (Below e.0 (IsFormulas inner e.1)) (λ xs. gives (with_sinks rule xs)) stop s t t h)

  pub sinks_goes : (xs : List Formula) → key ≡ keys.Sinks → Only (Below e.0 (IsFormulas inner e.1) s) (Ok (xs, t)) → Reads (Added key) s (Ok (with_sinks rule xs)) t
  sinks_goes xs is h = subst (λ (k : TaintKey). Reads (Added k) s (Ok (with_sinks rule xs)) t) (sym is) (then_goes (Below e.0 (IsFormulas inner e.1)) (λ ys. gives (with_sinks rule ys)) xs s t t (Ok (with_sinks rule xs)) h (gives_reads (with_sinks rule xs) t))

  pub sanitizers_stops : (stop : Stop) → key ≡ keys.Sanitizers → Reads (Below e.0 (IsFormulas inner e.1)) s (Err stop) t → Reads (Added key) s (Err stop) t
  sanitizers_stops stop is h = subst (λ (k : TaintKey). Reads (Added k) s (Err stop) t) (sym is) (then_stops (Below e.0 (IsFormulas inner e.1)) (λ xs. gives (with_sanitizers rule xs)) stop s t t h)

  pub sanitizers_goes : (xs : List Formula) → key ≡ keys.Sanitizers → Only (Below e.0 (IsFormulas inner e.1) s) (Ok (xs, t)) → Reads (Added key) s (Ok (with_sanitizers rule xs)) t
  sanitizers_goes xs is h = subst (λ (k : TaintKey). Reads (Added k) s (Ok (with_sanitizers rule xs)) t) (sym is) (then_goes (Below e.0 (IsFormulas inner e.1)) (λ ys. gives (with_sanitizers rule ys)) xs s t t (Ok (with_sanitizers rule xs)) h (gives_reads (with_sanitizers rule xs) t))

  pub propagators_stops : (stop : Stop) → key ≡ keys.Propagators → Reads (Below e.0 (IsPropagators inner e.1)) s (Err stop) t → Reads (Added key) s (Err stop) t
  propagators_stops stop is h = subst (λ (k : TaintKey). Reads (Added k) s (Err stop) t) (sym is) (then_stops (Below e.0 (IsPropagators inner e.1)) (λ xs. gives (with_propagators rule xs)) stop s t t h)

  pub propagators_goes : (xs : List Propagator) → key ≡ keys.Propagators → Only (Below e.0 (IsPropagators inner e.1) s) (Ok (xs, t)) → Reads (Added key) s (Ok (with_propagators rule xs)) t
  propagators_goes xs is h = subst (λ (k : TaintKey). Reads (Added k) s (Ok (with_propagators rule xs)) t) (sym is) (then_goes (Below e.0 (IsPropagators inner e.1)) (λ ys. gives (with_propagators rule ys)) xs s t t (Ok (with_propagators rule xs)) h (gives_reads (with_propagators rule xs) t))
