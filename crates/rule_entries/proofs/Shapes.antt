-- The readings of formulas and their parts, step by step.
use Rattle.std.proofs.Common.{◌≡◌, ℕ, Bool, true, false, List, sym, subst, Ok, Err, codes}
use Rattle.std.specs.Prelude.{Result}
use Rattle.yaml_cells.specs.declared.value.YValue.{YValue}
use Rattle.rule_form.specs.declared.comparison.Comparison.{Comparison}
use Rattle.rule_form.specs.declared.formula.Formula.{Formula}
use Rattle.rule_form.specs.declared.formula.Formula.TheVariants as formulas
use Rattle.rule_form.specs.declared.formula.Child.{Child}
use Rattle.rule_form.specs.declared.formula.Child.TheVariants as children
use Rattle.rule_form.specs.declared.rule.Propagator.{Propagator}
use Rattle.rule_entries.specs.declared.found.Found.{Found}
use Rattle.rule_keys.specs.declared.key.FormulaKey.{FormulaKey}
use Rattle.rule_keys.specs.declared.key.ChildKey.{ChildKey}
use Rattle.rule_keys.specs.declared.key.ChildKey.TheVariants as keys
use Rattle.rule_keys.specs.declared.key.Role.{Role}
use Rattle.rule_keys.specs.declared.key.Role.TheVariants as roles
use Rattle.rule_keys.specs.declared.stop.Stop.{Stop}
use Rattle.rule_keys.specs.Misfits.{Fits, IsUnder}
use Rattle.rule_keys.specs.Values.{Entry, items_of, required_text, required_name}
use Rattle.rule_keys.specs.Keys.{Counted, map_of, one_of}
use Rattle.rule_entries.specs.Readings.{Reading, Only, Reads, Then, After, Below, Each, AtPlace, gives, tells}
use Rattle.rule_entries.specs.Finds.{Leaf, IsCompared}
use Rattle.rule_entries.specs.Formulas.{Inner, IsOne, IsFormulaAt, IsMapped, IsAlternativeAt, IsAlternative, IsEither, IsMetaCompare, IsMetaPattern, IsChildAt, IsChild, IsPatterns, IsPropagator, all_of}
use Rattle.rule_entries.proofs.Laws.{gives_reads, tells_reads, after_goes, after_stops, then_goes, then_stops, below_reads}

-- the value of the one key that counts in a map
pub one_goes : (at : ChildKey → YValue → Reading Formula) (role : Role) (s t : Found) (es : List Entry) (c : Counted) (read r : Result Formula Stop) → one_of role es ≡ Ok c → Reads (at c.0 c.1.1) s read t → IsUnder c.1.0 read r → Reads (IsOne at role es) s r t
one_goes at role s t es c read r one h under = after_goes (λ (d : Counted). d) (one_of role es) (λ d. Below d.1.0 (at d.0 d.1.1)) c s t r one (below_reads c.1.0 (at c.0 c.1.1) s t read r h under)

module _ (leaf : Leaf) (inner : Inner) (v : YValue) (s t : Found) where
  module _ (vs : List YValue) (items : items_of v ≡ Ok vs) where
    abbrev Alternatives : Reading (List Formula)
    Alternatives = Each (AtPlace (IsAlternative leaf inner)) 0 vs

    abbrev Children : Reading (List Child)
    Children = Each (AtPlace (IsChild leaf inner)) 0 vs

    pub either_stops : (e : Stop) → Reads Alternatives s (Err e) t → Reads (IsEither leaf inner v) s (Err e) t
    either_stops e h =
        after_goes (λ (l : List YValue). l) (items_of v) (λ xs. Then (Each (AtPlace (IsAlternative leaf inner)) 0 xs) (λ fs. gives (formulas.Any fs))) vs s t (Err e) items
        (then_stops Alternatives (λ fs. gives (formulas.Any fs)) e s t t h)

    pub either_goes : (fs : List Formula) → Only (Alternatives s) (Ok (fs, t)) → Reads (IsEither leaf inner v) s (Ok (formulas.Any fs)) t
    either_goes fs h =
        after_goes (λ (l : List YValue). l) (items_of v) (λ xs. Then (Each (AtPlace (IsAlternative leaf inner)) 0 xs) (λ gs. gives (formulas.Any gs))) vs s t (Ok (formulas.Any fs)) items
        (then_goes Alternatives (λ gs. gives (formulas.Any gs)) fs s t t (Ok (formulas.Any fs)) h (gives_reads (formulas.Any fs) t))

    pub patterns_stops : (bare : Bool) (e : Stop) → Reads Children s (Err e) t → Reads (IsPatterns leaf inner bare v) s (Err e) t
    patterns_stops bare e h =
        after_goes (λ (l : List YValue). l) (items_of v) (λ xs. Then (Each (AtPlace (IsChild leaf inner)) 0 xs) (λ cs. tells (all_of bare cs))) vs s t (Err e) items
        (then_stops Children (λ cs. tells (all_of bare cs)) e s t t h)

    pub patterns_goes : (bare : Bool) (cs : List Child) (r : Result Formula Stop) → Only (Children s) (Ok (cs, t)) → Fits (λ (f : Formula). f) (all_of bare cs) r → Reads (IsPatterns leaf inner bare v) s r t
    patterns_goes bare cs r h fits =
        after_goes (λ (l : List YValue). l) (items_of v) (λ xs. Then (Each (AtPlace (IsChild leaf inner)) 0 xs) (λ ds. tells (all_of bare ds))) vs s t r items
        (then_goes Children (λ ds. tells (all_of bare ds)) cs s t t r h (tells_reads (all_of bare cs) r t fits))

  pub mapped_goes : (es : List Entry) (r : Result Formula Stop) → map_of roles.Formula v ≡ Ok es → Reads (IsOne (IsFormulaAt inner false) roles.Formula es) s r t → Reads (IsMapped inner v) s r t
  mapped_goes es r map h = after_goes (λ (l : List Entry). l) (map_of roles.Formula v) (IsOne (IsFormulaAt inner false) roles.Formula) es s t r map h

  module _ (es : List Entry) (name : List ℕ) (map : map_of roles.MetaPattern v ≡ Ok es) (named : required_name (codes "metavariable") es ≡ Ok name) where
    abbrev One : List Entry → Reading Formula
    One = IsOne (IsFormulaAt inner true) roles.MetaPattern

    within_name : (r : Result Child Stop) → Reads (Then (One es) (λ f. gives (children.MetaPattern name f))) s r t → Reads (IsMetaPattern inner v) s r t
    within_name r h =
        after_goes (λ (l : List Entry). l) (map_of roles.MetaPattern v) (λ xs. After (required_name (codes "metavariable") xs) (λ n. Then (One xs) (λ f. gives (children.MetaPattern n f)))) es s t r map
        (after_goes (λ (n : List ℕ). n) (required_name (codes "metavariable") es) (λ n. Then (One es) (λ f. gives (children.MetaPattern n f))) name s t r named h)

    pub meta_pattern_stops : (e : Stop) → Reads (One es) s (Err e) t → Reads (IsMetaPattern inner v) s (Err e) t
    meta_pattern_stops e h = within_name (Err e) (then_stops (One es) (λ f. gives (children.MetaPattern name f)) e s t t h)

    pub meta_pattern_goes : (f : Formula) → Only (One es s) (Ok (f, t)) → Reads (IsMetaPattern inner v) s (Ok (children.MetaPattern name f)) t
    meta_pattern_goes f h =
        within_name (Ok (children.MetaPattern name f)) (then_goes (One es) (λ g. gives (children.MetaPattern name g)) f s t t (Ok (children.MetaPattern name f)) h (gives_reads (children.MetaPattern name f) t))

  pub compare_at : (key : ChildKey) (r : Result Child Stop) → key ≡ keys.MetaCompare → Reads (IsMetaCompare v) s r t → Reads (IsChildAt leaf inner key v) s r t
  compare_at key r e h = subst (λ (k : ChildKey). Reads (IsChildAt leaf inner k v) s r t) (sym e) h

  pub meta_pattern_at : (key : ChildKey) (r : Result Child Stop) → key ≡ keys.MetaPattern → Reads (IsMetaPattern inner v) s r t → Reads (IsChildAt leaf inner key v) s r t
  meta_pattern_at key r e h = subst (λ (k : ChildKey). Reads (IsChildAt leaf inner k v) s r t) (sym e) h

  pub positive_stops : (key : ChildKey) (k : FormulaKey) (e : Stop) → key ≡ keys.Formula k → Reads (inner false k v) s (Err e) t → Reads (IsChildAt leaf inner key v) s (Err e) t
  positive_stops key k e is h = subst (λ (x : ChildKey). Reads (IsChildAt leaf inner x v) s (Err e) t) (sym is) (then_stops (inner false k v) (λ f. gives (children.Positive f)) e s t t h)

  pub alternative_goes : (es : List Entry) (c : Counted) (read r : Result Formula Stop) → map_of roles.Alternative v ≡ Ok es → one_of roles.Alternative es ≡ Ok c → Reads (IsAlternativeAt leaf inner c.0 c.1.1) s read t → IsUnder c.1.0 read r → Reads (IsAlternative leaf inner v) s r t
  alternative_goes es c read r map one h under =
      after_goes (λ (l : List Entry). l) (map_of roles.Alternative v) (λ xs. IsOne (IsAlternativeAt leaf inner) roles.Alternative xs) es s t r map (one_goes (IsAlternativeAt leaf inner) roles.Alternative s t es c read r one h under)

  pub child_goes : (es : List Entry) (c : Counted) (read r : Result Child Stop) → map_of roles.Child v ≡ Ok es → one_of roles.Child es ≡ Ok c → Reads (IsChildAt leaf inner c.0 c.1.1) s read t → IsUnder c.1.0 read r → Reads (IsChild leaf inner v) s r t
  child_goes es c read r map one h under =
      after_goes (λ (l : List Entry). l) (map_of roles.Child v) (λ xs. After (one_of roles.Child xs) (λ d. Below d.1.0 (IsChildAt leaf inner d.0 d.1.1))) es s t r map
      (after_goes (λ (d : Counted). d) (one_of roles.Child es) (λ d. Below d.1.0 (IsChildAt leaf inner d.0 d.1.1)) c s t r one (below_reads c.1.0 (IsChildAt leaf inner c.0 c.1.1) s t read r h under))

module _ (v : YValue) (s : Found) (es : List Entry) (text : List ℕ) (map : map_of roles.MetaCompare v ≡ Ok es) (is : required_text (codes "comparison") es ≡ Ok text) where
  compares : (r : Result Child Stop) → Reads (Then (Below (codes "comparison") (IsCompared text)) (λ c. gives (children.MetaCompare c))) s r s → Reads (IsMetaCompare v) s r s
  compares r h =
      after_goes (λ (l : List Entry). l) (map_of roles.MetaCompare v) (λ xs. After (required_text (codes "comparison") xs) (λ x. Then (Below (codes "comparison") (IsCompared x)) (λ c. gives (children.MetaCompare c)))) es s s r map
      (after_goes (λ (x : List ℕ). x) (required_text (codes "comparison") es) (λ x. Then (Below (codes "comparison") (IsCompared x)) (λ c. gives (children.MetaCompare c))) text s s r is h)

  pub compare_stops : (read : Result Comparison Stop) (e : Stop) → Reads (IsCompared text) s read s → IsUnder (codes "comparison") read (Err e) → Reads (IsMetaCompare v) s (Err e) s
  compare_stops read e h under = compares (Err e) (then_stops (Below (codes "comparison") (IsCompared text)) (λ c. gives (children.MetaCompare c)) e s s s (below_reads (codes "comparison") (IsCompared text) s s read (Err e) h under))

  pub compare_goes : (read : Result Comparison Stop) (c : Comparison) → Reads (IsCompared text) s read s → IsUnder (codes "comparison") read (Ok c) → Reads (IsMetaCompare v) s (Ok (children.MetaCompare c)) s
  compare_goes read c h under =
      compares (Ok (children.MetaCompare c)) (then_goes (Below (codes "comparison") (IsCompared text)) (λ d. gives (children.MetaCompare d)) c s s s (Ok (children.MetaCompare c)) (below_reads (codes "comparison") (IsCompared text) s s read (Ok c) h under) (gives_reads (children.MetaCompare c) s))

abbrev pub carried : Formula → List ℕ → List ℕ → Propagator
carried f a b = record { formula = f; source = a; target = b }

module _ (inner : Inner) (v : YValue) (s t : Found) (es : List Entry) (map : map_of roles.Propagator v ≡ Ok es) where
  abbrev Carrying : List Entry → Reading Formula
  Carrying = IsOne (IsFormulaAt inner false) roles.Propagator

  abbrev Target : List Entry → Formula → List ℕ → Reading Propagator
  Target xs f a = After (required_name (codes "to") xs) (λ b. gives (carried f a b))

  abbrev Source : List Entry → Formula → Reading Propagator
  Source xs f = After (required_name (codes "from") xs) (Target xs f)

  mapped : (r : Result Propagator Stop) → Reads (Then (Carrying es) (Source es)) s r t → Reads (IsPropagator inner v) s r t
  mapped r h = after_goes (λ (l : List Entry). l) (map_of roles.Propagator v) (λ xs. Then (Carrying xs) (Source xs)) es s t r map h

  pub propagator_stops : (e : Stop) → Reads (Carrying es) s (Err e) t → Reads (IsPropagator inner v) s (Err e) t
  propagator_stops e h = mapped (Err e) (then_stops (Carrying es) (Source es) e s t t h)

  module _ (f : Formula) (read : Only (Carrying es s) (Ok (f, t))) where
    pub source_stops : (e : Stop) → Fits (λ (n : List ℕ). n) (required_name (codes "from") es) (Err e) → Reads (IsPropagator inner v) s (Err e) t
    source_stops e h = mapped (Err e) (then_goes (Carrying es) (Source es) f s t t (Err e) read (after_stops (λ (n : List ℕ). n) (required_name (codes "from") es) (Target es f) e t t h))

    module _ (a : List ℕ) (from : required_name (codes "from") es ≡ Ok a) where
      sourced : (r : Result Propagator Stop) → Reads (Target es f a) t r t → Reads (IsPropagator inner v) s r t
      sourced r h = mapped r (then_goes (Carrying es) (Source es) f s t t r read (after_goes (λ (n : List ℕ). n) (required_name (codes "from") es) (Target es f) a t t r from h))

      pub target_stops : (e : Stop) → Fits (λ (n : List ℕ). n) (required_name (codes "to") es) (Err e) → Reads (IsPropagator inner v) s (Err e) t
      target_stops e h = sourced (Err e) (after_stops (λ (n : List ℕ). n) (required_name (codes "to") es) (λ b. gives (carried f a b)) e t t h)

      pub propagator_goes : (b : List ℕ) → required_name (codes "to") es ≡ Ok b → Reads (IsPropagator inner v) s (Ok (carried f a b)) t
      propagator_goes b to = sourced (Ok (carried f a b)) (after_goes (λ (n : List ℕ). n) (required_name (codes "to") es) (λ x. gives (carried f a x)) b t t (Ok (carried f a b)) to (gives_reads (carried f a b) t))
