-- The rule of an entry, step by step.
use Rattle.std.proofs.Common.{◌≡◌, ℕ, Bool, List, [], sym, ap, ◌∙◌, subst, Ok, Err, codes}
use Rattle.std.specs.Prelude.{Result, Option}
use Rattle.node_tree.specs.declared.view.Lang.{Lang}
use Rattle.rule_form.specs.declared.rule.Rule.{Rule}
use Rattle.rule_form.specs.declared.rule.Severity.{Severity}
use Rattle.rule_form.specs.declared.rule.Part.{Part}
use Rattle.rule_keys.specs.declared.mode.RuleMode.{RuleMode}
use Rattle.rule_keys.specs.declared.extra.Paths.{Paths}
use Rattle.rule_entries.specs.declared.found.Found.{Found}
use Rattle.rule_keys.specs.declared.stop.Misfit.{Misfit}
use Rattle.rule_keys.specs.declared.stop.Stop.{Stop}
use Rattle.rule_keys.specs.Misfits.{Fits}
use Rattle.rule_keys.specs.Values.{Entry, required_text}
use Rattle.rule_entries.specs.Readings.{Outcome, Reading, Only, Reads, Then, After}
use Rattle.rule_keys.specs.Heads.{severity_of, languages}
use Rattle.rule_keys.specs.Modes.{mode_of, check_body}
use Rattle.rule_entries.specs.Finds.{Writes}
use Rattle.rule_entries.specs.Bodies.{IsParts}
use Rattle.rule_keys.specs.Extras.{fix_of, paths_of, unread_of, constants_of}
use Rattle.rule_entries.specs.Rules.{IsRule, IsMade, nothing}
use Rattle.rule_entries.proofs.Laws.{after_goes, after_stops, then_goes, then_stops}

abbrev same : {X : Type 0} → X → X
same x = x

module _ (writes : Writes) (id : List ℕ) (es : List Entry) where
  abbrev Unread : List ℕ → Severity → List Part → Option (List ℕ) → Paths → Reading Rule
  Unread message severity parts fix paths = After (unread_of es) (IsMade id message severity parts fix paths)

  abbrev Pathed : List ℕ → Severity → List Part → Option (List ℕ) → Reading Rule
  Pathed message severity parts fix = After (paths_of es) (Unread message severity parts fix)

  abbrev Fixed : List ℕ → Severity → List Part → Reading Rule
  Fixed message severity parts = After (fix_of es) (Pathed message severity parts)

  abbrev Parted : List ℕ → Severity → List Lang → RuleMode → Reading Rule
  Parted message severity langs mode = Then (IsParts writes (constants_of es) mode es langs) (Fixed message severity)

  abbrev Checked : List ℕ → Severity → List Lang → RuleMode → Reading Rule
  Checked message severity langs mode = After (check_body mode es) (λ _. Parted message severity langs mode)

  abbrev Moded : List ℕ → Severity → List Lang → Reading Rule
  Moded message severity langs = After (mode_of es) (Checked message severity langs)

  abbrev Spoken : List ℕ → Severity → Reading Rule
  Spoken message severity = After (languages es) (Moded message severity)

  abbrev Rated : List ℕ → Reading Rule
  Rated message = After (severity_of es) (Spoken message)

  abbrev Whole : Result Rule Stop → Type 0
  Whole r = (t : Found) × Reads (IsRule writes id es) nothing r t

  begun : (m : List ℕ) (t : Found) (r : Result Rule Stop) → required_text (codes "message") es ≡ Ok m → Reads (Rated m) nothing r t → Reads (IsRule writes id es) nothing r t
  begun m t r e h = after_goes (λ (x : List ℕ). x) (required_text (codes "message") es) Rated m nothing t r e h

  pub no_message : (e : Stop) → Fits (λ (x : List ℕ). x) (required_text (codes "message") es) (Err e) → Whole (Err e)
  no_message e h = (nothing, after_stops (λ (x : List ℕ). x) (required_text (codes "message") es) Rated e nothing nothing h)

  module _ (m : List ℕ) (message : required_text (codes "message") es ≡ Ok m) where
    pub no_severity : (e : Stop) → Fits (λ (x : Severity). x) (severity_of es) (Err e) → Whole (Err e)
    no_severity e h = (nothing, begun m nothing (Err e) message (after_stops (λ (x : Severity). x) (severity_of es) (Spoken m) e nothing nothing h))

    module _ (v : Severity) (severity : severity_of es ≡ Ok v) where
      rated : (t : Found) (r : Result Rule Stop) → Reads (Spoken m v) nothing r t → Reads (IsRule writes id es) nothing r t
      rated t r h = begun m t r message (after_goes (λ (x : Severity). x) (severity_of es) (Spoken m) v nothing t r severity h)

      pub no_languages : (e : Stop) → Fits (λ (x : List Lang). x) (languages es) (Err e) → Whole (Err e)
      no_languages e h = (nothing, rated nothing (Err e) (after_stops (λ (x : List Lang). x) (languages es) (Moded m v) e nothing nothing h))

      module _ (ls : List Lang) (langs : languages es ≡ Ok ls) where
        spoken : (t : Found) (r : Result Rule Stop) → Reads (Moded m v ls) nothing r t → Reads (IsRule writes id es) nothing r t
        spoken t r h = rated t r (after_goes (λ (x : List Lang). x) (languages es) (Moded m v) ls nothing t r langs h)

        pub no_mode : (e : Stop) → Fits (λ (x : RuleMode). x) (mode_of es) (Err e) → Whole (Err e)
        no_mode e h = (nothing, spoken nothing (Err e) (after_stops (λ (x : RuleMode). x) (mode_of es) (Checked m v ls) e nothing nothing h))

        module _ (k : RuleMode) (mode : mode_of es ≡ Ok k) where
          moded : (t : Found) (r : Result Rule Stop) → Reads (Checked m v ls k) nothing r t → Reads (IsRule writes id es) nothing r t
          moded t r h = spoken t r (after_goes (λ (x : RuleMode). x) (mode_of es) (Checked m v ls) k nothing t r mode h)

          pub no_body : (e : Stop) → Fits (λ (x : Unit {0}). x) (check_body k es) (Err e) → Whole (Err e)
          no_body e h = (nothing, moded nothing (Err e) (after_stops (λ (x : Unit {0}). x) (check_body k es) (λ _. Parted m v ls k) e nothing nothing h))

          module _ (u : Unit {0}) (checked : check_body k es ≡ Ok u) where
            passed : (t : Found) (r : Result Rule Stop) → Reads (Parted m v ls k) nothing r t → Reads (IsRule writes id es) nothing r t
            passed t r h = moded t r (after_goes (λ (x : Unit {0}). x) (check_body k es) (λ _. Parted m v ls k) u nothing t r checked h)

            pub no_parts : (e : Stop) (t : Found) → Reads (IsParts writes (constants_of es) k es ls) nothing (Err e) t → Whole (Err e)
            no_parts e t h = (t, passed t (Err e) (then_stops (IsParts writes (constants_of es) k es ls) (Fixed m v) e nothing t t h))

            module _ (ps : List Part) (t : Found) (parts : Only (IsParts writes (constants_of es) k es ls nothing) (Ok (ps, t))) where
              parted : (r : Result Rule Stop) → Reads (Fixed m v ps) t r t → Reads (IsRule writes id es) nothing r t
              parted r h = passed t r (then_goes (IsParts writes (constants_of es) k es ls) (Fixed m v) ps nothing t t r parts h)

              pub no_fix : (e : Stop) → Fits (λ (x : Option (List ℕ)). x) (fix_of es) (Err e) → Whole (Err e)
              no_fix e h = (t, parted (Err e) (after_stops (λ (x : Option (List ℕ)). x) (fix_of es) (Pathed m v ps) e t t h))

              module _ (f : Option (List ℕ)) (fix : fix_of es ≡ Ok f) where
                fixed : (r : Result Rule Stop) → Reads (Pathed m v ps f) t r t → Reads (IsRule writes id es) nothing r t
                fixed r h = parted r (after_goes (λ (x : Option (List ℕ)). x) (fix_of es) (Pathed m v ps) f t t r fix h)

                pub no_paths : (e : Stop) → Fits (λ (x : Paths). x) (paths_of es) (Err e) → Whole (Err e)
                no_paths e h = (t, fixed (Err e) (after_stops (λ (x : Paths). x) (paths_of es) (Unread m v ps f) e t t h))

                module _ (p : Paths) (paths : paths_of es ≡ Ok p) where
                  pathed : (r : Result Rule Stop) → Reads (Unread m v ps f p) t r t → Reads (IsRule writes id es) nothing r t
                  pathed r h = fixed r (after_goes (λ (x : Paths). x) (paths_of es) (Unread m v ps f) p t t r paths h)

                  pub no_options : (e : Stop) → Fits (λ (x : List (List ℕ)). x) (unread_of es) (Err e) → Whole (Err e)
                  no_options e h = (t, pathed (Err e) (after_stops (λ (x : List (List ℕ)). x) (unread_of es) (IsMade id m v ps f p) e t t h))

                  module _ (us : List (List ℕ)) (unread : unread_of es ≡ Ok us) where
                    pub whole : (i n : List ℕ) (ts : List (List ℕ)) → i ≡ id → n ≡ m → ts ≡ t.texts
                        → Whole (Ok (record { id = i; message = n; severity = v; fix = f; include = p.include; exclude = p.exclude; unread = us; texts = ts; parts = ps }))
                    whole i n ts i-is n-is ts-is =
                        let rule : List ℕ → List ℕ → List (List ℕ) → Rule = λ a b c. record { id = a; message = b; severity = v; fix = f; include = p.include; exclude = p.exclude; unread = us; texts = c; parts = ps } in
                        let e : Ok (rule i n ts, t) ≡ Ok (rule id m t.texts, t) =
                        ap (λ (a : List ℕ). Ok (rule a n ts, t)) i-is ∙ ap (λ (b : List ℕ). Ok (rule id b ts, t)) n-is ∙ ap (λ (c : List (List ℕ)). Ok (rule id m c, t)) ts-is in
                        (t, pathed (Ok (rule i n ts)) (after_goes (λ (x : List (List ℕ)). x) (unread_of es) (IsMade id m v ps f p) us t t (Ok (rule i n ts)) unread (record { is = e; one = λ o h. h ∙ sym e })))

-- ---- the id of a rule

after_has : {X Y P : Type 0} (w : Result X Misfit) (S : X → Reading Y) (s : Found) (y : Y × Found) → ((x : X) → S x s (Ok y) → P) → After w S s (Ok y) → P
after_has (Ok x) S s y f h = f x h
after_has (Err m) S s y f h = absurd cc

then_has : {X Y P : Type 0} (R : Reading X) (S : X → Reading Y) (s : Found) (y : Y × Found) → ((x : X) (t : Found) → S x t (Ok y) → P) → Then R S s (Ok y) → P
then_has R S s y f (Ok x, is, h) = f x.0 x.1 h
then_has R S s y f (Err m, is, h) = absurd cc

abbrev id_in : Outcome Rule → List ℕ
id_in (Ok p) = p.0.id
id_in (Err m) = []

made_id : (id message : List ℕ) (v : Severity) (ps : List Part) (f : Option (List ℕ)) (p : Paths) (us : List (List ℕ)) (s t : Found) (rule : Rule) → IsMade id message v ps f p us s (Ok (rule, t)) → rule.id ≡ id
made_id id message v ps f p us s t rule e = ap id_in e

-- the rule of an entry has the entry's id
pub has_id : (writes : Writes) (id : List ℕ) (es : List Entry) (s t : Found) (rule : Rule) → IsRule writes id es s (Ok (rule, t)) → rule.id ≡ id
has_id writes id es s t rule =
    after_has (required_text (codes "message") es) (Rated writes id es) s (rule, t) (λ m.
    after_has (severity_of es) (Spoken writes id es m) s (rule, t) (λ v.
    after_has (languages es) (Moded writes id es m v) s (rule, t) (λ ls.
    after_has (mode_of es) (Checked writes id es m v ls) s (rule, t) (λ k.
    after_has (check_body k es) (λ _. Parted writes id es m v ls k) s (rule, t) (λ _.
    then_has (IsParts writes (constants_of es) k es ls) (Fixed writes id es m v) s (rule, t) (λ ps u.
    after_has (fix_of es) (Pathed writes id es m v ps) u (rule, t) (λ f.
    after_has (paths_of es) (Unread writes id es m v ps f) u (rule, t) (λ p.
    after_has (unread_of es) (IsMade id m v ps f p) u (rule, t) (λ us e. made_id id m v ps f p us u t rule e)))))))))

-- the parts, whatever stands for what they are read from
pub parts_as : (writes : Writes) (k : RuleMode) (es : List Entry) (a b : Bool) (ms ls : List Lang) (s : Found) (o : Outcome (List Part)) → a ≡ b → ms ≡ ls → s ≡ nothing → Only (IsParts writes a k es ms s) o → Only (IsParts writes b k es ls nothing) o
parts_as writes k es a b ms ls s o e f g h =
    let P : Bool → List Lang → Found → Type 0 = λ x xs z. Only (IsParts writes x k es xs z) o in
    subst (P b ls) g (subst (λ (xs : List Lang). P b xs s) f (subst (λ (x : Bool). P x ms s) e h))
