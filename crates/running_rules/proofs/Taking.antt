-- Rules that are taken up one after the other.
use Rattle.std.proofs.Common.{◌≡◌, ℕ, suc, ◌+◌, Bool, true, false, cond, not, List, [], ◌∷◌, ◌++◌, nat_cmp, refl, sym, ap, ◌∙◌, subst, append_assoc, append-nil, add-one}
use Rattle.std.specs.Prelude.{if◌then◌else◌, ◌||◌, Result, IfOk}
use Rattle.std.specs.Borrow.{Bor}
use Rattle.std.specs.List.{flat_map}
use Rattle.std.specs.Ordering.{is_eq}
use Rattle.std.specs.Str.{bytes_eq}
use Rattle.std.specs.BTreeSet.{BTreeSet, contains}
use Rattle.std.specs.Cmp.Lexicographic.{slice_cmp}
use Rattle.std.proofs.lemmas.Map.Text.{is_eq-slice_cmp}
use Rattle.rule_form.specs.declared.rule.Rule.{Rule}
use Rattle.rule_entries.specs.declared.outcome.RuleOutcome.{RuleOutcome}
use Rattle.report_form.specs.declared.notice.Notice.{Notice}
use Rattle.rule_files.specs.declared.rule_file.RuleFile.{RuleFile}
use Rattle.rule_files.specs.RuleFiles.{outcomes_of}
use Rattle.running_rules.specs.Running.{Stated, stated_at, stated_from, stated, texts_of, is_taken, has_refused, built, firsts, stated_notices, first_notices, repeat_notice, file_notices, rule_notices}
use Rattle.decided_texts.specs.Decided.{Decisions, AreDecided}
use Rattle.running_rules.specs.Taking.{HasJust, ids_after, run_of, rules_at, notices_at, firsts_after, notices_after}
use Rattle.running_rules.proofs.Repeats.{firsts_are, notices_are}

-- ---- entries

pub entries_on : (file : List ℕ) (k : ℕ) (old new : List Stated) (o : RuleOutcome) (left rest : List RuleOutcome) (W : List Stated)
    → old ++ stated_from file k left ≡ W → left ≡ o ∷ rest → new ≡ old ++ stated_at file k o → new ++ stated_from file (k + 1) rest ≡ W
entries_on file k old new o left rest W h left-is new-is =
    ap (λ (xs : List Stated). xs ++ stated_from file (k + 1) rest) new-is
    ∙ ap (λ (n : ℕ). (old ++ stated_at file k o) ++ stated_from file n rest) (add-one k)
    ∙ append_assoc old (stated_at file k o) (stated_from file (suc k) rest)
    ∙ sym (ap (λ (os : List RuleOutcome). old ++ stated_from file k os) left-is) ∙ h

pub entries_end : (file : List ℕ) (k : ℕ) (old : List Stated) (left : List RuleOutcome) (W : List Stated) → old ++ stated_from file k left ≡ W → left ≡ [] → old ≡ W
entries_end file k old left W h left-is = sym (ap (λ (os : List RuleOutcome). old ++ stated_from file k os) left-is ∙ append-nil old) ∙ h

pub files_on : (old new : List Stated) (f : RuleFile) (left rest : List RuleFile) (W : List Stated)
    → old ++ stated left ≡ W → left ≡ f ∷ rest → new ≡ old ++ stated_from f.name 0 (outcomes_of f.content) → new ++ stated rest ≡ W
files_on old new f left rest W h left-is new-is =
    ap (λ (xs : List Stated). xs ++ stated rest) new-is ∙ append_assoc old (stated_from f.name 0 (outcomes_of f.content)) (stated rest) ∙ sym (ap (λ (fs : List RuleFile). old ++ stated fs) left-is) ∙ h

pub files_end : (old : List Stated) (left : List RuleFile) (W : List Stated) → old ++ stated left ≡ W → left ≡ [] → old ≡ W
files_end old left W h left-is = sym (ap (λ (fs : List RuleFile). old ++ stated fs) left-is ∙ append-nil old) ∙ h

-- ---- ids

abbrev pub Ids : Type 0
Ids = BTreeSet (Bor (List ℕ))

abbrev pub has : Ids → Bor (List ℕ) → Bool
has taken key = contains (λ (x y : Bor (List ℕ)). slice_cmp nat_cmp x.now y.now) taken key

module _ (ids : List (List ℕ)) (id : Bor (List ℕ)) (old new : Ids) (just : HasJust old ids) (updates : (key : Bor (List ℕ)) → has new key ≡ cond (is_eq (slice_cmp nat_cmp id.now key.now)) true (has old key)) where
  one_more : (key : Bor (List ℕ)) → has new key ≡ cond (bytes_eq id.now key.now) true (is_taken ids key.now)
  one_more key = updates key ∙ ap (λ (b : Bool). cond b true (has old key)) (is_eq-slice_cmp id.now key.now) ∙ ap (λ (b : Bool). cond (bytes_eq id.now key.now) true b) (just key)

  or_is : (b c : Bool) → cond b true c ≡ b || c
  or_is true c = refl
  or_is false c = refl

  pub with_id : HasJust new (id.now ∷ ids)
  with_id key = one_more key ∙ or_is (bytes_eq id.now key.now) (is_taken ids key.now)

  not_true : (b : Bool) → not b ≡ true → b ≡ false
  not_true true e = sym e
  not_true false e = refl

  not_false : (b : Bool) → not b ≡ false → b ≡ true
  not_false true e = refl
  not_false false e = sym e

  pub is_fresh : not (has old id) ≡ true → is_taken ids id.now ≡ false
  is_fresh added = sym (just id) ∙ not_true (has old id) added

  pub is_old : not (has old id) ≡ false → is_taken ids id.now ≡ true
  is_old added = sym (just id) ∙ not_false (has old id) added

  pub same_ids : (same : (a b : List ℕ) → bytes_eq a b ≡ true → a ≡ b) → is_taken ids id.now ≡ true → HasJust new ids
  same_ids same there key = one_more key ∙ at (bytes_eq id.now key.now) refl
    where
      at : (b : Bool) → bytes_eq id.now key.now ≡ b → cond b true (is_taken ids key.now) ≡ is_taken ids key.now
      at true e = sym (ap (is_taken ids) (sym (same id.now key.now e)) ∙ there)
      at false e = refl

-- ---- one rule after the other

module _ (refused ids : List (List ℕ)) (s : Stated) (ss : List Stated) where
  next_rules : built refused (firsts_after ids (s ∷ ss)) ≡ rules_at refused ids s ++ built refused (firsts_after (ids_after ids s) ss)
  next_rules = at (is_taken ids s.rule.id)
    where
      one : (u : Bool) (rs : List Rule) → (if u then rs else s.rule ∷ rs) ≡ (if u then [] else s.rule ∷ []) ++ rs
      one true rs = refl
      one false rs = refl

      at : (b : Bool) → built refused (if b then firsts_after ids ss else s ∷ firsts_after (s.rule.id ∷ ids) ss) ≡ (if b then [] else run_of refused s.rule) ++ built refused (firsts_after (if b then ids else s.rule.id ∷ ids) ss)
      at true = refl
      at false = one (has_refused refused s.rule) (built refused (firsts_after (s.rule.id ∷ ids) ss))

  next_notices : notices_after refused ids (s ∷ ss) ≡ notices_at refused ids s ++ notices_after refused (ids_after ids s) ss
  next_notices = at (is_taken ids s.rule.id)
    where
      at : (b : Bool) → (if b then repeat_notice s ∷ notices_after refused ids ss else first_notices refused s ++ notices_after refused (s.rule.id ∷ ids) ss)
          ≡ (if b then repeat_notice s ∷ [] else first_notices refused s) ++ notices_after refused (if b then ids else s.rule.id ∷ ids) ss
      at true = refl
      at false = refl

-- what was taken up, and what is left
pub record SoFar (refused : List (List ℕ)) (all : List Stated) (before : List Notice) (taken : Ids) (rules : List Rule) (notices : List Notice) (left : List Stated) : Type 0 where
  pub ids : List (List ℕ)
  pub just : HasJust taken ids
  pub rules_are : rules ++ built refused (firsts_after ids left) ≡ built refused (firsts_after [] all)
  pub notices_are : notices ++ notices_after refused ids left ≡ before ++ notices_after refused [] all

-- the same, where the texts of all rules are decided
abbrev pub TakesUp : Decisions → List Stated → List Notice → Ids → List Rule → List Notice → List Stated → Type 0
TakesUp d all before taken rules notices left = AreDecided d (texts_of all) → SoFar d.refused all before taken rules notices left × AreDecided d (texts_of left)

pub takes : (refused : List (List ℕ)) (all : List Stated) (before : List Notice) (taken taken' : Ids) (rules rules' : List Rule) (notices notices' : List Notice) (left : List Stated) (s : Stated) (ss : List Stated)
    → (far : SoFar refused all before taken rules notices left) → left ≡ s ∷ ss → HasJust taken' (ids_after far.ids s) → rules' ≡ rules ++ rules_at refused far.ids s → notices' ≡ notices ++ notices_at refused far.ids s
    → SoFar refused all before taken' rules' notices' ss
takes refused all before taken taken' rules rules' notices notices' left s ss far left-is just r n = record {
  ids = ids_after far.ids s;
  just = just;
  rules_are =
      ap (λ (rs : List Rule). rs ++ built refused (firsts_after (ids_after far.ids s) ss)) r ∙ append_assoc rules (rules_at refused far.ids s) (built refused (firsts_after (ids_after far.ids s) ss))
      ∙ ap (λ (rs : List Rule). rules ++ rs) (sym (next_rules refused far.ids s ss)) ∙ ap (λ (l : List Stated). rules ++ built refused (firsts_after far.ids l)) (sym left-is) ∙ far.rules_are;
  notices_are =
      ap (λ (ns : List Notice). ns ++ notices_after refused (ids_after far.ids s) ss) n ∙ append_assoc notices (notices_at refused far.ids s) (notices_after refused (ids_after far.ids s) ss)
      ∙ ap (λ (ns : List Notice). notices ++ ns) (sym (next_notices refused far.ids s ss)) ∙ ap (λ (l : List Stated). notices ++ notices_after refused far.ids l) (sym left-is) ∙ far.notices_are;
}

pub all_rules : (refused : List (List ℕ)) (all : List Stated) (before : List Notice) (taken : Ids) (rules : List Rule) (notices : List Notice) (left : List Stated) → SoFar refused all before taken rules notices left → left ≡ []
    → (rules ≡ built refused (firsts_after [] all)) × (notices ≡ before ++ notices_after refused [] all)
all_rules refused all before taken rules notices left far e = (
  sym (ap (λ (l : List Stated). rules ++ built refused (firsts_after far.ids l)) e ∙ append-nil rules) ∙ far.rules_are,
  sym (ap (λ (l : List Stated). notices ++ notices_after refused far.ids l) e ∙ append-nil notices) ∙ far.notices_are,
)

-- ---- all rules

pub runs_as : {A E : Type 0} (r : Result A E) (items : A → List Rule) (refused : List (List ℕ)) (given all : List Stated) → given ≡ all
    → IfOk r (λ a. items a ≡ built refused (firsts_after [] given)) → IfOk r (λ a. items a ≡ built refused (firsts all))
runs_as r items refused given all e h = let P : List Stated → Type 0 = λ ss. IfOk r (λ a. items a ≡ built refused ss) in subst P (ap (firsts_after []) e ∙ sym (firsts_are all)) h

pub all_noted : (refused : List (List ℕ)) (old mid new : List Notice) (files : List RuleFile) (given : List Stated) → mid ≡ old ++ flat_map file_notices files → given ≡ stated files
    → new ≡ mid ++ notices_after refused [] given → new ≡ old ++ rule_notices refused files
all_noted refused old mid new files given e f h =
    h ∙ ap (λ (ss : List Stated). mid ++ notices_after refused [] ss) f ∙ ap (λ (ns : List Notice). mid ++ ns) (sym (notices_are refused (stated files)))
    ∙ ap (λ (ns : List Notice). ns ++ stated_notices refused (stated files)) e ∙ append_assoc old (flat_map file_notices files) (stated_notices refused (stated files))

-- ---- ids that are taken

ids_new : (ids : List (List ℕ)) (s : Stated) → is_taken ids s.rule.id ≡ false → ids_after ids s ≡ s.rule.id ∷ ids
ids_new ids s e = ap (λ (b : Bool). if b then ids else s.rule.id ∷ ids) e

-- the ids that are taken once that of the rule is put among them
pub ids_grown : (ids : List (List ℕ)) (s : Stated) (id : Bor (List ℕ)) → id.now ≡ s.rule.id → (old new : Ids) → HasJust old ids → ((key : Bor (List ℕ)) → has new key ≡ cond (is_eq (slice_cmp nat_cmp id.now key.now)) true (has old key)) → not (has old id) ≡ true → HasJust new (ids_after ids s)
ids_grown ids s id id-is old new just updates added =
    let fresh : is_taken ids s.rule.id ≡ false = ap (is_taken ids) (sym id-is) ∙ is_fresh ids id old new just updates added in
    let P : List (List ℕ) → Type 0 = HasJust new in
    subst P (ap (λ (i : List ℕ). i ∷ ids) id-is ∙ sym (ids_new ids s fresh)) (with_id ids id old new just updates)
