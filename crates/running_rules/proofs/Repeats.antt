-- Rules are repeats where their ids are taken by those before.
use Rattle.std.proofs.Common.{◌≡◌, ℕ, Bool, true, false, List, [], ◌∷◌, ◌++◌, refl, sym, ap, ◌∙◌}
use Rattle.std.specs.Prelude.{if◌then◌else◌, ◌||◌}
use Rattle.std.specs.List.{list_any, flat_map}
use Rattle.std.specs.Str.{bytes_eq}
use Rattle.std.proofs.lemmas.Slice.Eq.{bytes_eq-Decides}
use Rattle.report_form.specs.declared.notice.Notice.{Notice}
use Rattle.running_rules.specs.Running.{Stated, is_taken, with_earlier, first_of, firsts, notices_of, stated_notices, first_notices, repeat_notice}
use Rattle.running_rules.specs.Taking.{firsts_after, notices_after}

-- one of the rules has the id
abbrev has : List Stated → List ℕ → Bool
has earlier id = list_any (λ (e : Stated). bytes_eq e.rule.id id) earlier

-- the ids are just those of the rules
abbrev AreIds : List (List ℕ) → List Stated → Type 0
AreIds taken earlier = (id : List ℕ) → is_taken taken id ≡ has earlier id

or_false : (b : Bool) → b || false ≡ b
or_false true = refl
or_false false = refl

or_true : (b : Bool) → b || true ≡ true
or_true true = refl
or_true false = refl

or_same : (a b : Bool) → a || b ≡ b || a
or_same true b = sym (or_true b)
or_same false b = sym (or_false b)

has_more : (earlier : List Stated) (s : Stated) (id : List ℕ) → has (earlier ++ s ∷ []) id ≡ has earlier id || bytes_eq s.rule.id id
has_more [] s id = or_false (bytes_eq s.rule.id id)
has_more (e ∷ es) s id = ap (λ (b : Bool). bytes_eq e.rule.id id || b) (has_more es s id) ∙ or_assoc (bytes_eq e.rule.id id) (has es id) (bytes_eq s.rule.id id)
  where
    or_assoc : (a b c : Bool) → a || (b || c) ≡ (a || b) || c
    or_assoc true b c = refl
    or_assoc false b c = refl

module _ (taken : List (List ℕ)) (earlier : List Stated) (are : AreIds taken earlier) (s : Stated) where
  with_repeat : is_taken taken s.rule.id ≡ true → AreIds taken (earlier ++ s ∷ [])
  with_repeat e id = at (bytes_eq s.rule.id id) refl
    where
      at : (b : Bool) → bytes_eq s.rule.id id ≡ b → is_taken taken id ≡ has (earlier ++ s ∷ []) id
      at true h = sym (ap (is_taken taken) ((bytes_eq-Decides s.rule.id id).0 h)) ∙ e ∙ sym (or_true (has earlier id)) ∙ ap (λ (b : Bool). has earlier id || b) (sym h) ∙ sym (has_more earlier s id)
      at false h = are id ∙ sym (or_false (has earlier id)) ∙ ap (λ (b : Bool). has earlier id || b) (sym h) ∙ sym (has_more earlier s id)

  with_first : AreIds (s.rule.id ∷ taken) (earlier ++ s ∷ [])
  with_first id = ap (λ (b : Bool). bytes_eq s.rule.id id || b) (are id) ∙ or_same (bytes_eq s.rule.id id) (has earlier id) ∙ sym (has_more earlier s id)

firsts_on : (taken : List (List ℕ)) (earlier ss : List Stated) → AreIds taken earlier → flat_map first_of (with_earlier earlier ss) ≡ firsts_after taken ss
firsts_on taken earlier [] are = refl
firsts_on taken earlier (s ∷ ss) are =
    ap (λ (b : Bool). (if b then [] else s ∷ []) ++ flat_map first_of (with_earlier (earlier ++ s ∷ []) ss)) (sym (are s.rule.id))
    ∙ at (is_taken taken s.rule.id) refl (λ e. firsts_on taken (earlier ++ s ∷ []) ss (with_repeat taken earlier are s e)) (firsts_on (s.rule.id ∷ taken) (earlier ++ s ∷ []) ss (with_first taken earlier are s))
  where
    at : (b : Bool) → is_taken taken s.rule.id ≡ b → (is_taken taken s.rule.id ≡ true → flat_map first_of (with_earlier (earlier ++ s ∷ []) ss) ≡ firsts_after taken ss)
        → flat_map first_of (with_earlier (earlier ++ s ∷ []) ss) ≡ firsts_after (s.rule.id ∷ taken) ss
        → (if b then [] else s ∷ []) ++ flat_map first_of (with_earlier (earlier ++ s ∷ []) ss) ≡ (if b then firsts_after taken ss else s ∷ firsts_after (s.rule.id ∷ taken) ss)
    at true e old new = old e
    at false e old new = ap (λ (l : List Stated). s ∷ l) new

notices_on : (refused taken : List (List ℕ)) (earlier ss : List Stated) → AreIds taken earlier → flat_map (notices_of refused) (with_earlier earlier ss) ≡ notices_after refused taken ss
notices_on refused taken earlier [] are = refl
notices_on refused taken earlier (s ∷ ss) are =
    ap (λ (b : Bool). (if b then repeat_notice s ∷ [] else first_notices refused s) ++ flat_map (notices_of refused) (with_earlier (earlier ++ s ∷ []) ss)) (sym (are s.rule.id))
    ∙ at (is_taken taken s.rule.id) refl (λ e. notices_on refused taken (earlier ++ s ∷ []) ss (with_repeat taken earlier are s e)) (notices_on refused (s.rule.id ∷ taken) (earlier ++ s ∷ []) ss (with_first taken earlier are s))
  where
    at : (b : Bool) → is_taken taken s.rule.id ≡ b → (is_taken taken s.rule.id ≡ true → flat_map (notices_of refused) (with_earlier (earlier ++ s ∷ []) ss) ≡ notices_after refused taken ss)
        → flat_map (notices_of refused) (with_earlier (earlier ++ s ∷ []) ss) ≡ notices_after refused (s.rule.id ∷ taken) ss
        → (if b then repeat_notice s ∷ [] else first_notices refused s) ++ flat_map (notices_of refused) (with_earlier (earlier ++ s ∷ []) ss)
        ≡ (if b then repeat_notice s ∷ notices_after refused taken ss else first_notices refused s ++ notices_after refused (s.rule.id ∷ taken) ss)
    at true e old new = ap (λ (l : List Notice). repeat_notice s ∷ l) (old e)
    at false e old new = ap (λ (l : List Notice). first_notices refused s ++ l) new

-- the rules that are no repeats are those whose id no earlier one has
pub firsts_are : (ss : List Stated) → firsts ss ≡ firsts_after [] ss
firsts_are ss = firsts_on [] [] ss (λ id. refl)

pub notices_are : (refused : List (List ℕ)) (ss : List Stated) → stated_notices refused ss ≡ notices_after refused [] ss
notices_are refused ss = notices_on refused [] [] ss (λ id. refl)
