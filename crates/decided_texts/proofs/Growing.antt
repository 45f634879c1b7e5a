-- Texts that are decided one after the other.
use Rattle.std.proofs.Common.{◌≡◌, ◌⊎◌, inl, inr, ℕ, ◌+◌, ◌<◌, Bool, true, false, List, [], ◌∷◌, ◌++◌, length, take, drop, get_or, refl, sym, ap, ◌∙◌, subst, append_assoc, append-nil}
use Rattle.std.specs.Prelude.{Result, Ok, Err, OnOk, OnErr, ◌||◌}
use Rattle.std.proofs.lemmas.List.{take_more}
use Rattle.std.specs.Str.{bytes_eq}
use Rattle.std.proofs.lemmas.List.Folds.{list_any-append}
use Rattle.node_match.specs.Sets.{Among}
use Rattle.decided_texts.specs.Refused.{gained, Gains}
use Rattle.decided_texts.specs.Decided.{Decisions, is_refused, is_decided, AreDecided, AsksFor, built_now}
use Rattle.decided_texts.specs.Deciding.{Grows, Decides, TakesAll}
use Rattle.decided_texts.proofs.Texts.{both_true}

-- ---- what lists gain

past : {X : Type 0} (old more : List X) → drop (length old) (old ++ more) ≡ more
past [] more = refl
past (x ∷ xs) more = past xs more

-- what a list gained is what stands behind it
pub gained_is : (old new more : List (List ℕ)) → new ≡ old ++ more → gained old new ≡ more
gained_is old new more e = ap (drop (length old)) e ∙ past old more

pub gains_by : (old new more : List (List ℕ)) → new ≡ old ++ more → Gains old new
gains_by old new more e = e ∙ ap (λ (ts : List (List ℕ)). old ++ ts) (sym (gained_is old new more e))

gains_nothing : (old new : List (List ℕ)) → new ≡ old → new ≡ old ++ []
gains_nothing old new e = e ∙ sym (append-nil old)

both_gain : (a b c : List (List ℕ)) → Gains a b → Gains b c → c ≡ a ++ (gained a b ++ gained b c)
both_gain a b c first second = second ∙ ap (λ (ts : List (List ℕ)). ts ++ gained b c) first ∙ append_assoc a (gained a b) (gained b c)

gained_both : (a b c : List (List ℕ)) → Gains a b → Gains b c → gained a c ≡ gained a b ++ gained b c
gained_both a b c first second = gained_is a c (gained a b ++ gained b c) (both_gain a b c first second)

pub among_either : (xs ys : List (List ℕ)) (x : List ℕ) → Among (xs ++ ys) x → Among xs x ⊎ Among ys x
among_either [] ys x h = inr h
among_either (z ∷ zs) ys x (inl e) = inl (inl e)
among_either (z ∷ zs) ys x (inr h) = elim (among_either zs ys x h) [ inl a ↦ inl (inr a) | inr b ↦ inr b ]

-- ---- what is decided stays so

or_true : (a b c d : Bool) → a || b ≡ true → (a || c) || (b || d) ≡ true
or_true true b c d e = refl
or_true false true c d e = both_true c
or_true false false c d e = absurd cc

-- decisions that grew keep what was decided
pub stays : (old new : Decisions) (more : List (List ℕ)) → Grows old new more → (text : List ℕ) → is_decided old text ≡ true → is_decided new text ≡ true
stays old new more g text e =
    let same : List ℕ → Bool = λ t. bytes_eq t text in
    ap (λ (ts : List (List ℕ)). is_refused ts text || is_refused new.built text) g.refused
    ∙ ap (λ (ts : List (List ℕ)). is_refused (old.refused ++ g.first) text || is_refused ts text) g.more
    ∙ ap (λ (b : Bool). b || is_refused (old.built ++ g.built) text) (list_any-append same old.refused g.first)
    ∙ ap (λ (b : Bool). (is_refused old.refused text || is_refused g.first text) || b) (list_any-append same old.built g.built)
    ∙ or_true (is_refused old.refused text) (is_refused old.built text) (is_refused g.first text) (is_refused g.built text) e

-- what isn't decided after wasn't before
pub wasnt : (old new : Decisions) (more : List (List ℕ)) → Grows old new more → (text : List ℕ) → is_decided new text ≡ false → is_decided old text ≡ false
wasnt old new more g text e = at (is_decided old text) refl
  where
    at : (b : Bool) → is_decided old text ≡ b → b ≡ false
    at true f = let k = sym (stays old new more g text f) ∙ e in absurd cc
    at false f = refl

-- ---- one step

-- nothing was to be decided
pub nothing : (texts : List (List ℕ)) (d : Decisions) (list : List (List ℕ)) → Decides texts d d list list
nothing texts d list =
    let none : gained list list ≡ [] = gained_is list list [] (sym (append-nil list)) in record {
      gains = gains_by list list [] (sym (append-nil list));
      some = λ text h. let P : List (List ℕ) → Type 0 = λ ts. Among ts text in absurd (subst P none h);
      undecided = λ text h. let P : List (List ℕ) → Type 0 = λ ts. Among ts text in absurd (subst P none h);
      grows = record { first = []; rest = []; parts = none; refused = sym (append-nil d.refused); built = []; more = sym (append-nil d.built) };
    }

pub nothing_taken : (d : Decisions) (list : List (List ℕ)) → TakesAll d d list list
nothing_taken d list = sym (ap (λ (ts : List (List ℕ)). d.refused ++ ts) (gained_is list list [] (sym (append-nil list))) ∙ append-nil d.refused)

module _ (text : List ℕ) (old new : Decisions) (before after : List (List ℕ)) (asks : AsksFor old text before after) where
  asked_gains : Gains before after
  asked_gains = elim asks [ inl e ↦ gains_by before after [] (gains_nothing before after e) | inr p ↦ gains_by before after (text ∷ []) p.0 ]

  asked_some : (t : List ℕ) → Among (gained before after) t → Among (text ∷ []) t × (is_decided old t ≡ false)
  asked_some t h = elim asks [
    | inl e ↦ (let P : List (List ℕ) → Type 0 = λ ts. Among ts t in absurd (subst P (gained_is before after [] (gains_nothing before after e)) h))
    | inr p ↦ (let P : List (List ℕ) → Type 0 = λ ts. Among ts t in let k = subst P (gained_is before after (text ∷ []) p.0) h in (k, same p.1 k))
  ]
    where
      same : is_decided old text ≡ false → Among (text ∷ []) t → is_decided old t ≡ false
      same e (inl f) = ap (is_decided old) (sym f) ∙ e
      same e (inr k) = absurd k

  -- one text was to be decided
  pub one_decides : {A E : Type 0} (r : Result A E) → OnOk r (new.refused ≡ old.refused ++ gained before after) → OnOk r (new.built ≡ old.built ++ built_now old text (gained before after)) → OnErr r (new ≡ old)
      → Decides (text ∷ []) old new before after
  one_decides r refused built same = record { gains = asked_gains; some = λ t h. (asked_some t h).0; undecided = λ t h. (asked_some t h).1; grows = grown r refused built same }
    where
      grown : {A E : Type 0} (r : Result A E) → OnOk r (new.refused ≡ old.refused ++ gained before after) → OnOk r (new.built ≡ old.built ++ built_now old text (gained before after)) → OnErr r (new ≡ old) → Grows old new (gained before after)
      grown (Ok a) refused built same = record { first = gained before after; rest = []; parts = sym (append-nil (gained before after)); refused = refused; built = built_now old text (gained before after); more = built }
      grown (Err e) refused built same = record {
        first = [];
        rest = gained before after;
        parts = refl;
        refused = ap (λ (d : Decisions). d.refused) same ∙ sym (append-nil old.refused);
        built = [];
        more = ap (λ (d : Decisions). d.built) same ∙ sym (append-nil old.built);
      }

-- ---- one after the other

module _ (texts : List (List ℕ)) (old mid new : Decisions) (before between after : List (List ℕ)) (first : Decides texts old mid before between) (all : TakesAll old mid before between) where
  -- more texts were to be decided, when all before were
  pub goes_on : (some : List (List ℕ)) → Decides some mid new between after → ((text : List ℕ) → Among some text → Among texts text) → Decides texts old new before after
  goes_on some second within =
      let whole = gained_both before between after first.gains second.gains in
      let more = gained before between in
      record {
        gains = gains_by before after (more ++ gained between after) (both_gain before between after first.gains second.gains);
        some = λ text h.
            let P : List (List ℕ) → Type 0 = λ ts. Among ts text in
            elim (among_either more (gained between after) text (subst P whole h)) [ inl a ↦ first.some text a | inr b ↦ within text (second.some text b) ];
        undecided = λ text h.
            let P : List (List ℕ) → Type 0 = λ ts. Among ts text in
            elim (among_either more (gained between after) text (subst P whole h)) [ inl a ↦ first.undecided text a | inr b ↦ wasnt old mid more first.grows text (second.undecided text b) ];
        grows = record {
          first = more ++ second.grows.first;
          rest = second.grows.rest;
          parts = whole ∙ ap (λ (ts : List (List ℕ)). more ++ ts) second.grows.parts ∙ sym (append_assoc more second.grows.first second.grows.rest);
          refused = second.grows.refused ∙ ap (λ (ts : List (List ℕ)). ts ++ second.grows.first) all ∙ append_assoc old.refused more second.grows.first;
          built = first.grows.built ++ second.grows.built;
          more = second.grows.more ∙ ap (λ (ts : List (List ℕ)). ts ++ second.grows.built) first.grows.more ∙ append_assoc old.built first.grows.built second.grows.built;
        };
      }

  pub takes_on : Gains between after → TakesAll mid new between after → TakesAll old new before after
  takes_on gains takes =
      takes ∙ ap (λ (ts : List (List ℕ)). ts ++ gained between after) all ∙ append_assoc old.refused (gained before between) (gained between after)
      ∙ ap (λ (ts : List (List ℕ)). old.refused ++ ts) (sym (gained_both before between after first.gains gains))

-- more texts are decided
pub decided_on : (mid new : Decisions) (more xs ys : List (List ℕ)) → Grows mid new more → AreDecided mid xs → AreDecided new ys → AreDecided new (xs ++ ys)
decided_on mid new more xs ys grows old last text h = elim (among_either xs ys text h) [ inl a ↦ stays mid new more grows text (old text a) | inr b ↦ last text b ]

-- what was decided, and what it changed
pub record Far (texts asked : List (List ℕ)) (old new : Decisions) (before after : List (List ℕ)) : Type 0 where
  pub begun : Decides texts old new before after
  pub takes : TakesAll old new before after
  pub decided : AreDecided new asked

pub far_none : (texts : List (List ℕ)) (d : Decisions) (list : List (List ℕ)) → Far texts [] d d list list
far_none texts d list = record { begun = nothing texts d list; takes = nothing_taken d list; decided = λ text h. absurd h }

pub far_on : (texts asked some : List (List ℕ)) (old mid new : Decisions) (before between after : List (List ℕ)) → Far texts asked old mid before between
    → Decides some mid new between after → TakesAll mid new between after → AreDecided new some → ((text : List ℕ) → Among some text → Among texts text) → Far texts (asked ++ some) old new before after
far_on texts asked some old mid new before between after far second takes last within = record {
  begun = goes_on texts old mid new before between after far.begun far.takes some second within;
  takes = takes_on texts old mid new before between after far.begun far.takes second.gains takes;
  decided = decided_on mid new (gained between after) asked some second.grows far.decided last;
}

pub far_as : (texts asked more : List (List ℕ)) (old new : Decisions) (before after : List (List ℕ)) → asked ≡ more → Far texts asked old new before after → Far texts more old new before after
far_as texts asked more old new before after e far = let P : List (List ℕ) → Type 0 = λ ts. Far texts ts old new before after in subst P e far

-- ---- the texts of a list

-- one text of them
pub one_within : (texts : List (List ℕ)) (s t : List ℕ) → s ≡ t → Among texts t → (text : List ℕ) → Among (s ∷ []) text → Among texts text
one_within texts s t e h text (inl f) = let P : List ℕ → Type 0 = λ x. Among texts x in subst P (sym e ∙ f) h
one_within texts s t e h text (inr k) = absurd k

pub one_decided : (d : Decisions) (s : List ℕ) → is_decided d s ≡ true → AreDecided d (s ∷ [])
one_decided d s e text (inl f) = ap (is_decided d) (sym f) ∙ e
one_decided d s e text (inr k) = absurd k

-- one text more
pub text_on : (texts : List (List ℕ)) (i : ℕ) (s t : List ℕ) → i < length texts → t ≡ get_or texts i t → s ≡ t → take i texts ++ s ∷ [] ≡ take (i + 1) texts
text_on texts i s t lt is e = ap (λ (x : List ℕ). take i texts ++ x ∷ []) (e ∙ is) ∙ sym (take_more texts i t lt)
