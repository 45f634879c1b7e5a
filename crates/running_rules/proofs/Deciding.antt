-- The texts of rules, which are decided one rule after the other.
use Rattle.std.proofs.Common.{◌≡◌, ℕ, ◌+◌, ◌<◌, List, [], ◌∷◌, ◌++◌, length, map, take, get_or, sym, ap, ◌∙◌, subst, append-nil}
use Rattle.std.proofs.lemmas.List.{take_more, map-append}
use Rattle.std.proofs.lemmas.List.Concat.{flat_map-append}
use Rattle.node_match.specs.Sets.{Among}
use Rattle.decided_texts.specs.Decided.{Decisions, AreDecided}
use Rattle.running_rules.specs.Running.{Stated, texts_of}
use Rattle.running_rules.specs.declared.running.Entry.{Entry}
use Rattle.running_rules.specs.Taking.{said}
use Rattle.running_rules.proofs.Members.{among_left, among_right, among_map, flat_among}

-- the texts of one rule more
pub rules_on : (entries : List Entry) (i : ℕ) (e : Entry) (texts : List (List ℕ)) → i < length entries → e ≡ get_or entries i e → texts ≡ e.rule.now.texts
    → texts_of (map said (take i entries)) ++ texts ≡ texts_of (map said (take (i + 1) entries))
rules_on entries i e texts lt is same =
    let f : Stated → List (List ℕ) = λ s. s.rule.texts in
    let old = map said (take i entries) in
    ap (λ (ts : List (List ℕ)). texts_of old ++ ts) (same ∙ sym (append-nil e.rule.now.texts)) ∙ sym (flat_map-append f old (said e ∷ []))
    ∙ ap texts_of (sym (map-append said (take i entries) (e ∷ []))) ∙ ap (λ (es : List Entry). texts_of (map said es)) (ap (λ (x : Entry). take i entries ++ x ∷ []) is ∙ sym (take_more entries i e lt))

-- the texts of a rule are some of those of all
pub rule_within : (entries : List Entry) (e : Entry) (texts : List (List ℕ)) → texts ≡ e.rule.now.texts → Among entries e → (text : List ℕ) → Among texts text → Among (texts_of (map said entries)) text
rule_within entries e texts same h text k =
    let P : List (List ℕ) → Type 0 = λ ts. Among ts text in
    flat_among (λ (s : Stated). s.rule.texts) (map said entries) (said e) text (among_map said entries e h) (subst P same k)

pub decided_first : (d : Decisions) (left : List Stated) (s : Stated) (ss : List Stated) → left ≡ s ∷ ss → AreDecided d (texts_of left) → AreDecided d s.rule.texts
decided_first d left s ss e all text h =
    let P : List Stated → Type 0 = λ l. Among (texts_of l) text in
    all text (subst P (sym e) (among_left s.rule.texts (texts_of ss) text h))

pub decided_rest : (d : Decisions) (left : List Stated) (s : Stated) (ss : List Stated) → left ≡ s ∷ ss → AreDecided d (texts_of left) → AreDecided d (texts_of ss)
decided_rest d left s ss e all text h =
    let P : List Stated → Type 0 = λ l. Among (texts_of l) text in
    all text (subst P (sym e) (among_right s.rule.texts (texts_of ss) text h))
