use Rattle.std.proofs.Common.{◌≡◌, ◌+◌, ◌++◌, ◌∷◌, [], ℕ, List, true, sym, ap, ◌∙◌, subst, take, drop}
use Rattle.std.proofs.lemmas.List.{take_more}
use Rattle.node_match.proofs.Sets.{among_at}
use Rattle.decided_texts.specs.Decided.{is_refused, is_decided}
use Rattle.decided_texts.proofs.Reading.{is_built, is_unbuilt_text, none_of, any_found, any_past, here_is}
use Rattle.decided_texts.proofs.decided_texts.DecidedTexts.expressions.Goals as goal

pub returns-in_default : goal.returns-in_default
returns-in_default c = λ decided.
    let i = c.loop-text.text-index in
    let ts = c.args.texts.now in
    let t = c.text-item.result in
    let s = c.as_str.result.now in
    let refused = c.args.self.now.refused in
    let P : List ℕ → Type 0 = λ x. is_decided c.args.self.now x ≡ true in
    let here = subst P (sym c.as_str.ensures) (decided t (among_at ts i t c.loop-text-test.true c.text-item.is)) in
    let is = is_unbuilt_text refused s c.expression.result c.in_default.not-Some (c.expression.ensures.came here) in
    none_of ts _ (any_found (is_refused refused) ts (drop i ts) t (drop (i + 1) ts) (c.loop-text.invariant decided).0 (here_is ts i t c.loop-text-test.true c.text-item.is) (ap (is_refused refused) (sym c.as_str.ensures) ∙ is))

pub loop-text-preserved : goal.loop-text-preserved
loop-text-preserved c = λ decided.
    let i = c.loop-text.text-index in
    let ts = c.args.texts.now in
    let t = c.text-item.result in
    let s = c.as_str.result.now in
    let refused = c.args.self.now.refused in
    let P : List ℕ → Type 0 = λ x. is_decided c.args.self.now x ≡ true in
    let here = subst P (sym c.as_str.ensures) (decided t (among_at ts i t c.loop-text-test.true c.text-item.is)) in
    let is = is_built refused s c.in_ok-share.field-0 c.expression.result c.in-Some.rx c.in-Some.is (sym c.in_ok-share.ensures) (c.expression.ensures.came here) in
    let far = c.loop-text.invariant decided in (
      any_past (is_refused refused) ts (drop i ts) t (drop (i + 1) ts) far.0 (here_is ts i t c.loop-text-test.true c.text-item.is) (ap (is_refused refused) (sym c.as_str.ensures) ∙ is.0),
      c.in_ok-push.ensures.ok ∙ ap (λ (l : List (List ℕ)). l ++ c.in_ok-share.field-0 ∷ []) far.1
          ∙ ap (λ (x : List ℕ). take i ts ++ x ∷ []) (is.1 ∙ c.as_str.ensures ∙ c.text-item.is) ∙ sym (take_more ts i t c.loop-text-test.true),
    )
