-- No two rules that run have one id.
use Rattle.std.proofs.Common.{◌≡◌, inl, inr, ℕ, zero, suc, Bool, true, false, List, [], ◌∷◌, refl, sym, ap, ◌∙◌, subst}
use Rattle.std.specs.Prelude.{if◌then◌else◌, ◌||◌}
use Rattle.std.specs.Str.{bytes_eq}
use Rattle.std.proofs.lemmas.Slice.Eq.{bytes_eq-Decides}
use Rattle.rule_form.specs.declared.rule.Rule.{Rule}
use Rattle.node_match.specs.Sets.{Among}
use Rattle.running_rules.specs.Running.{Stated, is_taken, has_refused, built, firsts, AreApart}
use Rattle.running_rules.specs.Taking.{firsts_after}
use Rattle.running_rules.proofs.Members.{get_among}
use Rattle.running_rules.proofs.Repeats.{firsts_are}

neither : (a b : Bool) → a || b ≡ false → (a ≡ false) × (b ≡ false)
neither true b e = absurd cc
neither false b e = (refl, e)

-- the rules have other ids than each that follows
abbrev Differ : List Rule → Type 0
Differ [] = Unit {0}
Differ (r ∷ rs) = ((s : Rule) → Among rs s → r.id ≡ s.id → ⊥) × Differ rs

module _ (refused ids : List (List ℕ)) (s : Stated) (ss : List Stated) where
  abbrev Old : List Rule
  Old = built refused (firsts_after ids ss)

  abbrev New : List Rule
  New = built refused (firsts_after (s.rule.id ∷ ids) ss)

  fresh_step : ((r : Rule) → Among Old r → is_taken ids r.id ≡ false) → ((r : Rule) → Among New r → is_taken (s.rule.id ∷ ids) r.id ≡ false) → (r : Rule) → Among (built refused (firsts_after ids (s ∷ ss))) r → is_taken ids r.id ≡ false
  fresh_step old new r = at (is_taken ids s.rule.id) refl
    where
      later : Among New r → is_taken ids r.id ≡ false
      later k = (neither (bytes_eq s.rule.id r.id) (is_taken ids r.id) (new r k)).1

      two : (u : Bool) → is_taken ids s.rule.id ≡ false → Among (if u then New else s.rule ∷ New) r → is_taken ids r.id ≡ false
      two true e k = later k
      two false e (inl same) = let P : Rule → Type 0 = λ q. is_taken ids q.id ≡ false in subst P same e
      two false e (inr k) = later k

      at : (b : Bool) → is_taken ids s.rule.id ≡ b → Among (built refused (if b then firsts_after ids ss else s ∷ firsts_after (s.rule.id ∷ ids) ss)) r → is_taken ids r.id ≡ false
      at true e k = old r k
      at false e k = two (has_refused refused s.rule) e k

  differ_step : Differ Old → Differ New → ((r : Rule) → Among New r → is_taken (s.rule.id ∷ ids) r.id ≡ false) → Differ (built refused (firsts_after ids (s ∷ ss)))
  differ_step old new fresh = at (is_taken ids s.rule.id)
    where
      other : (t : Rule) → Among New t → s.rule.id ≡ t.id → ⊥
      other t k same = let e = (neither (bytes_eq s.rule.id t.id) (is_taken ids t.id) (fresh t k)).0 in let f = sym ((bytes_eq-Decides s.rule.id t.id).1 same) ∙ e in absurd cc

      two : (u : Bool) → Differ (if u then New else s.rule ∷ New)
      two true = new
      two false = (other, new)

      at : (b : Bool) → Differ (built refused (if b then firsts_after ids ss else s ∷ firsts_after (s.rule.id ∷ ids) ss))
      at true = old
      at false = two (has_refused refused s.rule)

fresh : (refused ids : List (List ℕ)) (ss : List Stated) (r : Rule) → Among (built refused (firsts_after ids ss)) r → is_taken ids r.id ≡ false
fresh refused ids [] r h = absurd h
fresh refused ids (s ∷ ss) r h = fresh_step refused ids s ss (λ q k. fresh refused ids ss q k) (λ q k. fresh refused (s.rule.id ∷ ids) ss q k) r h

differ : (refused ids : List (List ℕ)) (ss : List Stated) → Differ (built refused (firsts_after ids ss))
differ refused ids [] = tt
differ refused ids (s ∷ ss) = differ_step refused ids s ss (differ refused ids ss) (differ refused (s.rule.id ∷ ids) ss) (fresh refused (s.rule.id ∷ ids) ss)

apart : (rs : List Rule) → Differ rs → AreApart rs
apart [] d i j r s a b e = absurd cc
apart (q ∷ qs) d zero zero r s a b e = refl
apart (q ∷ qs) d zero (suc j) r s a b e = let same : q ≡ r = cc in absurd (d.0 s (get_among qs j s b) (ap (λ (x : Rule). x.id) same ∙ e))
apart (q ∷ qs) d (suc i) zero r s a b e = let same : q ≡ s = cc in absurd (d.0 r (get_among qs i r a) (ap (λ (x : Rule). x.id) same ∙ sym e))
apart (q ∷ qs) d (suc i) (suc j) r s a b e = ap suc (apart qs d.1 i j r s a b e)

pub are_apart : (refused : List (List ℕ)) (ss : List Stated) → AreApart (built refused (firsts ss))
are_apart refused ss = subst (λ (l : List Stated). AreApart (built refused l)) (sym (firsts_are ss)) (apart (built refused (firsts_after [] ss)) (differ refused [] ss))
