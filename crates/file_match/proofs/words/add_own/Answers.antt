use Rattle.std.proofs.Common.{sym, ◌∙◌, true, false, ◌≡◌}
use Rattle.file_match.proofs.Gathered.{own_place, own_needs}
use Rattle.file_match.proofs.words.add_own.Goals as goal

pub returns : goal.returns
returns c =
    own_place c.args.fixed c.args.pattern.now _ _ _ c.in_ok-push.ensures.ok c.place_of.ensures.place
    (own_needs c.args.fixed c.args.pattern.now (λ free. let yes = c.is_text_free.ensures.1 free in let e : false ≡ true = sym c.if-is_text_free.false ∙ yes in cc) (sym c.may_stand.ensures ∙ c.if-may_stand.false))
