use Rattle.std.proofs.Common.{◌≡◌, ◌∙◌, ℕ, List, [], ◌∷◌, refl, sym, ap, subst}
use Rattle.std.specs.Prelude.{Option}
use Rattle.std.specs.List.{concat}
use Rattle.scan_world.specs.Streams.{AppendsFront}
use Rattle.stream_run.specs.declared.reply.Reply.{Reply}
use Rattle.stream_run.specs.declared.reply.Reply.TheVariants as replies
use Rattle.stream_run.specs.Printed.{lines_of}
use Rattle.stream_run.proofs.Streaming.{one_front}
use Rattle.stream_run.proofs.printing.print.Goals as goal

reply_front : (a b : Option (List ℕ)) (reply other : Reply) (x : List ℕ) → reply ≡ other → lines_of other ≡ x ∷ [] → AppendsFront a b x → AppendsFront a b (concat (lines_of reply))
reply_front a b reply other x e f h =
    subst (λ (r : Reply). AppendsFront a b (concat (lines_of r))) (sym e) (subst (λ (ls : List (List ℕ)). AppendsFront a b (concat ls)) (sym f) (one_front a b x x refl h))

pub returns-in_ok-line-in-Reported-clause-front : goal.returns-in_ok-line-in-Reported-clause-front
returns-in_ok-line-in-Reported-clause-front g c = λ e.
    reply_front _ _ c.args.reply.now (replies.Reported c.in-Reported.report) c.as_slice.result.now c.in-Reported.is (ap (λ (l : List ℕ). l ∷ []) (sym (c.as_slice.ensures ∙ c.in_ok-line-in-Reported.ensures)))
    (c.print_line-in-Reported.ensures.front e)

pub returns-in_ok-line-in-Fixed-clause-front : goal.returns-in_ok-line-in-Fixed-clause-front
returns-in_ok-line-in-Fixed-clause-front g c = λ e.
    reply_front _ _ c.args.reply.now (replies.Fixed c.in-Fixed.fixed) c.as_slice-in-Fixed.result.now c.in-Fixed.is (ap (λ (l : List ℕ). l ∷ []) (sym (c.as_slice-in-Fixed.ensures ∙ c.in_ok-line-in-Fixed.ensures)))
    (c.print_line-in-Fixed.ensures.front e)
