use Rattle.std.proofs.Common.{inr, Err, subst}
use Rattle.node_tree.specs.declared.fault.LexFault.{LexFault}
use Rattle.c_lex.specs.Lexing.{Gives}
use Rattle.c_lex.specs.Comments.{AreCommentsOf}
use Rattle.languages.proofs.CommentLists.{c_lie, one_given, none_given}
use Rattle.languages.proofs.comments.c_comments.Goals as goal

pub returns-in-Ok-clause-lie : goal.returns-in-Ok-clause-lie
returns-in-Ok-clause-lie c = c_lie c.args.text.now 0 c.in-Ok.found c.in-Ok.ensures.placed

pub returns-in-Ok-clause-only : goal.returns-in-Ok-clause-only
returns-in-Ok-clause-only c l h = one_given AreCommentsOf c.args.text.now c.in-Ok.found l c.in-Ok.ensures.given c.in-Ok.ensures.only h

pub returns-in-Err-NoTokens-clause-given : goal.returns-in-Err-NoTokens-clause-given
returns-in-Err-NoTokens-clause-given c = inr (c.new.ensures, λ m k. subst (λ (e : LexFault). Gives m (Err e)) c.in-Err-NoTokens.field-0-is (c.in-Err-NoTokens.ensures.only m k))

pub returns-in-Err-NoTokens-clause-only : goal.returns-in-Err-NoTokens-clause-only
returns-in-Err-NoTokens-clause-only c l h = none_given AreCommentsOf c.args.text.now c.new.result l c.new.ensures (λ m k. subst (λ (e : LexFault). Gives m (Err e)) c.in-Err-NoTokens.field-0-is (c.in-Err-NoTokens.ensures.only m k)) h
