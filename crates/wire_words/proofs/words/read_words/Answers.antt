use Rattle.std.proofs.Common.{◌≡◌, List, String, Global, map, string_bytes, subst}
use Rattle.wire_words.specs.Commands.{Request, Scanning, Fixing, Serving, Drilling, IsCommand, task_of}
use Rattle.wire_words.proofs.Agree.{agree}
use Rattle.wire_words.proofs.words.read_words.Goals as goal

-- what the words of a slice ask for is all that those of the list do
only : (given words : List (String Global)) (r : Request) → given ≡ words → IsCommand (map string_bytes given) r → (s : Request) → IsCommand (map string_bytes words) s → r ≡ s
only given words r e is s asked = agree (map string_bytes words) r s (subst (λ (l : List (String Global)). IsCommand (map string_bytes l) r) e is) asked

pub returns-in-Some-job-clause-only : goal.returns-in-Some-job-clause-only
returns-in-Some-job-clause-only c = only c.deref-3.result.now c.args.words.now.items (Scanning (task_of c.in-Some-job.job)) c.deref-3.ensures.value c.in-Some-job.ensures.asked

pub returns-in-Some-job-2-clause-only : goal.returns-in-Some-job-2-clause-only
returns-in-Some-job-2-clause-only c = only c.deref-4.result.now c.args.words.now.items (Fixing (task_of c.in-Some-job-2.job)) c.deref-4.ensures.value c.in-Some-job-2.ensures.asked

pub returns-in-Some-session-clause-only : goal.returns-in-Some-session-clause-only
returns-in-Some-session-clause-only c = only c.deref-5.result.now c.args.words.now.items (Serving c.in-Some-session.most c.in-Some-session.trace) c.deref-5.ensures.value c.in-Some-session.ensures.asked

pub returns-clause-only : goal.returns-clause-only
returns-clause-only c = only c.deref-6.result.now c.args.words.now.items (Drilling c.in_ok-count.count) c.deref-6.ensures.value c.in_ok-count.ensures.asked
