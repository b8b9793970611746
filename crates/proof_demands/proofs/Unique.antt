-- Two answers meeting one promise are equal: each is what the promise names. Assumes nothing.
use mathlib.Core.Path.{refl, sym, ◌∙◌}
use Rattle.base_bytes.specs.Put.{put}
use Rattle.card_record.specs.Answers.{as_answer}
use Rattle.proof_demands.specs.Unique as statement

pub one_answer : statement.OneAnswer
one_answer o old r s new newer p q = (p.answer ∙ sym q.answer, p.content ∙ sym q.content)

pub one-outcome : statement.OneOutcome
one-outcome o r s e f = e ∙ sym f

pub unique : statement.Unique
unique = record { one_answer = one_answer; one-outcome = one-outcome }

pub promise-met : statement.PromiseMet
promise-met o old = (as_answer o, (put old 0 o.response, record { answer = refl; content = refl }))
