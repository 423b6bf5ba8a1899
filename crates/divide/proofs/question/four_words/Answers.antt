-- Each call of `next` gives the first word and what is left. The answers differ in the calls that their goals name.
use Rattle.divide.proofs.Words.{not_words_end, not_words_more, not_words_some}
use Rattle.divide.proofs.question.four_words.Goals as goal

pub returns-in_err-next : goal.returns-in_err-next
returns-in_err-next c =
    rw (c.from_residual.ensures, ← c.split_whitespace-words.ensures.rest) (not_words_end c.in_err-next.ensures.steps.1)

pub returns-in_err-next-2 : goal.returns-in_err-next-2
returns-in_err-next-2 c =
    rw (c.from_residual-in_err-next-2.ensures, ← c.split_whitespace-words.ensures.rest)
    (not_words_more c.in_ok-next.ensures.steps (not_words_end c.in_err-next-2.ensures.steps.1))

pub returns-in_err-next-3 : goal.returns-in_err-next-3
returns-in_err-next-3 c =
    rw (c.from_residual-in_err-next-3.ensures, ← c.split_whitespace-words.ensures.rest)
    (not_words_more c.in_ok-next.ensures.steps
    (not_words_more c.in_ok-next-2.ensures.steps (not_words_end c.in_err-next-3.ensures.steps.1)))

pub returns-in_err-next-4 : goal.returns-in_err-next-4
returns-in_err-next-4 c =
    rw (c.from_residual-in_err-next-4.ensures, ← c.split_whitespace-words.ensures.rest)
    (not_words_more c.in_ok-next.ensures.steps
    (not_words_more c.in_ok-next-2.ensures.steps
    (not_words_more c.in_ok-next-3.ensures.steps (not_words_end c.in_err-next-4.ensures.steps.1))))

pub returns-in-Some : goal.returns-in-Some
returns-in-Some c = rw (← c.split_whitespace-words.ensures.rest)
    (not_words_more c.in_ok-next.ensures.steps
    (not_words_more c.in_ok-next-2.ensures.steps
    (not_words_more c.in_ok-next-3.ensures.steps
    (not_words_more c.in_ok-next-4.ensures.steps (not_words_some c.in-Some.ensures.steps)))))
