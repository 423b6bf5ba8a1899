-- What a line does to the tally: it is answered, unreadable or blank. Assumes nothing.
use Rattle.std.specs.Prelude.{◌≡◌, ℕ, List, [], Result}
use Rattle.answers.specs.declared.quotient.Quotient.{Quotient}
use Rattle.divide.specs.Answered.{Answered}
use Rattle.divide.specs.declared.answer.Unanswered.{Unanswered}
use Rattle.divide.specs.declared.question.Question.{Question}
use Rattle.divide.specs.declared.tally.Kind.TheVariants.{Unreadable, Blank}
use Rattle.divide.specs.declared.tally.Tally.{Tally}
use Rattle.divide.specs.Counts.{after_line, kind_of, counted}
use Rattle.divide.specs.Questions.{Words, NotWords, Asks, AsksNone}

pub data Counted (line : List ℕ) (t u : Tally) : Type 0 where
  answered : (q : Question) (a : Result Quotient Unanswered) → Asks line q → Answered q a → u ≡ counted (after_line t) (kind_of a) → Counted line t u
  unread : NotWords line 0 → AsksNone line → u ≡ counted (after_line t) Unreadable → Counted line t u
  empty : Words line [] → AsksNone line → u ≡ counted (after_line t) Blank → Counted line t u
