-- What is answered to a question. Assumes nothing.
use Rattle.std.specs.Prelude.{◌≡◌, Ok, Err, Result}
use Rattle.answers.specs.Answers.{told}
use Rattle.answers.specs.declared.quotient.Quotient.{Quotient}
use Rattle.ground.specs.Division.{Answers}
use Rattle.whole.specs.Whole.{whole}
use Rattle.divide.specs.declared.answer.Unanswered.{Unanswered}
use Rattle.divide.specs.declared.answer.Unanswered.TheVariants.{Refused, NoGround}
use Rattle.divide.specs.declared.question.Code.TheVariants.{Whole, Binary}
use Rattle.divide.specs.declared.question.Question.{Question}

-- Whole numbers answer as their division does; binary polynomials are not divided here yet.
abbrev pub Answered : Question → Result Quotient Unanswered → Type 0
Answered q (Ok s) = (q.code ≡ Whole) × Answers whole q.modulus q.dividend q.divisor (told (Ok s))
Answered q (Err (Refused e)) = (q.code ≡ Whole) × Answers whole q.modulus q.dividend q.divisor (told (Err e))
Answered q (Err NoGround) = q.code ≡ Binary
