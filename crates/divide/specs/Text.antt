-- How a question, what is answered to it and the tally are written. Assumes nothing.
use Rattle.std.specs.Prelude.{ℕ, List, [], ◌∷◌, ◌++◌, codes, decimal, Option, Some, Ok, Err, Result, cond, ◌==◌}
use Rattle.std.specs.Fmt.{debug_str, ◌++?◌}
use Rattle.answers.specs.declared.quotient.Quotient.{Quotient}
use Rattle.answers.specs.Text.{spaced, served_text, refused_text}
use Rattle.divide.specs.declared.answer.Reply.{Reply}
use Rattle.divide.specs.declared.answer.Unanswered.{Unanswered}
use Rattle.divide.specs.declared.answer.Unanswered.TheVariants.{Refused, NoGround}
use Rattle.divide.specs.declared.question.Code.{Code}
use Rattle.divide.specs.declared.question.Code.TheVariants.{Whole, Binary}
use Rattle.divide.specs.declared.question.Fault.{Fault}
use Rattle.divide.specs.declared.question.Fault.TheVariants.{NotText, Blank, Words, NoGround as NoGroundNamed, NoNumber}
use Rattle.divide.specs.declared.question.Question.{Question}
use Rattle.divide.specs.declared.tally.Tally.{Tally}

abbrev pub code_text : Code → List ℕ
code_text Whole = codes "WN"
code_text Binary = codes "BP"

abbrev pub question_text : Question → List ℕ
question_text q = code_text q.code ++ spaced (q.modulus ∷ q.dividend ∷ q.divisor ∷ [])

abbrev pub unanswered_text : Unanswered → List ℕ
unanswered_text (Refused e) = refused_text e
unanswered_text NoGround = codes "no such ground yet"

abbrev pub answer_text : Result Quotient Unanswered → List ℕ
answer_text (Ok q) = served_text q
answer_text (Err u) = unanswered_text u

abbrev pub reply_text : Reply → List ℕ
reply_text r = question_text r.question ++ (codes " " ++ answer_text r.answer)

-- what stands after `line N`; of a word past ASCII it says nothing
abbrev pub fault_text : Fault → Option (List ℕ)
fault_text NotText = Some (codes ": not UTF-8 text")
fault_text Blank = Some (codes ": no word")
fault_text (Words n) = Some (cond (n == 1) (codes ": 1 word, 4 wanted: CODE M y x") (codes ": " ++ (decimal n ++ codes " words, 4 wanted: CODE M y x")))
fault_text (NoGroundNamed w) = Some (codes ", word 1: ") ++? debug_str w.now ++? Some (codes " is no ground (WN or BP)")
fault_text (NoNumber k w) = Some (codes ", word ") ++? Some (decimal k) ++? Some (codes ": ") ++? debug_str w.now ++? Some (codes " is no number below 4294967296")

abbrev pub tally_text : Tally → Option (List ℕ)
tally_text t =
    Some (decimal t.lines) ++? Some (codes " lines: ")
    ++? Some (decimal t.served) ++? Some (codes " served, ")
    ++? Some (decimal t.refused) ++? Some (codes " refused, ")
    ++? Some (decimal t.unreadable) ++? Some (codes " unreadable, ")
    ++? Some (decimal t.groundless) ++? Some (codes " with no ground yet, ")
    ++? Some (decimal t.blank) ++? Some (codes " blank; ")
    ++? Some (decimal t.steps) ++? Some (codes " steps in all")
