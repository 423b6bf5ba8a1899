-- How an answer is written. Assumes nothing.
--   spaced         a space before each number
--   served_text    a quotient: `served`, its value and its steps
--   refused_text   a refusal: `refused`, its number and its values
use Rattle.std.specs.Prelude.{ℕ, List, [], ◌∷◌, ◌++◌, codes, decimal}
use Rattle.answers.specs.declared.quotient.Quotient.{Quotient}
use Rattle.answers.specs.declared.refusal.Refusal.{Refusal}
use Rattle.answers.specs.Answers.{number, values}

abbrev pub spaced : List ℕ → List ℕ
spaced [] = []
spaced (n ∷ ns) = codes " " ++ (decimal n ++ spaced ns)

abbrev pub served_text : Quotient → List ℕ
served_text q = codes "served" ++ spaced (q.value ∷ q.steps ∷ [])

abbrev pub refused_text : Refusal → List ℕ
refused_text e = codes "refused" ++ spaced (number e ∷ values e)
