-- What a call of the arithmetic layer answers, in numbers. Assumes nothing.
--   Answer            service with its values, or a refusal by its number with its values
--   number, values    a refusal's row in the list of refusals
--   told              what a division answered
--   Refused           that a call was refused by this number with these values
use Rattle.std.specs.Prelude.{◌≡◌, ℕ, List, [], ◌∷◌, Ok, Err, Result}
use Rattle.answers.specs.declared.quotient.Quotient.{Quotient}
use Rattle.answers.specs.declared.refusal.Operand.{Operand as Which}
use Rattle.answers.specs.declared.refusal.Operand.TheVariants.{First, Second}
use Rattle.answers.specs.declared.refusal.Refusal.{Refusal}
use Rattle.answers.specs.declared.refusal.Refusal.TheVariants.{Modulus, Operand, NotUnit}

pub data Answer : Type 0 where
  served : List ℕ → Answer
  refused : ℕ → List ℕ → Answer

-- the first operand is operand 1, the second operand 2
abbrev pub ordinal : Which → ℕ
ordinal First = 1
ordinal Second = 2

abbrev pub number : Refusal → ℕ
number Modulus = 1
number (Operand which) = 2
number (NotUnit witness steps) = 3

abbrev pub values : Refusal → List ℕ
values Modulus = []
values (Operand which) = ordinal which ∷ []
values (NotUnit witness steps) = witness ∷ steps ∷ []

abbrev pub told : Result Quotient Refusal → Answer
told (Ok q) = served (q.value ∷ q.steps ∷ [])
told (Err e) = refused (number e) (values e)

pub record Refused (e : Refusal) (n : ℕ) (vs : List ℕ) : Type 0 where
  pub numbered : number e ≡ n
  pub valued : values e ≡ vs
