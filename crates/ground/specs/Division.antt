-- What dividing answers, and what is promised of the answer on every ground. Assumes nothing.
--   divided m y x   the answer
--   Division        what an outcome's common divisor, quotient and step count are
--   Lawful m y x    the loop's outcome is such a one, for every residue y
--   Answers on      what a ground answers to y by x modulo any number
use Rattle.std.specs.Prelude.{◌≡◌, ℕ, ◌+◌, ◌*◌, ◌<◌, ◌≤◌, cond, [], ◌∷◌, ◌==◌, nat_lt}
use Rattle.answers.specs.Answers.{Answer, served, refused}
use Rattle.ground.specs.Bits.{bits}
use Rattle.ground.specs.Modulus.{IsModulus}
use Rattle.ground.specs.Operations.{Meaning, Greatest, Solves, UnitOf}
use Rattle.ground.specs.Loop.{start, after, Settles, ended, outcome}
use Rattle.ground.specs.declared.registers.Outcome.{Outcome}

-- A divisor that shares a factor with the modulus is refused with their greatest common divisor.
abbrev pub settled : Outcome → Answer
settled r = cond (r.divisor == 1) (served (r.quotient ∷ r.steps ∷ [])) (refused 3 (r.divisor ∷ r.steps ∷ []))

-- y is operand 1 and is looked at first.
abbrev pub divided : Meaning → ℕ → ℕ → Answer
divided m y x = cond (nat_lt y m.size) (cond (nat_lt x m.size) (settled (outcome m y x)) (refused 2 (2 ∷ []))) (refused 2 (1 ∷ []))

-- The outcome r of dividing y by x: a greatest common divisor, a quotient and a step count.
pub record Division (m : Meaning) (y x : ℕ) (r : Outcome) : Type 0 where
  pub greatest : Greatest m.operations x m.modulus r.divisor
  -- where the divisor is 1, the quotient is one, and the only one
  pub solves : r.divisor ≡ 1 → Solves m y x r.quotient
  pub only : r.divisor ≡ 1 → (q : ℕ) → Solves m y x q → q ≡ r.quotient
  -- x has an inverse exactly when the divisor is 1
  pub unit : r.divisor ≡ 1 → UnitOf m x
  pub one : UnitOf m x → r.divisor ≡ 1
  -- the count is the first at which A and B are equal, the outcome what the registers then hold
  pub settles : 0 < x → Settles m (start m y x) r.steps
  pub holds : 0 < x → r ≡ ended (after m r.steps (start m y x)) r.steps
  -- the count is at most bits x + bits M - 2 bits g, and 0 for x = 0
  pub bound : 0 < x → r.steps + 2 * bits r.divisor ≤ bits x + bits m.modulus
  pub none : x ≡ 0 → r.steps ≡ 0

abbrev pub Lawful : Meaning → ℕ → ℕ → Type 0
Lawful m y x = y < m.size → Division m y x (outcome m y x)

-- what a quotient modulo m answers on the ground `on`: 1 where m is no modulus, else what the division does
pub record Answers (on : ℕ → Meaning) (m y x : ℕ) (a : Answer) : Type 0 where
  pub divides : IsModulus m → a ≡ divided (on m) y x
  pub refuses : (IsModulus m → ⊥) → a ≡ refused 1 []
