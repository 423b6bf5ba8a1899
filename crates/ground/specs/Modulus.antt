-- Which numbers are moduli, on every ground. Assumes nothing.
--   IsModulus m     m is a modulus
--   Made is m r     what making something of the modulus m answers: a thing that `is` as wanted, or refusal 1 where m is no
--                   modulus
use Rattle.std.specs.Prelude.{◌≡◌, ℕ, ◌%◌, ◌≤◌, [], Result, MatchResult}
use Rattle.answers.specs.Answers.{Refused}
use Rattle.answers.specs.declared.refusal.Refusal.{Refusal}

pub record IsModulus (m : ℕ) : Type 0 where
  pub odd : m % 2 ≡ 1
  pub least : 3 ≤ m
  pub most : m ≤ 2147483647

abbrev pub Made : {T : Type 0} → (T → Type 0) → ℕ → Result T Refusal → Type 0
Made is m r = MatchResult r (λ t. IsModulus m × is t) (λ e. (IsModulus m → ⊥) × Refused e 1 [])
