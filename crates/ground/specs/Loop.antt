-- The division loop, once for every ground; on numerals it computes. Assumes nothing.
--   start, step     the registers at first, and after one step: A begins as x and y, B as the modulus and 0
--   after n s       the registers after n steps from s
--   Settles s n     n steps, and no fewer, make the values of A and B equal
--   ended s n       what the loop ends with at s, n steps on
--   outcome m y x   what the loop ends with when it divides y by x
use Rattle.std.specs.Prelude.{◌≡◌, ℕ, zero, suc, ◌+◌, ◌<◌, Bool, cond, ◌==◌, ◌≢◌, nat_lt}
use Rattle.ground.specs.Bits.{bits}
use Rattle.ground.specs.Operations.{Meaning, halved, subtracted}
use Rattle.ground.specs.declared.registers.Outcome.{Outcome}
use Rattle.ground.specs.declared.registers.Register.{Register}
use Rattle.ground.specs.declared.registers.Registers.{Registers}

abbrev pub start : Meaning → ℕ → ℕ → Registers
start m y x = record { a = record { value = x; residue = y }; b = record { value = m.modulus; residue = 0 } }

-- A register after its value and its residue are halved.
abbrev pub halve : Meaning → Register → Register
halve m r = record { value = m.operations.half r.value; residue = halved m r.residue }

-- The register r with s taken from it.
abbrev pub lessen : Meaning → Register → Register → Register
lessen m r s = record { value = m.operations.difference r.value s.value; residue = subtracted m r.residue s.residue }

-- A is even: it is halved.
abbrev pub halve_a : Meaning → Registers → Registers
halve_a m s = record { a = halve m s.a; b = s.b }

-- B is even: it is halved.
abbrev pub halve_b : Meaning → Registers → Registers
halve_b m s = record { a = s.a; b = halve m s.b }

-- A is larger: B is taken from A, which is halved.
abbrev pub lessen_a : Meaning → Registers → Registers
lessen_a m s = record { a = halve m (lessen m s.a s.b); b = s.b }

-- Otherwise A is taken from B, which is halved.
abbrev pub lessen_b : Meaning → Registers → Registers
lessen_b m s = record { a = s.a; b = halve m (lessen m s.b s.a) }

-- The case by its tests: the first that applies.
abbrev pub chosen : Meaning → Registers → Bool → Bool → Bool → Registers
chosen m s a_even b_even a_larger = cond a_even (halve_a m s) (cond b_even (halve_b m s) (cond a_larger (lessen_a m s) (lessen_b m s)))

abbrev pub step : Meaning → Registers → Registers
step m s = chosen m s (m.operations.even s.a.value) (m.operations.even s.b.value) (nat_lt s.b.value s.a.value)

abbrev pub after : Meaning → ℕ → Registers → Registers
after m zero s = s
after m (suc n) s = after m n (step m s)

pub record Settles (m : Meaning) (s : Registers) (n : ℕ) : Type 0 where
  pub equal : (after m n s).a.value ≡ (after m n s).b.value
  pub before : (k : ℕ) → k < n → (after m k s).a.value ≢ (after m k s).b.value

-- what the loop ends with, n steps on: B's value is the common divisor and A's residue the quotient
abbrev pub ended : Registers → ℕ → Outcome
ended s n = record { divisor = s.b.value; quotient = s.a.residue; steps = n }

-- The loop that has come to s by n steps; it takes at most `most` more.
unfoldable pub runs : Meaning → ℕ → Registers → ℕ → Outcome
runs m zero s n = ended s n
runs m (suc most) s n = let rest = runs m most (step m s) (n + 1) in cond (s.a.value == s.b.value) (ended s n) rest

-- The divisor 0 ends the loop where it begins, with the modulus as the common divisor. No other run is longer than the bits
-- of x and of the modulus together.
abbrev pub outcome : Meaning → ℕ → ℕ → Outcome
outcome m y x = let ran = runs m (bits x + bits m.modulus) (start m y x) 0 in cond (x == 0) (ended (start m y x) 0) ran
