-- The whole numbers 0, 1, 2, .. as a ground: their own sum and product, halved by 2. Assumes nothing.
--   whole_operations    what is computed
--   whole m             the whole numbers with the modulus m, whose residues are the numbers below it
--   remainder m a       what is left of a when m is taken from it as often as can be
use Rattle.std.specs.Prelude.{ℕ, ◌+◌, ◌-◌, ◌*◌, ◌/◌, ◌%◌, ◌==◌, nat_le}
use Rattle.ground.specs.Operations.{Operations, Meaning}

abbrev pub whole_operations : Operations
whole_operations = record {
  sum = λ a b. a + b;
  product = λ a b. a * b;
  subtractable = λ a b. nat_le b a;
  difference = λ a b. a - b;
  base = 2;
  even = λ a. (a % 2 == 0);
  half = λ a. a / 2;
}

abbrev pub whole : ℕ → Meaning
whole m = record { operations = whole_operations; modulus = m; size = m }

abbrev pub remainder : ℕ → ℕ → ℕ
remainder m a = a % m
