-- The division loop while it runs: the registers after n steps, and what is left to run. Assumes nothing.
use Rattle.std.proofs.Common.{◌≡◌, ℕ, ◌+◌, ◌-◌, ◌<◌, ◌≤◌, sym, ap, ◌∙◌, arith, ne_eqb}
use Rattle.ground.specs.Bits.{bits}
use Rattle.ground.specs.Operations.{Meaning}
use Rattle.ground.specs.Laws.{Laws}
use Rattle.ground.specs.Loop.{start, step, ended, runs, outcome}
use Rattle.ground.specs.declared.registers.Registers.{Registers}
use Rattle.ground.proofs.Bits.{bits_half}
use Rattle.ground.proofs.Kept.{Kept, kept_start, step_kept}
use Rattle.ground.proofs.Runs.{runs_done, runs_more}

pub record Running (m : Meaning) (y x : ℕ) (s : Registers) (n : ℕ) : Type 0 where
  pub kept : Kept m y x s
  pub room : bits s.a.value + bits s.b.value + n ≤ bits x + bits m.modulus
  pub rest : runs m (bits x + bits m.modulus - n) s n ≡ outcome m y x
  pub done : s.a.value ≡ s.b.value → ended s n ≡ outcome m y x

-- what is left to run settles what comes of registers with A equal to B
running : {m : Meaning} {y x : ℕ} {s : Registers} {n : ℕ} → Kept m y x s → bits s.a.value + bits s.b.value + n ≤ bits x + bits m.modulus
    → runs m (bits x + bits m.modulus - n) s n ≡ outcome m y x → Running m y x s n
running {m} {y} {x} {s} {n} k room rest = record {
  kept = k;
  room = room;
  rest = rest;
  done = λ e. sym (runs_done m (bits x + bits m.modulus - n) s n e) ∙ rest;
}

module _ {m : Meaning} (L : Laws m) {y x : ℕ} where
  pub running_start : (x ≡ 0 → ⊥) → y < m.size → Running m y x (start m y x) 0
  running_start h hy =
      running (kept_start L (omega arith) hy) (omega arith) (rw (ne_eqb x 0 h) (ap (λ most. runs m most (start m y x) 0) (omega arith)))

  pub running_more : {s : Registers} {n : ℕ} → Running m y x s n → (s.a.value ≡ s.b.value → ⊥) → Running m y x (step m s) (n + 1)
  running_more {s} {n} r apart =
      let (k, less) = step_kept L s r.kept apart in
      let room : n < bits x + bits m.modulus = omega (arith, r.room, bits_half s.a.value r.kept.a.above) in
      running k (omega (arith, r.room)) (sym (runs_more m (bits x + bits m.modulus) s n room apart) ∙ r.rest)
