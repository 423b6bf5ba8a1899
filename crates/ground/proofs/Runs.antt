-- Where the division loop ends. Assumes nothing.
use Rattle.std.proofs.Common.{◌≡◌, ℕ, zero, suc, ◌+◌, ◌-◌, ◌<◌, ◌≤◌, Bool, true, false, cond, eqb, refl, ap, ◌∙◌, arith, eq-eqb, ne_eqb, eqb-true}
use Rattle.std.proofs.lemmas.Bool.{eqb-false}
use Rattle.ground.specs.Bits.{bits}
use Rattle.ground.specs.Operations.{Meaning}
use Rattle.ground.specs.Laws.{Laws}
use Rattle.ground.specs.Loop.{step, after, Settles, ended, runs}
use Rattle.ground.specs.declared.registers.Outcome.{Outcome}
use Rattle.ground.specs.declared.registers.Registers.{Registers}
use Rattle.ground.proofs.Bits.{bits_half}
use Rattle.ground.proofs.Kept.{Kept, step_kept}

pub runs_done : (m : Meaning) (most : ℕ) (s : Registers) (n : ℕ) → s.a.value ≡ s.b.value → runs m most s n ≡ ended s n
unfolding runs
runs_done m zero s n e = refl
runs_done m (suc most) s n e = rw (eq-eqb s.a.value s.b.value e)

-- one step, with the steps that are left counted from a total
pub runs_more : (m : Meaning) (total : ℕ) (s : Registers) (n : ℕ) → n < total → (s.a.value ≡ s.b.value → ⊥) → runs m (total - n) s n ≡ runs m (total - (n + 1)) (step m s) (n + 1)
unfolding runs
runs_more m total s n h apart =
    let most = total - (n + 1) in
    let e : total - n ≡ suc most = omega arith in
    ap (λ k. runs m k s n) e ∙ rw (ne_eqb s.a.value s.b.value apart)

-- registers that the loop stops at: the first after s with A equal to B
pub record Ended (m : Meaning) (y x : ℕ) (s : Registers) (n : ℕ) (r : Outcome) : Type 0 where
  pub more : ℕ
  pub settles : Settles m s more
  pub kept : Kept m y x (after m more s)
  pub bound : more + (bits (after m more s).a.value + bits (after m more s).b.value) ≤ bits s.a.value + bits s.b.value
  pub is : r ≡ ended (after m more s) (n + more)

module _ {m : Meaning} (L : Laws m) {y x : ℕ} where
  -- what ends after a step ends before it, one step later
  ended_before : {s : Registers} {n : ℕ} {r : Outcome} → (s.a.value ≡ s.b.value → ⊥) → bits (step m s).a.value + bits (step m s).b.value < bits s.a.value + bits s.b.value
      → Ended m y x (step m s) (n + 1) r → Ended m y x s n r
  ended_before {s} {n} apart less e = record {
    more = suc e.more;
    settles = record { equal = e.settles.equal; before = before };
    kept = e.kept;
    bound = omega (arith, e.bound);
    is = e.is ∙ ap (ended (after m e.more (step m s))) (omega arith);
  }
    where
      before : (k : ℕ) → k < suc e.more → (after m k s).a.value ≡ (after m k s).b.value → ⊥
      before zero h = apart
      before (suc k) h = e.settles.before k (omega arith)

  pub runs_ended : (most : ℕ) (s : Registers) (n : ℕ) → Kept m y x s → bits s.a.value + bits s.b.value ≤ most → Ended m y x s n (runs m most s n)
  unfolding runs
  runs_ended zero s n k h = absurd (omega (arith, bits_half s.a.value k.a.above))
  runs_ended (suc most) s n k h = by (λ k' h'. runs_ended most (step m s) (n + 1) k' h') (eqb s.a.value s.b.value) refl
    where
      by : (Kept m y x (step m s) → bits (step m s).a.value + bits (step m s).b.value ≤ most → Ended m y x (step m s) (n + 1) (runs m most (step m s) (n + 1)))
          → (t : Bool) → eqb s.a.value s.b.value ≡ t → Ended m y x s n (cond t (ended s n) (runs m most (step m s) (n + 1)))
      by rest true e = record {
        more = 0;
        settles = record { equal = eqb-true s.a.value s.b.value e; before = λ k l. absurd (omega arith) };
        kept = k;
        bound = omega arith;
        is = ap (ended s) (omega arith);
      }
      by rest false e =
          let apart = eqb-false s.a.value s.b.value e in
          let (k', less) = step_kept L s k apart in
          ended_before apart less (rest k' (omega arith))
