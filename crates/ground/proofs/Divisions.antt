-- The promises of a division, from where its loop ends. Assumes nothing.
use Rattle.std.proofs.Common.{◌≡◌, ℕ, ◌+◌, ◌<◌, Bool, true, false, cond, eqb, sym, refl, ap, ◌∙◌, subst, ap₂, le_refl, arith, eqb-true}
use Rattle.std.proofs.lemmas.Bool.{eqb-false}
use Rattle.ground.specs.Bits.{bits}
use Rattle.ground.specs.Operations.{Meaning, Divides, Greatest, Congruent, Solves, UnitOf}
use Rattle.ground.specs.Laws.{Laws}
use Rattle.ground.specs.Loop.{start, after, ended, runs, outcome}
use Rattle.ground.specs.Division.{Division}
use Rattle.ground.specs.declared.registers.Outcome.{Outcome}
use Rattle.ground.specs.declared.registers.Registers.{Registers}
use Rattle.ground.proofs.Rings as rings
use Rattle.ground.proofs.Congruences as congruences
use Rattle.ground.proofs.Kept.{Kept, kept_start}
use Rattle.ground.proofs.Runs.{Ended, runs_ended}

module _ {m : Meaning} (L : Laws m) where
  infixl 65 ◌⊕◌
  infixl 70 ◌⊗◌
  open m.operations use {sum as ◌⊕◌, product as ◌⊗◌}
  open L use {ring as R, residues as Q}

  -- a common divisor of a unit and the modulus divides 1
  unit_divisor : {d x : ℕ} → Divides m.operations d x → Divides m.operations d m.modulus → UnitOf m x → d ≡ 1
  unit_divisor {d} {x} (i, p) (j, q) (z, s) =
      let (k, e) = rings.divides_part R d (z ⊗ i ⊕ (s.quotient.left ⊗ j)) (s.quotient.right ⊗ j) 1
      (spread i s.quotient.left j ∙ ap₂ (λ a b. z ⊗ a ⊕ s.quotient.left ⊗ b) p q ∙ s.quotient.same ∙ ap (λ a. 1 ⊕ a) (ap (λ b. s.quotient.right ⊗ b) (sym q) ∙ outward s.quotient.right j)) in
      R.only_one d k e
    where
      spread : (i l j : ℕ) → d ⊗ (z ⊗ i ⊕ (l ⊗ j)) ≡ z ⊗ (d ⊗ i) ⊕ l ⊗ (d ⊗ j)
      spread i l j = simp (rings.ring, R)

      outward : (r j : ℕ) → r ⊗ (d ⊗ j) ≡ d ⊗ (r ⊗ j)
      outward r j = simp (rings.ring, R)

  modulus_not_one : m.modulus ≡ 1 → ⊥
  modulus_not_one e =
      let same : ◌≡◌ {A = ℕ} 0 1 = Q.apart 0 1 (omega (arith, Q.one_residue)) Q.one_residue (record { left = 1; right = 0; same = ap (λ a. 0 ⊕ (1 ⊗ a)) e ∙ simp (rings.ring, R) }) in
      omega arith

  -- no two residues are quotients by a unit
  solves_once : {y x q r : ℕ} → UnitOf m x → Solves m y x q → Solves m y x r → q ≡ r
  solves_once {y} {x} {q} {r} (z, s) p t =
      Q.apart q r p.residue t.residue (congruences.join R (congruences.flip R (by p)) (by t))
    where
      regroup : (q : ℕ) → q ⊗ x ⊗ z ≡ z ⊗ x ⊗ q
      regroup q = simp (rings.ring, R)

      -- y z is congruent to every quotient
      by : {q : ℕ} → Solves m y x q → Congruent m.operations m.modulus (y ⊗ z) q
      by {q} p =
          congruences.join R (congruences.by_product R z (congruences.flip R p.quotient))
          (congruences.join R (congruences.same R (regroup q)) (congruences.join R (congruences.by_product R q s.quotient) (congruences.same R (rings.one_product R q))))

  -- the divisor 0: the modulus divides it
  division_zero : (y : ℕ) → Division m y 0 (ended (start m y 0) 0)
  division_zero y = record {
    greatest = record { first = (0, rings.product_zero R m.modulus); second = (1, R.product_one m.modulus); greatest = λ d p q. q };
    solves = λ e. absurd (modulus_not_one e);
    only = λ e. absurd (modulus_not_one e);
    unit = λ e. absurd (modulus_not_one e);
    one = unit_divisor (0, rings.product_zero R m.modulus) (1, R.product_one m.modulus);
    settles = λ h. absurd (omega arith);
    holds = λ h. absurd (omega arith);
    bound = λ h. absurd (omega arith);
    none = λ e. refl;
  }

  -- where A equals B, both are the greatest common divisor
  kept_greatest : {y x : ℕ} {s : Registers} → Kept m y x s → s.a.value ≡ s.b.value → Greatest m.operations x m.modulus s.b.value
  kept_greatest {s = s} k e =
      let g = s.b.value in
      let (p, q) = k.up g (1, R.product_one g ∙ sym e) (1, R.product_one g) in
      record { first = p; second = q; greatest = λ d i j. (k.down d i j).1 }

  -- where both are 1, A's residue is a quotient
  kept_solves : {y x : ℕ} {s : Registers} → Kept m y x s → s.a.value ≡ s.b.value → s.b.value ≡ 1 → Solves m y x s.a.residue
  kept_solves {y = y} {s = s} k e one = record {
    residue = k.a.residue;
    quotient = congruences.join R k.a.is (congruences.same R (ap (λ a. a ⊗ y) (e ∙ one) ∙ rings.one_product R y));
  }

  ends : (y x : ℕ) → 0 < x → y < m.size → Ended m y x (start m y x) 0 (runs m (bits x + bits m.modulus) (start m y x) 0)
  ends y x hx hy = runs_ended L (bits x + bits m.modulus) (start m y x) 0 (kept_start L hx hy) (le_refl (bits x + bits m.modulus))

  -- the division of 1 finds the inverse
  coprime_unit : {x g : ℕ} → 0 < x → Greatest m.operations x m.modulus g → g ≡ 1 → UnitOf m x
  coprime_unit {x} hx c one =
      let e = ends 1 x hx Q.one_residue in
      let t = after m e.more (start m 1 x) in
      let b = kept_greatest e.kept e.settles.equal in
      let (i, f) = c.greatest t.b.value b.first b.second in
      (t.a.residue, kept_solves e.kept e.settles.equal (R.only_one t.b.value i (f ∙ one)))

  division_above : {y x : ℕ} {r : Outcome} → 0 < x → Ended m y x (start m y x) 0 r → Division m y x r
  division_above {y} {x} hx e =
      let n = e.more in
      let t = after m n (start m y x) in
      let c = kept_greatest e.kept e.settles.equal in
      let units = coprime_unit hx c in
      let steps : 0 + n ≡ n = omega arith in
      let d : Division m y x (ended t (0 + n)) = record {
        greatest = c;
        solves = kept_solves e.kept e.settles.equal;
        only = λ one q p. solves_once (units one) p (kept_solves e.kept e.settles.equal one);
        unit = units;
        one = unit_divisor c.first c.second;
        settles = λ h. rw steps e.settles;
        holds = λ h. rw steps;
        bound = λ h. omega (arith, e.bound, ap bits e.settles.equal);
        none = λ z. absurd (omega arith);
      } in
      subst (Division m y x) (sym e.is) d

  pub division : (y x : ℕ) → y < m.size → Division m y x (outcome m y x)
  division y x hy = by (eqb x 0) refl
    where
      by : (t : Bool) → eqb x 0 ≡ t → Division m y x (cond t (ended (start m y x) 0) (runs m (bits x + bits m.modulus) (start m y x) 0))
      by true e = rw (eqb-true x 0 e) (division_zero y)
      by false e = let hx : 0 < x = omega (arith, eqb-false x 0 e) in division_above hx (ends y x hx hy)
