-- The three numbers of a line are faulty by one lemma, each at its own place.
use Rattle.std.proofs.Common.{[], ◌∷◌, refl, arith}
use Rattle.divide.specs.declared.question.Fault.TheVariants.{NoGround}
use Rattle.divide.proofs.Faults.{wrong_asks_none, read_wrong, read_no_number}
use Rattle.divide.proofs.question.QuestionTryFromRefStr.try_from.Goals as goal

pub returns-in_default : goal.returns-in_default
returns-in_default c = (c.miscounted.ensures, wrong_asks_none c.args.line.now c.miscounted.result c.miscounted.ensures)

pub returns-in_err-try_from : goal.returns-in_err-try_from
returns-in_err-try_from c =
    let a = c.in-Some in
    let not = c.in_err-try_from.ensures in
    read_wrong c.args.line.now c.from_residual.result c.in_err-try_from.field-0.0 (NoGround a.code) c.from_residual.ensures.1 not.0
    (a.m.now ∷ a.y.now ∷ a.x.now ∷ [], a.ensures, refl, not.1)

pub returns-in_err-number : goal.returns-in_err-number
returns-in_err-number c =
    let a = c.in-Some in
    read_no_number c.args.line.now (a.code.now ∷ a.m.now ∷ a.y.now ∷ a.x.now ∷ []) c.from_residual-in_err-number.result c.in_err-number.field-0.0 2 a.m
    a.ensures refl (omega arith) (omega arith) refl c.from_residual-in_err-number.ensures.1 c.in_err-number.ensures

pub returns-in_err-number-2 : goal.returns-in_err-number-2
returns-in_err-number-2 c =
    let a = c.in-Some in
    read_no_number c.args.line.now (a.code.now ∷ a.m.now ∷ a.y.now ∷ a.x.now ∷ []) c.from_residual-in_err-number-2.result c.in_err-number-2.field-0.0 3 a.y
    a.ensures refl (omega arith) (omega arith) refl c.from_residual-in_err-number-2.ensures.1 c.in_err-number-2.ensures

pub returns-in_err-number-3 : goal.returns-in_err-number-3
returns-in_err-number-3 c =
    let a = c.in-Some in
    read_no_number c.args.line.now (a.code.now ∷ a.m.now ∷ a.y.now ∷ a.x.now ∷ []) c.from_residual-in_err-number-3.result c.in_err-number-3.field-0.0 4 a.x
    a.ensures refl (omega arith) (omega arith) refl c.from_residual-in_err-number-3.ensures.1 c.in_err-number-3.ensures
