use Rattle.divide.specs.Lines.{answered, unread}
use Rattle.divide.proofs.Faults.{wrong_not_blank}
use Rattle.divide.proofs.respond.respond.Goals as goal

pub returns-in-Ok : goal.returns-in-Ok
returns-in-Ok g c =
    answered c.in-Ok.question c.answer-answer.result c.in-Ok.ensures c.answer-answer.ensures (rw (c.line-number.ensures.after, c.from.ensures) at c.count.ensures)

pub returns-in_default : goal.returns-in_default
returns-in_default g c =
    let wrong = c.in-Err.ensures in
    unread (wrong_not_blank c.args.line.now c.in-Err.fault wrong.0 c.in_default.not-Blank) wrong.1 (rw c.line-number.ensures.after at c.count-in_default.ensures)
