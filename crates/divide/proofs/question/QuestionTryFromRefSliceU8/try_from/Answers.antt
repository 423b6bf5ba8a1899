use Rattle.std.proofs.Common.{refl}
use Rattle.divide.specs.declared.question.Fault.TheVariants.{NotText}
use Rattle.divide.proofs.Faults.{read_wrong}
use Rattle.divide.proofs.question.QuestionTryFromRefSliceU8.try_from.Goals as goal

pub returns-in_err-from_utf8 : goal.returns-in_err-from_utf8
returns-in_err-from_utf8 c =
    read_wrong c.args.line.now c.from_residual.result NotText NotText c.from_residual.ensures.1 refl c.in_err-from_utf8.ensures.cases.0
