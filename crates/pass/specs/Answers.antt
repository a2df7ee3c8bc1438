-- What the answer of the code says, in the table's numbers.
use Rattle.std.specs.Prelude.{ℕ, Result, Ok, Err}
use Rattle.terms.specs.Refusals.{number_of}
use Rattle.terms.specs.declared.Fault.{Fault}
use Rattle.pass.specs.Outcome.{Answer, Done, Refused}
use Rattle.pass.specs.declared.answers.Report.{Report}

-- the answer of a run over one string of bytes
abbrev pub ran_answer : Result Report Fault → Answer Report ℕ
ran_answer (Ok report) = Done report
ran_answer (Err fault) = Refused (number_of fault.refusal) fault.place
