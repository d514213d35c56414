use Rattle.aseba_payload.proofs.Fields.{bytes-by_index}
use Rattle.aseba_payload.proofs.Verdicts.{some-meaning, one-payload, one-fault, never-both}
use Rattle.aseba_payload.proofs.law.one_meaning.Goals as goal

pub returns-clause-some : goal.returns-clause-some
returns-clause-some c = λ kind bytes each. some-meaning kind bytes (bytes-by_index bytes each)

pub returns-clause-one_payload : goal.returns-clause-one_payload
returns-clause-one_payload c = one-payload

pub returns-clause-one_fault : goal.returns-clause-one_fault
returns-clause-one_fault c = one-fault

pub returns-clause-never_both : goal.returns-clause-never_both
returns-clause-never_both c = never-both
