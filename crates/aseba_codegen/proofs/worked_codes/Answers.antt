use Rattle.aseba_codegen.proofs.CodeRows.{branches-worked, loops-worked, calls-worked, dividing-worked, far-worked}
use Rattle.aseba_codegen.proofs.worked_codes.Goals as goal

pub returns : goal.returns
returns c = record { branches = branches-worked; loops = loops-worked; calls = calls-worked; dividing = dividing-worked; far = far-worked }
