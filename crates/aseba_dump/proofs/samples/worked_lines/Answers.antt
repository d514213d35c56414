use Rattle.std.proofs.Common.{refl}
use Rattle.std.specs.Fmt.{digits}
use Rattle.hex.specs.Hex.{encode_with}
use Rattle.aseba_payload.specs.Reading.{param_at, list_of_params_at, params_at}
use Rattle.aseba_dump.proofs.samples.worked_lines.Goals as goal

pub returns-clause-events : goal.returns-clause-events
unfolding digits encode_with param_at list_of_params_at params_at
returns-clause-events c = record { named = refl; without_words = refl; numbered = refl; odd = refl; unknown = refl; raw = refl }

pub returns-clause-descriptions : goal.returns-clause-descriptions
unfolding digits encode_with param_at list_of_params_at params_at
returns-clause-descriptions c = record { description = refl; variable = refl; local = refl; native = refl }

pub returns-clause-nodes : goal.returns-clause-nodes
unfolding digits encode_with param_at list_of_params_at params_at
returns-clause-nodes c = record { variables = refl; bounds = refl; division = refl; killed = refl; error = refl; state = refl; breakpoint = refl; present = refl }

pub returns-clause-requests : goal.returns-clause-requests
unfolding digits encode_with param_at list_of_params_at params_at
returns-clause-requests c = record { get_description = refl; set_bytecode = refl; reset = refl; run = refl; pause = refl; step = refl; stop = refl; get_state = refl; set_breakpoint = refl; clear_breakpoint = refl; clear_breakpoints = refl; get_variables = refl; set_variables = refl; get_node_description = refl; list_nodes = refl }
