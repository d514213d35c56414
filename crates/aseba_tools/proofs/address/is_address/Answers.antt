use Rattle.std.proofs.Common.{sym, rules}
use Rattle.aseba_tools.proofs.Addresses.{without_colon}
use Rattle.aseba_tools.proofs.address.is_address.Goals as goal

pub returns-in-None : goal.returns-in-None
returns-in-None c = sym (without_colon c.args.text.now (search rules))
