use Rattle.std.proofs.Common.{refl}
use Rattle.exchange.proofs.Law.{the_law}
use Rattle.exchange.proofs.opening.Exchange.open.Goals as goal

pub returns : goal.returns
returns g c = record { value = refl; law = the_law (g.met.R.Rule.lawful c.args.rule) g.met.S.Seal.meant }
