use Rattle.exchange.proofs.Law.{filings_ordered}
use Rattle.exchange.proofs.opening.Exchange.filings_are_in_order.Goals as goal

pub returns : goal.returns
returns g c = filings_ordered (g.met.R.Rule.lawful c.args.self.now.rule) g.S.Seal.meaning
