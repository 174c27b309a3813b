use Rattle.exchange.proofs.Law.{filings_alike}
use Rattle.exchange.proofs.opening.Exchange.filings_have_one_digest.Goals as goal

pub returns : goal.returns
returns g c = filings_alike (g.met.R.Rule.lawful c.args.self.now.rule) g.S.Seal.meaning
