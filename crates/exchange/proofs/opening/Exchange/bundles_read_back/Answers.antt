use Rattle.exchange.proofs.Progress.{reads_back}
use Rattle.exchange.proofs.opening.Exchange.bundles_read_back.Goals as goal

pub returns : goal.returns
returns g c = λ first e h w run. reads_back (g.R.Rule.ruling c.args.self.now.rule) g.S.Seal.meaning g.met.S.Seal.meant first e h w run
