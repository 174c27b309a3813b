use Rattle.bits.specs.Bits.{has}
use Rattle.std.proofs.Common.{rules}
use Rattle.witness.specs.Members.{has_beyond}
use Rattle.exchange.proofs.asking.is_member.Goals as goal

pub returns : goal.returns
unfolding has
returns c = search (rules, has_beyond c.args.set 16 c.args.house c.ranges.set.fits)
