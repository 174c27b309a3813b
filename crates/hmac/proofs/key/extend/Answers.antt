use Rattle.std.proofs.Common.{◌≡◌, ℕ, ◌-◌, List, ◌++◌, drop, length, replicate, ap}
use Rattle.std.proofs.lemmas.List.{drop-replicate}
use Rattle.hmac.proofs.key.extend.Goals as goal

pub returns : goal.returns
returns c =
    let n = length c.args.key.now in
    let rest : drop n (replicate 64 0) ≡ replicate (64 - n) 0 = drop-replicate n 64 0 in
    simp c.copy_from_slice.ensures.after (ap (λ (v : List ℕ). c.args.key.now ++ v) rest)
