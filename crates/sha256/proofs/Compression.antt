-- Laws of the rounds, one round at a time.
use Rattle.std.proofs.Common.{◌≡◌, ℕ, ◌+◌, List, get_or, refl, ap, ◌∙◌, add-one}
use Rattle.sha256.specs.declared.state.State.{State}
use Rattle.sha256.specs.Constants.{constants}
use Rattle.sha256.specs.Schedule.{schedule}
use Rattle.sha256.specs.Compression.{round, rounds, added, compressed}

pub rounds_none : (s : State) (w : List ℕ) → rounds 0 s w ≡ s
unfolding rounds
rounds_none s w = refl

pub rounds_more : (n : ℕ) (s : State) (w : List ℕ) → rounds (n + 1) s w ≡ round (rounds n s w) (get_or constants n 0) (get_or w n 0)
unfolding rounds
rounds_more n s w = ap (λ (k : ℕ). rounds k s w) (add-one n)

-- one turn of a loop over the rounds
pub round_again : (n x : ℕ) (s start r : State) (w : List ℕ) → s ≡ rounds n start w → x ≡ get_or w n 0 → r ≡ round s (get_or constants n 0) x → r ≡ rounds (n + 1) start w
round_again n x s start r w before read turned = let more = rounds_more n start w in cc

pub compressed_by : (start early late r : State) (w block : List ℕ)
    → w ≡ schedule block → early ≡ rounds 48 start w → (early ≡ rounds 48 start w → late ≡ rounds 64 start w) → r ≡ added start late → r ≡ compressed start block
unfolding compressed
compressed_by start early late r w block scheduling first last sum = sum ∙ ap (added start) (last first ∙ ap (rounds 64 start) scheduling)
