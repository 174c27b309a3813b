-- The compression of one block (FIPS 180-4, 6.2.2, steps 2 to 4).
use Rattle.std.specs.Prelude.{ℕ, zero, suc, List, slice_index}
use Rattle.sha256.specs.declared.state.State.{State}
use Rattle.sha256.specs.Words.{plus}
use Rattle.sha256.specs.Functions.{ch, maj, Σ0, Σ1}
use Rattle.sha256.specs.Constants.{constants}
use Rattle.sha256.specs.Schedule.{schedule}

-- T1
abbrev pub temporary1 : State → ℕ → ℕ → ℕ
temporary1 s k w = plus (plus (plus (plus s.h (Σ1 s.e)) (ch s.e s.f s.g)) k) w

-- T2
abbrev pub temporary2 : State → ℕ
temporary2 s = plus (Σ0 s.a) (maj s.a s.b s.c)

-- one round, with the constant k and the schedule's word w
abbrev pub round : State → ℕ → ℕ → State
round s k w =
    record {
      a = plus (temporary1 s k w) (temporary2 s);
      b = s.a;
      c = s.b;
      d = s.c;
      e = plus s.d (temporary1 s k w);
      f = s.e;
      g = s.f;
      h = s.g;
    }

-- the working variables after the first n rounds over the schedule w
unfoldable pub rounds : ℕ → State → List ℕ → State
rounds zero s w = s
rounds (suc n) s w = round (rounds n s w) (slice_index constants n) (slice_index w n)

-- word by word
abbrev pub added : State → State → State
added s v =
    record {
      a = plus s.a v.a;
      b = plus s.b v.b;
      c = plus s.c v.c;
      d = plus s.d v.d;
      e = plus s.e v.e;
      f = plus s.f v.f;
      g = plus s.g v.g;
      h = plus s.h v.h;
    }

-- the hash value after a block of 64 bytes
unfoldable pub compressed : State → List ℕ → State
compressed s block = added s (rounds 64 s (schedule block))
