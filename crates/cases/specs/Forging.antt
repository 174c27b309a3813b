-- That no seal of a register can be forged.
use Rattle.std.specs.Prelude.{ℕ, List}
use Rattle.witness.specs.Rules.{Ruling}
use Rattle.seal.specs.declared.register.Register.{Register}
use Rattle.seal.specs.Registers.{Unused, register}
use Rattle.exchange.specs.declared.station.Station.{Station}
use Rattle.exchange.specs.Runs.{Event, World, Run, Each}
use Rattle.exchange.specs.Law.{Fair, ByNote, Unforged}

-- in every run from a register of which no row is used, no seal handed to add or file is forged
abbrev pub RegisterUnforged : Type 0
RegisterUnforged =
    (r : Ruling) (first : ℕ → Station) (honest : ℕ) (e : Register) → Unused e
    → (h : List Event) (w : World Register) (run : Run r register e first h w)
    → Each (Fair r first honest) h → Unforged r first honest register e h w run

-- so already where no direct sign for an honest house is taken, whatever notices carry
abbrev pub RegisterUnforgedByNote : Type 0
RegisterUnforgedByNote =
    (r : Ruling) (first : ℕ → Station) (honest : ℕ) (e : Register) → Unused e
    → (h : List Event) (w : World Register) (run : Run r register e first h w)
    → Each (ByNote r first honest) h → Unforged r first honest register e h w run
