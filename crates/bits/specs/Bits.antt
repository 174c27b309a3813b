use Rattle.std.specs.Prelude.{ℕ, ◌/◌, ◌%◌, ◌^◌}

-- bit i of a number: 0 or 1
unfoldable pub has : ℕ → ℕ → ℕ
has s i = s / 2 ^ i % 2
