-- The digest that stands for many results.
use Rattle.std.specs.Prelude.{ℕ, ◌+◌, ◌*◌, ◌%◌}

-- the digest with one number more
abbrev pub absorbed : ℕ → ℕ → ℕ
absorbed digest x = (digest % 4294967291 * 65599 + x) % 4294967291
