-- A number of bytes that stand at the start of a buffer.
-- Assumes nothing.
use Rattle.std.specs.Prelude.{◌≡◌, ℕ, ◌≤◌, List, length, take, Result, Ok, Err}
use Rattle.input.specs.declared.InputError.{InputError}
use Rattle.input.specs.declared.InputError.TheVariants.{Arguments, Unread}

-- the first n bytes of a buffer lie within it, and are n
abbrev pub IsPrefixLen : ℕ → List ℕ → Type 0
IsPrefixLen n xs = (n ≤ length xs) × (n ≡ length (take n xs))

-- how many bytes of an input came: those before a read failed too, and none where the program was given arguments
abbrev pub came : Result ℕ InputError → ℕ
came (Ok n) = n
came (Err Arguments) = 0
came (Err (Unread n)) = n
