-- The release's number, as a user of the archives and programs reads it.
-- Assumes nothing.
use Rattle.std.specs.Prelude.{ℕ, ◌+◌, ◌*◌}

-- the release: what each part promises is in docs/versions.md
abbrev pub major : ℕ
major = 2

abbrev pub minor : ℕ
minor = 0

abbrev pub patch : ℕ
patch = 0

-- the three as one number, six digits behind the major one
abbrev pub release : ℕ
release = 1000000 * major + (1000 * minor + patch)
