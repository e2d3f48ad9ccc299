-- How long a strip may be, and how many rows a text takes.
use Rattle.std.specs.Prelude.{ℕ, ◌+◌, ◌*◌, ◌/◌}

abbrev pub most_rows : ℕ
most_rows = 4096

-- sixteen bytes for each row
abbrev pub most_text : ℕ
most_text = 16 * most_rows

-- the rows of a text of so many bytes: as many as it fills, and one more for a rest
abbrev pub rows_for : ℕ → ℕ
rows_for len = (len + 15) / 16
