-- How many bytes a line takes at the most.
use Rattle.std.specs.Prelude.{ℕ}

-- a record of at most 4,096 rows
abbrev pub longest_record : ℕ
longest_record = 46

-- at most 256 entries of such records
abbrev pub longest_total : ℕ
longest_total = 25

-- behind its words
abbrev pub longest_fault : ℕ
longest_fault = 74

-- with the words for a file
abbrev pub longest_refusal : ℕ
longest_refusal = 85
