-- What a tally keeps. Assumes nothing.
use Rattle.std.specs.Prelude.{ℕ, ◌+◌, ◌-◌, ◌^◌, min, Bool, true, false, Some, None, Option}

-- one more, up to the most that the number's type holds
abbrev pub more : ℕ → ℕ
more n = min (n + 1) (2 ^ 64 - 1)

-- one more where the answer agreed
abbrev pub more_if : Bool → ℕ → ℕ
more_if true n = more n
more_if false n = n

-- the number of the first answer that did not agree, after one more answer, which is number n
abbrev pub first_off : Bool → ℕ → Option ℕ → Option ℕ
first_off true n off = off
first_off false n (Some m) = Some m
first_off false n None = Some n
