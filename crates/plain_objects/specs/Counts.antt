-- Counts and lists by handles.
use Rattle.std.specs.Prelude.{ℕ, zero, suc, List, slice_index_or}

-- the count of a handle, where handle 1 has the first one; a handle that none stands for has none
abbrev pub count_at : List ℕ → ℕ → ℕ
count_at counts zero = 0
count_at counts (suc i) = slice_index_or counts i 0
