-- The numbers of the generator: a linear congruential sequence of states, and what each state gives.
use Rattle.std.specs.Prelude.{ℕ, zero, suc, ◌+◌, ◌*◌, ◌/◌, ◌%◌, ◌^◌}

-- the state after a state
abbrev pub next_state : ℕ → ℕ
next_state x = (x * 6364136223846793005 + 1442695040888963407) % 2 ^ 64

-- the state after so many more
unfoldable pub state_after : ℕ → ℕ → ℕ
state_after x zero = x
state_after x (suc k) = next_state (state_after x k)

-- the number below n that a state gives, by its upper 31 bits
abbrev pub number_of : ℕ → ℕ → ℕ
number_of n x = x / 2 ^ 33 % n

-- draw number k behind state x, below n; the first is number 0
abbrev pub draw : ℕ → ℕ → ℕ → ℕ
draw x k n = number_of n (state_after x (suc k))
