-- The tests of a search on its way through the tree, and the order of its branches.
use Rattle.std.specs.Prelude.{Option, Some, None, ℕ, Bool, true, false, nat_le, nat_lt, List, ◌++◌, if◌then◌else◌, ◌+◌, ◌/◌, length, sum_by}
use Rattle.std.specs.Option.{option_to_list}
use Rattle.picture_model.specs.declared.records.Hit.{Hit}
use Rattle.ray_kernel.specs.declared.searches.Branch.{Branch}

-- the depth lies behind the best hit so far
abbrev pub is_beyond : ℕ → Option Hit → Bool
is_beyond depth None = false
is_beyond depth (Some best) = nat_lt best.depth depth

-- the depth lies before the hit behind which hits are wanted
abbrev pub is_before : ℕ → Option Hit → Bool
is_before depth None = false
is_before depth (Some last) = nat_lt depth last.depth

-- the first branch is entered no farther than the second, where there are two
abbrev pub is_first : Option Branch → Option Branch → Bool
is_first None second = true
is_first (Some first) None = true
is_first (Some first) (Some second) = nat_le first.entry second.entry

-- two branches wait behind the others, if there are two, of which the nearer one is the last
abbrev pub pushed : List Branch → Option Branch → Option Branch → List Branch
pushed waiting first second =
    if is_first first second
    then waiting ++ (option_to_list second ++ option_to_list first)
    else waiting ++ (option_to_list first ++ option_to_list second)

-- how many nodes wait
abbrev pub nodes_in : List Branch → ℕ
nodes_in waiting = sum_by (λ b. length b.nodes.now) waiting

-- how many leaves wait: of n nodes of a tree, (n + 1) / 2 are leaves
abbrev pub leaves_in : List Branch → ℕ
leaves_in waiting = sum_by (λ b. (length b.nodes.now + 1) / 2) waiting
