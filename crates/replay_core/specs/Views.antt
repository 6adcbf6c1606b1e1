-- What contracts see of the parts of a replay.
use Rattle.std.specs.Prelude.{List, [], ◌++◌, Option, None, Some}
use Rattle.std.specs.Option.{option_copied}
use Rattle.dev_types.specs.declared.notices.Notice.{Notice}
use Rattle.replay_core.specs.Labels.{Meaning, handle_of}
use Rattle.replay_core.specs.declared.bindings.Binding.{Binding}
use Rattle.replay_core.specs.declared.bindings.Labels.{Labels}
use Rattle.replay_core.specs.declared.notices.NoticeList.{NoticeList}

-- the notices of a list, in order; its room is no part of them
abbrev pub notices_of : NoticeList → List Notice
notices_of l = l.notices.items

-- what a caller bound itself, where that is kept apart
abbrev pub kept_apart : Option (List Binding) → List Binding
kept_apart None = []
kept_apart (Some own) = own

-- what a caller knows: what was bound in earlier phases, and behind it what it bound itself
abbrev pub known_to : List Binding → Option (List Binding) → List Binding
known_to bound None = bound
known_to bound (Some own) = bound ++ own

-- what labels mean
abbrev pub meaning_of : Labels → Meaning
meaning_of l = handle_of (known_to l.bound.now (option_copied l.own)) l.phase l.caller
