-- What contracts see of a device.
use Rattle.std.specs.Prelude.{ℕ, [], ◌∷◌, Option, Some, None}
use Rattle.std.specs.Option.{option_and_then, option_map}
use Rattle.kind_tables.specs.SceneObjects.{Block}
use Rattle.seq_model.specs.Histories.{History}
use Rattle.seq_model.specs.State.{object_at}
use Rattle.seq_model.specs.Steps.{Past}
use Rattle.seq_model.specs.declared.calls.Entry.{Entry}
use Rattle.seq_model.specs.declared.calls.Entry.TheVariants.{Called}
use Rattle.seq_model.specs.declared.calls.Reply.{Reply}

-- its past, and the client that it tells
pub record Seen (C : Type 0) : Type 0 where
  pub past : Past
  pub client : C

-- the parts, by their names
abbrev pub past_of : {C : Type 0} → Seen C → Past
past_of d = d.past

abbrev pub client_of : {C : Type 0} → Seen C → C
client_of d = d.client

-- the reply of an entry, where it is a call
abbrev pub reply_in : Option Entry → Option Reply
reply_in (Some (Called _ _ r)) = Some r
reply_in _ = None

-- the reply of the last entry, where it is a call
abbrev pub last_reply : History → Option Reply
last_reply [] = None
last_reply (e ∷ []) = reply_in (Some e)
last_reply (e ∷ next ∷ rest) = last_reply (next ∷ rest)

-- the elements of the array with a handle, if it is there
abbrev pub content_at : Past → ℕ → Option Block
content_at past h = option_map (λ a. a.block) (option_and_then (λ o. o.array) (object_at past.state h))
