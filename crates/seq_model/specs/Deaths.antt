-- Which objects an entry leaves: those to which a chain of names leads from a root.
use Rattle.std.specs.Prelude.{◌≡◌, ◌⊎◌, ℕ, ◌++◌, ◌∷◌, [], Bool, List, Some, IsTrue}
use Rattle.seq_model.specs.Histories.{History, public}
use Rattle.seq_model.specs.Life.{has, is_root, names_of}
use Rattle.seq_model.specs.State.{Object, State, object_at}
use Rattle.seq_model.specs.Steps.{after, change, is_reached, next_place}
use Rattle.seq_model.specs.declared.calls.Entry.{Entry}

-- the state that an entry makes of the one after a history, before what does not live is gone
abbrev pub changed_by : History → Entry → State
changed_by history e = change (next_place (after history)) e (after history).state

-- the objects of this state that live by themselves
abbrev pub lives_itself : History → Entry → ℕ × Object → Bool
lives_itself history e = is_root (public (history ++ e ∷ [])) (is_reached (after (history ++ e ∷ [])).reached (changed_by history e))

-- each of these handles is of an object of this state that lives by itself, or that one of them names
abbrev pub HoldsItself : History → Entry → List ℕ → Type 0
HoldsItself history e members =
    (h : ℕ) → IsTrue (has h members) → (o : Object) × (object_at (changed_by history e) h ≡ Some o) ×
    (IsTrue (lives_itself history e (h, o)) ⊎ ((k : ℕ) × (p : Object) × IsTrue (has k members) × (object_at (changed_by history e) k ≡ Some p) × IsTrue (has h (names_of p))))
