-- What is left as objects that nothing holds are taken away.
use Rattle.std.specs.Prelude.{◌≡◌, ℕ, nat_lt, Bool, true, Some}
use Rattle.std.specs.List.{filter}
use Rattle.std.specs.Option.{IsSome, is_some}
use Rattle.seq_model.specs.Life.{is_root, live}
use Rattle.seq_model.specs.State.{Object, State}
use Rattle.object_store.specs.Kept.{Stored, number_at}
use Rattle.object_store.specs.Parts.{at}

-- an object of a store that lives by itself
abbrev pub root_in : Stored → ℕ × Object → Bool
root_in s = is_root (number_at s.public) (λ h. nat_lt 0 (number_at s.holds h))

-- the state of a store with the objects that live
abbrev pub buried : Stored → State
buried s = record s.state { objects = live (root_in s) s.state.objects }

-- some objects of a store, among them each that lives by itself, with what is held of them
pub record IsLeft (old now : Stored) : Type 0 where
  pub kept : now.state.objects ≡ filter (λ e. is_some (at e.0 now.state.objects)) old.state.objects
  pub roots : (h : ℕ) (o : Object) → at h old.state.objects ≡ Some o → root_in old (h, o) ≡ true → IsSome (at h now.state.objects)
  pub public : (h : ℕ) → IsSome (at h now.state.objects) → number_at now.public h ≡ number_at old.public h
  pub holds : (h : ℕ) → IsSome (at h now.state.objects) → number_at now.holds h ≡ number_at old.holds h
  pub next : now.state.next ≡ old.state.next
  pub stopped : now.state.stopped ≡ old.state.stopped
  pub ready : now.ready ≡ old.ready
  pub places : now.places ≡ old.places
