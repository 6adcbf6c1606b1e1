-- A store that stands where a history led to.
use Rattle.std.specs.Prelude.{◌≡◌, ℕ, List, [], ◌∷◌, ◌++◌, count_by, true}
use Rattle.std.specs.Option.{IsSome}
use Rattle.object_store.specs.Kept.{Stored, number_at}
use Rattle.seq_model.specs.Histories.{History, public}
use Rattle.seq_model.specs.Legal.{Legal}
use Rattle.seq_model.specs.State.{State, flights, object_at}
use Rattle.seq_model.specs.Steps.{Past, after, change, is_reached_by, next_place, step}
use Rattle.seq_model.specs.declared.calls.Call.{Call}
use Rattle.seq_model.specs.declared.calls.Entry.{Entry}
use Rattle.seq_model.specs.declared.calls.Entry.TheVariants.{Called}
use Rattle.seq_model.specs.declared.calls.Reply.{Reply}
use Rattle.seq_model.specs.declared.calls.Reply.TheVariants as reply
use Rattle.seq_model.specs.declared.calls.Call.TheVariants.{NewObject, NewArray, Retain, Release, UnmapParameterArray, RenderFrame, DiscardFrame, MapFrame, UnmapFrame}

-- how many flights of a state reached an object
abbrev pub reaches : List (ℕ × List ℕ) → State → ℕ → ℕ
reaches reached s h = count_by (λ t. is_reached_by reached t h) (flights s)

-- the objects are those that the history left, and each has the public references of the history, and as many holds as flights reached it;
-- no flight reached what is not there
pub record IsAtRest (s : Stored) (history : History) : Type 0 where
  pub legal : Legal history
  pub state : s.state ≡ (after history).state
  pub public : (h : ℕ) → IsSome (object_at s.state h) → number_at s.public h ≡ public history h
  pub holds : (h : ℕ) → number_at s.holds h ≡ reaches (after history).reached s.state h

-- one more entry was made in a store, and what does not live any more is still there
pub record Follows (moved : Stored) (history : History) (e : Entry) : Type 0 where
  pub legal : Legal (history ++ e ∷ [])
  pub state : moved.state ≡ change (next_place (after history)) e (after history).state
  pub public : (h : ℕ) → IsSome (object_at moved.state h) → number_at moved.public h ≡ public (history ++ e ∷ []) h
  pub holds : (h : ℕ) → number_at moved.holds h ≡ reaches (step (after history) e).reached moved.state h

-- the entry gives out and takes back no public reference
abbrev pub KeepsReferences : Entry → Type 0
KeepsReferences (Called _ (NewObject _ _) (reply.Made _)) = ⊥
KeepsReferences (Called _ (NewArray _ _ _ _ _) (reply.Made _)) = ⊥
KeepsReferences (Called _ (Retain _) reply.Done) = ⊥
KeepsReferences (Called _ (Release _) reply.Done) = ⊥
KeepsReferences e = Unit {0}

-- the call changes no frame by its reply
abbrev pub IsOfObjects : Call → Reply → Type 0
IsOfObjects (RenderFrame h) reply.Done = ⊥
IsOfObjects (DiscardFrame h) reply.Done = ⊥
IsOfObjects (MapFrame h channel) (reply.Mapped _ _ _ _) = ⊥
IsOfObjects (UnmapFrame h number) reply.Done = ⊥
IsOfObjects call r = Unit {0}

-- there is room for what the call makes
abbrev pub HasRoom : Stored → Call → Type 0
HasRoom s (NewObject t subtype) = s.ready ≡ true
HasRoom s (NewArray elem count stride origin bytes) = s.ready ≡ true
HasRoom s (UnmapParameterArray h name number bytes) = s.ready ≡ true
HasRoom s call = Unit {0}

-- a store, and the history that led to it; and the past that this is
pub record Rested : Type 0 where
  pub stored : Stored
  pub history : History

abbrev pub past_of : Rested → Past
past_of r = record { seen = r.history; state = r.stored.state; reached = (after r.history).reached }
