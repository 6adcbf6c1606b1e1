-- What a call that was answered needs of a store, and what it does to it.
use Rattle.std.specs.Prelude.{◌≡◌, ℕ, ◌+◌, ◌-◌, ◌*◌, ◌<◌, ◌≤◌, ◌^◌, IsTrue, List, [], ◌∷◌, ◌++◌, None, false, length, true}
use Rattle.std.specs.BTreeMap.{is_at}
use Rattle.std.specs.Map.{set_value}
use Rattle.std.specs.Option.{IsSome, MatchOption, option_and_then, option_map_or}
use Rattle.std.specs.Ordering.{nat_cmp}
use Rattle.dev_types.specs.DataTypes.{byte_size, is_element_type}
use Rattle.kind_tables.specs.Kinds.{kind_of}
use Rattle.kind_tables.specs.SceneObjects.{object_in}
use Rattle.object_store.specs.Kept.{Stored, number_at}
use Rattle.object_store.specs.Parts.{named_with}
use Rattle.past_laws.specs.Suits.{IsLoanOf, taken_array}
use Rattle.scene_read.specs.Reading.{lent}
use Rattle.seq_model.specs.Life.{has, names_of}
use Rattle.seq_model.specs.Refusals.{is_array_loan_out, is_bad_shape, most_bytes}
use Rattle.seq_model.specs.State.{State, array_loan, object_at, parameter_loan}
use Rattle.seq_model.specs.Steps.{effect, fresh_array}
use Rattle.seq_model.specs.declared.calls.Call.{Call}
use Rattle.seq_model.specs.declared.calls.Call.TheVariants.{NewObject, NewArray, Retain, Release, SetParameter, UnsetParameter, UnsetAll, Commit, MapArray, UnmapArray, MapParameterArray, UnmapParameterArray, RenderFrame, DiscardFrame, MapFrame, UnmapFrame}
use Rattle.seq_model.specs.declared.calls.Reply.{Reply}
use Rattle.seq_model.specs.declared.calls.Reply.TheVariants as reply
use Rattle.object_steps.specs.ParameterLoans.{zero_elements}
use Rattle.object_steps.specs.declared.array_loans.ArrayLoan.{ArrayLoan}
use Rattle.object_steps.specs.declared.array_loans.ArrayLoan.TheVariants as loan

-- each of these objects is there
abbrev pub AreThere : State → List ℕ → Type 0
AreThere s names = (k : ℕ) → has k names ≡ true → IsSome (object_at s k)

-- what a call needs to be carried out as it was answered: room for what it makes, an array of a shape that arrays may have, a loan that is
-- out, and that each object that it is made on or names is there; a reference that is given back is held, and few are. What is done to
-- frames is not carried out here
abbrev pub CanCarry : Stored → Call → Reply → Type 0
CanCarry s (NewObject t subtype) (reply.Made _) = (s.ready ≡ true) × IsSome (kind_of t subtype)
CanCarry s (NewArray elem count stride origin bytes) (reply.Made _) =
    (s.ready ≡ true) × IsTrue (is_element_type elem) × (is_bad_shape elem count stride origin bytes ≡ false)
    × AreThere s.state (names_of (fresh_array elem count stride origin bytes))
CanCarry s (Retain h) reply.Done = (1 ≤ number_at s.public h) × (number_at s.public h < 2 ^ 63)
CanCarry s (Release h) reply.Done = 1 ≤ number_at s.public h
CanCarry s (SetParameter h name v) reply.Done =
    IsSome (object_at s.state h) × MatchOption (object_in v) (Unit {0}) (λ k. IsSome (object_at s.state k))
CanCarry s (UnsetParameter h name) reply.Done = IsSome (object_at s.state h)
CanCarry s (UnsetAll h) reply.Done = IsSome (object_at s.state h)
CanCarry s (Commit h) reply.Done = IsSome (object_at s.state h)
CanCarry s (MapArray h) (reply.Lent _) =
    IsSome (option_and_then (λ o. o.array) (object_at s.state h)) × (option_and_then array_loan (object_at s.state h) ≡ None)
CanCarry s (UnmapArray h number bytes) reply.Done =
    (is_array_loan_out s.state h number (length bytes) ≡ true) × AreThere s.state (named_with bytes (object_at s.state h))
CanCarry s (MapParameterArray h name elem count) (reply.Lent _) =
    IsSome (object_at s.state h) × IsTrue (is_element_type elem) × (count * byte_size elem ≤ most_bytes)
CanCarry s (UnmapParameterArray h name number bytes) (reply.Made _) =
    (s.ready ≡ true) × IsLoanOf s.state h name number (length bytes)
    × MatchOption (option_and_then (λ o. parameter_loan number o.parameter_loans) (object_at s.state h)) (Unit {0})
    (λ loan. AreThere s.state (names_of (taken_array loan bytes)))
CanCarry s (RenderFrame h) reply.Done = ⊥
CanCarry s (DiscardFrame h) reply.Done = ⊥
CanCarry s (MapFrame h channel) (reply.Mapped _ _ _ _) = ⊥
CanCarry s (UnmapFrame h number) reply.Done = ⊥
CanCarry s call r = Unit {0}

-- a new object bears the next handle and has so many public references; the room for it is used
abbrev pub with_born : ℕ → Stored → Stored
with_born references s = record {
  state = s.state;
  public = s.public ++ (s.state.next, references) ∷ [];
  holds = s.holds ++ (s.state.next, 0) ∷ [];
  ready = false;
  places = s.places;
}

abbrev pub with_references : ℕ → ℕ → Stored → Stored
with_references h references s = record s { public = set_value (is_at (nat_cmp h)) s.public references }

-- what a call does to the public references by its reply
abbrev pub counted : Call → Reply → Stored → Stored
counted (NewObject _ _) (reply.Made _) s = with_born 1 s
counted (NewArray _ _ _ _ _) (reply.Made _) s = with_born 1 s
counted (UnmapParameterArray _ _ _ _) (reply.Made _) s = with_born 0 s
counted (Retain h) reply.Done s = with_references h (number_at s.public h + 1) s
counted (Release h) reply.Done s = with_references h (number_at s.public h - 1) s
counted call r s = s

-- what the call at a place does to a store by its reply
abbrev pub carried : ℕ → Call → Reply → Stored → Stored
carried place call r s = record (counted call r s) { state = effect place call r s.state }

-- the loan that a call brings: that of the array, or of the parameter, which it gives back
abbrev pub Brings : Call → ArrayLoan → Type 0
Brings (UnmapArray h number bytes) (loan.Lent l) = (l.array ≡ h) × (l.number ≡ number) × (length l.elements.bytes ≡ length bytes)
Brings (UnmapArray h number bytes) _ = ⊥
Brings (UnmapParameterArray h name number bytes) (loan.Param l) =
    (l.object ≡ h) × (l.name ≡ name) × (l.number ≡ number) × (length l.elements.bytes ≡ length bytes)
Brings (UnmapParameterArray h name number bytes) _ = ⊥
Brings call with = with ≡ loan.Nothing

-- a call that gives an array back, and is done, comes with the loan of that array
abbrev pub GivesBack : Call → Reply → ArrayLoan → Type 0
GivesBack (UnmapArray h number bytes) reply.Done (loan.Lent l) = (l.array ≡ h) × (length l.elements.bytes ≡ length bytes)
GivesBack (UnmapArray h number bytes) reply.Done _ = ⊥
GivesBack call r with = Unit {0}

-- the call gives no array back
abbrev pub IsNoUnmap : Call → Type 0
IsNoUnmap (UnmapArray h number bytes) = ⊥
IsNoUnmap call = Unit {0}

-- the loan that stands in the answer: that of a map, and what a refused call brought
abbrev pub handed : ℕ → Call → Reply → State → ArrayLoan → ArrayLoan
handed place call (reply.Denied _) s given = given
handed place (MapArray h) (reply.Lent _) s given =
    option_map_or (λ a. loan.Lent (record { array = h; number = place; elements = lent a.block }))
    (option_and_then (λ o. o.array) (object_at s h)) loan.Nothing
handed place (MapParameterArray h name elem count) (reply.Lent _) s given =
    loan.Param (record { object = h; name = name; number = place; elements = zero_elements elem count })
handed place call r s given = loan.Nothing
