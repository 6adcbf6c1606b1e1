-- What a reply tells of its call.
use Rattle.std.proofs.Common.{ℕ, ◌≡◌, ◌∙◌, ◌⊎◌, inl, inr, ◌==◌, Bool, true, false, List, [], ◌∷◌, Option, Some, None, refl, sym, ap}
use Rattle.dev_types.specs.DataTypes.{byte_size}
use Rattle.std.specs.Str.{bytes_eq}
use Rattle.std.specs.Prelude.{◌&&◌, ◌*◌, cond}
use Rattle.std.specs.Bool.{then_some}
use Rattle.std.specs.List.{find, list_any}
use Rattle.std.specs.Option.{MatchOption, option_and_then, option_map, option_or}
use Rattle.std.proofs.lemmas.Bool.{and_parts, or_cases}
use Rattle.dev_types.specs.declared.refusals.Refused.{Refused}
use Rattle.dev_types.specs.declared.refusals.Refused.TheVariants.{InFlight}
use Rattle.seq_model.specs.Answers.{IsAnswer, IsLike, answer, granted, info_of, mapped_picture, property_of, readiness}
use Rattle.seq_model.specs.Refusals.{first_of, is_parameter_out, phase_at, refusal}
use Rattle.seq_model.specs.State.{ParameterLoan, Phase, Empty, Flight, Done, parameter_loan}
use Rattle.seq_model.specs.Steps.{Past}
use Rattle.seq_model.specs.declared.calls.Call.{Call}
use Rattle.seq_model.specs.declared.calls.Call.TheVariants.{NewObject, NewArray, Retain, UnmapParameterArray, FrameReady, MapFrame, GetProperty, ObjectInfo, ParameterInfo}
use Rattle.seq_model.specs.declared.calls.Reply.{Reply}
use Rattle.seq_model.specs.declared.calls.Reply.TheVariants as reply
use Rattle.kind_tables.specs.Kinds.{kind_of}
use Rattle.kind_tables.specs.Rows.{parameters_of, row_of}
use Rattle.kind_tables.specs.declared.kinds.Kind.{Kind}
use Rattle.dev_types.specs.declared.values.Value.{Value}
use Rattle.kind_tables.specs.declared.rows.Row.{Row}

-- a reply like a refusal is one
denied_is : (refused : Refused) (r : Reply) → IsLike (reply.Denied refused) r → (other : Refused) × (r ≡ reply.Denied other)
denied_is (InFlight given of) r denied = (InFlight denied.0 of, denied.2)
denied_is refused r denied = (refused, denied)

-- what is granted to a call is this reply, up to what was seen of a flight
abbrev pub IsGiven : Past → Call → Reply → Type 0
IsGiven past call r = MatchOption (granted past call) ⊥ (λ a. IsLike a r)

-- another reply is one to a call that no refusal applies to
pub given : (past : Past) (call : Call) (r : Reply) → IsAnswer past call r → ((refused : Refused) → r ≡ reply.Denied refused → ⊥) →
    (refusal past call ≡ None) × MatchOption (granted past call) ⊥ (λ a. IsLike a r)
unfolding IsAnswer answer
given past call r answer other = by (refusal past call) refl answer
  where
    by : (x : Option Refused) → refusal past call ≡ x → MatchOption (option_or (option_map reply.Denied x) (granted past call)) ⊥ (λ a. IsLike a r) →
        (refusal past call ≡ None) × MatchOption (granted past call) ⊥ (λ a. IsLike a r)
    by None is like = (is, like)
    by (Some refused) is like = let denied : (other : Refused) × (r ≡ reply.Denied other) = denied_is refused r like in absurd (other denied.0 denied.1)

-- where the first of some refusals is none, none of them applies
pub first_is_none : (x : Option Refused) (xs : List (Option Refused)) → first_of (x ∷ xs) ≡ None → (x ≡ None) × (first_of xs ≡ None)
first_is_none None xs none = (refl, none)
first_is_none (Some refused) xs none = absurd cc

-- each of them does not apply
abbrev pub AllNone : List (Option Refused) → Type 0
AllNone [] = Unit {0}
AllNone (x ∷ xs) = (x ≡ None) × AllNone xs

pub all_none : (xs : List (Option Refused)) → first_of xs ≡ None → AllNone xs
all_none [] none = tt
all_none (x ∷ xs) none = let both : (x ≡ None) × (first_of xs ≡ None) = first_is_none x xs none in (both.0, all_none xs both.1)

pub does_not_apply : (applies : Bool) (refused : Refused) → then_some applies refused ≡ None → applies ≡ false
does_not_apply true refused none = absurd cc
does_not_apply false refused none = refl

-- the calls that make a handle
abbrev pub is_creation : Call → Bool
is_creation (NewObject t subtype) = true
is_creation (NewArray elem count stride origin bytes) = true
is_creation (UnmapParameterArray h name number bytes) = true
is_creation _ = false

-- a reply that tells a handle is like no other reply
like_made : (a : Reply) (h : ℕ) → IsLike a (reply.Made h) → a ≡ reply.Made h
like_made (reply.NotReady given of) h like = absurd cc
like_made (reply.Denied (InFlight given of)) h like = absurd cc
like_made a h like = sym like

granted_made : (past : Past) (call : Call) (h : ℕ) → MatchOption (granted past call) ⊥ (λ a. IsLike a (reply.Made h)) → granted past call ≡ Some (reply.Made h)
granted_made past call h given = by (granted past call) given
  where
    by : (x : Option Reply) → MatchOption x ⊥ (λ a. IsLike a (reply.Made h)) → x ≡ Some (reply.Made h)
    by None given = absurd given
    by (Some a) given = ap Some (like_made a h given)

only_creations : (past : Past) (call : Call) (h : ℕ) → is_creation call ≡ false → granted past call ≡ Some (reply.Made h) → ⊥
only_creations past (NewObject t subtype) h none given = cc
only_creations past (NewArray elem count stride origin bytes) h none given = cc
only_creations past (UnmapParameterArray k name number bytes) h none given = cc
only_creations past (FrameReady k wait) h none given = of wait (phase_at past k) given
  where
    of : (wait : Bool) (phase : Phase) → readiness past wait phase ≡ Some (reply.Made h) → ⊥
    of true Empty given = cc
    of false Empty given = cc
    of true (Flight t) given = cc
    of false (Flight t) given = cc
    of true (Done t) given = cc
    of false (Done t) given = cc
only_creations past (MapFrame k channel) h none given = of (phase_at past k) given
  where
    of : (phase : Phase) → mapped_picture past channel phase ≡ Some (reply.Made h) → ⊥
    of Empty given = cc
    of (Flight t) given = cc
    of (Done t) given = cc
only_creations past (GetProperty k name) h none given = of (property_of past k) given
  where
    of : (x : Option Value) → option_map reply.Val x ≡ Some (reply.Made h) → ⊥
    of None given = cc
    of (Some v) given = cc
only_creations past (ObjectInfo t subtype) h none given = of (kind_of t subtype) given
  where
    of : (x : Option Kind) → option_map (λ kind. reply.Listed (parameters_of kind)) x ≡ Some (reply.Made h) → ⊥
    of None given = cc
    of (Some kind) given = cc
only_creations past (ParameterInfo t subtype name) h none given = of (option_and_then (λ kind. row_of kind name) (kind_of t subtype)) given
  where
    of : (x : Option Row) → option_map (λ row. reply.Info (info_of row)) x ≡ Some (reply.Made h) → ⊥
    of None given = cc
    of (Some row) given = cc
only_creations past (Retain k) h none given = cc
only_creations past _ h none given = cc

pub other_reply : (past : Past) (call : Call) (h : ℕ) → is_creation call ≡ false → MatchOption (granted past call) ⊥ (λ a. IsLike a (reply.Made h)) → ⊥
other_reply past call h none given = only_creations past call h none (granted_made past call h given)

-- a creation makes the next handle
pub made_is_next : (past : Past) (call : Call) (h : ℕ) → MatchOption (granted past call) ⊥ (λ a. IsLike a (reply.Made h)) → h ≡ past.state.next
made_is_next past (NewObject t subtype) h given = cc
made_is_next past (NewArray elem count stride origin bytes) h given = cc
made_is_next past (UnmapParameterArray k name number bytes) h given = cc
made_is_next past (Retain k) h given = absurd (other_reply past (Retain k) h refl given)
made_is_next past call h given = absurd (other_reply past call h refl given)

-- a loan that is out stands among the loans
pub find_passes : (p q : ParameterLoan → Bool) (loans : List ParameterLoan) → ((loan : ParameterLoan) → p loan ≡ true → q loan ≡ true) → list_any p loans ≡ true →
    (loan : ParameterLoan) × (find q loans ≡ Some loan) × (q loan ≡ true)
find_passes p q [] implies some = absurd cc
find_passes p q (x ∷ loans) implies some = by (q x) refl (λ later. find_passes p q loans implies later)
  where
    by : (t : Bool) → q x ≡ t → (list_any p loans ≡ true → (loan : ParameterLoan) × (find q loans ≡ Some loan) × (q loan ≡ true)) →
        (loan : ParameterLoan) × (find q (x ∷ loans) ≡ Some loan) × (q loan ≡ true)
    by true is rest = (x, ap (λ t. cond t (Some x) (find q loans)) is, is)
    by false is rest = of (or_cases (p x) (list_any p loans) some)
      where
        of : (p x ≡ true) ⊎ (list_any p loans ≡ true) → (loan : ParameterLoan) × (find q (x ∷ loans) ≡ Some loan) × (q loan ≡ true)
        of (inl now) = let passes : q x ≡ true = implies x now in absurd cc
        of (inr later) =
            let one : (loan : ParameterLoan) × (find q loans ≡ Some loan) × (q loan ≡ true) = rest later in
            (one.0, ap (λ t. cond t (Some x) (find q loans)) is ∙ one.1, one.2)

pub out_is_numbered : (name : List ℕ) (number len : ℕ) (loan : ParameterLoan) → is_parameter_out name number len loan ≡ true → (loan.number == number) ≡ true
out_is_numbered name number len loan is =
    (and_parts (loan.number == number) (bytes_eq loan.name name) (and_parts ((loan.number == number) && bytes_eq loan.name name) (loan.count * byte_size loan.elem == len) is).0).0

pub loan_is_found : (name : List ℕ) (number len : ℕ) (loans : List ParameterLoan) → list_any (is_parameter_out name number len) loans ≡ true →
    (loan : ParameterLoan) × (parameter_loan number loans ≡ Some loan)
loan_is_found name number len loans out =
    let one : (loan : ParameterLoan) × (find (λ loan. loan.number == number) loans ≡ Some loan) × ((loan.number == number) ≡ true) =
    find_passes (is_parameter_out name number len) (λ loan. loan.number == number) loans
    (λ loan is. out_is_numbered name number len loan is) out in
    (one.0, one.1)
