-- A call that had its way after a history can be carried out by a store that rests there.
use Rattle.std.proofs.Common.{ℕ, zero, suc, ◌+◌, ◌==◌, ◌≡◌, ◌<◌, ◌≤◌, ◌^◌, ◌∙◌, not, true, false, List, Option, Some, None, length, refl, sym, ap, subst, arith}
use Rattle.std.specs.List.{list_any}
use Rattle.std.specs.Option.{IsSome, IsSomeAnd, MatchOption, is_none, is_some, option_and_then, option_map, option_map_or, option_or}
use Rattle.std.proofs.lemmas.Bool.{not-false}
use Rattle.std.proofs.lemmas.Bool.Decides.{nat_tests}
use Rattle.dev_types.specs.DataTypes.{is_element_type}
use Rattle.dev_types.specs.declared.data_types.DataType.{DataType}
use Rattle.dev_types.specs.declared.data_types.DataType.TheVariants as ty
use Rattle.dev_types.specs.declared.refusals.Refused.{Refused}
use Rattle.dev_types.specs.declared.refusals.Refused.TheVariants.{ArrayMapped, BadSubtype, NotHeld, NotMapped}
use Rattle.dev_types.specs.declared.values.Value.{Value}
use Rattle.dev_types.specs.declared.values.Value.TheVariants as value
use Rattle.kind_tables.specs.Kinds.{kind_of, type_of_kind}
use Rattle.kind_tables.specs.SceneObjects.{object_in}
use Rattle.kind_tables.specs.declared.kinds.Kind.{Kind}
use Rattle.kind_tables.specs.declared.kinds.Kind.TheVariants.{Array, CameraOrthographic}
use Rattle.object_store.specs.Kept.{Stored, number_at}
use Rattle.object_store.specs.Parts.{named_with}
use Rattle.object_store.proofs.Counted.{is_some_by}
use Rattle.past_laws.specs.Suits.{Suits, taken_array}
use Rattle.past_laws.proofs.Answered.{suits}
use Rattle.past_laws.proofs.PublicCounts.{public_fits}
use Rattle.seq_model.specs.Answers.{answer, granted}
use Rattle.seq_model.specs.Histories.{History, public}
use Rattle.seq_model.specs.Legal.{are_elements_sound, content_of_parameter, is_content_sound}
use Rattle.seq_model.specs.Life.{names_of}
use Rattle.seq_model.specs.Refusals.{dead, is_parameter_loan_out, is_parameter_out, not_held, object_of_value, refusal, refusals_of, wrong_kind}
use Rattle.seq_model.specs.Soundness.{AllSound, ArrayFits, IsSound, LoanFits}
use Rattle.seq_model.specs.State.{ArrayState, Object, ParameterLoan, State, array_loan, content_of_loan, object_at, parameter_loan}
use Rattle.seq_model.specs.Steps.{Past, after, change_array, fresh_array, holding}
use Rattle.seq_model.specs.declared.calls.Call.{Call}
use Rattle.seq_model.specs.declared.calls.Call.TheVariants.{NewObject, NewArray, Retain, Release, SetParameter, UnsetParameter, UnsetAll, Commit, MapArray, UnmapArray, MapParameterArray, UnmapParameterArray, RenderFrame, DiscardFrame, MapFrame, UnmapFrame}
use Rattle.seq_model.specs.declared.calls.Reply.{Reply}
use Rattle.seq_model.specs.declared.calls.Reply.TheVariants as reply
use Rattle.seq_model.proofs.Afters.{seen_is_history}
use Rattle.seq_model.proofs.Granted.{AllNone, all_none, does_not_apply}
use Rattle.seq_model.proofs.Loans.{loans_are_earlier}
use Rattle.seq_model.proofs.Sound.{in_elements, names_are_lower, sound_at}
use Rattle.seq_model.proofs.SoundCalls.{content_is_sound, found_fits, named_loan, new_array_sound, returned_sound, taken_array as taken_by, taken_array_sound}
use Rattle.seq_model.proofs.SoundHistories.{legal_is_sound}
use Rattle.seq_model.proofs.SoundSteps.{has_that_type, is_alive, not_wrong}
use Rattle.object_steps.specs.Carrying.{AreThere, CanCarry}
use Rattle.object_steps.specs.Resting.{HasRoom, IsAtRest, IsOfObjects}

-- a reply that denies nothing
abbrev IsGranted : Reply → Type 0
IsGranted r = (refused : Refused) → reply.Denied refused ≡ r → ⊥

not_refused : (past : Past) (call : Call) (r : Reply) → IsGranted r → answer past call ≡ Some r → refusal past call ≡ None
unfolding answer
not_refused past call r grants is = by (refusal past call) refl is
  where
    by : (x : Option Refused) → refusal past call ≡ x → option_or (option_map reply.Denied x) (granted past call) ≡ Some r → refusal past call ≡ None
    by None none is = none
    by (Some refused) some is = let same : reply.Denied refused ≡ r = cc in absurd (grants refused same)

none_apply : (past : Past) (call : Call) → refusal past call ≡ None → AllNone (refusals_of past call)
unfolding refusal
none_apply past call none = all_none (refusals_of past call) none

some_if : {X : Type 0} (x : Option X) → is_none x ≡ false → IsSome x
some_if None is = absurd cc
some_if (Some v) is = refl

some_and : {X : Type 0} (P : X → Type 0) (x : Option X) → IsSomeAnd x P → IsSome x
some_and P None is = absurd is
some_and P (Some v) is = refl

none_if : {X : Type 0} (x : Option X) → is_some x ≡ false → x ≡ None
none_if None is = refl
none_if (Some v) is = absurd cc

not_none : (n : ℕ) → (n == 0) ≡ false → 1 ≤ n
not_none n is = grind (arith, nat_tests, is)

-- only arrays have the type of arrays
array_kind : (kind : Kind) → type_of_kind kind ≡ ty.Array1D → (elem : DataType) × (kind ≡ Array elem)
array_kind (Array elem) is = (elem, refl)
array_kind CameraOrthographic is = absurd cc
array_kind _ is = absurd cc

taken_is_sound : (past : Past) (loan : ParameterLoan) (bytes : List ℕ) → is_element_type loan.elem ≡ true → are_elements_sound past (content_of_loan loan bytes) ≡ true → IsSound past.state (taken_array loan bytes)
unfolding taken_by
taken_is_sound past loan bytes may content = taken_array_sound past loan bytes may content

module _ (s : Stored) (history : History) (rest : IsAtRest s history) where
  led : after history ≡ after (after history).seen
  led = ap after (sym (seen_is_history history))

  all : AllSound (after history).state
  all = legal_is_sound history rest.legal

  kept : (P : State → Type 0) → P (after history).state → P s.state
  kept P p = subst P (sym rest.state) p

  there : (h : ℕ) → dead (after history) h ≡ None → IsSome (object_at s.state h)
  there h none =
      let alive : (o : Object) × (object_at (after history).state h ≡ Some o) = is_alive (after history) h none in
      kept (λ st. IsSome (object_at st h)) (is_some_by (object_at (after history).state h) alive.0 alive.1)

  -- what a sound object names is there
  named : (o : Object) → IsSound (after history).state o → AreThere s.state (names_of o)
  named o sound k is = kept (λ st. IsSome (object_at st k)) (some_and _ (object_at (after history).state k) (names_are_lower (after history).state o k sound is))

  held : (h : ℕ) → dead (after history) h ≡ None → not_held (after history) h ≡ None → (1 ≤ number_at s.public h) × (number_at s.public h ≤ length history)
  held h alive none =
      let some : (public (after history).seen h == 0) ≡ false = does_not_apply (public (after history).seen h == 0) (NotHeld h) none in
      let seen : public (after history).seen h ≡ public history h = ap (λ seen. public seen h) (seen_is_history history) in
      let number : number_at s.public h ≡ public history h = rest.public h (there h alive) in
      (omega (arith, number, seen, not_none (public (after history).seen h) some), omega (arith, number, public_fits history h))

  value_there : (v : Value) → option_and_then (dead (after history)) (object_of_value v) ≡ None → MatchOption (object_in v) (Unit {0}) (λ k. IsSome (object_at s.state k))
  value_there (value.Object t zero) none = tt
  value_there (value.Object t (suc k)) none = there (suc k) none
  value_there _ none = tt

  -- an array has elements
  array_there : (h : ℕ) → dead (after history) h ≡ None → wrong_kind (after history) h ty.Array1D ≡ None → IsSome (option_and_then (λ o. o.array) (object_at s.state h))
  array_there h alive none =
      let one : (o : Object) × (object_at (after history).state h ≡ Some o) = is_alive (after history) h alive in
      let typed : IsSomeAnd (object_at (after history).state h) (λ o. type_of_kind o.kind ≡ ty.Array1D) = has_that_type (after history) h ty.Array1D (not_wrong (after history) h ty.Array1D none) in
      let kind : type_of_kind one.0.kind ≡ ty.Array1D = subst (λ x. IsSomeAnd x (λ o. type_of_kind o.kind ≡ ty.Array1D)) one.1 typed in
      kept (λ st. IsSome (option_and_then (λ o. o.array) (object_at st h)))
      (subst (λ x. IsSome (option_and_then (λ (o : Object). o.array) x)) (sym one.1) (by one.0.array one.0.kind (array_kind one.0.kind kind) (sound_at (after history).state h one.0 all one.1).array))
    where
      by : (x : Option ArrayState) (kind : Kind) → (elem : DataType) × (kind ≡ Array elem) → ArrayFits (after history).state kind x → IsSome x
      by None kind is fits = absurd (fits is.0 is.1)
      by (Some a) kind is fits = refl

  -- the elements that come back name what is there
  returned_there : (h number : ℕ) (bytes : List ℕ) → refusal (after history) (UnmapArray h number bytes) ≡ None → is_content_sound (after history) (UnmapArray h number bytes) ≡ true →
      AreThere s.state (named_with bytes (object_at s.state h))
  returned_there h number bytes none content = subst (λ (st : State). AreThere s.state (named_with bytes (object_at st h))) (sym rest.state) (by (object_at (after history).state h) refl)
    where
      by : (x : Option Object) → object_at (after history).state h ≡ x → AreThere s.state (named_with bytes x)
      by None is k named = absurd cc
      by (Some o) is k names =
          named (change_array (holding bytes) o) (returned_sound (after history) h number bytes o none content is (sound_at (after history).state h o all is)) k
          (in_elements (change_array (holding bytes) o) k names)

  -- and so do those of an array that was written for a parameter
  taken_there : (h number : ℕ) (name bytes : List ℕ) → is_parameter_loan_out (after history).state h name number (length bytes) ≡ true →
      is_content_sound (after history) (UnmapParameterArray h name number bytes) ≡ true →
      MatchOption (option_and_then (λ o. parameter_loan number o.parameter_loans) (object_at s.state h)) (Unit {0}) (λ loan. AreThere s.state (names_of (taken_array loan bytes)))
  taken_there h number name bytes out content =
      subst (λ (st : State). MatchOption (option_and_then (λ o. parameter_loan number o.parameter_loans) (object_at st h)) (Unit {0}) (λ loan. AreThere s.state (names_of (taken_array loan bytes)))) (sym rest.state)
      (by (object_at (after history).state h) refl out)
    where
      by : (x : Option Object) → object_at (after history).state h ≡ x → option_map_or (λ o. list_any (is_parameter_out name number (length bytes)) o.parameter_loans) x false ≡ true →
          MatchOption (option_and_then (λ o. parameter_loan number o.parameter_loans) x) (Unit {0}) (λ loan. AreThere s.state (names_of (taken_array loan bytes)))
      by None is out = tt
      by (Some o) is lent =
          let loan : (loan : ParameterLoan) × (parameter_loan number o.parameter_loans ≡ Some loan) × (loan.name ≡ name) =
          named_loan 1 (length history + 1) number (length bytes) name o.parameter_loans (loans_are_earlier history h o is).parameters lent in
          let fits : LoanFits o.kind loan.0 = found_fits (LoanFits o.kind) (λ loan. loan.number == number) o.parameter_loans loan.0 (sound_at (after history).state h o all is).loans loan.1 in
          let loan_is : option_and_then (λ (o : Object). parameter_loan number o.parameter_loans) (object_at (after history).state h) ≡ Some loan.0 =
          ap (option_and_then (λ (o : Object). parameter_loan number o.parameter_loans)) is ∙ loan.1 in
          let elements : are_elements_sound (after history) (content_of_loan loan.0 bytes) ≡ true =
          content_is_sound (is_parameter_loan_out (after history).state h name number (length bytes)) (content_of_parameter (after history) h number bytes) (after history) (content_of_loan loan.0 bytes) out content
          (ap (option_map (λ loan. content_of_loan loan bytes)) loan_is) in
          subst (λ x. MatchOption x (Unit {0}) (λ loan. AreThere s.state (names_of (taken_array loan bytes)))) (sym loan.1) (named (taken_array loan.0 bytes) (taken_is_sound (after history) loan.0 bytes fits.0 elements))

  suited : (call : Call) (r : Reply) → answer (after history) call ≡ Some r → Suits s.state call r
  suited call r is = kept (λ st. Suits st call r) (suits (after history) call r led is)

  carries : (call : Call) (r : Reply) → (refusal (after history) call ≡ None) → length history < 2 ^ 63 → HasRoom s call → IsOfObjects call r → answer (after history) call ≡ Some r →
      is_content_sound (after history) call ≡ true → CanCarry s call r
  unfolding refusals_of
  carries (NewObject t subtype) (reply.Made made) none short room objects is content =
      (room, some_if (kind_of t subtype) (does_not_apply (is_none (kind_of t subtype)) BadSubtype (none_apply (after history) (NewObject t subtype) none).0))
  carries (NewArray elem count stride origin bytes) (reply.Made made) none short room objects is content =
      let fits : Suits s.state (NewArray elem count stride origin bytes) (reply.Made made) = suited (NewArray elem count stride origin bytes) (reply.Made made) is in
      (room, fits.0, fits.1, named (fresh_array elem count stride origin bytes) (new_array_sound (after history) elem count stride origin bytes none))
  carries (Retain h) reply.Done none short room objects is content =
      let apply : AllNone (refusals_of (after history) (Retain h)) = none_apply (after history) (Retain h) none in
      let few : (1 ≤ number_at s.public h) × (number_at s.public h ≤ length history) = held h apply.0 apply.1.0 in
      (few.0, omega (arith, few.1, short))
  carries (Release h) reply.Done none short room objects is content =
      let apply : AllNone (refusals_of (after history) (Release h)) = none_apply (after history) (Release h) none in (held h apply.0 apply.1.0).0
  carries (SetParameter h name v) reply.Done none short room objects is content =
      let apply : AllNone (refusals_of (after history) (SetParameter h name v)) = none_apply (after history) (SetParameter h name v) none in (there h apply.0, value_there v apply.1.0)
  carries (UnsetParameter h name) reply.Done none short room objects is content = there h (none_apply (after history) (UnsetParameter h name) none).0
  carries (UnsetAll h) reply.Done none short room objects is content = there h (none_apply (after history) (UnsetAll h) none).0
  carries (Commit h) reply.Done none short room objects is content = there h (none_apply (after history) (Commit h) none).0
  carries (MapArray h) (reply.Lent number) none short room objects is content =
      let apply : AllNone (refusals_of (after history) (MapArray h)) = none_apply (after history) (MapArray h) none in (
        array_there h apply.0 apply.1.1.0,
        kept (λ st. option_and_then array_loan (object_at st h) ≡ None)
            (none_if (option_and_then array_loan (object_at (after history).state h)) (does_not_apply (is_some (option_and_then array_loan (object_at (after history).state h))) (ArrayMapped h) apply.1.1.1.0)),
      )
  carries (UnmapArray h number bytes) reply.Done none short room objects is content = (suited (UnmapArray h number bytes) reply.Done is, returned_there h number bytes none content)
  carries (MapParameterArray h name elem count) (reply.Lent number) none short room objects is content =
      let fits : Suits s.state (MapParameterArray h name elem count) (reply.Lent number) = suited (MapParameterArray h name elem count) (reply.Lent number) is in
      (there h (none_apply (after history) (MapParameterArray h name elem count) none).0, fits.0, fits.1)
  carries (UnmapParameterArray h name number bytes) (reply.Made made) none short room objects is content = (
    room,
    suited (UnmapParameterArray h name number bytes) (reply.Made made) is,
    taken_there h number name bytes
        (not-false (is_parameter_loan_out (after history).state h name number (length bytes))
        (does_not_apply (not (is_parameter_loan_out (after history).state h name number (length bytes))) NotMapped (none_apply (after history) (UnmapParameterArray h name number bytes) none).0)) content,
  )
  carries (RenderFrame h) reply.Done none short room objects is content = absurd objects
  carries (DiscardFrame h) reply.Done none short room objects is content = absurd objects
  carries (MapFrame h channel) (reply.Mapped width height t rows) none short room objects is content = absurd objects
  carries (UnmapFrame h number) reply.Done none short room objects is content = absurd objects
  carries _ _ none short room objects is content = tt

  -- a call that was refused needs nothing
  denied_carries : (call : Call) (refused : Refused) → CanCarry s call (reply.Denied refused)
  denied_carries (NewObject t subtype) refused = tt
  denied_carries _ refused = tt

  pub can_carry : (call : Call) (r : Reply) → length history < 2 ^ 63 → HasRoom s call → IsOfObjects call r → answer (after history) call ≡ Some r → is_content_sound (after history) call ≡ true → CanCarry s call r
  can_carry call r short room objects is content = by r refl is
    where
      by : (x : Reply) → x ≡ r → answer (after history) call ≡ Some x → CanCarry s call x
      by (reply.Denied refused) same is = denied_carries call refused
      by reply.Done same is = carries call reply.Done (not_refused (after history) call reply.Done (λ refused same. cc) is) short room (subst (IsOfObjects call) (sym same) objects) is content
      by (reply.Made made) same is = carries call (reply.Made made) (not_refused (after history) call (reply.Made made) (λ refused same. cc) is) short room (subst (IsOfObjects call) (sym same) objects) is content
      by (reply.Lent number) same is = carries call (reply.Lent number) (not_refused (after history) call (reply.Lent number) (λ refused same. cc) is) short room (subst (IsOfObjects call) (sym same) objects) is content
      by (reply.Mapped width height t rows) same is =
          carries call (reply.Mapped width height t rows) (not_refused (after history) call (reply.Mapped width height t rows) (λ refused same. cc) is) short room (subst (IsOfObjects call) (sym same) objects) is content
      by reply.Ready same is = carries call reply.Ready (not_refused (after history) call reply.Ready (λ refused same. cc) is) short room (subst (IsOfObjects call) (sym same) objects) is content
      by (reply.NotReady given of) same is =
          carries call (reply.NotReady given of) (not_refused (after history) call (reply.NotReady given of) (λ refused same. cc) is) short room (subst (IsOfObjects call) (sym same) objects) is content
      by (reply.Val v) same is = carries call (reply.Val v) (not_refused (after history) call (reply.Val v) (λ refused same. cc) is) short room (subst (IsOfObjects call) (sym same) objects) is content
      by (reply.Listed names) same is =
          carries call (reply.Listed names) (not_refused (after history) call (reply.Listed names) (λ refused same. cc) is) short room (subst (IsOfObjects call) (sym same) objects) is content
      by (reply.Info info) same is = carries call (reply.Info info) (not_refused (after history) call (reply.Info info) (λ refused same. cc) is) short room (subst (IsOfObjects call) (sym same) objects) is content
