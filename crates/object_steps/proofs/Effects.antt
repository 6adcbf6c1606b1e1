-- Calls on objects leave the flights.
use Rattle.std.proofs.Common.{ℕ, ◌≡◌, ◌∙◌, List, [], ◌∷◌, ◌++◌, Option, Some, None, refl, ap}
use Rattle.std.specs.BTreeMap.{is_at}
use Rattle.std.specs.List.{cons_option}
use Rattle.std.specs.Map.{set_value}
use Rattle.std.specs.Option.{option_and_then, option_map, option_map_or, unwrap_or}
use Rattle.std.specs.Ordering.{nat_cmp}
use Rattle.dev_types.specs.declared.data_types.DataType.TheVariants as ty
use Rattle.dev_types.specs.declared.values.Value.TheVariants as value
use Rattle.kind_tables.specs.Kinds.{kind_of}
use Rattle.kind_tables.specs.SceneObjects.{with_value, without_value}
use Rattle.kind_tables.specs.declared.kinds.Kind.{Kind}
use Rattle.past_laws.specs.Suits.{taken_array}
use Rattle.seq_model.specs.State.{Empty, Object, ParameterLoan, State, changed_at, flights, object_at, parameter_loan, ticket_in, with_object}
use Rattle.seq_model.specs.Steps.{change_array, commit, effect, end_parameter_loan, fresh, fresh_array, holding, lend_parameter, lent, set_staged, take_in, unmap_parameter}
use Rattle.seq_model.specs.declared.calls.Call.{Call}
use Rattle.seq_model.specs.declared.calls.Call.TheVariants.{NewObject, NewArray, SetParameter, UnsetParameter, UnsetAll, Commit, MapArray, UnmapArray, MapParameterArray, UnmapParameterArray, RenderFrame, DiscardFrame, MapFrame, UnmapFrame}
use Rattle.seq_model.specs.declared.calls.Reply.{Reply}
use Rattle.seq_model.specs.declared.calls.Reply.TheVariants as reply
use Rattle.object_steps.specs.Resting.{IsOfObjects}
use Rattle.object_steps.proofs.Tickets.{set_tickets, tickets}

pub changed_flights : (h : ℕ) (f : Object → Object) (s : State) → ((o : Object) → (f o).phase ≡ o.phase) → flights (changed_at h f s) ≡ flights s
changed_flights h f s same = by (object_at s h) refl
  where
    by : (x : Option Object) → object_at s h ≡ x → tickets (unwrap_or (option_map (λ o. set_value (is_at (nat_cmp h)) s.objects (f o)) x) s.objects) ++ s.stopped ≡ flights s
    by None is = refl
    by (Some o) is = ap (λ ts. ts ++ s.stopped) (set_tickets h s.objects o (f o) is (same o))

more_tickets : (es : List (ℕ × Object)) (h : ℕ) (o : Object) → o.phase ≡ Empty → tickets (es ++ (h, o) ∷ []) ≡ tickets es
more_tickets [] h o empty = ap (λ phase. cons_option (ticket_in phase) []) empty
more_tickets (e ∷ es) h o empty = ap (cons_option (ticket_in e.1.phase)) (more_tickets es h o empty)

new_flights : (o : Object) (s : State) → o.phase ≡ Empty → flights (with_object o s) ≡ flights s
new_flights o s empty = ap (λ ts. ts ++ s.stopped) (more_tickets s.objects s.next o empty)

made_flights : (s : State) (kind : Option Kind) → flights (unwrap_or (option_map (λ kind. with_object (fresh kind None) s) kind) s) ≡ flights s
made_flights s None = refl
made_flights s (Some kind) = new_flights (fresh kind None) s refl

taken_flights : (h : ℕ) (name bytes : List ℕ) (s : State) (loan : Option ParameterLoan) → flights (option_map_or (λ loan. take_in h name bytes loan s) loan s) ≡ flights s
unfolding take_in
taken_flights h name bytes s None = refl
taken_flights h name bytes s (Some loan) =
    let first : State = changed_at h (end_parameter_loan loan.number) s in
    let second : State = changed_at h (set_staged (with_value name (value.Object ty.Array1D s.next))) first in
    new_flights (taken_array loan bytes) second refl
    ∙ changed_flights h (set_staged (with_value name (value.Object ty.Array1D s.next))) first (λ o. refl)
    ∙ changed_flights h (end_parameter_loan loan.number) s (λ o. refl)

pub effect_flights : (place : ℕ) (call : Call) (r : Reply) (s : State) → IsOfObjects call r → flights (effect place call r s) ≡ flights s
unfolding effect unmap_parameter
effect_flights place (NewObject t subtype) (reply.Made made) s objects = made_flights s (kind_of t subtype)
effect_flights place (NewArray elem count stride origin bytes) (reply.Made made) s objects = new_flights (fresh_array elem count stride origin bytes) s refl
effect_flights place (SetParameter h name v) reply.Done s objects = changed_flights h (set_staged (with_value name v)) s (λ o. refl)
effect_flights place (UnsetParameter h name) reply.Done s objects = changed_flights h (set_staged (without_value name)) s (λ o. refl)
effect_flights place (UnsetAll h) reply.Done s objects = changed_flights h (set_staged (λ _. [])) s (λ o. refl)
effect_flights place (Commit h) reply.Done s objects = changed_flights h commit s (λ o. refl)
effect_flights place (MapArray h) (reply.Lent number) s objects = changed_flights h (change_array (lent place)) s (λ o. refl)
effect_flights place (UnmapArray h number bytes) reply.Done s objects = changed_flights h (change_array (holding bytes)) s (λ o. refl)
effect_flights place (MapParameterArray h name elem count) (reply.Lent number) s objects =
    changed_flights h (lend_parameter (record { number = place; name = name; elem = elem; count = count })) s (λ o. refl)
effect_flights place (UnmapParameterArray h name number bytes) (reply.Made made) s objects =
    taken_flights h name bytes s (option_and_then (λ o. parameter_loan number o.parameter_loans) (object_at s h))
effect_flights place (RenderFrame h) reply.Done s objects = absurd objects
effect_flights place (DiscardFrame h) reply.Done s objects = absurd objects
effect_flights place (MapFrame h channel) (reply.Mapped width height t rows) s objects = absurd objects
effect_flights place (UnmapFrame h number) reply.Done s objects = absurd objects
effect_flights place _ _ s objects = refl
