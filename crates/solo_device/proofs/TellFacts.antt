-- A reply that tells of a flight on which nobody has worked tells of no tile.
use Rattle.std.proofs.Common.{◌≡◌, ◌∙◌, ℕ, Bool, true, false, cond, List, [], ◌∷◌, Option, Some, None, refl, sym, ap}
use Rattle.std.specs.List.{find}
use Rattle.std.specs.Option.{option_map, option_map_or, unwrap_or}
use Rattle.answered_calls.proofs.SeenTiles.{answer_tells}
use Rattle.answered_calls.specs.Tells.{HasTilesInFlight, TellsNone, with_given}
use Rattle.dev_types.specs.declared.refusals.Refused.TheVariants.{InFlight}
use Rattle.frame_future.specs.Flights.{Flying}
use Rattle.seq_model.specs.Answers.{answer}
use Rattle.seq_model.specs.Endings.{reply_to}
use Rattle.seq_model.specs.Steps.{Past}
use Rattle.seq_model.specs.Told.{source_of}
use Rattle.seq_model.specs.declared.calls.Call.{Call}
use Rattle.seq_model.specs.declared.calls.Reply.{Reply}
use Rattle.seq_model.specs.declared.calls.Reply.TheVariants as reply
use Rattle.solo_device.specs.Untouched.{AreUntouched}

pub tells_as_it_is : (P : ℕ → Type 0) (r : Reply) → TellsNone P r → with_given 0 r ≡ r
tells_as_it_is P (reply.NotReady given of) none = ap (λ n. reply.NotReady n of) (sym none.0)
tells_as_it_is P (reply.Denied (InFlight given of)) none = ap (λ n. reply.Denied (InFlight n of)) (sym none.0)
tells_as_it_is P r none = refl

-- the last look at a flight read none
pub none_seen : (fs : List Flying) (p : Flying → Bool) → AreUntouched fs → option_map_or (λ (f : Flying). f.looked) (find p fs) 0 ≡ 0
none_seen [] p all = refl
none_seen (f ∷ fs) p all = by (p f) (none_seen fs p all.1)
  where
    by : (b : Bool) → option_map_or (λ (f : Flying). f.looked) (find p fs) 0 ≡ 0 → option_map_or (λ (f : Flying). f.looked) (cond b (Some f) (find p fs)) 0 ≡ 0
    by true rest = all.0.none_read
    by false rest = rest

-- so the reply is that of the definitions
pub replies : (past : Past) (call : Call) (given : ℕ) (tells : Bool) (r : Reply) → given ≡ 0
    → option_map (λ a. cond tells (with_given given a) a) (answer past call) ≡ Some r → (answer past call ≡ Some r) × (r ≡ reply_to past call)
replies past call given tells r none is = by (answer past call) refl is
  where
    as_it_is : (a : Reply) → answer past call ≡ Some a → cond tells (with_given given a) a ≡ a
    as_it_is a answered = by tells
      where
        by : (tells : Bool) → cond tells (with_given given a) a ≡ a
        by true = ap (λ n. with_given n a) none ∙ tells_as_it_is (HasTilesInFlight past (source_of call)) a (answer_tells past call a answered)
        by false = refl

    by : (x : Option Reply) → answer past call ≡ x → option_map (λ a. cond tells (with_given given a) a) x ≡ Some r
        → (x ≡ Some r) × (r ≡ unwrap_or x reply.Done)
    by None answered is = absurd cc
    by (Some a) answered is =
        let same : cond tells (with_given given a) a ≡ r = cc in
        let value : a ≡ r = sym (as_it_is a answered) ∙ same in
        (ap Some value, sym value)
