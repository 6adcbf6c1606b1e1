-- What the client of a device with one caller is told.
use Rattle.std.proofs.Common.{◌≡◌, ◌∙◌, ◌++◌, ℕ, List, sym, ap}
use Rattle.dev_types.specs.declared.notices.Notice.{Notice}
use Rattle.seq_model.proofs.Afters.{seen_is_history}
use Rattle.seq_model.specs.Histories.{History}
use Rattle.seq_model.specs.Told.{told}
use Rattle.device_parts.specs.AllParts.{Inside}
use Rattle.device_parts.specs.Lends.{HasLentFlight, HasReturned}
use Rattle.world_snapshot.specs.declared.works.Work.{Work}
use Rattle.device_core.specs.States.{Device}
use Rattle.device_core.specs.Sweeping.{Sweeps}
use Rattle.solo_device.specs.Lone.{HeardOn, lone_of}

-- the client was told what the history tells
abbrev pub Tells : Device → Device → Type 0
Tells old new = (before : List Notice) → old.told ≡ before ++ told old.parts.history → new.told ≡ before ++ told new.parts.history

pub hears : (old new : Device) → Tells old new → HeardOn (lone_of old) (lone_of new)
hears old new tells before heard =
    tells before (heard ∙ ap (λ (h : History). before ++ told h) (seen_is_history old.parts.history))
    ∙ ap (λ (h : History). before ++ told h) (sym (seen_is_history new.parts.history))

-- while a flight is lent nothing is told
module _ (h : ℕ) (work done : Work) (old lent back_ new : Device) (has : HasLentFlight h old.parts lent.parts work) (returned : HasReturned lent.parts back_.parts done)
    (lent_rest : lent ≡ record old { parts = lent.parts }) (back_rest : back_ ≡ record lent { parts = back_.parts }) (sweeps : Sweeps back_ new) where
  history : back_.parts.history ≡ old.parts.history
  history = ap (λ (i : Inside). i.history) returned.rest ∙ ap (λ (i : Inside). i.history) has.rest

  heard : back_.told ≡ old.told
  heard = ap (λ (d : Device). d.told) back_rest ∙ ap (λ (d : Device). d.told) lent_rest

  pub tells : Tells old new
  tells before told_before =
      sweeps.told before (heard ∙ told_before ∙ ap (λ (l : History). before ++ told l) (sym history))

  pub same_ending : new.ending ≡ old.ending
  same_ending = sweeps.ending ∙ ap (λ (d : Device). d.ending) back_rest ∙ ap (λ (d : Device). d.ending) lent_rest

  pub same_limit : new.limit ≡ old.limit
  same_limit = sweeps.limit ∙ ap (λ (d : Device). d.limit) back_rest ∙ ap (λ (d : Device). d.limit) lent_rest
