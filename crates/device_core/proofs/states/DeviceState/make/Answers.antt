use Rattle.std.proofs.Common.{◌≡◌, ◌∙◌, ◌+◌, ◌-◌, ◌<◌, ◌≤◌, ◌++◌, ◌∷◌, [], List, length, arith, ap, refl, subst, sym}
use Rattle.std.specs.List.{filter_map}
use Rattle.dev_types.specs.declared.notices.Notice.{Notice}
use Rattle.object_store.specs.Ends.{notice_of}
use Rattle.object_steps.specs.Objects.{one_if, takes_memory, tellable}
use Rattle.object_steps.specs.Carrying.{handed}
use Rattle.room_laws.proofs.LoanFacts.{moves}
use Rattle.room_laws.specs.Loans.{lends, takes_back}
use Rattle.seq_model.specs.Contents.{entered}
use Rattle.seq_model.specs.Legal.{Legal}
use Rattle.seq_model.specs.Room.{loans_out, need}
use Rattle.seq_model.specs.Steps.{after}
use Rattle.seq_model.specs.Told.{status_at, told}
use Rattle.seq_model.specs.declared.calls.Entry.{Entry}
use Rattle.seq_model.specs.declared.calls.Entry.TheVariants.{Called}
use Rattle.device_parts.specs.AllParts.{Inside}
use Rattle.device_parts.specs.Deaths.{all_told, untold}
use Rattle.device_parts.specs.Makes.{array_of, begun_by}
use Rattle.device_parts.specs.Standing.{IsStanding}
use Rattle.device_core.specs.States.{Device}
use Rattle.device_core.specs.Stepping.{HasMade}
use Rattle.device_core.proofs.MadeFacts.{counted_after, covers, loans_are, notices_less, one_less, one_longer, one_notice, places_less, spare_after, tells_on, within_after}
use Rattle.device_core.proofs.states.DeviceState.make.Goals as goal

-- telling leaves all but who is still to be told
stands_told : (i : Inside) → IsStanding i → IsStanding (all_told i)
stands_told i s = record { frames = s.frames; told = s.told }

pub invariant_of-self-in-Ok-make : goal.invariant_of-self-in-Ok-make
invariant_of-self-in-Ok-make g c =
    let old = c.self.inside.parts in
    let mid = c.make.new.self in
    let r = c.in-Ok-make.made.0 in
    let k = entered (after old.history) c.args.call in
    let e : Entry = Called c.args.actor k r in
    let has = c.in-Ok-make.ensures.entered in
    let is = c.self.invariant.0 in
    let tells : tellable c.tell.new.self.objects.stored.state ≡ tellable mid.objects.stored.state = ap (λ (i : Inside). tellable i.objects.stored.state) c.tell.ensures.none in
    let entries : length c.tell.new.self.history ≡ length mid.history = ap (λ (i : Inside). length i.history) c.tell.ensures.none in
    let flights : length c.tell.new.self.flights.future.flights ≡ length mid.flights.future.flights = ap (λ (i : Inside). length i.flights.future.flights) c.tell.ensures.none in
    let one = one_longer old.history e mid.history has.grown in
    let once = one_notice c.args.actor k r in
    let limit : 0 < c.self.inside.limit = (let some = is.within in omega (arith, some)) in
    let legal : Legal (old.history ++ e ∷ []) = subst Legal has.grown c.are_parts-in-Ok-make.ensures.rest.legal in
    let moved = moves old.history e legal (λ closed. absurd cc) in (
      record {
        all_told = ap (λ (i : Inside). i.objects.dead) c.tell.ensures.none;
        spare = subst (λ n. n ≤ g.C.Client.spare c.tell.new.client) (sym tells)
            (spare_after (tellable old.objects.stored.state) (tellable mid.objects.stored.state) (untold mid.objects) (length (status_at e)) (one_if (takes_memory k r))
            (g.C.Client.spare c.reserve_notices.new.client) (g.C.Client.spare c.tell_last.new.client) (g.C.Client.spare c.tell.new.client)
            once c.in-Ok.ensures.room (c.tell_last.ensures.used old.history e has.grown) c.tell.ensures.room has.fewer);
        counted = subst (λ n. n ≤ length c.tell.new.self.history) (sym tells)
            (counted_after (tellable old.objects.stored.state) (tellable mid.objects.stored.state) (untold mid.objects) (length (status_at e)) (one_if (takes_memory k r))
            (length old.history) (length c.tell.new.self.history) is.counted once has.fewer (entries ∙ one));
        within = within_after c.self.inside.limit (length old.history) (length old.flights.future.flights) (loans_out (after old.history).state)
            (need (after old.history).state c.args.call) (begun_by c.args.call r) (length c.tell.new.self.history) (length c.tell.new.self.flights.future.flights)
            limit (c.if-is_full.ensures.owed refl) (covers (after old.history).state c.args.call r) (entries ∙ one) (flights ∙ c.in-Ok-make.ensures.flights);
        limit = is.limit;
        stands = λ going. subst IsStanding (sym c.tell.ensures.none) (stands_told mid c.in-Ok-make.ensures.stands);
      },
      loans_are c.self.inside.loans (loans_out (after old.history).state) (loans_out (after c.tell.new.self.history).state) (lends e) (takes_back e) c.loans_after-self-inside.result
          (c.loans_after-self-inside.ensures old.history e has.grown) c.self.invariant.1
          (ap (λ (i : Inside). loans_out (after i.history).state + takes_back e) c.tell.ensures.none ∙ ap (λ h. loans_out (after h).state + takes_back e) has.grown ∙ moved),
    )

pub returns-in-Ok-make-clause-made : goal.returns-in-Ok-make-clause-made
returns-in-Ok-make-clause-made g c =
    let old = c.self.inside.parts in
    let mid = c.make.new.self in
    let r = c.in-Ok-make.made.0 in
    let k = entered (after old.history) c.args.call in
    let e : Entry = Called c.args.actor k r in
    let has = c.in-Ok-make.ensures.entered in
    let ends : List Notice = filter_map notice_of mid.objects.dead in
    let d : Device = record { parts = old; told = g.C.Client.notices c.self.inside.client; spare = g.C.Client.spare c.self.inside.client; limit = c.self.inside.limit; ending = c.self.inside.ending } in
    let now : Device = record { parts = c.tell.new.self; told = g.C.Client.notices c.tell.new.client; spare = g.C.Client.spare c.tell.new.client; limit = c.self.inside.limit; ending = c.self.inside.ending } in
    let tells : tellable c.tell.new.self.objects.stored.state ≡ tellable mid.objects.stored.state = ap (λ (i : Inside). tellable i.objects.stored.state) c.tell.ensures.none in
    let entries : length c.tell.new.self.history ≡ length old.history + 1 =
    ap (λ (i : Inside). length i.history) c.tell.ensures.none ∙ one_longer old.history e mid.history has.grown in
    let flights : length c.tell.new.self.flights.future.flights ≡ length old.flights.future.flights + begun_by c.args.call r =
    ap (λ (i : Inside). length i.flights.future.flights) c.tell.ensures.none ∙ c.in-Ok-make.ensures.flights in
    let room : old.room + begun_by c.args.call r ≤ c.tell.new.self.room =
    subst (λ (i : Inside). old.room + begun_by c.args.call r ≤ i.room) (sym c.tell.ensures.none) c.in-Ok-make.ensures.room in
    let once = one_notice c.args.actor k r in
    let notices = subst (λ n. g.C.Client.spare c.self.inside.client - tellable old.objects.stored.state ≤ g.C.Client.spare c.tell.new.client - n + 1) (sym tells)
    (notices_less (g.C.Client.spare c.self.inside.client) (tellable old.objects.stored.state) (tellable mid.objects.stored.state) (untold mid.objects) (length (status_at e))
    (one_if (takes_memory k r)) (g.C.Client.spare c.reserve_notices.new.client) (g.C.Client.spare c.tell_last.new.client) (g.C.Client.spare c.tell.new.client)
    c.in-Ok.ensures.no_less once (c.tell_last.ensures.used old.history e has.grown) c.tell.ensures.room has.fewer) in
    let places = places_less old.room (length old.history) (length old.flights.future.flights) (begun_by c.args.call r) (length c.tell.new.self.history)
    (length c.tell.new.self.flights.future.flights) c.tell.new.self.room entries flights room in
    subst (λ (before : Device). HasMade c.args.actor c.args.call c.args.with r c.in-Ok-make.made.1 before now) c.self.view_is
    (record {
      place = sym c.if-is_full.ensures.full;
      made = mid;
      enters = has;
      answered = c.in-Ok-make.ensures.answered;
      moved = c.in-Ok-make.ensures.moved;
      array = subst (λ s. array_of c.in-Ok-make.made.1 ≡ handed (length old.history + 1) k r s (array_of c.args.with)) c.are_parts.ensures.rest.state c.in-Ok-make.ensures.array;
      frame = c.in-Ok-make.ensures.frame;
      lends = c.in-Ok-make.ensures.lends;
      parts = c.tell.ensures.none;
      told = λ before is.
          tells_on old.history e (g.C.Client.notices c.self.inside.client) (g.C.Client.notices c.tell_last.new.client) (g.C.Client.notices c.tell.new.client) ends
          (c.tell_last.ensures.told old.history e has.grown ∙ ap (λ l. l ++ status_at e) c.in-Ok.ensures.list) c.tell.ensures.told has.told before is
          ∙ ap (λ h. before ++ told h) (sym (ap (λ (i : Inside). i.history) c.tell.ensures.none ∙ has.grown));
      spare = one_less (old.room - (length old.history + length old.flights.future.flights + 1)) (g.C.Client.spare c.self.inside.client - tellable old.objects.stored.state)
          (c.tell.new.self.room - (length c.tell.new.self.history + length c.tell.new.self.flights.future.flights + 1))
          (g.C.Client.spare c.tell.new.client - tellable c.tell.new.self.objects.stored.state) places notices;
      limit = refl;
      ending = refl;
    })
