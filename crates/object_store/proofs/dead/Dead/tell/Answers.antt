use Rattle.std.proofs.Common.{◌≡◌, ◌+◌, ◌++◌, ◌∙◌, length, refl, sym, ap, arith}
use Rattle.std.specs.List.{filter_map}
use Rattle.std.specs.Option.{option_to_list}
use Rattle.std.proofs.lemmas.List.{append-nil}
use Rattle.object_store.specs.Ends.{notice_of}
use Rattle.object_store.proofs.DeadSteps.{longer, told_one}
use Rattle.object_store.proofs.Dying.{all_told}
use Rattle.object_store.proofs.dead.Dead.tell.Goals as goal

pub loop-ended-init : goal.loop-ended-init
loop-ended-init g c = record { told = refl; spare = refl; fits = c.requires; room = refl }

pub loop-ended-preserved : goal.loop-ended-preserved
loop-ended-preserved g c =
    let one : length (filter_map notice_of c.loop-ended.self.list) ≡ length (option_to_list (notice_of c.in-Some.ended)) + length (filter_map notice_of c.next.new.self.list) =
    ap (λ xs. length (filter_map notice_of xs)) c.in-Some.ensures.list ∙ longer (notice_of c.in-Some.ended) (filter_map notice_of c.next.new.self.list) in
    record {
      told =
          told_one (g.C.Client.notices c.loop-ended.client) (g.C.Client.notices c.tell_end.new.client) (notice_of c.in-Some.ended) (filter_map notice_of c.next.new.self.list) c.tell_end.ensures.told
          ∙ ap (λ xs. g.C.Client.notices c.loop-ended.client ++ filter_map notice_of xs) (sym c.in-Some.ensures.list) ∙ c.loop-ended.invariant.told;
      spare = omega (arith, one, c.loop-ended.invariant.spare, c.tell_end.ensures.room);
      fits = omega (arith, one, c.loop-ended.invariant.fits, c.tell_end.ensures.room);
      room = c.in-Some.ensures.room ∙ c.loop-ended.invariant.room;
    }

pub loop-ended-smaller : goal.loop-ended-smaller
loop-ended-smaller g c = omega (arith, ap length c.in-Some.ensures.list)

pub tell_end-requires : goal.tell_end-requires
tell_end-requires g c =
    let one : length (filter_map notice_of c.loop-ended.self.list) ≡ length (option_to_list (notice_of c.in-Some.ended)) + length (filter_map notice_of c.next.new.self.list) =
    ap (λ xs. length (filter_map notice_of xs)) c.in-Some.ensures.list ∙ longer (notice_of c.in-Some.ended) (filter_map notice_of c.next.new.self.list) in
    omega (arith, one, c.loop-ended.invariant.fits)

pub returns-clause-list : goal.returns-clause-list
returns-clause-list g c =
    all_told c.next.new.self c.args.self.now (sym c.in_default.ensures.list ∙ c.in_default.ensures.none) (c.in_default.ensures.room ∙ c.loop-ended.invariant.room)

pub returns-clause-told : goal.returns-clause-told
returns-clause-told g c =
    sym (append-nil (g.C.Client.notices c.loop-ended.client)) ∙ ap (λ xs. g.C.Client.notices c.loop-ended.client ++ filter_map notice_of xs) (sym c.in_default.ensures.none)
    ∙ c.loop-ended.invariant.told

pub returns-clause-room : goal.returns-clause-room
returns-clause-room g c = omega (arith, c.loop-ended.invariant.spare)
