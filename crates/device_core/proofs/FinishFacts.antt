-- How a device ends.
use Rattle.std.proofs.Common.{◌≡◌, ◌<◌, ℕ, Bool, true, false, List, [], ◌∷◌, Option, Some, sym, ap, subst, arith}
use Rattle.std.specs.Prelude.{if◌then◌else◌}
use Rattle.std.specs.List.{AllByRecursion, slice_get}
use Rattle.std.specs.Option.{MatchOption, is_some, option_map, unwrap_or}
use Rattle.flight_books.specs.Kept.{AreBooks}
use Rattle.flight_books.specs.Stops.{StopsAll}
use Rattle.flight_books.proofs.EndLaws.{alone_end}
use Rattle.frame_future.specs.Flights.{Flying, awaited, looked_at}
use Rattle.frame_future.specs.Reads.{is_end, left_by}
use Rattle.tile_claims.specs.Views.{IsAlone}
use Rattle.device_parts.specs.AllParts.{Inside}
use Rattle.device_parts.specs.Sweeps.{HasSwept, showing}

-- what is told of the first flight is that of which the last look read too little
pub first_is : (fs : List Flying) (given claimed : ℕ) → AllByRecursion (λ f. f.looked < awaited f) fs
    → ◌≡◌ {A = Option (ℕ × ℕ)} (Some (given, claimed)) (option_map (λ (f : Flying). (f.looked, awaited f)) (slice_get fs 0))
    → MatchOption (slice_get fs 0) ⊥ (λ f. (f.looked ≡ given) × (awaited f ≡ claimed)) × (given < claimed)
first_is [] given claimed short is = let wrong : true ≡ false = ap is_some is in absurd cc
first_is (f ∷ fs) given claimed short is =
    let looked : f.looked ≡ given = sym (ap (λ (o : Option (ℕ × ℕ)). (unwrap_or o (0, 0)).0) is) in
    let waits : awaited f ≡ claimed = sym (ap (λ (o : Option (ℕ × ℕ)). (unwrap_or o (0, 0)).1) is) in
    let less = short.0 in
    ((looked, waits), omega (arith, less, looked, waits))

-- of the flights that a sweep leaves no seat was handed out, where none was before
left_alone : (fs : List Flying) (reads : List ℕ) → AllByRecursion (λ f. IsAlone f.view) fs → AllByRecursion (λ f. IsAlone f.view) (left_by fs reads)
left_alone [] [] alone = tt
left_alone [] (read ∷ reads) alone = tt
left_alone (f ∷ fs) [] alone = tt
left_alone (f ∷ fs) (read ∷ reads) alone = by (is_end f read) (left_alone fs reads alone.1)
  where
    by : (b : Bool) → AllByRecursion (λ f. IsAlone f.view) (left_by fs reads) → AllByRecursion (λ f. IsAlone f.view) (if b then left_by fs reads else looked_at read f ∷ left_by fs reads)
    by true rest = rest
    by false rest = (alone.0, rest)

-- so none is left at the end where no seat was handed out
pub none_left : (old swept stopped new : Inside) → HasSwept old swept → StopsAll swept.flights stopped.flights → AreBooks stopped.flights → HasSwept stopped new
    → AllByRecursion (λ f. IsAlone f.view) old.flights.future.flights → new.flights.future.flights ≡ []
none_left old swept stopped new first stops books second alone =
    alone_end swept.flights stopped.flights (showing second.pictures new.flights) stopped.history new.history
    (subst (AllByRecursion (λ f. IsAlone f.view)) (sym first.flights.flights) (left_alone old.flights.future.flights first.flights.reads alone)) stops books second.flights

pub no_look : (fs : List Flying) (given claimed : ℕ) → ◌≡◌ {A = Option (ℕ × ℕ)} (Some (given, claimed)) (option_map (λ (f : Flying). (f.looked, awaited f)) (slice_get fs 0)) → fs ≡ [] → ⊥
no_look [] given claimed is none = let wrong : true ≡ false = ap is_some is in absurd cc
no_look (f ∷ fs) given claimed is none = absurd cc
