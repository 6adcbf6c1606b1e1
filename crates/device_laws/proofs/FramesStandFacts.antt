-- What is kept of frames where nothing happened, without what died, and where flights were looked at.
use Rattle.std.proofs.Common.{ℕ, ◌==◌, ◌≡◌, ◌∙◌, not, Bool, true, false, List, [], ◌∷◌, ◌++◌, append-nil, Option, None, refl, sym, ap, subst}
use Rattle.std.specs.Prelude.{cond, ◌&&◌, ◌||◌}
use Rattle.std.specs.List.{AllByRecursion, filter}
use Rattle.std.proofs.lemmas.List.{map-append}
use Rattle.std.proofs.lemmas.List.Elements.{filter_agree}
use Rattle.frame_future.specs.Flights.{Flying, looked_at}
use Rattle.frame_future.specs.Future.{Finished, Future, is_picture_of, nothing, without_picture}
use Rattle.frame_future.specs.Reads.{AreRead, AreSeen, ended_by, is_end, left_by, pictures_of}
use Rattle.frame_future.specs.declared.phase.Ended.{Ended}
use Rattle.past_laws.specs.Open.{IsOpen}
use Rattle.seq_model.specs.Extensions.{let_follow, let_follow_from}
use Rattle.seq_model.specs.Histories.{History}
use Rattle.seq_model.specs.Life.{has}
use Rattle.device_laws.proofs.FlownFacts.{joined}
use Rattle.device_laws.proofs.RenderFacts.{FlightShows, PictureShows, left_show}
use Rattle.device_laws.proofs.StandingFacts.{first_stands}
use Rattle.device_laws.proofs.StandingSteps.{all_filtered, flip}
use Rattle.device_laws.specs.Flown.{run_of, runs_of}
use Rattle.device_laws.specs.FramesStand.{FramesStand, without_pictures}
use Rattle.device_laws.specs.Lent.{AreLent}
use Rattle.device_laws.specs.Renders.{Renders}
use Rattle.device_laws.specs.Standing.{Standing, pictures_left}

-- at first
first_open : IsOpen []
unfolding let_follow let_follow_from
first_open actor call r = refl

pub frames_first : FramesStand [] nothing
frames_first = record { open_ = first_open; stands = first_stands; shows = record { flights = tt; pictures = tt }; lent = tt }

-- without the pictures of what died
all_left : (pictures : List Finished) → pictures ≡ pictures_left (λ h. not (has h [])) pictures
all_left [] = refl
all_left (p ∷ pictures) = ap (λ ps. p ∷ ps) (all_left pictures)

twice : {X : Type 0} (p q : X → Bool) (xs : List X) → filter q (filter p xs) ≡ filter (λ x. p x && q x) xs
twice p q [] = refl
twice {X} p q (x ∷ xs) = by (p x) (twice p q xs)
  where
    by : (b : Bool) → filter q (filter p xs) ≡ filter (λ x. p x && q x) xs →
        filter q (cond b (x ∷ filter p xs) (filter p xs)) ≡ cond (b && q x) (x ∷ filter (λ x. p x && q x) xs) (filter (λ x. p x && q x) xs)
    by true rest = ap (λ ys. cond (q x) (x ∷ ys) ys) rest
    by false rest = rest

neither : (a b : Bool) → (not a && not b) ≡ not (a || b)
neither true b = refl
neither false b = refl

one_less : (d : ℕ) (dead : List ℕ) (pictures : List Finished) →
    pictures_left (λ h. not (has h dead)) (filter (λ p. not (is_picture_of d p)) pictures) ≡ pictures_left (λ h. not (has h (d ∷ dead))) pictures
one_less d dead pictures =
    twice (λ p. not (is_picture_of d p)) (λ p. not (has p.frame dead)) pictures
    ∙ filter_agree (λ p. not (is_picture_of d p) && not (has p.frame dead)) (λ p. not (has p.frame (d ∷ dead)))
    (λ p. neither (is_picture_of d p) (has p.frame dead) ∙ ap (λ b. not (b || has p.frame dead)) (sym (flip p.frame d (p.frame == d) refl))) pictures

pub without_are : (s : Future) (dead : List ℕ) → without_pictures s dead ≡ record { flights = s.flights; pictures = pictures_left (λ h. not (has h dead)) s.pictures }
without_are s [] = ap (λ ps. record { flights = s.flights; pictures = ps }) (all_left s.pictures)
without_are s (d ∷ dead) = without_are (without_picture s d) dead ∙ ap (λ ps. record { flights = s.flights; pictures = ps }) (one_less d dead s.pictures)

pub fewer_kept : (s : Future) (dead : List ℕ) →
    ((without_pictures s dead).flights ≡ s.flights) × ((without_pictures s dead).pictures ≡ pictures_left (λ h. not (has h dead)) s.pictures)
fewer_kept s dead = (ap (λ (s : Future). s.flights) (without_are s dead), ap (λ (s : Future). s.pictures) (without_are s dead))

-- what is left of frames that stand but for what died
pub stands_without : (history : History) (s : Future) (dead : List ℕ) → IsOpen history → Standing history (runs_of s.flights) (pictures_left (λ h. not (has h dead)) s.pictures) → Renders history s →
    AreLent history (pictures_left (λ h. not (has h dead)) s.pictures) → FramesStand history (without_pictures s dead)
stands_without history s dead open_ stands shows lent =
    subst (FramesStand history) (sym (without_are s dead)) (record {
      open_ = open_;
      stands = stands;
      shows = record {
        flights = shows.flights;
        pictures = all_filtered (PictureShows history) (PictureShows history) (λ p. not (has p.frame dead)) s.pictures (λ p is stays. is) shows.pictures;
      };
      lent = lent;
    })

-- parts of a list
pub both_parts : {X : Type 0} (P : X → Type 0) (xs ys : List X) → AllByRecursion P (xs ++ ys) → AllByRecursion P xs × AllByRecursion P ys
both_parts P [] ys all = (tt, all)
both_parts P (x ∷ xs) ys all = let rest : AllByRecursion P xs × AllByRecursion P ys = both_parts P xs ys all.1 in ((all.0, rest.0), rest.1)

-- flights that were looked at show what they showed, and so does what they leave
pub seen_shows : (history : History) (last : ℕ) (old new : Future) (result : Option Ended) → AreSeen last old new result → Renders history old → Renders history new
seen_shows history last old new result s renders =
    let parts : AllByRecursion (FlightShows history) s.passed × AllByRecursion (FlightShows history) (s.seen ++ s.behind) =
    both_parts (FlightShows history) s.passed (s.seen ++ s.behind) (subst (AllByRecursion (FlightShows history)) s.there renders.flights) in
    let later : AllByRecursion (FlightShows history) s.seen × AllByRecursion (FlightShows history) s.behind = both_parts (FlightShows history) s.seen s.behind parts.1 in
    let left : AllByRecursion (FlightShows history) (left_by s.seen s.reads) × AllByRecursion (PictureShows history) (pictures_of (ended_by s.seen s.reads)) = left_show history s.seen s.reads later.0 in
    record {
      flights =
          subst (AllByRecursion (FlightShows history)) (sym s.flights)
          (joined (FlightShows history) s.passed (left_by s.seen s.reads ++ s.behind) parts.0 (joined (FlightShows history) (left_by s.seen s.reads) s.behind left.0 later.1));
      pictures = subst (AllByRecursion (PictureShows history)) (sym s.pictures) (joined (PictureShows history) old.pictures (pictures_of (ended_by s.seen s.reads)) renders.pictures left.1);
    }

-- the runs of flights in three parts
pub three : (passed seen behind : List Flying) → runs_of (passed ++ (seen ++ behind)) ≡ runs_of passed ++ (runs_of seen ++ runs_of behind)
three passed seen behind = map-append run_of passed (seen ++ behind) ∙ ap (λ rs. runs_of passed ++ rs) (map-append run_of seen behind)

-- where no flight ended, the runs are the same
pub none_ended : (fs : List Flying) (reads : List ℕ) → AreRead fs reads → ended_by fs reads ≡ [] → runs_of (left_by fs reads) ≡ runs_of fs
none_ended [] [] read none = refl
none_ended [] (x ∷ reads) read none = absurd read
none_ended (f ∷ fs) [] read none = absurd read
none_ended (f ∷ fs) (x ∷ reads) read none = by (is_end f x) none (none_ended fs reads read.1)
  where
    by : (b : Bool) → cond b (looked_at x f ∷ ended_by fs reads) (ended_by fs reads) ≡ [] → (ended_by fs reads ≡ [] → runs_of (left_by fs reads) ≡ runs_of fs) →
        runs_of (cond b (left_by fs reads) (looked_at x f ∷ left_by fs reads)) ≡ run_of f ∷ runs_of fs
    by true none rest = absurd cc
    by false none rest = ap (λ rs. run_of f ∷ rs) (rest none)

pub looked_runs : (last : ℕ) (old new : Future) → AreSeen last old new None → runs_of old.flights ≡ runs_of new.flights
looked_runs last old new s =
    ap runs_of s.there ∙ three s.passed s.seen s.behind
    ∙ sym (ap runs_of s.flights ∙ three s.passed (left_by s.seen s.reads) s.behind
    ∙ ap (λ rs. runs_of s.passed ++ (rs ++ runs_of s.behind)) (none_ended s.seen s.reads s.read s.over.0))

pub looked_stands : (history : History) (last : ℕ) (old new : Future) → AreSeen last old new None → FramesStand history old → FramesStand history new
looked_stands history last old new s stand = record {
  open_ = stand.open_;
  stands = subst (λ rs. Standing history rs new.pictures) (looked_runs last old new s) (subst (Standing history (runs_of old.flights)) pictures stand.stands);
  shows = seen_shows history last old new None s stand.shows;
  lent = subst (AreLent history) pictures stand.lent;
}
  where
    pictures : old.pictures ≡ new.pictures
    pictures = sym (s.pictures ∙ ap (λ fs. old.pictures ++ pictures_of fs) s.over.0 ∙ append-nil old.pictures)
