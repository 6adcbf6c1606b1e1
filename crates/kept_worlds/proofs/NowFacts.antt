-- What is kept of a world shows what the world shows now.
use Rattle.std.proofs.Common.{ℕ, ◌+◌, ◌==◌, ◌≡◌, ◌∙◌, Bool, true, false, List, [], ◌∷◌, ◌++◌, Option, Some, None, length, refl, sym, ap, subst}
use Rattle.std.specs.Prelude.{cond, MatchOption, ◌||◌}
use Rattle.std.specs.Option.{is_some, option_and_then, option_map, option_map_or}
use Rattle.std.proofs.lemmas.Bool.{eqb-true}
use Rattle.std.proofs.lemmas.List.Elements.{All-cons, All-nil}
use Rattle.kind_tables.specs.Walks.{visited, walk}
use Rattle.past_laws.proofs.WorldFacts.{same_use, use_after, use_kept, use_made, world_now}
use Rattle.past_laws.specs.Worlds.{Use, last_use, render_of, use_at, world_of}
use Rattle.seq_model.proofs.Prefixes.{prefix_is_legal}
use Rattle.seq_model.specs.Builds.{is_render_of, is_touching, last_render}
use Rattle.seq_model.specs.Histories.{History, rendered}
use Rattle.seq_model.specs.Legal.{Legal}
use Rattle.seq_model.specs.Life.{has}
use Rattle.seq_model.specs.State.{scene_objects}
use Rattle.seq_model.specs.Steps.{after}
use Rattle.seq_model.specs.declared.calls.Entry.{Entry}
use Rattle.world_laws.proofs.LastRenders.{reaches_as_last, render_touches_nothing, shows_last_render, world_of_render}
use Rattle.world_laws.proofs.Reaches.{reached_is_there, world_stays}
use Rattle.world_laws.specs.Alike.{Shown, ShowsAsBefore, shown_of}
use Rattle.kept_worlds.proofs.BirthFacts.{was_there}
use Rattle.kept_worlds.specs.KeptMaps.{Kept}
use Rattle.kept_worlds.specs.LastKept.{AreKept, AreShown, ShowsLastRender, is_there, kept_by}

-- a world that is kept is there, and was not touched since its last use
record IsKeptBy (there : Bool) (last : Option Use) (reach : List ℕ) : Type 0 where
  of : Use
  is_last : last ≡ Some of
  untouched : of.touched ≡ false
  reached : reach ≡ of.reach
  here : there ≡ true

kept_is : (there : Bool) (last : Option Use) (reach : List ℕ) → kept_by there last ≡ Some reach → IsKeptBy there last reach
kept_is there None reach is = absurd cc
kept_is false (Some u) reach is = absurd cc
kept_is true (Some u) reach is = by u.touched refl is
  where
    by : (b : Bool) → u.touched ≡ b → cond b None (Some u.reach) ≡ Some reach → IsKeptBy true (Some u) reach
    by true touched is = absurd cc
    by false touched is = record { of = u; is_last = refl; untouched = touched; reached = (let same : u.reach ≡ reach = cc in sym same); here = refl }

some_is : {X : Type 0} (x : Option X) → is_some x ≡ true → (v : X) × (x ≡ Some v)
some_is None is = absurd cc
some_is (Some v) is = (v, refl)

-- over one entry
over_one : (history : History) (e : Entry) (w : ℕ) → Legal (history ++ e ∷ []) → is_touching (visited (walk (scene_objects (after history).state) w)) e ≡ false →
    is_there history w ≡ true → is_there (history ++ e ∷ []) w ≡ true → ShowsAsBefore (scene_objects (after history).state) (scene_objects (after (history ++ e ∷ [])).state) w
over_one history e w legal apart was now =
    world_stays history (e ∷ []) w legal
    (All-cons (λ e. is_touching (visited (walk (scene_objects (after history).state) w)) e ≡ false) e [] apart
    (All-nil (λ e. is_touching (visited (walk (scene_objects (after history).state) w)) e ≡ false))) was now

both_false : (a b : Bool) → (a || b) ≡ false → (a ≡ false) × (b ≡ false)
both_false true b is = absurd cc
both_false false b is = (refl, is)

-- a world that is untouched after an entry shows what it showed before it
shows_over : (history : History) (e : Entry) (w : ℕ) (u : Use) → Legal (history ++ e ∷ []) → last_use (history ++ e ∷ []) w ≡ Some u → u.touched ≡ false →
    is_there (history ++ e ∷ []) w ≡ true → ShowsAsBefore (scene_objects (after history).state) (scene_objects (after (history ++ e ∷ [])).state) w
shows_over history e w u legal last untouched now = by (is_render_of (history ++ e ∷ []) w (length history + 1)) refl
  where
    first : Legal history
    first = prefix_is_legal history (e ∷ []) legal

    was : is_there history w ≡ true
    was = was_there history e w u first last now

    frame_of : (x : Option ℕ) → rendered e ≡ x → option_and_then (world_of (after history).state) x ≡ Some w → (f : ℕ) × (rendered e ≡ Some f)
    frame_of None none is = absurd cc
    frame_of (Some f) some is = (f, some)

    before : (x : Option Use) → last_use history w ≡ x → option_map (use_after e) x ≡ Some u → is_touching (visited (walk (scene_objects (after history).state) w)) e ≡ false
    before None none is = absurd cc
    before (Some v) some is =
        let same : use_after e v ≡ u = cc in
        let none : (v.touched ≡ false) × (is_touching v.reach e ≡ false) = both_false v.touched (is_touching v.reach e) (ap (λ (u : Use). u.touched) same ∙ untouched) in
        ap (λ reach. is_touching reach e) (reaches_as_last history w v first some none.0 was) ∙ none.1

    by : (b : Bool) → is_render_of (history ++ e ∷ []) w (length history + 1) ≡ b → ShowsAsBefore (scene_objects (after history).state) (scene_objects (after (history ++ e ∷ [])).state) w
    by true is =
        let world : option_and_then (world_of (after history).state) (rendered e) ≡ Some w = sym (world_now history e) ∙ world_of_render (history ++ e ∷ []) w (length history + 1) is in
        let frame : (f : ℕ) × (rendered e ≡ Some f) = frame_of (rendered e) refl world in
        over_one history e w legal (render_touches_nothing (visited (walk (scene_objects (after history).state) w)) e frame.0 frame.1) was now
    by false is = over_one history e w legal (before (last_use history w) refl (sym (use_kept history e w is) ∙ last)) was now

pub shown_over : (history : History) (e : Entry) (reaches : ℕ → Option (List ℕ)) (shown : ℕ → Option Shown) → Legal (history ++ e ∷ []) →
    AreKept (is_there (history ++ e ∷ [])) (history ++ e ∷ []) reaches → ((w : ℕ) → is_some (shown w) ≡ true → is_some (reaches w) ≡ true) → AreShown history shown → AreShown (history ++ e ∷ []) shown
shown_over history e reaches shown legal kept both shows = λ w. by w (shown w) (both w) (shows w)
  where
    by : (w : ℕ) (x : Option Shown) → (is_some x ≡ true → is_some (reaches w) ≡ true) → MatchOption x (Unit {0}) (λ v. v ≡ shown_of (scene_objects (after history).state) w) →
        MatchOption x (Unit {0}) (λ v. v ≡ shown_of (scene_objects (after (history ++ e ∷ [])).state) w)
    by w None both shows = tt
    by w (Some v) both shows =
        let reach : (reach : List ℕ) × (reaches w ≡ Some reach) = some_is (reaches w) (both refl) in
        let is : IsKeptBy (is_there (history ++ e ∷ []) w) (last_use (history ++ e ∷ []) w) reach.0 =
        kept_is (is_there (history ++ e ∷ []) w) (last_use (history ++ e ∷ []) w) reach.0 (sym (kept w) ∙ reach.1) in
        shows ∙ sym (shows_over history e w is.of legal is.is_last is.untouched is.here).shown

-- a kept world lives, and shows what it did at its last render
pub kept_lives : (history : History) (reaches : ℕ → Option (List ℕ)) (w : ℕ) → AreKept (is_there history) history reaches → is_some (reaches w) ≡ true → is_there history w ≡ true
kept_lives history reaches w kept is =
    let reach : (reach : List ℕ) × (reaches w ≡ Some reach) = some_is (reaches w) is in
    (kept_is (is_there history w) (last_use history w) reach.0 (sym (kept w) ∙ reach.1)).here

pub kept_shows_last : (history : History) (reaches : ℕ → Option (List ℕ)) (w : ℕ) (reach : List ℕ) → Legal history → AreKept (is_there history) history reaches → reaches w ≡ Some reach →
    ShowsLastRender history w reach
kept_shows_last history reaches w reach legal kept found =
    by (kept_is (is_there history w) (last_use history w) reach (sym (kept w) ∙ found)) (last_render history w (length history + 1)) refl
  where
    by : IsKeptBy (is_there history w) (last_use history w) reach → (x : Option ℕ) → last_render history w (length history + 1) ≡ x → ShowsLastRender history w reach
    by is None none = let wrong : None ≡ Some is.of = sym (ap (option_map (use_at history w)) none) ∙ is.is_last in absurd cc
    by is (Some p) some =
        let both : Some (use_at history w p) ≡ Some is.of = sym (ap (option_map (use_at history w)) some) ∙ is.is_last in
        let same : use_at history w p ≡ is.of = cc in
        record {
          place = p;
          last = some;
          reached = is.reached ∙ sym (ap (λ (u : Use). u.reach) same);
          stays = shows_last_render history w p legal some (ap (λ (u : Use). u.touched) same ∙ is.untouched) is.here;
        }

-- what it reached is there
pub kept_reach_lives : (history : History) (reaches : ℕ → Option (List ℕ)) (w : ℕ) (reach : List ℕ) (h : ℕ) → Legal history → AreKept (is_there history) history reaches → reaches w ≡ Some reach →
    has h reach ≡ true → is_there history h ≡ true
kept_reach_lives history reaches w reach h legal kept found is =
    let one : IsKeptBy (is_there history w) (last_use history w) reach = kept_is (is_there history w) (last_use history w) reach (sym (kept w) ∙ found) in
    let now : visited (walk (scene_objects (after history).state) w) ≡ reach = reaches_as_last history w one.of legal one.is_last one.untouched one.here ∙ sym one.reached in
    ap is_some (reached_is_there (after history).state w h (ap (has h) now ∙ is)).1

-- a render of a kept world
pub again_known : (history : History) (actor f world : ℕ) (reaches : ℕ → Option (List ℕ)) → Legal history → world_of (after history).state f ≡ Some world → is_some (reaches world) ≡ true →
    AreKept (is_there history) history reaches → AreKept (is_there history) (history ++ render_of actor f ∷ []) reaches
again_known history actor f world reaches legal shown is kept = λ w. by w (world == w) refl
  where
    reach : (reach : List ℕ) × (reaches world ≡ Some reach)
    reach = some_is (reaches world) is

    here : IsKeptBy (is_there history world) (last_use history world) reach.0
    here = kept_is (is_there history world) (last_use history world) reach.0 (sym (kept world) ∙ reach.1)

    by : (w : ℕ) (b : Bool) → (world == w) ≡ b → reaches w ≡ kept_by (is_there history w) (last_use (history ++ render_of actor f ∷ []) w)
    by w true same =
        subst (λ w. reaches w ≡ kept_by (is_there history w) (last_use (history ++ render_of actor f ∷ []) w)) (eqb-true world w same)
        (reach.1 ∙ ap Some (here.reached ∙ sym (reaches_as_last history world here.of legal here.is_last here.untouched here.here))
        ∙ sym (ap (λ t. kept_by t (Some (record { reach = visited (walk (scene_objects (after history).state) world); touched = false }))) here.here)
        ∙ sym (ap (kept_by (is_there history world)) (use_made history (render_of actor f) world shown)))
    by w false other =
        kept w
        ∙ ap (kept_by (is_there history w)) (sym (use_kept history (render_of actor f) w (ap (λ x. option_map_or (λ v. v == w) x false) (world_now history (render_of actor f) ∙ shown) ∙ other)
        ∙ same_use (render_of actor f) (λ objects. refl) (last_use history w)))

-- what is shown, where worlds are dropped and one is kept
pub shown_left : {P : Type 0} (history : History) (shows : P → Shown) (old new : ℕ → Option (Kept P)) → ((w : ℕ) (k : Kept P) → new w ≡ Some k → old w ≡ Some k) →
    AreShown history (λ w. option_map (λ k. shows k.value) (old w)) → AreShown history (λ w. option_map (λ k. shows k.value) (new w))
shown_left {P} history shows old new left shown = λ w. by w (new w) refl
  where
    by : (w : ℕ) (x : Option (Kept P)) → new w ≡ x → MatchOption (option_map (λ k. shows k.value) x) (Unit {0}) (λ v. v ≡ shown_of (scene_objects (after history).state) w)
    by w None none = tt
    by w (Some k) some = subst (λ x. MatchOption (option_map (λ k. shows k.value) x) (Unit {0}) (λ v. v ≡ shown_of (scene_objects (after history).state) w)) (left w k some) (shown w)

pub not_dropped : {P : Type 0} (b : Bool) (x : Option (Kept P)) (k : Kept P) → cond b None x ≡ Some k → x ≡ Some k
not_dropped true x k is = absurd cc
not_dropped false x k is = is

pub shown_more : {P : Type 0} (history : History) (shows : P → Shown) (world : ℕ) (made : Kept P) (old new : ℕ → Option (Kept P)) → ((w : ℕ) → new w ≡ cond (world == w) (Some made) (old w)) →
    shows made.value ≡ shown_of (scene_objects (after history).state) world →
    AreShown history (λ w. option_map (λ k. shows k.value) (old w)) → AreShown history (λ w. option_map (λ k. shows k.value) (new w))
shown_more {P} history shows world made old new now made_shows shown = λ w.
    subst (λ x. MatchOption (option_map (λ k. shows k.value) x) (Unit {0}) (λ v. v ≡ shown_of (scene_objects (after history).state) w)) (sym (now w)) (by w (world == w) refl (shown w))
  where
    by : (w : ℕ) (b : Bool) → (world == w) ≡ b → MatchOption (option_map (λ k. shows k.value) (old w)) (Unit {0}) (λ v. v ≡ shown_of (scene_objects (after history).state) w) →
        MatchOption (option_map (λ k. shows k.value) (cond b (Some made) (old w))) (Unit {0}) (λ v. v ≡ shown_of (scene_objects (after history).state) w)
    by w true is shown = made_shows ∙ ap (shown_of (scene_objects (after history).state)) (eqb-true world w is)
    by w false is shown = shown

-- what is kept of one world
pub shown_one : {P : Type 0} (history : History) (shows : P → Shown) (world : ℕ) (value : P) (x : Option (Kept P)) → Some value ≡ option_map (λ (k : Kept P). k.value) x →
    MatchOption (option_map (λ (k : Kept P). shows k.value) x) (Unit {0}) (λ v. v ≡ shown_of (scene_objects (after history).state) world) → shows value ≡ shown_of (scene_objects (after history).state) world
shown_one history shows world value None is shown = absurd cc
shown_one history shows world value (Some k) is shown = let same : value ≡ k.value = cc in ap shows same ∙ shown
