-- Kept worlds against their last uses.
use Rattle.std.proofs.Common.{ℕ, ◌==◌, ◌≡◌, ◌∙◌, Bool, true, false, not, List, [], ◌∷◌, ◌++◌, Option, Some, None, refl, sym, ap}
use Rattle.std.specs.Prelude.{cond, ◌&&◌, ◌||◌}
use Rattle.std.specs.Option.{option_and_then, option_map, option_map_or}
use Rattle.std.proofs.lemmas.Bool.{eqb-true}
use Rattle.kind_tables.specs.Walks.{visited, walk}
use Rattle.past_laws.proofs.WorldFacts.{not_rendered, same_use, touch_is, touches_is, use_after, use_kept, use_made, world_now}
use Rattle.past_laws.specs.Worlds.{Touches, Use, last_use, render_of, touched_by, world_of}
use Rattle.seq_model.specs.Builds.{is_touching}
use Rattle.seq_model.specs.Histories.{History, rendered}
use Rattle.seq_model.specs.Life.{has}
use Rattle.seq_model.specs.State.{scene_objects}
use Rattle.seq_model.specs.Steps.{after}
use Rattle.seq_model.specs.declared.calls.Entry.{Entry}
use Rattle.kept_worlds.specs.KeptMaps.{Kept, unless_reached}
use Rattle.kept_worlds.specs.LastKept.{AreKept, all_but, kept_by}

-- a reach without those that have an object
abbrev reach_unless : ℕ → Option (List ℕ) → Option (List ℕ)
reach_unless h None = None
reach_unless h (Some reach) = cond (has h reach) None (Some reach)

reach_of_left : {P : Type 0} (h : ℕ) (x : Option (Kept P)) → option_map (λ k. k.reach) (unless_reached h x) ≡ reach_unless h (option_map (λ k. k.reach) x)
reach_of_left h None = refl
reach_of_left {P} h (Some k) = by (has h k.reach)
  where
    by : (b : Bool) → option_map (λ (k : Kept P). k.reach) (cond b None (Some k)) ≡ cond b None (Some k.reach)
    by true = refl
    by false = refl

kept_touched : (h : ℕ) (there : Bool) (last : Option Use) → kept_by there (option_map (touched_by h) last) ≡ reach_unless h (kept_by there last)
kept_touched h there None = refl
kept_touched h false (Some u) = refl
kept_touched h true (Some u) = by u.touched
  where
    by : (b : Bool) → cond (b || has h u.reach) None (Some u.reach) ≡ reach_unless h (cond b None (Some u.reach))
    by true = refl
    by false = refl

-- a world that the entry did not render
not_last : (history : History) (e : Entry) (w : ℕ) → rendered e ≡ None → last_use (history ++ e ∷ []) w ≡ option_map (use_after e) (last_use history w)
not_last history e w none = use_kept history e w (not_rendered history e w (ap (option_and_then (world_of (after history).state)) none))

pub touch_known : {P : Type 0} (history : History) (e : Entry) (h : ℕ) (there : ℕ → Bool) (old new : ℕ → Option (Kept P)) → Touches h e → ((w : ℕ) → new w ≡ unless_reached h (old w)) →
    AreKept there history (λ w. option_map (λ k. k.reach) (old w)) → AreKept there (history ++ e ∷ []) (λ w. option_map (λ k. k.reach) (new w))
touch_known history e h there old new touches now kept = λ w.
    let is : (rendered e ≡ None) × ((objects : List ℕ) → is_touching objects e ≡ has h objects) = touches_is h e touches in
    ap (option_map (λ k. k.reach)) (now w) ∙ reach_of_left h (old w) ∙ ap (reach_unless h) (kept w) ∙ sym (kept_touched h (there w) (last_use history w))
    ∙ ap (kept_by (there w)) (touch_is h e is.1 (last_use history w) ∙ sym (not_last history e w is.0))

pub stay_known : (history : History) (e : Entry) (there : ℕ → Bool) (reaches : ℕ → Option (List ℕ)) → option_and_then (world_of (after history).state) (rendered e) ≡ None →
    ((objects : List ℕ) → is_touching objects e ≡ false) → AreKept there history reaches → AreKept there (history ++ e ∷ []) reaches
stay_known history e there reaches none untouched kept = λ w.
    kept w ∙ ap (kept_by (there w)) (sym (use_kept history e w (not_rendered history e w none) ∙ same_use e untouched (last_use history w)))

pub nothing_gone : (last : Option Use) → kept_by false last ≡ None
nothing_gone None = refl
nothing_gone (Some u) = refl

pub forget_known : {P : Type 0} (history : History) (world : ℕ) (there : ℕ → Bool) (old new : ℕ → Option (Kept P)) → ((w : ℕ) → new w ≡ cond (world == w) None (old w)) →
    AreKept there history (λ w. option_map (λ k. k.reach) (old w)) → AreKept (all_but world there) history (λ w. option_map (λ k. k.reach) (new w))
forget_known {P} history world there old new now kept = λ w. ap (option_map (λ k. k.reach)) (now w) ∙ by w (world == w)
  where
    by : (w : ℕ) (b : Bool) → option_map (λ (k : Kept P). k.reach) (cond b None (old w)) ≡ kept_by (not b && there w) (last_use history w)
    by w true = sym (nothing_gone (last_use history w))
    by w false = kept w

pub keep_known : {P : Type 0} (history : History) (actor f world : ℕ) (there : ℕ → Bool) (made : Kept P) (old new : ℕ → Option (Kept P)) → there world ≡ true →
    world_of (after history).state f ≡ Some world → made.reach ≡ visited (walk (scene_objects (after history).state) world) → ((w : ℕ) → new w ≡ cond (world == w) (Some made) (old w)) →
    AreKept there history (λ w. option_map (λ k. k.reach) (old w)) → AreKept there (history ++ render_of actor f ∷ []) (λ w. option_map (λ k. k.reach) (new w))
keep_known {P} history actor f world there made old new here shown reached now kept = λ w. ap (option_map (λ k. k.reach)) (now w) ∙ by w (world == w) refl
  where
    by : (w : ℕ) (b : Bool) → (world == w) ≡ b → option_map (λ (k : Kept P). k.reach) (cond b (Some made) (old w)) ≡ kept_by (there w) (last_use (history ++ render_of actor f ∷ []) w)
    by w true is =
        ap Some reached
        ∙ sym (ap (λ t. kept_by t (Some (record { reach = visited (walk (scene_objects (after history).state) world); touched = false }))) here)
        ∙ sym (ap (kept_by (there world)) (use_made history (render_of actor f) world shown))
        ∙ ap (λ w. kept_by (there w) (last_use (history ++ render_of actor f ∷ []) w)) (eqb-true world w is)
    by w false is =
        kept w
        ∙ ap (kept_by (there w)) (sym (use_kept history (render_of actor f) w (ap (λ x. option_map_or (λ v. v == w) x false) (world_now history (render_of actor f) ∙ shown) ∙ is)
        ∙ same_use (render_of actor f) (λ objects. refl) (last_use history w)))
