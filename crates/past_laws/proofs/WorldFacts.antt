-- What one entry more makes of the builds of a history, and of the last use of each world.
use Rattle.std.proofs.Common.{ℕ, suc, ◌+◌, ◌-◌, ◌^◌, min, ◌==◌, ◌≡◌, ◌<◌, ◌≤◌, ◌∙◌, Bool, true, false, List, [], ◌∷◌, ◌++◌, Option, Some, None, map, refl, sym, ap, subst, length, length-append, arith}
use Rattle.std.specs.Prelude.{cond, count_by, nat_lt, ◌&&◌, ◌||◌, codes}
use Rattle.std.specs.BTreeMap.{is_at}
use Rattle.std.specs.Map.{lookup}
use Rattle.std.specs.Ordering.{nat_cmp}
use Rattle.std.proofs.lemmas.Map.Made.{lookup-map_values}
use Rattle.std.specs.List.{filter, last_or, list_any, range_with_len}
use Rattle.std.specs.Option.{option_and_then, option_map, option_map_or}
use Rattle.std.proofs.lemmas.Bool.{eqb-true, ltb-true}
use Rattle.std.proofs.lemmas.Bool.Decides.{nat_tests}
use Rattle.std.proofs.lemmas.List.{append-nil}
use Rattle.std.proofs.lemmas.List.Elements.{filter-append}
use Rattle.std.proofs.lemmas.List.Folds.{list_any-append}
use Rattle.std.proofs.lemmas.List.Sums.{count_by-le-length, sum_by-append}
use Rattle.std.proofs.lemmas.List.FromFn.{length-range_with_len}
use Rattle.kind_tables.specs.SceneObjects.{object_in, value_named}
use Rattle.kind_tables.specs.Walks.{visited, walk}
use Rattle.dev_types.specs.declared.refusals.Refused.{Refused}
use Rattle.seq_model.proofs.Afters.{entry_early, entry_last, frame_early, frame_last, state_early, state_next}
use Rattle.seq_model.specs.Builds.{builds, is_build_of, is_render_of, is_touched, is_touching, last_render, reach_of_world, world_at}
use Rattle.seq_model.specs.Histories.{History, entry_at, frame_at, rendered}
use Rattle.seq_model.specs.Life.{has}
use Rattle.seq_model.specs.Pictures.{state_before}
use Rattle.seq_model.specs.State.{State, object_at, scene_objects}
use Rattle.seq_model.specs.Steps.{after}
use Rattle.seq_model.specs.declared.calls.Call.{Call}
use Rattle.seq_model.specs.declared.calls.Call.TheVariants.{Commit, RenderFrame, UnmapArray}
use Rattle.seq_model.specs.declared.calls.Entry.{Entry}
use Rattle.seq_model.specs.declared.calls.Entry.TheVariants.{Called}
use Rattle.seq_model.specs.declared.calls.Reply.TheVariants as reply
use Rattle.past_laws.proofs.Places.{any_alike, any_none, count_alike, filter_alike, last_more, last_within, range_more}
use Rattle.past_laws.specs.Worlds.{KnowsWorlds, Touches, Use, Worlds, last_use, render_of, touched_by, use_at, use_of, wants_build, world_of}

-- the world of a render is that of its frame
of_frame : (s : State) (frame : Option ℕ) →
    option_and_then object_in (option_and_then (λ o. value_named (codes "world") o.committed) (option_and_then (object_at s) frame)) ≡ option_and_then (world_of s) frame
of_frame s None = refl
of_frame s (Some f) = refl

world_is : (history : History) (t : ℕ) → world_at history t ≡ option_and_then (world_of (state_before history t)) (frame_at history t)
world_is history t = of_frame (state_before history t) (frame_at history t)

-- what a longer history has at the places of the shorter one, and at its own last place
world_early : (history : History) (e : Entry) (t : ℕ) → t ≤ length history → world_at (history ++ e ∷ []) t ≡ world_at history t
world_early history e t less =
    world_is (history ++ e ∷ []) t ∙
    ap (λ s. option_and_then (world_of s) (frame_at (history ++ e ∷ []) t)) (state_early history (e ∷ []) t (omega (arith, less))) ∙
    ap (λ frame. option_and_then (world_of (state_before history t)) frame) (frame_early history (e ∷ []) t less) ∙
    sym (world_is history t)

state_now : (history : History) (e : Entry) → state_before (history ++ e ∷ []) (length history + 1) ≡ (after history).state
state_now history e = state_early history (e ∷ []) (length history + 1) (omega arith) ∙ state_next history

pub world_now : (history : History) (e : Entry) → world_at (history ++ e ∷ []) (length history + 1) ≡ option_and_then (world_of (after history).state) (rendered e)
world_now history e =
    world_is (history ++ e ∷ []) (length history + 1) ∙
    ap (λ s. option_and_then (world_of s) (frame_at (history ++ e ∷ []) (length history + 1))) (state_now history e) ∙
    ap (λ frame. option_and_then (world_of (after history).state) frame) (frame_last history e)

reach_early : (history : History) (e : Entry) (w p : ℕ) → p ≤ length history + 1 → reach_of_world (history ++ e ∷ []) p w ≡ reach_of_world history p w
reach_early history e w p less = ap (λ s. visited (walk (scene_objects s) w)) (state_early history (e ∷ []) p less)

reach_now : (history : History) (e : Entry) (w : ℕ) → reach_of_world (history ++ e ∷ []) (length history + 1) w ≡ visited (walk (scene_objects (after history).state) w)
reach_now history e w = ap (λ s. visited (walk (scene_objects s) w)) (state_now history e)

-- an entry after place p touches what a world reached at p
abbrev touches : History → ℕ → ℕ → ℕ → Bool
touches history w p q = nat_lt p q && option_map_or (is_touching (reach_of_world history p w)) (entry_at history q) false

touches_early : (history : History) (e : Entry) (w p q : ℕ) → q ≤ length history → touches (history ++ e ∷ []) w p q ≡ touches history w p q
touches_early history e w p q less = by (nat_lt p q) refl
  where
    by : (b : Bool) → nat_lt p q ≡ b → touches (history ++ e ∷ []) w p q ≡ touches history w p q
    by false is =
        ap (λ b. b && option_map_or (is_touching (reach_of_world (history ++ e ∷ []) p w)) (entry_at (history ++ e ∷ []) q) false) is ∙
        sym (ap (λ b. b && option_map_or (is_touching (reach_of_world history p w)) (entry_at history q) false) is)
    by true is =
        let before : p < q = ltb-true p q is in
        ap (λ reach. nat_lt p q && option_map_or (is_touching reach) (entry_at (history ++ e ∷ []) q) false) (reach_early history e w p (omega (arith, before, less))) ∙
        ap (λ entry. nat_lt p q && option_map_or (is_touching (reach_of_world history p w)) entry false) (entry_early history (e ∷ []) q less)

touched_early : (history : History) (e : Entry) (w p t : ℕ) → t ≤ length history + 1 → is_touched (history ++ e ∷ []) w p t ≡ is_touched history w p t
touched_early history e w p t less =
    any_alike (touches (history ++ e ∷ []) w p) (touches history w p) 1 (t - 1) (length history + 1) (omega (arith, less))
    (λ q within. touches_early history e w p q (omega (arith, within)))

rendered_early : (history : History) (e : Entry) (w t : ℕ) → t ≤ length history → is_render_of (history ++ e ∷ []) w t ≡ is_render_of history w t
rendered_early history e w t less = ap (λ world. option_map_or (λ v. v == w) world false) (world_early history e t less)

renders_early : (history : History) (e : Entry) (w n : ℕ) → n ≤ length history →
    filter (is_render_of (history ++ e ∷ []) w) (range_with_len 1 n) ≡ filter (is_render_of history w) (range_with_len 1 n)
renders_early history e w n less =
    filter_alike (is_render_of (history ++ e ∷ []) w) (is_render_of history w) 1 n (length history + 1) (omega (arith, less))
    (λ q within. rendered_early history e w q (omega (arith, within)))

last_early : (history : History) (e : Entry) (w t : ℕ) → t ≤ length history + 1 → last_render (history ++ e ∷ []) w t ≡ last_render history w t
last_early history e w t less = ap (last_or None) (renders_early history e w (t - 1) (omega (arith, less)))

-- a test of the latest render
alike_of : (f g : ℕ → Bool) → ((p : ℕ) → f p ≡ g p) → (last : Option ℕ) → option_map_or f last true ≡ option_map_or g last true
alike_of f g same None = refl
alike_of f g same (Some p) = same p

build_early : (history : History) (e : Entry) (t w : ℕ) → t ≤ length history + 1 → is_build_of (history ++ e ∷ []) t w ≡ is_build_of history t w
build_early history e t w less =
    ap (λ last. option_map_or (λ p. is_touched (history ++ e ∷ []) w p t) last true) (last_early history e w t less) ∙
    alike_of (λ p. is_touched (history ++ e ∷ []) w p t) (λ p. is_touched history w p t) (λ p. touched_early history e w p t less) (last_render history w t)

-- the places of a longer history
places : (history : History) (e : Entry) → range_with_len 1 (length (history ++ e ∷ [])) ≡ range_with_len 1 (length history) ++ (length history + 1) ∷ []
places history e =
    let longer : length (history ++ e ∷ []) ≡ suc (length history) = length-append history (e ∷ []) ∙ omega arith in
    let last : 1 + length history ≡ length history + 1 = omega arith in
    ap (range_with_len 1) longer ∙ range_more 1 (length history) ∙ ap (λ k. range_with_len 1 (length history) ++ k ∷ []) last

abbrev build_at : History → ℕ → Bool
build_at history t = option_map_or (is_build_of history t) (world_at history t) false

builds_of_use : (history : History) (w : ℕ) → is_build_of history (length history + 1) w ≡ wants_build (last_use history w)
builds_of_use history w = by (last_render history w (length history + 1))
  where
    by : (last : Option ℕ) → option_map_or (λ p. is_touched history w p (length history + 1)) last true ≡ wants_build (option_map (use_at history w) last)
    by None = refl
    by (Some p) = refl

builds_end : (history : History) (e : Entry) →
    build_at (history ++ e ∷ []) (length history + 1) ≡ option_map_or (λ w. wants_build (last_use history w)) (option_and_then (world_of (after history).state) (rendered e)) false
builds_end history e =
    ap (λ world. option_map_or (is_build_of (history ++ e ∷ []) (length history + 1)) world false) (world_now history e) ∙
    by (option_and_then (world_of (after history).state) (rendered e))
  where
    by : (world : Option ℕ) → option_map_or (is_build_of (history ++ e ∷ []) (length history + 1)) world false ≡ option_map_or (λ w. wants_build (last_use history w)) world false
    by None = refl
    by (Some w) = build_early history e (length history + 1) w (omega arith) ∙ builds_of_use history w

build_at_early : (history : History) (e : Entry) (t : ℕ) → t ≤ length history → build_at (history ++ e ∷ []) t ≡ build_at history t
build_at_early history e t less =
    ap (λ world. option_map_or (is_build_of (history ++ e ∷ []) t) world false) (world_early history e t less) ∙ by (world_at history t)
  where
    by : (world : Option ℕ) → option_map_or (is_build_of (history ++ e ∷ []) t) world false ≡ option_map_or (is_build_of history t) world false
    by None = refl
    by (Some w) = build_early history e t w (omega (arith, less))

-- a count with one number more
count_more : (f : ℕ → Bool) (xs : List ℕ) (k : ℕ) → count_by f (xs ++ k ∷ []) ≡ count_by f xs + cond (f k) 1 0
count_more f xs k =
    sum_by-append (λ q. cond (f q) 1 0) xs (k ∷ []) ∙
    let last : 0 + cond (f k) 1 0 ≡ cond (f k) 1 0 = omega arith in ap (λ one. count_by f xs + one) last

-- the builds of a history with one entry more
pub builds_more : (history : History) (e : Entry) →
    builds (history ++ e ∷ []) ≡ builds history + cond (option_map_or (λ w. wants_build (last_use history w)) (option_and_then (world_of (after history).state) (rendered e)) false) 1 0
unfolding builds
builds_more history e =
    ap (count_by (build_at (history ++ e ∷ []))) (places history e) ∙
    count_more (build_at (history ++ e ∷ [])) (range_with_len 1 (length history)) (length history + 1) ∙
    ap (λ k. k + cond (build_at (history ++ e ∷ []) (length history + 1)) 1 0)
    (count_alike (build_at (history ++ e ∷ [])) (build_at history) 1 (length history) (length history + 1) (omega arith)
    (λ q within. build_at_early history e q (omega (arith, within)))) ∙
    ap (λ b. builds history + cond b 1 0) (builds_end history e)

pub builds_within : (history : History) → builds history ≤ length history
unfolding builds
builds_within history = subst (λ n. builds history ≤ n) (length-range_with_len 1 (length history)) (count_by-le-length (build_at history) (range_with_len 1 (length history)))

-- the latest render with one entry more
latest : (history : History) (e : Entry) (w : ℕ) →
    last_render (history ++ e ∷ []) w (length (history ++ e ∷ []) + 1) ≡
    cond (is_render_of (history ++ e ∷ []) w (length history + 1)) (Some (length history + 1)) (last_render history w (length history + 1))
latest history e w =
    let all : length (history ++ e ∷ []) + 1 - 1 ≡ length (history ++ e ∷ []) = omega arith in
    ap (λ n. last_or None (filter (is_render_of (history ++ e ∷ []) w) (range_with_len 1 n))) all ∙
    ap (λ xs. last_or None (filter (is_render_of (history ++ e ∷ []) w) xs)) (places history e) ∙
    ap (last_or None) (filter-append (is_render_of (history ++ e ∷ []) w) (range_with_len 1 (length history)) ((length history + 1) ∷ [])) ∙
    by (is_render_of (history ++ e ∷ []) w (length history + 1))
  where
    by : (b : Bool) → last_or None (filter (is_render_of (history ++ e ∷ []) w) (range_with_len 1 (length history)) ++ cond b ((length history + 1) ∷ []) []) ≡
        cond b (Some (length history + 1)) (last_render history w (length history + 1))
    by true = last_more None (filter (is_render_of (history ++ e ∷ []) w) (range_with_len 1 (length history))) (length history + 1)
    by false =
        let all : length history ≡ length history + 1 - 1 = omega arith in
        ap (last_or None) (append-nil (filter (is_render_of (history ++ e ∷ []) w) (range_with_len 1 (length history)))) ∙
        ap (last_or None) (renders_early history e w (length history) (omega arith)) ∙
        ap (λ n. last_or None (filter (is_render_of history w) (range_with_len 1 n))) all

-- whether a world was touched, with one entry more
all_touches : (history : History) (e : Entry) (w p : ℕ) →
    is_touched (history ++ e ∷ []) w p (length (history ++ e ∷ []) + 1) ≡
    (list_any (touches (history ++ e ∷ []) w p) (range_with_len 1 (length history)) || (touches (history ++ e ∷ []) w p (length history + 1) || false))
all_touches history e w p =
    let all : length (history ++ e ∷ []) + 1 - 1 ≡ length (history ++ e ∷ []) = omega arith in
    ap (λ n. list_any (touches (history ++ e ∷ []) w p) (range_with_len 1 n)) all ∙
    ap (list_any (touches (history ++ e ∷ []) w p)) (places history e) ∙
    list_any-append (touches (history ++ e ∷ []) w p) (range_with_len 1 (length history)) ((length history + 1) ∷ [])

or_false : (b : Bool) → (b || false) ≡ b
or_false true = refl
or_false false = refl

touches_now : (history : History) (e : Entry) (w p : ℕ) → p ≤ length history → (touches (history ++ e ∷ []) w p (length history + 1) || false) ≡ is_touching (reach_of_world history p w) e
touches_now history e w p less =
    or_false (touches (history ++ e ∷ []) w p (length history + 1)) ∙
    ap (λ b. b && option_map_or (is_touching (reach_of_world (history ++ e ∷ []) p w)) (entry_at (history ++ e ∷ []) (length history + 1)) false) earlier ∙
    ap (λ entry. option_map_or (is_touching (reach_of_world (history ++ e ∷ []) p w)) entry false) (entry_last history e) ∙
    ap (λ reach. is_touching reach e) (reach_early history e w p (omega (arith, less)))
  where
    earlier : nat_lt p (length history + 1) ≡ true
    earlier = grind (arith, nat_tests, less)

touched_more : (history : History) (e : Entry) (w p : ℕ) → p ≤ length history →
    is_touched (history ++ e ∷ []) w p (length (history ++ e ∷ []) + 1) ≡ (is_touched history w p (length history + 1) || is_touching (reach_of_world history p w) e)
touched_more history e w p less =
    let all : length history ≡ length history + 1 - 1 = omega arith in
    all_touches history e w p ∙
    ap (λ b. b || (touches (history ++ e ∷ []) w p (length history + 1) || false))
    (any_alike (touches (history ++ e ∷ []) w p) (touches history w p) 1 (length history) (length history + 1) (omega arith)
    (λ q within. touches_early history e w p q (omega (arith, within))) ∙ ap (λ n. list_any (touches history w p) (range_with_len 1 n)) all) ∙
    ap (λ b. is_touched history w p (length history + 1) || b) (touches_now history e w p less)

untouched : (history : History) (w p t : ℕ) → t ≤ p + 1 → is_touched history w p t ≡ false
untouched history w p t less = any_none (touches history w p) 1 (t - 1) (p + 1) (omega (arith, less)) (λ q within. none q within)
  where
    none : (q : ℕ) → q < p + 1 → touches history w p q ≡ false
    none q within =
        let late : nat_lt p q ≡ false = grind (arith, nat_tests, within) in
        ap (λ b. b && option_map_or (is_touching (reach_of_world history p w)) (entry_at history q) false) late

-- what an entry makes of the last use of a world
abbrev pub use_after : Entry → Use → Use
use_after e u = record { reach = u.reach; touched = u.touched || is_touching u.reach e }

use_early : (history : History) (e : Entry) (w p : ℕ) → p ≤ length history → use_at (history ++ e ∷ []) w p ≡ use_after e (use_at history w p)
use_early history e w p less =
    ap (λ reach. record { reach = reach; touched = is_touched (history ++ e ∷ []) w p (length (history ++ e ∷ []) + 1) }) (reach_early history e w p (omega (arith, less))) ∙
    ap (λ touched. record { reach = reach_of_world history p w; touched = touched }) (touched_more history e w p less)

-- the last use of a world that the entry did not render
pub use_kept : (history : History) (e : Entry) (w : ℕ) → is_render_of (history ++ e ∷ []) w (length history + 1) ≡ false →
    last_use (history ++ e ∷ []) w ≡ option_map (use_after e) (last_use history w)
use_kept history e w other =
    ap (option_map (use_at (history ++ e ∷ []) w)) (latest history e w ∙ ap (λ b. cond b (Some (length history + 1)) (last_render history w (length history + 1))) other) ∙
    by (last_render history w (length history + 1)) refl
  where
    by : (last : Option ℕ) → last_render history w (length history + 1) ≡ last →
        option_map (use_at (history ++ e ∷ []) w) last ≡ option_map (use_after e) (option_map (use_at history w) last)
    by None is = refl
    by (Some p) is =
        let before : p < length history + 1 = last_within (is_render_of history w) 1 (length history + 1 - 1) (length history + 1) p (omega arith) is in
        ap Some (use_early history e w p (omega (arith, before)))

-- and of the one that it rendered
pub use_made : (history : History) (e : Entry) (w : ℕ) → option_and_then (world_of (after history).state) (rendered e) ≡ Some w →
    last_use (history ++ e ∷ []) w ≡ Some (record { reach = visited (walk (scene_objects (after history).state) w); touched = false })
use_made history e w made =
    ap (option_map (use_at (history ++ e ∷ []) w)) (latest history e w ∙ ap (λ b. cond b (Some (length history + 1)) (last_render history w (length history + 1))) here) ∙
    ap (λ reach. Some (record { reach = reach; touched = is_touched (history ++ e ∷ []) w (length history + 1) (length (history ++ e ∷ []) + 1) })) (reach_now history e w) ∙
    ap (λ touched. Some (record { reach = visited (walk (scene_objects (after history).state) w); touched = touched }))
    (untouched (history ++ e ∷ []) w (length history + 1) (length (history ++ e ∷ []) + 1) (omega (arith, length-append history (e ∷ []))))
  where
    here : is_render_of (history ++ e ∷ []) w (length history + 1) ≡ true
    here = ap (λ world. option_map_or (λ v. v == w) world false) (world_now history e ∙ made) ∙ (let same : (w == w) ≡ true = grind (arith, nat_tests) in same)

-- what is known stays known where an entry renders no world and touches nothing
pub same_use : (e : Entry) → ((objects : List ℕ) → is_touching objects e ≡ false) → (last : Option Use) → option_map (use_after e) last ≡ last
same_use e none None = refl
same_use e none (Some u) = ap (λ touched. Some (record { reach = u.reach; touched = touched })) (ap (λ b. u.touched || b) (none u.reach) ∙ or_false u.touched)

pub not_rendered : (history : History) (e : Entry) (w : ℕ) → option_and_then (world_of (after history).state) (rendered e) ≡ None → is_render_of (history ++ e ∷ []) w (length history + 1) ≡ false
not_rendered history e w none = ap (λ world. option_map_or (λ v. v == w) world false) (world_now history e ∙ none)

no_build : (history : History) (e : Entry) → option_and_then (world_of (after history).state) (rendered e) ≡ None → builds (history ++ e ∷ []) ≡ builds history
no_build history e none =
    builds_more history e ∙
    ap (λ world. builds history + cond (option_map_or (λ w. wants_build (last_use history w)) world false) 1 0) none ∙
    let same : builds history + 0 ≡ builds history = omega arith in same

pub knows_still : (history : History) (e : Entry) (worlds : Worlds) → option_and_then (world_of (after history).state) (rendered e) ≡ None →
    ((objects : List ℕ) → is_touching objects e ≡ false) → KnowsWorlds history worlds → KnowsWorlds (history ++ e ∷ []) worlds
knows_still history e worlds none untouched knows = record {
  counted = knows.counted ∙ sym (no_build history e none);
  known = λ w. knows.known w ∙ sym (use_kept history e w (not_rendered history e w none) ∙ same_use e untouched (last_use history w));
}

-- a call that was refused is one
refused_is_still : (actor : ℕ) (call : Call) (refused : Refused) → (rendered (Called actor call (reply.Denied refused)) ≡ None) × ((objects : List ℕ) → is_touching objects (Called actor call (reply.Denied refused)) ≡ false)
refused_is_still actor (RenderFrame h) refused = (refl, λ objects. refl)
refused_is_still actor (Commit h) refused = (refl, λ objects. refl)
refused_is_still actor (UnmapArray h number bytes) refused = (refl, λ objects. refl)
refused_is_still actor _ refused = (refl, λ objects. refl)

pub knows_refused : (history : History) (actor : ℕ) (call : Call) (refused : Refused) (worlds : Worlds) → KnowsWorlds history worlds → KnowsWorlds (history ++ Called actor call (reply.Denied refused) ∷ []) worlds
knows_refused history actor call refused worlds knows =
    knows_still history (Called actor call (reply.Denied refused)) worlds
    (ap (option_and_then (world_of (after history).state)) (refused_is_still actor call refused).0) (refused_is_still actor call refused).1 knows

-- an entry that touches h renders nothing, and touches each list that has h
has_only : (h k : ℕ) → has h (k ∷ []) ≡ true → h ≡ k
has_only h k is = grind (arith, nat_tests)

pub touches_is : (h : ℕ) (e : Entry) → Touches h e → (rendered e ≡ None) × ((objects : List ℕ) → is_touching objects e ≡ has h objects)
touches_is h (Called _ (Commit k) reply.Done) is = (refl, λ objects. ap (λ j. has j objects) (has_only k h is))
touches_is h (Called _ (UnmapArray k _ _) reply.Done) is = (refl, λ objects. ap (λ j. has j objects) (has_only k h is))
touches_is h e is = absurd cc

pub touch_is : (h : ℕ) (e : Entry) → ((objects : List ℕ) → is_touching objects e ≡ has h objects) → (last : Option Use) → option_map (touched_by h) last ≡ option_map (use_after e) last
touch_is h e is None = refl
touch_is h e is (Some u) = ap (λ b. Some (record { reach = u.reach; touched = u.touched || b })) (sym (is u.reach))

pub knows_touched : (history : History) (e : Entry) (h : ℕ) (old new : Worlds) → Touches h e → new.builds ≡ old.builds →
    new.uses ≡ map (λ entry. (entry.0, touched_by h entry.1)) old.uses → KnowsWorlds history old → KnowsWorlds (history ++ e ∷ []) new
knows_touched history e h old new touches builds uses knows =
    let is : (rendered e ≡ None) × ((objects : List ℕ) → is_touching objects e ≡ has h objects) = touches_is h e touches in
    let none : option_and_then (world_of (after history).state) (rendered e) ≡ None = ap (option_and_then (world_of (after history).state)) is.0 in
    record {
      counted = builds ∙ knows.counted ∙ sym (no_build history e none);
      known = λ w.
          ap (lookup (is_at (nat_cmp w))) uses ∙
          lookup-map_values (touched_by h) (is_at (nat_cmp w)) old.uses ∙
          ap (option_map (touched_by h)) (knows.known w) ∙
          touch_is h e is.1 (last_use history w) ∙
          sym (use_kept history e w (not_rendered history e w none));
    }

pub knows_nothing : (worlds : Worlds) → worlds.uses ≡ [] → worlds.builds ≡ 0 → KnowsWorlds [] worlds
unfolding builds
knows_nothing worlds uses builds = record { counted = builds; known = λ w. ap (lookup (is_at (nat_cmp w))) uses }

-- a render of world w
pub knows_rendered : (history : History) (actor f w : ℕ) (reach : List ℕ) (old new : Worlds) → length history < 2 ^ 64 - 1 → world_of (after history).state f ≡ Some w →
    reach ≡ visited (walk (scene_objects (after history).state) w) →
    new.builds ≡ cond (wants_build (use_of old w)) (min (old.builds + 1) (2 ^ 64 - 1)) old.builds →
    ((q : ℕ) → use_of new q ≡ cond (w == q) (Some (record { reach = reach; touched = false })) (use_of old q)) →
    KnowsWorlds history old → KnowsWorlds (history ++ render_of actor f ∷ []) new
knows_rendered history actor f w reach old new short world reached now uses knows = record {
  counted = now ∙ count (wants_build (use_of old w)) ∙ ap (λ last. builds history + cond (wants_build last) 1 0) (knows.known w) ∙ sym more;
  known = λ q. uses q ∙ by q (w == q) refl;
}
  where
    more : builds (history ++ render_of actor f ∷ []) ≡ builds history + cond (wants_build (last_use history w)) 1 0
    more =
        builds_more history (render_of actor f) ∙
        ap (λ world. builds history + cond (option_map_or (λ w. wants_build (last_use history w)) world false) 1 0) world

    count : (b : Bool) → cond b (min (old.builds + 1) (2 ^ 64 - 1)) old.builds ≡ builds history + cond b 1 0
    count true = omega (arith, knows.counted, builds_within history, short)
    count false = omega (arith, knows.counted)

    by : (q : ℕ) (b : Bool) → (w == q) ≡ b → cond b (Some (record { reach = reach; touched = false })) (use_of old q) ≡ last_use (history ++ render_of actor f ∷ []) q
    by q true is =
        ap (λ reach. Some (record { reach = reach; touched = false })) reached ∙
        sym (use_made history (render_of actor f) w world) ∙
        ap (last_use (history ++ render_of actor f ∷ [])) (eqb-true w q is)
    by q false is =
        knows.known q ∙
        sym (use_kept history (render_of actor f) q (ap (λ world. option_map_or (λ v. v == q) world false) (world_now history (render_of actor f) ∙ world) ∙ is) ∙
        same_use (render_of actor f) (λ objects. refl) (last_use history q))
